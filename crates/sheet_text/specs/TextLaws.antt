-- The text is its parts, stored one behind the other. Assumes nothing.
use Rattle.std.specs.Prelude.{ℕ, ◌+◌, ◌*◌, ◌≡◌, refl, List, ◌++◌, map, length}
use Rattle.std.proofs.Common.{ap, ◌∙◌, length-append}
use Rattle.std.proofs.lemmas.List.Edits.{sets}
use Rattle.lists.specs.StoreLaws.{sets-append}
use Rattle.names.specs.Name.{compose}
use Rattle.automaton.specs.Automaton.{Automaton}
use Rattle.format.specs.Format.{Withdrawal, head_line, state_width, transition_width, name_lines, withdrawal_lines, state_lines, transition_lines, end_line}
use Rattle.format.specs.Written.{states_of, most_transitions, transitions_of, sheet_of, written_sheet, written}
use Rattle.format.proofs.FormatLaws.{head-length, lines-parted}
use Rattle.sheet_sections.specs.LengthLaws.{states_of-length, states-length, transitions-length}
use Rattle.sheet_text.specs.Text.{text_of}

pub text-written : (A : Automaton) (names : List (List ℕ)) (ws : List Withdrawal) → text_of A (map compose names) ws ≡ written A names ws
unfolding text_of written written_sheet
text-written A names ws = refl

-- the lines of its states and of its transitions
abbrev pub states_text : Automaton → List ℕ
states_text A = state_lines A.edition 0 (states_of A.initial A.recurring 0 A.n)

abbrev pub transitions_text : Automaton → List ℕ
transitions_text A = transition_lines A.edition (transitions_of A.table A.marks 0 most_transitions)

pub states-text : (A : Automaton) → length (states_text A) ≡ state_width A.edition * A.n
states-text A =
    states-length A.edition 0 (states_of A.initial A.recurring 0 A.n)
    ∙ ap (state_width A.edition *◌) (states_of-length A.initial A.recurring A.n 0)

pub transitions-text : (A : Automaton) → length (transitions_text A) ≡ transition_width A.edition * length (transitions_of A.table A.marks 0 most_transitions)
transitions-text A = transitions-length A.edition (transitions_of A.table A.marks 0 most_transitions)

module _ (A : Automaton) (names : List (List ℕ)) (ws : List Withdrawal) where
  text-parts : text_of A names ws ≡ head_line A.edition A.n A.k ++ (name_lines 0 names ++ (withdrawal_lines ws ++ (states_text A ++ (transitions_text A ++ end_line))))
  unfolding text_of sheet_of
  text-parts = lines-parted (sheet_of A names ws) end_line

  -- 12 bytes for the first line, 4 for END
  pub text-length :
      length (text_of A names ws)
      ≡ 12 + (length (name_lines 0 names) + (length (withdrawal_lines ws) + (length (states_text A) + (length (transitions_text A) + 4))))
  text-length = rw text-parts (simp (length-append, head-length))

  -- the parts of a text, stored one behind the other
  pub text-stored : (out : List ℕ) {o₁ o₂ o₃ o₄ o₅ o₆ : List ℕ} {a b c d : ℕ} →
      o₁ ≡ sets out 0 (head_line A.edition A.n A.k) →
      o₂ ≡ sets o₁ 12 (name_lines 0 names) → a ≡ 12 + length (name_lines 0 names) →
      o₃ ≡ sets o₂ a (withdrawal_lines ws) → b ≡ a + length (withdrawal_lines ws) →
      o₄ ≡ sets o₃ b (states_text A) → c ≡ b + length (states_text A) →
      o₅ ≡ sets o₄ c (transitions_text A) → d ≡ c + length (transitions_text A) →
      o₆ ≡ sets o₅ d end_line → o₆ ≡ sets out 0 (text_of A names ws)
  text-stored out e₁ e₂ f e₃ g e₄ h e₅ k e₆ =
      rw (text-parts, e₆, e₅, k, e₄, h, e₃, g, e₂, f, e₁, sets-append (head_line A.edition A.n A.k), sets-append (name_lines 0 names), sets-append (withdrawal_lines ws), sets-append (states_text A), sets-append (transitions_text A), head-length)
