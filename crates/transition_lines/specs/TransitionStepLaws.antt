-- One step of the definition of the transition lines, which the loop goes along. Assumes nothing.
use Rattle.std.specs.Prelude.{Ok, Err, ℕ, zero, suc, ◌+◌, ◌^◌, ◌<◌, ◌≡◌, refl, List, [], get_or, take, drop, Option, Result}
use Rattle.gate.specs.declared.Refusal.{Refusal}
use Rattle.std.proofs.Common.{subst, drop-set-lt, get_or-take, eq-eqb, ne_eqb}
use Rattle.std.proofs.Math.Seq.{take-set-lt}
use Rattle.automaton.specs.Automaton.{TransitionSets}
use Rattle.automaton.specs.declared.Edition.{Edition}
use Rattle.lent.specs.Lent.{cleared_sets}
use Rattle.sets.specs.Sets.{union_of}
use Rattle.format.specs.Format.{transition_index, transition_width}
use Rattle.format.specs.Numbers.{inserted_where}
use Rattle.transition_lines.specs.TransitionLines.{with_transition, transition_line_at, if_in_force, with_marked, end_sets, transitions_at, filled_front, FillsTable}
use Rattle.frame.specs.Phase.{refused, passed, and_then, end_at}
use Rattle.frame.specs.Answers.{end_answer}
use Rattle.frame.specs.EndLaws.{end-outcome}

-- THE TRANSITION LINES: g of them may still come
module _ (ed : Edition) (s cells : List ℕ) (n k line at least : ℕ) (sets : TransitionSets) (f g : ℕ) (h : g ≡ suc f) where
  pub transitions-turn :
      {w : Option (ℕ × ℕ × ℕ × ℕ)} → get_or s at 0 ≡ 84 → transition_line_at ed s at n k least ≡ w →
      transitions_at ed s cells n k line at least sets g ≡
      with_transition w (λ t. if_in_force cells line t (transitions_at ed s cells n k (line + 1) (at + transition_width ed) (transition_index t + 1) (with_marked sets t) f)) (refused 8 line)
  unfolding transitions_at
  transitions-turn t e = rw h (simp (eq-eqb _ _ t, e))

  pub transitions-done : (get_or s at 0 ≡ 84 → ⊥) → transitions_at ed s cells n k line at least sets g ≡ end_sets s line at sets
  unfolding transitions_at
  transitions-done t = rw h (simp (ne_eqb _ _ t))

-- A STATE INSERTED IN A TABLE where a bit is 1: only the first 128 cells change
pub where-drop : (b : ℕ) (table : List ℕ) (c r : ℕ) → c < 128 → drop 128 (inserted_where b table c r) ≡ drop 128 table
where-drop zero table c r h = refl
where-drop (suc b) table c r h = drop-set-lt 128 table c _ h

pub where-take : (b : ℕ) (table : List ℕ) (c r : ℕ) → c < 128 → take 128 (inserted_where b table c r) ≡ inserted_where b (take 128 table) c r
where-take zero table c r h = refl
where-take (suc b) table c r h = rw (take-set-lt 128 table c (union_of (get_or table c 0) (2 ^ r)) h, get_or-take 128 table c 0 h) refl

-- the end, and the tables left: all zero, or with the sets that were read
abbrev pub TablesLeft : TransitionSets → TransitionSets → TransitionSets → Result Unit Refusal → Type 0
TablesLeft sets before after (Err r) = after ≡ cleared_sets before
TablesLeft sets before after (Ok tt) = after ≡ filled_front sets before

pub end-fills :
    (s : List ℕ) (line at : ℕ) (sets before after : TransitionSets) (r : Result Unit Refusal) →
    r ≡ end_answer (end_at 9 s line at []) → TablesLeft sets before after r → FillsTable (end_sets s line at sets) before after r
end-fills s line at sets before after r e left =
    end-outcome s at 9 line [] (λ p. r ≡ end_answer p → FillsTable (and_then p (λ _. passed sets)) before after r)
    (λ _ e. (e, subst (TablesLeft sets before after) e left)) (λ _ _ _ e. (e, subst (TablesLeft sets before after) e left))
    (λ _ e. (e, subst (TablesLeft sets before after) e left)) e
