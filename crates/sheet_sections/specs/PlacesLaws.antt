-- The transitions from a place on: with a transition there, without one, and at the end. Assumes nothing.
use Rattle.std.specs.Prelude.{ℕ, zero, suc, ◌+◌, ◌-◌, ◌*◌, ◌/◌, ◌%◌, ◌≤◌, ◌<◌, ◌≡◌, List, [], ◌∷◌, length, get_or}
use Rattle.std.proofs.Common.{sym, ap, ◌∙◌, arith, sub-eq-zero_of_le}
use Rattle.std.proofs.Math.Numerals.{add-one}
use Rattle.std.proofs.lemmas.List.Edits.{sets}
use Rattle.lists.specs.LeftLaws.{left-more}
use Rattle.lists.specs.StoreLaws.{sets-append}
use Rattle.sets.specs.Sets.{bit}
use Rattle.sets.specs.SetLaws.{bit-zero}
use Rattle.automaton.specs.declared.Edition.{Edition}
use Rattle.format.specs.Format.{Transition, transition_line, transition_width, transition_lines}
use Rattle.format.specs.Numbers.{where_member}
use Rattle.format.specs.Written.{most_transitions, bit_at, placed, transitions_of}
use Rattle.format.proofs.FormatLaws.{transition-length, transition-behind}
use Rattle.sheet_sections.specs.Places.{transitions_from, At, Stop, NextPlace}

module _ (T marks : List ℕ) where
  place-step : (i : ℕ) → i < most_transitions → transitions_from T marks i ≡ where_member (bit_at T i) (placed marks i) (transitions_from T marks (i + 1))
  unfolding transitions_of
  place-step i h = rw (left-more h, add-one i)

  place_here : (i : ℕ) → i < most_transitions → At T i → transitions_from T marks i ≡ placed marks i ∷ transitions_from T marks (i + 1)
  place_here i h m = place-step i h ∙ rw m

  pub place-empty : (i : ℕ) → i < most_transitions → bit_at T i ≡ 0 → transitions_from T marks i ≡ transitions_from T marks (i + 1)
  place-empty i h z = place-step i h ∙ rw z

  -- the places of an empty cell: `left` of them, up to the next cell
  cell-rest : (left i c : ℕ) → c < 128 → i + left ≡ 16 * c + 16 → 16 * c ≤ i → get_or T c 0 ≡ 0 → transitions_from T marks i ≡ transitions_from T marks (16 * c + 16)
  cell-rest zero i c l h k z = ap (transitions_from T marks) (let e : i ≡ 16 * c + 16 = omega arith in e)
  cell-rest (suc left) i c l h k z =
      let e : i / 16 ≡ c = omega arith in
      place-empty i (omega arith) (ap (λ (x : ℕ). bit (get_or T x 0) (i % 16)) e ∙ ap (λ (x : ℕ). bit x (i % 16)) z ∙ bit-zero (i % 16))
      ∙ cell-rest left (i + 1) c l (omega arith) (omega arith) z

  pub cell-empty : (i : ℕ) → i < most_transitions → get_or T (i / 16) 0 ≡ 0 → transitions_from T marks i ≡ transitions_from T marks (16 * (i / 16) + 16)
  cell-empty i h z = cell-rest (16 * (i / 16) + 16 - i) i (i / 16) (omega arith) (omega arith) (omega arith) z

-- One transition after the other: at the place i a transition stands, and the next one at j

module _ {T : List ℕ} (marks : List ℕ) {i : ℕ} (stop : Stop T i) where
  module _ (h : i < most_transitions) where
    module _ {j : ℕ} (next : NextPlace T (i + 1) j) where
      place-next : transitions_from T marks i ≡ placed marks i ∷ transitions_from T marks j
      place-next = place_here T marks i h (stop.there h) ∙ ap (placed marks i ∷◌) (next.none_before marks)

      pub count_next : length (transitions_from T marks i) ≡ length (transitions_from T marks j) + 1
      count_next = ap length place-next ∙ sym (add-one _)

      pub bytes_next : (e : Edition) (at : ℕ) → at + transition_width e + length (transition_lines e (transitions_from T marks j)) ≡ at + length (transition_lines e (transitions_from T marks i))
      bytes_next e at = transition-behind e at (placed marks i) (transitions_from T marks j) ∙ ap (λ (ts : List Transition). at + length (transition_lines e ts)) (sym place-next)

      pub lines_next : (e : Edition) (out : List ℕ) (at : ℕ)
          → sets out at (transition_lines e (transitions_from T marks i)) ≡ sets (sets out at (transition_line e (placed marks i))) (at + transition_width e) (transition_lines e (transitions_from T marks j))
      unfolding transition_lines
      lines_next e out at = rw (place-next, sets-append, transition-length)

    pub bytes-here : (e : Edition) → transition_width e ≤ length (transition_lines e (transitions_from T marks i))
    bytes-here e = rw (place_here T marks i h (stop.there h)) (omega (arith, transition-behind e 0 (placed marks i) (transitions_from T marks (i + 1))))

  module _ (h : most_transitions ≤ i) where
    place-last : transitions_from T marks i ≡ []
    unfolding transitions_of
    place-last = rw (sub-eq-zero_of_le h)

    pub count-last : length (transitions_from T marks i) ≡ 0
    count-last = ap length place-last

    pub bytes-last : (e : Edition) → length (transition_lines e (transitions_from T marks i)) ≡ 0
    unfolding transition_lines
    bytes-last e = rw place-last

    pub lines-last : (e : Edition) (out : List ℕ) (at : ℕ) → sets out at (transition_lines e (transitions_from T marks i)) ≡ out
    unfolding transition_lines
    lines-last e out at = rw place-last
