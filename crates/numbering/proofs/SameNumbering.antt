-- Sheets whose tuples take the same steps have the same numbering, in the same tables. Assumes nothing.
use Rattle.std.specs.Prelude.{ℕ, ◌/◌, ◌%◌, ◌<◌, ◌≡◌, ◌↔◌, get_or}
use Rattle.std.proofs.Math.Path.{refl, ap}
use Rattle.std.proofs.Common.{sym, subst, ◌∙◌}
use mathlib.Core.List.{List, [], ◌∷◌}
use Rattle.automaton.specs.Automaton.{Automaton}
use Rattle.automaton.specs.Rewritten.{marked_into}
use Rattle.automaton.specs.declared.Edition.TheVariants.{StateBased}
use Rattle.tuple.specs.Step.{Tuple, first, next}
use Rattle.tuple.specs.Row.{row}
use Rattle.tuple.specs.SameSteps.{SameSteps, same_back}
use Rattle.tuple.specs.RewrittenStep.{rewritten-steps}
use Rattle.numbering.specs.Numbering.{after_word, Word, Reachable, tuple_at, Distinct, entered, FoundBy, Numbering, MoreThan, TupleCells, NextCells}
use Rattle.numbering.proofs.ExploreLaws.{way-mapped}

module _ {A B : Automaton} (same : SameSteps A B) where
  letter-to : {l : ℕ} → l < A.k → l < B.k
  letter-to {l} = subst (λ (k : ℕ). l < k) same.letters

  letter-from : {l : ℕ} → l < B.k → l < A.k
  letter-from {l} = subst (λ (k : ℕ). l < k) (sym same.letters)

  -- Reachable tuples

  same_after : (u : Tuple) (word : List ℕ) → after_word A u word ≡ after_word B u word
  unfolding after_word
  same_after u [] = refl
  same_after u (l ∷ word) = same_after (next A l u) word ∙ ap (λ (v : Tuple). after_word B v word) (same.goes l u)

  same_word : (word : List ℕ) → Word A word → Word B word
  same_word [] w = tt
  same_word (l ∷ word) (h, w) = (letter-to h, same_word word w)

  same-reachable : {u : Tuple} → Reachable A u → Reachable B u
  same-reachable r = record {
    word = r.word;
    letters = same_word r.word r.letters;
    is = ap (λ (v : Tuple). after_word B v r.word) (sym same.begins) ∙ sym (same_after (first A) r.word) ∙ r.is;
  }

  -- The tuples of a list

  module _ (ts : List Tuple) where
    tuple_is : (i : ℕ) → tuple_at A ts i ≡ tuple_at B ts i
    tuple_is i = ap (get_or ts i) same.begins

    entered-is : (c : ℕ) → entered A ts c ≡ entered B ts c
    entered-is c = ap (next A (c % 8)) (tuple_is (c / 8)) ∙ same.goes (c % 8) (tuple_at B ts (c / 8))

    same-distinct : Distinct A ts → Distinct B ts
    same-distinct d i j h k e = d i j h k (tuple_is i ∙ e ∙ sym (tuple_is j))

    same-found : (i c : ℕ) → FoundBy A ts i c → FoundBy B ts i c
    same-found i c f = record {
      from = f.from;
      letter = letter-to f.letter;
      enters = sym (entered-is c) ∙ f.enters ∙ tuple_is i;
      earliest = λ d h l e. f.earliest d h (letter-from l) (entered-is d ∙ e ∙ sym (tuple_is i));
    }

-- THE NUMBERING AND ITS TABLES. Each goes both ways, by same_back.
module _ {A B : Automaton} (same : SameSteps A B) where
  pub same-numbering : {ts : List Tuple} → Numbering A ts → Numbering B ts
  same-numbering {ts} n = record {
    some = n.some;
    begins = sym (tuple_is same ts 0) ∙ n.begins ∙ same.begins;
    distinct = same-distinct same ts n.distinct;
    closed = λ t l h k.
        (let (j, g, e) = n.closed t l h (letter-from same k) in
        (j, g, sym (tuple_is same ts j) ∙ e ∙ ap (next A l) (tuple_is same ts t) ∙ same.goes l (tuple_at B ts t)));
    found = λ i h k. let (c, f) = n.found i h k in (c, same-found same ts i c f);
    ordered = λ i j c d h k l f g. n.ordered i j c d h k l (same-found (same_back same) ts i c f) (same-found (same_back same) ts j d g);
  }

  pub same-more-than : {room : ℕ} → MoreThan A room → MoreThan B room
  same-more-than m = record {
    tuples = m.tuples;
    count = m.count;
    distinct = same-distinct same m.tuples m.distinct;
    reachable = λ i h. subst (Reachable B) (tuple_is same m.tuples i) (same-reachable same (m.reachable i h));
  }

  pub same-tuple-cells : {ts : List Tuple} {tuples : List ℕ} → TupleCells A ts tuples → TupleCells B ts tuples
  same-tuple-cells {ts} c = record {
    row = λ t h. c.row t h ∙ ap row (tuple_is same ts t);
    way = λ t h. way-mapped (same-found same ts t) (c.way t h);
    zero = c.zero;
  }

  pub same-next-cells : {ts : List Tuple} {nexts : List ℕ} → NextCells A ts nexts → NextCells B ts nexts
  same-next-cells {ts} {nexts} c = record {
    next = λ d h l. let (g, e) = c.next d h (letter-from same l) in (g, sym (tuple_is same ts (get_or nexts d 0)) ∙ e ∙ entered-is same ts d);
    zero = λ d f. c.zero d (λ h l. f h (letter-to same l));
  }

-- A SHEET REWRITTEN with a mark on every transition into a must-recur state
module _ (A : Automaton) (edition : A.edition ≡ StateBased) where
  pub rewritten-numbering : {ts : List Tuple} → Numbering (marked_into A) ts ↔ Numbering A ts
  rewritten-numbering = let s = rewritten-steps A edition in (same-numbering s, same-numbering (same_back s))

  pub rewritten-more : {room : ℕ} → MoreThan (marked_into A) room ↔ MoreThan A room
  rewritten-more = let s = rewritten-steps A edition in (same-more-than s, same-more-than (same_back s))
