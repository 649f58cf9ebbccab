-- The answers of listing from numbers, one by one. Assumes nothing.
use Rattle.std.specs.Prelude.{ℕ, ◌≡◌, List, Err, Ok, Result}
use Rattle.std.proofs.Common.{sym, ap, subst, ◌∙◌, arith}
use Rattle.gate.specs.Gate.{refusal, RefusedWith}
use Rattle.gate.specs.GateLaws.{refused-first}
use Rattle.gate.specs.declared.Refusal.{Refusal}
use Rattle.automaton.specs.Automaton.{Automaton, Fits, AreNumbers}
use Rattle.lent.specs.Lent.{cleared_witness}
use Rattle.lent.proofs.LentLaws.{numbers-number}
use Rattle.filling.specs.TrackerTables.{TrackerTables, cleared_tracker, EnoughForTracker, Fitted}
use Rattle.tracker.specs.Build.{BuildNumbersTables, build_numbers_tables, cleared_build_numbers, BuildsNumbers}
use Rattle.tracker.specs.BuildLaws.{numbers-built}
use Rattle.filling.proofs.FittedLaws.{fitted-room, fitted-cleared}
use Rattle.tracker.specs.declared.Tracker.{Tracker}
use Rattle.listing.specs.List.{list_numbers_tables, listing_of, Left, ListsNumbers}
use Rattle.listing_lines.specs.PutLine.{Sized}
use Rattle.listing.specs.Finish.{Finishes}

-- what writing asks of a tracker that was built
pub sized : {A : Automaton} {room : ℕ} {before after : TrackerTables} (x : Tracker) → Fits A → EnoughForTracker room before → AreNumbers A x.numbers
    → Fitted A room before after x.tuples → Sized x.numbers.n x.numbers.k x.tuples after.tuples after.nexts
sized {A} {room} {before} {after} x fits roomy are fitted =
    let n = are.n in
    let k = are.k in
    let (a, b, c, d) = fits.range in
    let r = fitted-room A fits room x.tuples before after fitted roomy in
    record { sizes = record { states = omega arith; letters = omega arith; most = r.most }; room = r }

-- NO QUESTION BEHIND THE FIRST HAS NUMBER 1

pub room-number : (r : Refusal) → r ≡ refusal 11 0 → r.number ≡ 1 → ⊥
room-number r e n = let k : ◌≡◌ {A = ℕ} 11 1 = sym (ap (λ (r : Refusal). r.number) e) ∙ n in omega arith

-- WHAT IS LEFT of the tables that building gave, from what the last question leaves of the tracker's. The buffer was old and is new.

left-numbers : (before built : BuildNumbersTables) (tracker : TrackerTables) (l : Result ℕ Refusal) → built.witness ≡ cleared_witness before.witness
    → cleared_tracker built.tracker ≡ cleared_tracker before.tracker → Left (cleared_tracker built.tracker) built.tracker tracker l
    → Left (cleared_build_numbers before) built (build_numbers_tables built.witness tracker) l
left-numbers before built tracker (Err r) witness zero left = λ i. build_numbers_tables (witness i) ((left ∙ zero) i)
left-numbers before built tracker (Ok count) witness zero left = λ i. build_numbers_tables built.witness (left i)

-- FROM NUMBERS

module _ {A : Automaton} {room : ℕ} {before built : BuildNumbersTables} where
  refused-numbers : {r : Refusal} {old new : List ℕ} {l : Result ℕ Refusal} → BuildsNumbers A room before built (Err r) → RefusedWith r old new l
      → ListsNumbers A room (list_numbers_tables before old) (list_numbers_tables built new) l
  refused-numbers {r} (BuildsNumbers.short n e same) a =
      let i : r ≡ refusal 1 0 = cc in
      let (is, output) = refused-first a i in
      ListsNumbers.short n is (λ i. list_numbers_tables (same i) (output i))
  refused-numbers {r} (BuildsNumbers.refused l q x e z) a =
      ListsNumbers.refused l r (BuildsNumbers.refused l q x e z) a.is (a.zero (λ n. numbers-number x (cc)))
  refused-numbers {r} (BuildsNumbers.asked l fits free z (m, e, q)) a =
      ListsNumbers.refused l r (BuildsNumbers.asked l fits free z (m, e, q)) a.is (a.zero (room-number r e))

  -- behind building, which answered z
  module _ {z : Result Tracker Refusal} (builds : BuildsNumbers A room before built z) where
    answered-numbers : {y : Result Tracker Refusal} → z ≡ y → BuildsNumbers A room before built y
    answered-numbers told = subst (BuildsNumbers A room before built) told builds

    pub list-numbers-refused : {r : Refusal} {old new : List ℕ} {l : Result ℕ Refusal} → z ≡ Err r → RefusedWith r old new l
        → ListsNumbers A room (list_numbers_tables before old) (list_numbers_tables built new) l
    list-numbers-refused told = refused-numbers (answered-numbers told)

    module _ {x : Tracker} (told : z ≡ Ok x) where
      pub numbers-sized : Sized x.numbers.n x.numbers.k x.tuples built.tracker.tuples built.tracker.nexts
      numbers-sized = let (l, fits, (are, fitted), z) = numbers-built (answered-numbers told) in sized x fits l.tracker are fitted

      pub numbers-finished : {tracker : TrackerTables} {old new : List ℕ} (l : Result ℕ Refusal) → Finishes (listing_of x built.tracker) built.tracker tracker old new l
          → ListsNumbers A room (list_numbers_tables before old) (list_numbers_tables (build_numbers_tables built.witness tracker) new) l
      numbers-finished {tracker} l (put, left) =
          let (lent, fits, (are, fitted), witness) = numbers-built (answered-numbers told) in
          ListsNumbers.asked built x (answered-numbers told) put
          (left-numbers before built tracker l witness (fitted-cleared A fits room x.tuples before.tracker built.tracker fitted) left)
