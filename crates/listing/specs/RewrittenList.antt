-- A sheet rewritten with a mark on every transition into a must-recur state "has the very same listing" (R-9). Assumes nothing.
use Rattle.std.specs.Prelude.{ℕ, ◌≤◌, ◌≡◌, List, length, Err, Ok, Result}
use Rattle.std.proofs.Common.{sym, ap, ◌∙◌, arith}
use Rattle.gate.specs.Gate.{lent_text}
use Rattle.gate.specs.declared.Refusal.{Refusal}
use Rattle.automaton.specs.Automaton.{Automaton, Fits, AreNumbers}
use Rattle.automaton.specs.Rewritten.{marked_into}
use Rattle.automaton.specs.declared.Edition.TheVariants.{StateBased}
use Rattle.filling.specs.TrackerTables.{TrackerTables, Fitted}
use Rattle.tracker.specs.BuildLaws.{numbers-built}
use Rattle.tracker.specs.RewrittenBuild.{rewritten_numbers, rewritten-enough, rewritten-enough⁻, rewritten-builds}
use Rattle.tracker.specs.declared.Tracker.{Tracker}
use Rattle.listing_text.specs.Listing.{listing}
use Rattle.listing_text.specs.SameListing.{rewritten-listing}
use Rattle.listing.specs.List.{ListNumbersTables, listing_of, ListsNumbers}

-- the listing of a tracker of A, by A's own numbers
listing-is : {A : Automaton} (x : Tracker) (tracker : TrackerTables) → AreNumbers A x.numbers
    → listing_of x tracker ≡ listing A.n A.k x.tuples tracker.tuples tracker.nexts
listing-is x tracker are = λ i. listing (are.n i) (are.k i) x.tuples tracker.tuples tracker.nexts

-- a listing that was written is that of a tracker of A
record ListedFrom (A : Automaton) (room count : ℕ) (before after : ListNumbersTables) : Type 0 where
  pub tracker : Tracker
  pub built : TrackerTables
  pub are : AreNumbers A tracker.numbers
  pub fitted : Fitted A room before.build.tracker built tracker.tuples
  pub bytes : count ≡ length (listing_of tracker built)
  pub output : after.output ≡ lent_text (listing_of tracker built) before.output

no_bytes : {count : ℕ} {r : Refusal} → Ok count ≡ Err r → ⊥
no_bytes e = let z : ◌≡◌ {A = ℕ} 0 1 = cc in omega arith

lists : {A : Automaton} {room count : ℕ} {before after : ListNumbersTables} → ListsNumbers A room before after (Ok count) → ListedFrom A room count before after
lists (ListsNumbers.short n e same) = absurd (no_bytes e)
lists (ListsNumbers.refused l r n e z) = absurd (no_bytes e)
lists (ListsNumbers.asked built x is (bytes, room, output) left) =
    let (l, fits, (are, fitted), z) = numbers-built is in
    record { tracker = x; built = built.tracker; are = are; fitted = fitted; bytes = bytes; output = output }

module _ (A : Automaton) (edition : A.edition ≡ StateBased) where
  -- the trackers of both, with any room and in any tables, have one listing
  pub rewritten-listing-of : {r s : ℕ} {v w one other : TrackerTables} {x y : Tracker} → AreNumbers (marked_into A) x.numbers → AreNumbers A y.numbers
      → Fitted (marked_into A) r v one x.tuples → Fitted A s w other y.tuples → listing_of x one ≡ listing_of y other
  rewritten-listing-of {one = one} {other} {x} {y} are are' p q = listing-is x one are ∙ rewritten-listing A edition p q ∙ sym (listing-is y other are')

  -- so the call writes one text on both
  pub rewritten-text : {r s c d : ℕ} {v w one other : ListNumbersTables} → ListsNumbers (marked_into A) r v one (Ok c) → ListsNumbers A s w other (Ok d)
      → (text : List ℕ) × (c ≡ length text) × (one.output ≡ lent_text text v.output) × (d ≡ length text) × (other.output ≡ lent_text text w.output)
  rewritten-text {v = v} p q =
      let x = lists p in
      let y = lists q in
      let same = rewritten-listing-of x.are y.are x.fitted y.fitted in
      (listing_of y.tracker y.built, x.bytes ∙ ap length same, x.output ∙ ap (λ (text : List ℕ). lent_text text v.output) same, y.bytes, y.output)

  -- and what it answers on a sheet that fits, it answers on the rewritten one, in the same tables
  pub rewritten-lists : Fits A → 128 ≤ length A.marks → {room : ℕ} {before after : ListNumbersTables} {l : Result ℕ Refusal} → ListsNumbers A room before after l
      → ListsNumbers (marked_into A) room before after l
  rewritten-lists fits full (ListsNumbers.short n e same) = ListsNumbers.short (λ k. n (rewritten-enough⁻ A edition fits full k)) e same
  rewritten-lists fits full (ListsNumbers.refused k r n e z) =
      ListsNumbers.refused (rewritten-enough A edition fits full k) r (rewritten-builds A edition fits full (Err r) n) e z
  rewritten-lists fits full (ListsNumbers.asked built x is put left) =
      ListsNumbers.asked built (record { numbers = rewritten_numbers x.numbers; tuples = x.tuples }) (rewritten-builds A edition fits full (Ok x) is) put left
