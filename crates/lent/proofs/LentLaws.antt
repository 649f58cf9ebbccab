-- Witness tables that are cleared before the questions are asked: the answers are those on the tables as they were lent. Assumes nothing.
use Rattle.std.specs.Prelude.{ℕ, ◌-◌, ◌≡◌, List, ◌++◌, length, replicate}
use Rattle.std.proofs.Common.{sym, ap, ◌∙◌, arith}
use Rattle.gate.specs.Gate.{cleared}
use Rattle.gate.specs.GateLaws.{length-cleared, cleared-twice}
use Rattle.gate.specs.declared.Refusal.{Refusal}
use Rattle.automaton.specs.Automaton.{Automaton, TransitionSets, transition_sets}
use Rattle.automaton.specs.Graph.{Graph}
use Rattle.automaton.specs.Meeting.{Free, Everywhere}
use Rattle.automaton.specs.EndlessLaws.{free-everywhere}
use Rattle.automaton.specs.QuestionLaws.{first-no-number}
use Rattle.lent.specs.Lent.{WitnessTables, witness_tables, EnoughForWitness, EnoughForSets, EnoughForSheet, cleared_witness, cleared_sets, ClearedLong, lent_sets, Meets, NumbersRefuse}

-- tables that are cleared one by one
pub tables-cleared : (v : WitnessTables) {word one other : List ℕ} → word ≡ cleared v.word → one ≡ cleared v.one → other ≡ cleared v.other
    → witness_tables word one other ≡ cleared_witness v
tables-cleared v a b c = λ i. witness_tables (a i) (b i) (c i)

pub tables-twice : (v : WitnessTables) → cleared_witness (cleared_witness v) ≡ cleared_witness v
tables-twice v = tables-cleared v (cleared-twice v.word) (cleared-twice v.one) (cleared-twice v.other)

pub long-cleared : (v : WitnessTables) → EnoughForWitness v → EnoughForWitness (cleared_witness v)
long-cleared v l = record {
  word = rw (length-cleared v.word) l.word;
  one = rw (length-cleared v.one) l.one;
  other = rw (length-cleared v.other) l.other;
}

pub lengths-cleared : {t : TransitionSets} (v : WitnessTables) → EnoughForSheet t v → EnoughForSheet t (cleared_witness v)
lengths-cleared v l = record { tables = l.tables; long = long-cleared v l.long }

-- the same of the sheet's tables
pub sets-cleared : (t : TransitionSets) {successors marks : List ℕ} → successors ≡ cleared t.successors → marks ≡ cleared t.marks
    → transition_sets successors marks ≡ cleared_sets t
sets-cleared t a b = λ i. transition_sets (a i) (b i)

pub sets-twice : (t : TransitionSets) → cleared_sets (cleared_sets t) ≡ cleared_sets t
sets-twice t = sets-cleared t (cleared-twice t.successors) (cleared-twice t.marks)

pub long-sets-cleared : (t : TransitionSets) → EnoughForSets t → EnoughForSets (cleared_sets t)
long-sets-cleared t l = record { cells = rw (length-cleared t.successors) l.cells; marks = rw (length-cleared t.marks) l.marks }

pub ready-sets : (t : TransitionSets) → EnoughForSets t → ClearedLong (cleared_sets t)
ready-sets t l = record { long = long-sets-cleared t l; zeros = sym (sets-twice t) }

-- tables of the same lengths are cleared alike
pub sets-cleared-alike : (t u : TransitionSets) → length u.successors ≡ length t.successors → length u.marks ≡ length t.marks → cleared_sets u ≡ cleared_sets t
sets-cleared-alike t u a b = λ i. transition_sets (replicate {A = ℕ} (a i) 0) (replicate {A = ℕ} (b i) 0)

-- and an automaton's sets are lent alike
pub lent_alike : (A : Automaton) (t u : TransitionSets) → length u.successors ≡ length t.successors → length u.marks ≡ length t.marks → lent_sets A u ≡ lent_sets A t
lent_alike A t u a b = λ i. transition_sets (A.table ++ replicate {A = ℕ} (a i - 128) 0) (A.marks ++ replicate {A = ℕ} (b i - 128) 0)

pub lent-cleared : (A : Automaton) (t : TransitionSets) → lent_sets A (cleared_sets t) ≡ lent_sets A t
lent-cleared A t = lent_alike A t (cleared_sets t) (length-cleared t.successors) (length-cleared t.marks)

pub meets-cleared : {G : Graph} (v : WitnessTables) {w : WitnessTables} {r : Refusal} → Meets G (cleared_witness v) w r → Meets G v w r
meets-cleared v m = record {
  number = m.number;
  line = m.line;
  some = m.some;
  witness = m.witness;
  lengths =
      let l = m.lengths in
      record { word = l.word ∙ length-cleared v.word; one = l.one ∙ length-cleared v.one; other = l.other ∙ length-cleared v.other };
}

pub refuse-cleared : {A : Automaton} (v : WitnessTables) {w : WitnessTables} {r : Refusal} → NumbersRefuse A (cleared_witness v) w r → NumbersRefuse A v w r
refuse-cleared v (NumbersRefuse.unfit number f e z) = NumbersRefuse.unfit number f e (z ∙ tables-twice v)
refuse-cleared v (NumbersRefuse.meeting fits m) = NumbersRefuse.meeting fits (meets-cleared v m)

-- only question 1 has number 1
pub numbers-number : {A : Automaton} {v w : WitnessTables} {r : Refusal} → NumbersRefuse A v w r → r.number ≡ 1 → ⊥
numbers-number (NumbersRefuse.unfit x f e z) h = omega (arith, first-no-number f, ap (λ (r : Refusal). r.number) e)
numbers-number (NumbersRefuse.meeting f m) h = omega (arith, m.number)

-- a sheet without walks that meet anywhere is never refused with 10
pub never-ten : {G : Graph} {v w : WitnessTables} {r : Refusal} → Free G Everywhere → Meets G v w r → ⊥
never-ten free m = free-everywhere free _ _ _ _ m.witness.meets
