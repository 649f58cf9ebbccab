-- From the file and the walk check to the answer of reading. Assumes nothing.
use Rattle.std.specs.Prelude.{ℕ, ◌≤◌, ◌≡◌, refl, List, length, take, Err, None, Ok, Option, Result, Some}
use Rattle.std.proofs.Common.{sym, ◌∙◌, ap, subst, arith}
use Rattle.gate.specs.Gate.{cleared}
use Rattle.gate.specs.declared.Refusal.{Refusal}
use Rattle.automaton.specs.Automaton.{Automaton, TransitionSets, automaton, graph_of, graph_numbers, Fits}
use Rattle.automaton.specs.Graph.{Graph, graph, GraphFits}
use Rattle.automaton.specs.QuestionLaws.{same_graph, fits-graph}
use Rattle.automaton.specs.declared.GraphNumbers.{GraphNumbers}
use Rattle.automaton.specs.declared.Numbers.{Numbers}
use Rattle.lent.specs.Lent.{WitnessTables, EnoughForWitness, cleared_witness, cleared_sets}
use Rattle.lent.proofs.LentLaws.{tables-twice, meets-cleared, sets-twice, lent-cleared}
use Rattle.meeting.specs.Answer.{Asked}
use Rattle.walks.specs.Check.{AnsweredTen}
use Rattle.walks.specs.CheckLaws.{meets-answered}
use Rattle.format.specs.Format.{Sheet}
use Rattle.format.proofs.FormatLaws.{fault-number}
use Rattle.format.specs.Numbers.{numbers}
use Rattle.format.proofs.NumbersLaws.{sheet-fits, numbers-length, read_is}
use Rattle.parser.specs.PhaseAnswers.{FileRead}
use Rattle.parser.proofs.UniqueLaws.{file-unique, fault-unique, file-or-fault}
use Rattle.parser.specs.Parse.{parse}
use Rattle.parser.proofs.LettersOfLaws.{FileAccepted, file-refused}
use Rattle.reading.specs.Read.{Accepted, Refuses, ReadTables, read_tables, lent_cleared, SheetRead, ReadsNamed}

-- only question 1 has number 1
pub refuses-number : {s : List ℕ} {before after : WitnessTables} {r : Refusal} → Refuses s before after r → r.number ≡ 1 → ⊥
refuses-number (Refuses.faulty number line f e z) h = omega (arith, (fault-number f).0, ap (λ (r : Refusal). r.number) e)
refuses-number (Refuses.meeting σ f m) h = omega (arith, m.number)

-- one number and one line: of what a refusal tells, only the witness of 10 is free
pub refuses-once : {s : List ℕ} {v w before after : WitnessTables} {r q : Refusal} → Refuses s v w r → Refuses s before after q → (r.number ≡ q.number) × (r.line ≡ q.line)
refuses-once {s} (Refuses.faulty x l f e z) (Refuses.faulty y m g d c) =
    let (number, line) = fault-unique s x y l m f g in
    (ap (λ (r : Refusal). r.number) e ∙ number ∙ sym (ap (λ (r : Refusal). r.number) d), ap (λ (r : Refusal). r.line) e ∙ line ∙ sym (ap (λ (r : Refusal). r.line) d))
refuses-once {s} (Refuses.faulty x l f e z) (Refuses.meeting τ g m) = absurd (file-or-fault s τ x l g f)
refuses-once {s} (Refuses.meeting σ f m) (Refuses.faulty y l g d c) = absurd (file-or-fault s σ y l f g)
refuses-once (Refuses.meeting σ f m) (Refuses.meeting τ g n) = (m.number ∙ sym n.number, m.line ∙ sym n.line)

-- an accepted file is not refused
pub accepted-unrefused : {s : List ℕ} {σ : Sheet} {before after : WitnessTables} {r : Refusal} → Accepted s σ → Refuses s before after r → ⊥
accepted-unrefused {s} {σ} h (Refuses.faulty number line f e z) = file-or-fault s σ number line h.file f
accepted-unrefused {s} {σ} h (Refuses.meeting τ f m) =
    (subst (λ (υ : Sheet). Accepted s υ) (file-unique s σ τ h.file f) h).free _ _ _ _ m.witness.meets

-- QUESTION 10 on a file that is read
module _ {s : List ℕ} {t u : TransitionSets} {old rows : List ℕ} {a : Numbers} (h : FileAccepted s t u old rows a) where
  sheet-automaton : automaton a (take 128 u.successors) (take 128 u.marks) ≡ numbers h.letters.sheet
  sheet-automaton = read_is h.letters.sheet t h.letters.are h.sets

  -- its graph is the one that is asked
  module _ {g : GraphNumbers} (same : g ≡ graph_numbers a) {before : WitnessTables} (zeros : before ≡ cleared_witness before) where
    sheet-graph : graph g (take 128 u.successors) ≡ graph_of (numbers h.letters.sheet)
    sheet-graph = same_graph a (take 128 u.successors) (take 128 u.marks) same ∙ ap (λ (A : Automaton). graph_of A) sheet-automaton

    pub asked : EnoughForWitness before → Asked (graph g (take 128 u.successors)) before
    asked long = record {
      fits = subst GraphFits (sym sheet-graph) (fits-graph (sheet-fits s h.letters.sheet h.letters.file));
      cells = subst (λ (G : Graph). 128 ≤ length G.table) (sym sheet-graph) (omega (arith, numbers-length h.letters.sheet));
      long = long;
      zeros = zeros;
    }

    module _ {after : WitnessTables} where
      answered : (r : Option ℕ) → AnsweredTen (graph g (take 128 u.successors)) before after r → AnsweredTen (graph_of (numbers h.letters.sheet)) before after r
      answered r answer = subst (λ (G : Graph). AnsweredTen G before after r) sheet-graph answer

      pub free-accepts : AnsweredTen (graph g (take 128 u.successors)) before after None → SheetRead s (read_tables t old before) (read_tables u rows after) a
      free-accepts answer =
          let free = answered None answer in
          record {
            sheet = h.letters.sheet;
            accepted = record { file = h.letters.file; free = free.free refl };
            are = h.letters.are;
            sets = h.sets;
            witness = free.kept refl ∙ zeros;
            names = h.letters.names;
            behind = h.behind;
          }

      pub meeting-refuses : {d : ℕ} → AnsweredTen (graph g (take 128 u.successors)) before after (Some d) → {u' : TransitionSets} {rows' : List ℕ} → u' ≡ cleared_sets t → rows' ≡ cleared old
          → ReadsNamed s (read_tables t old before) (read_tables u' rows' after) (Err (record { number = 10; line = 0; length = d }))
      meeting-refuses {d} answer z y = (Refuses.meeting h.letters.sheet h.letters.file (meets-answered (answered (Some d) answer)), z, y)

-- a file with a fault
pub fault-refuses :
    (s : List ℕ) (t u : TransitionSets) (old rows : List ℕ) (r : Refusal) {before : WitnessTables} → FileRead (parse s) t u old rows (Err r) → before ≡ cleared_witness before
    → ReadsNamed s (read_tables t old before) (read_tables u rows before) (Err r)
fault-refuses s t u old rows r e zeros =
    let ((number, line, faulty, is), clear, zero) = file-refused s t u old rows r e in
    (Refuses.faulty number line faulty is zeros, clear, zero)

-- TABLES THAT ARE CLEARED FIRST
named-cleared : (s : List ℕ) (before after : ReadTables) (r : Result Numbers Refusal) → ReadsNamed s (lent_cleared before) after r → ReadsNamed s before after r
named-cleared s before after (Err r) (f, z, y) = (refuses f, z ∙ sets-twice before.sets, y)
  where
    refuses : Refuses s (cleared_witness before.witness) after.witness r → Refuses s before.witness after.witness r
    refuses (Refuses.faulty number line f e c) = Refuses.faulty number line f e (c ∙ tables-twice before.witness)
    refuses (Refuses.meeting σ f m) = Refuses.meeting σ f (meets-cleared before.witness m)
named-cleared s before after (Ok a) h = record {
  sheet = h.sheet;
  accepted = h.accepted;
  are = h.are;
  sets = h.sets ∙ lent-cleared (numbers h.sheet) before.sets;
  witness = h.witness ∙ tables-twice before.witness;
  names = h.names;
  behind = h.behind;
}

-- the tables once they are cleared
module _ (before : ReadTables) {zeroed : ReadTables} (e : zeroed ≡ lent_cleared before) where
  pub reads-cleared : (s : List ℕ) (after : ReadTables) (r : Result Numbers Refusal) → ReadsNamed s zeroed after r → ReadsNamed s before after r
  reads-cleared s after r j = named-cleared s before after r (rw e at j)

-- A SHEET THAT IS READ: its numbers, with the first 128 cells of the tables, are an automaton that fits
module _ {s : List ℕ} {before after : ReadTables} {a : Numbers} (h : SheetRead s before after a) where
  pub read-automaton : automaton a (take 128 after.sets.successors) (take 128 after.sets.marks) ≡ numbers h.sheet
  read-automaton = read_is h.sheet before.sets h.are h.sets

  pub read_fits : Fits (automaton a (take 128 after.sets.successors) (take 128 after.sets.marks))
  read_fits = subst Fits (sym read-automaton) (sheet-fits s h.sheet h.accepted.file)

  -- it has at most eight letters
  pub few-letters : a.k ≤ 8
  few-letters = subst (λ (k : ℕ). k ≤ 8) h.names.letters h.accepted.file.right.range.3
