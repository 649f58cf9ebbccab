-- What `rewrite` prints: one line for an input that is too long, each number of a witness whole, and the ends of the call. Assumes nothing.
use Rattle.std.specs.Prelude.{ℕ, ◌+◌, ◌≤◌, ◌<◌, ◌≡◌, refl, ◌↔◌, List, length, get_or, take, Err, Ok}
use Rattle.std.proofs.Common.{ap, ap₂, subst, ◌∙◌, ⊎_elim, zero-add, arith}
use Rattle.gate.specs.Gate.{refusal, cleared}
use Rattle.gate.specs.GateLaws.{length-cleared}
use Rattle.gate.specs.declared.Refusal.{Refusal}
use Rattle.automaton.specs.Automaton.{graph_of}
use Rattle.automaton.specs.QuestionLaws.{fits-graph}
use Rattle.automaton.specs.EdgeLaws.{edge-letter, walk-in}
use Rattle.automaton.specs.Meeting.{cells}
use Rattle.lent.specs.Lent.{WitnessTables, EnoughForWitness, Meets}
use Rattle.format.specs.Format.{Sheet, FileIs, Faulty, most_sheet}
use Rattle.format.proofs.FormatLaws.{fault-number, longest-most}
use Rattle.format.specs.Numbers.{numbers}
use Rattle.format.proofs.NumbersLaws.{sheet-fits}
use Rattle.parser.proofs.UniqueLaws.{fault-unique, file-or-fault}
use Rattle.reading.specs.Read.{Refuses}
use Rattle.writer.specs.Writing.{writing}
use Rattle.file_writer.proofs.FileRoundTrip.{writing-most}
use Rattle.writer.specs.Write.{WriteTables}
use Rattle.file_writer.specs.FileWrite.{Writes}
use Rattle.report.specs.Report.{refusal_line}
use Rattle.report.specs.Output.{Prints, TooLong}
use Rattle.report.specs.OutputLaws.{zero-again, front-lent, same-lent, enough}
use Rattle.witness_text.specs.Put.{WrittenAt}
use Rattle.rewrite_output.specs.Rewrite.{longest_rewrite, RewriteOutput}
use Rattle.rewrite_output.specs.Put.{refusal_text}
use Rattle.rewrite_output.specs.PutLaws.{text-other, text-ten, refusal-most}

-- TOO LONG: "Is the sheet at most" so many "bytes ..? No: 2.", and nothing else is printed
pub too-long-rewrite : TooLong RewriteOutput most_sheet (refusal_line 2 0)
too-long-rewrite s text h = (to, λ e. RewriteOutput.refused 2 0 (Faulty.size h) e)
  where
    to : RewriteOutput s text → text ≡ refusal_line 2 0
    to (RewriteOutput.refused number line fault e) =
        let (p, q) = fault-unique s number 2 line 0 fault (Faulty.size h) in
        e ∙ ap₂ refusal_line p q
    to (RewriteOutput.meeting σ file before after r m e) = absurd (file-or-fault s σ 2 0 file (Faulty.size h))
    to (RewriteOutput.written σ accepted e) = absurd (file-or-fault s σ 2 0 accepted.file (Faulty.size h))

-- the first 32,769 bytes of the input are enough
pub rewrite-enough : (s text : List ℕ) → RewriteOutput s text ↔ RewriteOutput (take (most_sheet + 1) s) text
rewrite-enough = enough too-long-rewrite

-- THE NUMBERS OF A WITNESS have one digit or two, so that each is shown whole

pub record WitnessShown (w : WitnessTables) (t : ℕ) : Type 0 where
  pub letters : (i : ℕ) → i < t → get_or w.word i 0 < 8
  pub one : (i : ℕ) → i ≤ t → get_or w.one i 0 < 16
  pub other : (i : ℕ) → i ≤ t → get_or w.other i 0 < 16

pub witness-shown :
    (s : List ℕ) (σ : Sheet) → FileIs s σ → {before after : WitnessTables} {r : Refusal} → Meets (graph_of (numbers σ)) before after r → WitnessShown after r.length
witness-shown s σ file {after = after} {r} m =
    let fits = fits-graph (sheet-fits s σ file) in
    let n = fits.range.1 in
    let meet = m.witness.meets in
    let t = r.length in
    let word = cells after.word in
    record {
      letters = λ i h. edge-letter (graph_of (numbers σ)) fits (word i) _ _ (meet.one.goes i h);
      one = λ i h. omega (arith, walk-in (graph_of (numbers σ)) fits word t (cells after.one) meet.one i h);
      other = λ i h. omega (arith, walk-in (graph_of (numbers σ)) fits word t (cells after.other) meet.other i h);
    }

-- A REFUSAL by questions 2 to 10

module _ {s : List ℕ} {before after : WitnessTables} {r : Refusal} where
  refused-most : Refuses s before after r → r.length ≤ 136
  refused-most (Refuses.faulty number line f e z) = omega (arith, ap (λ (r : Refusal). r.length) e)
  refused-most (Refuses.meeting σ f m) = m.witness.most

  refused-output : Refuses s before after r → RewriteOutput s (refusal_text r after)
  refused-output (Refuses.faulty number line f e z) =
      let is : refusal_text r after ≡ refusal_line number line =
      ap (λ (x : Refusal). refusal_text x after) e ∙ text-other (refusal number line) after (λ n. ⊎_elim (λ a. omega arith) (λ a. omega arith) (fault-number f).2) in
      RewriteOutput.refused number line f is
  refused-output (Refuses.meeting σ f m) = RewriteOutput.meeting σ f before after r m (text-ten r after m.number)

-- THE ENDS OF THE CALL, behind writing into a buffer that is long enough

-- a sheet of either edition has room in it
rewrite-most : {s : List ℕ} (σ : Sheet) → FileIs s σ → length (writing σ) ≤ longest_rewrite
rewrite-most {s} σ file = omega (arith, writing-most s σ file, longest-most σ.edition)

module _ {s : List ℕ} {before after : WriteTables} where
  pub bytes-printed : {m : ℕ} → Writes s before after (Ok m) → longest_rewrite ≤ length before.output
      → Prints (RewriteOutput s) longest_rewrite before.output after.output m
  bytes-printed (Writes.short n e z) room = let x : ◌≡◌ {A = ℕ} 0 1 = cc in absurd (omega arith)
  bytes-printed (Writes.refused l x f e k) room = let x : ◌≡◌ {A = ℕ} 0 1 = cc in absurd (omega arith)
  bytes-printed (Writes.asked l σ a z (count, fits, is)) room =
      Prints.printed room (writing σ) (RewriteOutput.written σ a refl) count (rewrite-most σ a.file) is

  -- question 1 is not answered no: the tables and the buffer are long enough
  refused-behind : {r : Refusal} → Writes s before after (Err r) → EnoughForWitness before.witness → longest_rewrite ≤ length before.output
      → Refuses s before.witness after.witness r × (after.output ≡ cleared before.output)
  refused-behind (Writes.short n e z) long room = absurd (n long)
  refused-behind {r} (Writes.refused l x f e k) long room =
      let same : x ≡ r = cc in
      (subst (Refuses s before.witness after.witness) same f, k)
  refused-behind (Writes.asked l σ a z (short, e, k)) long room = absurd (omega (arith, rewrite-most σ a.file))

  module _ {r : Refusal} (h : Writes s before after (Err r)) (long : EnoughForWitness before.witness) (room : longest_rewrite ≤ length before.output) where
    pub refused-short : r.length ≤ 136
    refused-short = refused-most (refused-behind h long room).0

    pub refused-printed : {output : List ℕ} {n : ℕ} → WrittenAt (refusal_text r after.witness) after.output 0 output n
        → Prints (RewriteOutput s) longest_rewrite before.output output n
    refused-printed x =
        let (f, zero) = refused-behind h long room in
        let text = refusal_text r after.witness in
        let most : length text ≤ 1257 = refusal-most r after.witness (refused-most f) in
        let kept : length after.output ≡ length before.output = ap length zero ∙ length-cleared before.output in
        Prints.printed room text (refused-output f) (x.behind-it ∙ zero-add (length text)) (omega arith)
        (front-lent text after.output (zero-again before.output after.output zero) (omega arith) x.stored
        ∙ same-lent text before.output after.output kept)
