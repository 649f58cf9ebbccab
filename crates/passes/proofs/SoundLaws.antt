-- Demand 3 on a judged plan: the repeat that the verdict found is one to which the theorem on repeating words applies. Assumes nothing.
use Rattle.std.specs.Prelude.{ℕ, suc, ◌+◌, ◌*◌, ◌%◌, ◌<◌, ◌≡◌, List, ◌↔◌, length}
use Rattle.std.proofs.Common.{sym, ◌∙◌, ap, arith}
use Rattle.automaton.specs.Automaton.{Automaton, graph_of, Fits}
use Rattle.automaton.specs.Endless.{MeetingFree}
use Rattle.automaton.specs.Reading.{Passes}
use Rattle.tuple.specs.Step.{run, colour_entered}
use Rattle.tuple.specs.Demand.{demand}
use Rattle.passes.specs.Letter.{letter_at}
use Rattle.passes.specs.declared.Answer.{Answer}
use Rattle.passes.specs.declared.Answer.TheVariants.{Yes, No}
use Rattle.passes.specs.declared.Verdict.{Verdict}
use Rattle.passes.specs.Passes.{AnswerIs, Judges, Sound}
use Rattle.passes.specs.LeastLaws.{least-once, least-lowest}
use Rattle.passes.specs.StretchLaws.{stretch_start, stretch_rest, stretch-stop, stretch-again}

by-parity : (A : Automaton) (w : ℕ → ℕ) (least : ℕ) → (least % 2 ≡ 0) ↔ Passes A w → (answer : Answer) → AnswerIs least answer → Sound A w answer
by-parity A w least h Yes e = h.0 e
by-parity A w least h No e = λ p. (let z = h.1 p in omega arith)

pub sound : {A : Automaton} → Fits A → MeetingFree (graph_of A) → (lead cycle : List ℕ) → 0 < length cycle → ((t : ℕ) → letter_at lead cycle t < A.k)
    → (z : Verdict) → Judges A (letter_at lead cycle) (length lead) (length cycle) z → Sound A (letter_at lead cycle) z.answer
sound {A} fits free lead cycle some letters z h = by-parity A w z.least parity z.answer h.answer
  where
    w : ℕ → ℕ
    w = letter_at lead cycle

    T : ℕ
    T = stretch_start lead cycle some h.earlier z.passes h.repeat.earlier

    d : ℕ
    d = stretch_rest lead cycle some h.earlier z.passes h.repeat.earlier

    later : T + suc d ≡ length lead + z.passes * length cycle
    later = stretch-stop lead cycle some h.earlier z.passes h.repeat.earlier

    parity : (z.least % 2 ≡ 0) ↔ Passes A w
    parity =
        let once = least-once (colour_entered A w) T (T + suc d) _ z.least (least-lowest (colour_entered A w) T d) (rw later h.least) in
        rw once at
        (demand fits free w letters T d (stretch-again lead cycle some h.earlier z.passes h.repeat.earlier) (ap (run A w) later ∙ sym h.repeat.equal))
