-- From one way to say which states count to another. Assumes nothing.
use Rattle.std.specs.Prelude.{ℕ, ◌↔◌, Option}
use Rattle.automaton.specs.Graph.{Graph}
use Rattle.automaton.specs.MeetingLaws.{free-fewer, witness-same}
use Rattle.lent.specs.Lent.{WitnessTables}
use Rattle.pairs.specs.Joining.{Backwards}
use Rattle.meeting.specs.Answer.{Answered}

module _ {G : Graph} {Counts Others : ℕ → Type 0} (same : (q : ℕ) → Counts q ↔ Others q) where
  pub backwards-same : Backwards G Others → Backwards G Counts
  backwards-same back l q r e c = (same q).1 (back l q r e ((same r).0 c))

  pub answer-same : {v w : WitnessTables} {r : Option ℕ} → Answered G Counts v w r → Answered G Others v w r
  answer-same a = record {
    free = λ e. free-fewer (λ q. (same q).1) (a.free e);
    kept = a.kept;
    witness = λ d e. (let (l, x) = a.witness d e in (l, witness-same same x));
    lengths = a.lengths;
  }
