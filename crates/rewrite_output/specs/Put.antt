-- What the function that writes a refusal is proved against: its text, and what it asks for.
use Rattle.std.specs.Prelude.{ℕ, ◌≤◌, List, [], ◌++◌, eqb, length}
use Rattle.gate.specs.declared.Refusal.{Refusal}
use Rattle.lists.specs.Choice.{choose}
use Rattle.lent.specs.Lent.{WitnessTables, EnoughForWitness}
use Rattle.report.specs.Report.{refusal_line}
use Rattle.witness_text.specs.WitnessText.{witness_text}
use Rattle.rewrite_output.specs.Rewrite.{longest_rewrite}

-- the line of a refusal, and with a 10 its word and walks
unfoldable pub refusal_text : Refusal → WitnessTables → List ℕ
refusal_text r w = refusal_line r.number r.line ++ choose (eqb r.number 10) (witness_text w r.length) []

-- what a refusal with its tables asks for
pub record RefusalFits (r : Refusal) (w : WitnessTables) (out : List ℕ) : Type 0 where
  pub letters : r.length ≤ 136
  pub long : EnoughForWitness w
  pub room : longest_rewrite ≤ length out
