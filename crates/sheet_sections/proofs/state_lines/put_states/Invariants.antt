-- `sheet_sections::state_lines::put_states` meets its contract: what is left to write gives the whole. Assumes nothing.
use Rattle.text.specs.PiecesLaws.{Putting}
use Rattle.sheet_sections.specs.StatesLaws.{state_text}
use Rattle.sheet_sections.proofs.state_lines.put_states.Given as goal

abbrev pub invariant-loop-q : goal.invariant-loop-q
invariant-loop-q l = Putting (state_text l.edition l.initial' l.recurring) l.initial.out l.start l.n l.out l.at l.q
