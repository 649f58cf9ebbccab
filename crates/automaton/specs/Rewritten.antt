-- Document 02, R-9: a sheet "rewritten with a mark on every transition into a must-recur state".
use Rattle.std.specs.Prelude.{map}
use Rattle.sets.specs.Sets.{inter_of}
use Rattle.automaton.specs.Automaton.{Automaton}
use Rattle.automaton.specs.declared.Edition.TheVariants.{TransitionBased}

abbrev pub marked_into : Automaton → Automaton
marked_into A = record {
  edition = TransitionBased;
  n = A.n;
  k = A.k;
  initial = A.initial;
  recurring = 0;
  table = A.table;
  marks = map (λ x. inter_of x A.recurring) A.table;
}
