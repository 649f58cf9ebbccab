-- A sheet file read from the top, line by line: questions 2 to 9, 15 and 16 in the order in which a reader asks them.
-- That this is what Format describes is a theorem. A byte past the end is 0, and 0 stands in no line.
use Rattle.std.specs.Prelude.{ℕ, ◌+◌, List, [], length, replicate, ltb}
use Rattle.lists.specs.Choice.{choose}
use Rattle.columns.specs.Pair.{word_and_pair}
use Rattle.automaton.specs.Automaton.{Automaton, TransitionSets, transition_sets}
use Rattle.automaton.specs.declared.Edition.{Edition}
use Rattle.automaton.specs.declared.Edition.TheVariants.{StateBased, TransitionBased}
use Rattle.text.specs.Word.{starts_at}
use Rattle.format.specs.Format.{sheet_word, most_sheet}
use Rattle.frame.specs.Phase.{Phase, refused, passed, and_then, first_phase}
use Rattle.frame.specs.declared.Bounds.{Bounds}
use Rattle.parser.specs.declared.Sizes.{Sizes}
use Rattle.state_lines.specs.declared.Sets.{Sets}
use Rattle.name_lines.specs.NameLines.{Named, names_at}
use Rattle.withdrawal_lines.specs.WithdrawalLines.{Superseded, withdrawals_at}
use Rattle.state_lines.specs.StateLines.{states_at}
use Rattle.transition_lines.specs.TransitionLines.{transitions_at}

-- THE FIRST LINE

-- SHT-2 at the top names the second edition
unfoldable pub edition_of : List ℕ → Edition
edition_of s = choose (starts_at s 0 (sheet_word TransitionBased)) TransitionBased StateBased

-- the edition, n and k
abbrev pub sizes : Edition → ℕ → ℕ → Sizes
sizes e n k = record { edition = e; n = n; k = k }

-- n is 1 to 16 and k 1 to 8
abbrev pub sheet_bounds : Bounds
sheet_bounds = record { least = 1; most = 16; low = 1; high = 8 }

-- "Is the first sheet line of its form? No: 3.": the edition's word, n, k, LF. "Are n and k in range? No: 4."
abbrev pub head_by : Edition → List ℕ → Phase Sizes
head_by e s = first_phase (word_and_pair s (sheet_word e)) sheet_bounds (sizes e) 3 4

unfoldable pub head_of : List ℕ → Phase Sizes
head_of s = head_by (edition_of s) s

-- THE WHOLE FILE

-- what a sheet file holds: its numbers, with the 128 successor sets and those of marked successors, its names composed, and its superseding letters
pub record Contents : Type 0 where
  pub numbers : Automaton
  pub names : List (List ℕ)
  pub superseding : List ℕ

-- what was read in each phase, put together
abbrev pub contents : Sizes → Named → Superseded → Sets → TransitionSets → Contents
contents z y w q sets = record {
  numbers = record { edition = z.edition; n = z.n; k = z.k; initial = q.initial; recurring = q.recurring; table = sets.successors; marks = sets.marks };
  names = y.names;
  superseding = w.cells;
}

-- two tables of 128 empty sets
abbrev pub empty_sets : TransitionSets
empty_sets = transition_sets (replicate 128 0) (replicate 128 0)

-- the phases behind the state lines
abbrev pub after_states : List ℕ → Sizes → Named → Superseded → Sets → Phase Contents
after_states s z y w q =
    and_then (transitions_at z.edition s w.cells z.n z.k q.line q.at 0 empty_sets (length s + 1)) (λ sets. passed (contents z y w q sets))

-- those behind the withdrawal lines
abbrev pub after_withdrawals : List ℕ → Sizes → Named → Superseded → Phase Contents
after_withdrawals s z y w = and_then (states_at z.edition s w.line w.at 0 0 0 z.n) (after_states s z y w)

-- those behind the name lines
abbrev pub after_names : List ℕ → Sizes → Named → Phase Contents
after_names s z y = and_then (withdrawals_at s z.k y.line y.at 0 (replicate 8 0) (length s + 1)) (after_withdrawals s z y)

-- those behind the first line
abbrev pub after_head : List ℕ → Sizes → Phase Contents
after_head s z = and_then (names_at s 2 12 [] z.k) (after_names s z)

-- "Is the sheet at most" so many "bytes ..? No: 2." Then the lines
unfoldable pub parse : List ℕ → Phase Contents
parse s = choose (ltb most_sheet (length s)) (refused 2 0) (and_then (head_of s) (after_head s))
