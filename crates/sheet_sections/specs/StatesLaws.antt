-- The state lines are the lines of the states one by one. Assumes nothing.
use Rattle.std.specs.Prelude.{ℕ, zero, suc, ◌≡◌, refl, List, ◌++◌}
use Rattle.std.proofs.Common.{ap}
use Rattle.text.specs.Pieces.{pieces}
use Rattle.automaton.specs.declared.Edition.{Edition}
use Rattle.format.specs.Format.{state_line, state_lines}
use Rattle.format.specs.Written.{state_of, states_of}

-- the line of state q
abbrev pub state_text : Edition → ℕ → ℕ → ℕ → List ℕ
state_text e initial recurring q = state_line e q (state_of initial recurring q)

pub states-pieces : (e : Edition) (initial recurring n q : ℕ) → state_lines e q (states_of initial recurring q n) ≡ pieces (state_text e initial recurring) q n
unfolding state_lines states_of pieces
states-pieces e initial recurring zero q = refl
states-pieces e initial recurring (suc n) q = ap (state_text e initial recurring q ++◌) (states-pieces e initial recurring n (suc q))
