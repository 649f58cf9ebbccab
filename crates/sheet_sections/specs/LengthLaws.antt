-- How many states and transitions are written, and how many bytes their lines and those of withdrawals have. Assumes nothing.
use Rattle.std.specs.Prelude.{ℕ, zero, suc, ◌*◌, ◌≤◌, ◌≡◌, refl, List, [], ◌∷◌, length}
use Rattle.std.proofs.Common.{sym, ap, arith, mul-zero, mul-suc}
use Rattle.automaton.specs.declared.Edition.{Edition}
use Rattle.format.specs.Format.{State, Transition, Withdrawal, state_width, transition_width, withdrawal_lines, state_lines, transition_lines}
use Rattle.format.proofs.FormatLaws.{withdrawal-behind, state-behind, transition-behind}
use Rattle.format.specs.Numbers.{where_member}
use Rattle.format.specs.Written.{states_of, bit_at, placed, transitions_of}

pub states_of-length : (initial recurring n q : ℕ) → length (states_of initial recurring q n) ≡ n
unfolding states_of
states_of-length initial recurring zero q = refl
states_of-length initial recurring (suc n) q = ap suc (states_of-length initial recurring n (suc q))

-- at most as many transitions as places
pub transitions_of-most : (T marks : List ℕ) (left i : ℕ) → length (transitions_of T marks i left) ≤ left
unfolding transitions_of
transitions_of-most T marks zero i = omega arith
transitions_of-most T marks (suc left) i = by (bit_at T i) (transitions_of-most T marks left (suc i))
  where
    by : (b : ℕ) → length (transitions_of T marks (suc i) left) ≤ left → length (where_member b (placed marks i) (transitions_of T marks (suc i) left)) ≤ suc left
    by zero h = omega arith
    by (suc b) h = omega arith

pub withdrawals-length : (ws : List Withdrawal) → length (withdrawal_lines ws) ≡ 8 * length ws
unfolding withdrawal_lines
withdrawals-length [] = refl
withdrawals-length (w ∷ ws) = omega (arith, withdrawal-behind 0 w ws, withdrawals-length ws)

pub states-length : (e : Edition) (q : ℕ) (zs : List State) → length (state_lines e q zs) ≡ state_width e * length zs
unfolding state_lines
states-length e q [] = sym (mul-zero (state_width e))
states-length e q (z ∷ zs) = omega (arith, state-behind e 0 q z zs, states-length e (suc q) zs, mul-suc (state_width e) (length zs))

pub transitions-length : (e : Edition) (ts : List Transition) → length (transition_lines e ts) ≡ transition_width e * length ts
unfolding transition_lines
transitions-length e [] = sym (mul-zero (transition_width e))
transitions-length e (t ∷ ts) = omega (arith, transition-behind e 0 t ts, transitions-length e ts, mul-suc (transition_width e) (length ts))
