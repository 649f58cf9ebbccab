-- One step of the definition of the state lines, which the loop goes along. Assumes nothing.
use Rattle.std.specs.Prelude.{ℕ, ◌+◌, ◌-◌, ◌*◌, ◌^◌, ◌<◌, ◌≤◌, ◌≡◌, List, Option}
use Rattle.std.proofs.Common.{sym, pow-add, one-mul, mul-le-mul_right, sub-eq-zero_of_le}
use Rattle.automaton.specs.declared.Edition.{Edition}
use Rattle.format.specs.Format.{state_width}
use Rattle.state_lines.specs.StateLines.{with_flags, state_line_at, states_at}
use Rattle.frame.specs.Phase.{refused, passed}
use Rattle.lists.specs.LeftLaws.{left-more}

-- a flag times a number is at most the number
pub flag-part : (a b : ℕ) → a ≤ 1 → a * b ≤ b
flag-part a b h = rw one-mul at (mul-le-mul_right b h)

pub double : (q : ℕ) → 2 ^ q * 2 ≡ 2 ^ (q + 1)
double q = sym (pow-add 2 q 1)

-- THE STATE LINES: q of n are read
module _ (e : Edition) (s : List ℕ) (line at q initial recurring n : ℕ) where
  pub states-turn :
      {w : Option (ℕ × ℕ)} → q < n → state_line_at e s at q ≡ w →
      states_at e s line at q initial recurring (n - q) ≡
      with_flags w (λ i r. states_at e s (line + 1) (at + state_width e) (q + 1) (initial + i * 2 ^ q) (recurring + r * 2 ^ q) (n - (q + 1))) (refused 7 line)
  unfolding states_at
  states-turn h f = rw (left-more h) (simp f)

  pub states-done :
      n ≤ q →
      states_at e s line at q initial recurring (n - q) ≡ passed (record { initial = initial; recurring = recurring; at = at; line = line })
  unfolding states_at
  states-done h = rw (sub-eq-zero_of_le h)
