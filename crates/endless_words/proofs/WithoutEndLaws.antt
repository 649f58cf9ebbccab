-- The least colour entered without end: it is one, and the first colours do not count. Assumes nothing.
use Rattle.std.specs.Prelude.{ℕ, ◌+◌, ◌-◌, ◌≡◌, ◌↔◌}
use Rattle.std.proofs.Common.{ap, ◌∙◌, arith}
use Rattle.theory.specs.Run.{EnteredWithoutEnd, Least}
use Rattle.endless_words.specs.EndlessWord.{LeastWithoutEnd}

pub eventually-least : {col : ℕ → ℕ} {c : ℕ} → Least col c → LeastWithoutEnd col c
eventually-least h = record { entered = h.often; least = λ d without. let (u, l, e) = without h.from in let x = h.low u l in omega arith }

-- there is one at most
pub one-least : {col : ℕ → ℕ} {c d : ℕ} → LeastWithoutEnd col c → LeastWithoutEnd col d → c ≡ d
one-least {col} {c} {d} h k = omega (arith, h.least d k.entered, k.least c h.entered)

-- the first T colours do not count
module _ (col : ℕ → ℕ) (T : ℕ) where
  entered-later : (c : ℕ) → EnteredWithoutEnd col c ↔ EnteredWithoutEnd (λ t. col (T + t)) c
  entered-later c = (
    λ without t.
        let (u, l, e) = without (T + t) in
        let x : T + (u - T) ≡ u = omega arith in
        (u - T, omega arith, ap col x ∙ e),
    λ without t. let (u, l, e) = without t in (T + u, omega arith, e),
  )

  pub least-later : (c : ℕ) → LeastWithoutEnd col c ↔ LeastWithoutEnd (λ t. col (T + t)) c
  least-later c = (
    λ h. record { entered = (entered-later c).0 h.entered; least = λ d k. h.least d ((entered-later d).1 k) },
    λ h. record { entered = (entered-later c).1 h.entered; least = λ d k. h.least d ((entered-later d).0 k) },
  )
