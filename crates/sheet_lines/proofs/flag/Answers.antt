-- A bit is 1 or 0. Assumes nothing.
use Rattle.std.specs.Prelude.{ℕ, ◌≡◌, refl, Bool, true, false}
use Rattle.std.proofs.Common.{sym, ◌∙◌}
use mir.Val.{bool_byte}
use Rattle.sets.specs.Sets.{bit, Member}
use Rattle.sets.specs.SetLaws.{bit-out}
use Rattle.sheet_lines.proofs.flag.Goals as goal

flag-is : (x q : ℕ) (b : Bool) → (b ≡ true → Member x q) → (b ≡ false → Member x q → ⊥) → bool_byte b ≡ bit x q
flag-is x q true member other = sym (member refl)
flag-is x q false member other = sym (bit-out x q (other refl))

pub returns : goal.returns
returns c =
    let answer = c.contains in
    c.from.ensures ∙ flag-is c.args.set c.args.q answer.result answer.ensures.0 answer.ensures.1
