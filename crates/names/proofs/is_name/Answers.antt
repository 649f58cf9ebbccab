-- `names::is_name` meets its contract: a list of 1 to 24 bytes is a name exactly if its parts end where it ends. Assumes nothing.
use mathlib.Core.Path.{sym, ◌∙◌}
use native.Mathlib.Omega.{arith}
use Rattle.gate.specs.GateLaws.{decides-yes, decides-no}
use Rattle.names.specs.ScanLaws.{whole_is, whole-ends}
use Rattle.names.proofs.is_name.Goals as goal

pub returns-then-n-lt1 : goal.returns-then-n-lt1
returns-then-n-lt1 c = decides-no (λ n. omega (arith, n.some))

pub returns-then-n-gt24 : goal.returns-then-n-gt24
returns-then-n-gt24 c = decides-no (λ n. omega (arith, n.most))

pub returns-then-parts_end-n : goal.returns-then-parts_end-n
returns-then-parts_end-n c =
    decides-no (λ n. c.if-parts_end-n.true (c.parts_end.ensures.0 ∙ whole-ends c.args.name.now n))

pub returns : goal.returns
returns c =
    let name = c.args.name.now in
    decides-yes (whole_is name (omega arith) (omega arith) (sym c.parts_end.ensures.0 ∙ c.if-parts_end-n.false))
