-- `text::put_bytes` meets its contract. With what is left of it the whole word is stored: `Storing`. Assumes nothing.
use Rattle.lists.specs.StoreLaws.{store-none, store-more, store-end}
use borrow.Author.Rules.{rules}
use Rattle.text.proofs.put_bytes.Goals as goal

pub loop-i-init : goal.loop-i-init
loop-i-init c = store-none _ _ _

pub loop-i-preserved : goal.loop-i-preserved
loop-i-preserved c = store-more c.loop-i.invariant (search rules)

pub returns : goal.returns
returns c = store-end c.loop-i.invariant (search rules)
