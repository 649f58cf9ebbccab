-- The byte at the place reached decides the answer, or the rest of the word does. Assumes nothing.
use mathlib.Core.Path.{sym, ◌∙◌}
use native.Mathlib.Omega.{arith}
use Rattle.text.specs.WordLaws.{starts-yes, starts-no, starts-all}
use Rattle.text.proofs.starts_at.Goals as goal

pub returns-then-byte_at-b : goal.returns-then-byte_at-b
returns-then-byte_at-b c =
    sym (starts-no c.args.s.now c.args.word.now c.args.at c.loop-i.i (omega arith) (λ e. c.if-byte_at-b.true (c.byte_at.ensures ∙ e))) ∙ c.loop-i.invariant

pub loop-i-preserved : goal.loop-i-preserved
loop-i-preserved c =
    sym (starts-yes c.args.s.now c.args.word.now c.args.at c.loop-i.i (omega arith) (sym c.byte_at.ensures ∙ c.if-byte_at-b.false)) ∙ c.loop-i.invariant

pub returns : goal.returns
returns c = sym (starts-all c.args.s.now c.args.word.now c.args.at c.loop-i.i (omega arith)) ∙ c.loop-i.invariant
