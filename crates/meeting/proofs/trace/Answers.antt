-- The invariant: the tables hold the walks from time t on, where they are in pair i. Assumes nothing.
use Prim.Native.Nat.{ℕ, suc, ◌/◌, ◌-◌, ◌<◌}
use mathlib.Core.Path.{◌≡◌, subst, ◌∙◌}
use native.Mathlib.Omega.{arith}
use Rattle.lent.specs.Lent.{witness_tables}
use Rattle.queue.specs.Queue.{pair, depth}
use Rattle.meeting.specs.Trace.{Leads}
use Rattle.meeting.specs.TraceLaws.{leads-step}
use Rattle.meeting.proofs.trace.Goals as goal
use Rattle.meeting.proofs.trace.Goals.{After-number-o}

-- the pair before
back : (c : After-number-o) →
    let T = c.args.queue.now in
    let i = c.loop-t.i in
    (c.number-o.result / 8 < i) × (depth (pair T i) ≡ suc (depth (pair T (c.number-o.result / 8))))
back c =
    let l = c.loop-t in
    rw c.number-o.ensures (c.requires.linked l.i l.invariant.0 (omega arith))

pub loop-t-preserved : goal.loop-t-preserved
loop-t-preserved c =
    let n = c.note in
    let k = c.number in
    let l = c.loop-t in
    let a = c.args in
    let z = back (goal.at.loop-t-preserved c).After-number-o in
    let u : l.t ≡ suc (l.t - 1) = omega arith in (
      omega arith,
      omega arith,
      omega arith,
      n.auto.word ∙ l.invariant.3,
      n.auto.one ∙ l.invariant.4,
      n.auto.other ∙ l.invariant.5,
      leads-step c.number-o.result k.result (l.t - 1) u c.number-o.ensures k.ensures (omega arith) (omega arith) (omega arith) n.ensures l.invariant.6,
    )

pub returns : goal.returns
returns c =
    let a = c.args in
    let l = c.loop-t in
    let e : l.t ≡ 0 = omega arith in
    (l.i, subst (λ (t : ℕ). Leads a.queue.now a.head a.d t l.i (witness_tables a.word.now a.one.now a.other.now) (witness_tables l.word l.one l.other)) e l.invariant.6)
