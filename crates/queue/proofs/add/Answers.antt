-- A pair that is not listed finds room, by the pigeonhole law of RoomLaws. Assumes nothing.
use native.Mathlib.Omega.{arith}
use lib.ListN.{length-set}
use Rattle.queue.specs.Queue.{Only}
use Rattle.queue.specs.RoomLaws.{NewPair, new-pair, old-pair}
use Rattle.queue.specs.PushLaws.{push}
use Rattle.queue.specs.RowLaws.{unchanged}
use Rattle.queue.proofs.add.Goals as goal
use Rattle.queue.proofs.add.Goals.{Then-contains}

new : (c : Then-contains) →
    let a = c.args in
    NewPair a.queue.now a.count a.p a.set a.q
new c =
    new-pair c.args.set c.args.q c.requires.0 c.requires.1 c.minus.ensures c.contains.ensures c.if-contains.true

pub overflow_cast-queue : goal.overflow_cast-queue
overflow_cast-queue c =
    let n = new (goal.at.overflow_cast-queue c).Then-contains in
    let p = c.requires in
    let d = p.0.deep in
    let s = p.0.state in
    omega arith

pub bounds-queue-count-then-contains : goal.bounds-queue-count-then-contains
bounds-queue-count-then-contains c =
    let n = new (goal.at.bounds-queue-count-then-contains c).Then-contains in
    let l = c.requires.0.queue.size in
    simp length-set (omega arith)

pub bounds-queue-p-then-contains : goal.bounds-queue-p-then-contains
bounds-queue-p-then-contains c =
    let p = c.requires in
    let l = p.0.queue.size in
    let s = p.0.state in
    simp length-set (omega arith)

pub returns-then-contains : goal.returns-then-contains
returns-then-contains c =
    let a = c.args in
    let n = new (goal.at.returns-then-contains c).Then-contains in
    rw c.insert.ensures
    (push a.q a.origin c.requires.0 c.requires.1 n.room n.new a.set n.member)

pub returns : goal.returns
returns c =
    let a = c.args in
    unchanged (Only a.set a.q) c.requires.0
    (old-pair a.set a.q c.requires.0 c.requires.1 c.minus.ensures c.contains.ensures c.if-contains.false)
