-- The pair found joins on a letter to some state; the word fits its table, since a shortest one has at most 136 letters. Assumes nothing.
use Prim.Native.Nat.{◌/◌, ◌<◌}
use mathlib.Core.Path.{sym, ap, subst}
use native.Mathlib.Omega.{arith}
use lib.ListN.{length-set}
use Rattle.queue.specs.Queue.{depth}
use Rattle.pair_search.specs.JoinLaws.{common-none}
use Rattle.pair_search.specs.Search.{LeastJoining, Joining}
use Rattle.meeting.specs.WitnessLaws.{found-joins, witness-of}
use Rattle.meeting.specs.TraceLaws.{linked}
use Rattle.meeting.proofs.witness.Goals as goal
use Rattle.meeting.proofs.witness.Goals.{After-unwrap-l, After-number-e}

deep : (c : After-number-e) → c.number-e.result / 256 < 136
deep c = rw c.number-e.ensures c.requires.1.most

-- the letter is the least on which the pair joins
least : (c : After-unwrap-l) → LeastJoining c.args.table.now c.args.counts c.number-e.result c.unwrap-l.result
least c = subst (Joining c.args.table.now c.args.counts c.number-e.result) c.unwrap-l.ensures c.joining.ensures

pub unwrap-l-requires : goal.unwrap-l-requires
unwrap-l-requires c = found-joins c.joining.result c.requires.1 c.number-e.ensures c.joining.ensures

pub member-z-requires : goal.member-z-requires
member-z-requires c =
    λ z. common-none c.common.ensures z (least (goal.at.member-z-requires c).After-unwrap-l).joins

pub trace-requires : goal.trace-requires
trace-requires c =
    let p = c.requires in
    let d = deep (goal.at.trace-requires c).After-number-e in
    let k = c.note.auto in
    let long = p.0.long in
    record {
      size = p.1.size;
      some = p.1.some;
      linked = linked p.1.justified;
      deep = ap depth (sym c.number-e.ensures);
      word = omega arith;
      one = simp length-set (omega arith);
      other = simp length-set (omega arith);
    }

pub returns : goal.returns
returns c =
    let p = c.requires in
    let r = c.common in
    let z = c.member-z in
    (omega arith, witness-of r.result z.result p.0 p.1 c.number-e.ensures (least (goal.at.returns c).After-unwrap-l) r.ensures z.ensures.1 c.note.ensures c.trace.ensures.1)
