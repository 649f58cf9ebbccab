-- What is left to write gives the whole. Assumes nothing.
use Prim.Native.Nat.{ℕ, ◌<◌}
use mathlib.Core.Path.{◌≡◌}
use mathlib.Core.List.{List}
use native.Mathlib.Omega.{arith}
use lib.ListN.{length}
use Rattle.filling.specs.TrackerTablesLaws.{room-less}
use Rattle.listing_lines.specs.ListingLine.{tuple_line}
use Rattle.listing_lines.specs.PutLine.{line_bytes}
use Rattle.listing_lines.specs.PutLineLaws.{line-length}
use Rattle.text.specs.PiecesLaws.{put-none, put-room, put-more, put_all}
use Rattle.listing_text.specs.PutLaws.{lines-length}
use Rattle.listing_text.proofs.put_tuples.Goals as goal
use Rattle.listing_text.proofs.put_tuples.Goals.{Start}

-- the lines, each as long
abbrev lines : Start → ℕ → List ℕ
lines c = tuple_line c.args.n c.args.k c.args.tuples.now c.args.nexts.now

long : (c : Start) (t : ℕ) → length (lines c t) ≡ line_bytes c.args.n c.args.k
long c = line-length c.args.n c.args.k c.args.tuples.now c.args.nexts.now

pub loop-t-init : goal.loop-t-init
loop-t-init c =
    let a = c.args in
    put-none (rw (lines-length a.n a.k a.tuples.now a.nexts.now a.count) c.requires.1)

pub put_tuple-requires : goal.put_tuple-requires
put_tuple-requires c =
    let h : c.loop-t.t < c.args.count = c.loop-t-test.true in
    let p = c.requires.0 in
    let z = p.sizes in (
      record { sizes = record { states = z.states; letters = z.letters; most = omega (arith, z.most) }; room = room-less (omega arith) (omega arith) p.room },
      rw (long (goal.at.put_tuple-requires c).Start c.loop-t.t) at (put-room c.loop-t.invariant h),
    )

pub loop-t-preserved : goal.loop-t-preserved
loop-t-preserved c =
    let h = c.loop-t in
    put-more h.invariant c.loop-t-test.true c.put_tuple.ensures (rw (long (goal.at.loop-t-preserved c).Start h.t))

pub returns : goal.returns
returns c = put_all c.loop-t.invariant c.loop-t-test.false
