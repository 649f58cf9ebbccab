-- The first line, the lines of the tuples and the last line follow one another. Assumes nothing.
use Prim.Native.Nat.{◌+◌, ◌-◌, ◌*◌}
use mathlib.Core.Path.{◌≡◌, sym}
use native.Mathlib.Omega.{arith}
use Rattle.listing_lines.specs.PutLine.{line_bytes}
use Rattle.listing_text.specs.PutLaws.{listing-put}
use Rattle.listing_text.proofs.put_listing.Goals as goal

pub returns : goal.returns
returns c =
    let a = c.args in
    let e : c.listing_length-end.result - 4 ≡ 17 + a.count * line_bytes a.n a.k = omega (arith, c.listing_length-end.ensures) in
    rw (c.put_bytes.ensures, e, c.put_tuples.ensures, c.put_first.ensures)
    (sym (listing-put a.out.now a.n a.k a.count a.tuples.now a.nexts.now))
