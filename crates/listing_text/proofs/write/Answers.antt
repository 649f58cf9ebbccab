-- The listing is written at the start, and what lies behind it cleared. Assumes nothing.
use mathlib.Core.Path.{sym, ◌∙◌}
use native.Mathlib.Omega.{arith}
use Rattle.gate.specs.GateLaws.{text-lent}
use Rattle.listing_text.specs.Listing.{listing}
use Rattle.listing_text.specs.PutLaws.{listing-length}
use Rattle.listing_text.proofs.write.Goals as goal

pub returns : goal.returns
returns c =
    let a = c.args in
    let e = c.listing_length-end.ensures in
    let h = c.requires.1 in
    text-lent (listing a.n a.k a.count a.tuples.now a.nexts.now) a.out.now c.put_listing.ensures
    (e ∙ sym (listing-length a.n a.k a.count a.tuples.now a.nexts.now)) (omega arith) c.clear_bytes.ensures
