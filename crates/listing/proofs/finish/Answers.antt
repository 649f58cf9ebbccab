-- The answer is that of the last question. Assumes nothing.
use mathlib.Core.Path.{◌≡◌, refl, sym, ◌∙◌}
use lib.ListN.{length}
use Rattle.listing_text.specs.Listing.{listing}
use Rattle.listing_text.specs.PutLaws.{listing-length}
use Rattle.listing.proofs.finish.Goals as goal
use Rattle.listing.proofs.finish.Goals.{After-listing_length-bytes}

length-is : (c : After-listing_length-bytes) →
    let a = c.args in
    length (listing a.n a.k a.count a.tuples.now a.nexts.now) ≡ c.listing_length-bytes.result
length-is c =
    let a = c.args in
    listing-length a.n a.k a.count a.tuples.now a.nexts.now ∙ sym c.listing_length-bytes.ensures

pub returns-then-out-bytes : goal.returns-then-out-bytes
returns-then-out-bytes c =
    ((rw (length-is (goal.at.returns-then-out-bytes c).After-listing_length-bytes) c.if-out-bytes.true, refl, c.clear_bytes.ensures), c.clear.ensures)

pub returns : goal.returns
returns c =
    let e = length-is (goal.at.returns c).After-listing_length-bytes in
    ((sym e, c.if-out-bytes.false, c.write.ensures), refl)
