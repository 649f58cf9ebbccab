-- The loop's invariant: the number reached on the letters read, and the least colour of those entered. Assumes nothing.
use Prim.Native.Nat.{ℕ, suc, ◌+◌, ◌*◌, ◌<◌}
use mathlib.Core.Path.{◌≡◌, refl, sym, ◌∙◌, ap}
use native.Mathlib.Omega.{arith}
use native.Mathlib.Numerals.{add-one}
use lib.ListN.{get_or}
use Rattle.std.specs.Prelude.{min}
use Rattle.tuple_record.specs.Record.{set_cells, record_start, colour_in}
use Rattle.passes.specs.TableRun.{reached, entered_in}
use Rattle.passes.specs.LeastLaws.{LeastSoFar, so_far_more}
use Rattle.passes.specs.TableRunLaws.{reached-none, reached-more}
use borrow.Author.Rules.{rules}
use Rattle.passes.proofs.follow.Goals as goal

more : (f : ℕ → ℕ) (i v : ℕ) {x w : ℕ} → LeastSoFar f i v → f i ≡ x → x < 65536 → w ≡ min v x → LeastSoFar f (i + 1) w
more f i v h p s e = rw (e, ← p) (so_far_more f i v h (rw p s))

pub loop-i-init : goal.loop-i-init
loop-i-init c =
    let a = c.args in
    (search rules, sym (reached-none a.nexts.now a.start _), record { none = λ e. refl; some = λ l. absurd (omega arith) })

pub loop-i-preserved : goal.loop-i-preserved
loop-i-preserved c =
    let a = c.args in
    let v = c.loop-i in
    let w : ℕ → ℕ = λ j. get_or a.letters.now (a.from + j) 0 in
    let n = c.next-at in
    let e : n.result ≡ reached a.nexts.now a.start w (suc v.i) =
    n.ensures.0
    ∙ (ap (λ (x : ℕ). get_or a.nexts.now (8 * v.at + x) 0) c.letter.ensures.0
    ∙ (ap (λ (x : ℕ). get_or a.nexts.now (8 * x + w v.i) 0) v.invariant.1 ∙ reached-more a.nexts.now a.start w v.i)) in
    let f : entered_in a.tuples.now a.nexts.now a.start w v.i ≡ colour_in a.tuples.now n.result =
    ap (colour_in a.tuples.now) (sym e) in
    let small = c.type_inv.tuples (record_start n.result + set_cells) in
    let l = more (entered_in a.tuples.now a.nexts.now a.start w) v.i v.least v.invariant.2 f small.fits (search rules) in
    (n.ensures.1, rw add-one e, l)

pub returns : goal.returns
returns c =
    let a = c.args in
    let v = c.loop-i in
    let e : v.i ≡ a.size = omega arith in
    record { end = rw e at v.invariant.1; below = v.invariant.0; least = λ l. (rw e at v.invariant.2).some l }
