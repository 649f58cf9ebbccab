-- What a program's function leaves in its buffer, and that the bytes that a program reads are enough. Assumes nothing.
use Rattle.std.specs.Prelude.{ℕ, ◌+◌, ◌-◌, ◌≤◌, ◌<◌, ◌≡◌, List, ◌↔◌, length, take, drop, replicate}
use Rattle.std.proofs.Common.{sym, ap, ◌∙◌, arith, zero-add, take_all, length-take-le}
use Rattle.std.proofs.Math.Decide.{dec_lt}
use Rattle.std.proofs.lemmas.List.Edits.{sets, sets-eq}
use Rattle.gate.specs.Gate.{cleared, lent_text}
use Rattle.gate.specs.GateLaws.{padded-length, drop-zeros, same-cleared, length-cleared}
use Rattle.report.specs.Output.{Prints, TooLong}

-- THE BUFFER

module _ {Output : List ℕ → Type 0} {longest : ℕ} {b c : List ℕ} {count : ℕ} where
  -- it keeps its length
  pub prints-kept : Prints Output longest b c count → length c ≡ length b
  prints-kept (Prints.short l e f) = ap length f
  prints-kept (Prints.printed l text o e m f) = ap length f ∙ padded-length (length b) text (omega arith)

  -- and the bytes that are counted stand in it
  pub prints-within : Prints Output longest b c count → count ≤ length c
  prints-within p = by p (prints-kept p)
    where
      by : Prints Output longest b c count → length c ≡ length b → count ≤ length c
      by (Prints.short l e f) k = omega arith
      by (Prints.printed l text o e m f) k = omega arith

  -- as many as are taken
  pub prints-count : Prints Output longest b c count → count ≡ length (take count c)
  prints-count p = sym (length-take-le count c (prints-within p))

-- a buffer that was cleared is all zero
pub zero-again : (b c : List ℕ) → c ≡ cleared b → c ≡ cleared c
zero-again b c e = e ∙ same-cleared c b (sym (ap length e ∙ length-cleared b))

-- a text at the front of a buffer that is all zero
pub front-lent : (text b : List ℕ) {c : List ℕ} → b ≡ cleared b → length text ≤ length b → c ≡ sets b 0 text → c ≡ lent_text text b
front-lent text b {c} zero h e =
    let n = length b in
    let put = sets-eq text b 0 (rw zero-add (omega arith)) in
    let back : drop (length text) b ≡ replicate (n - length text) 0 = ap (drop (length text)) zero ∙ drop-zeros (length text) n in
    e ∙ put ∙ rw (zero-add, back)

-- a text in one buffer and in another as long
pub same-lent : (text b c : List ℕ) → length c ≡ length b → lent_text text c ≡ lent_text text b
same-lent text b c k = rw k

-- WHAT IS READ IS ENOUGH: one byte more than the most, whatever follows it
pub enough : {Output : List ℕ → List ℕ → Type 0} {most : ℕ} {line : List ℕ} → TooLong Output most line
    → (s text : List ℕ) → Output s text ↔ Output (take (most + 1) s) text
enough {Output} {most} {line} long s text = by (dec_lt most (length s))
  where
    by : Dec (most < length s) → Output s text ↔ Output (take (most + 1) s) text
    by (yes h) =
        let k = length-take-le (most + 1) s (omega arith) in
        let (a, b) = long s text h in
        let (c, d) = long (take (most + 1) s) text (omega arith) in
        (λ o. d (a o), λ o. b (c o))
    by (no h) = rw (take_all (most + 1) s (omega arith)) (λ o. o, λ o. o)
