-- Words in the order of the letters. Assumes nothing.
use Rattle.std.specs.Prelude.{ℕ, ◌≤◌, ◌<◌, ◌≡◌, List, length, get_or, take}
use Rattle.std.proofs.Common.{sym, ap, subst, ◌∙◌, arith, get_or-take, length-take-le}
use Rattle.std.proofs.Math.Decide.{dec_lt}
use Rattle.ways.specs.Way.{Precedes}

pub precedes-chain : (v w x : List ℕ) → Precedes v w → Precedes w x → Precedes v x
precedes-chain v w x p q = by (dec_lt p.place q.place) (dec_lt q.place p.place)
  where
    by : Dec (p.place < q.place) → Dec (q.place < p.place) → Precedes v x
    by (yes h) k = record {
      place = p.place;
      within = p.within;
      alike = λ i l. p.alike i l ∙ q.alike i (omega arith);
      smaller = subst (λ (n : ℕ). get_or v p.place 0 < n) (q.alike p.place h) p.smaller;
    }
    by (no h) (yes k) = record {
      place = q.place;
      within = omega (arith, p.within);
      alike = λ i l. p.alike i (omega arith) ∙ q.alike i l;
      smaller = subst (λ (n : ℕ). n < get_or x q.place 0) (sym (p.alike q.place k)) q.smaller;
    }
    by (no h) (no k) =
        let e : q.place ≡ p.place = omega arith in
        let s : get_or w p.place 0 < get_or x p.place 0 = subst (λ (i : ℕ). get_or w i 0 < get_or x i 0) e q.smaller in
        record {
          place = p.place;
          within = p.within;
          alike = λ i l. p.alike i l ∙ q.alike i (omega arith);
          smaller = omega (arith, p.smaller, s);
        }

-- told by their first d letters
pub precedes-front : (d : ℕ) (v w : List ℕ) → d ≤ length v → Precedes (take d v) (take d w) → Precedes v w
precedes-front d v w h p =
    let size : length (take d v) ≡ d = length-take-le d v h in
    let below : p.place < d = omega (arith, p.within) in
    record {
      place = p.place;
      within = omega arith;
      alike = λ i l. sym (get_or-take d v i 0 (omega arith)) ∙ (p.alike i l ∙ get_or-take d w i 0 (omega arith));
      smaller = subst (λ (n : ℕ). n < get_or w p.place 0) (get_or-take d v p.place 0 below)
          (subst (λ (n : ℕ). get_or (take d v) p.place 0 < n) (get_or-take d w p.place 0 below) p.smaller);
    }

-- or, where these are the same, by the next
pub precedes-last : (d : ℕ) (v w : List ℕ) → d < length v → take d v ≡ take d w → get_or v d 0 < get_or w d 0 → Precedes v w
precedes-last d v w h e l = record {
  place = d;
  within = h;
  alike = λ i k. sym (get_or-take d v i 0 k) ∙ (ap (λ (t : List ℕ). get_or t i 0) e ∙ get_or-take d w i 0 k);
  smaller = l;
}
