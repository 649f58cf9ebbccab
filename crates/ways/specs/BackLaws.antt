-- The cells of a tuple table followed back: one number of steps, and one word. Assumes nothing.
use Prim.Native.Nat.{ℕ, zero, suc, ◌+◌, ◌-◌, ◌<◌}
use Rattle.std.specs.Prelude.{◌≡◌, List, length, get_or, take}
use Rattle.std.proofs.Math.Path.{refl, ap}
use Rattle.std.proofs.Common.{sym, subst, ◌∙◌, arith, length-take-le, get_or-take, ext_get_or}
use Rattle.tuple_record.specs.Record.{from_in, letter_in}
use Rattle.ways.specs.Way.{back, Reaches, Spells}

module _ (tuples : List ℕ) where
  pub back_none : (t : ℕ) → back tuples t 0 ≡ t
  unfolding back
  back_none t = refl

  pub back_more : (t i : ℕ) → back tuples t (suc i) ≡ from_in tuples (back tuples t i)
  unfolding back
  back_more t i = refl

  -- one step back, and then i
  pub back_from : (t i : ℕ) → back tuples t (suc i) ≡ back tuples (from_in tuples t) i
  unfolding back
  back_from t zero = refl
  back_from t (suc i) = ap (from_in tuples) (back_from t i)

  pub reaches-zero : Reaches tuples 0 0
  unfolding back
  reaches-zero = record { end = refl; sooner = λ i h. absurd (omega arith) }

  pub reaches_more : (t d : ℕ) → 0 < t → Reaches tuples (from_in tuples t) d → Reaches tuples t (suc d)
  reaches_more t d h r = record { end = back_from t d ∙ r.end; sooner = sooner }
    where
      sooner : (i : ℕ) → i < suc d → back tuples t i ≡ 0 → ⊥
      sooner zero l e = let z : t ≡ 0 = sym (back_none t) ∙ e in omega arith
      sooner (suc i) l e = r.sooner i (omega arith) (sym (back_from t i) ∙ e)

  pub reaches-less : (t d : ℕ) → Reaches tuples t (suc d) → Reaches tuples (from_in tuples t) d
  reaches-less t d r = record {
    end = sym (back_from t d) ∙ r.end;
    sooner = λ i l e. r.sooner (suc i) (omega arith) (back_from t i ∙ e);
  }

  pub reaches_some : (t d : ℕ) → Reaches tuples t (suc d) → t ≡ 0 → ⊥
  unfolding back
  reaches_some t d r e = r.sooner 0 (omega arith) e

  pub reaches-none : (t : ℕ) → Reaches tuples t 0 → t ≡ 0
  unfolding back
  reaches-none t r = r.end

  -- in one number of steps
  pub reaches-once : (t d e : ℕ) → Reaches tuples t d → Reaches tuples t e → d ≡ e
  reaches-once t d e r s =
      let a : d < e → ⊥ = λ h. s.sooner d h r.end in
      let b : e < d → ⊥ = λ h. r.sooner e h s.end in
      omega arith

  -- so one word is spelled
  pub spells-once : (t : ℕ) (v w : List ℕ) → Spells tuples t v → Spells tuples t w → v ≡ w
  spells-once t v w p q =
      let e = reaches-once t (length v) (length w) p.reaches q.reaches in
      ext_get_or 0 v w e (λ j h. letter j (length v) h refl e)
    where
      letter : (j n : ℕ) → j < n → n ≡ length v → length v ≡ length w → get_or v j 0 ≡ get_or w j 0
      letter j n h l e =
          let i = length v - suc j in
          let k : i + suc j ≡ length v = omega arith in
          p.letter i j k ∙ sym (q.letter i j (k ∙ e))

  -- one step back spells the word without its last letter
  pub spells-less : (t d : ℕ) (word : List ℕ) → length word ≡ suc d → Spells tuples t word → Spells tuples (from_in tuples t) (take d word) × (get_or word d 0 ≡ letter_in tuples t)
  spells-less t d word e s =
      let size : length (take d word) ≡ d = length-take-le d word (omega arith) in (
        record {
          reaches = subst (Reaches tuples (from_in tuples t)) (sym size) (reaches-less t d (subst (Reaches tuples t) e s.reaches));
          letter = λ i j k.
              (get_or-take d word j 0 (omega arith) ∙ (s.letter (suc i) j (omega arith) ∙ ap (letter_in tuples) (back_from t i)));
        },
        s.letter 0 d (omega arith) ∙ ap (letter_in tuples) (back_none t),
      )
