-- The way back while it is followed, and while its letters are written. Assumes nothing.
use Rattle.std.specs.Prelude.{ℕ, suc, ◌+◌, ◌-◌, ◌≤◌, ◌<◌, ◌≡◌, refl, List, length, get_or, set, take, replicate}
use Rattle.std.proofs.Common.{sym, ap, subst, ◌∙◌, add-one, arith, length-set, get_or-set_same, get_or-set_other, get_or-take, length-take-le, get_or-append-add, ext_get_or}
use Rattle.std.proofs.Math.Decide.{ℕ_discrete, dec_lt}
use Rattle.std.proofs.Math.ListN.{get_or-append}
use Rattle.gate.specs.Gate.{cleared, padded}
use Rattle.gate.specs.GateLaws.{zeros, zero-cleared, length-cleared, padded-length}
use Rattle.tuple_record.specs.Record.{from_in, letter_in}
use Rattle.ways.specs.Way.{back, Reaches, Spelled}
use Rattle.ways.specs.BackLaws.{back_none, back_more}
use Rattle.ways.specs.Spell.{LeadsDown, DepthIs, Spelling}

-- FOLLOWED d steps back, to `at`
pub record Followed (tuples : List ℕ) (count t d at : ℕ) : Type 0 where
  pub is : at ≡ back tuples t d
  pub sooner : (i : ℕ) → i < d → back tuples t i ≡ 0 → ⊥
  pub below : at + d < count

pub followed-none : (tuples : List ℕ) {count t : ℕ} → t < count → Followed tuples count t 0 t
followed-none tuples {count} {t} h = record { is = sym (back_none tuples t); sooner = λ i l. absurd (omega arith); below = omega arith }

module _ {tuples : List ℕ} {count t d at : ℕ} (f : Followed tuples count t d at) where
  pub followed-more : LeadsDown tuples count → 0 < at → {next : ℕ} → next ≡ from_in tuples at → Followed tuples count t (d + 1) next
  followed-more down h {next} e =
      let l = f.below in
      let k = down.down at h (omega arith) in
      record {
        is = e ∙ ap (from_in tuples) f.is ∙ sym (ap (back tuples t) (add-one d) ∙ back_more tuples t d);
        sooner = λ i g. sooner i g (ℕ_discrete i d);
        below = omega arith;
      }
    where
      sooner : (i : ℕ) → i < d + 1 → Dec (i ≡ d) → back tuples t i ≡ 0 → ⊥
      sooner i g (yes q) z = let y = f.is ∙ ap (back tuples t) (sym q) ∙ z in omega arith
      sooner i g (no q) z = f.sooner i (omega arith) z

  pub followed-end : at ≤ 0 → DepthIs tuples count t d
  followed-end h = record { reaches = record { end = sym f.is ∙ omega arith; sooner = f.sooner }; few = omega (arith, f.below) }

-- WRITTEN from the last letter on: `left` letters are not, and the way has been followed to `at`
pub record Writing (tuples : List ℕ) (count t d : ℕ) (before letters : List ℕ) (at left : ℕ) : Type 0 where
  pub within : left ≤ d
  pub kept : length letters ≡ length before
  pub is : at ≡ back tuples t (d - left)
  pub below : at < count
  pub written : (i j : ℕ) → i + suc j ≡ d → left ≤ j → get_or letters j 0 ≡ letter_in tuples (back tuples t i)
  pub zero : (j : ℕ) → d ≤ j → get_or letters j 0 ≡ 0

module _ {tuples : List ℕ} {count t d : ℕ} {before : List ℕ} (s : Spelling tuples count t d before) where
  pub writing-none : Writing tuples count t d before before t d
  writing-none =
      let e : d - d ≡ 0 = omega arith in
      record {
        within = omega arith;
        kept = refl;
        is = sym (ap (back tuples t) e ∙ back_none tuples t);
        below = s.tuple;
        written = λ i j k l. absurd (omega arith);
        zero = λ j l. s.zero j;
      }

  module _ {letters : List ℕ} {at left : ℕ} (w : Writing tuples count t d before letters at left) where
    -- one letter more, in place `rest`
    pub writing_more : 0 < left → {next : ℕ} → next ≡ from_in tuples at
        → Writing tuples count t d before (set letters (left - 1) (letter_in tuples at)) next (left - 1)
    writing_more h {next} e =
        let in-way = w.within in
        let some : at ≡ 0 → ⊥ = λ z. s.depth.reaches.sooner (d - left) (omega arith) (sym w.is ∙ z) in
        let down = s.down.down at (omega arith) w.below in
        let k : d - (left - 1) ≡ suc (d - left) = omega arith in
        record {
          within = omega arith;
          kept = simp length-set w.kept;
          is = e ∙ ap (from_in tuples) w.is ∙ sym (ap (back tuples t) k ∙ back_more tuples t (d - left));
          below = omega (arith, w.below);
          written = λ i j q l. written i j q l (ℕ_discrete j (left - 1));
          zero = λ j l. get_or-set_other letters (left - 1) j (letter_in tuples at) 0 (λ q. omega arith) ∙ w.zero j l;
        }
      where
        written : (i j : ℕ) → i + suc j ≡ d → left - 1 ≤ j → Dec (j ≡ left - 1) → get_or (set letters (left - 1) (letter_in tuples at)) j 0 ≡ letter_in tuples (back tuples t i)
        written i j q l (yes z) =
            let i-is : d - left ≡ i = omega arith in
            let room : left - 1 < length letters = omega (arith, w.kept, w.within, s.long) in
            ap (λ (x : ℕ). get_or (set letters (left - 1) (letter_in tuples at)) x 0) z
            ∙ (get_or-set_same letters (left - 1) (letter_in tuples at) 0 room ∙ ap (letter_in tuples) (w.is ∙ ap (back tuples t) i-is))
        written i j q l (no z) = get_or-set_other letters (left - 1) j (letter_in tuples at) 0 z ∙ w.written i j q (omega arith)

    pub writing-end : left ≤ 0 → Spelled tuples count t before letters d
    writing-end h =
        let long : d ≤ length letters = omega (arith, w.kept, s.long) in
        let size : length (take d letters) ≡ d = length-take-le d letters long in
        record {
          word = take d letters;
          spells = record {
            reaches = subst (Reaches tuples t) (sym size) s.depth.reaches;
            letter = λ i j q. get_or-take d letters j 0 (omega (arith, size)) ∙ w.written i j (q ∙ size) (omega arith);
          };
          size_is = sym size;
          few = s.depth.few;
          letters = behind-zero size long;
        }
      where
        behind-zero : length (take d letters) ≡ d → d ≤ length letters → letters ≡ padded (length before) (take d letters)
        behind-zero size long =
            let full : length (padded (length before) (take d letters)) ≡ length before = padded-length (length before) (take d letters) (omega (arith, w.kept)) in
            ext_get_or 0 letters (padded (length before) (take d letters)) (w.kept ∙ sym full) (λ j l. cell j (dec_lt j d) size)
          where
            cell : (j : ℕ) → Dec (j < d) → length (take d letters) ≡ d → get_or letters j 0 ≡ get_or (padded (length before) (take d letters)) j 0
            cell j (yes l) size =
                sym (get_or-append (take d letters) (replicate (length before - length (take d letters)) 0) 0 j (omega arith) ∙ get_or-take d letters j 0 l)
            cell j (no l) size =
                let j-is : j ≡ length (take d letters) + (j - d) = omega arith in
                w.zero j (omega arith)
                ∙ sym (ap (λ (x : ℕ). get_or (padded (length before) (take d letters)) x 0) j-is
                ∙ (get_or-append-add (take d letters) (replicate (length before - length (take d letters)) 0) (j - d) 0 ∙ zeros (length before - length (take d letters)) (j - d)))

-- IN LETTERS WITH ANY CONTENTS, once they are cleared

module _ (before : List ℕ) {tuples : List ℕ} {count t d : ℕ} {letters : List ℕ} (zero : letters ≡ cleared before) where
  pub cleared-spelling : LeadsDown tuples count → t < count → DepthIs tuples count t d → count ≤ length before → Spelling tuples count t d letters
  cleared-spelling down tuple depth long = record {
    down = down;
    tuple = tuple;
    depth = depth;
    long = omega (arith, depth.few, ap length zero, length-cleared before);
    zero = λ j. ap (λ (l : List ℕ). get_or l j 0) zero ∙ zero-cleared before j;
  }

  pub cleared-spelled : {after : List ℕ} → Spelled tuples count t letters after d → Spelled tuples count t before after d
  cleared-spelled s = record {
    word = s.word;
    spells = s.spells;
    size_is = s.size_is;
    few = s.few;
    letters = s.letters ∙ ap (λ (n : ℕ). padded n s.word) (ap length zero ∙ length-cleared before);
  }
