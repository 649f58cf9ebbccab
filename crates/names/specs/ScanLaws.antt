-- One step along a name, and what its end means. Assumes nothing.
use Rattle.std.specs.Prelude.{ℕ, zero, suc, ◌+◌, ◌-◌, ◌<◌, ◌≤◌, ◌≡◌, Bool, true, false, List, [], ◌∷◌, ◌++◌, length, get_or, drop, eqb, ltb, None, Some}
use Rattle.std.proofs.Math.Path.{refl}
use Rattle.std.proofs.Common.{sym, ◌∙◌, ap, subst, append_assoc, append-nil, length-append, get_or-drop, add-zero, sub-eq-zero_of_le}
use Rattle.std.proofs.Math.Bool.{and-eq-true_iff}
use Rattle.std.proofs.Math.Seq.{drop-length}
use Rattle.std.proofs.lemmas.List.{get_or_at}
use borrow.Author.Tests.{eq-eqb, ne_eqb, lt-ltb, le-ltb, eqb-true, eqb-false, ltb-false}
use native.Mathlib.Omega.{arith}
use Rattle.text.specs.Bytes.{lf, stretch}
use Rattle.lists.specs.LeftLaws.{left-more}
use Rattle.text.specs.BytesLaws.{stretch-is, stretch-rest}
use Rattle.lists.specs.Choice.{choose}
use Rattle.text.specs.Word.{starts_at, no_zero}
use Rattle.text.specs.WordLaws.{first_byte, byte-is, starts_is}
use Rattle.names.specs.Name.{is_umlaut, is_vowel, is_decomposed, Part, RightPart, RightParts, part_bytes, name_bytes, IsName}
use Rattle.names.specs.Name.Part.{plain, composed, decomposed}
use Rattle.names.specs.PartLaws.{vowel-range, NoMark, no-mark, no-decomposed, parts-without}
use Rattle.names.specs.Scan.{width_of, width_at, parts_end, name_end_at}

-- ONE STEP of the scan
module _ (s : List ℕ) (at n t : ℕ) where
  pub parts-stop : t < n → width_at s at ≡ 0 → parts_end s at (n - t) ≡ at
  unfolding parts_end
  parts-stop h e = rw (left-more h) (simp (eq-eqb _ _ e))

  pub parts_next :
      (w : ℕ) → t < n → w ≡ width_at s at → (w ≡ 0 → ⊥) → parts_end s at (n - t) ≡ parts_end s (at + w) (n - (t + 1))
  unfolding parts_end
  parts_next w h e z = rw (left-more h, e) (simp (ne_eqb (width_at s at) 0 (λ q. z (e ∙ q))))

  pub parts-full : n ≤ t → parts_end s at (n - t) ≡ at
  unfolding parts_end
  parts-full h = rw (sub-eq-zero_of_le h)

-- A WIDTH THAT IS NOT 0: a part stands there
record PartAt (s : List ℕ) (at w : ℕ) : Type 0 where
  pub part : Part
  pub right : RightPart part
  pub is : drop at s ≡ part_bytes part ++ drop (at + w) s
  pub width : w ≡ length (part_bytes part)

-- `width_of` over its tests
abbrev width_by : Bool → Bool → Bool → Bool → Bool → ℕ
width_by t₁ t₂ t₃ t₄ t₅ = choose t₁ (choose t₂ 2 0) (choose t₃ 0 (choose t₄ 0 (choose t₅ 3 1)))

part-no-zero : (p : Part) → RightPart p → no_zero (part_bytes p) ≡ true
unfolding name_bytes
part-no-zero p r = subst (λ (x : List ℕ). no_zero x ≡ true) (append-nil (part_bytes p)) (parts-without 0 (p ∷ []) (omega arith) (r, tt))

module _ (s : List ℕ) (at : ℕ) where
  stands : (p : Part) → RightPart p → starts_at s at (part_bytes p) ≡ true → PartAt s at (length (part_bytes p))
  stands p r e = record { part = p; right = r; is = starts_is s at (part_bytes p) (part-no-zero p r) e; width = refl }

  at_plain : 0x21 ≤ get_or s at 0 → get_or s at 0 ≤ 0x7E → PartAt s at 1
  unfolding starts_at
  at_plain l m = stands (plain (get_or s at 0)) (l, m) (simp (eq-eqb (get_or s at 0) (get_or s at 0) refl))

  at-composed : get_or s at 0 ≡ 0xC3 → is_umlaut (get_or s (at + 1) 0) ≡ true → PartAt s at 2
  unfolding starts_at
  at-composed e u =
      stands (composed (get_or s (at + 1) 0)) u
      (simp (eq-eqb (get_or s at 0) 0xC3 e, eq-eqb (get_or s (at + 1) 0) (get_or s (at + 1) 0) refl))

  at-decomposed : is_decomposed (get_or s at 0) (get_or s (at + 1) 0) (get_or s (at + 2) 0) ≡ true → PartAt s at 3
  unfolding starts_at
  at-decomposed d =
      let two : at + 1 + 1 ≡ at + 2 = omega arith in
      let v = (and-eq-true_iff (is_vowel (get_or s at 0)) _).0 d in
      let w = (and-eq-true_iff (eqb (get_or s (at + 1) 0) 0xCC) _).0 v.1 in
      stands (decomposed (get_or s at 0)) v.0 (simp (eq-eqb (get_or s at 0) (get_or s at 0) refl, w.0, two, w.1))

  -- by the tests of `width_of`
  by_tests :
      (t₁ t₂ t₃ t₄ t₅ : Bool) →
      eqb (get_or s at 0) 0xC3 ≡ t₁ →
      is_umlaut (get_or s (at + 1) 0) ≡ t₂ →
      ltb (get_or s at 0) 0x21 ≡ t₃ →
      ltb 0x7E (get_or s at 0) ≡ t₄ →
      is_decomposed (get_or s at 0) (get_or s (at + 1) 0) (get_or s (at + 2) 0) ≡ t₅ →
      (width_by t₁ t₂ t₃ t₄ t₅ ≡ 0 → ⊥) →
      PartAt s at (width_by t₁ t₂ t₃ t₄ t₅)
  by_tests true true t₃ t₄ t₅ a b c d e h = at-composed (eqb-true _ _ a) b
  by_tests true false t₃ t₄ t₅ a b c d e h = absurd (h refl)
  by_tests false t₂ true t₄ t₅ a b c d e h = absurd (h refl)
  by_tests false t₂ false true t₅ a b c d e h = absurd (h refl)
  by_tests false t₂ false false false a b c d e h = at_plain (ltb-false _ _ c) (ltb-false _ _ d)
  by_tests false t₂ false false true a b c d e h = at-decomposed e

  part_at : (width_at s at ≡ 0 → ⊥) → PartAt s at (width_at s at)
  unfolding width_at width_of
  part_at h = by_tests _ _ _ _ _ refl refl refl refl refl h

-- THE PARTS that are passed
record PartsTo (s : List ℕ) (at e : ℕ) : Type 0 where
  pub parts : List Part
  pub right : RightParts parts
  pub is : drop at s ≡ name_bytes parts ++ drop e s
  pub place : e ≡ at + length (name_bytes parts)

parts_are : (s : List ℕ) (at most : ℕ) → PartsTo s at (parts_end s at most)
unfolding parts_end name_bytes
parts_are s at zero = record { parts = []; right = tt; is = refl; place = sym (add-zero at) }
parts_are s at (suc most) = by (eqb (width_at s at) 0) refl (parts_are s (at + width_at s at) most)
  where
    by :
        (t : Bool) → eqb (width_at s at) 0 ≡ t → PartsTo s (at + width_at s at) (parts_end s (at + width_at s at) most) →
        PartsTo s at (choose t at (parts_end s (at + width_at s at) most))
    by true q later = record { parts = []; right = tt; is = refl; place = sym (add-zero at) }
    by false q later =
        let p = part_at s at (eqb-false (width_at s at) 0 q) in record {
          parts = p.part ∷ later.parts;
          right = (p.right, later.right);
          is = p.is ∙ (ap (λ (x : List ℕ). part_bytes p.part ++ x) later.is ∙ sym (append_assoc (part_bytes p.part) (name_bytes later.parts) _));
          place =
              let k = later.place in
              let w = p.width in
              let l = length-append (part_bytes p.part) (name_bytes later.parts) in
              omega arith;
        }

-- A PART THAT STANDS THERE gives its width
width-drop : (s x : List ℕ) (at : ℕ) → drop at s ≡ x → width_at s at ≡ width_of (get_or x 0 0) (get_or x 1 0) (get_or x 2 0)
unfolding width_at
width-drop s x at e =
    let a : get_or s at 0 ≡ get_or x 0 0 = sym (first_byte s at) ∙ ap (λ (l : List ℕ). get_or l 0 0) e in
    let b : get_or s (at + 1) 0 ≡ get_or x 1 0 = sym (get_or-drop at s 1 0) ∙ ap (λ (l : List ℕ). get_or l 1 0) e in
    let c : get_or s (at + 2) 0 ≡ get_or x 2 0 = sym (get_or-drop at s 2 0) ∙ ap (λ (l : List ℕ). get_or l 2 0) e in
    rw (a, b, c)

width-part : (p : Part) (x : List ℕ) → RightPart p → NoMark x →
    width_of (get_or (part_bytes p ++ x) 0 0) (get_or (part_bytes p ++ x) 1 0) (get_or (part_bytes p ++ x) 2 0) ≡ length (part_bytes p)
unfolding width_of
width-part (plain b) x r n =
    let k : eqb b 0xC3 ≡ false = ne_eqb b 0xC3 (λ (e : b ≡ 0xC3). omega arith) in
    simp (k, le-ltb b 0x21 r.0, le-ltb 0x7E b r.1, no-decomposed b x n)
width-part (composed c) x r n = simp r
width-part (decomposed v) x r n =
    let l = vowel-range v r in
    let k : eqb v 0xC3 ≡ false = ne_eqb v 0xC3 (λ (e : v ≡ 0xC3). omega arith) in
    simp (k, le-ltb v 0x21 (omega arith), le-ltb 0x7E v (omega arith), r)

width-none : (a b c : ℕ) → a < 0x21 → width_of a b c ≡ 0
unfolding width_of
width-none a b c h =
    let k : eqb a 0xC3 ≡ false = ne_eqb a 0xC3 (λ (e : a ≡ 0xC3). omega arith) in
    simp (k, lt-ltb a 0x21 h)

some-width : (p : Part) → length (part_bytes p) ≡ 0 → ⊥
some-width (plain b) e = omega arith
some-width (composed c) e = omega arith
some-width (decomposed v) e = omega arith

-- ALL PARTS OF A NAME ARE PASSED, and nothing behind it, where a byte below 21 or nothing follows
parts_all :
    (ps : List Part) (s x : List ℕ) (at most : ℕ) →
    RightParts ps → get_or x 0 0 < 0x21 → length ps < most → drop at s ≡ name_bytes ps ++ x → parts_end s at most ≡ at + length (name_bytes ps)
unfolding parts_end name_bytes
parts_all [] s x at zero r l h e = absurd (omega arith)
parts_all [] s x at (suc most) r l h e =
    let w : width_at s at ≡ 0 = width-drop s x at e ∙ width-none _ _ _ l in
    simp (eq-eqb (width_at s at) 0 w) (sym (add-zero at))
parts_all (p ∷ ps) s x at zero r l h e = absurd (omega arith)
parts_all (p ∷ ps) s x at (suc most) r l h e =
    let e' : drop at s ≡ part_bytes p ++ (name_bytes ps ++ x) = e ∙ append_assoc (part_bytes p) (name_bytes ps) x in
    let n : NoMark (name_bytes ps ++ x) = no-mark ps x r.1 (λ (q : get_or x 0 0 ≡ 0xCC). omega arith) in
    let w : width_at s at ≡ length (part_bytes p) = width-drop s _ at e' ∙ width-part p (name_bytes ps ++ x) r.0 n in
    let rest : drop (at + length (part_bytes p)) s ≡ name_bytes ps ++ x = stretch-rest s at (part_bytes p) (name_bytes ps ++ x) e' in
    let later = parts_all ps s x (at + length (part_bytes p)) most r.1 l (omega arith) rest in
    let k : at + length (part_bytes p) + length (name_bytes ps) ≡ at + length (part_bytes p ++ name_bytes ps) =
    omega (arith, length-append (part_bytes p) (name_bytes ps)) in
    simp (w, ne_eqb (length (part_bytes p)) 0 (some-width p)) (later ∙ k)

parts-length : (ps : List Part) → length ps ≤ length (name_bytes ps)
unfolding name_bytes
parts-length [] = omega arith
parts-length (p ∷ ps) =
    let h = parts-length ps in
    let l = length-append (part_bytes p) (name_bytes ps) in
    let n : 1 ≤ length (part_bytes p) = omega (arith, some-width p) in
    omega arith

few-parts : (x : List ℕ) (n : IsName x) → length n.parts < 25
few-parts x n =
    let h = parts-length n.parts in
    let k = ap length n.is in
    let m = n.most in
    omega arith

-- THE MEANING OF `name_end_at`, one way: what stands there is a name, and its LF
pub record NameAt (s : List ℕ) (start e : ℕ) : Type 0 where
  pub name : IsName (stretch s start e)
  pub line : drop start s ≡ stretch s start e ++ (lf ∷ drop (e + 1) s)
  pub place : e ≡ start + length (stretch s start e)

tests-of :
    (t₁ t₂ t₃ : Bool) (x e : ℕ) →
    choose t₁ None (choose t₂ None (choose t₃ (Some x) None)) ≡ Some e → (t₁ ≡ false) × (t₂ ≡ false) × (t₃ ≡ true) × (x ≡ e)
tests-of true t₂ t₃ x e p = absurd (let z : ◌≡◌ {A = ℕ} 0 1 = cc in omega arith)
tests-of false true t₃ x e p = absurd (let z : ◌≡◌ {A = ℕ} 0 1 = cc in omega arith)
tests-of false false false x e p = absurd (let z : ◌≡◌ {A = ℕ} 0 1 = cc in omega arith)
tests-of false false true x e p = (refl, refl, refl, cc)

name-at :
    (s : List ℕ) (start e : ℕ) → PartsTo s start e → (e ≡ start → ⊥) → e ≤ start + 24 → get_or s e 0 ≡ lf → NameAt s start e
name-at s start e p n l b =
    let c = byte-is s e lf (omega arith) b in
    let k = p.place in
    let x : stretch s start e ≡ name_bytes p.parts =
    ap (stretch s start) k ∙ stretch-is s start (name_bytes p.parts) (drop e s) p.is in
    let m = ap length x in record {
      name = record {
        parts = p.parts;
        right = p.right;
        is = x;
        some = omega (arith, n);
        most = omega arith;
      };
      line = p.is ∙ (ap (λ (y : List ℕ). name_bytes p.parts ++ y) c ∙ ap (λ (y : List ℕ). y ++ (lf ∷ drop (e + 1) s)) (sym x));
      place = omega arith;
    }

pub name-is : (s : List ℕ) (start e : ℕ) → name_end_at s start ≡ Some e → NameAt s start e
unfolding name_end_at
name-is s start e p =
    let w = tests-of _ _ _ (parts_end s start 25) e p in
    subst (NameAt s start) w.3
    (name-at s start (parts_end s start 25) (parts_are s start 25) (eqb-false _ _ w.0) (ltb-false _ _ w.1) (eqb-true _ _ w.2))

-- and the other: a name with an LF behind it is found
pub name-ends :
    (s x rest : List ℕ) (start : ℕ) → IsName x → drop start s ≡ x ++ (lf ∷ rest) → name_end_at s start ≡ Some (start + length x)
unfolding name_end_at
name-ends s x rest start n e =
    let k : drop start s ≡ name_bytes n.parts ++ (lf ∷ rest) = e ∙ ap (λ (y : List ℕ). y ++ (lf ∷ rest)) n.is in
    let f : parts_end s start 25 ≡ start + length x =
    parts_all n.parts s (lf ∷ rest) start 25 n.right (omega arith) (few-parts x n) k ∙ ap (λ (y : List ℕ). start + length y) (sym n.is) in
    let b : get_or s (start + length x) 0 ≡ lf =
    sym (get_or-drop start s (length x) 0) ∙ (ap (λ (y : List ℕ). get_or y (length x) 0) e ∙ get_or_at x lf rest 0 (length x) refl) in
    let i = n.some in
    let j = n.most in
    simp (f, ne_eqb (start + length x) start (λ (q : start + length x ≡ start). omega arith), le-ltb (start + 24) (start + length x) (omega arith), eq-eqb _ _ b)

pub no_name : (s x rest : List ℕ) (start : ℕ) → name_end_at s start ≡ None → IsName x → drop start s ≡ x ++ (lf ∷ rest) → ⊥
no_name s x rest start b n e =
    let a = name-ends s x rest start n e in
    let z : ◌≡◌ {A = ℕ} 0 1 = cc in
    omega arith

-- A LIST THAT IS A NAME, with nothing behind it
pub whole_is : (x : List ℕ) → 1 ≤ length x → length x ≤ 24 → parts_end x 0 25 ≡ length x → IsName x
whole_is x l m e =
    let p = subst (PartsTo x 0) e (parts_are x 0 25) in record {
      parts = p.parts;
      right = p.right;
      is = p.is ∙ (ap (λ (y : List ℕ). name_bytes p.parts ++ y) (drop-length x) ∙ append-nil (name_bytes p.parts));
      some = l;
      most = m;
    }

pub whole-ends : (x : List ℕ) → IsName x → parts_end x 0 25 ≡ length x
whole-ends x n =
    let l = ap length n.is in
    let e : x ≡ name_bytes n.parts ++ [] = n.is ∙ sym (append-nil (name_bytes n.parts)) in
    let k = parts_all n.parts x [] 0 25 n.right (omega arith) (few-parts x n) e in
    omega arith
