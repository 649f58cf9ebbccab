-- What holds of names and of composing. Assumes nothing.
use Rattle.std.specs.Prelude.{ℕ, ◌+◌, ◌<◌, ◌≤◌, ◌≡◌, refl, Bool, true, false, ◌&&◌, List, [], ◌∷◌, ◌++◌, map, length, get_or, eqb}
use Rattle.std.proofs.Common.{sym, ◌∙◌, ap, arith}
use Rattle.lists.specs.Choice.{choose}
use Rattle.text.specs.Word.{without}
use Rattle.names.specs.Name.{is_vowel, is_decomposed, umlaut_of, Part, RightPart, RightParts, part_bytes, name_bytes, IsName, composed_part, compose}
use Rattle.names.specs.Name.Part.{plain, composed, decomposed}
use Rattle.names.specs.PartLaws.{no-vowel, umlaut-range, umlaut-of, composed-right, NoMark, no-mark-end, no-decomposed, parts-unique, parts-without}

-- COMPOSING, one step

-- a vowel, and CC 88 at the start of the list behind it
abbrev pub diaeresis : ℕ → List ℕ → Bool
diaeresis a x = is_decomposed a (get_or x 0 0) (get_or x 1 0)

pub compose-keep : (a : ℕ) (x : List ℕ) → diaeresis a x ≡ false → compose (a ∷ x) ≡ a ∷ compose x
unfolding compose
compose-keep a [] h = refl
compose-keep a (b ∷ []) h = refl
compose-keep a (b ∷ c ∷ x) h = simp h

pub compose-vowel : (a : ℕ) (x : List ℕ) → is_vowel a ≡ true → compose (a ∷ 0xCC ∷ 0x88 ∷ x) ≡ 0xC3 ∷ umlaut_of a ∷ compose x
unfolding compose
compose-vowel a x h = simp h

-- COMPOSING PART BY PART
compose-part : (p : Part) (x : List ℕ) → RightPart p → NoMark x → compose (part_bytes p ++ x) ≡ part_bytes (composed_part p) ++ compose x
compose-part (plain b) x r n = compose-keep b x (no-decomposed b x n)
compose-part (composed c) x r n =
    let v : is_vowel 0xC3 ≡ false = no-vowel 0xC3 (omega arith) in
    let w : is_vowel c ≡ false = no-vowel c (omega (arith, umlaut-range c r)) in
    compose-keep 0xC3 (c ∷ x) (simp v) ∙ ap (λ (y : List ℕ). 0xC3 ∷ y) (compose-keep c x (simp w))
compose-part (decomposed v) x r n = compose-vowel v x r

-- a composed name has its parts composed
pub compose-parts : (ps : List Part) → RightParts ps → compose (name_bytes ps) ≡ name_bytes (map composed_part ps)
unfolding name_bytes compose
compose-parts [] r = refl
compose-parts (p ∷ ps) r =
    compose-part p (name_bytes ps) r.0 (no-mark-end ps r.1) ∙ ap (λ (y : List ℕ). part_bytes (composed_part p) ++ y) (compose-parts ps r.1)

composed-rights : (ps : List Part) → RightParts ps → RightParts (map composed_part ps)
composed-rights [] r = tt
composed-rights (p ∷ ps) r = (composed-right p r.0, composed-rights ps r.1)

-- TWO NAMES COMPOSE TO THE SAME BYTES exactly if they are the same part by part
module _ (ps qs : List Part) (r : RightParts ps) (t : RightParts qs) where
  pub same_parts : compose (name_bytes ps) ≡ compose (name_bytes qs) → map composed_part ps ≡ map composed_part qs
  same_parts e =
      parts-unique (map composed_part ps) (map composed_part qs) (composed-rights ps r) (composed-rights qs t)
      (sym (compose-parts ps r) ∙ (e ∙ compose-parts qs t))

  pub same-composed : map composed_part ps ≡ map composed_part qs → compose (name_bytes ps) ≡ compose (name_bytes qs)
  same-composed e = compose-parts ps r ∙ (ap name_bytes e ∙ sym (compose-parts qs t))

-- A COMPOSED LIST STARTS with the byte that it had or with C3: what holds in both cases holds of it
compose-first : (P : List ℕ → Type 0) → ((u : ℕ) (y : List ℕ) → P (0xC3 ∷ u ∷ y)) → (a : ℕ) (x : List ℕ) → P (a ∷ compose x) → P (compose (a ∷ x))
unfolding compose
compose-first P letter a [] h = h
compose-first P letter a (b ∷ []) h = h
compose-first P letter a (b ∷ c ∷ x) h = by (is_decomposed a b c)
  where
    by : (t : Bool) → P (choose t (0xC3 ∷ umlaut_of a ∷ compose x) (a ∷ compose (b ∷ c ∷ x)))
    by true = letter (umlaut_of a) (compose x)
    by false = h

-- COMPOSING NEVER MAKES A NAME LONGER, and none of it empty
step-shorter :
    (t : Bool) (a u b c : ℕ) (x y z : List ℕ) →
    length y ≤ length x → length z ≤ 2 + length x → length (choose t (0xC3 ∷ u ∷ y) (a ∷ z)) ≤ length (a ∷ b ∷ c ∷ x)
step-shorter true a u b c x y z h k = omega arith
step-shorter false a u b c x y z h k = omega arith

pub compose-shorter : (x : List ℕ) → length (compose x) ≤ length x
unfolding compose
compose-shorter [] = omega arith
compose-shorter (a ∷ []) = omega arith
compose-shorter (a ∷ b ∷ []) = omega arith
compose-shorter (a ∷ b ∷ c ∷ x) =
    step-shorter (is_decomposed a b c) a (umlaut_of a) b c x (compose x) (compose (b ∷ c ∷ x)) (compose-shorter x)
    (omega (arith, compose-shorter (b ∷ c ∷ x)))

compose-some : (x : List ℕ) → 1 ≤ length x → 1 ≤ length (compose x)
unfolding compose
compose-some [] h = h
compose-some (a ∷ x) h = compose-first (λ y. 1 ≤ length y) (λ u y. omega arith) a x (omega arith)

-- A COMPOSED NAME IS A NAME AGAIN
pub composed-name : (x : List ℕ) → IsName x → IsName (compose x)
composed-name x n = record {
  parts = map composed_part n.parts;
  right = composed-rights n.parts n.right;
  is = ap compose n.is ∙ compose-parts n.parts n.right;
  some = compose-some x n.some;
  most = let h = compose-shorter x in let k = n.most in omega arith;
}

-- A NAME HAS NO BYTE BELOW 21: no LF, no space and no 0
pub name-without : (b : ℕ) (x : List ℕ) → b < 0x21 → IsName x → without b x ≡ true
name-without b x l n = ap (without b) n.is ∙ parts-without b n.parts l n.right

-- COMPOSING TWICE IS COMPOSING ONCE, for every list of bytes: no vowel comes to stand in front of a CC 88 that stood behind another byte
head_of : (x : List ℕ) → eqb (get_or x 0 0) 0x88 ≡ false → eqb (get_or (compose x) 0 0) 0x88 ≡ false
unfolding compose
head_of [] h = h
head_of (a ∷ x) h = compose-first (λ y. eqb (get_or y 0 0) 0x88 ≡ false) (λ u y. refl) a x h

behind : (t u v : Bool) → (u ≡ false → v ≡ false) → t && u ≡ false → t && v ≡ false
behind true u v f h = f h
behind false u v f h = refl

-- a list starts with CC 88
abbrev mark : List ℕ → Bool
mark x = eqb (get_or x 0 0) 0xCC && eqb (get_or x 1 0) 0x88

mark_of : (x : List ℕ) → mark x ≡ false → mark (compose x) ≡ false
unfolding compose
mark_of [] h = h
mark_of (a ∷ x) h =
    compose-first (λ y. mark y ≡ false) (λ u y. refl) a x
    (behind (eqb a 0xCC) (eqb (get_or x 0 0) 0x88) (eqb (get_or (compose x) 0 0) 0x88) (head_of x) h)

pub compose-idempotent : (x : List ℕ) → compose (compose x) ≡ compose x
unfolding compose
compose-idempotent [] = refl
compose-idempotent (a ∷ []) = refl
compose-idempotent (a ∷ b ∷ []) = refl
compose-idempotent (a ∷ b ∷ c ∷ x) =
    by (is_decomposed a b c) refl (compose-idempotent x) (compose-idempotent (b ∷ c ∷ x))
  where
    by :
        (t : Bool) →
        diaeresis a (b ∷ c ∷ x) ≡ t →
        compose (compose x) ≡ compose x →
        compose (compose (b ∷ c ∷ x)) ≡ compose (b ∷ c ∷ x) →
        compose (choose t (0xC3 ∷ umlaut_of a ∷ compose x) (a ∷ compose (b ∷ c ∷ x))) ≡
        choose t (0xC3 ∷ umlaut_of a ∷ compose x) (a ∷ compose (b ∷ c ∷ x))
    by true h e f =
        let v : is_vowel 0xC3 ≡ false = no-vowel 0xC3 (omega arith) in
        let w : is_vowel (umlaut_of a) ≡ false = no-vowel (umlaut_of a) (omega (arith, umlaut-range (umlaut_of a) (umlaut-of a))) in
        compose-keep 0xC3 (umlaut_of a ∷ compose x) (simp v) ∙
        ap (λ (y : List ℕ). 0xC3 ∷ y) (compose-keep (umlaut_of a) (compose x) (simp w) ∙ ap (λ (y : List ℕ). umlaut_of a ∷ y) e)
    by false h e f =
        compose-keep a (compose (b ∷ c ∷ x))
        (behind (is_vowel a) (mark (b ∷ c ∷ x)) (mark (compose (b ∷ c ∷ x))) (mark_of (b ∷ c ∷ x)) h) ∙
        ap (λ (y : List ℕ). a ∷ y) f
