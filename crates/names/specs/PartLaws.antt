-- The bytes of name parts: which they can be, and that they tell the parts apart. Assumes nothing.
use Rattle.std.specs.Prelude.{ℕ, ◌<◌, ◌≤◌, ◌≡◌, refl, Bool, true, false, ◌&&◌, List, [], ◌∷◌, ◌++◌, get_or, eqb, leb}
use Rattle.std.proofs.Common.{sym, ◌∙◌, ap, subst, ⊎_elim, append_assoc, append-nil, ne_eqb, eqb-true, leb-true, arith}
use Rattle.std.proofs.lemmas.Bool.{false≢true}
use Rattle.std.proofs.Math.Bool.{and-false, and-eq-true_iff}
use Rattle.lists.specs.Choice.{choose}
use Rattle.lists.specs.ChoiceLaws.{true-or-false}
use Rattle.columns.specs.Number.{is_between}
use Rattle.text.specs.Word.{without}
use Rattle.names.specs.Name.{one_of, is_umlaut, is_vowel, is_decomposed, umlaut_of, Part, RightPart, RightParts, part_bytes, name_bytes, composed_part}
use Rattle.names.specs.Name.Part.{plain, composed, decomposed}

-- THE RANGE of some bytes, by a test over them
between : ℕ → ℕ → List ℕ → Bool
between lo hi [] = true
between lo hi (x ∷ xs) = is_between lo hi x && between lo hi xs

range : (lo hi b : ℕ) (xs : List ℕ) → between lo hi xs ≡ true → one_of xs b ≡ true → (lo ≤ b) × (b ≤ hi)
unfolding one_of between
range lo hi b [] h e = absurd (false≢true e)
range lo hi b (x ∷ xs) h e =
    let p = (and-eq-true_iff (is_between lo hi x) _).0 h in
    let q = (and-eq-true_iff (leb lo x) _).0 p.0 in
    by (eqb b x) refl (range lo hi b xs p.1) (leb-true lo x q.0) (leb-true x hi q.1) e
  where
    by :
        (t : Bool) → eqb b x ≡ t → (one_of xs b ≡ true → (lo ≤ b) × (b ≤ hi)) → lo ≤ x → x ≤ hi →
        choose t true (one_of xs b) ≡ true → (lo ≤ b) × (b ≤ hi)
    by true q later l m e =
        let z : b ≡ x = eqb-true b x q in
        (omega arith, omega arith)
    by false q later l m e = later e

pub vowel-range : (v : ℕ) → is_vowel v ≡ true → (0x41 ≤ v) × (v ≤ 0x75)
unfolding is_vowel between
vowel-range v h = range 0x41 0x75 v _ refl h

pub umlaut-range : (b : ℕ) → is_umlaut b ≡ true → (0x84 ≤ b) × (b ≤ 0xBC)
unfolding is_umlaut between
umlaut-range b h = range 0x84 0xBC b _ refl h

pub no-vowel : (b : ℕ) → 0x76 ≤ b → is_vowel b ≡ false
no-vowel b h =
    ⊎_elim (λ (e : is_vowel b ≡ true). absurd (omega (arith, vowel-range b e))) (λ (e : is_vowel b ≡ false). e) (true-or-false (is_vowel b))

-- the composed letter of a vowel is one of the seven
pub umlaut-of : (v : ℕ) → is_umlaut (umlaut_of v) ≡ true
unfolding is_umlaut one_of umlaut_of
umlaut-of v = by (eqb v 0x61) (eqb v 0x6F) (eqb v 0x75) (eqb v 0x41) (eqb v 0x4F)
  where
    by :
        (a b c d e : Bool) →
        is_umlaut (choose a 0xA4 (choose b 0xB6 (choose c 0xBC (choose d 0x84 (choose e 0x96 0x9C))))) ≡ true
    by true b c d e = refl
    by false true c d e = refl
    by false false true d e = refl
    by false false false true e = refl
    by false false false false true = refl
    by false false false false false = refl

pub composed-right : (p : Part) → RightPart p → RightPart (composed_part p)
composed-right (plain b) r = r
composed-right (composed c) r = r
composed-right (decomposed v) r = umlaut-of v

-- WHAT MAY STAND BEHIND A PART: no combining diaeresis
abbrev pub NoMark : List ℕ → Type 0
NoMark x = get_or x 0 0 ≡ 0xCC → ⊥

no-mark-part : (p : Part) (x : List ℕ) → RightPart p → NoMark (part_bytes p ++ x)
no-mark-part (plain b) x r e = omega arith
no-mark-part (composed c) x r e = omega arith
no-mark-part (decomposed v) x r e = omega (arith, vowel-range v r)

pub no-mark : (ps : List Part) (x : List ℕ) → RightParts ps → NoMark x → NoMark (name_bytes ps ++ x)
unfolding name_bytes
no-mark [] x r n = n
no-mark (p ∷ ps) x r n = rw append_assoc (no-mark-part p (name_bytes ps ++ x) r.0)

-- so the byte in front of it is not decomposed
pub no-decomposed : (a : ℕ) (x : List ℕ) → NoMark x → is_decomposed a (get_or x 0 0) (get_or x 1 0) ≡ false
no-decomposed a x n = simp (ne_eqb _ _ n, and-false)

-- THE PART that a list starts with, read off its bytes
first-part-of : List ℕ → Part
first-part-of x =
    choose (is_decomposed (get_or x 0 0) (get_or x 1 0) (get_or x 2 0)) (decomposed (get_or x 0 0))
    (choose (eqb (get_or x 0 0) 0xC3) (composed (get_or x 1 0)) (plain (get_or x 0 0)))

first_part : (p : Part) (x : List ℕ) → RightPart p → NoMark x → first-part-of (part_bytes p ++ x) ≡ p
unfolding first-part-of
first_part (plain b) x r n = simp (no-decomposed b x n, ne_eqb b 0xC3 (λ (e : b ≡ 0xC3). omega arith))
first_part (composed c) x r n = simp (no-vowel 0xC3 (omega arith))
first_part (decomposed v) x r n = simp r

-- A NAME'S PARTS ARE UNIQUE
same_rest : (p : Part) (x y : List ℕ) → part_bytes p ++ x ≡ part_bytes p ++ y → x ≡ y
same_rest (plain b) x y e = cc
same_rest (composed c) x y e = cc
same_rest (decomposed v) x y e = cc

some_bytes : (p : Part) (x : List ℕ) → [] ≡ part_bytes p ++ x → ⊥
some_bytes (plain b) x e = let z : ◌≡◌ {A = ℕ} 0 1 = cc in omega arith
some_bytes (composed c) x e = let z : ◌≡◌ {A = ℕ} 0 1 = cc in omega arith
some_bytes (decomposed v) x e = let z : ◌≡◌ {A = ℕ} 0 1 = cc in omega arith

pub no-mark-end : (ps : List Part) → RightParts ps → NoMark (name_bytes ps)
no-mark-end ps r = subst NoMark (append-nil (name_bytes ps)) (no-mark ps [] r (λ e. omega arith))

pub parts-unique : (ps qs : List Part) → RightParts ps → RightParts qs → name_bytes ps ≡ name_bytes qs → ps ≡ qs
unfolding name_bytes
parts-unique [] [] r t e = refl
parts-unique [] (q ∷ qs) r t e = absurd (some_bytes q (name_bytes qs) e)
parts-unique (p ∷ ps) [] r t e = absurd (some_bytes p (name_bytes ps) (sym e))
parts-unique (p ∷ ps) (q ∷ qs) r t e =
    let h : p ≡ q =
    sym (first_part p (name_bytes ps) r.0 (no-mark-end ps r.1)) ∙
    (ap first-part-of e ∙ first_part q (name_bytes qs) t.0 (no-mark-end qs t.1)) in
    let e' : part_bytes p ++ name_bytes ps ≡ part_bytes p ++ name_bytes qs = e ∙ ap (λ (x : Part). part_bytes x ++ name_bytes qs) (sym h) in
    let k = parts-unique ps qs r.1 t.1 (same_rest p (name_bytes ps) (name_bytes qs) e') in
    cc

-- A byte below 21 stands in no name
without-part : (b : ℕ) (p : Part) (x : List ℕ) → b < 0x21 → RightPart p → without b x ≡ true → without b (part_bytes p ++ x) ≡ true
without-part b (plain a) x l r w = simp (ne_eqb a b (λ (e : a ≡ b). omega arith)) w
without-part b (composed c) x l r w =
    let k = umlaut-range c r in
    simp (ne_eqb 0xC3 b (λ (e : 0xC3 ≡ b). omega arith), ne_eqb c b (λ (e : c ≡ b). omega arith)) w
without-part b (decomposed v) x l r w =
    let k = vowel-range v r in
    simp (ne_eqb v b (λ (e : v ≡ b). omega arith), ne_eqb 0xCC b (λ (e : 0xCC ≡ b). omega arith), ne_eqb 0x88 b (λ (e : 0x88 ≡ b). omega arith)) w

pub parts-without : (b : ℕ) (ps : List Part) → b < 0x21 → RightParts ps → without b (name_bytes ps) ≡ true
unfolding name_bytes
parts-without b [] l r = refl
parts-without b (p ∷ ps) l r = without-part b p (name_bytes ps) l r.0 (parts-without b ps l r.1)
