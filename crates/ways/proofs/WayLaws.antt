-- In the table of a numbering each way back is the finding step's: it leads down to tuple 0, the word that it spells leads to its tuple, and no word goes deeper than it is
-- long. Assumes nothing.
use Prim.Native.Nat.{ℕ, zero, suc, ◌+◌, ◌*◌, ◌/◌, ◌%◌, ◌≤◌, ◌<◌}
use Rattle.std.specs.Prelude.{◌≡◌, take}
use Rattle.std.proofs.Math.Path.{refl, sym, ap, subst}
use Rattle.std.proofs.Common.{◌∙◌, take-suc}
use mathlib.Core.List.{List, [], ◌∷◌, ◌++◌}
use Rattle.std.proofs.Math.Decide.{ℕ_discrete}
use native.Mathlib.Omega.{arith}
use Rattle.std.proofs.Math.ListN.{length, get_or, get_or-append}
use Rattle.std.proofs.Math.Seq.{take-length, get_or-append_seam}
use Rattle.lists.specs.AppendLaws.{length_more}
use Rattle.automaton.specs.Automaton.{Automaton}
use Rattle.tuple_record.specs.Record.{from_in, letter_in}
use Rattle.tuple.specs.Step.{Tuple, first, next}
use Rattle.numbering.specs.Numbering.{after_word, Word, tuple_at, entered, FirstFound, Numbering}
use Rattle.numbering.proofs.NumberingLaws.{after-snoc, word-snoc}
use Rattle.ways.specs.Way.{back, Reaches, Spells}
use Rattle.ways.specs.BackLaws.{back_none, back_more, back_from, reaches-zero, reaches_more, reaches-less, reaches_some, reaches-none, reaches-once}

-- a numbering, and a tuple table with its ways back
pub record FoundWays (A : Automaton) (ts : List Tuple) (tuples : List ℕ) : Type 0 where
  pub numbering : Numbering A ts
  pub way : (t : ℕ) → t < length ts → FirstFound A ts t (from_in tuples t) (letter_in tuples t)

module _ {A : Automaton} {ts : List Tuple} {tuples : List ℕ} (fw : FoundWays A ts tuples) where
  -- a step back leads down
  pub way_down : (t : ℕ) → 0 < t → t < length ts → from_in tuples t < t
  way_down t h k =
      let (c, f, from, letter) = (fw.way t k).found h in
      let below = f.from in
      omega arith

  -- so every tuple has a way: the word of the tuple before, and one letter
  below-spells : (m t : ℕ) → t < m → t < length ts → (word : List ℕ) × Spells tuples t word
  below-spells zero t h k = absurd (omega arith)
  below-spells (suc m) t h k = by (ℕ_discrete t 0) (below-spells m)
    where
      by : Dec (t ≡ 0) → ((i : ℕ) → i < m → i < length ts → (word : List ℕ) × Spells tuples i word) → (word : List ℕ) × Spells tuples t word
      by (yes e) ih = ([], record { reaches = subst (λ (i : ℕ). Reaches tuples i 0) (sym e) (reaches-zero tuples); letter = λ i j z. absurd (omega arith) })
      by (no e) ih =
          let down = way_down t (omega arith) k in
          let (word, s) = ih (from_in tuples t) (omega arith) (omega arith) in
          let l = letter_in tuples t in (
            word ++ (l ∷ []),
            record {
              reaches = rw (length_more word l) (reaches_more tuples t (length word) (omega arith) s.reaches);
              letter = λ i j z. letter word s i j (z ∙ length_more word l);
            },
          )
        where
          letter : (word : List ℕ) → Spells tuples (from_in tuples t) word → (i j : ℕ) → i + suc j ≡ suc (length word)
              → get_or (word ++ (letter_in tuples t ∷ [])) j 0 ≡ letter_in tuples (back tuples t i)
          letter word s zero j z =
              let j-is : j ≡ length word = omega arith in
              ap (λ (x : ℕ). get_or (word ++ (letter_in tuples t ∷ [])) x 0) j-is
              ∙ (get_or-append_seam word (letter_in tuples t) [] 0 ∙ ap (letter_in tuples) (sym (back_none tuples t)))
          letter word s (suc i) j z =
              get_or-append word (letter_in tuples t ∷ []) 0 j (omega arith)
              ∙ (s.letter i j (omega arith) ∙ ap (letter_in tuples) (sym (back_from tuples t i)))

  pub spells : (t : ℕ) → t < length ts → (word : List ℕ) × Spells tuples t word
  spells t h = below-spells (suc t) t (omega arith) h

  -- DEPTHS DO NOT FALL ALONG THE NUMBERS: the finding steps ascend, so the tuples that they start from do
  pub from-ascends : (i j : ℕ) → 0 < i → i ≤ j → j < length ts → from_in tuples i ≤ from_in tuples j
  from-ascends i j some l h = by (ℕ_discrete i j)
    where
      by : Dec (i ≡ j) → from_in tuples i ≤ from_in tuples j
      by (yes e) = let same = ap (from_in tuples) e in omega arith
      by (no e) =
          let (c, f, from, letter) = (fw.way i (omega arith)).found some in
          let (d, g, from', letter') = (fw.way j h).found (omega arith) in
          let later = fw.numbering.ordered i j c d (omega arith) h some f g in
          omega arith

  depth-ascends : (e i j d : ℕ) → i ≤ j → j < length ts → Reaches tuples i d → Reaches tuples j e → d ≤ e
  depth-ascends e i j zero l h r s = omega arith
  depth-ascends zero i j (suc d) l h r s =
      let z = reaches-none tuples j s in
      absurd (reaches_some tuples i d r (omega arith))
  depth-ascends (suc e) i j (suc d) l h r s =
      let p : i ≡ 0 → ⊥ = reaches_some tuples i d r in
      let q : j ≡ 0 → ⊥ = reaches_some tuples j e s in
      let down = way_down j (omega arith) h in
      let ascends = from-ascends i j (omega arith) l h in
      let ih = depth-ascends e (from_in tuples i) (from_in tuples j) d ascends (omega arith) (reaches-less tuples i d r) (reaches-less tuples j e s) in
      omega arith

  -- a step goes at most one deeper: the tuple that it enters was found by no later step
  pub step-deeper : (j l i d e : ℕ) → j < length ts → l < A.k → A.k ≤ 8 → i < length ts → tuple_at A ts i ≡ next A l (tuple_at A ts j) → Reaches tuples j d → Reaches tuples i e
      → e ≤ suc d
  step-deeper j l i d zero h k eight m is r s = omega arith
  step-deeper j l i d (suc e) h k eight m is r s =
      let p : i ≡ 0 → ⊥ = reaches_some tuples i e s in
      let (c, f, from, letter) = (fw.way i m).found (omega arith) in
      let step = 8 * j + l in
      let q : step / 8 ≡ j = omega arith in
      let w : step % 8 ≡ l = omega arith in
      let enters : entered A ts step ≡ tuple_at A ts i = rw (q, w) (sym is) in
      let no-later : step < c → ⊥ = λ z. f.earliest step z (omega arith) enters in
      let ih = depth-ascends d (from_in tuples i) j e (omega arith) h (reaches-less tuples i e s) r in
      omega arith

  -- so a word goes at most as deep as it is long
  pub word-deeper : (word : List ℕ) (j d : ℕ) → A.k ≤ 8 → Word A word → j < length ts → Reaches tuples j d
      → (i : ℕ) × (i < length ts) × (tuple_at A ts i ≡ after_word A (tuple_at A ts j) word) × ((e : ℕ) → Reaches tuples i e → e ≤ d + length word)
  unfolding after_word
  word-deeper [] j d eight w h r = (j, h, refl, λ e s. let same = reaches-once tuples j d e r s in omega arith)
  word-deeper (l ∷ word) j d eight (k, w) h r =
      let (i, m, is) = fw.numbering.closed j l h k in
      let (v, s) = spells i m in
      let deeper = step-deeper j l i d (length v) h k eight m is r s.reaches in
      let (t, below, at, least) = word-deeper word i (length v) eight w m s.reaches in
      (t, below, at ∙ ap (λ (u : Tuple). after_word A u word) is, λ f q. let z = least f q in omega arith)

  -- THE WORD SPELLED leads to the tuple
  back_below : (t i : ℕ) → t < length ts → ((j : ℕ) → j < i → back tuples t j ≡ 0 → ⊥) → (back tuples t i < length ts) × (back tuples t i + i ≤ t)
  unfolding back
  back_below t zero h f = (h, omega arith)
  back_below t (suc i) h f =
      let (l, m) = back_below t i h (λ j k. f j (omega arith)) in
      let some = f i (omega arith) in
      let down = way_down (back tuples t i) (omega arith) l in
      (omega arith, omega arith)

  module _ (t : ℕ) (h : t < length ts) (word : List ℕ) (s : Spells tuples t word) where
    -- a way is shorter than the count of tuples
    pub spelled-few : length word ≤ t
    spelled-few = let (l, m) = back_below t (length word) h s.reaches.sooner in omega arith

    -- its first j letters lead to the tuple that is i steps back
    front-leads : (j i : ℕ) → i + j ≡ length word → Word A (take j word) × (after_word A (first A) (take j word) ≡ tuple_at A ts (back tuples t i))
    unfolding after_word
    front-leads zero i e =
        let k : i ≡ length word = omega arith in
        (tt, sym fw.numbering.begins ∙ ap (tuple_at A ts) (sym (ap (back tuples t) k ∙ s.reaches.end)))
    front-leads (suc j) i e = by (front-leads j (suc i) (omega arith))
      where
        by : Word A (take j word) × (after_word A (first A) (take j word) ≡ tuple_at A ts (back tuples t (suc i)))
            → Word A (take (suc j) word) × (after_word A (first A) (take (suc j) word) ≡ tuple_at A ts (back tuples t i))
        by (w, is) =
            let (below, few) = back_below t i h (λ j k. s.reaches.sooner j (omega arith)) in
            let some = s.reaches.sooner i (omega arith) in
            let (c, f, from, letter) = (fw.way (back tuples t i) below).found (omega arith) in
            let l : get_or word j 0 ≡ c % 8 = s.letter i j e ∙ letter in
            let k : get_or word j 0 < A.k = subst (λ (x : ℕ). x < A.k) (sym l) f.letter in
            rw (take-suc word j 0 (omega arith)) (
              word-snoc A (take j word) (get_or word j 0) w k,
              after-snoc A (first A) (take j word) (get_or word j 0)
                  ∙ (ap (next A (get_or word j 0)) (is ∙ ap (tuple_at A ts) (back_more tuples t i ∙ from)) ∙ (ap (λ (x : ℕ). next A x (tuple_at A ts (c / 8))) l ∙ f.enters)),
            )

    pub spelled-leads : Word A word × (after_word A (first A) word ≡ tuple_at A ts t)
    unfolding back
    spelled-leads =
        let (w, is) = front-leads (length word) 0 (omega arith) in
        let e = take-length word in
        (subst (Word A) e w, ap (after_word A (first A)) (sym e) ∙ is)
