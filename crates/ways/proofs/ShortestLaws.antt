-- The word spelled is a shortest one, and of those as short the first in the order of the letters. Assumes nothing.
use Rattle.std.specs.Prelude.{ℕ, zero, suc, ◌+◌, ◌*◌, ◌/◌, ◌%◌, ◌≤◌, ◌<◌, ◌≡◌, refl, ◌⊎◌, List, [], ◌∷◌, ◌++◌, length, get_or, take}
use Rattle.std.proofs.Common.{sym, ap, ap₂, subst, ◌∙◌, inl, inr, arith, take-suc, take_all, length-take-le}
use Rattle.std.proofs.Math.Decide.{ℕ_discrete}
use Rattle.automaton.specs.Automaton.{Automaton}
use Rattle.tuple_record.specs.Record.{from_in, letter_in}
use Rattle.tuple.specs.Step.{Tuple, first, next}
use Rattle.numbering.specs.Numbering.{after_word, Word, tuple_at, entered}
use Rattle.numbering.proofs.NumberingLaws.{after-snoc, word-unsnoc, numbers_apart}
use Rattle.ways.specs.Way.{Reaches, Spells, Precedes, ShortestWord}
use Rattle.ways.specs.PrecedesLaws.{precedes-chain, precedes-front, precedes-last}
use Rattle.ways.specs.BackLaws.{reaches-zero, reaches_some, reaches-none, spells-once, spells-less}
use Rattle.ways.proofs.WayLaws.{FoundWays, way_down, from-ascends, step-deeper, word-deeper, spelled-leads, spells}

module _ {A : Automaton} {ts : List Tuple} {tuples : List ℕ} (fw : FoundWays A ts tuples) where
  -- THE ORDER OF THE LETTERS: of two tuples as deep the one with the smaller number has the word that comes first
  spelled-precedes : (d i j : ℕ) (v w : List ℕ) → i < j → j < length ts → length v ≡ d → length w ≡ d → Spells tuples i v → Spells tuples j w → Precedes v w
  spelled-precedes zero i j v w l h p q s r =
      let z = reaches-none tuples j (subst (Reaches tuples j) q r.reaches) in
      absurd (omega arith)
  spelled-precedes (suc d) i j v w l h p q s r =
      let some : i ≡ 0 → ⊥ = reaches_some tuples i d (subst (Reaches tuples i) p s.reaches) in
      let (sv, lv) = spells-less tuples i d v p s in
      let (sw, lw) = spells-less tuples j d w q r in
      let down = way_down fw j (omega arith) h in
      let ascends = from-ascends fw i j (omega arith) (omega arith) h in
      by sv lv sw lw some (ℕ_discrete (from_in tuples i) (from_in tuples j)) (spelled-precedes d (from_in tuples i) (from_in tuples j) (take d v) (take d w))
    where
      by : Spells tuples (from_in tuples i) (take d v) → get_or v d 0 ≡ letter_in tuples i → Spells tuples (from_in tuples j) (take d w) → get_or w d 0 ≡ letter_in tuples j
          → (i ≡ 0 → ⊥) → Dec (from_in tuples i ≡ from_in tuples j)
          → (from_in tuples i < from_in tuples j → from_in tuples j < length ts → length (take d v) ≡ d → length (take d w) ≡ d
          → Spells tuples (from_in tuples i) (take d v) → Spells tuples (from_in tuples j) (take d w) → Precedes (take d v) (take d w))
          → Precedes v w
      by sv lv sw lw some (yes e) ih =
          let same : take d v ≡ take d w = spells-once tuples (from_in tuples j) (take d v) (take d w) (subst (λ (t : ℕ). Spells tuples t (take d v)) e sv) sw in
          let (c, f, from, letter) = (fw.way i (omega arith)).found (omega arith) in
          let (b, g, from', letter') = (fw.way j h).found (omega arith) in
          let later = fw.numbering.ordered i j c b l h (omega arith) f g in
          let smaller : c % 8 < b % 8 = omega arith in
          precedes-last d v w (omega arith) same (omega arith)
      by sv lv sw lw some (no e) ih =
          let down = way_down fw j (omega arith) h in
          let ascends = from-ascends fw i j (omega arith) (omega arith) h in
          precedes-front d v w (omega arith)
          (ih (omega arith) (omega arith) (length-take-le d v (omega arith)) (length-take-le d w (omega arith)) sv sw)

  -- AND IT IS THE FIRST of those as short
  word_after : (d t : ℕ) (word other : List ℕ) → A.k ≤ 8 → t < length ts → length word ≡ d → Spells tuples t word → length other ≡ d → Word A other
      → after_word A (first A) other ≡ tuple_at A ts t → (other ≡ word) ⊎ Precedes word other
  word_after zero t word other eight h p s q w is = inl (empty other q ∙ sym (empty word p))
    where
      empty : (l : List ℕ) → length l ≡ 0 → l ≡ []
      empty [] e = refl
      empty (x ∷ l) e = absurd (omega arith)
  word_after (suc d) t word other eight h p s q w is =
      let split = take-suc other d 0 (omega arith) in
      let whole : take (suc d) other ≡ other = take_all (suc d) other (omega arith) in
      let other-is : other ≡ take d other ++ (get_or other d 0 ∷ []) = sym whole ∙ split in
      let (w', k) = word-unsnoc A (take d other) (get_or other d 0) (subst (Word A) other-is w) in
      let size : length (take d other) ≡ d = length-take-le d other (omega arith) in
      let (j, m, at, deeper) = word-deeper fw (take d other) 0 0 eight w' fw.numbering.some (reaches-zero tuples) in
      let at_first : tuple_at A ts j ≡ after_word A (first A) (take d other) = at ∙ ap (λ (u : Tuple). after_word A u (take d other)) fw.numbering.begins in
      let enters : tuple_at A ts t ≡ next A (get_or other d 0) (tuple_at A ts j) =
      sym is ∙ (ap (after_word A (first A)) other-is ∙ (after-snoc A (first A) (take d other) (get_or other d 0) ∙ ap (next A (get_or other d 0)) (sym at_first))) in
      let (v, sv) = spells fw j m in
      let depth = step-deeper fw j (get_or other d 0) t (length v) (suc d) m k eight h enters sv.reaches (subst (Reaches tuples t) p s.reaches) in
      let v-is : length v ≡ d = omega (arith, deeper (length v) sv.reaches) in
      told j v m k sv v-is enters (word_after d j v (take d other) eight m v-is sv size w' (sym at_first))
    where
      told : (j : ℕ) (v : List ℕ) → j < length ts → get_or other d 0 < A.k → Spells tuples j v → length v ≡ d → tuple_at A ts t ≡ next A (get_or other d 0) (tuple_at A ts j)
          → (take d other ≡ v) ⊎ Precedes v (take d other) → (other ≡ word) ⊎ Precedes word other
      told j v m k sv v-is enters ih =
          let some : t ≡ 0 → ⊥ = reaches_some tuples t d (subst (Reaches tuples t) p s.reaches) in
          let (c, f, from, letter) = (fw.way t h).found (omega arith) in
          let step = 8 * j + get_or other d 0 in
          let a : step / 8 ≡ j = omega arith in
          let b : step % 8 ≡ get_or other d 0 = omega arith in
          let into : entered A ts step ≡ tuple_at A ts t = rw (a, b) (sym enters) in
          let no-later : step < c → ⊥ = λ z. f.earliest step z (omega arith) into in
          let (sw, lw) = spells-less tuples t d word p s in
          by (ℕ_discrete (from_in tuples t) j) (ℕ_discrete (get_or word d 0) (get_or other d 0)) c from (lw ∙ letter) no-later sw ih
        where
          front : Precedes (take d word) (take d other) → (other ≡ word) ⊎ Precedes word other
          front x = inr (precedes-front d word other (omega arith) x)

          by : Dec (from_in tuples t ≡ j) → Dec (get_or word d 0 ≡ get_or other d 0) → (c : ℕ) → from_in tuples t ≡ c / 8 → get_or word d 0 ≡ c % 8
              → (8 * j + get_or other d 0 < c → ⊥) → Spells tuples (from_in tuples t) (take d word) → (take d other ≡ v) ⊎ Precedes v (take d other)
              → (other ≡ word) ⊎ Precedes word other
          by (yes e) l c from letter no-later sw (inr x) =
              let same = spells-once tuples j (take d word) v (subst (λ (i : ℕ). Spells tuples i (take d word)) e sw) sv in
              front (subst (λ (y : List ℕ). Precedes y (take d other)) (sym same) x)
          by (yes e) (yes l) c from letter no-later sw (inl x) =
              let same = spells-once tuples j (take d word) v (subst (λ (i : ℕ). Spells tuples i (take d word)) e sw) sv in
              inl (sym (take_all (suc d) other (omega arith)) ∙ (take-suc other d 0 (omega arith)
              ∙ (ap₂ (λ (y : List ℕ) (a : ℕ). y ++ (a ∷ [])) (x ∙ sym same) (sym l)
              ∙ (sym (take-suc word d 0 (omega arith)) ∙ take_all (suc d) word (omega arith)))))
          by (yes e) (no l) c from letter no-later sw (inl x) =
              let same = spells-once tuples j (take d word) v (subst (λ (i : ℕ). Spells tuples i (take d word)) e sw) sv in
              inr (precedes-last d word other (omega arith) (same ∙ sym x) (omega arith))
          by (no e) l c from letter no-later sw ih' =
              let less : from_in tuples t < j = omega arith in
              let x = spelled-precedes d (from_in tuples t) j (take d word) v less m (length-take-le d word (omega arith)) v-is sw sv in
              front (after x ih')
            where
              after : Precedes (take d word) v → (take d other ≡ v) ⊎ Precedes v (take d other) → Precedes (take d word) (take d other)
              after x (inl y) = subst (Precedes (take d word)) (sym y) x
              after x (inr y) = precedes-chain (take d word) v (take d other) x y

  -- THE THEOREM
  module _ (t : ℕ) (h : t < length ts) (word : List ℕ) (s : Spells tuples t word) where
    pub spelled-shortest : A.k ≤ 8 → ShortestWord A (tuple_at A ts t) word
    spelled-shortest eight = record {
      letters = (spelled-leads fw t h word s).0;
      leads = (spelled-leads fw t h word s).1;
      least = λ other w is. least other w is;
      earliest = λ other w is e. word_after (length word) t word other eight h refl s e w is;
    }
      where
        least : (other : List ℕ) → Word A other → after_word A (first A) other ≡ tuple_at A ts t → length word ≤ length other
        least other w is =
            let (i, m, at, deeper) = word-deeper fw other 0 0 eight w fw.numbering.some (reaches-zero tuples) in
            let same : i ≡ t = numbers_apart A ts fw.numbering.distinct i t m h (at ∙ (ap (λ (u : Tuple). after_word A u other) fw.numbering.begins ∙ is)) in
            let z = deeper (length word) (subst (λ (x : ℕ). Reaches tuples x (length word)) (sym same) s.reaches) in
            omega arith
