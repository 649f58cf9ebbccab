-- The loop that replaces each set by its successors. Assumes nothing.
use Rattle.std.specs.Prelude.{ℕ, zero, suc, ◌+◌, ◌≤◌, ◌<◌, ◌≡◌, refl, List, [], ◌∷◌, ◌++◌, map, length, get_or, set, take, drop}
use Rattle.std.proofs.Common.{sym, ap, ◌∙◌, append_assoc, append-nil, arith, add-one, take-suc, drop-cons, length-take-le}
use Rattle.std.proofs.Math.Decide.{ℕ_discrete}
use Rattle.std.proofs.lemmas.List.{length-map, get_or_at, set_at}
use Rattle.std.proofs.Math.Seq.{slice, slice_empty, slice-cons}
use Rattle.automaton.specs.Successors.{successors_of}
use Rattle.automaton.specs.SuccessorLaws.{successors-empty}
use Rattle.tuple_record.specs.Record.{set_cells}
use Rattle.tuple.specs.Row.{sets_of}
use Rattle.lists.specs.Search.{leading}
use Rattle.lists.specs.SearchLaws.{leading-stop, leading-more}
use Rattle.tuple.specs.Parts.{Advanced}

-- the first i cells are sets, and replaced
pub record Advancing (table : List ℕ) (l : ℕ) (cells result : List ℕ) (i : ℕ) : Type 0 where
  pub leads : sets_of cells ≡ take i cells ++ leading (slice i set_cells cells)
  pub replaced : result ≡ map (successors_of table l) (take i cells) ++ drop i cells

module _ (table : List ℕ) (l : ℕ) (cells : List ℕ) (long : set_cells < length cells) where
  pub advance-none : Advancing table l cells cells 0
  advance-none = record { leads = refl; replaced = refl }

  module _ {result : List ℕ} {i : ℕ} (a : Advancing table l cells result i) where
    front : i ≤ set_cells → length (map (successors_of table l) (take i cells)) ≡ i
    front h = length-map (take i cells) (successors_of table l) ∙ length-take-le i cells (omega arith)

    advance-read : i < set_cells → get_or result i 0 ≡ get_or cells i 0
    advance-read h =
        rw (a.replaced, drop-cons cells i 0 (omega arith))
        (get_or_at (map (successors_of table l) (take i cells)) (get_or cells i 0) (drop (suc i) cells) 0 i (front (omega arith)))

    stopped : i ≤ set_cells → leading (slice i set_cells cells) ≡ [] → Advanced table l cells result i
    stopped h e =
        let all : sets_of cells ≡ take i cells = a.leads ∙ rw (e, append-nil) in
        record { counted = rw all (sym (length-take-le i cells (omega arith))); replaced = rw all a.replaced }

    pub advance-stop : i < set_cells → get_or result i 0 ≡ 0 → Advanced table l cells result i
    advance-stop h e =
        let c = slice-cons i set_cells cells 0 h (omega arith) in
        stopped (omega arith) (rw c (leading-stop (get_or cells i 0) (slice (suc i) set_cells cells) (sym (advance-read h) ∙ e)))

    pub advance-end : i ≡ set_cells → Advanced table l cells result i
    unfolding leading
    advance-end e = stopped (omega arith) (rw (e, slice_empty set_cells cells))

    snoc : (s : List ℕ) (x : ℕ) (r : List ℕ)
        → map (successors_of table l) s ++ (successors_of table l x ∷ r) ≡ map (successors_of table l) (s ++ (x ∷ [])) ++ r
    snoc [] x r = refl
    snoc (y ∷ s) x r = ap (λ (t : List ℕ). successors_of table l y ∷ t) (snoc s x r)

    replaced-more : i < set_cells → (x : ℕ) → x ≡ get_or cells i 0
        → set result i (successors_of table l x) ≡ map (successors_of table l) (take (i + 1) cells) ++ drop (i + 1) cells
    replaced-more h x e =
        let f = successors_of table l in
        ap (λ (r : List ℕ). set r i (f x)) (a.replaced ∙ ap (λ (r : List ℕ). map f (take i cells) ++ r) (drop-cons cells i 0 (omega arith)))
        ∙ set_at (map f (take i cells)) (get_or cells i 0) (drop (suc i) cells) (f x) i (front (omega arith))
        ∙ rw (e, add-one, take-suc cells i 0 (omega arith)) (snoc (take i cells) (get_or cells i 0) (drop (suc i) cells))

    pub advance-more : i < set_cells → (get_or result i 0 ≡ 0 → ⊥)
        → Advancing table l cells (set result i (successors_of table l (get_or result i 0))) (i + 1)
    advance-more h n =
        let x = get_or cells i 0 in
        let m : x ≡ 0 → ⊥ = λ e. n (advance-read h ∙ e) in
        let c = slice-cons i set_cells cells 0 h (omega arith) in
        record {
          leads =
              a.leads
              ∙ rw (c, leading-more x (slice (suc i) set_cells cells) m, add-one, take-suc cells i 0 (omega arith), append_assoc);
          replaced = replaced-more h (get_or result i 0) (advance-read h);
        }

-- the first cell has the successors of the first set
pub advanced-first : (table : List ℕ) (l : ℕ) (cells : List ℕ) {w : List ℕ} {count : ℕ} → Advanced table l cells w count
    → get_or w 0 0 ≡ successors_of table l (get_or cells 0 0)
unfolding leading
advanced-first table l [] {w} {count} a = ap (λ (z : List ℕ). get_or z 0 0) a.replaced ∙ by count a.counted
  where
    by : (n : ℕ) → n ≡ 0 → get_or (drop n []) 0 0 ≡ successors_of table l 0
    by zero e = sym (successors-empty table l)
    by (suc n) e = absurd (omega arith)
advanced-first table l (x ∷ cells) {w} {count} a = ap (λ (z : List ℕ). get_or z 0 0) a.replaced ∙ by (ℕ_discrete x 0)
  where
    by : Dec (x ≡ 0) → get_or (map (successors_of table l) (sets_of (x ∷ cells)) ++ drop count (x ∷ cells)) 0 0 ≡ successors_of table l x
    by (yes e) =
        let none : sets_of (x ∷ cells) ≡ [] = leading-stop x (take 15 cells) e in
        let n : count ≡ 0 = a.counted ∙ ap length none in
        rw (none, n) (e ∙ sym (successors-empty table l) ∙ ap (successors_of table l) (sym e))
    by (no d) = rw (leading-more x (take 15 cells) d)
