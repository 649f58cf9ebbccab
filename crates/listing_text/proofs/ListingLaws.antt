-- The listing determines the tracker: equal listings have equal numbers, cell by cell. Assumes nothing.
use Rattle.std.specs.Prelude.{ℕ, ◌+◌, ◌*◌, ◌/◌, ◌%◌, ◌^◌, ◌≤◌, ◌<◌, ◌≡◌, List, [], ◌∷◌, ◌++◌, length, get_or}
use Rattle.std.proofs.Math.Path.{refl, sym}
use Rattle.std.proofs.Common.{ap, ◌∙◌, arith, pow_mono}
use Rattle.std.proofs.Math.Decide.{dec_lt}
use Rattle.std.proofs.Math.ListN.{get_or-eq_default}
use Rattle.automaton.specs.Automaton.{Automaton, Fits}
use Rattle.tuple_record.specs.Record.{set_cells, record_cells, record_start, set_in, colour_in, from_in, letter_in}
use Rattle.tuple_record.specs.RecordLaws.{CellOf, cell-of}
use Rattle.tuple.specs.TupleLaws.{small}
use Rattle.numbering.specs.Numbering.{tuple_at, entered, FoundBy, WayFrom}
use Rattle.numbering.proofs.ExploreLaws.{way-mapped, way-once}
use Rattle.numbering.proofs.NumberingLaws.{numbers_apart}
use Rattle.filling.specs.TrackerTables.{TrackerTables, EnoughForTracker, Fitted}
use Rattle.filling.proofs.FittedLaws.{tuple, fitted-formed, fitted-set, fitted-colour, fitted-way, fitted-behind, fitted-next, fitted-room}
use Rattle.text.specs.Bytes.{lf, end_line}
use Rattle.lists.specs.AppendLaws.{append-same}
use Rattle.columns.specs.Column.{column}
use Rattle.columns.specs.ColumnLaws.{column-length, column-injective}
use Rattle.text.specs.PiecesLaws.{pieces-same}
use Rattle.listing_lines.specs.ListingLine.{columns, track_line, tuple_line}
use Rattle.listing_lines.specs.PutLine.{cells_from, ListingLimits}
use Rattle.listing_lines.specs.PutLineLaws.{columns-length, line-length, track-line-length}
use Rattle.listing_text.specs.Listing.{tuple_lines, listing}
use Rattle.listing_text.specs.PutLaws.{lines-length}
use Rattle.listing_text.specs.ListingLaws.{FirstNext, Shown}

-- the same number in each cell
abbrev SameCells : List ℕ → List ℕ → Type 0
SameCells a b = (i : ℕ) → get_or a i 0 ≡ get_or b i 0

column-same : (w u v : ℕ) (c d : List ℕ) → u < 10 ^ w → v < 10 ^ w → column w u ++ c ≡ column w v ++ d → (u ≡ v) × (c ≡ d)
column-same w u v c d p q e =
    let (x, y) = append-same (column w u) (column w v) c d (column-length w u ∙ sym (column-length w v)) e in
    (column-injective w u v p q x, y)

columns-same : (w : ℕ) (f g : ℕ → ℕ) (count : ℕ) → ((j : ℕ) → j < count → f j < 10 ^ w) → ((j : ℕ) → j < count → g j < 10 ^ w) → columns w f count ≡ columns w g count
    → (j : ℕ) → j < count → f j ≡ g j
columns-same w f g count p q e j h =
    column-injective w (f j) (g j) (p j h) (q j h)
    (pieces-same (λ i. column w (f i)) (λ i. column w (g i)) (λ i. column-length w (f i) ∙ sym (column-length w (g i))) 0 count e j (omega arith) (omega arith))

first-same : (n k count n' k' count' : ℕ) → ListingLimits n k count → ListingLimits n' k' count'
    → track_line n k count ≡ track_line n' k' count' → (n ≡ n') × (k ≡ k') × (count ≡ count')
unfolding track_line
first-same n k count n' k' count' s s' e =
    let rest : List ℕ = column 3 k ++ (column 5 count ++ (lf ∷ [])) in
    let rest' : List ℕ = column 3 k' ++ (column 5 count' ++ (lf ∷ [])) in
    let (w, x) = append-same (84 ∷ 82 ∷ 65 ∷ 67 ∷ 75 ∷ []) (84 ∷ 82 ∷ 65 ∷ 67 ∷ 75 ∷ []) (column 3 n ++ rest) (column 3 n' ++ rest') refl e in
    let (p, y) = column-same 3 n n' rest rest' (omega (arith, s.states)) (omega (arith, s'.states)) x in
    let (q, z) = column-same 3 k k' (column 5 count ++ (lf ∷ [])) (column 5 count' ++ (lf ∷ [])) (omega (arith, s.letters)) (omega (arith, s'.letters)) y in
    let (r, u) = column-same 5 count count' (lf ∷ []) (lf ∷ []) (omega (arith, s.most)) (omega (arith, s'.most)) z in
    (p, q, r)

-- what a tuple's line shows
record SameLine (n k : ℕ) (t₁ n₁ t₂ n₂ : List ℕ) (t : ℕ) : Type 0 where
  pub colour : colour_in t₁ t ≡ colour_in t₂ t
  pub sets : (i : ℕ) → i < n → set_in t₁ t i ≡ set_in t₂ t i
  pub nexts : (l : ℕ) → l < k → get_or n₁ (8 * t + l) 0 ≡ get_or n₂ (8 * t + l) 0

module _ (n k count : ℕ) (t₁ n₁ t₂ n₂ : List ℕ) (s₁ : Shown n k count t₁ n₁) (s₂ : Shown n k count t₂ n₂) where
  line_same : (t : ℕ) → tuple_line n k t₁ n₁ t ≡ tuple_line n k t₂ n₂ t → SameLine n k t₁ n₁ t₂ n₂ t
  unfolding tuple_line
  line_same t e =
      let x₁ = colour_in t₁ t in
      let x₂ = colour_in t₂ t in
      let a₁ = columns 6 (set_in t₁ t) n in
      let a₂ = columns 6 (set_in t₂ t) n in
      let b₁ = columns 5 (cells_from n₁ (8 * t)) k in
      let b₂ = columns 5 (cells_from n₂ (8 * t)) k in
      let (q, d) = append-same (81 ∷ column 5 t) (81 ∷ column 5 t) (column 3 x₁ ++ (a₁ ++ (b₁ ++ (lf ∷ [])))) (column 3 x₂ ++ (a₂ ++ (b₂ ++ (lf ∷ [])))) refl e in
      let states = s₁.sizes.states in
      let p₁ = s₁.colours t in
      let p₂ = s₂.colours t in
      let (c, f) = column-same 3 x₁ x₂ (a₁ ++ (b₁ ++ (lf ∷ []))) (a₂ ++ (b₂ ++ (lf ∷ []))) (omega arith) (omega arith) d in
      let (g, h) = append-same a₁ a₂ (b₁ ++ (lf ∷ [])) (b₂ ++ (lf ∷ [])) (columns-length 6 (set_in t₁ t) n ∙ sym (columns-length 6 (set_in t₂ t) n)) f in
      let (i, j) = append-same b₁ b₂ (lf ∷ []) (lf ∷ []) (columns-length 5 (cells_from n₁ (8 * t)) k ∙ sym (columns-length 5 (cells_from n₂ (8 * t)) k)) h in
      record {
        colour = c;
        sets = columns-same 6 (set_in t₁ t) (set_in t₂ t) n (λ z l. omega (arith, s₁.sets t z (omega arith))) (λ z l. omega (arith, s₂.sets t z (omega arith))) g;
        nexts = columns-same 5 (cells_from n₁ (8 * t)) (cells_from n₂ (8 * t)) k (λ z l. omega (arith, s₁.next (8 * t + z))) (λ z l. omega (arith, s₂.next (8 * t + z))) i;
      }

  module _ (lines : (t : ℕ) → t < count → SameLine n k t₁ n₁ t₂ n₂ t) where
    same-nexts : SameCells n₁ n₂
    same-nexts c = by (dec_lt (c / 8) count) (dec_lt (c % 8) k)
      where
        e : c ≡ 8 * (c / 8) + c % 8
        e = omega arith

        by : Dec (c / 8 < count) → Dec (c % 8 < k) → get_or n₁ c 0 ≡ get_or n₂ c 0
        by (no h) x = s₁.no-next c (λ g l. h g) ∙ sym (s₂.no-next c (λ g l. h g))
        by (yes h) (no x) = s₁.no-next c (λ g l. x l) ∙ sym (s₂.no-next c (λ g l. x l))
        by (yes h) (yes x) = rw e ((lines (c / 8) h).nexts (c % 8) x)

    -- the next numbers tell the finding steps, and these the ways back
    same_step : (t c d : ℕ) → FirstNext n₁ t c → FirstNext n₂ t d → c ≡ d
    same_step t c d f g =
        let a : c < d → ⊥ = λ h. g.earliest c h (sym (same-nexts c) ∙ f.enters) in
        let b : d < c → ⊥ = λ h. f.earliest d h (same-nexts d ∙ g.enters) in
        omega arith

    same_way : (t : ℕ) → t < count → (from_in t₁ t ≡ from_in t₂ t) × (letter_in t₁ t ≡ letter_in t₂ t)
    same_way t h = way-once (same_step t) (s₁.ways t h) (s₂.ways t h)

    same_set : (t i : ℕ) → t < count → i < set_cells → Dec (i < n) → set_in t₁ t i ≡ set_in t₂ t i
    same_set t i h k (yes x) = (lines t h).sets i x
    same_set t i h k (no x) = s₁.no-set t i (omega arith) k ∙ sym (s₂.no-set t i (omega arith) k)

    same-tuples : SameCells t₁ t₂
    same-tuples i = by (dec_lt (i / record_cells) count) (cell-of i)
      where
        by : Dec (i / record_cells < count) → CellOf (i / record_cells) i → get_or t₁ i 0 ≡ get_or t₂ i 0
        by (no h) x = s₁.no-tuple i (omega arith) ∙ sym (s₂.no-tuple i (omega arith))
        by (yes h) (CellOf.set-cell j k e) = rw e (same_set (i / record_cells) j h k (dec_lt j n))
        by (yes h) (CellOf.colour-cell e) = rw e (lines (i / record_cells) h).colour
        by (yes h) (CellOf.from-cell e) = rw e (same_way (i / record_cells) h).0
        by (yes h) (CellOf.letter-cell e) = rw e (same_way (i / record_cells) h).1

-- THE THEOREM: equal listings are listings of one tracker

pub record Same (n₁ k₁ c₁ : ℕ) (t₁ e₁ : List ℕ) (n₂ k₂ c₂ : ℕ) (t₂ e₂ : List ℕ) : Type 0 where
  pub states : n₁ ≡ n₂
  pub letters : k₁ ≡ k₂
  pub count : c₁ ≡ c₂
  pub tuples : SameCells t₁ t₂
  pub nexts : SameCells e₁ e₂

pub listing-determines : (n₁ k₁ c₁ : ℕ) (t₁ e₁ : List ℕ) (n₂ k₂ c₂ : ℕ) (t₂ e₂ : List ℕ) → Shown n₁ k₁ c₁ t₁ e₁ → Shown n₂ k₂ c₂ t₂ e₂
    → listing n₁ k₁ c₁ t₁ e₁ ≡ listing n₂ k₂ c₂ t₂ e₂ → Same n₁ k₁ c₁ t₁ e₁ n₂ k₂ c₂ t₂ e₂
unfolding listing
listing-determines n₁ k₁ c₁ t₁ e₁ n₂ k₂ c₂ t₂ e₂ s₁ s₂ e = by (first-same n₁ k₁ c₁ n₂ k₂ c₂ s₁.sizes s₂.sizes parts.0)
  where
    parts : (track_line n₁ k₁ c₁ ≡ track_line n₂ k₂ c₂) × (tuple_lines n₁ k₁ t₁ e₁ c₁ ++ end_line ≡ tuple_lines n₂ k₂ t₂ e₂ c₂ ++ end_line)
    parts =
        append-same (track_line n₁ k₁ c₁) (track_line n₂ k₂ c₂) (tuple_lines n₁ k₁ t₁ e₁ c₁ ++ end_line) (tuple_lines n₂ k₂ t₂ e₂ c₂ ++ end_line)
        (track-line-length n₁ k₁ c₁ ∙ sym (track-line-length n₂ k₂ c₂)) e

    by : (n₁ ≡ n₂) × (k₁ ≡ k₂) × (c₁ ≡ c₂) → Same n₁ k₁ c₁ t₁ e₁ n₂ k₂ c₂ t₂ e₂
    by (p, q, r) = record { states = p; letters = q; count = r; tuples = same-tuples n₁ k₁ c₁ t₁ e₁ t₂ e₂ s₁ s₂' lines; nexts = same-nexts n₁ k₁ c₁ t₁ e₁ t₂ e₂ s₁ s₂' lines }
      where
        s₂' : Shown n₁ k₁ c₁ t₂ e₂
        s₂' = rw (p, q, r) s₂

        texts : tuple_lines n₁ k₁ t₁ e₁ c₁ ++ end_line ≡ tuple_lines n₁ k₁ t₂ e₂ c₁ ++ end_line
        texts = rw (← p, ← q, ← r) at parts.1

        lines : (t : ℕ) → t < c₁ → SameLine n₁ k₁ t₁ e₁ t₂ e₂ t
        lines t h =
            let (x, y) =
            append-same (tuple_lines n₁ k₁ t₁ e₁ c₁) (tuple_lines n₁ k₁ t₂ e₂ c₁) end_line end_line
            (lines-length n₁ k₁ t₁ e₁ c₁ ∙ sym (lines-length n₁ k₁ t₂ e₂ c₁)) texts in
            line_same n₁ k₁ c₁ t₁ e₁ t₂ e₂ s₁ s₂' t (pieces-same (tuple_line n₁ k₁ t₁ e₁) (tuple_line n₁ k₁ t₂ e₂) (λ i. line-length n₁ k₁ t₁ e₁ i ∙ sym (line-length n₁ k₁ t₂ e₂ i)) 0 c₁ x t (omega arith) (omega arith))

-- A TRACKER THAT IS BUILT is shown by its listing
module _ (A : Automaton) (fits : Fits A) (room m : ℕ) (v w : TrackerTables) (f : Fitted A room v w m) where
  colour-small : (t : ℕ) → Dec (t < m) → colour_in w.tuples t ≤ 33
  colour-small t (yes h) =
      let e = fitted-colour A fits room m v w f t h in
      let a = (fitted-formed A fits room m v w f t h).most-colour in
      let b = fits.range.1 in
      omega arith
  colour-small t (no h) = let e = fitted-behind A fits room m v w f (record_start t + set_cells) (omega arith) in omega arith

  no-set : (t i : ℕ) → A.n ≤ i → i < set_cells → Dec (t < m) → set_in w.tuples t i ≡ 0
  no-set t i h k (yes l) =
      let a = (fitted-formed A fits room m v w f t l).few in
      fitted-set A fits room m v w f t i l k ∙ get_or-eq_default (tuple A fits room m v w f t).sets 0 (omega arith)
  no-set t i h k (no l) = fitted-behind A fits room m v w f (record_start t + i) (omega arith)

  set-small : (t i : ℕ) → i < set_cells → Dec (t < m) → set_in w.tuples t i < 65536
  set-small t i k (no h) = let e = fitted-behind A fits room m v w f (record_start t + i) (omega arith) in omega arith
  set-small t i k (yes h) =
      let e = fitted-set A fits room m v w f t i h k in
      let s = small (fitted-formed A fits room m v w f t h) i in
      let p : 2 ^ A.n ≤ 2 ^ 16 = pow_mono fits.range.1 in
      omega arith

  -- the finding step of a tuple is the first that has its number
  module _ (t : ℕ) (h : t < m) where
    number_is : (d : ℕ) → d / 8 < length f.list → d % 8 < A.k → entered A f.list d ≡ tuple_at A f.list t → get_or w.nexts d 0 ≡ t
    number_is d from letter e =
        let n = f.count-is in
        let (j, is) = f.holds.nexts.next d from letter in
        numbers_apart A f.list f.holds.numbering.distinct (get_or w.nexts d 0) t j (omega arith) (is ∙ e)

    -- t is not 0, so a cell that has it is no zero without a meaning
    enters-it : (d : ℕ) → 0 < t → get_or w.nexts d 0 ≡ t → (d % 8 < A.k) × (entered A f.list d ≡ tuple_at A f.list t)
    enters-it d some e = by (dec_lt (d / 8) (length f.list)) (dec_lt (d % 8) A.k)
      where
        by : Dec (d / 8 < length f.list) → Dec (d % 8 < A.k) → (d % 8 < A.k) × (entered A f.list d ≡ tuple_at A f.list t)
        by (yes x) (yes y) = (y, sym (f.holds.nexts.next d x y).1 ∙ ap (tuple_at A f.list) e)
        by (yes x) (no y) = let z = f.holds.nexts.zero d (λ a b. y b) in absurd (omega arith)
        by (no x) y = let z = f.holds.nexts.zero d (λ a b. x a) in absurd (omega arith)

    first_next : (c : ℕ) → FoundBy A f.list t c → FirstNext w.nexts t c
    first_next c g =
        let n = f.count-is in
        let from = g.from in
        record {
          enters = number_is c (omega arith) g.letter g.enters;
          earliest = λ d l e. let (letter, is) = enters-it d (omega arith) e in g.earliest d l letter is;
        }

  pub fitted-shown : EnoughForTracker room v → Shown A.n A.k m w.tuples w.nexts
  fitted-shown r = record {
    sizes = record { states = fits.range.1; letters = fits.range.3; most = (fitted-room A fits room m v w f r).most };
    sets = λ t i k. set-small t i k (dec_lt t m);
    colours = λ t. colour-small t (dec_lt t m);
    next = λ c. omega (arith, fitted-next A fits room m v w f c, (fitted-room A fits room m v w f r).most);
    ways = λ t h. way-mapped (first_next t h) (fitted-way A fits room m v w f t h);
    no-set = λ t i h k. no-set t i h k (dec_lt t m);
    no-tuple = fitted-behind A fits room m v w f;
    no-next = λ c z. let e = f.count-is in f.holds.nexts.zero c (λ g l. z (omega arith) l);
  }
