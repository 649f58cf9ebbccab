-- Tables cleared, words compared, bytes sought, rows padded and sets swept, one cell at a time. The library's methods and ranges do this now. Assumes nothing.
use Rattle.std.specs.Prelude.{ℕ, zero, suc, ◌+◌, ◌-◌, ◌≤◌, ◌<◌, ◌≡◌, refl, true, false, List, ◌∷◌, [], ◌++◌, length, get_or, replicate, set, take, drop}
use Rattle.std.proofs.Common.{sym, ap, ◌∙◌, append-nil, arith, add-zero, add-one, length-set, length-append, length-drop, drop_of_length-le, drop-cons, eq-eqb, ne_eqb}
use Rattle.std.proofs.lemmas.List.{length-replicate}
use Rattle.std.proofs.lemmas.List.Edits.{fill_none, fill_more, sets}
use Rattle.std.proofs.Math.Seq.{drop-length}
use Rattle.gate.specs.Gate.{cleared, padded}
use Rattle.gate.specs.GateLaws.{zeros, take-zeros}
use Rattle.lists.specs.StoreLaws.{sets-append}
use Rattle.text.specs.Word.{starts_at}
use Rattle.names.specs.Name.{one_of}
use Rattle.tuple.specs.SweepLaws.{Sweeping}

-- The loop that clears, whatever the width of a cell: the first i cells are 0, and the others are as they were

pub record Clearing (table result : List ℕ) (i : ℕ) : Type 0 where
  pub within : i ≤ length table
  pub kept : length result ≡ length table
  pub zero-front : result ≡ replicate i 0 ++ drop i table

pub clear_none : (table : List ℕ) → Clearing table table 0
clear_none table = record { within = omega arith; kept = refl; zero-front = fill_none table 0 }

module _ {table result : List ℕ} {i : ℕ} (c : Clearing table result i) where
  pub clear-more : i < length result → Clearing table (set result i 0) (i + 1)
  clear-more h =
      let k = c.kept in
      record { within = omega arith; kept = simp length-set k; zero-front = rw c.zero-front (fill_more i 0 table (omega arith)) }

  pub clear-end : length result ≤ i → result ≡ cleared table
  clear-end h =
      let k : i ≡ length table = (let a = c.within in let b = c.kept in omega arith) in
      let e : result ≡ replicate (length table) 0 ++ drop (length table) table = rw k at c.zero-front in
      e ∙ rw (drop-length table, append-nil)

-- A word compared from its first byte on

pub starts_none : (s word : List ℕ) (at : ℕ) → starts_at s (at + 0) (drop 0 word) ≡ starts_at s at word
starts_none s word at = rw add-zero

-- A BYTE of a list, one step of the search

module _ (bytes : List ℕ) (b i : ℕ) where
  pub one-here : i < length bytes → b ≡ get_or bytes i 0 → one_of (drop i bytes) b ≡ true
  unfolding one_of
  one-here h e = rw (drop-cons bytes i 0) (simp (eq-eqb _ _ e))

  pub one_later : i < length bytes → (b ≡ get_or bytes i 0 → ⊥) → one_of (drop i bytes) b ≡ one_of (drop (i + 1) bytes) b
  unfolding one_of
  one_later h n = rw (drop-cons bytes i 0, add-one i) (simp (ne_eqb _ _ n))

  pub one-nowhere : length bytes ≤ i → one_of (drop i bytes) b ≡ false
  unfolding one_of
  one-nowhere h = rw (drop_of_length-le bytes h)

-- THE STORE of a row: its zeros are those of a row that is all zero

pub stored-padded : (out x : List ℕ) (at n : ℕ) → n ≡ length x
    → sets (sets out at x) (at + n) (take (24 - n) (replicate 24 0)) ≡ sets out at (padded 24 x)
stored-padded out x at n e = rw (take-zeros (24 - n) 24 (omega arith), e) (sym (sets-append x (replicate (24 - length x) 0) out at))

-- A CELL of a list with zeros behind it

pub zeros-behind : (x : List ℕ) (m i : ℕ) → get_or (x ++ replicate m 0) i 0 ≡ get_or x i 0
zeros-behind [] m i = zeros m i
zeros-behind (a ∷ x) m zero = refl
zeros-behind (a ∷ x) m (suc i) = zeros-behind x m i

-- THE SWEEP loses no cell

pub sweep-length : {n p count : ℕ} {cells : List ℕ} → count ≤ length cells → {result : List ℕ} {c o j i : ℕ} → Sweeping n p count cells result c o j i
    → i ≤ count → length result ≡ length cells
sweep-length long s h = ap length s.holds ∙ simp (length-append, length-replicate, length-drop) (omega (arith, s.kept, s.passed))
