-- A list copied into a table of any type, with a filler behind it: the loop that copies. Assumes nothing.
use Rattle.std.specs.Prelude.{ℕ, zero, suc, ◌+◌, ◌-◌, ◌≤◌, ◌<◌, ◌≡◌, refl, List, [], ◌∷◌, ◌++◌, length, get_or, set, take, replicate}
use Rattle.std.proofs.Common.{sym, ap, ◌∙◌, arith, add-one, length-set, length-append, take-suc, take-suc-set, take_all}
use Rattle.std.proofs.lemmas.List.{length-replicate}
use Rattle.cells.specs.Cells.{filled}

module _ {T : Type 0} (filler : T) where
  fillers : (m i : ℕ) → get_or (replicate m filler) i filler ≡ filler
  fillers zero i = refl
  fillers (suc m) zero = refl
  fillers (suc m) (suc i) = fillers m i

  -- fillers behind a list change no cell of it
  fillers-behind : (x : List T) (m i : ℕ) → get_or (x ++ replicate m filler) i filler ≡ get_or x i filler
  fillers-behind [] m i = fillers m i
  fillers-behind (a ∷ x) m zero = refl
  fillers-behind (a ∷ x) m (suc i) = fillers-behind x m i

  -- the list with as many fillers as a table has cells more
  abbrev pub behind : List T → List T → List T
  behind table list = list ++ replicate (length table - length list) filler

  -- the first i cells are those of the list, with fillers behind it
  pub record Copying (table list result : List T) (i : ℕ) : Type 0 where
    pub within : i ≤ length table
    pub kept : length result ≡ length table
    pub front : take i result ≡ take i (behind table list)

  pub copy-none : (table list : List T) → Copying table list table 0
  copy-none table list = record { within = omega arith; kept = refl; front = refl }

  pub copy_more : {table list result : List T} {i : ℕ} → Copying table list result i → {v : T} → v ≡ get_or list i filler → i < length result → Copying table list (set result i v) (i + 1)
  copy_more {table} {list} {result} {i} c {v} e h =
      let k = c.kept in
      let p = behind table list in
      let l : i < length p = simp (length-append, length-replicate) (omega arith) in
      let cell : v ≡ get_or p i filler = e ∙ sym (fillers-behind list (length table - length list) i) in
      record {
        within = omega arith;
        kept = simp length-set k;
        front = rw (add-one, take-suc-set result i v h, take-suc p i filler l, c.front, cell);
      }

  pub copy-end : {table list result : List T} {i : ℕ} → Copying table list result i → length result ≤ i → result ≡ filled filler table list
  copy-end {table} {list} {result} {i} c h =
      let k = c.kept in
      let w = c.within in
      let e : i ≡ length table = omega arith in
      sym (take_all i result h) ∙ (c.front ∙ ap (λ (m : ℕ). take m (behind table list)) e)
