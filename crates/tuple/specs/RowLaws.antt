-- A tuple has one row, and a row one tuple. Assumes nothing.
use Rattle.std.specs.Prelude.{ℕ, zero, suc, ◌-◌, ◌≤◌, ◌<◌, ◌≡◌, refl, List, [], ◌∷◌, ◌++◌, get_or, take, replicate}
use Rattle.std.proofs.Math.Path.{sym}
use Rattle.std.proofs.Common.{ap, ◌∙◌, append_assoc, arith, length-append, take_at}
use Rattle.std.proofs.Math.ListN.{length, get_or-append}
use Rattle.std.proofs.lemmas.List.{length-replicate, get_or_at}
use Rattle.automaton.specs.Automaton.{Automaton, Fits}
use Rattle.gate.specs.GateLaws.{zeros}
use Rattle.lists.specs.SearchLaws.{leading-padded}
use Rattle.tuple_record.specs.Record.{set_cells, row_cells}
use Rattle.tuple.specs.Step.{Tuple, place_set, Formed}
use Rattle.tuple.specs.Row.{sets_of, row, tuple_of, Steps}

-- Rows

zeros-behind : (sets : List ℕ) (k i : ℕ) → get_or (sets ++ replicate k 0) i 0 ≡ get_or sets i 0
zeros-behind [] k i = zeros k i
zeros-behind (x ∷ sets) k zero = refl
zeros-behind (x ∷ sets) k (suc i) = zeros-behind sets k i

module _ (u : Tuple) (few : length u.sets ≤ set_cells) where
  abbrev padding : List ℕ
  padding = replicate (set_cells - length u.sets) 0

  row-split : row u ≡ (u.sets ++ padding) ++ (u.colour ∷ [])
  unfolding row
  row-split = sym (append_assoc u.sets padding (u.colour ∷ []))

  front_length : length (u.sets ++ padding) ≡ set_cells
  front_length = simp (length-append, length-replicate) (omega arith)

  pub row-length : length (row u) ≡ row_cells
  row-length = ap length row-split ∙ length-append (u.sets ++ padding) (u.colour ∷ []) ∙ omega (arith, front_length)

  pub row-colour : get_or (row u) set_cells 0 ≡ u.colour
  row-colour = rw row-split (get_or_at (u.sets ++ padding) u.colour [] 0 set_cells front_length)

  row-front : take set_cells (row u) ≡ u.sets ++ padding
  row-front = rw row-split (take_at (u.sets ++ padding) (u.colour ∷ []) set_cells front_length)

  pub row-set : (i : ℕ) → i < set_cells → get_or (row u) i 0 ≡ place_set u.sets i
  row-set i h =
      rw row-split
      (get_or-append (u.sets ++ padding) (u.colour ∷ []) 0 i (omega (arith, front_length))
      ∙ zeros-behind u.sets (set_cells - length u.sets) i)

  tuple-row : ((i : ℕ) → i < length u.sets → place_set u.sets i ≡ 0 → ⊥) → tuple_of (row u) ≡ u
  unfolding tuple_of
  tuple-row full =
      let s : sets_of (row u) ≡ u.sets = rw row-front (leading-padded u.sets (set_cells - length u.sets) full) in
      rw (s, row-colour)

-- Tuples as steps enter them

module _ {A : Automaton} (fits : Fits A) where
  formed-few : {u : Tuple} → Formed A u → length u.sets ≤ set_cells
  formed-few f = let a = f.few in let b = fits.range.1 in omega arith

  pub formed-length : {u : Tuple} → Formed A u → length (row u) ≡ row_cells
  formed-length {u} f = row-length u (formed-few f)

  pub formed-row : {u : Tuple} → Formed A u → tuple_of (row u) ≡ u
  formed-row {u} f = tuple-row u (formed-few f) f.full

  -- "Tuples are equal when sets and colour are", so when their rows are
  pub row-injective : {u v : Tuple} → Formed A u → Formed A v → row u ≡ row v → u ≡ v
  row-injective {u} {v} f g e = sym (formed-row f) ∙ ap tuple_of e ∙ formed-row g

  -- what a step asks of the row of such a tuple
  pub formed-steps : {u : Tuple} (l : ℕ) → l < A.k → Formed A u → Steps A l (row u)
  formed-steps {u} l letter f = record { fits = fits; letter = letter; is_row = ap row (sym (formed-row f)) }
