-- The superseding letters of a sheet's letters, as cells: behind the nine rows of names, cell 216 + l has the letter that supersedes letter l,
-- and 0 where letter l is not withdrawn (a superseding letter is the larger one, so 0 is none).
use Rattle.std.specs.Prelude.{ℕ, zero, suc, ◌&&◌, List, get_or, take, drop, ltb}
use Rattle.std.proofs.lemmas.List.Edits.{sets}
use Rattle.lists.specs.Choice.{choose}

-- the eight cells
abbrev pub superseding_in : List ℕ → List ℕ
superseding_in rows = take 8 (drop 216 rows)

-- rows with other superseding letters in the cells
abbrev pub with_superseding : List ℕ → List ℕ → List ℕ
with_superseding rows cells = sets rows 216 cells

-- letter l, or the last of at most so many letters each of which supersedes the one before; cells that do not rise, or are no letter, end the chain
unfoldable pub chain_end : List ℕ → ℕ → ℕ → ℕ
chain_end cells l zero = l
chain_end cells l (suc steps) = choose (ltb l (get_or cells l 0) && ltb (get_or cells l 0) 8) (chain_end cells (get_or cells l 0) steps) l

-- the end of the chain of letter l: eight letters are never left by eight steps that rise
abbrev pub final_letter : List ℕ → ℕ → ℕ
final_letter cells l = chain_end cells l 8
