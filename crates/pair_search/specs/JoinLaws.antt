-- A pair joins on a letter exactly where some state is common to the successors of both and counts; and what the answer on a pair tells. Assumes nothing.
use Rattle.std.specs.Prelude.{ℕ, ◌≡◌, true, false, List, is_some, None, Option, Some}
use Rattle.std.proofs.Common.{subst, true≢false}
use Rattle.std.proofs.lemmas.Bool.{false≢true}
use Rattle.sets.specs.Sets.{Member}
use Rattle.sets.specs.SetLaws.{some-member, no_member}
use Rattle.queue.specs.Queue.{one, other}
use Rattle.pair_search.specs.Search.{Common, JoinsOn, NoneBelow, LeastJoining, Joining}

pub common-joins : {table : List ℕ} {counts e l r : ℕ} → Common table counts (one e) (other e) l r → (one e ≡ other e → ⊥) → (r ≡ 0 → ⊥) → JoinsOn table counts e l
common-joins {r = r} c f g =
    let (z, h) = some-member r g in
    let (a, b, d) = (c z).0 h in
    record { apart = f; state = z; left = a; right = b; counted = d }

pub common-none : {table : List ℕ} {counts e l r : ℕ} → Common table counts (one e) (other e) l r → r ≡ 0 → JoinsOn table counts e l → ⊥
common-none c z j = no_member j.state (subst (λ (x : ℕ). Member x j.state) z ((c j.state).1 (j.left, j.right, j.counted)))

pub joins-at : {table : List ℕ} {counts e : ℕ} (o : Option ℕ) → is_some o ≡ true → Joining table counts e o → (l : ℕ) × LeastJoining table counts e l
joins-at None h j = absurd (false≢true h)
joins-at (Some l) h j = (l, j)

pub joins-nowhere : {table : List ℕ} {counts e : ℕ} (o : Option ℕ) → is_some o ≡ false → Joining table counts e o → NoneBelow table counts e 8
joins-nowhere None h j = j
joins-nowhere (Some l) h j = absurd (true≢false h)
