-- There is room for each pair that is not listed: pairs are numbers below 256, and each is listed once. Assumes nothing.
use Rattle.std.specs.Prelude.{ℕ, ◌+◌, ◌*◌, ◌%◌, ◌≤◌, ◌<◌, ◌≡◌, Bool, true, false, List}
use Rattle.std.proofs.Common.{sym, ◌∙◌, arith}
use Rattle.std.proofs.Math.Decide.{dec_lt}
use Rattle.gate.specs.Gate.{Decides}
use Rattle.sets.specs.Sets.{Member, minus_of}
use Rattle.sets.specs.SetLaws.{minus-left, minus-not, minus-else}
use Rattle.finite.specs.Finite.{pigeon}
use Rattle.finite.specs.Paths.{glue, glue-lt, glue-ge}
use Rattle.queue.specs.Queue.{pair, companions, one, other, Queue, Only, Open}

module _ (T : List ℕ) (count p q : ℕ) (c : Queue T count) (hp : p < 16) (hq : q < 16) (new : Member (companions T p) q → ⊥) where
  pub not_listed : (i : ℕ) → i < count → pair T i % 256 ≡ 16 * p + q → ⊥
  not_listed i l e =
      let a : one (pair T i) ≡ p = omega arith in
      let b : other (pair T i) ≡ q = omega arith in
      new (rw (a, b) at (c.noted i l))

  -- the pairs listed and the new one, as numbers
  abbrev listed : ℕ → ℕ
  listed i = pair T i % 256

  abbrev asked : ℕ → ℕ
  asked i = 16 * p + q

  has_room : count < 256
  has_room = by (dec_lt count 256)
    where
      numbers : ℕ → ℕ
      numbers = glue listed asked count

      small : (i : ℕ) → numbers i < 256
      small i = at (dec_lt i count)
        where
          at : Dec (i < count) → numbers i < 256
          at (yes l) = let e = glue-lt listed asked count i l in omega arith
          at (no l) = let e = glue-ge listed asked count i (omega arith) in omega arith

      twice : (i j : ℕ) → i < j → j ≤ 256 → 256 ≤ count → numbers i ≡ numbers j → ⊥
      twice i j l m h e = at (dec_lt j count)
        where
          a : numbers i ≡ pair T i % 256
          a = glue-lt listed asked count i (omega arith)

          at : Dec (j < count) → ⊥
          at (yes k) = c.once i j l k (sym a ∙ e ∙ glue-lt listed asked count j k)
          at (no k) = not_listed i (omega arith) (sym a ∙ e ∙ glue-ge listed asked count j (omega arith))

      by : Dec (count < 256) → count < 256
      by (yes l) = l
      by (no l) = let (i, j, h, m, e) = pigeon 256 numbers (λ k x. small k) in absurd (twice i j h m (omega arith) e)

-- what the test says that asks for q among the members of the set that are not yet found together with p
pub record NewPair (T : List ℕ) (count p x q : ℕ) : Type 0 where
  pub member : Member x q
  pub new : Member (companions T p) q → ⊥
  pub room : count < 256

module _ (x q : ℕ) {T : List ℕ} {count d p rest : ℕ} {b : Bool} (o : Open T count d p) (hq : q < 16) (e : rest ≡ minus_of x (companions T p))
    (t : Decides b (Member rest q)) where
  pub new-pair : b ≡ true → NewPair T count p x q
  new-pair y =
      let m = rw e at (t.0 y) in
      let new = minus-not x (companions T p) q m in
      record { member = minus-left x (companions T p) q m; new = new; room = has_room T count p q o.queue o.state hq new }

  pub old-pair : b ≡ false → (r : ℕ) → Only x q r → Member (companions T p) r
  old-pair y r s =
      let f = rw e at (t.1 y) in
      rw s.0 (minus-else x (companions T p) q f (rw s.0 at s.1))
