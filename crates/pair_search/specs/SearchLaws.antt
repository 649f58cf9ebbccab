-- The search goes on from one pair to the next. Assumes nothing.
use Rattle.std.specs.Prelude.{ℕ, suc, ◌+◌, ◌≤◌, ◌<◌, ◌≡◌, List}
use Rattle.std.proofs.Common.{sym, ◌∙◌, ap, subst, arith}
use Rattle.std.proofs.Math.Decide.{dec_lt}
use Rattle.automaton.specs.Graph.{Graph}
use Rattle.queue.specs.Queue.{pair, depth}
use Rattle.queue.specs.RowLaws.{has-longer}
use Rattle.pair_search.specs.Search.{Grown, Closed, JoinsOn, NoneBelow, Search}

module _ {G : Graph} {counts : ℕ} {T : List ℕ} {count head : ℕ} (s : Search G counts T count head) (h : head < count)
    {e : ℕ} (is : e ≡ pair T head) (f : NoneBelow G.table counts e 8) {T' : List ℕ} {count' : ℕ}
    (g : Grown G T count (suc (depth (pair T head))) T' count') (c : Closed G T' count' head) where
  closed_at : (i : ℕ) → i < head + 1 → Dec (i < head) → Closed G T' count' i
  closed_at i l (yes k) =
      let e = (g.keeps i (omega arith)).0 in
      λ d x y u v. rw e (has-longer T T' count count' (suc (depth (pair T i))) x y g.keeps g.more (s.closed i k d x y (rw e at u) (rw e at v)))
  closed_at i l (no k) = let e : i ≡ head = omega arith in rw e c

  none-at : (i : ℕ) → i < head + 1 → Dec (i < head) → NoneBelow G.table counts (pair T' i) 8
  none-at i k (yes z) l n j = s.none i z l n (subst (λ (x : ℕ). JoinsOn G.table counts x l) (g.keeps i (omega arith)).0 j)
  none-at i k (no z) l n j =
      let o : i ≡ head = omega arith in
      f l n (subst (λ (x : ℕ). JoinsOn G.table counts x l) (ap (pair T') o ∙ (g.keeps head h).0 ∙ sym is) j)

  pub search-more : Search G counts T' count' (head + 1)
  search-more =
      let m = g.more in
      record {
        queue = g.queue;
        justified = g.justified;
        begun = λ p q l a b. has-longer T T' count count' 0 p q g.keeps g.more (s.begun p q l a b);
        within = omega arith;
        near = λ l i k. (let u = g.most i k in let v = g.queue.sorted head (head + 1) (omega arith) l in let o = (g.keeps head h).0 in let v' : depth (pair T head) ≤ depth (pair T' (head + 1)) = rw o at v in omega arith);
        closed = λ i l. closed_at i l (dec_lt i head);
        none = λ i l. none-at i l (dec_lt i head);
      }
