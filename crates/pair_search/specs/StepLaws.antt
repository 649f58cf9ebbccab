-- The queue grows by what one of its pairs steps to. Assumes nothing.
use Rattle.std.specs.Prelude.{ℕ, suc, ◌+◌, ◌*◌, ◌/◌, ◌%◌, ◌≤◌, ◌<◌, ◌≡◌, List}
use Rattle.std.proofs.Common.{sym, ◌∙◌, inr, arith}
use Rattle.std.proofs.Math.Decide.{dec_lt}
use Rattle.automaton.specs.Graph.{Graph, Edge, GraphFits, successor_set}
use Rattle.queue.specs.Queue.{pair, depth, one, other, Has, Longer, Below}
use Rattle.queue.specs.RowLaws.{has-longer}
use Rattle.pair_search.specs.Search.{Arrives, Grown, Guarded, SuccessorsQueued, Closed}
use Rattle.automaton.specs.EdgeLaws.{edge_of, edge_to}
use Rattle.pair_search.specs.JustifiedLaws.{justified-longer}

-- Step j is on letter j / 16 to state j % 16; e is the pair whose steps they are.
module _ {G : Graph} (fits : GraphFits G) {T₀ : List ℕ} {count₀ head e d : ℕ} (h : head < count₀) (is : e ≡ pair T₀ head) (deep : d ≡ depth e + 1)
    {T : List ℕ} {count : ℕ} (j : ℕ) (g : Grown G T₀ count₀ d T count) where
  module _ (x : ℕ) {T' : List ℕ} {count' : ℕ} (l : j / 16 < G.k) (gd : Guarded (successor_set G.table (one e) (j / 16)) (j % 16) (successor_set G.table (other e) (j / 16)) x)
      (y : Longer T count d (j % 16) (Below x 16) (8 * head + j / 16) T' count') where
    why : (q : ℕ) → Below x 16 q → Arrives G T count d (j % 16) q (8 * head + j / 16)
    why q m =
        let k = fits.range.3 in
        let more = g.more in
        let a : (8 * head + j / 16) / 8 ≡ head = omega arith in
        let b : (8 * head + j / 16) % 8 ≡ j / 16 = omega arith in
        let o : pair T head ≡ e = (g.keeps head h).0 ∙ sym is in
        let (u, v) = (gd q).0 m.1 in
        inr (record {
          earlier = omega arith;
          deep = rw (a, o) (omega arith);
          left = rw (a, b, o) (edge_of G fits (j / 16) (one e) (j % 16) (omega arith) u);
          right = rw (a, b, o) (edge_of G fits (j / 16) (other e) q (omega arith) v);
        })

    grown : Grown G T₀ count₀ d T' count'
    grown =
        let a = g.more in
        let b = y.more in
        record {
          queue = y.queue;
          justified = justified-longer G T count d (j % 16) (Below x 16) (8 * head + j / 16) T' count' g.justified y why;
          more = omega arith;
          keeps = λ i m. (let k = y.keeps i (omega arith) in let u = g.keeps i m in (k.0 ∙ u.0, k.1 ∙ u.1));
          most = y.most;
        }

    stepped : SuccessorsQueued G (one e) (other e) d T count j → SuccessorsQueued G (one e) (other e) d T' count' (j + 1)
    stepped s c r z i m u v = at (dec_lt (16 * c + r) j)
      where
        at : Dec (16 * c + r < j) → Has T' count' d r z
        at (yes w) = has-longer T T' count count' d r z y.keeps y.more (s c r z w m u v)
        at (no w) =
            let a : r ≡ j % 16 = omega arith in
            let b : c ≡ j / 16 = omega arith in
            rw a (y.has z (edge_to G fits c (other e) z v, (gd z).1 (rw (b, a) at u.to, rw b at v.to)))

    pub step-taken : SuccessorsQueued G (one e) (other e) d T count j → Grown G T₀ count₀ d T' count' × SuccessorsQueued G (one e) (other e) d T' count' (j + 1)
    step-taken s = (grown, stepped s)

  closed : 16 * G.k ≤ j → SuccessorsQueued G (one e) (other e) d T count j → Closed G T count head
  closed l s c x y u v =
      let o : pair T head ≡ e = (g.keeps head h).0 ∙ sym is in
      let u' : Edge G c (one e) x = rw o at u in
      let v' : Edge G c (other e) y = rw o at v in
      let n = u'.letter in
      let m = edge_to G fits c (one e) x u' in
      let z : suc (depth (pair T head)) ≡ d = rw o (omega arith) in
      rw z (s c x y (omega arith) m u' v')

  grown-by : Grown G T₀ count₀ (suc (depth (pair T₀ head))) T count
  grown-by = let z : suc (depth (pair T₀ head)) ≡ d = rw (← is) (omega arith) in rw z g

  pub all-taken : 16 * G.k ≤ j → SuccessorsQueued G (one e) (other e) d T count j → Grown G T₀ count₀ (suc (depth (pair T₀ head))) T count × Closed G T count head
  all-taken l s = (grown-by, closed l s)
