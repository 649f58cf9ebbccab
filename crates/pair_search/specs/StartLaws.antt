-- The queue starts with the pairs of initial states. Assumes nothing.
use Rattle.std.specs.Prelude.{ℕ, ◌+◌, ◌<◌, ◌≡◌, refl, List}
use Rattle.std.proofs.Common.{subst, inl, arith}
use Rattle.std.proofs.Math.Decide.{dec_lt}
use Rattle.sets.specs.Sets.{Member}
use Rattle.sets.specs.SetLaws.{no_member}
use Rattle.automaton.specs.Graph.{Graph, GraphFits}
use Rattle.queue.specs.Queue.{Has, Longer, Below}
use Rattle.queue.specs.RowLaws.{has-longer}
use Rattle.pair_search.specs.Search.{Empty, Started, Guarded}
use Rattle.automaton.specs.EdgeLaws.{initial-lt}
use Rattle.pair_search.specs.JustifiedLaws.{justified-longer}

pub start-empty : {G : Graph} {T : List ℕ} → Empty T → Started G T 0 0
start-empty e = record {
  queue = record {
    size = e.size;
    room = omega arith;
    early = λ i l. absurd (omega arith);
    sorted = λ i j l m. absurd (omega arith);
    once = λ i j l m e. absurd (omega arith);
    noted = λ i l. absurd (omega arith);
    listed = λ p q l m. absurd (no_member q (subst (λ (x : ℕ). Member x q) (e.zeros (512 + p)) m));
  };
  justified = λ i l. absurd (omega arith);
  most = λ i l. absurd (omega arith);
  begun = λ p q l. absurd (omega arith);
}

module _ {G : Graph} {T : List ℕ} {count p : ℕ} (s : Started G T count p) where
  module _ (fits : GraphFits G) (x : ℕ) (g : Guarded G.initial p G.initial x) {T' : List ℕ} {count' : ℕ} (y : Longer T count 0 p (Below x 16) 0 T' count') where
    at : (r q : ℕ) → r < p + 1 → Member G.initial r → Member G.initial q → Dec (r < p) → Has T' count' 0 r q
    at r q l a b (yes h) = has-longer T T' count count' 0 r q y.keeps y.more (s.begun r q h a b)
    at r q l a b (no h) =
        let e : r ≡ p = omega arith in
        rw e (y.has q (initial-lt G fits q b, (g q).1 (rw e at a, b)))

    pub start-more : Started G T' count' (p + 1)
    start-more = record {
      queue = y.queue;
      justified = justified-longer G T count 0 p (Below x 16) 0 T' count' s.justified y (λ q m. (let (a, b) = (g q).0 m.1 in inl (record { deep = refl; left = a; right = b })));
      most = y.most;
      begun = λ r q l a b. at r q l a b (dec_lt r p);
    }
