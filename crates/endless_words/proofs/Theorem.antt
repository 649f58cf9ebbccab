-- R-13: the tracker in the lent tables is right on every endless sequence of letters. Its premises are the arguments of `endless-word`, and no others.
use Rattle.std.specs.Prelude.{ℕ, ◌≡◌}
use Rattle.std.proofs.Common.{sym, subst}
use Rattle.automaton.specs.Automaton.{Automaton, graph_of, Fits}
use Rattle.automaton.specs.Endless.{EndlessFrom, MeetingFree}
use Rattle.automaton.specs.EndlessLaws.{reading-endless}
use Rattle.endless_words.proofs.WithoutEndLaws.{eventually-least}
use Rattle.tuple.specs.Step.{colour_entered}
use Rattle.tuple.specs.Demand.{least-colour, demand-endless}
use Rattle.filling.specs.TrackerTables.{TrackerTables, Fitted}
use Rattle.passes.proofs.FollowLaws.{entered-colour}
use Rattle.endless_words.specs.EndlessWord.{colours_on, LeastWithoutEnd, TracksWords}
use Rattle.theory.specs.Endless.{LPO}

-- THE THEOREM. The sheet's numbers fit and no walks meet at a state that begins an endless path, which is what acceptance gives, and the tables hold its tracker, all
-- reachable tuples, which is what building gives.
pub endless-word : LPO → {A : Automaton} → Fits A → MeetingFree (graph_of A) → {room count : ℕ} {before tables : TrackerTables} → Fitted A room before tables count
    → TracksWords A tables
endless-word premise {A} fits free {room} {count} {before} {tables} fitted w letters =
    let (c, least) = least-colour fits (EndlessFrom (graph_of A)) reading-endless free w letters premise in
    let same : colour_entered A w ≡ colours_on tables w = λ i t. sym (entered-colour fits room count before tables fitted w letters t) i in
    record {
      colour = c;
      least = subst (λ (col : ℕ → ℕ). LeastWithoutEnd col c) same (eventually-least least);
      right = demand-endless fits (EndlessFrom (graph_of A)) reading-endless free w letters premise c least;
    }
