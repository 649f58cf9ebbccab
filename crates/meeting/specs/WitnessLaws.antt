-- A meeting traced back to its start is a witness. Assumes nothing.
use Rattle.std.specs.Prelude.{ℕ, suc, ◌+◌, ◌≡◌, refl, List, get_or, IsSome, None, Option, Some}
use Rattle.std.proofs.Common.{sym, ap, subst, inl, inr, add-one, arith}
use Rattle.sets.specs.Sets.{Member}
use Rattle.automaton.specs.Graph.{Graph}
use Rattle.automaton.specs.Meeting.{Walk, Witness, cells}
use Rattle.lent.specs.Lent.{WitnessTables}
use Rattle.queue.specs.Queue.{pair, depth, one, other}
use Rattle.pair_search.specs.Search.{Justified, JoinsOn, Common, LeastJoining, Joining, MeetingFound}
use Rattle.meeting.specs.Trace.{noted, ended, Tail, Traced, Leads}
use Rattle.meeting.specs.Answer.{Asked}
use Rattle.meeting.specs.LastLetterLaws.{trace-start}

whole : (G : Graph) (d : ℕ) (word states : List ℕ) → Member G.initial (get_or states 0 0) → Tail G d 0 word states → Walk G (cells word) (suc d) (cells states)
whole G d word states m t = record { starts = m; goes = λ s l. t.goes s (omega arith) (omega arith) }

traced-witness : (G : Graph) (counts : ℕ) (T : List ℕ) (head d i : ℕ) (v : WitnessTables) → d ≡ depth (pair T head) → MeetingFound G counts T head
    → Traced G counts T head d 0 i v → Witness G (Member counts) (suc d) v.word v.one v.other
traced-witness G counts T head d i v e f x = go (f.justified i (let b = x.before in omega arith))
  where
    go : Justified G T i → Witness G (Member counts) (suc d) v.word v.one v.other
    go (inr n) = absurd (let a = n.deep in let b = x.deep in omega arith)
    go (inl n) =
        let m = f.most in
        record {
          meets = record {
            one = whole G d v.word v.one (rw x.state-one n.left) x.tail-one;
            other = whole G d v.word v.other (rw x.state-other n.right) x.tail-other;
            differ = (d, omega arith, x.apart);
            shared = x.shared;
            counts = x.counted;
          };
          shortest = rw e f.shortest;
          most = omega arith;
          behind-word = λ j l. x.tail-one.behind-word j (omega arith);
          behind-one = λ j l. x.tail-one.behind j l;
          behind-other = λ j l. x.tail-other.behind j l;
        }

-- the pair found joins on some letter
pub found-joins : {G : Graph} {counts : ℕ} {T : List ℕ} {head e : ℕ} (o : Option ℕ) → MeetingFound G counts T head → e ≡ pair T head → Joining G.table counts e o → IsSome o
found-joins {G} {counts} None f h j = absurd (j f.letter f.low (subst (λ (x : ℕ). JoinsOn G.table counts x f.letter) (sym h) f.joins))
found-joins (Some l) f h j = refl

pub witness-of : {G : Graph} {counts : ℕ} {T : List ℕ} {head e l i : ℕ} {v w u : WitnessTables} (r z : ℕ) → Asked G v → MeetingFound G counts T head → e ≡ pair T head
    → LeastJoining G.table counts e l → Common G.table counts (one e) (other e) l r → Member r z → u ≡ noted v (depth e) l e
    → Leads T head (depth e) 0 i (ended u (depth e) z) w
    → Witness G (Member counts) (depth e + 1) w.word w.one w.other
witness-of {G} {counts} {T} {head} {e} {l} {i} {v} {w} r z a f he j c m k g =
    let start = trace-start G counts T head e l z v a he (rw he f.most) j.low j.joins.apart ((c z).0 m) in
    let g' = subst (λ (u : WitnessTables). Leads T head (depth e) 0 i (ended u (depth e) z) w) k g in
    rw add-one (traced-witness G counts T head (depth e) i w (ap depth he) f (g' G counts f.justified start))
