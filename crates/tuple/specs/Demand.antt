-- The verdict is right: the least colour entered without end is even exactly if the sheet passes the word. Assumes nothing.
use Rattle.std.specs.Prelude.{ℕ, suc, ◌+◌, ◌%◌, ◌≤◌, ◌<◌, ◌≡◌, ◌↔◌}
use Rattle.std.proofs.Common.{sym, subst, ap, ◌∙◌, arith}
use Rattle.std.proofs.Math.Decide.{ℕ_discrete}
use Rattle.sets.specs.Sets.{Member}
use Rattle.sets.specs.SetLaws.{member-dec}
use Rattle.automaton.specs.Automaton.{Automaton, graph_of, Fits}
use Rattle.automaton.specs.Graph.{Edge}
use Rattle.automaton.specs.Meeting.{Walk, Meet, Free}
use Rattle.automaton.specs.Endless.{EndlessFrom, MeetingFree}
use Rattle.automaton.specs.EndlessLaws.{reading-endless, reading-walk}
use Rattle.automaton.specs.Reading.{Reading, Passes, Recurrent}
use Rattle.automaton.proofs.RecurrenceLaws.{recurs-takes}
use Rattle.automaton.specs.EdgeLaws.{edge-dec}
use Rattle.finite.specs.Paths.{glue, glue-lt, glue-ge, extend}
use Rattle.finite.specs.Least.{lowest}
use Rattle.theory.specs.Run.{Path, Often, Alone, Least}
use Rattle.theory.specs.Endless.{LPO}
use Rattle.theory.proofs.Endless.{least-endless}
use Rattle.theory.proofs.Theorem.{repeating, endless}
use Rattle.tuple.specs.Step.{place_set, run, colour_entered}
use Rattle.tuple.specs.PassLaws.{In}
use Rattle.tuple.specs.TupleLaws.{first-in, first_member}
use Rattle.tuple.specs.RunLaws.{run-repeats, is-run, set-zero}

-- The readings of a sheet are the paths of the theory, and to visit must-recur states, or to take marked transitions, without end is to take recurrent
-- transitions without end

abbrev Paths : Automaton → (ℕ → ℕ) → (ℕ → ℕ) → Type 0
Paths A w x = Path (λ t. Edge (graph_of A) (w t)) (λ t. In (run A w t).sets) x

path-of : (A : Automaton) (w x : ℕ → ℕ) → Reading (graph_of A) w x → Paths A w x
unfolding run
path-of A w x h = record { starts = first_member A (x 0) h.starts; goes = h.goes }

reading-of : (A : Automaton) (w x : ℕ → ℕ) → Paths A w x → Reading (graph_of A) w x
unfolding run
reading-of A w x h = record { starts = (first-in A 0 (x 0) h.starts).1; goes = h.goes }

passes-both : (A : Automaton) (w : ℕ → ℕ) → ((x : ℕ → ℕ) × Paths A w x × Often (λ t. Recurrent A (w t)) x) ↔ Passes A w
passes-both A w = (
  λ (x, h, o). let g = reading-of A w x h in (x, g, (recurs-takes A w x g).1 o),
  λ (x, h, r). (x, path-of A w x h, (recurs-takes A w x h).0 r),
)

-- An automaton without walks that meet in states that count, and every state of a reading counts
module _ {A : Automaton} (fits : Fits A) (Counts : ℕ → Type 0) (count : (w x : ℕ → ℕ) → Reading (graph_of A) w x → (t : ℕ) → Counts (x t))
    (free : Free (graph_of A) Counts) (w : ℕ → ℕ) (letters : (t : ℕ) → w t < A.k) where
  -- Any other state of set 0 that steps to the reading's next state would give a second walk to it.
  alone : Alone (λ t. Edge (graph_of A) (w t)) (λ t. In (run A w t).sets)
  alone ξ path t q s e = by (ℕ_discrete q (ξ t))
    where
      meet : (q ≡ ξ t → ⊥) → (x : ℕ → ℕ) → Walk (graph_of A) w t x → x t ≡ q → Meet (graph_of A) Counts w (suc t) ξ (glue x (λ s. ξ (suc t)) (suc t))
      meet f x walk end =
          let h = reading-of A w ξ path in
          let y = glue x (λ s. ξ (suc t)) (suc t) in
          let y-first : y 0 ≡ x 0 = glue-lt x (λ s. ξ (suc t)) (suc t) 0 (omega arith) in
          let y-t : y t ≡ x t = glue-lt x (λ s. ξ (suc t)) (suc t) t (omega arith) in
          let last : Edge (graph_of A) (w t) (x t) (ξ (suc t)) = subst (λ (z : ℕ). Edge (graph_of A) (w t) z (ξ (suc t))) (sym end) e in
          let y-end : y (suc t) ≡ ξ (suc t) = glue-ge x (λ s. ξ (suc t)) (suc t) (suc t) (omega arith) in
          record {
            one = reading-walk h (suc t);
            other = record {
              starts = subst (λ (z : ℕ). Member A.initial z) (sym y-first) walk.starts;
              goes = λ s l. extend (λ t. Edge (graph_of A) (w t)) 0 t (ξ (suc t)) x (λ s b l. walk.goes s l) last s (omega arith) l;
            };
            differ = (t, omega arith, λ g. f (sym end ∙ sym y-t ∙ sym g));
            shared = sym y-end;
            counts = count w ξ h (suc t);
          }

      by : Dec (q ≡ ξ t) → q ≡ ξ t
      by (yes g) = g
      by (no f) =
          let (x, walk, end) = (set-zero fits w letters t q).0 s in
          absurd (free w (suc t) ξ (glue x (λ s. ξ (suc t)) (suc t)) (meet f x walk end))

  colours-repeat : (T d : ℕ) → ((t : ℕ) → T ≤ t → w (t + suc d) ≡ w t) → run A w (T + suc d) ≡ run A w T → (t : ℕ) → T ≤ t
      → colour_entered A w (t + suc d) ≡ colour_entered A w t
  colours-repeat T d word again t l =
      let e : suc (t + suc d) ≡ suc t + suc d = omega arith in
      ap (λ v. (run A w v).colour) e ∙ ap (λ u. u.colour) (run-repeats A w T d word again (suc t) (omega arith))

  -- The word and the tuples repeat from T on with period d + 1: the least colour entered after T, up to and with T + d + 1, is even
  -- exactly if the sheet passes the word.
  pub demand-counts : (T d : ℕ) → ((t : ℕ) → T ≤ t → w (t + suc d) ≡ w t) → run A w (T + suc d) ≡ run A w T
      → (lowest (colour_entered A w) T d % 2 ≡ 0) ↔ Passes A w
  demand-counts T d word again =
      let edges : (s q r : ℕ) → T ≤ s → Edge (graph_of A) (w s) q r → Edge (graph_of A) (w (s + suc d)) q r =
      λ s q r l e. subst (λ (a : ℕ). Edge (graph_of A) a q r) (sym (word s l)) e in
      let r = repeating (is-run fits w letters) alone T d edges (colours-repeat T d word again) in
      let p = passes-both A w in
      (λ e. p.0 (r.0 e), λ h. r.1 (p.1 h))

  -- Any endless word, with the premise LPO: there is a least colour entered without end, and it is even exactly if the sheet passes the word.
  pub least-colour : LPO → (c : ℕ) × Least (colour_entered A w) c
  least-colour lpo = least-endless lpo (is-run fits w letters) (λ t. edge-dec (graph_of A) (w t)) (λ t j q. member-dec (place_set (run A w t).sets j) q)

  pub demand-endless : LPO → (c : ℕ) → Least (colour_entered A w) c → (c % 2 ≡ 0) ↔ Passes A w
  demand-endless lpo c low =
      let r = endless (is-run fits w letters) lpo (λ t. edge-dec (graph_of A) (w t)) (λ t j q. member-dec (place_set (run A w t).sets j) q) alone c low in
      let p = passes-both A w in
      (λ e. p.0 (r.0 e), λ h. r.1 (p.1 h))

-- Demand 3: an accepted sheet has no walks that meet at a state that begins an endless path, and every state of a reading begins one.
pub demand : {A : Automaton} → Fits A → MeetingFree (graph_of A) → (w : ℕ → ℕ) → ((t : ℕ) → w t < A.k)
    → (T d : ℕ) → ((t : ℕ) → T ≤ t → w (t + suc d) ≡ w t) → run A w (T + suc d) ≡ run A w T
    → (lowest (colour_entered A w) T d % 2 ≡ 0) ↔ Passes A w
demand {A} fits free = demand-counts fits (EndlessFrom (graph_of A)) reading-endless free
