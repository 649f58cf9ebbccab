-- Questions 2 to 11, 15 and 16 have one answer each, and the test of a case finds it. Assumes nothing.
use Rattle.std.specs.Prelude.{ℕ, ◌*◌, ◌≤◌, ◌<◌, ◌≡◌, Bool, ◌&&◌, List, length}
use Rattle.std.proofs.Math.Path.{refl}
use Rattle.std.proofs.Common.{sym, ap, subst, ◌∙◌, arith, ltb-true, ltb-false}
use Rattle.std.proofs.Math.Bool.{true, false, and-eq-true_iff}
use Rattle.std.proofs.Math.Dec.{ltb}
use Rattle.lists.specs.Choice.{choose}
use Rattle.gate.specs.Gate.{refusal}
use Rattle.gate.specs.declared.Refusal.{Refusal}
use Rattle.automaton.specs.Automaton.{Automaton, graph_of, Fits}
use Rattle.automaton.specs.Endless.{MeetingWitness}
use Rattle.automaton.specs.MeetingLaws.{one-length}
use Rattle.automaton.specs.QuestionLaws.{fits-graph}
use Rattle.format.specs.Format.{Sheet, FileIs, Faulty}
use Rattle.format.specs.Numbers.{numbers}
use Rattle.format.proofs.NumbersLaws.{sheet-fits}
use Rattle.reading.specs.Read.{Accepted}
use Rattle.parser.specs.Parse.{parse, Contents}
use Rattle.frame.specs.Phase.{Phase, refused, passed}
use Rattle.parser.proofs.ParseLaws.{AreContents}
use Rattle.parser.proofs.CompleteLaws.{faulty-parse}
use Rattle.parser.proofs.UniqueLaws.{accepts-parse}
use Rattle.tuple.specs.Step.{Tuple}
use Rattle.numbering.specs.Numbering.{Numbering, MoreThan}
use Rattle.numbering.proofs.NumberingLaws.{found_all, found-more, more-excludes, numbering-unique}
use Rattle.plan.specs.Parse.{plan_of}
use Rattle.known.specs.Case.{Expected, judged, meeting, Shortest, met}
use Rattle.known.specs.Case as E
use Rattle.known.specs.MeetingTest.{is_free, is_shortest}
use Rattle.known.specs.MeetingTestLaws.{free-is, shortest-is}
use Rattle.known.specs.CaseTest.{tuples_in, is_refused, right_plan, right_colours, right_room, right_walks, right_file}
use Rattle.known.specs.CauseLaws.{Cause}

refused-not-passed : {A : Type 0} (q : Phase A) (number line : ℕ) (x : A) → q ≡ refused number line → q ≡ passed x → ⊥
refused-not-passed q number line x e f = let z : ◌≡◌ {A = ℕ} 0 1 = cc in omega arith

-- An outcome, and what is said of it where a refusal, meeting walks or a tracker is found
module _ (s p : List ℕ) (room : ℕ) (Outcomes : Type 0) (refuse : Refusal → Outcomes) (Then : Sheet → List Tuple → Type 0) (o : Outcomes)
    (Says : Expected → Type 0)
    (says-refused : (number line : ℕ) (e : Expected) → is_refused number line e ≡ true → o ≡ refuse (refusal number line) → Says e)
    (says-meeting : (word one other : List ℕ) → o ≡ refuse (met (length word)) → Shortest s word one other → Says (meeting word one other))
    (says-numbered : (σ : Sheet) → FileIs s σ → (x : Contents) → AreContents σ x → (ts : List Tuple) → Then σ ts
    → (e : Expected) → right_colours ts e ≡ true → right_plan x.numbers (plan_of x.names x.superseding p) e ≡ true → Says e) where
  abbrev Causes : Type 0
  Causes = Cause s room Outcomes refuse Then o

  -- A FILE WITH A FAULT
  module _ (number line : ℕ) (read : parse s ≡ refused number line) where
    no-file : (σ : Sheet) → FileIs s σ → ⊥
    no-file σ file = let (x, e, c) = accepts-parse s σ file in refused-not-passed (parse s) number line x read e

    fault-refuses : Causes → o ≡ refuse (refusal number line)
    fault-refuses (Cause.sheet-fault n l fault e) =
        let r : refused n l ≡ refused number line = sym (faulty-parse s n l fault) ∙ read in
        let a : n ≡ number = cc in
        let b : l ≡ line = cc in
        e ∙ (λ i. refuse (refusal (a i) (b i)))
    fault-refuses (Cause.meeting-walks σ file length word one other h e) = absurd (no-file σ file)
    fault-refuses (Cause.no_room σ accepted h e) = absurd (no-file σ accepted.file)
    fault-refuses (Cause.numbered σ accepted ts n m h) = absurd (no-file σ accepted.file)

  -- A SHEET FILE, read as x
  module _ (x : Contents) (read : parse s ≡ passed x) where
    abbrev A : Automaton
    A = x.numbers

    no-fault : (number line : ℕ) → Faulty s number line → ⊥
    no-fault number line h = refused-not-passed (parse s) number line x (faulty-parse s number line h) read

    read_as : (σ : Sheet) → FileIs s σ → AreContents σ x
    read_as σ file =
        let (c, e, h) = accepts-parse s σ file in
        let r : passed c ≡ passed x = sym e ∙ read in
        let q : c ≡ x = cc in
        subst (AreContents σ) q h

    same_numbers : (σ : Sheet) → FileIs s σ → numbers σ ≡ A
    same_numbers σ file = sym (read_as σ file).numbers

    fits : (σ : Sheet) → FileIs s σ → Fits A
    fits σ file = subst Fits (same_numbers σ file) (sheet-fits s σ file)

    -- QUESTION 10 answered no
    module _ (word one other : List ℕ) (test : is_shortest (graph_of A) word one other ≡ true) where
      witness : (σ : Sheet) → FileIs s σ → MeetingWitness (graph_of (numbers σ)) (length word) word one other
      witness σ file =
          subst (λ (B : Automaton). MeetingWitness (graph_of B) (length word) word one other) (sym (same_numbers σ file))
          (shortest-is (graph_of A) (fits-graph (fits σ file)) word one other test)

      not_free : (σ : Sheet) → Accepted s σ → ⊥
      not_free σ accepted = accepted.free _ _ _ _ (witness σ accepted.file).meets

      walks-meet : Causes → Says (meeting word one other)
      walks-meet (Cause.sheet-fault number line h e) = absurd (no-fault number line h)
      walks-meet (Cause.meeting-walks σ file m a b c h e) =
          let k = witness σ file in
          says-meeting word one other (e ∙ ap (λ (n : ℕ). refuse (met n)) (one-length h k)) (record { sheet = σ; file = file; witness = k })
      walks-meet (Cause.no_room σ accepted h e) = absurd (not_free σ accepted)
      walks-meet (Cause.numbered σ accepted ts n m h) = absurd (not_free σ accepted)

    -- QUESTION 10 answered yes
    module _ (free : is_free (graph_of A) ≡ true) where
      no-walks : (σ : Sheet) → FileIs s σ → (m : ℕ) (word one other : List ℕ) → MeetingWitness (graph_of (numbers σ)) m word one other → ⊥
      no-walks σ file m word one other h =
          free-is (graph_of A) (fits-graph (fits σ file)) free _ _ _ _
          (subst (λ (B : Automaton). MeetingWitness (graph_of B) m word one other) (same_numbers σ file) h).meets

      renumbered : (σ : Sheet) → FileIs s σ → (ts : List Tuple) → Numbering (numbers σ) ts → Numbering A ts
      renumbered σ file ts n = subst (λ (B : Automaton). Numbering B ts) (same_numbers σ file) n

      -- QUESTION 11 answered no
      room-refuses : room < length (tuples_in A room) → Causes → o ≡ refuse (refusal 11 0)
      room-refuses full (Cause.sheet-fault number line h e) = absurd (no-fault number line h)
      room-refuses full (Cause.meeting-walks σ file m a b c h e) = absurd (no-walks σ file m a b c h)
      room-refuses full (Cause.no_room σ accepted h e) = e
      room-refuses full (Cause.numbered σ accepted ts n m h) =
          absurd (more-excludes A room ts (found-more A (8 * room) room full) (renumbered σ accepted.file ts n) m)

      -- QUESTION 11 answered yes
      module _ (most : length (tuples_in A room) ≤ room) where
        all_found : (σ : Sheet) → FileIs s σ → Numbering A (tuples_in A room)
        all_found σ file = found_all A (8 * room) (fits σ file).range.3 (omega arith)

        room_fits : (e : Expected) → right_colours (tuples_in A room) e ≡ true → right_plan A (plan_of x.names x.superseding p) e ≡ true → Causes → Says e
        room_fits e c t (Cause.sheet-fault number line h is) = absurd (no-fault number line h)
        room_fits e c t (Cause.meeting-walks σ file m a b d h is) = absurd (no-walks σ file m a b d h)
        room_fits e c t (Cause.no_room σ accepted h is) =
            absurd (more-excludes A room (tuples_in A room)
            (subst (λ (B : Automaton). MoreThan B room) (same_numbers σ accepted.file) h) (all_found σ accepted.file) most)
        room_fits e c t (Cause.numbered σ accepted ts n m h) =
            let q : ts ≡ tuples_in A room =
            numbering-unique A ts (tuples_in A room) (renumbered σ accepted.file ts n) (all_found σ accepted.file) in
            says-numbered σ accepted.file x (read_as σ accepted.file) ts h e (rw q c) t

      room-asked : (e : Expected) → right_room A (tuples_in A room) x.names x.superseding p room e ≡ true → Causes → Says e
      unfolding right_room
      room-asked e t h = by (ltb room (length (tuples_in A room))) refl t
        where
          by : (b : Bool) → ltb room (length (tuples_in A room)) ≡ b
              → choose b (is_refused 11 0 e) (right_colours (tuples_in A room) e && right_plan A (plan_of x.names x.superseding p) e) ≡ true → Says e
          by true q t = says-refused 11 0 e t (room-refuses (ltb-true room (length (tuples_in A room)) q) h)
          by false q t =
              let (c, d) = (and-eq-true_iff (right_colours (tuples_in A room) e) (right_plan A (plan_of x.names x.superseding p) e)).0 t in
              room_fits (ltb-false room (length (tuples_in A room)) q) e c d h

    walks-asked : (e : Expected) → right_walks A x.names x.superseding p room e ≡ true → Causes → Says e
    unfolding right_walks
    walks-asked (meeting word one other) t h = walks-meet word one other t h
    walks-asked (judged z colours) t h = let (a, b) = (and-eq-true_iff (is_free (graph_of A)) _).0 t in room-asked a (judged z colours) b h
    walks-asked (E.refused number line) t h = let (a, b) = (and-eq-true_iff (is_free (graph_of A)) _).0 t in room-asked a (E.refused number line) b h

  file-asked : (e : Expected) (q : Phase Contents) → parse s ≡ q → right_file q p room e ≡ true → Causes → Says e
  unfolding right_file
  file-asked e (refused number line) read t h = says-refused number line e t (fault-refuses number line read h)
  file-asked e (passed x) read t h = walks-asked x read e t h

  -- THE LAW: what the test of the sheet finds is said of the outcome
  pub sheet-asked : (e : Expected) → right_file (parse s) p room e ≡ true → Causes → Says e
  sheet-asked e t h = file-asked e (parse s) refl t h
