-- The other way round: the lines of a sheet's upper part are read through, and behind them its fault is met, or its end. Assumes nothing.
use Prim.Native.Nat.{ℕ, suc, ◌+◌, ◌-◌, ◌≤◌, ◌<◌}
use Rattle.std.specs.Prelude.{◌≡◌, replicate, None}
use Rattle.std.proofs.Math.Path.{refl, ap}
use Rattle.std.proofs.Common.{sym, ◌∙◌, lt-ltb, le-ltb, zero-add}
use mathlib.Core.List.{List, [], ◌∷◌, ◌++◌, map}
use Rattle.std.proofs.Math.ListN.{length, get_or, drop, length-append, length-drop}
use native.Mathlib.Omega.{arith}
use Rattle.names.specs.Name.{compose}
use Rattle.automaton.specs.Automaton.{TransitionSets}
use Rattle.automaton.specs.declared.Edition.{Edition}
use Rattle.format.specs.Format.{State, Withdrawal, Sheet, head_line, name_lines, withdrawal_line, withdrawal_lines, WithdrawalRight, letter_after, state_lines, transition_lines, end_line, FlagsRight, state_line, least_after, most_sheet, FileIs, Above, NameDue, WithdrawalDue, StateDue, line_due, NameFault, EndFault, Faulty}
use Rattle.format.specs.Numbers.{flag_set}
use Rattle.format.specs.Withdrawals.{withdrawn_in, superseding_of, TellWithdrawn}
use Rattle.format.proofs.WithdrawalLaws.{superseding-tell}
use Rattle.format.proofs.FormatLaws.{head-length, transitions-few, lines-parted}
use Rattle.parser.specs.declared.Sizes.{Sizes}
use Rattle.state_lines.specs.declared.Sets.{Sets}
use Rattle.state_lines.specs.StateLines.{state_line_at, states_at}
use Rattle.name_lines.specs.NameLines.{Named, names_at}
use Rattle.transition_lines.specs.TransitionLines.{transitions_at}
use Rattle.withdrawal_lines.specs.WithdrawalLines.{Superseded, superseded, withdrawals_at}
use Rattle.withdrawal_lines.specs.WithdrawalLaws.{withdrawals-along, withdrawals-end, withdrawals-fault, withdrawals-few}
use Rattle.parser.specs.Parse.{empty_sets, Contents, contents, after_head, after_names, after_withdrawals, after_states, parse}
use Rattle.frame.specs.Phase.{Phase, refused, passed, and_then}
use Rattle.text.specs.BytesLaws.{stretch-rest}
use Rattle.text.specs.WordLaws.{first_byte}
use Rattle.parser.specs.HeadLaws.{head-right, head-range, head-form}
use Rattle.name_lines.specs.NameLaws.{NamesAlong, names-along, names-fault}
use Rattle.state_lines.specs.StateLaws.{state-none, states-along}
use Rattle.transition_lines.specs.TransitionLaws.{filled_sets, transitions-along, transitions-end, transitions-fault}

-- a state line does not begin with W
pub state-opens : (e : Edition) (zs : List State) (q : ℕ) → 1 ≤ length zs → (rest : List ℕ) → get_or (state_lines e q zs ++ rest) 0 0 ≡ 87 → ⊥
unfolding state_lines state_line
state-opens d [] q some rest e = omega arith
state-opens d (z ∷ zs) q some rest e = omega arith

module _ (s : List ℕ) (σ : Sheet) (rest : List ℕ) (above : Above s σ rest) where
  sizes : Sizes
  sizes = record { edition = σ.edition; n = σ.n; k = σ.k }

  -- the rest of the file behind each kind of lines
  behind-states : List ℕ
  behind-states = transition_lines σ.edition σ.transitions ++ rest

  behind-withdrawals : List ℕ
  behind-withdrawals = state_lines σ.edition 0 σ.states ++ behind-states

  behind-names : List ℕ
  behind-names = withdrawal_lines σ.withdrawals ++ behind-withdrawals

  behind-head : List ℕ
  behind-head = name_lines 0 σ.names ++ behind-names

  text : s ≡ head_line σ.edition σ.n σ.k ++ behind-head
  unfolding behind-head behind-names behind-withdrawals behind-states
  text = above.text ∙ lines-parted σ rest

  from-names : drop 12 s ≡ behind-head
  from-names = rw head-length at (stretch-rest s 0 (head_line σ.edition σ.n σ.k) behind-head text)

  parse-head : parse s ≡ after_head s sizes
  unfolding parse sizes
  parse-head = simp (le-ltb most_sheet (length s) above.size, head-right s σ.edition σ.n σ.k behind-head above.right.range text)

  -- behind the names
  names-here : (todo : ℕ) → length σ.names ≤ σ.k → NamesAlong s behind-names σ.names todo 2 12 []
  unfolding behind-head
  names-here todo h =
      let r : σ.k ≤ 8 = above.right.range.3 in
      names-along s behind-names σ.names todo 2 12 [] (omega arith) above.right.names from-names

  -- a fault where a name is due
  name-found : NameDue σ → {number : ℕ} → NameFault σ.names rest number → parse s ≡ refused number (line_due σ)
  unfolding sizes behind-names behind-withdrawals behind-states withdrawal_lines state_lines transition_lines
  name-found due {number} fault =
      let m : ℕ = σ.k - suc (length σ.names) in
      let few : length σ.names < σ.k = due.names in
      let most-k : σ.k ≤ 8 = above.right.range.3 in
      let a = names-here (suc m) (omega arith) in
      let t : drop a.behind s ≡ rest = a.text ∙ rw (due.withdrawals, due.states, due.transitions) in
      let k : σ.k ≡ length σ.names + suc m = omega arith in
      let phase : names_at s 2 12 [] σ.k ≡ refused number (2 + length σ.names) =
      ap (names_at s 2 12 []) k ∙ (a.goes ∙ names-fault s (2 + length σ.names) a.behind σ.names m (omega arith) (rw t fault)) in
      let x : length σ.withdrawals ≡ 0 = ap length due.withdrawals in
      let z : length σ.states ≡ 0 = ap length due.states in
      let y : length σ.transitions ≡ 0 = ap length due.transitions in
      let l : 2 + length σ.names ≡ line_due σ = omega arith in
      parse-head ∙ (ap (λ (p : Phase Named). and_then p (after_names s sizes)) phase ∙ ap (refused number) l)

  module _ (all : length σ.names ≡ σ.k) where
    along : NamesAlong s behind-names σ.names 0 2 12 []
    along = names-here 0 (omega arith)

    named : Named
    named = record { names = map compose σ.names; at = along.behind; line = 2 + length σ.names }

    parse-names : parse s ≡ after_names s sizes named
    unfolding sizes named names_at
    parse-names =
        let k : σ.k ≡ length σ.names + 0 = omega arith in
        let phase : names_at s 2 12 [] σ.k ≡ passed named = ap (names_at s 2 12 []) k ∙ along.goes in
        parse-head ∙ ap (λ (p : Phase Named). and_then p (after_names s sizes)) phase

    -- behind the withdrawals
    few : length σ.withdrawals ≤ length s
    unfolding behind-names
    few =
        let e : length (drop along.behind s) ≡ length (withdrawal_lines σ.withdrawals) + length behind-withdrawals =
        ap length along.text ∙ length-append (withdrawal_lines σ.withdrawals) behind-withdrawals in
        omega (arith, length-drop along.behind s, withdrawals-few σ.withdrawals)

    from-withdrawals : drop (along.behind + length (withdrawal_lines σ.withdrawals)) s ≡ behind-withdrawals
    unfolding behind-names
    from-withdrawals = stretch-rest s along.behind (withdrawal_lines σ.withdrawals) behind-withdrawals along.text

    -- what the phase has still to do there
    abbrev withdrawals_here : ℕ → Phase Superseded
    withdrawals_here fuel =
        withdrawals_at s σ.k (2 + length σ.names + length σ.withdrawals) (along.behind + length (withdrawal_lines σ.withdrawals))
        (letter_after 0 σ.withdrawals) (withdrawn_in (replicate 8 0) σ.withdrawals) fuel

    withdrawals-goes : withdrawals_at s σ.k named.line named.at 0 (replicate 8 0) (length s + 1) ≡ withdrawals_here (suc (length s - length σ.withdrawals))
    unfolding named behind-names
    withdrawals-goes =
        let h = few in
        let f : length s + 1 ≡ length σ.withdrawals + suc (length s - length σ.withdrawals) = omega arith in
        ap (withdrawals_at s σ.k named.line named.at 0 (replicate 8 0)) f
        ∙ withdrawals-along s behind-withdrawals σ.k (omega (arith, above.right.range.3)) σ.withdrawals (suc (length s - length σ.withdrawals))
        (2 + length σ.names) along.behind 0 (replicate 8 0) above.right.withdrawals along.text

    -- a fault where a withdrawal is due
    withdrawal-found : WithdrawalDue σ → get_or rest 0 0 ≡ 87
        → ((w : Withdrawal) (after : List ℕ) → WithdrawalRight σ.k (letter_after 0 σ.withdrawals) w → rest ≡ withdrawal_line w ++ after → ⊥) → parse s ≡ refused 15 (line_due σ)
    unfolding sizes behind-withdrawals behind-states state_lines transition_lines
    withdrawal-found due opens none =
        let at : ℕ = along.behind + length (withdrawal_lines σ.withdrawals) in
        let t : drop at s ≡ rest = from-withdrawals ∙ rw (due.states, due.transitions) in
        let fault = withdrawals-fault s σ.k (length s - length σ.withdrawals) (2 + length σ.names + length σ.withdrawals) at
        (letter_after 0 σ.withdrawals) (withdrawn_in (replicate 8 0) σ.withdrawals) (rw t opens) (rw t none) in
        let z : length σ.states ≡ 0 = ap length due.states in
        let y : length σ.transitions ≡ 0 = ap length due.transitions in
        let l : 2 + length σ.names + length σ.withdrawals ≡ line_due σ = omega arith in
        parse-names ∙ (ap (λ (p : Phase Superseded). and_then p (after_withdrawals s sizes named)) (withdrawals-goes ∙ fault) ∙ ap (refused 15) l)

    withdrawn : Superseded
    withdrawn = superseded (superseding_of σ.withdrawals) (along.behind + length (withdrawal_lines σ.withdrawals)) (2 + length σ.names + length σ.withdrawals)

    tell : TellWithdrawn σ.withdrawals withdrawn.cells
    unfolding withdrawn
    tell = superseding-tell σ.k above.right.range.3 σ.withdrawals above.right.withdrawals

    -- where the withdrawals end
    module _ (other : get_or behind-withdrawals 0 0 ≡ 87 → ⊥) where
      parse-withdrawals : parse s ≡ after_withdrawals s sizes named withdrawn
      unfolding sizes withdrawn superseding_of
      parse-withdrawals =
          let at : ℕ = along.behind + length (withdrawal_lines σ.withdrawals) in
          let none : get_or s at 0 ≡ 87 → ⊥ = λ e. other (ap (λ (x : List ℕ). get_or x 0 0) (sym from-withdrawals) ∙ (first_byte s at ∙ e)) in
          let end = withdrawals-end s σ.k (suc (length s - length σ.withdrawals)) (2 + length σ.names + length σ.withdrawals) at
          (letter_after 0 σ.withdrawals) (withdrawn_in (replicate 8 0) σ.withdrawals) none in
          parse-names ∙ ap (λ (p : Phase Superseded). and_then p (after_withdrawals s sizes named)) (withdrawals-goes ∙ end)

      -- behind the states
      abbrev states_here : ℕ → Phase Sets
      states_here todo =
          states_at σ.edition s (withdrawn.line + length σ.states) (withdrawn.at + length (state_lines σ.edition 0 σ.states)) (0 + length σ.states)
          (0 + flag_set (λ z. z.initial) 0 σ.states) (0 + flag_set (λ z. z.recurring) 0 σ.states) todo

      from-states : drop (withdrawn.at + length (state_lines σ.edition 0 σ.states)) s ≡ behind-states
      unfolding withdrawn behind-withdrawals
      from-states = stretch-rest s withdrawn.at (state_lines σ.edition 0 σ.states) behind-states from-withdrawals

      states-goes : (todo : ℕ) → length σ.states ≤ σ.n → states_at σ.edition s withdrawn.line withdrawn.at 0 0 0 (length σ.states + todo) ≡ states_here todo
      unfolding withdrawn behind-withdrawals
      states-goes todo h =
          let r : σ.n ≤ 16 = above.right.range.1 in
          states-along σ.edition s behind-states σ.states todo withdrawn.line withdrawn.at 0 0 0 (omega arith) above.right.states from-withdrawals

      -- a fault where a state is due
      state-found : StateDue σ → ((z : State) (after : List ℕ) → FlagsRight σ.edition z → rest ≡ state_line σ.edition (length σ.states) z ++ after → ⊥) → parse s ≡ refused 7 (line_due σ)
      unfolding sizes withdrawn behind-states transition_lines states_at
      state-found due none =
          let m : ℕ = σ.n - suc (length σ.states) in
          let few : length σ.states < σ.n = due.states in
          let n : σ.n ≡ length σ.states + suc m = omega arith in
          let at : ℕ = withdrawn.at + length (state_lines σ.edition 0 σ.states) in
          let t : drop at s ≡ rest = from-states ∙ rw due.transitions in
          let bad : state_line_at σ.edition s at (0 + length σ.states) ≡ None = state-none σ.edition s at (0 + length σ.states) (rw (t, zero-add) none) in
          let phase : states_at σ.edition s withdrawn.line withdrawn.at 0 0 0 σ.n ≡ refused 7 (withdrawn.line + length σ.states) =
          ap (states_at σ.edition s withdrawn.line withdrawn.at 0 0 0) n ∙ (states-goes (suc m) (omega arith) ∙ simp bad) in
          let y : length σ.transitions ≡ 0 = ap length due.transitions in
          let l : withdrawn.line + length σ.states ≡ line_due σ = omega arith in
          parse-withdrawals ∙ (ap (λ (p : Phase Sets). and_then p (after_states s sizes named withdrawn)) phase ∙ ap (refused 7) l)

      module _ (every : length σ.states ≡ σ.n) where
        sets : Sets
        sets = record {
          initial = 0 + flag_set (λ z. z.initial) 0 σ.states;
          recurring = 0 + flag_set (λ z. z.recurring) 0 σ.states;
          at = withdrawn.at + length (state_lines σ.edition 0 σ.states);
          line = withdrawn.line + length σ.states;
        }

        parse-states : parse s ≡ after_states s sizes named withdrawn sets
        unfolding sizes sets states_at
        parse-states =
            let n : σ.n ≡ length σ.states + 0 = omega arith in
            let phase : states_at σ.edition s withdrawn.line withdrawn.at 0 0 0 σ.n ≡ passed sets = ap (states_at σ.edition s withdrawn.line withdrawn.at 0 0 0) n ∙ states-goes 0 (omega arith) in
            parse-withdrawals ∙ ap (λ (p : Phase Sets). and_then p (after_states s sizes named withdrawn)) phase

        -- behind the transitions
        end : ℕ
        end = sets.at + length (transition_lines σ.edition σ.transitions)

        from_end : drop end s ≡ rest
        unfolding end sets behind-states
        from_end = stretch-rest s sets.at (transition_lines σ.edition σ.transitions) rest from-states

        abbrev filled : TransitionSets
        filled = filled_sets empty_sets σ.transitions

        abbrev transitions_here : ℕ → Phase TransitionSets
        transitions_here fuel = transitions_at σ.edition s withdrawn.cells σ.n σ.k (line_due σ) end (least_after 0 σ.transitions) filled fuel

        all-few : length σ.transitions ≤ length s
        unfolding sets behind-states
        all-few =
            let e : length (drop sets.at s) ≡ length (transition_lines σ.edition σ.transitions) + length rest =
            ap length from-states ∙ length-append (transition_lines σ.edition σ.transitions) rest in
            omega (arith, length-drop sets.at s, transitions-few σ.edition σ.transitions)

        abbrev read : TransitionSets → Phase Contents
        read t = passed (contents sizes named withdrawn sets t)

        parse-transitions : parse s ≡ and_then (transitions_here (suc (length s - length σ.transitions))) read
        unfolding sizes withdrawn sets end behind-states
        parse-transitions =
            let few = all-few in
            let n : σ.n ≤ 1000 = omega (arith, above.right.range.1) in
            let k : σ.k ≤ 1000 = omega (arith, above.right.range.3) in
            let f : length s + 1 ≡ length σ.transitions + suc (length s - length σ.transitions) = omega arith in
            let l : sets.line + length σ.transitions ≡ line_due σ = omega arith in
            let go = transitions-along σ.edition s rest σ.withdrawals withdrawn.cells tell σ.n σ.k n k σ.transitions (suc (length s - length σ.transitions))
            sets.line sets.at 0 empty_sets above.right.transitions above.right.in-force from-states in
            let phase : transitions_at σ.edition s withdrawn.cells σ.n σ.k sets.line sets.at 0 empty_sets (length s + 1) ≡ transitions_here (suc (length s - length σ.transitions)) =
            ap (transitions_at σ.edition s withdrawn.cells σ.n σ.k sets.line sets.at 0 empty_sets) f
            ∙ (go ∙ ap (λ (m : ℕ). transitions_at σ.edition s withdrawn.cells σ.n σ.k m end (least_after 0 σ.transitions) filled (suc (length s - length σ.transitions))) l) in
            parse-states ∙ ap (λ (p : Phase TransitionSets). and_then p read) phase

        -- a fault where a transition or END is due
        end-found : {number line : ℕ} → EndFault σ.edition σ.withdrawals σ.n σ.k (least_after 0 σ.transitions) rest (line_due σ) number line → parse s ≡ refused number line
        end-found fault =
            parse-transitions
            ∙ ap (λ (p : Phase TransitionSets). and_then p read)
            (transitions-fault σ.edition s σ.withdrawals withdrawn.cells tell σ.n σ.k (length s - length σ.transitions) (line_due σ) end (least_after 0 σ.transitions) filled
            (omega (arith, above.right.range.1)) (omega (arith, above.right.range.3)) (rw from_end fault))

        sheet-found : rest ≡ end_line → (c : Contents) × (parse s ≡ passed c)
        sheet-found e = (
          contents sizes named withdrawn sets filled,
          parse-transitions
              ∙ ap (λ (p : Phase TransitionSets). and_then p read)
              (transitions-end σ.edition s σ.withdrawals withdrawn.cells tell σ.n σ.k (length s - length σ.transitions) (line_due σ) end (least_after 0 σ.transitions) filled (from_end ∙ e)),
        )

  some-states : length σ.states ≡ σ.n → 1 ≤ length σ.states
  some-states e = let n = above.right.range.0 in omega arith

  -- behind the withdrawals a state line is not one of them
  states-open : (1 ≤ length σ.states) → get_or behind-withdrawals 0 0 ≡ 87 → ⊥
  unfolding behind-withdrawals
  states-open some e = state-opens σ.edition σ.states 0 some behind-states e

  -- nor is a line that answers for a state
  opens-other : StateDue σ → (σ.states ≡ [] → get_or rest 0 0 ≡ 87 → ⊥) → get_or behind-withdrawals 0 0 ≡ 87 → ⊥
  unfolding behind-withdrawals behind-states state_lines transition_lines
  opens-other due other e = by σ.states refl
    where
      by : (zs : List State) → σ.states ≡ zs → ⊥
      by [] f = other f (let t : state_lines σ.edition 0 σ.states ++ (transition_lines σ.edition σ.transitions ++ rest) ≡ rest = rw (f, due.transitions) in ap (λ (x : List ℕ). get_or x 0 0) (sym t) ∙ e)
      by (z ∷ zs) f = states-open (let n = ap length f in omega arith) e

-- EVERY FAULT is the refusal
pub faulty-parse : (s : List ℕ) (number line : ℕ) → Faulty s number line → parse s ≡ refused number line
unfolding parse
faulty-parse s number line (Faulty.size h) = simp (lt-ltb most_sheet (length s) h)
faulty-parse s number line (Faulty.head size none) = simp (le-ltb most_sheet (length s) size, head-form s none)
faulty-parse s number line (Faulty.range size d n k rest hn hk e out) = simp (le-ltb most_sheet (length s) size, head-range s d n k rest hn hk e out)
faulty-parse s number line (Faulty.name σ rest above due fault) = name-found s σ rest above due fault
faulty-parse s number line (Faulty.withdrawal σ rest above due opens none) = withdrawal-found s σ rest above due.names due opens none
faulty-parse s number line (Faulty.state σ rest above due other none) = state-found s σ rest above due.names (opens-other s σ rest above due other) due none
faulty-parse s number line (Faulty.end σ rest above due fault) =
    end-found s σ rest above due.names (states-open s σ rest above (some-states s σ rest above due.states)) due.states fault

-- EVERY SHEET FILE is read
pub file-read : (s : List ℕ) (σ : Sheet) → FileIs s σ → (c : Contents) × (parse s ≡ passed c)
file-read s σ h =
    let above : Above s σ end_line = record { size = h.size; right = h.right; text = h.text } in
    sheet-found s σ end_line above h.all-names (states-open s σ end_line above (some-states s σ end_line above h.all-states)) h.all-states refl
