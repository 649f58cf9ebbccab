-- The state lines: the phase that reads them passes or refuses as Format says, by induction along the lines. Assumes nothing.
use Rattle.std.proofs.lemmas.Option.{none-some}
use Prim.Native.Nat.{ℕ, zero, suc, ◌+◌, ◌*◌, ◌^◌, ◌≤◌, ◌<◌}
use Rattle.std.specs.Prelude.{◌≡◌, refl, ◌&&◌, List, [], ◌∷◌, ◌++◌, get_or, eqb, None, Option, Some}
use Rattle.std.proofs.Common.{sym, ◌∙◌, append_assoc, eq-eqb, eqb-true, zero-add, add-zero, suc-add}
use Rattle.std.proofs.Math.Path.{ap}
use Rattle.std.proofs.Math.ListN.{length, drop}
use native.Mathlib.Omega.{arith}
use Rattle.std.proofs.Math.Numerals.{add-one}
use Rattle.columns.specs.Number.{is_numbered, is_between}
use Rattle.automaton.specs.declared.Edition.{Edition}
use Rattle.automaton.specs.declared.Edition.TheVariants.{StateBased, TransitionBased}
use Rattle.format.specs.Format.{State, state_line, state_lines, state_width, FlagsRight, StatesRight}
use Rattle.format.specs.Numbers.{flag_set}
use Rattle.format.proofs.FormatLaws.{state-length, state-behind}
use Rattle.state_lines.specs.declared.Sets.{Sets}
use Rattle.state_lines.specs.StateLines.{with_flags, state_line_at, states_at}
use Rattle.frame.specs.Phase.{Phase, refused, passed}
use Rattle.text.specs.BytesLaws.{stretch-rest}
use Rattle.columns.specs.Pair.{pair_at}
use Rattle.lists.specs.ChoiceLaws.{test-true}
use Rattle.columns.specs.NumberLaws.{numbered-by, numbered-parts, between_is, between-of}
use Rattle.columns.specs.PairLaws.{some_both, some_pair, two-of, two_is, three-of, three-is}

abbrev flags : ℕ → ℕ → State
flags i r = record { initial = i; recurring = r }

-- ONE LINE

-- by the edition: SHEET has a number and two, SHT-2 has two
pub state-line-of : (e : Edition) (s : List ℕ) (at q : ℕ) (z : State) (rest : List ℕ) → q < 1000 → FlagsRight e z → drop at s ≡ state_line e q z ++ rest →
    state_line_at e s at q ≡ Some (z.initial, z.recurring)
unfolding state_line_at state_line
state-line-of StateBased s at q z rest hq h f =
    let (first, one, two) = three-of s at 83 q z.initial z.recurring rest (hq, (omega arith, (omega arith, tt))) f in
    simp (numbered-by s at 83 q first one, two, between-of z.initial z.recurring {least = 0} {most = 1} {least' = 0} {most' = 1} (omega arith, h.0, omega arith, h.1))
state-line-of TransitionBased s at q z rest hq h f =
    let (first, both) = two-of s at 83 q z.initial rest (hq, (omega arith, tt)) f in
    let zero : z.recurring ≡ 0 = omega arith in
    rw zero (simp (eq-eqb _ _ first, both, between-of q z.initial {least = q} {most = q} {least' = 0} {most' = 1} (omega arith, omega arith, omega arith, h.0)))

state-line-is : (e : Edition) (s : List ℕ) (at q i r : ℕ) → state_line_at e s at q ≡ Some (i, r) →
    FlagsRight e (flags i r) × (drop at s ≡ state_line e q (flags i r) ++ drop (at + state_width e) s)
unfolding state_line_at state_line
state-line-is StateBased s at q i r f =
    let n = none-some {A = ℕ × ℕ} (i, r) in
    let e1 = test-true n (is_numbered s at 83 q) _ f in
    let e2 = some_pair n (pair_at s (at + 4)) _ e1.1 in
    let e3 = test-true n (is_between 0 1 e2.0 && is_between 0 1 e2.1) (Some (e2.0, e2.1)) e2.3 in
    let (a, b) = some_both e3.1 in
    let h = between_is e2.0 e2.1 {least = 0} {most = 1} {least' = 0} {most' = 1} e3.0 in
    let (first, one) = numbered-parts s at 83 q e1.0 in
    ((omega arith, omega arith), three-is s at 83 q i r refl first one (e2.2 ∙ rw (a, b)))
state-line-is TransitionBased s at q i r f =
    let n = none-some {A = ℕ × ℕ} (i, r) in
    let e1 = test-true n (eqb (get_or s at 0) 83) _ f in
    let e2 = some_pair n (pair_at s (at + 1)) _ e1.1 in
    let e3 = test-true n (is_between q q e2.0 && is_between 0 1 e2.1) (Some (e2.1, 0)) e2.3 in
    let (a, b) = some_both e3.1 in
    let h = between_is e2.0 e2.1 {least = q} {most = q} {least' = 0} {most' = 1} e3.0 in
    let p : e2.0 ≡ q = omega arith in
    ((omega arith, omega arith), two_is s at 83 q i refl (eqb-true _ _ e1.0) (e2.2 ∙ rw (p, a)))

-- THE PHASE, from state q on: the states of the lines that it read

pub record StatesPassed (e : Edition) (s : List ℕ) (line at q initial recurring todo : ℕ) (p : Sets) : Type 0 where
  pub states : List State
  pub right : StatesRight e states
  pub count : length states ≡ todo
  pub text : drop at s ≡ state_lines e q states ++ drop p.at s
  pub next : p.line ≡ line + length states
  pub initials : p.initial ≡ initial + flag_set (λ z. z.initial) q states
  pub recurrings : p.recurring ≡ recurring + flag_set (λ z. z.recurring) q states

pub record StatesRefused (e : Edition) (s : List ℕ) (line at q todo number at-line : ℕ) : Type 0 where
  pub states : List State
  pub rest : List ℕ
  pub right : StatesRight e states
  pub count : length states < todo
  pub text : drop at s ≡ state_lines e q states ++ rest
  pub seven : number ≡ 7
  pub here : at-line ≡ line + length states
  pub none : (z : State) (after : List ℕ) → FlagsRight e z → rest ≡ state_line e (q + length states) z ++ after → ⊥

abbrev pub StatesOutcome : Edition → List ℕ → ℕ → ℕ → ℕ → ℕ → ℕ → ℕ → Phase Sets → Type 0
StatesOutcome e s line at q initial recurring todo (refused number at-line) = StatesRefused e s line at q todo number at-line
StatesOutcome e s line at q initial recurring todo (passed p) = StatesPassed e s line at q initial recurring todo p

module _ (e : Edition) (s : List ℕ) (line at q initial recurring todo i r : ℕ) (told : state_line_at e s at q ≡ Some (i, r)) where
  -- a line more in front
  states-step : (p : Phase Sets) →
      StatesOutcome e s (line + 1) (at + state_width e) (q + 1) (initial + i * 2 ^ q) (recurring + r * 2 ^ q) todo p →
      StatesOutcome e s line at q initial recurring (suc todo) p
  unfolding state_lines flag_set
  states-step (passed p) h =
      let f = state-line-is e s at q i r told in
      let t : drop (at + state_width e) s ≡ state_lines e (suc q) h.states ++ drop p.at s = rw add-one at h.text in
      let a : p.initial ≡ initial + i * 2 ^ q + flag_set (λ z. z.initial) (suc q) h.states = rw add-one at h.initials in
      let b : p.recurring ≡ recurring + r * 2 ^ q + flag_set (λ z. z.recurring) (suc q) h.states = rw add-one at h.recurrings in
      record {
        states = flags i r ∷ h.states;
        right = (f.0, h.right);
        count = ap suc h.count;
        text = f.1 ∙ rw (t, append_assoc);
        next = omega (arith, h.next);
        initials = omega arith;
        recurrings = omega arith;
      }
  states-step (refused number at-line) h =
      let f = state-line-is e s at q i r told in
      let t : drop (at + state_width e) s ≡ state_lines e (suc q) h.states ++ h.rest = rw add-one at h.text in
      let k : q + 1 + length h.states ≡ q + suc (length h.states) = omega arith in
      record {
        states = flags i r ∷ h.states;
        rest = h.rest;
        right = (f.0, h.right);
        count = omega (arith, h.count);
        text = f.1 ∙ rw (t, append_assoc);
        seven = h.seven;
        here = omega (arith, h.here);
        none = rw k at h.none;
      }

pub states-outcome :
    (e : Edition) (s : List ℕ) (todo line at q initial recurring : ℕ) → q + todo ≤ 1000 →
    StatesOutcome e s line at q initial recurring todo (states_at e s line at q initial recurring todo)
unfolding states_at state_lines flag_set
states-outcome e s zero line at q initial recurring h =
    record {
      states = [];
      right = tt;
      count = refl;
      text = refl;
      next = omega arith;
      initials = omega arith;
      recurrings = omega arith;
    }
states-outcome e s (suc todo) line at q initial recurring h =
    by (state_line_at e s at q) refl
    (λ i r. states-outcome e s todo (line + 1) (at + state_width e) (q + 1) (initial + i * 2 ^ q) (recurring + r * 2 ^ q) (omega arith))
  where
    go : ℕ → ℕ → Phase Sets
    go i r = states_at e s (line + 1) (at + state_width e) (q + 1) (initial + i * 2 ^ q) (recurring + r * 2 ^ q) todo

    by : (w : Option (ℕ × ℕ)) → state_line_at e s at q ≡ w →
        ((i r : ℕ) → StatesOutcome e s (line + 1) (at + state_width e) (q + 1) (initial + i * 2 ^ q) (recurring + r * 2 ^ q) todo (go i r)) →
        StatesOutcome e s line at q initial recurring (suc todo) (with_flags w go (refused 7 line))
    by (Some (i, r)) f ih = states-step e s line at q initial recurring todo i r f (go i r) (ih i r)
    by None f ih =
        let k : q + 0 ≡ q = omega arith in
        record {
          states = [];
          rest = drop at s;
          right = tt;
          count = omega arith;
          text = refl;
          seven = refl;
          here = omega arith;
          none = rw k (λ z after right t. none-some {A = ℕ × ℕ} (z.initial, z.recurring) (sym f ∙ state-line-of e s at q z after (omega arith) right t));
        }

-- The other way round: along lines that are right the phase goes on

pub state-none :
    (e : Edition) (s : List ℕ) (at q : ℕ) → ((z : State) (after : List ℕ) → FlagsRight e z → drop at s ≡ state_line e q z ++ after → ⊥) → state_line_at e s at q ≡ None
state-none e s at q none = by (state_line_at e s at q) refl
  where
    by : (w : Option (ℕ × ℕ)) → state_line_at e s at q ≡ w → w ≡ None
    by (Some (i, r)) told = let f = state-line-is e s at q i r told in absurd (none (flags i r) (drop (at + state_width e) s) f.0 f.1)
    by None told = refl

pub states-along :
    (e : Edition) (s rest : List ℕ) (zs : List State) (todo line at q initial recurring : ℕ) → q + length zs ≤ 1000 → StatesRight e zs → drop at s ≡ state_lines e q zs ++ rest →
    states_at e s line at q initial recurring (length zs + todo) ≡
    states_at e s (line + length zs) (at + length (state_lines e q zs)) (q + length zs) (initial + flag_set (λ z. z.initial) q zs) (recurring + flag_set (λ z. z.recurring) q zs) todo
unfolding states_at state_lines flag_set
states-along e s rest [] todo line at q initial recurring h f g =
    simp (zero-add, add-zero)
states-along e s rest (z ∷ zs) todo line at q initial recurring h f g =
    let e1 : drop at s ≡ state_line e q z ++ (state_lines e (suc q) zs ++ rest) = rw append_assoc at g in
    let w : state_line_at e s at q ≡ Some (z.initial, z.recurring) = state-line-of e s at q z (state_lines e (suc q) zs ++ rest) (omega arith) f.0 e1 in
    let e2 : drop (at + state_width e) s ≡ state_lines e (q + 1) zs ++ rest = rw (state-length, ← add-one q) at (stretch-rest s at (state_line e q z) (state_lines e (suc q) zs ++ rest) e1) in
    let go = states-along e s rest zs todo (line + 1) (at + state_width e) (q + 1) (initial + z.initial * 2 ^ q) (recurring + z.recurring * 2 ^ q) (omega arith) f.1 e2 in
    let a1 : q + 1 ≡ suc q = omega arith in
    let a2 : line + 1 + length zs ≡ line + suc (length zs) = omega arith in
    let a3 = state-behind e at q z zs in
    let a4 : suc q + length zs ≡ q + suc (length zs) = omega arith in
    let a5 : initial + z.initial * 2 ^ q + flag_set (λ y. y.initial) (suc q) zs ≡ initial + (z.initial * 2 ^ q + flag_set (λ y. y.initial) (suc q) zs) = omega arith in
    let a6 : recurring + z.recurring * 2 ^ q + flag_set (λ y. y.recurring) (suc q) zs ≡ recurring + (z.recurring * 2 ^ q + flag_set (λ y. y.recurring) (suc q) zs) = omega arith in
    rw suc-add (simp w (go ∙ (rw (a1, a2, a3, a4, a5, a6))))
