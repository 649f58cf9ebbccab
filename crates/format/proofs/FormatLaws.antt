-- The lines of a sheet: how long they are, what stands behind them, the order of transitions, and the numbers of faults. Assumes nothing.
use Rattle.std.specs.Prelude.{ℕ, suc, ◌+◌, ◌≤◌, ◌<◌, ◌≡◌, refl, ◌⊎◌, ◌↔◌, List, [], ◌∷◌, ◌++◌, length, drop}
use Rattle.std.proofs.Common.{◌∙◌, inl, inr, append_assoc, arith}
use Rattle.std.proofs.Math.ListN.{length-append}
use Rattle.std.proofs.Math.Decide.{dec_lt}
use Rattle.text.specs.Bytes.{lf, space}
use Rattle.text.specs.BytesLaws.{stretch-rest}
use Rattle.columns.specs.Column.{column}
use Rattle.columns.specs.LineLaws.{numbers_line-length}
use Rattle.automaton.specs.declared.Edition.{Edition}
use Rattle.automaton.specs.declared.Edition.TheVariants.{StateBased, TransitionBased}
use Rattle.format.specs.Format.{State, Transition, Withdrawal, Sheet, sheet_word, head_line, name_line, withdrawal_line, state_numbers, state_line, transition_numbers, transition_line, state_width, transition_width, name_lines, withdrawal_lines, state_lines, transition_lines, lines, transition_index, Before, NameFault, EndFault, Faulty, least_after, wrong_name, name-twice, wrong-transition, withdrawn-letter, no_end, not_last}
use Rattle.format.specs.Written.{longest_text}

pub word-length : (e : Edition) → length (sheet_word e) ≡ 5
word-length StateBased = refl
word-length TransitionBased = refl

pub head-length : (e : Edition) (n k : ℕ) → length (head_line e n k) ≡ 12
unfolding head_line
head-length e n k = numbers_line-length (sheet_word e) (n ∷ k ∷ []) ∙ omega (arith, word-length e)

pub name-length : (l : ℕ) (x : List ℕ) → length (name_line l x) ≡ 6 + length x
unfolding name_line column
name-length l x = simp length-append (omega arith)

pub withdrawal-length : (w : Withdrawal) → length (withdrawal_line w) ≡ 8
unfolding withdrawal_line
withdrawal-length w = numbers_line-length (87 ∷ []) (w.letter ∷ w.by ∷ [])

pub state-length : (e : Edition) (q : ℕ) (z : State) → length (state_line e q z) ≡ state_width e
unfolding state_line
state-length StateBased q z = numbers_line-length (83 ∷ []) (state_numbers StateBased q z)
state-length TransitionBased q z = numbers_line-length (83 ∷ []) (state_numbers TransitionBased q z)

pub transition-length : (e : Edition) (t : Transition) → length (transition_line e t) ≡ transition_width e
unfolding transition_line
transition-length StateBased t = numbers_line-length (84 ∷ []) (transition_numbers StateBased t)
transition-length TransitionBased t = numbers_line-length (84 ∷ []) (transition_numbers TransitionBased t)

-- a transition line has at least one byte, and none of the two kinds more than 14
pub transition-width : (e : Edition) → (1 ≤ transition_width e) × (transition_width e ≤ 14)
transition-width StateBased = (omega arith, omega arith)
transition-width TransitionBased = (omega arith, omega arith)

pub state-width : (e : Edition) → state_width e ≤ 11
state-width StateBased = omega arith
state-width TransitionBased = omega arith

-- SHT-2 has the longer text
pub longest-most : (e : Edition) → longest_text e ≤ 29056
longest-most StateBased = omega arith
longest-most TransitionBased = omega arith

-- behind a line, the others begin where it ends
module _ (at : ℕ) (w : Withdrawal) (ws : List Withdrawal) where
  pub withdrawal-behind : at + 8 + length (withdrawal_lines ws) ≡ at + length (withdrawal_lines (w ∷ ws))
  unfolding withdrawal_lines
  withdrawal-behind = omega (arith, length-append (withdrawal_line w) (withdrawal_lines ws), withdrawal-length w)

module _ (e : Edition) (at q : ℕ) (z : State) (zs : List State) where
  pub state-behind : at + state_width e + length (state_lines e (suc q) zs) ≡ at + length (state_lines e q (z ∷ zs))
  unfolding state_lines
  state-behind = omega (arith, length-append (state_line e q z) (state_lines e (suc q) zs), state-length e q z)

module _ (e : Edition) (at : ℕ) (t : Transition) (ts : List Transition) where
  pub transition-behind : at + transition_width e + length (transition_lines e ts) ≡ at + length (transition_lines e (t ∷ ts))
  unfolding transition_lines
  transition-behind = omega (arith, length-append (transition_line e t) (transition_lines e ts), transition-length e t)

-- there are no more transitions than their lines have bytes
pub transitions-few : (e : Edition) (ts : List Transition) → length ts ≤ length (transition_lines e ts)
unfolding transition_lines
transitions-few e [] = omega arith
transitions-few e (t ∷ ts) = omega (arith, transition-behind e 0 t ts, transitions-few e ts, (transition-width e).0)

-- the lines kind by kind, and what stands behind them
pub lines-parted :
    (σ : Sheet) (rest : List ℕ) →
    lines σ ++ rest ≡
    head_line σ.edition σ.n σ.k
    ++ (name_lines 0 σ.names
    ++ (withdrawal_lines σ.withdrawals ++ (state_lines σ.edition 0 σ.states ++ (transition_lines σ.edition σ.transitions ++ rest))))
unfolding lines
lines-parted σ rest = simp append_assoc

-- a name line in parts: its name, and what stands behind it
pub name-parted : (l : ℕ) (x rest : List ℕ) → name_line l x ++ rest ≡ 78 ∷ (column 3 l ++ (space ∷ (x ++ (lf ∷ rest))))
unfolding name_line
name-parted l x rest = simp append_assoc

module _ (s : List ℕ) (at l : ℕ) (x rest : List ℕ) (e : drop at s ≡ name_line l x ++ rest) where
  pub name-behind : drop (at + 5) s ≡ x ++ (lf ∷ rest)
  unfolding column
  name-behind = stretch-rest s at (78 ∷ (column 3 l ++ (space ∷ []))) (x ++ (lf ∷ rest)) (e ∙ name-parted l x rest)

  pub name-rest : drop (at + 5 + length x + 1) s ≡ rest
  name-rest =
      let p : at + length (name_line l x) ≡ at + 5 + length x + 1 = omega (arith, name-length l x) in
      rw p at (stretch-rest s at (name_line l x) rest e)

-- "strictly ascending by these three": the order of places is that of from, then letter, then to
module _ (t u : Transition) (l : t.letter < 8) (m : u.letter < 8) (a : t.to < 16) (b : u.to < 16) where
  pub place-before : (transition_index t < transition_index u) ↔ Before t u
  place-before = (λ h. by h (dec_lt t.from u.from) (dec_lt t.letter u.letter), back)
    where
      by : transition_index t < transition_index u → Dec (t.from < u.from) → Dec (t.letter < u.letter) → Before t u
      by h (yes f) g = inl f
      by h (no f) (yes g) = inr (omega arith, inl g)
      by h (no f) (no g) = inr (omega arith, inr (omega arith, omega arith))

      back : Before t u → transition_index t < transition_index u
      back (inl f) = omega arith
      back (inr (f, inl g)) = omega arith
      back (inr (f, inr (g, d))) = omega arith

-- THE NUMBERS of a file's faults: questions 2 to 9, 15 and 16
pub fault-number : {s : List ℕ} {number line : ℕ} → Faulty s number line → (2 ≤ number) × (number ≤ 16) × ((number ≤ 9) ⊎ (15 ≤ number))
fault-number (Faulty.size a) = (omega arith, omega arith, inl (omega arith))
fault-number (Faulty.head a b) = (omega arith, omega arith, inl (omega arith))
fault-number (Faulty.range a i n k rest b c d e) = (omega arith, omega arith, inl (omega arith))
fault-number (Faulty.name σ rest a b f) = by f
  where
    by : {number : ℕ} → NameFault σ.names rest number → (2 ≤ number) × (number ≤ 16) × ((number ≤ 9) ⊎ (15 ≤ number))
    by (wrong_name c) = (omega arith, omega arith, inl (omega arith))
    by (name-twice x after c d e) = (omega arith, omega arith, inl (omega arith))
fault-number (Faulty.withdrawal σ rest a b c d) = (omega arith, omega arith, inr (omega arith))
fault-number (Faulty.state σ rest a b c d) = (omega arith, omega arith, inl (omega arith))
fault-number (Faulty.end σ rest a b f) = by _ f
  where
    by : (due : ℕ) {number line : ℕ} → EndFault σ.edition σ.withdrawals σ.n σ.k (least_after 0 σ.transitions) rest due number line
        → (2 ≤ number) × (number ≤ 16) × ((number ≤ 9) ⊎ (15 ≤ number))
    by due (wrong-transition c d) = (omega arith, omega arith, inl (omega arith))
    by due (withdrawn-letter t after c d e) = (omega arith, omega arith, inr (omega arith))
    by due (no_end c d) = (omega arith, omega arith, inl (omega arith))
    by due (not_last after c d) = (omega arith, omega arith, inl (omega arith))
