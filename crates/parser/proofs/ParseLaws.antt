-- A file read from the top is the sheet file of Format or has its fault: the phases, one after the other. Assumes nothing.
use Rattle.std.specs.Prelude.{ℕ, ◌+◌, ◌≤◌, ◌≡◌, refl, Bool, true, false, length, get_or, drop, replicate, ltb}
use Rattle.std.proofs.Common.{sym, ap, ◌∙◌, ltb-true, ltb-false, arith, zero-add}
use Rattle.std.proofs.Math.Path.{subst}
use mathlib.Core.List.{List, [], ◌++◌, map}
use Rattle.lists.specs.Choice.{choose}
use Rattle.text.specs.WordLaws.{first_byte}
use Rattle.names.specs.Name.{compose}
use Rattle.automaton.specs.Automaton.{TransitionSets}
use Rattle.automaton.specs.Graph.{InRange}
use Rattle.automaton.specs.declared.Edition.{Edition}
use Rattle.format.specs.Format.{State, Transition, Withdrawal, Sheet, head_line, state_line, FlagsRight, name_lines, withdrawal_lines, state_lines, transition_lines, end_line, lines, least_after, most_sheet, FileIs, Above, NameDue, WithdrawalDue, StateDue, EndDue, line_due, EndFault, Faulty}
use Rattle.format.specs.Numbers.{numbers}
use Rattle.format.specs.Withdrawals.{superseding_of, TellWithdrawn}
use Rattle.format.proofs.WithdrawalLaws.{superseding-tell}
use Rattle.format.proofs.FormatLaws.{lines-parted}
use Rattle.parser.specs.declared.Sizes.{Sizes}
use Rattle.state_lines.specs.declared.Sets.{Sets}
use Rattle.parser.specs.Parse.{head_of, empty_sets, Contents, contents, after_head, after_names, after_withdrawals, after_states, parse}
use Rattle.name_lines.specs.NameLines.{Named, names_at}
use Rattle.withdrawal_lines.specs.WithdrawalLines.{Superseded, withdrawals_at}
use Rattle.state_lines.specs.StateLines.{states_at}
use Rattle.transition_lines.specs.TransitionLines.{transitions_at}
use Rattle.frame.specs.Phase.{Phase, refused, passed, and_then}
use Rattle.parser.specs.HeadLaws.{HeadOutcome, head-outcome}
use Rattle.name_lines.specs.NameLaws.{NamesOutcome, NamesRefused, NamesPassed, names-outcome}
use Rattle.withdrawal_lines.specs.WithdrawalLaws.{WithdrawalsOutcome, WithdrawalsRefused, WithdrawalsPassed, withdrawals-outcome}
use Rattle.state_lines.specs.StateLaws.{StatesOutcome, StatesRefused, StatesPassed, states-outcome}
use Rattle.transition_lines.specs.TransitionLaws.{TransitionsOutcome, TransitionsRefused, TransitionsPassed, transitions-outcome}

-- the upper part of a sheet
abbrev upper : Edition → ℕ → ℕ → List (List ℕ) → List Withdrawal → List State → List Transition → Sheet
upper e n k names withdrawals states transitions = record { edition = e; n = n; k = k; names = names; withdrawals = withdrawals; states = states; transitions = transitions }

-- the lines of each kind, one after the other
upper-text :
    (s r1 r2 r3 r4 rest : List ℕ) (e : Edition) (n k : ℕ) (names : List (List ℕ)) (withdrawals : List Withdrawal) (states : List State) (transitions : List Transition) →
    s ≡ head_line e n k ++ r1 → r1 ≡ name_lines 0 names ++ r2 → r2 ≡ withdrawal_lines withdrawals ++ r3 → r3 ≡ state_lines e 0 states ++ r4 →
    r4 ≡ transition_lines e transitions ++ rest → s ≡ lines (upper e n k names withdrawals states transitions) ++ rest
upper-text s r1 r2 r3 r4 rest e n k names withdrawals states transitions e1 e2 e3 e4 e5 =
    e1 ∙ rw (e2, e3, e4, e5) (sym (lines-parted (upper e n k names withdrawals states transitions) rest))

-- what is read of a sheet file
pub record AreContents (σ : Sheet) (c : Contents) : Type 0 where
  pub numbers : c.numbers ≡ numbers σ
  pub names : c.names ≡ map compose σ.names
  pub superseding : c.superseding ≡ superseding_of σ.withdrawals

-- WHAT READING GIVES
abbrev pub Means : List ℕ → Phase Contents → Type 0
Means s (refused number line) = Faulty s number line
Means s (passed c) = (σ : Sheet) × FileIs s σ × AreContents σ c

module _ (s : List ℕ) (size : length s ≤ most_sheet) (z : Sizes) (range : InRange z.n z.k) (head : s ≡ head_line z.edition z.n z.k ++ drop 12 s) where
  names-refuse : (number line : ℕ) → NamesRefused s 2 12 [] z.k number line → Faulty s number line
  unfolding withdrawal_lines state_lines transition_lines
  names-refuse number line h = subst (Faulty s number) l (Faulty.name σ h.rest above due h.fault)
    where
      σ : Sheet
      σ = upper z.edition z.n z.k h.names [] [] []

      above : Above s σ h.rest
      above = record {
        size = size;
        right = record { range = range; names = h.right; withdrawals = tt; states = tt; transitions = tt; in-force = tt };
        text = upper-text s (drop 12 s) h.rest h.rest h.rest h.rest z.edition z.n z.k h.names [] [] [] head h.text refl refl refl;
      }

      due : NameDue σ
      due = record { names = h.count; withdrawals = refl; states = refl; transitions = refl }

      l : line_due σ ≡ line
      l = omega (arith, h.here)

  module _ (y : Named) (g : NamesPassed s 2 12 [] z.k y) where
    withdrawals-refuse : (number line : ℕ) → WithdrawalsRefused s z.k y.line y.at 0 number line → Faulty s number line
    unfolding state_lines transition_lines
    withdrawals-refuse number line h =
        subst (λ (x : ℕ). Faulty s x line) (sym h.fifteen) (subst (Faulty s 15) l (Faulty.withdrawal σ h.rest above due h.opens h.none))
      where
        σ : Sheet
        σ = upper z.edition z.n z.k g.names h.withdrawals [] []

        above : Above s σ h.rest
        above = record {
          size = size;
          right = record { range = range; names = g.right; withdrawals = h.right; states = tt; transitions = tt; in-force = tt };
          text = upper-text s (drop 12 s) (drop y.at s) h.rest h.rest h.rest z.edition z.n z.k g.names h.withdrawals [] [] head g.text h.text refl refl;
        }

        due : WithdrawalDue σ
        due = record { names = g.count; states = refl; transitions = refl }

        l : line_due σ ≡ line
        l = omega (arith, h.here, g.next)

    module _ (w : Superseded) (v : WithdrawalsPassed s z.k y.line y.at 0 (replicate 8 0) w) where
      cells_are : w.cells ≡ superseding_of v.withdrawals
      unfolding superseding_of
      cells_are = v.filled

      tell : TellWithdrawn v.withdrawals w.cells
      tell = subst (TellWithdrawn v.withdrawals) (sym cells_are) (superseding-tell z.k range.3 v.withdrawals v.right)

      states-refuse : (number line : ℕ) → StatesRefused z.edition s w.line w.at 0 z.n number line → Faulty s number line
      unfolding state_lines transition_lines
      states-refuse number line h =
          subst (λ (x : ℕ). Faulty s x line) (sym h.seven) (subst (Faulty s 7) l (Faulty.state σ h.rest above due other none))
        where
          σ : Sheet
          σ = upper z.edition z.n z.k g.names v.withdrawals h.states []

          above : Above s σ h.rest
          above = record {
            size = size;
            right = record { range = range; names = g.right; withdrawals = v.right; states = h.right; transitions = tt; in-force = tt };
            text = upper-text s (drop 12 s) (drop y.at s) (drop w.at s) h.rest h.rest z.edition z.n z.k g.names v.withdrawals h.states [] head g.text v.text h.text refl;
          }

          due : StateDue σ
          due = record { names = g.count; states = h.count; transitions = refl }

          l : line_due σ ≡ line
          l = omega (arith, h.here, v.next, g.next)

          -- where no state is read, the rest is what stands behind the withdrawals
          other : h.states ≡ [] → get_or h.rest 0 0 ≡ 87 → ⊥
          other e f =
              let t : drop w.at s ≡ h.rest = rw e at h.text in
              v.other (sym (first_byte s w.at) ∙ (ap (λ (x : List ℕ). get_or x 0 0) t ∙ f))

          none : (x : State) (after : List ℕ) → FlagsRight z.edition x → h.rest ≡ state_line z.edition (length h.states) x ++ after → ⊥
          none = rw zero-add at h.none

      module _ (q : Sets) (h : StatesPassed z.edition s w.line w.at 0 0 0 z.n q) where
        transitions-refuse : (number line : ℕ) → TransitionsRefused z.edition v.withdrawals s z.n z.k q.line q.at 0 number line → Faulty s number line
        transitions-refuse number line t = Faulty.end σ t.rest above due fault
          where
            σ : Sheet
            σ = upper z.edition z.n z.k g.names v.withdrawals h.states t.transitions

            above : Above s σ t.rest
            above = record {
              size = size;
              right = record { range = range; names = g.right; withdrawals = v.right; states = h.right; transitions = t.right; in-force = t.in-force };
              text = upper-text s (drop 12 s) (drop y.at s) (drop w.at s) (drop q.at s) t.rest z.edition z.n z.k g.names v.withdrawals h.states t.transitions head g.text v.text h.text t.text;
            }

            due : EndDue σ
            due = record { names = g.count; states = h.count }

            l : line_due σ ≡ q.line + length t.transitions
            l = omega (arith, h.next, v.next, g.next)

            fault : EndFault z.edition v.withdrawals z.n z.k (least_after 0 t.transitions) t.rest (line_due σ) number line
            fault = rw l t.fault

        sheet-read : (sets : TransitionSets) → TransitionsPassed z.edition v.withdrawals s z.n z.k q.at 0 empty_sets sets → Means s (passed (contents z y w q sets))
        unfolding numbers
        sheet-read sets t = (σ, file, holds)
          where
            σ : Sheet
            σ = upper z.edition z.n z.k g.names v.withdrawals h.states t.transitions

            file : FileIs s σ
            file = record {
              size = size;
              right = record { range = range; names = g.right; withdrawals = v.right; states = h.right; transitions = t.right; in-force = t.in-force };
              all-names = g.count;
              all-states = h.count;
              text = upper-text s (drop 12 s) (drop y.at s) (drop w.at s) (drop q.at s) end_line z.edition z.n z.k g.names v.withdrawals h.states t.transitions head g.text v.text h.text t.text;
            }

            holds : AreContents σ (contents z y w q sets)
            holds = record {
              numbers = λ i. record {
                edition = z.edition;
                n = z.n;
                k = z.k;
                initial = (h.initials ∙ zero-add _) i;
                recurring = (h.recurrings ∙ zero-add _) i;
                table = (t.filled i).successors;
                marks = (t.filled i).marks;
              };
              names = g.composed;
              superseding = cells_are;
            }

        transitions-mean : (p : Phase TransitionSets) → TransitionsOutcome z.edition v.withdrawals s z.n z.k q.line q.at 0 empty_sets p → Means s (and_then p (λ sets. passed (contents z y w q sets)))
        transitions-mean (refused number line) t = transitions-refuse number line t
        transitions-mean (passed sets) t = sheet-read sets t

      states-mean : (p : Phase Sets) → StatesOutcome z.edition s w.line w.at 0 0 0 z.n p → Means s (and_then p (after_states s z y w))
      states-mean (refused number line) h = states-refuse number line h
      states-mean (passed q) h =
          transitions-mean q h (transitions_at z.edition s w.cells z.n z.k q.line q.at 0 empty_sets (length s + 1))
          (transitions-outcome z.edition s v.withdrawals w.cells tell z.n z.k (omega arith) (omega arith) (length s + 1) q.line q.at 0 empty_sets (omega arith))

    withdrawals-mean : (p : Phase Superseded) → WithdrawalsOutcome s z.k y.line y.at 0 (replicate 8 0) p → Means s (and_then p (after_withdrawals s z y))
    withdrawals-mean (refused number line) v = withdrawals-refuse number line v
    withdrawals-mean (passed w) v = states-mean w v (states_at z.edition s w.line w.at 0 0 0 z.n) (states-outcome z.edition s z.n w.line w.at 0 0 0 (omega arith))

  names-mean : (p : Phase Named) → NamesOutcome s 2 12 [] z.k p → Means s (and_then p (after_names s z))
  names-mean (refused number line) g = names-refuse number line g
  names-mean (passed y) g =
      withdrawals-mean y g (withdrawals_at s z.k y.line y.at 0 (replicate 8 0) (length s + 1))
      (withdrawals-outcome s z.k (omega arith) (length s + 1) y.line y.at 0 (replicate 8 0) (omega arith))

head-means : (s : List ℕ) → length s ≤ most_sheet → (p : Phase Sizes) → HeadOutcome s p → Means s (and_then p (after_head s))
head-means s size (refused number line) h = h
head-means s size (passed z) h = names-mean s size z h.0 h.1 (names_at s 2 12 [] z.k) (names-outcome s z.k 2 12 [] (omega arith))

-- EVERY FILE is a sheet file, whose contents are read, or has a fault, which is the refusal
pub parse-means : (s : List ℕ) → Means s (parse s)
unfolding parse
parse-means s = by (ltb most_sheet (length s)) refl
  where
    by : (t : Bool) → ltb most_sheet (length s) ≡ t → Means s (choose t (refused 2 0) (and_then (head_of s) (after_head s)))
    by true e = Faulty.size (ltb-true most_sheet (length s) e)
    by false e = head-means s (ltb-false most_sheet (length s) e) (head_of s) (head-outcome s (ltb-false most_sheet (length s) e))

pub parse-accepts : (s : List ℕ) (c : Contents) → parse s ≡ passed c → (σ : Sheet) × FileIs s σ × AreContents σ c
parse-accepts s c e = subst (Means s) e (parse-means s)

pub parse-refuses : (s : List ℕ) (number line : ℕ) → parse s ≡ refused number line → Faulty s number line
parse-refuses s number line e = subst (Means s) e (parse-means s)
