-- Document 01, "The files" and "The gate questions", and document 02, R-1 and R-9: what a sheet file is, and which line of a file that is none is at fault.
use Rattle.std.specs.Prelude.{ℕ, suc, ◌+◌, ◌*◌, ◌≤◌, ◌<◌, ◌≡◌, ◌⊎◌, List, [], ◌∷◌, ◌++◌, length, get_or}
use Rattle.text.specs.Bytes.{lf, space}
pub use Rattle.text.specs.Bytes.{end_line}
use Rattle.columns.specs.Column.{column}
use Rattle.columns.specs.Line.{numbers_line}
use Rattle.names.specs.Name.{IsName, compose}
use Rattle.automaton.specs.Graph.{InRange}
use Rattle.automaton.specs.declared.Edition.{Edition}
use Rattle.automaton.specs.declared.Edition.TheVariants.{StateBased, TransitionBased}

-- a state's two flags, initial and must-recur
pub record State : Type 0 where
  pub initial : ℕ
  pub recurring : ℕ

-- "transitions (from, letter, to)", and the mark of R-9
pub record Transition : Type 0 where
  pub from : ℕ
  pub letter : ℕ
  pub to : ℕ
  pub mark : ℕ

-- "letter (3), superseding letter (3)": a withdrawn letter, and the letter that supersedes it
pub record Withdrawal : Type 0 where
  pub letter : ℕ
  pub by : ℕ

-- a sheet as its lines tell it: its edition, the names as they are spelled, the withdrawals, the states and the transitions in the order of their lines
pub record Sheet : Type 0 where
  pub edition : Edition
  pub n : ℕ
  pub k : ℕ
  pub names : List (List ℕ)
  pub withdrawals : List Withdrawal
  pub states : List State
  pub transitions : List Transition

-- THE LINES, which the edition tells

-- "the first line opens with the five letters SHEET", or "with SHT-2", "then n (3 columns), k (3)"
abbrev pub sheet_word : Edition → List ℕ
sheet_word StateBased = 83 ∷ 72 ∷ 69 ∷ 69 ∷ 84 ∷ []
sheet_word TransitionBased = 83 ∷ 72 ∷ 84 ∷ 45 ∷ 50 ∷ []

unfoldable pub head_line : Edition → ℕ → ℕ → List ℕ
head_line e n k = numbers_line (sheet_word e) (n ∷ k ∷ [])

-- "`N`, letter number in order (3), one space, the name to the line's end"
unfoldable pub name_line : ℕ → List ℕ → List ℕ
name_line l name = 78 ∷ (column 3 l ++ (space ∷ (name ++ (lf ∷ []))))

-- "`W`, letter (3), superseding letter (3)"
unfoldable pub withdrawal_line : Withdrawal → List ℕ
withdrawal_line w = numbers_line (87 ∷ []) (w.letter ∷ w.by ∷ [])

-- "`S`, state number in order (3), initial 0 or 1 (3), must-recur 0 or 1 (3)"; SHT-2 "has no third number on its S lines"
abbrev pub state_numbers : Edition → ℕ → State → List ℕ
state_numbers StateBased q z = q ∷ z.initial ∷ z.recurring ∷ []
state_numbers TransitionBased q z = q ∷ z.initial ∷ []

unfoldable pub state_line : Edition → ℕ → State → List ℕ
state_line e q z = numbers_line (83 ∷ []) (state_numbers e q z)

-- "`T`, from (3), letter (3), to (3)"; SHT-2 has "a 0 or 1 more (3 columns) on its T lines"
abbrev pub transition_numbers : Edition → Transition → List ℕ
transition_numbers StateBased t = t.from ∷ t.letter ∷ t.to ∷ []
transition_numbers TransitionBased t = t.from ∷ t.letter ∷ t.to ∷ t.mark ∷ []

unfoldable pub transition_line : Edition → Transition → List ℕ
transition_line e t = numbers_line (84 ∷ []) (transition_numbers e t)

-- how many bytes such a line has (`state-length`, `transition-length` in FormatLaws)
abbrev pub state_width : Edition → ℕ
state_width StateBased = 11
state_width TransitionBased = 8

abbrev pub transition_width : Edition → ℕ
transition_width StateBased = 11
transition_width TransitionBased = 14

-- the lines of names, from letter l on
unfoldable pub name_lines : ℕ → List (List ℕ) → List ℕ
name_lines l [] = []
name_lines l (x ∷ xs) = name_line l x ++ name_lines (suc l) xs

-- those of withdrawals
unfoldable pub withdrawal_lines : List Withdrawal → List ℕ
withdrawal_lines [] = []
withdrawal_lines (w ∷ ws) = withdrawal_line w ++ withdrawal_lines ws

-- those of states, from state q on
unfoldable pub state_lines : Edition → ℕ → List State → List ℕ
state_lines e q [] = []
state_lines e q (z ∷ zs) = state_line e q z ++ state_lines e (suc q) zs

-- and those of transitions
unfoldable pub transition_lines : Edition → List Transition → List ℕ
transition_lines e [] = []
transition_lines e (t ∷ ts) = transition_line e t ++ transition_lines e ts

-- the lines of a sheet, or of its upper part, without END: "After the name lines a sheet may have lines `W`"
unfoldable pub lines : Sheet → List ℕ
lines σ =
    head_line σ.edition σ.n σ.k
    ++ (name_lines 0 σ.names
    ++ (withdrawal_lines σ.withdrawals ++ (state_lines σ.edition 0 σ.states ++ transition_lines σ.edition σ.transitions)))

-- THE QUESTIONS, on the lines that are there

-- "Are all names distinct after composing?": the later of two names answers for both
abbrev pub DistinctFrom : List (List ℕ) → List ℕ → Type 0
DistinctFrom [] x = Unit
DistinctFrom (y ∷ ys) x = (compose y ≡ compose x → ⊥) × DistinctFrom ys x

-- names below the earlier ones
abbrev pub NamesRight : List (List ℕ) → List (List ℕ) → Type 0
NamesRight earlier [] = Unit
NamesRight earlier (x ∷ xs) = IsName x × DistinctFrom earlier x × NamesRight (earlier ++ (x ∷ [])) xs

-- letters of the sheet, "the second number always the larger", and not below the least letter that is still free
pub record WithdrawalRight (k least : ℕ) (w : Withdrawal) : Type 0 where
  pub order : least ≤ w.letter
  pub larger : w.letter < w.by
  pub letter : w.by < k

-- "strictly ascending by letter"
abbrev pub WithdrawalsRight : ℕ → ℕ → List Withdrawal → Type 0
WithdrawalsRight k least [] = Unit
WithdrawalsRight k least (w ∷ ws) = WithdrawalRight k least w × WithdrawalsRight k (w.letter + 1) ws

-- the least letter that is free behind some withdrawals
abbrev pub letter_after : ℕ → List Withdrawal → ℕ
letter_after least [] = least
letter_after least (w ∷ ws) = letter_after (w.letter + 1) ws

-- m is the superseding letter of letter l
abbrev pub Supersedes : List Withdrawal → ℕ → ℕ → Type 0
Supersedes [] l m = ⊥
Supersedes (w ∷ ws) l m = ((w.letter ≡ l) × (w.by ≡ m)) ⊎ Supersedes ws l m

-- a withdrawn letter
abbrev pub Withdrawn : List Withdrawal → ℕ → Type 0
Withdrawn ws l = (m : ℕ) × Supersedes ws l m

-- and one that is not
abbrev pub InForce : List Withdrawal → ℕ → Type 0
InForce ws l = Withdrawn ws l → ⊥

-- what the lines of an edition do not tell is 0: the must-recur flag in SHT-2, the mark in SHEET
abbrev pub most_recurring : Edition → ℕ
most_recurring StateBased = 1
most_recurring TransitionBased = 0

abbrev pub most_mark : Edition → ℕ
most_mark StateBased = 0
most_mark TransitionBased = 1

-- "initial 0 or 1 (3), must-recur 0 or 1 (3)"
abbrev pub FlagsRight : Edition → State → Type 0
FlagsRight e z = (z.initial ≤ 1) × (z.recurring ≤ most_recurring e)

abbrev pub StatesRight : Edition → List State → Type 0
StatesRight e [] = Unit
StatesRight e (z ∷ zs) = FlagsRight e z × StatesRight e zs

-- "The successor set of state q on letter l is number 8q+l of its table."
abbrev pub cell : Transition → ℕ
cell t = 8 * t.from + t.letter

-- a transition's place in the order by from, letter and to
abbrev pub transition_index : Transition → ℕ
transition_index t = cell t * 16 + t.to

-- t stands before u in that order; in range this is the order of places (`place-before` in FormatLaws)
abbrev pub Before : Transition → Transition → Type 0
Before t u = (t.from < u.from) ⊎ ((t.from ≡ u.from) × ((t.letter < u.letter) ⊎ ((t.letter ≡ u.letter) × (t.to < u.to))))

-- "in range and in order": not below the least place that is still free
pub record TransitionRight (e : Edition) (n k least : ℕ) (t : Transition) : Type 0 where
  pub from : t.from < n
  pub letter : t.letter < k
  pub to : t.to < n
  pub order : least ≤ transition_index t
  pub mark : t.mark ≤ most_mark e

-- "strictly ascending by these three": so no transition stands twice, with two marks either
abbrev pub TransitionsRight : Edition → ℕ → ℕ → ℕ → List Transition → Type 0
TransitionsRight e n k least [] = Unit
TransitionsRight e n k least (t ∷ ts) = TransitionRight e n k least t × TransitionsRight e n k (transition_index t + 1) ts

-- the least place that is free behind some transitions
abbrev pub least_after : ℕ → List Transition → ℕ
least_after least [] = least
least_after least (t ∷ ts) = least_after (transition_index t + 1) ts

-- "Transition lines may not use a withdrawn letter."
abbrev pub AllInForce : List Withdrawal → List Transition → Type 0
AllInForce ws [] = Unit
AllInForce ws (t ∷ ts) = InForce ws t.letter × AllInForce ws ts

-- questions 4, 5, 6, 15, 7, 8 and 16 are answered yes by every line of a sheet, or of its upper part
pub record Right (σ : Sheet) : Type 0 where
  pub range : InRange σ.n σ.k
  pub names : NamesRight [] σ.names
  pub withdrawals : WithdrawalsRight σ.k 0 σ.withdrawals
  pub states : StatesRight σ.edition σ.states
  pub transitions : TransitionsRight σ.edition σ.n σ.k 0 σ.transitions
  pub in-force : AllInForce σ.withdrawals σ.transitions

-- "Is the sheet at most" so many "bytes ..? No: 2."; R-9: "question 2 allows 32,768 bytes for any sheet"
abbrev pub most_sheet : ℕ
most_sheet = 32768

-- A SHEET FILE: its lines answer yes, and there are k names and n states. "Then `END`, and nothing after."
pub record FileIs (s : List ℕ) (σ : Sheet) : Type 0 where
  pub size : length s ≤ most_sheet
  pub right : Right σ
  pub all-names : length σ.names ≡ σ.k
  pub all-states : length σ.states ≡ σ.n
  pub text : s ≡ lines σ ++ end_line

-- NO SHEET FILE. "in a file the first faulty line from the top counts, and on one line the lower number."
-- The lines above the faulty one are those of the upper part σ of a sheet, and the rest starts with the faulty line.
pub record Above (s : List ℕ) (σ : Sheet) (rest : List ℕ) : Type 0 where
  pub size : length s ≤ most_sheet
  pub right : Right σ
  pub text : s ≡ lines σ ++ rest

-- the kind of line that is due behind the upper part σ: a name, a withdrawal where there is one, a state, or a transition or END
pub record NameDue (σ : Sheet) : Type 0 where
  pub names : length σ.names < σ.k
  pub withdrawals : σ.withdrawals ≡ []
  pub states : σ.states ≡ []
  pub transitions : σ.transitions ≡ []

pub record WithdrawalDue (σ : Sheet) : Type 0 where
  pub names : length σ.names ≡ σ.k
  pub states : σ.states ≡ []
  pub transitions : σ.transitions ≡ []

pub record StateDue (σ : Sheet) : Type 0 where
  pub names : length σ.names ≡ σ.k
  pub states : length σ.states < σ.n
  pub transitions : σ.transitions ≡ []

pub record EndDue (σ : Sheet) : Type 0 where
  pub names : length σ.names ≡ σ.k
  pub states : length σ.states ≡ σ.n

-- the number of the line behind them, from 1
abbrev pub line_due : Sheet → ℕ
line_due σ = 2 + (length σ.names + (length σ.withdrawals + (length σ.states + length σ.transitions)))

-- "A missing line counts as a faulty line of the kind due there, and a line without LF is faulty": neither opens with the line's text.

-- the faults where a name is due behind earlier ones; the rest of the file starts there
pub data NameFault (earlier : List (List ℕ)) (rest : List ℕ) : ℕ → Type 0 where
  -- "Is each name line of its form? No: 5."
  wrong_name : ((x after : List ℕ) → IsName x → rest ≡ name_line (length earlier) x ++ after → ⊥) → NameFault earlier rest 5
  -- "Are all names distinct after composing? No: 6, on the later line."
  name-twice : (x after : List ℕ) → IsName x → rest ≡ name_line (length earlier) x ++ after → (DistinctFrom earlier x → ⊥) → NameFault earlier rest 6

-- those where a transition or END is due, on line `line`
-- "After the states and up to `END`, a line beginning with T answers to question 8, any other to 9."
pub data EndFault (e : Edition) (ws : List Withdrawal) (n k least : ℕ) (rest : List ℕ) (line : ℕ) : ℕ → ℕ → Type 0 where
  -- "Each transition line of its form, in range and in order? No: 8."
  wrong-transition : get_or rest 0 0 ≡ 84 → ((t : Transition) (after : List ℕ) → TransitionRight e n k least t → rest ≡ transition_line e t ++ after → ⊥)
      → EndFault e ws n k least rest line 8 line
  -- "a transition on a withdrawn letter with 16 straight after 8"
  withdrawn-letter : (t : Transition) (after : List ℕ) → TransitionRight e n k least t → rest ≡ transition_line e t ++ after → Withdrawn ws t.letter
      → EndFault e ws n k least rest line 16 line
  -- "Is `END` last? No: 9."
  no_end : (get_or rest 0 0 ≡ 84 → ⊥) → ((after : List ℕ) → rest ≡ end_line ++ after → ⊥) → EndFault e ws n k least rest line 9 line
  -- "What follows `END` is a fault of the line after it: 9 in a sheet".
  not_last : (after : List ℕ) → rest ≡ end_line ++ after → (after ≡ [] → ⊥) → EndFault e ws n k least rest line 9 (suc line)

-- THE FAULT of a file: its number and its line
pub data Faulty (s : List ℕ) : ℕ → ℕ → Type 0 where
  -- 2
  size : most_sheet < length s → Faulty s 2 0
  -- "Is the first sheet line of its form? No: 3."; R-9: "Questions 3, 7 and 8 take the edition's form"
  head : length s ≤ most_sheet → ((e : Edition) (n k : ℕ) (rest : List ℕ) → n < 1000 → k < 1000 → s ≡ head_line e n k ++ rest → ⊥) → Faulty s 3 1
  -- "Are n and k in range? No: 4."
  range : length s ≤ most_sheet → (e : Edition) (n k : ℕ) (rest : List ℕ) → n < 1000 → k < 1000 → s ≡ head_line e n k ++ rest → (InRange n k → ⊥) → Faulty s 4 1
  -- 5 and 6
  name : {number : ℕ} (σ : Sheet) (rest : List ℕ) → Above s σ rest → NameDue σ → NameFault σ.names rest number → Faulty s number (line_due σ)
  -- "A line there that begins with W and is faulty is refused with 15"
  withdrawal : (σ : Sheet) (rest : List ℕ) → Above s σ rest → WithdrawalDue σ → get_or rest 0 0 ≡ 87
      → ((w : Withdrawal) (after : List ℕ) → WithdrawalRight σ.k (letter_after 0 σ.withdrawals) w → rest ≡ withdrawal_line w ++ after → ⊥)
      → Faulty s 15 (line_due σ)
  -- "Is each state line of its form? No: 7."; where no state is read yet, a line that begins with W is one of the withdrawals and answers to 15
  state : (σ : Sheet) (rest : List ℕ) → Above s σ rest → StateDue σ → (σ.states ≡ [] → get_or rest 0 0 ≡ 87 → ⊥)
      → ((z : State) (after : List ℕ) → FlagsRight σ.edition z → rest ≡ state_line σ.edition (length σ.states) z ++ after → ⊥) → Faulty s 7 (line_due σ)
  -- 8, 16 and 9
  end : {number line : ℕ} (σ : Sheet) (rest : List ℕ) → Above s σ rest → EndDue σ
      → EndFault σ.edition σ.withdrawals σ.n σ.k (least_after 0 σ.transitions) rest (line_due σ) number line → Faulty s number line
