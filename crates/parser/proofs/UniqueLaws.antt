-- A file is a sheet file or has a fault, never both, and the sheet or the fault is one: what reading gives. Assumes nothing.
use Rattle.std.specs.Prelude.{ℕ, ◌≤◌, ◌≡◌, refl, ◌⊎◌, List, [], ◌++◌}
use Rattle.std.proofs.Common.{sym, ap, subst, ◌∙◌, inl, inr, arith}
use Rattle.lists.specs.AppendLaws.{append-same}
use Rattle.automaton.specs.Graph.{InRange}
use Rattle.automaton.specs.declared.Edition.{Edition}
use Rattle.format.specs.Format.{Sheet, head_line, name_lines, withdrawal_lines, state_lines, transition_lines, end_line, WithdrawalsRight, StatesRight, TransitionsRight, FileIs, Faulty}
use Rattle.format.proofs.FormatLaws.{head-length, lines-parted}
use Rattle.parser.specs.declared.Sizes.{Sizes}
use Rattle.parser.specs.Parse.{sizes, head_of, Contents, parse}
use Rattle.frame.specs.Phase.{Phase, refused, passed}
use Rattle.parser.specs.HeadLaws.{head-right}
use Rattle.name_lines.specs.NameUniqueLaws.{names_same}
use Rattle.withdrawal_lines.specs.WithdrawalUniqueLaws.{withdrawals-same}
use Rattle.state_lines.specs.StateUniqueLaws.{states-same}
use Rattle.transition_lines.specs.TransitionUniqueLaws.{transitions-same}
use Rattle.parser.proofs.ParseLaws.{AreContents, Means, parse-means, parse-accepts}
use Rattle.parser.proofs.CompleteLaws.{state-opens, faulty-parse, file-read}

-- ONE LINE at the top of a text is one line

module _ (r t : List ℕ) where
  head-same : (a b : Edition) (n k m l : ℕ) → InRange n k → InRange m l → head_line a n k ++ r ≡ head_line b m l ++ t → (a ≡ b) × (n ≡ m) × (k ≡ l) × (r ≡ t)
  head-same a b n k m l h g e =
      let s : List ℕ = head_line a n k ++ r in
      let one : head_of s ≡ passed (sizes a n k) = head-right s a n k r h refl in
      let other : head_of s ≡ passed (sizes b m l) = head-right s b m l t g e in
      let f : ◌≡◌ {A = Sizes} (sizes a n k) (sizes b m l) = cc in (
        ap (λ (z : Sizes). z.edition) f,
        ap (λ (z : Sizes). z.n) f,
        ap (λ (z : Sizes). z.k) f,
        (append-same (head_line a n k) (head_line b m l) r t (head-length a n k ∙ sym (head-length b m l)) e).1,
      )

-- the lines behind the first one, in an edition
abbrev behind_head : Edition → Sheet → List ℕ
behind_head e σ = name_lines 0 σ.names ++ (withdrawal_lines σ.withdrawals ++ (state_lines e 0 σ.states ++ (transition_lines e σ.transitions ++ end_line)))

-- ONE SHEET
pub file-unique : (s : List ℕ) (σ τ : Sheet) → FileIs s σ → FileIs s τ → σ ≡ τ
file-unique s σ τ h g =
    let e = sym (h.text ∙ lines-parted σ end_line) ∙ (g.text ∙ lines-parted τ end_line) in
    let (edition, n, k, text) = head-same _ _ σ.edition τ.edition σ.n σ.k τ.n τ.k h.right.range g.right.range e in
    let e1 : behind_head σ.edition σ ≡ behind_head σ.edition τ = subst (λ (d : Edition). behind_head σ.edition σ ≡ behind_head d τ) (sym edition) text in
    let hk : σ.k ≤ 8 = h.right.range.3 in
    let hn : σ.n ≤ 16 = h.right.range.1 in
    let (names, e2) = names_same 0 [] [] σ.names τ.names _ _ (omega (arith, h.all-names)) (omega (arith, h.all-names, g.all-names)) h.right.names g.right.names e1 in
    let other : WithdrawalsRight σ.k 0 τ.withdrawals = rw k g.right.withdrawals in
    let (withdrawals, e3) = withdrawals-same σ.k (omega arith) 0 0 σ.withdrawals τ.withdrawals _ _ h.right.withdrawals other
    (state-opens σ.edition σ.states 0 (omega (arith, h.all-states, h.right.range.0)) _) (state-opens σ.edition τ.states 0 (omega (arith, g.all-states, g.right.range.0)) _) e2 in
    let states-right : StatesRight σ.edition τ.states = rw edition g.right.states in
    let (states, e4) = states-same σ.edition 0 σ.states τ.states _ _ (omega (arith, h.all-states)) (omega (arith, h.all-states, g.all-states)) h.right.states states-right e3 in
    let right : TransitionsRight σ.edition σ.n σ.k 0 τ.transitions = rw (edition, n, k) g.right.transitions in
    let transitions = transitions-same σ.edition σ.n σ.k (omega arith) (omega arith) 0 0 σ.transitions τ.transitions h.right.transitions right e4 in
    λ i. record { edition = edition i; n = n i; k = k i; names = names i; withdrawals = withdrawals i; states = states i; transitions = transitions i }

-- "Each number is returned on its own "no" and on nothing else": one fault
pub fault-unique : (s : List ℕ) (x y l m : ℕ) → Faulty s x l → Faulty s y m → (x ≡ y) × (l ≡ m)
fault-unique s x y l m h g =
    let a = faulty-parse s x l h in
    let b = faulty-parse s y m g in
    (cc, cc)

-- not both
pub file-or-fault : (s : List ℕ) (σ : Sheet) (x l : ℕ) → FileIs s σ → Faulty s x l → ⊥
file-or-fault s σ x l h g =
    let (c, a) = file-read s σ h in
    let b = faulty-parse s x l g in
    let z : ◌≡◌ {A = ℕ} 0 1 = cc in
    omega arith

-- one of both
pub every-file : (s : List ℕ) → ((σ : Sheet) × FileIs s σ) ⊎ ((number line : ℕ) × Faulty s number line)
every-file s = by (parse s) (parse-means s)
  where
    by : (p : Phase Contents) → Means s p → ((σ : Sheet) × FileIs s σ) ⊎ ((number line : ℕ) × Faulty s number line)
    by (refused number line) h = inr (number, line, h)
    by (passed c) h = inl (h.0, h.1)

-- EVERY SHEET FILE is read as what it holds
pub accepts-parse : (s : List ℕ) (σ : Sheet) → FileIs s σ → (c : Contents) × (parse s ≡ passed c) × AreContents σ c
accepts-parse s σ h =
    let (c, e) = file-read s σ h in
    let (τ, g, holds) = parse-accepts s c e in
    (c, e, subst (λ (υ : Sheet). AreContents υ c) (file-unique s τ σ g h) holds)
