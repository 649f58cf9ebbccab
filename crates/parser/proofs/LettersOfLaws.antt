-- What the answer of a whole file says of the file: the theorem of ParseLaws, put to use. Assumes nothing.
use Rattle.std.specs.Prelude.{ℕ, ◌*◌, ◌≡◌, List, drop, Err, Ok}
use Rattle.std.proofs.Common.{sym, ◌∙◌, ap, subst, arith}
use Rattle.gate.specs.Gate.{RefusedBy, cleared}
use Rattle.gate.specs.declared.Refusal.{Refusal}
use Rattle.automaton.specs.Automaton.{Automaton, TransitionSets, AreNumbers}
use Rattle.automaton.specs.declared.Numbers.{Numbers}
use Rattle.lent.specs.Lent.{cleared_sets, lent_sets}
use Rattle.name_rows.specs.Rows.{HoldNames}
use Rattle.format.specs.Format.{Sheet, FileIs, Faulty}
use Rattle.format.specs.Numbers.{numbers}
use Rattle.parser.specs.Parse.{Contents, parse}
use Rattle.frame.specs.Phase.{Phase, refused, passed}
use Rattle.parser.proofs.ParseLaws.{Means, AreContents, parse-means}
use Rattle.parser.specs.PhaseAnswers.{numbers_of, FileRead}
use Rattle.superseding.specs.Superseding.{superseding_in, with_superseding}
use Rattle.parser.specs.LettersOf.{LettersIn, BehindNames, LettersOf}

-- a file that is read: its numbers and letters, and its successor sets and marks
pub record FileAccepted (s : List ℕ) (t u : TransitionSets) (old rows : List ℕ) (a : Numbers) : Type 0 where
  pub letters : LettersOf s rows a
  pub sets : u ≡ lent_sets (numbers letters.sheet) t
  pub behind : BehindNames letters.sheet a.k old rows

are-numbers : (σ : Sheet) {a : Numbers} → a ≡ numbers_of (numbers σ) → AreNumbers (numbers σ) a
are-numbers σ e = record {
  edition = ap (λ z. z.edition) e;
  n = ap (λ z. z.n) e;
  k = ap (λ z. z.k) e;
  initial = ap (λ z. z.initial) e;
  recurring = ap (λ z. z.recurring) e;
}

letters-in : {s rows : List ℕ} (σ : Sheet) {a : Numbers} → FileIs s σ → a ≡ numbers_of (numbers σ) → {c : Contents} → AreContents σ c → HoldNames c.names rows
    → superseding_in rows ≡ c.superseding → LettersIn σ a.k rows
unfolding numbers
letters-in {rows = rows} σ file e are holds cells =
    let k : σ.k ≡ _ = sym (ap (λ (z : Numbers). z.k) e) in
    record {
      letters = k;
      all-names = file.all-names ∙ k;
      holds = subst (λ (names : List (List ℕ)). HoldNames names rows) are.names holds;
      withdrawals = file.right.withdrawals;
      superseding = cells ∙ are.superseding;
    }

module _ (s : List ℕ) (t u : TransitionSets) (old rows : List ℕ) where
  pub file-refused : (r : Refusal) → FileRead (parse s) t u old rows (Err r) → RefusedBy (Faulty s) r × (u ≡ cleared_sets t) × (rows ≡ cleared old)
  file-refused r = cases (parse s) (parse-means s)
    where
      cases : (p : Phase Contents) → Means s p → FileRead p t u old rows (Err r) → RefusedBy (Faulty s) r × (u ≡ cleared_sets t) × (rows ≡ cleared old)
      cases (refused number line) m e = ((number, line, m, (let d = e.0 in cc)), e.1, e.2)
      cases (passed c) m e = absurd (let d = e.0 in let z : ◌≡◌ {A = ℕ} 0 1 = cc in omega arith)

  pub read-accepted : (a : Numbers) → FileRead (parse s) t u old rows (Ok a) → FileAccepted s t u old rows a
  read-accepted a = cases (parse s) (parse-means s)
    where
      cases : (p : Phase Contents) → Means s p → FileRead p t u old rows (Ok a) → FileAccepted s t u old rows a
      cases (refused number line) m e = absurd (let d = e.0 in let z : ◌≡◌ {A = ℕ} 0 1 = cc in omega arith)
      cases (passed c) (σ, file, are) e =
          let d : Ok a ≡ Ok (numbers_of c.numbers) = e.0 in
          let h : a ≡ numbers_of c.numbers = cc in
          let n : a ≡ numbers_of (numbers σ) = h ∙ ap numbers_of are.numbers in
          record {
            letters = record { sheet = σ; file = file; are = are-numbers σ n; range = rw h e.2; names = letters-in σ file n are e.4 e.6 };
            sets = e.1 ∙ ap (λ (A : Automaton). lent_sets A t) are.numbers;
            behind = rw h e.5 ∙ ap (λ (cells : List ℕ). drop (24 * a.k) (with_superseding (cleared old) cells)) are.superseding;
          }
