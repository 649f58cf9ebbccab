-- The questions behind the reading of the names' file: a differing k, and those on the numbers. Assumes nothing.
use Rattle.std.specs.Prelude.{ℕ, ◌≡◌, List, Err, Ok, Result}
use Rattle.std.proofs.Common.{sym, ap, ◌∙◌, subst}
use Rattle.gate.specs.Gate.{refusal}
use Rattle.gate.specs.declared.Refusal.{Refusal}
use Rattle.automaton.specs.declared.Numbers.{Numbers}
use Rattle.automaton.specs.Automaton.{Automaton}
use Rattle.lent.specs.Lent.{WitnessTables, cleared_witness}
use Rattle.lent.proofs.LentLaws.{tables-twice, meets-cleared}
use Rattle.superseding.specs.Superseding.{superseding_in}
use Rattle.format.specs.Format.{Withdrawal}
use Rattle.format.specs.Withdrawals.{TellWithdrawn}
use Rattle.format.proofs.WithdrawalLaws.{superseding-tell}
use Rattle.parser.specs.LettersOf.{LettersIn}
use Rattle.reading.specs.Read.{ReadTables, SheetRead}
use Rattle.named_numbers.specs.Ask.{NamedNumbersRefuse, ChecksNamed, NamedRefuse, Asks}

-- from cleared tables to those that are lent
named-cleared : {A : Automaton} {ws : List Withdrawal} (v : WitnessTables) {w : WitnessTables} {x : Refusal}
    → NamedNumbersRefuse A ws (cleared_witness v) w x → NamedNumbersRefuse A ws v w x
named-cleared v (NamedNumbersRefuse.unfit number f e z) = NamedNumbersRefuse.unfit number f e (z ∙ tables-twice v)
named-cleared v (NamedNumbersRefuse.withdrawn fits n e z) = NamedNumbersRefuse.withdrawn fits n e (z ∙ tables-twice v)
named-cleared v (NamedNumbersRefuse.meeting fits f m) = NamedNumbersRefuse.meeting fits f (meets-cleared v m)

module _ (A : Automaton) {s : List ℕ} {before after : ReadTables} {a : Numbers} (h : SheetRead s before after a) where
  pub ask-letters : {x : Refusal} → (a.k ≡ A.k → ⊥) → x ≡ refusal 4 0 → NamedRefuse A s before.witness after.witness x
  ask-letters differ e = NamedRefuse.by-letters h.sheet h.accepted (λ same. differ (sym h.names.letters ∙ same)) e h.witness

  -- the rows tell which letters the file withdraws
  tell : TellWithdrawn h.sheet.withdrawals (superseding_in after.rows)
  tell =
      let ws = h.sheet.withdrawals in
      subst (TellWithdrawn ws) (sym h.names.superseding) (superseding-tell h.sheet.k h.accepted.file.right.range.3 ws h.names.withdrawals)

  pub ask-numbers : a.k ≡ A.k → (checked : WitnessTables) (r : Result Unit Refusal)
      → ((ws : List Withdrawal) → TellWithdrawn ws (superseding_in after.rows) → ChecksNamed A ws after.witness checked r)
      → Asks A s after.rows before.witness checked r
  ask-numbers same checked r answer = by r (answer h.sheet.withdrawals tell)
    where
      by : (r : Result Unit Refusal) → ChecksNamed A h.sheet.withdrawals after.witness checked r → Asks A s after.rows before.witness checked r
      by (Err x) refuse =
          let cleared-refuse = subst (λ (z : WitnessTables). NamedNumbersRefuse A h.sheet.withdrawals z checked x) h.witness refuse in
          NamedRefuse.by-numbers h.sheet h.accepted (h.names.letters ∙ same) (named-cleared before.witness cleared-refuse)
      by (Ok tt) (fits, in-force, free, z) = (
        h.sheet,
        record { names = h.accepted; letters = h.names.letters ∙ same; fits = fits; in-force = in-force; free = free },
        subst (λ (k : ℕ). LettersIn h.sheet k after.rows) same h.names,
        z ∙ ap cleared_witness h.witness ∙ tables-twice before.witness,
      )
