-- The text of a refusal: how long it is, and how it is written. Assumes nothing.
use Prim.Native.Nat.{ℕ, ◌≤◌}
use Rattle.std.specs.Prelude.{◌≡◌, Bool, true, false, eqb, length}
use Rattle.std.proofs.Common.{sym, ◌∙◌, zero-add, arith, eq-eqb, ne_eqb}
use mathlib.Core.List.{List, [], ◌++◌, append-nil}
use Rattle.std.proofs.Math.ListN.{length-append}
use Rattle.std.proofs.lemmas.List.Edits.{sets}
use Rattle.gate.specs.declared.Refusal.{Refusal}
use Rattle.lists.specs.Choice.{choose}
use Rattle.lent.specs.Lent.{WitnessTables}
use Rattle.report.specs.Report.{refusal_line}
use Rattle.report.specs.ReportLaws.{refusal-length}
use Rattle.witness_text.specs.WitnessText.{witness_text}
use Rattle.witness_text.specs.Put.{WrittenAt}
use Rattle.witness_text.specs.PutLaws.{written-append, witness-most}
use Rattle.rewrite_output.specs.Put.{refusal_text}

module _ (r : Refusal) (w : WitnessTables) where
  pub text-other : (r.number ≡ 10 → ⊥) → refusal_text r w ≡ refusal_line r.number r.line
  unfolding refusal_text
  text-other h = simp (ne_eqb r.number 10 h) (append-nil (refusal_line r.number r.line))

  pub text-ten : r.number ≡ 10 → refusal_text r w ≡ refusal_line r.number r.line ++ witness_text w r.length
  unfolding refusal_text
  text-ten h = simp (eq-eqb r.number 10 h)

  -- a line of 12 bytes, and at most 136 letters and 137 states behind it
  pub refusal-most : r.length ≤ 136 → length (refusal_text r w) ≤ 1257
  unfolding refusal_text
  refusal-most h =
      omega (arith, length-append (refusal_line r.number r.line) behind, refusal-length r.number r.line, by (eqb r.number 10))
    where
      behind : List ℕ
      behind = choose (eqb r.number 10) (witness_text w r.length) []

      by : (t : Bool) → length (choose t (witness_text w r.length) []) ≤ 1245
      by true = witness-most w r.length h
      by false = omega arith

  -- the line is written into a buffer that was b and is c then, and with a 10 the witness behind it
  module _ {b c line : List ℕ} (is : line ≡ refusal_line r.number r.line) (put : c ≡ sets b 0 line) where
    line-written : WrittenAt (refusal_line r.number r.line) b 0 c 12
    line-written = record { stored = put ∙ rw is; behind-it = sym (zero-add (length (refusal_line r.number r.line)) ∙ refusal-length r.number r.line) }

    pub written-other : (r.number ≡ 10 → ⊥) → WrittenAt (refusal_text r w) b 0 c 12
    written-other h = rw (text-other h) line-written

    pub written-ten : {d : List ℕ} {n : ℕ} → r.number ≡ 10 → WrittenAt (witness_text w r.length) c 12 d n → WrittenAt (refusal_text r w) b 0 d n
    written-ten h x = rw (text-ten h) (written-append line-written x)
