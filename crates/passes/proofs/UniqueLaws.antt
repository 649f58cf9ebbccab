-- A word has one verdict: the definition fixes its answer, its least colour and its passes. Assumes nothing.
use Rattle.std.specs.Prelude.{ℕ, ◌+◌, ◌*◌, ◌≤◌, ◌<◌, ◌≡◌, refl}
use Rattle.std.proofs.Common.{sym, subst, ◌∙◌, arith}
use Rattle.std.proofs.Math.Decide.{dec_lt}
use Rattle.automaton.specs.Automaton.{Automaton}
use Rattle.passes.specs.declared.Answer.{Answer}
use Rattle.passes.specs.declared.Answer.TheVariants.{Yes, No}
use Rattle.passes.specs.declared.Verdict.{Verdict}
use Rattle.passes.specs.Passes.{pass_end, FirstRepeat, LeastColour, AnswerIs, Judges}
use Rattle.passes.specs.LeastLaws.{least-once}

module _ {X : Type 0} (end : ℕ → X) where
  repeat-no-later : (a b d e : ℕ) → FirstRepeat end a b → FirstRepeat end d e → e ≤ b
  repeat-no-later a b d e f g = by (dec_lt b e)
    where
      by : Dec (b < e) → e ≤ b
      by (yes h) = absurd (g.first a b f.earlier h f.equal)
      by (no h) = omega arith

  repeat-once : (a d b : ℕ) → FirstRepeat end a b → FirstRepeat end d b → a ≤ d
  repeat-once a d b f g = by (dec_lt d a)
    where
      by : Dec (d < a) → a ≤ d
      by (yes h) = absurd (f.first d a h f.earlier (g.equal ∙ sym f.equal))
      by (no h) = omega arith

one_answer : (least : ℕ) (x y : Answer) → AnswerIs least x → AnswerIs least y → x ≡ y
one_answer least Yes Yes e f = refl
one_answer least Yes No e f = absurd (omega arith)
one_answer least No Yes e f = absurd (omega arith)
one_answer least No No e f = refl

pub one-verdict : (A : Automaton) (w : ℕ → ℕ) (m c : ℕ) (y z : Verdict) → Judges A w m c y → Judges A w m c z → y ≡ z
one-verdict A w m c y z f g =
    let end = pass_end A w m c in
    let p : y.passes ≡ z.passes =
    omega (arith, repeat-no-later end _ _ _ _ f.repeat g.repeat, repeat-no-later end _ _ _ _ g.repeat f.repeat) in
    let r : FirstRepeat end g.earlier y.passes = rw p g.repeat in
    let a : f.earlier ≡ g.earlier = omega (arith, repeat-once end _ _ _ f.repeat r, repeat-once end _ _ _ r f.repeat) in
    let l : LeastColour A w (m + f.earlier * c) (m + y.passes * c) z.least = rw (p, a) g.least in
    let e : y.least ≡ z.least = least-once _ _ _ _ _ f.least l in
    let d : y.answer ≡ z.answer = one_answer y.least y.answer z.answer f.answer (subst (λ (n : ℕ). AnswerIs n z.answer) (sym e) g.answer) in
    λ i. record { answer = d i; least = e i; passes = p i }
