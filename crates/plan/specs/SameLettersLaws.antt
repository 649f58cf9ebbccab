-- A plan file goes by the sheet's letters alone: on two sheets that have the same letters it is the same plan, or has the same fault. Assumes nothing.
use Rattle.std.specs.Prelude.{ℕ, List}
use Rattle.format.specs.Format.{Sheet}
use Rattle.format.specs.StandsFor.{SameLetters}
use Rattle.format.proofs.StandsForLaws.{same-letters-back, stands_alike}
use Rattle.plan_lines.specs.PlanLines.{Known, none, more, PlanNameFault}
use Rattle.plan.specs.Plan.{PlanIs, PlanAbove, PlanFaulty}

module _ {σ τ : Sheet} (same : SameLetters σ τ) where
  known_alike : {names : List (List ℕ)} {letters : List ℕ} → Known σ names letters → Known τ names letters
  known_alike none = none
  known_alike (more h k) = more (stands_alike same h) (known_alike k)

  pub plan-alike : {p lead cycle : List ℕ} → PlanIs σ p lead cycle → PlanIs τ p lead cycle
  plan-alike h = record { size = h.size; range = h.range; names = h.names; known = known_alike h.known; text = h.text }

  above-alike : {p : List ℕ} {lead cycle : ℕ} {names : List (List ℕ)} {rest : List ℕ} → PlanAbove σ p lead cycle names rest → PlanAbove τ p lead cycle names rest
  above-alike h = record { range = h.range; letters = h.letters; known = known_alike h.known; text = h.text }

  name-alike : {rest : List ℕ} {number : ℕ} → PlanNameFault σ rest number → PlanNameFault τ rest number
  name-alike (PlanNameFault.wrong_name f) = PlanNameFault.wrong_name f
  name-alike (PlanNameFault.unknown-name x after is e f) = PlanNameFault.unknown-name x after is e (λ l h. f l (stands_alike (same-letters-back same) h))

  pub plan-fault-alike : {p : List ℕ} {number line : ℕ} → PlanFaulty σ p number line → PlanFaulty τ p number line
  plan-fault-alike (PlanFaulty.head f) = PlanFaulty.head f
  plan-fault-alike (PlanFaulty.range lead cycle rest h g e out) = PlanFaulty.range lead cycle rest h g e out
  plan-fault-alike (PlanFaulty.name lead cycle names rest above due f) = PlanFaulty.name lead cycle names rest (above-alike above) due (name-alike f)
  plan-fault-alike (PlanFaulty.end lead cycle names rest above due f) = PlanFaulty.end lead cycle names rest (above-alike above) due f
  plan-fault-alike (PlanFaulty.behind lead cycle names after above due some) = PlanFaulty.behind lead cycle names after (above-alike above) due some
