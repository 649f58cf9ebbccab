-- `name_lines::read_names` meets its contract: what a line holds decides what is left of the definition. Assumes nothing.
use Rattle.std.specs.Prelude.{◌≡◌, ◌*◌, ℕ, refl, drop}
use Rattle.std.proofs.Common.{sym, ◌∙◌, subst, arith}
use Rattle.gate.specs.GateLaws.{same-cleared}
use Rattle.name_lines.specs.NameStepLaws.{names-bad, names-done, NameStored, row-stored}
use Rattle.name_lines.proofs.read_names.Goals as goal

pub returns-in_default : goal.returns-in_default
returns-in_default c =
    let l = c.loop-l in
    let rows = c.args.rows.now in
    rw (names-bad l.invariant.3 (omega arith) (sym c.name_line.ensures.0 ∙ c.in_default.is))
    (refl, c.clear_bytes.ensures ∙ same-cleared rows l.rows l.invariant.2)

pub returns-then-first_like-l : goal.returns-then-first_like-l
returns-then-first_like-l c =
    let l = c.loop-l in
    let a = c.args in
    let composed = c.compose_into in
    let read : NameStored a.s.now a.k a.rows.now composed.new.rows l.line l.l c.in-Some.e c.first_like.result =
    row-stored l.invariant.3 (omega arith) (sym c.name_line.ensures.0 ∙ c.in-Some.is) (omega arith) composed.ensures c.first_like.ensures in
    rw (read.twice c.if-first_like-l.true)
    (refl, c.clear_bytes-then-first_like-l.ensures ∙ same-cleared a.rows.now composed.new.rows (composed.auto.rows ∙ l.invariant.2))

pub loop-l-preserved : goal.loop-l-preserved
loop-l-preserved c =
    let l = c.loop-l in
    let a = c.args in
    let composed = c.compose_into in
    let inside = c.in-Some.ensures.1 in
    let read : NameStored a.s.now a.k a.rows.now composed.new.rows l.line l.l c.in-Some.e c.first_like.result =
    row-stored l.invariant.3 (omega arith) (sym c.name_line.ensures.0 ∙ c.in-Some.is) (omega arith) composed.ensures c.first_like.ensures in (
      omega arith,
      omega arith,
      composed.auto.rows ∙ l.invariant.2,
      read.more c.if-first_like-l.false,
    )

pub returns : goal.returns
returns c =
    let l = c.loop-l in
    let a = c.args in
    let z = l.invariant.3 in
    let all : l.l ≡ a.k = omega arith in
    rw (names-done z (omega arith))
    (refl, omega arith, omega arith, omega (arith, z.count), z.holds, subst (λ (i : ℕ). drop (24 * i) l.rows ≡ drop (24 * i) a.rows.now) all z.behind)
