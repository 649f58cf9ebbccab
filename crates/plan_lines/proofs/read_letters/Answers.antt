-- `plan_lines::read_letters` meets its contract: what a line holds decides what is left of the definition. Assumes nothing.
use Rattle.std.specs.Prelude.{ℕ, ◌+◌, ◌-◌, ◌<◌, ◌≤◌, ◌≡◌, refl, List, [], ◌∷◌, ◌++◌, length, take, drop, Err, Result}
use Rattle.std.proofs.Common.{sym, ◌∙◌, ap, arith, take-append-drop}
use Rattle.std.proofs.Math.ListN.{length-set}
use Rattle.gate.specs.GateLaws.{same-cleared}
use Rattle.frame.specs.Phase.{refused}
use Rattle.name_rows.specs.Rows.{HoldNames, OnlyRow}
use Rattle.name_rows.specs.RowsLaws.{only-again}
use Rattle.superseding.specs.Superseding.{superseding_in}
use Rattle.plan_lines.specs.declared.NotALetter.{NotALetter}
use Rattle.plan_lines.specs.LetterLines.{letter_line_at, with_letter, letters_at}
use Rattle.plan_lines.specs.StepLaws.{SoFar, letters-step, letters-done, superseding-still, letter-stored, letter-behind}
use Rattle.plan_lines.proofs.read_letters.Goals as goal

-- what a line holds decides what is left of the definition
turn :
    (p first rows new letters : List ℕ) (k count line at i : ℕ) (r w : Result (ℕ × ℕ) NotALetter) →
    k ≤ 8 → i < count → SoFar p first k count rows letters line at i → OnlyRow k first rows →
    ((names : List (List ℕ)) → length names ≡ k → HoldNames names rows → (r ≡ letter_line_at names (superseding_in rows) p at) × HoldNames names new) →
    r ≡ w → (names : List (List ℕ)) → length names ≡ k → HoldNames names first →
    HoldNames names new
    × (with_letter w (λ l e. letters_at names (superseding_in first) p (line + 1) (e + 1) (take i letters ++ (l ∷ [])) (count - (i + 1))) (refused 14 line) (refused 12 line)
    ≡ letters_at names (superseding_in first) p 2 11 [] count)
turn p first rows new letters k count line at i r w few less so_far only f e names n h =
    let z = so_far names n h in
    let g = f names n z.0 in
    let cells = superseding-still few only in
    let here = ap (λ (cells : List ℕ). letter_line_at names cells p at) (sym cells) ∙ (sym g.0 ∙ e) in
    (g.1, sym (letters-step names (superseding_in first) p line at i count (take i letters) less here) ∙ z.1)

pub loop-i-preserved : goal.loop-i-preserved
loop-i-preserved c =
    let a = c.args in
    let v = c.loop-i in
    let l = c.in-Ok.l in
    let fits = c.in-Ok.ensures.0 in
    let room : v.i < length v.letters = omega (arith, v.invariant.3) in (
      omega arith,
      omega arith,
      c.letter_line.auto.rows ∙ v.invariant.2,
      length-set v.letters v.i l ∙ v.invariant.3,
      letter-behind v.letters v.i l room a.letters.now v.invariant.4,
      λ names n h.
          (let (held, left) = turn a.p.now a.rows.now v.rows c.letter_line.new.rows v.letters a.k a.count v.line v.at v.i _ _ c.requires.1 c.loop-i-test.true v.invariant.5 v.invariant.6 c.letter_line.ensures.1 c.in-Ok.is names n h in
          (held, rw (letter-stored v.letters v.i l room) left)),
      only-again v.invariant.6 c.letter_line.ensures.2,
    )

pub returns-in-Unknown : goal.returns-in-Unknown
returns-in-Unknown c =
    let a = c.args in
    let v = c.loop-i in
    let zero = c.clear_bytes.ensures ∙ same-cleared a.letters.now v.letters v.invariant.3 in (
      tt,
      λ names n h.
          (let (held, left) = turn a.p.now a.rows.now v.rows c.letter_line.new.rows v.letters a.k a.count v.line v.at v.i _ _ c.requires.1 c.loop-i-test.true v.invariant.5 v.invariant.6 c.letter_line.ensures.1 (c.in-Err.is ∙ ap Err c.in-Unknown.is) names n h in
          (held, rw (← left) (refl, zero))),
      only-again v.invariant.6 c.letter_line.ensures.2,
    )

pub returns-in-Bad : goal.returns-in-Bad
returns-in-Bad c =
    let a = c.args in
    let v = c.loop-i in
    let zero = c.clear_bytes.ensures ∙ same-cleared a.letters.now v.letters v.invariant.3 in (
      tt,
      λ names n h.
          (let (held, left) = turn a.p.now a.rows.now v.rows c.letter_line.new.rows v.letters a.k a.count v.line v.at v.i _ _ c.requires.1 c.loop-i-test.true v.invariant.5 v.invariant.6 c.letter_line.ensures.1 (c.in-Err.is ∙ ap Err c.in-Bad.is) names n h in
          (held, rw (← left) (refl, zero))),
      only-again v.invariant.6 c.letter_line.ensures.2,
    )

pub returns : goal.returns
returns c =
    let a = c.args in
    let v = c.loop-i in
    let i : v.i ≡ a.count = omega arith in (
      (v.invariant.1, omega arith),
      λ names n h.
          (let z = v.invariant.5 names n h in
          let e = sym (letters-done names (superseding_in a.rows.now) a.p.now v.line v.at v.i a.count (take v.i v.letters) (omega arith)) ∙ z.1 in
          (z.0, rw (← e) (refl, sym (take-append-drop v.i v.letters) ∙ ap (λ (l : List ℕ). take v.i v.letters ++ l) (v.invariant.4 ∙ ap (λ (n : ℕ). drop n a.letters.now) i)))),
      v.invariant.6,
    )
