-- The name lines: the phase that reads them passes or refuses as Format says, by induction along the lines. Assumes nothing.
use Rattle.std.proofs.lemmas.Option.{none-some}
use Prim.Native.Nat.{ℕ, zero, suc, ◌+◌, ◌≤◌, ◌<◌}
use Rattle.std.specs.Prelude.{◌≡◌, refl, Bool, true, false, eqb, None, Option, Some}
use Rattle.std.proofs.Math.Path.{sym, ap}
use Rattle.std.proofs.Common.{subst, ◌∙◌, zero-add, add-zero, suc-add}
use Rattle.std.proofs.Math.Bool.{and-eq-true_iff}
use mathlib.Core.List.{List, [], ◌∷◌, ◌++◌, map, append_assoc, append-nil, map-append}
use Rattle.std.proofs.Math.ListN.{length, drop, length-map}
use borrow.Author.Tests.{eq-eqb, ne_eqb, eqb-true, eqb-false}
use native.Mathlib.Omega.{arith}
use Rattle.text.specs.Bytes.{lf, space, stretch}
use Rattle.lists.specs.Choice.{choose}
use Rattle.columns.specs.Column.{column}
use Rattle.columns.specs.Number.{is_numbered}
use Rattle.columns.specs.NumberLaws.{numbered_of, numbered_is}
use Rattle.text.specs.WordLaws.{goes_on, byte-is}
use Rattle.names.specs.Name.{IsName, compose}
use Rattle.names.specs.Scan.{name_end_at, with_ending}
use Rattle.names.specs.ScanLaws.{name-is, name-ends}
use Rattle.format.specs.Format.{name_line, name_lines, DistinctFrom, NamesRight, NameFault, wrong_name, name-twice}
use Rattle.format.proofs.FormatLaws.{name-parted, name-behind, name-rest}
use Rattle.name_lines.specs.NameLines.{Named, name_line_at, names_at}
use Rattle.frame.specs.Phase.{Phase, refused, passed}
use Rattle.name_rows.specs.Rows.{letter_of}
use Rattle.lists.specs.AppendLaws.{length_more}
use Rattle.text.specs.BytesLaws.{stretch-is}
use Rattle.format.specs.DistinctLaws.{distinct-letter, letter-distinct}
use Rattle.lists.specs.ChoiceLaws.{test-true}

-- ONE LINE

module _ (s : List ℕ) (at l : ℕ) where
  pub name-line-of : (x rest : List ℕ) → l < 1000 → IsName x → drop at s ≡ name_line l x ++ rest →
      (name_line_at s at l ≡ Some (at + 5 + length x)) × (stretch s (at + 5) (at + 5 + length x) ≡ x)
  unfolding name_line_at
  name-line-of x rest hl h e =
      let (opening, behind) = numbered_of s at 78 l (space ∷ (x ++ (lf ∷ rest))) hl (e ∙ name-parted l x rest) in
      let gap = (goes_on s (at + 4) space (x ++ (lf ∷ rest)) behind).0 in
      let name = name-behind s at l x rest e in
      (simp (opening, eq-eqb _ _ gap) (name-ends s x rest (at + 5) h name), stretch-is s (at + 5) x (lf ∷ rest) name)

  -- a line whose LF stands at e, and what follows
  pub record NameLine (e : ℕ) : Type 0 where
    pub is_name : IsName (stretch s (at + 5) e)
    pub text : drop at s ≡ name_line l (stretch s (at + 5) e) ++ drop (e + 1) s

  pub name-line-is : (e : ℕ) → name_line_at s at l ≡ Some e → NameLine e
  unfolding name_line_at
  name-line-is e h =
      let (tests, ends) = test-true (none-some e) _ (name_end_at s (at + 5)) h in
      let (opening, gap) = (and-eq-true_iff (is_numbered s at 78 l) _).0 tests in
      let name = name-is s (at + 5) e ends in
      let p : at + 4 + 1 ≡ at + 5 = omega arith in
      let behind : drop (at + 4) s ≡ space ∷ drop (at + 5) s = rw p at (byte-is s (at + 4) space (omega arith) (eqb-true _ _ gap)) in
      record {
        is_name = name.name;
        text =
            numbered_is s at 78 l (omega arith) opening
            ∙ (ap (λ (y : List ℕ). 78 ∷ (column 3 l ++ y)) (behind ∙ ap (space ∷◌) name.line) ∙ sym (name-parted l (stretch s (at + 5) e) (drop (e + 1) s)));
      }

-- THE PHASE, behind earlier names: the names of the lines that it read

pub record NamesPassed (s : List ℕ) (line at : ℕ) (earlier : List (List ℕ)) (todo : ℕ) (p : Named) : Type 0 where
  pub names : List (List ℕ)
  pub right : NamesRight earlier names
  pub count : length names ≡ todo
  pub text : drop at s ≡ name_lines (length earlier) names ++ drop p.at s
  pub next : p.line ≡ line + length names
  pub composed : p.names ≡ map compose (earlier ++ names)

pub record NamesRefused (s : List ℕ) (line at : ℕ) (earlier : List (List ℕ)) (todo number at-line : ℕ) : Type 0 where
  pub names : List (List ℕ)
  pub rest : List ℕ
  pub right : NamesRight earlier names
  pub count : length names < todo
  pub text : drop at s ≡ name_lines (length earlier) names ++ rest
  pub here : at-line ≡ line + length names
  pub fault : NameFault (earlier ++ names) rest number

abbrev pub NamesOutcome : List ℕ → ℕ → ℕ → List (List ℕ) → ℕ → Phase Named → Type 0
NamesOutcome s line at earlier todo (refused number at-line) = NamesRefused s line at earlier todo number at-line
NamesOutcome s line at earlier todo (passed p) = NamesPassed s line at earlier todo p

module _ (s : List ℕ) (line at : ℕ) (earlier : List (List ℕ)) (todo e : ℕ) (h : NameLine s at (length earlier) e) (d : DistinctFrom earlier (stretch s (at + 5) e)) where
  -- a line more in front
  names-step : (p : Phase Named) →
      NamesOutcome s (line + 1) (e + 1) (earlier ++ (stretch s (at + 5) e ∷ [])) todo p → NamesOutcome s line at earlier (suc todo) p
  unfolding name_lines
  names-step (passed p) g =
      let t : drop (e + 1) s ≡ name_lines (suc (length earlier)) g.names ++ drop p.at s = rw length_more at g.text in
      record {
        names = stretch s (at + 5) e ∷ g.names;
        right = (h.is_name, d, g.right);
        count = ap suc g.count;
        text = h.text ∙ rw (t, append_assoc);
        next = omega (arith, g.next);
        composed = rw append_assoc at g.composed;
      }
  names-step (refused number at-line) g =
      let t : drop (e + 1) s ≡ name_lines (suc (length earlier)) g.names ++ g.rest = rw length_more at g.text in
      record {
        names = stretch s (at + 5) e ∷ g.names;
        rest = g.rest;
        right = (h.is_name, d, g.right);
        count = omega (arith, g.count);
        text = h.text ∙ rw (t, append_assoc);
        here = omega (arith, g.here);
        fault = rw append_assoc at g.fault;
      }

-- the composed names with one more
composed-more : (earlier : List (List ℕ)) (x y : List ℕ) → y ≡ x → map compose earlier ++ (compose y ∷ []) ≡ map compose (earlier ++ (x ∷ []))
composed-more earlier x y e = rw e (sym (map-append compose earlier (x ∷ [])))

-- the name on a line of the form, whose LF stands at e, is none of the earlier ones
abbrev is_new : List ℕ → ℕ → List (List ℕ) → ℕ → Bool
is_new s at earlier e = eqb (letter_of (map compose earlier) (compose (stretch s (at + 5) e))) (length (map compose earlier))

-- the phase behind such a line, with its name as one more
abbrev next_name : List ℕ → ℕ → ℕ → List (List ℕ) → ℕ → ℕ → Phase Named
next_name s line at earlier todo e = names_at s (line + 1) (e + 1) (map compose earlier ++ (compose (stretch s (at + 5) e) ∷ [])) todo

-- or refused where the name is not new
abbrev after_name : List ℕ → ℕ → ℕ → List (List ℕ) → ℕ → ℕ → Phase Named
after_name s line at earlier todo e = choose (is_new s at earlier e) (next_name s line at earlier todo e) (refused 6 line)

pub names-outcome :
    (s : List ℕ) (todo line at : ℕ) (earlier : List (List ℕ)) → length earlier + todo ≤ 1000 →
    NamesOutcome s line at earlier todo (names_at s line at (map compose earlier) todo)
unfolding names_at name_lines
names-outcome s zero line at earlier hl =
    record { names = []; right = tt; count = refl; text = refl; next = omega arith; composed = rw append-nil }
names-outcome s (suc todo) line at earlier hl =
    by (name_line_at s at (length (map compose earlier))) refl
    (λ e x. names-outcome s todo (line + 1) (e + 1) (earlier ++ (x ∷ [])) (omega (arith, length_more earlier x)))
  where
    go : ℕ → Phase Named
    go = next_name s line at earlier todo

    Next : ℕ → List ℕ → List (List ℕ) → Type 0
    Next e x composed =
        NamesOutcome s (line + 1) (e + 1) (earlier ++ (x ∷ [])) todo (names_at s (line + 1) (e + 1) composed todo)

    -- nothing of the phase is read yet
    at_once : {number : ℕ} → NameFault earlier (drop at s) number → NamesRefused s line at earlier (suc todo) number line
    at_once f = record { names = []; rest = drop at s; right = tt; count = omega arith; text = refl; here = omega arith; fault = rw append-nil f }

    known : (e : ℕ) → NameLine s at (length earlier) e → (t : Bool) → is_new s at earlier e ≡ t →
        ((x : List ℕ) → Next e x (map compose (earlier ++ (x ∷ [])))) →
        NamesOutcome s line at earlier (suc todo) (choose t (go e) (refused 6 line))
    known e h true q ih =
        names-step s line at earlier todo e h (letter-distinct (stretch s (at + 5) e) earlier (eqb-true _ _ q)) (go e)
        (subst (Next e (stretch s (at + 5) e)) (map-append compose earlier (stretch s (at + 5) e ∷ [])) (ih (stretch s (at + 5) e)))
    known e h false q ih =
        at_once (name-twice (stretch s (at + 5) e) (drop (e + 1) s) h.is_name h.text (λ d. eqb-false _ _ q (distinct-letter (stretch s (at + 5) e) earlier d)))

    by : (w : Option ℕ) → name_line_at s at (length (map compose earlier)) ≡ w → ((e : ℕ) (x : List ℕ) → Next e x (map compose (earlier ++ (x ∷ [])))) →
        NamesOutcome s line at earlier (suc todo) (with_ending w (after_name s line at earlier todo) (refused 5 line))
    by (Some e) q ih = known e (name-line-is s at (length earlier) e (rw length-map at q)) _ refl (ih e)
    by None q ih =
        let b : name_line_at s at (length earlier) ≡ None = rw length-map at q in
        at_once (wrong_name (λ x after is t. none-some (at + 5 + length x) (sym b ∙ (name-line-of s at (length earlier) x after (omega arith) is t).0)))

-- The other way round: along lines that are right the phase goes on, and at a fault it refuses

name-none : (s : List ℕ) (at l : ℕ) → ((x after : List ℕ) → IsName x → drop at s ≡ name_line l x ++ after → ⊥) → name_line_at s at l ≡ None
name-none s at l none = by (name_line_at s at l) refl
  where
    by : (w : Option ℕ) → name_line_at s at l ≡ w → w ≡ None
    by (Some e) q = let h = name-line-is s at l e q in absurd (none (stretch s (at + 5) e) (drop (e + 1) s) h.is_name h.text)
    by None q = refl

module _ (s : List ℕ) (line at : ℕ) (earlier : List (List ℕ)) (todo : ℕ) (few : length earlier < 1000) where
  name-read : (e : ℕ) → name_line_at s at (length earlier) ≡ Some e → names_at s line at (map compose earlier) (suc todo) ≡ after_name s line at earlier todo e
  unfolding names_at
  name-read e h =
      let w : name_line_at s at (length (map compose earlier)) ≡ Some e = rw length-map h in
      simp w

  name-next : (x rest : List ℕ) → IsName x → DistinctFrom earlier x → drop at s ≡ name_line (length earlier) x ++ rest →
      names_at s line at (map compose earlier) (suc todo) ≡
      names_at s (line + 1) (at + 5 + length x + 1) (map compose (earlier ++ (x ∷ []))) todo
  name-next x rest is d e =
      let w = name-line-of s at (length earlier) x rest few is e in
      let t : letter_of (map compose earlier) (compose (stretch s (at + 5) (at + 5 + length x))) ≡ length (map compose earlier) = rw w.1 (distinct-letter x earlier d) in
      name-read (at + 5 + length x) w.0 ∙ simp (eq-eqb _ _ t, composed-more earlier x (stretch s (at + 5) (at + 5 + length x)) w.1)

  pub names-fault : {number : ℕ} → NameFault earlier (drop at s) number → names_at s line at (map compose earlier) (suc todo) ≡ refused number line
  unfolding names_at
  names-fault (wrong_name none) =
      let w : name_line_at s at (length (map compose earlier)) ≡ None = rw length-map (name-none s at (length earlier) none) in
      simp w
  names-fault (name-twice x after is e d) =
      let w = name-line-of s at (length earlier) x after few is e in
      let t : letter_of (map compose earlier) (compose (stretch s (at + 5) (at + 5 + length x))) ≡ length (map compose earlier) → ⊥ = λ f. d (letter-distinct x earlier (rw w.1 at f)) in
      name-read (at + 5 + length x) w.0 ∙ simp (ne_eqb _ _ t)

-- where the phase stands behind the lines of some names
pub record NamesAlong (s rest : List ℕ) (names : List (List ℕ)) (todo line at : ℕ) (earlier : List (List ℕ)) : Type 0 where
  pub behind : ℕ
  pub text : drop behind s ≡ rest
  pub goes : names_at s line at (map compose earlier) (length names + todo) ≡ names_at s (line + length names) behind (map compose (earlier ++ names)) todo

-- a line more in front
along-step :
    (s rest : List ℕ) (names : List (List ℕ)) (todo line at : ℕ) (earlier : List (List ℕ)) (x after : List ℕ) →
    length earlier < 1000 → IsName x → DistinctFrom earlier x → drop at s ≡ name_line (length earlier) x ++ after →
    NamesAlong s rest names todo (line + 1) (at + 5 + length x + 1) (earlier ++ (x ∷ [])) →
    NamesAlong s rest (x ∷ names) todo line at earlier
along-step s rest names todo line at earlier x after few is d e go =
    let l : line + 1 + length names ≡ line + suc (length names) = omega arith in
    let a : (earlier ++ (x ∷ [])) ++ names ≡ earlier ++ (x ∷ names) = append_assoc earlier (x ∷ []) names in
    record {
      behind = go.behind;
      text = go.text;
      goes = rw suc-add (name-next s line at earlier (length names + todo) few x after is d e ∙ (go.goes ∙ rw (l, a)));
    }

pub names-along :
    (s rest : List ℕ) (names : List (List ℕ)) (todo line at : ℕ) (earlier : List (List ℕ)) → length earlier + length names ≤ 1000 →
    NamesRight earlier names → drop at s ≡ name_lines (length earlier) names ++ rest → NamesAlong s rest names todo line at earlier
unfolding name_lines
names-along s rest [] todo line at earlier hl h e =
    record { behind = at; text = e; goes = simp (zero-add, add-zero, append-nil) }
names-along s rest (x ∷ names) todo line at earlier hl h e =
    let e1 : drop at s ≡ name_line (length earlier) x ++ (name_lines (suc (length earlier)) names ++ rest) = rw append_assoc at e in
    let e2 : drop (at + 5 + length x + 1) s ≡ name_lines (length (earlier ++ (x ∷ []))) names ++ rest = rw length_more (name-rest s at (length earlier) x _ e1) in
    along-step s rest names todo line at earlier x (name_lines (suc (length earlier)) names ++ rest) (omega arith) h.0 h.1 e1
    (names-along s rest names todo (line + 1) (at + 5 + length x + 1) (earlier ++ (x ∷ [])) (omega (arith, length_more earlier x)) h.2 e2)
