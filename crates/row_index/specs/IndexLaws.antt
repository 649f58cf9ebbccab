-- The index while its rows are walked, and with one row more. Assumes nothing.
use Rattle.std.specs.Prelude.{ℕ, ◌+◌, ◌≤◌, ◌<◌, ◌≡◌, List, length, get_or, set, replicate}
use Rattle.std.proofs.Common.{sym, ap, subst, ◌∙◌, arith, length-set}
use Rattle.std.proofs.Math.Decide.{ℕ_discrete}
use Rattle.std.proofs.lemmas.List.{length-replicate}
use Rattle.std.proofs.Math.Seq.{get_or-set_same, get_or-set_other}
use Rattle.gate.specs.GateLaws.{zeros}
use Rattle.tuple_record.specs.declared.WayBack.{WayBack}
use Rattle.tuple_record.specs.Record.{row_at, Stored}
use Rattle.tuple_record.specs.RecordLaws.{record-length, row_kept, stored_row}
use Rattle.row_index.specs.Digest.{digest_of}
use Rattle.row_index.specs.Index.{Index, Indexed, Sought, RowFound, Added}

-- Place p of the walk: one more than a row with digest h, or 0. No row that is looked for stands at p or behind.
pub record ChainWalk (table : List ℕ) (m : ℕ) (row : List ℕ) (h p : ℕ) : Type 0 where
  pub most : p ≤ m
  pub digest : (t : ℕ) → p ≡ t + 1 → digest_of (row_at table t) ≡ h
  pub left : (t : ℕ) → t < m → row_at table t ≡ row → t < p

module _ {table : List ℕ} {m : ℕ} {row : List ℕ} {h : ℕ} {head link : List ℕ} (i : Indexed table m head link) (s : Sought row h) where
  dig : (t : ℕ) → row_at table t ≡ row → digest_of (row_at table t) ≡ h
  dig t e = ap digest_of e ∙ sym s.digest

  pub walk_begins : ChainWalk table m row h (get_or head h 0)
  walk_begins = record {
    most = i.index.head-is h;
    digest = λ t e. i.index.head_of h t e;
    left = λ t k e. subst (λ (x : ℕ). t < get_or head x 0) (dig t e) (i.index.last t k);
  }

  pub walk-goes : (p t : ℕ) → ChainWalk table m row h p → p ≡ t + 1 → (row_at table t ≡ row → ⊥) → ChainWalk table m row h (get_or link t 0)
  walk-goes p t w e f =
      let l = w.most in
      let k : t < m = omega arith in
      let x : get_or link t 0 ≤ t = i.index.link-is t k in
      record {
        most = omega arith;
        digest = λ u g. i.index.link-of t u k g ∙ w.digest t e;
        left = λ u g r.
            let y = w.left u g r in
            let z : u ≡ t → ⊥ = λ q. f (subst (λ (x : ℕ). row_at table x ≡ row) q r) in
            i.index.before u t (omega arith) k (dig u r ∙ sym (w.digest t e));
      }

  pub walk_ends : ChainWalk table m row h 0 → RowFound table m row m
  walk_ends w = record { most = omega arith; is = λ k. absurd (omega arith); none = λ e t k r. let x = w.left t k r in omega arith }

pub walk-finds : {table : List ℕ} {m : ℕ} {row : List ℕ} {t : ℕ} → t < m → row_at table t ≡ row → RowFound table m row t
walk-finds k e = record { most = omega arith; is = λ j. e; none = λ j. absurd (omega arith) }

-- No row

pub indexed-none : (table : List ℕ) → Indexed table 0 (replicate 1024 0) (replicate 1024 0)
indexed-none table = record {
  rows = omega arith;
  most = omega arith;
  heads = length-replicate {A = ℕ} 1024 0;
  links = length-replicate {A = ℕ} 1024 0;
  index = record {
    head-is = λ h. omega (arith, zeros 1024 h);
    link-is = λ t k. absurd (omega arith);
    head_of = λ h t e. absurd (omega (arith, zeros 1024 h));
    link-of = λ t u k. absurd (omega arith);
    last = λ t k. absurd (omega arith);
    before = λ t u l k. absurd (omega arith);
  };
}

-- One row more, with digest h

module _ (m : ℕ) (d e : ℕ → ℕ) (h : ℕ) (head link : List ℕ) (i : Index m d head link) (old : (t : ℕ) → t < m → e t ≡ d t) (new : e m ≡ h)
    (heads : h < length head) (links : m < length link) where
  head' : ℕ → ℕ
  head' x = get_or (set head h (m + 1)) x 0

  link' : ℕ → ℕ
  link' t = get_or (set link m (get_or head h 0)) t 0

  head-new : head' h ≡ m + 1
  unfolding head'
  head-new = get_or-set_same head h (m + 1) 0 heads

  head-old : (x : ℕ) → (x ≡ h → ⊥) → head' x ≡ get_or head x 0
  unfolding head'
  head-old x f = get_or-set_other head h x (m + 1) 0 f

  link-new : link' m ≡ get_or head h 0
  unfolding link'
  link-new = get_or-set_same link m (get_or head h 0) 0 links

  link-old : (t : ℕ) → (t ≡ m → ⊥) → link' t ≡ get_or link t 0
  unfolding link'
  link-old t f = get_or-set_other link m t (get_or head h 0) 0 f

  head-is : (x : ℕ) → head' x ≤ m + 1
  head-is x = by (ℕ_discrete x h)
    where
      by : Dec (x ≡ h) → head' x ≤ m + 1
      by (yes z) = rw (z, head-new) (omega arith)
      by (no z) = rw (head-old x z) (omega (arith, i.head-is x))

  link-is : (t : ℕ) → t < m + 1 → link' t ≤ t
  link-is t k = by (ℕ_discrete t m)
    where
      by : Dec (t ≡ m) → link' t ≤ t
      by (yes z) = rw (z, link-new) (i.head-is h)
      by (no z) = rw (link-old t z) (i.link-is t (omega arith))

  head_of : (x t : ℕ) → head' x ≡ t + 1 → e t ≡ x
  head_of x t g = by (ℕ_discrete x h)
    where
      by : Dec (x ≡ h) → e t ≡ x
      by (yes z) = let y : t ≡ m = omega (arith, sym g ∙ ap head' z ∙ head-new) in ap e y ∙ new ∙ sym z
      by (no z) = let y : get_or head x 0 ≡ t + 1 = sym (head-old x z) ∙ g in old t (omega (arith, i.head-is x)) ∙ i.head_of x t y

  link-of : (t u : ℕ) → t < m + 1 → link' t ≡ u + 1 → e u ≡ e t
  link-of t u k g = by (ℕ_discrete t m)
    where
      by : Dec (t ≡ m) → e u ≡ e t
      by (yes z) =
          let y : get_or head h 0 ≡ u + 1 = sym link-new ∙ ap link' (sym z) ∙ g in
          old u (omega (arith, i.head-is h)) ∙ i.head_of h u y ∙ sym new ∙ ap e (sym z)
      by (no z) =
          let y : get_or link t 0 ≡ u + 1 = sym (link-old t z) ∙ g in
          let w = i.link-is t (omega arith) in
          old u (omega arith) ∙ i.link-of t u (omega arith) y ∙ sym (old t (omega arith))

  last : (t : ℕ) → t < m + 1 → t < head' (e t)
  last t k = by (ℕ_discrete (e t) h) (ℕ_discrete t m)
    where
      by : Dec (e t ≡ h) → Dec (t ≡ m) → t < head' (e t)
      by (yes z) y = rw (z, head-new) k
      by (no z) (yes y) = absurd (z (ap e y ∙ new))
      by (no z) (no y) = rw (head-old (e t) z, old t (omega arith)) (i.last t (omega arith))

  before : (t u : ℕ) → t < u → u < m + 1 → e t ≡ e u → t < link' u
  before t u l k g = by (ℕ_discrete u m)
    where
      by : Dec (u ≡ m) → t < link' u
      by (yes z) =
          let y : d t ≡ h = sym (old t (omega arith)) ∙ g ∙ ap e z ∙ new in
          rw (z, link-new) (subst (λ (x : ℕ). t < get_or head x 0) y (i.last t (omega arith)))
      by (no z) = rw (link-old u z) (i.before t u l (omega arith) (sym (old t (omega arith)) ∙ g ∙ old u (omega arith)))

  index-more : Index (m + 1) e (set head h (m + 1)) (set link m (get_or head h 0))
  unfolding head' link'
  index-more = record { head-is = head-is; link-is = link-is; head_of = head_of; link-of = link-of; last = last; before = before }

-- the table and its index with one row more
module _ {table after : List ℕ} {m : ℕ} {row : List ℕ} {way : WayBack} {h : ℕ} {head link : List ℕ} (i : Indexed table m head link) (s : Sought row h) where
  pub added : m < 1024 → Stored table after m row way → Added table after m row way (set head h (m + 1)) (set link m (get_or head h 0))
  added k w =
      let hs = i.heads in
      let ls = i.links in
      let g = s.small in
      let l = w.long in
      record {
        is = w;
        indexed = record {
          rows = omega (arith, record-length w);
          most = omega arith;
          heads = simp length-set hs;
          links = simp length-set ls;
          index =
              index-more m (λ t. digest_of (row_at table t)) (λ t. digest_of (row_at after t)) h head link i.index
              (λ t j. ap digest_of (row_kept w t j))
              (ap digest_of (stored_row w) ∙ sym s.digest)
              (omega arith) (omega arith);
        };
      }
