-- The letters of an endless plan: the lead-in's, the cycle's over and over. Assumes nothing.
use Rattle.std.specs.Prelude.{ℕ, ◌+◌, ◌*◌, ◌-◌, ◌%◌, ◌≤◌, ◌<◌, ◌≡◌, List, length, get_or}
use Rattle.std.proofs.Common.{sym, ◌∙◌, ap, ⊎_elim, arith, mod-lt, mod-eq_of_lt, lt-ltb, le-ltb}
use Rattle.std.proofs.Math.Nat.{add-mul-mod_self_right}
use Rattle.lists.specs.ChoiceLaws.{lt-or-ge}
use Rattle.passes.specs.Letter.{letter_at}

module _ (lead cycle : List ℕ) where
  pub letter-lead : (t : ℕ) → t < length lead → letter_at lead cycle t ≡ get_or lead t 0
  unfolding letter_at
  letter-lead t l = simp (lt-ltb t (length lead) l)

  letter-late : (t : ℕ) → length lead ≤ t → letter_at lead cycle t ≡ get_or cycle ((t - length lead) % length cycle) 0
  unfolding letter_at
  letter-late t l = simp (le-ltb t (length lead) l)

  -- letter i of any pass is the cycle's letter i
  pub letter-cycle : (p i : ℕ) → i < length cycle → letter_at lead cycle (length lead + p * length cycle + i) ≡ get_or cycle i 0
  letter-cycle p i l =
      let e : length lead + p * length cycle + i - length lead ≡ i + p * length cycle = omega arith in
      letter-late (length lead + p * length cycle + i) (omega arith)
      ∙ ap (λ z. get_or cycle z 0) (ap (◌% length cycle) e ∙ add-mul-mod_self_right i p (length cycle) ∙ mod-eq_of_lt l)

  -- from the lead-in's end on the letters repeat with the cycle's length, and with every multiple of it
  pub letter-repeats : (k t : ℕ) → length lead ≤ t → letter_at lead cycle (t + k * length cycle) ≡ letter_at lead cycle t
  letter-repeats k t l =
      let e : t + k * length cycle - length lead ≡ t - length lead + k * length cycle = omega arith in
      letter-late (t + k * length cycle) (omega arith)
      ∙ ap (λ z. get_or cycle z 0) (ap (◌% length cycle) e ∙ add-mul-mod_self_right (t - length lead) k (length cycle))
      ∙ sym (letter-late t l)

  -- every letter is one of the lead-in or of the cycle
  pub letter-below : (k : ℕ) → 0 < length cycle → ((i : ℕ) → i < length lead → get_or lead i 0 < k)
      → ((i : ℕ) → i < length cycle → get_or cycle i 0 < k) → (t : ℕ) → letter_at lead cycle t < k
  letter-below k some f g t =
      ⊎_elim
      (λ (l : t < length lead). rw (letter-lead t l) (f t l))
      (λ (l : length lead ≤ t). rw (letter-late t l) (g ((t - length lead) % length cycle) (mod-lt (t - length lead) some)))
      (lt-or-ge t (length lead))
