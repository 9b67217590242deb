-- Bits of a byte, field by field: `and`, `or` and the complement work on each field by itself, and so a mask picks fields. Assumes nothing.
use mathlib.Core.Path.{◌≡◌, refl, sym, ap, ap₂, ◌∙◌, subst}
use mathlib.Core.Logic.{⊎_elim, ◌⊎◌, inl, inr}
use mathlib.Core.Bool.{Bool, true, false, cond, not, ◌&&◌}
use Prim.Native.Nat.{ℕ, zero, suc, ◌+◌, ◌-◌, ◌*◌, ◌/◌, ◌%◌, ◌^◌, ◌≤◌, ◌<◌}
use native.Mathlib.Nat.{mod-eq_of_lt, mod-mod, mul-zero, mul-suc, mul_assoc, pow-suc, pow-zero, mul-div_cancel, not-suc-le-zero, add-zero}
use native.Mathlib.Omega.{arith}
use lib.Arith.{digits_lt, digits_div, digits_mod, mul_pred}
use lib.Dec.{eqb, ltb}
use lib.Bits.{bit_and, bit_or, and_block, or_block, and_mask, and_zero_r, or_zero_r, and_lt}
use lib.Pow.{pow_pos, pow-add}
use borrow.Author.Tests.{eq-eqb, ne_eqb, lt-ltb, le-ltb}
use Rattle.layout.specs.Digits.{digit, replaced, value}
use Rattle.whole.proofs.Tests.{eq_or_not, lt_or_ge}
use Rattle.layout.proofs.Cells.{digit_lt, value_cong, value_digits}

-- ---- powers
pub pow_mul : (n k : ℕ) → (2 ^ n) ^ k ≡ 2 ^ (n * k)
pow_mul n zero = pow-zero (2 ^ n) ∙ sym (ap (λ (x : ℕ). 2 ^ x) (mul-zero n))
pow_mul n (suc k) =
    pow-suc (2 ^ n) k ∙ ap (λ (x : ℕ). x * 2 ^ n) (pow_mul n k) ∙ sym (pow-add 2 (n * k) n) ∙ ap (λ (x : ℕ). 2 ^ x) (sym (mul-suc n k))

pub value_lt : (B n : ℕ) (d : ℕ → ℕ) → ((k : ℕ) → d k < B) → value B n d < B ^ n
value_lt B zero d h = subst (λ (x : ℕ). 0 < x) (sym (pow-zero B)) (omega arith)
value_lt B (suc n) d h = subst (λ (x : ℕ). value B (suc n) d < x) (sym (pow-suc B n)) (digits_lt (value_lt B n (λ k. d (suc k)) (λ k. h (suc k))) (h 0))

pub replaced_mod : (B j u v : ℕ) → replaced B j (u % B) v ≡ replaced B j u v
replaced_mod B zero u v = ap (λ (x : ℕ). v / B * B + x) (mod-mod u B)
replaced_mod B (suc j) u v = ap (λ (x : ℕ). x * B + v % B) (replaced_mod B j u (v / B))

-- ---- numbers of one digit: u at the place j, and 0 elsewhere
pub value_zero : (B n : ℕ) (d : ℕ → ℕ) → ((k : ℕ) → d k ≡ 0) → value B n d ≡ 0
value_zero B zero d h = refl
value_zero B (suc n) d h = ap₂ (λ (x y : ℕ). x * B + y) (value_zero B n (λ k. d (suc k)) (λ k. h (suc k))) (h 0) ∙ omega arith

pub value_one : (B n j u : ℕ) → j < n → value B n (λ k. cond (eqb k j) u 0) ≡ u * B ^ j
value_one B zero j u h = absurd (not-suc-le-zero h)
value_one B (suc n) zero u h =
    ap (λ (x : ℕ). x * B + u) (value_zero B n (λ k. cond (eqb (suc k) 0) u 0) (λ k. ap (λ (t : Bool). cond t u 0) (ne_eqb (suc k) 0 (λ e. omega arith))))
    ∙ sym (ap (λ (x : ℕ). u * x) (pow-zero B) ∙ omega arith)
value_one B (suc n) (suc j) u h =
    ap₂ (λ (x y : ℕ). x * B + y)
    (value_cong_all n (λ k. cond (eqb (suc k) (suc j)) u 0) (λ k. cond (eqb k j) u 0) (λ k. ap (λ (t : Bool). cond t u 0) (shifted k)) ∙ value_one B n j u (omega arith))
    (ap (λ (t : Bool). cond t u 0) (ne_eqb 0 (suc j) (λ e. omega arith)))
    ∙ add-zero (u * B ^ j * B) ∙ mul_assoc u (B ^ j) B ∙ ap (λ (x : ℕ). u * x) (sym (pow-suc B j))
  where
    shifted : (k : ℕ) → eqb (suc k) (suc j) ≡ eqb k j
    shifted k = ⊎_elim (λ e. eq-eqb (suc k) (suc j) (ap suc e) ∙ sym (eq-eqb k j e)) (λ e. ne_eqb (suc k) (suc j) (λ f. e (omega arith)) ∙ sym (ne_eqb k j e)) (eq_or_not k j)

    value_cong_all : (n : ℕ) (d e : ℕ → ℕ) → ((k : ℕ) → d k ≡ e k) → value B n d ≡ value B n e
    value_cong_all zero d e h = refl
    value_cong_all (suc n) d e h = ap₂ (λ (x y : ℕ). x * B + y) (value_cong_all n (λ k. d (suc k)) (λ k. e (suc k)) (λ k. h (suc k))) (h 0)

module _ (n : ℕ) where
  abbrev B : ℕ
  B = 2 ^ n

  -- ---- field by field
  pub and_value : (m : ℕ) (d e : ℕ → ℕ) → ((k : ℕ) → d k < B) → ((k : ℕ) → e k < B) → bit_and (value B m d) (value B m e) ≡ value B m (λ k. bit_and (d k) (e k))
  and_value zero d e h l = refl
  and_value (suc m) d e h l =
      and_block n (value B m (λ k. d (suc k))) (value B m (λ k. e (suc k))) (d 0) (e 0) (h 0) (l 0)
      ∙ ap (λ (x : ℕ). x * B + bit_and (d 0) (e 0)) (and_value m (λ k. d (suc k)) (λ k. e (suc k)) (λ k. h (suc k)) (λ k. l (suc k)))

  pub or_value : (m : ℕ) (d e : ℕ → ℕ) → ((k : ℕ) → d k < B) → ((k : ℕ) → e k < B) → bit_or (value B m d) (value B m e) ≡ value B m (λ k. bit_or (d k) (e k))
  or_value zero d e h l = refl
  or_value (suc m) d e h l =
      or_block n (value B m (λ k. d (suc k))) (value B m (λ k. e (suc k))) (d 0) (e 0) (h 0) (l 0)
      ∙ ap (λ (x : ℕ). x * B + bit_or (d 0) (e 0)) (or_value m (λ k. d (suc k)) (λ k. e (suc k)) (λ k. h (suc k)) (λ k. l (suc k)))

  -- the complement: each field from its largest number
  pub not_value : (m : ℕ) (d : ℕ → ℕ) → ((k : ℕ) → d k < B) → B ^ m - 1 - value B m d ≡ value B m (λ k. B - 1 - d k)
  not_value zero d h = ap (λ (x : ℕ). x - 1 - 0) (pow-zero B)
  not_value (suc m) d h =
      ap (λ (x : ℕ). x - 1 - value B (suc m) d) (pow-suc B m)
      ∙ split (B ^ m) (value B m (λ k. d (suc k))) (d 0) (value_lt B m (λ k. d (suc k)) (λ k. h (suc k))) (h 0)
      ∙ ap (λ (x : ℕ). x * B + (B - 1 - d 0)) (not_value m (λ k. d (suc k)) (λ k. h (suc k)))
    where
      with_rest : (q v x : ℕ) → x < B → (v + 1 + q) * B - 1 - (v * B + x) ≡ q * B + (B - 1 - x)
      with_rest q v x l = omega arith

      split : (p v x : ℕ) → v < p → x < B → p * B - 1 - (v * B + x) ≡ (p - 1 - v) * B + (B - 1 - x)
      split p v x l k =
          let e : v + 1 + (p - 1 - v) ≡ p = omega arith in
          ap (λ (z : ℕ). z * B - 1 - (v * B + x)) (sym e) ∙ with_rest (p - 1 - v) v x k

  -- ---- masks: all bits of the fields that s picks
  abbrev pub mask : ℕ → (ℕ → Bool) → ℕ
  mask m s = value B m (λ k. cond (s k) (B - 1) 0)

  ones : (t : Bool) → cond t (B - 1) 0 < B
  ones true = let p = pow_pos n in omega arith
  ones false = pow_pos n

  pub mask_not : (m : ℕ) (s : ℕ → Bool) → B ^ m - 1 - mask m s ≡ mask m (λ k. not (s k))
  mask_not m s = not_value m _ (λ k. ones (s k)) ∙ value_cong B (pow_pos n) m _ _ (λ k l. flip (s k))
    where
      flip : (t : Bool) → B - 1 - cond t (B - 1) 0 ≡ cond (not t) (B - 1) 0
      flip true = omega arith
      flip false = omega arith

  pub mask_and : (m : ℕ) (s t : ℕ → Bool) → bit_and (mask m s) (mask m t) ≡ mask m (λ k. s k && t k)
  mask_and m s t = and_value m _ _ (λ k. ones (s k)) (λ k. ones (t k)) ∙ value_cong B (pow_pos n) m _ _ (λ k l. joined (s k) (t k))
    where
      joined : (x y : Bool) → bit_and (cond x (B - 1) 0) (cond y (B - 1) 0) ≡ cond (x && y) (B - 1) 0
      joined true true = and_mask (B - 1) n ∙ mod-eq_of_lt (ones true)
      joined true false = and_zero_r (B - 1)
      joined false true = refl
      joined false false = refl

  -- the byte p in the fields that s picks, and v in the others
  pub merge : (m : ℕ) (s : ℕ → Bool) (d e : ℕ → ℕ) → ((k : ℕ) → d k < B) → ((k : ℕ) → e k < B)
      → bit_or (bit_and (value B m d) (B ^ m - 1 - mask m s)) (bit_and (value B m e) (mask m s)) ≡ value B m (λ k. cond (s k) (e k) (d k))
  merge m s d e h l =
      ap₂ bit_or
      (ap (bit_and (value B m d)) (mask_not m s) ∙ and_value m d _ h (λ k. ones (not (s k))))
      (and_value m e _ l (λ k. ones (s k)))
      ∙ or_value m _ _ (λ k. and_lt n (d k) _ (h k) (ones (not (s k)))) (λ k. and_lt n (e k) _ (l k) (ones (s k)))
      ∙ value_cong B (pow_pos n) m _ _ (λ k q. one (s k) (d k) (e k) (h k) (l k))
    where
      one : (t : Bool) (x y : ℕ) → x < B → y < B → bit_or (bit_and x (cond (not t) (B - 1) 0)) (bit_and y (cond t (B - 1) 0)) ≡ cond t y x
      one true x y hx hy = ap₂ bit_or (and_zero_r x) (and_mask y n ∙ mod-eq_of_lt hy)
      one false x y hx hy = ap₂ bit_or (and_mask x n ∙ mod-eq_of_lt hx) (and_zero_r y) ∙ or_zero_r x

  -- what a mask leaves of a byte
  pub picked : (m : ℕ) (s : ℕ → Bool) (d : ℕ → ℕ) → ((k : ℕ) → d k < B) → bit_and (value B m d) (mask m s) ≡ value B m (λ k. cond (s k) (d k) 0)
  picked m s d h = and_value m d _ h (λ k. ones (s k)) ∙ value_cong B (pow_pos n) m _ _ (λ k l. one (s k) (d k) (h k))
    where
      one : (t : Bool) (x : ℕ) → x < B → bit_and x (cond t (B - 1) 0) ≡ cond t x 0
      one true x l = and_mask x n ∙ mod-eq_of_lt l
      one false x l = and_zero_r x

  -- ---- the masks that there are
  pub one_field : (m j : ℕ) → j < m → (B - 1) * 2 ^ (n * j) ≡ mask m (λ k. eqb k j)
  one_field m j h = ap (λ (x : ℕ). (B - 1) * x) (sym (pow_mul n j)) ∙ sym (value_one B m j (B - 1) h)

  pub low_fields : (m j : ℕ) → j ≤ m → 2 ^ (n * j) - 1 ≡ mask m (λ k. ltb k j)
  low_fields m j h = ap (λ (x : ℕ). x - 1) (sym (pow_mul n j)) ∙ go m j h
    where
      go : (m j : ℕ) → j ≤ m → B ^ j - 1 ≡ mask m (λ k. ltb k j)
      go m zero h =
          ap (λ (x : ℕ). x - 1) (pow-zero B) ∙ sym (value_zero B m _ (λ k. ap (λ (t : Bool). cond t (B - 1) 0) (le-ltb k 0 (omega arith))))
      go zero (suc j) h = absurd (not-suc-le-zero h)
      go (suc m) (suc j) h =
          ap (λ (x : ℕ). x - 1) (pow-suc B j)
          ∙ less (B ^ j) (one_le j)
          ∙ ap₂ (λ (x y : ℕ). x * B + y) (go m j (omega arith) ∙ value_cong B (pow_pos n) m _ _ (λ k l. ap (λ (t : Bool). cond t (B - 1) 0) (shifted k j)))
          (sym (ap (λ (t : Bool). cond t (B - 1) 0) (lt-ltb 0 (suc j) (omega arith))))
        where
          one_le : (j : ℕ) → 0 < B ^ j
          one_le j = subst (λ (x : ℕ). 0 < x) (sym (pow_mul n j)) (pow_pos (n * j))

          shifted : (k j : ℕ) → ltb k j ≡ ltb (suc k) (suc j)
          shifted k j = ⊎_elim (λ l. lt-ltb k j l ∙ sym (lt-ltb (suc k) (suc j) (omega arith))) (λ l. le-ltb k j l ∙ sym (le-ltb (suc k) (suc j) (omega arith))) (lt_or_ge k j)

          less : (p : ℕ) → 0 < p → p * B - 1 ≡ (p - 1) * B + (B - 1)
          less p l = let q = pow_pos n in mul_pred l q

  -- ---- one field
  pub shifted_lt : (m j u : ℕ) → j < m → u < B → u * 2 ^ (n * j) < B ^ m
  shifted_lt m j u h l =
      subst (λ (x : ℕ). x < B ^ m) (value_one B m j u h ∙ ap (λ (x : ℕ). u * x) (pow_mul n j)) (value_lt B m _ (λ k. low (eqb k j)))
    where
      low : (t : Bool) → cond t u 0 < B
      low true = l
      low false = pow_pos n

  -- a number by its digits, with one of them changed
  pub replaced_value : (m j u : ℕ) (d : ℕ → ℕ) → ((k : ℕ) → d k < B) → u < B → j < m → replaced B j u (value B m d) ≡ value B m (λ k. cond (eqb k j) u (d k))
  replaced_value zero j u d h l q = absurd (not-suc-le-zero q)
  replaced_value (suc m) zero u d h l q =
      ap₂ (λ (x y : ℕ). x * B + y)
      (digits_div (value B m (λ k. d (suc k))) (h 0) ∙ value_cong B (pow_pos n) m _ _ (λ k z. sym (ap (λ (t : Bool). cond t u (d (suc k))) (ne_eqb (suc k) 0 (λ e. omega arith)))))
      (mod-eq_of_lt l)
  replaced_value (suc m) (suc j) u d h l q =
      ap₂ (λ (x y : ℕ). replaced B j u x * B + y) (digits_div (value B m (λ k. d (suc k))) (h 0)) (digits_mod (value B m (λ k. d (suc k))) (h 0))
      ∙ ap₂ (λ (x y : ℕ). x * B + y)
      (replaced_value m j u (λ k. d (suc k)) (λ k. h (suc k)) l (omega arith) ∙ value_cong B (pow_pos n) m _ _ (λ k z. ap (λ (t : Bool). cond t u (d (suc k))) (shifted k)))
      (sym (ap (λ (t : Bool). cond t u (d 0)) (ne_eqb 0 (suc j) (λ e. omega arith))))
    where
      shifted : (k : ℕ) → eqb k j ≡ eqb (suc k) (suc j)
      shifted k = ⊎_elim (λ e. eq-eqb k j e ∙ sym (eq-eqb (suc k) (suc j) (ap suc e))) (λ e. ne_eqb k j e ∙ sym (ne_eqb (suc k) (suc j) (λ f. e (omega arith)))) (eq_or_not k j)

  module _ (m j v : ℕ) (hj : j < m) (hv : v < B ^ m) where
    digits : value B m (λ k. digit B k v) ≡ v
    digits = value_digits B (pow_pos n) m v hv

    -- "shift and mask the pixel's field inside one byte, the other pixels' bits kept"
    pub field_write : (u : ℕ) → u < B → bit_or (bit_and v (B ^ m - 1 - (B - 1) * 2 ^ (n * j))) (bit_and (u * 2 ^ (n * j)) ((B - 1) * 2 ^ (n * j))) ≡ replaced B j u v
    field_write u l =
        ap₂ (λ (x y : ℕ). bit_or (bit_and v (B ^ m - 1 - x)) (bit_and y x)) (one_field m j hj) (ap (λ (x : ℕ). u * x) (sym (pow_mul n j)) ∙ sym (value_one B m j u hj))
        ∙ ap (λ (x : ℕ). bit_or (bit_and x (B ^ m - 1 - mask m (λ k. eqb k j))) (bit_and (value B m (λ k. cond (eqb k j) u 0)) (mask m (λ k. eqb k j)))) (sym digits)
        ∙ merge m (λ k. eqb k j) (λ k. digit B k v) (λ k. cond (eqb k j) u 0) (λ k. digit_lt B (pow_pos n) k v) (λ k. low (eqb k j))
        ∙ value_cong B (pow_pos n) m _ _ (λ k q. one (eqb k j) (digit B k v))
        ∙ sym (replaced_value m j u (λ k. digit B k v) (λ k. digit_lt B (pow_pos n) k v) l hj)
        ∙ ap (replaced B j u) digits
      where
        low : (t : Bool) → cond t u 0 < B
        low true = l
        low false = pow_pos n

        one : (t : Bool) (x : ℕ) → cond t (cond t u 0) x ≡ cond t u x
        one true x = refl
        one false x = refl

    pub field_read : bit_and v ((B - 1) * 2 ^ (n * j)) / 2 ^ (n * j) ≡ digit B j v
    field_read =
        ap₂ (λ (x y : ℕ). bit_and x y / 2 ^ (n * j)) (sym digits) (one_field m j hj)
        ∙ ap (λ (x : ℕ). x / 2 ^ (n * j)) (picked m (λ k. eqb k j) (λ k. digit B k v) (λ k. digit_lt B (pow_pos n) k v)
        ∙ value_cong B (pow_pos n) m _ _ (λ k q. one k (eq_or_not k j)) ∙ value_one B m j (digit B j v) hj
        ∙ ap (λ (x : ℕ). digit B j v * x) (pow_mul n j))
        ∙ mul-div_cancel (digit B j v) (pow_pos (n * j))
      where
        one : (k : ℕ) → (k ≡ j) ⊎ (k ≡ j → ⊥) → cond (eqb k j) (digit B k v) 0 ≡ cond (eqb k j) (digit B j v) 0
        one k (inl e) = ap (λ (i : ℕ). cond (eqb k j) (digit B i v) 0) e
        one k (inr e) = ap (λ (t : Bool). cond t (digit B k v) 0) (ne_eqb k j e) ∙ sym (ap (λ (t : Bool). cond t (digit B j v) 0) (ne_eqb k j e))
