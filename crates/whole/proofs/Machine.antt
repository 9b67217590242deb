-- What an expression of the code over signed integers is, as a number of ℤ with a bound on its size, so that each operation fits its width;
-- and what a test, a cast or a call says of the numbers. Assumes nothing.
use mathlib.Core.Path.{◌≡◌, refl, sym, ap, ap₂, ◌∙◌, subst}
use mathlib.Core.Bool.{Bool, true, false, not, cond}
use Prim.Native.Nat.{ℕ, zero, suc, ◌+◌, ◌*◌, ◌-◌, ◌<◌, ◌≤◌, ◌^◌, zero-le}
use native.Mathlib.Nat.{le_of_lt, lt_trans, lt_of_le_of_lt, mul-le-mul, le_refl}
use native.Mathlib.Omega.{arith}
use lib.Dec.{T, eqb, ltb, ltb→lt, nleb→lt, lit<}
use lib.IntN.{ℤ, pos, negsuc, neg_ℤ, nat_abs, sub_ℕ, ◌+ℤ◌, ◌-ℤ◌, ◌*ℤ◌, +ℤ_idl}
use lib.Signed.{le_z, lt_z, ◌≤ℤ◌, ◌<ℤ◌, mag, non_neg, lt_z_yes, lt_z_no, le_z_yes, yes_non_neg, nat_abs-le}
use mir.Syntax.{Width, w32, w64}
use mir.Val.{SFits, Fits, to_z, of_z, hbits, bits}
use mir.Facts.{to_z-of_z, to_z_pos, Fits-nat_abs, sfits_lit}
use Rattle.whole.specs.Equal.{eq_z}
use Rattle.whole.proofs.Decides.{decides_map, decides_one, decides_eqb, decides_eq}
use Rattle.whole.proofs.Difference.{mk, up, dn, as_mk, eq_mk, lt_nat, nat_lt}
use Rattle.whole.proofs.Order.{lt_le}

-- ---- sizes: |z| in ℕ
pub mag_size : (z : ℤ) → mag z ≤ nat_abs z
mag_size (pos n) = omega arith
mag_size (negsuc n) = omega arith

pub neg_size : (z : ℤ) → nat_abs (neg_ℤ z) ≡ nat_abs z
neg_size (pos zero) = refl
neg_size (pos (suc n)) = refl
neg_size (negsuc n) = refl

-- a and b at most c apart
sub_within : (a b c : ℕ) → a ≤ b + c → b ≤ a + c → nat_abs (sub_ℕ a b) ≤ c
sub_within a b c h k = by (ltb a b) (b - suc a) (a - b) (λ t. below a b (ltb→lt a b t) k) above
  where
    by : (t : Bool) (m n : ℕ) → (T t → suc m ≤ c) → n ≤ c → nat_abs (cond t (negsuc m) (pos n)) ≤ c
    by true m n f g = f tt
    by false m n f g = g

    below : (a b : ℕ) → a < b → b ≤ a + c → suc (b - suc a) ≤ c
    below a b h k = omega arith

    above : a - b ≤ c
    above = omega arith

sub_size : (a b : ℕ) → nat_abs (sub_ℕ a b) ≤ a + b
sub_size a b = sub_within a b (a + b) (omega arith) (omega arith)

pub minus_within : (a b c : ℕ) → a ≤ b + c → b ≤ a + c → nat_abs (pos a -ℤ pos b) ≤ c
minus_within a zero c h k = omega arith
minus_within a (suc b) c h k = sub_within a (suc b) c h k

pub add_size : (y z : ℤ) → nat_abs (y +ℤ z) ≤ nat_abs y + nat_abs z
add_size (pos a) (pos b) = omega arith
add_size (pos a) (negsuc b) = sub_size a (suc b)
add_size (negsuc a) (pos b) = omega (arith, sub_size b (suc a))
add_size (negsuc a) (negsuc b) = omega arith

pub mul_size : (y z : ℤ) → nat_abs (y *ℤ z) ≡ nat_abs y * nat_abs z
mul_size (pos a) (pos b) = refl
mul_size (pos a) (negsuc b) = neg_size (pos (a * suc b))
mul_size (negsuc a) (pos b) = neg_size (pos (suc a * b))
mul_size (negsuc a) (negsuc b) = refl

-- a number by its size and its sign
pub size_pos : (z : ℤ) → pos 0 ≤ℤ z → z ≡ pos (nat_abs z)
size_pos (pos n) h = refl
size_pos (negsuc n) h = absurd h.le

pub size_neg : (z : ℤ) → z <ℤ pos 0 → neg_ℤ z ≡ pos (nat_abs z)
size_neg (pos n) h = absurd (omega (arith, lt_nat h))
size_neg (negsuc n) h = refl

-- ---- an operand e, as the code works it out, is z; z is at most b from 0, and the width holds b
pub record Has (w : Width) (e z : ℤ) (b : ℕ) : Type 0 where
  pub is : e ≡ z
  pub size : nat_abs z ≤ b
  pub room : b < 2 ^ hbits w

pub sized : {w : Width} {z : ℤ} {b : ℕ} → nat_abs z ≤ b → b < 2 ^ hbits w → SFits w z
sized {w} {z} h k = record { sfits = omega (arith, mag_size z) }

-- what a need of an operation or a cast asks
pub fits : {w : Width} {e z : ℤ} {b : ℕ} → Has w e z b → SFits w e
fits {w} h = subst (λ (v : ℤ). SFits w v) (sym h.is) (sized h.size h.room)

pub size_of : {w : Width} {e z : ℤ} {b : ℕ} → Has w e z b → nat_abs e ≤ b
size_of {b = b} h = subst (λ (v : ℤ). nat_abs v ≤ b) (sym h.is) h.size

-- a local holds bits: what is read back from them
pub back : {w : Width} {e z : ℤ} {b : ℕ} → Has w e z b → Has w (to_z w (of_z w e)) z b
back h = record { is = to_z-of_z (fits h) ∙ h.is; size = h.size; room = h.room }

-- a signed field that is read, of which the walk says only that it fits
pub field_back : (w : Width) (z : ℤ) → mag z < 2 ^ hbits w → to_z w (of_z w z) ≡ z
field_back w z h = to_z-of_z (record { sfits = h })

-- a call's result; a parameter or a field that is read; a literal
pub one : {w : Width} (z : ℤ) {b : ℕ} → nat_abs z ≤ b → T (ltb b (2 ^ hbits w)) → Has w z z b
one {w} z {b} h t = record { is = refl; size = h; room = ltb→lt b (2 ^ hbits w) t }

pub read : {w : Width} (z : ℤ) {b : ℕ} → nat_abs z ≤ b → T (ltb b (2 ^ hbits w)) → Has w (to_z w (of_z w z)) z b
read z h t = back (one z h t)

pub lit : {w : Width} (n : ℕ) → T (ltb n (2 ^ hbits w)) → Has w (pos n) (pos n) n
lit n t = one (pos n) (le_refl n) t

-- with a nearer bound
pub at_most : {w : Width} {e z : ℤ} {b : ℕ} (d : ℕ) → Has w e z b → nat_abs z ≤ d → T (ltb d (2 ^ hbits w)) → Has w e z d
at_most {w} d h k t = record { is = h.is; size = k; room = ltb→lt d (2 ^ hbits w) t }

-- a cast between signed types; of any `i32` to `i64`; of a `u32` to `i64`, whose bits are the number itself
pub cast : {w w' : Width} {e z : ℤ} {b : ℕ} → Has w e z b → T (ltb b (2 ^ hbits w')) → Has w' (to_z w (of_z w e)) z b
cast {w} {w'} {e} {z} {b} h t = record { is = (back h).is; size = h.size; room = ltb→lt b (2 ^ hbits w') t }

pub wide : {z : ℤ} → SFits w32 z → Has w64 (to_z w32 (of_z w32 z)) z 2147483648
wide {z} f = record { is = to_z-of_z f; size = nat_abs-le z f.sfits; room = lit< tt }

pub wide_nat : {n : ℕ} → Fits w32 n → Has w64 (to_z w64 n) (pos n) 4294967296
wide_nat {n} f = record { is = to_z_pos w64 (lt_trans f.fits (lit< tt)); size = le_of_lt f.fits; room = lit< tt }

-- a `u32` that a signed number of its width holds too, cast to it: its bits are the number itself
pub same_bits : {w : Width} {n b : ℕ} → n ≤ b → T (ltb b (2 ^ hbits w)) → Has w (to_z w n) (pos n) b
same_bits {w} {n} {b} h t = record { is = to_z_pos w (lt_of_le_of_lt h (ltb→lt b (2 ^ hbits w) t)); size = h; room = ltb→lt b (2 ^ hbits w) t }

-- the operations, over operands as they stand: a local is read by `back`
module _ {w : Width} {e f y z : ℤ} {b d : ℕ} (h : Has w e y b) (k : Has w f z d) where
  pub plus : T (ltb (b + d) (2 ^ hbits w)) → Has w (e +ℤ f) (y +ℤ z) (b + d)
  plus t = record { is = ap₂ ◌+ℤ◌ h.is k.is; size = omega (arith, add_size y z, h.size, k.size); room = ltb→lt (b + d) (2 ^ hbits w) t }

  pub minus : T (ltb (b + d) (2 ^ hbits w)) → Has w (e -ℤ f) (y -ℤ z) (b + d)
  minus t = record { is = ap₂ ◌-ℤ◌ h.is k.is; size = omega (arith, add_size y (neg_ℤ z), neg_size z, h.size, k.size); room = ltb→lt (b + d) (2 ^ hbits w) t }

  pub times : T (ltb (b * d) (2 ^ hbits w)) → Has w (e *ℤ f) (y *ℤ z) (b * d)
  times t = record { is = ap₂ ◌*ℤ◌ h.is k.is; size = rw mul_size (mul-le-mul h.size k.size); room = ltb→lt (b * d) (2 ^ hbits w) t }

-- the difference of any two `i32` in `i64`
pub wide_minus : {x y : ℤ} → SFits w32 x → SFits w32 y
    → Has w64 (to_z w64 (of_z w64 (to_z w32 (of_z w32 x))) -ℤ to_z w64 (of_z w64 (to_z w32 (of_z w32 y)))) (x -ℤ y) 4294967296
wide_minus f g = minus (back (wide f)) (back (wide g)) tt

-- `-x` is 0 - x in the machine
pub minus_of : {w : Width} {e z : ℤ} {b : ℕ} → Has w e z b → Has w (pos 0 -ℤ e) (neg_ℤ z) b
minus_of {w} {e} {z} {b} h = record { is = +ℤ_idl _ ∙ ap neg_ℤ h.is; size = omega (arith, neg_size z, h.size); room = h.room }

-- ---- tests. A test of two values as they stand, as of a loop's signed variable `to_z w y`
not_le : (x y : ℤ) → T (not (le_z x y)) → up y + dn x < up x + dn y
not_le (pos a) (pos b) t = omega (arith, nleb→lt a b t)
not_le (pos a) (negsuc b) t = omega arith
not_le (negsuc a) (pos b) t = absurd t
not_le (negsuc a) (negsuc b) t = omega (arith, nleb→lt b a t)

pub lt_yes : {x y : ℤ} → lt_z x y ≡ true → x <ℤ y
lt_yes e = lt_z_yes (subst T (sym e) tt)

pub lt_no : {x y : ℤ} → lt_z x y ≡ false → y ≤ℤ x
lt_no e = lt_z_no (subst (λ (t : Bool). T (not t)) (sym e) tt)

pub le_yes : {x y : ℤ} → le_z x y ≡ true → x ≤ℤ y
le_yes e = le_z_yes (subst T (sym e) tt)

pub le_no : {x y : ℤ} → le_z x y ≡ false → y <ℤ x
le_no {x} {y} e = nat_lt (not_le x y (subst (λ (t : Bool). T (not t)) (sym e) tt))

-- what a test of two signed numbers says, taken or left
pub ruleset tests = (le_yes, le_no, lt_yes, lt_no, lt_le)

-- a test of two operands, at their numbers
pub tests_lt : {w : Width} {e f y z : ℤ} {b d : ℕ} → Has w e y b → Has w f z d → lt_z e f ≡ lt_z y z
tests_lt h k = ap₂ lt_z h.is k.is

pub tests_le : {w : Width} {e f y z : ℤ} {b d : ℕ} → Has w e y b → Has w f z d → le_z e f ≡ le_z y z
tests_le h k = ap₂ le_z h.is k.is

-- two values of a width that are read back: parameters, fields
module _ {w : Width} {x y : ℤ} (fx : SFits w x) (fy : SFits w y) where
  -- the test, at the numbers
  pub le_test : le_z (to_z w (of_z w x)) (to_z w (of_z w y)) ≡ le_z x y
  le_test = ap₂ le_z (to_z-of_z fx) (to_z-of_z fy)

  pub lt_test : lt_z (to_z w (of_z w x)) (to_z w (of_z w y)) ≡ lt_z x y
  lt_test = ap₂ lt_z (to_z-of_z fx) (to_z-of_z fy)

  -- what it says
  pub lt_true : lt_z (to_z w (of_z w x)) (to_z w (of_z w y)) ≡ true → x <ℤ y
  lt_true e = lt_yes (sym lt_test ∙ e)

  pub lt_false : lt_z (to_z w (of_z w x)) (to_z w (of_z w y)) ≡ false → y ≤ℤ x
  lt_false e = lt_no (sym lt_test ∙ e)

  -- `==` compares bits
  pub eq_bits : of_z w x ≡ of_z w y → x ≡ y
  eq_bits e = sym (to_z-of_z fx) ∙ ap (to_z w) e ∙ to_z-of_z fy

  pub eq_test : eqb (of_z w x) (of_z w y) ≡ eq_z x y
  eq_test = decides_one _ _ (decides_map (decides_eqb (of_z w x) (of_z w y)) eq_bits (ap (of_z w))) (decides_eq x y)

  -- what a callee ensures of two arguments, at the numbers
  pub at₂ : (P : ℤ → ℤ → Type 0) → P (to_z w (of_z w x)) (to_z w (of_z w y)) → P x y
  at₂ P h = subst (P x) (to_z-of_z fy) (subst (λ (v : ℤ). P v (to_z w (of_z w y))) (to_z-of_z fx) h)

-- the test for 0
pub zero_test : {z : ℤ} → SFits w64 z → eqb (of_z w64 z) 0 ≡ eq_z z (pos 0)
zero_test f = eq_test f (sfits_lit {z = pos 0} tt)

-- ---- a cast to an unsigned type, of a number that is not negative
pub to_nat : {w : Width} (w' : Width) {e : ℤ} {n b : ℕ} → Has w e (pos n) b → T (ltb b (2 ^ bits w')) → T (non_neg (to_z w (of_z w e))) × Fits w' (nat_abs (to_z w (of_z w e)))
to_nat {w} w' {e} {n} {b} h t =
    subst (λ (z : ℤ). T (non_neg z) × Fits w' (nat_abs z)) (sym (back h).is) (tt, record { fits = lt_of_le_of_lt h.size (ltb→lt b (2 ^ bits w') t) })

pub nat_is : {w : Width} {e : ℤ} {n b : ℕ} → Has w e (pos n) b → nat_abs (to_z w (of_z w e)) ≡ n
nat_is h = ap nat_abs (back h).is

-- the same of a signed number that a test has shown not to be negative
pub index_fits : {w : Width} (w' : Width) {z : ℤ} → SFits w z → pos 0 ≤ℤ z → T (ltb (hbits w) (bits w')) → T (non_neg (to_z w (of_z w z))) × Fits w' (nat_abs (to_z w (of_z w z)))
index_fits w' f h t = subst (λ (v : ℤ). T (non_neg v) × Fits w' (nat_abs v)) (sym (to_z-of_z f)) (yes_non_neg h, Fits-nat_abs t f)

pub index_is : {w : Width} {z : ℤ} → SFits w z → pos 0 ≤ℤ z → pos (nat_abs (to_z w (of_z w z))) ≡ z
index_is {w} {z} f h = ap (λ (v : ℤ). pos (nat_abs v)) (to_z-of_z f) ∙ sym (size_pos z h)

-- ---- to the very ends of the width, by the two parts

pub fits_dn : (w : Width) (z : ℤ) → SFits w z → dn z ≤ 2 ^ hbits w
fits_dn w (pos n) f = zero-le
fits_dn w (negsuc n) f = f.sfits

pub mk_size : (p q c : ℕ) → p ≤ q + c → q ≤ p + c → nat_abs (mk p q) ≤ c
mk_size p q c h k = go (mk p q) (eq_mk p q (up (mk p q)) (dn (mk p q)) (as_mk (mk p q)))
  where
    go : (z : ℤ) → p + dn z ≡ up z + q → nat_abs z ≤ c
    go (pos n) e = omega arith
    go (negsuc n) e = omega arith

pub mk_fits : (w : Width) (p q : ℕ) → p < q + 2 ^ hbits w → q ≤ p + 2 ^ hbits w → SFits w (mk p q)
mk_fits w p q h k = go (mk p q) (eq_mk p q (up (mk p q)) (dn (mk p q)) (as_mk (mk p q)))
  where
    go : (z : ℤ) → p + dn z ≡ up z + q → SFits w z
    go (pos n) e = record { sfits = omega arith }
    go (negsuc n) e = record { sfits = omega arith }
