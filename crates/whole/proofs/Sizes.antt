-- Rules by which `search (rules, sizes)` closes the goals of signed arithmetic by itself: `Sz k z` is |z| ≤ 2 ^ k, asked at a written-out k.
use mathlib.Core.Path.{◌≡◌, refl, sym, subst, ap, ap₂, ◌∙◌}
use Prim.Native.Nat.{ℕ, zero, suc, ◌+◌, ◌*◌, ◌-◌, ◌/◌, ◌<◌, ◌≤◌, ◌^◌}
use native.Mathlib.Nat.{le_trans, lt_trans, le_of_lt, mul-le-mul}
use native.Mathlib.Omega.{arith}
use lib.Dec.{T, ltb, leb, ltb→lt, leb→le, lit<}
use lib.IntN.{ℤ, pos, neg_ℤ, nat_abs, +ℤ_idl, ◌+ℤ◌, ◌*ℤ◌}
use lib.Pow.{pow_mono, pow-lt, pow-add}
use native.Mathlib.Nat.{pow-suc}
use lib.Signed.{nat_abs-le}
use mir.Syntax.{w32, w64}
use mir.Val.{SFits, Fits, to_z, of_z}
use mir.Facts.{to_z-of_z, to_z_pos}
use Rattle.whole.proofs.Machine.{sized, add_size, mul_size, neg_size}

pub record Sz (k : ℕ) (z : ℤ) : Type 0 where
  pub sz : nat_abs z ≤ 2 ^ k

twice : (k : ℕ) → 0 < k → 2 ^ (k - 1) + 2 ^ (k - 1) ≤ 2 ^ k
twice zero h = elim h [ ]
twice (suc k) h = rw (one_off k, pow-suc) (omega arith)
  where
    one_off : (k : ℕ) → suc k - 1 ≡ k
    one_off k = omega arith

halves : (k : ℕ) → 2 ^ (k / 2) * 2 ^ (k / 2) ≤ 2 ^ k
halves k = le_trans (rw (← (pow-add 2 (k / 2) (k / 2))) (pow_mono le)) (pow_mono le_refl')
  where
    le : k / 2 + k / 2 ≤ k
    le = omega arith

    le_refl' : k ≤ k
    le_refl' = omega arith

pub sf64 : (z : ℤ) → Sz 62 z → SFits w64 z
sf64 z h = sized h.sz (lit< tt)

pub sz_add : (k : ℕ) (a b : ℤ) → T (ltb 0 k) → Sz (k - 1) a → Sz (k - 1) b → Sz k (a +ℤ b)
sz_add k a b t h g = record { sz = omega (arith, add_size a b, twice k (ltb→lt 0 k t), h.sz, g.sz) }

pub sz_mul : (k : ℕ) (a b : ℤ) → Sz (k / 2) a → Sz (k / 2) b → Sz k (a *ℤ b)
sz_mul k a b h g = record { sz = rw mul_size (le_trans (mul-le-mul h.sz g.sz) (halves k)) }

pub sz_neg : (k : ℕ) (a : ℤ) → Sz k a → Sz k (neg_ℤ a)
sz_neg k a h = record { sz = rw neg_size h.sz }

-- what is read back from the bits of a local
pub sz_back64 : (k : ℕ) (z : ℤ) → T (leb k 62) → Sz k z → Sz k (to_z w64 (of_z w64 z))
sz_back64 k z t h = record { sz = subst (λ (v : ℤ). nat_abs v ≤ 2 ^ k) (sym (to_z-of_z {w = w64} {z = z} (sized h.sz (pow-lt (below k (leb→le k 62 t)))))) h.sz }
  where
    below : (k : ℕ) → k ≤ 62 → k < 63
    below k h = omega arith

pub sz_back32 : (k : ℕ) (z : ℤ) → Sz k z → SFits w32 z → Sz k (to_z w32 (of_z w32 z))
sz_back32 k z h f = record { sz = subst (λ (v : ℤ). nat_abs v ≤ 2 ^ k) (sym (to_z-of_z {w = w32} {z = z} f)) h.sz }

pub sz_zero : (k : ℕ) → Sz k (pos 0)
sz_zero k = record { sz = omega arith }

-- any `i32`; any `u32` that was cast to `i64`, whose bits are the number itself
pub sz_i32 : (k : ℕ) (z : ℤ) → SFits w32 z → T (leb 31 k) → Sz k z
sz_i32 k z f t = record { sz = le_trans (nat_abs-le z f.sfits) (pow_mono (leb→le 31 k t)) }

pub sz_u32 : (k n : ℕ) → Fits w32 n → T (leb 32 k) → Sz k (to_z w64 n)
sz_u32 k n f t = record { sz = subst (λ (v : ℤ). nat_abs v ≤ 2 ^ k) (sym (to_z_pos w64 (lt_trans f.fits (lit< tt)))) (le_trans (le_of_lt f.fits) (pow_mono (leb→le 32 k t))) }

-- the operations; a leaf's rule is listed beside it: `search (sizes, sz_coord) depth 20`
pub ruleset sizes = (tt, sf64, sz_back64, sz_back32, sz_add, sz_mul, sz_neg, sz_zero)

-- ---- what the code works out is what the contract says, part by part
pub record Is (e z : ℤ) : Type 0 where
  pub is : e ≡ z

pub is_add : (a b y z : ℤ) → Is a y → Is b z → Is (a +ℤ b) (y +ℤ z)
is_add a b y z h k = record { is = ap₂ ◌+ℤ◌ h.is k.is }

pub is_mul : (a b y z : ℤ) → Is a y → Is b z → Is (a *ℤ b) (y *ℤ z)
is_mul a b y z h k = record { is = ap₂ ◌*ℤ◌ h.is k.is }

pub is_neg : (a y : ℤ) → Is a y → Is (neg_ℤ a) (neg_ℤ y)
is_neg a y h = record { is = ap neg_ℤ h.is }

pub is_minus : (a y : ℤ) → Is a y → Is (pos 0 +ℤ neg_ℤ a) (neg_ℤ y)
is_minus a y h = record { is = +ℤ_idl (neg_ℤ a) ∙ ap neg_ℤ h.is }

pub is_back64 : (e z : ℤ) → Sz 62 e → Is e z → Is (to_z w64 (of_z w64 e)) z
is_back64 e z s h = record { is = to_z-of_z (sf64 e s) ∙ h.is }

pub is_back32 : (e z : ℤ) → SFits w32 e → Is e z → Is (to_z w32 (of_z w32 e)) z
is_back32 e z s h = record { is = to_z-of_z s ∙ h.is }

pub is_same : (z : ℤ) → Is z z
is_same z = record { is = refl }

pub ruleset parts = (is_back64, is_back32, is_minus, is_add, is_mul, is_neg, is_same)
