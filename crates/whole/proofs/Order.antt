-- The order of ℤ with sums, differences and products. Assumes nothing.
use mathlib.Core.Path.{◌≡◌}
use Prim.Native.Nat.{ℕ, zero, suc, ◌+◌, ◌*◌, ◌≤◌, ◌<◌}
use native.Mathlib.Nat.{mul-pos}
use native.Mathlib.Omega.{arith}
use lib.IntN.{ℤ, pos, negsuc, neg_ℤ, ◌+ℤ◌, ◌-ℤ◌, ◌*ℤ◌}
use lib.Signed.{◌≤ℤ◌, ◌<ℤ◌}
use Rattle.whole.proofs.Difference.{up, dn, as_mk, mks, mk_le, mk_lt, le_mk, lt_mk, eq_mk, le_nat, lt_nat, nat_le, nat_lt, nat_eq, eq_nat}

-- ---- what `omega` does through the two parts: transitivity, antisymmetry, and any chain of variables and literals
pub le_trans : {a b c : ℤ} → a ≤ℤ b → b ≤ℤ c → a ≤ℤ c
le_trans {a} {b} {c} h k = nat_le (omega (arith, le_nat h, le_nat k))

pub le_antisym : {a b : ℤ} → a ≤ℤ b → b ≤ℤ a → a ≡ b
le_antisym {a} {b} h k = nat_eq (omega (arith, le_nat h, le_nat k))

pub le_self : (a : ℤ) → a ≤ℤ a
le_self a = nat_le (omega arith)

pub le_of : {a b : ℤ} → a ≡ b → a ≤ℤ b
le_of {a} {b} h = nat_le (omega (arith, eq_nat h))

pub lt_le : {a b : ℤ} → a <ℤ b → a ≤ℤ b
lt_le {a} {b} h = nat_le (omega (arith, lt_nat h))

pub lt_le_lt : {a b c : ℤ} → a <ℤ b → b ≤ℤ c → a <ℤ c
lt_le_lt {a} {b} {c} h k = nat_lt (omega (arith, lt_nat h, le_nat k))

pub le_lt_lt : {a b c : ℤ} → a ≤ℤ b → b <ℤ c → a <ℤ c
le_lt_lt {a} {b} {c} h k = nat_lt (omega (arith, le_nat h, lt_nat k))

-- one of the two orders, unless the other holds
pub le_unless : {a b : ℤ} → (b <ℤ a → ⊥) → a ≤ℤ b
le_unless {a} {b} n = let m : ¬ (up b + dn a < up a + dn b) = λ k. n (nat_lt k) in nat_le (omega arith)

pub lt_unless : {a b : ℤ} → (b ≤ℤ a → ⊥) → a <ℤ b
lt_unless {a} {b} n = let m : ¬ (up b + dn a ≤ up a + dn b) = λ k. n (nat_le k) in nat_lt (omega arith)

pub lt_apart : {a b : ℤ} → a <ℤ b → a ≡ b → ⊥
lt_apart {a} {b} h k = omega (arith, lt_nat h, eq_nat k)

pub lt_of : {a b : ℤ} → a ≤ℤ b → (a ≡ b → ⊥) → a <ℤ b
lt_of h k = lt_unless (λ g. k (le_antisym h g))

-- one more
pub le_lt_more : {a b : ℤ} → a ≤ℤ b → a <ℤ (b +ℤ pos 1)
le_lt_more {a} {b} h = rw (as_mk a, as_mk b) (simp mks (mk_lt _ _ _ _ (omega (arith, le_nat h))))

pub more_lt_le : {a b : ℤ} → a <ℤ (b +ℤ pos 1) → a ≤ℤ b
more_lt_le {a} {b} h =
    let g = lt_mk _ _ _ _ (simp mks at (rw (as_mk a, as_mk b) at h)) in
    nat_le (omega arith)

pub lt_more_le : {a b : ℤ} → a <ℤ b → (a +ℤ pos 1) ≤ℤ b
lt_more_le {a} {b} h = rw (as_mk a, as_mk b) (simp mks (mk_le _ _ _ _ (omega (arith, lt_nat h))))

-- ---- a difference that is not negative
pub le_sub : (a b : ℤ) → a ≤ℤ b → pos 0 ≤ℤ (b -ℤ a)
le_sub a b h = rw (as_mk a, as_mk b) (simp mks (mk_le _ _ _ _ (omega (arith, le_nat h))))

pub sub_le : (a b : ℤ) → pos 0 ≤ℤ (b -ℤ a) → a ≤ℤ b
sub_le a b h =
    let g = le_mk _ _ _ _ (simp mks at (rw (as_mk a, as_mk b) at h)) in
    nat_le (omega arith)

pub lt_sub : (a b : ℤ) → a <ℤ b → (a -ℤ b) <ℤ pos 0
lt_sub a b h = rw (as_mk a, as_mk b) (simp mks (mk_lt _ _ _ _ (omega (arith, lt_nat h))))

pub lt_sub_pos : (a b : ℤ) → a <ℤ b → pos 0 <ℤ (b -ℤ a)
lt_sub_pos a b h = rw (as_mk a, as_mk b) (simp mks (mk_lt _ _ _ _ (omega (arith, lt_nat h))))

pub nonneg_add : (a b : ℤ) → pos 0 ≤ℤ a → pos 0 ≤ℤ b → pos 0 ≤ℤ (a +ℤ b)
nonneg_add a b h k = rw (as_mk a, as_mk b) (simp mks (mk_le _ _ _ _ (omega (arith, le_nat h, le_nat k))))

-- ---- the same on both sides
pub le_move : (a b v : ℤ) → a ≤ℤ b → (a +ℤ v) ≤ℤ (b +ℤ v)
le_move a b v h = rw (as_mk a, as_mk b, as_mk v) (simp mks (mk_le _ _ _ _ (omega (arith, le_nat h))))

pub move_le : (a b v : ℤ) → (a +ℤ v) ≤ℤ (b +ℤ v) → a ≤ℤ b
move_le a b v h =
    let g = le_mk _ _ _ _ (simp mks at (rw (as_mk a, as_mk b, as_mk v) at h)) in
    nat_le (omega arith)

pub lt_move : (a b v : ℤ) → a <ℤ b → (a +ℤ v) <ℤ (b +ℤ v)
lt_move a b v h = rw (as_mk a, as_mk b, as_mk v) (simp mks (mk_lt _ _ _ _ (omega (arith, lt_nat h))))

pub move_lt : (a b v : ℤ) → (a +ℤ v) <ℤ (b +ℤ v) → a <ℤ b
move_lt a b v h =
    let g = lt_mk _ _ _ _ (simp mks at (rw (as_mk a, as_mk b, as_mk v) at h)) in
    nat_lt (omega arith)

pub move_eq : (a b v : ℤ) → a +ℤ v ≡ b +ℤ v → a ≡ b
move_eq a b v h =
    let g = eq_mk _ _ _ _ (simp mks at (rw (as_mk a, as_mk b, as_mk v) at h)) in
    nat_eq (omega arith)

-- ---- products, by the signs
pub nonneg_mul : (a b : ℤ) → pos 0 ≤ℤ a → pos 0 ≤ℤ b → pos 0 ≤ℤ (a *ℤ b)
nonneg_mul (pos m) (pos n) h k = nat_le (omega arith)
nonneg_mul (pos m) (negsuc n) h k = absurd k.le
nonneg_mul (negsuc m) b h k = absurd h.le

not_nonneg : (n : ℕ) → 0 < n → pos 0 ≤ℤ neg_ℤ (pos n) → ⊥
not_nonneg zero h k = omega arith
not_nonneg (suc n) h k = k.le

-- a positive factor goes
pub nonneg_cancel : (a b : ℤ) → pos 0 <ℤ a → pos 0 ≤ℤ (a *ℤ b) → pos 0 ≤ℤ b
nonneg_cancel (pos zero) b h k = absurd (omega (arith, lt_nat h))
nonneg_cancel (pos (suc m)) (pos n) h k = nat_le (omega arith)
nonneg_cancel (pos (suc m)) (negsuc n) h k = absurd (not_nonneg (suc m * suc n) (mul-pos {m = suc m} {n = suc n} (omega arith) (omega arith)) k)
nonneg_cancel (negsuc m) b h k = absurd h.lt

pub neg_flip : (a b : ℤ) → a ≤ℤ b → neg_ℤ b ≤ℤ neg_ℤ a
neg_flip a b h = rw (as_mk a, as_mk b) (simp mks (mk_le _ _ _ _ (omega (arith, le_nat h))))

pub flip_neg : (a b : ℤ) → neg_ℤ b ≤ℤ neg_ℤ a → a ≤ℤ b
flip_neg a b h =
    let g = le_mk _ _ _ _ (simp mks at (rw (as_mk a, as_mk b) at h)) in
    nat_le (omega arith)

pub neg_flip_lt : (a b : ℤ) → a <ℤ b → neg_ℤ b <ℤ neg_ℤ a
neg_flip_lt a b h = rw (as_mk a, as_mk b) (simp mks (mk_lt _ _ _ _ (omega (arith, lt_nat h))))
