-- Laws of places: when two are the same, moved too, and their order by y, then x. Assumes nothing.
use mathlib.Core.Path.{◌≡◌, refl, sym, ap, ◌∙◌}
use mathlib.Core.Bool.{Bool, true, false, cond, ◌&&◌}
use mathlib.Core.Logic.{◌⊎◌, inl, inr, ⊎_elim}
use native.Mathlib.Omega.{arith}
use lib.Signed.{◌≤ℤ◌, ◌<ℤ◌, le_z, lt_z, ≤ℤ_refl}
use Rattle.std.specs.Ordering.{as_partial_cmp, int_eq, partial_le}
use Rattle.std.proofs.lemmas.Grind.{common_steps}
use Rattle.whole.specs.Equal.{eq_z}
use Rattle.whole.proofs.Decides.{Decides, decides_map, decides_one, decides_and, decides_eq, decides_le, decides_lt}
use Rattle.whole.proofs.Difference.{le_nat, lt_nat, eq_nat, nat_le, nat_lt}
use Rattle.whole.proofs.Machine.{lt_no, le_no}
use Rattle.whole.proofs.Order.{le_antisym, lt_le, lt_unless, move_eq}
use Rattle.geometry.specs.declared.Point.{Point}
use Rattle.geometry.specs.Place.{same_place, before, by_row, moved}

pub same_decides : (p q : Point) → Decides (same_place p q) (p ≡ q)
same_decides p q =
    decides_map (decides_and (eq_z p.0 q.0) (eq_z p.1 q.1) (decides_eq p.0 q.0) (decides_eq p.1 q.1))
    (λ h i. (h.0 i, h.1 i)) (λ e. (ap (λ (r : Point). r.0) e, ap (λ (r : Point). r.1) e))

-- moved together, places are the same exactly if they were
pub same_moved : (v p q : Point) → same_place (moved v p) (moved v q) ≡ same_place p q
same_moved v p q =
    decides_one _ _ (same_decides (moved v p) (moved v q))
    (decides_map (same_decides p q) (ap (moved v))
    (λ e i. (move_eq p.0 q.0 v.0 (ap (λ (r : Point). r.0) e) i, move_eq p.1 q.1 v.1 (ap (λ (r : Point). r.1) e) i)))

-- ---- the order by y, then x
-- a on an earlier row, or on the same row and no further right
abbrev pub Before : Point → Point → Type 0
Before a b = (a.1 <ℤ b.1) ⊎ ((a.1 ≡ b.1) × (a.0 ≤ℤ b.0))

pub before_decides : (a b : Point) → Decides (before a b) (Before a b)
unfolding before
before_decides a b = by (eq_z a.1 b.1) (decides_eq a.1 b.1)
  where
    by : (t : Bool) → Decides t (a.1 ≡ b.1) → Decides (cond t (le_z a.0 b.0) (lt_z a.1 b.1)) (Before a b)
    by true d =
        let e = d.yes refl in
        let x = decides_le a.0 b.0 in
        record { yes = λ t. inr (e, x.yes t); no = λ t. ⊎_elim (λ l. absurd (omega (arith, lt_nat l, eq_nat e))) (λ h. x.no t h.1) }
    by false d =
        let y = decides_lt a.1 b.1 in
        record { yes = λ t. inl (y.yes t); no = λ t. ⊎_elim (y.no t) (λ h. d.no refl h.0) }

-- the rows of two places in order
pub before_rows : (a b : Point) → Before a b → a.1 ≤ℤ b.1
before_rows a b (inl l) = lt_le l
before_rows a b (inr h) = nat_le (omega (arith, eq_nat h.0))

pub before_refl : (a : Point) → Before a a
before_refl a = inr (refl, ≤ℤ_refl a.0)

pub before_trans : (a b c : Point) → Before a b → Before b c → Before a c
before_trans a b c (inl l) h = inl (nat_lt (omega (arith, lt_nat l, le_nat (before_rows b c h))))
before_trans a b c (inr h) (inl l) = inl (nat_lt (omega (arith, lt_nat l, eq_nat h.0)))
before_trans a b c (inr h) (inr k) = inr (h.0 ∙ k.0, nat_le (omega (arith, le_nat h.1, le_nat k.1)))

pub before_antisym : (a b : Point) → Before a b → Before b a → a ≡ b
before_antisym a b (inl l) h = absurd (omega (arith, lt_nat l, le_nat (before_rows b a h)))
before_antisym a b (inr h) (inl l) = absurd (omega (arith, lt_nat l, eq_nat h.0))
before_antisym a b (inr h) (inr k) = λ i. (le_antisym h.1 k.1 i, h.0 i)

-- one of two places is before the other
pub before_yes : (a b : Point) → before a b ≡ true → Before a b
before_yes a b = (before_decides a b).yes

pub before_no : (a b : Point) → before a b ≡ false → Before b a
unfolding before
before_no a b = by (eq_z a.1 b.1) (decides_eq a.1 b.1)
  where
    by : (t : Bool) → Decides t (a.1 ≡ b.1) → cond t (le_z a.0 b.0) (lt_z a.1 b.1) ≡ false → Before b a
    by true d h = inr (sym (d.yes refl), lt_le (le_no h))
    by false d h = inl (lt_unless (λ k. d.no refl (le_antisym k (lt_no h))))

-- ---- as std compares places
pub in_order_is : (a b : Point) → partial_le (as_partial_cmp by_row) a b ≡ before a b
unfolding before
in_order_is a b = grind (arith, common_steps)

pub equal_is : (p q : Point) → (int_eq p.0 q.0 && int_eq p.1 q.1) ≡ same_place p q
equal_is p q = grind (arith, common_steps)
