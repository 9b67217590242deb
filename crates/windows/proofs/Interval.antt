-- Laws of the steps that a rectangle holds: the interval that is worked out has exactly those. Assumes nothing.
use mathlib.Core.Path.{◌≡◌, refl, sym, ap, ap₂, ◌∙◌}
use mathlib.Core.Bool.{Bool, true, false, ◌&&◌, true≢false}
use mathlib.Core.Logic.{◌⊎◌, inl, inr}
use Prim.Native.Nat.{ℕ, ◌≤◌, ◌<◌}
use native.Mathlib.Omega.{arith}
use lib.Dec.{leb, ltb}
use lib.IntN.{ℤ, pos, negsuc, ◌+ℤ◌, ◌-ℤ◌, ◌*ℤ◌}
use lib.Signed.{le_z, lt_z, ◌≤ℤ◌, ◌<ℤ◌}
use borrow.Author.Tests.{leb-true, ltb-true, le-leb, lt-leb, lt-ltb, le-ltb}
use Rattle.whole.specs.Interval.{between}
use Rattle.whole.proofs.Decides.{decides_one, decides_map, decides_le, decides_lt}
use Rattle.whole.proofs.Difference.{as_mk, mks, mk_eq, eq_mk, le_nat, lt_nat, nat_le, nat_lt}
use Rattle.whole.proofs.Tests.{same_test, lt_or_ge}
use Rattle.std.specs.declared.ops.Range.{Range}
use Rattle.windows.specs.Window.{clipped}
use Rattle.windows.specs.Interval.{on_from, Held}
use Rattle.windows.proofs.Clips.{nearest, clip_bounds, from_le, past_gt}

-- ---- a step below count is on the same side of a number and of the nearest of 0 to count
module _ (z : ℤ) {count k : ℕ} (few : k < count) where
  near_le : leb (clipped z 0 count) k ≡ le_z z (pos k)
  near_le =
      let n = from_le z 0 count k (omega arith) few _ (nearest z 0 count) in
      same_test _ _ (λ h. n.1 (leb-true _ _ h)) (λ h. le-leb _ _ (n.0 h))

  near_lt : ltb k (clipped z 0 count) ≡ lt_z (pos k) z
  near_lt =
      let n = past_gt z 0 count k (omega arith) few _ (nearest z 0 count) in
      same_test _ _ (λ h. n.1 (ltb-true _ _ h)) (λ h. lt-ltb _ _ (n.0 h))

-- ---- two tests of the same difference
module _ (x y z w : ℤ) where
  shift_le : y +ℤ z ≡ w +ℤ x → x ≤ℤ y → z ≤ℤ w
  shift_le e h = let d = eq_mk _ _ _ _ (simp mks at (rw (as_mk x, as_mk y, as_mk z, as_mk w) at e)) in nat_le (omega (arith, le_nat h))

  shift_lt : y +ℤ z ≡ w +ℤ x → x <ℤ y → z <ℤ w
  shift_lt e h = let d = eq_mk _ _ _ _ (simp mks at (rw (as_mk x, as_mk y, as_mk z, as_mk w) at e)) in nat_lt (omega (arith, lt_nat h))

  le_next : (y +ℤ z) +ℤ pos 1 ≡ w +ℤ x → x ≤ℤ y → z <ℤ w
  le_next e h = let d = eq_mk _ _ _ _ (simp mks at (rw (as_mk x, as_mk y, as_mk z, as_mk w) at e)) in nat_lt (omega (arith, le_nat h))

  next_le : (y +ℤ z) +ℤ pos 1 ≡ w +ℤ x → z <ℤ w → x ≤ℤ y
  next_le e h = let d = eq_mk _ _ _ _ (simp mks at (rw (as_mk x, as_mk y, as_mk z, as_mk w) at e)) in nat_le (omega (arith, lt_nat h))

module _ (x y z w : ℤ) where
  same_le : y +ℤ z ≡ w +ℤ x → le_z x y ≡ le_z z w
  same_le e = decides_one _ _ (decides_map (decides_le x y) (shift_le x y z w e) (shift_le z w x y (sym e))) (decides_le z w)

  same_lt : y +ℤ z ≡ w +ℤ x → lt_z x y ≡ lt_z z w
  same_lt e = decides_one _ _ (decides_map (decides_lt x y) (shift_lt x y z w e) (shift_lt z w x y (sym e))) (decides_lt z w)

  same_next : (y +ℤ z) +ℤ pos 1 ≡ w +ℤ x → le_z x y ≡ lt_z z w
  same_next e = decides_one _ _ (decides_map (decides_le x y) (le_next x y z w e) (next_le x y z w e)) (decides_lt z w)

-- ---- k steps from a, and an end of the range
module _ (a end k : ℤ) where
  up_from : le_z (end -ℤ a) k ≡ le_z end (a +ℤ pos 1 *ℤ k)
  up_from = same_le (end -ℤ a) k end (a +ℤ pos 1 *ℤ k) (rw (as_mk a, as_mk end, as_mk k) (simp mks (mk_eq _ _ _ _ (omega arith))))

  up_past : lt_z k (end -ℤ a) ≡ lt_z (a +ℤ pos 1 *ℤ k) end
  up_past = same_lt k (end -ℤ a) (a +ℤ pos 1 *ℤ k) end (rw (as_mk a, as_mk end, as_mk k) (simp mks (mk_eq _ _ _ _ (omega arith))))

  down_from : le_z (pos 1 -ℤ (end -ℤ a)) k ≡ lt_z (a +ℤ negsuc 0 *ℤ k) end
  down_from = same_next (pos 1 -ℤ (end -ℤ a)) k (a +ℤ negsuc 0 *ℤ k) end (rw (as_mk a, as_mk end, as_mk k) (simp mks (mk_eq _ _ _ _ (omega arith))))

  down_past : lt_z k (pos 1 -ℤ (end -ℤ a)) ≡ le_z end (a +ℤ negsuc 0 *ℤ k)
  down_past = sym (same_next end (a +ℤ negsuc 0 *ℤ k) k (pos 1 -ℤ (end -ℤ a)) (rw (as_mk a, as_mk end, as_mk k) (simp mks (mk_eq _ _ _ _ (omega arith)))))

both_swap : (s t : Bool) → (s && t) ≡ (t && s)
both_swap true true = refl
both_swap true false = refl
both_swap false true = refl
both_swap false false = refl

-- ---- the steps, upwards and downwards
module _ (a : ℤ) (low high count : ℕ) {t : Range ℕ} where
  pub held_up : t.start ≡ clipped (pos low -ℤ a) 0 count → t.end ≡ clipped (pos high -ℤ a) 0 count → Held a true low high count t
  held_up from past =
      record {
        first = rw from (clip_bounds (pos low -ℤ a) 0 count (omega arith)).1;
        most = rw past (clip_bounds (pos high -ℤ a) 0 count (omega arith)).1;
        begins = λ k few. rw from (near_le (pos low -ℤ a) few ∙ up_from a (pos low) (pos k));
        ends = λ k few. rw past (near_lt (pos high -ℤ a) few ∙ up_past a (pos high) (pos k));
      }

  pub held_down : t.start ≡ clipped (pos 1 -ℤ (pos high -ℤ a)) 0 count → t.end ≡ clipped (pos 1 -ℤ (pos low -ℤ a)) 0 count → Held a false low high count t
  held_down from past =
      record {
        first = rw from (clip_bounds (pos 1 -ℤ (pos high -ℤ a)) 0 count (omega arith)).1;
        most = rw past (clip_bounds (pos 1 -ℤ (pos low -ℤ a)) 0 count (omega arith)).1;
        begins = λ k few. rw from (near_le (pos 1 -ℤ (pos high -ℤ a)) few ∙ down_from a (pos high) (pos k));
        ends = λ k few. rw past (near_lt (pos 1 -ℤ (pos low -ℤ a)) few ∙ down_past a (pos low) (pos k));
      }

-- ---- they are those at which the coordinate lies there
-- whether k is one of the steps
abbrev pub is_step : Range ℕ → ℕ → Bool
is_step t k = leb t.start k && ltb k t.end

pub held_exactly : {a : ℤ} (grows : Bool) {low high count : ℕ} {t : Range ℕ} → Held a grows low high count t
    → (k : ℕ) → k < count → is_step t k ≡ between (pos low) (pos high) (on_from grows a k)
held_exactly true h k few = ap₂ ◌&&◌ (h.begins k few) (h.ends k few)
held_exactly {a} false {low} {high} h k few =
    ap₂ ◌&&◌ (h.begins k few) (h.ends k few) ∙ both_swap (lt_z (on_from false a k) (pos high)) (le_z (pos low) (on_from false a k))

-- ---- there is one such answer: an end is told by the side of it on which each step lies
one_end : (side : ℕ → ℕ → Bool) → ((p q : ℕ) → p < q → side p p ≡ side q p → ⊥)
    → {count p q : ℕ} → p ≤ count → q ≤ count → ((k : ℕ) → k < count → side p k ≡ side q k) → p ≡ q
one_end side apart {count} {p} {q} few more same = by (lt_or_ge p q) (lt_or_ge q p)
  where
    by : (p < q) ⊎ (q ≤ p) → (q < p) ⊎ (p ≤ q) → p ≡ q
    by (inl l) o = absurd (apart p q l (same p (omega arith)))
    by (inr l) (inl m) = absurd (apart q p m (sym (same q (omega arith))))
    by (inr l) (inr m) = omega arith

pub one_interval : {count : ℕ} {t u : Range ℕ} → t.start ≤ count → u.start ≤ count → t.end ≤ count → u.end ≤ count
    → ((k : ℕ) → k < count → leb t.start k ≡ leb u.start k) → ((k : ℕ) → k < count → ltb k t.end ≡ ltb k u.end) → t ≡ u
one_interval first also most too begins ends =
    let from = one_end leb (λ p q l e. true≢false (sym (le-leb p p (omega arith)) ∙ e ∙ lt-leb q p l)) first also begins in
    let past = one_end (λ p k. ltb k p) (λ p q l e. true≢false (sym (lt-ltb p q l) ∙ sym e ∙ le-ltb p p (omega arith))) most too ends in
    λ i. record { start = from i; end = past i }

pub held_one : {a : ℤ} {grows : Bool} {low high count : ℕ} {t u : Range ℕ} → Held a grows low high count t → Held a grows low high count u → t ≡ u
held_one h g = one_interval h.first g.first h.most g.most (λ k few. h.begins k few ∙ sym (g.begins k few)) (λ k few. h.ends k few ∙ sym (g.ends k few))

-- ---- steps before and after them are none of them
pub step_before : (t : Range ℕ) (k : ℕ) → k < t.start → is_step t k ≡ false
step_before t k l = ap (λ (b : Bool). b && ltb k t.end) (lt-leb t.start k l)

pub step_after : (t : Range ℕ) (k : ℕ) → t.end ≤ k → is_step t k ≡ false
step_after t k l = ap (λ (b : Bool). leb t.start k && b) (le-ltb k t.end l) ∙ both_swap (leb t.start k) false
