-- Laws of the sides that a pixel is on: the tests decide the statements, any order of the vertices gives the same, and a pixel that is on the same
-- side of all three edges stands on the triangle's rows. Assumes nothing.
use mathlib.Core.Path.{◌≡◌, refl, sym, ap, subst, ◌∙◌}
use mathlib.Core.Bool.{Bool, true, false, not, ◌&&◌, ◌||◌}
use mathlib.Core.Logic.{◌⊎◌, inl, inr, ⊎_elim}
use Prim.Native.Nat.{zero, suc, ◌+◌}
use native.Mathlib.Omega.{arith}
use lib.Dec.{eqb}
use lib.IntN.{ℤ, pos, negsuc, neg_ℤ, ◌+ℤ◌, ◌*ℤ◌, neg_ℤ-+ℤ}
use lib.Signed.{◌≤ℤ◌, ◌<ℤ◌, le_z, ≤ℤ_refl}
use borrow.Author.Tests.{eqb-true, eqb-false, eq-eqb, ne_eqb}
use Rattle.whole.specs.Equal.{eq_z}
use Rattle.whole.proofs.Decides.{Decides, decides_map, decides_and, decides_or, decides_one, decides_le, decides_eq}
use Rattle.whole.proofs.Difference.{up, dn, le_nat, nat_lt, nat_eq}
use Rattle.whole.proofs.Order.{neg_flip, flip_neg, le_trans, le_sub, sub_le, nonneg_add, nonneg_mul, nonneg_cancel}
use Rattle.geometry.specs.declared.Point.{Point}
use Rattle.geometry.specs.Place.{area_doubled}
use Rattle.triangle.specs.Triangle.{none_below, none_above, is_flat, is_inside}
use Rattle.triangle.proofs.Area.{area_swap, area_turn, area_back, area_sum, weighed_below, weighed_above}

-- ---- the statements
abbrev pub Flat : Point → Point → Point → Type 0
Flat a b c = area_doubled a b c ≡ pos 0

pub record NoneBelow (a b c p : Point) : Type 0 where
  pub ab : pos 0 ≤ℤ area_doubled p a b
  pub bc : pos 0 ≤ℤ area_doubled p b c
  pub ca : pos 0 ≤ℤ area_doubled p c a

pub record NoneAbove (a b c p : Point) : Type 0 where
  pub ab : area_doubled p a b ≤ℤ pos 0
  pub bc : area_doubled p b c ≤ℤ pos 0
  pub ca : area_doubled p c a ≤ℤ pos 0

abbrev pub Inside : Point → Point → Point → Point → Type 0
Inside a b c p = NoneBelow a b c p ⊎ NoneAbove a b c p

pub flat_decides : (a b c : Point) → Decides (is_flat a b c) (Flat a b c)
unfolding is_flat
flat_decides a b c = decides_eq (area_doubled a b c) (pos 0)

pub inside_decides : (a b c p : Point) → Decides (is_inside a b c p) (Inside a b c p)
unfolding is_inside none_below none_above
inside_decides a b c p =
    decides_map (decides_or (none_below A B C) (none_above A B C)
    (decides_and (le_z (pos 0) A) _ (decides_le _ _) (decides_and (le_z (pos 0) B) (le_z (pos 0) C) (decides_le _ _) (decides_le _ _)))
    (decides_and (le_z A (pos 0)) _ (decides_le _ _) (decides_and (le_z B (pos 0)) (le_z C (pos 0)) (decides_le _ _) (decides_le _ _))))
    (⊎_elim (λ h. inl (record { ab = h.0; bc = h.1.0; ca = h.1.1 })) (λ h. inr (record { ab = h.0; bc = h.1.0; ca = h.1.1 })))
    (⊎_elim (λ h. inl (h.ab, (h.bc, h.ca))) (λ h. inr (h.ab, (h.bc, h.ca))))
  where
    A : ℤ
    A = area_doubled p a b

    B : ℤ
    B = area_doubled p b c

    C : ℤ
    C = area_doubled p c a

-- all at most 0 is all at least 0, negated
pub none_above_lem : (a b c : ℤ) → none_below (neg_ℤ a) (neg_ℤ b) (neg_ℤ c) ≡ none_above a b c
unfolding none_below none_above
none_above_lem a b c = λ i. turned a i && (turned b i && turned c i)
  where
    turned : (z : ℤ) → le_z (pos 0) (neg_ℤ z) ≡ le_z z (pos 0)
    turned z = decides_one _ _ (decides_le (pos 0) (neg_ℤ z)) (decides_map (decides_le z (pos 0)) (neg_flip z (pos 0)) (flip_neg z (pos 0)))

-- none below 0: the sum is 0 exactly if all are
pub sum_zero : (a b c : ℤ) → none_below a b c ≡ true → not (eq_z a (pos 0)) || (not (eq_z b (pos 0)) || not (eq_z c (pos 0))) ≡ not (eq_z ((a +ℤ b) +ℤ c) (pos 0))
unfolding none_below
sum_zero a b c h =
    let all = (decides_and (le_z (pos 0) a) _ (decides_le _ _) (decides_and (le_z (pos 0) b) (le_z (pos 0) c) (decides_le _ _) (decides_le _ _))).yes h in
    go a b c all.0 all.1.0 all.1.1
  where
    go : (a b c : ℤ) → pos 0 ≤ℤ a → pos 0 ≤ℤ b → pos 0 ≤ℤ c → not (eq_z a (pos 0)) || (not (eq_z b (pos 0)) || not (eq_z c (pos 0))) ≡ not (eq_z ((a +ℤ b) +ℤ c) (pos 0))
    go (pos i) (pos j) (pos k) p q r = by (eqb i 0) (eqb j 0) (eqb k 0) refl refl refl
      where
        some : (i + j + k ≡ 0 → ⊥) → true ≡ not (eqb (i + j + k) 0)
        some n = sym (ap not (ne_eqb (i + j + k) 0 n))

        by : (r s t : Bool) → eqb i 0 ≡ r → eqb j 0 ≡ s → eqb k 0 ≡ t → not r || (not s || not t) ≡ not (eqb (i + j + k) 0)
        by true true true r s t = let a = eqb-true i 0 r in let b = eqb-true j 0 s in let c = eqb-true k 0 t in sym (ap not (eq-eqb (i + j + k) 0 (omega arith)))
        by false s t r u v = some (λ e. eqb-false i 0 r (omega arith))
        by true false t r s v = some (λ e. eqb-false j 0 s (omega arith))
        by true true false r s t = some (λ e. eqb-false k 0 t (omega arith))
    go (negsuc i) b c p q r = absurd p.le
    go (pos i) (negsuc j) c p q r = absurd q.le
    go (pos i) (pos j) (negsuc k) p q r = absurd r.le

-- a sum is 0 exactly if it is so negated
pub neg_zero : (a b c : ℤ) → eq_z ((neg_ℤ a +ℤ neg_ℤ b) +ℤ neg_ℤ c) (pos 0) ≡ eq_z ((a +ℤ b) +ℤ c) (pos 0)
neg_zero a b c =
    ap (λ (z : ℤ). eq_z z (pos 0)) (ap (λ (z : ℤ). z +ℤ neg_ℤ c) (sym (neg_ℤ-+ℤ a b)) ∙ sym (neg_ℤ-+ℤ (a +ℤ b) c)) ∙ negated ((a +ℤ b) +ℤ c)
  where
    negated : (z : ℤ) → eq_z (neg_ℤ z) (pos 0) ≡ eq_z z (pos 0)
    negated (pos zero) = refl
    negated (pos (suc n)) = sym (ne_eqb (suc n) 0 (λ e. omega arith))
    negated (negsuc n) = ne_eqb (suc n) 0 (λ e. omega arith)

-- ---- the vertices in another order
-- seen from its other end, an edge's side turns
module _ (p a b : Point) where
  pub back_below : pos 0 ≤ℤ area_doubled p a b → area_doubled p b a ≤ℤ pos 0
  back_below h = subst (λ (z : ℤ). z ≤ℤ pos 0) (sym (area_back p a b)) (neg_flip (pos 0) (area_doubled p a b) h)

  pub back_above : area_doubled p a b ≤ℤ pos 0 → pos 0 ≤ℤ area_doubled p b a
  back_above h = subst (λ (z : ℤ). pos 0 ≤ℤ z) (sym (area_back p a b)) (neg_flip (area_doubled p a b) (pos 0) h)

above_swap : (a b c p : Point) → NoneAbove a b c p → NoneBelow b a c p
above_swap a b c p h = record { ab = back_above p a b h.ab; bc = back_above p c a h.ca; ca = back_above p b c h.bc }

inside_swap : (a b c p : Point) → Inside a b c p → Inside b a c p
inside_swap a b c p (inl h) = inr (record { ab = back_below p a b h.ab; bc = back_below p c a h.ca; ca = back_below p b c h.bc })
inside_swap a b c p (inr h) = inl (above_swap a b c p h)

inside_turn : (a b c p : Point) → Inside a b c p → Inside b c a p
inside_turn a b c p (inl h) = inl (record { ab = h.bc; bc = h.ca; ca = h.ab })
inside_turn a b c p (inr h) = inr (record { ab = h.bc; bc = h.ca; ca = h.ab })

-- the tests
module _ (a b c : Point) where
  pub flat_swap : is_flat b a c ≡ is_flat a b c
  flat_swap =
      decides_one _ _ (flat_decides b a c)
      (decides_map (flat_decides a b c) (λ h. area_swap a b c ∙ ap neg_ℤ h) (λ h. area_swap b a c ∙ ap neg_ℤ h))

  pub flat_turn : is_flat b c a ≡ is_flat a b c
  flat_turn = decides_one _ _ (flat_decides b c a) (decides_map (flat_decides a b c) (λ h. area_turn a b c ∙ h) (λ h. sym (area_turn a b c) ∙ h))

  pub is_inside_swap : (p : Point) → is_inside b a c p ≡ is_inside a b c p
  is_inside_swap p = decides_one _ _ (inside_decides b a c p) (decides_map (inside_decides a b c p) (inside_swap a b c p) (inside_swap b a c p))

  pub is_inside_turn : (p : Point) → is_inside b c a p ≡ is_inside a b c p
  is_inside_turn p =
      decides_one _ _ (inside_decides b c a p) (decides_map (inside_decides a b c p) (inside_turn a b c p) (λ h. inside_turn c a b p (inside_turn b c a p h)))

-- ---- on the rows of the triangle
-- the weights of three distances, none below 0, place the pixel
weigh : (α β γ S d e f g : ℤ) → (α *ℤ d +ℤ β *ℤ e) +ℤ γ *ℤ f ≡ S *ℤ g → pos 0 ≤ℤ α → pos 0 ≤ℤ β → pos 0 ≤ℤ γ → pos 0 <ℤ S → pos 0 ≤ℤ d → pos 0 ≤ℤ e → pos 0 ≤ℤ f → pos 0 ≤ℤ g
weigh α β γ S d e f g h a b c s p q r =
    nonneg_cancel S g s (subst (λ (z : ℤ). pos 0 ≤ℤ z) h (nonneg_add _ _ (nonneg_add _ _ (nonneg_mul α d a p) (nonneg_mul β e b q)) (nonneg_mul γ f c r)))

module _ (a b c p : Point) (solid : Flat a b c → ⊥) (h : NoneBelow a b c p) where
  whole : pos 0 <ℤ area_doubled a b c
  whole =
      let s : pos 0 ≤ℤ area_doubled a b c = subst (λ (z : ℤ). pos 0 ≤ℤ z) (area_sum a b c p) (nonneg_add _ _ (nonneg_add _ _ h.ab h.bc) h.ca) in
      let n : ¬ (up (area_doubled a b c) ≡ dn (area_doubled a b c)) = λ e. solid (nat_eq (omega arith)) in
      nat_lt (omega (arith, le_nat s))

  below_top : (z : ℤ) → z ≤ℤ a.1 → z ≤ℤ b.1 → z ≤ℤ c.1 → z ≤ℤ p.1
  below_top z ha hb hc =
      sub_le z p.1 (weigh _ _ _ _ _ _ _ _ (weighed_below a b c p z) h.bc h.ca h.ab whole (le_sub z a.1 ha) (le_sub z b.1 hb) (le_sub z c.1 hc))

  above_bottom : (z : ℤ) → a.1 ≤ℤ z → b.1 ≤ℤ z → c.1 ≤ℤ z → p.1 ≤ℤ z
  above_bottom z ha hb hc =
      sub_le p.1 z (weigh _ _ _ _ _ _ _ _ (weighed_above a b c p z) h.bc h.ca h.ab whole (le_sub a.1 z ha) (le_sub b.1 z hb) (le_sub c.1 z hc))

pub inside_rows : (a b c p : Point) → a.1 ≤ℤ b.1 → b.1 ≤ℤ c.1 → (Flat a b c → ⊥) → Inside a b c p → (a.1 ≤ℤ p.1) × (p.1 ≤ℤ c.1)
inside_rows a b c p u l n (inl h) =
    (below_top a b c p n h a.1 (≤ℤ_refl a.1) u (le_trans u l), above_bottom a b c p n h c.1 (le_trans u l) l (≤ℤ_refl c.1))
inside_rows a b c p u l n (inr h) =
    let k = above_swap a b c p h in
    let m : Flat b a c → ⊥ = λ e. n (area_swap b a c ∙ ap neg_ℤ e) in
    (below_top b a c p m k a.1 u (≤ℤ_refl a.1) (le_trans u l), above_bottom b a c p m k c.1 l (le_trans u l) (≤ℤ_refl c.1))
