-- Containment is lying between two edge points of the row, for vertices whose rows are in order, p1 to p2 to p3. On a row two of the edges that are
-- not level bound the triangle; a pixel between their runs is on opposite sides of the two, and the side of the third edge follows. Assumes nothing.
use mathlib.Core.Path.{◌≡◌, refl, sym, ap, subst, ◌∙◌}
use mathlib.Core.Bool.{Bool, true, false, cond, ◌||◌}
use mathlib.Core.Logic.{◌⊎◌, inl, inr, ⊎_elim}
use native.Mathlib.Omega.{arith}
use lib.IntN.{ℤ, pos, neg_ℤ, ◌+ℤ◌, ◌*ℤ◌, *ℤ_comm}
use lib.Signed.{◌≤ℤ◌, ◌<ℤ◌, le_z, lt_z, ≤ℤ_refl}
use Rattle.whole.proofs.Decides.{Decides, decides_map, decides_or}
use Rattle.whole.proofs.Difference.{as_mk, mks, mk_eq, le_nat, lt_nat, nat_le, nat_eq}
use Rattle.whole.proofs.Machine.{le_yes, le_no, lt_yes, lt_no}
use Rattle.whole.proofs.Order.{le_trans, le_antisym, lt_le, le_unless, lt_unless, le_sub, lt_sub_pos, neg_flip, flip_neg, nonneg_add, nonneg_mul, nonneg_cancel}
use Rattle.geometry.specs.declared.Point.{Point}
use Rattle.geometry.specs.Place.{area_doubled}
use Rattle.line.specs.Line.{HasPoint, has_point}
use Rattle.line.proofs.Points.{has_start, has_end, has_decides}
use Rattle.triangle.specs.Triangle.{is_inside, on_edge}
use Rattle.triangle.specs.EdgePoint.{EdgePoint}
use Rattle.triangle.proofs.Area.{area_from_first, area_from_last, area_level}
use Rattle.triangle.proofs.Enclosed.{InRow}
use Rattle.triangle.proofs.Edge.{RunOn, run_on, no_gap, edge_rows}
use Rattle.triangle.proofs.Sides.{Flat, Inside, back_below, back_above, inside_rows, inside_decides}

-- ---- the third side from two: A C = B D + B' D', where no distance C, D, D' is negative
third_below : (A C B D B' D' : ℤ) → A *ℤ C ≡ B *ℤ D +ℤ B' *ℤ D' → pos 0 <ℤ C → pos 0 ≤ℤ D → pos 0 ≤ℤ D' → pos 0 ≤ℤ B → pos 0 ≤ℤ B' → pos 0 ≤ℤ A
third_below A C B D B' D' e c d d' b b' =
    nonneg_cancel C A c (subst (λ (z : ℤ). pos 0 ≤ℤ z) (sym e ∙ *ℤ_comm A C) (nonneg_add _ _ (nonneg_mul B D b d) (nonneg_mul B' D' b' d')))

third_above : (A C B D B' D' : ℤ) → A *ℤ C ≡ B *ℤ D +ℤ B' *ℤ D' → pos 0 <ℤ C → pos 0 ≤ℤ D → pos 0 ≤ℤ D' → B ≤ℤ pos 0 → B' ≤ℤ pos 0 → A ≤ℤ pos 0
third_above A C B D B' D' e c d d' b b' =
    flip_neg A (pos 0) (third_below (neg_ℤ A) C (neg_ℤ B) D (neg_ℤ B') D' (neg_times A C ∙ ap neg_ℤ e ∙ neg_sum B D B' D') c d d' (neg_flip B (pos 0) b) (neg_flip B' (pos 0) b'))
  where
    neg_times : (a c : ℤ) → neg_ℤ a *ℤ c ≡ neg_ℤ (a *ℤ c)
    neg_times a c = rw (as_mk a, as_mk c) (simp mks (mk_eq _ _ _ _ (omega arith)))

    neg_sum : (b d b' d' : ℤ) → neg_ℤ (b *ℤ d +ℤ b' *ℤ d') ≡ neg_ℤ b *ℤ d +ℤ neg_ℤ b' *ℤ d'
    neg_sum b d b' d' = rw (as_mk b, as_mk d, as_mk b', as_mk d') (simp mks (mk_eq _ _ _ _ (omega arith)))

-- ---- a row of two edges that are not level, s to e and f to g
-- p is on opposite sides of the two
abbrev Opposite : Point → Point → Point → Point → Point → Type 0
Opposite s e f g p = ((pos 0 ≤ℤ area_doubled p s e) × (area_doubled p f g ≤ℤ pos 0)) ⊎ ((area_doubled p s e ≤ℤ pos 0) × (pos 0 ≤ℤ area_doubled p f g))

-- x lies between a point of the one and a point of the other on row y
record Spanned (s e f g : Point) (x y : ℤ) : Type 0 where
  lo : ℤ
  hi : ℤ
  from : lo ≤ℤ x
  to : x ≤ℤ hi
  ends : (HasPoint s e (lo, y) × HasPoint f g (hi, y)) ⊎ (HasPoint f g (lo, y) × HasPoint s e (hi, y))

-- a point that both have on row y
record Shared (s e f g : Point) (y : ℤ) : Type 0 where
  j : ℤ
  one : HasPoint s e (j, y)
  other : HasPoint f g (j, y)

-- an end of both that stands on the row
shared : {s e f g : Point} {y : ℤ} (q : Point) → q.1 ≡ y → HasPoint s e q → HasPoint f g q → Shared s e f g y
shared {s} {e} {f} {g} q h a b =
    record { j = q.0; one = subst (λ (z : ℤ). HasPoint s e (q.0, z)) h a; other = subst (λ (z : ℤ). HasPoint f g (q.0, z)) h b }

-- x is on opposite sides of the two, which share no point of the row
record Parted (s e f g : Point) (x y : ℤ) : Type 0 where
  sides : Opposite s e f g (x, y)
  apart : Shared s e f g y → ⊥

-- left of, in or right of a run
place : (lo hi x : ℤ) → (x <ℤ lo) ⊎ (((lo ≤ℤ x) × (x ≤ℤ hi)) ⊎ (hi <ℤ x))
place lo hi x = by (le_z lo x) (le_z x hi) le_yes le_no le_yes le_no
  where
    by : (s t : Bool) → (s ≡ true → lo ≤ℤ x) → (s ≡ false → x <ℤ lo) → (t ≡ true → x ≤ℤ hi) → (t ≡ false → hi <ℤ x) → (x <ℤ lo) ⊎ (((lo ≤ℤ x) × (x ≤ℤ hi)) ⊎ (hi <ℤ x))
    by true true a b c d = inr (inl (a refl, c refl))
    by true false a b c d = inr (inr (d refl))
    by false t a b c d = inl (b refl)

-- a column that is not strictly right of the edge is not right of its run, and one not strictly left not left
module _ (s e : Point) (x y : ℤ) (E : RunOn s e y) (tall : s.1 <ℤ e.1) where
  at_most : pos 0 ≤ℤ area_doubled (x, y) s e → x ≤ℤ E.hi
  at_most h = le_unless (λ k. omega (arith, le_nat h, lt_nat (E.run.right tall x k)))

  at_least : area_doubled (x, y) s e ≤ℤ pos 0 → E.lo ≤ℤ x
  at_least h = le_unless (λ k. omega (arith, le_nat h, lt_nat (E.run.left tall x k)))

  at_lo : HasPoint s e (E.lo, y)
  at_lo = E.run.on E.lo (≤ℤ_refl E.lo) E.run.some

  at_hi : HasPoint s e (E.hi, y)
  at_hi = E.run.on E.hi E.run.some (≤ℤ_refl E.hi)

module _ (s e f g : Point) (x y : ℤ) (E : RunOn s e y) (F : RunOn f g y) (tall-e : s.1 <ℤ e.1) (tall-f : f.1 <ℤ g.1) where
  spanned : Opposite s e f g (x, y) → Spanned s e f g x y
  spanned (inl h) =
      record { lo = F.lo; hi = E.hi; from = at_least f g x y F tall-f h.1; to = at_most s e x y E tall-e h.0; ends = inr (at_lo f g x y F tall-f, at_hi s e x y E tall-e) }
  spanned (inr h) =
      record { lo = E.lo; hi = F.hi; from = at_least s e x y E tall-e h.0; to = at_most f g x y F tall-f h.1; ends = inl (at_lo s e x y E tall-e, at_hi f g x y F tall-f) }

  -- among the points of the two edges and of a third, which meets s to e wherever it is on the row
  module _ (k m : Point) (down : k.1 ≤ℤ m.1) (meets : (z : ℤ) → HasPoint k m (z, y) → Shared s e k m y) where
    abbrev On : ℤ → Type 0
    On z = HasPoint s e (z, y) ⊎ (HasPoint f g (z, y) ⊎ HasPoint k m (z, y))

    outer_left : (lo : ℤ) → lo ≤ℤ x → x <ℤ E.lo → x <ℤ F.lo → On lo → On x
    outer_left lo l a b (inl h) = absurd (omega (arith, le_nat l, lt_nat a, le_nat (E.run.has lo h).0))
    outer_left lo l a b (inr (inl h)) = absurd (omega (arith, le_nat l, lt_nat b, le_nat (F.run.has lo h).0))
    outer_left lo l a b (inr (inr h)) =
        let j = meets lo h in
        inr (inr (no_gap k m y lo x j.j down h j.other l (nat_le (omega (arith, lt_nat a, le_nat (E.run.has j.j j.one).0)))))

    outer_right : (hi : ℤ) → x ≤ℤ hi → E.hi <ℤ x → F.hi <ℤ x → On hi → On x
    outer_right hi l a b (inl h) = absurd (omega (arith, le_nat l, lt_nat a, le_nat (E.run.has hi h).1))
    outer_right hi l a b (inr (inl h)) = absurd (omega (arith, le_nat l, lt_nat b, le_nat (F.run.has hi h).1))
    outer_right hi l a b (inr (inr h)) =
        let j = meets hi h in
        inr (inr (no_gap k m y j.j x hi down j.other h (nat_le (omega (arith, lt_nat a, le_nat (E.run.has j.j j.one).1))) l))

    on_or_parted : (lo hi : ℤ) → lo ≤ℤ x → x ≤ℤ hi → On lo → On hi → On x ⊎ Parted s e f g x y
    on_or_parted lo hi l u p q = by (place E.lo E.hi x) (place F.lo F.hi x)
      where
        by : (x <ℤ E.lo) ⊎ (((E.lo ≤ℤ x) × (x ≤ℤ E.hi)) ⊎ (E.hi <ℤ x)) → (x <ℤ F.lo) ⊎ (((F.lo ≤ℤ x) × (x ≤ℤ F.hi)) ⊎ (F.hi <ℤ x)) → On x ⊎ Parted s e f g x y
        by (inr (inl h)) d = inl (inl (E.run.on x h.0 h.1))
        by (inl a) (inr (inl h)) = inl (inr (inl (F.run.on x h.0 h.1)))
        by (inr (inr a)) (inr (inl h)) = inl (inr (inl (F.run.on x h.0 h.1)))
        by (inl a) (inl b) = inl (outer_left lo l a b p)
        by (inr (inr a)) (inr (inr b)) = inl (outer_right hi u a b q)
        by (inl a) (inr (inr b)) =
            inr (record {
              sides = inl (lt_le (E.run.left tall-e x a), lt_le (F.run.right tall-f x b));
              apart = λ j. omega (arith, lt_nat a, lt_nat b, le_nat (E.run.has j.j j.one).0, le_nat (F.run.has j.j j.other).1);
            })
        by (inr (inr a)) (inl b) =
            inr (record {
              sides = inr (lt_le (E.run.right tall-e x a), lt_le (F.run.left tall-f x b));
              apart = λ j. omega (arith, lt_nat a, lt_nat b, le_nat (E.run.has j.j j.one).1, le_nat (F.run.has j.j j.other).0);
            })

-- ---- the rows of an edge point
pub edge_point_rows : (p1 p2 p3 : Point) → p1.1 ≤ℤ p2.1 → p2.1 ≤ℤ p3.1 → (b : Bool) (p : Point) → EdgePoint b p1 p2 p3 p → (p1.1 ≤ℤ p.1) × (p.1 ≤ℤ p3.1)
edge_point_rows p1 p2 p3 u l true p q = edge_rows p1 p3 p (le_trans u l) q
edge_point_rows p1 p2 p3 u l false p (inl q) = let r = edge_rows p1 p2 p u q in (r.0, le_trans r.1 l)
edge_point_rows p1 p2 p3 u l false p (inr (inl q)) = edge_rows p1 p3 p (le_trans u l) q
edge_point_rows p1 p2 p3 u l false p (inr (inr q)) = let r = edge_rows p2 p3 p l q in (le_trans u r.0, r.1)

-- ---- a triangle with area: contained is the same as between two edge points
module _ (p1 p2 p3 p : Point) (u : p1.1 ≤ℤ p2.1) (l : p2.1 ≤ℤ p3.1) (solid : Flat p1 p2 p3 → ⊥) where
  -- the row is one of the upper edge or of the lower edge, which is not level
  abbrev Upper : Type 0
  Upper = (p.1 ≤ℤ p2.1) × (p1.1 <ℤ p2.1)

  abbrev Lower : Type 0
  Lower = (p2.1 ≤ℤ p.1) × (p2.1 <ℤ p3.1)

  not_level : p3.1 ≤ℤ p1.1 → ⊥
  not_level h = solid (area_level p1 p2 p3 (nat_eq (omega (arith, le_nat h, le_nat u, le_nat l))) (nat_eq (omega (arith, le_nat h, le_nat u, le_nat l))))

  halves : p1.1 ≤ℤ p.1 → p.1 ≤ℤ p3.1 → Upper ⊎ Lower
  halves a b = by (le_z p.1 p2.1) (lt_z p1.1 p2.1) (lt_z p2.1 p3.1) le_yes le_no lt_yes lt_no lt_yes lt_no
    where
      by : (s t r : Bool) → (s ≡ true → p.1 ≤ℤ p2.1) → (s ≡ false → p2.1 <ℤ p.1) → (t ≡ true → p1.1 <ℤ p2.1) → (t ≡ false → p2.1 ≤ℤ p1.1)
          → (r ≡ true → p2.1 <ℤ p3.1) → (r ≡ false → p3.1 ≤ℤ p2.1) → Upper ⊎ Lower
      by true true r c d e f g h = inl (c refl, e refl)
      by true false true c d e f g h = inr (le_trans (f refl) a, g refl)
      by true false false c d e f g h = absurd (not_level (le_trans (h refl) (f refl)))
      by false t true c d e f g h = inr (lt_le (d refl), g refl)
      by false t false c d e f g h = absurd (omega (arith, lt_nat (d refl), le_nat (h refl), le_nat b))

  tall : p1.1 <ℤ p3.1
  tall = lt_unless not_level

  in_row : (s e f g : Point) → ((z : ℤ) → HasPoint s e (z, p.1) → EdgePoint false p1 p2 p3 (z, p.1)) → ((z : ℤ) → HasPoint f g (z, p.1) → EdgePoint false p1 p2 p3 (z, p.1))
      → Spanned s e f g p.0 p.1 → InRow false p1 p2 p3 p
  in_row s e f g i j h = by h.ends
    where
      by : (HasPoint s e (h.lo, p.1) × HasPoint f g (h.hi, p.1)) ⊎ (HasPoint f g (h.lo, p.1) × HasPoint s e (h.hi, p.1)) → InRow false p1 p2 p3 p
      by (inl q) = record { first = h.lo; last = h.hi; from = h.from; to = h.to; at_first = i h.lo q.0; at_last = j h.hi q.1 }
      by (inr q) = record { first = h.lo; last = h.hi; from = h.from; to = h.to; at_first = j h.lo q.0; at_last = i h.hi q.1 }

  module _ (a : p1.1 ≤ℤ p.1) (b : p.1 ≤ℤ p3.1) where
    long : RunOn p1 p3 p.1
    long = run_on p1 p3 p.1 a b

    -- ---- the upper half: the edges p1 to p2 and p1 to p3
    in_upper : Upper → Inside p1 p2 p3 p → InRow false p1 p2 p3 p
    in_upper h i = in_row p1 p2 p1 p3 (λ z. inl) (λ z q. inr (inl q)) (spanned p1 p2 p1 p3 p.0 p.1 (run_on p1 p2 p.1 a h.0) long h.1 tall (sides i))
      where
        sides : Inside p1 p2 p3 p → Opposite p1 p2 p1 p3 p
        sides (inl s) = inl (s.ab, back_below p p3 p1 s.ca)
        sides (inr s) = inr (s.ab, back_above p p3 p1 s.ca)

    out_upper : Upper → InRow false p1 p2 p3 p → Inside p1 p2 p3 p ⊎ EdgePoint false p1 p2 p3 p
    out_upper h w =
        ⊎_elim inr (λ q. inl (inside (lt_unless (λ k. at_apex (le_antisym a k) q)) q.sides))
        (on_or_parted p1 p2 p1 p3 p.0 p.1 (run_on p1 p2 p.1 a h.0) long h.1 tall p2 p3 l meets w.first w.last w.from w.to w.at_first w.at_last)
      where
        -- the lower edge is on the row only where that is the row of p2
        meets : (z : ℤ) → HasPoint p2 p3 (z, p.1) → Shared p1 p2 p2 p3 p.1
        meets z q = shared p2 (le_antisym (edge_rows p2 p3 (z, p.1) l q).0 h.0) (has_end p1 p2) (has_start p2 p3)

        -- both edges have p1
        at_apex : p1.1 ≡ p.1 → Parted p1 p2 p1 p3 p.0 p.1 → ⊥
        at_apex e q = q.apart (shared p1 e (has_start p1 p2) (has_start p1 p3))

        inside : p1.1 <ℤ p.1 → Opposite p1 p2 p1 p3 p → Inside p1 p2 p3 p
        inside c (inl s) =
            let ca = back_above p p1 p3 s.1 in
            inl (record { ab = s.0; bc = third_below _ _ _ _ _ _ (area_from_first p1 p2 p3 p) (lt_sub_pos _ _ c) (le_sub _ _ h.0) (le_sub _ _ b) ca s.0; ca = ca })
        inside c (inr s) =
            let ca = back_below p p1 p3 s.1 in
            inr (record { ab = s.0; bc = third_above _ _ _ _ _ _ (area_from_first p1 p2 p3 p) (lt_sub_pos _ _ c) (le_sub _ _ h.0) (le_sub _ _ b) ca s.0; ca = ca })

    -- ---- the lower half: the edges p2 to p3 and p1 to p3
    in_lower : Lower → Inside p1 p2 p3 p → InRow false p1 p2 p3 p
    in_lower h i = in_row p2 p3 p1 p3 (λ z q. inr (inr q)) (λ z q. inr (inl q)) (spanned p2 p3 p1 p3 p.0 p.1 (run_on p2 p3 p.1 h.0 b) long h.1 tall (sides i))
      where
        sides : Inside p1 p2 p3 p → Opposite p2 p3 p1 p3 p
        sides (inl s) = inl (s.bc, back_below p p3 p1 s.ca)
        sides (inr s) = inr (s.bc, back_above p p3 p1 s.ca)

    out_lower : Lower → InRow false p1 p2 p3 p → Inside p1 p2 p3 p ⊎ EdgePoint false p1 p2 p3 p
    out_lower h w =
        ⊎_elim (λ q. inr (around q)) (λ q. inl (inside (lt_unless (λ k. at_apex (le_antisym k b) q)) q.sides))
        (on_or_parted p2 p3 p1 p3 p.0 p.1 (run_on p2 p3 p.1 h.0 b) long h.1 tall p1 p2 u meets w.first w.last w.from w.to (around w.at_first)
        (around w.at_last))
      where
        around : {P Q R : Type 0} → P ⊎ (Q ⊎ R) → R ⊎ (Q ⊎ P)
        around (inl q) = inr (inr q)
        around (inr (inl q)) = inr (inl q)
        around (inr (inr q)) = inl q

        -- the upper edge is on the row only where that is the row of p2
        meets : (z : ℤ) → HasPoint p1 p2 (z, p.1) → Shared p2 p3 p1 p2 p.1
        meets z q = shared p2 (le_antisym h.0 (edge_rows p1 p2 (z, p.1) u q).1) (has_start p2 p3) (has_end p1 p2)

        -- both edges have p3
        at_apex : p3.1 ≡ p.1 → Parted p2 p3 p1 p3 p.0 p.1 → ⊥
        at_apex e q = q.apart (shared p3 e (has_end p2 p3) (has_end p1 p3))

        inside : p.1 <ℤ p3.1 → Opposite p2 p3 p1 p3 p → Inside p1 p2 p3 p
        inside c (inl s) =
            let ca = back_above p p1 p3 s.1 in
            inl (record { ab = third_below _ _ _ _ _ _ (area_from_last p1 p2 p3 p) (lt_sub_pos _ _ c) (le_sub _ _ a) (le_sub _ _ h.0) s.0 ca; bc = s.0; ca = ca })
        inside c (inr s) =
            let ca = back_below p p1 p3 s.1 in
            inr (record { ab = third_above _ _ _ _ _ _ (area_from_last p1 p2 p3 p) (lt_sub_pos _ _ c) (le_sub _ _ a) (le_sub _ _ h.0) s.0 ca; bc = s.0; ca = ca })

  solid_in : Inside p1 p2 p3 p ⊎ EdgePoint false p1 p2 p3 p → InRow false p1 p2 p3 p
  solid_in (inl i) =
      let r = inside_rows p1 p2 p3 p u l solid i in
      ⊎_elim (λ h. in_upper r.0 r.1 h i) (λ h. in_lower r.0 r.1 h i) (halves r.0 r.1)
  solid_in (inr q) = record { first = p.0; last = p.0; from = ≤ℤ_refl p.0; to = ≤ℤ_refl p.0; at_first = q; at_last = q }

  solid_out : InRow false p1 p2 p3 p → Inside p1 p2 p3 p ⊎ EdgePoint false p1 p2 p3 p
  solid_out w =
      let r = edge_point_rows p1 p2 p3 u l false (w.first, p.1) w.at_first in
      ⊎_elim (λ h. out_upper r.0 r.1 h w) (λ h. out_lower r.0 r.1 h w) (halves r.0 r.1)

-- ---- a triangle of zero area: the points of the line p1 to p3 have no gap on a row
flat_in : (p1 p2 p3 p : Point) → HasPoint p1 p3 p → InRow true p1 p2 p3 p
flat_in p1 p2 p3 p q = record { first = p.0; last = p.0; from = ≤ℤ_refl p.0; to = ≤ℤ_refl p.0; at_first = q; at_last = q }

flat_out : (p1 p2 p3 p : Point) → p1.1 ≤ℤ p3.1 → InRow true p1 p2 p3 p → HasPoint p1 p3 p
flat_out p1 p2 p3 p d w = no_gap p1 p3 p.1 w.first p.0 w.last d w.at_first w.at_last w.from w.to

-- ---- containment by its tests, at sorted vertices
pub edge_decides : (p1 p2 p3 p : Point) → Decides (on_edge p1 p2 p3 p) (EdgePoint false p1 p2 p3 p)
unfolding on_edge
edge_decides p1 p2 p3 p =
    decides_or (has_point p1 p2 p) _ (has_decides p1 p2 p) (decides_or (has_point p1 p3 p) (has_point p2 p3 p) (has_decides p1 p3 p) (has_decides p2 p3 p))

pub row_decides : (p1 p2 p3 p : Point) (flat : Bool) → Decides flat (Flat p1 p2 p3) → p1.1 ≤ℤ p2.1 → p2.1 ≤ℤ p3.1
    → Decides (cond flat (has_point p1 p3 p) (is_inside p1 p2 p3 p || on_edge p1 p2 p3 p)) (InRow flat p1 p2 p3 p)
row_decides p1 p2 p3 p true d u l = decides_map (has_decides p1 p3 p) (flat_in p1 p2 p3 p) (flat_out p1 p2 p3 p (le_trans u l))
row_decides p1 p2 p3 p false d u l =
    decides_map (decides_or (is_inside p1 p2 p3 p) (on_edge p1 p2 p3 p) (inside_decides p1 p2 p3 p) (edge_decides p1 p2 p3 p))
    (solid_in p1 p2 p3 p u l (d.no refl)) (solid_out p1 p2 p3 p u l (d.no refl))
