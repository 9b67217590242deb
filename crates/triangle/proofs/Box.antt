-- Laws of the bounding box: what is contained lies in it, so what lies beyond all three vertices is not contained; the test by the side of the first
-- vertex; and a pixel that is not outside is in bounds, so that its areas are small. Assumes nothing.
use mathlib.Core.Path.{◌≡◌, refl}
use mathlib.Core.Bool.{Bool, true, false, ◌&&◌, or_comm}
use mathlib.Core.Logic.{◌⊎◌, inl, inr, ⊎_elim}
use Prim.Native.Nat.{◌≤◌}
use native.Mathlib.Omega.{arith}
use lib.IntN.{ℤ, pos, nat_abs, ◌+ℤ◌, ◌-ℤ◌, ◌*ℤ◌}
use lib.Signed.{◌≤ℤ◌, ◌<ℤ◌, lt_z}
use Rattle.whole.proofs.Decides.{Decides, decides_and, decides_or, decides_lt, decides_no}
use Rattle.whole.proofs.Difference.{as_mk, mks, mk_eq, le_mk, le_nat, lt_nat, nat_le, sum_nat}
use Rattle.whole.proofs.Machine.{lt_yes}
use Rattle.whole.proofs.Order.{le_trans, le_unless, lt_le_lt, le_lt_lt, lt_more_le}
use Rattle.whole.proofs.Sizes.{Sz, sizes}
use Rattle.whole.proofs.Tests.{fails, or_false}
use Rattle.geometry.specs.declared.Point.{Point}
use Rattle.geometry.specs.Place.{area_doubled}
use Rattle.geometry.specs.Bound.{Coord, Bounded}
use Rattle.geometry.proofs.Bound.{sz_coord}
use Rattle.line.specs.Line.{HasPoint}
use Rattle.triangle.specs.declared.Sorted.{Sorted}
use Rattle.triangle.specs.Order.{sorted}
use Rattle.triangle.specs.Triangle.{is_flat, contained}
use Rattle.triangle.specs.EdgePoint.{EdgePoint}
use Rattle.triangle.specs.Box.{is_beyond, outside_box}
use Rattle.triangle.proofs.Enclosed.{InRow}
use Rattle.triangle.proofs.Edge.{edge_left, edge_right, edge_top, edge_bottom}
use Rattle.triangle.proofs.Order.{All, sorted_all}
use Rattle.triangle.proofs.Triangle.{contained_decides}

-- ---- WHAT IS CONTAINED LIES IN THE BOX: in every box that holds the vertices
-- an edge point is one of an edge whose ends are vertices
record Ended (P : Point → Type 0) (p : Point) : Type 0 where
  s : Point
  e : Point
  start : P s
  end : P e
  has : HasPoint s e p

ended : (P : Point → Type 0) (t : Sorted) → All P t → (b : Bool) (p : Point) → EdgePoint b t.p1 t.p2 t.p3 p → Ended P p
ended P t all true p q = record { s = t.p1; e = t.p3; start = all.first; end = all.third; has = q }
ended P t all false p (inl q) = record { s = t.p1; e = t.p2; start = all.first; end = all.second; has = q }
ended P t all false p (inr (inl q)) = record { s = t.p1; e = t.p3; start = all.first; end = all.third; has = q }
ended P t all false p (inr (inr q)) = record { s = t.p2; e = t.p3; start = all.second; end = all.third; has = q }

module _ (v1 v2 v3 p : Point) (c : contained v1 v2 v3 p ≡ true) (z : ℤ) where
  abbrev t : Sorted
  t = sorted v1 v2 v3

  in_row : InRow (is_flat v1 v2 v3) t.p1 t.p2 t.p3 p
  in_row = (contained_decides v1 v2 v3 p).yes c

  -- the row's first and last edge point
  first : (P : Point → Type 0) → P v1 → P v2 → P v3 → Ended P (in_row.first, p.1)
  first P h1 h2 h3 = ended P t (sorted_all P v1 v2 v3 h1 h2 h3) (is_flat v1 v2 v3) (in_row.first, p.1) in_row.at_first

  last : (P : Point → Type 0) → P v1 → P v2 → P v3 → Ended P (in_row.last, p.1)
  last P h1 h2 h3 = ended P t (sorted_all P v1 v2 v3 h1 h2 h3) (is_flat v1 v2 v3) (in_row.last, p.1) in_row.at_last

  pub box_left : z ≤ℤ v1.0 → z ≤ℤ v2.0 → z ≤ℤ v3.0 → z ≤ℤ p.0
  box_left h1 h2 h3 =
      let q = first (λ v. z ≤ℤ v.0) h1 h2 h3 in
      le_trans (edge_left q.s q.e (in_row.first, p.1) q.has z q.start q.end) in_row.from

  pub box_right : v1.0 ≤ℤ z → v2.0 ≤ℤ z → v3.0 ≤ℤ z → p.0 ≤ℤ z
  box_right h1 h2 h3 =
      let q = last (λ v. v.0 ≤ℤ z) h1 h2 h3 in
      le_trans in_row.to (edge_right q.s q.e (in_row.last, p.1) q.has z q.start q.end)

  pub box_top : z ≤ℤ v1.1 → z ≤ℤ v2.1 → z ≤ℤ v3.1 → z ≤ℤ p.1
  box_top h1 h2 h3 = let q = first (λ v. z ≤ℤ v.1) h1 h2 h3 in edge_top q.s q.e (in_row.first, p.1) q.has z q.start q.end

  pub box_bottom : v1.1 ≤ℤ z → v2.1 ≤ℤ z → v3.1 ≤ℤ z → p.1 ≤ℤ z
  box_bottom h1 h2 h3 = let q = first (λ v. v.1 ≤ℤ z) h1 h2 h3 in edge_bottom q.s q.e (in_row.first, p.1) q.has z q.start q.end

-- ---- the test, by the side of the first
not_both : (x a : ℤ) → lt_z x a ≡ true → lt_z a x ≡ false
not_both x a h = let k : x <ℤ a = lt_yes h in decides_no (decides_lt a x) (λ l. omega (arith, lt_nat l, lt_nat k))

module _ (x a b c : ℤ) where
  pub beyond_before : lt_z x a ≡ true → is_beyond x a b c ≡ (lt_z x b && lt_z x c)
  unfolding is_beyond
  beyond_before h = rw (h, not_both x a h) (or_comm (lt_z x b && lt_z x c) false)

  pub beyond_after : lt_z a x ≡ true → is_beyond x a b c ≡ (lt_z b x && lt_z c x)
  unfolding is_beyond
  beyond_after h = rw (h, not_both a x h)

  pub beyond_at : lt_z x a ≡ false → lt_z a x ≡ false → is_beyond x a b c ≡ false
  unfolding is_beyond
  beyond_at h k = rw (h, k)

  -- ---- the statement
  beyond_decides : Decides (is_beyond x a b c) (((x <ℤ a) × ((x <ℤ b) × (x <ℤ c))) ⊎ ((a <ℤ x) × ((b <ℤ x) × (c <ℤ x))))
  unfolding is_beyond
  beyond_decides =
      decides_or (lt_z x a && (lt_z x b && lt_z x c)) (lt_z a x && (lt_z b x && lt_z c x))
      (decides_and (lt_z x a) _ (decides_lt x a) (decides_and (lt_z x b) (lt_z x c) (decides_lt x b) (decides_lt x c)))
      (decides_and (lt_z a x) _ (decides_lt a x) (decides_and (lt_z b x) (lt_z c x) (decides_lt b x) (decides_lt c x)))

-- ---- what lies outside is not contained
le_last : {x y : ℤ} → y <ℤ x → y ≤ℤ (x -ℤ pos 1)
le_last {x} {y} h = nat_le (omega (arith, lt_nat h, sum_nat x (x -ℤ pos 1) 1 (back x)))
  where
    back : (x : ℤ) → x ≡ (x -ℤ pos 1) +ℤ pos 1
    back x = rw (as_mk x) (simp mks (mk_eq _ _ _ _ (omega arith)))

pub outside_not : (v1 v2 v3 p : Point) → outside_box v1 v2 v3 p ≡ true → contained v1 v2 v3 p ≡ false
outside_not v1 v2 v3 p h =
    fails (contained v1 v2 v3 p)
    (λ c.
    ⊎_elim
    (⊎_elim (λ q. not_after p.0 (box_left v1 v2 v3 p c (p.0 +ℤ pos 1) (lt_more_le q.0) (lt_more_le q.1.0) (lt_more_le q.1.1)))
    (λ q. not_before p.0 (box_right v1 v2 v3 p c (p.0 -ℤ pos 1) (le_last q.0) (le_last q.1.0) (le_last q.1.1))))
    (⊎_elim (λ q. not_after p.1 (box_top v1 v2 v3 p c (p.1 +ℤ pos 1) (lt_more_le q.0) (lt_more_le q.1.0) (lt_more_le q.1.1)))
    (λ q. not_before p.1 (box_bottom v1 v2 v3 p c (p.1 -ℤ pos 1) (le_last q.0) (le_last q.1.0) (le_last q.1.1))))
    ((decides_or _ _ (beyond_decides p.0 v1.0 v2.0 v3.0) (beyond_decides p.1 v1.1 v2.1 v3.1)).yes h))
  where
    not_after : (x : ℤ) → (x +ℤ pos 1) ≤ℤ x → ⊥
    not_after x k = omega (arith, le_nat k, sum_nat (x +ℤ pos 1) x 1 refl)

    not_before : (x : ℤ) → x ≤ℤ (x -ℤ pos 1) → ⊥
    not_before x k = let g = le_mk _ _ _ _ (simp mks at (rw (as_mk x) at k)) in omega arith

-- ---- what is not outside the box of accepted vertices is in bounds too
not_beyond : (x a b c : ℤ) → is_beyond x a b c ≡ false → Coord a → Coord b → Coord c → Coord x
not_beyond x a b c h ha hb hc =
    let n = (beyond_decides x a b c).no h in
    record {
      low = le_unless (λ k. n (inl (lt_le_lt k ha.low, (lt_le_lt k hb.low, lt_le_lt k hc.low))));
      high = le_unless (λ k. n (inr (le_lt_lt ha.high k, (le_lt_lt hb.high k, le_lt_lt hc.high k))));
    }

pub not_outside : (v1 v2 v3 p : Point) → outside_box v1 v2 v3 p ≡ false → Bounded v1 → Bounded v2 → Bounded v3 → Bounded p
not_outside v1 v2 v3 p h h1 h2 h3 =
    let n = or_false (is_beyond p.0 v1.0 v2.0 v3.0) (is_beyond p.1 v1.1 v2.1 v3.1) h in
    record { x = not_beyond p.0 v1.0 v2.0 v3.0 n.0 h1.x h2.x h3.x; y = not_beyond p.1 v1.1 v2.1 v3.1 n.1 h1.y h2.y h3.y }

-- so its areas are small
pub area_size : (p a b : Point) → Bounded p → Bounded a → Bounded b → nat_abs (area_doubled p a b) ≤ 549755813888
unfolding area_doubled
area_size p a b hp ha hb =
    let s : Sz 39 (((a.0 -ℤ p.0) *ℤ (b.1 -ℤ p.1)) -ℤ ((b.0 -ℤ p.0) *ℤ (a.1 -ℤ p.1))) = search (sizes, sz_coord) depth 20 in
    s.sz
