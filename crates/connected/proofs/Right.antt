-- Every extra point lies strictly on the right of the line from s to e: the doubled area of s, e and the point, 01's for triangles, is above 0. The other pixel beside both neighbours
-- lies strictly on the left. Assumes nothing.
use mathlib.Core.Path.{◌≡◌, refl, sym, ap, ap₂, subst, ◌∙◌}
use mathlib.Core.Bool.{Bool, true, false, cond, not, true≢false}
use mathlib.Core.List.{[], ◌∷◌}
use Prim.Native.Nat.{ℕ, ◌+◌, ◌*◌, ◌-◌, ◌≤◌, ◌<◌}
use native.Mathlib.Omega.{arith}
use lib.IntN.{ℤ, pos, negsuc, ◌+ℤ◌, ◌-ℤ◌, ◌*ℤ◌}
use lib.Signed.{le_z, ◌<ℤ◌}
use Rattle.whole.specs.Equal.{eq_z}
use Rattle.whole.proofs.Difference.{as_mk, mks, mk_lt, lt_nat, nat_lt}
use Rattle.whole.proofs.Order.{lt_sub}
use Rattle.whole.proofs.Ring.{v, k, ◌⊞◌, ◌⊟◌, ◌⊠◌, ring}
use Rattle.geometry.specs.declared.Point.{Point}
use Rattle.geometry.specs.Place.{area_doubled}
use Rattle.line.specs.Line.{toward, wide, high, steep, major, minor, moves, x_moves, y_moves, point_at}
use Rattle.line.specs.Walk.{place_at}
use Rattle.line.proofs.Moves.{moves_band}
use Rattle.line.proofs.Lengths.{narrow, major_by, minor_by}
use Rattle.line.proofs.Points.{reach}
use Rattle.connected.specs.Connected.{last_index, is_extra, beside_both, alike, extra_at, connected_at}
use Rattle.connected.proofs.Indices.{Grows, View, view, normal, extra, normal_is, extra_at_lem}
use Rattle.connected.proofs.Points.{x_extra, y_extra, extra_place}

-- ---- by moves: the end lies w and h moves off, p lies x and y moves off, in the directions c and d
by_moves : (a b c d w h x y : ℤ)
    → (((a +ℤ c *ℤ w) -ℤ a) *ℤ ((b +ℤ d *ℤ y) -ℤ b)) -ℤ (((a +ℤ c *ℤ x) -ℤ a) *ℤ ((b +ℤ d *ℤ h) -ℤ b)) ≡ (c *ℤ d) *ℤ ((w *ℤ y) -ℤ (x *ℤ h))
by_moves a b c d w h x y =
    ring (((v 0 ⊞ v 2 ⊠ v 4 ⊟ v 0) ⊠ (v 1 ⊞ v 3 ⊠ v 7 ⊟ v 1)) ⊟ ((v 0 ⊞ v 2 ⊠ v 6 ⊟ v 0) ⊠ (v 1 ⊞ v 3 ⊠ v 5 ⊟ v 1))) ((v 2 ⊠ v 3) ⊠ ((v 4 ⊠ v 7) ⊟ (v 6 ⊠ v 5)))
    (a ∷ b ∷ c ∷ d ∷ w ∷ h ∷ x ∷ y ∷ []) refl

-- the sign by the directions: the same, or different
abbrev directed : Bool → Bool → ℕ → ℕ → ℤ
directed t u p q = (cond t (pos 1) (negsuc 0) *ℤ cond u (pos 1) (negsuc 0)) *ℤ (pos p -ℤ pos q)

abbrev same : Bool → Bool → Bool
same t u = eq_z (cond t (pos 1) (negsuc 0)) (cond u (pos 1) (negsuc 0))

above : (p q : ℤ) → q <ℤ p → pos 0 <ℤ (pos 1 *ℤ (p -ℤ q))
above p q l = let g = lt_nat l in rw (as_mk p, as_mk q) (simp mks (mk_lt _ _ _ _ (omega arith)))

below : (p q : ℤ) → p <ℤ q → pos 0 <ℤ (negsuc 0 *ℤ (p -ℤ q))
below p q l = let g = lt_nat l in rw (as_mk p, as_mk q) (simp mks (mk_lt _ _ _ _ (omega arith)))

signed : (t u : Bool) (p q : ℕ) → (same t u ≡ true → q < p) → (same t u ≡ false → p < q) → pos 0 <ℤ directed t u p q
signed true true p q f g = above (pos p) (pos q) (nat_lt (omega (arith, f refl)))
signed true false p q f g = below (pos p) (pos q) (nat_lt (omega (arith, g refl)))
signed false true p q f g = below (pos p) (pos q) (nat_lt (omega (arith, g refl)))
signed false false p q f g = above (pos p) (pos q) (nat_lt (omega (arith, f refl)))

-- with the two numbers changed over it is the opposite
turned : (c p q : ℤ) → pos 0 <ℤ (c *ℤ (q -ℤ p)) → (c *ℤ (p -ℤ q)) <ℤ pos 0
turned c p q h =
    subst (λ (z : ℤ). z <ℤ pos 0) (ring (k (pos 0) ⊟ (v 0 ⊠ (v 2 ⊟ v 1))) (v 0 ⊠ (v 1 ⊟ v 2)) (c ∷ p ∷ q ∷ []) refl) (lt_sub (pos 0) (c *ℤ (q -ℤ p)) h)

module _ (s e : Point) where
  area_moves : (x y : ℕ) → area_doubled s e (place_at s e x y) ≡ (toward s.0 e.0 *ℤ toward s.1 e.1) *ℤ (pos (wide s e * y) -ℤ pos (x * high s e))
  unfolding area_doubled wide high
  area_moves x y =
      let a = s.0 +ℤ toward s.0 e.0 *ℤ pos x in
      let b = s.1 +ℤ toward s.1 e.1 *ℤ pos y in
      ap₂ (λ (p q : ℤ). ((p -ℤ s.0) *ℤ (b -ℤ s.1)) -ℤ ((a -ℤ s.0) *ℤ (q -ℤ s.1))) (sym (reach s.0 e.0)) (sym (reach s.1 e.1))
      ∙ by_moves s.0 s.1 (toward s.0 e.0) (toward s.1 e.1) (pos (wide s e)) (pos (high s e)) (pos x) (pos y)

  module _ (k : ℕ) (l : k < major s e) (g : Grows s e k) where
    abbrev m : ℕ
    m = moves (major s e) (minor s e) k

    -- of the two pixels beside the line one is ahead of it and one behind
    ahead : major s e * m < minor s e * (k + 1)
    ahead =
        let b = moves_band (major s e) (minor s e) (k + 1) (narrow s e) (omega arith) in
        let low : 2 * major s e * (m + 1) ≤ 2 * minor s e * (k + 1) + (major s e - 1) =
        subst (λ (x : ℕ). 2 * major s e * x ≤ 2 * minor s e * (k + 1) + (major s e - 1)) g b.low in
        omega arith

    behind : minor s e * k < major s e * (m + 1)
    behind = let b = moves_band (major s e) (minor s e) k (narrow s e) (omega arith) in omega (arith, b.high)

    -- by the major axis: the one in the column of step k, and the one in its row
    own_column : x_moves s e k * high s e < wide s e * y_moves s e (k + 1)
    unfolding x_moves y_moves
    own_column = by (steep s e) refl
      where
        by : (t : Bool) → steep s e ≡ t → cond t m k * high s e < wide s e * cond t (k + 1) (moves (major s e) (minor s e) (k + 1))
        by true h = omega (arith, ahead, ap (λ (x : ℕ). m * x) (major_by s e true h), ap (λ (x : ℕ). x * (k + 1)) (minor_by s e true h))
        by false h = omega (arith, behind, ap (λ (x : ℕ). k * x) (minor_by s e false h), ap₂ ◌*◌ (major_by s e false h) (sym g))

    own_row : wide s e * y_moves s e k < x_moves s e (k + 1) * high s e
    unfolding x_moves y_moves
    own_row = by (steep s e) refl
      where
        by : (t : Bool) → steep s e ≡ t → wide s e * cond t k m < cond t (moves (major s e) (minor s e) (k + 1)) (k + 1) * high s e
        by true h = omega (arith, behind, ap (λ (x : ℕ). x * k) (minor_by s e true h), ap₂ ◌*◌ (major_by s e true h) (sym g))
        by false h = omega (arith, ahead, ap (λ (x : ℕ). x * m) (major_by s e false h), ap (λ (x : ℕ). (k + 1) * x) (minor_by s e false h))

    -- the extra point is the one on the right
    pub extra_right : pos 0 <ℤ area_doubled s e (extra_at s e k)
    extra_right =
        subst (λ (p : Point). pos 0 <ℤ area_doubled s e p) (sym (extra_place s e k))
        (subst (λ (z : ℤ). pos 0 <ℤ z) (sym (area_moves (x_extra s e k) (y_extra s e k)))
        (signed (le_z s.0 e.0) (le_z s.1 e.1) (wide s e * y_extra s e k) (x_extra s e k * high s e) same other))
      where
        same : alike s e ≡ true → x_extra s e k * high s e < wide s e * y_extra s e k
        same h = subst (λ (t : Bool). cond t (x_moves s e k) (x_moves s e (k + 1)) * high s e < wide s e * cond t (y_moves s e (k + 1)) (y_moves s e k)) (sym h) own_column

        other : alike s e ≡ false → wide s e * y_extra s e k < x_extra s e k * high s e
        other h = subst (λ (t : Bool). wide s e * cond t (y_moves s e (k + 1)) (y_moves s e k) < cond t (x_moves s e k) (x_moves s e (k + 1)) * high s e) (sym h) own_row

    -- and the other is on the left
    pub other_left : area_doubled s e (beside_both (not (alike s e)) (point_at s e k) (point_at s e (k + 1))) <ℤ pos 0
    unfolding point_at
    other_left = by (alike s e) refl
      where
        left : (x y : ℕ) → (alike s e ≡ true → wide s e * y < x * high s e) → (alike s e ≡ false → x * high s e < wide s e * y) → area_doubled s e (place_at s e x y) <ℤ pos 0
        left x y f g =
            subst (λ (z : ℤ). z <ℤ pos 0) (sym (area_moves x y))
            (turned (toward s.0 e.0 *ℤ toward s.1 e.1) (pos (wide s e * y)) (pos (x * high s e)) (signed (le_z s.0 e.0) (le_z s.1 e.1) (x * high s e) (wide s e * y) f g))

        by : (t : Bool) → alike s e ≡ t → area_doubled s e (beside_both (not t) (point_at s e k) (point_at s e (k + 1))) <ℤ pos 0
        by true h = left (x_moves s e (k + 1)) (y_moves s e k) (λ q. own_row) (λ q. absurd (true≢false (sym h ∙ q)))
        by false h = left (x_moves s e k) (y_moves s e (k + 1)) (λ q. absurd (true≢false (sym q ∙ h))) (λ q. own_column)

  -- EVERY EXTRA POINT LIES STRICTLY ON THE RIGHT
  pub extras_right : (i : ℕ) → i ≤ last_index s e → is_extra s e i ≡ true → pos 0 <ℤ area_doubled s e (connected_at s e i)
  extras_right i l h = by (view s e i l)
    where
      by : View s e i → pos 0 <ℤ area_doubled s e (connected_at s e i)
      by (normal j w q) = absurd (true≢false (sym h ∙ ap (is_extra s e) q ∙ normal_is s e j w))
      by (extra j w g q) = subst (λ (p : Point). pos 0 <ℤ area_doubled s e p) (sym (ap (connected_at s e) q ∙ extra_at_lem s e j w g)) (extra_right j w g)
