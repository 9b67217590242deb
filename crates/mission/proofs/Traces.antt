-- A connected line has the points that 02, T-05, asks for, and no others: those of the line, and at every minor step the one of the two pixels beside it that lies on
-- the right. Assumes nothing.
use mathlib.Core.Path.{◌≡◌, refl, sym, ap, subst, ◌∙◌}
use mathlib.Core.Bool.{Bool, true, false, not}
use mathlib.Core.Logic.{◌⊎◌, inl, inr, ⊎_elim}
use Prim.Native.Nat.{ℕ, ◌+◌, ◌≤◌, ◌<◌}
use native.Mathlib.Omega.{arith}
use lib.IntN.{ℤ, pos, nat_abs, ◌-ℤ◌}
use lib.Signed.{◌<ℤ◌}
use Rattle.whole.proofs.Decides.{Decides, decides_map}
use Rattle.whole.proofs.Order.{lt_le, lt_le_lt, lt_apart}
use Rattle.geometry.specs.declared.Point.{Point}
use Rattle.geometry.specs.Place.{area_doubled}
use Rattle.line.specs.Line.{major, point_at}
use Rattle.connected.specs.Connected.{index_of, last_index, beside_both, alike, extra_at, connected_at, HasConnected, has_connected}
use Rattle.connected.proofs.Connected.{line_in, connected_neighbours}
use Rattle.connected.proofs.Indices.{Grows, View, view, normal, extra, normal_at, extra_at_lem, index_is, index_more, index_last, grows_index}
use Rattle.connected.proofs.Members.{connected_decides}
use Rattle.connected.proofs.Right.{extra_right, other_left}
use Rattle.mission.specs.Answers as answers
use Rattle.mission.specs.Figures.{m, area, MinorStep, in_column, in_row, Extra, OnTrace}
use Rattle.mission.proofs.Lines.{larger_is, m_is, point_is, line_has}
use Rattle.mission.proofs.Triangles.{area_is}

module _ (s e : Point) where
  -- ---- the steps at which m grows
  grows_at : {k : ℕ} → MinorStep s e k → (k < major s e) × Grows s e k
  grows_at {k} w = (subst (λ (n : ℕ). k < n) (sym (larger_is s e)) w.before, m_is s e (k + 1) ∙ w.grows ∙ ap (λ (n : ℕ). n + 1) (sym (m_is s e k)))

  at_minor : {k : ℕ} → k < major s e → Grows s e k → MinorStep s e k
  at_minor {k} l g = record { before = subst (λ (n : ℕ). k < n) (larger_is s e) l; grows = sym (m_is s e (k + 1)) ∙ g ∙ ap (λ (n : ℕ). n + 1) (m_is s e k) }

  -- the two pixels beside both points
  abbrev beside : Bool → ℕ → Point
  beside t k = beside_both t (point_at s e k) (point_at s e (k + 1))

  column_is : (k : ℕ) → in_column s e k ≡ beside true k
  column_is k i = ((sym (point_is s e k) i).0, (sym (point_is s e (k + 1)) i).1)

  row_is : (k : ℕ) → in_row s e k ≡ beside false k
  row_is k i = ((sym (point_is s e (k + 1)) i).0, (sym (point_is s e k) i).1)

  -- ---- ONE OF THE TWO LIES STRICTLY ON THE RIGHT, the other strictly on the left
  pub one_on_each_side : {k : ℕ} → MinorStep s e k
      → ((pos 0 <ℤ area s e (in_column s e k)) × (area s e (in_row s e k) <ℤ pos 0)) ⊎ ((pos 0 <ℤ area s e (in_row s e k)) × (area s e (in_column s e k) <ℤ pos 0))
  unfolding extra_at
  one_on_each_side {k} w = by (alike s e) (extra_right s e k (grows_at w).0 (grows_at w).1) (other_left s e k (grows_at w).0 (grows_at w).1)
    where
      to : {p q : Point} → q ≡ p → area_doubled s e p ≡ area s e q
      to {p} e' = area_is s e p ∙ ap (area s e) (sym e')

      by : (t : Bool) → pos 0 <ℤ area_doubled s e (beside t k) → area_doubled s e (beside (not t) k) <ℤ pos 0
          → ((pos 0 <ℤ area s e (in_column s e k)) × (area s e (in_row s e k) <ℤ pos 0)) ⊎ ((pos 0 <ℤ area s e (in_row s e k)) × (area s e (in_column s e k) <ℤ pos 0))
      by true r l = inl (subst (λ (z : ℤ). pos 0 <ℤ z) (to (column_is k)) r, subst (λ (z : ℤ). z <ℤ pos 0) (to (row_is k)) l)
      by false r l = inr (subst (λ (z : ℤ). pos 0 <ℤ z) (to (row_is k)) r, subst (λ (z : ℤ). z <ℤ pos 0) (to (column_is k)) l)

  -- the extra point is the one on the right
  extra_here : {k : ℕ} → MinorStep s e k → ((extra_at s e k ≡ in_column s e k) ⊎ (extra_at s e k ≡ in_row s e k)) × (pos 0 <ℤ area s e (extra_at s e k))
  unfolding extra_at
  extra_here {k} w = (by (alike s e), subst (λ (z : ℤ). pos 0 <ℤ z) (area_is s e (extra_at s e k)) (extra_right s e k (grows_at w).0 (grows_at w).1))
    where
      by : (t : Bool) → (beside t k ≡ in_column s e k) ⊎ (beside t k ≡ in_row s e k)
      by true = inl (sym (column_is k))
      by false = inr (sym (row_is k))

  apart : {p q : Point} → pos 0 <ℤ area s e p → area s e q <ℤ pos 0 → p ≡ q → ⊥
  apart r l e' = lt_apart (lt_le_lt r (lt_le (subst (λ (p : Point). area s e p <ℤ pos 0) (sym e') l))) refl

  only_extra : {k : ℕ} {p : Point} → MinorStep s e k → (p ≡ in_column s e k) ⊎ (p ≡ in_row s e k) → pos 0 <ℤ area s e p → p ≡ extra_at s e k
  only_extra {k} {p} w b r = by b (extra_here w).0 (one_on_each_side w)
    where
      by : (p ≡ in_column s e k) ⊎ (p ≡ in_row s e k) → (extra_at s e k ≡ in_column s e k) ⊎ (extra_at s e k ≡ in_row s e k)
          → ((pos 0 <ℤ area s e (in_column s e k)) × (area s e (in_row s e k) <ℤ pos 0)) ⊎ ((pos 0 <ℤ area s e (in_row s e k)) × (area s e (in_column s e k) <ℤ pos 0))
          → p ≡ extra_at s e k
      by (inl x) (inl y) h = x ∙ sym y
      by (inr x) (inr y) h = x ∙ sym y
      by (inl x) (inr y) (inl h) = absurd (apart (extra_here w).1 h.1 y)
      by (inl x) (inr y) (inr h) = absurd (apart r h.1 x)
      by (inr x) (inl y) (inl h) = absurd (apart r h.1 x)
      by (inr x) (inl y) (inr h) = absurd (apart (extra_here w).1 h.1 y)

  -- ---- A POINT BY ITS INDEX
  index_moves : (k : ℕ) → index_of s e k ≡ k + m s e k
  index_moves k = index_is s e k ∙ ap (λ (n : ℕ). k + n) (m_is s e k)

  pub at_index : (i : ℕ) → i ≤ last_index s e → answers.AtIndex s e i (connected_at s e i)
  at_index i l = by (view s e i l)
    where
      at : {i j : ℕ} {p q : Point} → i ≡ j → p ≡ q → answers.AtIndex s e j q → answers.AtIndex s e i p
      at a b h = subst (λ (x : ℕ × Point). answers.AtIndex s e x.0 x.1) (λ t. (sym a t, sym b t)) h

      by : View s e i → answers.AtIndex s e i (connected_at s e i)
      by (normal k w q) =
          at (q ∙ index_moves k) (ap (connected_at s e) q ∙ normal_at s e k w ∙ point_is s e k) (answers.normal k (subst (λ (n : ℕ). k ≤ n) (larger_is s e) w))
      by (extra k w g q) =
          let x = extra_here (at_minor w g) in
          at (q ∙ ap (λ (n : ℕ). n + 1) (index_moves k)) (ap (connected_at s e) q ∙ extra_at_lem s e k w g) (answers.extra k (at_minor w g) x.0 x.1)

  -- there is one such point, and its index is one of the line's
  after_extra : {k : ℕ} → MinorStep s e k → index_of s e k + 1 ≤ last_index s e
  after_extra {k} w = let g = grows_at w in omega (arith, grows_index s e k g.1, index_more s e (k + 1) (major s e) (omega (arith, g.0)), index_last s e)

  pub one_at_index : {i : ℕ} {p : Point} → answers.AtIndex s e i p → (p ≡ connected_at s e i) × (i ≤ last_index s e)
  one_at_index (answers.normal k l) =
      let w : k ≤ major s e = subst (λ (n : ℕ). k ≤ n) (sym (larger_is s e)) l in (
        sym (ap (connected_at s e) (sym (index_moves k)) ∙ normal_at s e k w ∙ point_is s e k),
        omega (arith, index_moves k, index_more s e k (major s e) w, index_last s e),
      )
  one_at_index (answers.extra k w b r) = (
    only_extra w b r ∙ sym (ap (λ (n : ℕ). connected_at s e (n + 1)) (sym (index_moves k)) ∙ extra_at_lem s e k (grows_at w).0 (grows_at w).1),
    omega (arith, index_moves k, after_extra w),
  )

  -- "neighbours differ by one on exactly one axis"
  pub neighbours : {i : ℕ} {p q : Point} → answers.AtIndex s e i p → answers.AtIndex s e (i + 1) q → nat_abs (q.0 -ℤ p.0) + nat_abs (q.1 -ℤ p.1) ≡ 1
  neighbours {i} a b =
      let here = one_at_index a in
      let next = one_at_index b in
      (λ t. nat_abs ((next.0 t).0 -ℤ (here.0 t).0) + nat_abs ((next.0 t).1 -ℤ (here.0 t).1)) ∙ connected_neighbours s e i (omega (arith, next.1))

  -- ---- A CONNECTED LINE has what T-05 says
  pub trace_decides : (p : Point) → Decides (has_connected s e p) (OnTrace s e p)
  trace_decides p = decides_map (connected_decides s e p) (λ h. by h (view s e h.index h.walked)) (⊎_elim (λ h. line_in s e p (line_has h)) in_extra)
    where
      by : (h : HasConnected s e p) → View s e h.index → OnTrace s e p
      by h (normal k w q) =
          inl (record { step = k; walked = subst (λ (n : ℕ). k ≤ n) (larger_is s e) w; here = h.here ∙ ap (connected_at s e) q ∙ normal_at s e k w ∙ point_is s e k })
      by h (extra k w g q) =
          let here = h.here ∙ ap (connected_at s e) q ∙ extra_at_lem s e k w g in
          let x = extra_here (at_minor w g) in
          inr (record {
            step = k;
            minor = at_minor w g;
            beside = ⊎_elim (λ u. inl (here ∙ u)) (λ u. inr (here ∙ u)) x.0;
            right = subst (λ (p : Point). pos 0 <ℤ area s e p) (sym here) x.1;
          })

      in_extra : Extra s e p → HasConnected s e p
      in_extra x =
          let k = x.step in
          let g = grows_at x.minor in
          record { index = index_of s e k + 1; walked = after_extra x.minor; here = only_extra x.minor x.beside x.right ∙ sym (extra_at_lem s e k g.0 g.1) }
