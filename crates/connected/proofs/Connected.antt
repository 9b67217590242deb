-- What T-05 asks of a connected line's points: both ends are points, neighbours differ by one on exactly one axis, the normal points are the line's in its order, and
-- nothing leaks, diagonal neighbours having a third point beside both. Assumes nothing.
use mathlib.Core.Path.{◌≡◌, sym, ap, ap₂, subst, ◌∙◌}
use mathlib.Core.Bool.{true, true≢false}
use mathlib.Core.Logic.{◌⊎◌, inl, inr}
use Prim.Native.Nat.{ℕ, ◌+◌, ◌-◌, ◌≤◌, ◌<◌}
use native.Mathlib.Decide.{dec_lt}
use native.Mathlib.Omega.{arith}
use lib.IntN.{ℤ, pos, neg_ℤ, nat_abs, ◌+ℤ◌, ◌-ℤ◌, ◌*ℤ◌}
use Rattle.whole.proofs.Difference.{as_mk, mks, mk_eq}
use Rattle.whole.proofs.Machine.{neg_size}
use Rattle.geometry.specs.declared.Point.{Point}
use Rattle.line.specs.Line.{toward, major, HasPoint}
use Rattle.line.specs.Walk.{place_at}
use Rattle.line.proofs.Points.{starts, ends, gap}
use Rattle.connected.specs.Connected.{index_of, last_index, is_extra, connected_at, HasConnected}
use Rattle.connected.proofs.Indices.{index_first, index_last, index_more, normal_is, normal_at}
use Rattle.connected.proofs.Points.{x_at, y_at, at_place, at_sum, Move, move, sideways, upright}
use Rattle.connected.proofs.Members.{distinct}

-- ---- along one axis: how far two places are apart that lie m and n moves from a towards b
module _ (a b : ℤ) where
  abbrev place : ℕ → ℤ
  place k = a +ℤ toward a b *ℤ pos k

  turned : (y z : ℤ) → nat_abs (y -ℤ z) ≡ nat_abs (z -ℤ y)
  turned y z = ap nat_abs (back y z) ∙ neg_size (z -ℤ y)
    where
      back : (y z : ℤ) → y -ℤ z ≡ neg_ℤ (z -ℤ y)
      back y z = rw (as_mk y, as_mk z) (simp mks (mk_eq _ _ _ _ (omega arith)))

  moves_apart : (m n : ℕ) → nat_abs ((a +ℤ toward a b *ℤ pos m) -ℤ (a +ℤ toward a b *ℤ pos n)) ≡ (m - n) + (n - m)
  moves_apart m n = by (dec_lt m n)
    where
      by : Dec (m < n) → nat_abs (place m -ℤ place n) ≡ (m - n) + (n - m)
      by (yes h) =
          let q : n ≡ m + (n - m) = omega arith in
          turned (place m) (place n) ∙ subst (λ (k : ℕ). nat_abs (place k -ℤ place m) ≡ n - m) (sym q) (gap a b m (n - m)) ∙ omega arith
      by (no h) =
          let q : m ≡ n + (m - n) = omega arith in
          subst (λ (k : ℕ). nat_abs (place k -ℤ place n) ≡ m - n) (sym q) (gap a b n (m - n)) ∙ omega arith

module _ (s e : Point) where
  -- ---- both ends are points, the first and the last
  pub connected_starts : connected_at s e 0 ≡ s
  connected_starts = ap (connected_at s e) (sym (index_first s e)) ∙ normal_at s e 0 (omega arith) ∙ starts s e

  pub connected_ends : connected_at s e (last_index s e) ≡ e
  connected_ends = ap (connected_at s e) (sym (index_last s e)) ∙ normal_at s e (major s e) (omega arith) ∙ ends s e

  -- ---- neighbours differ by one on exactly one axis
  pub connected_neighbours : (i : ℕ) → i < last_index s e
      → nat_abs ((connected_at s e (i + 1)).0 -ℤ (connected_at s e i).0) + nat_abs ((connected_at s e (i + 1)).1 -ℤ (connected_at s e i).1) ≡ 1
  connected_neighbours i l =
      (λ t. nat_abs ((at_place s e (i + 1) t).0 -ℤ (at_place s e i t).0) + nat_abs ((at_place s e (i + 1) t).1 -ℤ (at_place s e i t).1))
      ∙ ap₂ ◌+◌ (moves_apart s.0 e.0 (x_at s e (i + 1)) (x_at s e i)) (moves_apart s.1 e.1 (y_at s e (i + 1)) (y_at s e i)) ∙ by (move s e i l)
    where
      by : Move s e i → ((x_at s e (i + 1) - x_at s e i) + (x_at s e i - x_at s e (i + 1))) + ((y_at s e (i + 1) - y_at s e i) + (y_at s e i - y_at s e (i + 1))) ≡ 1
      by (sideways x y) = omega arith
      by (upright x y) = omega arith

  -- ---- the normal points are the line's: step k's has index k + m (`normal-at`, `normal-is`), and a later step's a larger one
  pub normal_in_order : (j k : ℕ) → j < k → index_of s e j < index_of s e k
  normal_in_order j k h = omega (arith, index_more s e j k (omega arith))

  index_within : (k : ℕ) → k ≤ major s e → index_of s e k ≤ last_index s e
  index_within k l = omega (arith, index_more s e k (major s e) l, index_last s e)

  -- every point of the line is one
  pub line_in : (p : Point) → HasPoint s e p → HasConnected s e p
  line_in p h = record { index = index_of s e h.step; walked = index_within h.step h.walked; here = h.here ∙ sym (normal_at s e h.step h.walked) }

  -- and no extra point is a point of the line
  pub extra_off : (i : ℕ) → i ≤ last_index s e → is_extra s e i ≡ true → HasPoint s e (connected_at s e i) → ⊥
  extra_off i l t h =
      let n = distinct s e i (index_of s e h.step) l (index_within h.step h.walked) (h.here ∙ sym (normal_at s e h.step h.walked)) in
      true≢false (sym t ∙ ap (is_extra s e) n ∙ normal_is s e h.step h.walked)

  -- ---- nothing leaks
  -- two points that are one move apart along both axes, the second further on: the point between them is one of the two beside both
  third : (i j : ℕ) → i ≤ last_index s e → j ≤ last_index s e → x_at s e j ≡ x_at s e i + 1 → y_at s e j ≡ y_at s e i + 1
      → HasConnected s e (place_at s e (x_at s e i) (y_at s e j)) ⊎ HasConnected s e (place_at s e (x_at s e j) (y_at s e i))
  third i j li lj x y = by (move s e i (omega (arith, two)))
    where
      two : j ≡ i + 2
      two = omega (arith, at_sum s e i li, at_sum s e j lj)

      by : Move s e i → HasConnected s e (place_at s e (x_at s e i) (y_at s e j)) ⊎ HasConnected s e (place_at s e (x_at s e j) (y_at s e i))
      by (sideways a b) = inr (record { index = i + 1; walked = omega (arith, two); here = ap₂ (place_at s e) (x ∙ sym a) (sym b) ∙ sym (at_place s e (i + 1)) })
      by (upright a b) = inl (record { index = i + 1; walked = omega (arith, two); here = ap₂ (place_at s e) (sym a) (y ∙ sym b) ∙ sym (at_place s e (i + 1)) })

  -- which of two numbers is one more
  data OneOff (m n : ℕ) : Type 0 where
    up : n ≡ m + 1 → OneOff m n
    down : m ≡ n + 1 → OneOff m n

  one_off : (m n : ℕ) → (n - m) + (m - n) ≡ 1 → OneOff m n
  one_off m n h = by (dec_lt m n)
    where
      by : Dec (m < n) → OneOff m n
      by (yes l) = up (omega arith)
      by (no l) = down (omega arith)

  swap : {A B : Type 0} → A ⊎ B → B ⊎ A
  swap (inl a) = inr a
  swap (inr b) = inl b

  module _ {p q : Point} (hp : HasConnected s e p) (hq : HasConnected s e q) where
    abbrev xp : ℕ
    xp = x_at s e hp.index

    abbrev xq : ℕ
    xq = x_at s e hq.index

    abbrev yp : ℕ
    yp = y_at s e hp.index

    abbrev yq : ℕ
    yq = y_at s e hq.index

    p_place : p ≡ place_at s e xp yp
    p_place = hp.here ∙ at_place s e hp.index

    q_place : q ≡ place_at s e xq yq
    q_place = hq.here ∙ at_place s e hq.index

    x_apart : nat_abs (q.0 -ℤ p.0) ≡ 1 → (xq - xp) + (xp - xq) ≡ 1
    x_apart d = sym (moves_apart s.0 e.0 xq xp) ∙ (λ t. nat_abs ((sym q_place t).0 -ℤ (sym p_place t).0)) ∙ d

    y_apart : nat_abs (q.1 -ℤ p.1) ≡ 1 → (yq - yp) + (yp - yq) ≡ 1
    y_apart d = sym (moves_apart s.1 e.1 yq yp) ∙ (λ t. nat_abs ((sym q_place t).1 -ℤ (sym p_place t).1)) ∙ d

    -- points with one sum of moves have one index
    one_index : xp + yp ≡ xq + yq → xp ≡ xq
    one_index h = ap (x_at s e) (sym (at_sum s e hp.index hp.walked) ∙ h ∙ at_sum s e hq.index hq.walked)

    beside : OneOff xp xq → OneOff yp yq → HasConnected s e (place_at s e xp yq) ⊎ HasConnected s e (place_at s e xq yp)
    beside (up x) (up y) = third hp.index hq.index hp.walked hq.walked x y
    beside (down x) (down y) = swap (third hq.index hp.index hq.walked hp.walked x y)
    beside (up x) (down y) = absurd (omega (arith, one_index (omega arith)))
    beside (down x) (up y) = absurd (omega (arith, one_index (omega arith)))

    -- NOTHING LEAKS: two points of it that are diagonal neighbours, whatever their indices, have one of the two pixels that touch both as a third point of it
    pub nothing_leaks : nat_abs (q.0 -ℤ p.0) ≡ 1 → nat_abs (q.1 -ℤ p.1) ≡ 1 → HasConnected s e (p.0, q.1) ⊎ HasConnected s e (q.0, p.1)
    nothing_leaks dx dy =
        subst (λ (r : Point). HasConnected s e (r.0, q.1) ⊎ HasConnected s e (q.0, r.1)) (sym p_place)
        (subst (λ (r : Point). HasConnected s e ((place_at s e xp yp).0, r.1) ⊎ HasConnected s e (r.0, (place_at s e xp yp).1)) (sym q_place)
        (beside (one_off xp xq (x_apart dx)) (one_off yp yq (y_apart dy))))
