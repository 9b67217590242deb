-- A point of a connected line by its moves along x and along y from the start: they add up to its index, and neither ever falls, so that the next point is one move
-- on along one axis. Assumes nothing.
use mathlib.Core.Path.{◌≡◌, refl, sym, ◌∙◌}
use mathlib.Core.Bool.{Bool, true, false, cond}
use Prim.Native.Nat.{ℕ, ◌+◌, ◌≤◌, ◌<◌}
use native.Mathlib.Decide.{dec_lt}
use native.Mathlib.Omega.{arith}
use Rattle.geometry.specs.declared.Point.{Point}
use Rattle.line.specs.Line.{steep, major, minor, moves, x_moves, y_moves, point_at}
use Rattle.line.specs.Walk.{place_at}
use Rattle.line.proofs.Points.{x_mono, y_mono}
use Rattle.connected.specs.Connected.{beside_both, index_of, last_index, step_of, is_extra, alike, extra_at, connected_at}
use Rattle.connected.proofs.Indices.{Grows, View, Growth, index_is, grows_index, at_normal, at_extra, growth, not_last, view, normal, extra, grows, stays}

module _ (s e : Point) where
  -- ---- the moves of a step
  moves_sum : (k : ℕ) → x_moves s e k + y_moves s e k ≡ index_of s e k
  unfolding x_moves y_moves
  moves_sum k = by (steep s e) ∙ sym (index_is s e k)
    where
      by : (t : Bool) → cond t (moves (major s e) (minor s e) k) k + cond t k (moves (major s e) (minor s e) k) ≡ k + moves (major s e) (minor s e) k
      by true = omega arith
      by false = refl

  -- where m grows, both grow by one
  both_grow : (k : ℕ) → Grows s e k → (x_moves s e (k + 1) ≡ x_moves s e k + 1) × (y_moves s e (k + 1) ≡ y_moves s e k + 1)
  unfolding x_moves y_moves
  both_grow k g = by (steep s e)
    where
      by : (t : Bool)
          → (cond t (moves (major s e) (minor s e) (k + 1)) (k + 1) ≡ cond t (moves (major s e) (minor s e) k) k + 1)
          × (cond t (k + 1) (moves (major s e) (minor s e) (k + 1)) ≡ cond t k (moves (major s e) (minor s e) k) + 1)
      by true = (g, refl)
      by false = (refl, g)

  -- ---- those of the extra point after it: one axis has made its next move, and the other has not
  abbrev pub x_extra : ℕ → ℕ
  x_extra k = cond (alike s e) (x_moves s e k) (x_moves s e (k + 1))

  abbrev pub y_extra : ℕ → ℕ
  y_extra k = cond (alike s e) (y_moves s e (k + 1)) (y_moves s e k)

  pub extra_place : (k : ℕ) → extra_at s e k ≡ place_at s e (x_extra k) (y_extra k)
  unfolding extra_at point_at
  extra_place k = by (alike s e)
    where
      by : (a : Bool)
          → beside_both a (point_at s e k) (point_at s e (k + 1)) ≡ place_at s e (cond a (x_moves s e k) (x_moves s e (k + 1))) (cond a (y_moves s e (k + 1)) (y_moves s e k))
      by true = refl
      by false = refl

  extra_sum : (k : ℕ) → Grows s e k → x_extra k + y_extra k ≡ index_of s e k + 1
  extra_sum k g = by (alike s e)
    where
      by : (a : Bool) → cond a (x_moves s e k) (x_moves s e (k + 1)) + cond a (y_moves s e (k + 1)) (y_moves s e k) ≡ index_of s e k + 1
      by true = omega (arith, moves_sum k, (both_grow k g).1)
      by false = omega (arith, moves_sum k, (both_grow k g).0)

  between : (a : Bool) {l u : ℕ} (x y : ℕ) → l ≤ x → x ≤ u → l ≤ y → y ≤ u → (l ≤ cond a x y) × (cond a x y ≤ u)
  between true x y h i j k = (h, i)
  between false x y h i j k = (j, k)

  x_between : (k : ℕ) → (x_moves s e k ≤ x_extra k) × (x_extra k ≤ x_moves s e (k + 1))
  x_between k =
      let m = x_mono s e k (k + 1) (omega arith) in
      between (alike s e) (x_moves s e k) (x_moves s e (k + 1)) (omega arith) m m (omega arith)

  y_between : (k : ℕ) → (y_moves s e k ≤ y_extra k) × (y_extra k ≤ y_moves s e (k + 1))
  y_between k =
      let m = y_mono s e k (k + 1) (omega arith) in
      between (alike s e) (y_moves s e (k + 1)) (y_moves s e k) m (omega arith) (omega arith) m

  -- ---- those of the point of index i
  unfoldable pub x_at : ℕ → ℕ
  x_at i = cond (is_extra s e i) (x_extra (step_of s e i)) (x_moves s e (step_of s e i))

  unfoldable pub y_at : ℕ → ℕ
  y_at i = cond (is_extra s e i) (y_extra (step_of s e i)) (y_moves s e (step_of s e i))

  pub at_place : (i : ℕ) → connected_at s e i ≡ place_at s e (x_at i) (y_at i)
  unfolding connected_at point_at x_at y_at
  at_place i = by (is_extra s e i) (step_of s e i)
    where
      by : (t : Bool) (k : ℕ) → cond t (extra_at s e k) (point_at s e k) ≡ place_at s e (cond t (x_extra k) (x_moves s e k)) (cond t (y_extra k) (y_moves s e k))
      by true k = extra_place k
      by false k = refl

  module _ {i k : ℕ} where
    x_normal : k ≤ major s e → i ≡ index_of s e k → x_at i ≡ x_moves s e k
    unfolding x_at
    x_normal = at_normal s e x_extra (x_moves s e) i k

    y_normal : k ≤ major s e → i ≡ index_of s e k → y_at i ≡ y_moves s e k
    unfolding y_at
    y_normal = at_normal s e y_extra (y_moves s e) i k

    x_extra_lem : k < major s e → Grows s e k → i ≡ index_of s e k + 1 → x_at i ≡ x_extra k
    unfolding x_at
    x_extra_lem = at_extra s e x_extra (x_moves s e) i k

    y_extra_lem : k < major s e → Grows s e k → i ≡ index_of s e k + 1 → y_at i ≡ y_extra k
    unfolding y_at
    y_extra_lem = at_extra s e y_extra (y_moves s e) i k

  -- they add up to the index
  pub at_sum : (i : ℕ) → i ≤ last_index s e → x_at i + y_at i ≡ i
  at_sum i l = by (view s e i l)
    where
      by : View s e i → x_at i + y_at i ≡ i
      by (normal k h q) = omega (arith, x_normal h q, y_normal h q, moves_sum k)
      by (extra k h g q) = omega (arith, x_extra_lem h g q, y_extra_lem h g q, extra_sum k g)

  -- and never fall
  onward : (i : ℕ) → i < last_index s e → (x_at i ≤ x_at (i + 1)) × (y_at i ≤ y_at (i + 1))
  onward i l = by (view s e i (omega arith))
    where
      by : View s e i → (x_at i ≤ x_at (i + 1)) × (y_at i ≤ y_at (i + 1))
      by (normal k h q) = on (growth s e k)
        where
          below : k < major s e
          below = not_last s e i k l q

          on : Growth s e k → (x_at i ≤ x_at (i + 1)) × (y_at i ≤ y_at (i + 1))
          on (grows g) =
              let q' : i + 1 ≡ index_of s e k + 1 = omega arith in
              (omega (arith, x_normal h q, x_extra_lem below g q', (x_between k).0), omega (arith, y_normal h q, y_extra_lem below g q', (y_between k).0))
          on (stays g) =
              let q' : i + 1 ≡ index_of s e (k + 1) = omega arith in
              let h' : k + 1 ≤ major s e = omega (arith, below) in (
                omega (arith, x_normal h q, x_normal h' q', x_mono s e k (k + 1) (omega arith)),
                omega (arith, y_normal h q, y_normal h' q', y_mono s e k (k + 1) (omega arith)),
              )
      by (extra k h g q) =
          let q' : i + 1 ≡ index_of s e (k + 1) = omega (arith, grows_index s e k g) in
          let h' : k + 1 ≤ major s e = omega arith in
          (omega (arith, x_extra_lem h g q, x_normal h' q', (x_between k).1), omega (arith, y_extra_lem h g q, y_normal h' q', (y_between k).1))

  -- ---- from one index to the next: one move, along one axis
  pub data Move (i : ℕ) : Type 0 where
    sideways : x_at (i + 1) ≡ x_at i + 1 → y_at (i + 1) ≡ y_at i → Move i
    upright : x_at (i + 1) ≡ x_at i → y_at (i + 1) ≡ y_at i + 1 → Move i

  pub move : (i : ℕ) → i < last_index s e → Move i
  move i l = by (dec_lt (x_at i) (x_at (i + 1)))
    where
      a : x_at i + y_at i ≡ i
      a = at_sum i (omega arith)

      b : x_at (i + 1) + y_at (i + 1) ≡ i + 1
      b = at_sum (i + 1) (omega arith)

      by : Dec (x_at i < x_at (i + 1)) → Move i
      by (yes h) = sideways (omega (arith, a, b, (onward i l).1)) (omega (arith, a, b, (onward i l).1))
      by (no h) = upright (omega (arith, (onward i l).0)) (omega (arith, a, b, (onward i l).0))
