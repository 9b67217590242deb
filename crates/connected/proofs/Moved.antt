-- Moving both ends moves every point of a connected line, and no index. Assumes nothing.
use mathlib.Core.Path.{◌≡◌, refl, ap, ap₂, ◌∙◌}
use mathlib.Core.Bool.{Bool, true, false, cond, not}
use Prim.Native.Nat.{ℕ, ◌+◌}
use lib.Dec.{eqb}
use Rattle.whole.specs.Equal.{eq_z}
use Rattle.geometry.specs.declared.Point.{Point}
use Rattle.geometry.specs.Place.{moved}
use Rattle.line.specs.Line.{moves, point_at, some_step}
use Rattle.line.proofs.Points.{same_way, some_moved, major_moved, minor_moved, point_moved}
use Rattle.connected.specs.Connected.{last_up_to, beside_both, index_of, last_index, connected_points, step_of, is_extra, alike, extra_at, connected_at, has_connected}

module _ (s e v : Point) where
  pub last_moved : last_index (moved v s) (moved v e) ≡ last_index s e
  last_moved = ap₂ ◌+◌ (major_moved s e v) (minor_moved s e v)

  step_moved : (i : ℕ) → step_of (moved v s) (moved v e) i ≡ step_of s e i
  unfolding step_of index_of
  step_moved i = λ t. last_up_to (λ k. k + moves (major_moved s e v t) (minor_moved s e v t) k) i (major_moved s e v t)

  pub is_extra_moved : (i : ℕ) → is_extra (moved v s) (moved v e) i ≡ is_extra s e i
  unfolding is_extra index_of
  is_extra_moved i = λ t. not (eqb (step_moved i t + moves (major_moved s e v t) (minor_moved s e v t) (step_moved i t)) i)

  alike_moved : alike (moved v s) (moved v e) ≡ alike s e
  alike_moved = ap₂ eq_z (same_way s.0 e.0 v.0) (same_way s.1 e.1 v.1)

  beside_moved : (b : Bool) (p q : Point) → beside_both b (moved v p) (moved v q) ≡ moved v (beside_both b p q)
  beside_moved true p q = refl
  beside_moved false p q = refl

  extra_moved : (k : ℕ) → extra_at (moved v s) (moved v e) k ≡ moved v (extra_at s e k)
  unfolding extra_at
  extra_moved k = (λ t. beside_both (alike_moved t) (point_moved s e v k t) (point_moved s e v (k + 1) t)) ∙ beside_moved (alike s e) (point_at s e k) (point_at s e (k + 1))

  pub connected_moved : (i : ℕ) → connected_at (moved v s) (moved v e) i ≡ moved v (connected_at s e i)
  unfolding connected_at
  connected_moved i =
      (λ t. cond (is_extra_moved i t) (extra_at (moved v s) (moved v e) (step_moved i t)) (point_at (moved v s) (moved v e) (step_moved i t)))
      ∙ (λ t. cond (is_extra s e i) (extra_moved (step_of s e i) t) (point_moved s e v (step_of s e i) t))
      ∙ by (is_extra s e i) (extra_at s e (step_of s e i)) (point_at s e (step_of s e i))
    where
      by : (b : Bool) (p q : Point) → cond b (moved v p) (moved v q) ≡ moved v (cond b p q)
      by true p q = refl
      by false p q = refl

  -- a pixel is a point of it exactly if, all moved, it is
  pub has_connected_moved : (p : Point) → has_connected (moved v s) (moved v e) (moved v p) ≡ has_connected s e p
  unfolding has_connected
  has_connected_moved p =
      ap (λ (n : ℕ). some_step (connected_at (moved v s) (moved v e)) (moved v p) (n + 1)) last_moved
      ∙ some_moved v (connected_at (moved v s) (moved v e)) (connected_at s e) p (connected_points s e) connected_moved
