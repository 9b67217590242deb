-- A line's points are those of 01's rule. Assumes nothing.
use mathlib.Core.Path.{◌≡◌, refl, sym, ap, ap₂, subst, ◌∙◌}
use mathlib.Core.Bool.{Bool, true, false, cond}
use mathlib.Core.List.{[], ◌∷◌}
use Prim.Native.Nat.{ℕ, ◌+◌, ◌*◌, ◌-◌, ◌/◌, ◌≤◌}
use lib.Dec.{eqb, leb}
use lib.IntN.{ℤ, pos, negsuc, ◌+ℤ◌, ◌-ℤ◌, ◌*ℤ◌}
use lib.Signed.{le_z}
use Rattle.whole.proofs.Decides.{Decides, decides_map}
use Rattle.whole.proofs.Ring.{v, k, ◌⊞◌, ◌⊟◌, ◌⊠◌, ring}
use Rattle.geometry.specs.declared.Point.{Point}
use Rattle.line.specs.Line.{toward, wide, high, steep, major, minor, moves, x_moves, y_moves, point_at, HasPoint, has_point}
use Rattle.line.proofs.Lengths.{major_by, minor_by}
use Rattle.line.proofs.Points.{has_decides}
use Rattle.mission.specs.Figures.{a, b, larger, smaller, m, towards, at_step, OnLine}

towards_is : (x y : ℤ) (n : ℕ) → x +ℤ toward x y *ℤ pos n ≡ towards x y n
towards_is x y n = by (le_z x y)
  where
    by : (t : Bool) → x +ℤ cond t (pos 1) (negsuc 0) *ℤ pos n ≡ cond t (x +ℤ pos n) (x -ℤ pos n)
    by true = ring (v 0 ⊞ k (pos 1) ⊠ v 1) (v 0 ⊞ v 1) (x ∷ pos n ∷ []) refl
    by false = ring (v 0 ⊞ k (negsuc 0) ⊠ v 1) (v 0 ⊟ v 1) (x ∷ pos n ∷ []) refl

module _ (s e : Point) where
  pub larger_is : major s e ≡ larger s e
  unfolding wide high
  larger_is = major_by s e (steep s e) refl

  pub smaller_is : minor s e ≡ smaller s e
  unfolding wide high
  smaller_is = minor_by s e (steep s e) refl

  pub m_is : (j : ℕ) → moves (major s e) (minor s e) j ≡ m s e j
  unfolding moves
  m_is j = ap₂ (λ (u v : ℕ). cond (eqb u 0) 0 ((2 * v * j + u - 1) / (2 * u))) larger_is smaller_is

  pub point_is : (j : ℕ) → point_at s e j ≡ at_step s e j
  unfolding point_at x_moves y_moves wide high
  point_is j = by (leb (a s e) (b s e))
    where
      by : (t : Bool)
          → ◌≡◌ {A = Point} (s.0 +ℤ toward s.0 e.0 *ℤ pos (cond t (moves (major s e) (minor s e) j) j), s.1 +ℤ toward s.1 e.1 *ℤ pos (cond t j (moves (major s e) (minor s e) j)))
          (cond t (towards s.0 e.0 (m s e j), towards s.1 e.1 j) (towards s.0 e.0 j, towards s.1 e.1 (m s e j)))
      by true =
          λ i. ((ap (λ (n : ℕ). s.0 +ℤ toward s.0 e.0 *ℤ pos n) (m_is j) ∙ towards_is s.0 e.0 (m s e j)) i, towards_is s.1 e.1 j i)
      by false =
          λ i. (towards_is s.0 e.0 j i, (ap (λ (n : ℕ). s.1 +ℤ toward s.1 e.1 *ℤ pos n) (m_is j) ∙ towards_is s.1 e.1 (m s e j)) i)

module _ {s e p : Point} where
  pub on_line_lem : HasPoint s e p → OnLine s e p
  on_line_lem h = record { step = h.step; walked = subst (λ (n : ℕ). h.step ≤ n) (larger_is s e) h.walked; here = h.here ∙ point_is s e h.step }

  pub line_has : OnLine s e p → HasPoint s e p
  line_has h = record { step = h.step; walked = subst (λ (n : ℕ). h.step ≤ n) (sym (larger_is s e)) h.walked; here = h.here ∙ sym (point_is s e h.step) }

-- whether a pixel is a point of a line is 01's question
pub line_decides : (s e p : Point) → Decides (has_point s e p) (OnLine s e p)
line_decides s e p = decides_map (has_decides s e p) on_line_lem line_has
