-- Two steps of a line lead to two points: the major axis moves at every step. Assumes nothing.
use mathlib.Core.Path.{◌≡◌, refl, sym, ap, ◌∙◌}
use mathlib.Core.Bool.{Bool, true, false}
use Prim.Native.Nat.{ℕ}
use lib.IntN.{pos, nat_abs}
use Rattle.geometry.specs.declared.Point.{Point}
use Rattle.line.specs.Line.{steep, x_moves, y_moves, point_at}
use Rattle.line.proofs.Lengths.{x_by, y_by}
use Rattle.line.proofs.Closed.{moves_off}

pub steps_apart : (s e : Point) (i j : ℕ) → point_at s e i ≡ point_at s e j → i ≡ j
unfolding point_at
steps_apart s e i j h = by (steep s e) refl
  where
    across : pos (x_moves s e i) ≡ pos (x_moves s e j)
    across = sym (moves_off s.0 e.0 _ (x_moves s e i) refl) ∙ moves_off s.0 e.0 _ (x_moves s e j) (ap (λ (p : Point). p.0) h)

    down : pos (y_moves s e i) ≡ pos (y_moves s e j)
    down = sym (moves_off s.1 e.1 _ (y_moves s e i) refl) ∙ moves_off s.1 e.1 _ (y_moves s e j) (ap (λ (p : Point). p.1) h)

    by : (t : Bool) → steep s e ≡ t → i ≡ j
    by true t = sym (y_by s e true t i) ∙ ap nat_abs down ∙ y_by s e true t j
    by false t = sym (x_by s e false t i) ∙ ap nat_abs across ∙ x_by s e false t j
