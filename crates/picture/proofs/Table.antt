-- THE FIRST TEST THAT HOLDS WINS (01, "Numbers an operation may answer", in the orders of 02): each number is answered exactly when its test holds and none before
-- it does, and 0 exactly when none holds. Where the numbers rise, as all did in 01, THE LOWEST NUMBER WINS. Assumes nothing.
use mathlib.Core.Path.{refl}
use mathlib.Core.Bool.{Bool}
use mathlib.Core.List.{[], ◌∷◌, ◌++◌}
use Prim.Native.Nat.{ℕ}
use Rattle.refusals.proofs.First.{Exact, first_wins}
use Rattle.refusals.proofs.Lowest.{Lowest, lowest_wins}
use Rattle.geometry.specs.declared.Point.{Point}
use Rattle.line.specs.Answer.{end_tests, step_tests}
use Rattle.triangle.specs.Answer.{vertex_tests}
use Rattle.circle.specs.Refusal.{circle_tests}
use Rattle.frames.specs.declared.Frame.{Frame}
use Rattle.frames.specs.Description.{description_tests, frame_tests, read_tests}
use Rattle.frames.specs.Drawing.{call_tests}
use Rattle.drawing.specs.declared.Figure.{Figure}
use Rattle.drawing.specs.declared.Figure.TheVariants.{Fill, Pixel, Line, Connected, Triangle, Outline, Circle}
use Rattle.drawing.specs.Drawing.{own_tests, figure_drawing}
use Rattle.picture.specs.Before.{description_before, frame_before}

-- ---- frames
-- "Size of a frame: 1, 2", and 14
pub size : (f : Frame) → Exact (description_tests f)
unfolding description_tests
size f = first_wins _ refl

module _ (f : Frame) (len : ℕ) where
  -- "Reading: 1 to 3, 8", and 14 before 3, as in all that follow
  pub reading : (p : Point) → Exact (read_tests f len p)
  unfolding description_tests frame_tests read_tests
  reading p = first_wins _ refl

  -- "Setting a pixel, filling the frame: 1 to 4. Drawing a line, a triangle, an outline: 1 to 5; a circle: 1 to 6"; 02, T-05, a connected line: "Refusals as for a line"
  pub drawing : (g : Figure) (c : ℕ) → Exact (call_tests f len (figure_drawing g c))
  unfolding description_tests frame_tests end_tests vertex_tests circle_tests
  drawing Fill c = first_wins _ refl
  drawing (Pixel p) c = first_wins _ refl
  drawing (Line s e) c = first_wins _ refl
  drawing (Connected s e) c = first_wins _ refl
  drawing (Triangle v1 v2 v3) c = first_wins _ refl
  drawing (Outline v1 v2 v3) c = first_wins _ refl
  drawing (Circle l d) c = first_wins _ refl

-- 01's lists, which a frame without a gap still answers by (Gapless.antt), rise: a call's own numbers are above 4
module _ (w h depth len : ℕ) where
  pub size_before_lem : Lowest (description_before w h depth)
  size_before_lem = lowest_wins _ refl

  pub reading_before : (t : Bool) → Lowest (frame_before w h depth len ++ ((8, t) ∷ []))
  reading_before t = lowest_wins _ refl

  pub drawing_before : (t : Bool) (g : Figure) → Lowest (frame_before w h depth len ++ ((4, t) ∷ own_tests g))
  unfolding end_tests vertex_tests circle_tests
  drawing_before t Fill = lowest_wins _ refl
  drawing_before t (Pixel p) = lowest_wins _ refl
  drawing_before t (Line s e) = lowest_wins _ refl
  drawing_before t (Connected s e) = lowest_wins _ refl
  drawing_before t (Triangle v1 v2 v3) = lowest_wins _ refl
  drawing_before t (Outline v1 v2 v3) = lowest_wins _ refl
  drawing_before t (Circle l d) = lowest_wins _ refl

-- ---- questions
-- "A point of a line: 5, 7"
pub point : (s e : Point) (k : ℕ) → Lowest (step_tests s e k)
unfolding end_tests step_tests
point s e k = lowest_wins _ refl

-- "Other questions on a line or triangle: 5; on a circle: 5, 6"
pub on_line_lem : (s e : Point) → Lowest (end_tests s e)
unfolding end_tests
on_line_lem s e = lowest_wins _ refl

pub on_triangle : (v1 v2 v3 : Point) → Lowest (vertex_tests v1 v2 v3)
unfolding vertex_tests
on_triangle v1 v2 v3 = lowest_wins _ refl

pub on_circle : (l : Point) (d : ℕ) → Lowest (circle_tests l d)
unfolding circle_tests
on_circle l d = lowest_wins _ refl
