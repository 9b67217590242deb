-- The position of every argument of this crate's functions, and so of those that `beamacorn_c` exports (Same.antt there): what each promises, as its source states it, is said here of
-- its arguments by their place and not by their names; and that none of them asks anything of its arguments. Assumes nothing.
use mathlib.Core.Path.{◌≡◌}
use mathlib.Core.Bool.{Bool}
use mathlib.Core.List.{List}
use Prim.Native.Nat.{ℕ}
use lib.IntN.{ℤ}
use denote.MutBor.{MutBor}
use Rattle.refusals.specs.First.{Tests, first}
use Rattle.geometry.specs.declared.Point.{Point}
use Rattle.geometry.specs.declared.Verdict.{Verdict}
use Rattle.geometry.specs.Answer.{verdict, span}
use Rattle.line.specs.declared.Length.{Length}
use Rattle.line.specs.Line.{points, point_at, has_point}
use Rattle.line.specs.Answer.{end_tests, step_tests, length_answer, step_answer}
use Rattle.connected.specs.Connected.{connected_points, connected_at, has_connected}
use Rattle.connected.specs.Answer.{index_tests}
use Rattle.triangle.specs.Triangle as triangle
use Rattle.triangle.specs.Row.{row_span, first_row, row_count}
use Rattle.triangle.specs.Answer.{vertex_tests, rows_answer}
use Rattle.circle.specs.Circle as circle
use Rattle.circle.specs.Refusal.{circle_tests}
use Rattle.frames.specs.declared.Drawn.{Drawn}
use Rattle.frames.specs.declared.Size.{Size}
use Rattle.frames.specs.Answer.{sized}
use Rattle.frames.specs.Description.{size, description_tests}
use Rattle.frames.specs.Drawing.{Drawing, fill_drawing}
use Rattle.drawing.specs.Drawing.{line_drawing, connected_drawing, outline_drawing, triangle_drawing, circle_drawing}
use Rattle.netpbm.specs.Image.{image_length}
use Rattle.netpbm.specs.Written.{image_size_tests, written}
use Rattle.netpbm.specs.Reading.{loaded}
use Rattle.beamacorn.specs.declared.Step.{Step}
use Rattle.beamacorn.specs.Plain.{frame_of, plain_step, outcome_on, placed_on, pixel_on, lit_on}
use Rattle.beamacorn.proofs.beamacorn_line_length.Reads as line_length
use Rattle.beamacorn.proofs.beamacorn_line_point.Reads as line_point
use Rattle.beamacorn.proofs.beamacorn_line_has_point.Reads as line_has_point
use Rattle.beamacorn.proofs.beamacorn_connected_length.Reads as connected_length
use Rattle.beamacorn.proofs.beamacorn_connected_point.Reads as connected_point
use Rattle.beamacorn.proofs.beamacorn_connected_has_point.Reads as connected_has_point
use Rattle.beamacorn.proofs.beamacorn_triangle_contains.Reads as triangle_contains
use Rattle.beamacorn.proofs.beamacorn_triangle_rows.Reads as triangle_rows
use Rattle.beamacorn.proofs.beamacorn_triangle_row_span.Reads as triangle_row_span
use Rattle.beamacorn.proofs.beamacorn_circle_contains.Reads as circle_contains
use Rattle.beamacorn.proofs.beamacorn_circle_row_span.Reads as circle_row_span
use Rattle.beamacorn.proofs.beamacorn_frame_size.Reads as frame_size
use Rattle.beamacorn.proofs.beamacorn_pixel.Reads as pixel
use Rattle.beamacorn.proofs.beamacorn_set_pixel.Reads as set_pixel
use Rattle.beamacorn.proofs.beamacorn_fill.Reads as fill
use Rattle.beamacorn.proofs.beamacorn_draw_line.Reads as draw_line
use Rattle.beamacorn.proofs.beamacorn_draw_connected_line.Reads as draw_connected_line
use Rattle.beamacorn.proofs.beamacorn_draw_triangle.Reads as draw_triangle
use Rattle.beamacorn.proofs.beamacorn_draw_outline.Reads as draw_outline
use Rattle.beamacorn.proofs.beamacorn_draw_circle.Reads as draw_circle
use Rattle.beamacorn.proofs.beamacorn_lit.Reads as lit
use Rattle.beamacorn.proofs.beamacorn_image_size.Reads as image_size
use Rattle.beamacorn.proofs.beamacorn_write_image.Reads as write_image
use Rattle.beamacorn.proofs.beamacorn_read_image.Reads as read_image

-- ---- what a contract promises of its arguments
-- an answer
abbrev Answers : {K A R S : Type 0} → (K → A → R → S → Type 0) → (A → R) → Type 0
Answers {K} {A} {R} {S} Post answer = (κs : K) (a : A) (r : R) (s : S) → Post κs a r s → r ≡ answer a

-- an answer, and the bytes of the buffer that is lent first
abbrev Leaves : {K A R S : Type 0} → (K → A → R → MutBor (List ℕ) × S → Type 0) → (A → R × List ℕ) → Type 0
Leaves {K} {A} {R} {S} Post left = (κs : K) (a : A) (r : R) (s : MutBor (List ℕ) × S) → Post κs a r s → ◌≡◌ {A = R × List ℕ} (r, s.0.now) (left a)

-- ---- the arguments
-- points, each x first: the first, the second, the third
abbrev one : {T : Type 0} → ℤ × (ℤ × T) → Point
one a = (a.0, a.1.0)

abbrev two : {T : Type 0} → ℤ × (ℤ × (ℤ × (ℤ × T))) → Point
two a = one a.1.1

abbrev three : {T : Type 0} → ℤ × (ℤ × (ℤ × (ℤ × (ℤ × (ℤ × T))))) → Point
three a = two a.1.1

-- a frame: width, height, depth, order, distance; and what comes behind it
abbrev framed : {A T : Type 0} → (ℕ → ℕ → ℕ → ℕ → ℕ → A) → ℕ × (ℕ × (ℕ × (ℕ × (ℕ × T)))) → A
framed f a = f a.0 a.1.0 a.1.1.0 a.1.1.1.0 a.1.1.1.1.0

abbrev behind : {T : Type 0} → ℕ × (ℕ × (ℕ × (ℕ × (ℕ × T)))) → T
behind a = a.1.1.1.1.1

-- ---- questions: two or three points; a circle is left, top, diameter; what is asked of them comes last
-- of a line or a connected one: how many points it has, which at a step or an index, and whether a place is one
abbrev length_of : {T : Type 0} → (Point → Point → ℕ) → ℤ × (ℤ × (ℤ × (ℤ × T))) → Length
length_of count a = length_answer (first (end_tests (one a) (two a))) (count (one a) (two a))

abbrev point_of : {T : Type 0} → (Point → Point → ℕ → Tests) → (Point → Point → ℕ → Point) → ℤ × (ℤ × (ℤ × (ℤ × (ℕ × T)))) → Step
point_of tests at a = let k = a.1.1.1.1.0 in plain_step (step_answer (first (tests (one a) (two a) k)) (at (one a) (two a) k))

abbrev is_point_of : {T : Type 0} → (Point → Point → Point → Bool) → ℤ × (ℤ × (ℤ × (ℤ × (ℤ × (ℤ × T))))) → Verdict
is_point_of has a = verdict (first (end_tests (one a) (two a))) (has (one a) (two a) (three a))

pub line_at : Answers line_length.Post (length_of points) × Answers line_point.Post (point_of step_tests point_at) × Answers line_has_point.Post (is_point_of has_point)
line_at = (λ κs a r s h. h, λ κs a r s h. h, λ κs a r s h. h)

pub connected_at_lem :
    Answers connected_length.Post (length_of connected_points) × Answers connected_point.Post (point_of index_tests connected_at) × Answers connected_has_point.Post (is_point_of has_connected)
connected_at_lem = (λ κs a r s h. h, λ κs a r s h. h, λ κs a r s h. h)

pub triangle_contains_at :
    Answers triangle_contains.Post (λ a. verdict (first (vertex_tests (one a) (two a) (three a))) (triangle.contained (one a) (two a) (three a) (three a.1.1)))
triangle_contains_at κs a r s h = h

pub triangle_rows_at :
    Answers triangle_rows.Post (λ a. rows_answer (first (vertex_tests (one a) (two a) (three a))) (first_row (one a) (two a) (three a)) (row_count (one a) (two a) (three a)))
triangle_rows_at κs a r s h = h

pub triangle_row_span_at :
    Answers triangle_row_span.Post
    (λ a. let row = row_span (one a) (two a) (three a) a.1.1.1.1.1.1.0 in span (first (vertex_tests (one a) (two a) (three a))) row.0 row.1)
triangle_row_span_at κs a r s h = h

pub circle_contains_at : Answers circle_contains.Post (λ a. verdict (first (circle_tests (one a) a.1.1.0)) (circle.contained (one a) a.1.1.0 (one a.1.1.1)))
circle_contains_at κs a r s h = h

pub circle_row_span_at :
    Answers circle_row_span.Post
    (λ a. span (first (circle_tests (one a) a.1.1.0)) (circle.span_start (one a) a.1.1.0 a.1.1.1.0) (circle.span_end (one a) a.1.1.0 a.1.1.1.0))
circle_row_span_at κs a r s h = h

-- ---- frames: the buffer comes first, then the frame, the colour last; the size needs no order
pub frame_size_at :
    Answers frame_size.Post (λ a. let f = frame_of a.0 a.1.0 a.1.1.0 0 a.1.1.1.0 in sized (first (description_tests f)) (size f))
frame_size_at κs a r s h = h

pub pixel_at : Answers pixel.Post (λ a. framed pixel_on a.1 (one (behind a.1)) a.0.now)
pixel_at κs a r s h = h

pub lit_at : Answers lit.Post (λ a. framed lit_on a.1 a.0.now)
lit_at κs a r s h = h

pub set_pixel_at : Leaves set_pixel.Post (λ a. framed placed_on a.1 (one (behind a.1)) (behind a.1).1.1.0 a.0.now)
set_pixel_at κs a r s h = h

-- what a call that draws is made of comes behind the frame
abbrev Draws : {K T S : Type 0} → (K → MutBor (List ℕ) × (ℕ × (ℕ × (ℕ × (ℕ × (ℕ × T))))) → Drawn → MutBor (List ℕ) × S → Type 0) → (T → Drawing) → Type 0
Draws Post drawing = Leaves Post (λ a. framed outcome_on a.1 (drawing (behind a.1)) a.0.now)

pub fill_at : Draws fill.Post (λ a. fill_drawing a.0)
fill_at κs a r s h = h

pub draw_line_at : Draws draw_line.Post (λ a. line_drawing (one a) (two a) a.1.1.1.1.0)
draw_line_at κs a r s h = h

pub draw_connected_line_at : Draws draw_connected_line.Post (λ a. connected_drawing (one a) (two a) a.1.1.1.1.0)
draw_connected_line_at κs a r s h = h

pub draw_triangle_at : Draws draw_triangle.Post (λ a. triangle_drawing (one a) (two a) (three a) a.1.1.1.1.1.1.0)
draw_triangle_at κs a r s h = h

pub draw_outline_at : Draws draw_outline.Post (λ a. outline_drawing (one a) (two a) (three a) a.1.1.1.1.1.1.0)
draw_outline_at κs a r s h = h

pub draw_circle_at : Draws draw_circle.Post (λ a. circle_drawing (one a) a.1.1.0 a.1.1.1.0)
draw_circle_at κs a r s h = h

-- ---- image files: the same of the frame, and the output or the file comes last
pub image_size_at :
    Answers image_size.Post (λ a. let f = frame_of a.0 a.1.0 a.1.1.0 0 a.1.1.1.0 in sized (first (image_size_tests f)) (image_length f))
image_size_at κs a r s h = h

pub write_image_at : (κs : _) (a : _) (r : _) (s : _) → write_image.Post κs a r s
    → ◌≡◌ {A = Size × List ℕ} (r, s.1.1.1.1.1.1.0.now) (written (framed frame_of a.1) a.0.now (behind a.1).0.now)
write_image_at κs a r s h = h

pub read_image_at : Leaves read_image.Post (λ a. loaded (framed frame_of a.1) (behind a.1).0.now a.0.now)
read_image_at κs a r s h = h

-- ---- NOTHING IS ASKED: whatever the arguments are, what a function asks of them holds
abbrev AsksNothing : {K A : Type 0} → (K → A → Type 0) → Type 0
AsksNothing {K} {A} Pre = (κs : K) (a : A) → Pre κs a

pub questions_ask_nothing :
    AsksNothing line_length.Pre × AsksNothing line_point.Pre × AsksNothing line_has_point.Pre × AsksNothing connected_length.Pre × AsksNothing connected_point.Pre
    × AsksNothing connected_has_point.Pre × AsksNothing triangle_contains.Pre × AsksNothing triangle_rows.Pre × AsksNothing triangle_row_span.Pre × AsksNothing circle_contains.Pre
    × AsksNothing circle_row_span.Pre × AsksNothing frame_size.Pre × AsksNothing pixel.Pre × AsksNothing lit.Pre × AsksNothing image_size.Pre
questions_ask_nothing = search tt

pub calls_ask_nothing :
    AsksNothing set_pixel.Pre × AsksNothing fill.Pre × AsksNothing draw_line.Pre × AsksNothing draw_connected_line.Pre × AsksNothing draw_triangle.Pre × AsksNothing draw_outline.Pre
    × AsksNothing draw_circle.Pre × AsksNothing write_image.Pre × AsksNothing read_image.Pre
calls_ask_nothing = search tt
