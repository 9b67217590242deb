-- What each question is answered, by the definitions of the library. The numbers of the line start at a place.
use Rattle.std.specs.Prelude.{◌≡◌, Bool, List, [], ◌∷◌, ℕ, ℤ, Option, Some, None}
use Rattle.std.specs.Option.{MatchOption}
use Rattle.refusals.specs.First.{Tests, first}
use Rattle.geometry.specs.declared.Point.{Point}
use Rattle.geometry.specs.declared.Span.{Span}
use Rattle.geometry.specs.declared.Verdict.{Verdict}
use Rattle.geometry.specs.Answer.{verdict, span}
use Rattle.line.specs.declared.Length.{Length}
use Rattle.line.specs.Answer.{Step}
use Rattle.line.specs.Line.{points, point_at, has_point}
use Rattle.line.specs.Answer.{end_tests, step_tests, length_answer, step_answer}
use Rattle.connected.specs.Connected.{connected_points, connected_at, has_connected}
use Rattle.connected.specs.Answer.{index_tests}
use Rattle.triangle.specs.declared.RowRange.{RowRange}
use Rattle.triangle.specs.Answer.{vertex_tests, rows_answer}
use Rattle.triangle.specs.Triangle as triangle
use Rattle.triangle.specs.Row.{row_span, first_row, row_count}
use Rattle.circle.specs.Refusal.{circle_tests}
use Rattle.circle.specs.Circle as circle
use Rattle.text.specs.Fields.{next_u32, next_i32}
use Rattle.readers.specs.declared.figures.Corners.{Corners}
use Rattle.readers.specs.Figures.{last_read, last_two, next_point, next_ends, next_corners, next_circle}
use Rattle.readers.specs.Words.{meant}
use Rattle.protocol.specs.declared.reply.Reply.{Reply}
use Rattle.protocol.specs.declared.reply.Reply.TheVariants.{One, Two}
use Rattle.protocol.specs.declared.reply.Value.TheVariants.{Natural, Whole}
use Rattle.protocol.specs.Reply.{replied, verdict_reply}
use Rattle.questions.specs.Words.{length_word, point_word, online_word, inside_word, span_word, rows_word, disc_word, discspan_word, tracelength_word, tracepoint_word, ontrace_word}

-- ---- answers, put into a reply
abbrev pub length_said : Length → Reply
length_said a = One a.number (Natural a.points)

abbrev pub step_said : Step → Reply
step_said a = Two a.number (Whole a.point.0) (Whole a.point.1)

abbrev pub span_said : Span → Reply
span_said a = Two a.number (Whole a.start) (Whole a.end)

abbrev pub rows_said : RowRange → Reply
rows_said a = Two a.number (Whole a.first) (Natural a.count)

-- the reply to what a line asks for, as a claim, where the answer is only known to be one that an operation may give
abbrev pub Asked : {A B : Type 0} → Option A → (A → B → Type 0) → (B → Reply) → Option Reply → Type 0
Asked {A} {B} asked gives say r = MatchOption asked (r ≡ None) (λ a. (b : B) × gives a b × (r ≡ Some (say b)))

-- ---- of a line, and of a connected line (02, T-05)
-- `length X1 Y1 X2 Y2` and `tracelength`: number, points
abbrev pub ends_said : List ℕ → ℕ → Option (Point × Point)
ends_said said at = last_read said (next_ends said at)

abbrev pub length_of : (Point → Point → ℕ) → Point × Point → Length
length_of count l = length_answer (first (end_tests l.0 l.1)) (count l.0 l.1)

unfoldable pub length_reply : (Point → Point → ℕ) → List ℕ → ℕ → Option Reply
length_reply count said at = replied (λ l. length_said (length_of count l)) (ends_said said at)

-- `point X1 Y1 X2 Y2 K` and `tracepoint`: number, x, y
abbrev pub ends_and_step : List ℕ → ℕ → Option ((Point × Point) × ℕ)
ends_and_step said at = last_two said (next_ends said at) (next_u32 said)

abbrev pub step_of : (Point → Point → ℕ → Tests) → (Point → Point → ℕ → Point) → (Point × Point) × ℕ → Step
step_of tests there l = step_answer (first (tests l.0.0 l.0.1 l.1)) (there l.0.0 l.0.1 l.1)

unfoldable pub point_reply : (Point → Point → ℕ → Tests) → (Point → Point → ℕ → Point) → List ℕ → ℕ → Option Reply
point_reply tests there said at = replied (λ l. step_said (step_of tests there l)) (ends_and_step said at)

-- `online X1 Y1 X2 Y2 X Y` and `ontrace`: number, whether the pixel is a point of it
abbrev pub ends_and_point : List ℕ → ℕ → Option ((Point × Point) × Point)
ends_and_point said at = last_two said (next_ends said at) (next_point said)

abbrev pub on_line_of : (Point → Point → Point → Bool) → (Point × Point) × Point → Verdict
on_line_of has l = verdict (first (end_tests l.0.0 l.0.1)) (has l.0.0 l.0.1 l.1)

unfoldable pub online_reply : (Point → Point → Point → Bool) → List ℕ → ℕ → Option Reply
online_reply has said at = replied (λ l. verdict_reply (on_line_of has l)) (ends_and_point said at)

-- ---- of a triangle
-- `inside X1 Y1 X2 Y2 X3 Y3 X Y`: number, whether the triangle contains the pixel
abbrev pub verdict_of : Corners → Point → Verdict
verdict_of t p = verdict (first (vertex_tests t.a t.b t.c)) (triangle.contained t.a t.b t.c p)

unfoldable pub inside_reply : List ℕ → ℕ → Option Reply
inside_reply said at = replied (λ a. verdict_reply (verdict_of a.0 a.1)) (last_two said (next_corners said at) (next_point said))

-- `span X1 Y1 X2 Y2 X3 Y3 Y`: number, first x, one past the last
abbrev pub span_of : Corners → ℤ → Span
span_of t y = span (first (vertex_tests t.a t.b t.c)) (row_span t.a t.b t.c y).0 (row_span t.a t.b t.c y).1

unfoldable pub span_reply : List ℕ → ℕ → Option Reply
span_reply said at = replied (λ a. span_said (span_of a.0 a.1)) (last_two said (next_corners said at) (next_i32 said))

-- `rows X1 Y1 X2 Y2 X3 Y3`: number, first row, number of rows
abbrev pub rows_of : Corners → RowRange
rows_of t = rows_answer (first (vertex_tests t.a t.b t.c)) (first_row t.a t.b t.c) (row_count t.a t.b t.c)

unfoldable pub rows_reply : List ℕ → ℕ → Option Reply
rows_reply said at = replied (λ t. rows_said (rows_of t)) (last_read said (next_corners said at))

-- ---- of a circle
-- `disc L T D X Y`: number, whether the circle contains the pixel
abbrev pub on_disc_of : Point × ℕ → Point → Verdict
on_disc_of c p = verdict (first (circle_tests c.0 c.1)) (circle.contained c.0 c.1 p)

unfoldable pub disc_reply : List ℕ → ℕ → Option Reply
disc_reply said at = replied (λ a. verdict_reply (on_disc_of a.0 a.1)) (last_two said (next_circle said at) (next_point said))

-- `discspan L T D Y`: number, first x, one past the last
abbrev pub discspan_of : Point × ℕ → ℤ → Span
discspan_of c y = span (first (circle_tests c.0 c.1)) (circle.span_start c.0 c.1 y) (circle.span_end c.0 c.1 y)

unfoldable pub discspan_reply : List ℕ → ℕ → Option Reply
discspan_reply said at = replied (λ a. span_said (discspan_of a.0 a.1)) (last_two said (next_circle said at) (next_i32 said))

-- ---- a question by its word; another word makes a bad line
abbrev pub question_table : List ℕ → ℕ → List (List ℕ × Option Reply)
question_table said at =
    (length_word, length_reply points said at)
    ∷ (point_word, point_reply step_tests point_at said at)
    ∷ (online_word, online_reply has_point said at)
    ∷ (inside_word, inside_reply said at)
    ∷ (span_word, span_reply said at)
    ∷ (rows_word, rows_reply said at)
    ∷ (disc_word, disc_reply said at)
    ∷ (discspan_word, discspan_reply said at)
    ∷ (tracelength_word, length_reply connected_points said at)
    ∷ (tracepoint_word, point_reply index_tests connected_at said at)
    ∷ (ontrace_word, online_reply has_connected said at)
    ∷ []

abbrev pub ask_reply : List ℕ → List ℕ → ℕ → Option Reply
ask_reply word said at = meant word (question_table said at) None
