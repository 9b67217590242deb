-- What each drawing call is answered and which bytes it leaves, by the definitions of the library. The numbers of the line start at a place.
use Rattle.std.specs.Prelude.{List, [], ◌∷◌, ℕ, Option, Some, None}
use Rattle.std.specs.Option.{option_map_or}
use Rattle.geometry.specs.declared.Point.{Point}
use Rattle.frames.specs.declared.Drawn.{Drawn}
use Rattle.frames.specs.declared.Frame.{Frame}
use Rattle.frames.specs.declared.Placed.{Placed}
use Rattle.frames.specs.Drawing.{Drawing, fill_drawing, outcome, pixel_outcome}
use Rattle.drawing.specs.Drawing.{line_drawing, triangle_drawing, outline_drawing, circle_drawing, connected_drawing}
use Rattle.text.specs.Fields.{next_u32}
use Rattle.readers.specs.declared.figures.Corners.{Corners}
use Rattle.readers.specs.Figures.{last_read, last_two, next_point, next_ends, next_corners, next_circle}
use Rattle.readers.specs.Words.{meant}
use Rattle.protocol.specs.declared.reply.Reply.{Reply}
use Rattle.protocol.specs.declared.reply.Reply.TheVariants.{One}
use Rattle.protocol.specs.declared.reply.Value.TheVariants.{Natural}
use Rattle.protocol.specs.Reply.{verdict_reply}
use Rattle.questions.specs.Ask.{ask_reply}
use Rattle.calls.specs.Words.{pixel_word, fill_word, line_word, triangle_word, outline_word, circle_word, trace_word}

-- a call, by what a line asks for: the reply, and the bytes; none, and the bytes as they were, where it asks for something else
abbrev pub said_some : Reply × List ℕ → Option Reply × List ℕ
said_some c = (Some c.0, c.1)

abbrev pub called : {A : Type 0} → (A → Reply × List ℕ) → List ℕ → Option A → Option Reply × List ℕ
called made b asked = option_map_or (λ a. said_some (made a)) asked (None, b)

-- ---- `pixel X Y C`: number, whether it was inside the frame (02, T-02)
abbrev pub placed_said : Placed × List ℕ → Reply × List ℕ
placed_said c = (verdict_reply (record { number = c.0.number; yes = c.0.inside }), c.1)

unfoldable pub pixel_call : List ℕ → ℕ → Frame → List ℕ → Option Reply × List ℕ
pixel_call said at f b = called (λ a. placed_said (pixel_outcome f a.0 a.1 b)) b (last_two said (next_point said at) (next_u32 said))

-- ---- a drawing on the whole frame: number, how many pixels of it the figure contains (02, T-02)
abbrev pub drawn_reply : Drawn → Reply
drawn_reply d = One d.number (Natural d.count)

abbrev pub drawn_said : Drawn × List ℕ → Reply × List ℕ
drawn_said c = (drawn_reply c.0, c.1)

-- `fill C`
unfoldable pub fill_call : List ℕ → ℕ → Frame → List ℕ → Option Reply × List ℕ
fill_call said at f b = called (λ c. drawn_said (outcome f (fill_drawing c) b)) b (last_read said (next_u32 said at))

-- `line X1 Y1 X2 Y2 C`, and `trace`: a connected line (02, T-05)
unfoldable pub ends_and_colour : List ℕ → ℕ → Option ((Point × Point) × ℕ)
ends_and_colour said at = last_two said (next_ends said at) (next_u32 said)

unfoldable pub ends_call : (Point → Point → ℕ → Drawing) → List ℕ → ℕ → Frame → List ℕ → Option Reply × List ℕ
ends_call drawing said at f b = called (λ a. drawn_said (outcome f (drawing a.0.0 a.0.1 a.1) b)) b (ends_and_colour said at)

-- `triangle X1 Y1 X2 Y2 X3 Y3 C`, and `outline`
unfoldable pub corners_and_colour : List ℕ → ℕ → Option (Corners × ℕ)
corners_and_colour said at = last_two said (next_corners said at) (next_u32 said)

unfoldable pub corners_call : (Point → Point → Point → ℕ → Drawing) → List ℕ → ℕ → Frame → List ℕ → Option Reply × List ℕ
corners_call drawing said at f b = called (λ a. drawn_said (outcome f (drawing a.0.a a.0.b a.0.c a.1) b)) b (corners_and_colour said at)

-- `circle L T D C`
unfoldable pub circle_call : List ℕ → ℕ → Frame → List ℕ → Option Reply × List ℕ
circle_call said at f b =
    called (λ a. drawn_said (outcome f (circle_drawing a.0.0 a.0.1 a.1) b)) b (last_two said (next_circle said at) (next_u32 said))

-- ---- a call by its word; a line that starts with another word may be a question, and leaves the bytes as they were
abbrev pub call_table : List ℕ → ℕ → Frame → List ℕ → List (List ℕ × (Option Reply × List ℕ))
call_table said at f b =
    (pixel_word, pixel_call said at f b)
    ∷ (fill_word, fill_call said at f b)
    ∷ (line_word, ends_call line_drawing said at f b)
    ∷ (triangle_word, corners_call triangle_drawing said at f b)
    ∷ (outline_word, corners_call outline_drawing said at f b)
    ∷ (circle_word, circle_call said at f b)
    ∷ (trace_word, ends_call connected_drawing said at f b)
    ∷ []

abbrev pub draw_call : List ℕ → List ℕ → ℕ → Frame → List ℕ → Option Reply × List ℕ
draw_call word said at f b = meant word (call_table said at f b) (ask_reply word said at, b)
