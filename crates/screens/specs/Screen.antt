-- The buffer's bytes, the description of the frame and the lent length: what `frame`, `preset`, `read`, `imagesize` and `lit` answer and leave.
use Rattle.std.specs.Prelude.{false, ◌&&◌, List, [], ◌∷◌, ◌++◌, ℕ, eqb, leb, length, take, drop, Option, Some, None, option_and_then}
use Rattle.std.specs.Bool.{then_some}
use Rattle.std.specs.Option.{option_map_or}
use Rattle.refusals.specs.First.{first}
use Rattle.layout.specs.Count.{lit_in}
use Rattle.layout.specs.Digits.{set_run}
use Rattle.frames.specs.declared.Frame.{Frame}
use Rattle.frames.specs.declared.Read.{Read}
use Rattle.frames.specs.declared.Size.{Size}
use Rattle.frames.specs.Answer.{sized, read}
use Rattle.frames.specs.Description.{described, packed, raster, size, description_tests, read_tests, colour_at}
use Rattle.lights.specs.declared.Lights.{Lights}
use Rattle.lights.specs.Answer.{lit_tests, lights}
use Rattle.netpbm.specs.Image.{image_length}
use Rattle.netpbm.specs.Written.{image_size_tests}
use Rattle.text.specs.Fields.{next_u32}
use Rattle.readers.specs.Figures.{then_read, line_end, last_read, last_u32, next_point}
use Rattle.readers.specs.Words.{meant}
use Rattle.protocol.specs.declared.reply.Reply.{Reply}
use Rattle.protocol.specs.declared.reply.Reply.TheVariants.{Number, One}
use Rattle.protocol.specs.declared.reply.Value.TheVariants.{Natural}
use Rattle.protocol.specs.Reply.{replied}
use Rattle.screens.specs.declared.Screen.{Screen}
use Rattle.screens.specs.declared.Turn.{Turn}
use Rattle.calls.specs.Draw.{called, draw_call}
use Rattle.screens.specs.Words.{frame_word, preset_word, read_word, image_size_word, lit_word}

-- every byte the same
abbrev pub all_set : ℕ → List ℕ → List ℕ
all_set v m = set_run 0 (length m) (λ j. v) m

abbrev pub turn : Screen → Option Reply → Turn
turn s r = record { screen = s; reply = r }

-- ---- `frame W H DEPTH ORDER LENGTH DISTANCE`: the description, if ORDER is 0 or 1 and LENGTH at most 65,536
abbrev pub screen_of : Frame → ℕ → Screen
screen_of f lent = record { frame = f; lent = lent }

-- before any line: width 0, height 0, depth 1, little end first, no gap, length 0
abbrev pub start : Screen
start = screen_of (packed 0 0 1 false) 0

-- a number more behind what was found
abbrev pub and_u32 : {A : Type 0} → List ℕ → Option (A × ℕ) → Option ((A × ℕ) × ℕ)
and_u32 said found = then_read (λ a n. (a, n)) found (next_u32 said)

abbrev pub Six : Type 0
Six = ((((ℕ × ℕ) × ℕ) × ℕ) × ℕ) × ℕ

abbrev pub six_read : List ℕ → ℕ → Option (Six × ℕ)
six_read said at = and_u32 said (and_u32 said (and_u32 said (and_u32 said (and_u32 said (next_u32 said at)))))

abbrev pub described_by : Six → Option Screen
described_by n =
    let lent : ℕ = n.0.1 in
    let order : ℕ = n.0.0.1 in
    then_some (leb order 1 && leb lent 65536) (screen_of (described n.0.0.0.0.0 n.0.0.0.0.1 n.0.0.0.1 (eqb order 1) n.1) lent)

unfoldable pub last_screen : List ℕ → ℕ → Option Screen
last_screen said at = option_and_then described_by (last_read said (six_read said at))

-- the size of the frame, and every byte of the buffer set to 0
abbrev pub size_said : Size → Reply
size_said a = One a.number (Natural a.bytes)

abbrev pub size_of : Frame → Reply
size_of f = size_said (sized (first (description_tests f)) (size f))

abbrev pub framed : Screen → List ℕ → Turn × List ℕ
framed d m = (turn d (Some (size_of d.frame)), all_set 0 m)

unfoldable pub frame_turn : List ℕ → ℕ → Screen → List ℕ → Turn × List ℕ
frame_turn said at s m = option_map_or (λ d. framed d m) (last_screen said at) (turn s None, m)

-- a line of one number, which is at most so much: what is made of it, and else no reply and what was there
abbrev pub of_at_most : ℕ → (ℕ → Reply × List ℕ) → List ℕ → List ℕ → ℕ → Option Reply × List ℕ
of_at_most most made m said at = called made m (last_u32 most said at)

-- ---- `preset V`: every byte of the buffer becomes V, 0 to 255
unfoldable pub preset_call : List ℕ → ℕ → List ℕ → Option Reply × List ℕ
preset_call said at m = of_at_most 255 (λ v. (Number 0, all_set v m)) m said at

-- ---- `read X Y`: number, colour
abbrev pub read_said : Read → Reply
read_said a = One a.number (Natural a.colour)

unfoldable pub read_reply : List ℕ → ℕ → Frame → List ℕ → Option Reply
read_reply said at f b = replied (λ p. read_said (read (first (read_tests f (length b) p)) (colour_at f p b))) (last_read said (next_point said at))

-- ---- `imagesize`: number, how long the frame's image file is
unfoldable pub image_size_reply : List ℕ → ℕ → Frame → Option Reply
image_size_reply said at f = replied (λ e. size_said (sized (first (image_size_tests f)) (image_length f))) (line_end said at)

-- ---- `lit`: number, how many pixels of the one-bit frame are lit (02, T-02)
abbrev pub lit_said : Lights → Reply
lit_said a = One a.number (Natural a.count)

unfoldable pub lit_reply : List ℕ → ℕ → Frame → List ℕ → Option Reply
lit_reply said at f b = replied (λ e. lit_said (lights (first (lit_tests f (length b))) (lit_in (raster f) b))) (line_end said at)

-- ---- a line by its word, all but those on the file and those that show bytes: a turn on the buffer leaves the screen; the calls are on the lent part, and
-- the bytes behind it stay
abbrev pub buffer_turn : Screen → Option Reply × List ℕ → Turn × List ℕ
buffer_turn s c = (turn s c.0, c.1)

abbrev pub lent_turn : Screen → List ℕ → Option Reply × List ℕ → Turn × List ℕ
lent_turn s m c = (turn s c.0, c.1 ++ drop s.lent m)

abbrev pub turn_table : List ℕ → ℕ → Screen → List ℕ → List (List ℕ × (Turn × List ℕ))
turn_table said at s m =
    (frame_word, frame_turn said at s m)
    ∷ (preset_word, buffer_turn s (preset_call said at m))
    ∷ (read_word, (turn s (read_reply said at s.frame (take s.lent m)), m))
    ∷ (image_size_word, (turn s (image_size_reply said at s.frame), m))
    ∷ (lit_word, (turn s (lit_reply said at s.frame (take s.lent m)), m))
    ∷ []

abbrev pub response : List ℕ → List ℕ → ℕ → Screen → List ℕ → Turn × List ℕ
response word said at s m = meant word (turn_table said at s m) (lent_turn s m (draw_call word said at s.frame (take s.lent m)))
