-- The file buffer: what `image` and `wipe` (02, T-01), `bytes` and `load` (02, T-06) answer and leave.
use Rattle.std.specs.Prelude.{Bool, List, [], ◌∷◌, ◌++◌, ℕ, take, drop, Option, None}
use Rattle.std.specs.Bool.{then_some}
use Rattle.std.specs.Option.{option_map_or}
use Rattle.frames.specs.declared.Frame.{Frame}
use Rattle.frames.specs.declared.Size.{Size}
use Rattle.netpbm.specs.Reading.{loaded}
use Rattle.netpbm.specs.Written.{written}
use Rattle.text.specs.Fields.{next_u32}
use Rattle.readers.specs.Words.{meant}
use Rattle.protocol.specs.declared.reply.Reply.{Reply}
use Rattle.protocol.specs.declared.reply.Reply.TheVariants.{Number}
use Rattle.protocol.specs.Bytes.{hex_put}
use Rattle.screens.specs.declared.Screen.{Screen}
use Rattle.screens.specs.declared.Turn.{Turn}
use Rattle.screens.specs.Screen.{turn, size_said, of_at_most, preset_call, lent_turn, response}
use Rattle.files.specs.Words.{image_word, wipe_word, bytes_word, load_word}

-- the bytes of the frame's buffer, and those of the file's
abbrev pub Buffers : Type 0
Buffers = List ℕ × List ℕ

-- `image ROOM`: the frame written into the first ROOM bytes of the file buffer, at most 65,536; the bytes behind them stay
abbrev pub image_said : List ℕ → ℕ → Size × List ℕ → Reply × List ℕ
image_said file room w = (size_said w.0, w.1 ++ drop room file)

unfoldable pub image_call : List ℕ → ℕ → Frame → List ℕ → List ℕ → Option Reply × List ℕ
image_call said at f b file = of_at_most 65536 (λ n. image_said file n (written f b (take n file))) file said at

-- `bytes AT HEX`: the file buffer's bytes from AT on become HEX, the rest of the line; behind an AT that is no number, or the last field, there is no rest
abbrev pub bytes_said : Bool × List ℕ → Option Reply × List ℕ
bytes_said w = (then_some w.0 (Number 0), w.1)

unfoldable pub bytes_call : List ℕ → ℕ → List ℕ → Option Reply × List ℕ
bytes_call said at file = option_map_or (λ n. bytes_said (hex_put (drop n.1 said) n.0 file)) (next_u32 said at) (None, file)

-- `load LENGTH`: the first LENGTH bytes of the file buffer, at most 65,536, read into the frame
abbrev pub load_said : ℕ × List ℕ → Reply × List ℕ
load_said w = (Number w.0, w.1)

unfoldable pub load_call : List ℕ → ℕ → Frame → List ℕ → List ℕ → Option Reply × List ℕ
load_call said at f file b = of_at_most 65536 (λ n. load_said (loaded f (take n file) b)) b said at

-- ---- a line by its word, all but those that show bytes: a turn on the file leaves the screen and its buffer
abbrev pub file_turn : Screen → List ℕ → Option Reply × List ℕ → Turn × Buffers
file_turn s m c = (turn s c.0, (m, c.1))

abbrev pub screen_turn : List ℕ → Turn × List ℕ → Turn × Buffers
screen_turn file t = (t.0, (t.1, file))

-- `wipe V`: every byte of the file buffer becomes V, as `preset` does it to the other
abbrev pub file_table : List ℕ → ℕ → Screen → Buffers → List (List ℕ × (Turn × Buffers))
file_table said at s m =
    (image_word, file_turn s m.0 (image_call said at s.frame (take s.lent m.0) m.1))
    ∷ (wipe_word, file_turn s m.0 (preset_call said at m.1))
    ∷ (bytes_word, file_turn s m.0 (bytes_call said at m.1))
    ∷ (load_word, screen_turn m.1 (lent_turn s m.0 (load_call said at s.frame m.1 (take s.lent m.0))))
    ∷ []

abbrev pub act : List ℕ → List ℕ → ℕ → Screen → Buffers → Turn × Buffers
act word said at s m = meant word (file_table said at s m) (screen_turn m.1 (response word said at s m.0))
