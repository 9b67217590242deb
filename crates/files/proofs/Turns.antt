-- Laws of the lines on the file buffer: what one is answered and what it leaves. Assumes nothing.
use mathlib.Core.Path.{◌≡◌, refl, ap, ◌∙◌}
use mathlib.Core.Bool.{Bool}
use mathlib.Core.Logic.{◌⊎◌, inl, inr}
use mathlib.Core.List.{List, [], ◌++◌}
use Prim.Native.Nat.{ℕ, ◌-◌, ◌≤◌, ◌<◌}
use native.Mathlib.Nat.{le_of_lt}
use native.Mathlib.Omega.{arith}
use lib.ListN.{length, take, drop, drop_of_length-le}
use Rattle.std.specs.Bool.{then_some}
use Rattle.std.specs.Prelude.{Option, Some, None, Result, Ok, Err, ⊤}
use Rattle.refusals.specs.Refusal.{as_number}
use Rattle.refusals.specs.declared.Refusal.{Refusal}
use Rattle.frames.specs.Answer.{as_size}
use Rattle.protocol.specs.Reply.{count_reply, number_reply}
use Rattle.frames.specs.declared.Size.{Size}
use Rattle.text.proofs.Numbers.{rest_is}
use Rattle.readers.specs.Figures.{last_u32}
use Rattle.readers.proofs.Letters.{choices}
use Rattle.readers.proofs.Readings.{last_most}
use Rattle.protocol.specs.declared.reply.Reply.{Reply}
use Rattle.protocol.specs.declared.reply.Reply.TheVariants.{Number, One}
use Rattle.protocol.specs.declared.reply.Value.TheVariants.{Natural}
use Rattle.protocol.specs.Bytes.{is_hex, hex_put}
use Rattle.protocol.proofs.Hexadecimal.{put_other}
use Rattle.calls.specs.Draw.{said_some}
use Rattle.calls.proofs.Calls.{said_beside}
use Rattle.screens.specs.declared.Screen.{Screen}
use Rattle.screens.specs.declared.Turn.{Turn}
use Rattle.screens.specs.Screen.{turn}
use Rattle.files.specs.Files.{Buffers, image_said, bytes_said, load_said, file_turn, screen_turn}
use Rattle.screens.proofs.Turns.{turn_lent, lent_count}

-- ---- a part of the file buffer that a line names by its length
module _ (said : List ℕ) (at value : ℕ) (file : List ℕ) (size : length file ≡ 65536) (e : Some value ≡ last_u32 65536 said at) where
  pub part_within : value ≤ length file
  part_within = omega (arith, last_most 65536 said at value e)

  pub part_count : value ≡ length (take value file)
  part_count = lent_count value file part_within

-- ---- the file: what writing an image into its first bytes leaves, and what a turn on it and one on the screen leave
size_told : (v : Result ℕ Refusal) → count_reply v ≡ One (as_size v).number (Natural (as_size v).bytes)
size_told (Ok n) = refl
size_told (Err e) = refl

pub image_said_lem : (file : List ℕ) (room : ℕ) (v : Result ℕ Refusal) {r : Reply} {left : List ℕ} {w : Size × List ℕ} → r ≡ count_reply v
    → ◌≡◌ {A = Size × List ℕ} (as_size v, left) w → ◌≡◌ {A = Option Reply × List ℕ} (Some r, left ++ drop room file) (said_some (image_said file room w))
image_said_lem file room v {left = left} e h =
    ap {B = Option Reply × List ℕ} (λ x. (Some x, left ++ drop room file)) (e ∙ size_told v) ∙ ap (λ (w : Size × List ℕ). said_some (image_said file room w)) h

number_told : (v : Result ⊤ Refusal) → number_reply v ≡ Number (as_number v)
number_told (Ok u) = refl
number_told (Err e) = refl

pub load_said_lem : (v : Result ⊤ Refusal) {r : Reply} {left : List ℕ} {w : ℕ × List ℕ} → r ≡ number_reply v → ◌≡◌ {A = ℕ × List ℕ} (as_number v, left) w
    → ◌≡◌ {A = Option Reply × List ℕ} (Some r, left) (said_some (load_said w))
load_said_lem v {left = left} e h = ap {B = Option Reply × List ℕ} (λ x. (Some x, left)) (e ∙ number_told v) ∙ ap (λ (w : ℕ × List ℕ). said_some (load_said w)) h

-- bytes that the rest of a line is: there is none, or it is put as it stands
module _ (said : List ℕ) (at value : ℕ) (file : List ℕ) where
  pub bytes_none : {r : Option Reply} → r ≡ None → (length said < at) ⊎ (length said < length said)
      → ◌≡◌ {A = Option Reply × List ℕ} (r, file) (bytes_said (hex_put (drop at said) value file))
  unfolding is_hex
  bytes_none q (inl h) = said_beside file q ∙ rw (drop_of_length-le said (le_of_lt h)) (ap bytes_said (put_other [] value file refl))
  bytes_none q (inr h) = absurd (omega arith)

  pub bytes_put : {put : Bool} {left rest : List ℕ} {r : Option Reply} → rest ≡ take (length said - at) (drop at said)
      → ◌≡◌ {A = Bool × List ℕ} (put, left) (hex_put rest value file)
      → r ≡ then_some put (Number 0) → ◌≡◌ {A = Option Reply × List ℕ} (r, left) (bytes_said (hex_put (drop at said) value file))
  bytes_put {left = left} f e q = said_beside left q ∙ ap bytes_said (e ∙ ap (λ (s : List ℕ). hex_put s value file) (f ∙ rest_is said at))

pub turn_file : (s : Screen) (m : List ℕ) {r : Option Reply} {left : List ℕ} {c : Option Reply × List ℕ} → ◌≡◌ {A = Option Reply × List ℕ} (r, left) c
    → ◌≡◌ {A = Turn × Buffers} (turn s r, (m, left)) (file_turn s m c)
turn_file s m e = ap (file_turn s m) e

pub turn_screen : (file : List ℕ) {t : Turn} {left : List ℕ} {c : Turn × List ℕ} → ◌≡◌ {A = Turn × List ℕ} (t, left) c
    → ◌≡◌ {A = Turn × Buffers} (t, (left, file)) (screen_turn file c)
turn_screen file e = ap (screen_turn file) e

pub ruleset file_words = (choices, turn_file, turn_screen, turn_lent, lent_count)
