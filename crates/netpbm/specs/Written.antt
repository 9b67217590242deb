-- 02, T-01: when a frame is written, and what a call answers and leaves.
use Rattle.std.specs.Prelude.{◌≡◌, Bool, false, not, ◌||◌, List, [], ◌∷◌, ◌++◌, ℕ, eqb, ltb, length}
use Rattle.std.proofs.lemmas.List.Edits.{sets}
use Rattle.refusals.specs.Answer.{if_done}
use Rattle.refusals.specs.First.{Tests, first}
use Rattle.frames.specs.declared.Frame.{Frame}
use Rattle.frames.specs.declared.Size.{Size}
use Rattle.frames.specs.Answer.{sized}
use Rattle.frames.specs.Description.{description_tests, frame_tests}
use Rattle.frames.specs.Judged.{Accepted}
use Rattle.netpbm.specs.Image.{image_bytes, image_length}

-- 10: "another depth or a zero side"
abbrev pub no_format : Frame → Bool
no_format f = not (eqb f.depth 1 || eqb f.depth 8 || eqb f.depth 24) || (eqb f.width 0 || eqb f.height 0)

-- 9: "the output is too short"
abbrev pub no_room : Frame → ℕ → Bool
no_room f room = ltb room (image_length f)

-- the length of a file: 1, 2, 14, 10
unfoldable pub image_size_tests : Frame → Tests
image_size_tests f = description_tests f ++ ((10, no_format f) ∷ [])

-- a frame over len bytes, written into room bytes: 1, 2, 14, 3, "after 3, 10 .., then 9"
unfoldable pub write_tests : Frame → ℕ → ℕ → Tests
write_tests f len room = frame_tests f len ++ ((10, no_format f) ∷ (9, no_room f room) ∷ [])

-- the answer, and the output: with a refusal as it was, else the file from its first byte on, and "bytes past it stay"
unfoldable pub written : Frame → List ℕ → List ℕ → Size × List ℕ
written f b out =
    let n = first (write_tests f (length b) (length out)) in
    (sized n (image_length f), if_done n (sets out 0 (image_bytes f b)) out)

-- what is known of a frame over len bytes that has a format
pub record Writable (f : Frame) (len : ℕ) : Type 0 where
  pub accepted : Accepted f len
  pub format : no_format f ≡ false
