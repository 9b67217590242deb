-- THE FIRST TEST THAT HOLDS WINS (02, T-01, T-06, T-07): each number is answered exactly when its test holds and none before it does, and 0 exactly when none holds. 9 comes
-- behind 10, and 12 behind 13, so that it is not the lowest number that is answered. Assumes nothing.
use mathlib.Core.Path.{refl}
use mathlib.Core.List.{List}
use Prim.Native.Nat.{ℕ}
use Rattle.refusals.proofs.First.{Exact, first_wins}
use Rattle.frames.specs.declared.Frame.{Frame}
use Rattle.frames.specs.Description.{description_tests, frame_tests}
use Rattle.netpbm.specs.Written.{image_size_tests, write_tests}
use Rattle.netpbm.specs.Reading.{file_tests, load_tests}

-- the length of a file: 1, 2, 14, 10
pub sizing : (f : Frame) → Exact (image_size_tests f)
unfolding description_tests image_size_tests
sizing f = first_wins _ refl

-- writing a frame over len bytes into room bytes: 1, 2, 14, 3, 10, 9
pub writing : (f : Frame) (len room : ℕ) → Exact (write_tests f len room)
unfolding description_tests frame_tests write_tests
writing f len room = first_wins _ refl

-- reading a file into a frame over len bytes: 1, 2, 14, 3, 10, 11, 13, 12
pub loading : (f : Frame) (len : ℕ) (s : List ℕ) → Exact (load_tests f len s)
unfolding description_tests frame_tests file_tests load_tests
loading f len s = first_wins _ refl
