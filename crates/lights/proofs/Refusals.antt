-- THE FIRST TEST THAT HOLDS WINS (02, T-02): each number is answered exactly when its test holds and none before it does, and 0 exactly when none holds.
-- Assumes nothing.
use mathlib.Core.Path.{refl}
use Prim.Native.Nat.{ℕ}
use Rattle.refusals.proofs.First.{Exact, first_wins}
use Rattle.frames.specs.declared.Frame.{Frame}
use Rattle.frames.specs.Description.{description_tests, frame_tests}
use Rattle.lights.specs.Answer.{lit_tests}

-- the lit pixels of a frame over len bytes: 1, 2, 3, 10
pub counting_lit : (f : Frame) (len : ℕ) → Exact (lit_tests f len)
unfolding description_tests frame_tests lit_tests
counting_lit f len = first_wins _ refl
