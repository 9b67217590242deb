-- A run: turn by turn from the first state on, and what is done at its end. `lines` and `last` are what the program does with the lines that are there and
-- with the last one: where it stands then, and what they left of what it works on. `bytes` is the output's buffer of that; it has room for what they filled.
use Rattle.std.specs.Prelude.{◌≡◌, Bool, true, false, List, ℕ, ◌≤◌, length}
use Rattle.streams.specs.declared.State.{State}
use Rattle.streams.specs.State.{started, goes_on, written, emptied}
use Rattle.streams.specs.Refill.{Refilled}

-- after some turns: the lines, a write if there is much to be written, and a read if no line is left
pub data Ran {O : Type 0} (bytes : O → List ℕ) (lines : List ℕ → State → O → State × O) (first : O) : State → List ℕ → O → Type 0 where
  begun : (input : List ℕ) → Ran bytes lines first started input first
  turn : (st : State) (input : List ℕ) (o : O) (failed : Bool) (r : State) (after : List ℕ)
      → Ran bytes lines first st input o → goes_on st ≡ true → (lines input st o).0.at ≤ length (bytes (lines input st o).1)
      → Refilled input (written (lines input st o).0 failed) r after → Ran bytes lines first r after (lines input st o).1

-- a run that is over, with what the buffers hold then: no turn was to come, the last line was looked at, and all was written
pub record Ended {O : Type 0} (bytes : O → List ℕ) (lines last : List ℕ → State → O → State × O) (first : O) (r : State) (input out : List ℕ) : Type 0 where
  pub st : State
  pub left : O
  pub ran : Ran bytes lines first st input left
  pub over : goes_on st ≡ false
  pub leaves : out ≡ bytes (last input st left).1
  pub fits : (last input st left).0.at ≤ length out
  pub done : r ≡ emptied (last input st left).0 r.unwritten
