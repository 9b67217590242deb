-- What a program has handed to `write` and what has come to it from `read`: turn by turn, and at the end of its run.
use Rattle.std.specs.Prelude.{cond, List, [], ◌++◌, ℕ, ltb, length, take, drop}
use Rattle.streams.specs.declared.State.{State}
use Rattle.streams.specs.State.{written}
use Rattle.streams.specs.Refill.{whole, rest}
use Rattle.streams.specs.Run.{Ran, begun, turn, Ended}

-- a turn's write: what the buffer is filled with, once that is half of it
abbrev pub flushed : State → List ℕ → List ℕ
flushed st out = cond (ltb st.at 32768) [] (take st.at out)

-- a turn's read: what stands behind the bytes that were kept; none is made if a line is left
abbrev pub brought : List ℕ → State → State → List ℕ → List ℕ
brought input st r after = cond (whole input st) [] (drop (length (rest input st)) (take r.end after))

module _ {O : Type 0} {bytes : O → List ℕ} {lines : List ℕ → State → O → State × O} {first : O} where
  -- handed over after some turns, and come by then
  abbrev pub handed : {st : State} {input : List ℕ} {o : O} → Ran bytes lines first st input o → List ℕ
  handed (begun input) = []
  handed (turn st input o failed r after ran on fits refilled) = handed ran ++ flushed (lines input st o).0 (bytes (lines input st o).1)

  abbrev pub came : {st : State} {input : List ℕ} {o : O} → Ran bytes lines first st input o → List ℕ
  came (begun input) = []
  came (turn st input o failed r after ran on fits refilled) = came ran ++ brought input (written (lines input st o).0 failed) r after

  -- the same at the end, when all that the buffer is filled with is written
  abbrev pub handed_all : {last : List ℕ → State → O → State × O} {r : State} {input out : List ℕ} → Ended bytes lines last first r input out → List ℕ
  handed_all {last} {r} {input} {out} e = handed e.ran ++ take (last input e.st e.left).0.at out

  abbrev pub came_all : {last : List ℕ → State → O → State × O} {r : State} {input out : List ℕ} → Ended bytes lines last first r input out → List ℕ
  came_all e = came e.ran
