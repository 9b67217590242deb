-- The columns of an edge's points on one of its rows in closed form, counted from its start: the edge is w wide and h high, the row v below the start.
-- 01 has no such form: proofs/Offsets.antt has that these are the columns that its rule for lines gives.
use Rattle.std.specs.Prelude.{cond, ℕ, min, leb, eqb}
use Rattle.line.specs.Line.{moves}
use Rattle.line.specs.Reach.{reach, reach_from}

-- the first and the last of any edge: a level one has all its columns on its row, a steep one has one on each row; of a low one they are the steps with v moves
unfoldable pub first_offset : ℕ → ℕ → ℕ → ℕ
first_offset w h v = cond (eqb h 0) 0 (cond (leb w h) (moves h w v) (reach_from w h v))

unfoldable pub last_offset : ℕ → ℕ → ℕ → ℕ
last_offset w h v = cond (eqb h 0) w (cond (leb w h) (moves h w v) (min w (reach w h v)))
