-- The steps at which a line has made so many moves along its minor axis, in closed form: M is the major and n the minor length, v the moves.
-- 01 has no such form: proofs/Reach.antt has that these are the steps at which its rule gives v moves.
use Rattle.std.specs.Prelude.{ℕ, zero, suc, ◌+◌, ◌*◌, ◌/◌}

-- the last with v moves, were the line to go on
unfoldable pub reach : ℕ → ℕ → ℕ → ℕ
reach M n v = (2 * v + 1) * M / (2 * n)

-- the first: one past the last with one fewer
unfoldable pub reach_from : ℕ → ℕ → ℕ → ℕ
reach_from M n zero = 0
reach_from M n (suc v) = reach M n v + 1
