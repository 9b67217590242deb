-- The tests that refuse the questions on a connected line: "Refusals as for a line" (02, T-05). The answers are the line's.
use Rattle.std.specs.Prelude.{[], ◌∷◌, ◌++◌, ℕ, ltb}
use Rattle.refusals.specs.First.{Tests}
use Rattle.geometry.specs.declared.Point.{Point}
use Rattle.line.specs.Answer.{end_tests}
use Rattle.connected.specs.Connected.{last_index}

-- of its point at an index: 5, then 7, an index past the last
unfoldable pub index_tests : Point → Point → ℕ → Tests
index_tests s e i = end_tests s e ++ ((7, ltb (last_index s e) i) ∷ [])
