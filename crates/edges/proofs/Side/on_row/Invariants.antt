-- `edges::Side::on_row` hands out points while they are on row y: rows never go up along an edge, so it has them all. Assumes nothing.
use mathlib.Core.Path.{◌≡◌}
use Prim.Native.Nat.{ℕ, ◌+◌}
use Rattle.geometry.specs.declared.Point.{Point}
use Rattle.edges.specs.Side.{WalkedTo}
use Rattle.edges.proofs.Runs.{Part}
use Rattle.edges.proofs.Side.on_row.Given as goal

abbrev pub invariant-loop : goal.invariant-loop
invariant-loop l =
    (l.run.met.count + l.run.side.left ≡ l.fn.met.count + l.fn.self.left) × (l.counter + l.run.side.left ≡ l.fn.self.left)
    × ((s e : Point) (n k : ℕ) → WalkedTo s e n k l.fn.self.walker l.fn.self.left → Part s e n k l.y l.fn.met l.run)
