-- One edge of a triangle, walked from its upper end: which of its points are on a row, and where its walker stands.
use Rattle.std.specs.Prelude.{◌≡◌, ◌⊎◌, ℕ, ◌+◌, ◌≤◌, ◌<◌, ℤ, pos, ◌+ℤ◌, ◌≤ℤ◌, ◌<ℤ◌}
use Rattle.geometry.specs.declared.Point.{Point}
use Rattle.geometry.specs.Extreme.{lesser, greater}
use Rattle.line.specs.declared.Walker.{Walker}
use Rattle.line.specs.Line.{points, point_at}
use Rattle.line.specs.Walk.{WalkerAt}
use Rattle.edges.specs.declared.Side.{Side}
use Rattle.edges.specs.declared.Met.{Met}
use Rattle.edges.specs.declared.Run.{Run}

-- (x, y) is one of the first n points of the line
pub record OnEdge (s e : Point) (n : ℕ) (x y : ℤ) : Type 0 where
  pub step : ℕ
  pub few : step < n
  pub column : x ≡ (point_at s e step).0
  pub row : y ≡ (point_at s e step).1

-- the walker has handed out k of the n points that are asked of it
pub record WalkedTo (s e : Point) (n k : ℕ) (w : Walker) (left : ℕ) : Type 0 where
  pub at : WalkerAt s e k w
  pub sum : k + left ≡ n
  pub few : n ≤ points s e

-- the walker has handed out exactly the points above row y
pub record EdgeAt (s e : Point) (n : ℕ) (y : ℤ) (w : Walker) (left : ℕ) : Type 0 where
  pub k : ℕ
  pub here : WalkedTo s e n k w left
  pub done : (i : ℕ) → i < k → (point_at s e i).1 <ℤ y
  pub ahead : (i : ℕ) → k ≤ i → i < n → y ≤ℤ (point_at s e i).1

-- some edge, and a count that has room for the points that are left of it
pub record Going (a : Side) (m : Met) : Type 0 where
  pub s : Point
  pub e : Point
  pub n : ℕ
  pub k : ℕ
  pub here : WalkedTo s e n k a.walker a.left
  pub room : m.count + a.left ≤ 4294967295

-- q is what comes after m by one more point, that of step k
pub record Taken (s e : Point) (n k : ℕ) (m : Met) (q : Run) : Type 0 where
  pub here : WalkedTo s e n (k + 1) q.side.walker q.side.left
  pub low : q.met.low ≡ lesser m.low (point_at s e k).0
  pub high : q.met.high ≡ greater m.high (point_at s e k).0

-- q is what comes after m by the points of row y: the columns are widened by exactly those
pub record Ran (s e : Point) (n : ℕ) (y : ℤ) (m : Met) (q : Run) : Type 0 where
  pub next : EdgeAt s e n (y +ℤ pos 1) q.side.walker q.side.left
  pub low : q.met.low ≤ℤ m.low
  pub high : m.high ≤ℤ q.met.high
  pub holds : (c : ℤ) → OnEdge s e n c y → (q.met.low ≤ℤ c) × (c ≤ℤ q.met.high)
  pub low_is : (q.met.low ≡ m.low) ⊎ OnEdge s e n q.met.low y
  pub high_is : (q.met.high ≡ m.high) ⊎ OnEdge s e n q.met.high y
