-- Which pixels a figure has, straight from 01 and 02.
use Rattle.std.specs.Prelude.{◌≡◌, Bool, cond, ◌⊎◌, ◌↔◌, ℕ, ◌+◌, ◌*◌, ◌-◌, ◌/◌, ◌≤◌, ◌<◌, eqb, leb, ℤ, pos, nat_abs, ◌+ℤ◌, ◌-ℤ◌, ◌*ℤ◌, ◌≤ℤ◌, ◌<ℤ◌}
use Rattle.std.specs.Int.Signed.{le_z}
use Rattle.geometry.specs.declared.Point.{Point}
use Rattle.drawing.specs.declared.Figure.{Figure}
use Rattle.drawing.specs.declared.Figure.TheVariants.{Fill, Pixel, Line, Connected, Triangle, Outline, Circle}

-- ---- 01, "Lines"
-- so many places from one coordinate towards another
abbrev pub towards : ℤ → ℤ → ℕ → ℤ
towards from to n = cond (le_z from to) (from +ℤ pos n) (from -ℤ pos n)

module _ (s e : Point) where
  -- "Let a and b be the absolute differences in x and y"
  abbrev pub a : ℕ
  a = nat_abs (e.0 -ℤ s.0)

  abbrev pub b : ℕ
  b = nat_abs (e.1 -ℤ s.1)

  -- "If b is at least a, y is the major axis, else x"
  abbrev pub downwards : Bool
  downwards = leb a b

  -- "Major is the larger, minor the smaller"
  abbrev pub larger : ℕ
  larger = cond downwards b a

  abbrev pub smaller : ℕ
  smaller = cond downwards a b

  -- "For major 0, m is 0; otherwise m = floor((2·minor·k + major - 1) / (2·major))"
  abbrev pub m : ℕ → ℕ
  m k = cond (eqb larger 0) 0 ((2 * smaller * k + larger - 1) / (2 * larger))

  -- "At step k the point has moved k along the major axis towards the end and m along the minor axis"
  abbrev pub at_step : ℕ → Point
  at_step k = cond downwards (towards s.0 e.0 (m k), towards s.1 e.1 k) (towards s.0 e.0 k, towards s.1 e.1 (m k))

  -- "The line has major + 1 points, steps 0 to major"
  pub record OnLine (p : Point) : Type 0 where
    pub step : ℕ
    pub walked : step ≤ larger
    pub here : p ≡ at_step step

-- ---- 01, "Triangles"
-- "Sort vertices by y, then x"
abbrev pub InOrder : Point → Point → Type 0
InOrder p q = (p.1 <ℤ q.1) ⊎ ((p.1 ≡ q.1) × (p.0 ≤ℤ q.0))

-- the last three are the first three, in one of the six orders
pub data Arranged : Point → Point → Point → Point → Point → Point → Type 0 where
  as123 : {v1 v2 v3 : Point} → Arranged v1 v2 v3 v1 v2 v3
  as132 : {v1 v2 v3 : Point} → Arranged v1 v2 v3 v1 v3 v2
  as213 : {v1 v2 v3 : Point} → Arranged v1 v2 v3 v2 v1 v3
  as231 : {v1 v2 v3 : Point} → Arranged v1 v2 v3 v2 v3 v1
  as312 : {v1 v2 v3 : Point} → Arranged v1 v2 v3 v3 v1 v2
  as321 : {v1 v2 v3 : Point} → Arranged v1 v2 v3 v3 v2 v1

-- "to p1, p2, p3"
pub record Sorting (v1 v2 v3 : Point) : Type 0 where
  pub p1 : Point
  pub p2 : Point
  pub p3 : Point
  pub arranged : Arranged v1 v2 v3 p1 p2 p3
  pub upper : InOrder p1 p2
  pub lower : InOrder p2 p3

-- "twice the signed area": the shoelace formula
abbrev pub area : Point → Point → Point → ℤ
area p q r = (p.0 *ℤ (q.1 -ℤ r.1)) +ℤ (q.0 *ℤ (r.1 -ℤ p.1)) +ℤ (r.0 *ℤ (p.1 -ℤ q.1))

-- "all at least 0 or all at most 0"
abbrev pub AllAtLeast : ℤ → ℤ → ℤ → Type 0
AllAtLeast x y z = (pos 0 ≤ℤ x) × (pos 0 ≤ℤ y) × (pos 0 ≤ℤ z)

abbrev pub AllAtMost : ℤ → ℤ → ℤ → Type 0
AllAtMost x y z = (x ≤ℤ pos 0) × (y ≤ℤ pos 0) × (z ≤ℤ pos 0)

module _ (v1 v2 v3 p : Point) where
  -- "Edges run p1 to p2, p1 to p3, p2 to p3"
  abbrev pub OnEdge : Sorting v1 v2 v3 → Type 0
  OnEdge t = OnLine t.p1 t.p2 p ⊎ (OnLine t.p1 t.p3 p ⊎ OnLine t.p2 t.p3 p)

  -- "Area not zero: a pixel is contained if the doubled areas .. are all at least 0 or all at most 0, or if it is a point of an edge"
  -- "Area zero: contained exactly if it is a point of the line p1 to p3"
  pub record InTriangle : Type 0 where
    pub sorting : Sorting v1 v2 v3
    pub solid : (area v1 v2 v3 ≡ pos 0 → ⊥)
        → AllAtLeast (area p v1 v2) (area p v2 v3) (area p v3 v1) ⊎ (AllAtMost (area p v1 v2) (area p v2 v3) (area p v3 v1) ⊎ OnEdge sorting)
    pub flat : area v1 v2 v3 ≡ pos 0 → OnLine sorting.p1 sorting.p3 p

  -- "the edge points" of a row: those of the three edges, and "zero area: the line p1 to p3 only"
  pub record EdgePoint : Type 0 where
    pub sorting : Sorting v1 v2 v3
    pub solid : (area v1 v2 v3 ≡ pos 0 → ⊥) → OnEdge sorting
    pub flat : area v1 v2 v3 ≡ pos 0 → OnLine sorting.p1 sorting.p3 p

  -- 02, T-04: "an outline now walks the three sorted edges that the fill uses, also at zero area"
  pub record OnOutline : Type 0 where
    pub sorting : Sorting v1 v2 v3
    pub edge : OnEdge sorting

-- "A row's span runs from the smallest x of the edge points on that row to one past the largest"; "A row outside the triangle has the empty span 0 to 0"
pub data RowSpan (v1 v2 v3 : Point) (y : ℤ) : ℤ → ℤ → Type 0 where
  some : (first last : ℤ) → EdgePoint v1 v2 v3 (first, y) → EdgePoint v1 v2 v3 (last, y) → ((x : ℤ) → EdgePoint v1 v2 v3 (x, y) → (first ≤ℤ x) × (x ≤ℤ last))
      → RowSpan v1 v2 v3 y first (last +ℤ pos 1)
  none : ((x : ℤ) → EdgePoint v1 v2 v3 (x, y) → ⊥) → RowSpan v1 v2 v3 y (pos 0) (pos 0)

-- ---- 01, "Circles"
-- "The threshold is d·d - floor(d/2) for d up to 4, else d·d"
abbrev pub limit : ℕ → ℕ
limit d = cond (leb d 4) (d * d - d / 2) (d * d)

abbrev pub squared : ℤ → ℤ
squared z = z *ℤ z

-- "the squared distance of its doubled place from the doubled centre", which is "(2l + d - 1, 2t + d - 1)", "is below the threshold"
abbrev pub InCircle : Point → ℕ → Point → Type 0
InCircle c d p =
    (squared (pos 2 *ℤ p.0 -ℤ (pos 2 *ℤ c.0 +ℤ pos d -ℤ pos 1)) +ℤ squared (pos 2 *ℤ p.1 -ℤ (pos 2 *ℤ c.1 +ℤ pos d -ℤ pos 1))) <ℤ pos (limit d)

-- "A row's span starts at the first contained column of the box and is shortened equally on the right; a row outside the box has 0 to 0": between its ends lie the columns
-- that are contained, and no others
pub data CircleSpan (c : Point) (d : ℕ) (y : ℤ) : ℤ → ℤ → Type 0 where
  some : {start end : ℤ} → c.1 ≤ℤ y → y <ℤ (c.1 +ℤ pos d) → InCircle c d (start, y) → start -ℤ c.0 ≡ (c.0 +ℤ pos d) -ℤ end
      → ((x : ℤ) → ((start ≤ℤ x) × (x <ℤ end)) ↔ InCircle c d (x, y)) → CircleSpan c d y start end
  none : (c.1 ≤ℤ y → y <ℤ (c.1 +ℤ pos d) → ⊥) → CircleSpan c d y (pos 0) (pos 0)

-- ---- 02, T-05: "an extra point at every minor step, on the right side"
module _ (s e : Point) where
  -- between the points of steps k and k + 1, where m grows, two pixels are beside both: in the column of the first, and in its row
  pub record MinorStep (k : ℕ) : Type 0 where
    pub before : k < larger s e
    pub grows : m s e (k + 1) ≡ m s e k + 1

  abbrev pub in_column : ℕ → Point
  in_column k = ((at_step s e k).0, (at_step s e (k + 1)).1)

  abbrev pub in_row : ℕ → Point
  in_row k = ((at_step s e (k + 1)).0, (at_step s e k).1)

  -- the extra one is on the right of one who looks from the start to the end, rows being counted down
  pub record Extra (p : Point) : Type 0 where
    pub step : ℕ
    pub minor : MinorStep step
    pub beside : (p ≡ in_column step) ⊎ (p ≡ in_row step)
    pub right : pos 0 <ℤ area s e p

  abbrev pub OnTrace : Point → Type 0
  OnTrace p = OnLine s e p ⊎ Extra p

-- ---- any figure that a call draws
abbrev pub Contains : Figure → Point → Type 0
Contains Fill p = Unit {0}
Contains (Pixel q) p = p ≡ q
Contains (Line s e) p = OnLine s e p
Contains (Connected s e) p = OnTrace s e p
Contains (Triangle v1 v2 v3) p = InTriangle v1 v2 v3 p
Contains (Outline v1 v2 v3) p = OnOutline v1 v2 v3 p
Contains (Circle c d) p = InCircle c d p
