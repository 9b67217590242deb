-- `triangle::bresenham_intersection` answers none for row.before that the edge has not, and else its run, counted from the start in the direction
-- of the edge. Assumes nothing.
use mathlib.Core.Path.{◌≡◌, sym, ◌∙◌}
use mathlib.Core.Bool.{Bool, true, false, cond}
use Prim.Native.Nat.{ℕ, ◌≤◌}
use native.Mathlib.Omega.{arith}
use lib.Dec.{lit<}
use lib.IntN.{ℤ, pos, neg_ℤ, nat_abs, ◌+ℤ◌, ◌-ℤ◌}
use lib.Signed.{◌≤ℤ◌, ◌<ℤ◌, le_z}
use mir.Syntax.{w32}
use mir.Val.{to_z, of_z}
use mir.Facts.{to_z-of_z}
use Rattle.whole.proofs.Difference.{le_nat, lt_nat, eq_nat}
use Rattle.whole.proofs.Machine.{Has, lit, plus, minus, fits, back, nat_is, neg_size, size_pos, le_test, tests}
use Rattle.whole.proofs.Order.{le_sub, le_of, le_trans}
use Rattle.geometry.specs.declared.Point.{Point}
use Rattle.geometry.specs.Bound.{Coord}
use Rattle.geometry.proofs.Bound.{coord, coord_fits}
use Rattle.line.specs.Line.{wide, high}
use Rattle.line.proofs.Lengths.{wide_of, wide_size}
use Rattle.triangle.specs.Offsets.{first_offset, last_offset}
use Rattle.triangle.proofs.Edge.{edge_rows, edge_offsets, edge_run}
use Rattle.triangle.proofs.Spans.{run_span, no_span}
use Rattle.triangle.proofs.bresenham_intersection.Goals as goal
use Rattle.triangle.proofs.bresenham_intersection.Goals.{After-abs_diff-wide, After-offset-last, After-stretch_on-s, Else-bottom-y, Start, then-y-top-via-then-y-top, then-y-top-via-else-y-top+then-bottom-y}

-- the rows as the tests read them
module _ (c : Start) where
  top_is : to_z w32 (of_z w32 c.args.start.1) ≡ c.args.start.1
  top_is = to_z-of_z (coord_fits c.requires.0.0.y)

  bottom_is : to_z w32 (of_z w32 c.args.end.1) ≡ c.args.end.1
  bottom_is = to_z-of_z (coord_fits c.requires.0.1.y)

  y_is : to_z w32 (of_z w32 c.args.y) ≡ c.args.y
  y_is = to_z-of_z c.ranges.y

-- ---- row.before that the edge has not
pub returns-then-y-top : goal.returns-then-y-top
returns-then-y-top c =
    let g = c.args in
    let s = (goal.at.returns-then-y-top c).Start in
    sym (no_span g.start g.end g.y (λ x q.
    let on = edge_rows g.start g.end (x, g.y) c.requires.1 q in
    elim c.then-y-top.branch [
      | then-y-top-via-then-y-top w ↦
          let l : to_z w32 (of_z w32 g.y) <ℤ to_z w32 (of_z w32 g.start.1) = search tests in
          omega (arith, lt_nat l, eq_nat (y_is s), eq_nat (top_is s), le_nat on.0)
      | then-y-top-via-else-y-top+then-bottom-y w ↦
          let l : to_z w32 (of_z w32 g.end.1) <ℤ to_z w32 (of_z w32 g.y) = search tests in
          omega (arith, lt_nat l, eq_nat (y_is s), eq_nat (bottom_is s), le_nat on.1)
    ]))

-- ---- row.before of the edge
module _ (c : Else-bottom-y) where
  abbrev s : Point
  s = c.args.start

  abbrev e : Point
  e = c.args.end

  abbrev y : ℤ
  y = c.args.y

  from : s.1 ≤ℤ y
  from =
      let h : to_z w32 (of_z w32 s.1) ≤ℤ to_z w32 (of_z w32 y) = search tests in
      le_trans (le_of (sym (top_is (goal.at.Else-bottom-y c).Start))) (le_trans h (le_of (y_is (goal.at.Else-bottom-y c).Start)))

  to : y ≤ℤ e.1
  to =
      let h : to_z w32 (of_z w32 y) ≤ℤ to_z w32 (of_z w32 e.1) = search tests in
      le_trans (le_of (sym (y_is (goal.at.Else-bottom-y c).Start))) (le_trans h (le_of (bottom_is (goal.at.Else-bottom-y c).Start)))

  row_coord : Coord y
  row_coord =
      record {
        low = le_trans c.requires.0.0.y.low from;
        high = le_trans to c.requires.0.1.y.high;
      }

-- the edge's width and height, and the row, counted from its start
module _ (c : After-abs_diff-wide) where
  W : c.abs_diff-wide.result ≡ wide (s (goal.at.After-abs_diff-wide c).Else-bottom-y) (e (goal.at.After-abs_diff-wide c).Else-bottom-y)
  W = wide_of c.requires.0.0 c.requires.0.1 c.abs_diff-wide.ensures

  H : Has w32 (to_z w32 (of_z w32 (e (goal.at.After-abs_diff-wide c).Else-bottom-y).1) -ℤ to_z w32 (of_z w32 (s (goal.at.After-abs_diff-wide c).Else-bottom-y).1)) (pos (high (s (goal.at.After-abs_diff-wide c).Else-bottom-y) (e (goal.at.After-abs_diff-wide c).Else-bottom-y))) 262144
  unfolding high
  H =
      let d =
      minus (back (coord c.requires.0.1.y))
      (back (coord c.requires.0.0.y)) tt in
      record { is = d.is ∙ size_pos _ (le_sub (s (goal.at.After-abs_diff-wide c).Else-bottom-y).1 (e (goal.at.After-abs_diff-wide c).Else-bottom-y).1 c.requires.1); size = d.size; room = d.room }

  R : Has w32 (to_z w32 (of_z w32 (y (goal.at.After-abs_diff-wide c).Else-bottom-y)) -ℤ to_z w32 (of_z w32 (s (goal.at.After-abs_diff-wide c).Else-bottom-y).1)) (pos (nat_abs (y (goal.at.After-abs_diff-wide c).Else-bottom-y -ℤ (s (goal.at.After-abs_diff-wide c).Else-bottom-y).1))) 262144
  R =
      let d = minus (back (coord (row_coord (goal.at.After-abs_diff-wide c).Else-bottom-y))) (back (coord c.requires.0.0.y)) tt in
      record { is = d.is ∙ size_pos _ (le_sub (s (goal.at.After-abs_diff-wide c).Else-bottom-y).1 (y (goal.at.After-abs_diff-wide c).Else-bottom-y) (from (goal.at.After-abs_diff-wide c).Else-bottom-y)); size = d.size; room = d.room }

module _ (c : After-stretch_on-s) where
  abbrev f : ℕ
  f = first_offset (wide (s (goal.at.After-stretch_on-s c).Else-bottom-y) (e (goal.at.After-stretch_on-s c).Else-bottom-y)) (high (s (goal.at.After-stretch_on-s c).Else-bottom-y) (e (goal.at.After-stretch_on-s c).Else-bottom-y)) (nat_abs (y (goal.at.After-stretch_on-s c).Else-bottom-y -ℤ (s (goal.at.After-stretch_on-s c).Else-bottom-y).1))

  abbrev l : ℕ
  l = last_offset (wide (s (goal.at.After-stretch_on-s c).Else-bottom-y) (e (goal.at.After-stretch_on-s c).Else-bottom-y)) (high (s (goal.at.After-stretch_on-s c).Else-bottom-y) (e (goal.at.After-stretch_on-s c).Else-bottom-y)) (nat_abs (y (goal.at.After-stretch_on-s c).Else-bottom-y -ℤ (s (goal.at.After-stretch_on-s c).Else-bottom-y).1))

  first_is : c.stretch_on-s.result.first ≡ f
  first_is = c.stretch_on-s.ensures.0 ∙ (λ i. first_offset (W (goal.at.After-stretch_on-s c).After-abs_diff-wide i) (nat_is (H (goal.at.After-stretch_on-s c).After-abs_diff-wide) i) (nat_is (R (goal.at.After-stretch_on-s c).After-abs_diff-wide) i))

  last_is_lem : c.stretch_on-s.result.last ≡ l
  last_is_lem = c.stretch_on-s.ensures.1 ∙ (λ i. last_offset (W (goal.at.After-stretch_on-s c).After-abs_diff-wide i) (nat_is (H (goal.at.After-stretch_on-s c).After-abs_diff-wide) i) (nat_is (R (goal.at.After-stretch_on-s c).After-abs_diff-wide) i))

  few : (f ≤ 262144) × (l ≤ 262144)
  few =
      let o = edge_offsets (s (goal.at.After-stretch_on-s c).Else-bottom-y) (e (goal.at.After-stretch_on-s c).Else-bottom-y) (y (goal.at.After-stretch_on-s c).Else-bottom-y) (from (goal.at.After-stretch_on-s c).Else-bottom-y) (to (goal.at.After-stretch_on-s c).Else-bottom-y) in
      omega (arith, o.some, o.wide, wide_size c.requires.0.0 c.requires.0.1)

  -- what `offset` asks, and what it gives of two of the numbers
  asked : (c.stretch_on-s.result.first ≤ 262144) × (c.stretch_on-s.result.last ≤ 262144)
  asked = omega (arith, first_is, last_is_lem, few)

  X : Has w32 (to_z w32 (of_z w32 (s (goal.at.After-stretch_on-s c).Else-bottom-y).0)) (s (goal.at.After-stretch_on-s c).Else-bottom-y).0 131072
  X = back (coord c.requires.0.0.x)

  given : {r : ℤ} {m n p q : ℕ} → r ≡ cond (le_z (to_z w32 (of_z w32 (s (goal.at.After-stretch_on-s c).Else-bottom-y).0)) (to_z w32 (of_z w32 (e (goal.at.After-stretch_on-s c).Else-bottom-y).0))) (pos m) (neg_ℤ (pos n)) → m ≡ p → n ≡ q → p ≤ 262144 → q ≤ 262144
      → Has w32 r (cond (le_z (s (goal.at.After-stretch_on-s c).Else-bottom-y).0 (e (goal.at.After-stretch_on-s c).Else-bottom-y).0) (pos p) (neg_ℤ (pos q))) 262144
  given {p = p} {q = q} h em en hp hq =
      record {
        is = h ∙ (λ i. cond (le_test (coord_fits c.requires.0.0.x) (coord_fits c.requires.0.1.x) i) (pos (em i)) (neg_ℤ (pos (en i))));
        size = either (le_z (s (goal.at.After-stretch_on-s c).Else-bottom-y).0 (e (goal.at.After-stretch_on-s c).Else-bottom-y).0);
        room = lit< tt;
      }
    where
      either : (t : Bool) → nat_abs (cond t (pos p) (neg_ℤ (pos q))) ≤ 262144
      either true = hp
      either false = omega (arith, neg_size (pos q))

pub offset-first-requires : goal.offset-first-requires
offset-first-requires c = asked (goal.at.offset-first-requires c).After-stretch_on-s

pub offset-last-requires : goal.offset-last-requires
offset-last-requires c = let h = asked (goal.at.offset-last-requires c).After-stretch_on-s in (h.1, h.0)

-- the two columns, as the code works them out
module _ (c : After-offset-last) where
  first : Has w32 (to_z w32 (of_z w32 (s (goal.at.After-offset-last c).Else-bottom-y).0) +ℤ to_z w32 (of_z w32 c.offset-first.result))
      ((s (goal.at.After-offset-last c).Else-bottom-y).0 +ℤ cond (le_z (s (goal.at.After-offset-last c).Else-bottom-y).0 (e (goal.at.After-offset-last c).Else-bottom-y).0) (pos (f (goal.at.After-offset-last c).After-stretch_on-s)) (neg_ℤ (pos (l (goal.at.After-offset-last c).After-stretch_on-s)))) 393216
  first = plus (X (goal.at.After-offset-last c).After-stretch_on-s) (back (given (goal.at.After-offset-last c).After-stretch_on-s c.offset-first.ensures (first_is (goal.at.After-offset-last c).After-stretch_on-s) (last_is_lem (goal.at.After-offset-last c).After-stretch_on-s) (few (goal.at.After-offset-last c).After-stretch_on-s).0 (few (goal.at.After-offset-last c).After-stretch_on-s).1)) tt

  last : Has w32 (to_z w32 (of_z w32 (s (goal.at.After-offset-last c).Else-bottom-y).0) +ℤ to_z w32 (of_z w32 c.offset-last.result)) ((s (goal.at.After-offset-last c).Else-bottom-y).0 +ℤ cond (le_z (s (goal.at.After-offset-last c).Else-bottom-y).0 (e (goal.at.After-offset-last c).Else-bottom-y).0) (pos (l (goal.at.After-offset-last c).After-stretch_on-s)) (neg_ℤ (pos (f (goal.at.After-offset-last c).After-stretch_on-s))))
      393216
  last = plus (X (goal.at.After-offset-last c).After-stretch_on-s) (back (given (goal.at.After-offset-last c).After-stretch_on-s c.offset-last.ensures (last_is_lem (goal.at.After-offset-last c).After-stretch_on-s) (first_is (goal.at.After-offset-last c).After-stretch_on-s) (few (goal.at.After-offset-last c).After-stretch_on-s).1 (few (goal.at.After-offset-last c).After-stretch_on-s).0)) tt

one : Has w32 (pos 1) (pos 1) 1
one = lit 1 tt

pub overflow_add-result : goal.overflow_add-result
overflow_add-result c = fits (first (goal.at.overflow_add-result c).After-offset-last)

pub overflow_add-result-2 : goal.overflow_add-result-2
overflow_add-result-2 c = fits (last (goal.at.overflow_add-result-2 c).After-offset-last)

pub overflow_add-result-3 : goal.overflow_add-result-3
overflow_add-result-3 c = fits (plus (back (last (goal.at.overflow_add-result-3 c).After-offset-last)) one tt)

pub returns : goal.returns
returns c =
    let low = (back (first (goal.at.returns c).After-offset-last)).is in
    let past = (back (plus (back (last (goal.at.returns c).After-offset-last)) one tt)).is in
    (λ i. (low i, past i)) ∙ sym (run_span (s (goal.at.returns c).Else-bottom-y) (e (goal.at.returns c).Else-bottom-y) (y (goal.at.returns c).Else-bottom-y) _ _ (edge_run (s (goal.at.returns c).Else-bottom-y) (e (goal.at.returns c).Else-bottom-y) (y (goal.at.returns c).Else-bottom-y) (from (goal.at.returns c).Else-bottom-y) (to (goal.at.returns c).Else-bottom-y)))
