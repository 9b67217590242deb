-- No call of a chart is refused, on a frame's bytes of the size that it takes: no place is out of the range of coordinates, and every colour is one of the depth.
-- Assumes nothing.
use mathlib.Core.Path.{◌≡◌, refl}
use mathlib.Core.Bool.{Bool, true, false, cond}
use mathlib.Core.List.{List, [], ◌∷◌, ◌++◌}
use Prim.Native.Nat.{ℕ, ◌+◌, ◌-◌, ◌≤◌, suc}
use native.Mathlib.Omega.{arith}
use lib.Dec.{ltb}
use lib.IntN.{ℤ, pos, negsuc, neg_ℤ, nat_abs, ◌+ℤ◌, ◌-ℤ◌}
use lib.Signed.{lt_z}
use borrow.Author.Tests.{le-leb, le-ltb}
use Rattle.std.specs.Prelude.{Option, Some, None}
use Rattle.whole.proofs.Machine.{add_size}
use Rattle.refusals.specs.First.{first}
use Rattle.geometry.specs.declared.Point.{Point}
use Rattle.geometry.specs.Bound.{is_coord, in_bounds}
use Rattle.line.specs.Answer.{end_tests}
use Rattle.triangle.specs.Answer.{vertex_tests}
use Rattle.circle.specs.Refusal.{circle_tests}
use Rattle.layout.specs.Packed.{row_bytes}
use Rattle.frames.specs.Description.{packed_distance, size, no_colour, description_tests, frame_tests}
use Rattle.frames.specs.Drawing.{Drawing, call_tests}
use Rattle.drawing.specs.Drawing.{circle_drawing}
use Rattle.frames.proofs.Calls.{none_holds}
use Rattle.text.specs.Fields.{lines}
use Rattle.readers.specs.declared.figures.Corners.{Corners}
use Rattle.readers.specs.Figures.{read_point}
use Rattle.reports.specs.Minutes.{wedge, behind_first, is_inside}
use Rattle.charts.specs.declared.Extent.{Extent}
use Rattle.charts.specs.Scale.{extent}
use Rattle.charts.specs.Picture.{picture, inside, outside, spot}
use Rattle.charts.specs.Day.{wedge_drawing, under, is_shown, disc_corner, disc_colour, disc, discs, day}
use Rattle.charts.proofs.Scaling.{spot_near}

-- each call answers 0
pub data Done : List Drawing → Type 0 where
  none : Done []
  one : {d : Drawing} {ds : List Drawing} → first (call_tests picture 691200 d) ≡ 0 → Done ds → Done (d ∷ ds)

done_append : {ds es : List Drawing} → Done ds → Done es → Done (ds ++ es)
done_append none e = e
done_append (one h d) e = one h (done_append d e)

-- ---- places near the frame
near_coord : (z : ℤ) → nat_abs z ≤ 130500 → is_coord z ≡ true
near_coord (pos n) h = le-leb n 131071 (omega arith)
near_coord (negsuc n) h = rw (le-leb n 131071 (omega arith))

near_edge : (z : ℤ) → nat_abs z ≤ 130500 → lt_z (pos 131072) (z +ℤ pos 3) ≡ false
near_edge (pos n) h = le-ltb 131072 (n + 3) (omega arith)
near_edge (negsuc n) h = by (ltb 3 (suc n)) (suc n - 4) (3 - suc n) (omega arith)
  where
    by : (t : Bool) (a b : ℕ) → b ≤ 131072 → lt_z (pos 131072) (cond t (negsuc a) (pos b)) ≡ false
    by true a b k = refl
    by false a b k = le-ltb 131072 b k

spot_within : (e : Extent) (p : Point) → in_bounds (spot e p) ≡ true
spot_within e p =
    let n = spot_near e p refl in
    let h = near_coord (spot e p).0 (omega arith) in
    let k = near_coord (spot e p).1 (omega arith) in
    rw (h, k)

-- ---- a call
module _ (d : Drawing) where
  accepted : no_colour picture d.colour ≡ false → first d.own ≡ 0 → first (call_tests picture 691200 d) ≡ 0
  unfolding frame_tests description_tests size packed_distance row_bytes
  accepted h k = none_holds picture 691200 d refl h k

three_within : (p q r : Point) → in_bounds p ≡ true → in_bounds q ≡ true → in_bounds r ≡ true → first (vertex_tests p q r) ≡ 0
unfolding vertex_tests
three_within p q r f g h = rw (f, g, h)

disc_within : (e : Extent) (p : Point) → first (circle_tests (disc_corner e p) 3) ≡ 0
unfolding circle_tests
disc_within e p =
    let n = spot_near e p refl in
    let x : nat_abs ((spot e p).0 -ℤ pos 1) ≤ 130500 = omega (arith, add_size (spot e p).0 (neg_ℤ (pos 1)), n.0) in
    let y : nat_abs ((spot e p).1 -ℤ pos 1) ≤ 130500 = omega (arith, add_size (spot e p).1 (neg_ℤ (pos 1)), n.1) in
    rw (near_coord (disc_corner e p).0 x, near_coord (disc_corner e p).1 y, near_edge (disc_corner e p).0 x, near_edge (disc_corner e p).1 y)

either : (t : Bool) → no_colour picture (cond t inside outside) ≡ false
either true = refl
either false = refl

-- ---- the day
under_done : (e : Extent) (t : Corners) → Done (under e t)
unfolding under frame_tests description_tests size packed_distance row_bytes vertex_tests end_tests
under_done e t =
    one refl
    (one (accepted (wedge_drawing e t) refl (three_within (spot e t.a) (spot e t.b) (spot e t.c)
    (spot_within e t.a) (spot_within e t.b) (spot_within e t.c)))
    (one refl (one refl (one refl (one refl (one refl (one refl none)))))))

disc_done : (e : Extent) (t : Corners) (p : Option Point) → Done (disc e t p)
unfolding disc
disc_done e t None = none
disc_done e t (Some p) = by (is_shown p) p
  where
    by : (b : Bool) (q : Point) → Done (cond b (circle_drawing (disc_corner e q) 3 (disc_colour t q) ∷ []) [])
    by true q = one (accepted (circle_drawing (disc_corner e q) 3 (disc_colour t q)) (either (is_inside t q)) (disc_within e q)) none
    by false q = none

discs_done : (e : Extent) (t : Corners) (ls : List (List ℕ)) → Done (discs e t ls)
discs_done e t [] = none
discs_done e t (l ∷ ls) = done_append (disc_done e t (read_point l)) (discs_done e t ls)

pub none_refused : (s : List ℕ) → Done (day s)
unfolding day
none_refused s = done_append (under_done (extent s) (wedge s)) (discs_done (extent s) (wedge s) (lines (behind_first s)))
