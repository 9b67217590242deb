-- Ranges and rectangles, and a pixel of a rectangle as a figure. Assumes nothing.
use mathlib.Core.Path.{◌≡◌, refl, sym, ap, ap₂, subst, ◌∙◌}
use mathlib.Core.Bool.{Bool, true, false, ◌&&◌, true≢false}
use mathlib.Core.List.{List}
use Prim.Native.Nat.{ℕ, ◌≤◌, ◌<◌}
use native.Mathlib.Nat.{le_refl}
use native.Mathlib.Omega.{arith}
use lib.Dec.{T, leb, ltb, le→leb}
use lib.IntN.{ℤ, pos, negsuc, nat_abs}
use lib.Signed.{◌≤ℤ◌, non_neg}
use mir.Syntax.{w32}
use mir.Val.{SFits, Fits, to_z, of_z}
use borrow.Author.Tests.{ltb-true, leb-true, lt-ltb, le-leb}
use Rattle.whole.specs.Equal.{eq_z}
use Rattle.whole.specs.Interval.{between}
use Rattle.whole.proofs.Machine.{index_fits}
use Rattle.layout.specs.Figure.{single}
use Rattle.layout.specs.Count.{one_if, pixels_in, marked}
use Rattle.layout.specs.Layout.{Layout, put_pixel, painted}
use Rattle.whole.proofs.Tests.{same_test, fails, and_true, true_and, eq_z_true}
use Rattle.layout.proofs.Placing.{Placing}
use Rattle.layout.proofs.Painted.{painted_cong, painted_none, put_single}
use Rattle.layout.proofs.Pixels.{marked_cong, pixels_cong, pixels_none, pixels_one}
use Rattle.windows.specs.declared.Window.{Window}
use Rattle.windows.specs.Window.{in_window, held_by, all_of, Within}

-- ---- what a range and a rectangle say
-- a number of a range is not negative
pub between_pos : (x : ℤ) (low high : ℕ) → between (pos low) (pos high) x ≡ true → x ≡ pos (nat_abs x)
between_pos (pos a) low high e = refl
between_pos (negsuc a) low high e = absurd (true≢false (sym e))

-- and so it can be cast
pub cast_fits : {x : ℤ} → SFits w32 x → x ≡ pos (nat_abs x) → T (non_neg (to_z w32 (of_z w32 x))) × Fits w32 (nat_abs (to_z w32 (of_z w32 x)))
cast_fits {x} f e = index_fits w32 f (subst (λ (z : ℤ). pos 0 ≤ℤ z) (sym e) (record { le = le→leb 0 (nat_abs x) (omega arith) })) tt

pub in_between : (u low high : ℕ) → between (pos low) (pos high) (pos u) ≡ true → (low ≤ u) × (u < high)
in_between u low high e = let p = and_true (leb low u) (ltb u high) e in (leb-true _ _ p.0, ltb-true _ _ p.1)

pub between_in : (u low high : ℕ) → low ≤ u → u < high → between (pos low) (pos high) (pos u) ≡ true
between_in u low high a b = true_and (le-leb _ _ a) (lt-ltb _ _ b)

pub window_in : (q : Window) (x y : ℕ) → in_window q (pos x) (pos y) ≡ true → ((q.left ≤ x) × (x < q.right)) × ((q.top ≤ y) × (y < q.bottom))
window_in q x y e =
    let p = and_true (between (pos q.left) (pos q.right) (pos x)) (between (pos q.top) (pos q.bottom) (pos y)) e in
    (in_between x q.left q.right p.0, in_between y q.top q.bottom p.1)

pub in_window_lem : (q : Window) (x y : ℕ) → q.left ≤ x → x < q.right → q.top ≤ y → y < q.bottom → in_window q (pos x) (pos y) ≡ true
in_window_lem q x y a b c d = true_and (between_in x q.left q.right a b) (between_in y q.top q.bottom c d)

-- the coordinates of a place in a rectangle are not negative
pub window_pos : (q : Window) (x y : ℤ) → in_window q x y ≡ true → (x ≡ pos (nat_abs x)) × (y ≡ pos (nat_abs y))
window_pos q x y e =
    let p = and_true (between (pos q.left) (pos q.right) x) (between (pos q.top) (pos q.bottom) y) e in
    (between_pos x q.left q.right p.0, between_pos y q.top q.bottom p.1)

pub all_within : (w h : ℕ) → Within (all_of w h) w h
all_within w h = record { across = omega arith; down = omega arith; right = le_refl w; bottom = le_refl h }

-- a place that it holds lies within the width and the height
pub point_in : (q : Window) (x y : ℤ) {w h : ℕ} → Within q w h → in_window q x y ≡ true → (nat_abs x < w) × (nat_abs y < h)
point_in q x y W e =
    let z = window_pos q x y e in
    let p = window_in q (nat_abs x) (nat_abs y) (ap₂ (in_window q) (sym z.0) (sym z.1) ∙ e) in
    let r = p.0.1 in
    let s = p.1.1 in
    let a = W.right in
    let c = W.bottom in
    (omega arith, omega arith)

-- ---- one pixel as a figure, in the rectangle or not
module _ (q : Window) (x y : ℤ) where
  -- where the figure of one pixel has a place, that is the pixel
  single_is : (u v : ℕ) → single x y (pos u) (pos v) ≡ true → in_window q (pos u) (pos v) ≡ in_window q x y
  single_is u v h = let p = and_true (eq_z (pos u) x) (eq_z (pos v) y) h in ap₂ (in_window q) (eq_z_true (pos u) x p.0) (eq_z_true (pos v) y p.1)

  -- so the rectangle has all of the figure, or nothing
  all_held : in_window q x y ≡ true → (u v : ℕ) → single x y (pos u) (pos v) ≡ held_by q (single x y) (pos u) (pos v)
  all_held e u v = same_test _ _ (λ h. true_and (single_is u v h ∙ e) h) (λ h. (and_true (in_window q (pos u) (pos v)) _ h).1)

  none_held : in_window q x y ≡ false → (u v : ℕ) → held_by q (single x y) (pos u) (pos v) ≡ false
  none_held e u v =
      fails _ (λ h.
      let p = and_true (in_window q (pos u) (pos v)) (single x y (pos u) (pos v)) h in
      true≢false (sym p.0 ∙ single_is u v p.1 ∙ e))

  -- it is counted or not
  pub point_count : (l : Layout) → Within q l.width l.height → pixels_in l (held_by q (single x y)) ≡ one_if (in_window q x y)
  point_count l W = by (in_window q x y) refl
    where
      by : (t : Bool) → in_window q x y ≡ t → pixels_in l (held_by q (single x y)) ≡ one_if (in_window q x y)
      by true e =
          let p = point_in q x y W e in
          let z = window_pos q x y e in
          pixels_cong l _ (single (pos (nat_abs x)) (pos (nat_abs y)))
          (λ u v hu hv. sym (all_held e u v) ∙ ap₂ (λ (i j : ℤ). single i j (pos u) (pos v)) z.0 z.1)
          ∙ pixels_one l (nat_abs x) (nat_abs y) p.0 p.1
          ∙ sym (ap one_if e)
      by false e = pixels_none l _ (λ u v hu hv. none_held e u v) ∙ sym (ap one_if e)

  -- and painted or not, wherever the pixels are kept
  module _ (l : Layout) (P : Placing l) (colour : ℕ) (b : List ℕ) where
    pub point_put : Within q l.width l.height → in_window q x y ≡ true → put_pixel l (nat_abs x) (nat_abs y) colour b ≡ painted l (held_by q (single x y)) colour b
    point_put W e =
        let p = point_in q x y W e in
        let z = window_pos q x y e in
        put_single l P colour b (nat_abs x) (nat_abs y) p.0 p.1
        ∙ ap₂ (λ (i j : ℤ). painted l (single i j) colour b) (sym z.0) (sym z.1)
        ∙ painted_cong l P colour b _ _ (λ u v hu hv. all_held e u v)

    pub point_off : in_window q x y ≡ false → b ≡ painted l (held_by q (single x y)) colour b
    point_off e = sym (painted_none l P colour b _ (λ u v hu hv. none_held e u v))

-- the rectangle of all pixels takes nothing away
pub marked_all : (l : Layout) → Placing l → (colour : ℕ) (b : List ℕ) (s : ℤ → ℤ → Bool) → marked l (held_by (all_of l.width l.height) s) colour b ≡ marked l s colour b
marked_all l P colour b s =
    marked_cong l P colour b _ _
    (λ x y hx hy. ap (λ (t : Bool). t && s (pos x) (pos y)) (in_window_lem (all_of l.width l.height) x y (omega arith) hx (omega arith) hy))
