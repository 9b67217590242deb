-- Laws of painting by a brush: one figure after another, and a figure row by row, from the top down: what is painted is the figure above the next row. Assumes nothing.
use mathlib.Core.Path.{◌≡◌, refl, sym, ap, ◌∙◌}
use mathlib.Core.Bool.{Bool, true, false, ◌&&◌, ◌||◌}
use mathlib.Core.List.{List}
use Prim.Native.Nat.{ℕ, ◌+◌, ◌*◌, ◌≤◌, ◌<◌}
use native.Mathlib.Nat.{mul-le-mul}
use native.Mathlib.Omega.{arith}
use lib.IntN.{ℤ, pos, ◌+ℤ◌}
use lib.Signed.{le_z, lt_z, ◌≤ℤ◌, ◌<ℤ◌}
use Rattle.whole.specs.Equal.{eq_z}
use Rattle.whole.proofs.Decides.{decides_lt, decides_eq, decides_yes, decides_no}
use Rattle.whole.proofs.Order.{le_lt_more, more_lt_le, le_of, lt_le, lt_apart, le_antisym}
use Rattle.whole.proofs.Difference.{le_nat, lt_nat}
use Rattle.whole.proofs.Machine.{lt_yes, lt_no}
use Rattle.whole.proofs.Tests.{and_true, fails}
use Rattle.layout.specs.Figure.{span_figure, everywhere}
use Rattle.layout.specs.Count.{pixels_in}
use Rattle.layout.proofs.Placing.{Placing, Everywhere}
use Rattle.layout.proofs.Pixels.{pixels_le, marked_cong, marked_none, marked_then}
use Rattle.painting.specs.declared.Brush.{Brush}
use Rattle.windows.specs.declared.Window.{Window}
use Rattle.painting.specs.Brush.{Ready, ground, brushed, on_top}
use Rattle.windows.specs.Window.{in_window, held_by}
use Rattle.frames.proofs.Refusals.{sound}
use Rattle.windows.proofs.Windows.{window_in}

-- the rectangle is asked once for both
pub within_both : (p a b : Bool) → (p && a) || (p && b) ≡ p && (a || b)
within_both true a b = refl
within_both false a b = refl

-- a brush that may paint has a sound layout, and few pixels
pub brush_sound : {q : Brush} {len : ℕ} → Ready q len → Placing (ground q)
brush_sound {q} R = sound q.frame R.drawable.accepted.described

pub few_pixels_lem : {q : Brush} {len : ℕ} → Ready q len → (s : ℤ → ℤ → Bool) {n : ℕ} → n ≡ pixels_in (ground q) s → n ≤ 4194304
few_pixels_lem {q} R s e =
    let D = R.drawable.accepted.described in
    let m : q.frame.height * q.frame.width ≤ 2048 * 2048 = mul-le-mul D.height D.width in
    let h = pixels_le (ground q) s in
    omega arith

module _ (q : Brush) (P : Placing (ground q)) (b : List ℕ) where
  -- and the pixels add up, where no pixel of the frame is in both
  pub brushed_more : (s t u : ℤ → ℤ → Bool) {m n : ℕ} {now next : List ℕ} → (m, now) ≡ brushed q s b → (n, next) ≡ brushed q t now
      → Everywhere (ground q) (λ x y. held_by q.window s (pos x) (pos y) && held_by q.window t (pos x) (pos y) ≡ false)
      → Everywhere (ground q) (λ x y. held_by q.window s (pos x) (pos y) || held_by q.window t (pos x) (pos y) ≡ held_by q.window u (pos x) (pos y))
      → (m + n, next) ≡ brushed q u b
  brushed_more s t u {m} e f apart joined =
      ap (λ (r : ℕ × List ℕ). (m + r.0, r.1)) f
      ∙ ap (λ (r : ℕ × List ℕ). (r.0 + (brushed q t b).0, (brushed q t r.1).1)) e
      ∙ marked_then (ground q) P q.colour b (held_by q.window s) (held_by q.window t) (held_by q.window u) apart joined

-- the figure's rows above y
abbrev pub above : (ℤ → ℤ → Bool) → ℤ → ℤ → ℤ → Bool
above figure y u v = lt_z v y && figure u v

-- ---- one place: v is a row, f whether the figure contains the place, s whether row y's span does
row_place : (v y : ℤ) (f s : Bool) → (eq_z v y ≡ true → s ≡ f) → (eq_z v y ≡ false → s ≡ false) → (lt_z v y && f) || s ≡ lt_z v (y +ℤ pos 1) && f
row_place v y f s on off = by (lt_z v y) (eq_z v y) refl refl
  where
    keep : (f : Bool) → f || false ≡ f
    keep true = refl
    keep false = refl

    by : (l e : Bool) → lt_z v y ≡ l → eq_z v y ≡ e → (lt_z v y && f) || s ≡ lt_z v (y +ℤ pos 1) && f
    by true e hl he =
        let no : eq_z v y ≡ false = decides_no (decides_eq v y) (lt_apart (lt_yes hl)) in
        let more : lt_z v (y +ℤ pos 1) ≡ true = decides_yes (decides_lt v (y +ℤ pos 1)) (le_lt_more (lt_le (lt_yes hl))) in
        (λ i. (hl i && f) || off no i) ∙ keep f ∙ sym (ap (λ (t : Bool). t && f) more)
    by false true hl he =
        let more : lt_z v (y +ℤ pos 1) ≡ true = decides_yes (decides_lt v (y +ℤ pos 1)) (le_lt_more (le_of ((decides_eq v y).yes he))) in
        (λ i. (hl i && f) || on he i) ∙ sym (ap (λ (t : Bool). t && f) more)
    by false false hl he =
        let less : lt_z v (y +ℤ pos 1) ≡ false = decides_no (decides_lt v (y +ℤ pos 1)) (λ l. (decides_eq v y).no he (le_antisym (more_lt_le l) (lt_no hl))) in
        (λ i. (hl i && f) || off he i) ∙ sym (ap (λ (t : Bool). t && f) less)

pub span_off : (a b : Bool) → b ≡ false → (a && b) ≡ false
span_off true b e = e
span_off false b e = refl

span_on : (a b : Bool) → b ≡ true → (a && b) ≡ a
span_on true b e = e
span_on false b e = refl

-- a row above y is not row y
apart : (w v y f s : Bool) → (v ≡ true → y ≡ true → ⊥) → (w && (v && f)) && (w && (s && y)) ≡ false
apart false v y f s h = refl
apart true false y f s h = refl
apart true true true f s h = absurd (h refl refl)
apart true true false f s h = span_off f (s && false) (span_off s false refl)

module _ (q : Brush) (P : Placing (ground q)) (b : List ℕ) (figure : ℤ → ℤ → Bool) where
  -- the rectangle holds no row of the figure above y
  pub rows_start : (y : ℤ) → ((u v : ℕ) → pos v <ℤ y → held_by q.window figure (pos u) (pos v) ≡ false) → brushed q (above figure y) b ≡ (0, b)
  rows_start y none =
      marked_none (ground q) P q.colour b _
      (λ u v hu hv. by (in_window q.window (pos u) (pos v)) (lt_z (pos v) y) (figure (pos u) (pos v)) (λ l. none u v (lt_yes l)))
    where
      by : (p l f : Bool) → (l ≡ true → (p && f) ≡ false) → (p && (l && f)) ≡ false
      by p true f h = h refl
      by p false f h = span_off p false refl

  -- the span of row y has the figure's columns: one row more is painted, and its pixels are counted
  pub rows_turn : (y start end : ℤ) {m r : ℕ} {now next : List ℕ}
      → ((u v : ℕ) → u < q.frame.width → v < q.frame.height → pos v ≡ y → (le_z start (pos u) && lt_z (pos u) end) ≡ figure (pos u) (pos v))
      → (m, now) ≡ brushed q (above figure y) b → (r, next) ≡ on_top m (brushed q (span_figure y start end) now) → (r, next) ≡ brushed q (above figure (y +ℤ pos 1)) b
  rows_turn y start end same so_far more =
      more
      ∙ brushed_more q P b (above figure y) (span_figure y start end) (above figure (y +ℤ pos 1)) so_far refl
      (λ u v hu hv.
      apart (in_window q.window (pos u) (pos v)) (lt_z (pos v) y) (eq_z (pos v) y) (figure (pos u) (pos v)) (le_z start (pos u) && lt_z (pos u) end)
      (λ l e. lt_apart (lt_yes l) ((decides_eq (pos v) y).yes e)))
      (λ u v hu hv.
      within_both (in_window q.window (pos u) (pos v)) (above figure y (pos u) (pos v)) (span_figure y start end (pos u) (pos v))
      ∙ ap (λ (t : Bool). in_window q.window (pos u) (pos v) && t) (row_place (pos v) y (figure (pos u) (pos v)) (span_figure y start end (pos u) (pos v))
      (λ e. span_on (le_z start (pos u) && lt_z (pos u) end) (eq_z (pos v) y) e ∙ same u v hu hv ((decides_eq (pos v) y).yes e))
      (λ e. span_off (le_z start (pos u) && lt_z (pos u) end) (eq_z (pos v) y) e)))

  -- nor one at y or below
  pub rows_end : (y : ℤ) → ((u v : ℕ) → y ≤ℤ pos v → held_by q.window figure (pos u) (pos v) ≡ false) → brushed q (above figure y) b ≡ brushed q figure b
  rows_end y none =
      marked_cong (ground q) P q.colour b _ _
      (λ u v hu hv. by (in_window q.window (pos u) (pos v)) (lt_z (pos v) y) (figure (pos u) (pos v)) (λ l. none u v (lt_no l)))
    where
      by : (p l f : Bool) → (l ≡ false → (p && f) ≡ false) → (p && (l && f)) ≡ (p && f)
      by p true f h = refl
      by p false f h = span_off p false refl ∙ sym (h refl)

-- ---- a rectangle itself: it has no row above its top, nor one at its bottom or below
pub above_top : (q : Window) (u v : ℕ) → pos v <ℤ pos q.top → held_by q everywhere (pos u) (pos v) ≡ false
above_top q u v l = fails _ (λ e. let p = (window_in q u v (and_true (in_window q (pos u) (pos v)) true e).0).1.0 in omega (arith, lt_nat l))

pub below_bottom : (q : Window) (y u v : ℕ) → q.bottom ≤ y → pos y ≤ℤ pos v → held_by q everywhere (pos u) (pos v) ≡ false
below_bottom q y u v h l = fails _ (λ e. let p = (window_in q u v (and_true (in_window q (pos u) (pos v)) true e).0).1.1 in omega (arith, le_nat l))
