-- What drawing loops cite: painting figures on a layout, one after another. Assumes nothing.
use mathlib.Core.Path.{◌≡◌, refl, sym, ap, ap₂, ◌∙◌}
use mathlib.Core.Logic.{◌⊎◌, inl, inr}
use mathlib.Core.Bool.{Bool, true, false, ◌||◌, ◌&&◌, or_comm}
use mathlib.Core.List.{List}
use Prim.Native.Nat.{ℕ, zero, suc, ◌+◌, ◌*◌, ◌/◌, ◌%◌, ◌≤◌, ◌<◌}
use native.Mathlib.Nat.{div-add-mod'}
use native.Mathlib.Omega.{arith}
use lib.Dec.{eqb}
use lib.IntN.{ℤ, pos}
use lib.Signed.{lt_z}
use lib.Arith.{digits_div, digits_mod, digits_lt}
use lib.ListN.{length}
use borrow.Author.Tests.{eq-eqb, ne_eqb, lt-ltb, le-ltb}
use Rattle.layout.specs.Paint.{put_if, paint}
use Rattle.layout.specs.Figure.{single, everywhere}
use Rattle.layout.specs.Layout.{Layout, put_pixel, put_no, painted}
use Rattle.whole.proofs.Tests.{eq_or_not}
use Rattle.layout.proofs.Screen.{paint_cong, paint_none, paint_paint, put_paint}
use Rattle.layout.proofs.Cells.{puts_len}
use Rattle.layout.proofs.Placing.{Placing, Everywhere, numbered, laws}
use Rattle.layout.proofs.Spans.{columns, span_none, span_one, span_join, rows_more}

-- a pixel's number is its column and its row
both : (w p q x y : ℕ) → p % w ≡ x → p / w ≡ y → eqb q p ≡ (eqb (q % w) x && eqb (q / w) y)
both w p q x y ex ey = go (eq_or_not q p) (eq_or_not (q % w) x) (eq_or_not (q / w) y)
  where
    go : (q ≡ p) ⊎ (q ≡ p → ⊥) → (q % w ≡ x) ⊎ (q % w ≡ x → ⊥) → (q / w ≡ y) ⊎ (q / w ≡ y → ⊥) → eqb q p ≡ (eqb (q % w) x && eqb (q / w) y)
    go (inl e) a b =
        eq-eqb q p e
        ∙ sym (ap₂ (λ (s t : Bool). s && t) (eq-eqb (q % w) x (ap (λ (n : ℕ). n % w) e ∙ ex)) (eq-eqb (q / w) y (ap (λ (n : ℕ). n / w) e ∙ ey)))
    go (inr n) (inr a) b = ne_eqb q p n ∙ sym (ap (λ (s : Bool). s && eqb (q / w) y) (ne_eqb (q % w) x a))
    go (inr n) (inl a) (inr b) = ne_eqb q p n ∙ sym (ap₂ (λ (s t : Bool). s && t) (eq-eqb (q % w) x a) (ne_eqb (q / w) y b))
    go (inr n) (inl a) (inl b) =
        absurd (n (sym (div-add-mod' q w) ∙ ap₂ (λ (i j : ℕ). i * w + j) (b ∙ sym ey) (a ∙ sym ex) ∙ div-add-mod' p w))

-- the buffer keeps its length
pub painted_length : (l : Layout) → Placing l → (s : ℤ → ℤ → Bool) (c : ℕ) (b : List ℕ) → length (painted l s c b) ≡ length b
unfolding painted
painted_length l P s c b = go (l.height * l.width)
  where
    one : (t : Bool) (p : ℕ) (a : List ℕ) → length a ≡ length b → length (put_if (put_no l) t p c a) ≡ length b
    one true p a h = puts_len l.base P.base (l.byte (p % l.width) (p / l.width)) (l.slot (p % l.width) (p / l.width)) l.parts c a ∙ h
    one false p a h = h

    go : (n : ℕ) → length (paint (put_no l) n (λ p. s (pos (p % l.width)) (pos (p / l.width))) c b) ≡ length b
    go zero = refl
    go (suc n) = one (s (pos (n % l.width)) (pos (n / l.width))) n _ (go n)

module _ (l : Layout) (P : Placing l) (c : ℕ) (b : List ℕ) where
  -- figures that agree on the frame
  pub painted_cong : (s t : ℤ → ℤ → Bool) → Everywhere l (λ x y. s (pos x) (pos y) ≡ t (pos x) (pos y)) → painted l s c b ≡ painted l t c b
  unfolding painted
  painted_cong s t h =
      paint_cong (laws l P) (λ p. s (pos (p % l.width)) (pos (p / l.width))) (λ p. t (pos (p % l.width)) (pos (p / l.width))) c b
      (numbered l (λ x y. s (pos x) (pos y) ≡ t (pos x) (pos y)) h)

  -- a figure that has no pixel of the frame
  pub painted_none : (s : ℤ → ℤ → Bool) → Everywhere l (λ x y. s (pos x) (pos y) ≡ false) → painted l s c b ≡ b
  unfolding painted
  painted_none s h =
      paint_none (laws l P) (λ p. s (pos (p % l.width)) (pos (p / l.width))) c b
      (numbered l (λ x y. s (pos x) (pos y) ≡ false) h)

  -- two figures in one colour
  pub painted_painted : (s t : ℤ → ℤ → Bool) → painted l s c (painted l t c b) ≡ painted l (λ x y. t x y || s x y) c b
  unfolding painted
  painted_painted s t =
      paint_paint (laws l P) (λ p. s (pos (p % l.width)) (pos (p / l.width))) (λ p. t (pos (p % l.width)) (pos (p / l.width))) c b

  -- in either order
  pub painted_swap : (s t : ℤ → ℤ → Bool) → painted l s c (painted l t c b) ≡ painted l t c (painted l s c b)
  painted_swap s t = painted_painted s t ∙ painted_cong _ _ (λ u v hu hv. or_comm (t (pos u) (pos v)) (s (pos u) (pos v))) ∙ sym (painted_painted t s)

  -- one more pixel
  pub put_painted : (s : ℤ → ℤ → Bool) (x y : ℕ) → x < l.width → y < l.height
      → put_pixel l x y c (painted l s c b) ≡ painted l (λ u v. s u v || single (pos x) (pos y) u v) c b
  unfolding painted
  put_painted s x y hx hy =
      let w = l.width in
      let L = laws l P in
      let p = y * w + x in
      let ex : p % w ≡ x = digits_mod y hx in
      let ey : p / w ≡ y = digits_div y hx in
      sym (ap₂ (λ (i j : ℕ). put_pixel l i j c (painted l s c b)) ex ey)
      ∙ put_paint L p (λ q. s (pos (q % w)) (pos (q / w))) c b (digits_lt hy hx)
      ∙ paint_cong L (λ q. s (pos (q % w)) (pos (q / w)) || eqb q p) (λ q. s (pos (q % w)) (pos (q / w)) || (eqb (q % w) x && eqb (q / w) y)) c b
      (λ q k. ap (λ (t : Bool). s (pos (q % w)) (pos (q / w)) || t) (both w p q x y ex ey))

  -- the first pixel
  pub put_single : (x y : ℕ) → x < l.width → y < l.height → put_pixel l x y c b ≡ painted l (single (pos x) (pos y)) c b
  put_single x y hx hy =
      ap (put_pixel l x y c) (sym (painted_none (λ u v. false) (λ u v hu hv. refl))) ∙ put_painted (λ u v. false) x y hx hy

  -- ---- spans, from left to right
  pub span_empty : (y x0 x1 : ℕ) → x1 ≤ x0 → painted l (columns y x0 x1) c b ≡ b
  span_empty y x0 x1 h = painted_none (columns y x0 x1) (λ u v hu hv. span_none y x0 x1 u v h)

  pub span_put : (y x0 x : ℕ) → x0 ≤ x → x < l.width → y < l.height
      → put_pixel l x y c (painted l (columns y x0 x) c b) ≡ painted l (columns y x0 (x + 1)) c b
  span_put y x0 x h hx hy =
      put_painted (columns y x0 x) x y hx hy
      ∙ painted_cong _ _
      (λ u v hu hv. ap (λ (t : Bool). columns y x0 x (pos u) (pos v) || t) (span_one y x u v) ∙ span_join y x0 x (x + 1) u v h (omega arith))

  pub span_then : (y x0 x1 x2 : ℕ) → x0 ≤ x1 → x1 ≤ x2
      → painted l (columns y x1 x2) c (painted l (columns y x0 x1) c b) ≡ painted l (columns y x0 x2) c b
  span_then y x0 x1 x2 h k =
      painted_painted (columns y x1 x2) (columns y x0 x1) ∙ painted_cong _ _ (λ u v hu hv. span_join y x0 x1 x2 u v h k)

  -- ---- rows, from the top down
  pub rows_start : painted l (λ u v. lt_z v (pos 0)) c b ≡ b
  rows_start = painted_none (λ u v. lt_z v (pos 0)) (λ u v hu hv. le-ltb v 0 (omega arith))

  pub rows_then : (y : ℕ) → painted l (columns y 0 l.width) c (painted l (λ u v. lt_z v (pos y)) c b) ≡ painted l (λ u v. lt_z v (pos (y + 1))) c b
  rows_then y =
      painted_painted (columns y 0 l.width) (λ u v. lt_z v (pos y)) ∙ painted_cong _ _ (λ u v hu hv. rows_more l.width y u v hu)

  pub rows_end : (y : ℕ) → l.height ≤ y → painted l (λ u v. lt_z v (pos y)) c b ≡ painted l everywhere c b
  rows_end y h = painted_cong _ _ (λ u v hu hv. lt-ltb v y (omega arith))
