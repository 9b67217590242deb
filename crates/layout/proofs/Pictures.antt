-- What bytes show: a picture rendered and shown again, painting as a change of the picture, and what stays because no pixel is kept there.
-- Assumes nothing.
use mathlib.Core.Path.{◌≡◌, refl, sym, ap, ap₂, ◌∙◌, subst}
use mathlib.Core.Bool.{Bool}
use mathlib.Core.List.{List}
use mathlib.Core.Logic.{◌↔◌}
use Prim.Native.Nat.{ℕ, zero, suc, ◌+◌, ◌*◌, ◌/◌, ◌%◌, ◌^◌, ◌≤◌, ◌<◌}
use native.Mathlib.Nat.{le_refl, zero-mod, zero-div}
use native.Mathlib.Omega.{arith}
use lib.Arith.{digits_div, digits_mod, digits_lt}
use lib.IntN.{ℤ, pos}
use lib.ListN.{length, get_or, replicate}
use lib.Seq.{get_or-set_other}
use Rattle.layout.specs.Digits.{digit, replaced, cell, put_digits}
use Rattle.layout.specs.Paint.{render}
use Rattle.layout.specs.Layout.{Layout, Picture, put_pixel, get_pixel, put_no, painted, shown, coloured, rendered}
use Rattle.layout.proofs.Screen.{render_cong, render_render, self_render, get_render, paint_is}
use Rattle.layout.proofs.Cells.{cell_other, digit_lt, puts_len}
use Rattle.layout.proofs.Fields.{value_lt, value_zero}
use Rattle.layout.proofs.Placing.{Placing, Everywhere, number_in, numbered, laws}

-- v fits the digits of a pixel
abbrev pub Colour : Layout → ℕ → Type 0
Colour l v = v < l.base ^ l.parts

abbrev pub Agree : Layout → Picture → Picture → Type 0
Agree l f g = Everywhere l (λ x y. f x y ≡ g x y)

module _ (l : Layout) (P : Placing l) where
  -- ---- rendering
  pub rendered_length : (f : Picture) (b : List ℕ) → length (rendered l f b) ≡ length b
  unfolding rendered
  rendered_length f b = go (l.height * l.width)
    where
      go : (n : ℕ) → length (render (put_no l) n (λ p. f (p % l.width) (p / l.width)) b) ≡ length b
      go zero = refl
      go (suc n) = puts_len l.base P.base (l.byte (n % l.width) (n / l.width)) (l.slot (n % l.width) (n / l.width)) l.parts _ _ ∙ go n

  -- only the pixels of the frame count
  pub rendered_cong : (f g : Picture) (b : List ℕ) → Agree l f g → rendered l f b ≡ rendered l g b
  unfolding rendered
  rendered_cong f g b h = render_cong (laws l P) (l.height * l.width) _ _ b (numbered l (λ x y. f x y ≡ g x y) h)

  -- the last of two pictures
  pub rendered_again : (f g : Picture) (b : List ℕ) → rendered l f (rendered l g b) ≡ rendered l f b
  unfolding rendered
  rendered_again f g b = render_render (laws l P) _ _ b

  -- bytes are what their own picture leaves of them
  pub rendered_shown : (b : List ℕ) → rendered l (shown l b) b ≡ b
  unfolding rendered
  rendered_shown b = self_render (laws l P) b

  -- "Reading returns the last colour written"
  pub shown_rendered : (f : Picture) (b : List ℕ) → l.size ≤ length b → (x y : ℕ) → x < l.width → y < l.height → Colour l (f x y)
      → shown l (rendered l f b) x y ≡ f x y
  unfolding rendered
  shown_rendered f b o x y hx hy c =
      let w = l.width in
      let p = y * w + x in
      let e = digits_mod y hx in
      let d = digits_div y hx in
      sym (ap₂ (λ (i j : ℕ). get_pixel l i j (rendered l f b)) e d)
      ∙ get_render (laws l P) p (λ q. f (q % w) (q / w)) b (digits_lt hy hx) (subst (Colour l) (sym (ap₂ f e d)) c) o
      ∙ ap₂ f e d

  -- what is shown is a colour
  pub shown_colour : (b : List ℕ) (x y : ℕ) → Colour l (shown l b x y)
  shown_colour b x y = value_lt l.base l.parts _ (λ k. digit_lt l.base P.base (l.slot x y k) (get_or b (l.byte x y k) 0))

  -- ---- ONE PICTURE, ONE FRAME: over the same bytes two pictures leave the same bytes exactly if they agree on the frame
  pub one_picture : (f g : Picture) (b : List ℕ) → l.size ≤ length b → Everywhere l (λ x y. Colour l (f x y)) → Everywhere l (λ x y. Colour l (g x y))
      → (rendered l f b ≡ rendered l g b) ↔ Agree l f g
  one_picture f g b o hf hg = (
    λ e x y hx hy.
        sym (shown_rendered f b o x y hx hy (hf x y hx hy)) ∙ ap (λ (c : List ℕ). shown l c x y) e ∙ shown_rendered g b o x y hx hy (hg x y hx hy),
    rendered_cong f g b,
  )

  -- ---- painting changes the picture by the figure
  pub painted_rendered : (s : ℤ → ℤ → Bool) (c : ℕ) (b : List ℕ) → painted l s c b ≡ rendered l (coloured s c (shown l b)) b
  unfolding painted rendered
  painted_rendered s c b = paint_is (laws l P) (λ p. s (pos (p % l.width)) (pos (p / l.width))) c b

  -- ---- what no pixel is kept in
  -- whatever each setting of a pixel leaves alone, rendering does
  module _ (seen : List ℕ → ℕ) (kept : (v : ℕ) (b : List ℕ) → Everywhere l (λ x y. seen (put_pixel l x y v b) ≡ seen b)) where
    pub rendered_keeps : (f : Picture) (b : List ℕ) → seen (rendered l f b) ≡ seen b
    unfolding rendered
    rendered_keeps f b = go (l.height * l.width) (le_refl (l.height * l.width))
      where
        go : (n : ℕ) → n ≤ l.height * l.width → seen (render (put_no l) n (λ p. f (p % l.width) (p / l.width)) b) ≡ seen b
        go zero k = refl
        go (suc n) k =
            let h = number_in l.width l.height n k in
            kept (f (n % l.width) (n / l.width)) _ (n % l.width) (n / l.width) h.0 h.1 ∙ go n (omega arith)

  -- digit j of byte i, where no pixel of the frame is kept
  pub cell_stays : (i j : ℕ) → ((x y k : ℕ) → x < l.width → y < l.height → k < l.parts → i ≡ l.byte x y k → j ≡ l.slot x y k → ⊥)
      → (f : Picture) (b : List ℕ) → cell l.base i j (rendered l f b) ≡ cell l.base i j b
  cell_stays i j free = rendered_keeps (cell l.base i j) (λ v b x y hx hy. go v b x y hx hy l.parts (le_refl l.parts))
    where
      go : (v : ℕ) (b : List ℕ) (x y : ℕ) → x < l.width → y < l.height → (k : ℕ) → k ≤ l.parts
          → cell l.base i j (put_digits l.base (l.byte x y) (l.slot x y) k v b) ≡ cell l.base i j b
      go v b x y hx hy zero h = refl
      go v b x y hx hy (suc k) h =
          cell_other l.base P.base i j (l.byte x y k) (l.slot x y k) (free x y k hx hy h) (digit l.base k v) (put_digits l.base (l.byte x y) (l.slot x y) k v b)
          ∙ go v b x y hx hy k (omega arith)

  -- a byte that no pixel of the frame has a part in
  pub byte_stays : (i : ℕ) → ((x y k : ℕ) → x < l.width → y < l.height → k < l.parts → i ≡ l.byte x y k → ⊥)
      → (f : Picture) (b : List ℕ) → get_or (rendered l f b) i 0 ≡ get_or b i 0
  byte_stays i free = rendered_keeps (λ b. get_or b i 0) (λ v b x y hx hy. go v b x y hx hy l.parts (le_refl l.parts))
    where
      go : (v : ℕ) (b : List ℕ) (x y : ℕ) → x < l.width → y < l.height → (k : ℕ) → k ≤ l.parts
          → get_or (put_digits l.base (l.byte x y) (l.slot x y) k v b) i 0 ≡ get_or b i 0
      go v b x y hx hy zero h = refl
      go v b x y hx hy (suc k) h =
          let a = put_digits l.base (l.byte x y) (l.slot x y) k v b in
          get_or-set_other a (l.byte x y k) i (replaced l.base (l.slot x y k) (digit l.base k v) (get_or a (l.byte x y k) 0)) 0 (free x y k hx hy h)
          ∙ go v b x y hx hy k (omega arith)

-- ---- a zero-filled buffer shows the colour 0 everywhere
pub get_d_zeros : (n i : ℕ) → ◌≡◌ {A = ℕ} (get_or (replicate n 0) i 0) 0
get_d_zeros zero i = refl
get_d_zeros (suc n) zero = refl
get_d_zeros (suc n) (suc i) = get_d_zeros n i

pub digit_zero : (B j : ℕ) → digit B j 0 ≡ 0
digit_zero B zero = zero-mod B
digit_zero B (suc j) = ap (digit B j) (zero-div B) ∙ digit_zero B j

pub shown_zeros : (l : Layout) (n x y : ℕ) → shown l (replicate n 0) x y ≡ 0
shown_zeros l n x y =
    value_zero l.base l.parts _ (λ k. ap (digit l.base (l.slot x y k)) (get_d_zeros n (l.byte x y k)) ∙ digit_zero l.base (l.slot x y k))
