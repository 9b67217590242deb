-- "order has no effect at 8 and below": setting, reading and painting are the same in both orders. Assumes nothing.
use mathlib.Core.Path.{◌≡◌, refl, sym, ap, ◌∙◌}
use mathlib.Core.Bool.{Bool, true, false}
use mathlib.Core.List.{List}
use Prim.Native.Nat.{ℕ, zero, suc, ◌+◌, ◌*◌, ◌/◌, ◌%◌, ◌^◌, ◌≤◌}
use lib.IntN.{ℤ, pos}
use lib.ListN.{get_or}
use Rattle.layout.specs.Digits.{digit, value, put_digits}
use Rattle.layout.specs.Paint.{put_if, paint}
use Rattle.layout.specs.Layout.{put_pixel, get_pixel, put_no, painted}
use Rattle.layout.specs.Packed.{Packed, laid, good_depth, field, parts, turned, byte_of, slot_of}
use Rattle.layout.proofs.Places.{small, depth_pos}

-- the frame in the order
abbrev pub ordered : Bool → Packed → Packed
ordered big r = record { width = r.width; height = r.height; depth = r.depth; distance = r.distance; big = big }

module _ (r : Packed) (g : good_depth r.depth ≡ true) (h : r.depth ≤ 8) where
  one : parts r.depth ≡ 1
  one = (small r.depth h (depth_pos r.depth g)).1

  pub put_order : (x y v : ℕ) (b : List ℕ) → put_pixel (laid (ordered true r)) x y v b ≡ put_pixel (laid (ordered false r)) x y v b
  unfolding byte_of
  put_order x y v b =
      let B = 2 ^ field r.depth in
      let at = y * r.distance + x * r.depth / 8 in
      let s = slot_of r.depth x in
      (λ i. put_digits B (λ k. at + turned true (one i) k) (λ k. s) (one i) v b) ∙ sym (λ i. put_digits B (λ k. at + turned false (one i) k) (λ k. s) (one i) v b)

  pub get_order : (x y : ℕ) (b : List ℕ) → get_pixel (laid (ordered true r)) x y b ≡ get_pixel (laid (ordered false r)) x y b
  unfolding byte_of
  get_order x y b =
      let B = 2 ^ field r.depth in
      let at = y * r.distance + x * r.depth / 8 in
      let s = slot_of r.depth x in
      (λ i. value B (one i) (λ k. digit B s (get_or b (at + turned true (one i) k) 0))) ∙ sym (λ i. value B (one i) (λ k. digit B s (get_or b (at + turned false (one i) k) 0)))

  pub painted_order : (s : ℤ → ℤ → Bool) (c : ℕ) (b : List ℕ) → painted (laid (ordered true r)) s c b ≡ painted (laid (ordered false r)) s c b
  unfolding painted
  painted_order s c b = go (r.height * r.width)
    where
      step : (t : Bool) (p : ℕ) (a : List ℕ) → put_if (put_no (laid (ordered true r))) t p c a ≡ put_if (put_no (laid (ordered false r))) t p c a
      step true p a = put_order (p % r.width) (p / r.width) c a
      step false p a = refl

      go : (n : ℕ)
          → paint (put_no (laid (ordered true r))) n (λ p. s (pos (p % r.width)) (pos (p / r.width))) c b
          ≡ paint (put_no (laid (ordered false r))) n (λ p. s (pos (p % r.width)) (pos (p / r.width))) c b
      go zero = refl
      go (suc n) =
          ap (put_if (put_no (laid (ordered true r))) (s (pos (n % r.width)) (pos (n / r.width))) n c) (go n) ∙ step (s (pos (n % r.width)) (pos (n / r.width))) n _
