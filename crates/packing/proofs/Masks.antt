-- Shifts and masks of a pixel's field, at depths 1, 2 and 4, and a byte of one colour, as the machine works them out. Assumes nothing.
use mathlib.Core.Path.{◌≡◌, refl, sym, ap, ap₂, ◌∙◌, subst}
use mathlib.Core.Bool.{true}
use Prim.Native.Nat.{ℕ, ◌+◌, ◌-◌, ◌*◌, ◌/◌, ◌%◌, ◌^◌, ◌≤◌, ◌<◌}
use native.Mathlib.Nat.{add-zero, le_of_lt, mod-lt, mod-mod, mod-eq_of_lt, div-add-mod', mul-le-mul_right}
use native.Mathlib.Omega.{arith}
use lib.Arith.{digits_div, digits_mod}
use lib.Dec.{lit<, lit≤}
use lib.Bits.{bit_and, bit_or, and_mask, and_shr, and_block, and_zero_l}
use lib.Pow.{pow_pos, pow_mono, ones_split, shl-shr}
use Rattle.layout.specs.Digits.{digit, replaced, value}
use Rattle.layout.specs.Packed.{good_depth, field, per, slot_of}
use Rattle.layout.proofs.Places.{Depth, depth_of, depth_cases, depth_pos, small, per_pos}
use Rattle.layout.proofs.Fields.{shifted_lt, field_write, field_read}
use Rattle.layout.proofs.Cells.{digit_value}
use Rattle.layout.proofs.Bytes.{byte_full}
use Rattle.packing.specs.Words.{pixel_mask, masks_of, bits_from, bits_to}
use Rattle.packing.proofs.Parts.{digit_is}

-- a byte of ones, shifted down
ones_down : (t : ℕ) → t ≤ 8 → 255 / 2 ^ t ≡ 2 ^ (8 - t) - 1
ones_down t h =
    let e : 8 - t + t ≡ 8 = omega arith in
    let o : 255 ≡ (2 ^ (8 - t) - 1) * 2 ^ t + (2 ^ t - 1) = sym (ap (λ (z : ℕ). 2 ^ z - 1) e) ∙ ones_split (8 - t) t in
    ap (λ (z : ℕ). z / 2 ^ t) o ∙ digits_div (2 ^ (8 - t) - 1) (let p = pow_pos t in omega arith)

module _ (d x : ℕ) (g : good_depth d ≡ true) (s : d < 8) where
  D : Depth d
  D = depth_of d g

  flat : field d ≡ d
  flat = (small d (le_of_lt s) (depth_pos d g)).0

  eight : per d * d ≡ 8
  eight = let w = D.whole in let e : field d * per d ≡ d * per d = ap (λ (k : ℕ). k * per d) flat in omega arith

  -- the bits above a pixel's
  above : x * d % 8 ≡ x % per d * d
  above =
      let e = div-add-mod' x (per d) in
      let f : x * d ≡ x / per d * 8 + x % per d * d =
      ap (λ (k : ℕ). k * d) (sym e) ∙ (let m : (x / per d * per d + x % per d) * d ≡ x / per d * (per d * d) + x % per d * d = omega arith in m)
      ∙ ap (λ (k : ℕ). x / per d * k + x % per d * d) eight in
      ap (λ (k : ℕ). k % 8) f ∙ digits_mod (x / per d) low
    where
      low : x % per d * d < 8
      low =
          let p = depth_pos d g in
          let h : (x % per d + 1) * d ≤ per d * d = mul-le-mul_right d (let l = mod-lt x (per_pos d D) in omega arith) in
          let e = eight in
          omega arith

  shift_room : x * d % 8 ≤ 8 - d
  shift_room =
      let h : (x % per d + 1) * d ≤ per d * d = mul-le-mul_right d (let l = mod-lt x (per_pos d D) in omega arith) in
      let e = eight in
      let a = above in
      omega arith

  shift_is : 8 - d - x * d % 8 ≡ field d * slot_of d x
  unfolding slot_of
  shift_is =
      let l = mod-lt x (per_pos d D) in
      let h : (per d - 1 - x % per d) + (x % per d + 1) ≡ per d = omega arith in
      let e : (per d - 1 - x % per d) * d + (x % per d + 1) * d ≡ per d * d =
      (let j : (per d - 1 - x % per d) * d + (x % per d + 1) * d ≡ ((per d - 1 - x % per d) + (x % per d + 1)) * d = omega arith in j) ∙ ap (λ (k : ℕ). k * d) h in
      let w = eight in
      let a = above in
      let m : d * (per d - 1 - x % per d) ≡ 8 - d - x * d % 8 = omega arith in
      sym (ap (λ (k : ℕ). k * (per d - 1 - x % per d)) flat ∙ m)

  slot_below : slot_of d x < per d
  unfolding slot_of
  slot_below = let p = per_pos d D in omega arith

  -- ones where the position of a pixel in its byte has zeros
  pub slot_is : x ≤ 2048 → bit_and (4294967295 - x) (7 / 2 ^ (d / 2)) ≡ slot_of d x
  unfolding field per slot_of
  slot_is h =
      depth_cases (λ d. d < 8 → bit_and (4294967295 - x) (7 / 2 ^ (d / 2)) ≡ slot_of d x)
      (λ s. and_mask (4294967295 - x) 3 ∙ omega arith) (λ s. and_mask (4294967295 - x) 2 ∙ omega arith) (λ s. and_mask (4294967295 - x) 1 ∙ omega arith)
      (λ s. omega arith) (λ s. omega arith) (λ s. omega arith) (λ s. omega arith) d g s

  pub slot_small : {r : ℕ} → r ≡ slot_of d x → r < 8
  unfolding field per
  slot_small e =
      let h : per d ≤ 8 = depth_cases (λ d. per d ≤ 8) (lit≤ tt) (lit≤ tt) (lit≤ tt) (lit≤ tt) (lit≤ tt) (lit≤ tt) (lit≤ tt) d g in
      let b = slot_below in
      omega arith

  pub shift_of : {r : ℕ} → r ≡ slot_of d x → d * r ≡ field d * slot_of d x
  shift_of e = ap₂ ◌*◌ (sym flat) e

  pub shift_small : {r : ℕ} → r ≡ field d * slot_of d x → r < 8
  shift_small e = let i = shift_is in let p = depth_pos d g in omega arith

  -- all bits of a pixel, at the low end
  full : (1 * 2 ^ d) % 4294967296 ≡ 2 ^ field d
  full =
      let m : 2 ^ d ≤ 256 = pow_mono {i = d} {j = 8} (omega arith) in
      ap (λ (k : ℕ). k % 4294967296) (omega arith) ∙ mod-eq_of_lt (omega arith) ∙ ap (λ (k : ℕ). 2 ^ k) (sym flat)

  pub full_pos : 1 ≤ (1 * 2 ^ d) % 4294967296
  full_pos = subst (λ (k : ℕ). 1 ≤ k) (sym full) (pow_pos (field d))

  mask_lt : pixel_mask d x < 256
  mask_lt =
      subst (λ (k : ℕ). pixel_mask d x < k) (byte_full d D) (shifted_lt (field d) (per d) (slot_of d x) (2 ^ field d - 1) slot_below (let p = pow_pos (field d) in omega arith))

  module _ (r : ℕ) (e : r ≡ field d * slot_of d x) where
    -- the pixel's bits, shifted down, are its colour
    pub seen : (v : ℕ) → v < 256 → bit_and (v / 2 ^ r) ((1 * 2 ^ d) % 4294967296 - 1) ≡ digit (2 ^ field d) (slot_of d x) v
    seen v hv =
        let s = field d * slot_of d x in
        ap₂ (λ (k j : ℕ). bit_and (v / 2 ^ k) (j - 1)) e full ∙ ap (bit_and (v / 2 ^ s)) (sym (shl-shr (2 ^ field d - 1) s)) ∙ sym (and_shr v (pixel_mask d x) s)
        ∙ field_read (field d) (per d) (slot_of d x) v slot_below (subst (λ (k : ℕ). v < k) (sym (byte_full d D)) hv)

    module _ (c : ℕ) (hc : c < 2 ^ d) where
      low : c < 2 ^ field d
      low = subst (λ (k : ℕ). c < 2 ^ k) (sym flat) hc

      moved_lt : c * 2 ^ (field d * slot_of d x) < 256
      moved_lt = subst (λ (k : ℕ). c * 2 ^ (field d * slot_of d x) < k) (byte_full d D) (shifted_lt (field d) (per d) (slot_of d x) c slot_below low)

      pub moved_is : (c * 2 ^ r) % 4294967296 ≡ c * 2 ^ (field d * slot_of d x)
      moved_is = ap (λ (k : ℕ). (c * 2 ^ k) % 4294967296) e ∙ mod-eq_of_lt (let h = moved_lt in omega arith)

      pub moved_fits : (c * 2 ^ r) % 4294967296 < 256
      moved_fits = subst (λ (k : ℕ). k < 256) (sym moved_is) moved_lt

      -- the colour has no bit beside the pixel's
      moved_inside : bit_and (c * 2 ^ (field d * slot_of d x)) (pixel_mask d x) ≡ c * 2 ^ (field d * slot_of d x)
      moved_inside =
          let s = field d * slot_of d x in
          sym (ap₂ bit_and (add-zero (c * 2 ^ s)) (add-zero (pixel_mask d x))) ∙ and_block s c (2 ^ field d - 1) 0 0 (pow_pos s) (pow_pos s)
          ∙ ap₂ (λ (m n : ℕ). m * 2 ^ s + n) (and_mask c (field d) ∙ mod-eq_of_lt low) (and_zero_l 0) ∙ add-zero (c * 2 ^ s)

      -- the pixel's bits take the colour, and the others stay
      pub written : (v : ℕ) → v < 256 → bit_or (bit_and v (255 - pixel_mask d x)) ((c * 2 ^ r) % 4294967296) ≡ replaced (2 ^ field d) (slot_of d x) c v
      written v hv =
          ap (bit_or (bit_and v (255 - pixel_mask d x))) (moved_is ∙ sym moved_inside)
          ∙ ap (λ (k : ℕ). bit_or (bit_and v (k - 1 - pixel_mask d x)) (bit_and (c * 2 ^ (field d * slot_of d x)) (pixel_mask d x))) (sym (byte_full d D))
          ∙ field_write (field d) (per d) (slot_of d x) v slot_below (subst (λ (k : ℕ). v < k) (sym (byte_full d D)) hv) c low

  -- a byte of ones without those above the pixel's
  pub bits_from_is : 255 / 2 ^ (x * d % 8) ≡ bits_from d x
  unfolding slot_of
  bits_from_is =
      let t = x * d % 8 in
      let i = shift_is in
      let m = shift_room in
      let j : field d * slot_of d x + field d ≡ 8 - t = let f = flat in omega arith in
      let k : field d * (slot_of d x + 1) ≡ 8 - t = (let q : field d * (slot_of d x + 1) ≡ field d * slot_of d x + field d = omega arith in q) ∙ j in
      ones_down t (omega arith) ∙ sym (ap (λ (z : ℕ). 2 ^ z - 1) k)

  -- the ones that are left are below the pixel's
  pub bits_to_is : 255 - 255 / 2 ^ (x * d % 8 + d) ≡ bits_to d x
  bits_to_is =
      let i = shift_is in
      let m = shift_room in
      ap (λ (z : ℕ). 255 - z) (ones_down (x * d % 8 + d) (omega arith) ∙ ap (λ (z : ℕ). 2 ^ z - 1) (omega arith))

-- ---- the table of masks
module _ (d : ℕ) (g : good_depth d ≡ true) (s : d < 8) where
  -- the depth that is left
  pub else_four : (d ≡ 1 → ⊥) → (d ≡ 2 → ⊥) → d ≡ 4
  else_four =
      depth_cases (λ d. d < 8 → (d ≡ 1 → ⊥) → (d ≡ 2 → ⊥) → d ≡ 4)
      (λ s a b. absurd (a refl)) (λ s a b. absurd (b refl)) (λ s a b. refl) (λ s a b. omega arith) (λ s a b. omega arith) (λ s a b. omega arith) (λ s a b. omega arith) d g s

  module _ (x : ℕ) where
    -- the byte of a pixel's field is its mask
    pub mask_there : {m r : ℕ} → m ≡ masks_of d → r ≡ slot_of d x → bit_and (m / 2 ^ (8 * r)) 255 ≡ pixel_mask d x
    unfolding slot_of
    mask_there e f =
        ap₂ (λ (k j : ℕ). bit_and (k / 2 ^ (8 * j)) 255) e f ∙ digit_is (slot_of d x) (masks_of d)
        ∙ digit_value 256 (lit< tt) (per d) (slot_of d x) (λ j. pixel_mask d (per d - 1 - j)) (λ j. mask_lt d (per d - 1 - j) g s) (slot_below d x g s)
        ∙ ap (λ (k : ℕ). (2 ^ field d - 1) * 2 ^ (field d * (per d - 1 - k))) (ap (λ (k : ℕ). k % per d) back ∙ mod-mod x (per d))
      where
        back : per d - 1 - (per d - 1 - x % per d) ≡ x % per d
        back = let l = mod-lt x (per_pos d (depth_of d g)) in omega arith

-- ---- a byte all of whose pixels have one colour
abbrev times : ℕ → ℕ → ℕ → Type 0
times d f c = c * f ≡ value (2 ^ field d) (per d) (λ k. c)

pub pattern_1 : (d c : ℕ) → d ≡ 1 → c < 2 ^ d → times d 255 c
unfolding field per
pattern_1 d c e h = subst (λ (k : ℕ). c < 2 ^ k → times k 255 c) (sym e) (λ l. omega arith) h

pub pattern_2 : (d c : ℕ) → d ≡ 2 → c < 2 ^ d → times d 85 c
unfolding field per
pattern_2 d c e h = subst (λ (k : ℕ). c < 2 ^ k → times k 85 c) (sym e) (λ l. omega arith) h

pub pattern_4 : (d c : ℕ) → d ≡ 4 → c < 2 ^ d → times d 17 c
unfolding field per
pattern_4 d c e h = subst (λ (k : ℕ). c < 2 ^ k → times k 17 c) (sym e) (λ l. omega arith) h

pub pattern_8 : (d : ℕ) → good_depth d ≡ true → d ≤ 8 → (d ≡ 1 → ⊥) → (d ≡ 2 → ⊥) → (d ≡ 4 → ⊥) → (c : ℕ) → c < 2 ^ d → c ≡ value (2 ^ field d) (per d) (λ k. c)
unfolding field per
pattern_8 =
    depth_cases (λ d. d ≤ 8 → (d ≡ 1 → ⊥) → (d ≡ 2 → ⊥) → (d ≡ 4 → ⊥) → (c : ℕ) → c < 2 ^ d → c ≡ value (2 ^ field d) (per d) (λ k. c))
    (λ h a b e c l. absurd (a refl)) (λ h a b e c l. absurd (b refl)) (λ h a b e c l. absurd (e refl)) (λ h a b e c l. omega arith)
    (λ h a b e c l. absurd (no h)) (λ h a b e c l. absurd (no' h)) (λ h a b e c l. absurd (no'' h))
  where
    no : 16 ≤ 8 → ⊥
    no h = omega arith

    no' : 24 ≤ 8 → ⊥
    no' h = omega arith

    no'' : 32 ≤ 8 → ⊥
    no'' h = omega arith
