-- Spans of a row. At depths 1, 2 and 4: the byte of a pixel, the pixels that a mask picks of it, and the bytes between; from depth 8 on, whole bytes.
-- Assumes nothing.
use mathlib.Core.Path.{◌≡◌, sym, ap, ap₂, ◌∙◌, subst}
use mathlib.Core.List.{List, ◌++◌}
use Prim.Native.Nat.{ℕ, ◌+◌, ◌*◌, ◌/◌, ◌^◌, ◌≤◌, ◌<◌}
use native.Mathlib.Nat.{le_of_lt, mod-lt, div-add-mod', mul-le-mul_right, mul-one, div-one}
use native.Mathlib.Omega.{arith}
use lib.Bits.{bit_and}
use lib.ListN.{length, take, drop}
use Rattle.layout.specs.Digits.{value, set_run}
use Rattle.layout.specs.Layout.{painted}
use Rattle.layout.specs.Packed.{field, parts, per, full_byte}
use Rattle.layout.proofs.Places.{small, large, column, depth_pos, depth_of, per_pos}
use Rattle.layout.proofs.Runs.{run_cong}
use Rattle.layout.proofs.Spans.{columns}
use Rattle.layout.proofs.Painted.{painted_swap, span_then}
use Rattle.layout.proofs.Bytes.{Bytes, byte_at, head, tail, inner, full_one, groups_filled}
use Rattle.frames.specs.declared.Frame.{Frame}
use Rattle.frames.specs.Description.{arranged, raster}
use Rattle.packing.specs.Words.{bits_from, bits_to, merged_at}
use Rattle.frames.specs.Judged.{Drawable}
use Rattle.frames.proofs.Refusals.{spaced, sound}

module _ (f : Frame) (len colour : ℕ) (A : Drawable f len colour) (s : f.depth < 8) where
  abbrev d : ℕ
  d = f.depth

  abbrev n : ℕ
  n = per d

  abbrev row : ℕ
  row = f.distance

  thin : (field d ≡ d) × (parts d ≡ 1)
  thin = small d (le_of_lt s) (depth_pos d A.accepted.described.depth)

  low : colour < 2 ^ field d
  low = subst (λ (k : ℕ). colour < 2 ^ k) (sym thin.0) A.below

  -- a pixel's byte in its row
  pub byte_col : (x : ℕ) → x * d / 8 ≡ x / n
  byte_col = byte_at (arranged f) (spaced f A.accepted.described) colour thin.1 low

  -- bytes before a place
  pub bytes_to : (x : ℕ) → x * d / 8 * n ≤ x
  bytes_to x = let e = byte_col x in let q = div-add-mod' x n in let g : x * d / 8 * n ≡ x / n * n = ap (λ (i : ℕ). i * n) e in omega arith

  pub head_after : (x : ℕ) → x ≤ (x * d / 8 + 1) * n
  head_after x =
      let e = byte_col x in
      let q = div-add-mod' x n in
      let l = mod-lt x (per_pos d (depth_of d A.accepted.described.depth)) in
      let g : (x * d / 8 + 1) * n ≡ x / n * n + n = ap (λ (i : ℕ). (i + 1) * n) e ∙ omega arith in
      omega arith

  pub in_order : (x z : ℕ) → x ≤ z → (x * d / 8 ≡ z * d / 8 → ⊥) → x * d / 8 + 1 ≤ z * d / 8
  in_order x z h g = less (mul-le-mul_right d h)
    where
      less : x * d ≤ z * d → x * d / 8 + 1 ≤ z * d / 8
      less m = omega arith

  module _ (y : ℕ) (b : List ℕ) (hy : y < f.height) (v : Bytes b) where
    abbrev p : ℕ
    p = value (2 ^ field d) n (λ k. colour)

    pub head_is : (x : ℕ) → y * row + x * d / 8 < length b → (x * d / 8 + 1) * n ≤ f.width
        → merged_at (y * row + x * d / 8) p (bits_from d x) b ≡ painted (raster f) (columns y x ((x * d / 8 + 1) * n)) colour b
    head_is x l w =
        sym (ap (λ (i : ℕ). painted (raster f) (columns y x ((i + 1) * n)) colour b) (byte_col x)
        ∙ head (arranged f) (spaced f A.accepted.described) colour thin.1 low y x b hy l v (subst (λ (i : ℕ). (i + 1) * n ≤ f.width) (byte_col x) w))

    pub tail_is : (x : ℕ) → y * row + x * d / 8 < length b → x < f.width
        → merged_at (y * row + x * d / 8) p (bits_to d x) b ≡ painted (raster f) (columns y (x * d / 8 * n) (x + 1)) colour b
    tail_is x l w =
        sym (ap (λ (i : ℕ). painted (raster f) (columns y (i * n) (x + 1)) colour b) (byte_col x)
        ∙ tail (arranged f) (spaced f A.accepted.described) colour thin.1 low y x b hy l v w)

    pub inner_is : (x z : ℕ) → y * row + x * d / 8 < length b → x ≤ z → z < f.width → x * d / 8 ≡ z * d / 8
        → merged_at (y * row + x * d / 8) p (bit_and (bits_from d x) (bits_to d z)) b ≡ painted (raster f) (columns y x (z + 1)) colour b
    inner_is x z l h w e =
        sym (inner (arranged f) (spaced f A.accepted.described) colour thin.1 low y x b hy l v z h w (sym (byte_col x) ∙ e ∙ byte_col z))

    pub whole_is : (x z : ℕ) (s s' : List ℕ) (a k : ℕ) → x ≤ z → z * n ≤ f.width → a ≡ y * row + x → a + k ≡ y * row + z → a + k ≤ length b
        → s ≡ take k (drop a b) → s' ≡ set_run 0 (length s) (λ j. p) s → take a b ++ (s' ++ drop k (drop a b)) ≡ painted (raster f) (columns y (x * n) (z * n)) colour b
    whole_is x z s s' a k h w ea ek l e e' =
        groups_filled (arranged f) (spaced f A.accepted.described) colour A.below y x z b s s' a k h w hy (ea ∙ bytes x) (ek ∙ bytes z) l v e
        (e' ∙ run_cong 0 (length s) _ _ s (λ j i. sym (full_one d f.big colour j thin.1 low)))
      where
        bytes : (i : ℕ) → y * row + i ≡ y * row + i * parts d
        bytes i = ap (λ (j : ℕ). y * row + j) (sym (ap (λ (j : ℕ). i * j) thin.1 ∙ mul-one i))

  -- both ends of a span, and then what is between them
  pub joined : (y x q t z : ℕ) (b b₁ b₂ b₃ : List ℕ) → x ≤ q → q ≤ t → t ≤ z
      → b₁ ≡ painted (raster f) (columns y x q) colour b → b₂ ≡ painted (raster f) (columns y t z) colour b₁ → b₃ ≡ painted (raster f) (columns y q t) colour b₂
      → b₃ ≡ painted (raster f) (columns y x z) colour b
  joined y x q t z b b₁ b₂ b₃ h k l e₁ e₂ e₃ =
      let P = sound f A.accepted.described in
      e₃ ∙ ap (painted (raster f) (columns y q t) colour) e₂ ∙ painted_swap (raster f) P colour b₁ (columns y q t) (columns y t z)
      ∙ ap (λ (b : List ℕ). painted (raster f) (columns y t z) colour (painted (raster f) (columns y q t) colour b)) e₁
      ∙ ap (painted (raster f) (columns y t z) colour) (span_then (raster f) P colour b y x q t h k) ∙ span_then (raster f) P colour b y x t z (omega arith) l

-- ---- from depth 8 on, whole pixels
module _ (f : Frame) (len colour : ℕ) (A : Drawable f len colour) (s : 8 ≤ f.depth) where
  alone : per f.depth ≡ 1
  alone = (large f.depth A.accepted.described.depth s).1

  one : (x : ℕ) → x * per f.depth ≡ x
  one x = ap (λ (k : ℕ). x * k) alone ∙ mul-one x

  -- the byte of a pixel, by whole pixels
  place : (x : ℕ) → x * f.depth / 8 ≡ x * parts f.depth
  place x =
      column f.depth (depth_of f.depth A.accepted.described.depth) x ∙ ap (λ (k : ℕ). x / k * parts f.depth) alone
      ∙ ap (λ (k : ℕ). k * parts f.depth) (div-one x)

  -- columns take up room for a pixel at least
  pub pixels_apart : (y x z : ℕ) {a e : ℕ} → x < z → a ≡ y * f.distance + x * f.depth / 8 → e ≡ y * f.distance + z * f.depth / 8 → a + parts f.depth ≤ e
  pixels_apart y x z h ea ee =
      let l : (x + 1) * parts f.depth ≤ z * parts f.depth = mul-le-mul_right (parts f.depth) (omega arith) in
      omega (arith, place x, place z)

  pub pixels_are : (y x z : ℕ) (b t t' : List ℕ) (a k : ℕ) → y < f.height → Bytes b → x ≤ z → z ≤ f.width
      → a ≡ y * f.distance + x * f.depth / 8 → a + k ≡ y * f.distance + z * f.depth / 8 → a + k ≤ length b
      → t ≡ take k (drop a b) → t' ≡ set_run 0 (length t) (full_byte f.depth f.big colour) t
      → take a b ++ (t' ++ drop k (drop a b)) ≡ painted (raster f) (columns y x z) colour b
  pixels_are y x z b t t' a k hy v h w ea ek l e e' =
      groups_filled (arranged f) (spaced f A.accepted.described) colour A.below y x z b t t' a k h (subst (λ (i : ℕ). i ≤ f.width) (sym (one z)) w) hy
      (ea ∙ ap (λ (i : ℕ). y * f.distance + i) (place x)) (ek ∙ ap (λ (i : ℕ). y * f.distance + i) (place z)) l v e e'
      ∙ ap₂ (λ (i j : ℕ). painted (raster f) (columns y i j) colour b) (one x) (one z)
