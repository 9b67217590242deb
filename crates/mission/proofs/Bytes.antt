-- A frame keeps its pixels where 01 says, at each of the seven depths, in both orders and at every distance. Assumes nothing.
use mathlib.Core.Path.{◌≡◌, sym, ap, ap₂, ◌∙◌}
use mathlib.Core.Bool.{Bool, true, false}
use mathlib.Core.List.{List}
use Prim.Native.Nat.{ℕ, zero, suc, ◌+◌, ◌*◌, ◌-◌, ◌/◌, ◌%◌, ◌^◌}
use native.Mathlib.Nat.{div-one, mul-div-mul_right, div-div-eq-div-mul, pow-zero, pow-succ'}
use native.Mathlib.Omega.{arith}
use lib.ListN.{get_or}
use Rattle.layout.specs.Digits.{digit}
use Rattle.layout.specs.Layout.{shown}
use Rattle.layout.specs.Packed.{good_depth, field, parts, per, byte_of, slot_of, laid}
use Rattle.layout.proofs.Fields.{pow_mul}
use Rattle.layout.proofs.Places.{depth_cases}
use Rattle.frames.specs.declared.Frame.{Frame}
use Rattle.frames.specs.Description.{raster}
use Rattle.mission.specs.Bytes.{byte, bit, colour_in, colour_of}

-- digit j of a number at a base
digit_is : (B j v : ℕ) → digit B j v ≡ v / B ^ j % B
digit_is B zero v = ap (λ (u : ℕ). u % B) (sym (div-one v)) ∙ ap (λ (u : ℕ). v / u % B) (sym (pow-zero B))
digit_is B (suc j) v = digit_is B j (v / B) ∙ ap (λ (u : ℕ). u % B) (div-div-eq-div-mul v B (B ^ j)) ∙ ap (λ (u : ℕ). v / u % B) (sym (pow-succ' B j))

-- a field of n bits that n·j bits follow
field_is : (n j k v : ℕ) → n * j ≡ k → digit (2 ^ n) j v ≡ v / 2 ^ k % 2 ^ n
field_is n j k v e = digit_is (2 ^ n) j v ∙ ap (λ (u : ℕ). v / u % 2 ^ n) (pow_mul n j ∙ ap (λ (u : ℕ). 2 ^ u) e)

field_at : (n j k : ℕ) (b : List ℕ) (i i' : ℕ) → n * j ≡ k → i ≡ i' → digit (2 ^ n) j (get_or b i 0) ≡ get_or b i' 0 / 2 ^ k % 2 ^ n
field_at n j k b i i' e q = field_is n j k (get_or b i 0) e ∙ ap (λ (u : ℕ). get_or b u 0 / 2 ^ k % 2 ^ n) q

-- a whole byte
whole_is : (b : List ℕ) (j i i' : ℕ) → j ≡ 0 → i ≡ i' → digit 256 j (get_or b i 0) ≡ byte b i'
whole_is b j i i' z e = ap₂ (λ (j i : ℕ). digit 256 j (get_or b i 0)) z e

-- a pixel's byte, by pixels
bits2 : (x : ℕ) → x * 2 / 8 ≡ x / 4
bits2 x = mul-div-mul_right {m = 2} x 4 (omega arith)

bits4 : (x : ℕ) → x * 4 / 8 ≡ x / 2
bits4 x = mul-div-mul_right {m = 4} x 2 (omega arith)

-- ---- depth by depth: width, height, distance, order, the bytes, and the pixel
abbrev At : ℕ → Type 0
At d =
    (w h distance : ℕ) (big : Bool) (b : List ℕ) (x y : ℕ)
    → shown (laid (record { width = w; height = h; depth = d; distance = distance; big = big })) b x y ≡ colour_in d big b (y * distance) x

at1 : At 1
unfolding field parts per byte_of slot_of
at1 w h n true b x y = omega (arith, field_at 1 (8 - 1 - x % 8) (8 - 1 - x * 1 % 8) b (y * n + x * 1 / 8 + 0) (y * n + x * 1 / 8) (omega arith) (omega arith))
at1 w h n false b x y = omega (arith, field_at 1 (8 - 1 - x % 8) (8 - 1 - x * 1 % 8) b (y * n + x * 1 / 8 + 0) (y * n + x * 1 / 8) (omega arith) (omega arith))

at2 : At 2
unfolding field parts per byte_of slot_of
at2 w h n true b x y = omega (arith, field_at 2 (4 - 1 - x % 4) (8 - 2 - x * 2 % 8) b (y * n + x * 2 / 8 + 0) (y * n + x * 2 / 8) (omega (arith, bits2 x)) (omega arith))
at2 w h n false b x y = omega (arith, field_at 2 (4 - 1 - x % 4) (8 - 2 - x * 2 % 8) b (y * n + x * 2 / 8 + 0) (y * n + x * 2 / 8) (omega (arith, bits2 x)) (omega arith))

at4 : At 4
unfolding field parts per byte_of slot_of
at4 w h n true b x y = omega (arith, field_at 4 (2 - 1 - x % 2) (8 - 4 - x * 4 % 8) b (y * n + x * 4 / 8 + 0) (y * n + x * 4 / 8) (omega (arith, bits4 x)) (omega arith))
at4 w h n false b x y = omega (arith, field_at 4 (2 - 1 - x % 2) (8 - 4 - x * 4 % 8) b (y * n + x * 4 / 8 + 0) (y * n + x * 4 / 8) (omega (arith, bits4 x)) (omega arith))

at8 : At 8
unfolding field parts per byte_of slot_of
at8 w h n true b x y = omega (arith, whole_is b (0 - x % 1) (y * n + x * 8 / 8 + 0) (y * n + x) (omega arith) (omega arith))
at8 w h n false b x y = omega (arith, whole_is b (0 - x % 1) (y * n + x * 8 / 8 + 0) (y * n + x) (omega arith) (omega arith))

at16 : At 16
unfolding field parts per byte_of slot_of
at16 w h n true b x y = omega (arith, whole_is b (0 - x % 1) (y * n + x * 16 / 8 + 0) (y * n + 2 * x) (omega arith) (omega arith), whole_is b (0 - x % 1) (y * n + x * 16 / 8 + 1) (y * n + 2 * x + 1) (omega arith) (omega arith))
at16 w h n false b x y = omega (arith, whole_is b (0 - x % 1) (y * n + x * 16 / 8 + 0) (y * n + 2 * x) (omega arith) (omega arith), whole_is b (0 - x % 1) (y * n + x * 16 / 8 + 1) (y * n + 2 * x + 1) (omega arith) (omega arith))

at24 : At 24
unfolding field parts per byte_of slot_of
at24 w h n true b x y = omega (arith, whole_is b (0 - x % 1) (y * n + x * 24 / 8 + 0) (y * n + 3 * x) (omega arith) (omega arith), whole_is b (0 - x % 1) (y * n + x * 24 / 8 + 1) (y * n + 3 * x + 1) (omega arith) (omega arith), whole_is b (0 - x % 1) (y * n + x * 24 / 8 + 2) (y * n + 3 * x + 2) (omega arith) (omega arith))
at24 w h n false b x y = omega (arith, whole_is b (0 - x % 1) (y * n + x * 24 / 8 + 0) (y * n + 3 * x) (omega arith) (omega arith), whole_is b (0 - x % 1) (y * n + x * 24 / 8 + 1) (y * n + 3 * x + 1) (omega arith) (omega arith), whole_is b (0 - x % 1) (y * n + x * 24 / 8 + 2) (y * n + 3 * x + 2) (omega arith) (omega arith))

at32 : At 32
unfolding field parts per byte_of slot_of
at32 w h n true b x y = omega (arith, whole_is b (0 - x % 1) (y * n + x * 32 / 8 + 0) (y * n + 4 * x) (omega arith) (omega arith), whole_is b (0 - x % 1) (y * n + x * 32 / 8 + 1) (y * n + 4 * x + 1) (omega arith) (omega arith), whole_is b (0 - x % 1) (y * n + x * 32 / 8 + 2) (y * n + 4 * x + 2) (omega arith) (omega arith), whole_is b (0 - x % 1) (y * n + x * 32 / 8 + 3) (y * n + 4 * x + 3) (omega arith) (omega arith))
at32 w h n false b x y = omega (arith, whole_is b (0 - x % 1) (y * n + x * 32 / 8 + 0) (y * n + 4 * x) (omega arith) (omega arith), whole_is b (0 - x % 1) (y * n + x * 32 / 8 + 1) (y * n + 4 * x + 1) (omega arith) (omega arith), whole_is b (0 - x % 1) (y * n + x * 32 / 8 + 2) (y * n + 4 * x + 2) (omega arith) (omega arith), whole_is b (0 - x % 1) (y * n + x * 32 / 8 + 3) (y * n + 4 * x + 3) (omega arith) (omega arith))

-- THE PLACE OF EVERY PIXEL: what a frame's bytes show is what 01's layout says
pub pixel_place : (f : Frame) → good_depth f.depth ≡ true → (b : List ℕ) (x y : ℕ) → shown (raster f) b x y ≡ colour_of f b x y
pixel_place f g = depth_cases At at1 at2 at4 at8 at16 at24 at32 f.depth g f.width f.height f.distance f.big

pub bit_is : (b : List ℕ) (i t : ℕ) → digit 2 t (get_or b i 0) ≡ bit b i t
bit_is b i t = digit_is 2 t (get_or b i 0)
