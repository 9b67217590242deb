-- Bytes by their bits, over every depth: that a picture leaves bytes, which pixel of a row a bit belongs to, and how a mask merges two bytes. Where a picture is taken over
-- from one layout into another, each bit is the source's, in the same byte or one of the same pixel, and behind the last pixel what stood there. Assumes nothing.
use mathlib.Core.Path.{◌≡◌, sym, ap, ap₂, ◌∙◌}
use mathlib.Core.Logic.{◌⊎◌, ⊎_elim}
use mathlib.Core.Bool.{Bool, beq, true, false, cond, not, true≢false}
use mathlib.Core.List.{List}
use Prim.Native.Nat.{ℕ, ◌+◌, ◌-◌, ◌*◌, ◌/◌, ◌%◌, ◌^◌, ◌≤◌, ◌<◌}
use native.Mathlib.Nat.{div-lt_iff_lt-mul}
use native.Mathlib.Omega.{arith}
use lib.Arith.{digits_mod}
use lib.Dec.{ltb}
use lib.ListN.{length, get_or}
use lib.Pow.{pow_pos, pow_mono}
use borrow.Author.Tests.{lt-ltb, le-ltb}
use Rattle.whole.proofs.Tests.{lt_or_ge}
use Rattle.layout.specs.Digits.{digit, value, cell}
use Rattle.layout.specs.Layout.{Picture, shown, rendered}
use Rattle.layout.specs.Packed.{Packed, good_depth, laid, field, parts, per, turned, byte_of, slot_of}
use Rattle.layout.proofs.Cells.{digit_lt, digit_value, value_cong, value_digits}
use Rattle.layout.proofs.Fields.{mask, mask_not, merge, low_fields}
use Rattle.layout.proofs.Exact as exact
use Rattle.layout.proofs.Bytes.{Bytes, byte_full, turn0}
use Rattle.layout.proofs.Places.{Sound, depth_cases, depth_of, depth_pos, per_pos, field_pos, turned_below, turned_twice, placing}
use Rattle.layout.proofs.Pictures.{shown_rendered, shown_colour}
use Rattle.layout.proofs.Padding.{same_bit, padding_stays}
use Rattle.packing.specs.Words.{merged}

-- ---- a picture leaves bytes
pub rendered_bytes : (r : Packed) → Sound r → (F : Picture) (b : List ℕ) → Bytes b → Bytes (rendered (laid r) F b)
unfolding slot_of
rendered_bytes r S F b h =
    let D = depth_of r.depth S.depth in
    exact.rendered_bytes (laid r) (placing r S) (per r.depth) (byte_full r.depth D) (λ x y k. let p = per_pos r.depth D in omega arith) F b h

-- ---- bit t of byte j of a row, the lowest being bit 0, is that of one digit of the pixel in this column
abbrev pub column_of : ℕ → ℕ → ℕ → ℕ
column_of d j t = (8 * j + (7 - t)) / d

abbrev pub Place : ℕ → Type 0
Place d = (j t : ℕ) → t < 8
    → (column_of d j t * d / 8 ≤ j) × (j - column_of d j t * d / 8 < parts d) × (t / field d ≡ slot_of d (column_of d j t))

pub place : (d : ℕ) → good_depth d ≡ true → Place d
unfolding field parts per slot_of
place =
    depth_cases Place (λ j t h. omega arith) (λ j t h. omega arith) (λ j t h. omega arith) (λ j t h. omega arith) (λ j t h. omega arith) (λ j t h. omega arith)
    (λ j t h. omega arith)

-- the byte that has it in the order i, where byte j has it in the order o
abbrev pub source_of : ℕ → Bool → Bool → ℕ → ℕ → ℕ
source_of d i o j t = let x = column_of d j t in x * d / 8 + turned i (parts d) (turned o (parts d) (j - x * d / 8))

-- the same byte, where a pixel has one byte or the orders are one
pub same_source : (d : ℕ) (i o : Bool) → good_depth d ≡ true → (parts d ≡ 1) ⊎ (i ≡ o) → (j t : ℕ) → t < 8 → source_of d i o j t ≡ j
same_source d i o G E j t ht =
    let P = place d G j t ht in
    let p = P.0 in
    let k = j - column_of d j t * d / 8 in
    let e : turned i (parts d) (turned o (parts d) k) ≡ k =
    ⊎_elim (one k P.1) (λ b. ap (λ (s : Bool). turned s (parts d) (turned o (parts d) k)) b ∙ turned_twice o (parts d) k P.1) E in
    omega arith
  where
    one : (k : ℕ) → k < parts d → parts d ≡ 1 → turned i (parts d) (turned o (parts d) k) ≡ k
    one k h e = let z : k ≡ 0 = omega arith in ap₂ (λ (n s : ℕ). turned i n (turned o n s)) e z ∙ ap (turned i 1) (turn0 o) ∙ turn0 i ∙ sym z

-- with three bytes a pixel, and two orders, from the other end of the pixel
pub turned_place : (d : ℕ) (i o : Bool) → d ≡ 24 → beq i o ≡ false → (j t : ℕ) → t < 8 → source_of d i o j t ≡ j / 3 * 3 + (2 - j % 3)
unfolding parts
turned_place d i o e ne j t h =
    ap (λ (d : ℕ). source_of d i o j t) e
    ∙ (let c : (8 * j + (7 - t)) / 24 ≡ j / 3 = omega arith in ap (λ (x : ℕ). x * 24 / 8 + turned i 3 (turned o 3 (j - x * 24 / 8))) c ∙ go i o ne)
  where
    go : (i o : Bool) → beq i o ≡ false → j / 3 * 24 / 8 + turned i 3 (turned o 3 (j - j / 3 * 24 / 8)) ≡ j / 3 * 3 + (2 - j % 3)
    go true true ne = absurd (true≢false ne)
    go true false ne = omega arith
    go false true ne = omega arith
    go false false ne = absurd (true≢false ne)

-- ---- byte j of a row that has n bits of pixels: those of u, by bit, and behind them those of v
abbrev pub mixed : ℕ → ℕ → (ℕ → ℕ) → ℕ → ℕ
mixed n j u v = value 2 8 (λ t. cond (ltb (8 * j + (7 - t)) n) (digit 2 t (u t)) (digit 2 t v))

pub mixed_cong : (n j : ℕ) (u w : ℕ → ℕ) (v : ℕ) → ((t : ℕ) → t < 8 → u t ≡ w t) → mixed n j u v ≡ mixed n j w v
mixed_cong n j u w v e =
    value_cong 2 (omega arith) 8 _ _ (λ t h. ap (λ (x : ℕ). cond (ltb (8 * j + (7 - t)) n) (digit 2 t x) (digit 2 t v)) (e t h))

-- with pixels alone
pub full : (n j u v : ℕ) → 8 * j + 8 ≤ n → u < 256 → mixed n j (λ t. u) v ≡ u
full n j u v l hu =
    value_cong 2 (omega arith) 8 _ _ (λ t h. ap (λ (b : Bool). cond b (digit 2 t u) (digit 2 t v)) (lt-ltb (8 * j + (7 - t)) n (omega arith)))
    ∙ value_digits 2 (omega arith) 8 u hu

ones : (n : ℕ) → 0 < n → n ≤ 128 → (255 * n) % 256 ≡ 255 - (n - 1)
ones n h l = let e : 255 * n ≡ (n - 1) * 256 + (256 - n) = omega arith in ap (λ (k : ℕ). k % 256) e ∙ digits_mod (n - 1) (omega arith) ∙ omega arith

high_mask : (p : ℕ) → p < 8 → (255 * 2 ^ p) % 256 ≡ mask 1 8 (λ t. not (ltb t p))
high_mask p hp =
    let l : 2 ^ p ≤ 128 = pow_mono {i = p} {j = 7} (omega arith) in
    let z : p ≡ 1 * p = omega arith in
    let low : 2 ^ p - 1 ≡ mask 1 8 (λ t. ltb t p) = ap (λ (k : ℕ). 2 ^ k - 1) z ∙ low_fields 1 8 p (omega arith) in
    ones (2 ^ p) (pow_pos p) l ∙ ap (λ (k : ℕ). 255 - k) low ∙ mask_not 1 8 (λ t. ltb t p)

-- with p bits behind the pixels: as the mask of the others merges two bytes
pub cut : (n j p u v : ℕ) → n + p ≡ 8 * j + 8 → p < 8 → u < 256 → v < 256 → mixed n j (λ t. u) v ≡ merged v u ((255 * 2 ^ p) % 256)
cut n j p u v e hp hu hv =
    value_cong 2 (omega arith) 8 _ _ (λ t h. ap (λ (b : Bool). cond b (digit 2 t u) (digit 2 t v)) (bit t h (lt_or_ge t p)))
    ∙ sym (ap (merged v u) (high_mask p hp)
    ∙ ap₂ (λ (x y : ℕ). merged x y (mask 1 8 (λ t. not (ltb t p)))) (sym (value_digits 2 (omega arith) 8 v hv)) (sym (value_digits 2 (omega arith) 8 u hu))
    ∙ merge 1 8 (λ t. not (ltb t p)) (λ t. digit 2 t v) (λ t. digit 2 t u) (λ t. digit_lt 2 (omega arith) t v) (λ t. digit_lt 2 (omega arith) t u))
  where
    bit : (t : ℕ) → t < 8 → (t < p) ⊎ (p ≤ t) → ltb (8 * j + (7 - t)) n ≡ not (ltb t p)
    bit t h =
        let i = 8 * j + (7 - t) in
        ⊎_elim (λ l. le-ltb i n (omega arith) ∙ sym (ap not (lt-ltb t p l))) (λ l. lt-ltb i n (omega arith) ∙ sym (ap not (le-ltb t p l)))

-- ---- a picture that is taken over from one layout into another
-- the same pixels in rows n bytes apart, in the order i
abbrev pub beside : Packed → ℕ → Bool → Packed
beside r n i = record { width = r.width; height = r.height; depth = r.depth; distance = n; big = i }

module _ (r : Packed) (S : Sound r) (n : ℕ) (i : Bool) (T : Sound (beside r n i)) (a : List ℕ) where
  abbrev d : ℕ
  d = r.depth

  abbrev m : ℕ
  m = parts r.depth

  abbrev base : ℕ
  base = 2 ^ field r.depth

  -- over the bytes c
  module _ (c : List ℕ) (o : r.distance * r.height ≤ length c) where
    abbrev all : List ℕ
    all = rendered (laid r) (shown (laid (beside r n i)) a) c

    -- each digit of a pixel's colour
    same_digit : (x y k : ℕ) → x < r.width → y < r.height → k < m
        → cell base (byte_of r x y k) (slot_of d x) all ≡ cell base (byte_of (beside r n i) x y k) (slot_of d x) a
    same_digit x y k hx hy hk =
        let p = pow_pos (field d) in
        let e = shown_rendered (laid r) (placing r S) (shown (laid (beside r n i)) a) c o x y hx hy
        (shown_colour (laid (beside r n i)) (placing (beside r n i) T) a x y) in
        sym (digit_value base p m k (λ k. cell base (byte_of r x y k) (slot_of d x) all) (λ k. digit_lt base p (slot_of d x) _) hk)
        ∙ ap (digit base k) e
        ∙ digit_value base p m k (λ k. cell base (byte_of (beside r n i) x y k) (slot_of d x) a) (λ k. digit_lt base p (slot_of d x) _) hk

    module _ (y j : ℕ) (hy : y < r.height) (hj : j < r.distance) where
      abbrev byte : ℕ
      byte = get_or all (y * r.distance + j) 0

      pixel_bit : (t : ℕ) → t < 8 → 8 * j + (7 - t) < r.width * d → digit 2 t byte ≡ digit 2 t (get_or a (y * n + source_of d i r.big j t) 0)
      unfolding byte_of
      pixel_bit t ht inside =
          let x = column_of d j t in
          let P = place d S.depth j t ht in
          let k = j - x * d / 8 in
          let p = P.0 in
          let hx : x < r.width = (div-lt_iff_lt-mul (depth_pos d S.depth)).1 inside in
          let back : turned r.big m (turned r.big m k) ≡ k = turned_twice r.big m k P.1 in
          let e : y * r.distance + j ≡ byte_of r x y (turned r.big m k) = omega arith in
          let e' : byte_of (beside r n i) x y (turned r.big m k) ≡ y * n + source_of d i r.big j t = omega arith in
          same_bit (field d) t _ _ (field_pos d (depth_of d S.depth))
          (ap₂ (λ (q s : ℕ). cell base q s all) e P.2
          ∙ same_digit x y (turned r.big m k) hx hy (turned_below r.big m k P.1)
          ∙ ap₂ (λ (q s : ℕ). cell base q s a) e' (sym P.2))

      pub by_bits : Bytes c → byte ≡ mixed (r.width * d) j (λ t. get_or a (y * n + source_of d i r.big j t) 0) (get_or c (y * r.distance + j) 0)
      by_bits vc =
          sym (value_digits 2 (omega arith) 8 byte (rendered_bytes r S _ c vc (y * r.distance + j)))
          ∙ value_cong 2 (omega arith) 8 _ _ (λ t ht. bit t ht (lt_or_ge (8 * j + (7 - t)) (r.width * d)))
        where
          pick : ℕ → Bool → ℕ
          pick t b = cond b (digit 2 t (get_or a (y * n + source_of d i r.big j t) 0)) (digit 2 t (get_or c (y * r.distance + j) 0))

          bit : (t : ℕ) → t < 8 → (8 * j + (7 - t) < r.width * d) ⊎ (r.width * d ≤ 8 * j + (7 - t)) → digit 2 t byte ≡ pick t (ltb (8 * j + (7 - t)) (r.width * d))
          bit t ht = ⊎_elim
              (λ l. pixel_bit t ht l ∙ sym (ap (pick t) (lt-ltb _ _ l)))
              (λ l. padding_stays r S y j t hj ht l (shown (laid (beside r n i)) a) c ∙ sym (ap (pick t) (le-ltb _ _ l)))
