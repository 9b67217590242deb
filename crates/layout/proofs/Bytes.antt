-- Painting, byte by byte: a byte whose pixels are painted in part, whole bytes in a run, and rows without padding as one run; over every depth,
-- both orders and any distance of rows. Assumes nothing.
use mathlib.Core.Path.{◌≡◌, refl, sym, ap, ap₂, ◌∙◌, subst}
use mathlib.Core.Logic.{⊎_elim, ◌⊎◌, inl, inr}
use mathlib.Core.Bool.{Bool, true, false, cond, not, ◌&&◌, true≢false}
use mathlib.Core.List.{List, ◌++◌}
use Prim.Native.Nat.{ℕ, zero, suc, ◌+◌, ◌-◌, ◌*◌, ◌/◌, ◌%◌, ◌^◌, ◌≤◌, ◌<◌}
use native.Mathlib.Nat.{mod-lt, mod-eq_of_lt, div-add-mod', div-one, mul-div_cancel, mul-one, mul_comm, add-zero, mul-le-mul_right, le_refl, not-suc-le-zero}
use native.Mathlib.Omega.{arith}
use lib.Arith.{digits_div, digits_mod}
use lib.Bits.{bit_and, bit_or}
use lib.Dec.{eqb, leb, ltb}
use lib.IntN.{pos}
use lib.Signed.{lt_z}
use lib.Pow.{pow_pos}
use lib.ListN.{length, get_or, set, take, drop, length-drop}
use lib.Seq.{set-set, get_or-set_same, get_or-set_other, set-get_or, ext_get_or, get_or-take, get_or-drop, length-take-le}
use borrow.Author.Tests.{eq-eqb, ne_eqb, leb-true, ltb-true, le-leb, lt-ltb, le-ltb, lt-leb}
use Rattle.layout.specs.Digits.{digit, replaced, value, set_cell, put_digits, set_run}
use Rattle.layout.specs.Figure.{everywhere}
use Rattle.layout.specs.Layout.{put_pixel, get_pixel, painted}
use Rattle.layout.specs.Packed.{Packed, laid, field, parts, per, turned, byte_of, slot_of, full_byte}
use Rattle.whole.proofs.Tests.{eq_or_not, lt_or_ge, same_test, and_true, true_and}
use Rattle.layout.proofs.Cells.{digit_lt, value_cong, value_digits, puts_len}
use Rattle.layout.proofs.Places.{Sound, placing, Depth, depth_of, column, per_pos, parts_pos, depth_pos, turned_below, turned_twice}
use Rattle.layout.proofs.Fields.{replaced_mod, replaced_value, pow_mul, value_lt, mask, mask_not, mask_and, low_fields, merge}
use Rattle.layout.proofs.Runs.{run_length, run_out, run_in, run_cong, run_bytes, run_then, run_part}
use Rattle.layout.proofs.Spans.{columns, span_one}
use Rattle.layout.proofs.Painted.{painted_cong, put_single, span_empty, span_put, span_then, rows_start, rows_then, rows_end}

-- what a slice of bytes is known to hold
abbrev pub Bytes : List ℕ → Type 0
Bytes b = (i : ℕ) → get_or b i 0 < 256

-- all of a byte, field by field
pub byte_full : (d : ℕ) → Depth d → (2 ^ field d) ^ per d ≡ 256
byte_full d D = pow_mul (field d) (per d) ∙ ap (λ (x : ℕ). 2 ^ x) D.whole

-- the field k of a byte belongs to a pixel from a to one before e, counted from the high end
abbrev pub picks : ℕ → ℕ → ℕ → ℕ → Bool
picks n a e k = leb (n - e) k && ltb k (n - a)

in_picks : (n a e k : ℕ) → picks n a e k ≡ true → (n - e ≤ k) × (k < n - a)
in_picks n a e k t = let p = and_true (leb (n - e) k) (ltb k (n - a)) t in (leb-true (n - e) k p.0, ltb-true k (n - a) p.1)

picks_in : (n a e k : ℕ) → n - e ≤ k → k < n - a → picks n a e k ≡ true
picks_in n a e k h l = true_and (le-leb (n - e) k h) (lt-ltb k (n - a) l)

-- one pixel more
picks_more : (n a e k : ℕ) → a ≤ e → suc e ≤ n → k < n → (k ≡ n - 1 - e → ⊥) → picks n a e k ≡ picks n a (suc e) k
picks_more n a e k h l q f =
    same_test _ _ (λ t. let p = in_picks n a e k t in picks_in n a (suc e) k (less p.0) p.1)
    (λ t. let p = in_picks n a (suc e) k t in picks_in n a e k (more p.0) p.1)
  where
    less : n - e ≤ k → n - suc e ≤ k
    less p = omega arith

    more : n - suc e ≤ k → n - e ≤ k
    more p = ⊎_elim (λ e. absurd (f (omega arith))) (λ g. far g) (eq_or_not (n - suc e) k)
      where
        far : (n - suc e ≡ k → ⊥) → n - e ≤ k
        far g = omega arith

-- a pixel of one byte has its one digit first, whatever the order
pub turn0 : (big : Bool) → turned big 1 0 ≡ 0
turn0 true = refl
turn0 false = refl

pub full_one : (d : ℕ) (big : Bool) (c j : ℕ) → parts d ≡ 1 → c < 2 ^ field d → full_byte d big c j ≡ value (2 ^ field d) (per d) (λ k. c)
unfolding full_byte
full_one d big c j e h =
    let z : turned big (parts d) (j % parts d) ≡ 0 = ap (λ (k : ℕ). turned big k (j % k)) e ∙ ap (turned big 1) one_mod ∙ turn0 big in
    value_cong (2 ^ field d) (pow_pos (field d)) (per d) _ _ (λ k l. ap (λ (i : ℕ). digit (2 ^ field d) i c) z ∙ mod-eq_of_lt h)
  where
    one_mod : j % 1 ≡ 0
    one_mod = omega arith

at_least : (i k : ℕ) → leb i k && true ≡ not (ltb k i)
at_least i k =
    ⊎_elim (λ l. ap (λ (t : Bool). t && true) (lt-leb i k l) ∙ sym (ap not (lt-ltb k i l))) (λ l. ap (λ (t : Bool). t && true) (le-leb i k l) ∙ sym (ap not (le-ltb k i l)))
    (lt_or_ge k i)

module _ (r : Packed) (S : Sound r) (c : ℕ) where
  abbrev d : ℕ
  d = r.depth

  abbrev B : ℕ
  B = 2 ^ field d

  abbrev n : ℕ
  n = per d

  abbrev m : ℕ
  m = parts d

  abbrev row : ℕ
  row = r.distance

  D : Depth r.depth
  D = depth_of d S.depth

  -- ---- pixels of a byte or less
  module _ (small : m ≡ 1) (hc : c < B) where
    -- one pixel, in its byte
    pub pixel_set : (x y : ℕ) (b : List ℕ)
        → put_pixel (laid r) x y c b ≡ set b (y * row + x * d / 8) (replaced B (slot_of d x) c (get_or b (y * row + x * d / 8) 0))
    unfolding byte_of
    pixel_set x y b =
        let at = y * row + x * d / 8 in
        let e : at + turned r.big m 0 ≡ at = ap (λ (j : ℕ). at + j) (ap (λ (k : ℕ). turned r.big k 0) small ∙ turn0 r.big) ∙ add-zero at in
        ap (λ (k : ℕ). put_digits B (λ j. at + turned r.big m j) (λ j. slot_of d x) k c b) small
        ∙ ap (λ (i : ℕ). set_cell B i (slot_of d x) (c % B) b) e
        ∙ ap (set b at) (replaced_mod B (slot_of d x) c (get_or b at 0))

    -- the same, by the byte's number in its row and the pixel's in its byte
    pub byte_at : (x : ℕ) → x * d / 8 ≡ x / n
    byte_at x = column d D x ∙ ap (λ (k : ℕ). x / n * k) small ∙ mul-one (x / n)

    pixel_byte_lem : (y q a : ℕ) (b : List ℕ) → a < n
        → put_pixel (laid r) (q * n + a) y c b ≡ set b (y * row + q) (replaced B (n - 1 - a) c (get_or b (y * row + q) 0))
    unfolding slot_of
    pixel_byte_lem y q a b h =
        pixel_set (q * n + a) y b
        ∙ ap₂ (λ (i j : ℕ). set b (y * row + i) (replaced B (n - 1 - j) c (get_or b (y * row + i) 0))) (byte_at (q * n + a) ∙ digits_div q h) (digits_mod q h)

    pub pixel_get : (x y : ℕ) (b : List ℕ) → get_pixel (laid r) x y b ≡ digit B (slot_of d x) (get_or b (y * row + x * d / 8) 0)
    unfolding byte_of
    pixel_get x y b =
        let at = y * row + x * d / 8 in
        let e : at + turned r.big m 0 ≡ at = ap (λ (j : ℕ). at + j) (ap (λ (k : ℕ). turned r.big k 0) small ∙ turn0 r.big) ∙ add-zero at in
        ap (λ (k : ℕ). value B k (λ j. digit B (slot_of d x) (get_or b (at + turned r.big m j) 0))) small
        ∙ ap (λ (i : ℕ). 0 * B + digit B (slot_of d x) (get_or b i 0)) e ∙ omega arith

    -- a byte v whose pixels from a to one before e have the colour
    abbrev pub partly : ℕ → ℕ → ℕ → ℕ
    partly a e v = value B n (λ k. cond (picks n a e k) c (digit B k v))

    pub some_pixels : (y q a e : ℕ) (b : List ℕ) → a ≤ e → e ≤ n → q * n + e ≤ r.width → y < r.height → y * row + q < length b → get_or b (y * row + q) 0 < 256
        → painted (laid r) (columns y (q * n + a) (q * n + e)) c b ≡ set b (y * row + q) (partly a e (get_or b (y * row + q) 0))
    some_pixels y q a e b h l w hy i v = go e (e - a) (omega arith) l w
      where
        at : ℕ
        at = y * row + q

        x : ℕ
        x = get_or b (y * row + q) 0

        start : partly a a (get_or b (y * row + q) 0) ≡ get_or b (y * row + q) 0
        start =
            value_cong B (pow_pos (field d)) n _ _ (λ k t. ap (λ (s : Bool). cond s c (digit B k (get_or b (y * row + q) 0))) (none k))
            ∙ value_digits B (pow_pos (field d)) n (get_or b (y * row + q) 0) (subst (λ (z : ℕ). get_or b (y * row + q) 0 < z) (sym (byte_full d D)) v)
          where
            none : (k : ℕ) → picks n a a k ≡ false
            none k = same_test _ _ (λ t. let p = in_picks n a a k t in absurd (no p.0 p.1)) (λ t. absurd (true≢false (sym t)))
              where
                no : n - a ≤ k → k < n - a → ⊥
                no p s = omega arith

        -- the pixel after those from a to one before e
        next : (e : ℕ) → a ≤ e → suc e ≤ n → replaced B (n - 1 - e) c (partly a e (get_or b (y * row + q) 0)) ≡ partly a (suc e) (get_or b (y * row + q) 0)
        next e g k =
            replaced_value (field d) n (n - 1 - e) c _ (λ j. low (picks n a e j) j) hc (omega arith)
            ∙ value_cong B (pow_pos (field d)) n _ _ (λ j t. one j t (eq_or_not j (n - 1 - e)))
          where
            low : (t : Bool) (j : ℕ) → cond t c (digit B j (get_or b (y * row + q) 0)) < B
            low true j = hc
            low false j = digit_lt B (pow_pos (field d)) j (get_or b (y * row + q) 0)

            one : (j : ℕ) → j < n → (j ≡ n - 1 - e) ⊎ (j ≡ n - 1 - e → ⊥)
                → cond (eqb j (n - 1 - e)) c (cond (picks n a e j) c (digit B j (get_or b (y * row + q) 0))) ≡ cond (picks n a (suc e) j) c (digit B j (get_or b (y * row + q) 0))
            one j t (inl f) =
                ap (λ (s : Bool). cond s c (cond (picks n a e j) c (digit B j (get_or b (y * row + q) 0)))) (eq-eqb j (n - 1 - e) f)
                ∙ sym (ap (λ (s : Bool). cond s c (digit B j (get_or b (y * row + q) 0))) (picks_in n a (suc e) j (omega arith) (omega arith)))
            one j t (inr f) =
                ap (λ (s : Bool). cond s c (cond (picks n a e j) c (digit B j (get_or b (y * row + q) 0)))) (ne_eqb j (n - 1 - e) f)
                ∙ ap (λ (s : Bool). cond s c (digit B j (get_or b (y * row + q) 0))) (picks_more n a e j g k t f)

        go : (e k : ℕ) → e ≡ a + k → e ≤ n → q * n + e ≤ r.width
            → painted (laid r) (columns y (q * n + a) (q * n + e)) c b ≡ set b (y * row + q) (partly a e (get_or b (y * row + q) 0))
        go e zero f l w =
            let g : e ≡ a = omega arith in
            ap (λ (e : ℕ). painted (laid r) (columns y (q * n + a) (q * n + e)) c b) g ∙ span_empty (laid r) (placing r S) c b y (q * n + a) (q * n + a) (le_refl (q * n + a))
            ∙ sym (ap (λ (e : ℕ). set b (y * row + q) (partly a e (get_or b (y * row + q) 0))) g ∙ ap (set b (y * row + q)) start ∙ set-get_or b (y * row + q) 0)
        go zero (suc k) f l w = absurd (omega arith)
        go (suc e) (suc k) f l w =
            let i' = y * row + q in
            let t = partly a e (get_or b i' 0) in
            let g : q * n + suc e ≡ q * n + e + 1 = omega arith in
            ap (λ (x : ℕ). painted (laid r) (columns y (q * n + a) x) c b) g
            ∙ sym (span_put (laid r) (placing r S) c b y (q * n + a) (q * n + e) (omega arith) (omega arith) hy)
            ∙ ap (put_pixel (laid r) (q * n + e) y c) (go e k (omega arith) (omega arith) (omega arith))
            ∙ pixel_byte_lem y q e (set b i' t) l
            ∙ ap (λ (v : ℕ). set (set b i' t) i' (replaced B (n - 1 - e) c v)) (get_or-set_same b i' t 0 i)
            ∙ set-set b i' t (replaced B (n - 1 - e) c t)
            ∙ ap (set b i') (next e (omega arith) l)

    -- such a byte is made by a mask of the fields
    pub merged_is : (a e v : ℕ) (s : ℕ → Bool) → v < 256 → ((k : ℕ) → k < n → s k ≡ picks n a e k)
        → bit_or (bit_and v (255 - mask (field d) n s)) (bit_and (value B n (λ k. c)) (mask (field d) n s)) ≡ partly a e v
    merged_is a e v s h t =
        let full : B ^ n - 1 ≡ 255 = ap (λ (x : ℕ). x - 1) (byte_full d D) in
        ap (λ (x : ℕ). bit_or (bit_and v (x - mask (field d) n s)) (bit_and (value B n (λ k. c)) (mask (field d) n s))) (sym full)
        ∙ ap (λ (x : ℕ). bit_or (bit_and x (B ^ n - 1 - mask (field d) n s)) (bit_and (value B n (λ k. c)) (mask (field d) n s)))
        (sym (value_digits B (pow_pos (field d)) n v (subst (λ (x : ℕ). v < x) (sym (byte_full d D)) h)))
        ∙ merge (field d) n s (λ k. digit B k v) (λ k. c) (λ k. digit_lt B (pow_pos (field d)) k v) (λ k. hc)
        ∙ value_cong B (pow_pos (field d)) n _ _ (λ k l. ap (λ (x : Bool). cond x c (digit B k v)) (t k l))

    -- ---- the edges of a span. The masks of pixel x and those after it in its byte, and of it and those before it
    abbrev onward : ℕ → ℕ
    onward x = 2 ^ (field d * (slot_of d x + 1)) - 1

    pub onward_is : (x : ℕ) → onward x ≡ mask (field d) n (λ k. ltb k (n - x % n))
    unfolding slot_of
    onward_is x =
        let h = mod-lt x (per_pos d D) in
        let e : n - 1 - x % n + 1 ≡ n - x % n = omega arith in
        ap (λ (k : ℕ). 2 ^ (field d * k) - 1) e ∙ low_fields (field d) n (n - x % n) (omega arith)

    abbrev upto : ℕ → ℕ
    upto x = 255 - (2 ^ (field d * slot_of d x) - 1)

    upto_is : (x : ℕ) → upto x ≡ mask (field d) n (λ k. not (ltb k (n - (x % n + 1))))
    unfolding slot_of
    upto_is x =
        let e : n - 1 - x % n ≡ n - (x % n + 1) = omega arith in
        ap₂ (λ (i j : ℕ). i - 1 - (2 ^ (field d * j) - 1)) (sym (byte_full d D)) e
        ∙ ap (λ (j : ℕ). B ^ n - 1 - j) (low_fields (field d) n (n - (x % n + 1)) (omega arith)) ∙ mask_not (field d) n (λ k. ltb k (n - (x % n + 1)))

    -- the byte v with the pixels that the mask picks painted
    abbrev pub merged : ℕ → ℕ → ℕ
    merged v k = bit_or (bit_and v (255 - k)) (bit_and (value B n (λ j. c)) k)

    module _ (y x : ℕ) (b : List ℕ) (hy : y < r.height) (l₀ : y * row + x * d / 8 < length b) (v : Bytes b) where
      i : y * row + x / n < length b
      i = subst (λ (k : ℕ). y * row + k < length b) (byte_at x) l₀

      -- its byte, as the layout numbers it
      here : (k : ℕ) → set b (y * row + x / n) (merged (get_or b (y * row + x / n) 0) k) ≡ set b (y * row + x * d / 8) (merged (get_or b (y * row + x * d / 8) 0) k)
      here k = ap (λ (j : ℕ). set b (y * row + j) (merged (get_or b (y * row + j) 0) k)) (sym (byte_at x))

      -- from x to the end of its byte
      pub head : (x / n + 1) * n ≤ r.width
          → painted (laid r) (columns y x ((x / n + 1) * n)) c b ≡ set b (y * row + x * d / 8) (merged (get_or b (y * row + x * d / 8) 0) (onward x))
      head w =
          let h = mod-lt x (per_pos d D) in
          let e : x / n * n + x % n ≡ x = div-add-mod' x n in
          let f : x / n * n + n ≡ (x / n + 1) * n = omega arith in
          sym (ap₂ (λ (s t : ℕ). painted (laid r) (columns y s t) c b) e f)
          ∙ some_pixels y (x / n) (x % n) n b (omega arith) (le_refl n) (omega arith) hy i (v (y * row + x / n))
          ∙ ap (set b (y * row + x / n)) (sym (ap (merged (get_or b (y * row + x / n) 0)) (onward_is x)
          ∙ merged_is (x % n) n (get_or b (y * row + x / n) 0) (λ k. ltb k (n - x % n)) (v (y * row + x / n)) (λ k l. sym (all k))))
          ∙ here (onward x)
        where
          all : (k : ℕ) → picks n (x % n) n k ≡ ltb k (n - x % n)
          all k = ap (λ (t : Bool). t && ltb k (n - x % n)) (le-leb (n - n) k (omega arith))

      -- from the start of its byte to x
      pub tail : x < r.width → painted (laid r) (columns y (x / n * n) (x + 1)) c b ≡ set b (y * row + x * d / 8) (merged (get_or b (y * row + x * d / 8) 0) (upto x))
      tail w =
          let h = mod-lt x (per_pos d D) in
          let q = div-add-mod' x n in
          let e : x / n * n + (x % n + 1) ≡ x + 1 = omega arith in
          sym (ap₂ (λ (s t : ℕ). painted (laid r) (columns y s t) c b) (add-zero (x / n * n)) e)
          ∙ some_pixels y (x / n) 0 (x % n + 1) b (omega arith) (omega arith) (omega arith) hy i (v (y * row + x / n))
          ∙ ap (set b (y * row + x / n)) (sym (ap (merged (get_or b (y * row + x / n) 0)) (upto_is x)
          ∙ merged_is 0 (x % n + 1) (get_or b (y * row + x / n) 0) (λ k. not (ltb k (n - (x % n + 1)))) (v (y * row + x / n)) (λ k l. sym (all k l))))
          ∙ here (upto x)
        where
          all : (k : ℕ) → k < n → picks n 0 (x % n + 1) k ≡ not (ltb k (n - (x % n + 1)))
          all k l = ap (λ (t : Bool). leb (n - (x % n + 1)) k && t) (lt-ltb k (n - 0) (omega arith)) ∙ at_least (n - (x % n + 1)) k

      -- from x to z, in one byte
      pub inner : (z : ℕ) → x ≤ z → z < r.width → x / n ≡ z / n
          → painted (laid r) (columns y x (z + 1)) c b ≡ set b (y * row + x * d / 8) (merged (get_or b (y * row + x * d / 8) 0) (bit_and (onward x) (upto z)))
      inner z l w q =
          let e : x / n * n + x % n ≡ x = div-add-mod' x n in
          let g : z / n * n + z % n ≡ z = div-add-mod' z n in
          let j : x / n * n ≡ z / n * n = ap (λ (t : ℕ). t * n) q in
          let f : x / n * n + (z % n + 1) ≡ z + 1 = omega arith in
          let h = mod-lt z (per_pos d D) in
          sym (ap₂ (λ (s t : ℕ). painted (laid r) (columns y s t) c b) e f)
          ∙ some_pixels y (x / n) (x % n) (z % n + 1) b (omega arith) (omega arith) (omega arith) hy i (v (y * row + x / n))
          ∙ ap (set b (y * row + x / n)) (sym (ap (merged (get_or b (y * row + x / n) 0))
          (ap₂ bit_and (onward_is x) (upto_is z) ∙ mask_and (field d) n (λ k. ltb k (n - x % n)) (λ k. not (ltb k (n - (z % n + 1)))))
          ∙ merged_is (x % n) (z % n + 1) (get_or b (y * row + x / n) 0) (λ k. ltb k (n - x % n) && not (ltb k (n - (z % n + 1)))) (v (y * row + x / n)) (λ k t. all k)))
          ∙ here (bit_and (onward x) (upto z))
        where
          and_swap : (s t : Bool) → s && t ≡ t && s
          and_swap true true = refl
          and_swap true false = refl
          and_swap false true = refl
          and_swap false false = refl

          and_one : (s : Bool) → s && true ≡ s
          and_one true = refl
          and_one false = refl

          all : (k : ℕ) → ltb k (n - x % n) && not (ltb k (n - (z % n + 1))) ≡ picks n (x % n) (z % n + 1) k
          all k =
              and_swap (ltb k (n - x % n)) (not (ltb k (n - (z % n + 1))))
              ∙ ap (λ (t : Bool). t && ltb k (n - x % n)) (sym (at_least (n - (z % n + 1)) k) ∙ and_one (leb (n - (z % n + 1)) k))

    full_small : (j : ℕ) → full_byte d r.big c j ≡ value B n (λ k. c)
    full_small j = full_one d r.big c j small hc

    group_small : (y q : ℕ) (b : List ℕ) → q * n + n ≤ r.width → y < r.height → y * row + q * m + m ≤ length b → Bytes b
        → painted (laid r) (columns y (q * n) (q * n + n)) c b ≡ set_run (y * row + q * m) m (full_byte d r.big c) b
    group_small y q b w hy l v =
        let e : q * m ≡ q = ap (λ (k : ℕ). q * k) small ∙ mul-one q in
        let i : y * row + q < length b = omega arith in
        ap (λ (x : ℕ). painted (laid r) (columns y x (q * n + n)) c b) (sym (add-zero (q * n)))
        ∙ some_pixels y q 0 n b (omega arith) (le_refl n) w hy i (v (y * row + q))
        ∙ ap (set b (y * row + q)) (value_cong B (pow_pos (field d)) n _ _ (λ k t. ap (λ (s : Bool). cond s c (digit B k (get_or b (y * row + q) 0))) (all k t)))
        ∙ ap₂ (λ (i v : ℕ). set b i v) (omega arith) (sym (full_small 0))
        ∙ ap (λ (k : ℕ). set_run (y * row + q * m) k (full_byte d r.big c) b) (sym small)
      where
        all : (k : ℕ) → k < n → picks n 0 n k ≡ true
        all k t = picks_in n 0 n k (omega arith) (omega arith)

  -- ---- pixels of whole bytes
  module _ (alone : n ≡ 1) where
    eight : field d ≡ 8
    eight = let h : field d * 1 ≡ 8 = subst (λ (k : ℕ). field d * k ≡ 8) alone D.whole in omega arith

    base : B ≡ 256
    base = ap (λ (k : ℕ). 2 ^ k) eight

    full_large : (j : ℕ) → full_byte d r.big c j ≡ digit B (turned r.big m (j % m)) c
    unfolding full_byte
    full_large j = ap (λ (k : ℕ). value B k (λ i. digit B (turned r.big m (j % m)) c)) alone ∙ omega arith

    slot0 : (x : ℕ) → slot_of d x ≡ 0
    unfolding slot_of
    slot0 x = ap (λ (k : ℕ). k - 1 - x % k) alone ∙ omega arith

    start : (x : ℕ) → x * d / 8 ≡ x * m
    start x = column d D x ∙ ap (λ (k : ℕ). x / k * m) alone ∙ ap (λ (k : ℕ). k * m) (div-one x)

    -- the bytes of a pixel, one digit each
    module _ (s : ℕ) (b : List ℕ) (l : s + m ≤ length b) (v : Bytes b) where
      abbrev puts : ℕ → List ℕ
      puts k = put_digits B (λ j. s + turned r.big m j) (λ j. 0) k c b

      turn_inj : (j k : ℕ) → j < m → k < m → s + turned r.big m j ≡ s + turned r.big m k → j ≡ k
      turn_inj j k h g e =
          let f : turned r.big m j ≡ turned r.big m k = omega arith in
          sym (turned_twice r.big m j h) ∙ ap (turned r.big m) f ∙ turned_twice r.big m k g

      puts_out : (k i : ℕ) → ((j : ℕ) → j < k → i ≡ s + turned r.big m j → ⊥) → get_or (puts k) i 0 ≡ get_or b i 0
      puts_out zero i h = refl
      puts_out (suc k) i h =
          get_or-set_other (puts k) (s + turned r.big m k) i _ 0 (h k (le_refl (suc k))) ∙ puts_out k i (λ j g. h j (omega arith))

      puts_in : (k j : ℕ) → j < k → k ≤ m → get_or (puts k) (s + turned r.big m j) 0 ≡ digit B j c
      puts_in zero j h g = absurd (not-suc-le-zero h)
      puts_in (suc k) j h g = go (λ q. puts_in k j q (omega arith)) (eq_or_not j k)
        where
          byte : ℕ
          byte = s + turned r.big m k

          fresh : get_or (puts k) (s + turned r.big m k) 0 / B ≡ 0
          fresh =
              let o = puts_out k (s + turned r.big m k) (λ i q e. let f = turn_inj k i (omega arith) (omega arith) e in omega arith) in
              ap₂ (λ (x y : ℕ). x / y) o base ∙ small_div (v (s + turned r.big m k))
            where
              small_div : {x : ℕ} → x < 256 → x / 256 ≡ 0
              small_div h = omega arith

          here : get_or (puts (suc k)) (s + turned r.big m k) 0 ≡ digit B k c
          here =
              get_or-set_same (puts k) (s + turned r.big m k) _ 0
              (subst (λ (x : ℕ). s + turned r.big m k < x) (sym (puts_len B (pow_pos (field d)) (λ j. s + turned r.big m j) (λ j. 0) k c b))
              (let t = turned_below r.big m k g in omega arith))
              ∙ ap₂ (λ (x y : ℕ). x * B + y) fresh (mod-eq_of_lt (digit_lt B (pow_pos (field d)) k c))
              ∙ omega arith

          go : (j < k → get_or (puts k) (s + turned r.big m j) 0 ≡ digit B j c) → (j ≡ k) ⊎ (j ≡ k → ⊥) → get_or (puts (suc k)) (s + turned r.big m j) 0 ≡ digit B j c
          go ih (inl e) = ap (λ (i : ℕ). get_or (puts (suc k)) (s + turned r.big m i) 0) e ∙ here ∙ ap (λ (i : ℕ). digit B i c) (sym e)
          go ih (inr f) =
              get_or-set_other (puts k) (s + turned r.big m k) (s + turned r.big m j) _ 0 (λ e. f (turn_inj j k (omega arith) g e)) ∙ ih (omega arith)

      pub puts_run : puts m ≡ set_run s m (full_byte d r.big c) b
      puts_run =
          ext_get_or 0 (puts m) (set_run s m (full_byte d r.big c) b)
          (puts_len B (pow_pos (field d)) (λ j. s + turned r.big m j) (λ j. 0) m c b ∙ sym (run_length s m (full_byte d r.big c) b))
          (λ i h. at i (lt_or_ge i s) (lt_or_ge i (s + m)))
        where
          inner : (t : ℕ) → t < m → get_or (puts m) (s + t) 0 ≡ get_or (set_run s m (full_byte d r.big c) b) (s + t) 0
          inner t h =
              ap (λ (k : ℕ). get_or (puts m) (s + k) 0) (sym (turned_twice r.big m t h))
              ∙ puts_in m (turned r.big m t) (turned_below r.big m t h) (le_refl m)
              ∙ sym (run_in s m (full_byte d r.big c) b t h l ∙ full_large t ∙ ap (λ (k : ℕ). digit B (turned r.big m k) c) (mod-eq_of_lt h))

          at : (i : ℕ) → (i < s) ⊎ (s ≤ i) → (i < s + m) ⊎ (s + m ≤ i) → get_or (puts m) i 0 ≡ get_or (set_run s m (full_byte d r.big c) b) i 0
          at i (inl h) k =
              puts_out m i (λ j g e. omega arith) ∙ sym (run_out s m (full_byte d r.big c) b i (inl h))
          at i (inr h) (inr k) =
              puts_out m i (λ j g e. let t = turned_below r.big m j g in omega arith) ∙ sym (run_out s m (full_byte d r.big c) b i (inr k))
          at i (inr h) (inl k) =
              let e : s + (i - s) ≡ i = omega arith in
              subst (λ (z : ℕ). get_or (puts m) z 0 ≡ get_or (set_run s m (full_byte d r.big c) b) z 0) e (inner (i - s) (omega arith))

    pub pixel_run : (x y : ℕ) (b : List ℕ) → y * row + x * m + m ≤ length b → Bytes b
        → put_pixel (laid r) x y c b ≡ set_run (y * row + x * m) m (full_byte d r.big c) b
    unfolding byte_of
    pixel_run x y b l v =
        (λ i. put_digits B (λ k. y * row + start x i + turned r.big m k) (λ k. slot0 x i) m c b) ∙ puts_run (y * row + x * m) b l v

    -- the same, through a part of the buffer
    module _ (x y : ℕ) (b s : List ℕ) (a k : ℕ) (ea : a ≡ y * row + x * d / 8) (ek : k ≡ m) (l : a + k ≤ length b) (v : Bytes b) (e : s ≡ take k (drop a b)) where
      part_length : length s ≡ m
      part_length = ap length e ∙ length-take-le k (drop a b) (subst (λ (i : ℕ). k ≤ i) (sym (length-drop a b)) (omega arith)) ∙ ek

      pub pixel_stored : (s' : List ℕ) → s' ≡ set_run 0 (length s) (λ j. digit 256 (turned r.big (length s) j) c) s
          → take a b ++ (s' ++ drop k (drop a b)) ≡ put_pixel (laid r) x y c b
      pixel_stored s' e' =
          run_part a k (length s) b s s' _ l e (le_refl (length s)) e'
          ∙ ap₂ (λ (i j : ℕ). set_run i j (λ t. digit 256 (turned r.big j t) c) b) (ea ∙ ap (λ (i : ℕ). y * row + i) (start x)) part_length
          ∙ run_cong (y * row + x * m) m _ _ b
          (λ j h. ap (λ (i : ℕ). digit i (turned r.big m j) c) (sym base) ∙ sym (full_large j ∙ ap (λ (i : ℕ). digit B (turned r.big m i) c) (mod-eq_of_lt h)))
          ∙ sym (pixel_run x y b (subst (λ (i : ℕ). y * row + i + m ≤ length b) (start x) (omega arith)) v)

      pub pixel_loaded : value 256 (length s) (λ i. get_or s (turned r.big (length s) i) 0) ≡ get_pixel (laid r) x y b
      unfolding byte_of
      pixel_loaded =
          ap (λ (i : ℕ). value 256 i (λ j. get_or s (turned r.big i j) 0)) part_length
          ∙ value_cong 256 (pow_pos 8) m _ _ (λ i h.
          ap (λ (t : List ℕ). get_or t (turned r.big m i) 0) e
          ∙ get_or-take k (drop a b) (turned r.big m i) 0 (let t = turned_below r.big m i h in omega arith)
          ∙ get_or-drop a b (turned r.big m i) 0
          ∙ ap (λ (j : ℕ). get_or b (j + turned r.big m i) 0) ea
          ∙ sym (mod-eq_of_lt (v (y * row + x * d / 8 + turned r.big m i))))
          ∙ sym (λ z. value (base z) m (λ i. digit (base z) (slot0 x z) (get_or b (y * row + x * d / 8 + turned r.big m i) 0)))

    group_large : (y q : ℕ) (b : List ℕ) → q * n + n ≤ r.width → y < r.height → y * row + q * m + m ≤ length b → Bytes b
        → painted (laid r) (columns y (q * n) (q * n + n)) c b ≡ set_run (y * row + q * m) m (full_byte d r.big c) b
    group_large y q b w hy l v =
        let e : q * n ≡ q = ap (λ (k : ℕ). q * k) alone ∙ mul-one q in
        let f : q * n + n ≡ q + 1 = omega arith in
        ap₂ (λ (i j : ℕ). painted (laid r) (columns y i j) c b) e f
        ∙ sym (put_single (laid r) (placing r S) c b q y (omega arith) hy ∙ painted_cong (laid r) (placing r S) c b _ _ (λ u v hu hv. span_one y q u v))
        ∙ pixel_run q y b l v

  -- ---- every depth
  module _ (hc : c < 2 ^ r.depth) where
    -- the pixels that fill whole bytes together
    pub group : (y q : ℕ) (b : List ℕ) → q * n + n ≤ r.width → y < r.height → y * row + q * m + m ≤ length b → Bytes b
        → painted (laid r) (columns y (q * n) (q * n + n)) c b ≡ set_run (y * row + q * m) m (full_byte d r.big c) b
    group y q b w hy l v =
        ⊎_elim (λ e. group_large e y q b w hy l v) (λ e. group_small e (fits e) y q b w hy l v) D.alone
      where
        fits : m ≡ 1 → c < B
        fits e = let f : field d ≡ d = sym (mul-one (field d)) ∙ ap (λ (k : ℕ). field d * k) (sym e) ∙ D.bits in subst (λ (k : ℕ). c < 2 ^ k) (sym f) hc

    again : (k j : ℕ) → 0 < m → full_byte d r.big c (k * m + j) ≡ full_byte d r.big c j
    unfolding full_byte
    again k j h =
        ap (λ (i : ℕ). value B n (λ t. digit B (turned r.big m i) c)) same
      where
        same : (k * m + j) % m ≡ j % m
        same =
            let e : k * m + j ≡ (k + j / m) * m + j % m = let f = div-add-mod' j m in omega arith in
            ap (λ (i : ℕ). i % m) e ∙ digits_mod (k + j / m) (mod-lt j h)

    pub full_byte_lem : (j : ℕ) → full_byte d r.big c j < 256
    unfolding full_byte
    full_byte_lem j = subst (λ (x : ℕ). full_byte d r.big c j < x) (byte_full d D) (value_lt B n _ (λ k. digit_lt B (pow_pos (field d)) (turned r.big m (j % m)) c))

    -- whole bytes, in a run
    pub whole_bytes : (y q k : ℕ) (b : List ℕ) → (q + k) * n ≤ r.width → y < r.height → y * row + (q + k) * m ≤ length b → Bytes b
        → painted (laid r) (columns y (q * n) ((q + k) * n)) c b ≡ set_run (y * row + q * m) (k * m) (full_byte d r.big c) b
    whole_bytes y q zero b w hy l v =
        ap (λ (x : ℕ). painted (laid r) (columns y (q * n) (x * n)) c b) (add-zero q) ∙ span_empty (laid r) (placing r S) c b y (q * n) (q * n) (le_refl (q * n))
        ∙ ap (λ (x : ℕ). set_run (y * row + q * m) x (full_byte d r.big c) b) none
      where
        none : 0 ≡ 0 * m
        none = omega arith
    whole_bytes y q (suc k) b w hy l v =
        let g = full_byte d r.big c in
        let b' = set_run (y * row + q * m) (k * m) g b in
        let e : y * row + (q + k) * m ≡ y * row + q * m + k * m = omega arith in
        let f : (q + k) * n + n ≡ (q + suc k) * n = omega arith in
        let p : k * m + m ≡ suc k * m = omega arith in
        ap (λ (x : ℕ). painted (laid r) (columns y (q * n) x) c b) (sym f)
        ∙ sym (span_then (laid r) (placing r S) c b y (q * n) ((q + k) * n) ((q + k) * n + n) (mul-le-mul_right n (omega arith)) (omega arith))
        ∙ ap (painted (laid r) (columns y ((q + k) * n) ((q + k) * n + n)) c) (whole_bytes y q k b (omega arith) hy (omega arith) v)
        ∙ group y (q + k) b' (omega arith) hy (subst (λ (x : ℕ). y * row + (q + k) * m + m ≤ x) (sym (run_length (y * row + q * m) (k * m) g b)) (omega arith))
        (run_bytes (y * row + q * m) (k * m) g b v full_byte_lem)
        ∙ ap (λ (x : ℕ). set_run x m g b') e
        ∙ sym (run_cong (y * row + q * m + k * m) m (λ j. g (k * m + j)) g b' (λ j h. again k j (parts_pos d S.depth)))
        ∙ run_then (y * row + q * m) (k * m) m g b
        ∙ ap (λ (x : ℕ). set_run (y * row + q * m) x g b) p

    -- the same, through a part of the buffer
    pub groups_filled : (y first last : ℕ) (b s s' : List ℕ) (a k : ℕ) → first ≤ last → last * n ≤ r.width → y < r.height → a ≡ y * row + first * m → a + k ≡ y * row + last * m
        → a + k ≤ length b → Bytes b → s ≡ take k (drop a b) → s' ≡ set_run 0 (length s) (full_byte d r.big c) s
        → take a b ++ (s' ++ drop k (drop a b)) ≡ painted (laid r) (columns y (first * n) (last * n)) c b
    groups_filled y first last b s s' a k h w hy ea ek l v e e' =
        let t : first + (last - first) ≡ last = omega arith in
        let j : first * m + (last - first) * m ≡ last * m = (let z : first * m + (last - first) * m ≡ (first + (last - first)) * m = omega arith in z) ∙ ap (λ (i : ℕ). i * m) t in
        let n' : length s ≡ (last - first) * m =
        ap length e ∙ length-take-le k (drop a b) (subst (λ (i : ℕ). k ≤ i) (sym (length-drop a b)) (omega arith)) ∙ omega arith in
        run_part a k (length s) b s s' _ l e (le_refl (length s)) e'
        ∙ ap₂ (λ (i j : ℕ). set_run i j (full_byte d r.big c) b) ea n'
        ∙ sym (whole_bytes y first (last - first) b (subst (λ (i : ℕ). i * n ≤ r.width) (sym t) w) hy (subst (λ (i : ℕ). y * row + i * m ≤ length b) (sym t) (omega arith)) v)
        ∙ ap (λ (i : ℕ). painted (laid r) (columns y (first * n) (i * n)) c b) t

    -- rows without padding, all in one run
    all_rows : (k : ℕ) (b : List ℕ) → r.width ≡ k * n → row ≡ k * m → row * r.height ≤ length b → Bytes b
        → painted (laid r) everywhere c b ≡ set_run 0 (row * r.height) (full_byte d r.big c) b
    all_rows k b w e l v =
        sym (rows_end (laid r) (placing r S) c b r.height (le_refl r.height)) ∙ go r.height (le_refl r.height)
        ∙ ap (λ (x : ℕ). set_run 0 x (full_byte d r.big c) b) (mul_comm r.height row)
      where
        go : (y : ℕ) → y ≤ r.height → painted (laid r) (λ u v. lt_z v (pos y)) c b ≡ set_run 0 (y * row) (full_byte d r.big c) b
        go zero h = rows_start (laid r) (placing r S) c b ∙ ap (λ (x : ℕ). set_run 0 x (full_byte d r.big c) b) none
          where
            none : 0 ≡ 0 * row
            none = omega arith
        go (suc y) h =
            let g = full_byte d r.big c in
            let b' = set_run 0 (y * row) g b in
            let room : suc y * row ≤ r.height * row = mul-le-mul_right row h in
            let sz : row * r.height ≡ r.height * row = mul_comm row r.height in
            let next : y + 1 ≡ suc y = omega arith in
            let s : y * row + 0 * m ≡ 0 + y * row = omega arith in
            let f : y * row + k * m ≡ suc y * row = omega arith in
            let z : 0 * n ≡ 0 = omega arith in
            let q : (0 + k) * n ≡ r.width = omega arith in
            ap (λ (x : ℕ). painted (laid r) (λ u v. lt_z v (pos x)) c b) (sym next)
            ∙ sym (rows_then (laid r) (placing r S) c b y)
            ∙ ap (painted (laid r) (columns y 0 r.width) c) (go y (omega arith))
            ∙ sym (ap₂ (λ (i j : ℕ). painted (laid r) (columns y i j) c b') z q)
            ∙ whole_bytes y 0 k b' (omega arith) h (subst (λ (x : ℕ). y * row + (0 + k) * m ≤ x) (sym (run_length 0 (y * row) g b)) (omega arith))
            (run_bytes 0 (y * row) g b v full_byte_lem)
            ∙ ap (λ (x : ℕ). set_run x (k * m) g b') s
            ∙ sym (run_cong (0 + y * row) (k * m) (λ j. g (y * row + j)) g b'
            (λ j t. ap (λ (x : ℕ). g (x + j)) (ap (λ (x : ℕ). y * x) e ∙ assoc y k) ∙ again (y * k) j (parts_pos d S.depth)))
            ∙ run_then 0 (y * row) (k * m) g b
            ∙ ap (λ (x : ℕ). set_run 0 x g b) f
          where
            assoc : (y k : ℕ) → y * (k * m) ≡ y * k * m
            assoc y k = omega arith

    -- a row has no padding where its bits fill its bytes
    pub one_run : (b : List ℕ) → row * 8 ≡ r.width * d → row * r.height ≤ length b → Bytes b
        → painted (laid r) everywhere c b ≡ set_run 0 (row * r.height) (full_byte d r.big c) b
    one_run b e l v = ⊎_elim thick thin D.alone
      where
        thick : n ≡ 1 → painted (laid r) everywhere c b ≡ set_run 0 (row * r.height) (full_byte d r.big c) b
        thick f =
            let g = eight f in
            let h : field d * m ≡ 8 * m = ap (λ (k : ℕ). k * m) g in
            let i = D.bits in
            let j : r.width * (8 * m) ≡ r.width * d = ap (λ (k : ℕ). r.width * k) (sym h ∙ i) in
            let q : r.width * n ≡ r.width = ap (λ (k : ℕ). r.width * k) f ∙ mul-one r.width in
            all_rows r.width b (sym q) (omega arith) l v

        cancel : (a z : ℕ) → 0 < d → a * d ≡ z * d → a ≡ z
        cancel a z p h = sym (mul-div_cancel a p) ∙ ap (λ (k : ℕ). k / d) h ∙ mul-div_cancel z p

        thin : m ≡ 1 → painted (laid r) everywhere c b ≡ set_run 0 (row * r.height) (full_byte d r.big c) b
        thin f =
            let g : field d ≡ d = sym (mul-one (field d)) ∙ ap (λ (k : ℕ). field d * k) (sym f) ∙ D.bits in
            let h : d * n ≡ 8 = ap (λ (k : ℕ). k * n) (sym g) ∙ D.whole in
            let i : row * (d * n) ≡ row * 8 = ap (λ (k : ℕ). row * k) h in
            let j : row * n * d ≡ r.width * d = omega arith in
            let q : row * m ≡ row = ap (λ (k : ℕ). row * k) f ∙ mul-one row in
            all_rows row b (sym (cancel (row * n) r.width (depth_pos d S.depth) j)) (sym q) l v
