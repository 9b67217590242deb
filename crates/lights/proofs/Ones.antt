-- The ones of a byte, masked or not, are its lit pixels: one test computed over all bytes, and the rule that it gives; then byte after byte. Assumes nothing.
use mathlib.Core.Path.{◌≡◌, refl, sym, ap, ap₂, subst, ◌∙◌}
use mathlib.Core.Bool.{Bool, true}
use mathlib.Core.List.{List, [], ◌∷◌}
use Prim.Native.Nat.{ℕ, zero, suc, ◌+◌, ◌-◌, ◌*◌, ◌/◌, ◌%◌, ◌^◌, ◌≤◌, ◌<◌}
use native.Mathlib.Nat.{le_refl, pow-suc, mod-eq_of_lt, div-lt_iff_lt-mul, zero-lt-suc}
use native.Mathlib.Omega.{arith}
use native.Mathlib.Numerals.{add-one}
use lib.Bits.{bit_and, and_le_l, and_mask}
use lib.Count.{ones, ones_in, ones_step}
use lib.Dec.{eqb}
use lib.ListN.{length, get_or, take}
use Rattle.std.specs.List.{sum_by}
use Rattle.std.proofs.lemmas.List.Sums.{sum_by_more}
use Rattle.std.proofs.Math.Seq.{take-length}
use borrow.Author.Tests.{eqb-true}
use Rattle.whole.proofs.Tests.{passes, passes_at}
use Rattle.layout.specs.Digits.{digit}
use Rattle.layout.specs.Packed.{field, per, slot_of}
use Rattle.layout.proofs.Bytes.{Bytes}
use Rattle.layout.proofs.Counts.{many_cong, many_le, many_then}
use Rattle.packing.specs.Words.{bits_from}
use Rattle.lights.specs.Bits.{bit_at, lit_bits}

-- ---- one byte
-- the ones of a number of k digits, digit by digit
digits_of : (k v : ℕ) → v < 2 ^ k → ones v ≡ ones_in k v
unfolding ones ones_in
digits_of zero v h = ap ones (let e : v ≡ 0 = omega arith in e)
digits_of (suc k) v h =
    ones_step v ∙ ap (λ (n : ℕ). v % 2 + n) (digits_of k (v / 2) ((div-lt_iff_lt-mul (zero-lt-suc 1)).1 (subst (λ (n : ℕ). v < n) (pow-suc 2 k) h)))

-- the first t pixels of byte v: the mask has the bits of the others
abbrev agrees : ℕ → ℕ → Bool
agrees t v = eqb (ones_in 8 (bit_and v (255 - (2 ^ (8 - t) - 1)))) (lit_bits t (v ∷ []))

computed : passes (λ t. passes (agrees t) 256) 9 ≡ true
unfolding ones_in lit_bits
computed = refl

first_ones : (t v : ℕ) → t ≤ 8 → v < 256 → ones (bit_and v (255 - (2 ^ (8 - t) - 1))) ≡ lit_bits t (v ∷ [])
first_ones t v ht hv =
    digits_of 8 _ (let l = and_le_l v (255 - (2 ^ (8 - t) - 1)) in omega arith)
    ∙ eqb-true _ _ (passes_at (agrees t) 256 (passes_at (λ t. passes (agrees t) 256) 9 computed t (omega arith)) v hv)

whole_ones : (v : ℕ) → v < 256 → ones v ≡ lit_bits 8 (v ∷ [])
whole_ones v h = ap ones (sym (and_mask v 8 ∙ mod-eq_of_lt h)) ∙ first_ones 8 v (omega arith) h

masked_ones : (t v : ℕ) → t < 8 → v < 256 → ones (bit_and v (255 - bits_from 1 t)) ≡ lit_bits t (v ∷ [])
unfolding field per slot_of
masked_ones t v ht hv =
    let e : 1 * (8 - 1 - t % 8 + 1) ≡ 8 - t = omega arith in
    ap (λ (k : ℕ). ones (bit_and v (255 - (2 ^ k - 1)))) e ∙ first_ones t v (omega arith) hv

-- ---- byte after byte
-- the first t bits of byte i, behind those of the bytes before it
bits_more : (i t : ℕ) (b : List ℕ) → t ≤ 8 → lit_bits (i * 8 + t) b ≡ lit_bits (i * 8) b + lit_bits t (get_or b i 0 ∷ [])
unfolding lit_bits
bits_more i t b h = many_then (i * 8) t (bit_at b) ∙ ap (λ (n : ℕ). lit_bits (i * 8) b + n) (many_cong t _ _ (λ p l. same p (omega arith)))
  where
    same : (p : ℕ) → p < 8 → bit_at b (i * 8 + p) ≡ bit_at (get_or b i 0 ∷ []) p
    same p l =
        let m : (i * 8 + p) % 8 ≡ p % 8 = omega arith in
        let d : (i * 8 + p) / 8 ≡ i = omega arith in
        let z : 0 ≡ p / 8 = omega arith in
        ap₂ (λ (m n : ℕ). eqb (digit 2 (7 - m) (get_or b n 0)) 1) m d ∙ ap (λ (n : ℕ). eqb (digit 2 (7 - p % 8) (get_or (get_or b i 0 ∷ []) n 0)) 1) z

module _ (b : List ℕ) (i : ℕ) (h : get_or b i 0 < 256) where
  byte_more : lit_bits (i * 8) b + ones (get_or b i 0) ≡ lit_bits ((i + 1) * 8) b
  byte_more =
      let n : i * 8 + 8 ≡ (i + 1) * 8 = omega arith in
      ap (λ (n : ℕ). lit_bits (i * 8) b + n) (whole_ones (get_or b i 0) h) ∙ sym (bits_more i 8 b (omega arith)) ∙ ap (λ (n : ℕ). lit_bits n b) n

  pub rest_more : (t : ℕ) → t < 8 → {k : ℕ} → k ≡ bits_from 1 t → lit_bits (i * 8) b + ones (bit_and (get_or b i 0) (255 - k)) ≡ lit_bits (i * 8 + t) b
  rest_more t l a =
      ap (λ (n : ℕ). lit_bits (i * 8) b + n) (ap (λ (k : ℕ). ones (bit_and (get_or b i 0) (255 - k))) a ∙ masked_ones t (get_or b i 0) l h)
      ∙ sym (bits_more i t b (omega arith))

-- none at first, and never more than there are
bits_none : (b : List ℕ) → lit_bits 0 b ≡ 0
unfolding lit_bits
bits_none b = refl

bits_few : (n : ℕ) (b : List ℕ) {r : ℕ} → r ≡ lit_bits n b → r ≤ n
unfolding lit_bits
bits_few n b e = subst (λ (k : ℕ). k ≤ n) (sym e) (many_le n (bit_at b))

-- the ones of the first n bytes, and of all
pub ones_lit : (b : List ℕ) → Bytes b → (n : ℕ) → n ≤ length b → sum_by ones (take n b) ≡ lit_bits (n * 8) b
ones_lit b v zero l = sym (bits_none b)
ones_lit b v (suc n) l =
    let more = rw add-one at (sum_by_more ones b n 0 (omega arith)) in
    omega (arith, more, ones_lit b v n (omega arith), rw add-one at (byte_more b n (v n)))

pub ones_few : (b : List ℕ) → Bytes b → sum_by ones b ≤ length b * 8
ones_few b v = bits_few (length b * 8) b (sym (ap (sum_by ones) (take-length b)) ∙ ones_lit b v (length b) (le_refl (length b)))
