-- What packed rows leave alone: every bit behind a row's last pixel, every byte between a row and the next, and every byte behind the frame. Assumes nothing.
use mathlib.Core.Path.{◌≡◌, sym, ap, ◌∙◌}
use mathlib.Core.List.{List}
use Prim.Native.Nat.{ℕ, zero, suc, ◌+◌, ◌-◌, ◌*◌, ◌/◌, ◌%◌, ◌^◌, ◌≤◌, ◌<◌}
use native.Mathlib.Nat.{le_refl, div-one, mod-lt, div-add-mod', div-div-eq-div-mul, mul_comm, mul-le-mul_right, not-suc-le-zero, pow-suc}
use native.Mathlib.Omega.{arith}
use lib.Arith.{digits_div, digits_mod, mod-mul}
use lib.ListN.{get_or}
use lib.Pow.{pow_pos}
use Rattle.layout.specs.Digits.{digit}
use Rattle.layout.specs.Layout.{Picture, rendered}
use Rattle.layout.specs.Packed.{Packed, laid, row_bytes, field, parts, per, turned, byte_of, slot_of}
use Rattle.layout.proofs.Pictures.{cell_stays, byte_stays}
use Rattle.layout.proofs.Places.{Sound, depth_cases, depth_of, field_pos, digits_eq, turned_below, in_row, place_in, placing}

-- ---- a bit of a number is a bit of one of its digits
halved : (v G : ℕ) → (v % 2 ^ suc G / 2 ≡ v / 2 % 2 ^ G) × (v % 2 ^ suc G % 2 ≡ v % 2)
halved v G =
    let e : v % 2 ^ suc G ≡ v / 2 % 2 ^ G * 2 + v % 2 = ap (λ (n : ℕ). v % n) (pow-suc 2 G) ∙ mod-mul v (pow_pos G) (omega arith) in
    let l : v % 2 < 2 = omega arith in
    (ap (λ (n : ℕ). n / 2) e ∙ digits_div (v / 2 % 2 ^ G) l, ap (λ (n : ℕ). n % 2) e ∙ digits_mod (v / 2 % 2 ^ G) l)

pub low_bit : (s F v : ℕ) → s < F → digit 2 s (v % 2 ^ F) ≡ digit 2 s v
low_bit s zero v h = absurd (not-suc-le-zero h)
low_bit zero (suc G) v h = (halved v G).1
low_bit (suc s) (suc G) v h = ap (digit 2 s) (halved v G).0 ∙ low_bit s G (v / 2) (omega arith)

pub high_bit : (F m v : ℕ) → digit 2 (F + m) v ≡ digit 2 m (v / 2 ^ F)
high_bit zero m v = let e : 0 + m ≡ m = omega arith in ap (λ (k : ℕ). digit 2 k v) e ∙ ap (digit 2 m) (sym (div-one v))
high_bit (suc F) m v =
    let e : suc F + m ≡ suc (F + m) = omega arith in
    ap (λ (k : ℕ). digit 2 k v) e
    ∙ high_bit F m (v / 2)
    ∙ ap (digit 2 m) (div-div-eq-div-mul v 2 (2 ^ F) ∙ ap (λ (n : ℕ). v / n) (mul_comm 2 (2 ^ F) ∙ sym (pow-suc 2 F)))

bit_of_digit : (F q s v : ℕ) → s < F → digit 2 (q * F + s) v ≡ digit 2 s (digit (2 ^ F) q v)
bit_of_digit F zero s v h = let e : 0 * F + s ≡ s = omega arith in ap (λ (k : ℕ). digit 2 k v) e ∙ sym (low_bit s F v h)
bit_of_digit F (suc q) s v h =
    let e : suc q * F + s ≡ F + (q * F + s) = omega arith in
    ap (λ (k : ℕ). digit 2 k v) e ∙ high_bit F (q * F + s) v ∙ bit_of_digit F q s (v / 2 ^ F) h

pub bit_in : (F t v : ℕ) → 0 < F → digit 2 t v ≡ digit 2 (t % F) (digit (2 ^ F) (t / F) v)
bit_in F t v p = sym (ap (λ (k : ℕ). digit 2 k v) (div-add-mod' t F)) ∙ bit_of_digit F (t / F) (t % F) v (mod-lt t p)

-- numbers that agree in a digit agree in its bits
pub same_bit : (F t u v : ℕ) → 0 < F → digit (2 ^ F) (t / F) u ≡ digit (2 ^ F) (t / F) v → digit 2 t u ≡ digit 2 t v
same_bit F t u v p e = bit_in F t u p ∙ ap (digit 2 (t % F)) e ∙ sym (bit_in F t v p)

-- ---- no pixel has a bit behind its own
behind : (d : ℕ) → Type 0
behind d = (x j t k : ℕ) → k < parts d → t < 8 → j ≡ x * d / 8 + k → t / field d ≡ slot_of d x → (x + 1) * d ≤ 8 * j + (7 - t) → ⊥

module _ (r : Packed) (S : Sound r) where
  not_behind : behind r.depth
  unfolding behind field parts per slot_of
  not_behind =
      depth_cases behind (λ x j t k a b c e h. omega arith) (λ x j t k a b c e h. omega arith) (λ x j t k a b c e h. omega arith) (λ x j t k a b c e h. omega arith)
      (λ x j t k a b c e h. omega arith) (λ x j t k a b c e h. omega arith) (λ x j t k a b c e h. omega arith) r.depth S.depth

  -- bit t of byte j of row y, the lowest being bit 0, where it stands behind the row's last pixel
  pub padding_stays : (y j t : ℕ) → j < r.distance → t < 8 → r.width * r.depth ≤ 8 * j + (7 - t)
      → (f : Picture) (b : List ℕ) → digit 2 t (get_or (rendered (laid r) f b) (y * r.distance + j) 0) ≡ digit 2 t (get_or b (y * r.distance + j) 0)
  unfolding byte_of behind
  padding_stays y j t hj ht past f b =
      same_bit (field r.depth) t _ _ (field_pos r.depth (depth_of r.depth S.depth))
      (cell_stays (laid r) (placing r S) (y * r.distance + j) (t / field r.depth) free f b)
    where
      free : (x y' k : ℕ) → x < r.width → y' < r.height → k < parts r.depth → y * r.distance + j ≡ byte_of r x y' k → t / field r.depth ≡ slot_of r.depth x → ⊥
      free x y' k hx hy hk e s =
          let n = parts r.depth in
          let e₁ : y * r.distance + j ≡ y' * r.distance + (x * r.depth / 8 + turned r.big n k) = omega arith in
          let m : (x + 1) * r.depth ≤ r.width * r.depth = mul-le-mul_right r.depth (omega arith) in
          not_behind x j t (turned r.big n k) (turned_below r.big n k hk) ht (digits_eq r.distance y y' j _ hj (in_row r S x k hx hk) e₁).1 s (omega arith)

  -- byte j of row y, where it stands behind the row's last byte
  pub gap_stays : (y j : ℕ) → row_bytes r.width r.depth ≤ j → j < r.distance
      → (f : Picture) (b : List ℕ) → get_or (rendered (laid r) f b) (y * r.distance + j) 0 ≡ get_or b (y * r.distance + j) 0
  unfolding byte_of
  gap_stays y j hr hj = byte_stays (laid r) (placing r S) (y * r.distance + j) free
    where
      close : Packed
      close = record { width = r.width; height = r.height; depth = r.depth; distance = row_bytes r.width r.depth; big = r.big }

      free : (x y' k : ℕ) → x < r.width → y' < r.height → k < parts r.depth → y * r.distance + j ≡ byte_of r x y' k → ⊥
      free x y' k hx hy hk e =
          let l = in_row close (record { depth = S.depth; apart = le_refl (row_bytes r.width r.depth) }) x k hx hk in
          let e₁ : y * r.distance + j ≡ y' * r.distance + (x * r.depth / 8 + turned r.big (parts r.depth) k) = omega arith in
          let q = (digits_eq r.distance y y' j _ hj (in_row r S x k hx hk) e₁).1 in
          omega arith

  pub tail_stays : (i : ℕ) → r.distance * r.height ≤ i → (f : Picture) (b : List ℕ) → get_or (rendered (laid r) f b) i 0 ≡ get_or b i 0
  tail_stays i h = byte_stays (laid r) (placing r S) i (λ x y k hx hy hk e. no (place_in r S x y k hx hy hk) e)
    where
      no : {z : ℕ} → z < r.distance * r.height → i ≡ z → ⊥
      no l e = omega arith
