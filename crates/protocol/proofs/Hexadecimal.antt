-- Bytes written as two digits each and read back: a turn, how many there are, and that the one undoes the other. Assumes nothing.
use mathlib.Core.Path.{◌≡◌, refl, ap}
use mathlib.Core.Bool.{Bool, true, false, cond, ◌&&◌}
use mathlib.Core.List.{List, [], ◌∷◌}
use Prim.Native.Nat.{ℕ, suc, ◌+◌, ◌-◌, ◌*◌, ◌/◌, ◌%◌, ◌<◌, ◌≤◌}
use native.Mathlib.Numerals.{add-one}
use native.Mathlib.Omega.{arith}
use lib.Dec.{leb, ltb}
use lib.ListN.{length, get_or, drop, set, length-drop, drop_of_length-le}
use lib.Seq.{sets, drop-cons}
use borrow.Author.Tests.{ltb-true, ltb-false, le-leb, leb-true}
use Rattle.text.proofs.And.{and_false, and_first}
use Rattle.text.proofs.Reading.{digit_yes, digit_high}
use Rattle.std.specs.Bool.{then_some}
use Rattle.std.specs.Prelude.{Some, None, unwrap_or}
use Rattle.protocol.specs.Bytes.{hex_value, digit_or_zero, all_hex, is_hex, hex_bytes, hex_put}
use Rattle.protocol.specs.Dump.{hex_digit, hex_text}

-- ---- bytes to digits
pub hex_count : (s : List ℕ) → length (hex_text s) ≡ 2 * length s
hex_count [] = refl
hex_count (b ∷ s) = omega (arith, hex_count s)

module _ (out s : List ℕ) (k i : ℕ) where
  pub hex_turn : i < length s
      → sets (set (set out k (hex_digit (get_or s i 0 / 16))) (k + 1) (hex_digit (get_or s i 0 % 16))) (k + 2) (hex_text (drop (i + 1) s)) ≡ sets out k (hex_text (drop i s))
  hex_turn h = rw (drop-cons s i 0 h, add-one i, add-one k, two)
    where
      two : k + 2 ≡ suc (suc k)
      two = omega arith

  pub hex_end : length s ≤ i → sets out k (hex_text (drop i s)) ≡ out
  hex_end h = rw (drop_of_length-le s h)

-- ---- digits to bytes
pub pair_count : (s : List ℕ) → length (hex_bytes s) ≡ length s / 2
pair_count [] = refl
pair_count (h ∷ []) = refl
pair_count (h ∷ l ∷ s) = omega (arith, pair_count s)

module _ (b : ℕ) where
  pub digit_tenth : 48 ≤ b → b ≤ 57 → Some (b - 48) ≡ hex_value b
  unfolding hex_value
  digit_tenth h k = rw (digit_yes b h k)

  pub digit_letter : 97 ≤ b → b ≤ 102 → Some (b - 87) ≡ hex_value b
  unfolding hex_value
  digit_letter h k = rw (digit_high b (omega arith), le-leb 97 b h, le-leb b 102 k)

  pub digit_none : (48 ≤ b → b ≤ 57 → ⊥) → (97 ≤ b → b ≤ 102 → ⊥) → None ≡ hex_value b
  unfolding hex_value
  digit_none n m = by (leb 48 b) (leb b 57) (leb 97 b) (leb b 102) refl refl refl refl
    where
      by : (p q r t : Bool) → leb 48 b ≡ p → leb b 57 ≡ q → leb 97 b ≡ r → leb b 102 ≡ t → None ≡ cond (p && q) (Some (b - 48)) (then_some (r && t) (b - 87))
      by true true r t d e f g = absurd (n (leb-true 48 b d) (leb-true b 57 e))
      by true false true true d e f g = absurd (m (leb-true 97 b f) (leb-true b 102 g))
      by true false true false d e f g = refl
      by true false false t d e f g = refl
      by false q true true d e f g = absurd (m (leb-true 97 b f) (leb-true b 102 g))
      by false q true false d e f g = refl
      by false q false t d e f g = refl

pub digit_below : (b : ℕ) → digit_or_zero b < 16
unfolding hex_value
digit_below b = by (leb 48 b) (leb b 57) (leb 97 b) (leb b 102) refl refl
  where
    by : (p q r t : Bool) → leb b 57 ≡ q → leb b 102 ≡ t → unwrap_or (cond (p && q) (Some (b - 48)) (then_some (r && t) (b - 87))) 0 < 16
    by true true r t e f = omega (arith, leb-true b 57 e)
    by true false true true e f = omega (arith, leb-true b 102 f)
    by true false true false e f = omega arith
    by true false false t e f = omega arith
    by false q true true e f = omega (arith, leb-true b 102 f)
    by false q true false e f = omega arith
    by false q false t e f = omega arith

module _ (out s : List ℕ) (at i : ℕ) where
  pub pair_turn : i < length s / 2
      → sets (set out (at + i) (digit_or_zero (get_or s (i * 2) 0) * 16 + digit_or_zero (get_or s (i * 2 + 1) 0))) (at + (i + 1)) (hex_bytes (drop ((i + 1) * 2) s))
      ≡ sets out (at + i) (hex_bytes (drop (i * 2) s))
  pair_turn h = rw (next, place, drop-cons s (i * 2) 0 (omega arith), drop-cons s (suc (i * 2)) 0 (omega arith), add-one (i * 2))
    where
      next : (i + 1) * 2 ≡ suc (suc (i * 2))
      next = omega arith

      place : at + (i + 1) ≡ suc (at + i)
      place = omega arith

  pub pair_end : length s / 2 ≤ i → sets out (at + i) (hex_bytes (drop (i * 2) s)) ≡ out
  pair_end h = none (drop (i * 2) s) (omega (arith, length-drop (i * 2) s))
    where
      none : (t : List ℕ) → length t < 2 → sets out (at + i) (hex_bytes t) ≡ out
      none [] k = refl
      none (a ∷ []) k = refl
      none (a ∷ b ∷ t) k = absurd (omega arith)

-- ---- digits that are bytes, put where all of them have a place
pub hex_digits : (s : List ℕ) → is_hex s ≡ true → all_hex s ≡ true
unfolding is_hex
hex_digits s e = and_first _ _ (and_first _ _ (and_first _ _ e))

module _ (s : List ℕ) (at : ℕ) (m : List ℕ) where
  pub put_other : is_hex s ≡ false → ◌≡◌ {A = Bool × List ℕ} (false, m) (hex_put s at m)
  unfolding hex_put
  put_other e = rw e

  pub put_beyond : leb (at + length s / 2) (length m) ≡ false → ◌≡◌ {A = Bool × List ℕ} (false, m) (hex_put s at m)
  unfolding hex_put
  put_beyond e = rw (pair_count s, e, and_false (is_hex s))

  pub put_within : is_hex s ≡ true → leb (at + length s / 2) (length m) ≡ true → ◌≡◌ {A = Bool × List ℕ} (true, sets m at (hex_bytes s)) (hex_put s at m)
  unfolding hex_put
  put_within e h = rw (pair_count s, e, h)

-- ---- what `dump` shows, `bytes` takes
digit_back : (v : ℕ) → v < 16 → hex_value (hex_digit v) ≡ Some v
unfolding hex_value
digit_back v h = by (ltb v 10) refl
  where
    less : 48 + v - 48 ≡ v
    less = omega arith

    more : 87 + v - 87 ≡ v
    more = omega arith

    by : (t : Bool) → ltb v 10 ≡ t → hex_value (cond t (48 + v) (87 + v)) ≡ Some v
    by true e = let k = ltb-true v 10 e in rw (digit_yes (48 + v) (omega arith) (omega arith)) (ap Some less)
    by false e =
        let k = ltb-false v 10 e in
        rw (digit_high (87 + v) (omega arith), le-leb 97 (87 + v) (omega arith), le-leb (87 + v) 102 (omega arith)) (ap Some more)

bytes_back : (s : List ℕ) → ((i : ℕ) → get_or s i 0 < 256) → (hex_bytes (hex_text s) ≡ s) × (all_hex (hex_text s) ≡ true)
bytes_back [] small = (refl, refl)
bytes_back (b ∷ s) small =
    let rest = bytes_back s (λ i. small (suc i)) in
    let high = digit_back (b / 16) (omega (arith, small 0)) in
    let low = digit_back (b % 16) (omega arith) in
    let whole : b / 16 * 16 + b % 16 ≡ b = omega arith in
    (rw (high, low, whole, rest.0), rw (high, low) rest.1)

pub shown_bytes_read_back : (s : List ℕ) (at : ℕ) (m : List ℕ) → ((i : ℕ) → get_or s i 0 < 256) → 1 ≤ length s → length s ≤ 48 → at + length s ≤ length m
    → hex_put (hex_text s) at m ≡ (true, sets m at s)
unfolding hex_put is_hex
shown_bytes_read_back s at m small h k l =
    let back = bytes_back s small in
    let count = hex_count s in
    let even : length (hex_text s) % 2 ≡ 0 = omega arith in
    rw (back.0, back.1, even, le-leb 2 (length (hex_text s)) (omega arith), le-leb (length (hex_text s)) 96 (omega arith), le-leb (at + length s) (length m) l)
