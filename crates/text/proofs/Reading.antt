-- Laws of reading a number digit by digit. Assumes nothing.
use mathlib.Core.Path.{◌≡◌, refl, sym, ap, ◌∙◌, subst}
use mathlib.Core.Bool.{Bool, true, false, cond, ◌&&◌}
use mathlib.Core.List.{List, [], ◌∷◌}
use Prim.Native.Nat.{ℕ, zero, suc, ◌+◌, ◌*◌, ◌-◌, ◌≤◌, ◌<◌}
use native.Mathlib.Nat.{le_trans}
use native.Mathlib.Numerals.{add-one}
use native.Mathlib.Omega.{arith}
use lib.Dec.{leb, eqb, lit<}
use lib.IntN.{ℤ, pos, neg_ℤ, ◌-ℤ◌}
use lib.ListN.{length, take, drop, get_or, drop_of_length-le}
use lib.Pointwise.{pointwise}
use lib.Seq.{drop-cons}
use borrow.Author.Tests.{leb-true, leb-false, le-leb, lt-leb}
use mir.Syntax.{w32, w64}
use mir.Val.{Fits, SFits, to_z, of_z}
use mir.Facts.{to_z-of_z, to_z_pos}
use Rattle.std.specs.Prelude.{Option, Some, None, option_map}
use Rattle.std.proofs.lemmas.Option.{same_Some}
use Rattle.whole.proofs.Machine.{Has, fits, back, at_most, wide_nat, minus_of}
use Rattle.text.proofs.And.{and_false, and_first, and_second}
use Rattle.text.specs.Digits.{is_digit, all_digits, with_digit, value_from, digits_value}
use Rattle.std.specs.Bool.{then_some}
use Rattle.text.specs.Read.{read_digits, negated, read_u32, read_signed, read_i32}

-- ---- nothing was read
none_left : (a : Bool) (v : ℕ) → None ≡ then_some (a && false) v
none_left a v = rw (and_false a)

-- ---- which bytes are digits
pub digit_low : (b : ℕ) → b < 48 → is_digit b ≡ false
digit_low b h = rw (lt-leb 48 b h)

pub digit_high : (b : ℕ) → 57 < b → is_digit b ≡ false
digit_high b h = rw (lt-leb b 57 h) (and_false (leb 48 b))

pub digit_yes : (b : ℕ) → 48 ≤ b → b ≤ 57 → is_digit b ≡ true
digit_yes b h k = rw (le-leb 48 b h, le-leb b 57 k)

-- ---- what a longer row of digits means is no smaller
pub value_grows : (v : ℕ) (s : List ℕ) → v ≤ value_from v s
value_grows v [] = omega arith
value_grows v (b ∷ s) = le_trans more (value_grows (with_digit v b) s)
  where
    more : v ≤ v * 10 + (b - 48)
    more = omega arith

-- ---- one digit after another, as long as the number is at most `most`
unfoldable pub fitting : ℕ → ℕ → ℕ → Bool
fitting most v b = is_digit b && leb (with_digit v b) most

pub fitting_most : (most v b : ℕ) → fitting most v b ≡ true → with_digit v b ≤ most
unfolding fitting
fitting_most most v b e = leb-true (with_digit v b) most (and_second (is_digit b) (leb (with_digit v b) most) e)

abbrev pub scanned : ℕ → ℕ → List ℕ → Option ℕ
scanned most v [] = Some v
scanned most v (b ∷ s) = cond (fitting most v b) (scanned most (with_digit v b) s) None

-- it is the number that the digits are
pub scanned_is : (most v : ℕ) (s : List ℕ) → v ≤ most → scanned most v s ≡ then_some (all_digits s && leb (value_from v s) most) (value_from v s)
unfolding fitting
scanned_is most v [] h = rw (le-leb v most h)
scanned_is most v (b ∷ s) h = by (is_digit b) (leb (with_digit v b) most) refl refl (scanned_is most (with_digit v b) s)
  where
    past : most < with_digit v b → most < value_from (with_digit v b) s
    past k = le_trans k (value_grows (with_digit v b) s)

    by : (d l : Bool) → is_digit b ≡ d → leb (with_digit v b) most ≡ l
        → (with_digit v b ≤ most → scanned most (with_digit v b) s ≡ then_some (all_digits s && leb (value_from (with_digit v b) s) most) (value_from (with_digit v b) s))
        → scanned most v (b ∷ s) ≡ then_some ((is_digit b && all_digits s) && leb (value_from (with_digit v b) s) most) (value_from (with_digit v b) s)
    by false l p q r = rw p
    by true true p q r = rw (p, q) (r (leb-true (with_digit v b) most q))
    by true false p q r = rw (p, q, lt-leb (value_from (with_digit v b) s) most (past (leb-false (with_digit v b) most q))) (none_left (all_digits s) _)

pub read_is : (limit most : ℕ) (s : List ℕ) → 1 ≤ length s → length s ≤ limit → scanned most 0 s ≡ read_digits limit most s
unfolding read_digits
read_is limit most s h k = rw (le-leb 1 (length s) h, le-leb (length s) limit k) (scanned_is most 0 s (omega arith))

pub read_empty : (limit most : ℕ) (s : List ℕ) → length s ≡ 0 → None ≡ read_digits limit most s
unfolding read_digits
read_empty limit most s h = rw h

pub read_long : (limit most : ℕ) (s : List ℕ) → limit < length s → None ≡ read_digits limit most s
unfolding read_digits
read_long limit most s h = rw (lt-leb (length s) limit h) (none_left (leb 1 (length s)) _)

-- ---- a turn at the byte i
module _ (most v : ℕ) (s : List ℕ) (i : ℕ) (h : i < length s) where
  pub scan_goes : fitting most v (get_or s i 0) ≡ true → scanned most v (drop i s) ≡ scanned most (with_digit v (get_or s i 0)) (drop (i + 1) s)
  scan_goes e = rw (drop-cons s i 0 h, e, add-one)

  pub scan_stops : fitting most v (get_or s i 0) ≡ false → scanned most v (drop i s) ≡ None
  scan_stops e = rw (drop-cons s i 0 h, e)

pub scan_ends : (most v : ℕ) (s : List ℕ) (i : ℕ) → length s ≤ i → scanned most v (drop i s) ≡ Some v
scan_ends most v s i h = rw (drop_of_length-le s h)

-- ---- what an answer says
pub only_yes : {A : Type 0} (t : Bool) (v w : A) → then_some t v ≡ Some w → (t ≡ true) × (v ≡ w)
only_yes true v w e = (refl, cc)
only_yes false v w e = cc

pub only_no : {A : Type 0} (t : Bool) (v : A) → then_some t v ≡ None → t ≡ false
only_no true v e = cc
only_no false v e = refl

-- ---- a number that is read is at most `most`
pub read_most : (limit most : ℕ) (s : List ℕ) (n : ℕ) → read_digits limit most s ≡ Some n → n ≤ most
unfolding read_digits
read_most limit most s n e = by (leb 1 (length s)) (leb (length s) limit) (all_digits s) (leb (digits_value s) most) refl e
  where
    by : (a b c d : Bool) → leb (digits_value s) most ≡ d → then_some (a && (b && (c && d))) (digits_value s) ≡ Some n → n ≤ most
    by true true true true q e = omega (arith, leb-true (digits_value s) most q, (only_yes true (digits_value s) n e).1)
    by true true true false q e = cc
    by true true false d q e = cc
    by true false c d q e = cc
    by false b c d q e = cc

-- ---- with a sign
pub signed_minus : (limit : ℕ) (s : List ℕ) → pointwise eqb (take 1 s) (45 ∷ []) ≡ true → option_map negated (read_digits limit 2147483648 (drop 1 s)) ≡ read_signed limit s
unfolding read_signed
signed_minus limit [] h = cc
signed_minus limit (b ∷ s) h = rw (and_first (eqb b 45) true h)

pub signed_plain : (limit : ℕ) (s : List ℕ) → pointwise eqb (take 1 s) (45 ∷ []) ≡ false → option_map pos (read_digits limit 2147483647 s) ≡ read_signed limit s
unfolding read_signed
signed_plain limit [] h = ap (option_map pos) (sym (read_empty limit 2147483647 [] refl))
signed_plain limit (b ∷ s) h = by (eqb b 45) h
  where
    by : (t : Bool) → t && true ≡ false
        → option_map pos (read_digits limit 2147483647 (b ∷ s)) ≡ cond t (option_map negated (read_digits limit 2147483648 s)) (option_map pos (read_digits limit 2147483647 (b ∷ s)))
    by true e = cc
    by false e = refl

-- ---- the machine's negation of a number that was read, down to the least `i32`
neg_fits : (n : ℕ) → n ≤ 2147483648 → SFits w32 (neg_ℤ (pos n))
neg_fits zero h = record { sfits = lit< tt }
neg_fits (suc n) h = record { sfits = h }

module _ (n : ℕ) (h : n ≤ 2147483648) where
  negation : Has w64 (pos 0 -ℤ to_z w64 n) (neg_ℤ (pos n)) 2147483648
  negation = minus_of (at_most 2147483648 (wide_nat (record { fits = omega arith })) h tt)

  pub minus_fits : SFits w64 (pos 0 -ℤ to_z w64 n)
  minus_fits = fits negation

  pub minus_narrow : SFits w32 (to_z w64 (of_z w64 (pos 0 -ℤ to_z w64 n)))
  minus_narrow = subst (SFits w32) (sym (back negation).is) (neg_fits n h)

  pub minus_is : to_z w32 (of_z w32 (to_z w64 (of_z w64 (pos 0 -ℤ to_z w64 n)))) ≡ neg_ℤ (pos n)
  minus_is = ap (λ (z : ℤ). to_z w32 (of_z w32 z)) (back negation).is ∙ to_z-of_z (neg_fits n h)

pub plain_is : (n : ℕ) → n ≤ 2147483647 → to_z w32 n ≡ pos n
plain_is n h = to_z_pos w32 (omega arith)

-- ---- what is read is held by 32 bits
pub i32_fits : (s : List ℕ) (z : ℤ) → read_i32 s ≡ Some z → SFits w32 z
unfolding read_signed
i32_fits [] z e = cc
i32_fits (b ∷ s) z e = by (eqb b 45) e
  where
    minus : (r : Option ℕ) → ((n : ℕ) → r ≡ Some n → n ≤ 2147483648) → option_map negated r ≡ Some z → SFits w32 z
    minus None h e = cc
    minus (Some n) h e = subst (SFits w32) (same_Some (neg_ℤ (pos n)) z e) (neg_fits n (h n refl))

    plain : (r : Option ℕ) → ((n : ℕ) → r ≡ Some n → n ≤ 2147483647) → option_map pos r ≡ Some z → SFits w32 z
    plain None h e = cc
    plain (Some n) h e = subst (SFits w32) (same_Some (pos n) z e) (record { sfits = omega (arith, h n refl) })

    by : (t : Bool) → cond t (option_map negated (read_digits 10 2147483648 s)) (option_map pos (read_digits 10 2147483647 (b ∷ s))) ≡ Some z → SFits w32 z
    by true e = minus (read_digits 10 2147483648 s) (read_most 10 2147483648 s) e
    by false e = plain (read_digits 10 2147483647 (b ∷ s)) (read_most 10 2147483647 (b ∷ s)) e

pub u32_fits : (s : List ℕ) (n : ℕ) → read_u32 s ≡ Some n → Fits w32 n
u32_fits s n e = record { fits = omega (arith, read_most 10 4294967295 s n e) }
