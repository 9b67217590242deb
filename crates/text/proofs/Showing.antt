-- Laws of a number's decimal text: it is the digits from the last on, it has at most ten of them for a 32-bit number, and it reads back. Assumes nothing.
use mathlib.Core.Path.{◌≡◌, refl, sym, ap, ◌∙◌}
use mathlib.Core.Bool.{Bool, true, false, ◌&&◌, false≢true, true≢false}
use mathlib.Core.List.{List, [], ◌∷◌, ◌++◌}
use Prim.Native.Nat.{ℕ, zero, suc, ◌+◌, ◌*◌, ◌/◌, ◌≤◌, ◌<◌, ◌^◌, max}
use native.Mathlib.Nat.{le_trans, pow-suc}
use native.Mathlib.Numerals.{add-one}
use native.Mathlib.Omega.{arith}
use lib.Pointwise.{pointwise}
use lib.Dec.{leb, ltb, eqb, lit≤, lit<}
use lib.IntN.{ℤ, pos, negsuc, nat_abs}
use lib.Signed.{◌≤ℤ◌, ◌<ℤ◌}
use lib.ListN.{length, take, length-append}
use borrow.Author.Tests.{ltb-true, ltb-false, lt-ltb, le-ltb, le-leb, ne_eqb}
use mir.Syntax.{w32, w64}
use mir.Val.{Fits, SFits}
use Rattle.whole.proofs.Difference.{lt_nat}
use Rattle.text.specs.Digits.{is_digit, all_digits, with_digit, value_from, digits_value}
use Rattle.text.proofs.Reading.{digit_yes, signed_plain}
use Rattle.text.proofs.Writing.{triple_parts}
use Rattle.text.specs.Words.{numbered, counted}
use Rattle.text.specs.Show.{last_digit, shown_by, shown, last_digits, shown_signed, number_field, triple}
use Rattle.std.specs.Prelude.{Some, option_map}
use Rattle.text.specs.Read.{read_digits, read_u32, read_signed, read_i32, negated}

-- ---- turns to spare change nothing
enough : (f g n : ℕ) → n ≤ f → n ≤ g → shown_by f n ≡ shown_by g n
enough zero zero n h k = refl
enough zero (suc g) n h k = rw (lt-ltb n 10 (omega arith))
enough (suc f) zero n h k = rw (lt-ltb n 10 (omega arith))
enough (suc f) (suc g) n h k = by (ltb n 10) refl (λ t. enough f g (n / 10) (omega arith) (omega arith))
  where
    by : (t : Bool) → ltb n 10 ≡ t → (10 ≤ n → shown_by f (n / 10) ≡ shown_by g (n / 10)) → shown_by (suc f) n ≡ shown_by (suc g) n
    by true e r = rw e
    by false e r = rw e (ap (λ (s : List ℕ). s ++ (last_digit n ∷ [])) (r (ltb-false n 10 e)))

-- ---- the two cases of a number's text
pub shown_one : (n : ℕ) → n < 10 → shown n ≡ last_digit n ∷ []
unfolding shown
shown_one zero h = refl
shown_one (suc n) h = rw (lt-ltb (suc n) 10 h)

pub shown_more : (n : ℕ) → 10 ≤ n → shown n ≡ shown (n / 10) ++ (last_digit n ∷ [])
unfolding shown
shown_more zero h = absurd (omega arith)
shown_more (suc n) h = rw (le-ltb (suc n) 10 h) (ap (λ (s : List ℕ). s ++ (last_digit (suc n) ∷ [])) (enough n (suc n / 10) (suc n / 10) (omega arith) (omega arith)))

-- ---- by a number's digits, from the first on
pub by_digits : (P : ℕ → Type 0) → ((n : ℕ) → n < 10 → P n) → ((n : ℕ) → 10 ≤ n → P (n / 10) → P n) → (n : ℕ) → P n
by_digits P one more n = go n n (omega arith)
  where
    part : (f n : ℕ) → n ≤ suc f → 10 ≤ n → n / 10 ≤ f
    part f n h k = omega arith

    at : (f n : ℕ) → n ≤ suc f → (t : Bool) → ltb n 10 ≡ t → ((m : ℕ) → m ≤ f → P m) → P n
    at f n h true e r = one n (ltb-true n 10 e)
    at f n h false e r = more n (ltb-false n 10 e) (r (n / 10) (part f n h (ltb-false n 10 e)))

    go : (f n : ℕ) → n ≤ f → P n
    go zero n h = one n (omega arith)
    go (suc f) n h = at f n h (ltb n 10) refl (go f)

-- ---- it is made of digits, and they mean the number
last_digit_lem : (n : ℕ) → is_digit (last_digit n) ≡ true
last_digit_lem n = digit_yes (last_digit n) (omega arith) (omega arith)

all_append : (s t : List ℕ) → all_digits s ≡ true → all_digits t ≡ true → all_digits (s ++ t) ≡ true
all_append [] t h k = k
all_append (b ∷ s) t h k = both (is_digit b) (all_digits s) h (λ e. all_append s t e k)
  where
    both : (a d : Bool) → a && d ≡ true → (d ≡ true → all_digits (s ++ t) ≡ true) → a && all_digits (s ++ t) ≡ true
    both true d e f = f e
    both false d e f = absurd (false≢true e)

pub shown_digits : (n : ℕ) → all_digits (shown n) ≡ true
shown_digits n = by_digits (λ (n : ℕ). all_digits (shown n) ≡ true) one more n
  where
    one : (n : ℕ) → n < 10 → all_digits (shown n) ≡ true
    one n h = rw (shown_one n h, last_digit_lem n)

    more : (n : ℕ) → 10 ≤ n → all_digits (shown (n / 10)) ≡ true → all_digits (shown n) ≡ true
    more n h e = rw (shown_more n h) (all_append (shown (n / 10)) (last_digit n ∷ []) e (rw (last_digit_lem n)))

value_append : (v : ℕ) (s t : List ℕ) → value_from v (s ++ t) ≡ value_from (value_from v s) t
value_append v [] t = refl
value_append v (b ∷ s) t = value_append (with_digit v b) s t

pub shown_value : (n : ℕ) → digits_value (shown n) ≡ n
shown_value n = by_digits (λ (n : ℕ). digits_value (shown n) ≡ n) one more n
  where
    one : (n : ℕ) → n < 10 → digits_value (shown n) ≡ n
    one n h = rw (shown_one n h) (omega arith)

    more : (n : ℕ) → 10 ≤ n → digits_value (shown (n / 10)) ≡ n / 10 → digits_value (shown n) ≡ n
    more n h e = rw (shown_more n h) (value_append 0 (shown (n / 10)) (last_digit n ∷ []) ∙ rw e (omega arith))

-- ---- how many they are
pub shown_some : (n : ℕ) → 1 ≤ length (shown n)
shown_some n = by_digits (λ (n : ℕ). 1 ≤ length (shown n)) (λ n h. rw (shown_one n h) (omega arith)) (λ n h e. rw (shown_more n h, length-append) (omega arith)) n

pub shown_most : (k n : ℕ) → n < 10 ^ suc k → length (shown n) ≤ suc k
shown_most zero n h = rw (shown_one n h) (omega arith)
shown_most (suc k) n h = at (ltb n 10) refl (shown_most k (n / 10))
  where
    part : 10 ≤ n → n / 10 < 10 ^ suc k
    part l = omega (arith, rw pow-suc at h)

    at : (t : Bool) → ltb n 10 ≡ t → (n / 10 < 10 ^ suc k → length (shown (n / 10)) ≤ suc k) → length (shown n) ≤ suc (suc k)
    at true e r = rw (shown_one n (ltb-true n 10 e)) (omega arith)
    at false e r = rw (shown_more n (ltb-false n 10 e), length-append) (omega (arith, r (part (ltb-false n 10 e))))

ten_some : (k : ℕ) → 1 ≤ 10 ^ k
ten_some zero = omega arith
ten_some (suc k) = omega (arith, pow-suc 10 k, ten_some k)

shown_least : (k n : ℕ) → 10 ^ k ≤ n → k + 1 ≤ length (shown n)
shown_least zero n h = shown_some n
shown_least (suc k) n h = at (rw pow-suc at h) (shown_least k (n / 10))
  where
    at : 10 ^ k * 10 ≤ n → (10 ^ k ≤ n / 10 → k + 1 ≤ length (shown (n / 10))) → suc k + 1 ≤ length (shown n)
    at h r = rw (shown_more n (omega (arith, ten_some k)), length-append) (omega (arith, r (omega arith)))

-- a digit for each power of ten that is no larger than the number, or than 1
pub shown_powers : (n k m : ℕ) → m ≡ max n 1 → 10 ^ k ≤ m → m < 10 * 10 ^ k → k + 1 ≡ length (shown n)
unfolding shown
shown_powers zero zero m e h l = refl
shown_powers zero (suc k) m e h l = absurd (omega (arith, ten_some k, pow-suc 10 k))
shown_powers (suc n) k m e h l = omega (arith, shown_least k (suc n) (omega arith), shown_most k (suc n) (omega (arith, pow-suc 10 k)))

-- a 32-bit number has at most ten digits, and one sign before them
pub shown_ten : (n : ℕ) → n < 2 ^ 32 → length (shown n) ≤ 10
shown_ten n h = shown_most 9 n (le_trans h (lit≤ tt))

pub shown_twenty : (n : ℕ) → n < 2 ^ 64 → length (shown n) ≤ 20
shown_twenty n h = shown_most 19 n (le_trans h (lit≤ tt))

-- ---- they are the last digits, as many as there are
pub shown_last : (n : ℕ) → shown n ≡ last_digits (length (shown n)) n
shown_last n = by_digits (λ (n : ℕ). shown n ≡ last_digits (length (shown n)) n) one more n
  where
    one : (n : ℕ) → n < 10 → shown n ≡ last_digits (length (shown n)) n
    one n h = rw (shown_one n h)

    more : (n : ℕ) → 10 ≤ n → shown (n / 10) ≡ last_digits (length (shown (n / 10))) (n / 10) → shown n ≡ last_digits (length (shown n)) n
    more n h e =
        shown_more n h ∙ ap (λ (s : List ℕ). s ++ (last_digit n ∷ [])) e
        ∙ ap (λ (k : ℕ). last_digits k n) (sym (ap length (shown_more n h) ∙ length-append (shown (n / 10)) (last_digit n ∷ []) ∙ add-one (length (shown (n / 10)))))

-- ---- what is written reads back
pub reads_back : (most n : ℕ) → n ≤ most → n < 2 ^ 32 → read_digits 10 most (shown n) ≡ Some n
unfolding read_digits
reads_back most n h k =
    let long : leb (length (shown n)) 10 ≡ true = le-leb (length (shown n)) 10 (shown_ten n k) in
    let some : leb 1 (length (shown n)) ≡ true = le-leb 1 (length (shown n)) (shown_some n) in
    rw (some, long, shown_digits n, shown_value n, le-leb n most h)

pub reads_back_u32 : (n : ℕ) → Fits w32 n → read_u32 (shown n) ≡ Some n
reads_back_u32 n f = reads_back 4294967295 n (omega (arith, f.fits)) f.fits

-- the first digit is no minus
no_minus : (s : List ℕ) → all_digits s ≡ true → pointwise eqb (take 1 s) (45 ∷ []) ≡ false
no_minus [] e = refl
no_minus (b ∷ s) e = rw (ne_eqb b 45 (λ q. true≢false (sym e ∙ rw q)))

pub reads_back_i32 : (z : ℤ) → SFits w32 z → read_i32 (shown_signed z) ≡ Some z
unfolding read_signed
reads_back_i32 (pos n) f =
    sym (signed_plain 10 (shown n) (no_minus (shown n) (shown_digits n)))
    ∙ ap (option_map pos) (reads_back 2147483647 n (omega (arith, f.sfits)) (omega (arith, f.sfits)))
reads_back_i32 (negsuc n) f = ap (option_map negated) (reads_back 2147483648 (suc n) f.sfits (omega (arith, f.sfits)))

-- ---- by the sign
pub shown_minus : (z : ℤ) → z <ℤ pos 0 → shown_signed z ≡ 45 ∷ shown (nat_abs z)
shown_minus (pos n) h = absurd (omega (arith, lt_nat h))
shown_minus (negsuc n) h = refl

pub shown_plus : (z : ℤ) → pos 0 ≤ℤ z → shown_signed z ≡ shown (nat_abs z)
shown_plus (pos n) h = refl
shown_plus (negsuc n) h = absurd h.le

pub shown_eleven : (z : ℤ) → SFits w32 z → length (shown_signed z) ≤ 11
shown_eleven (pos n) f = omega (arith, shown_ten n (omega (arith, f.sfits)))
shown_eleven (negsuc n) f = omega (arith, shown_ten (suc n) (omega (arith, f.sfits)))

-- ---- how long numbers are with what stands behind them
pub zero_fits : SFits w32 (pos 0)
zero_fits = record { sfits = lit< tt }

pub field_short : (z : ℤ) (stop : ℕ) → SFits w32 z → length (number_field z stop) ≤ 12
field_short z stop f = omega (arith, shown_eleven z f, length-append (shown_signed z) (stop ∷ []))

pub triple_short : (a b c : ℤ) (stop : ℕ) → SFits w32 a → SFits w32 b → SFits w32 c → length (triple a b c stop) ≤ 36
triple_short a b c stop f g h = omega (arith, triple_parts a b c stop, field_short a 9 f, field_short b 9 g, field_short c stop h)

pub numbered_length : (n stop : ℕ) → length (numbered n stop) ≡ length (shown n) + 1
numbered_length n stop = length-append (shown n) (stop ∷ [])

pub numbered_short : (n stop : ℕ) → Fits w32 n → length (numbered n stop) ≤ 11
numbered_short n stop f = omega (arith, numbered_length n stop, shown_ten n f.fits)

pub numbered_wide : (n stop : ℕ) → Fits w64 n → length (numbered n stop) ≤ 21
numbered_wide n stop f = omega (arith, numbered_length n stop, shown_twenty n f.fits)

pub counted_length : (word : List ℕ) (n : ℕ) → length (counted word n) ≡ length word + length (numbered n 10)
counted_length word n = length-append word (numbered n 10)

pub counted_short : (word : List ℕ) (n : ℕ) → Fits w32 n → length (counted word n) ≤ length word + 11
counted_short word n f = omega (arith, counted_length word n, numbered_short n 10 f)
