-- A number has one decimal text without leading zeros, at every size, and the library writes it. Assumes nothing.
use mathlib.Core.Path.{◌≡◌, refl, sym, ap, ap₂, subst, ◌∙◌}
use mathlib.Core.Bool.{true}
use mathlib.Core.List.{List, [], ◌∷◌}
use mathlib.Core.Logic.{◌⊎◌, inl, inr, ⊎_elim}
use Prim.Native.Nat.{ℕ, zero, suc, ◌+◌, ◌*◌, ◌-◌, ◌/◌, ◌%◌, ◌^◌, ◌≤◌, ◌<◌}
use native.Mathlib.Nat.{pow-succ', pow-le-pow_right, mul-le-mul_right, mul-add-div_right, mul-add-mod_self_right, div-eq_of_lt, mod-eq_of_lt}
use native.Mathlib.Omega.{arith}
use lib.ListN.{length, get_or, get_or-append}
use Rattle.whole.proofs.Decides.{Decides, decides_and, decides_leb, decides_yes}
use Rattle.whole.proofs.Tests.{lt_or_ge, and_true, true_and}
use Rattle.text.specs.Digits.{is_digit, all_digits, with_digit, value_from, digits_value}
use Rattle.text.specs.Show.{last_digit, shown}
use Rattle.text.proofs.Showing.{by_digits, shown_one, shown_more, shown_digits, shown_value, shown_some}
use Rattle.mission.specs.Files.{Each, none, more, Digit, meaning, Decimal}

-- ---- digits, and what they mean
digit_decides : (b : ℕ) → Decides (is_digit b) (Digit b)
digit_decides b = decides_and _ _ (decides_leb 48 b) (decides_leb b 57)

pub each_digit : (s : List ℕ) → all_digits s ≡ true → Each Digit s
each_digit [] e = none
each_digit (b ∷ s) e = let p = and_true (is_digit b) (all_digits s) e in more ((digit_decides b).yes p.0) (each_digit s p.1)

pub digit_each : {s : List ℕ} → Each Digit s → all_digits s ≡ true
digit_each none = refl
digit_each (more {b} {s} p q) = true_and (decides_yes (digit_decides b) p) (digit_each q)

meaning_from : (v : ℕ) (s : List ℕ) → value_from v s ≡ v * 10 ^ length s + meaning s
meaning_from v [] = let h : v ≡ v * 1 + 0 = omega arith in h
meaning_from v (b ∷ s) = meaning_from (with_digit v b) s ∙ omega (arith, ap (λ (p : ℕ). v * p) (pow-succ' 10 (length s)))

pub meaning_is : (s : List ℕ) → digits_value s ≡ meaning s
meaning_is s = meaning_from 0 s ∙ omega arith

-- ---- there is one text
meaning_below : {s : List ℕ} → Each Digit s → meaning s < 10 ^ length s
meaning_below none = omega arith
meaning_below (more {b} {s} d e) = below b (meaning s) (length s) d (meaning_below e)
  where
    below : (b m n : ℕ) → Digit b → m < 10 ^ n → (b - 48) * 10 ^ n + m < 10 ^ suc n
    below b m n d l = omega (arith, pow-succ' 10 n, top (b - 48) (10 ^ n) (omega (arith, d.0, d.1)))
      where
        top : (c p : ℕ) → c ≤ 9 → c * p ≤ 9 * p
        top c p h = mul-le-mul_right p h

-- a first digit and the rest of a number's digits are its quotient and its remainder
parted : (x y p m n : ℕ) → m < p → n < p → x * p + m ≡ y * p + n → (x ≡ y) × (m ≡ n)
parted x y p m n hm hn e = (sym (quotient x m hm) ∙ ap (λ (k : ℕ). k / p) e ∙ quotient y n hn, sym (remainder x m hm) ∙ ap (λ (k : ℕ). k % p) e ∙ remainder y n hn)
  where
    quotient : (x m : ℕ) → m < p → (x * p + m) / p ≡ x
    quotient x m h = mul-add-div_right (omega arith) x m ∙ ap (λ (k : ℕ). x + k) (div-eq_of_lt h) ∙ omega arith

    remainder : (x m : ℕ) → m < p → (x * p + m) % p ≡ m
    remainder x m h = mul-add-mod_self_right x p m ∙ mod-eq_of_lt h

same_text : {s t : List ℕ} → Each Digit s → Each Digit t → length s ≡ length t → meaning s ≡ meaning t → s ≡ t
same_text none none l e = refl
same_text none (more d q) l e = absurd (omega (arith, l))
same_text (more d q) none l e = absurd (omega (arith, l))
same_text (more {b = b} {s = s} d q) (more {b = c} {s = t} f r) l e =
    let long : length s ≡ length t = omega (arith, l) in
    let below : meaning t < 10 ^ length s = subst (λ (n : ℕ). meaning t < 10 ^ n) (sym long) (meaning_below r) in
    let p = parted (b - 48) (c - 48) (10 ^ length s) (meaning s) (meaning t) (meaning_below q) below (e ∙ ap (λ (n : ℕ). (c - 48) * 10 ^ n + meaning t) (sym long)) in
    ap₂ (λ (x : ℕ) (y : List ℕ). x ∷ y) (omega (arith, p.0, d.0, f.0)) (same_text q r long p.1)

meaning_least : {s : List ℕ} (n : ℕ) → length s ≡ suc n → Each Digit s → (get_or s 0 0 ≡ 48 → ⊥) → 10 ^ n ≤ meaning s
meaning_least n l none plain = absurd (omega (arith, l))
meaning_least n l (more {b} {s} d e) plain =
    let long : length s ≡ n = omega (arith, l) in
    let first : 1 ≤ b - 48 = apart b d.0 plain in
    let top : 1 * 10 ^ length s ≤ (b - 48) * 10 ^ length s = mul-le-mul_right (10 ^ length s) first in
    subst (λ (k : ℕ). 10 ^ k ≤ (b - 48) * 10 ^ length s + meaning s) long (omega (arith, top))
  where
    apart : (b : ℕ) → 48 ≤ b → (b ≡ 48 → ⊥) → 1 ≤ b - 48
    apart b h k = ⊎_elim (λ e. absurd (k e)) (λ l. omega (arith, l)) (eq_or b h)
      where
        eq_or : (b : ℕ) → 48 ≤ b → (b ≡ 48) ⊎ (48 < b)
        eq_or b h = ⊎_elim (λ l. inl (omega (arith, l, h))) inr (swap (lt_or_ge 48 b))
          where
            swap : (48 < b) ⊎ (b ≤ 48) → (b ≤ 48) ⊎ (48 < b)
            swap (inl l) = inr l
            swap (inr l) = inl l

not_longer : {n : ℕ} {s t : List ℕ} → Decimal n s → Decimal n t → length t ≤ length s
not_longer {n} {s} {t} S T = ⊎_elim (λ l. absurd (no (length t) l refl)) (λ l. l) (lt_or_ge (length s) (length t))
  where
    no : (k : ℕ) → length s < k → length t ≡ k → ⊥
    no zero l e = omega arith
    no (suc k) l e =
        let low = meaning_least k e T.digits (T.plain (omega (arith, S.some))) in
        let up : 10 ^ length s ≤ 10 ^ k = pow-le-pow_right (omega arith) (omega (arith, l)) in
        omega (arith, meaning_below S.digits, S.means, T.means)

pub one_decimal : {n : ℕ} {s t : List ℕ} → Decimal n s → Decimal n t → s ≡ t
one_decimal S T = same_text S.digits T.digits (omega (arith, not_longer S T, not_longer T S)) (S.means ∙ sym T.means)

-- ---- THE LIBRARY WRITES IT
no_zero : (n : ℕ) → 1 ≤ n → get_or (shown n) 0 0 ≡ 48 → ⊥
no_zero n = by_digits (λ (n : ℕ). 1 ≤ n → get_or (shown n) 0 0 ≡ 48 → ⊥) one more n
  where
    one : (n : ℕ) → n < 10 → 1 ≤ n → get_or (shown n) 0 0 ≡ 48 → ⊥
    one n h k e = let z : last_digit n ≡ 48 = sym (ap (λ (s : List ℕ). get_or s 0 0) (shown_one n h)) ∙ e in omega (arith, z)

    more : (n : ℕ) → 10 ≤ n → (1 ≤ n / 10 → get_or (shown (n / 10)) 0 0 ≡ 48 → ⊥) → 1 ≤ n → get_or (shown n) 0 0 ≡ 48 → ⊥
    more n h r k e =
        r (omega arith) (sym (get_or-append (shown (n / 10)) (last_digit n ∷ []) 0 0 (omega (arith, shown_some (n / 10)))) ∙ sym (ap (λ (s : List ℕ). get_or s 0 0) (shown_more n h)) ∙ e)

pub decimal_shown : (n : ℕ) → Decimal n (shown n)
decimal_shown n =
    record {
      digits = each_digit (shown n) (shown_digits n);
      means = sym (meaning_is (shown n)) ∙ shown_value n;
      some = shown_some n;
      plain = λ l. no_zero n (⊎_elim (λ h. absurd (let e : length (shown n) ≡ 1 = ap length (shown_one n h) in omega (arith, l))) (λ h. omega (arith, h)) (lt_or_ge n 10));
    }
