-- Laws of fields put together: parting and joining undo each other, and a line is as long as its fields. Assumes nothing.
use mathlib.Core.Path.{◌≡◌, refl, sym, ap, ◌∙◌}
use mathlib.Core.Bool.{Bool, true, false, cond, ◌&&◌}
use mathlib.Core.List.{List, [], ◌∷◌, ◌++◌}
use Prim.Native.Nat.{ℕ, zero, suc, ◌+◌, ◌*◌, ◌≤◌, ◌<◌, min}
use native.Mathlib.Omega.{arith}
use lib.Dec.{leb, eqb}
use lib.IntN.{ℤ, pos}
use lib.ListN.{length, take, length-take}
use lib.Seq.{take-take}
use borrow.Author.Tests.{leb-true, leb-false, eqb-true}
use Rattle.text.specs.Digits.{all_digits, digits_value}
use Rattle.std.specs.Prelude.{Option, Some, None, option_map, option_and_then}
use Rattle.std.specs.Bool.{then_some}
use Rattle.text.specs.Read.{negated, read_digits, read_signed, read_i32}
use Rattle.text.specs.Fields.{until, on_first, fields, joined_behind, joined, numbers, read_numbers}
use Rattle.text.specs.Lines.{first_line}
use Rattle.text.proofs.Parting.{fields_from, first_field, until_within}

-- ---- joining what was parted
behind_more : (b : ℕ) (f : List ℕ) (fs : List (List ℕ)) → joined_behind (b ∷ f) fs ≡ b ∷ joined_behind f fs
behind_more b f [] = refl
behind_more b f (g ∷ fs) = refl

pub joined_fields : (s : List ℕ) → joined (fields s) ≡ s
joined_fields [] = refl
joined_fields (b ∷ s) = at (eqb b 9) refl (fields s) (first_field s) (joined_fields s)
  where
    at : (t : Bool) → eqb b 9 ≡ t → (fs : List (List ℕ)) → fs ≡ take (until 9 s) s ∷ fields_from s (until 9 s + 1) → joined fs ≡ s
        → joined (cond (eqb b 9) ([] ∷ fs) (on_first b fs)) ≡ b ∷ s
    at true e fs p h =
        rw (e, p) (ap (λ (l : List ℕ). 9 ∷ l) (ap joined (sym p) ∙ h) ∙ ap (λ (x : ℕ). x ∷ s) (sym (eqb-true b 9 e)))
    at false e fs p h =
        rw (e, p) (behind_more b (take (until 9 s) s) (fields_from s (until 9 s + 1)) ∙ ap (λ (l : List ℕ). b ∷ l) (ap joined (sym p) ∙ h))

-- ---- parting what was joined, of fields without a tab
pub record Free (f : List ℕ) : Type 0 where
  pub free : until 9 f ≡ length f

abbrev pub AllFree : List (List ℕ) → Type 0
AllFree [] = Unit {0}
AllFree (f ∷ fs) = Free f × AllFree fs

one_less : (b : ℕ) (f : List ℕ) → until 9 (b ∷ f) ≡ suc (length f) → (eqb b 9 ≡ false) × (until 9 f ≡ length f)
one_less b f e = at (eqb b 9) refl e
  where
    at : (t : Bool) → eqb b 9 ≡ t → cond t 0 (suc (until 9 f)) ≡ suc (length f) → (eqb b 9 ≡ false) × (until 9 f ≡ length f)
    at true q e = absurd (omega arith)
    at false q e = (q, omega arith)

fields_one : (f : List ℕ) → until 9 f ≡ length f → fields f ≡ f ∷ []
fields_one [] e = refl
fields_one (b ∷ f) e =
    let h = one_less b f e in
    rw h.0 (ap (on_first b) (fields_one f h.1))

fields_more : (f t : List ℕ) → until 9 f ≡ length f → fields (f ++ (9 ∷ t)) ≡ f ∷ fields t
fields_more [] t e = refl
fields_more (b ∷ f) t e =
    let h = one_less b f e in
    rw h.0 (ap (on_first b) (fields_more f t h.1))

pub fields_joined : (f : List ℕ) (fs : List (List ℕ)) → AllFree (f ∷ fs) → fields (joined (f ∷ fs)) ≡ f ∷ fs
fields_joined f [] h = fields_one f h.0.free
fields_joined f (g ∷ fs) h = fields_more f (joined_behind g fs) h.0.free ∙ ap (λ (l : List (List ℕ)). f ∷ l) (fields_joined g fs h.1)

-- ---- a line has a byte more for each field but the last
abbrev total : List (List ℕ) → ℕ
total [] = 0
total (f ∷ fs) = length f + 1 + total fs

line_total : (s : List ℕ) → total (fields s) ≡ length s + 1
line_total [] = refl
line_total (b ∷ s) = at (eqb b 9) refl (fields s) (first_field s) (line_total s)
  where
    at : (t : Bool) → eqb b 9 ≡ t → (fs : List (List ℕ)) → fs ≡ take (until 9 s) s ∷ fields_from s (until 9 s + 1) → total fs ≡ length s + 1
        → total (cond (eqb b 9) ([] ∷ fs) (on_first b fs)) ≡ suc (length s) + 1
    at true e fs p h = rw e (omega arith)
    at false e fs p h = rw (e, p) (omega (arith, ap total (sym p) ∙ h))

-- ---- a line of k numbers has at most 12 bytes for each, less one
digits_short : (most : ℕ) (s : List ℕ) (n : ℕ) → read_digits 10 most s ≡ Some n → length s ≤ 10
unfolding read_digits
digits_short most s n e = by (leb 1 (length s)) (leb (length s) 10) refl e
  where
    by : (a b : Bool) → leb (length s) 10 ≡ b → then_some (a && (b && (all_digits s && leb (digits_value s) most))) (digits_value s) ≡ Some n → length s ≤ 10
    by true true q e = leb-true (length s) 10 q
    by true false q e = cc
    by false b q e = cc

number_short : (s : List ℕ) (z : ℤ) → read_i32 s ≡ Some z → length s ≤ 11
unfolding read_signed
number_short [] z e = omega arith
number_short (b ∷ s) z e = by (eqb b 45) e
  where
    short : (l : List ℕ) (f : ℕ → ℤ) (r : Option ℕ) → ((n : ℕ) → r ≡ Some n → length l ≤ 10) → option_map f r ≡ Some z → length l ≤ 10
    short l f None h e = cc
    short l f (Some n) h e = h n refl

    by : (t : Bool) → cond t (option_map negated (read_digits 10 2147483648 s)) (option_map pos (read_digits 10 2147483647 (b ∷ s))) ≡ Some z → suc (length s) ≤ 11
    by true e = omega (arith, short s negated (read_digits 10 2147483648 s) (digits_short 2147483648 s) e)
    by false e = omega (arith, short (b ∷ s) pos (read_digits 10 2147483647 (b ∷ s)) (digits_short 2147483647 (b ∷ s)) e)

numbers_total : (fs : List (List ℕ)) (zs : List ℤ) → numbers fs ≡ Some zs → total fs ≤ length fs * 12
numbers_total [] zs e = omega arith
numbers_total (f ∷ fs) zs e = by (read_i32 f) (numbers fs) (number_short f) (numbers_total fs) e
  where
    by : (r : Option ℤ) (rs : Option (List ℤ)) → ((z : ℤ) → r ≡ Some z → length f ≤ 11) → ((zs : List ℤ) → rs ≡ Some zs → total fs ≤ length fs * 12)
        → option_and_then (λ z. option_map (λ zs. z ∷ zs) rs) r ≡ Some zs → length f + 1 + total fs ≤ suc (length fs) * 12
    by None rs h k e = cc
    by (Some z) None h k e = cc
    by (Some z) (Some zs) h k e = omega (arith, h z refl, k zs refl)

pub numbers_line : (k : ℕ) (line : List ℕ) (zs : List ℤ) → read_numbers k (fields line) ≡ Some zs → length line + 1 ≤ k * 12
unfolding read_numbers
numbers_line k line zs e = by (eqb (length (fields line)) k) refl e
  where
    by : (t : Bool) → eqb (length (fields line)) k ≡ t → cond t (numbers (fields line)) None ≡ Some zs → length line + 1 ≤ k * 12
    by true q e =
        let n : length (fields line) ≡ k = eqb-true (length (fields line)) k q in
        omega (arith, line_total line, numbers_total (fields line) zs e, ap (λ (m : ℕ). m * 12) n)
    by false q e = cc

-- so a longer one is none
pub too_long_lem : (k : ℕ) (line : List ℕ) → k * 12 ≤ length line → read_numbers k (fields line) ≡ None
too_long_lem k line h = by (read_numbers k (fields line)) (numbers_line k line)
  where
    by : (r : Option (List ℤ)) → ((zs : List ℤ) → r ≡ Some zs → length line + 1 ≤ k * 12) → r ≡ None
    by None q = refl
    by (Some zs) q = absurd (omega (arith, q zs refl))

-- so a line that was cut off behind its 72nd byte says as little as the whole of it
pub first_cut : (n : ℕ) (s : List ℕ) → 72 ≤ n → read_numbers 6 (fields (first_line (take n s))) ≡ read_numbers 6 (fields (first_line s))
first_cut n s h = by (leb (until 10 s) n) refl
  where
    until_cut : (n : ℕ) (s : List ℕ) → until 10 (take n s) ≡ min n (until 10 s)
    until_cut zero s = omega arith
    until_cut (suc n) [] = omega arith
    until_cut (suc n) (b ∷ s) = at (eqb b 10) (until_cut n s)
      where
        at : (t : Bool) → until 10 (take n s) ≡ min n (until 10 s) → cond t 0 (suc (until 10 (take n s))) ≡ min (suc n) (cond t 0 (suc (until 10 s)))
        at true e = omega arith
        at false e = omega arith

    cut : first_line (take n s) ≡ take (min n (until 10 s)) s
    cut = ap (λ (k : ℕ). take k (take n s)) (until_cut n s) ∙ take-take (min n (until 10 s)) n s (omega arith)

    long : (l : List ℕ) → 72 ≤ length l → read_numbers 6 (fields l) ≡ None
    long l k = too_long_lem 6 l (omega arith)

    by : (t : Bool) → leb (until 10 s) n ≡ t → read_numbers 6 (fields (first_line (take n s))) ≡ read_numbers 6 (fields (first_line s))
    by true e =
        let k : min n (until 10 s) ≡ until 10 s = omega (arith, leb-true (until 10 s) n e) in
        ap (λ (l : List ℕ). read_numbers 6 (fields l)) (cut ∙ ap (λ (k : ℕ). take k s) k)
    by false e =
        let u : n < until 10 s = leb-false (until 10 s) n e in
        long (first_line (take n s)) (omega (arith, ap length cut, length-take (min n (until 10 s)) s, until_within 10 s))
        ∙ sym (long (first_line s) (omega (arith, length-take (until 10 s) s, until_within 10 s)))
