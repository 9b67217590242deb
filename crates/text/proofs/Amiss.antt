-- Laws of what is wrong with a line: how many fields it has and which is no number, counted field by field. Assumes nothing.
use mathlib.Core.Path.{◌≡◌, refl, ap, ◌∙◌}
use mathlib.Core.Bool.{Bool, true, false, cond}
use mathlib.Core.List.{List, [], ◌∷◌}
use Prim.Native.Nat.{ℕ, suc, ◌+◌, ◌≤◌, ◌<◌}
use native.Mathlib.Omega.{arith}
use lib.Dec.{eqb}
use lib.ListN.{length, take}
use borrow.Author.Tests.{le-leb, lt-leb, eq-eqb, ne_eqb}
use Rattle.std.specs.Prelude.{filter}
use Rattle.std.specs.Option.{is_some}
use Rattle.std.specs.List.{onto_first, slice_split, prefix_len}
use Rattle.text.specs.Read.{read_i32}
use Rattle.text.specs.Fields.{until, on_first, fields, first_bad, bad_field}
use Rattle.text.proofs.Parting.{fields_from, first_field}

-- ---- there is a field more than there are tabs
pub tabs_and_one : (s : List ℕ) → length (filter (λ b. eqb b 9) s) + 1 ≡ length (fields s)
tabs_and_one [] = refl
tabs_and_one (b ∷ s) = by (eqb b 9) (fields s) (tabs_and_one s) (ap length (first_field s))
  where
    by : (t : Bool) (fs : List (List ℕ)) → length (filter (λ b. eqb b 9) s) + 1 ≡ length fs → length fs ≡ suc (length (fields_from s (until 9 s + 1)))
        → length (cond t (b ∷ filter (λ b. eqb b 9) s) (filter (λ b. eqb b 9) s)) + 1 ≡ length (cond t ([] ∷ fs) (on_first b fs))
    by true fs h k = omega arith
    by false [] h k = omega arith
    by false (f ∷ fs) h k = omega arith

-- ---- the fields are the parts that `split` gives, and those in front that are numbers stand before the first that is none
pub parts_are : (s : List ℕ) → slice_split (λ b. eqb b 9) s ≡ fields s
parts_are [] = refl
parts_are (b ∷ s) =
    ap (λ (fs : List (List ℕ)). cond (eqb b 9) ([] ∷ fs) (onto_first b fs)) (parts_are s) ∙ ap (λ (fs : List (List ℕ)). cond (eqb b 9) ([] ∷ fields s) fs) (same (fields s))
  where
    same : (fs : List (List ℕ)) → onto_first b fs ≡ on_first b fs
    same [] = refl
    same (f ∷ fs) = refl

abbrev pub is_number : List ℕ → Bool
is_number f = is_some (read_i32 f)

pub behind_numbers : (fs : List (List ℕ)) → length (take (prefix_len is_number fs) fs) + 1 ≡ first_bad fs
behind_numbers [] = refl
behind_numbers (f ∷ fs) = by (is_number f) (behind_numbers fs)
  where
    by : (t : Bool) → length (take (prefix_len is_number fs) fs) + 1 ≡ first_bad fs
        → length (take (cond t (1 + prefix_len is_number fs) 0) (f ∷ fs)) + 1 ≡ cond t (suc (first_bad fs)) 1
    by true e = let one : 1 + prefix_len is_number fs ≡ suc (prefix_len is_number fs) = omega arith in rw one (omega (arith, e))
    by false e = refl

-- ---- there are at most as many fields as bytes, and one
few_fields : (s : List ℕ) → length (fields s) ≤ length s + 1
few_fields [] = omega arith
few_fields (b ∷ s) = by (eqb b 9) (fields s) (few_fields s)
  where
    by : (t : Bool) (fs : List (List ℕ)) → length fs ≤ length s + 1 → length (cond t ([] ∷ fs) (on_first b fs)) ≤ suc (length s) + 1
    by true fs h = omega arith
    by false [] h = omega arith
    by false (f ∷ fs) h = omega arith

bad_most : (fs : List (List ℕ)) → first_bad fs ≤ length fs + 1
bad_most [] = omega arith
bad_most (f ∷ fs) = by (is_some (read_i32 f)) (bad_most fs)
  where
    by : (t : Bool) → first_bad fs ≤ length fs + 1 → cond t (suc (first_bad fs)) 1 ≤ suc (length fs) + 1
    by true h = omega arith
    by false h = omega arith

-- ---- which answer
module _ (k : ℕ) (line : List ℕ) where
  pub amiss_long : 128 < length line → 0 ≡ bad_field k line
  unfolding bad_field
  amiss_long h = rw (lt-leb (length line) 128 h)

  module _ (h : length line ≤ 128) where
    pub amiss_count : (length (fields line) ≡ k → ⊥) → 0 ≡ bad_field k line
    unfolding bad_field
    amiss_count n = rw (le-leb (length line) 128 h, ne_eqb (length (fields line)) k n)

    pub amiss_field : length (fields line) ≡ k → (first_bad (fields line) ≡ bad_field k line) × (first_bad (fields line) ≤ 130)
    unfolding bad_field
    amiss_field n = (rw (le-leb (length line) 128 h, eq-eqb (length (fields line)) k n), omega (arith, few_fields line, bad_most (fields line)))
