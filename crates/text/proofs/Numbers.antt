-- Laws of reading numbers field by field: what is found at a place, and lines of signed numbers. Assumes nothing.
use mathlib.Core.Path.{◌≡◌, refl, ap, ◌∙◌}
use mathlib.Core.Bool.{Bool, true, false, cond}
use mathlib.Core.List.{List, [], ◌∷◌, ◌++◌, append_assoc, append-nil}
use Prim.Native.Nat.{ℕ, zero, suc, ◌+◌, ◌-◌, ◌≤◌, ◌<◌}
use native.Mathlib.Numerals.{add-one}
use native.Mathlib.Omega.{arith}
use lib.Dec.{leb, eqb, eqb-suc-suc}
use lib.IntN.{ℤ}
use lib.ListN.{length, take, drop, set, length-drop}
use lib.Seq.{take_all, take-suc-set}
use borrow.Author.Tests.{eq-eqb, ne_eqb, leb-true, leb-false}
use mir.Syntax.{w32}
use mir.Val.{to_z, of_z}
use mir.Facts.{to_z-of_z}
use Rattle.std.specs.Prelude.{Option, Some, None, option_map, option_and_then}
use Rattle.std.proofs.lemmas.Option.{some_pair_parts}
use Rattle.std.specs.Bool.{then_some}
use Rattle.text.specs.Read.{read_digits, read_u32, read_signed, read_i32}
use Rattle.text.specs.Fields.{fields, field_at, field_end, next_by, next_u32, next_i32, numbers, read_numbers}
use Rattle.text.proofs.Reading.{i32_fits}
use Rattle.text.proofs.Parting.{fields_from, from_start, from_field, from_past, no_field, part_end_within}

-- ---- the rest of a line, as the code lends it
pub rest_is : (line : List ℕ) (at : ℕ) → take (length line - at) (drop at line) ≡ drop at line
rest_is line at = take_all (length line - at) (drop at line) (omega (arith, length-drop at line))

-- ---- what is read at a place
module _ {A : Type 0} (read : List ℕ → Option A) (line : List ℕ) (at : ℕ) {field : List ℕ} (f : field ≡ field_at line at) where
  pub next_none : None ≡ read field → None ≡ next_by read line at
  next_none e = rw (← f, ← e)

  pub next_some : {v : A} {next : ℕ} → next ≡ field_end line at + 1 → Some v ≡ read field → Some (v, next) ≡ next_by read line at
  next_some n e = rw (← f, ← e, n)

-- a number that the code keeps reads back
pub read_back : (line : List ℕ) (at : ℕ) (z : ℤ) (next : ℕ) → next_i32 line at ≡ Some (z, next) → to_z w32 (of_z w32 z) ≡ z
unfolding next_i32
read_back line at z next e = by (read_i32 (field_at line at)) refl e
  where
    by : (r : Option ℤ) → read_i32 (field_at line at) ≡ r → option_map {U = ℤ × ℕ} (λ v. (v, field_end line at + 1)) r ≡ Some (z, next) → to_z w32 (of_z w32 z) ≡ z
    by None q e = cc
    by (Some v) q e = to_z-of_z (i32_fits (field_at line at) z (q ∙ ap Some (some_pair_parts v z (field_end line at + 1) next e).0))

-- ---- nothing is no number, so behind a line there is none
pub u32_empty : read_u32 [] ≡ None
unfolding read_digits
u32_empty = refl

pub i32_empty : read_i32 [] ≡ None
unfolding read_signed
i32_empty = refl

module _ (line : List ℕ) (at : ℕ) (h : length line < at) where
  pub u32_past : None ≡ next_u32 line at
  unfolding next_u32
  u32_past = rw (no_field line at h, u32_empty)

  pub i32_past : None ≡ next_i32 line at
  unfolding next_i32
  i32_past = rw (no_field line at h, i32_empty)

-- ---- k numbers one after the other from a place on, and the place behind them
abbrev pub next_numbers : ℕ → List ℕ → ℕ → Option (List ℤ × ℕ)
next_numbers zero line at = Some ([], at)
next_numbers (suc k) line at = option_and_then (λ n. option_map (λ ns. (n.0 ∷ ns.0, ns.1)) (next_numbers k line n.1)) (next_i32 line at)

-- they are the line, if it ends there
abbrev pub all_read : List ℕ → Option (List ℤ × ℕ) → Option (List ℤ)
all_read line r = option_and_then (λ ns. then_some (eqb ns.1 (length line + 1)) ns.0) r

first_more : (line : List ℕ) (z : ℤ) (r : Option (List ℤ × ℕ)) → all_read line (option_map (λ ns. (z ∷ ns.0, ns.1)) r) ≡ option_map (λ zs. z ∷ zs) (all_read line r)
first_more line z None = refl
first_more line z (Some ns) = by (eqb ns.1 (length line + 1))
  where
    by : (t : Bool) → then_some t (z ∷ ns.0) ≡ option_map (λ zs. z ∷ zs) (then_some t ns.0)
    by true = refl
    by false = refl

one_more : (z : ℤ) (k : ℕ) (fs : List (List ℕ)) → option_map (λ zs. z ∷ zs) (read_numbers k fs) ≡ cond (eqb (length fs) k) (option_map (λ zs. z ∷ zs) (numbers fs)) None
unfolding read_numbers
one_more z k fs = by (eqb (length fs) k)
  where
    by : (t : Bool) → option_map (λ zs. z ∷ zs) (cond t (numbers fs) None) ≡ cond t (option_map (λ zs. z ∷ zs) (numbers fs)) None
    by true = refl
    by false = refl

from_place : (k : ℕ) (line : List ℕ) (at : ℕ) → at ≤ length line + 1 → all_read line (next_numbers k line at) ≡ read_numbers k (fields_from line at)
unfolding read_numbers next_i32
from_place zero line at h = by (leb at (length line)) refl
  where
    by : (t : Bool) → leb at (length line) ≡ t → then_some (eqb at (length line + 1)) [] ≡ read_numbers 0 (fields_from line at)
    by true e =
        rw (
          ne_eqb at (length line + 1) (λ q. omega (arith, leb-true at (length line) e)),
          from_field line at (leb-true at (length line) e),
          ne_eqb (suc (length (fields_from line (field_end line at + 1)))) 0 (λ q. omega arith),
        )
    by false e = rw (eq-eqb at (length line + 1) (omega (arith, leb-false at (length line) e)), from_past line at (leb-false at (length line) e))
from_place (suc k) line at h = by (leb at (length line)) refl (from_place k line (field_end line at + 1))
  where
    rest : List (List ℕ)
    rest = fields_from line (field_end line at + 1)

    found : (r : Option ℤ) → all_read line (next_numbers k line (field_end line at + 1)) ≡ read_numbers k rest
        → all_read line (option_and_then {T = ℤ × ℕ} (λ n. option_map (λ ns. (n.0 ∷ ns.0, ns.1)) (next_numbers k line n.1)) (option_map (λ v. (v, field_end line at + 1)) r))
        ≡ cond (eqb (length rest) k) (option_and_then (λ z. option_map (λ zs. z ∷ zs) (numbers rest)) r) None
    found None q = none (eqb (length rest) k)
      where
        none : (t : Bool) → ◌≡◌ {A = Option (List ℤ)} None (cond t None None)
        none true = refl
        none false = refl
    found (Some z) q = first_more line z (next_numbers k line (field_end line at + 1)) ∙ ap (option_map (λ zs. z ∷ zs)) q ∙ one_more z k rest

    by : (t : Bool) → leb at (length line) ≡ t
        → (field_end line at + 1 ≤ length line + 1 → all_read line (next_numbers k line (field_end line at + 1)) ≡ read_numbers k rest)
        → all_read line (next_numbers (suc k) line at) ≡ read_numbers (suc k) (fields_from line at)
    by true e q =
        let l : at ≤ length line = leb-true at (length line) e in
        rw (from_field line at l, eqb-suc-suc) (found (read_i32 (field_at line at)) (q (omega (arith, part_end_within 9 line at l))))
    by false e q =
        let l : length line < at = leb-false at (length line) e in
        rw (no_field line at l, i32_empty, from_past line at l, ne_eqb 0 (suc k) (λ q. omega arith))

pub all_read_lem : (k : ℕ) (line : List ℕ) → all_read line (next_numbers k line 0) ≡ read_numbers k (fields line)
all_read_lem k line = from_place k line 0 (omega arith) ∙ ap (read_numbers k) (from_start line)

-- ---- a turn at a number, the i-th of those that are kept
abbrev pub behind : List ℤ → Option (List ℤ × ℕ) → Option (List ℤ × ℕ)
behind zs r = option_map (λ ns. (zs ++ ns.0, ns.1)) r

-- the next is none
pub none_turn : (line : List ℕ) (zs : List ℤ) (i at k : ℕ) → i < k → next_i32 line at ≡ None → None ≡ behind (take i zs) (next_numbers (k - i) line at)
none_turn line zs i at k h e = left (k - i) refl
  where
    left : (n : ℕ) → k - i ≡ n → None ≡ behind (take i zs) (next_numbers n line at)
    left zero q = absurd (omega arith)
    left (suc n) q = rw e

-- the next is z, as the code keeps it
pub number_turn : (line : List ℕ) (zs : List ℤ) (i at k next : ℕ) (z : ℤ) → i < k → i < length zs → next_i32 line at ≡ Some (z, next)
    → behind (take (i + 1) (set zs i (to_z w32 (of_z w32 z)))) (next_numbers (k - (i + 1)) line next) ≡ behind (take i zs) (next_numbers (k - i) line at)
number_turn line zs i at k next z h w e = left (k - (i + 1)) refl
  where
    by : (r : Option (List ℤ × ℕ)) → behind (take i zs ++ (z ∷ [])) r ≡ behind (take i zs) (option_map (λ ns. (z ∷ ns.0, ns.1)) r)
    by None = refl
    by (Some ns) = ap (λ (l : List ℤ). Some (l, ns.1)) (append_assoc (take i zs) (z ∷ []) ns.0)

    left : (n : ℕ) → k - (i + 1) ≡ n → behind (take (i + 1) (set zs i (to_z w32 (of_z w32 z)))) (next_numbers n line next) ≡ behind (take i zs) (next_numbers (k - i) line at)
    left n q =
        let m : k - i ≡ suc n = omega arith in
        rw (m, e, read_back line at z next e, add-one, take-suc-set zs i z w) (by (next_numbers n line next))

-- none are left
pub last_turn : (line : List ℕ) (zs : List ℤ) (i at k : ℕ) → k ≤ i → length zs ≤ i → Some (zs, at) ≡ behind (take i zs) (next_numbers (k - i) line at)
last_turn line zs i at k h w =
    let m : k - i ≡ 0 = omega arith in
    rw (m, take_all i zs w, append-nil zs)
