-- Laws of parting a text: where a part ends, the fields of a line one after the other, and going through them place by place. Assumes nothing.
use mathlib.Core.Path.{◌≡◌, refl, sym, ap, ◌∙◌}
use mathlib.Core.Bool.{Bool, true, false, cond}
use mathlib.Core.List.{List, [], ◌∷◌}
use Prim.Native.Nat.{ℕ, suc, ◌+◌, ◌-◌, ◌≤◌, ◌<◌}
use native.Mathlib.Nat.{le_of_lt}
use native.Mathlib.Omega.{arith}
use lib.Dec.{leb, eqb, leb-suc-suc}
use lib.ListN.{length, take, drop, length-drop, drop_of_length-le}
use lib.Seq.{take_all, drop-drop}
use borrow.Author.Tests.{eq-eqb, ne_eqb, le-leb, lt-leb, leb-true, leb-false}
use Rattle.text.specs.Fields.{until, on_first, fields, field_at, field_end}

-- ---- where the first `stop` stands
pub until_within : (stop : ℕ) (s : List ℕ) → until stop s ≤ length s
until_within stop [] = omega arith
until_within stop (b ∷ s) = at (eqb b stop) (until_within stop s)
  where
    at : (t : Bool) → until stop s ≤ length s → cond t 0 (suc (until stop s)) ≤ suc (length s)
    at true h = omega arith
    at false h = omega arith

pub until_here : (stop b : ℕ) (s : List ℕ) → b ≡ stop → until stop (b ∷ s) ≡ 0
until_here stop b s e = rw (eq-eqb b stop e)

pub until_on : (stop b : ℕ) (s : List ℕ) → (b ≡ stop → ⊥) → until stop (b ∷ s) ≡ until stop s + 1
until_on stop b s n = rw (ne_eqb b stop n) (omega arith)

-- ---- the fields that start at a place and behind it
abbrev pub fields_from : List ℕ → ℕ → List (List ℕ)
fields_from line at = cond (leb at (length line)) (fields (drop at line)) []

pub from_start : (line : List ℕ) → fields_from line 0 ≡ fields line
from_start line = rw (le-leb 0 (length line) (omega arith))

pub from_past : (line : List ℕ) (at : ℕ) → length line < at → fields_from line at ≡ []
from_past line at h = rw (lt-leb at (length line) h)

from_suc : (b : ℕ) (s : List ℕ) (k : ℕ) → fields_from (b ∷ s) (suc k) ≡ fields_from s k
from_suc b s k = ap (λ (t : Bool). cond t (fields (drop k s)) []) (leb-suc-suc k (length s))

-- the first field, and those behind its tab
pub first_field : (s : List ℕ) → fields s ≡ take (until 9 s) s ∷ fields_from s (until 9 s + 1)
first_field [] = refl
first_field (b ∷ s) = at (eqb b 9) refl (first_field s)
  where
    at : (t : Bool) → eqb b 9 ≡ t → fields s ≡ take (until 9 s) s ∷ fields_from s (until 9 s + 1)
        → fields (b ∷ s) ≡ take (until 9 (b ∷ s)) (b ∷ s) ∷ fields_from (b ∷ s) (until 9 (b ∷ s) + 1)
    at true e h = rw e (ap (λ (fs : List (List ℕ)). [] ∷ fs) (sym (from_suc b s 0 ∙ from_start s)))
    at false e h =
        rw e (ap (on_first b) h ∙ ap (λ (fs : List (List ℕ)). (b ∷ take (until 9 s) s) ∷ fs)
        (sym (ap (fields_from (b ∷ s)) (more (until 9 s)) ∙ from_suc b s (until 9 s + 1))))
      where
        more : (u : ℕ) → suc u + 1 ≡ suc (u + 1)
        more u = omega arith

from_drop : (line : List ℕ) (at k : ℕ) → at ≤ length line → fields_from (drop at line) k ≡ fields_from line (at + k)
from_drop line at k h = by (leb (at + k) (length line)) refl
  where
    by : (t : Bool) → leb (at + k) (length line) ≡ t → fields_from (drop at line) k ≡ fields_from line (at + k)
    by true e = rw (e, le-leb k (length (drop at line)) (omega (arith, leb-true (at + k) (length line) e, length-drop at line)), drop-drop)
    by false e = rw (e, lt-leb k (length (drop at line)) (omega (arith, leb-false (at + k) (length line) e, length-drop at line)))

pub from_field : (line : List ℕ) (at : ℕ) → at ≤ length line → fields_from line at ≡ field_at line at ∷ fields_from line (field_end line at + 1)
from_field line at h =
    rw (le-leb at (length line) h)
    (first_field (drop at line) ∙ ap (λ (fs : List (List ℕ)). field_at line at ∷ fs) (from_drop line at (until 9 (drop at line) + 1) h ∙ ap (fields_from line) (omega arith)))

pub part_end_within : (stop : ℕ) (s : List ℕ) (at : ℕ) → at ≤ length s → at + until stop (drop at s) ≤ length s
part_end_within stop s at h = omega (arith, until_within stop (drop at s), length-drop at s)

-- a field, found in the rest of the line that the code lends
pub field_found : (line rest : List ℕ) (at end : ℕ) → at ≤ length line → rest ≡ take (length line - at) (drop at line) → end ≡ until 9 rest
    → (at + end ≤ length line) × (take end rest ≡ field_at line at) × (at + end ≡ field_end line at)
field_found line rest at end h e q =
    let r : rest ≡ drop at line = e ∙ take_all (length line - at) (drop at line) (omega (arith, length-drop at line)) in
    rw (q, r) (part_end_within 9 line at h, refl, refl)

-- behind the line there is no field
pub no_field : (line : List ℕ) (at : ℕ) → length line < at → field_at line at ≡ []
no_field line at h = rw (drop_of_length-le line (le_of_lt h))
