-- Laws of a report: which first line and which rows a line gets, and its rows one after the other. Assumes nothing.
use mathlib.Core.Path.{◌≡◌, refl, sym, ap, ap₂, ◌∙◌}
use mathlib.Core.Bool.{Bool, true, false}
use mathlib.Core.List.{List, [], ◌++◌, append_assoc}
use Prim.Native.Nat.{ℕ, zero, suc, ◌+◌, ◌-◌, ◌≤◌, ◌<◌, min}
use native.Mathlib.Omega.{arith}
use lib.IntN.{ℤ, pos, ◌+ℤ◌}
use lib.ListN.{length, length-append}
use lib.Seq.{sets}
use borrow.Author.Tests.{eq-eqb, ne_eqb}
use Rattle.whole.proofs.Difference.{as_mk, mks, mk_eq}
use Rattle.refusals.specs.declared.Refusal.{Refusal}
use Rattle.refusals.specs.Refusal.{number}
use Rattle.refusals.proofs.Numbers.{some_number}
use Rattle.triangle.specs.declared.RowRange.{RowRange}
use Rattle.triangle.specs.declared.RowRun.{RowRun}
use Rattle.std.specs.Prelude.{Option, Some, None, Result, Ok, Err}
use Rattle.std.specs.Option.{is_some}
use Rattle.text.proofs.Writing.{Wrote, sets_append}
use Rattle.reports.specs.declared.Part.{Part}
use Rattle.text.specs.Words.{bad_line, counted}
use Rattle.readers.specs.declared.figures.Corners.{Corners}
use Rattle.readers.specs.Figures.{corners_or_zero}
use Rattle.reports.specs.Words.{refused, rows}
use Rattle.reports.specs.Spans.{found, rows_of, heading, row_line, row_lines, report, first_part, part_text, next_part, parts}

-- ---- which first line
module _ (ok : Bool) (r : RowRange) where
  pub heading_bad : ok ≡ false → bad_line ≡ heading ok r
  unfolding heading
  heading_bad e = rw e

  pub heading_refused : ok ≡ true → (r.number ≡ 0 → ⊥) → counted refused r.number ≡ heading ok r
  unfolding heading
  heading_refused e n = rw (e, ne_eqb r.number 0 n)

  pub heading_rows : ok ≡ true → r.number ≡ 0 → counted rows r.count ≡ heading ok r
  unfolding heading
  heading_rows e n = rw (e, eq-eqb r.number 0 n)

-- by what was asked for and found
module _ {f : Option (Result RowRun Refusal)} where
  pub none_found : f ≡ None → bad_line ≡ heading (is_some f) (found f)
  none_found e = rw e (heading_bad false (found None) refl)

  pub refusal_found : {r : Refusal} → f ≡ Some (Err r) → counted refused (number r) ≡ heading (is_some f) (found f)
  refusal_found {r} e = rw e (heading_refused true (found (Some (Err r))) refl (some_number r))

  pub rows_found : {r : RowRun} → f ≡ Some (Ok r) → counted rows r.count ≡ heading (is_some f) (found f)
  rows_found {r} e = rw e (heading_rows true (found (Some (Ok r))) refl refl)

-- ---- the first row, and those below it
pub rows_first : (t : Corners) (y : ℤ) (n : ℕ) → 0 < n → row_lines t y n ≡ row_line t y ++ row_lines t (y +ℤ pos 1) (n - 1)
rows_first t y zero h = absurd (omega arith)
rows_first t y (suc n) h = ap (λ (k : ℕ). row_line t y ++ row_lines t (y +ℤ pos 1) k) less
  where
    less : n ≡ suc n - 1
    less = omega arith

pub rows_none : (t : Corners) (y : ℤ) (n : ℕ) → n ≤ 0 → row_lines t y n ≡ []
rows_none t y zero h = refl
rows_none t y (suc n) h = absurd (omega arith)

-- writing one leaves those below it to be written
module _ (t : Corners) (y : ℤ) (n : ℕ) (some : 0 < n) (out mid : List ℕ) (at next : ℕ) (w : Wrote out at (row_line t y) next mid) where
  pub row_goes : (z : ℤ) → z ≡ y +ℤ pos 1
      → (next + length (row_lines t z (n - 1)) ≡ at + length (row_lines t y n)) × (sets mid next (row_lines t z (n - 1)) ≡ sets out at (row_lines t y n))
  row_goes z e = rw (e, rows_first t y n some) (
    omega (arith, w.0, length-append (row_line t y) (row_lines t (y +ℤ pos 1) (n - 1))),
    ap₂ (λ (l : List ℕ) (k : ℕ). sets l k (row_lines t (y +ℤ pos 1) (n - 1))) w.1 w.0 ∙ sym (sets_append out at (row_line t y) (row_lines t (y +ℤ pos 1) (n - 1))),
  )

-- ---- in how many parts the rows are written does not matter
pub rows_append : (t : Corners) (y : ℤ) (m n : ℕ) → row_lines t y (m + n) ≡ row_lines t y m ++ row_lines t (y +ℤ pos m) n
rows_append t y zero n = ap₂ (λ (z : ℤ) (k : ℕ). row_lines t z k) start count
  where
    start : y ≡ y +ℤ pos 0
    start = rw (as_mk y) (simp mks (mk_eq _ _ _ _ (omega arith)))

    count : 0 + n ≡ n
    count = omega arith
rows_append t y (suc m) n =
    ap (row_lines t y) count
    ∙ ap (λ (l : List ℕ). row_line t y ++ l) (rows_append t (y +ℤ pos 1) m n ∙ ap (λ (z : ℤ). row_lines t (y +ℤ pos 1) m ++ row_lines t z n) row)
    ∙ sym (append_assoc (row_line t y) (row_lines t (y +ℤ pos 1) m) (row_lines t (y +ℤ pos (suc m)) n))
  where
    count : suc m + n ≡ suc (m + n)
    count = omega arith

    row : (y +ℤ pos 1) +ℤ pos m ≡ y +ℤ pos (suc m)
    row = rw (as_mk y) (simp mks (mk_eq _ _ _ _ (omega arith)))

-- ---- the report in parts
pub next_part_is : (v : Option Corners) (p : Part) {end n : ℕ} {z : ℤ} → end ≡ 0 + length (part_text v p) → z ≡ p.first +ℤ pos n → n ≡ min p.left 1024
    → ◌≡◌ {A = Part} (record { end = end; first = z; left = p.left - n }) (next_part v p)
next_part_is v p {end} {n} {z} f g e = λ i. record { end = size i; first = row i; left = p.left - e i }
  where
    size : end ≡ length (part_text v p)
    size = omega (arith, f)

    row : z ≡ p.first +ℤ pos (min p.left 1024)
    row = g ∙ ap (λ (k : ℕ). p.first +ℤ pos k) e

-- a part, and what is behind it
pub part_goes : (v : Option Corners) (p : Part) → row_lines (corners_or_zero v) p.first p.left ≡ part_text v p ++ row_lines (corners_or_zero v) (next_part v p).first (next_part v p).left
part_goes v p = ap (row_lines (corners_or_zero v) p.first) count ∙ rows_append (corners_or_zero v) p.first (min p.left 1024) (p.left - min p.left 1024)
  where
    count : p.left ≡ min p.left 1024 + (p.left - min p.left 1024)
    count = omega arith

-- as many parts as there are rows are enough
pub parts_are : (v : Option Corners) (n : ℕ) (p : Part) → p.left ≤ n → parts v n p ≡ row_lines (corners_or_zero v) p.first p.left
parts_are v zero p h = sym (rows_none (corners_or_zero v) p.first p.left h)
parts_are v (suc n) p h = ap (λ (l : List ℕ). part_text v p ++ l) (parts_are v n (next_part v p) (omega arith)) ∙ sym (part_goes v p)

pub all_parts : (v : Option Corners) → heading (is_some v) (rows_of v) ++ parts v (rows_of v).count (first_part v) ≡ report v
all_parts v = ap (λ (l : List ℕ). heading (is_some v) (rows_of v) ++ l) (parts_are v (rows_of v).count (first_part v) (omega arith))
