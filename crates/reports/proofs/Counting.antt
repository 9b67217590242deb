-- Laws of the count of `minutes`: a line after the other; that counting line by line, in whatever parts the input comes, is the count of the whole; and how
-- long a line is that is printed of it. Assumes nothing.
use mathlib.Core.Path.{◌≡◌, refl, sym, ap, ◌∙◌}
use mathlib.Core.Bool.{Bool, true, false, cond, not, ◌&&◌}
use mathlib.Core.List.{List, [], ◌∷◌, ◌++◌}
use Prim.Native.Nat.{ℕ, zero, suc, ◌+◌, ◌≤◌, ◌<◌}
use native.Mathlib.Omega.{arith}
use lib.Dec.{leb, ltb}
use lib.ListN.{length, take, length-append, length-take}
use lib.Seq.{take_all}
use borrow.Author.Tests.{leb-true, leb-false}
use mir.Syntax.{w32, w64}
use mir.Val.{Fits}
use Rattle.refusals.specs.declared.Refusal.{Refusal}
use Rattle.refusals.specs.declared.Refusal.TheVariants.{OutOfBounds}
use Rattle.refusals.specs.First.{first}
use Rattle.refusals.specs.Refusal.{number}
use Rattle.refusals.proofs.Numbers.{same_refusal, some_number}
use Rattle.geometry.specs.declared.Point.{Point}
use Rattle.geometry.specs.Bound.{in_bounds}
use Rattle.triangle.specs.Answer.{vertex_tests}
use Rattle.text.specs.Fields.{lines, read_numbers, bad_field}
use Rattle.text.specs.Read.{read_signed}
use Rattle.text.specs.Lines.{first_line, each, over, whole, streamed}
use Rattle.text.specs.Words.{numbered, counted}
use Rattle.text.proofs.Amiss.{amiss_long}
use Rattle.text.proofs.Joining.{too_long_lem}
use Rattle.text.proofs.Showing.{numbered_short, numbered_wide}
use Rattle.text.proofs.Streaming.{first_line_lem, streamed_is}
use Rattle.readers.specs.declared.figures.Corners.{Corners}
use Rattle.readers.specs.Figures.{read_point, read_corners, corners_or_zero}
use Rattle.reports.specs.declared.Samples.{Samples}
use Rattle.reports.specs.declared.Trouble.{Trouble}
use Rattle.reports.specs.declared.Trouble.TheVariants.{Refused, Bad}
use Rattle.reports.specs.declared.Tally.{Tally}
use Rattle.reports.specs.declared.Tally.TheVariants.{Fresh, Begun}
use Rattle.reports.specs.Corners.{first_corners, corners_refusal}
use Rattle.std.specs.Prelude.{Ok, Err, Option, Some, None}
use Rattle.std.specs.Option.{is_some, option_map_or}
use Rattle.reports.specs.Minutes.{Count, overlong, refused_by, bad_at, tally, Few, is_inside, inside_one, with_sample, with_line}
use Rattle.reports.specs.Minutes.{wedge, behind_first, unless, minutes, fresh, count_of, first_count, take_line, pair_line, trouble_line, count_line}
use Rattle.reports.specs.Words.{refused}

-- ---- a line more
module _ (t : Corners) (k : Samples) (line : List ℕ) where
  pub line_good : {p : Point} → Some p ≡ read_point line → with_sample t k p ≡ with_line t (Ok k) line
  unfolding with_line
  line_good g = rw (← g)

  pub line_bad : None ≡ read_point line → bad_at (k.all + 2) (bad_field 2 line) ≡ with_line t (Ok k) line
  unfolding with_line
  line_bad g = rw (← g)

-- a sample counts once, or not at all
pub inside_most : (t : Corners) (p : Point) → inside_one t p ≤ 1
inside_most t p = by (is_inside t p)
  where
    by : (t : Bool) → cond t 1 0 ≤ 1
    by true = omega arith
    by false = omega arith

-- ---- the wedge is refused by the number that its tests answer, and the line says that number
pub refused_number : (t : Corners) → (corners_refusal t ≡ 0 → ⊥) → number OutOfBounds ≡ corners_refusal t
unfolding vertex_tests
refused_number t h = by (not (in_bounds t.a && (in_bounds t.b && in_bounds t.c))) h
  where
    by : (r : Bool) → (first ((5, r) ∷ []) ≡ 0 → ⊥) → number OutOfBounds ≡ first ((5, r) ∷ [])
    by true h = refl
    by false h = absurd (h refl)

-- so a refusal that has the number is that one
pub refused_as : (t : Corners) (k : Count) (r : Refusal) → number r ≡ corners_refusal t → refused_by r ≡ unless (corners_refusal t) k
refused_as t k r e = by (corners_refusal t) e (refused_number t (λ z. some_number r (e ∙ z)))
  where
    by : (n : ℕ) → number r ≡ n → number OutOfBounds ≡ n → refused_by r ≡ unless n k
    by zero e f = absurd (some_number r e)
    by (suc n) e f = ap refused_by (same_refusal (e ∙ sym f))

pub refused_line : (t : Corners) (k : Count) → (corners_refusal t ≡ 0 → ⊥) → count_line (unless (corners_refusal t) k) ≡ counted refused (corners_refusal t)
unfolding count_line trouble_line
refused_line t k h = by (corners_refusal t) h ∙ ap (counted refused) (refused_number t h)
  where
    by : (n : ℕ) → (n ≡ 0 → ⊥) → count_line (unless n k) ≡ counted refused (number OutOfBounds)
    by zero h = absurd (h refl)
    by (suc n) h = refl

-- ---- no more samples are inside than there are
line_few : (t : Corners) (k : Count) (line : List ℕ) → Few k → Few (with_line t k line)
unfolding with_line
line_few t (Err e) line h = tt
line_few t (Ok k) line h = by (read_point line) (ltb k.all 4294967295)
  where
    by : (c : Option Point) (d : Bool)
        → Few (option_map_or (λ p. cond d (tally (k.inside + inside_one t p) (k.all + 1)) overlong) c (bad_at (k.all + 2) (bad_field 2 line)))
    by (Some p) true = omega (arith, inside_most t p)
    by (Some p) false = tt
    by None d = tt

pub take_few : (t : Tally) (line : List ℕ) → Few (count_of t) → Few (count_of (take_line t line))
unfolding take_line
take_few Fresh line h = by (is_some (read_corners line)) (corners_refusal (corners_or_zero (read_corners line)))
  where
    by : (e : Bool) (n : ℕ) → Few (cond e (unless n (tally 0 0)) (bad_at 1 (bad_field 6 line)))
    by true zero = omega arith
    by true (suc n) = tt
    by false n = tt
take_few (Begun t k) line h = line_few t k line h

-- ---- line by line it is the count of the whole
each_taken : (t : Corners) (k : Count) (ls : List (List ℕ)) → count_of (each take_line (Begun t k) ls) ≡ each (with_line t) k ls
unfolding take_line
each_taken t k [] = refl
each_taken t k (l ∷ ls) = each_taken t (with_line t k l) ls

each_settled : (t : Corners) (e : Trouble) (ls : List (List ℕ)) → each (with_line t) (Err e) ls ≡ Err e
unfolding with_line
each_settled t e [] = refl
each_settled t e (l ∷ ls) = each_settled t e ls

pub minutes_is : (s : List ℕ) → count_of (over take_line fresh s) ≡ minutes s
unfolding take_line minutes read_numbers read_signed bad_field
minutes_is [] = refl
minutes_is (b ∷ s) =
    ap (λ (ls : List (List ℕ)). count_of (each take_line fresh ls)) (first_line_lem b s)
    ∙ each_taken (wedge (b ∷ s)) (first_count (first_line (b ∷ s)) (is_some (first_corners (b ∷ s))) (wedge (b ∷ s))) (lines (behind_first (b ∷ s)))
    ∙ by (is_some (first_corners (b ∷ s))) (corners_refusal (wedge (b ∷ s)))
  where
    by : (t : Bool) (n : ℕ)
        → each (with_line (wedge (b ∷ s))) (cond t (unless n (tally 0 0)) (bad_at 1 (bad_field 6 (first_line (b ∷ s))))) (lines (behind_first (b ∷ s)))
        ≡ cond t (unless n (each (with_line (wedge (b ∷ s))) (tally 0 0) (lines (behind_first (b ∷ s))))) (bad_at 1 (bad_field 6 (first_line (b ∷ s))))
    by true zero = refl
    by true (suc n) = each_settled (wedge (b ∷ s)) (Refused OutOfBounds) (lines (behind_first (b ∷ s)))
    by false n = each_settled (wedge (b ∷ s)) (Bad 1 (bad_field 6 (first_line (b ∷ s)))) (lines (behind_first (b ∷ s)))

-- ---- 129 bytes of a line are enough, and so the parts do not matter
long_taken : Tally → Tally
long_taken Fresh = Begun (corners_or_zero None) (bad_at 1 0)
long_taken (Begun t (Ok k)) = Begun t (bad_at (k.all + 2) 0)
long_taken (Begun t (Err e)) = Begun t (Err e)

long_is : (t : Tally) (line : List ℕ) → 128 < length line → take_line t line ≡ long_taken t
unfolding take_line with_line long_taken
long_is Fresh line h = rw (too_long_lem 6 line (omega arith), ← amiss_long 6 line h)
long_is (Begun t (Ok k)) line h = rw (too_long_lem 2 line (omega arith), ← amiss_long 2 line h)
long_is (Begun t (Err e)) line h = refl

pub take_blind : (t : Tally) (line : List ℕ) → take_line t line ≡ take_line t (take 129 line)
take_blind t line = by (leb (length line) 128) refl
  where
    by : (b : Bool) → leb (length line) 128 ≡ b → take_line t line ≡ take_line t (take 129 line)
    by true e = ap (take_line t) (sym (take_all 129 line (omega (arith, leb-true (length line) 128 e))))
    by false e = long_is t line (leb-false (length line) 128 e) ∙ sym (long_is t (take 129 line) (omega (arith, leb-false (length line) 128 e, length-take 129 line)))

pub any_parts : (parts : List (List ℕ)) → count_of (streamed take_line 129 fresh [] parts) ≡ minutes (whole parts)
any_parts parts = ap count_of (streamed_is take_line 128 take_blind fresh [] parts) ∙ minutes_is (whole parts)

-- ---- how long it is
pub pair_length : (word : List ℕ) (a b : ℕ) → length (pair_line word a b) ≡ length word + (length (numbered a 9) + length (numbered b 10))
pair_length word a b = length-append word (numbered a 9 ++ numbered b 10) ∙ ap (λ (n : ℕ). length word + n) (length-append (numbered a 9) (numbered b 10))

pub pair_short : (word : List ℕ) (a b : ℕ) → Fits w64 a → Fits w32 b → length (pair_line word a b) ≤ length word + 32
pair_short word a b f g = omega (arith, pair_length word a b, numbered_wide a 9 f, numbered_short b 10 g)
