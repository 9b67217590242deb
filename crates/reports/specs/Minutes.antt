-- What `minutes` counts: the first line of an input is the wedge, six coordinates, and each further line a sample, a pixel of second and Mbit/s.
-- What goes wrong first is what is said: the wedge's line, its refusal, the first line that is no sample, or a sample past 4,294,967,295.
use Rattle.std.specs.Prelude.{Bool, true, cond, List, ◌++◌, ℕ, zero, suc, ◌+◌, ◌≤◌, ltb, drop, Result, Ok, Err, IfOk, is_ok, Option}
use Rattle.std.specs.Option.{is_some, option_map_or}
use Rattle.refusals.specs.declared.Refusal.{Refusal}
use Rattle.refusals.specs.declared.Refusal.TheVariants.{OutOfBounds}
use Rattle.refusals.specs.Refusal.{number}
use Rattle.geometry.specs.Answer.{verdict}
use Rattle.triangle.specs.Triangle.{contained}
use Rattle.geometry.specs.declared.Point.{Point}
use Rattle.text.specs.Fields.{until, lines, bad_field}
use Rattle.text.specs.Lines.{first_line, each}
use Rattle.text.specs.Words.{numbered, counted}
use Rattle.readers.specs.declared.figures.Corners.{Corners}
use Rattle.readers.specs.Figures.{read_point, read_corners, corners_or_zero}
use Rattle.reports.specs.declared.Samples.{Samples}
use Rattle.reports.specs.declared.Trouble.{Trouble}
use Rattle.reports.specs.declared.Trouble.TheVariants.{Refused, TooLong, Bad}
use Rattle.reports.specs.declared.Tally.{Tally}
use Rattle.reports.specs.declared.Tally.TheVariants.{Fresh, Begun}
use Rattle.reports.specs.Words.{too_long, refused, bad_tab, inside}
use Rattle.reports.specs.Corners.{first_corners, corners_refusal}

-- ---- the answers
abbrev pub Count : Type 0
Count = Result Samples Trouble

abbrev pub overlong : Count
overlong = Err TooLong

abbrev pub refused_by : Refusal → Count
refused_by r = Err (Refused r)

abbrev pub bad_at : ℕ → ℕ → Count
bad_at k f = Err (Bad k f)

abbrev pub tally : ℕ → ℕ → Count
tally i n = Ok (record { inside = i; all = n })

-- nothing went wrong yet
abbrev pub counting : Count → Bool
counting k = is_ok k

-- no more samples are inside than there are
abbrev pub Few : Count → Type 0
Few k = IfOk k (λ s. s.inside ≤ s.all)

-- ---- a sample: 1 where `contains` says yes
unfoldable pub is_inside : Corners → Point → Bool
is_inside t p = (verdict (corners_refusal t) (contained t.a t.b t.c p)).yes

abbrev pub inside_one : Corners → Point → ℕ
inside_one t p = cond (is_inside t p) 1 0

abbrev pub with_sample : Corners → Samples → Point → Count
with_sample t k p = cond (ltb k.all 4294967295) (tally (k.inside + inside_one t p) (k.all + 1)) overlong

-- a further line, behind one for the wedge and one for each sample: a sample more, or the first bad line, behind which nothing counts
unfoldable pub with_line : Corners → Count → List ℕ → Count
with_line t (Ok k) line =
    option_map_or (with_sample t k) (read_point line) (bad_at (k.all + 2) (bad_field 2 line))
with_line t (Err e) line = Err e

-- ---- an input
abbrev pub samples_of : Corners → List ℕ → Count
samples_of t s = each (with_line t) (tally 0 0) (lines s)

abbrev pub wedge : List ℕ → Corners
wedge s = corners_or_zero (first_corners s)

abbrev pub behind_first : List ℕ → List ℕ
behind_first s = drop (until 10 s + 1) s

-- unless the wedge is refused, by this number, which is that of OutOfBounds: `refused_line` in proofs/Counting.antt
abbrev pub unless : ℕ → Count → Count
unless zero k = k
unless (suc n) k = refused_by OutOfBounds

unfoldable pub minutes : List ℕ → Count
minutes s = cond (is_some (first_corners s)) (unless (corners_refusal (wedge s)) (samples_of (wedge s) (behind_first s))) (bad_at 1 (bad_field 6 (first_line s)))

-- ---- the same line by line, as the input comes: before the first line, at it, and at each further one
abbrev pub fresh : Tally
fresh = Fresh

-- an input without a line lacks the wedge's
abbrev pub count_of : Tally → Count
count_of Fresh = bad_at 1 0
count_of (Begun t k) = k

abbrev pub first_count : List ℕ → Bool → Corners → Count
first_count line ok t = cond ok (unless (corners_refusal t) (tally 0 0)) (bad_at 1 (bad_field 6 line))

abbrev pub with_wedge : List ℕ → Option Corners → Tally
with_wedge line v = Begun (corners_or_zero v) (first_count line (is_some v) (corners_or_zero v))

unfoldable pub take_line : Tally → List ℕ → Tally
take_line Fresh line = with_wedge line (read_corners line)
take_line (Begun t k) line = Begun t (with_line t k line)

-- counting never waits for room
abbrev pub always : Tally → Bool
always t = true

-- ---- what is printed of it
abbrev pub pair_line : List ℕ → ℕ → ℕ → List ℕ
pair_line word a b = word ++ (numbered a 9 ++ numbered b 10)

unfoldable pub trouble_line : Trouble → List ℕ
trouble_line (Refused r) = counted refused (number r)
trouble_line TooLong = too_long
trouble_line (Bad k f) = pair_line bad_tab k f

unfoldable pub count_line : Count → List ℕ
count_line (Ok k) = pair_line inside k.inside k.all
count_line (Err e) = trouble_line e
