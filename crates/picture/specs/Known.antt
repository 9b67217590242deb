-- 01's known small answers 1 to 12, as a table: each case is a question and the answer that 01 gives, and `holds` asks the definitions.
use Rattle.std.specs.Prelude.{Bool, true, false, ◌&&◌, List, [], ◌∷◌, ◌++◌, ℕ, suc, ◌+◌, eqb, ℤ, pos, ◌+ℤ◌, ◌-ℤ◌, replicate}
use Rattle.whole.specs.Equal.{eq_z}
use Rattle.whole.specs.Listed.{up_from}
use Rattle.geometry.specs.declared.Point.{Point}
use Rattle.geometry.specs.Place.{same_place}
use Rattle.line.specs.Line.{point_at, points}
use Rattle.triangle.specs.Triangle as triangle
use Rattle.triangle.specs.Row as row
use Rattle.circle.specs.Circle as circle
use Rattle.frames.specs.declared.Frame.{Frame}
use Rattle.frames.specs.Description.{packed}
use Rattle.drawing.specs.declared.Figure.TheVariants.{Pixel}
use Rattle.picture.specs.Calls.{draw, number_of, after_call}

pub data Case : Type 0 where
  -- the points of a line from its start to its end
  line_points : Point → Point → List Point → Case
  -- a triangle's first row, and the spans of its rows from there to its last
  triangle_spans : Point → Point → Point → ℤ → List (ℤ × ℤ) → Case
  -- a triangle that contains a pixel
  triangle_has : Point → Point → Point → Point → Case
  -- the spans of a circle's box, row by row; a row above the box and a row below it have 0 to 0
  circle_spans : Point → ℕ → List (ℤ × ℤ) → Case
  -- of the pixels of the box and of those around it, to a distance of two, a circle contains this many
  circle_counts : Point → ℕ → ℕ → Case
  -- the bytes after a colour is set, with 0 for an answer, at a pixel of a frame over a zero buffer
  bytes_after : Frame → Point → ℕ → List ℕ → Case

-- ---- lists that are the same
abbrev pub same_places : List Point → List Point → Bool
same_places [] [] = true
same_places [] (q ∷ qs) = false
same_places (p ∷ ps) [] = false
same_places (p ∷ ps) (q ∷ qs) = same_place p q && same_places ps qs

abbrev pub same_spans : List (ℤ × ℤ) → List (ℤ × ℤ) → Bool
same_spans [] [] = true
same_spans [] (q ∷ qs) = false
same_spans (p ∷ ps) [] = false
same_spans (p ∷ ps) (q ∷ qs) = (eq_z p.0 q.0 && eq_z p.1 q.1) && same_spans ps qs

abbrev pub same_bytes : List ℕ → List ℕ → Bool
same_bytes [] [] = true
same_bytes [] (q ∷ qs) = false
same_bytes (p ∷ ps) [] = false
same_bytes (p ∷ ps) (q ∷ qs) = eqb p q && same_bytes ps qs

abbrev pub long : List ℕ → ℕ
long [] = 0
long (b ∷ bs) = suc (long bs)

abbrev pub one : Bool → ℕ
one true = 1
one false = 0

abbrev pub sum : List ℕ → ℕ
sum [] = 0
sum (n ∷ ns) = n + sum ns

-- ---- what the definitions say
abbrev pub triangle_row : Point → Point → Point → ℤ → ℕ → ℤ × ℤ
triangle_row a b c y k = let s = row.row_span a b c (y +ℤ pos k) in (s.0, s.1)

abbrev pub circle_row : Point → ℕ → ℤ → ℤ × ℤ
circle_row l d y = (circle.span_start l d y, circle.span_end l d y)

abbrev pub circle_rows : Point → ℕ → List (ℤ × ℤ)
circle_rows l d = up_from (λ k. circle_row l d (l.1 -ℤ pos 1 +ℤ pos k)) 0 (d + 2)

-- a row of a square around the box: how many of its pixels the circle contains
abbrev pub counted : Point → ℕ → ℕ → ℕ
counted l d j = sum (up_from (λ i. one (circle.contained l d (l.0 -ℤ pos 2 +ℤ pos i, l.1 -ℤ pos 2 +ℤ pos j))) 0 (d + 4))

-- with the rows above and below
abbrev pub framed : List (ℤ × ℤ) → List (ℤ × ℤ)
framed ss = (pos 0, pos 0) ∷ (ss ++ ((pos 0, pos 0) ∷ []))

abbrev pub holds : Case → Bool
holds (line_points s e ps) = same_places (up_from (point_at s e) 0 (points s e)) ps
holds (triangle_spans a b c y ss) = eq_z (row.first_row a b c) y && same_spans (up_from (triangle_row a b c y) 0 (row.row_count a b c)) ss
holds (triangle_has a b c p) = triangle.contained a b c p
holds (circle_spans l d ss) = same_spans (circle_rows l d) (framed ss)
holds (circle_counts l d n) = eqb (sum (up_from (counted l d) 0 (d + 4))) n
holds (bytes_after f p c bs) = eqb (number_of f (long bs) (draw (Pixel p) c)) 0 && same_bytes (after_call f (draw (Pixel p) c) (replicate (long bs) 0)) bs

abbrev pub all_hold : List Case → Bool
all_hold [] = true
all_hold (c ∷ cs) = holds c && all_hold cs

-- ---- the table
abbrev at : ℕ → ℕ → Point
at x y = (pos x, pos y)

abbrev to : ℕ → ℕ → ℤ × ℤ
to a b = (pos a, pos b)

abbrev pub table : List Case
table =
    line_points (at 0 0) (at 0 0) (at 0 0 ∷ [])
    ∷ line_points (at 0 0) (at 2 1) (at 0 0 ∷ at 1 0 ∷ at 2 1 ∷ [])
    ∷ line_points (at 2 1) (at 0 0) (at 2 1 ∷ at 1 1 ∷ at 0 0 ∷ [])
    ∷ line_points (at 0 0) (at 5 2) (at 0 0 ∷ at 1 0 ∷ at 2 1 ∷ at 3 1 ∷ at 4 2 ∷ at 5 2 ∷ [])
    ∷ triangle_spans (at 0 0) (at 4 2) (at 2 1) (pos 0) (to 0 2 ∷ to 2 4 ∷ to 4 5 ∷ [])
    ∷ triangle_has (at 0 0) (at 86400 0) (at 0 40000) (at 20000 10000)
    ∷ circle_spans (at 0 0) 3 (to 1 2 ∷ to 0 3 ∷ to 1 2 ∷ [])
    ∷ circle_spans (at 0 0) 4 (to 1 3 ∷ to 0 4 ∷ to 0 4 ∷ to 1 3 ∷ [])
    ∷ circle_spans (at 0 0) 0 []
    ∷ circle_counts (at 0 0) 0 0
    ∷ circle_spans (at 0 0) 1 (to 0 1 ∷ [])
    ∷ circle_counts (at 0 0) 1 1
    ∷ bytes_after (packed 10 1 1 false) (at 9 0) 1 (0x00 ∷ 0x40 ∷ [])
    ∷ bytes_after (packed 4 1 2 false) (at 1 0) 3 (0x30 ∷ [])
    ∷ bytes_after (packed 2 1 4 false) (at 1 0) 10 (0x0A ∷ [])
    ∷ bytes_after (packed 1 1 24 false) (at 0 0) 0x010203 (0x03 ∷ 0x02 ∷ 0x01 ∷ [])
    ∷ bytes_after (packed 1 1 24 true) (at 0 0) 0x010203 (0x01 ∷ 0x02 ∷ 0x03 ∷ [])
    ∷ []
