-- WHAT EACH QUESTION ANSWERS, in the mission's words: "exactly the numbered refusal that document 01 fixes", zeros with it, and "every point, row, containment answer .. is the one that
-- 01's arithmetic fixes". Each theorem is of two contracts, as their sources have them: the function's, and that of the function of `beamacorn`, which is exported. Assumes nothing.
use mathlib.Core.Path.{◌≡◌, refl, sym, ap, ap₂, subst, ◌∙◌}
use mathlib.Core.Bool.{Bool, false}
use mathlib.Core.List.{List, [], ◌∷◌}
use Prim.Native.Nat.{ℕ, ◌+◌, ◌≤◌, ◌<◌}
use lib.Dec.{eqb, ltb}
use lib.IntN.{ℤ, pos, nat_abs}
use lib.ListN.{length}
use borrow.Author.Tests.{ltb-false}
use Rattle.whole.proofs.Decides.{Decides, decides_eqb, decides_ltb}
use Rattle.refusals.specs.First.{first}
use Rattle.refusals.proofs.First.{both_pass, fails_alone}
use Rattle.geometry.specs.declared.Point.{Point}
use Rattle.geometry.specs.declared.Verdict.{Verdict}
use Rattle.geometry.specs.declared.Span.{Span}
use Rattle.geometry.specs.Answer.{verdict, span}
use Rattle.line.specs.declared.Length.{Length}
use Rattle.line.specs.Answer as line
use Rattle.line.specs.Line.{major, points, point_at, has_point}
use Rattle.line.specs.Answer.{end_tests, step_tests, length_answer, step_answer}
use Rattle.line.proofs.Refusals.{end_numbered}
use Rattle.line.proofs.major_length.Reads as major_length
use Rattle.line.proofs.point.Reads as point_of_line
use Rattle.line.proofs.has_point.Reads as has_point_of_line
use Rattle.connected.specs.Answer.{index_tests}
use Rattle.connected.specs.Connected.{last_index, connected_points, connected_at, has_connected}
use Rattle.connected.proofs.length.Reads as length_of_trace
use Rattle.connected.proofs.point.Reads as point_of_trace
use Rattle.connected.proofs.has_point.Reads as has_point_of_trace
use Rattle.triangle.specs.declared.RowRange.{RowRange}
use Rattle.triangle.specs.Answer.{vertex_tests, rows_answer}
use Rattle.triangle.specs.Row.{row_span, first_row, row_count}
use Rattle.triangle.specs.Triangle as triangle
use Rattle.triangle.proofs.contains.Reads as contains_of_triangle
use Rattle.triangle.proofs.rows.Reads as rows_of_triangle
use Rattle.triangle.proofs.row_span.Reads as span_of_triangle
use Rattle.circle.specs.Circle as circle
use Rattle.circle.specs.Refusal.{circle_tests}
use Rattle.circle.proofs.contains.Reads as contains_of_circle
use Rattle.circle.proofs.row_span.Reads as span_of_circle
use Rattle.layout.specs.Count.{lit_in}
use Rattle.layout.specs.Layout.{shown}
use Rattle.frames.specs.declared.Frame.{Frame}
use Rattle.frames.specs.declared.Size.{Size}
use Rattle.frames.specs.declared.Read.{Read}
use Rattle.frames.specs.Answer.{sized, read}
use Rattle.frames.specs.Description.{size, raster, colour_at, is_outside, description_tests, frame_tests, read_tests}
use Rattle.frames.proofs.Refusals.{is_described, is_accepted, description_numbered, frame_numbered}
use Rattle.framebuffer.proofs.buffer_size_bpp.Reads as buffer_size_bpp
use Rattle.framebuffer.proofs.pixel.Reads as pixel_of_frame
use Rattle.lights.specs.declared.Lights.{Lights}
use Rattle.lights.specs.Answer.{not_one_bit, lit_tests, lights}
use Rattle.lights.proofs.lit.Reads as lit_of_frame
use Rattle.netpbm.specs.Image.{image_length}
use Rattle.netpbm.specs.Written.{no_format, image_size_tests}
use Rattle.netpbm.proofs.image_size.Reads as size_of_image
use Rattle.beamacorn.specs.declared.Step as exported
use Rattle.beamacorn.specs.Plain.{plain_step}
use Rattle.beamacorn.proofs.beamacorn_line_length.Reads as exported_line_length
use Rattle.beamacorn.proofs.beamacorn_line_point.Reads as exported_line_point
use Rattle.beamacorn.proofs.beamacorn_line_has_point.Reads as exported_line_has_point
use Rattle.beamacorn.proofs.beamacorn_connected_length.Reads as exported_connected_length
use Rattle.beamacorn.proofs.beamacorn_connected_point.Reads as exported_connected_point
use Rattle.beamacorn.proofs.beamacorn_connected_has_point.Reads as exported_connected_has_point
use Rattle.beamacorn.proofs.beamacorn_triangle_contains.Reads as exported_triangle_contains
use Rattle.beamacorn.proofs.beamacorn_triangle_rows.Reads as exported_triangle_rows
use Rattle.beamacorn.proofs.beamacorn_triangle_row_span.Reads as exported_triangle_row_span
use Rattle.beamacorn.proofs.beamacorn_circle_contains.Reads as exported_circle_contains
use Rattle.beamacorn.proofs.beamacorn_circle_row_span.Reads as exported_circle_row_span
use Rattle.beamacorn.proofs.beamacorn_frame_size.Reads as exported_frame_size
use Rattle.beamacorn.proofs.beamacorn_pixel.Reads as exported_pixel
use Rattle.beamacorn.proofs.beamacorn_lit.Reads as exported_lit
use Rattle.beamacorn.proofs.beamacorn_image_size.Reads as exported_image_size
use Rattle.mission.specs.Answers.{AtIndex, Decided, Spanned, LineLength, LinePoint, LineHas, TraceLength, TracePoint, TraceHas, TriangleHas, TriangleRows, TriangleSpan, CircleHas, CircleRow, FrameSize, PixelRead, PixelsLit, ImageSize}
use Rattle.mission.specs.Arguments.{one, two, three, four, framed, behind, unordered, Promises}
use Rattle.mission.specs.Bytes.{colour_of}
use Rattle.mission.specs.Counts.{Many}
use Rattle.mission.specs.Figures.{larger, smaller, RowSpan, CircleSpan}
use Rattle.mission.specs.Numbers.{FileTakes}
use Rattle.mission.specs.Results.{as_number, point_of, as_length, as_verdict, as_span, as_rows, as_size, as_read, as_lights}
use Rattle.mission.proofs.Results as answer
use Rattle.mission.proofs.Answered.{answered, answered_both, yes_exactly}
use Rattle.mission.proofs.Bytes.{pixel_place}
use Rattle.mission.proofs.Counts.{counts_many}
use Rattle.mission.proofs.Lines.{larger_is, smaller_is, point_is, line_decides}
use Rattle.mission.proofs.Numbers.{asked, decides_not, in_frame_decides, format_decides, has_format, description_asked, frame_asked, ends_asked, vertices_asked, circle_asked, file_takes}
use Rattle.mission.proofs.Traces.{at_index, trace_decides}
use Rattle.mission.proofs.Triangles.{sorting, triangle_decides, row_is, circle_decides, circle_row_lem}

-- ---- a yes or no, and a span, by their number
decided : {table : ℕ → Type 0} {n : ℕ} {t : Bool} {P : Type 0} → table n → Decides t P → {r : Verdict} → r ≡ verdict n t → Decided table r P
decided {table} {P = P} number d h = subst (λ (r : Verdict). Decided table r P) (sym h) (answered number {none = false} (λ z. z) (λ e v. yes_exactly v d))

spanned : {table : ℕ → Type 0} {n : ℕ} {x y : ℤ} (P : ℤ → ℤ → Type 0) → table n → P x y → {r : Span} → r ≡ span n x y → Spanned table r P
spanned {table} P number p h =
    subst (λ (r : Span). Spanned table r P) (sym h)
    (answered_both number {none = pos 0} {nil = pos 0} (λ y z. (y, z)) (λ e v w. subst (λ (q : ℤ × ℤ). P q.0 q.1) (λ i. (sym v i, sym w i)) p))

-- ---- LINES AND CONNECTED LINES
module _ (s e : Point) where
  length_is : {r : Length} → r ≡ length_answer (first (end_tests s e)) (points s e) → LineLength s e r
  unfolding end_tests
  length_is h = subst (LineLength s e) (sym h) (answered (ends_asked s e [] refl) (λ z. z) (λ z v. v ∙ ap (λ (n : ℕ). n + 1) (larger_is s e)))

  step_is : (k : ℕ) {r : line.Step} → r ≡ step_answer (first (step_tests s e k)) (point_at s e k) → LinePoint s e k r.number r.point
  unfolding step_tests
  step_is k h =
      subst (λ (r : line.Step). LinePoint s e k r.number r.point) (sym h)
      (answered (ends_asked s e ((7, ltb (major s e) k) ∷ []) (asked _ _ (last k) (λ z. refl))) (λ z. z) (λ z v. v ∙ point_is s e k))
    where
      last : (k : ℕ) → Decides (ltb (major s e) k) (larger s e < k)
      last k = subst (λ (n : ℕ). Decides (ltb (major s e) k) (n < k)) (larger_is s e) (decides_ltb (major s e) k)

  trace_length_is : {r : Length} → r ≡ length_answer (first (end_tests s e)) (connected_points s e) → TraceLength s e r
  unfolding end_tests
  trace_length_is h = subst (TraceLength s e) (sym h) (answered (ends_asked s e [] refl) (λ z. z) (λ z v. v ∙ ap₂ (λ (x y : ℕ). x + y + 1) (larger_is s e) (smaller_is s e)))

  index_is : (i : ℕ) {r : line.Step} → r ≡ step_answer (first (index_tests s e i)) (connected_at s e i) → TracePoint s e i r.number r.point
  unfolding index_tests
  index_is i h =
      subst (λ (r : line.Step). TracePoint s e i r.number r.point) (sym h)
      (answered (ends_asked s e ((7, ltb (last_index s e) i) ∷ []) (asked _ _ last (λ z. refl))) (λ z. z)
      (λ z v. subst (AtIndex s e i) (sym v) (at_index s e i (walked z))))
    where
      last : Decides (ltb (last_index s e) i) (larger s e + smaller s e < i)
      last = subst (λ (n : ℕ). Decides (ltb (last_index s e) i) (n < i)) (ap₂ ◌+◌ (larger_is s e) (smaller_is s e)) (decides_ltb (last_index s e) i)

      walked : first (index_tests s e i) ≡ 0 → i ≤ last_index s e
      walked z = ltb-false _ _ (fails_alone 6 _ (both_pass (end_tests s e) ((7, ltb (last_index s e) i) ∷ []) (end_numbered s e) z).1)

  has_is : (p : Point) {r : Verdict} → r ≡ verdict (first (end_tests s e)) (has_point s e p) → LineHas s e p r
  unfolding end_tests
  has_is p h = decided (ends_asked s e [] refl) (line_decides s e p) h

  trace_has_is : (p : Point) {r : Verdict} → r ≡ verdict (first (end_tests s e)) (has_connected s e p) → TraceHas s e p r
  unfolding end_tests
  trace_has_is p h = decided (ends_asked s e [] refl) (trace_decides s e p) h

-- the functions of `beamacorn` answer a point by its coordinates
plain_is : {q : line.Step} {r : exported.Step} → r ≡ plain_step q → (claim : ℕ → Point → Type 0) → claim q.number q.point → claim r.number (r.x, r.y)
plain_is h claim c = subst (λ (r : exported.Step). claim r.number (r.x, r.y)) (sym h) c

pub line_length : Promises major_length.Post (λ a r. LineLength a.0 a.1.0 (as_length r)) × Promises exported_line_length.Post (λ a r. LineLength (one a) (two a) r)
line_length = (λ κs a r s h. length_is _ _ (answer.length_is r ∙ h), λ κs a r s h. length_is _ _ h)

pub line_point :
    Promises point_of_line.Post (λ a r. LinePoint a.0 a.1.0 a.1.1.0 (as_number r) (point_of r))
    × Promises exported_line_point.Post (λ a r. LinePoint (one a) (two a) a.1.1.1.1.0 r.number (r.x, r.y))
line_point = (λ κs a r s h. step_is _ _ _ (answer.step_is r ∙ h), λ κs a r s h. plain_is h (LinePoint (one a) (two a) a.1.1.1.1.0) (step_is _ _ _ refl))

pub line_has_point :
    Promises has_point_of_line.Post (λ a r. LineHas a.0 a.1.0 a.1.1.0 (as_verdict r)) × Promises exported_line_has_point.Post (λ a r. LineHas (one a) (two a) (three a) r)
line_has_point = (λ κs a r s h. has_is _ _ _ (answer.verdict_is r ∙ h), λ κs a r s h. has_is _ _ _ h)

pub connected_length :
    Promises length_of_trace.Post (λ a r. TraceLength a.0 a.1.0 (as_length r)) × Promises exported_connected_length.Post (λ a r. TraceLength (one a) (two a) r)
connected_length = (λ κs a r s h. trace_length_is _ _ (answer.length_is r ∙ h), λ κs a r s h. trace_length_is _ _ h)

pub connected_point :
    Promises point_of_trace.Post (λ a r. TracePoint a.0 a.1.0 a.1.1.0 (as_number r) (point_of r))
    × Promises exported_connected_point.Post (λ a r. TracePoint (one a) (two a) a.1.1.1.1.0 r.number (r.x, r.y))
connected_point = (λ κs a r s h. index_is _ _ _ (answer.step_is r ∙ h), λ κs a r s h. plain_is h (TracePoint (one a) (two a) a.1.1.1.1.0) (index_is _ _ _ refl))

pub connected_has_point :
    Promises has_point_of_trace.Post (λ a r. TraceHas a.0 a.1.0 a.1.1.0 (as_verdict r)) × Promises exported_connected_has_point.Post (λ a r. TraceHas (one a) (two a) (three a) r)
connected_has_point = (λ κs a r s h. trace_has_is _ _ _ (answer.verdict_is r ∙ h), λ κs a r s h. trace_has_is _ _ _ h)

-- ---- TRIANGLES
module _ (v1 v2 v3 : Point) where
  contains_is : (p : Point) {r : Verdict} → r ≡ verdict (first (vertex_tests v1 v2 v3)) (triangle.contained v1 v2 v3 p) → TriangleHas v1 v2 v3 p r
  contains_is p h = decided (vertices_asked v1 v2 v3) (triangle_decides v1 v2 v3 p) h

  rows_are : {r : RowRange} → r ≡ rows_answer (first (vertex_tests v1 v2 v3)) (first_row v1 v2 v3) (row_count v1 v2 v3) → TriangleRows v1 v2 v3 r
  unfolding first_row row_count
  rows_are h = subst (TriangleRows v1 v2 v3) (sym h) (answered_both (vertices_asked v1 v2 v3) (λ y z. (y, z)) (λ e v w. (sorting v1 v2 v3, (v, w))))

  span_is : (y : ℤ) {r : Span} → r ≡ span (first (vertex_tests v1 v2 v3)) (row_span v1 v2 v3 y).0 (row_span v1 v2 v3 y).1 → TriangleSpan v1 v2 v3 y r
  span_is y h = spanned (RowSpan v1 v2 v3 y) (vertices_asked v1 v2 v3) (row_is v1 v2 v3 y) h

pub triangle_contains :
    Promises contains_of_triangle.Post (λ a r. TriangleHas a.0 a.1.0 a.1.1.0 a.1.1.1.0 (as_verdict r))
    × Promises exported_triangle_contains.Post (λ a r. TriangleHas (one a) (two a) (three a) (four a) r)
triangle_contains = (λ κs a r s h. contains_is _ _ _ _ (answer.verdict_is r ∙ h), λ κs a r s h. contains_is _ _ _ _ h)

pub triangle_rows :
    Promises rows_of_triangle.Post (λ a r. TriangleRows a.0 a.1.0 a.1.1.0 (as_rows r)) × Promises exported_triangle_rows.Post (λ a r. TriangleRows (one a) (two a) (three a) r)
triangle_rows = (λ κs a r s h. rows_are _ _ _ (answer.rows_are r ∙ h), λ κs a r s h. rows_are _ _ _ h)

pub triangle_row_span :
    Promises span_of_triangle.Post (λ a r. TriangleSpan a.0 a.1.0 a.1.1.0 a.1.1.1.0 (as_span r))
    × Promises exported_triangle_row_span.Post (λ a r. TriangleSpan (one a) (two a) (three a) a.1.1.1.1.1.1.0 r)
triangle_row_span = (λ κs a r s h. span_is _ _ _ _ (answer.span_is r ∙ h), λ κs a r s h. span_is _ _ _ _ h)

-- ---- CIRCLES
module _ (c : Point) (d : ℕ) where
  in_circle : (p : Point) {r : Verdict} → r ≡ verdict (first (circle_tests c d)) (circle.contained c d p) → CircleHas c d p r
  in_circle p h = decided (circle_asked c d) (circle_decides c d p) h

  circle_span : (y : ℤ) {r : Span} → r ≡ span (first (circle_tests c d)) (circle.span_start c d y) (circle.span_end c d y) → CircleRow c d y r
  circle_span y h = spanned (CircleSpan c d y) (circle_asked c d) (circle_row_lem c d y) h

pub circle_contains :
    Promises contains_of_circle.Post (λ a r. CircleHas a.0 a.1.0 a.1.1.0 (as_verdict r)) × Promises exported_circle_contains.Post (λ a r. CircleHas (one a) a.1.1.0 (one a.1.1.1) r)
circle_contains = (λ κs a r s h. in_circle a.0 a.1.0 a.1.1.0 (answer.verdict_is r ∙ h), λ κs a r s h. in_circle (one a) a.1.1.0 (one a.1.1.1) h)

pub circle_row_span :
    Promises span_of_circle.Post (λ a r. CircleRow a.0 a.1.0 a.1.1.0 (as_span r)) × Promises exported_circle_row_span.Post (λ a r. CircleRow (one a) a.1.1.0 a.1.1.1.0 r)
circle_row_span = (λ κs a r s h. circle_span _ _ _ (answer.span_is r ∙ h), λ κs a r s h. circle_span _ _ _ h)

-- ---- FRAMES
module _ (f : Frame) where
  size_is : {r : Size} → r ≡ sized (first (description_tests f)) (size f) → FrameSize f r
  unfolding description_tests size
  size_is h = subst (FrameSize f) (sym h) (answered (description_asked f [] (λ D. refl)) (λ z. z) (λ z v. v))

  pixel_is : (b : List ℕ) (p : Point) {r : Read} → r ≡ read (first (read_tests f (length b) p)) (colour_at f p b) → PixelRead f b p r
  unfolding read_tests
  pixel_is b p h =
      subst (PixelRead f b p) (sym h)
      (answered (frame_asked f ((8, is_outside f p) ∷ []) (length b) (λ A. asked _ _ (decides_not (in_frame_decides f p)) (λ z. refl))) (λ z. z)
      (λ z v. v ∙ pixel_place f (is_accepted f (length b) (both_pass (frame_tests f (length b)) ((8, is_outside f p) ∷ []) (frame_numbered f (length b)) z).0).described.depth b (nat_abs p.0) (nat_abs p.1)))

  lit_is : (b : List ℕ) {r : Lights} → r ≡ lights (first (lit_tests f (length b))) (lit_in (raster f) b) → PixelsLit f b r
  unfolding lit_tests lit_in
  lit_is b h =
      subst (PixelsLit f b) (sym h)
      (answered (frame_asked f ((10, not_one_bit f) ∷ []) (length b) (λ A. asked _ _ (decides_not (decides_eqb f.depth 1)) (λ z. refl))) (λ z. z)
      (λ z v. subst (Many (λ x y. (x < f.width) × (y < f.height) × (colour_of f b x y ≡ 1))) (sym v) (counts_many f.width f.height (λ x y. eqb (shown (raster f) b x y) 1) (λ x y. colour_of f b x y ≡ 1) (one z))))
    where
      one : first (lit_tests f (length b)) ≡ 0 → (x y : ℕ) → Decides (eqb (shown (raster f) b x y) 1) (colour_of f b x y ≡ 1)
      one z x y =
          let D = (is_accepted f (length b) (both_pass (frame_tests f (length b)) ((10, not_one_bit f) ∷ []) (frame_numbered f (length b)) z).0).described in
          subst (λ (c : ℕ). Decides (eqb (shown (raster f) b x y) 1) (c ≡ 1)) (pixel_place f D.depth b x y) (decides_eqb (shown (raster f) b x y) 1)

  image_size_is : {r : Size} → r ≡ sized (first (image_size_tests f)) (image_length f) → ImageSize f r
  unfolding image_size_tests
  image_size_is h =
      subst (ImageSize f) (sym h)
      (answered (description_asked f ((10, no_format f) ∷ []) (λ D. asked _ _ (format_decides f) (λ z. refl))) (λ z. z)
      (λ z v. let p = both_pass (description_tests f) ((10, no_format f) ∷ []) (description_numbered f) z in
      subst (FileTakes f) (sym v) (file_takes f (is_described f p.0) (has_format f (fails_alone 9 (no_format f) p.1)))))

pub frame_size : Promises buffer_size_bpp.Post (λ a r. FrameSize a.0 (as_size r)) × Promises exported_frame_size.Post (λ a r. FrameSize (unordered a) r)
frame_size = (λ κs a r s h. size_is _ (answer.size_is r ∙ h), λ κs a r s h. size_is _ h)

pub pixel_read :
    Promises pixel_of_frame.Post (λ a r. PixelRead a.1.0 a.0.now a.1.1.0 (as_read r))
    × Promises exported_pixel.Post (λ a r. PixelRead (framed a.1) a.0.now (one (behind a.1)) r)
pixel_read = (λ κs a r s h. pixel_is _ a.0.now _ (answer.read_is r ∙ h), λ κs a r s h. pixel_is _ a.0.now _ h)

pub pixels_lit : Promises lit_of_frame.Post (λ a r. PixelsLit a.1.0 a.0.now (as_lights r)) × Promises exported_lit.Post (λ a r. PixelsLit (framed a.1) a.0.now r)
pixels_lit = (λ κs a r s h. lit_is _ a.0.now (answer.lights_is r ∙ h), λ κs a r s h. lit_is _ a.0.now h)

pub image_size : Promises size_of_image.Post (λ a r. ImageSize a.0 (as_size r)) × Promises exported_image_size.Post (λ a r. ImageSize (unordered a) r)
image_size = (λ κs a r s h. image_size_is _ (answer.size_is r ∙ h), λ κs a r s h. image_size_is _ h)
