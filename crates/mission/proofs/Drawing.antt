-- WHAT EACH CALL ANSWERS AND LEAVES, in the mission's words: "exactly the numbered refusal that document 01 fixes; a refused call returns zeros and changes no byte of the lent buffer", and
-- every "byte written is the one that 01's arithmetic fixes"; T-02's counts. Of every function that draws or reads, those of `beamacorn` too. Assumes nothing.
use mathlib.Core.Path.{◌≡◌, refl, sym, ap, subst, ◌∙◌}
use mathlib.Core.Bool.{Bool, true, false, cond}
use mathlib.Core.List.{List}
use mathlib.Core.Logic.{◌⊎◌, inl, inr}
use Prim.Native.Nat.{ℕ, ◌+◌, ◌*◌, ◌<◌}
use native.Mathlib.Omega.{arith}
use lib.IntN.{ℤ, pos, nat_abs}
use lib.ListN.{length, drop}
use lib.Signed.{◌≤ℤ◌, ◌<ℤ◌}
use Rattle.whole.proofs.Decides.{Decides, always, decides_yes, decides_no}
use Rattle.whole.proofs.Difference.{lt_nat, nat_le, nat_lt}
use Rattle.whole.proofs.Machine.{size_pos}
use Rattle.refusals.specs.First.{first}
use Rattle.refusals.proofs.Answer.{not_done, is_done}
use Rattle.refusals.proofs.First.{both_pass}
use Rattle.geometry.specs.declared.Point.{Point}
use Rattle.geometry.proofs.Place.{same_decides}
use Rattle.layout.specs.Count.{pixels_in}
use Rattle.layout.specs.Figure.{single}
use Rattle.layout.specs.Layout.{Picture, shown, rendered}
use Rattle.layout.specs.Packed.{row_bytes}
use Rattle.layout.proofs.Padding.{padding_stays, tail_stays}
use Rattle.layout.proofs.Pictures.{rendered_length, shown_rendered, shown_colour}
use Rattle.layout.proofs.Pixels.{pixels_one, pixels_none}
use Rattle.windows.specs.Window.{in_window}
use Rattle.std.specs.Prelude.{Result, is_some}
use Rattle.refusals.specs.declared.Refusal.{Refusal}
use Rattle.frames.specs.Answer as frames
use Rattle.frames.specs.declared.Frame.{Frame}
use Rattle.frames.specs.declared.Drawn.{Drawn}
use Rattle.frames.specs.declared.Placed.{Placed}
use Rattle.frames.specs.Description.{size, arranged, raster, whole_window, frame_tests}
use Rattle.frames.specs.Drawing.{call_tests, outcome, pixel_outcome}
use Rattle.frames.specs.Judged.{Described, Accepted}
use Rattle.frames.proofs.Refusals.{is_accepted, frame_numbered, packed_apart, spaced, sound}
use Rattle.framebuffer.proofs.set_pixel.Reads as set_pixel
use Rattle.drawing.specs.declared.Figure.{Figure}
use Rattle.drawing.specs.declared.Figure.TheVariants.{Fill, Pixel, Line, Connected, Triangle, Outline, Circle}
use Rattle.drawing.specs.Drawing.{in_figure, figure_drawing}
use Rattle.headers.specs.declared.Header as headers
use Rattle.headers.specs.Header.{header_of, header_said}
use Rattle.headers.proofs.Forms.{header_is, said_header}
use Rattle.netpbm.specs.Image.{big_first}
use Rattle.netpbm.specs.Reading.{load_tests, file_picture, loaded}
use Rattle.netpbm.proofs.Reading.{accepted_exactly}
use Rattle.picture.specs.Calls.{Call, draw, read_image, change_of, number_of}
use Rattle.picture.proofs.Picture.{lawful}
use Rattle.picture.proofs.Ties.{Does, counts_does, places_does, loads_does}
use Rattle.beamacorn.proofs.beamacorn_set_pixel.Reads as exported_set_pixel
use Rattle.mission.specs.Answers.{Seen, Leaves, Called, Inside}
use Rattle.mission.specs.Arguments.{one, framed, behind, Promises}
use Rattle.mission.specs.Bytes.{row_takes, colour_in, colour_of, KeepsTheRest}
use Rattle.mission.specs.Calls.{Gives}
use Rattle.mission.specs.Counts.{Many}
use Rattle.mission.specs.Figures.{Contains}
use Rattle.mission.specs.Numbers.{InFrame, of_call}
use Rattle.mission.specs.Results.{as_number, value_or, as_placed}
use Rattle.mission.proofs.Results.{done_is, drawn_is, placed_is}
use Rattle.mission.specs.Runs.{Made, by_set_pixel, by_fill, by_draw_line, by_draw_connected_line, by_draw_triangle, by_draw_outline, by_draw_circle, by_read_image, by_exported_set_pixel, by_exported_fill, by_exported_draw_line, by_exported_draw_connected_line, by_exported_draw_triangle, by_exported_draw_outline, by_exported_draw_circle, by_exported_read_image}
use Rattle.mission.proofs.Answered.{yes_exactly}
use Rattle.mission.proofs.Bytes.{pixel_place, bit_is}
use Rattle.mission.proofs.Counts.{counts_many}
use Rattle.mission.proofs.Headers.{header_here, header_there}
use Rattle.mission.proofs.Lines.{line_decides}
use Rattle.mission.proofs.Numbers.{in_frame_decides, has_format, call_number}
use Rattle.mission.proofs.Traces.{trace_decides}
use Rattle.mission.proofs.Triangles.{triangle_decides, outline_decides, circle_decides}

-- ---- what a figure contains
pub contains_decides : (g : Figure) (p : Point) → Decides (in_figure g p.0 p.1) (Contains g p)
contains_decides Fill p = always tt
contains_decides (Pixel q) p = same_decides p q
contains_decides (Line s e) p = line_decides s e p
contains_decides (Connected s e) p = trace_decides s e p
contains_decides (Triangle v1 v2 v3) p = triangle_decides v1 v2 v3 p
contains_decides (Outline v1 v2 v3) p = outline_decides v1 v2 v3 p
contains_decides (Circle c d) p = circle_decides c d p

-- ---- which colour a call gives
module _ (f : Frame) (D : Described f) (x y : ℕ) where
  -- a file's pixel
  pub file_pixel : (s : List ℕ) {v : ℕ} → Gives f (read_image s) x y v → file_picture f s x y ≡ v
  unfolding row_bytes
  file_pixel s c =
      let start : (header_said f.depth s).start ≡ c.start = ap (λ (h : headers.Header). h.start) (said_header f.depth s (header_here c.header)) in
      pixel_place (big_first f) D.depth (drop (header_said f.depth s).start s) x y
      ∙ (λ i. colour_in f.depth true (drop (start i) s) (y * (packed_apart f.width f.depth D.depth D.width).0 i) x)
      ∙ sym c.is

  -- the changed picture has it
  pub change_gives : (o : Call) {v : ℕ} → Gives f o x y v → (before : Picture) → (change_of o).changes f before x y ≡ v
  change_gives (draw g colour) p before = ap (λ (t : Bool). cond t colour (before x y)) (decides_yes (contains_decides g (pos x, pos y)) p.0) ∙ sym p.1
  change_gives (read_image s) p before = file_pixel s p

module _ (f : Frame) (n x y : ℕ) where
  pub file_gives : (s : List ℕ) → number_of f n (read_image s) ≡ 0 → (v : ℕ) × Gives f (read_image s) x y v
  unfolding load_tests
  file_gives s z =
      let p = (accepted_exactly f n s).0 z in
      let H = header_said f.depth s in
      let ok : is_some (header_of f.depth s) ≡ true = ap is_some ((header_is f.depth s p.1.width p.1.height p.1.start).1 p.1.formed) in (
        colour_in f.depth true (drop H.start s) (y * row_takes f) x,
        record { w = H.width; h = H.height; start = H.start; header = header_there (has_format f p.0.format) ok; is = refl },
      )

  -- an accepted call gives a colour, or none
  pub gives_or_not : (o : Call) → number_of f n o ≡ 0 → ((v : ℕ) × Gives f o x y v) ⊎ ((v : ℕ) → Gives f o x y v → ⊥)
  gives_or_not (draw g colour) z = by (in_figure g (pos x) (pos y)) (contains_decides g (pos x, pos y))
    where
      by : (t : Bool) → Decides t (Contains g (pos x, pos y)) → ((v : ℕ) × Gives f (draw g colour) x y v) ⊎ ((v : ℕ) → Gives f (draw g colour) x y v → ⊥)
      by true d = inl (colour, (d.yes refl, refl))
      by false d = inr (λ v p. d.no refl p.0)
  gives_or_not (read_image s) z = inl (file_gives s z)

  -- where it gives none, the pixel is as it was
  pub change_leaves : (o : Call) → number_of f n o ≡ 0 → ((v : ℕ) → Gives f o x y v → ⊥) → (before : Picture) → (change_of o).changes f before x y ≡ before x y
  change_leaves (draw g colour) z never before =
      ap (λ (t : Bool). cond t colour (before x y)) (decides_no (contains_decides g (pos x, pos y)) (λ c. never colour (c, refl)))
  change_leaves (read_image s) z never before = let p = file_gives s z in absurd (never p.0 p.1)

-- ---- the bytes that an accepted call leaves
module _ (f : Frame) (b : List ℕ) (A : Accepted f (length b)) where
  abbrev left : Picture → List ℕ
  left g = rendered (raster f) g b

  rest_kept : (g : Picture) → KeepsTheRest f b (left g)
  rest_kept g =
      record {
        padding = λ y j t hj ht past.
            let i = y * f.distance + j in
            sym (bit_is (left g) i t) ∙ padding_stays (arranged f) (spaced f A.described) y j t hj ht past g b ∙ bit_is b i t;
        tail = λ i h. tail_stays (arranged f) (spaced f A.described) i h g b;
      }

  module _ (o : Call) (z : number_of f (length b) o ≡ 0) where
    abbrev changed : Picture
    changed = (change_of o).changes f (shown (raster f) b)

    shows : (x y : ℕ) → x < f.width → y < f.height → colour_of f (left changed) x y ≡ changed x y
    unfolding size
    shows x y hx hy =
        let P = sound f A.described in
        sym (pixel_place f A.described.depth (left changed) x y)
        ∙ shown_rendered (raster f) P changed b A.room x y hx hy
        ((lawful f o).colours A.described (both_pass (frame_tests f (length b)) ((change_of o).own f) (frame_numbered f (length b)) z).1 (shown (raster f) b)
        (λ u w hu hw. shown_colour (raster f) P b u w) x y hx hy)

    leaves : Leaves f o b (left changed)
    leaves =
        record {
          given = λ x y v hx hy p. shows x y hx hy ∙ change_gives f A.described x y o p (shown (raster f) b);
          others = λ x y hx hy never. shows x y hx hy ∙ change_leaves f (length b) x y o z never (shown (raster f) b) ∙ pixel_place f A.described.depth b x y;
          rest = rest_kept changed;
          as_long = rendered_length (raster f) (sound f A.described) changed b;
        }

  -- the frame's pixels that the figure contains
  sees : (g : Figure) → Many (λ x y. (x < f.width) × (y < f.height) × Contains g (pos x, pos y)) (pixels_in (raster f) (in_figure g))
  unfolding pixels_in
  sees g = counts_many f.width f.height (λ x y. in_figure g (pos x) (pos y)) (λ x y. Contains g (pos x, pos y)) (λ x y. contains_decides g (pos x, pos y))

-- of one pixel that is 1 where the frame has it, and else 0
one_pixel : (f : Frame) (p : Point) → cond (in_window (whole_window f) p.0 p.1) 1 0 ≡ pixels_in (raster f) (single p.0 p.1)
one_pixel f p = by (in_window (whole_window f) p.0 p.1) (in_frame_decides f p)
  where
    below : {z : ℤ} {n : ℕ} → pos 0 ≤ℤ z → z <ℤ pos n → nat_abs z < n
    below {z} {n} l u = let v : pos (nat_abs z) <ℤ pos n = subst (λ (z : ℤ). z <ℤ pos n) (size_pos z l) u in omega (arith, lt_nat v)

    by : (t : Bool) → Decides t (InFrame f p) → cond t 1 0 ≡ pixels_in (raster f) (single p.0 p.1)
    by true d =
        let i = d.yes refl in
        sym (pixels_one (raster f) (nat_abs p.0) (nat_abs p.1) (below i.0.0 i.0.1) (below i.1.0 i.1.1))
        ∙ (λ k. pixels_in (raster f) (single (sym (size_pos p.0 i.0.0) k) (sym (size_pos p.1 i.1.0) k)))
    by false d =
        sym (pixels_none (raster f) (single p.0 p.1) (λ x y hx hy. decides_no (same_decides (pos x, pos y) p) (λ e. d.no refl (subst (InFrame f) e (inside x y hx hy)))))
      where
        inside : (x y : ℕ) → x < f.width → y < f.height → InFrame f (pos x, pos y)
        inside x y hx hy = ((nat_le (omega arith), nat_lt (omega arith)), (nat_le (omega arith), nat_lt (omega arith)))

-- ---- a call by what it does, which is its case of the library's theorem
abbrev DoesCalled : Frame → Call → List ℕ → ℕ → ℕ → List ℕ → Type 0
DoesCalled f o b n count after = Does f o b n after × Called f o b n count after

called : (f : Frame) (o : Call) (b : List ℕ) {n count : ℕ} {after : List ℕ} → Does f o b n after → ((n ≡ 0 → ⊥) → count ≡ 0) → (n ≡ 0 → Accepted f (length b) → Seen f o count)
    → DoesCalled f o b n count after
called f o b {n} does none some =
    let after = rendered (raster f) ((change_of o).changes f (shown (raster f) b)) b in
    let accepted : n ≡ 0 → Accepted f (length b) = λ z. is_accepted f (length b) (both_pass (frame_tests f (length b)) ((change_of o).own f) (frame_numbered f (length b)) (sym does.number ∙ z)).0 in (
      does,
      record {
        number = subst (of_call f (length b) o) (sym does.number) (call_number f (length b) o);
        refused = λ k. (none k, does.bytes ∙ not_done (λ z. k (does.number ∙ z)) after b);
        accepted = λ z. (
          some z (accepted z),
          subst (Leaves f o b) (sym (does.bytes ∙ is_done (sym does.number ∙ z) after b)) (leaves f b (accepted z) o (sym does.number ∙ z)),
        );
      },
    )

draws_called : (f : Frame) (g : Figure) (colour : ℕ) (b : List ℕ) {r : Drawn} {after : List ℕ} → ◌≡◌ {A = Drawn × List ℕ} (r, after) (outcome f (figure_drawing g colour) b)
    → DoesCalled f (draw g colour) b r.number r.count after
unfolding outcome
draws_called f g colour b {r} h =
    let is : r.number ≡ first (call_tests f (length b) (figure_drawing g colour)) = ap (λ (p : Drawn × List ℕ). p.0.number) h in
    let count = ap (λ (p : Drawn × List ℕ). p.0.count) h in
    called f (draw g colour) b (counts_does f g colour b h) (λ k. count ∙ not_done (λ z. k (is ∙ z)) _ 0)
    (λ z A. subst (Seen f (draw g colour)) (sym (count ∙ is_done (sym is ∙ z) _ 0)) (sees f b A g))

places_called : (f : Frame) (p : Point) (colour : ℕ) (b : List ℕ) {r : Placed} {after : List ℕ} → ◌≡◌ {A = Placed × List ℕ} (r, after) (pixel_outcome f p colour b)
    → DoesCalled f (draw (Pixel p) colour) b r.number (cond r.inside 1 0) after
unfolding pixel_outcome
places_called f p colour b {r} h =
    let is : r.number ≡ first (call_tests f (length b) (figure_drawing (Pixel p) colour)) = ap (λ (q : Placed × List ℕ). q.0.number) h in
    let inside = ap (λ (q : Placed × List ℕ). q.0.inside) h in
    called f (draw (Pixel p) colour) b (places_does f p colour b h) (λ k. ap (λ (t : Bool). cond t 1 0) (inside ∙ not_done (λ z. k (is ∙ z)) _ false))
    (λ z A. subst (Seen f (draw (Pixel p) colour)) (sym (ap (λ (t : Bool). cond t 1 0) (inside ∙ is_done (sym is ∙ z) _ false) ∙ one_pixel f p)) (sees f b A (Pixel p)))

loads_called : (f : Frame) (s b : List ℕ) {n : ℕ} {after : List ℕ} → ◌≡◌ {A = ℕ × List ℕ} (n, after) (loaded f s b) → DoesCalled f (read_image s) b n 0 after
loads_called f s b h = called f (read_image s) b (loads_does f s b h) (λ k. refl) (λ z A. refl)

-- of the library's functions, whose answers are read by number and value
draws_counted : (f : Frame) (g : Figure) (colour : ℕ) (b : List ℕ) (r : Result ℕ Refusal) {after : List ℕ} → ◌≡◌ {A = Drawn × List ℕ} (frames.as_drawn r, after) (outcome f (figure_drawing g colour) b)
    → DoesCalled f (draw g colour) b (as_number r) (value_or 0 r) after
draws_counted f g colour b r {after} h = draws_called f g colour b (ap (λ (d : Drawn). (d, after)) (drawn_is r) ∙ h)

places_counted : (f : Frame) (p : Point) (colour : ℕ) (b : List ℕ) (r : Result Bool Refusal) {after : List ℕ} → ◌≡◌ {A = Placed × List ℕ} (frames.as_placed r, after) (pixel_outcome f p colour b)
    → DoesCalled f (draw (Pixel p) colour) b (as_number r) (cond (value_or false r) 1 0) after
places_counted f p colour b r {after} h = places_called f p colour b (ap (λ (q : Placed). (q, after)) (placed_is r) ∙ h)

-- whichever function makes it
made : {f : Frame} {o : Call} {b after : List ℕ} {n count : ℕ} → Made f o b n count after → DoesCalled f o b n count after
made (by_set_pixel κs a r s h) = places_counted _ _ _ a.0.now r h
made (by_fill κs a r s h) = draws_counted _ Fill _ a.0.now r h
made (by_draw_line κs a r s h) = draws_counted _ (Line _ _) _ a.0.now r h
made (by_draw_connected_line κs a r s h) = draws_counted _ (Connected _ _) _ a.0.now r h
made (by_draw_triangle κs a r s h) = draws_counted _ (Triangle _ _ _) _ a.0.now r h
made (by_draw_outline κs a r s h) = draws_counted _ (Outline _ _ _) _ a.0.now r h
made (by_draw_circle κs a r s h) = draws_counted _ (Circle _ _) _ a.0.now r h
made (by_read_image κs a r s h) = loads_called _ a.1.1.0.now a.0.now (ap (λ (n : ℕ). (n, s.0.now)) (done_is r) ∙ h)
made (by_exported_set_pixel κs a r s h) = places_called _ _ _ a.0.now h
made (by_exported_fill κs a r s h) = draws_called _ Fill _ a.0.now h
made (by_exported_draw_line κs a r s h) = draws_called _ (Line _ _) _ a.0.now h
made (by_exported_draw_connected_line κs a r s h) = draws_called _ (Connected _ _) _ a.0.now h
made (by_exported_draw_triangle κs a r s h) = draws_called _ (Triangle _ _ _) _ a.0.now h
made (by_exported_draw_outline κs a r s h) = draws_called _ (Outline _ _ _) _ a.0.now h
made (by_exported_draw_circle κs a r s h) = draws_called _ (Circle _ _) _ a.0.now h
made (by_exported_read_image κs a r s h) = loads_called _ (behind a.1).0.now a.0.now h

pub made_does : {f : Frame} {o : Call} {b after : List ℕ} {n count : ℕ} → Made f o b n count after → Does f o b n after
made_does m = (made m).0

-- ---- EVERY CALL
pub every_call : {f : Frame} {o : Call} {b after : List ℕ} {n count : ℕ} → Made f o b n count after → Called f o b n count after
every_call m = (made m).1

-- ---- WHETHER A PIXEL THAT IS SET WAS INSIDE
set_is : (f : Frame) (p : Point) (colour : ℕ) (b : List ℕ) {r : Placed} {after : List ℕ} → ◌≡◌ {A = Placed × List ℕ} (r, after) (pixel_outcome f p colour b) → Inside f p r
unfolding pixel_outcome
set_is f p colour b {r} h =
    let is : r.number ≡ first (call_tests f (length b) (figure_drawing (Pixel p) colour)) = ap (λ (q : Placed × List ℕ). q.0.number) h in
    let inside = ap (λ (q : Placed × List ℕ). q.0.inside) h in
    (λ k. inside ∙ not_done (λ z. k (is ∙ z)) _ false, λ z. yes_exactly (inside ∙ is_done (sym is ∙ z) _ false) (in_frame_decides f p))

pub set_inside :
    Promises set_pixel.Post (λ a r. Inside a.1.0 a.1.1.0 (as_placed r)) × Promises exported_set_pixel.Post (λ a r. Inside (framed a.1) (one (behind a.1)) r)
set_inside = (λ κs a r s h. set_is _ _ a.1.1.1.0 a.0.now (ap (λ (q : Placed). (q, s.0.now)) (placed_is r) ∙ h), λ κs a r s h. set_is _ _ (behind a.1).1.1.0 a.0.now h)
