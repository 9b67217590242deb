-- The number that an operation answers is the table's: each test of the library is decided by 01's words, and its list is in their order. Assumes nothing.
use mathlib.Core.Path.{◌≡◌, refl, sym, ap, subst, ◌∙◌}
use mathlib.Core.Bool.{Bool, true, false, cond, not, ◌&&◌, ◌||◌, true≢false}
use mathlib.Core.List.{List, [], ◌∷◌, ◌++◌}
use mathlib.Core.Logic.{◌↔◌, ◌⊎◌, inl, inr, ⊎_elim}
use Prim.Native.Nat.{ℕ, ◌+◌, ◌*◌, ◌^◌, ◌≤◌, ◌<◌}
use lib.Dec.{eqb}
use lib.IntN.{pos, negsuc, ◌+ℤ◌}
use lib.ListN.{length}
use lib.Signed.{◌≤ℤ◌}
use borrow.Author.Tests.{ltb-false, not-false}
use Rattle.std.specs.Prelude.{is_some, is_none}
use Rattle.whole.proofs.Decides.{Decides, always, never, decides_map, decides_and, decides_or, decides_eqb, decides_leb, decides_ltb, decides_le, decides_lt, decides_between, decides_no}
use Rattle.whole.proofs.Tests.{or_false}
use Rattle.refusals.specs.First.{Tests, first}
use Rattle.refusals.proofs.First.{exactly_0}
use Rattle.geometry.specs.declared.Point.{Point}
use Rattle.geometry.specs.Bound.{in_bounds}
use Rattle.line.specs.Answer.{end_tests}
use Rattle.triangle.specs.Answer.{vertex_tests}
use Rattle.circle.specs.Refusal.{circle_tests}
use Rattle.layout.specs.Packed.{row_bytes}
use Rattle.windows.specs.Window.{in_window}
use Rattle.frames.specs.declared.Frame.{Frame}
use Rattle.frames.specs.Description.{size, no_depth, too_large, no_distance, too_short, whole_window, description_tests, frame_tests}
use Rattle.frames.specs.Judged.{Described, Accepted}
use Rattle.frames.proofs.Refusals.{is_described, is_accepted, packed_apart}
use Rattle.drawing.specs.declared.Figure.{Figure}
use Rattle.drawing.specs.declared.Figure.TheVariants.{Fill, Pixel, Line, Connected, Triangle, Outline, Circle}
use Rattle.drawing.specs.Drawing.{own_tests}
use Rattle.headers.specs.declared.Header as headers
use Rattle.headers.specs.Header.{header_bytes, header_of, header_said}
use Rattle.netpbm.specs.Image.{header, big_first, image_length}
use Rattle.netpbm.specs.Written.{no_format, no_room}
use Rattle.netpbm.specs.Reading.{other_size, few_pixels, file_tests}
use Rattle.picture.specs.Calls.{Call, draw, read_image, number_of}
use Rattle.mission.specs.Bytes.{row_takes}
use Rattle.mission.specs.Calls.{Accepts}
use Rattle.mission.specs.Numbers.{NoDepth, TooLarge, BadDistance, TooShort, InFrame, NoFormat, FileTakes, NoRoom, Says, NoHeader, OtherSize, TooFew, Far, Test, applies, passes, done, description, frame, ends, vertices, circle, of_figure, of_call}
use Rattle.headers.proofs.Forms.{said_header}
use Rattle.mission.proofs.Headers.{HasFormat, header_text, one_text, header_here, header_there}

-- ---- one test
pub asked : {k : ℕ} {P : Type 0} {rest : ℕ → Type 0} (t : Bool) (n : ℕ) → Decides t P → (t ≡ false → rest n) → Test k P rest (cond t k n)
asked true n d r = applies (d.yes refl) refl
asked false n d r = passes (d.no refl) (r refl)

-- a table gives one number
abbrev pub Single : (ℕ → Type 0) → Type 0
Single table = (m n : ℕ) → table m → table n → m ≡ n

pub one_done : Single done
one_done m n p q = p ∙ sym q

pub one_test : {k : ℕ} {P : Type 0} {rest : ℕ → Type 0} → Single rest → Single (Test k P rest)
one_test r m n (applies p e) (applies q f) = e ∙ sym f
one_test r m n (applies p e) (passes q f) = absurd (q p)
one_test r m n (passes p e) (applies q f) = absurd (p q)
one_test r m n (passes p e) (passes q f) = r m n e f

pub decides_not : {t : Bool} {P : Type 0} → Decides t P → Decides (not t) (P → ⊥)
decides_not {t = true} d = never (λ n. n (d.yes refl))
decides_not {t = false} d = always (d.no refl)

-- the first does not hold, or the others do not
neither : (t u : Bool) {P Q : Type 0} → Decides t P → Decides (not u) Q → Decides (not (t && u)) ((P → ⊥) ⊎ Q)
neither true u d q = decides_map q inr (⊎_elim (λ n. absurd (n (d.yes refl))) (λ h. h))
neither false u d q = always (inl (d.no refl))

-- ---- of a frame
module _ (f : Frame) where
  depth_decides : Decides (no_depth f) (NoDepth f)
  depth_decides =
      decides_not (decides_or _ _ (decides_or _ _ (decides_or _ _ (decides_or _ _ (decides_or _ _ (decides_or _ _ (decides_eqb _ 1) (decides_eqb _ 2)) (decides_eqb _ 4)) (decides_eqb _ 8)) (decides_eqb _ 16)) (decides_eqb _ 24)) (decides_eqb _ 32))

  large_decides : Decides (too_large f) (TooLarge f)
  large_decides = decides_or _ _ (decides_ltb 2048 f.width) (decides_ltb 2048 f.height)

  distance_decides : Decides (no_distance f) (BadDistance f)
  unfolding row_bytes
  distance_decides = decides_or _ _ (decides_ltb f.distance (row_takes f)) (decides_ltb 16384 f.distance)

  short_decides : (n : ℕ) → Decides (too_short f n) (TooShort f n)
  unfolding size
  short_decides n = decides_ltb n (f.distance * f.height)

  pub in_frame_decides : (p : Point) → Decides (in_window (whole_window f) p.0 p.1) (InFrame f p)
  in_frame_decides p = decides_and _ _ (decides_between (pos 0) (pos f.width) p.0) (decides_between (pos 0) (pos f.height) p.1)

  formats_decide : Decides (eqb f.depth 1 || eqb f.depth 8 || eqb f.depth 24) (HasFormat f.depth)
  formats_decide = decides_or _ _ (decides_or _ _ (decides_eqb f.depth 1) (decides_eqb f.depth 8)) (decides_eqb f.depth 24)

  pub format_decides : Decides (no_format f) (NoFormat f)
  format_decides = decides_or _ _ (decides_not formats_decide) (decides_or _ _ (decides_eqb f.width 0) (decides_eqb f.height 0))

  pub has_format : no_format f ≡ false → HasFormat f.depth
  has_format e = formats_decide.yes (not-false _ (or_false _ _ e).0)

  -- ---- its tests, and what comes behind them where they pass
  module _ (ts : Tests) {rest : ℕ → Type 0} where
    pub description_asked : (Described f → rest (first ts)) → description f rest (first (description_tests f ++ ts))
    unfolding description_tests
    description_asked h =
        asked _ _ depth_decides (λ a. asked _ _ large_decides (λ b. asked _ _ distance_decides (λ c. h (is_described f ((exactly_0 (description_tests f) refl).1 (a, (b, (c, tt))))))))

    pub frame_asked : (n : ℕ) → (Accepted f n → rest (first ts)) → frame f n rest (first (frame_tests f n ++ ts))
    unfolding description_tests frame_tests
    frame_asked n h =
        asked _ _ depth_decides (λ a. asked _ _ large_decides (λ b. asked _ _ distance_decides
        (λ c. asked _ _ (short_decides n) (λ d. h (is_accepted f n ((exactly_0 (frame_tests f n) refl).1 (a, (b, (c, (d, tt))))))))))

  module _ {rest : ℕ → Type 0} (one : Single rest) where
    pub one_description : Single (description f rest)
    one_description = one_test (one_test (one_test one))

    pub one_frame : (n : ℕ) → Single (frame f n rest)
    one_frame n = one_test (one_test (one_test (one_test one)))

  -- what is accepted over n bytes
  pub frame_accepted : (n : ℕ) → frame f n done 0 → Accepted f n
  unfolding description_tests frame_tests
  frame_accepted n ok = is_accepted f n (one_frame one_done n _ _ (frame_asked [] n (λ A. refl)) ok)

  -- T-07: where 1 and 2 do not refuse, the bytes of a row are few
  pub row_few : (NoDepth f → ⊥) → (TooLarge f → ⊥) → row_takes f ≤ 8192
  unfolding row_bytes
  row_few d l = (packed_apart f.width f.depth (not-false _ (decides_no depth_decides d)) (ltb-false _ _ (or_false _ _ (decides_no large_decides l)).0)).1

  -- ---- of a file that is written: T-01 has one length for it
  pub pixels_take : Described f → size (big_first f) ≡ row_takes f * f.height
  unfolding size row_bytes
  pixels_take D = ap (λ (d : ℕ). d * f.height) (packed_apart f.width f.depth D.depth D.width).0

  pub file_takes : Described f → HasFormat f.depth → FileTakes f (image_length f)
  unfolding image_length header
  file_takes D g =
      record { text = header_bytes f.depth f.width f.height; header = header_text g; is = ap (λ (n : ℕ). length (header_bytes f.depth f.width f.height) + n) (pixels_take D) }

  pub one_file : {m n : ℕ} → FileTakes f m → FileTakes f n → m ≡ n
  one_file s t = s.is ∙ ap (λ (x : List ℕ). length x + row_takes f * f.height) (one_text s.header t.header) ∙ sym t.is

  pub room_decides : Described f → HasFormat f.depth → (room : ℕ) → Decides (no_room f room) (NoRoom f room)
  room_decides D g room =
      decides_map (decides_ltb room (image_length f)) (λ l. (image_length f, (file_takes D g, l))) (λ h. subst (λ (n : ℕ). room < n) (one_file h.1.0 (file_takes D g)) h.1.1)

  -- ---- of a file that is read
  module _ (s : List ℕ) (g : HasFormat f.depth) where
    abbrev head : headers.Header
    head = header_said f.depth s

    abbrev ok : Bool
    ok = is_some (header_of f.depth s)

    header_decides : Decides (not ok) (NoHeader f s)
    header_decides = by ok refl
      where
        by : (t : Bool) → ok ≡ t → Decides (not t) (NoHeader f s)
        by true e = never (λ n. n _ _ _ (header_there g e))
        by false e = always (λ w h n H. true≢false (sym (ap is_some (header_here H)) ∙ e))

    says_decides : {t : Bool} (P : ℕ → ℕ → ℕ → Type 0) → ok ≡ true → Decides t (P head.width head.height head.start) → Decides t (Says f s P)
    says_decides P e d =
        decides_map d (λ p. record { w = head.width; h = head.height; start = head.start; header = header_there g e; is = p })
        (λ S. subst (λ (h : headers.Header). P h.width h.height h.start) (sym (said_header f.depth s (header_here S.header))) S.is)

    pub file_asked : Described f → (Test 11 (NoHeader f s) (Test 13 (OtherSize f s) (Test 12 (TooFew f s) done)))
        (first ((11, is_none (header_of f.depth s)) ∷ (13, other_size f head) ∷ (12, few_pixels f (length s) head) ∷ []))
    file_asked D =
        asked _ _ header_decides (λ e.
        asked _ _ (says_decides (λ w h start. (w ≡ f.width) × (h ≡ f.height) → ⊥) (not-false _ e) (decides_not (decides_and _ _ (decides_eqb head.width f.width) (decides_eqb head.height f.height))))
        (λ o. asked _ _ (says_decides (λ w h start. length s < start + row_takes f * f.height) (not-false _ e)
        (decides_map (decides_ltb (length s) (head.start + size (big_first f))) (λ l. subst (λ (n : ℕ). length s < head.start + n) (pixels_take D) l)
        (λ l. subst (λ (n : ℕ). length s < head.start + n) (sym (pixels_take D)) l))) (λ z. refl)))

-- ---- of a figure
bounds_decide : (p : Point) → Decides (in_bounds p) (((negsuc 131071 ≤ℤ p.0) × (p.0 ≤ℤ pos 131071)) × ((negsuc 131071 ≤ℤ p.1) × (p.1 ≤ℤ pos 131071)))
bounds_decide p = decides_and _ _ (decides_and _ _ (decides_le _ p.0) (decides_le p.0 _)) (decides_and _ _ (decides_le _ p.1) (decides_le p.1 _))

far_decides : (p : Point) → Decides (not (in_bounds p)) (Far p)
far_decides p = decides_not (bounds_decide p)

two_decide : (s e : Point) → Decides (not (in_bounds s && in_bounds e)) (Far s ⊎ Far e)
two_decide s e = neither _ _ (bounds_decide s) (far_decides e)

pub ends_asked : (s e : Point) (ts : Tests) {rest : ℕ → Type 0} → rest (first ts) → ends s e rest (first (end_tests s e ++ ts))
unfolding end_tests
ends_asked s e ts r = asked _ _ (two_decide s e) (λ h. r)

pub vertices_asked : (v1 v2 v3 : Point) → vertices v1 v2 v3 (first (vertex_tests v1 v2 v3))
unfolding vertex_tests
vertices_asked v1 v2 v3 = asked _ _ (neither _ _ (bounds_decide v1) (two_decide v2 v3)) (λ h. refl)

pub circle_asked : (c : Point) (d : ℕ) → circle c d (first (circle_tests c d))
unfolding circle_tests
circle_asked c d = asked _ _ (far_decides c) (λ h. asked _ _ (decides_or _ _ (decides_lt (pos 131072) (c.0 +ℤ pos d)) (decides_lt (pos 131072) (c.1 +ℤ pos d))) (λ k. refl))

figure_asked : (g : Figure) → of_figure g (first (own_tests g))
unfolding end_tests
figure_asked Fill = refl
figure_asked (Pixel p) = refl
figure_asked (Line s e) = ends_asked s e [] refl
figure_asked (Connected s e) = ends_asked s e [] refl
figure_asked (Triangle v1 v2 v3) = vertices_asked v1 v2 v3
figure_asked (Outline v1 v2 v3) = vertices_asked v1 v2 v3
figure_asked (Circle c d) = circle_asked c d

one_figure : (g : Figure) → Single (of_figure g)
one_figure Fill = one_done
one_figure (Pixel p) = one_done
one_figure (Line s e) = one_test one_done
one_figure (Connected s e) = one_test one_done
one_figure (Triangle v1 v2 v3) = one_test one_done
one_figure (Outline v1 v2 v3) = one_test one_done
one_figure (Circle c d) = one_test (one_test one_done)

-- ---- OF A CALL: the library's number is the table's, and the table has one
pub call_number : (f : Frame) (n : ℕ) (o : Call) → of_call f n o (number_of f n o)
unfolding file_tests
call_number f n (draw g colour) = frame_asked f _ n (λ A. asked _ _ (decides_leb (2 ^ f.depth) colour) (λ e. figure_asked g))
call_number f n (read_image s) = frame_asked f _ n (λ A. asked _ _ (format_decides f) (λ e. file_asked f s (has_format f e) A.described))

one_call : (f : Frame) (n : ℕ) (o : Call) → Single (of_call f n o)
one_call f n (draw g colour) = one_frame f (one_test (one_figure g)) n
one_call f n (read_image s) = one_frame f (one_test (one_test (one_test (one_test one_done)))) n

-- so that 0 is answered exactly where the call is accepted
pub call_accepted : (f : Frame) (n : ℕ) (o : Call) → (number_of f n o ≡ 0) ↔ Accepts f n o
call_accepted f n o = (λ z. subst (of_call f n o) z (call_number f n o), λ a. one_call f n o _ _ (call_number f n o) a)
