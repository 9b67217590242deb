-- ONE PICTURE, ONE FRAME. Two zero-filled buffers of one length under one description, and any two lists of calls, refused ones among them: the bytes
-- afterwards are equal exactly if every pixel of the frame has the same colour in both. Assumes nothing.
use mathlib.Core.Path.{◌≡◌, refl, sym, ap, subst, ◌∙◌}
use mathlib.Core.Bool.{Bool, true, false, cond}
use mathlib.Core.List.{List, [], ◌∷◌}
use mathlib.Core.Logic.{◌↔◌}
use Prim.Native.Nat.{ℕ, zero, suc, ◌^◌, ◌≤◌, ◌<◌}
use native.Mathlib.Nat.{one-le-pow}
use native.Mathlib.Omega.{arith}
use lib.IntN.{pos}
use lib.ListN.{length, drop, replicate, length-replicate}
use lib.Pow.{pow_pos}
use borrow.Author.Tests.{leb-false}
use Rattle.refusals.specs.Answer.{if_done}
use Rattle.refusals.proofs.Answer.{not_done}
use Rattle.refusals.specs.First.{first}
use Rattle.refusals.proofs.First.{refused, both_pass, fails_alone}
use Rattle.layout.specs.Layout.{Picture, shown, rendered}
use Rattle.layout.specs.Packed.{field, parts}
use Rattle.layout.proofs.Fields.{pow_mul}
use Rattle.layout.proofs.Placing.{Everywhere, Placing}
use Rattle.layout.proofs.Pictures.{Colour, Agree, rendered_length, rendered_cong, rendered_again, rendered_shown, shown_rendered, shown_colour, shown_zeros, one_picture}
use Rattle.layout.proofs.Places.{depth_of}
use Rattle.frames.specs.declared.Frame.{Frame}
use Rattle.frames.specs.Description.{raster, size, no_colour, frame_tests}
use Rattle.frames.specs.Drawing.{Drawing}
use Rattle.frames.specs.Judged.{Described, Accepted}
use Rattle.frames.proofs.Refusals.{is_accepted, frame_numbered, sound}
use Rattle.headers.specs.Header.{header_said}
use Rattle.netpbm.specs.Image.{big_first}
use Rattle.netpbm.proofs.Transfers.{big_described}
use Rattle.drawing.specs.Drawing.{figure_drawing}
use Rattle.picture.specs.Calls.{Call, draw, read_image, Change, draws, loads, change_of, number_of, blank, shown_after, picture_after, after_call, after_calls}

-- a zero-filled buffer of n bytes
abbrev pub zeros : ℕ → List ℕ
zeros n = replicate n 0

-- every pixel of the frame has a colour
abbrev pub Colours : Frame → Picture → Type 0
Colours f g = Everywhere (raster f) (λ x y. Colour (raster f) (g x y))

-- ---- what is asked of a change: it looks at no pixel outside the frame, and where its tests pass it shows colours
pub record Lawful (f : Frame) (c : Change) : Type 0 where
  pub local : (g h : Picture) → Agree (raster f) g h → Agree (raster f) (c.changes f g) (c.changes f h)
  pub colours : Described f → first (c.own f) ≡ 0 → (g : Picture) → Colours f g → Colours f (c.changes f g)

-- a colour below 2^depth fits the digits of its pixel
pub colour_fits : (f : Frame) → Described f → (v : ℕ) → v < 2 ^ f.depth → Colour (raster f) v
colour_fits f D v h =
    let d = f.depth in
    subst (λ (x : ℕ). v < x) (sym (pow_mul (field d) (parts d) ∙ ap (λ (x : ℕ). 2 ^ x) (depth_of d D.depth).bits)) h

draws_lawful : (f : Frame) (d : Drawing) → Lawful f (draws d)
draws_lawful f d =
    record {
      local = λ g h a x y hx hy. ap (λ (v : ℕ). cond (d.figure (pos x) (pos y)) d.colour v) (a x y hx hy);
      colours = λ D z g c x y hx hy.
          let below = leb-false _ _ (fails_alone 3 _ (both_pass ((4, no_colour f d.colour) ∷ []) d.own refl z).0) in
          one (d.figure (pos x) (pos y)) (colour_fits f D d.colour below) (c x y hx hy);
    }
  where
    one : (t : Bool) {v : ℕ} → Colour (raster f) d.colour → Colour (raster f) v → Colour (raster f) (cond t d.colour v)
    one true a b = a
    one false a b = b

-- a file's pixels have colours of its depth, and so of the frame's
loads_lawful : (f : Frame) (s : List ℕ) → Lawful f (loads s)
loads_lawful f s =
    record {
      local = λ g h a x y hx hy. refl;
      colours = λ D z g c x y hx hy. shown_colour (raster (big_first f)) (sound (big_first f) (big_described f D)) (drop (header_said f.depth s).start s) x y;
    }

pub lawful : (f : Frame) (o : Call) → Lawful f (change_of o)
lawful f (draw g c) = draws_lawful f (figure_drawing g c)
lawful f (read_image s) = loads_lawful f s

module _ (f : Frame) (n : ℕ) where
  -- ---- an accepted description with room in the buffer
  module _ (A : Accepted f n) where
    P : Placing (raster f)
    P = sound f A.described

    room : (b : List ℕ) → length b ≡ n → (raster f).size ≤ length b
    unfolding size
    room b e = subst (λ (k : ℕ). (raster f).size ≤ k) (sym e) A.room

    -- a call changes the bytes of a picture into those of the changed one
    after_rendered : (o : Call) (g : Picture) (b : List ℕ) → length b ≡ n → Colours f g
        → after_call f o (rendered (raster f) g b) ≡ rendered (raster f) (shown_after f n o g) b
    after_rendered o g b e c =
        ap (λ (k : ℕ). if_done (number_of f k o) (rendered (raster f) ((change_of o).changes f (shown (raster f) a)) a) a) (rendered_length (raster f) P g b ∙ e)
        ∙ by (number_of f n o)
      where
        a : List ℕ
        a = rendered (raster f) g b

        by : (k : ℕ)
            → if_done k (rendered (raster f) ((change_of o).changes f (shown (raster f) a)) a) a ≡ rendered (raster f) (λ x y. if_done k ((change_of o).changes f g x y) (g x y)) b
        by zero =
            rendered_again (raster f) P ((change_of o).changes f (shown (raster f) a)) g b
            ∙ rendered_cong (raster f) P _ _ b ((lawful f o).local (shown (raster f) a) g (λ x y hx hy. shown_rendered (raster f) P g b (room b e) x y hx hy (c x y hx hy)))
        by (suc k) = refl

    colours_after : (o : Call) (g : Picture) → Colours f g → Colours f (shown_after f n o g)
    colours_after o g c x y hx hy = by (number_of f n o) refl
      where
        by : (k : ℕ) → number_of f n o ≡ k → Colour (raster f) (if_done k ((change_of o).changes f g x y) (g x y))
        by zero e = (lawful f o).colours A.described (both_pass (frame_tests f n) ((change_of o).own f) (frame_numbered f n) e).1 g c x y hx hy
        by (suc k) e = c x y hx hy

    pub colours_after_calls : (os : List Call) (g : Picture) → Colours f g → Colours f (picture_after f n os g)
    colours_after_calls [] g c = c
    colours_after_calls (o ∷ os) g c = colours_after_calls os (shown_after f n o g) (colours_after o g c)

    calls_rendered : (os : List Call) (g : Picture) (b : List ℕ) → length b ≡ n → Colours f g
        → after_calls f os (rendered (raster f) g b) ≡ rendered (raster f) (picture_after f n os g) b
    calls_rendered [] g b e c = refl
    calls_rendered (o ∷ os) g b e c = ap (after_calls f os) (after_rendered o g b e c) ∙ calls_rendered os (shown_after f n o g) b e (colours_after o g c)

    -- what calls leave of any bytes: those of the picture that they leave
    pub bytes_after : (os : List Call) (b : List ℕ) → length b ≡ n → after_calls f os b ≡ rendered (raster f) (picture_after f n os (shown (raster f) b)) b
    bytes_after os b e =
        ap (after_calls f os) (sym (rendered_shown (raster f) P b)) ∙ calls_rendered os (shown (raster f) b) b e (λ x y hx hy. shown_colour (raster f) P b x y)

    blank_colours : Colours f blank
    blank_colours x y hx hy = one-le-pow (parts f.depth) (2 ^ field f.depth) (pow_pos (field f.depth))

    -- of zeros
    zeros_after : (os : List Call) → after_calls f os (zeros n) ≡ rendered (raster f) (picture_after f n os blank) (zeros n)
    zeros_after os =
        ap (after_calls f os) (sym (rendered_shown (raster f) P (zeros n)) ∙ rendered_cong (raster f) P _ blank (zeros n) (λ x y hx hy. shown_zeros (raster f) n x y))
        ∙ calls_rendered os blank (zeros n) (length-replicate n 0) blank_colours

    accepted_case : (xs ys : List Call) → (after_calls f xs (zeros n) ≡ after_calls f ys (zeros n)) ↔ Agree (raster f) (picture_after f n xs blank) (picture_after f n ys blank)
    accepted_case xs ys =
        let h =
        one_picture (raster f) P (picture_after f n xs blank) (picture_after f n ys blank) (zeros n) (room (zeros n) (length-replicate n 0))
        (colours_after_calls xs blank blank_colours) (colours_after_calls ys blank blank_colours) in
        (λ e. h.0 (sym (zeros_after xs) ∙ e ∙ zeros_after ys), λ a. zeros_after xs ∙ h.1 a ∙ sym (zeros_after ys))

  -- ---- another description, or too short a buffer: every call is refused
  module _ (no : first (frame_tests f n) ≡ 0 → ⊥) where
    refuses : (o : Call) → number_of f n o ≡ 0 → ⊥
    refuses o z = no (refused (frame_tests f n) ((change_of o).own f) refl no ∙ z)

    pub no_bytes : (os : List Call) (b : List ℕ) → length b ≡ n → after_calls f os b ≡ b
    no_bytes [] b e = refl
    no_bytes (o ∷ os) b e =
        let after = rendered (raster f) ((change_of o).changes f (shown (raster f) b)) b in
        ap (after_calls f os) (ap (λ (k : ℕ). if_done (number_of f k o) after b) e ∙ not_done (refuses o) after b) ∙ no_bytes os b e

    pub no_pixels : (os : List Call) (before : Picture) (x y : ℕ) → picture_after f n os before x y ≡ before x y
    no_pixels [] before x y = refl
    no_pixels (o ∷ os) before x y = no_pixels os (shown_after f n o before) x y ∙ not_done (refuses o) ((change_of o).changes f before x y) (before x y)

  -- a description is accepted over n bytes, or every call is refused
  pub either_way : {Q : Type 0} → (Accepted f n → Q) → ((first (frame_tests f n) ≡ 0 → ⊥) → Q) → Q
  either_way {Q = Q} accepted refusing = by (first (frame_tests f n)) refl
    where
      by : (k : ℕ) → first (frame_tests f n) ≡ k → Q
      by zero e = accepted (is_accepted f n e)
      by (suc k) e = refusing (λ z. omega (arith, e, z))

  -- ---- ONE PICTURE, ONE FRAME, for every description, every length and any two lists of calls
  pub one_picture_one_frame : (xs ys : List Call)
      → (after_calls f xs (zeros n) ≡ after_calls f ys (zeros n)) ↔ ((x y : ℕ) → x < f.width → y < f.height → picture_after f n xs blank x y ≡ picture_after f n ys blank x y)
  one_picture_one_frame xs ys =
      either_way (λ A. accepted_case A xs ys)
      (λ no. (
        λ e x y hx hy. no_pixels no xs blank x y ∙ sym (no_pixels no ys blank x y),
        λ h. no_bytes no xs (zeros n) (length-replicate n 0) ∙ sym (no_bytes no ys (zeros n) (length-replicate n 0)),
      ))
