-- What a count says (02, T-02: "How much of it could be seen"): of any call that draws, over the outcome that each contract is equal to. Assumes nothing.
use mathlib.Core.Path.{◌≡◌, refl, sym, ap, subst, ◌∙◌}
use mathlib.Core.Bool.{false}
use mathlib.Core.List.{List}
use mathlib.Core.Logic.{◌↔◌}
use Prim.Native.Nat.{ℕ, zero, suc, ◌*◌, ◌^◌, ◌≤◌, ◌<◌}
use native.Mathlib.Nat.{mul-le-mul}
use native.Mathlib.Omega.{arith}
use lib.IntN.{pos}
use lib.ListN.{length}
use Rattle.refusals.specs.Answer.{if_done}
use Rattle.refusals.specs.First.{first}
use Rattle.layout.specs.Count.{pixels_in, lit_in, marked}
use Rattle.layout.specs.Figure.{everywhere}
use Rattle.layout.specs.Layout.{painted, shown, coloured}
use Rattle.layout.proofs.Placing.{Placing, Everywhere}
use Rattle.layout.proofs.Painted.{painted_length}
use Rattle.layout.proofs.Pictures.{Colour, shown_rendered, painted_rendered}
use Rattle.layout.proofs.Pixels.{pixels_none, none_of, pixels_everywhere, pixels_le, marked_none, lit_painted}
use Rattle.frames.specs.declared.Frame.{Frame}
use Rattle.frames.specs.declared.Drawn.{Drawn}
use Rattle.frames.specs.Answer.{drawn}
use Rattle.frames.specs.Description.{raster, size}
use Rattle.frames.specs.Drawing.{Drawing, fill_drawing, call_tests, outcome}
use Rattle.frames.specs.Judged.{Drawable}
use Rattle.frames.proofs.Calls.{drawable}
use Rattle.frames.proofs.Refusals.{sound}
use Rattle.picture.proofs.Picture.{colour_fits}

-- no pixel of the frame is in the figure
abbrev pub Unseen : Frame → Drawing → Type 0
Unseen f d = Everywhere (raster f) (λ x y. d.figure (pos x) (pos y) ≡ false)

module _ (f : Frame) (d : Drawing) (b : List ℕ) where
  abbrev number : ℕ
  number = first (call_tests f (length b) d)

  abbrev made : ℕ × List ℕ
  made = marked (raster f) d.figure d.colour b

  may_draw : number ≡ 0 → Drawable f (length b) d.colour
  may_draw z = drawable f (length b) d refl z

  -- by the number
  by_number : (n : ℕ) → number ≡ n → outcome f d b ≡ (drawn n made.0, if_done n made.1 b)
  unfolding outcome
  by_number n z = ap (λ (n : ℕ). (drawn n made.0, if_done n made.1 b)) z

  -- an accepted call: the frame's pixels that are in the figure are counted, and get the colour
  pub accepted_count : number ≡ 0 → outcome f d b ≡ (drawn 0 (pixels_in (raster f) d.figure), painted (raster f) d.figure d.colour b)
  accepted_count z = by_number 0 z

  -- a figure off the frame counts 0 and changes no byte, accepted or refused
  pub off_the_frame : Unseen f d → ((outcome f d b).0.count ≡ 0) × ((outcome f d b).1 ≡ b)
  off_the_frame off = go number refl
    where
      go : (n : ℕ) → number ≡ n → ((outcome f d b).0.count ≡ 0) × ((outcome f d b).1 ≡ b)
      go zero z =
          let nothing = marked_none (raster f) (sound f (may_draw z).accepted.described) d.colour b d.figure off in
          let e = accepted_count z ∙ ap (λ (m : ℕ × List ℕ). (drawn 0 m.0, m.1)) nothing in
          (ap (λ (p : Drawn × List ℕ). p.0.count) e, ap (λ (p : Drawn × List ℕ). p.1) e)
      go (suc n) z =
          let e = by_number (suc n) z in
          (ap (λ (p : Drawn × List ℕ). p.0.count) e, ap (λ (p : Drawn × List ℕ). p.1) e)

  -- the count of an accepted call is 0 exactly if no pixel of the frame is in its figure
  pub none_seen : number ≡ 0 → (outcome f d b).0.count ≡ 0 ↔ Unseen f d
  none_seen z =
      let e = ap (λ (p : Drawn × List ℕ). p.0.count) (accepted_count z) in
      (λ h. none_of (raster f) d.figure (sym e ∙ h), λ off. e ∙ pixels_none (raster f) d.figure off)

  -- no count is above 4,194,304
  pub never_above : (outcome f d b).0.count ≤ 4194304
  never_above = go number refl
    where
      go : (n : ℕ) → number ≡ n → (outcome f d b).0.count ≤ 4194304
      go zero z =
          let D = (may_draw z).accepted.described in
          let m : f.height * f.width ≤ 2048 * 2048 = mul-le-mul D.height D.width in
          omega (arith, ap (λ (p : Drawn × List ℕ). p.0.count) (accepted_count z), pixels_le (raster f) d.figure)
      go (suc n) z = omega (arith, ap (λ (p : Drawn × List ℕ). p.0.count) (by_number (suc n) z))

-- filling counts every pixel of the frame
pub filling_counts_all : (f : Frame) (colour : ℕ) (b : List ℕ) → first (call_tests f (length b) (fill_drawing colour)) ≡ 0
    → (outcome f (fill_drawing colour) b).0.count ≡ f.height * f.width
filling_counts_all f colour b z = ap (λ (p : Drawn × List ℕ). p.0.count) (accepted_count f (fill_drawing colour) b z) ∙ pixels_everywhere (raster f)

-- ---- after `fill 0` and a call in colour 1, both accepted, the pixels of colour 1 are as many as the call counts
module _ (f : Frame) (d : Drawing) (one : d.colour ≡ 1) (b : List ℕ) (y : first (call_tests f (length b) (fill_drawing 0)) ≡ 0) (z : first (call_tests f (length b) d) ≡ 0) where
  abbrev filled : List ℕ
  filled = (outcome f (fill_drawing 0) b).1

  accepted : Drawable f (length b) d.colour
  accepted = may_draw f d b z

  P : Placing (raster f)
  P = sound f accepted.accepted.described

  filled_is : filled ≡ painted (raster f) everywhere 0 b
  filled_is = ap (λ (p : Drawn × List ℕ). p.1) (accepted_count f (fill_drawing 0) b y)

  same_length : length filled ≡ length b
  same_length = ap length filled_is ∙ painted_length (raster f) P everywhere 0 b

  room : (c : List ℕ) → length c ≡ length b → (raster f).size ≤ length c
  unfolding size
  room c e = subst (λ (k : ℕ). (raster f).size ≤ k) (sym e) accepted.accepted.room

  fits : (v : ℕ) → v < 2 ^ f.depth → Colour (raster f) v
  fits v h = colour_fits f accepted.accepted.described v h

  dark : Everywhere (raster f) (λ x y. shown (raster f) filled x y ≡ 0)
  dark x y hx hy =
      ap (λ (c : List ℕ). shown (raster f) c x y) (filled_is ∙ painted_rendered (raster f) P everywhere 0 b)
      ∙ shown_rendered (raster f) P (coloured everywhere 0 (shown (raster f) b)) b (room b refl) x y hx hy (fits 0 (omega (arith, accepted.below)))

  pub lit_are_counted : lit_in (raster f) (outcome f d filled).1 ≡ (outcome f d filled).0.count
  lit_are_counted =
      let e = accepted_count f d filled (ap (λ (n : ℕ). first (call_tests f n d)) same_length ∙ z) in
      ap (λ (p : Drawn × List ℕ). lit_in (raster f) p.1) e
      ∙ ap (λ (c : ℕ). lit_in (raster f) (painted (raster f) d.figure c filled)) one
      ∙ lit_painted (raster f) P d.figure filled (subst (Colour (raster f)) one (fits d.colour accepted.below)) (room filled same_length) dark
      ∙ sym (ap (λ (p : Drawn × List ℕ). p.0.count) e)
