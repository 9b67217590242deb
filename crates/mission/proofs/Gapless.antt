-- T-07: "With the distance equal to the old row size all old answers and bytes are the same", once over all depths, and of every operation on a frame. Assumes nothing.
use mathlib.Core.Path.{◌≡◌, refl, sym, ap, subst}
use mathlib.Core.Bool.{Bool, cond}
use mathlib.Core.List.{List}
use mathlib.Core.Logic.{⊎_elim}
use Prim.Native.Nat.{ℕ, ◌+◌, ◌*◌, ◌/◌, ◌<◌}
use native.Mathlib.Omega.{arith}
use lib.IntN.{nat_abs}
use lib.ListN.{length}
use borrow.Author.Tests.{le-leb}
use Rattle.geometry.specs.declared.Point.{Point}
use Rattle.layout.specs.Packed.{row_bytes}
use Rattle.frames.specs.declared.Frame.{Frame}
use Rattle.frames.specs.declared.Read.{Read}
use Rattle.frames.specs.declared.Size.{Size}
use Rattle.frames.specs.Description.{packed_distance}
use Rattle.frames.proofs.Frame.new.Reads as new
use Rattle.frames.proofs.Frame.packed.Reads as packed
use Rattle.lights.specs.declared.Lights.{Lights}
use Rattle.picture.specs.Calls.{Call}
use Rattle.mission.specs.Answers.{Answered, FrameSize, PixelRead, PixelsLit, ImageSize, Image, ImageWritten, Seen, Leaves, Called, Given, GivenGapless}
use Rattle.mission.specs.Arguments.{Promises}
use Rattle.mission.specs.Before.{Gapless, gapless, description_before, frame_before, FrameSizeBefore, PixelReadBefore, PixelsLitBefore, ImageSizeBefore, ImageWrittenBefore, CalledBefore}
use Rattle.mission.specs.Bytes.{row_takes, colour_of}
use Rattle.mission.specs.Counts.{Many}
use Rattle.mission.specs.Numbers.{InFrame, NoFormat, FileTakes, NoRoom, Test, applies, passes, done, description, frame, behind_frame}
use Rattle.mission.proofs.Numbers.{row_few}

module _ (f : Frame) (row : Gapless f) where
  -- ---- the table: 14 never applies, and 3 asks for the bytes of rows one behind the other
  description_before_lem : {rest old : ℕ → Type 0} {n : ℕ} → (f.distance ≡ row_takes f → rest n → old n) → description f rest n → description_before f old n
  description_before_lem same (applies d e) = applies d e
  description_before_lem same (passes d (applies l e)) = passes d (applies l e)
  description_before_lem same (passes d (passes l (applies b e))) = absurd (⊎_elim (λ h. omega (arith, h, row d l)) (λ h. omega (arith, h, row d l, row_few f d l)) b)
  description_before_lem same (passes d (passes l (passes b r))) = passes d (passes l (same (row d l) r))

  without_gap : f.distance ≡ row_takes f → f ≡ gapless f
  without_gap e i = record { width = f.width; height = f.height; depth = f.depth; big = f.big; distance = e i }

  -- where the answer is 0 the frame is the one without a gap
  same_frame : {rest : ℕ → Type 0} → description f rest 0 → f ≡ gapless f
  same_frame (passes d (passes l t)) = without_gap (row d l)
  same_frame (passes d (applies l e)) = absurd (omega (arith, e))
  same_frame (applies d e) = absurd (omega (arith, e))

  -- ---- any answer on a frame, or on a frame over m bytes, whatever comes behind its tests, and whatever is answered and left
  module _ (rest : Frame → ℕ → Type 0) {n : ℕ} {zeros : Type 0} (values : Frame → Type 0) where
    sizes_before : Answered (description f (rest f)) n zeros (values f) → Answered (description_before f (rest (gapless f))) n zeros (values (gapless f))
    sizes_before a =
        record {
          number = description_before_lem (λ e r. subst (λ (g : Frame). rest g n) (without_gap e) r) a.number;
          refused = a.refused;
          accepted = λ z. subst values (same_frame (subst (description f (rest f)) z a.number)) (a.accepted z);
        }

    answers_before : (m : ℕ) → Answered (frame f m (rest f)) n zeros (values f) → Answered (frame_before f m (rest (gapless f))) n zeros (values (gapless f))
    answers_before m a =
        record {
          number = description_before_lem (λ e r. subst (λ (g : Frame). Test 3 (m < g.distance * g.height) (rest g) n) (without_gap e) r) a.number;
          refused = a.refused;
          accepted = λ z. subst values (same_frame (subst (frame f m (rest f)) z a.number)) (a.accepted z);
        }

  -- ---- EVERY OPERATION ON A FRAME
  pub frame_size_before : {r : Size} → FrameSize f r → FrameSizeBefore f r
  frame_size_before {r} a = sizes_before (λ g. done) (λ g. r.bytes ≡ g.distance * g.height) a

  pub pixel_read_before : (b : List ℕ) (p : Point) {r : Read} → PixelRead f b p r → PixelReadBefore f b p r
  pixel_read_before b p {r} a = answers_before (λ g. Test 8 (InFrame g p → ⊥) done) (λ g. r.colour ≡ colour_of g b (nat_abs p.0) (nat_abs p.1)) (length b) a

  pub pixels_lit_before : (b : List ℕ) {r : Lights} → PixelsLit f b r → PixelsLitBefore f b r
  pixels_lit_before b {r} a =
      answers_before (λ g. Test 10 (g.depth ≡ 1 → ⊥) done) (λ g. Many (λ x y. (x < g.width) × (y < g.height) × (colour_of g b x y ≡ 1)) r.count) (length b) a

  pub image_size_before : {r : Size} → ImageSize f r → ImageSizeBefore f r
  image_size_before {r} a = sizes_before (λ g. Test 10 (NoFormat g) done) (λ g. FileTakes g r.bytes) a

  pub image_written_before : (b out after : List ℕ) {r : Size} → ImageWritten f b out r after → ImageWrittenBefore f b out r after
  image_written_before b out after {r} a = answers_before (λ g. Test 10 (NoFormat g) (Test 9 (NoRoom g (length out)) done)) (λ g. Image g b out r.bytes after) (length b) a

  pub called_before : (o : Call) (b after : List ℕ) {number count : ℕ} → Called f o b number count after → CalledBefore f o b number count after
  called_before o b after {count = count} a = answers_before (λ g. behind_frame g o) (λ g. Seen g o count × Leaves g o b after) (length b) a

-- ---- THE DESCRIPTION that is given, and the one without a gap, which is such a frame
pub described_as_given : Promises new.Post (λ a r. Given a.0 a.1.0 a.1.1.0 a.1.1.1.0 r × (r.distance ≡ a.1.1.1.1.0))
described_as_given κs a r s h =
    subst (λ (f : Frame). Given a.0 a.1.0 a.1.1.0 a.1.1.1.0 f × (f.distance ≡ a.1.1.1.1.0)) (sym h) ((refl, refl, refl, refl), refl)

pub packed_as_given : Promises packed.Post (λ a r. GivenGapless a.0 a.1.0 a.1.1.0 a.1.1.1.0 r)
unfolding packed_distance row_bytes
packed_as_given κs a r s h =
    subst (GivenGapless a.0 a.1.0 a.1.1.0 a.1.1.1.0) (sym h) ((refl, refl, refl, refl), λ l. ap (λ (t : Bool). cond t ((a.0 * a.1.1.0 + 7) / 8) 0) (le-leb _ _ l))

pub packed_gapless : {w h d : ℕ} {big : Bool} {f : Frame} → GivenGapless w h d big f → Gapless f
packed_gapless {f = f} g d l = g.1 (omega (arith, row_few f d l))
