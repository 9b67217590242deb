-- WITHOUT A GAP NOTHING CHANGED (02, T-07: "With the distance equal to the old row size all old answers and bytes are the same"), once over all depths: for
-- any numbers, the frame that `Frame::packed` describes has the size, the places of pixels, the answers and the bytes that 01 gave. Assumes nothing.
use mathlib.Core.Path.{◌≡◌, refl, sym, ap, ◌∙◌}
use mathlib.Core.Bool.{Bool, true, false, cond, not, ◌||◌}
use mathlib.Core.List.{List, [], ◌∷◌, ◌++◌}
use Prim.Native.Nat.{ℕ, zero, suc, ◌^◌, ◌≤◌}
use native.Mathlib.Nat.{le_refl}
use native.Mathlib.Omega.{arith}
use lib.Dec.{ltb, leb}
use lib.IntN.{nat_abs}
use lib.ListN.{length}
use borrow.Author.Tests.{ltb-false, le-ltb, not-false}
use Rattle.whole.proofs.Tests.{or_false}
use Rattle.refusals.specs.Answer.{if_done}
use Rattle.refusals.specs.First.{Tests, first}
use Rattle.refusals.proofs.First.{exactly_0, both_pass}
use Rattle.geometry.specs.declared.Point.{Point}
use Rattle.layout.specs.Count.{marked}
use Rattle.layout.specs.Layout.{Layout, shown}
use Rattle.layout.specs.Packed.{good_depth, row_bytes}
use Rattle.frames.specs.declared.Drawn.{Drawn}
use Rattle.frames.specs.declared.Frame.{Frame}
use Rattle.frames.specs.Answer.{sized, drawn, read}
use Rattle.frames.specs.Description.{described, packed_distance, packed, raster, size, no_distance, too_short, is_outside, description_tests, frame_tests, read_tests, colour_at}
use Rattle.frames.specs.Drawing.{Drawing, outcome}
use Rattle.frames.proofs.Refusals.{packed_apart}
use Rattle.picture.specs.Before.{size_before, description_before, sized_before, raster_before, outcome_before, read_before}

module _ (w h d : ℕ) (big : Bool) where
  abbrev f : Frame
  f = packed w h d big

  abbrev g : Frame
  g = described w h d big (row_bytes w d)

  module _ (depth : not (good_depth d) ≡ false) (sides : (ltb 2048 w || ltb 2048 h) ≡ false) where
    -- a row is short, so that its bytes are the distance
    row_is : (packed_distance w d ≡ row_bytes w d) × (row_bytes w d ≤ 8192)
    row_is = packed_apart w d (not-false _ depth) (ltb-false _ _ (or_false _ _ sides).0)

    pub same_frame : f ≡ g
    same_frame = ap (described w h d big) row_is.0

    near : no_distance g ≡ false
    near = let s = row_is.1 in rw (le-ltb (row_bytes w d) (row_bytes w d) (le_refl (row_bytes w d))) (le-ltb 16384 (row_bytes w d) (omega arith))

    -- its places and its size are the old ones
    pub same_raster : raster f ≡ raster_before w h d big
    same_raster = ap raster same_frame

    pub same_size : size f ≡ size_before w h d
    unfolding size
    same_size = ap size same_frame

  -- what passes the tests of a description passes those of 1 and 2
  passes : (xs : Tests) → first (description_tests f ++ xs) ≡ 0 → (not (good_depth d) ≡ false) × ((ltb 2048 w || ltb 2048 h) ≡ false)
  unfolding description_tests
  passes xs z =
      let t = (exactly_0 (description_tests f) refl).0 (both_pass (description_tests f) xs refl z).0 in
      (t.0, t.1.0)

  -- 14 never applies: what follows is what followed
  same_number : (xs ys : Tests) → (not (good_depth d) ≡ false → (ltb 2048 w || ltb 2048 h) ≡ false → first xs ≡ first ys)
      → first (description_tests f ++ xs) ≡ first (description_before w h d ++ ys)
  unfolding description_tests
  same_number xs ys same = by (not (good_depth d)) (ltb 2048 w || ltb 2048 h) refl refl
    where
      by : (s t : Bool) → not (good_depth d) ≡ s → (ltb 2048 w || ltb 2048 h) ≡ t
          → first ((1, s) ∷ (2, t) ∷ (14, no_distance f) ∷ xs) ≡ first ((1, s) ∷ (2, t) ∷ ys)
      by true t p q = refl
      by false true p q = refl
      by false false p q = ap (λ (k : Bool). cond k 14 (first xs)) (ap no_distance (same_frame p q) ∙ near p q) ∙ same p q

  -- an answer is made of the number and a value, which a refusal does not show
  same_value : {P A : Type 0} (made : ℕ → P → A) → ((n : ℕ) (p q : P) → made (suc n) p ≡ made (suc n) q) → (xs ys : Tests)
      → (not (good_depth d) ≡ false → (ltb 2048 w || ltb 2048 h) ≡ false → first xs ≡ first ys) → (value before : P)
      → (not (good_depth d) ≡ false → (ltb 2048 w || ltb 2048 h) ≡ false → value ≡ before)
      → made (first (description_tests f ++ xs)) value ≡ made (first (description_before w h d ++ ys)) before
  same_value made refused xs ys same value before equal =
      by (first (description_tests f ++ xs)) refl ∙ ap (λ (n : ℕ). made n before) (same_number xs ys same)
    where
      by : (n : ℕ) → first (description_tests f ++ xs) ≡ n → made (first (description_tests f ++ xs)) value ≡ made (first (description_tests f ++ xs)) before
      by zero z = ap (made (first (description_tests f ++ xs))) (equal (passes xs z).0 (passes xs z).1)
      by (suc n) z = ap (λ (n : ℕ). made n value) z ∙ refused n value before ∙ sym (ap (λ (n : ℕ). made n before) z)

  -- ---- the answers and the bytes
  pub same_sized : sized (first (description_tests f)) (size f) ≡ sized_before w h d
  unfolding description_tests
  same_sized = same_value sized (λ n p q. refl) [] [] (λ p q. refl) (size f) (size_before w h d) same_size

  short_same : (len : ℕ) → not (good_depth d) ≡ false → (ltb 2048 w || ltb 2048 h) ≡ false → too_short f len ≡ ltb len (size_before w h d)
  short_same len p q = ap (λ (n : ℕ). ltb len n) (same_size p q)

  pub same_outcome : (dr : Drawing) (b : List ℕ) → outcome f dr b ≡ outcome_before w h d big dr b
  unfolding description_tests frame_tests outcome
  same_outcome dr b =
      same_value {P = ℕ × List ℕ} {A = Drawn × List ℕ} (λ n m. (drawn n m.0, if_done n m.1 b)) (λ n p q. refl)
      ((3, too_short f (length b)) ∷ (4, leb (2 ^ d) dr.colour) ∷ dr.own) ((3, ltb (length b) (size_before w h d)) ∷ (4, leb (2 ^ d) dr.colour) ∷ dr.own)
      (λ p q. ap (λ (t : Bool). first ((3, t) ∷ (4, leb (2 ^ d) dr.colour) ∷ dr.own)) (short_same (length b) p q))
      (marked (raster f) dr.figure dr.colour b) (marked (raster_before w h d big) dr.figure dr.colour b)
      (λ p q. ap (λ (l : Layout). marked l dr.figure dr.colour b) (same_raster p q))

  pub same_read : (p : Point) (b : List ℕ) → read (first (read_tests f (length b) p)) (colour_at f p b) ≡ read_before w h d big p b
  unfolding description_tests frame_tests read_tests
  same_read p b =
      same_value read (λ n p q. refl) ((3, too_short f (length b)) ∷ (8, is_outside f p) ∷ []) ((3, ltb (length b) (size_before w h d)) ∷ (8, is_outside f p) ∷ [])
      (λ u v. ap (λ (t : Bool). first ((3, t) ∷ (8, is_outside f p) ∷ [])) (short_same (length b) u v)) (colour_at f p b) (shown (raster_before w h d big) b (nat_abs p.0) (nat_abs p.1))
      (λ u v. ap (λ (l : Layout). shown l b (nat_abs p.0) (nat_abs p.1)) (same_raster u v))
