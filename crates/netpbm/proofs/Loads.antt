-- The number of reading as the code comes to it, test by test, what it says that it is 0, and the answer. Assumes nothing.
use mathlib.Core.Path.{◌≡◌, refl, sym, ap, ◌∙◌}
use mathlib.Core.Bool.{true, false}
use mathlib.Core.List.{List, [], ◌∷◌}
use Prim.Native.Nat.{ℕ, ◌+◌, ◌≤◌, ◌<◌}
use lib.Dec.{eqb}
use lib.ListN.{length}
use borrow.Author.Tests.{lt-ltb, le-ltb, ltb-false, eqb-true, not-false}
use Rattle.std.specs.Prelude.{Option, Some, None, is_some, is_none, unwrap_or}
use Rattle.whole.proofs.Tests.{and_true}
use Rattle.refusals.specs.Answer.{if_done}
use Rattle.refusals.proofs.Answer.{not_done, is_done}
use Rattle.refusals.specs.First.{Tests, first}
use Rattle.refusals.proofs.First.{exactly_0, both_pass, passed, stops, goes_on}
use Rattle.headers.specs.declared.Header.{Header}
use Rattle.headers.specs.Header.{headed, header_of, header_said}
use Rattle.layout.specs.Layout.{rendered}
use Rattle.frames.specs.declared.Frame.{Frame}
use Rattle.frames.specs.Description.{raster, size, frame_tests}
use Rattle.frames.proofs.Refusals.{frame_numbered}
use Rattle.netpbm.specs.Image.{big_first}
use Rattle.netpbm.specs.Written.{no_format}
use Rattle.netpbm.specs.Reading.{other_size, few_pixels, file_tests, load_tests, file_picture, loaded}

-- ---- the tests of a file, by a header that is its own
abbrev pub few : Frame → ℕ → Header → Tests
few f bytes h = (12, few_pixels f bytes h) ∷ []

abbrev sized_and_few : Frame → ℕ → Header → Tests
sized_and_few f bytes h = (13, other_size f h) ∷ few f bytes h

abbrev headed_and_sized : Frame → ℕ → Option Header → Tests
headed_and_sized f bytes o = (11, is_none o) ∷ sized_and_few f bytes (unwrap_or o (headed 0 0 0))

module _ (f : Frame) (s : List ℕ) (t₁ : no_format f ≡ false) where
  formatted : {o : Option Header} → header_of f.depth s ≡ o → {r : ℕ} → r ≡ first (headed_and_sized f (length s) o) → r ≡ first (file_tests f s)
  unfolding file_tests
  formatted e k =
      goes_on 10 (no_format f) (headed_and_sized f (length s) (header_of f.depth s)) t₁ (k ∙ ap (λ (o : Option Header). first (headed_and_sized f (length s) o)) (sym e))

  pub no_header : header_of f.depth s ≡ None → 11 ≡ first (file_tests f s)
  no_header e = formatted e refl

  module _ {h : Header} (e : header_of f.depth s ≡ Some h) where
    pub other_size_lem : other_size f h ≡ true → 13 ≡ first (file_tests f s)
    other_size_lem t = formatted e (stops 13 (other_size f h) (few f (length s) h) t)

    module _ (t₂ : other_size f h ≡ false) where
      -- the pixels decide
      pub by_pixels : {r : ℕ} → r ≡ first (few f (length s) h) → r ≡ first (file_tests f s)
      by_pixels k = formatted e (goes_on 13 (other_size f h) (few f (length s) h) t₂ k)

-- too few of them, or enough
module _ (f : Frame) (bytes : ℕ) (h : Header) where
  pub too_few : bytes < h.start + size (big_first f) → 12 ≡ first (few f bytes h)
  too_few l = stops 12 _ [] (lt-ltb bytes (h.start + size (big_first f)) l)

  pub enough_pixels : h.start + size (big_first f) ≤ bytes → 0 ≡ first (few f bytes h)
  enough_pixels l = goes_on 12 _ [] (le-ltb bytes (h.start + size (big_first f)) l) refl

-- ---- what 0 says of a file: it has the frame's format and size, and all pixels
pub record Readable (f : Frame) (s : List ℕ) : Type 0 where
  pub format : no_format f ≡ false
  pub ok : is_some (header_of f.depth s) ≡ true
  pub width : (header_said f.depth s).width ≡ f.width
  pub height : (header_said f.depth s).height ≡ f.height
  pub room : (header_said f.depth s).start + size (big_first f) ≤ length s

pub is_readable : (f : Frame) (s : List ℕ) → first (file_tests f s) ≡ 0 → Readable f s
unfolding file_tests
is_readable f s z =
    let h = header_said f.depth s in
    let t = (exactly_0 (file_tests f s) refl).0 z in
    let w = and_true (eqb h.width f.width) _ (not-false _ t.1.1.0) in
    record {
      format = t.0;
      ok = not-false _ t.1.0;
      width = eqb-true _ _ w.0;
      height = eqb-true _ _ w.1;
      room = ltb-false _ _ t.1.1.1.0;
    }

-- ---- of a frame and a file
module _ (f : Frame) (len : ℕ) (s : List ℕ) where
  module _ {n : ℕ} (e : n ≡ first (frame_tests f len)) where
    pub by_file : n ≡ 0 → {r : ℕ} → r ≡ first (file_tests f s) → r ≡ first (load_tests f len s)
    unfolding load_tests
    by_file z h = passed (frame_tests f len) (file_tests f s) (frame_numbered f len) e z h

  pub both_passed : first (load_tests f len s) ≡ 0 → (first (frame_tests f len) ≡ 0) × (first (file_tests f s) ≡ 0)
  unfolding load_tests
  both_passed z = both_pass (frame_tests f len) (file_tests f s) (frame_numbered f len) z

-- ---- the answer and the frame's bytes
module _ (f : Frame) (s b : List ℕ) {n : ℕ} (e : n ≡ first (load_tests f (length b) s)) where
  loaded_is : ◌≡◌ {A = ℕ × List ℕ} (n, if_done n (rendered (raster f) (file_picture f s) b) b) (loaded f s b)
  unfolding loaded
  loaded_is = ap (λ (n : ℕ). (n, if_done n (rendered (raster f) (file_picture f s) b) b)) e

  pub refused_loaded : (n ≡ 0 → ⊥) → ◌≡◌ {A = ℕ × List ℕ} (n, b) (loaded f s b)
  refused_loaded h = ap (λ (o : List ℕ). (n, o)) (sym (not_done h (rendered (raster f) (file_picture f s) b) b)) ∙ loaded_is

  pub accepted_loaded : n ≡ 0 → {after : List ℕ} → after ≡ rendered (raster f) (file_picture f s) b → ◌≡◌ {A = ℕ × List ℕ} (n, after) (loaded f s b)
  accepted_loaded z h = ap (λ (o : List ℕ). (n, o)) (h ∙ sym (is_done z (rendered (raster f) (file_picture f s) b) b)) ∙ loaded_is
