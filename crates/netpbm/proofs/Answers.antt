-- What is accepted passes every test, and what writing answers and leaves. Assumes nothing.
use mathlib.Core.Path.{◌≡◌, refl, sym, ap, ap₂, ◌∙◌}
use mathlib.Core.Bool.{not, ◌||◌}
use mathlib.Core.List.{List, [], ◌∷◌, ◌++◌, append_assoc}
use Prim.Native.Nat.{ℕ, ◌+◌, ◌≤◌}
use native.Mathlib.Omega.{arith}
use lib.ListN.{length, take, drop}
use lib.Seq.{sets, sets-eq, length-sets, drop-drop}
use borrow.Author.Tests.{le-ltb}
use Rattle.refusals.specs.Answer.{if_done}
use Rattle.refusals.proofs.Answer.{not_done, is_done}
use Rattle.refusals.specs.First.{first}
use Rattle.refusals.proofs.First.{exactly_0, passed, goes_on}
use Rattle.text.proofs.Writing.{sets_append}
use Rattle.layout.specs.Packed.{row_bytes}
use Rattle.frames.specs.declared.Frame.{Frame}
use Rattle.frames.specs.declared.Size.{Size}
use Rattle.frames.specs.Answer.{sized}
use Rattle.frames.specs.Description.{size, too_short, description_tests, frame_tests}
use Rattle.frames.specs.Judged.{Described, Accepted}
use Rattle.frames.proofs.Refusals.{description_numbered}
use Rattle.netpbm.specs.Image.{image_bytes, image_length}
use Rattle.netpbm.specs.Written.{write_tests, written}

-- ---- what is accepted passes
description_passes : (f : Frame) → Described f → first (description_tests f) ≡ 0
unfolding description_tests
description_passes f D =
    let w = ap₂ ◌||◌ (le-ltb 2048 f.width D.width) (le-ltb 2048 f.height D.height) in
    let n = ap₂ ◌||◌ (le-ltb f.distance (row_bytes f.width f.depth) D.apart) (le-ltb 16384 f.distance D.near) in
    (exactly_0 (description_tests f) refl).1 (ap not D.depth, (w, (n, tt)))

pub frame_passes : (f : Frame) (len : ℕ) → Accepted f len → first (frame_tests f len) ≡ 0
unfolding frame_tests
frame_passes f len A =
    sym (passed (description_tests f) ((3, too_short f len) ∷ []) (description_numbered f) refl (description_passes f A.described)
    (goes_on 3 (too_short f len) [] (le-ltb len (size f) A.room) refl))

-- ---- the answer and the output
module _ (f : Frame) (b out : List ℕ) {n : ℕ} (e : n ≡ first (write_tests f (length b) (length out))) {r : Size} (i : r ≡ sized n (image_length f)) where
  written_is : ◌≡◌ {A = Size × List ℕ} (sized n (image_length f), if_done n (sets out 0 (image_bytes f b)) out) (written f b out)
  unfolding written
  written_is = ap (λ (n : ℕ). (sized n (image_length f), if_done n (sets out 0 (image_bytes f b)) out)) e

  pub refused_written : (n ≡ 0 → ⊥) → ◌≡◌ {A = Size × List ℕ} (r, out) (written f b out)
  refused_written h = ap₂ (λ (s : Size) (o : List ℕ). (s, o)) i (sym (not_done h (sets out 0 (image_bytes f b)) out)) ∙ written_is

  pub accepted_written : n ≡ 0 → {after : List ℕ} → after ≡ sets out 0 (image_bytes f b) → ◌≡◌ {A = Size × List ℕ} (r, after) (written f b out)
  accepted_written z h = ap₂ (λ (s : Size) (o : List ℕ). (s, o)) i (h ∙ sym (is_done z (sets out 0 (image_bytes f b)) out)) ∙ written_is

-- s written from the first byte on, and t over the k bytes behind it
pub in_part : (out s t : List ℕ) (start k : ℕ) → start ≡ length s → length t ≡ k → start + k ≤ length out
    → take start (sets out 0 s) ++ (t ++ drop k (drop start (sets out 0 s))) ≡ sets out 0 (s ++ t)
in_part out s t start k e l h =
    let o = sets out 0 s in
    let at : start ≡ 0 + length s = omega arith in
    ap (λ (u : List ℕ). take start o ++ (t ++ u)) (drop-drop k start o ∙ ap (λ (n : ℕ). drop (start + n) o) (sym l))
    ∙ sym (append_assoc (take start o) t (drop (start + length t) o))
    ∙ sym (sets-eq t o start (rw (l, length-sets out 0 s) h))
    ∙ ap (λ (n : ℕ). sets o n t) at ∙ sym (sets_append out 0 s t)
