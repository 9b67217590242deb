-- Each public contract determines its answer, and every byte of the output or of the frame: any two outcomes that it allows of the same arguments are equal. `Post` is the
-- contract as the source states it. Assumes nothing.
use mathlib.Core.Path.{◌≡◌, refl, ap}
use mathlib.Core.List.{List}
use Prim.Native.Nat.{ℕ}
use Rattle.std.specs.Prelude.{Result}
use Rattle.whole.proofs.Determined.{One, OneBuffer, same}
use Rattle.refusals.specs.Refusal.{as_number}
use Rattle.refusals.specs.declared.Refusal.{Refusal}
use Rattle.refusals.proofs.Numbers.{same_answer}
use Rattle.frames.proofs.Answer.{same_size, same_saved}
use Rattle.netpbm.proofs.image_size.Reads as image_size
use Rattle.netpbm.proofs.write_image.Reads as write_image
use Rattle.netpbm.proofs.read_image.Reads as read_image

pub image_size_one : One image_size.Post
image_size_one κs args r q s t h k = same_size (same h k)

-- the output is lent third
pub write_image_one : (κs : _) (args : _) (r q : _) (s t : _) → write_image.Post κs args r s → write_image.Post κs args q t
    → ◌≡◌ {A = Result ℕ Refusal × List ℕ} (r, s.1.1.0.now) (q, t.1.1.0.now)
write_image_one κs args r q s t h k = same_saved (same h k)

pub read_image_one : OneBuffer read_image.Post
read_image_one κs args r q s t h k =
    let e : ◌≡◌ {A = ℕ × List ℕ} (as_number r, s.0.now) (as_number q, t.0.now) = same h k in
    let a = same_answer as_number (λ n. n) (λ n. tt) (λ x. (refl, refl)) (λ r. refl) (ap (λ (p : ℕ × List ℕ). p.0) e) in
    λ i. (a i, (e i).1)
