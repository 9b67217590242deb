-- Each public contract determines its answer: any two results that it allows of the same arguments are equal. `Post` is the contract as the
-- source states it. Assumes nothing.
use mathlib.Core.Path.{◌≡◌, refl}
use Prim.Native.Nat.{ℕ}
use Rattle.std.specs.Prelude.{Result}
use Rattle.refusals.specs.declared.Refusal.{Refusal}
use Rattle.refusals.proofs.Numbers.{same_answer}
use Rattle.geometry.specs.declared.Point.{Point}
use Rattle.geometry.proofs.Answer.{same_verdict}
use Rattle.line.specs.Answer.{as_length, as_step}
use Rattle.whole.proofs.Determined.{One, same}
use Rattle.line.proofs.major_length.Reads as major_length
use Rattle.line.proofs.point.Reads as point
use Rattle.line.proofs.has_point.Reads as has_point

pub same_length : {a b : Result ℕ Refusal} → as_length a ≡ as_length b → a ≡ b
same_length = same_answer as_length (λ l. l.number) (λ l. l.points) (λ x. (refl, refl)) (λ r. refl)

pub same_step : {a b : Result Point Refusal} → as_step a ≡ as_step b → a ≡ b
same_step = same_answer as_step (λ s. s.number) (λ s. s.point) (λ x. (refl, refl)) (λ r. refl)

pub major_length_one : One major_length.Post
major_length_one κs args r q s t h k = same_length (same h k)

pub point_one : One point.Post
point_one κs args r q s t h k = same_step (same h k)

pub has_point_one : One has_point.Post
has_point_one κs args r q s t h k = same_verdict (same h k)
