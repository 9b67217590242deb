-- The public contract determines its answer: any two that it allows of the same arguments are equal. `Post` is the contract as the source states it.
-- Assumes nothing.
use mathlib.Core.Path.{refl}
use Rattle.whole.proofs.Determined.{One, same}
use Rattle.refusals.proofs.Numbers.{same_answer}
use Rattle.lights.specs.Answer.{as_lights}
use Rattle.lights.proofs.lit.Reads as lit

pub lit_one : One lit.Post
lit_one κs args r q s t h k = same_answer as_lights (λ l. l.number) (λ l. l.count) (λ x. (refl, refl)) (λ r. refl) (same h k)
