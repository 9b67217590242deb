-- Two answers that C is handed as one are one. Assumes nothing.
use mathlib.Core.Path.{◌≡◌, refl}
use mathlib.Core.Bool.{Bool}
use Rattle.std.specs.Prelude.{Result}
use Rattle.refusals.specs.declared.Refusal.{Refusal}
use Rattle.refusals.proofs.Numbers.{same_answer}
use Rattle.geometry.specs.declared.Columns.{Columns}
use Rattle.geometry.specs.Answer.{as_verdict, as_span}

pub same_verdict : {a b : Result Bool Refusal} → as_verdict a ≡ as_verdict b → a ≡ b
same_verdict = same_answer as_verdict (λ v. v.number) (λ v. v.yes) (λ x. (refl, refl)) (λ r. refl)

pub same_span : {a b : Result Columns Refusal} → as_span a ≡ as_span b → a ≡ b
same_span = same_answer as_span (λ s. s.number) (λ s. (s.start, s.end)) (λ x. (refl, refl)) (λ r. refl)
