-- Each public contract determines its answer: any two results that it allows of the same arguments are equal. `Post` is the contract as the
-- source states it. Assumes nothing.
use mathlib.Core.Path.{◌≡◌, refl}
use Rattle.std.specs.Prelude.{Result}
use Rattle.refusals.specs.declared.Refusal.{Refusal}
use Rattle.refusals.proofs.Numbers.{same_answer}
use Rattle.geometry.proofs.Answer.{same_verdict, same_span}
use Rattle.triangle.specs.declared.RowRun.{RowRun}
use Rattle.triangle.specs.Answer.{as_rows}
use Rattle.whole.proofs.Determined.{One, same}
use Rattle.triangle.proofs.contains.Reads as contains
use Rattle.triangle.proofs.rows.Reads as rows
use Rattle.triangle.proofs.row_span.Reads as row_span

pub same_rows : {a b : Result RowRun Refusal} → as_rows a ≡ as_rows b → a ≡ b
same_rows = same_answer as_rows (λ r. r.number) (λ r. record { first = r.first; count = r.count }) (λ x. (refl, refl)) (λ r. refl)

pub contains_one : One contains.Post
contains_one κs args r q s t h k = same_verdict (same h k)

pub rows_one : One rows.Post
rows_one κs args r q s t h k = same_rows (same h k)

pub row_span_one : One row_span.Post
row_span_one κs args r q s t h k = same_span (same h k)
