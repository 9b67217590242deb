-- Answers by their number: 0 and the values, or a refusal, with which every number is 0 and every yes or no is no
-- (01, "Numbers an operation may answer").
use Rattle.std.specs.Prelude.{Bool, false, ℕ, ℤ, pos, Result, Ok, Err}
use Rattle.refusals.specs.Answer.{if_done}
use Rattle.refusals.specs.Refusal.{number}
use Rattle.refusals.specs.declared.Refusal.{Refusal}
use Rattle.geometry.specs.declared.Columns.{Columns}
use Rattle.geometry.specs.declared.Verdict.{Verdict}
use Rattle.geometry.specs.declared.Span.{Span}

abbrev pub verdict : ℕ → Bool → Verdict
verdict n b = record { number = n; yes = if_done n b false }

abbrev pub span : ℕ → ℤ → ℤ → Span
span n a b = record { number = n; start = if_done n a (pos 0); end = if_done n b (pos 0) }

-- what the library answers, by its number
abbrev pub as_verdict : Result Bool Refusal → Verdict
as_verdict (Ok b) = record { number = 0; yes = b }
as_verdict (Err r) = record { number = number r; yes = false }

abbrev pub as_span : Result Columns Refusal → Span
as_span (Ok c) = record { number = 0; start = c.0; end = c.1 }
as_span (Err r) = record { number = number r; start = pos 0; end = pos 0 }
