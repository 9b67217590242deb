-- The library's answers to questions, put into a reply, and what answers the needs of a question. Assumes nothing.
use mathlib.Core.Path.{◌≡◌, ap, ◌∙◌}
use mathlib.Core.Bool.{Bool}
use Prim.Native.Nat.{ℕ}
use lib.IntN.{ℤ}
use Rattle.std.specs.Prelude.{List, Option, Some, None, Result, Ok, Err}
use Rattle.whole.proofs.Machine.{field_back}
use Rattle.refusals.specs.declared.Refusal.{Refusal}
use Rattle.refusals.specs.First.{Tests}
use Rattle.geometry.specs.declared.Columns.{Columns}
use Rattle.geometry.specs.declared.Point.{Point}
use Rattle.geometry.specs.declared.Span.{Span}
use Rattle.geometry.specs.declared.Verdict.{Verdict}
use Rattle.geometry.specs.Answer.{as_verdict, as_span}
use Rattle.line.specs.declared.Length.{Length}
use Rattle.line.specs.Answer.{Step, as_length, as_step}
use Rattle.triangle.specs.declared.RowRange.{RowRange}
use Rattle.triangle.specs.declared.RowRun.{RowRun}
use Rattle.triangle.specs.Answer.{as_rows}
use Rattle.readers.specs.declared.figures.Corners.{Corners}
use Rattle.protocol.specs.declared.reply.Reply.{Reply}
use Rattle.protocol.specs.Reply.{replied, verdict_reply, count_reply, yes_reply, place_reply, columns_reply, run_reply}
use Rattle.questions.specs.Ask.{Asked, length_said, step_said, span_said, rows_said, ends_said, length_of, length_reply, ends_and_step, step_of, point_reply, ends_and_point, on_line_of, online_reply, span_of, discspan_of}

-- what is known of an answer that an operation gave is what is to be said of it
asked_is : {A B : Type 0} (asked : Option A) {gives : A → B → Type 0} (say : B → Reply) (said : A → Reply) {r : Option Reply} → Asked asked gives say r
    → ((a : A) (b : B) → gives a b → say b ≡ said a) → r ≡ replied said asked
asked_is None say said h given = h
asked_is (Some a) say said h given = h.2 ∙ ap Some (given a h.0 h.1)

-- ---- an answer's reply is that of its number and its values
length_told : (r : Result ℕ Refusal) {l : Length} → as_length r ≡ l → count_reply r ≡ length_said l
length_told (Ok n) h = ap length_said h
length_told (Err e) h = ap length_said h

step_told : (r : Result Point Refusal) {s : Step} → as_step r ≡ s → place_reply r ≡ step_said s
step_told (Ok p) h = ap step_said h
step_told (Err e) h = ap step_said h

verdict_told : (r : Result Bool Refusal) {v : Verdict} → as_verdict r ≡ v → yes_reply r ≡ verdict_reply v
verdict_told (Ok b) h = ap verdict_reply h
verdict_told (Err e) h = ap verdict_reply h

rows_told : (r : Result RowRun Refusal) {n : RowRange} → as_rows r ≡ n → run_reply r ≡ rows_said n
rows_told (Ok n) h = ap rows_said h
rows_told (Err e) h = ap rows_said h

span_told : (r : Result Columns Refusal) {s : Span} → as_span r ≡ s → columns_reply r ≡ span_said s
span_told (Ok c) h = ap span_said h
span_told (Err e) h = ap span_said h

-- ---- the questions on a line, the straight or the connected one: the reply is that of the points, the place or the test that the operation promises
pub length_asked : (said : List ℕ) (at : ℕ) (count : Point → Point → ℕ) {gives : Point × Point → Result ℕ Refusal → Type 0} {r : Option Reply} → Asked (ends_said said at) gives count_reply r
    → ((l : Point × Point) (b : Result ℕ Refusal) → gives l b → as_length b ≡ length_of count l) → r ≡ length_reply count said at
unfolding length_reply
length_asked said at count h given = asked_is (ends_said said at) count_reply (λ l. length_said (length_of count l)) h (λ l b g. length_told b (given l b g))

pub point_asked : (said : List ℕ) (at : ℕ) (tests : Point → Point → ℕ → Tests) (there : Point → Point → ℕ → Point) {gives : (Point × Point) × ℕ → Result Point Refusal → Type 0} {r : Option Reply}
    → Asked (ends_and_step said at) gives place_reply r
    → ((l : (Point × Point) × ℕ) (b : Result Point Refusal) → gives l b → as_step b ≡ step_of tests there l) → r ≡ point_reply tests there said at
unfolding point_reply
point_asked said at tests there h given = asked_is (ends_and_step said at) place_reply (λ l. step_said (step_of tests there l)) h (λ l b g. step_told b (given l b g))

pub online_asked : (said : List ℕ) (at : ℕ) (has : Point → Point → Point → Bool) {gives : (Point × Point) × Point → Result Bool Refusal → Type 0} {r : Option Reply}
    → Asked (ends_and_point said at) gives yes_reply r
    → ((l : (Point × Point) × Point) (b : Result Bool Refusal) → gives l b → as_verdict b ≡ on_line_of has l) → r ≡ online_reply has said at
unfolding online_reply
online_asked said at has h given = asked_is (ends_and_point said at) yes_reply (λ l. verdict_reply (on_line_of has l)) h (λ l b g. verdict_told b (given l b g))

pub rows_said_lem : (a : Result RowRun Refusal) {found : RowRange} {r : Reply} → r ≡ run_reply a → as_rows a ≡ found → r ≡ rows_said found
rows_said_lem a e q = e ∙ rows_told a q

pub verdict_said : (v : Result Bool Refusal) {found : Verdict} {r : Reply} → r ≡ yes_reply v → as_verdict v ≡ found → r ≡ verdict_reply found
verdict_said v e q = e ∙ verdict_told v q

pub span_said_lem : (a : Result Columns Refusal) {found : Span} {r : Reply} → r ≡ columns_reply a → as_span a ≡ found → r ≡ span_said found
span_said_lem a e q = e ∙ span_told a q

-- at a row that the code reads back
pub row_span : (t : Corners) {a : Span} {row y : ℤ} → a ≡ span_of t row → row ≡ y → a ≡ span_of t y
row_span t e h = e ∙ ap (span_of t) h

pub row_discspan : (c : Point × ℕ) {a : Span} {row y : ℤ} → a ≡ discspan_of c row → row ≡ y → a ≡ discspan_of c y
row_discspan c e h = e ∙ ap (discspan_of c) h

-- what answers the needs of a question
pub ruleset questions = (rows_said_lem, verdict_said, span_said_lem, row_span, row_discspan, field_back)
