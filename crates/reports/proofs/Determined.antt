-- Each public contract of this crate determines its answer, and the buffer afterwards: any two results that it allows of the same arguments are equal.
-- `Post` is the contract as the source states it. Assumes nothing.
use mathlib.Core.Path.{◌≡◌, refl, sym, ap}
use mathlib.Core.Bool.{true≢false}
use mathlib.Core.List.{List}
use Prim.Native.Nat.{ℕ}
use denote.MutBor.{MutBor}
use Rattle.std.specs.Prelude.{Option, Some, None, Result}
use Rattle.std.specs.Option.{is_some}
use Rattle.refusals.specs.declared.Refusal.{Refusal}
use Rattle.triangle.specs.declared.RowRun.{RowRun}
use Rattle.triangle.proofs.Determined.{same_rows}
use Rattle.reports.specs.Spans.{found}
use Rattle.whole.proofs.Determined.{One, OneText, same}
use Rattle.reports.specs.declared.Part.{Part}
use Rattle.reports.proofs.spans.rows_of.Reads as rows_of
use Rattle.reports.proofs.spans.first_part.Reads as first_part
use Rattle.reports.proofs.spans.next_part.Reads as next_part
use Rattle.reports.proofs.minutes.is_inside.Reads as is_inside
use Rattle.reports.proofs.Tally.count.Reads as count
use Rattle.reports.proofs.Tally.take_line.Reads as take_line
use Rattle.reports.proofs.Tally.take_lines.Reads as take_lines
use Rattle.reports.proofs.minutes.write_count.Reads as write_count

-- whether a triangle was read, and what it was answered
same_found : (r q : Option (Result RowRun Refusal)) → is_some r ≡ is_some q → found r ≡ found q → r ≡ q
same_found None None h k = refl
same_found None (Some b) h k = absurd (true≢false (sym h))
same_found (Some a) None h k = absurd (true≢false h)
same_found (Some a) (Some b) h k = ap Some (same_rows k)

pub rows_of_one : One rows_of.Post
rows_of_one κs args r q s t h k = same_found r q (same h.0 k.0) (same h.1 k.1)

pub is_inside_one : One is_inside.Post
is_inside_one κs args r q s t = same

pub count_one : One count.Post
count_one κs args r q s t = same

pub take_line_one : One take_line.Post
take_line_one κs args r q s t = same

pub take_lines_one : One take_lines.Post
take_lines_one κs args r q s t = same

-- ---- writing
pub write_count_one : OneText write_count.Post
write_count_one κs args r q s t h k = (same h.0 k.0, same h.1 k.1)

-- a part, and the buffer
abbrev OnePart : {K A S : Type 0} → (K → A → Part → MutBor (List ℕ) × S → Type 0) → Type 0
OnePart {K} {A} {S} Post =
    (κs : K) (args : A) (r q : Part) (s t : MutBor (List ℕ) × S) → Post κs args r s → Post κs args q t → (r ≡ q) × (s.0.now ≡ t.0.now)

pub first_part_one : OnePart first_part.Post
first_part_one κs args r q s t h k = (same h.0 k.0, same h.1 k.1)

pub next_part_one : OnePart next_part.Post
next_part_one κs args r q s t h k = (same h.0 k.0, same h.1 k.1)
