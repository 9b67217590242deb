-- A report that is handed over part by part: what was handed over and what is left are at each part the whole. Assumes nothing.
use mathlib.Core.Path.{◌≡◌, refl, sym, ap, subst, ◌∙◌}
use mathlib.Core.List.{List, ◌++◌}
use Prim.Native.Nat.{ℕ, ◌+◌, ◌≤◌, min}
use native.Mathlib.Omega.{arith}
use lib.IntN.{pos, ◌+ℤ◌}
use lib.Signed.{◌≤ℤ◌}
use lib.ListN.{length, take, drop, length-append, length-drop}
use lib.Seq.{take_at, drop_at, drop-drop}
use mir.Syntax.{w32}
use mir.Val.{SFits}
use Rattle.std.specs.Prelude.{Option}
use Rattle.std.specs.Option.{is_some}
use Rattle.readers.specs.declared.figures.Corners.{Corners}
use Rattle.readers.specs.Figures.{corners_or_zero}
use Rattle.reports.specs.declared.Part.{Part}
use Rattle.reports.specs.Spans.{rows_of, heading, row_lines, report, first_part, part_text, next_part, Next}
use Rattle.reports.proofs.Report.{part_goes, rows_none}
use Rattle.reports.proofs.Within.{further_fits, further_below, fewer_below, rows_short, rows_below, first_fits, heading_short}

-- so many bytes were handed over, up to the end of a part, and the lines of the rows that are left are those that follow
pub record Handed (v : Option Corners) (p : Part) (told : ℕ) : Type 0 where
  pub below : (p.first +ℤ pos p.left) ≤ℤ pos 131072
  pub fits : SFits w32 p.first
  pub told_within : told ≤ length (report v)
  pub rest : drop told (report v) ≡ row_lines (corners_or_zero v) p.first p.left

-- a text that stands next in the report, with what follows it, is at the front of a buffer
module _ (v : Option Corners) (told : ℕ) (text more : List ℕ) (e : drop told (report v) ≡ text ++ more) (within : told ≤ length (report v)) where
  sizes : told + (length text + length more) ≡ length (report v)
  sizes = omega (arith, length-drop told (report v), ap length e, length-append text more)

  pub text_next : (end : ℕ) (out : List ℕ) → end ≡ length text → length text ≤ length out → take (length text) out ≡ text → Next v told end out
  text_next end out n room same = subst (λ (k : ℕ). Next v told k out) (sym n) (record {
    room = room;
    within = omega (arith, sizes);
    same = same ∙ sym (ap (take (length text)) e ∙ take_at text more (length text) refl);
  })

  pub text_told : (more-told : ℕ) → more-told ≡ told + length text → (more-told ≤ length (report v)) × (drop more-told (report v) ≡ more)
  text_told m n = (
    omega (arith, n, sizes),
    ap (λ (k : ℕ). drop k (report v)) n ∙ sym (drop-drop (length text) told (report v)) ∙ ap (drop (length text)) e ∙ drop_at text more (length text) refl,
  )

-- ---- the first line
module _ (v : Option Corners) (p : Part) (e : p ≡ first_part v) where
  size : p.end ≡ length (heading (is_some v) (rows_of v))
  size = ap (λ (q : Part). q.end) e

  pub first_next : (out : List ℕ) → length out ≡ 65536 → take (length (heading (is_some v) (rows_of v))) out ≡ heading (is_some v) (rows_of v) → Next v 0 p.end out
  first_next out n same =
      text_next v 0 (heading (is_some v) (rows_of v)) (row_lines (corners_or_zero v) (rows_of v).first (rows_of v).count) refl (omega arith) p.end out size (omega (arith, heading_short v)) same

  pub first_handed : {told : ℕ} → told ≡ 0 + p.end → Handed v p told
  first_handed {told} t = subst (λ (q : Part). Handed v q told) (sym e) (record { below = rows_below v; fits = first_fits v; told_within = after.0; rest = after.1 })
    where
      after : (told ≤ length (report v)) × (drop told (report v) ≡ row_lines (corners_or_zero v) (rows_of v).first (rows_of v).count)
      after = text_told v 0 (heading (is_some v) (rows_of v)) (row_lines (corners_or_zero v) (rows_of v).first (rows_of v).count) refl (omega arith) told (t ∙ ap (λ (k : ℕ). 0 + k) size)

-- ---- a further part
module _ (v : Option Corners) (p q : Part) {told : ℕ} (s : Handed v p told) (e : q ≡ next_part v p) where
  part_size : q.end ≡ length (part_text v p)
  part_size = ap (λ (r : Part). r.end) e

  split : drop told (report v) ≡ part_text v p ++ row_lines (corners_or_zero v) (next_part v p).first (next_part v p).left
  split = s.rest ∙ part_goes v p

  pub part_room : length (part_text v p) ≤ 65536
  part_room =
      let n = min p.left 1024 in
      omega (arith, rows_short (corners_or_zero v) p.first n s.fits (fewer_below p.first p.left n (omega arith) s.below))

  pub part_next : (out : List ℕ) → length out ≡ 65536 → take (length (part_text v p)) out ≡ part_text v p → Next v told q.end out
  part_next out n same =
      text_next v told (part_text v p) (row_lines (corners_or_zero v) (next_part v p).first (next_part v p).left) split s.told_within q.end out part_size (omega (arith, part_room)) same

  pub next_handed : {more : ℕ} → more ≡ told + q.end → Handed v q more
  next_handed {more} t =
      let n = min p.left 1024 in
      subst (λ (r : Part). Handed v r more) (sym e)
      (record {
        below = further_below p.first p.left n (omega arith) s.below;
        fits = further_fits p.first p.left n (omega arith) s.below s.fits;
        told_within = after.0;
        rest = after.1;
      })
    where
      after : (more ≤ length (report v)) × (drop more (report v) ≡ row_lines (corners_or_zero v) (next_part v p).first (next_part v p).left)
      after = text_told v told (part_text v p) (row_lines (corners_or_zero v) (next_part v p).first (next_part v p).left) split s.told_within more (t ∙ ap (λ (k : ℕ). told + k) part_size)

-- ---- the end: no row is left
pub all_handed : (v : Option Corners) (p : Part) {told : ℕ} → Handed v p told → p.left ≤ 0 → told ≡ length (report v)
all_handed v p {told} s h = omega (arith, s.told_within, length-drop told (report v), ap length s.rest, ap length (rows_none (corners_or_zero v) p.first p.left h))
