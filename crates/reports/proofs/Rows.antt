-- Laws of the lines of rows that are written one after the other. Assumes nothing.
use mathlib.Core.Path.{◌≡◌, refl, sym, ap, subst, ◌∙◌}
use mathlib.Core.List.{List}
use Prim.Native.Nat.{ℕ, ◌+◌, ◌*◌, ◌-◌, ◌≤◌, ◌<◌}
use native.Mathlib.Omega.{arith}
use lib.IntN.{ℤ, pos, ◌+ℤ◌}
use lib.Signed.{◌≤ℤ◌}
use lib.ListN.{length}
use lib.Seq.{sets}
use mir.Syntax.{w32}
use mir.Val.{SFits}
use Rattle.text.proofs.Writing.{Wrote}
use Rattle.readers.specs.declared.figures.Corners.{Corners}
use Rattle.reports.specs.Spans.{row_line, row_lines}
use Rattle.reports.proofs.Within.{further_fits, further_below, row_short}
use Rattle.reports.proofs.Report.{row_goes, rows_none}

module _ (before : List ℕ) (at : ℕ) (t : Corners) (first : ℤ) (count : ℕ) where
  -- `left` of the rows are still to be written, from y on: with these the output is what it shall be
  pub record Writing (out : List ℕ) (filled : ℕ) (y : ℤ) (left : ℕ) : Type 0 where
    pub size : length out ≡ length before
    pub room : filled + 36 * left ≤ length before
    pub fits : SFits w32 y
    pub below : (y +ℤ pos left) ≤ℤ pos 131072
    pub reached : filled + length (row_lines t y left) ≡ at + length (row_lines t first count)
    pub same : sets out filled (row_lines t y left) ≡ sets before at (row_lines t first count)

  pub none_yet : at + 36 * count ≤ length before → SFits w32 first → (first +ℤ pos count) ≤ℤ pos 131072 → Writing before at first count
  none_yet r f b = record { size = refl; room = r; fits = f; below = b; reached = refl; same = refl }

  module _ {out : List ℕ} {filled : ℕ} {y : ℤ} {left : ℕ} (w : Writing out filled y left) where
    pub next_fits : 0 < left → SFits w32 (y +ℤ pos 1)
    next_fits some = further_fits y left 1 some w.below w.fits

    pub one_more : {mid : List ℕ} {next fewer : ℕ} {z : ℤ} → 0 < left → Wrote out filled (row_line t y) next mid → length mid ≡ length out → z ≡ y +ℤ pos 1
        → fewer ≡ left - 1 → Writing mid next z fewer
    one_more {mid} {next} {fewer} {z} some r l e f =
        let go = row_goes t y left some out mid filled next r z e in
        subst (λ (n : ℕ). Writing mid next z n) (sym f)
        (record {
          size = l ∙ w.size;
          room = omega (arith, r.0, row_short t y w.fits, w.room, some);
          fits = subst (SFits w32) (sym e) (next_fits some);
          below = subst (λ (x : ℤ). (x +ℤ pos (left - 1)) ≤ℤ pos 131072) (sym e) (further_below y left 1 some w.below);
          reached = go.0 ∙ w.reached;
          same = go.1 ∙ w.same;
        })

    pub all_written : left ≤ 0 → Wrote before at (row_lines t first count) filled out
    all_written none = let e = rows_none t y left none in (omega (arith, ap length e, w.reached), sym (ap (sets out filled) e) ∙ w.same)
