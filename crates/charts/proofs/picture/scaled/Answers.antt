-- `charts::picture::scaled` scales how far its number is from 0. Assumes nothing.
use mathlib.Core.Path.{◌≡◌, sym, ap, ◌∙◌}
use mathlib.Core.Bool.{Bool, true, false}
use Prim.Native.Nat.{ℕ}
use lib.IntN.{pos, neg_ℤ, nat_abs}
use lib.Signed.{lt_z}
use mir.Syntax.{w32}
use mir.Val.{to_z, of_z}
use mir.Facts.{to_z-of_z, sfits_lit}
use Rattle.whole.proofs.Machine.{read, back, minus_of, lt_test}
use Rattle.charts.specs.Scale.{away}
use Rattle.charts.proofs.Scaling.{away_size, scaled_below, scaled_above, near}
use Rattle.charts.proofs.picture.scaled.Goals as goal
use Rattle.charts.proofs.picture.scaled.Goals.{After-away-pixels}

module _ (c : After-away-pixels) where
  -- what was called, at the number
  pixels : c.away-pixels.result ≡ pos (away c.args.most c.args.size (nat_abs c.args.x))
  pixels = c.away-pixels.ensures ∙ ap (λ (n : ℕ). pos (away c.args.most c.args.size n)) (c.unsigned_abs.ensures.value ∙ ap nat_abs (to_z-of_z c.ranges.x))

  -- the test, at the number
  tested : (t : Bool) → lt_z (to_z w32 (of_z w32 c.args.x)) (to_z w32 (of_z w32 (pos 0))) ≡ t → lt_z c.args.x (pos 0) ≡ t
  tested t e = sym (lt_test c.ranges.x (sfits_lit {w = w32} {z = pos 0} tt)) ∙ e

pub returns-then-x-lt0 : goal.returns-then-x-lt0
returns-then-x-lt0 c =
    let a = c.args in
    let s = (goal.at.returns-then-x-lt0 c).After-away-pixels in
    (back {w = w32} (minus_of (read c.away-pixels.result (near c.away-pixels.ensures (away_size _ _ _)) tt))).is
    ∙ ap neg_ℤ (pixels s) ∙ scaled_below a.most a.size a.x (tested s true c.if-x-lt0.true)

pub returns-else-x-lt0 : goal.returns-else-x-lt0
returns-else-x-lt0 c =
    let a = c.args in
    let s = (goal.at.returns-else-x-lt0 c).After-away-pixels in
    (read {w = w32} c.away-pixels.result (near c.away-pixels.ensures (away_size _ _ _)) tt).is
    ∙ pixels s ∙ scaled_above a.most a.size a.x (tested s false c.if-x-lt0.false)
