-- `line::progress` is the difference, turned round where the way leads down. Assumes nothing.
use mathlib.Core.Path.{◌≡◌, sym, ◌∙◌}
use mathlib.Core.Bool.{Bool, true, false, cond}
use native.Mathlib.Omega.{arith}
use lib.IntN.{ℤ, ◌-ℤ◌, ◌*ℤ◌}
use lib.Signed.{le_z}
use mir.Syntax.{w32, w64}
use mir.Val.{SFits, to_z, of_z}
use Rattle.whole.proofs.Difference.{as_mk, mks, mk_eq}
use Rattle.whole.proofs.Machine.{wide_minus, back, le_test}
use Rattle.line.specs.Line.{toward}
use Rattle.line.proofs.progress.Goals as goal

-- a coordinate as it is widened
abbrev widened : ℤ → ℤ
widened z = to_z w64 (of_z w64 (to_z w32 (of_z w32 z)))

-- the difference either way, by the test
turned : {a b p : ℤ} → SFits w32 a → SFits w32 b → SFits w32 p → (t : Bool) → le_z (to_z w32 (of_z w32 a)) (to_z w32 (of_z w32 b)) ≡ t
    → to_z w64 (of_z w64 (cond t (widened p -ℤ widened a) (widened a -ℤ widened p))) ≡ toward a b *ℤ (p -ℤ a)
turned {a} {b} {p} fa fb fp true e =
    (back (wide_minus fp fa)).is ∙ rw (sym (le_test fa fb) ∙ e) (rw (as_mk a, as_mk p) (simp mks (mk_eq _ _ _ _ (omega arith))))
turned {a} {b} {p} fa fb fp false e =
    (back (wide_minus fa fp)).is ∙ rw (sym (le_test fa fb) ∙ e) (rw (as_mk a, as_mk p) (simp mks (mk_eq _ _ _ _ (omega arith))))

pub returns-then-a-b : goal.returns-then-a-b
returns-then-a-b c = let f = c.ranges in turned f.a f.b f.p true c.if-a-b.true

pub returns-else-a-b : goal.returns-else-a-b
returns-else-a-b c = let f = c.ranges in turned f.a f.b f.p false c.if-a-b.false
