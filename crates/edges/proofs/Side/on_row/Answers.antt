-- `edges::Side::on_row` hands out points while they are on row y: rows never go up along an edge, so it has them all. Assumes nothing.
use mathlib.Core.Path.{◌≡◌, refl, sym, ap, subst, ◌∙◌}
use Prim.Native.Nat.{ℕ, ◌<◌}
use native.Mathlib.Omega.{arith}
use lib.IntN.{ℤ}
use lib.Signed.{◌≤ℤ◌}
use mir.Syntax.{w32}
use mir.Val.{to_z, of_z}
use mir.Facts.{to_z-of_z}
use borrow.Author.Rules.{rules}
use Rattle.geometry.specs.declared.Point.{Point}
use Rattle.line.specs.Line.{point_at}
use Rattle.line.proofs.Walk.{stands_y}
use Rattle.edges.specs.Side.{WalkedTo, EdgeAt, Ran}
use Rattle.edges.proofs.Runs.{Part, part_start, part_more, part_end, to_go}
use Rattle.edges.proofs.Side.on_row.Goals as goal
use Rattle.edges.proofs.Side.on_row.Goals.{At-loop}

pub loop-init : goal.loop-init
loop-init c = (refl, omega arith, λ s e n k h. part_start h)

-- where it stops, it has all points of the row
ended : (c : At-loop)
    → ((s e : Point) (n k : ℕ) (h : WalkedTo s e n k c.args.self.walker c.args.self.left) (p : Part s e n k c.args.y c.args.met c.loop.run) → p.i < n → (c.args.y ≡ (point_at s e p.i).1) → ⊥)
    → (s e : Point) (n : ℕ) → s.1 ≤ℤ e.1 → EdgeAt s e n c.args.y c.args.self.walker c.args.self.left → Ran s e n c.args.y c.args.met c.loop.run
ended c stop s e n d at =
    let p = subst (λ (v : ℤ). Part s e n at.k v c.args.met c.loop.run) (to_z-of_z c.ranges.y) (c.loop.invariant.2 s e n at.k at.here) in
    part_end d at p (stop s e n at.k at.here p)

pub returns-after-loop : goal.returns-after-loop
returns-after-loop c = (
  c.loop.invariant.0,
  ended (goal.at.returns-after-loop c).At-loop (λ s e n k h p l. absurd (omega (arith, p.here.sum))),
)

pub returns-then-run-y : goal.returns-then-run-y
returns-then-run-y c = (
  c.loop.invariant.0,
  ended (goal.at.returns-then-run-y c).At-loop (λ s e n k h p l on. c.if-run-y.true (ap (of_z w32) (stands_y p.here.at (to_go p.here (omega arith)) ∙ sym on))),
)

pub one_more-run-requires : goal.one_more-run-requires
one_more-run-requires c =
    let g = c.requires in
    let p = c.loop.invariant.2 g.s g.e g.n g.k g.here in
    (record { s = g.s; e = g.e; n = g.n; k = p.i; here = p.here; room = omega (arith, g.room) }, omega arith)

pub loop-preserved : goal.loop-preserved
loop-preserved c =
    let g = c.one_more-run.ensures in
    let back : to_z w32 (of_z w32 c.loop.run.side.walker.y) ≡ c.loop.run.side.walker.y = search rules in
    let on = sym back ∙ ap (to_z w32) c.if-run-y.false in (
      omega arith,
      omega arith,
      λ s e n k h.
          let p = c.loop.invariant.2 s e n k h in
          part_more p (sym on ∙ stands_y p.here.at (to_go p.here (omega arith))) (g.2 s e n p.i p.here),
    )
