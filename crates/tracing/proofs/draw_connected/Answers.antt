-- `tracing::draw_connected` sets the points that the walker hands out, one a turn: before index i those of the indices below i are set, and those inside are counted.
-- The points that are left out are outside the rectangle. No two are the same. Assumes nothing.
use mathlib.Core.Path.{◌≡◌, sym, ap, subst, ◌∙◌}
use mathlib.Core.Bool.{Bool, false, cond}
use mathlib.Core.List.{List}
use Prim.Native.Nat.{ℕ, ◌-◌, ◌≤◌, ◌<◌}
use native.Mathlib.Omega.{arith}
use borrow.Author.Rules.{rules}
use lib.ListN.{length}
use borrow.Author.Tests.{le-ltb}
use Rattle.geometry.specs.declared.Point.{Point}
use Rattle.line.specs.Line.{major}
use Rattle.connected.specs.Connected.{index_of, last_index, connected_points, points_before, connected_at}
use Rattle.connected.specs.Walk.{NextAt}
use Rattle.connected.proofs.Indices.{before_most}
use Rattle.connected.proofs.Members.{distinct}
use Rattle.std.specs.declared.ops.Range.{Range}
use Rattle.windows.specs.declared.Window.{Window}
use Rattle.painting.specs.declared.Brush.{Brush}
use Rattle.painting.specs.Brush.{Ready, brushed}
use Rattle.windows.specs.Window.{in_window}
use Rattle.clips.specs.Steps.{LineSteps}
use Rattle.clips.proofs.Steps.{connected_before, connected_after, connected_none}
use Rattle.tracing.specs.Figure.{connected_figure}
use Rattle.tracing.proofs.Figures.{connected_walked, inside_adds, inside_one, Along, along_start, along_turn, along_skip, none, along_all}
use Rattle.tracing.proofs.draw_connected.Goals as goal

-- t are the steps beside which points are set, and the walk begins one step before them
module _ {q : Window} {s e : Point} {t : Range ℕ} (L : LineSteps q s e t) {before first : ℕ} (some : t.start < t.end) (b_is : before ≡ t.start - 1) (f_is : first ≡ points_before s e before) where
  first_walked : before ≤ major s e
  first_walked = omega (arith, L.held.most)

  first_index : first ≡ index_of s e before
  first_index = f_is ∙ ap (λ (t : Bool). cond t (connected_points s e) (index_of s e before)) (le-ltb (major s e) before first_walked)

  few_before : first ≤ connected_points s e
  few_before = omega (arith, f_is, before_most s e before)

  -- the points before it are outside
  out_before : (j : ℕ) → j ≤ last_index s e → j < first → in_window q (connected_at s e j).0 (connected_at s e j).1 ≡ false
  out_before j h l = connected_before L j h (omega (arith, L.held.most)) (omega (arith, first_index, ap (index_of s e) b_is))

module _ {q : Brush} {s e : Point} {t : Range ℕ} {b : List ℕ} (ready : Ready q (length b)) (L : LineSteps q.window s e t) where
  begun : (i : ℕ) → i ≤ connected_points s e → ((j : ℕ) → j ≤ last_index s e → j < i → in_window q.window (connected_at s e j).0 (connected_at s e j).1 ≡ false)
      → Along q none (connected_at s e) b i 0 b
  begun i few out = along_skip ready none (connected_at s e) b (along_start ready none (connected_at s e) b) i (omega arith) (λ j h l. out j (omega arith) l)

  nothing : t.end ≤ t.start → (0, b) ≡ brushed q (connected_figure s e) b
  nothing off = along_all ready (connected_at s e) b (begun (connected_points s e) (omega arith) (λ j h l. connected_none L off j h)) (connected_walked s e)

  ended : {i seen : ℕ} {now : List ℕ} → points_before s e t.end ≤ i → i ≤ connected_points s e → Along q none (connected_at s e) b i seen now
      → (seen, now) ≡ brushed q (connected_figure s e) b
  ended past few a =
      along_all ready (connected_at s e) b
      (along_skip ready none (connected_at s e) b a (connected_points s e) few (λ j h l. connected_after L j (omega arith) (omega arith)))
      (connected_walked s e)

pub returns-then-is_empty : goal.returns-then-is_empty
returns-then-is_empty c = nothing c.requires.0 c.line_steps-steps.ensures (search rules)

pub loop-init : goal.loop-init
loop-init c =
    let L = c.line_steps-steps.ensures in
    let some : c.line_steps-steps.result.start < c.line_steps-steps.result.end = search rules in
    let b_is = c.saturating_sub-before.ensures in
    let f_is = c.points_before-first.ensures in
    let few = few_before L some b_is f_is in (
      omega arith,
      few,
      subst (λ (i : ℕ). NextAt c.args.start c.args.end i c.walker_at-walker.result) (sym (first_index L some b_is f_is)) c.walker_at-walker.ensures,
      begun c.requires.0 L _ few (out_before L some b_is f_is),
    )

pub next_all-next-requires : goal.next_all-next-requires
next_all-next-requires c =
    record {
      s = c.args.start;
      e = c.args.end;
      i = c.loop.counter;
      more = omega (arith, c.points_before-past.ensures, before_most c.args.start c.args.end c.line_steps-steps.result.end);
      here = c.loop.invariant.2;
    }

pub loop-preserved : goal.loop-preserved
loop-preserved c =
    let s = c.args.start in
    let e = c.args.end in
    let last : c.loop.counter ≤ last_index s e = omega (arith, c.points_before-past.ensures, before_most s e c.line_steps-steps.result.end) in
    let g = c.next_all-next.ensures s e c.loop.counter last c.loop.invariant.2 in (
      omega (arith, inside_one c.put_point.result),
      omega arith,
      g.walker,
      along_turn c.requires.0 none (connected_at s e) c.args.buf.now c.loop.invariant.3 g.point
          (λ k l e'. let z = distinct s e c.loop.counter k last (omega arith) e' in omega arith)
          c.put_point.ensures.0 (inside_adds c.put_point.result) c.put_point.ensures.1,
    )

pub returns : goal.returns
returns c = ended c.requires.0 c.line_steps-steps.ensures (omega (arith, c.points_before-past.ensures)) c.loop.invariant.1 c.loop.invariant.3
