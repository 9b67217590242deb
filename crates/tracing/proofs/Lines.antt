-- Laws of walking a line from the first step that leads into the rectangle to the last: what comes before and after may be left out. Assumes nothing.
use mathlib.Core.Path.{◌≡◌, refl, sym, ap, subst, ◌∙◌}
use mathlib.Core.Bool.{Bool, true, not}
use mathlib.Core.List.{List}
use Prim.Native.Nat.{ℕ, ◌+◌, ◌≤◌, ◌<◌}
use native.Mathlib.Omega.{arith}
use lib.IntN.{ℤ}
use lib.ListN.{length}
use Rattle.geometry.specs.declared.Point.{Point}
use Rattle.geometry.specs.Bound.{Bounded}
use Rattle.line.specs.declared.Walker.{Walker}
use Rattle.line.specs.Line.{major, points, point_at}
use Rattle.line.specs.Walk.{WalkerAt}
use Rattle.line.proofs.Apart.{steps_apart}
use Rattle.line.proofs.Lengths.{points_most}
use Rattle.layout.specs.Count.{one_if}
use Rattle.layout.specs.Figure.{single}
use Rattle.painting.specs.declared.Brush.{Brush}
use Rattle.std.specs.declared.ops.Range.{Range}
use Rattle.painting.specs.Brush.{Ready, brushed}
use Rattle.windows.specs.Window.{in_window}
use Rattle.clips.specs.Steps.{InnerSteps}
use Rattle.clips.proofs.Steps.{inner_in, out_before, out_after}
use Rattle.tracing.specs.Earlier.{new_in}
use Rattle.tracing.specs.Figure.{line_figure}
use Rattle.tracing.proofs.Figures.{line_walked, Along, along_start, along_inside, along_skip, along_count, along_end, none, along_all}

-- what a loop along a line leans on: its brush may paint, its ends are accepted, and t are the steps that lead into the rectangle
pub record LineWalk (q : Brush) (s e : Point) (t : Range ℕ) (b : List ℕ) : Type 0 where
  pub ready : Ready q (length b)
  pub ends : Bounded s × Bounded e
  pub inner : InnerSteps q.window s e t

-- before step k the walker stands there, and the points of the steps below k are set and counted
pub record Walked (q : Brush) (before : ℤ → ℤ → Bool) (s e : Point) (b : List ℕ) (k seen : ℕ) (w : Walker) (now : List ℕ) : Type 0 where
  pub stands : WalkerAt s e k w
  pub set : Along q before (point_at s e) b k seen now

-- what a step of a walker says: the point that is handed out, and where the walker stands that comes with it
abbrev pub StepOf : Walker → Point → Walker → Type 0
StepOf w p next = (s e : Point) (k : ℕ) → k ≤ major s e → WalkerAt s e k w → (p ≡ point_at s e k) × WalkerAt s e (k + 1) next

module _ {q : Brush} {s e : Point} {t : Range ℕ} {b : List ℕ} (L : LineWalk q s e t b) where
  -- these are few
  pub few_steps : t.end ≤ 262144
  few_steps = omega (arith, L.inner.most, points_most L.ends.0 L.ends.1)

  -- and the point of each may be set
  pub may_set : {k n : ℕ} {p : Point} → n ≡ length b → t.start ≤ k → k < t.end → p ≡ point_at s e k → Ready q n × (in_window q.window p.0 p.1 ≡ true)
  may_set {k} same from past here = (
    subst (Ready q) (sym same) L.ready,
    ap (λ (p : Point). in_window q.window p.0 p.1) here ∙ inner_in L.inner k from past,
  )

  module _ (before : ℤ → ℤ → Bool) where
    -- before the first of them nothing is set
    pub line_begun : {n : ℕ} → 0 ≡ n → Along q before (point_at s e) b t.start n b
    line_begun z =
        along_count z
        (along_skip L.ready before (point_at s e) b (along_start L.ready before (point_at s e) b) t.start (omega arith)
        (λ i h l. out_before L.inner i (omega (arith, L.inner.first)) l))

    -- a turn sets the point of one of them, where no step before it led
    pub line_turn : {k seen more n : ℕ} {now next : List ℕ} {p : Point} → t.start ≤ k → k < t.end → p ≡ point_at s e k → more ≡ one_if (not (before p.0 p.1))
        → next ≡ (brushed q (single p.0 p.1) now).1 → seen + more ≡ n → Along q before (point_at s e) b k seen now → Along q before (point_at s e) b (k + 1) n next
    line_turn {k} from past here adds put sum a =
        along_count sum
        (along_inside L.ready before (point_at s e) b a here (λ j l e'. let z = steps_apart s e k j e' in omega arith) (inner_in L.inner k from past) adds put)

    -- what is set after the last of them is what the whole line leaves
    whole : {k seen : ℕ} {now : List ℕ} → t.end ≤ k → k ≤ points s e → Along q before (point_at s e) b k seen now → Along q before (point_at s e) b (points s e) seen now
    whole past few a = along_skip L.ready before (point_at s e) b a (points s e) few (λ i h fewer. out_after L.inner i fewer (omega arith))

    -- an edge, of which what is new is counted
    pub edge_ended : {k seen : ℕ} {now : List ℕ} → t.end ≤ k → k ≤ points s e → Along q before (point_at s e) b k seen now
        → (seen ≡ (brushed q (new_in before (line_figure s e)) b).0) × (now ≡ (brushed q (line_figure s e) b).1)
    edge_ended past few a = along_end L.ready before (point_at s e) b (whole past few a) refl (line_walked s e)

    pub edge_none : t.end ≤ t.start → (0 ≡ (brushed q (new_in before (line_figure s e)) b).0) × (b ≡ (brushed q (line_figure s e) b).1)
    edge_none off = edge_ended off L.inner.first (line_begun refl)

  -- a line by itself
  pub line_ended : {k seen n : ℕ} {now : List ℕ} → t.end ≤ k → k ≤ points s e → seen ≡ n → Along q none (point_at s e) b k seen now → (n, now) ≡ brushed q (line_figure s e) b
  line_ended past few sum a = along_all L.ready (point_at s e) b (along_count sum (whole none past few a)) (line_walked s e)

  pub line_none : t.end ≤ t.start → (0, b) ≡ brushed q (line_figure s e) b
  line_none off = line_ended off L.inner.first refl (line_begun none refl)

  -- ---- a step of the walker at one of them hands out its point
  module _ {before : ℤ → ℤ → Bool} {k seen : ℕ} {w next : Walker} {now : List ℕ} {p : Point} (J : Walked q before s e b k seen w now) (step : StepOf w p next) (from : t.start ≤ k) (past : k < t.end) where
    -- which may be set
    pub walks_set : {n : ℕ} → n ≡ length b → Ready q n × (in_window q.window p.0 p.1 ≡ true)
    walks_set same = may_set same from past (step s e k (omega (arith, L.inner.most)) J.stands).0

    pub walks_turn : {more n : ℕ} {after : List ℕ} → more ≡ one_if (not (before p.0 p.1)) → after ≡ (brushed q (single p.0 p.1) now).1 → seen + more ≡ n
        → Walked q before s e b (k + 1) n next after
    walks_turn adds put sum =
        let g = step s e k (omega (arith, L.inner.most)) J.stands in
        record { stands = g.1; set = line_turn before from past g.0 adds put sum J.set }
