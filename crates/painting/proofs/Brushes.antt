-- Laws of a call on a canvas that paints by the canvas's brush. Assumes nothing.
use mathlib.Core.Path.{◌≡◌, refl, sym, ap, subst, ◌∙◌}
use mathlib.Core.Bool.{Bool}
use mathlib.Core.List.{List, [], ◌∷◌}
use Prim.Native.Nat.{ℕ}
use Rattle.refusals.specs.First.{Tests}
use Rattle.refusals.specs.Refusal.{as_number}
use Rattle.geometry.specs.declared.Point.{Point}
use Rattle.layout.specs.Figure.{single}
use Rattle.layout.specs.Count.{pixels_in}
use Rattle.frames.specs.declared.Canvas.{Canvas}
use Rattle.painting.specs.declared.Brush.{Brush}
use Rattle.frames.specs.declared.Drawn.{Drawn}
use Rattle.frames.specs.declared.Placed.{Placed}
use Rattle.frames.specs.Answer.{was_inside}
use Rattle.frames.specs.Description.{no_colour}
use Rattle.frames.specs.Drawing.{Drawing, pixel_drawing}
use Rattle.frames.specs.Judged.{Judged}
use Rattle.painting.specs.Brush.{Ready, brush_of, brushed}
use Rattle.frames.specs.Canvas.{keeps, number_on, on_canvas, pixel_on}
use Rattle.windows.specs.Window.{in_window, held_by, Small}
use Rattle.frames.proofs.Calls.{described_on, behind_passed, first_on, own_on, drawable_on, refused_on, accepted_on, refused_placed_on}
use Rattle.frames.proofs.Refusals.{within_small}

-- the rectangle of a brush that may paint is small
pub ready_small : {q : Brush} {len : ℕ} → Ready q len → Small q.window
ready_small R = within_small R.within R.drawable.accepted.described

-- the canvas's brush may paint
pub ready_on : (c : Canvas) (colour : ℕ) (own : Tests) {len : ℕ} {q : Brush} → Judged c len → q ≡ brush_of c colour → 0 ≡ number_on c colour own → Ready q len
ready_on c colour own {len} J p e =
    subst (λ (q : Brush). Ready q len) (sym p)
    (record { drawable = drawable_on c colour own J e; within = J.within (behind_passed (as_number c.judged) ((4, no_colour c.frame colour) ∷ own) e refl).0 })

-- by the canvas's brush
pub brushed_on : (c : Canvas) (d : Drawing) (b : List ℕ) {m : ℕ} {q : Brush} {after : List ℕ} → 0 ≡ number_on c d.colour d.own
    → q ≡ brush_of c d.colour → (m, after) ≡ brushed q d.figure b → ◌≡◌ {A = Drawn × List ℕ} (record { number = 0; count = m }, after) (on_canvas c d b)
brushed_on c d b e p h = accepted_on c d b e (h ∙ ap (λ (q : Brush). brushed q d.figure b) p)

-- a pixel set
pub placed_on : (c : Canvas) (p : Point) (colour : ℕ) (b : List ℕ) {q : Brush} {t : Bool} {after : List ℕ} → 0 ≡ number_on c colour []
    → q ≡ brush_of c colour → t ≡ in_window q.window p.0 p.1 → after ≡ (brushed q (single p.0 p.1) b).1
    → ◌≡◌ {A = Placed × List ℕ} (record { number = 0; inside = t }, after) (pixel_on c p colour b)
unfolding pixel_on
placed_on c p colour b {q} e w i h =
    let d = pixel_drawing p colour in
    let bytes = h ∙ ap (λ (q : Brush). (brushed q d.figure b).1) w in
    let a = accepted_on c d b e (λ j. (pixels_in (keeps c) (held_by c.window d.figure), bytes j)) in
    (λ j. (record { number = 0; inside = (i ∙ ap (λ (q : Brush). in_window q.window p.0 p.1) w) j }, (a j).1))
    ∙ ap (λ (k : ℕ). (was_inside k (in_window c.window p.0 p.1), (on_canvas c d b).1)) e

-- what answers the needs of a call on a canvas
pub ruleset calls = (described_on, first_on, own_on, drawable_on, ready_on, refused_on, brushed_on, refused_placed_on, placed_on)
