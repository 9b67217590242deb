-- `drawing::dot_on` sets the pixel, and counts it where the rectangle holds it. Assumes nothing.
use mathlib.Core.Path.{◌≡◌, refl, sym, ap, ◌∙◌}
use mathlib.Core.Bool.{Bool, true, false}
use mathlib.Core.List.{List, [], ◌∷◌}
use Prim.Native.Nat.{ℕ, zero, suc}
use lib.ListN.{length}
use mir.Val.{bool_byte}
use Rattle.std.specs.Prelude.{Result}
use Rattle.refusals.specs.Refusal.{as_number}
use Rattle.refusals.specs.declared.Refusal.{Refusal}
use Rattle.refusals.proofs.Numbers.{handed_back}
use Rattle.geometry.specs.declared.Point.{Point}
use Rattle.layout.specs.Count.{one_if, pixels_in}
use Rattle.layout.specs.Figure.{single}
use Rattle.frames.specs.declared.Canvas.{Canvas}
use Rattle.frames.specs.declared.Drawn.{Drawn}
use Rattle.frames.specs.declared.Placed.{Placed}
use Rattle.frames.specs.Answer.{drawn, as_drawn, was_inside}
use Rattle.frames.specs.Canvas.{keeps, number_on, on_canvas, pixel_on}
use Rattle.frames.specs.Description.{no_colour}
use Rattle.frames.specs.Drawing.{pixel_drawing}
use Rattle.frames.specs.Judged.{Judged}
use Rattle.windows.specs.Window.{in_window, held_by}
use Rattle.frames.proofs.Calls.{behind_passed}
use Rattle.windows.proofs.Windows.{point_count}
use Rattle.drawing.proofs.dot_on.Goals as goal

-- inside or not, as a count
abbrev counted : Placed → Drawn
counted r = record { number = r.number; count = bool_byte r.inside }

one_is : (t : Bool) → bool_byte t ≡ one_if t
one_is true = refl
one_is false = refl

module _ (c : Canvas) (p : Point) (colour : ℕ) (b : List ℕ) (J : Judged c (length b)) where
  abbrev inside : Bool
  inside = in_window c.window p.0 p.1

  count_is : (n : ℕ) → n ≡ number_on c colour [] → counted (was_inside n inside) ≡ drawn n (pixels_in (keeps c) (held_by c.window (single p.0 p.1)))
  count_is zero e =
      let W = J.within (behind_passed (as_number c.judged) ((4, no_colour c.frame colour) ∷ []) e refl).0 in
      λ i. record { number = 0; count = (one_is inside ∙ sym (point_count c.window p.0 p.1 (keeps c) W)) i }
  count_is (suc n) e = refl

  dotted : {r : Placed} {after : List ℕ} → ◌≡◌ {A = Placed × List ℕ} (r, after) (pixel_on c p colour b)
      → ◌≡◌ {A = Drawn × List ℕ} (counted r, after) (on_canvas c (pixel_drawing p colour) b)
  unfolding pixel_on on_canvas
  dotted h = ap (λ (o : Placed × List ℕ). (counted o.0, o.1)) h ∙ (λ i. (count_is (number_on c colour []) refl i, (on_canvas c (pixel_drawing p colour) b).1))

pub returns-in_err-inside : goal.returns-in_err-inside
returns-in_err-inside c =
    let a = c.args in
    ap (λ (r : Result ℕ Refusal). (as_drawn r, c.set_pixel_on.new.buf)) (handed_back c.from_residual.result c.from_residual.ensures)
    ∙ dotted a.canvas a.p a.colour a.buf.now c.requires c.in_err-inside.ensures

pub returns : goal.returns
returns c =
    let a = c.args in
    dotted a.canvas a.p a.colour a.buf.now c.requires c.in_ok-inside.ensures
