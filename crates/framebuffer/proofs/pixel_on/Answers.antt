-- `framebuffer::pixel_on` answers the canvas's number, 8 outside its rectangle, or what it reads. Assumes nothing.
use mathlib.Core.Path.{◌≡◌, sym, ap, ap₂, ◌∙◌}
use mathlib.Core.Bool.{Bool, true, false, cond, not}
use mathlib.Core.List.{[], ◌∷◌}
use Prim.Native.Nat.{ℕ}
use lib.IntN.{ℤ, nat_abs}
use mir.Syntax.{w32}
use mir.Val.{to_z, of_z}
use borrow.Author.Tests.{not-true, not-false}
use Rattle.whole.proofs.Machine.{field_back}
use Rattle.refusals.specs.Refusal.{as_number}
use Rattle.layout.specs.Layout.{get_pixel, shown}
use Rattle.frames.specs.Answer.{read}
use Rattle.frames.specs.Canvas.{keeps, behind, read_on}
use Rattle.windows.specs.Window.{in_window}
use Rattle.frames.proofs.Calls.{behind_0, refused_read_on}
use Rattle.framebuffer.proofs.pixel_on.Goals as goal
use Rattle.framebuffer.proofs.pixel_on.Goals.{After-holds, After-struct_told-2-1}

pub returns-in_err-canvas : goal.returns-in_err-canvas
returns-in_err-canvas c = refused_read_on c.args.canvas c.args.p c.args.buf.now _ _ c.from_residual.ensures (sym (ap as_number c.in_err-canvas.was))

-- the coordinates, as the code reads them, and whether the rectangle holds them
module _ (c : After-struct_told-2-1) where
  across : to_z w32 (of_z w32 c.args.p.0) ≡ c.args.p.0
  across = field_back w32 c.args.p.0 c.struct_told-2-1.given.0.1

  down : to_z w32 (of_z w32 c.args.p.1) ≡ c.args.p.1
  down = field_back w32 c.args.p.1 c.struct_told-2-1.given.1.0.1

held : (c : After-holds) → (let a = c.args in in_window a.canvas.window a.p.0 a.p.1 ≡ c.holds.result)
held c = sym (c.holds.ensures ∙ ap₂ (in_window c.args.canvas.window) (across (goal.at.After-holds c).After-struct_told-2-1) (down (goal.at.After-holds c).After-struct_told-2-1))

-- so the place is in the rectangle, or 8 is answered
number : (c : After-holds) (t : Bool) → c.holds.result ≡ t
    → (let a = c.args in cond (not t) 8 0 ≡ behind (as_number a.canvas.judged) ((8, not (in_window a.canvas.window a.p.0 a.p.1)) ∷ []))
number c t e =
    let a = c.args in
    behind_0 (as_number a.canvas.judged) ((8, not (in_window a.canvas.window a.p.0 a.p.1)) ∷ []) (ap as_number c.in_ok-canvas.was) (ap (λ (t : Bool). cond (not t) 8 0) (sym (held c ∙ e)))

pub returns-then-not-holds : goal.returns-then-not-holds
unfolding read_on
returns-then-not-holds c =
    let a = c.args in
    ap (λ (n : ℕ). read n (shown (keeps a.canvas) a.buf.now (nat_abs a.p.0) (nat_abs a.p.1))) (number (goal.at.returns-then-not-holds c).After-holds false (not-true _ c.if-not-holds.true-raw))

pub returns : goal.returns
unfolding read_on
returns c =
    let b = c.args in
    ap₂ read (number (goal.at.returns c).After-holds true (not-false _ c.if-not-holds.false-raw))
    (c.read_point.ensures ∙ ap₂ (λ (x y : ℤ). get_pixel (keeps b.canvas) (nat_abs x) (nat_abs y) b.buf.now) (across (goal.at.returns c).After-struct_told-2-1) (down (goal.at.returns c).After-struct_told-2-1))
