-- `packing::in_order` leaves the colour, or swaps its bytes and shifts out what is no pixel's. Assumes nothing.
use mathlib.Core.Path.{sym, ap, ◌∙◌}
use mathlib.Core.Bool.{Bool}
use Prim.Native.Nat.{ℕ, ◌-◌, ◌*◌, ◌/◌, ◌%◌, ◌^◌}
use Rattle.layout.specs.Digits.{digit}
use Rattle.layout.specs.Packed.{turned}
use Rattle.packing.proofs.Parts.{digit_turned}
use Rattle.packing.proofs.in_order.Goals as goal

pub returns : goal.returns
returns c k h =
    let a = c.args in
    ap (digit 256 k) c.wrapping_shr.ensures
    ∙ ap (λ (s : ℕ). digit 256 k (s / 2 ^ (8 * (4 - a.parts) % 32))) c.swap_bytes.ensures
    ∙ digit_turned a.parts k a.colour c.requires h
    ∙ ap (λ (t : Bool). digit 256 (turned t a.parts k) a.colour) (sym c.if-not-big.false)
