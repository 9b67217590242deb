-- `packing::pixels` has stored k whole pixels after k turns. Assumes nothing.
use mathlib.Core.Path.{◌≡◌, ap, ◌∙◌}
use Prim.Native.Nat.{ℕ, ◌+◌, ◌*◌}
use native.Mathlib.Nat.{mul-mod_left}
use native.Mathlib.Omega.{arith}
use lib.ListN.{length}
use Rattle.layout.specs.Digits.{set_run}
use Rattle.packing.specs.Words.{pixel_byte}
use Rattle.packing.proofs.Parts.{room_for, pixel_on_lem}
use Rattle.packing.proofs.pixels.Goals as goal

pub loop-k-preserved : goal.loop-k-preserved
loop-k-preserved c =
    let a = c.args in
    let l = c.loop-k in
    let i = l.k * a.parts in
    let room = room_for l.k a.parts (length a.part.now) (omega arith) in
    let next : i + a.parts ≡ (l.k + 1) * a.parts = omega arith in
    pixel_on_lem a.parts i l.part (omega arith) a.part.now c.store.new.part a.big a.colour (mul-mod_left l.k a.parts) l.invariant c.store.ensures
    ∙ ap (λ (k : ℕ). set_run 0 k (pixel_byte a.parts a.big a.colour) a.part.now) next
