-- `windows::held` counts the places from a to both ends of the range, forwards or backwards. Assumes nothing.
use mathlib.Core.Path.{◌≡◌, ap, ◌∙◌}
use Prim.Native.Nat.{ℕ, ◌≤◌}
use lib.IntN.{ℤ, pos, ◌-ℤ◌}
use mir.Syntax.{w32}
use mir.Val.{to_z, of_z}
use Rattle.whole.proofs.Machine.{Has, back, lit, same_bits, minus}
use Rattle.geometry.proofs.Bound.{coord}
use Rattle.windows.specs.Window.{clipped}
use Rattle.windows.proofs.Interval.{held_up, held_down}
use Rattle.windows.proofs.held.Goals as goal
use Rattle.windows.proofs.held.Goals.{Start}

-- the places from a to an end, and one less than these the other way
module _ (s : Start) {end : ℕ} (near : end ≤ 2048) where
  places : Has w32 (to_z w32 end -ℤ to_z w32 (of_z w32 s.args.a)) (pos end -ℤ s.args.a) 133120
  places = minus (same_bits near tt) (back (coord s.requires.0)) tt

  other_way : Has w32 (pos 1 -ℤ to_z w32 (of_z w32 (to_z w32 end -ℤ to_z w32 (of_z w32 s.args.a)))) (pos 1 -ℤ (pos end -ℤ s.args.a)) 133121
  other_way = minus (lit 1 tt) (back places) tt

-- the nearest step to a number that was worked out
nearest_step : (count : ℕ) {e z : ℤ} {b n : ℕ} → Has w32 e z b → n ≡ clipped (to_z w32 (of_z w32 e)) 0 count → n ≡ clipped z 0 count
nearest_step count h e = e ∙ ap (λ (z : ℤ). clipped z 0 count) (back h).is

pub returns-then-grows : goal.returns-then-grows
returns-then-grows c =
    let a = c.args in
    rw c.if-grows.true
    (held_up a.a a.low a.high a.count (nearest_step a.count (places (goal.at.returns-then-grows c).Start c.requires.1) c.clip.ensures) (nearest_step a.count (places (goal.at.returns-then-grows c).Start c.requires.2) c.clip-then-grows.ensures))

pub returns-else-grows : goal.returns-else-grows
returns-else-grows c =
    let a = c.args in
    rw c.if-grows.false
    (held_down a.a a.low a.high a.count (nearest_step a.count (other_way (goal.at.returns-else-grows c).Start c.requires.2) c.clip-else-grows.ensures) (nearest_step a.count (other_way (goal.at.returns-else-grows c).Start c.requires.1) c.clip-else-grows-2.ensures))
