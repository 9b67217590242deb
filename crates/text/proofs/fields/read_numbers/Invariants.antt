-- `text::fields::read_numbers` keeps number after number; those that are left are at each turn the rest of those of the whole line. Assumes nothing.
use mathlib.Core.Path.{◌≡◌}
use Prim.Native.Nat.{◌-◌}
use lib.ListN.{length, take}
use Rattle.text.proofs.Numbers.{next_numbers, behind}
use Rattle.text.proofs.fields.read_numbers.Given as goal

abbrev pub invariant-loop-number : goal.invariant-loop-number
invariant-loop-number g l =
    let count = l.number-index-end in
    (length l.number-items ≡ count) × (behind (take l.number-index l.number-items) (next_numbers (count - l.number-index) l.line l.at) ≡ next_numbers count l.line 0)
