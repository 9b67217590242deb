-- The steps of a walk that a rectangle holds: an interval, where a coordinate moves by one place at every step.
use Rattle.std.specs.Prelude.{◌≡◌, Bool, cond, ℕ, ◌≤◌, ◌<◌, leb, ltb, ℤ, pos, negsuc, ◌+ℤ◌, ◌*ℤ◌}
use Rattle.std.specs.Int.Signed.{le_z, lt_z}
use Rattle.std.specs.declared.ops.Range.{Range}

-- k places on from a, upwards or downwards
abbrev pub on_from : Bool → ℤ → ℕ → ℤ
on_from grows a k = a +ℤ cond grows (pos 1) (negsuc 0) *ℤ pos k

-- a coordinate on its way has come to the places from low to one before high
abbrev pub come : Bool → ℕ → ℕ → ℤ → Bool
come grows low high z = cond grows (le_z (pos low) z) (lt_z z (pos high))

-- and has not left them
abbrev pub stays : Bool → ℕ → ℕ → ℤ → Bool
stays grows low high z = cond grows (lt_z z (pos high)) (le_z (pos low) z)

-- t are, of the steps below count, exactly those at which a coordinate that begins at a lies from low to one before high: from the first at which it has come there
-- to the last at which it stays. Each end is told by itself, so that one answer is meant where there is no such step too
pub record Held (a : ℤ) (grows : Bool) (low high count : ℕ) (t : Range ℕ) : Type 0 where
  pub first : t.start ≤ count
  pub most : t.end ≤ count
  pub begins : (k : ℕ) → k < count → leb t.start k ≡ come grows low high (on_from grows a k)
  pub ends : (k : ℕ) → k < count → ltb k t.end ≡ stays grows low high (on_from grows a k)
