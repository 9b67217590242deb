-- The part of a buffer that a `dump` asks for: as the code lends it, and that it has few bytes. Assumes nothing.
use mathlib.Core.Path.{◌≡◌, refl, ap, ◌∙◌}
use mathlib.Core.Bool.{Bool, true, false}
use mathlib.Core.Logic.{◌⊎◌, inl, inr}
use mathlib.Core.List.{List}
use Prim.Native.Nat.{ℕ, ◌+◌, ◌-◌, ◌≤◌, ◌<◌}
use native.Mathlib.Omega.{arith}
use denote.Ref.{Bor}
use lib.Dec.{leb}
use lib.ListN.{length, take, drop, length-take}
use borrow.Author.Tests.{le-leb, lt-leb}
use Rattle.std.specs.Bool.{then_some}
use Rattle.std.specs.List.{slice_range}
use Rattle.std.specs.Option.{MatchOption, option_copied}
use Rattle.std.specs.Prelude.{Option, Some, None, option_and_then}
use Rattle.std.proofs.lemmas.Option.{same_Some}
use Rattle.text.specs.Fields.{next_u32}
use Rattle.readers.specs.Figures.{last_u32}
use Rattle.readers.proofs.Readings.{last_most}
use Rattle.protocol.specs.Dump.{part_of, dumped}

pub part_lent : (m : List ℕ) (from count : ℕ) (r : Option (Bor (List ℕ)))
    → MatchOption r ((from + count < from) ⊎ (length m < from + count))
    (λ x. (from ≤ from + count) × (from + count ≤ length m) × (x.now ≡ slice_range m from (from + count)) × (length x.now + from ≡ from + count))
    → option_copied r ≡ part_of m from count
part_lent m from count None (inl h) = absurd (omega arith)
part_lent m from count None (inr h) = rw (lt-leb (from + count) (length m) h)
part_lent m from count (Some x) h = rw (le-leb (from + count) (length m) h.1) (ap Some (h.2 ∙ ap (λ (n : ℕ). take n (drop from m)) size))
  where
    size : from + count - from ≡ count
    size = omega arith

pub part_few : (said : List ℕ) (at : ℕ) (m b : List ℕ) → Some b ≡ dumped said at m → length b ≤ 4096
unfolding dumped
part_few said at m b e = first (next_u32 said at) e
  where
    within : (from count : ℕ) → count ≤ 4096 → (t : Bool) → Some b ≡ then_some t (take count (drop from m)) → length b ≤ 4096
    within from count h true e = omega (arith, ap length (same_Some b (take count (drop from m)) e), length-take count (drop from m))
    within from count h false e = cc

    then : (from : ℕ) (n : Option ℕ) → ((v : ℕ) → Some v ≡ n → v ≤ 4096) → Some b ≡ option_and_then (part_of m from) n → length b ≤ 4096
    then from None h e = cc
    then from (Some count) h e = within from count (h count refl) (leb (from + count) (length m)) e

    first : (f : Option (ℕ × ℕ)) → Some b ≡ option_and_then (λ f. option_and_then (part_of m f.0) (last_u32 4096 said f.1)) f → length b ≤ 4096
    first None e = cc
    first (Some f) e = then f.0 (last_u32 4096 said f.1) (last_most 4096 said f.1) e
