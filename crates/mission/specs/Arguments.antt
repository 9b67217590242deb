-- The arguments of `beamacorn`'s functions, which `beamacorn_c` exports, plain numbers by their place: points and frames.
use Rattle.std.specs.Prelude.{not, ℕ, eqb, ℤ}
use Rattle.geometry.specs.declared.Point.{Point}
use Rattle.frames.specs.declared.Frame.{Frame}

-- points, each x first: the first, the second, the third, the fourth
abbrev pub one : {T : Type 0} → ℤ × (ℤ × T) → Point
one a = (a.0, a.1.0)

abbrev pub two : {T : Type 0} → ℤ × (ℤ × (ℤ × (ℤ × T))) → Point
two a = one a.1.1

abbrev pub three : {T : Type 0} → ℤ × (ℤ × (ℤ × (ℤ × (ℤ × (ℤ × T))))) → Point
three a = two a.1.1

abbrev pub four : {T : Type 0} → ℤ × (ℤ × (ℤ × (ℤ × (ℤ × (ℤ × (ℤ × (ℤ × T))))))) → Point
four a = three a.1.1

-- a frame: width, height, depth, order, distance; 0 is the little end first, anything else the big
abbrev pub framed : {T : Type 0} → ℕ × (ℕ × (ℕ × (ℕ × (ℕ × T)))) → Frame
framed a = record { width = a.0; height = a.1.0; depth = a.1.1.0; big = not (eqb a.1.1.1.0 0); distance = a.1.1.1.1.0 }

-- what comes behind it
abbrev pub behind : {T : Type 0} → ℕ × (ℕ × (ℕ × (ℕ × (ℕ × T)))) → T
behind a = a.1.1.1.1.1

-- a size needs no order: width, height, depth, distance
abbrev pub unordered : {T : Type 0} → ℕ × (ℕ × (ℕ × (ℕ × T))) → Frame
unordered a = record { width = a.0; height = a.1.0; depth = a.1.1.0; big = not (eqb 0 0); distance = a.1.1.1.0 }

-- ---- what a contract promises: a claim of the arguments and the answer, whatever the function did; `Post` is the contract as the source states it
abbrev pub Promises : {K A R S : Type 0} → (K → A → R → S → Type 0) → (A → R → Type 0) → Type 0
Promises {K} {A} {R} {S} Post claim = (κs : K) (a : A) (r : R) (s : S) → Post κs a r s → claim a r
