-- Laws of a turn: what is kept stands at the front, and the program stays within its input's buffer. Assumes nothing.
use mathlib.Core.Path.{◌≡◌, refl, sym, ap, ◌∙◌}
use mathlib.Core.Bool.{Bool, true, false, true≢false}
use mathlib.Core.List.{List}
use Prim.Native.Nat.{ℕ, ◌+◌, ◌≤◌}
use native.Mathlib.Omega.{arith}
use lib.ListN.{length, take, drop}
use lib.Seq.{sets, sets-eq, take_at, length-take-le}
use Rattle.streams.specs.declared.State.{State}
use Rattle.streams.specs.State.{Within}
use Rattle.streams.specs.Refill.{whole, ReadOn, Refilled}

-- the part of the input's buffer that is filled
pub there_is : (input : List ℕ) (st : State) → Within st → length input ≡ 65536 → length (take st.end input) ≡ st.end
there_is input st w h = length-take-le st.end input (omega (arith, w.most, h))

-- what was put at the front stands there
pub front : (l s : List ℕ) → length s ≤ length l → take (length s) (sets l 0 s) ≡ s
front l s h = ap (take (length s)) (sets-eq s l 0 (omega arith)) ∙ take_at s (drop (0 + length s) l) (length s) refl

-- a turn with a read
pub did_read : (input : List ℕ) (st r : State) (after : List ℕ) → whole input st ≡ false → ReadOn input st r after → Refilled input st r after
did_read input st r after w o = record { stays = λ e. absurd (true≢false (sym e ∙ w)); reads = λ e. o }

-- the program stays within the input's buffer
pub refilled_within : (input : List ℕ) (st r : State) (after : List ℕ) → Within st → Refilled input st r after → Within r
refilled_within input st r after h f = by (whole input st) refl
  where
    by : (t : Bool) → whole input st ≡ t → Within r
    by true w =
        let e = (f.stays w).0 in
        record { ahead = omega (arith, h.ahead, ap (λ (q : State). q.next) e, ap (λ (q : State). q.end) e); most = omega (arith, h.most, ap (λ (q : State). q.end) e) }
    by false w = let o = f.reads w in
        record { ahead = omega (arith, ap (λ (q : State). q.next) o.state); most = omega (arith, o.room, ap (λ (q : State). q.end) o.state) }
