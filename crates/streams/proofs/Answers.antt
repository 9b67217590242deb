-- Laws of a program that answers its input line by line: what a write and a read leave of its state, and what is written with what fills the buffer. Assumes nothing.
use mathlib.Core.Path.{◌≡◌, refl, sym, ap, ◌∙◌}
use mathlib.Core.Bool.{Bool, true, false, cond}
use mathlib.Core.List.{List, ◌++◌, append_assoc}
use Prim.Native.Nat.{ℕ, ◌+◌, ◌≤◌, ◌<◌}
use native.Mathlib.Omega.{arith}
use lib.Dec.{ltb}
use lib.ListN.{length, take, drop, length-append}
use lib.Seq.{sets, sets-eq, length-sets, take_at, length-take-le}
use borrow.Author.Tests.{ltb-true}
use Rattle.streams.specs.declared.State.{State}
use Rattle.streams.specs.State.{Within, emptied, written}
use Rattle.streams.specs.Refill.{whole as line-left, Refilled}

-- ---- a write leaves less than half of the output's buffer filled
pub written_half : (st : State) (failed : Bool) → (written st failed).at < 32768
written_half st failed = by (ltb st.at 32768) refl
  where
    by : (t : Bool) → ltb st.at 32768 ≡ t → (cond t st (emptied st failed)).at < 32768
    by true e = ltb-true st.at 32768 e
    by false e = omega arith

pub written_within : (st : State) (failed : Bool) → Within st → Within (written st failed)
written_within st failed w = by (ltb st.at 32768)
  where
    by : (t : Bool) → Within (cond t st (emptied st failed))
    by true = w
    by false = record { ahead = w.ahead; most = w.most }

pub written_turns : (st : State) (failed : Bool) → (written st failed).turns ≡ st.turns
written_turns st failed = by (ltb st.at 32768)
  where
    by : (t : Bool) → (cond t st (emptied st failed)).turns ≡ st.turns
    by true = refl
    by false = refl

-- ---- after a read as much is filled as before
pub refilled_at : (input : List ℕ) (st r : State) (after : List ℕ) → Refilled input st r after → r.at ≡ st.at
refilled_at input st r after f = by (line-left input st) refl
  where
    by : (t : Bool) → line-left input st ≡ t → r.at ≡ st.at
    by true w = ap (λ (q : State). q.at) (f.stays w).0
    by false w = ap (λ (q : State). q.at) (f.reads w).state

-- ---- what was written before and the filled part of the buffer are together what was said
abbrev pub seen : List ℕ → ℕ × List ℕ → List ℕ
seen before o = before ++ take o.0 o.1

-- the buffer has room for what fills it
abbrev pub Room : ℕ × List ℕ → Type 0
Room o = o.0 ≤ length o.1

module _ (o : ℕ × List ℕ) (text : List ℕ) (fits : Room (o.0 + length text, sets o.1 o.0 text)) where
  pub room_before : Room o
  room_before = omega (arith, fits, length-sets o.1 o.0 text)

  pub one_more : (before : List ℕ) → seen before (o.0 + length text, sets o.1 o.0 text) ≡ seen before o ++ text
  one_more before =
      let room : o.0 + length text ≤ length o.1 = omega (arith, fits, length-sets o.1 o.0 text) in
      let filled : length (take o.0 o.1 ++ text) ≡ o.0 + length text = omega (arith, length-append (take o.0 o.1) text, length-take-le o.0 o.1 (omega arith)) in
      ap (λ (l : List ℕ). before ++ take (o.0 + length text) l) (sets-eq text o.1 o.0 room)
      ∙ ap (λ (l : List ℕ). before ++ l) (take_at (take o.0 o.1 ++ text) (drop (o.0 + length text) o.1) (o.0 + length text) filled)
      ∙ sym (append_assoc before (take o.0 o.1) text)
