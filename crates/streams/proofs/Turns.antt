-- Laws of the run of any program: its output's bytes are a part of what it works on, and of the rest something holds from turn to turn. Assumes nothing.
use mathlib.Core.Path.{◌≡◌, refl, sym, ap, subst, ◌∙◌}
use mathlib.Core.Bool.{Bool, true, false, ◌&&◌, not, false≢true}
use mathlib.Core.List.{List}
use Prim.Native.Nat.{ℕ, ◌-◌, ◌≤◌, ◌<◌}
use native.Mathlib.Omega.{arith}
use lib.Dec.{ltb}
use lib.ListN.{length}
use borrow.Author.Tests.{ltb-true}
use Rattle.streams.specs.declared.Input.{Input}
use Rattle.streams.specs.declared.Input.TheVariants.{More, End, Unread}
use Rattle.streams.specs.declared.State.{State}
use Rattle.streams.specs.State.{Within, Standing, may_come, started, goes_on, written}
use Rattle.streams.specs.Refill.{whole, Refilled}
use Rattle.streams.specs.Run.{Ran, begun, turn}
use Rattle.streams.proofs.Refilling.{refilled_within}
use Rattle.streams.proofs.Answers.{written_half, written_within, written_turns, refilled_at}

-- ---- turns
pub still_goes : (st : State) → goes_on st ≡ true → (st.input ≡ More) × (0 < st.turns)
still_goes st e = by st.input st.unwritten e
  where
    by : (i : Input) (b : Bool) → may_come i && (not b && ltb 0 st.turns) ≡ true → (i ≡ More) × (0 < st.turns)
    by More false q = (refl, ltb-true 0 st.turns q)
    by More true q = absurd (false≢true q)
    by End b q = absurd (false≢true q)
    by Unread b q = absurd (false≢true q)

pub some_turns : (st : State) → goes_on st ≡ true → 0 < st.turns
some_turns st e = (still_goes st e).1

pub refilled_turns : (input : List ℕ) (st r : State) (after : List ℕ) → Refilled input st r after → r.turns ≡ st.turns - 1
refilled_turns input st r after f = by (whole input st) refl
  where
    by : (t : Bool) → whole input st ≡ t → r.turns ≡ st.turns - 1
    by true w = ap (λ (q : State). q.turns) (f.stays w).0
    by false w = ap (λ (q : State). q.turns) (f.reads w).state

module _ {O : Type 0} (out : O → List ℕ) (Sound : O → Type 0) where
  -- after the lines that are there: within both buffers, and as many turns are left as before
  pub record Kept (st : State) (p : State × O) : Type 0 where
    pub within : Within p.0
    pub filled : p.0.at ≤ length (out p.1)
    pub size : length (out p.1) ≡ 65536
    pub turns : p.0.turns ≡ st.turns
    pub sound : Sound p.1

  module _ (lines : List ℕ → State → O → State × O) (first : O) where
    -- the program stands within its buffers, and came there turn by turn
    pub record Going (st : State) (input : List ℕ) (o : O) : Type 0 where
      pub stands : Standing st input (out o)
      pub sound : Sound o
      pub ran : Ran out lines first st input o

    pub going_first : (st : State) (input : List ℕ) → st ≡ started → length input ≡ 65536 → length (out first) ≡ 65536 → Sound first → Going st input first
    going_first st input e i o s =
        subst (λ (q : State). Going q input first) (sym e)
        (record {
          stands = record { within = record { ahead = omega arith; most = omega arith }; filled = omega arith; input_size = i; out_size = o };
          sound = s;
          ran = begun input;
        })

    module _ (st : State) (input : List ℕ) (o : O) (g : Going st input o) (on : goes_on st ≡ true) (p : State × O) (e : p ≡ lines input st o) (k : Kept st p) (w : State)
        (f : w ≡ written p.0 w.unwritten) where
      turns_left : w.turns ≡ st.turns
      turns_left = ap (λ (q : State). q.turns) f ∙ written_turns p.0 w.unwritten ∙ k.turns

      is_within : Within w
      is_within = subst Within (sym f) (written_within p.0 w.unwritten k.within)

      pub may_read : Within w × (0 < w.turns) × (length input ≡ 65536)
      may_read = (is_within, omega (arith, turns_left, some_turns st on), g.stands.input_size)

      module _ (r : State) (after : List ℕ) (h : Refilled input w r after) where
        pub going_on : length after ≡ length input → Going r after p.1
        going_on same =
            let q : Refilled input (written p.0 w.unwritten) r after = subst (λ (x : State). Refilled input x r after) f h in
            record {
              stands = record {
                within = refilled_within input w r after is_within h;
                filled = omega (arith, refilled_at input w r after h, ap (λ (x : State). x.at) f, written_half p.0 w.unwritten);
                input_size = same ∙ g.stands.input_size;
                out_size = k.size;
              };
              sound = k.sound;
              ran = subst (λ (x : State × O). Ran out lines first r after x.1) (sym e)
                  (turn st input o w.unwritten r after g.ran on (subst (λ (x : State × O). x.0.at ≤ length (out x.1)) e k.filled)
                  (subst (λ (x : State × O). Refilled input (written x.0 w.unwritten) r after) e q));
            }
