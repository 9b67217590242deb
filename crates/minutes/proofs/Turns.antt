-- Laws of the program's turns: it stays within its input's buffer, no more samples are inside than there are, and when the count is told. Assumes nothing.
use mathlib.Core.Path.{◌≡◌, sym, ap, subst, ◌∙◌}
use mathlib.Core.Bool.{true, false}
use mathlib.Core.List.{List}
use Prim.Native.Nat.{ℕ}
use native.Mathlib.Omega.{arith}
use lib.ListN.{length, take}
use lib.Seq.{sets, length-take-le}
use Rattle.text.proofs.Streaming.{handled_within, handled_keeps}
use Rattle.streams.specs.declared.Input.TheVariants.{End}
use Rattle.streams.specs.declared.State.{State}
use Rattle.streams.specs.State.{Within, started, goes_on, stands_at}
use Rattle.streams.specs.Refill.{Refilled}
use Rattle.streams.specs.Run.{Ran, begun, turn}
use Rattle.streams.proofs.Refilling.{refilled_within}
use Rattle.reports.specs.declared.Tally.{Tally}
use Rattle.reports.specs.Minutes.{Count, Few, count_of, fresh, take_line, always, count_line}
use Rattle.reports.proofs.Counting.{take_few}
use Rattle.minutes.specs.Counted.{counted_some, told, bytes, lines}

module _ (first : List ℕ) where
  pub record Running (st : State) (input : List ℕ) (t : Tally) : Type 0 where
    pub within : Within st
    pub size : length input ≡ 65536
    pub few : Few (count_of t)
    pub ran : Ran bytes lines (fresh, first) st input (t, first)

  pub starts : (st : State) (input : List ℕ) → st ≡ started → length input ≡ 65536 → Running st input fresh
  starts st input e i =
      subst (λ (q : State). Running q input fresh) (sym e)
      (record { within = record { ahead = omega arith; most = omega arith }; size = i; few = tt; ran = begun input })

  module _ (st : State) (input : List ℕ) (t : Tally) (run : Running st input t) where
    pub there_is : length (take st.end input) ≡ st.end
    there_is = length-take-le st.end input (omega (arith, run.within.most, run.size))

    module _ (m : ℕ × Tally) (e : m ≡ counted_some input st t) (w : State) (f : w ≡ stands_at st m.0 0) where
      is : w ≡ stands_at st (counted_some input st t).0 0
      is = f ∙ ap (λ (p : ℕ × Tally). stands_at st p.0 0) e

      pub next_within : Within w
      next_within =
          subst Within (sym is)
          (record {
            ahead =
                omega (
                  arith,
                  there_is,
                  handled_within take_line always (take st.end input) (length (take st.end input)) st.next t (omega (arith, there_is, run.within.ahead)),
                );
            most = run.within.most;
          })

      pub same_turns : w.turns ≡ st.turns
      same_turns = ap (λ (q : State). q.turns) is

      pub runs_on : (r : State) (after : List ℕ) → goes_on st ≡ true → length after ≡ length input → Refilled input w r after → Running r after m.1
      runs_on r after on same g =
          let h : Refilled input (stands_at st (counted_some input st t).0 0) r after = subst (λ (q : State). Refilled input q r after) is g in
          subst (λ (p : ℕ × Tally). Running r after p.1) (sym e)
          (record {
            within = refilled_within input w r after next_within g;
            size = same ∙ run.size;
            few = handled_keeps take_line always (λ (q : Tally). Few (count_of q)) (λ q l a b. take_few q l b) (take st.end input) (length (take st.end input)) st.next t run.few;
            ran = turn st input (t, first) false r after run.ran on (omega arith) h;
          })

-- ---- whether the count is told
module _ (st : State) (k : Count) (out : List ℕ) where
  pub told_all : st.input ≡ End → (stands_at st st.end (length (count_line k)), sets out 0 (count_line k)) ≡ told st k out
  told_all e = rw e
