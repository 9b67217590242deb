-- What a program hands to `write` is what its input, handled line by line, asks for. Assumes nothing.
use mathlib.Core.Path.{◌≡◌, refl, sym, ap, ap₂, subst, ◌∙◌}
use mathlib.Core.Bool.{Bool, true, false, cond, true≢false}
use mathlib.Core.List.{List, [], ◌∷◌, ◌++◌, append_assoc, append-nil}
use Prim.Native.Nat.{ℕ, zero, suc, ◌+◌, ◌-◌, ◌≤◌, ◌<◌}
use native.Mathlib.Omega.{arith}
use lib.Dec.{ltb}
use lib.ListN.{length, take, drop, length-take, length-drop, take-append-drop, drop_of_length-le}
use lib.Seq.{take_all, take-take}
use borrow.Author.Tests.{ltb-true, ltb-false}
use Rattle.text.specs.Fields.{until, lines as parted}
use Rattle.text.specs.Lines.{line_end, each, over}
use Rattle.text.proofs.Parting.{until_within}
use Rattle.text.proofs.Streaming.{first_line_lem, until_take, over_cut}
use Rattle.text.proofs.Writing.{drop_take}
use Rattle.std.specs.Prelude.{Option, Some, None, unwrap_or}
use Rattle.streams.specs.declared.Input.TheVariants.{More, End}
use Rattle.streams.specs.declared.State.{State}
use Rattle.streams.specs.State.{may_come, has_ended, stands_at, emptied, written, last_is}
use Rattle.streams.specs.Refill.{whole, rest, hope, ReadOn, Refilled}
use Rattle.streams.specs.Run.{Ran, begun, turn, Ended}
use Rattle.streams.specs.Handed.{flushed, brought, handed, came, handed_all, came_all}
use Rattle.streams.proofs.Answers.{refilled_at}
use Rattle.streams.proofs.Turns.{still_goes}

-- what is still to be looked at
abbrev pub ahead : List ℕ → State → List ℕ
ahead input st = drop st.next (take st.end input)

-- the same as a last line
abbrev pub last_line : List ℕ → State → List ℕ
last_line input st = take (st.end - st.next) (drop st.next input)

-- ---- a read: what was kept and what came stand one behind the other
abbrev Open : List ℕ → Type 0
Open s = until 10 s ≡ length s

no_line : (input : List ℕ) (st : State) → whole input st ≡ false → Open (ahead input st)
no_line input st e =
    let there : List ℕ = take st.end input in
    omega (arith, ltb-false (line_end there st.next) st.end e, until_within 10 (ahead input st), length-drop st.next there, length-take st.end input)

none_came : (read : Option ℕ) → hope read ≡ End → unwrap_or read 0 ≡ 0
none_came (Some zero) e = refl
none_came (Some (suc n)) e = cc
none_came None e = refl

module _ (input : List ℕ) (st r : State) (after : List ℕ) (o : ReadOn input st r after) where
  ends_at : r.end ≡ length (rest input st) + unwrap_or o.read 0
  ends_at = ap (λ (q : State). q.end) o.state

  ahead_is : ahead after r ≡ take r.end after
  ahead_is = ap (λ (q : State). drop q.next (take r.end after)) o.state

  joined : rest input st ++ drop (length (rest input st)) (take r.end after) ≡ ahead after r
  joined =
      let n : ℕ = length (rest input st) in
      ap (λ (l : List ℕ). l ++ drop n (take r.end after)) (sym (take-take n r.end after (omega (arith, ends_at)) ∙ o.kept))
      ∙ take-append-drop n (take r.end after) ∙ sym ahead_is

  -- none came
  ended : r.input ≡ End → rest input st ≡ ahead after r
  ended e =
      let none : unwrap_or o.read 0 ≡ 0 = none_came o.read (sym (ap (λ (q : State). q.input) o.state) ∙ e) in
      let same : length (rest input st) ≡ r.end = omega (arith, ends_at, none) in
      sym o.kept ∙ ap (λ (k : ℕ). take k after) same ∙ sym ahead_is

written_input : (st : State) (failed : Bool) → (written st failed).input ≡ st.input
written_input st failed = by (ltb st.at 32768)
  where
    by : (t : Bool) → (cond t st (emptied st failed)).input ≡ st.input
    by true = refl
    by false = refl

-- after a last line, if there is one
abbrev last_or_none : {O : Type 0} → State → ℕ → O → O → Bool → State × O
last_or_none st at done o t = cond t (stands_at st st.end at, done) (st, o)

pub last_or_none_lem : {O : Type 0} (st : State) (at : ℕ) (done o : O) (t : Bool)
    → (last_or_none st at done o t).0.input ≡ st.input
last_or_none_lem st at done o true = refl
last_or_none_lem st at done o false = refl

module _ {O S : Type 0} (bytes : O → List ℕ) (lines last : List ℕ → State → O → State × O) (first : O) (f : S → List ℕ → S) (view : List ℕ → ℕ → O → S) where
  -- the program does with its lines what f does. `view` is how far it is with that: by what was handed over, up to where the output's buffer is filled behind
  -- that, and what the program works on
  pub record Follows : Type 0 where
    -- 129 bytes of a line are enough
    pub enough : (s : S) (line : List ℕ) → f s line ≡ f s (take 129 line)
    -- a write changes nothing
    pub moved : (before : List ℕ) (at : ℕ) (o : O) → view before at o ≡ view (before ++ take at (bytes o)) 0 o
    -- the lines that are there
    pub goes : (before input more : List ℕ) (st : State) (o : O) → (lines input st o).0.at ≤ length (bytes (lines input st o).1)
        → over f (view before st.at o) (ahead input st ++ more)
        ≡ over f (view before (lines input st o).0.at (lines input st o).1) (ahead input (lines input st o).0 ++ more)
    pub keeps : (input : List ℕ) (st : State) (o : O) → may_come (lines input st o).0.input ≡ may_come st.input
    -- the last line, or none
    pub ends : (before input : List ℕ) (st : State) (o : O) → (last input st o).0.at ≤ length (bytes (last input st o).1) → last_is st ≡ true
        → view before (last input st o).0.at (last input st o).1 ≡ f (view before st.at o) (last_line input st)
    pub stays : (before input : List ℕ) (st : State) (o : O) → last_is st ≡ false → view before (last input st o).0.at (last input st o).1 ≡ view before st.at o
    pub last_keeps : (input : List ℕ) (st : State) (o : O) → (last input st o).0.input ≡ st.input

  module _ (h : Follows) where
    -- ---- a turn
    write_step : (before input more : List ℕ) (m : State × O) (failed : Bool)
        → over f (view before m.0.at m.1) (ahead input m.0 ++ more)
        ≡ over f (view (before ++ flushed m.0 (bytes m.1)) (written m.0 failed).at m.1) (ahead input (written m.0 failed) ++ more)
    write_step before input more m failed = by (ltb m.0.at 32768)
      where
        by : (t : Bool) → over f (view before m.0.at m.1) (ahead input m.0 ++ more)
            ≡ over f (view (before ++ cond t [] (take m.0.at (bytes m.1))) (cond t m.0 (emptied m.0 failed)).at m.1)
            (ahead input (cond t m.0 (emptied m.0 failed)) ++ more)
        by true = ap (λ (b : List ℕ). over f (view b m.0.at m.1) (ahead input m.0 ++ more)) (sym (append-nil before))
        by false = ap (λ (s : S). over f s (ahead input m.0 ++ more)) (h.moved before m.0.at m.1)

    module _ (input : List ℕ) (st r : State) (after : List ℕ) (g : Refilled input st r after) where
      read_step : (s : S) (more : List ℕ) → over f s (ahead input st ++ (brought input st r after ++ more)) ≡ over f s (ahead after r ++ more)
      read_step s more = by (whole input st) refl
        where
          by : (t : Bool) → whole input st ≡ t
              → over f s (ahead input st ++ (cond t [] (drop (length (rest input st)) (take r.end after)) ++ more)) ≡ over f s (ahead after r ++ more)
          by true e = ap₂ (λ (l : List ℕ) (q : State). over f s (ahead l q ++ more)) (sym (g.stays e).1) (sym (g.stays e).0)
          by false e =
              let b : List ℕ = drop (length (rest input st)) (take r.end after) in
              over_cut f 128 h.enough s (ahead input st) (b ++ more) (no_line input st e)
              ∙ ap (over f s) (sym (append_assoc (rest input st) b more) ∙ ap (λ (l : List ℕ). l ++ more) (joined input st r after (g.reads e)))

      read_open : may_come st.input ≡ true → r.input ≡ End → Open (ahead after r) × (r.end ≤ length after)
      read_open m e = by (whole input st) refl
        where
          by : (t : Bool) → whole input st ≡ t → Open (ahead after r) × (r.end ≤ length after)
          by true w =
              let still : r.input ≡ st.input = ap (λ (q : State). q.input) (g.stays w).0 in
              absurd (true≢false (sym m ∙ sym (ap may_come still) ∙ ap may_come e))
          by false w =
              let o = g.reads w in (
                subst Open (ended input st r after o e) (until_take 10 (ahead input st) 129 (no_line input st w)),
                omega (arith, o.there, ends_at input st r after o),
              )

    -- ---- some turns: what the input asked for so far is what was done and what is still to be looked at
    run_said : (st : State) (input : List ℕ) (o : O) (ran : Ran bytes lines first st input o) (more : List ℕ)
        → over f (view [] 0 first) (came ran ++ more) ≡ over f (view (handed ran) st.at o) (ahead input st ++ more)
    run_said _ _ _ (begun input) more = refl
    run_said _ _ _ (turn st input o failed r after ran on fits g) more =
        let m : State × O = lines input st o in
        let w : State = written m.0 failed in
        let b : List ℕ = brought input w r after in
        let t : List ℕ = handed ran in
        ap (over f (view [] 0 first)) (append_assoc (came ran) b more)
        ∙ run_said st input o ran (b ++ more)
        ∙ h.goes t input (b ++ more) st o fits
        ∙ write_step t input (b ++ more) m failed
        ∙ read_step input w r after g (view (t ++ flushed m.0 (bytes m.1)) w.at m.1) more
        ∙ ap (λ (k : ℕ). over f (view (t ++ flushed m.0 (bytes m.1)) k m.1) (ahead after r ++ more)) (sym (refilled_at input w r after g))

    run_open : (st : State) (input : List ℕ) (o : O) → Ran bytes lines first st input o → st.input ≡ End → Open (ahead input st) × (st.end ≤ length input)
    run_open _ _ _ (begun input) e = absurd (cc)
    run_open _ _ _ (turn st input o failed r after ran on fits g) e =
        read_open input (written (lines input st o).0 failed) r after g (ap may_come (written_input (lines input st o).0 failed) ∙ h.keeps input st o ∙ ap may_come (still_goes st on).0) e

    -- ---- one line alone
    one_alone : (s : S) (l : List ℕ) → Open l → 0 < length l → over f s l ≡ f s l
    one_alone s [] o p = absurd (omega arith)
    one_alone s (b ∷ l) o p =
        ap (each f s)
        (first_line_lem b l
        ∙ ap₂ (λ (x y : List ℕ). x ∷ parted y) (take_all (until 10 (b ∷ l)) (b ∷ l) (omega arith)) (drop_of_length-le (b ∷ l) {i = until 10 (b ∷ l) + 1} (omega arith)))

    -- ---- the end of a run
    module _ (r : State) (input out : List ℕ) (e : Ended bytes lines last first r input out) where
      abbrev at_last : State × O
      at_last = last input e.st e.left

      pub same_input : r.input ≡ e.st.input
      same_input = ap (λ (q : State). q.input) e.done ∙ h.last_keeps input e.st e.left

      all_moved : view (handed e.ran) at_last.0.at at_last.1 ≡ view (handed_all e) 0 at_last.1
      all_moved =
          h.moved (handed e.ran) at_last.0.at at_last.1
          ∙ ap (λ (l : List ℕ). view (handed e.ran ++ take at_last.0.at l) 0 at_last.1) (sym e.leaves)

      -- if its input was not read to the end: what was handed over is what the lines up to there ask for, whatever else was to come
      pub cut_short : has_ended r.input ≡ false → (more : List ℕ)
          → over f (view [] 0 first) (came_all e ++ more) ≡ over f (view (handed_all e) 0 at_last.1) (ahead input e.st ++ more)
      cut_short early more =
          run_said e.st input e.left e.ran more
          ∙ ap (λ (s : S). over f s (ahead input e.st ++ more)) (sym (h.stays (handed e.ran) input e.st e.left no_last) ∙ all_moved)
        where
          no_last : last_is e.st ≡ false
          no_last = rw (rw same_input at early)

      -- if it was read to the end
      module _ (to_end : r.input ≡ End) where
        pub ended_input : e.st.input ≡ End
        ended_input = sym same_input ∙ to_end

        is_last : last_is e.st ≡ ltb e.st.next e.st.end
        is_last = rw ended_input

        at_end : over f (view (handed e.ran) e.st.at e.left) (ahead input e.st)
            ≡ view (handed e.ran) at_last.0.at at_last.1
        at_end = by (ltb e.st.next e.st.end) refl
          where
            t : List ℕ
            t = handed e.ran

            line : List ℕ
            line = ahead input e.st

            line_open : Open line × (e.st.end ≤ length input)
            line_open = run_open e.st input e.left e.ran ended_input

            size_of : length line ≡ e.st.end - e.st.next
            size_of = omega (arith, length-drop e.st.next (take e.st.end input), length-take e.st.end input, line_open.1)

            by : (b : Bool) → ltb e.st.next e.st.end ≡ b → over f (view t e.st.at e.left) line ≡ view t at_last.0.at at_last.1
            by true q =
                one_alone (view t e.st.at e.left) line line_open.0 (omega (arith, size_of, ltb-true e.st.next e.st.end q))
                ∙ ap (f (view t e.st.at e.left)) (drop_take e.st.next e.st.end input)
                ∙ sym (h.ends t input e.st e.left (subst (λ (l : List ℕ). at_last.0.at ≤ length l) e.leaves e.fits) (is_last ∙ q))
            by false q =
                ap (over f (view t e.st.at e.left))
                (drop_of_length-le (take e.st.end input) {i = e.st.next} (omega (arith, length-take e.st.end input, ltb-false e.st.next e.st.end q)))
                ∙ sym (h.stays t input e.st e.left (is_last ∙ q))

        -- all that came was handled, and all that was said of it was handed over
        pub all_handled : over f (view [] 0 first) (came_all e) ≡ view (handed_all e) 0 at_last.1
        all_handled =
            ap (over f (view [] 0 first)) (sym (append-nil (came_all e)))
            ∙ run_said e.st input e.left e.ran []
            ∙ ap (over f (view (handed e.ran) e.st.at e.left)) (append-nil (ahead input e.st))
            ∙ at_end
            ∙ all_moved
