-- What the program hands to `write`, of `run`'s contract as the source states it: if the input was read to its end, the line of its count and no other byte;
-- else nothing. Assumes nothing.
use mathlib.Core.Path.{◌≡◌, refl, sym, ap, subst, ◌∙◌}
use mathlib.Core.Bool.{Bool, true, false, cond}
use mathlib.Core.List.{List, [], ◌++◌, append-nil}
use Prim.Native.Nat.{ℕ, ◌≤◌}
use native.Mathlib.Omega.{arith}
use lib.ListN.{length, take}
use lib.Seq.{sets, length-sets}
use Rattle.text.specs.Lines.{over}
use Rattle.text.proofs.Streaming.{handled_over}
use Rattle.streams.specs.declared.Input.TheVariants.{End}
use Rattle.streams.specs.declared.State.{State}
use Rattle.streams.specs.State.{has_ended, stands_at}
use Rattle.streams.specs.Run.{Ran, begun, turn, Ended}
use Rattle.streams.specs.Handed.{handed, handed_all, came_all}
use Rattle.streams.proofs.Refilling.{front}
use Rattle.streams.proofs.Handed.{Follows, same_input, ended_input, all_handled}
use Rattle.reports.specs.declared.Tally.{Tally}
use Rattle.reports.specs.Minutes.{Count, count_of, minutes, fresh, take_line, always, count_line}
use Rattle.reports.proofs.Counting.{minutes_is, take_blind}
use Rattle.minutes.specs.Counted.{counted_last, told, bytes, lines, last}
use Rattle.minutes.proofs.Turns.{told_all}
use Rattle.minutes.proofs.run.Reads as run

-- it counts, and says nothing before the end
abbrev tallied : List ℕ → ℕ → Tally × List ℕ → Tally
tallied before at o = o.0

module _ (st : State) (k : Count) (out : List ℕ) where
  abbrev after : Bool → State × List ℕ
  after t = cond t (stands_at st st.end (length (count_line k)), sets out 0 (count_line k)) (stands_at st st.next 0, out)

  after_keeps : (t : Bool) → (after t).0.input ≡ st.input
  after_keeps true = refl
  after_keeps false = refl

  -- what is told
  line_told : st.input ≡ End → (told st k out).0.at ≤ length (told st k out).1 → take (told st k out).0.at (told st k out).1 ≡ count_line k
  line_told e fits =
      let is : told st k out ≡ after true = sym (told_all st k out e) in
      let room : length (count_line k) ≤ length (sets out 0 (count_line k)) = subst (λ (p : State × List ℕ). p.0.at ≤ length p.1) is fits in
      ap (λ (p : State × List ℕ). take p.0.at p.1) is ∙ front out (count_line k) (omega (arith, room, length-sets out 0 (count_line k)))

  none_told : has_ended st.input ≡ false → take (told st k out).0.at (told st k out).1 ≡ []
  none_told e = rw e

module _ (first : List ℕ) where
  follows : Follows bytes lines last (fresh, first) take_line tallied
  follows =
      record {
        enough = take_blind;
        moved = λ before at o. refl;
        goes = λ before input more st o fits. handled_over take_line always (take st.end input) more (length (take st.end input)) st.next o.0;
        keeps = λ input st o. refl;
        ends = λ before input st o fits e. rw e;
        stays = λ before input st o e. rw e;
        last_keeps = λ input st o. after_keeps st (count_of (counted_last input st o.0)) o.1 (has_ended st.input);
      }

  none_before : (st : State) (input : List ℕ) (o : Tally × List ℕ) (ran : Ran bytes lines (fresh, first) st input o) → handed ran ≡ []
  none_before _ _ _ (begun input) = refl
  none_before _ _ _ (turn st input o failed r after ran on fits g) = append-nil (handed ran) ∙ none_before st input o ran

  module _ (r : State) (input out : List ℕ) (e : Ended bytes lines last (fresh, first) r input out) where
    abbrev count : Count
    count = count_of (counted_last input e.st e.left.0)

    abbrev tells : State × List ℕ
    tells = told e.st count e.left.1

    told_only : handed_all e ≡ take tells.0.at tells.1
    told_only =
        ap (λ (b : List ℕ). b ++ take tells.0.at out) (none_before e.st input e.left e.ran)
        ∙ ap (take tells.0.at) e.leaves

    the_count : r.input ≡ End → handed_all e ≡ count_line (minutes (came_all e))
    the_count to_end =
        let ended : e.st.input ≡ End = ended_input bytes lines last (fresh, first) take_line tallied follows r input out e to_end in
        let counted : count_of (over take_line fresh (came_all e)) ≡ count =
        ap count_of (all_handled bytes lines last (fresh, first) take_line tallied follows r input out e to_end) in
        told_only
        ∙ line_told e.st count e.left.1 ended (subst (λ (l : List ℕ). tells.0.at ≤ length l) e.leaves e.fits)
        ∙ ap count_line (sym counted ∙ minutes_is (came_all e))

    nothing : has_ended r.input ≡ false → handed_all e ≡ []
    nothing early =
        told_only ∙ none_told e.st count e.left.1 (rw (same_input bytes lines last (fresh, first) take_line tallied follows r input out e) at early)

-- `run` is lent the input and the output
module _ (κs : _) (args : _) (r : _) (s : _) (e : run.Post κs args r s) where
  pub hands_over_the_count : r.input ≡ End → handed_all e ≡ count_line (minutes (came_all e))
  hands_over_the_count = the_count args.1.1.0.now r _ _ e

  pub hands_over_nothing : has_ended r.input ≡ false → handed_all e ≡ []
  hands_over_nothing = nothing args.1.1.0.now r _ _ e
