-- What the program hands to `write`, of `run`'s contract as the source states it: if the input was read to its end, the answers to its lines and no other byte;
-- else the front of them. Assumes nothing.
use mathlib.Core.Path.{◌≡◌, refl, sym, ap, ◌∙◌}
use mathlib.Core.Bool.{false}
use mathlib.Core.List.{List, [], ◌∷◌, ◌++◌, append_assoc, append-nil}
use Prim.Native.Nat.{ℕ}
use lib.ListN.{length, take}
use lib.Seq.{take_at}
use Rattle.text.specs.Fields.{lines as parted}
use Rattle.text.specs.Lines.{each, over}
use Rattle.text.proofs.Streaming.{handled_seen}
use Rattle.streams.specs.declared.Input.TheVariants.{End}
use Rattle.streams.specs.declared.State.{State}
use Rattle.streams.specs.State.{has_ended, last_is}
use Rattle.streams.specs.Run.{Ended}
use Rattle.streams.specs.Handed.{handed_all, came_all}
use Rattle.streams.proofs.Answers.{seen, Room, room_before, one_more}
use Rattle.streams.proofs.Handed.{ahead, last_line, last_or_none_lem, Follows, cut_short, all_handled}
use Rattle.files.specs.Files.{Buffers}
use Rattle.session.specs.Lines.{Left, Session, answer, answered, room}
use Rattle.replay.specs.Session.{told, output, Work, bytes, first, after_lines, after_last}
use Rattle.replay.proofs.Parts.{told_enough}
use Rattle.replay.proofs.run.Reads as run

-- what was said, and what the lines left
abbrev saw : List ℕ → Session → List ℕ × Left
saw before s = (seen before s.0, s.1)

abbrev work : List ℕ → ℕ → Work → List ℕ × Left
work before at o = saw before ((at, o.0), o.1)

-- ---- a line
one_said : (before : List ℕ) (s : Session) (line : List ℕ) → Room (answered s line).0 → saw before (answered s line) ≡ told (saw before s) line
one_said before s line h = ap {B = List ℕ × Left} (λ (b : List ℕ). (b, (answer line s.1).1)) (one_more s.0 (answer line s.1).0 h before)

follows : (o : Work) → Follows bytes after_lines after_last o told work
follows first =
    record {
      enough = told_enough;
      moved = λ before at o. ap {B = List ℕ × Left} (λ (b : List ℕ). (b, o.1)) (sym (append-nil (seen before (at, o.0))));
      goes = λ before input more st o fits.
          handled_seen told room answered (saw before) (λ (s : Session). Room s.0) (λ s line h. room_before s.0 (answer line s.1).0 h)
          (λ s line r h. one_said before s line h) (take st.end input) more (length (take st.end input)) st.next ((st.at, o.0), o.1) fits;
      keeps = λ input st o. refl;
      ends = λ before input st o fits e. rw e (one_said before ((st.at, o.0), o.1) (last_line input st) (rw e at fits));
      stays = λ before input st o e. rw e;
      last_keeps = λ input st o.
          let h : Session = answered ((st.at, o.0), o.1) (last_line input st) in
          last_or_none_lem st h.0.0 (h.0.1, h.1) o (last_is st);
    }

-- what was said before comes first
said_behind : (before : List ℕ) (l : Left) (ls : List (List ℕ)) → (each told (before, l) ls).0 ≡ before ++ (each told ([], l) ls).0
said_behind before l [] = sym (append-nil before)
said_behind before l (line ∷ ls) =
    said_behind (before ++ (answer line l).0) (answer line l).1 ls
    ∙ append_assoc before (answer line l).0 (each told ([], (answer line l).1) ls).0
    ∙ ap (λ (t : List ℕ). before ++ t) (sym (said_behind (answer line l).0 (answer line l).1 ls))

module _ (out : List ℕ) (m : Buffers) (r : State) (input left : List ℕ) (e : Ended bytes after_lines after_last (first out m) r input left) where
  all_said : r.input ≡ End → handed_all e ≡ output m (came_all e)
  all_said to_end =
      sym (append-nil (handed_all e))
      ∙ sym (ap (λ (o : List ℕ × Left). o.0) (all_handled bytes after_lines after_last (first out m) told work (follows (first out m)) r input left e to_end))

  some_said : has_ended r.input ≡ false → (more : List ℕ) → take (length (handed_all e)) (output m (came_all e ++ more)) ≡ handed_all e
  some_said early more =
      let line : List ℕ = ahead input e.st ++ more in
      let l : Left = (after_last input e.st e.left).1.1 in
      ap (take (length (handed_all e)))
      (ap (λ (o : List ℕ × Left). o.0) (cut_short bytes after_lines after_last (first out m) told work (follows (first out m)) r input left e early more)
      ∙ ap (λ (s : List ℕ). (over told (s, l) line).0) (append-nil (handed_all e))
      ∙ said_behind (handed_all e) l (parted line))
      ∙ take_at (handed_all e) (over told ([], l) line).0 (length (handed_all e)) refl

-- `run` is lent the input, the two buffers and the output
module _ (κs : _) (args : _) (r : _) (s : _) (e : run.Post κs args r s) where
  pub hands_over_the_answers : r.input ≡ End → handed_all e ≡ output (args.1.1.0.now, args.1.1.1.0.now) (came_all e)
  hands_over_the_answers = all_said args.1.1.1.1.0.now (args.1.1.0.now, args.1.1.1.0.now) r _ _ e

  pub hands_over_no_other : has_ended r.input ≡ false → (more : List ℕ)
      → take (length (handed_all e)) (output (args.1.1.0.now, args.1.1.1.0.now) (came_all e ++ more)) ≡ handed_all e
  hands_over_no_other = some_said args.1.1.1.1.0.now (args.1.1.0.now, args.1.1.1.0.now) r _ _ e
