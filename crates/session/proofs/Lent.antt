-- No line lends more than the buffer has. Assumes nothing.
use mathlib.Core.Path.{◌≡◌, refl, ap}
use mathlib.Core.Bool.{Bool, true, false, cond, ◌&&◌}
use mathlib.Core.List.{List}
use Prim.Native.Nat.{ℕ, ◌+◌, ◌≤◌}
use native.Mathlib.Omega.{arith}
use lib.Dec.{leb}
use lib.ListN.{length}
use borrow.Author.Tests.{leb-true}
use Rattle.std.specs.Bool.{then_some}
use Rattle.std.specs.Prelude.{Option, Some, None, option_and_then}
use Rattle.std.specs.Option.{option_map_or}
use Rattle.std.proofs.lemmas.Option.{same_Some}
use Rattle.frames.specs.declared.Frame.{Frame}
use Rattle.text.specs.Fields.{until}
use Rattle.text.specs.Lines.{handled}
use Rattle.text.proofs.Streaming.{handled_keeps}
use Rattle.readers.specs.Figures.{last_read}
use Rattle.readers.proofs.Letters.{meant_each}
use Rattle.protocol.specs.Reply.{bad_line}
use Rattle.screens.specs.declared.Screen.{Screen}
use Rattle.session.specs.Lines.{Left, Session, word_of, shown_table, line_answer, answer, answered, room}
use Rattle.screens.specs.Screen.{turn, screen_of, Six, six_read, described_by, last_screen, framed, frame_turn, turn_table, response}
use Rattle.files.specs.Files.{Buffers, file_table, act}

screen_lent : (said : List ℕ) (at : ℕ) (s : Screen) → last_screen said at ≡ Some s → s.lent ≤ 65536
unfolding last_screen
screen_lent said at s e = read (last_read said (six_read said at)) e
  where
    few : (order lent : ℕ) (f : Frame) (t : Bool) → leb lent 65536 ≡ t → then_some (leb order 1 && t) (screen_of f lent) ≡ Some s → s.lent ≤ 65536
    few order lent f true q e = passed (leb order 1) e
      where
        passed : (t : Bool) → then_some (t && true) (screen_of f lent) ≡ Some s → s.lent ≤ 65536
        passed true e = omega (arith, leb-true lent 65536 q, ap (λ (s : Screen). s.lent) (same_Some (screen_of f lent) s e))
        passed false e = cc
    few order lent f false q e = failed (leb order 1) e
      where
        failed : (t : Bool) → then_some (t && false) (screen_of f lent) ≡ Some s → s.lent ≤ 65536
        failed true e = cc
        failed false e = cc

    read : (r : Option Six) → option_and_then described_by r ≡ Some s → s.lent ≤ 65536
    read None e = cc
    read (Some n) e = few n.0.0.1 n.0.1 _ (leb n.0.1 65536) refl e

frame_lent : (said : List ℕ) (at : ℕ) (s : Screen) (m : List ℕ) → s.lent ≤ 65536 → (frame_turn said at s m).0.screen.lent ≤ 65536
unfolding frame_turn
frame_lent said at s m h = by (last_screen said at) (screen_lent said at)
  where
    by : (r : Option Screen) → ((d : Screen) → r ≡ Some d → d.lent ≤ 65536) → (option_map_or (λ d. framed d m) r (turn s None, m)).0.screen.lent ≤ 65536
    by None k = h
    by (Some d) k = k d refl

response_lent : (word said : List ℕ) (at : ℕ) (s : Screen) (m : List ℕ) → s.lent ≤ 65536 → (response word said at s m).0.screen.lent ≤ 65536
response_lent word said at s m h = meant_each (λ t. t.0.screen.lent ≤ 65536) word (turn_table said at s m) _ (frame_lent said at s m h, (h, (h, (h, (h, tt))))) h

act_lent : (word said : List ℕ) (at : ℕ) (s : Screen) (m : Buffers) → s.lent ≤ 65536 → (act word said at s m).0.screen.lent ≤ 65536
act_lent word said at s m h = meant_each (λ t. t.0.screen.lent ≤ 65536) word (file_table said at s m) _ (h, (h, (h, (h, tt)))) (response_lent word said at s m.0 h)

pub answer_lent : (said : List ℕ) (l : Left) → l.0.lent ≤ 65536 → (answer said l).1.0.lent ≤ 65536
unfolding answer
answer_lent said l h =
    by (leb (length said) 128)
    (meant_each (λ a. a.1.0.lent ≤ 65536) (word_of said) (shown_table said (until 9 said + 1) l) _ (h, (h, tt)) (act_lent (word_of said) said (until 9 said + 1) l.0 l.1 h))
  where
    by : (t : Bool) → (line_answer (word_of said) said (until 9 said + 1) l).1.0.lent ≤ 65536
        → (cond t (line_answer (word_of said) said (until 9 said + 1) l) (bad_line, l)).1.0.lent ≤ 65536
    by true r = r
    by false r = h

pub lines_lent : (s : List ℕ) (turns at : ℕ) (o : Session) → o.1.0.lent ≤ 65536 → (handled room answered s turns at o).1.1.0.lent ≤ 65536
lines_lent s turns at o h = handled_keeps answered room (λ (x : Session). x.1.0.lent ≤ 65536) (λ x line r k. answer_lent line x.1 k) s turns at o h
