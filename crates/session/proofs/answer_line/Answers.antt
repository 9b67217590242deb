-- `session::answer_line` makes the tests of `answer`, and writes the answer where the output ends. Assumes nothing.
use mathlib.Core.Path.{◌≡◌, sym, ap, ◌∙◌}
use mathlib.Core.List.{List}
use Prim.Native.Nat.{ℕ, ◌+◌, ◌≤◌}
use native.Mathlib.Omega.{arith}
use lib.ListN.{length, take}
use lib.Seq.{length-take-le}
use Rattle.text.proofs.Parting.{part_end_within}
use Rattle.readers.proofs.Letters.{choices}
use Rattle.protocol.specs.Dump.{dump_line}
use Rattle.session.specs.Lines.{Left, turn_done, line_answer, answer, Session}
use Rattle.files.specs.Files.{act}
use Rattle.session.proofs.Answers.{answer_long, answer_short, is_answered}
use Rattle.session.proofs.answer_line.Goals as goal
use Rattle.session.proofs.answer_line.Goals.{After-find-end, Else-is_word-2, Start}

-- what is answered, and what of
module _ (c : Start) where
  abbrev said : List ℕ
  said = c.args.said.now

  abbrev kept : Left
  kept = (c.args.screen, (c.args.memory.now, c.args.file.now))

  abbrev session : Session
  session = ((c.args.at, c.args.out.now), kept)

-- a line that is not too long, by its word
module _ (c : After-find-end) where
  fits : length (said (goal.at.After-find-end c).Start) ≤ 128
  fits = omega (arith, c.if-said-gt128.false)

  place : c.find-end.result ≤ 128
  place = omega (arith, c.find-end.ensures, part_end_within 9 (said (goal.at.After-find-end c).Start) 0 (omega arith), fits)

  abbrev answer_of : List ℕ × Left → Type 0
  answer_of x = x ≡ line_answer (take c.find-end.result (said (goal.at.After-find-end c).Start)) (said (goal.at.After-find-end c).Start) (c.find-end.result + 1) (kept (goal.at.After-find-end c).Start)

  short : {x : List ℕ × Left} → answer_of x → x ≡ answer (said (goal.at.After-find-end c).Start) (kept (goal.at.After-find-end c).Start)
  short q = answer_short (said (goal.at.After-find-end c).Start) (kept (goal.at.After-find-end c).Start) fits c.find-end.ensures q

-- a word that shows no bytes
other_word : (c : Else-is_word-2) → (answer_of (goal.at.Else-is_word-2 c).After-find-end (turn_done (act (take c.find-end.result (said (goal.at.Else-is_word-2 c).Start)) (said (goal.at.Else-is_word-2 c).Start) (c.find-end.result + 1) (kept (goal.at.Else-is_word-2 c).Start).0 (kept (goal.at.Else-is_word-2 c).Start).1)))
other_word c = search choices depth 8 fits 20000

pub returns-then-said-gt128 : goal.returns-then-said-gt128
returns-then-said-gt128 c =
    let w = c.write_bad-filled.ensures in
    (is_answered (session (goal.at.returns-then-said-gt128 c).Start) (said (goal.at.returns-then-said-gt128 c).Start) (answer_long (said (goal.at.returns-then-said-gt128 c).Start) (kept (goal.at.returns-then-said-gt128 c).Start) (omega (arith, c.if-said-gt128.true))) w, omega (arith, w.0))

pub slice_bounds-word-end : goal.slice_bounds-word-end
slice_bounds-word-end c =
    sym (length-take-le c.find-end.result (said (goal.at.slice_bounds-word-end c).Start) (omega (arith, c.find-end.ensures, part_end_within 9 (said (goal.at.slice_bounds-word-end c).Start) 0 (omega arith))))

pub overflow_add-end : goal.overflow_add-end
overflow_add-end c = omega (arith, place (goal.at.overflow_add-end c).After-find-end)

pub overflow_add-end-then-is_word-2 : goal.overflow_add-end-then-is_word-2
overflow_add-end-then-is_word-2 c = omega (arith, place (goal.at.overflow_add-end-then-is_word-2 c).After-find-end)

pub overflow_add-end-2 : goal.overflow_add-end-2
overflow_add-end-2 c = omega (arith, place (goal.at.overflow_add-end-2 c).After-find-end)

pub returns-then-is_word : goal.returns-then-is_word
returns-then-is_word c =
    let d = c.dump-filled.ensures in
    let m : answer_of (goal.at.returns-then-is_word c).After-find-end (dump_line (said (goal.at.returns-then-is_word c).Start) (c.find-end.result + 1) (kept (goal.at.returns-then-is_word c).Start).1.0, kept (goal.at.returns-then-is_word c).Start) = search choices depth 8 fits 20000 in
    (is_answered (session (goal.at.returns-then-is_word c).Start) (said (goal.at.returns-then-is_word c).Start) (short (goal.at.returns-then-is_word c).After-find-end m) (d.0, d.1), d.2)

pub returns-then-is_word-2 : goal.returns-then-is_word-2
returns-then-is_word-2 c =
    let d = c.dump-filled-then-is_word-2.ensures in
    let m : answer_of (goal.at.returns-then-is_word-2 c).After-find-end (dump_line (said (goal.at.returns-then-is_word-2 c).Start) (c.find-end.result + 1) (kept (goal.at.returns-then-is_word-2 c).Start).1.1, kept (goal.at.returns-then-is_word-2 c).Start) = search choices depth 8 fits 20000 in
    (is_answered (session (goal.at.returns-then-is_word-2 c).Start) (said (goal.at.returns-then-is_word-2 c).Start) (short (goal.at.returns-then-is_word-2 c).After-find-end m) (d.0, d.1), d.2)

pub returns-else-is_word-2 : goal.returns-else-is_word-2
returns-else-is_word-2 c =
    let w = c.write_reply-filled.ensures in
    let done = ap turn_done c.take_turn-turn.ensures ∙ other_word (goal.at.returns-else-is_word-2 c).Else-is_word-2 in
    (is_answered (session (goal.at.returns-else-is_word-2 c).Start) (said (goal.at.returns-else-is_word-2 c).Start) (short (goal.at.returns-else-is_word-2 c).After-find-end done) (w.0, w.1), omega (arith, w.2))
