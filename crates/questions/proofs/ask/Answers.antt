-- `questions::ask` answers the question whose word it is. Assumes nothing.
use Rattle.line.specs.Line.{points, point_at, has_point}
use Rattle.line.specs.Answer.{step_tests}
use Rattle.connected.specs.Connected.{connected_points, connected_at, has_connected}
use Rattle.connected.specs.Answer.{index_tests}
use Rattle.readers.proofs.Letters.{choices}
use Rattle.questions.proofs.Questions.{length_asked, point_asked, online_asked}
use Rattle.questions.proofs.ask.Goals as goal

pub returns-then-is_word : goal.returns-then-is_word
returns-then-is_word c =
    let e = length_asked c.args.said.now c.args.at points c.length.ensures (λ l b h. h.2) in
    search choices depth 16 fits 20000

pub returns-then-is_word-2 : goal.returns-then-is_word-2
returns-then-is_word-2 c =
    let e = point_asked c.args.said.now c.args.at step_tests point_at c.point.ensures (λ l b h. h.2) in
    search choices depth 16 fits 20000

pub returns-then-is_word-3 : goal.returns-then-is_word-3
returns-then-is_word-3 c =
    let e = online_asked c.args.said.now c.args.at has_point c.online.ensures (λ l b h. h.3) in
    search choices depth 16 fits 20000

pub returns-then-is_word-4 : goal.returns-then-is_word-4
returns-then-is_word-4 c = search choices depth 16 fits 20000

pub returns-then-is_word-5 : goal.returns-then-is_word-5
returns-then-is_word-5 c = search choices depth 16 fits 20000

pub returns-then-is_word-6 : goal.returns-then-is_word-6
returns-then-is_word-6 c = search choices depth 16 fits 20000

pub returns-then-is_word-7 : goal.returns-then-is_word-7
returns-then-is_word-7 c = search choices depth 16 fits 20000

pub returns-then-is_word-8 : goal.returns-then-is_word-8
returns-then-is_word-8 c = search choices depth 16 fits 20000

pub returns-then-is_word-9 : goal.returns-then-is_word-9
returns-then-is_word-9 c =
    let e = length_asked c.args.said.now c.args.at connected_points c.length-then-is_word-9.ensures (λ l b h. h.2) in
    search choices depth 16 fits 20000

pub returns-then-is_word-10 : goal.returns-then-is_word-10
returns-then-is_word-10 c =
    let e = point_asked c.args.said.now c.args.at index_tests connected_at c.point-then-is_word-10.ensures (λ l b h. h.2) in
    search choices depth 16 fits 20000

pub returns-then-is_word-11 : goal.returns-then-is_word-11
returns-then-is_word-11 c =
    let e = online_asked c.args.said.now c.args.at has_connected c.online-then-is_word-11.ensures (λ l b h. h.3) in
    search choices depth 16 fits 20000

pub returns-else-is_word-11 : goal.returns-else-is_word-11
returns-else-is_word-11 c = search choices depth 16 fits 20000
