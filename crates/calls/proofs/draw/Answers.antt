-- `calls::draw` makes the call whose word it is. Assumes nothing.
use Rattle.calls.proofs.Calls.{call_words}
use Rattle.calls.proofs.draw.Goals as goal

pub returns-then-is_word : goal.returns-then-is_word
returns-then-is_word c = search call_words depth 12 fits 20000

pub returns-then-is_word-2 : goal.returns-then-is_word-2
returns-then-is_word-2 c = search call_words depth 12 fits 20000

pub returns-then-is_word-3 : goal.returns-then-is_word-3
returns-then-is_word-3 c = search call_words depth 12 fits 20000

pub returns-then-is_word-4 : goal.returns-then-is_word-4
returns-then-is_word-4 c = search call_words depth 12 fits 20000

pub returns-then-is_word-5 : goal.returns-then-is_word-5
returns-then-is_word-5 c = search call_words depth 12 fits 20000

pub returns-then-is_word-6 : goal.returns-then-is_word-6
returns-then-is_word-6 c = search call_words depth 12 fits 20000

pub returns-then-is_word-7 : goal.returns-then-is_word-7
returns-then-is_word-7 c = search call_words depth 12 fits 20000

pub returns-else-is_word-7 : goal.returns-else-is_word-7
returns-else-is_word-7 c = search call_words depth 12 fits 20000
