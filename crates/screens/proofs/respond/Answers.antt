-- `screens::respond` takes the turn whose word it is; the bytes behind the lent part come back as they were. Assumes nothing.
use Rattle.screens.proofs.Turns.{turn_words}
use Rattle.screens.proofs.respond.Goals as goal

pub returns-then-is_word : goal.returns-then-is_word
returns-then-is_word c = search turn_words depth 12 fits 20000

pub returns-then-is_word-2 : goal.returns-then-is_word-2
returns-then-is_word-2 c = search turn_words depth 12 fits 20000

pub returns-then-is_word-3 : goal.returns-then-is_word-3
returns-then-is_word-3 c = search turn_words depth 12 fits 20000

pub returns-then-is_word-4 : goal.returns-then-is_word-4
returns-then-is_word-4 c = search turn_words depth 12 fits 20000

pub returns-then-is_word-5 : goal.returns-then-is_word-5
returns-then-is_word-5 c = search turn_words depth 12 fits 20000

pub returns-else-is_word-5 : goal.returns-else-is_word-5
returns-else-is_word-5 c = search turn_words depth 12 fits 20000
