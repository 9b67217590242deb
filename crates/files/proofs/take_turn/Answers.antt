-- `files::take_turn` takes the turn whose word it is; another word's turn leaves the file as it was. Assumes nothing.
use Rattle.files.proofs.Turns.{file_words}
use Rattle.files.proofs.take_turn.Goals as goal

pub returns-then-is_word : goal.returns-then-is_word
returns-then-is_word c = search file_words depth 12 fits 20000

pub returns-then-is_word-2 : goal.returns-then-is_word-2
returns-then-is_word-2 c = search file_words depth 12 fits 20000

pub returns-then-is_word-3 : goal.returns-then-is_word-3
returns-then-is_word-3 c = search file_words depth 12 fits 20000

pub returns-then-is_word-4 : goal.returns-then-is_word-4
returns-then-is_word-4 c = search file_words depth 12 fits 20000

pub returns-else-is_word-4 : goal.returns-else-is_word-4
returns-else-is_word-4 c = search file_words depth 12 fits 20000
