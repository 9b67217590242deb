-- What a line is answered and what it leaves, and the same of the lines of an input.
use Rattle.std.specs.Prelude.{Bool, cond, List, [], ◌∷◌, ℕ, ◌+◌, leb, length, take}
use Rattle.std.proofs.lemmas.List.Edits.{sets}
use Rattle.text.specs.Fields.{until}
use Rattle.text.specs.Lines.{handled}
use Rattle.readers.specs.Words.{meant}
use Rattle.screens.specs.declared.Screen.{Screen}
use Rattle.screens.specs.declared.Turn.{Turn}
use Rattle.protocol.specs.Dump.{dump_line}
use Rattle.protocol.specs.Reply.{bad_line, reply_line}
use Rattle.files.specs.Files.{Buffers, act}
use Rattle.session.specs.Words.{dump_word, file_word}

-- what a line leaves: the screen, and the bytes of both buffers
abbrev pub Left : Type 0
Left = Screen × Buffers

-- the word is the first field
abbrev pub word_of : List ℕ → List ℕ
word_of said = take (until 9 said) said

abbrev pub turn_done : Turn × Buffers → List ℕ × Left
turn_done t = (reply_line t.0.reply, (t.0.screen, t.1))

-- the bytes of the answer, and what the line leaves, by its word: bytes that it shows, or a reply
abbrev pub shown_table : List ℕ → ℕ → Left → List (List ℕ × (List ℕ × Left))
shown_table said at l = (dump_word, (dump_line said at l.1.0, l)) ∷ (file_word, (dump_line said at l.1.1, l)) ∷ []

abbrev pub line_answer : List ℕ → List ℕ → ℕ → Left → List ℕ × Left
line_answer word said at l = meant word (shown_table said at l) (turn_done (act word said at l.0 l.1))

-- the numbers start behind the word's tab; a line of more than 128 bytes is bad however it begins
unfoldable pub answer : List ℕ → Left → List ℕ × Left
answer said l = cond (leb (length said) 128) (line_answer (word_of said) said (until 9 said + 1) l) (bad_line, l)

-- ---- answers, one behind the other in an output: how far it is filled, its bytes, and what is left of the rest
abbrev pub Session : Type 0
Session = (ℕ × List ℕ) × Left

abbrev pub answered : Session → List ℕ → Session
answered s said = ((s.0.0 + length (answer said s.1).0, sets s.0.1 s.0.0 (answer said s.1).0), (answer said s.1).1)

-- the longest answer has two digits for each of 4,096 bytes, and LF
abbrev pub room : Session → Bool
room s = leb (s.0.0 + 8193) (length s.0.1)

-- after the lines of an input that LF ends, from a place on, as long as there is room: the next place, and what they left
abbrev pub after_all : List ℕ → ℕ → Session → ℕ × Session
after_all input from s = handled room answered input (length input) from s
