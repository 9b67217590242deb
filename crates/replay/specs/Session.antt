-- What the program writes for an input, and what it does with the lines that are there.
use Rattle.std.specs.Prelude.{◌≡◌, cond, List, [], ◌++◌, ℕ, ◌-◌, ◌≤◌, length, take, drop}
use Rattle.text.specs.Lines.{over}
use Rattle.streams.specs.declared.State.{State}
use Rattle.streams.specs.State.{stands_at, last_is}
use Rattle.session.specs.Lines.{Left, Session, answer, answered, after_all}
use Rattle.screens.specs.Screen.{start}
use Rattle.files.specs.Files.{Buffers}

-- the answers to the lines, from the first screen on
abbrev pub told : List ℕ × Left → List ℕ → List ℕ × Left
told o said = (o.0 ++ (answer said o.1).0, (answer said o.1).1)

abbrev pub output : Buffers → List ℕ → List ℕ
output buffers input = (over told ([], (start, buffers)) input).0

-- ---- what it works on: the output's bytes, and what the lines left
abbrev pub Work : Type 0
Work = List ℕ × Left

abbrev pub bytes : Work → List ℕ
bytes o = o.0

abbrev pub first : List ℕ → Buffers → Work
first out buffers = (out, (start, buffers))

-- no more is lent than the frame's buffer has
abbrev pub Sound : Work → Type 0
Sound o = (o.1.0.lent ≤ 65536) × (length o.1.1.0 ≡ 65536) × (length o.1.1.1 ≡ 65536)

-- after the lines that LF ends and that there was room for
abbrev pub after_lines : List ℕ → State → Work → State × Work
after_lines input st o =
    let h : ℕ × Session = after_all (take st.end input) st.next ((st.at, o.0), o.1) in
    (stands_at st h.0 h.1.0.0, (h.1.0.1, h.1.1))

-- after a last line, which lacks its LF
abbrev pub after_last : List ℕ → State → Work → State × Work
after_last input st o =
    let h : Session = answered ((st.at, o.0), o.1) (take (st.end - st.next) (drop st.next input)) in
    cond (last_is st) (stands_at st st.end h.0.0, (h.0.1, h.1)) (st, o)
