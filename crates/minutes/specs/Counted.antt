-- What the program does with the lines that are there, with the last one, and at the end of its input. It works on a count and its output.
use Rattle.std.specs.Prelude.{cond, List, ℕ, ◌-◌, length, take, drop}
use Rattle.std.proofs.lemmas.List.Edits.{sets}
use Rattle.text.specs.Lines.{handled}
use Rattle.streams.specs.declared.State.{State}
use Rattle.streams.specs.State.{has_ended, stands_at, last_is}
use Rattle.reports.specs.declared.Tally.{Tally}
use Rattle.reports.specs.Minutes.{Count, count_of, take_line, always, count_line}

-- the lines that LF ends: the next place, and the count then
abbrev pub counted_some : List ℕ → State → Tally → ℕ × Tally
counted_some input st t = handled always take_line (take st.end input) (length (take st.end input)) st.next t

-- a last line
abbrev pub counted_last : List ℕ → State → Tally → Tally
counted_last input st t = cond (last_is st) (take_line t (take (st.end - st.next) (drop st.next input))) t

-- the count is told if the input has ended, and not if a read failed
abbrev pub told : State → Count → List ℕ → State × List ℕ
told st k out = cond (has_ended st.input) (stands_at st st.end (length (count_line k)), sets out 0 (count_line k)) (stands_at st st.next 0, out)

-- ---- the same of the count and the output together
abbrev pub bytes : Tally × List ℕ → List ℕ
bytes o = o.1

abbrev pub lines : List ℕ → State → Tally × List ℕ → State × (Tally × List ℕ)
lines input st o = (stands_at st (counted_some input st o.0).0 0, ((counted_some input st o.0).1, o.1))

abbrev pub last : List ℕ → State → Tally × List ℕ → State × (Tally × List ℕ)
last input st o =
    let t : Tally = counted_last input st o.0 in
    ((told st (count_of t) o.1).0, (t, (told st (count_of t) o.1).1))
