-- Where a program stands in its buffers, and what it decides there.
use Rattle.std.specs.Prelude.{◌≡◌, Bool, true, false, cond, ◌&&◌, not, List, ℕ, ◌≤◌, ◌<◌, ltb, length}
use Rattle.streams.specs.declared.Input.{Input}
use Rattle.streams.specs.declared.Input.TheVariants.{More, End, Unread}
use Rattle.streams.specs.declared.State.{State}

-- what is still to be looked at lies within the input's buffer
pub record Within (st : State) : Type 0 where
  pub ahead : st.next ≤ st.end
  pub most : st.end ≤ 65536

-- both buffers have 64 KiB, and less than half of the output's is filled
pub record Standing (st : State) (input out : List ℕ) : Type 0 where
  pub within : Within st
  pub filled : st.at < 32768
  pub input_size : length input ≡ 65536
  pub out_size : length out ≡ 65536

-- more may come
abbrev pub may_come : Input → Bool
may_come More = true
may_come End = false
may_come Unread = false

-- it was read to its end, and no read failed
abbrev pub has_ended : Input → Bool
has_ended More = false
has_ended End = true
has_ended Unread = false

-- before a byte is read
abbrev pub started : State
started = record { next = 0; end = 0; at = 0; input = More; unwritten = false; turns = 18446744073709551615 }

-- as long as more may come, and neither a read nor a write failed
abbrev pub goes_on : State → Bool
goes_on st = may_come st.input && (not st.unwritten && ltb 0 st.turns)

-- after lines up to a place
abbrev pub stands_at : State → ℕ → ℕ → State
stands_at st next at = record st { next = next; at = at }

-- after the output was written
abbrev pub emptied : State → Bool → State
emptied st failed = record st { at = 0; unwritten = failed }

-- which it is once half of its buffer is filled
abbrev pub written : State → Bool → State
written st failed = cond (ltb st.at 32768) st (emptied st failed)

-- what is left at the end of the input is a line, unless it is empty
abbrev pub last_is : State → Bool
last_is st = has_ended st.input && ltb st.next st.end
