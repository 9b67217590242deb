-- What a program keeps of its input's buffer and reads behind it.
use Rattle.std.specs.Prelude.{◌≡◌, Bool, true, false, List, ℕ, zero, suc, ◌+◌, ◌-◌, ◌≤◌, ltb, length, take, Option, Some, None, unwrap_or}
use Rattle.text.specs.Lines.{line_end, kept_part}
use Rattle.streams.specs.declared.Input.{Input}
use Rattle.streams.specs.declared.Input.TheVariants.{More, End, Unread}
use Rattle.streams.specs.declared.State.{State}

-- a line that LF ends is left
abbrev pub whole : List ℕ → State → Bool
whole input st = ltb (line_end (take st.end input) st.next) st.end

-- a turn less
abbrev pub turned : State → State
turned st = record st { turns = st.turns - 1 }

-- of a line that LF does not end yet the first 129 bytes are kept: no good line is longer
abbrev pub rest : List ℕ → State → List ℕ
rest input st = kept_part input st.next st.end 129

-- what is to be hoped after a read of so many bytes, which are none at the end of the input, or after one that failed
abbrev pub hope : Option ℕ → Input
hope (Some zero) = End
hope (Some (suc n)) = More
hope None = Unread

-- so many bytes came behind what was kept, and none if the read failed
abbrev pub came : List ℕ → State → Option ℕ → State
came input st read = record st { next = 0; end = length (rest input st) + unwrap_or read 0; input = hope read; turns = st.turns - 1 }

-- a read: how many bytes came, or whether it failed, and which bytes, is left open
pub record ReadOn (input : List ℕ) (st r : State) (after : List ℕ) : Type 0 where
  pub read : Option ℕ
  pub state : r ≡ came input st read
  pub room : length (rest input st) + unwrap_or read 0 ≤ 65536
  pub there : length (rest input st) + unwrap_or read 0 ≤ length after
  pub kept : take (length (rest input st)) after ≡ rest input st

-- it is made if no line is left
pub record Refilled (input : List ℕ) (st r : State) (after : List ℕ) : Type 0 where
  pub stays : whole input st ≡ true → (r ≡ turned st) × (after ≡ input)
  pub reads : whole input st ≡ false → ReadOn input st r after
