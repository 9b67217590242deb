-- What holds at each turn of `session::answer_lines`. Assumes nothing.
use mathlib.Core.Path.{◌≡◌}
use mathlib.Core.List.{List}
use Prim.Native.Nat.{ℕ, ◌≤◌}
use lib.ListN.{length}
use Rattle.session.specs.Lines.{Session, answered, room}
use Rattle.text.specs.Lines.{handled}

-- what holds at each turn: where the lines are read and the answers written, and that what is still to be handled is what was at the start
pub record Handling (input memory₀ out₀ : List ℕ) (from : ℕ) (o₀ : Session) (next : ℕ) (o : Session) : Type 0 where
  pub inside : next ≤ length input
  pub out_size : length o.0.1 ≡ length out₀
  pub memory_size : length o.1.1.0 ≡ length memory₀
  pub file_size : length o.1.1.1 ≡ 65536
  pub lent : o.1.0.lent ≤ 65536
  pub filled : o.0.0 ≤ length out₀
  pub rest : handled room answered input (length input) next o ≡ handled room answered input (length input) from o₀
