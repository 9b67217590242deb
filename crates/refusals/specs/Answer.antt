-- What an operation answers beside its number (01, "Numbers an operation may answer"): its values with 0; "with a refusal every returned number is 0, every yes or no is no".
use Rattle.std.specs.Prelude.{ℕ, zero, suc}

-- beside the number n: the value v if that is 0, done, and else none. So with bytes: those that are left where it is done, and else those that there were
abbrev pub if_done : {A : Type 0} → ℕ → A → A → A
if_done zero v none = v
if_done (suc n) v none = none
