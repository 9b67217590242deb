-- What a line is answered: the number, then the values, parted by tabs; yes is 1, no is 0; or `bad line`.
use Rattle.std.specs.Prelude.{Bool, cond, List, [], ◌∷◌, ◌++◌, ℕ, pos, Option, Some, None, Result, Ok, Err, ⊤}
use Rattle.std.specs.Option.{option_map_or}
use Rattle.refusals.specs.Refusal.{number}
use Rattle.refusals.specs.declared.Refusal.{Refusal}
use Rattle.geometry.specs.declared.Columns.{Columns}
use Rattle.geometry.specs.declared.Point.{Point}
use Rattle.geometry.specs.declared.Verdict.{Verdict}
use Rattle.triangle.specs.declared.RowRun.{RowRun}
use Rattle.text.specs.Show.{shown, number_field}
use Rattle.protocol.specs.declared.reply.Reply.{Reply}
use Rattle.protocol.specs.declared.reply.Reply.TheVariants.{Number, One, Two}
use Rattle.protocol.specs.declared.reply.Value.{Value}
use Rattle.protocol.specs.declared.reply.Value.TheVariants.{Natural, Whole}

-- `bad line`, LF
abbrev pub bad_line : List ℕ
bad_line = 98 ∷ 97 ∷ 100 ∷ 32 ∷ 108 ∷ 105 ∷ 110 ∷ 101 ∷ 10 ∷ []

-- an unsigned number and the byte behind it
abbrev pub natural : ℕ → ℕ → List ℕ
natural n stop = shown n ++ (stop ∷ [])

abbrev pub value_field : Value → ℕ → List ℕ
value_field (Natural n) stop = natural n stop
value_field (Whole z) stop = number_field z stop

abbrev pub one_line : ℕ → Value → List ℕ
one_line number v = natural number 9 ++ value_field v 10

abbrev pub two_line : ℕ → Value → Value → List ℕ
two_line number v w = natural number 9 ++ (value_field v 9 ++ value_field w 10)

-- none is for a line that is no request
abbrev pub reply_line : Option Reply → List ℕ
reply_line None = bad_line
reply_line (Some (Number number)) = natural number 10
reply_line (Some (One number v)) = one_line number v
reply_line (Some (Two number v w)) = two_line number v w

abbrev pub verdict_reply : Verdict → Reply
verdict_reply v = One v.number (Natural (cond v.yes 1 0))

-- what the library answers, by its number; with a refusal the values are 0
abbrev pub number_reply : Result ⊤ Refusal → Reply
number_reply (Ok u) = Number 0
number_reply (Err r) = Number (number r)

abbrev pub count_reply : Result ℕ Refusal → Reply
count_reply (Ok n) = One 0 (Natural n)
count_reply (Err r) = One (number r) (Natural 0)

abbrev pub yes_reply : Result Bool Refusal → Reply
yes_reply (Ok t) = One 0 (Natural (cond t 1 0))
yes_reply (Err r) = One (number r) (Natural 0)

abbrev pub place_reply : Result Point Refusal → Reply
place_reply (Ok p) = Two 0 (Whole p.0) (Whole p.1)
place_reply (Err r) = Two (number r) (Whole (pos 0)) (Whole (pos 0))

abbrev pub columns_reply : Result Columns Refusal → Reply
columns_reply (Ok c) = Two 0 (Whole c.0) (Whole c.1)
columns_reply (Err r) = Two (number r) (Whole (pos 0)) (Whole (pos 0))

abbrev pub run_reply : Result RowRun Refusal → Reply
run_reply (Ok n) = Two 0 (Whole n.first) (Natural n.count)
run_reply (Err r) = Two (number r) (Whole (pos 0)) (Natural 0)

-- the reply to what a line asks for, by what it is answered; none, where it asks for something else
abbrev pub replied : {A : Type 0} → (A → Reply) → Option A → Option Reply
replied say asked = option_map_or (λ a. Some (say a)) asked None
