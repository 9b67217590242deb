-- Lines one after the other, each handed to what handles a line: the whole of an input at once, and as it comes in parts.
use Rattle.std.specs.Prelude.{Bool, true, cond, ◌&&◌, List, [], ◌∷◌, ◌++◌, ℕ, zero, suc, ◌+◌, ltb, length, take, drop}
use Rattle.text.specs.Fields.{until, lines}

-- the line that starts at a place: up to LF, or to the end
abbrev pub line_end : List ℕ → ℕ → ℕ
line_end s at = at + until 10 (drop at s)

abbrev pub line_at : List ℕ → ℕ → List ℕ
line_at s at = take (until 10 (drop at s)) (drop at s)

abbrev pub first_line : List ℕ → List ℕ
first_line s = line_at s 0

-- every line, the first first
abbrev pub each : {S : Type 0} → (S → List ℕ → S) → S → List (List ℕ) → S
each f st [] = st
each f st (l ∷ ls) = each f (f st l) ls

abbrev pub over : {S : Type 0} → (S → List ℕ → S) → S → List ℕ → S
over f st s = each f st (lines s)

-- the lines of s that LF ends, from a place on, as long as there is room for what a line answers, and at most so many: the next place, and what they left
unfoldable pub handled : {S : Type 0} → (S → Bool) → (S → List ℕ → S) → List ℕ → ℕ → ℕ → S → ℕ × S
handled room f s zero at st = (at, st)
handled room f s (suc turns) at st =
    cond (ltb (line_end s at) (length s) && room st) (handled room f s turns (line_end s at + 1) (f st (line_at s at))) (at, st)

-- an input as it comes in: the lines that LF ends are handled, and what is left, of which the first `cut` bytes are enough, waits for the next part
abbrev pub taken : {S : Type 0} → (S → List ℕ → S) → List ℕ → S → ℕ × S
taken f s st = handled (λ (x : _). true) f s (length s) 0 st

-- parts, put together
abbrev pub whole : List (List ℕ) → List ℕ
whole [] = []
whole (part ∷ more) = part ++ whole more

abbrev pub streamed : {S : Type 0} → (S → List ℕ → S) → ℕ → S → List ℕ → List (List ℕ) → S
streamed f cut st kept [] = over f st kept
streamed f cut st kept (part ∷ more) =
    streamed f cut (taken f (kept ++ part) st).1 (take cut (drop (taken f (kept ++ part) st).0 (kept ++ part))) more

-- what is left of a buffer's first `end` bytes behind a place, at most so many
abbrev pub kept_part : List ℕ → ℕ → ℕ → ℕ → List ℕ
kept_part buf from end most = take most (drop from (take end buf))
