-- Answers by their number: 0 and the value, or a refusal, with which every number is 0 (01, "Numbers an operation may answer").
use Rattle.std.specs.Prelude.{Bool, false, ℕ, Result, Ok, Err}
use Rattle.refusals.specs.Answer.{if_done}
use Rattle.refusals.specs.Refusal.{number}
use Rattle.refusals.specs.declared.Refusal.{Refusal}
use Rattle.frames.specs.declared.Size.{Size}
use Rattle.frames.specs.declared.Drawn.{Drawn}
use Rattle.frames.specs.declared.Placed.{Placed}
use Rattle.frames.specs.declared.Read.{Read}

abbrev pub sized : ℕ → ℕ → Size
sized n b = record { number = n; bytes = if_done n b 0 }

-- 02, T-02: how many pixels of the frame the figure contains
abbrev pub drawn : ℕ → ℕ → Drawn
drawn n m = record { number = n; count = if_done n m 0 }

-- whether the pixel was inside the frame
abbrev pub was_inside : ℕ → Bool → Placed
was_inside n t = record { number = n; inside = if_done n t false }

abbrev pub read : ℕ → ℕ → Read
read n c = record { number = n; colour = if_done n c 0 }

-- ---- what the library answers, by its number
abbrev pub as_size : Result ℕ Refusal → Size
as_size (Ok b) = record { number = 0; bytes = b }
as_size (Err r) = record { number = number r; bytes = 0 }

abbrev pub as_drawn : Result ℕ Refusal → Drawn
as_drawn (Ok m) = record { number = 0; count = m }
as_drawn (Err r) = record { number = number r; count = 0 }

abbrev pub as_placed : Result Bool Refusal → Placed
as_placed (Ok t) = record { number = 0; inside = t }
as_placed (Err r) = record { number = number r; inside = false }

abbrev pub as_read : Result ℕ Refusal → Read
as_read (Ok c) = record { number = 0; colour = c }
as_read (Err r) = record { number = number r; colour = 0 }
