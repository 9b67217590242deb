-- What a drawing call answers and leaves, put into a reply, and what answers the needs of a call. Assumes nothing.
use mathlib.Core.Path.{◌≡◌, refl, ap, ◌∙◌}
use mathlib.Core.Bool.{Bool}
use mathlib.Core.List.{List}
use Prim.Native.Nat.{ℕ}
use Rattle.std.specs.Prelude.{Option, Some, Result, Ok, Err}
use Rattle.refusals.specs.declared.Refusal.{Refusal}
use Rattle.frames.specs.Answer.{as_drawn, as_placed}
use Rattle.frames.specs.declared.Drawn.{Drawn}
use Rattle.frames.specs.declared.Placed.{Placed}
use Rattle.readers.proofs.Letters.{choices}
use Rattle.protocol.specs.declared.reply.Reply.{Reply}
use Rattle.protocol.specs.Reply.{verdict_reply, count_reply, yes_reply}
use Rattle.calls.specs.Draw.{said_some, placed_said, drawn_reply, drawn_said}

-- a reply beside bytes that stay
pub said_beside : {r found : Option Reply} (b : List ℕ) → r ≡ found → ◌≡◌ {A = Option Reply × List ℕ} (r, b) (found, b)
said_beside b e = ap {B = Option Reply × List ℕ} (λ x. (x, b)) e

placed_told : (v : Result Bool Refusal) → yes_reply v ≡ verdict_reply (record { number = (as_placed v).number; yes = (as_placed v).inside })
placed_told (Ok t) = refl
placed_told (Err e) = refl

pub is_placed : (v : Result Bool Refusal) {r : Reply} {left : List ℕ} {c : Placed × List ℕ} → r ≡ yes_reply v
    → ◌≡◌ {A = Placed × List ℕ} (as_placed v, left) c → ◌≡◌ {A = Option Reply × List ℕ} (Some r, left) (said_some (placed_said c))
is_placed v {left = left} e q = ap {B = Option Reply × List ℕ} (λ x. (Some x, left)) (e ∙ placed_told v) ∙ ap (λ (c : Placed × List ℕ). said_some (placed_said c)) q

drawn_told : (v : Result ℕ Refusal) → count_reply v ≡ drawn_reply (as_drawn v)
drawn_told (Ok n) = refl
drawn_told (Err e) = refl

pub is_drawn : (v : Result ℕ Refusal) {r : Reply} {left : List ℕ} {c : Drawn × List ℕ} → r ≡ count_reply v → ◌≡◌ {A = Drawn × List ℕ} (as_drawn v, left) c
    → ◌≡◌ {A = Option Reply × List ℕ} (Some r, left) (said_some (drawn_said c))
is_drawn v {left = left} e q = ap {B = Option Reply × List ℕ} (λ x. (Some x, left)) (e ∙ drawn_told v) ∙ ap (λ (c : Drawn × List ℕ). said_some (drawn_said c)) q

-- what answers the needs of the choice between them
pub ruleset call_words = (choices, said_beside)
