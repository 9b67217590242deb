-- `screens::preset` sets every byte, where the line is the value alone. Assumes nothing.
use mathlib.Core.Path.{ap}
use mathlib.Core.List.{List}
use Prim.Native.Nat.{ℕ}
use native.Mathlib.Omega.{arith}
use Rattle.std.specs.Prelude.{Option, Some}
use Rattle.readers.proofs.Readings.{last_most, unanswered, answered}
use Rattle.protocol.specs.declared.reply.Reply.{Reply}
use Rattle.protocol.specs.declared.reply.Reply.TheVariants.{Number}
use Rattle.calls.proofs.Calls.{said_beside}
use Rattle.screens.specs.Screen.{preset_call}
use Rattle.screens.proofs.preset.Goals as goal

pub returns-in_err-v : goal.returns-in_err-v
unfolding preset_call
returns-in_err-v c = unanswered _ _ (said_beside _ c.from_residual.ensures) c.in_err-v.ensures

pub overflow_cast-v : goal.overflow_cast-v
overflow_cast-v c = record { fits = omega (arith, last_most 255 c.args.said.now c.args.at c.in_ok-v.v c.in_ok-v.ensures) }

pub returns : goal.returns
unfolding preset_call
returns c = answered _ _ c.in_ok-v.ensures (ap {B = Option Reply × List ℕ} (λ (l : List ℕ). (Some (Number 0), l)) c.set_all.ensures)
