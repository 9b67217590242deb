-- The steps that are told by their ends: any two answers that a contract allows of the same arguments are equal. `Post` is the contract as the source states it. Assumes
-- nothing.
use Rattle.whole.proofs.Determined.{One}
use Rattle.windows.proofs.Interval.{held_one}
use Rattle.clips.proofs.Steps.{inner_one}
use Rattle.clips.proofs.line_steps.Reads as line_steps
use Rattle.clips.proofs.inner_steps.Reads as inner_steps

pub line_steps_one : One line_steps.Post
line_steps_one κs args r q s t h g = held_one h.held g.held

pub inner_steps_one : One inner_steps.Post
inner_steps_one κs args r q s t h g = inner_one h g
