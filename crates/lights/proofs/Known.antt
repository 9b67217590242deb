-- The table of known counts under one claim: each frame has its answer. Assumes nothing.
use mathlib.Core.Path.{◌≡◌, refl}
use mathlib.Core.List.{map}
use lib.ListN.{length}
use Rattle.refusals.specs.First.{first}
use Rattle.layout.specs.Count.{lit_in}
use Rattle.layout.specs.Packed.{row_bytes, field, parts, per, byte_of, slot_of}
use Rattle.frames.specs.Description.{packed_distance, raster, size, description_tests, frame_tests}
use Rattle.lights.specs.declared.Lights.{Lights}
use Rattle.lights.specs.Answer.{lit_tests, lights}
use Rattle.lights.specs.Known.{Case, table}

abbrev asked : Case → Lights
asked c = lights (first (lit_tests c.frame (length c.bytes))) (lit_in (raster c.frame) c.bytes)

pub known : map asked table ≡ map (λ (c : Case). c.answer) table
unfolding lit_in packed_distance row_bytes field parts per byte_of slot_of size description_tests frame_tests lit_tests
known = refl
