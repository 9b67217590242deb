-- The table of known files under one claim: each frame is written with the answer 0 and leaves the file's bytes, and each file is read with its number and leaves the
-- frame's. Assumes nothing.
use mathlib.Core.Path.{◌≡◌, refl}
use mathlib.Core.List.{List, ◌∷◌, map}
use Prim.Native.Nat.{ℕ}
use lib.ListN.{length, replicate}
use Rattle.text.specs.Show.{shown}
use Rattle.text.specs.Read.{read_digits}
use Rattle.headers.specs.Header.{past, number_from, field_from, header_field, maximum_at, header_of}
use Rattle.layout.specs.Layout.{rendered}
use Rattle.layout.specs.Packed.{row_bytes, field, parts, per, byte_of, slot_of}
use Rattle.frames.specs.Description.{packed_distance, size, description_tests, frame_tests}
use Rattle.netpbm.specs.Image.{header, pixels, image_bytes, image_length}
use Rattle.netpbm.specs.Written.{write_tests, written}
use Rattle.netpbm.specs.Reading.{file_tests, load_tests, loaded}
use Rattle.netpbm.specs.Known.{Case, saves, loads, table}

-- the number, for a write how long the file is, and the bytes that are left
abbrev asked : Case → List ℕ
asked (saves f b s) = let r = written f b (replicate (length s) 0) in r.0.number ∷ r.0.bytes ∷ r.1
asked (loads f b s n after) = let r = loaded f s b in r.0 ∷ r.1

abbrev answered : Case → List ℕ
answered (saves f b s) = 0 ∷ length s ∷ s
answered (loads f b s n after) = n ∷ after

pub known : map asked table ≡ map answered table
unfolding shown read_digits past number_from field_from header_field maximum_at header_of
    rendered row_bytes field parts per byte_of slot_of packed_distance size description_tests frame_tests
    header pixels image_bytes image_length write_tests written file_tests load_tests loaded
known = refl
