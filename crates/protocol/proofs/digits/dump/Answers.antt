-- `protocol::digits::dump` writes the part that is asked for, and LF. Assumes nothing.
use mathlib.Core.Path.{◌≡◌, ap}
use mathlib.Core.List.{[], ◌∷◌, ◌++◌}
use Prim.Native.Nat.{◌≤◌}
use native.Mathlib.Omega.{arith}
use lib.ListN.{length}
use Rattle.text.proofs.Writing.{wrote_byte, wrote_as}
use Rattle.protocol.specs.Dump.{hex_text, shown_part, dump_line}
use Rattle.protocol.proofs.Hexadecimal.{hex_count}
use Rattle.protocol.proofs.Parts.{part_few}
use Rattle.protocol.proofs.digits.dump.Goals as goal
use Rattle.protocol.proofs.digits.dump.Goals.{In-Some}

-- the digits are few
digits : (c : In-Some) → length (hex_text c.in-Some.bytes.now) ≤ 8192
digits c =
    let b = c.in-Some.bytes.now in
    omega (arith, hex_count b, part_few c.args.said.now c.args.at c.args.memory.now b c.in-Some.ensures)

pub write_hex-last-requires : goal.write_hex-last-requires
write_hex-last-requires c = omega (arith, c.requires, digits (goal.at.write_hex-last-requires c).In-Some)

pub bounds-out-last : goal.bounds-out-last
bounds-out-last c = omega (arith, c.requires, digits (goal.at.bounds-out-last c).In-Some, c.write_hex-last.ensures.0, c.write_hex-last.auto.out)

pub overflow_add-result : goal.overflow_add-result
overflow_add-result c = omega (arith, c.requires, digits (goal.at.overflow_add-result c).In-Some, c.write_hex-last.ensures.0)

pub returns : goal.returns
returns c =
    let b = c.in-Some.bytes.now in
    let line : hex_text b ++ (10 ∷ []) ≡ dump_line c.args.said.now c.args.at c.args.memory.now = ap shown_part c.in-Some.ensures in
    let w = wrote_as c.args.out.now c.args.to line (wrote_byte c.args.out.now c.args.to (hex_text b) 10 c.write_hex-last.ensures) in
    (w.0, w.1, omega (arith, digits (goal.at.returns c).In-Some, c.write_hex-last.ensures.0))
