-- `protocol::digits::write_hex` writes a byte a turn; what is left to write is at each turn the rest of the digits. Assumes nothing.
use mathlib.Core.Path.{◌≡◌}
use Prim.Native.Nat.{◌+◌}
use lib.ListN.{length, drop}
use lib.Seq.{sets}
use Rattle.protocol.specs.Dump.{hex_text}
use Rattle.protocol.proofs.digits.write_hex.Given as goal

abbrev pub invariant-loop-b : goal.invariant-loop-b
invariant-loop-b l =
    (length l.out ≡ length l.initial.out) × (l.filled + length (hex_text (drop l.b-index l.bytes)) ≡ l.at + length (hex_text l.bytes))
    × (sets l.out l.filled (hex_text (drop l.b-index l.bytes)) ≡ sets l.initial.out l.at (hex_text l.bytes))
