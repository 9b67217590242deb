-- `protocol::digits::put_pairs` stores a byte a turn; the stores that are left are at each turn those of the rest of the digits. Assumes nothing.
use mathlib.Core.Path.{◌≡◌}
use Prim.Native.Nat.{◌+◌, ◌*◌}
use lib.ListN.{length, drop}
use lib.Seq.{sets}
use Rattle.protocol.specs.Bytes.{hex_bytes}
use Rattle.protocol.proofs.digits.put_pairs.Given as goal

abbrev pub invariant-loop-i : goal.invariant-loop-i
invariant-loop-i l =
    (length l.out ≡ length l.initial.out) × (sets l.out (l.at + l.i) (hex_bytes (drop (l.i * 2) l.digits)) ≡ sets l.initial.out l.at (hex_bytes l.digits))
