-- `protocol::digits::put_hex` makes the tests of `hexPut`, and stores the bytes that passed them. Assumes nothing.
use mathlib.Core.Path.{◌≡◌, sym, ap, ◌∙◌}
use mathlib.Core.Bool.{Bool, true}
use mathlib.Core.List.{List}
use Prim.Native.Nat.{ℕ, ◌+◌, ◌/◌}
use native.Mathlib.Omega.{arith}
use lib.Dec.{leb}
use lib.ListN.{length}
use borrow.Author.Tests.{not-true, not-false, leb-true}
use Rattle.protocol.specs.Bytes.{is_hex}
use Rattle.protocol.proofs.Hexadecimal.{pair_count, hex_digits, put_other, put_beyond, put_within}
use Rattle.protocol.proofs.digits.put_hex.Goals as goal
use Rattle.protocol.proofs.digits.put_hex.Goals.{Else-not-has_room, Else-not-is_hex}

-- the digits are bytes, and all of them have a place
are_bytes : (c : Else-not-is_hex) → is_hex c.args.digits.now ≡ true
are_bytes c = sym c.is_hex.ensures ∙ not-false _ c.if-not-is_hex.false-raw

have_room : (c : Else-not-has_room) → (let a = c.args in leb (a.at + length a.digits.now / 2) (length a.memory.now) ≡ true)
have_room c = sym c.has_room.ensures ∙ not-false _ c.if-not-has_room.false-raw

pub returns-then-not-is_hex : goal.returns-then-not-is_hex
returns-then-not-is_hex c =
    let a = c.args in
    put_other a.digits.now a.at a.memory.now (sym c.is_hex.ensures ∙ not-true _ c.if-not-is_hex.true-raw)

pub returns-then-not-has_room : goal.returns-then-not-has_room
returns-then-not-has_room c =
    let a = c.args in
    put_beyond a.digits.now a.at a.memory.now (sym c.has_room.ensures ∙ not-true _ c.if-not-has_room.true-raw)

pub put_pairs-requires : goal.put_pairs-requires
put_pairs-requires c =
    let a = c.args in
    let room = leb-true (a.at + length a.digits.now / 2) (length a.memory.now) (have_room (goal.at.put_pairs-requires c).Else-not-has_room) in
    (hex_digits a.digits.now (are_bytes (goal.at.put_pairs-requires c).Else-not-is_hex), omega (arith, room, pair_count a.digits.now))

pub returns : goal.returns
returns c =
    let a = c.args in
    ap {B = Bool × List ℕ} (λ (m : List ℕ). (true, m)) c.put_pairs.ensures
    ∙ put_within a.digits.now a.at a.memory.now (are_bytes (goal.at.returns c).Else-not-is_hex) (have_room (goal.at.returns c).Else-not-has_room)
