-- `lights::lit_row` counts the whole bytes as one block; the rest of the bits are the first of the byte behind. Assumes nothing.
use mathlib.Core.Path.{◌≡◌, ap, ◌∙◌}
use Prim.Native.Nat.{ℕ, ◌+◌, ◌*◌, ◌-◌, ◌/◌, ◌%◌}
use native.Mathlib.Omega.{arith}
use lib.Bits.{bit_and}
use lib.Count.{ones}
use lib.ListN.{get_or}
use Rattle.layout.proofs.Bytes.{Bytes}
use Rattle.lights.specs.Bits.{lit_bits}
use Rattle.lights.proofs.Ones.{ones_lit, rest_more}
use Rattle.lights.proofs.lit_row.Goals as goal
use Rattle.lights.proofs.lit_row.Goals.{After-ones_of-sum}

module _ (c : After-ones_of-sum) where
  bytes : Bytes c.args.row.now
  bytes i = (c.type_inv.row i).fits

  -- the whole bytes
  counted : (let a = c.args in c.ones_of-sum.result ≡ lit_bits (a.n / 8 * 8) a.row.now)
  counted = c.ones_of-sum.ensures ∙ ones_lit c.args.row.now bytes (c.args.n / 8) (omega arith)

pub returns-then-rest-eq0 : goal.returns-then-rest-eq0
returns-then-rest-eq0 c =
    let a = c.args in
    let e : a.n / 8 * 8 ≡ a.n = omega arith in
    counted (goal.at.returns-then-rest-eq0 c).After-ones_of-sum ∙ ap (λ (k : ℕ). lit_bits k a.row.now) e

-- and the rest
pub returns-else-rest-eq0 : goal.returns-else-rest-eq0
returns-else-rest-eq0 c =
    let a = c.args in
    let b = a.row.now in
    let s = (goal.at.returns-else-rest-eq0 c).After-ones_of-sum in
    let e : a.n / 8 * 8 + a.n % 8 ≡ a.n = omega arith in
    ap (λ (k : ℕ). k + ones (bit_and (get_or b (a.n / 8) 0) (255 - c.bits_from.result))) (counted s)
    ∙ rest_more b (a.n / 8) (bytes s (a.n / 8)) (a.n % 8) (omega arith) c.bits_from.ensures
    ∙ ap (λ (k : ℕ). lit_bits k b) e
