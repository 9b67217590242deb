-- `text::write::write_i32` writes a minus where the number is negative, and then how far it is from 0. Assumes nothing.
use mathlib.Core.Path.{◌≡◌, sym, ap, ◌∙◌}
use mathlib.Core.List.{◌∷◌}
use Prim.Native.Nat.{ℕ}
use native.Mathlib.Numerals.{add-one}
use native.Mathlib.Omega.{arith}
use lib.IntN.{pos, nat_abs}
use lib.ListN.{length, set, length-set}
use lib.Seq.{sets}
use mir.Syntax.{w32}
use mir.Facts.{to_z-of_z, sfits_lit}
use borrow.Author.Rules.{rules}
use Rattle.whole.proofs.Machine.{lt_true, lt_false}
use Rattle.text.specs.Show.{shown, shown_signed}
use Rattle.text.proofs.Showing.{shown_minus, shown_plus}
use Rattle.text.proofs.write.write_i32.Goals as goal
use Rattle.text.proofs.write.write_i32.Goals.{After-unsigned_abs-digits, Else-v-lt0, Then-v-lt0}

-- how far the number is from 0, and so what is to be written
far : (c : After-unsigned_abs-digits) → nat_abs c.args.v ≡ c.unsigned_abs-digits.result
far c = sym (c.unsigned_abs-digits.ensures.value ∙ ap nat_abs (to_z-of_z c.ranges.v))

with_minus : (c : Then-v-lt0) → shown_signed c.args.v ≡ 45 ∷ shown c.unsigned_abs-digits.result
with_minus c =
    shown_minus _ (lt_true c.ranges.v (sfits_lit {w = w32} {z = pos 0} tt) c.if-v-lt0.true)
    ∙ ap (λ (n : ℕ). 45 ∷ shown n) (far (goal.at.Then-v-lt0 c).After-unsigned_abs-digits)

without : (c : Else-v-lt0) → shown_signed c.args.v ≡ shown c.unsigned_abs-digits.result
without c =
    shown_plus _ (lt_false c.ranges.v (sfits_lit {w = w32} {z = pos 0} tt) c.if-v-lt0.false)
    ∙ ap shown (far (goal.at.Else-v-lt0 c).After-unsigned_abs-digits)

pub bounds-buf-at : goal.bounds-buf-at
bounds-buf-at c = omega (arith, c.requires, ap length (with_minus (goal.at.bounds-buf-at c).Then-v-lt0))

pub overflow_add-at : goal.overflow_add-at
overflow_add-at c = omega (arith, c.requires, ap length (with_minus (goal.at.overflow_add-at c).Then-v-lt0))

pub write_u32-requires : goal.write_u32-requires
write_u32-requires c = simp length-set (omega (arith, c.requires, ap length (with_minus (goal.at.write_u32-requires c).Then-v-lt0)))

pub shape_of-buf-then-v-lt0 : goal.shape_of-buf-then-v-lt0
shape_of-buf-then-v-lt0 c = c.write_u32.auto.buf ∙ simp length-set

pub returns-then-v-lt0 : goal.returns-then-v-lt0
returns-then-v-lt0 c =
    let a = c.args in
    let e = with_minus (goal.at.returns-then-v-lt0 c).Then-v-lt0 in
    let w = c.write_u32.ensures in (
      w.0 ∙ omega (arith, ap length e),
      w.1 ∙ ap (λ (k : ℕ). sets (set a.buf.now a.at 45) k (shown c.unsigned_abs-digits.result)) (add-one a.at)
          ∙ ap (sets a.buf.now a.at) (sym e),
    )

pub write_u32-requires-2 : goal.write_u32-requires-2
write_u32-requires-2 c = omega (arith, c.requires, ap length (without (goal.at.write_u32-requires-2 c).Else-v-lt0))

pub shape_of-buf : goal.shape_of-buf
shape_of-buf c = search rules

pub returns : goal.returns
returns c =
    let a = c.args in
    let e = without (goal.at.returns c).Else-v-lt0 in
    let w = c.write_u32-2.ensures in
    (w.0 ∙ omega (arith, ap length e), w.1 ∙ ap (sets a.buf.now a.at) (sym e))
