-- `painting::paint_fields` paints the end of the first byte, the start of the last, and the whole bytes between, which join. Assumes nothing.
use mathlib.Core.Path.{◌≡◌, refl, sym, ap, ◌∙◌}
use Prim.Native.Nat.{ℕ, ◌+◌, ◌-◌, ◌*◌, ◌/◌, ◌≤◌, ◌<◌}
use native.Mathlib.Nat.{mul-le-mul_right}
use native.Mathlib.Omega.{arith}
use lib.Bits.{bit_and}
use lib.ListN.{length, take, drop}
use Rattle.layout.specs.Digits.{set_run}
use Rattle.layout.specs.Layout.{painted}
use Rattle.layout.specs.Packed.{per}
use Rattle.layout.proofs.Places.{parts_pos}
use Rattle.layout.proofs.Spans.{columns}
use Rattle.packing.specs.Words.{merged_at}
use Rattle.frames.specs.Description.{raster}
use Rattle.frames.specs.Judged.{Drawable}
use Rattle.frames.proofs.Refusals.{pixel_room}
use Rattle.painting.proofs.Edges.{bytes_to, head_after, in_order, head_is, tail_is, inner_is, whole_is, joined}
use Rattle.painting.proofs.paint_fields.Goals as goal
use Rattle.painting.proofs.paint_fields.Goals.{After-bits_to-tail, Else-first-last}

-- the bytes of the first and the last column, and their masks
module _ (c : After-bits_to-tail) where
  abbrev first : ℕ
  first = c.byte_of-first.result

  abbrev last : ℕ
  last = c.byte_of-last.result

  abbrev last_column : ℕ
  last_column = c.args.past - 1

  ok : Drawable c.args.frame (length c.args.buf.now) c.args.colour
  ok = c.requires.0

  -- the columns are in the frame
  in_frame : (c.args.from ≤ last_column) × (last_column < c.args.frame.width) × (last_column + 1 ≡ c.args.past)
  in_frame = (omega (arith, c.requires.3), omega (arith, c.requires.3, c.requires.4), omega (arith, c.requires.3))

  -- and their bytes in the buffer
  room : (let a = c.args in (x at : ℕ) → x < a.frame.width → at ≡ a.y * a.frame.distance + x * a.frame.depth / 8 → at < length a.buf.now)
  room x at h e =
      let a = c.args in
      omega (arith, pixel_room a.frame _ x a.y ok.accepted h c.requires.2 e, parts_pos a.frame.depth ok.accepted.described.depth)

  first_room : first < length c.args.buf.now
  first_room = room c.args.from first (omega (arith, in_frame)) c.byte_of-first.ensures

  last_room : last < length c.args.buf.now
  last_room = room last_column last in_frame.1 c.byte_of-last.ensures

pub merge_at-requires : goal.merge_at-requires
merge_at-requires c = first_room (goal.at.merge_at-requires c).After-bits_to-tail

pub returns-then-first-last : goal.returns-then-first-last
returns-then-first-last c =
    let a = c.args in
    let first_is = c.byte_of-first.ensures in
    let last_is_lem = c.byte_of-last.ensures in
    c.merge_at.ensures
    ∙ (λ i. merged_at (first_is i) (c.pattern-p.ensures i) (bit_and (c.bits_from-head.ensures i) (c.bits_to-tail.ensures i)) a.buf.now)
    ∙ inner_is a.frame _ a.colour (ok (goal.at.returns-then-first-last c).After-bits_to-tail) c.requires.1 a.y a.buf.now c.requires.2 (λ i. (c.slice_known-1.given i).fits)
    a.from (last_column (goal.at.returns-then-first-last c).After-bits_to-tail) (room (goal.at.returns-then-first-last c).After-bits_to-tail a.from _ (omega (arith, in_frame (goal.at.returns-then-first-last c).After-bits_to-tail)) refl) (in_frame (goal.at.returns-then-first-last c).After-bits_to-tail).0 (in_frame (goal.at.returns-then-first-last c).After-bits_to-tail).1 (omega (arith, first_is, last_is_lem, c.if-first-last.true))
    ∙ ap (λ (x : ℕ). painted (raster a.frame) (columns a.y a.from x) a.colour a.buf.now) (in_frame (goal.at.returns-then-first-last c).After-bits_to-tail).2

pub merge_at-requires-else-first-last : goal.merge_at-requires-else-first-last
merge_at-requires-else-first-last c = first_room (goal.at.merge_at-requires-else-first-last c).After-bits_to-tail

pub merge_at-requires-else-first-last-2 : goal.merge_at-requires-else-first-last-2
merge_at-requires-else-first-last-2 c = omega (arith, last_room (goal.at.merge_at-requires-else-first-last-2 c).After-bits_to-tail, c.merge_at-else-first-last.auto.buf)

-- whole bytes lie from the first byte's end to the last one's start
module _ (c : Else-first-last) where
  order : (let a = c.args in a.from * a.frame.depth / 8 + 1 ≤ last_column (goal.at.Else-first-last c).After-bits_to-tail * a.frame.depth / 8)
  order =
      let a = c.args in
      in_order a.frame _ a.colour (ok (goal.at.Else-first-last c).After-bits_to-tail) c.requires.1 a.from (last_column (goal.at.Else-first-last c).After-bits_to-tail) (in_frame (goal.at.Else-first-last c).After-bits_to-tail).0
      (λ e. c.if-first-last.false (c.byte_of-first.ensures ∙ ap (λ (i : ℕ). a.y * a.frame.distance + i) e ∙ sym c.byte_of-last.ensures))

  apart : first (goal.at.Else-first-last c).After-bits_to-tail + 1 ≤ last (goal.at.Else-first-last c).After-bits_to-tail
  apart = omega (arith, order, c.byte_of-first.ensures, c.byte_of-last.ensures)

pub slice_bounds-set_all-end : goal.slice_bounds-set_all-end
slice_bounds-set_all-end c =
    omega (arith, last_room (goal.at.slice_bounds-set_all-end c).After-bits_to-tail, c.merge_at-else-first-last.auto.buf, c.merge_at-else-first-last-2.auto.buf)

pub returns-else-first-last : goal.returns-else-first-last
returns-else-first-last c =
    let a = c.args in
    let d = a.frame.depth in
    let first_is = c.byte_of-first.ensures in
    let last_is_lem = c.byte_of-last.ensures in
    let pattern = c.pattern-p.ensures in
    let start = c.merge_at-else-first-last in
    let both = c.merge_at-else-first-last-2 in
    let at = first (goal.at.returns-else-first-last c).After-bits_to-tail + 1 in
    let k = last (goal.at.returns-else-first-last c).After-bits_to-tail - at in
    let part = take k (drop at both.new.buf) in
    let more = mul-le-mul_right (per d) (order (goal.at.returns-else-first-last c).Else-first-last) in
    let few = bytes_to a.frame _ a.colour (ok (goal.at.returns-else-first-last c).After-bits_to-tail) c.requires.1 (last_column (goal.at.returns-else-first-last c).After-bits_to-tail) in
    joined a.frame _ a.colour (ok (goal.at.returns-else-first-last c).After-bits_to-tail) c.requires.1 a.y a.from ((a.from * d / 8 + 1) * per d) (last_column (goal.at.returns-else-first-last c).After-bits_to-tail * d / 8 * per d) (last_column (goal.at.returns-else-first-last c).After-bits_to-tail + 1)
    a.buf.now start.new.buf both.new.buf _
    (head_after a.frame _ a.colour (ok (goal.at.returns-else-first-last c).After-bits_to-tail) c.requires.1 a.from) more (omega arith)
    (start.ensures ∙ (λ i. merged_at (first_is i) (pattern i) (c.bits_from-head.ensures i) a.buf.now)
    ∙ head_is a.frame _ a.colour (ok (goal.at.returns-else-first-last c).After-bits_to-tail) c.requires.1 a.y a.buf.now c.requires.2 (λ i. (c.slice_known-1.given i).fits)
    a.from (room (goal.at.returns-else-first-last c).After-bits_to-tail a.from _ (omega (arith, in_frame (goal.at.returns-else-first-last c).After-bits_to-tail)) refl) (omega (arith, in_frame (goal.at.returns-else-first-last c).After-bits_to-tail)))
    (both.ensures ∙ (λ i. merged_at (last_is_lem i) (pattern i) (c.bits_to-tail.ensures i) start.new.buf)
    ∙ tail_is a.frame _ a.colour (ok (goal.at.returns-else-first-last c).After-bits_to-tail) c.requires.1 a.y start.new.buf c.requires.2 (λ i. (c.slice_known-else-first-last-1.given i).fits)
    (last_column (goal.at.returns-else-first-last c).After-bits_to-tail) (omega (arith, room (goal.at.returns-else-first-last c).After-bits_to-tail (last_column (goal.at.returns-else-first-last c).After-bits_to-tail) _ (in_frame (goal.at.returns-else-first-last c).After-bits_to-tail).1 refl, start.auto.buf)) (in_frame (goal.at.returns-else-first-last c).After-bits_to-tail).1)
    (whole_is a.frame _ a.colour (ok (goal.at.returns-else-first-last c).After-bits_to-tail) c.requires.1 a.y both.new.buf c.requires.2 (λ i. (c.slice_known-else-first-last-2-1.given i).fits)
    (a.from * d / 8 + 1) (last_column (goal.at.returns-else-first-last c).After-bits_to-tail * d / 8) part c.set_all.new.part at k (order (goal.at.returns-else-first-last c).Else-first-last) (omega (arith, in_frame (goal.at.returns-else-first-last c).After-bits_to-tail)) (omega (arith, first_is))
    (omega (arith, last_is_lem, apart (goal.at.returns-else-first-last c).Else-first-last)) (omega (arith, last_room (goal.at.returns-else-first-last c).After-bits_to-tail, apart (goal.at.returns-else-first-last c).Else-first-last, start.auto.buf, both.auto.buf)) refl
    (c.set_all.ensures ∙ ap (λ (v : ℕ). set_run 0 (length part) (λ j. v) part) pattern))
    ∙ ap (λ (x : ℕ). painted (raster a.frame) (columns a.y a.from x) a.colour a.buf.now) (in_frame (goal.at.returns-else-first-last c).After-bits_to-tail).2
