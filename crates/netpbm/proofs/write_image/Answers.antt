-- `netpbm::write_image` writes the header of a frame that is not refused, and the pixels behind it. Assumes nothing.
use mathlib.Core.Path.{◌≡◌, refl, sym, ap, ap₂, subst, ◌∙◌}
use mathlib.Core.List.{List, ◌++◌}
use Prim.Native.Nat.{ℕ, ◌+◌, ◌-◌}
use native.Mathlib.Omega.{arith}
use lib.ListN.{length, take, drop, length-drop}
use lib.Seq.{length-take-le}
use Rattle.refusals.proofs.Numbers.{some_number}
use Rattle.frames.specs.declared.Frame.{Frame}
use Rattle.frames.specs.Description.{size}
use Rattle.frames.proofs.Answer.{refused_size}
use Rattle.netpbm.specs.Image.{header, big_first, pixels, image_bytes, image_length}
use Rattle.netpbm.specs.Words.{Alike, transferred, masked_rows}
use Rattle.netpbm.proofs.Transfers.{pixels_length, into_file, over_zeros}
use Rattle.netpbm.proofs.Answers.{refused_written, accepted_written, in_part}
use Rattle.netpbm.proofs.write_image.Goals as goal
use Rattle.netpbm.proofs.write_image.Goals.{After-write_header-start}

-- where the file ends
end : (f : Frame) {n : ℕ} → n ≡ image_length f → n ≡ length (header f) + size (big_first f)
unfolding image_length
end f e = e

module _ (c : After-write_header-start) where
  -- where the pixels start, and how many bytes they are
  start : c.write_header-start.result ≡ length (header c.args.frame)
  start = c.write_header-start.ensures.0

  abbrev count : ℕ
  count = c.in_ok-bytes.bytes - c.write_header-start.result

  count_is : count ≡ size (big_first c.args.frame)
  count_is = omega (arith, start, end _ c.in_ok-bytes.ensures.accepted.0)

  -- the part that is lent for them
  abbrev part : List ℕ
  part = take count (drop c.write_header-start.result c.write_header-start.new.out)

  lent : length part ≡ size (big_first c.args.frame)
  lent =
      let o = c.write_header-start.new.out in
      let s = c.write_header-start.result in
      length-take-le count (drop s o) (rw length-drop (omega (arith, c.in_ok-bytes.ensures.accepted.1, c.write_header-start.auto.out))) ∙ count_is

pub returns-in_err-bytes : goal.returns-in_err-bytes
returns-in_err-bytes c =
    let a = c.args in
    refused_written a.frame a.buf.now a.out.now c.in_err-bytes.ensures.number (refused_size _ _ c.from_residual.ensures refl (image_length a.frame)) (some_number c.in_err-bytes.field-0.0)

pub write_header-start-requires : goal.write_header-start-requires
write_header-start-requires c = omega (arith, end _ c.in_ok-bytes.ensures.accepted.0, c.in_ok-bytes.ensures.accepted.1)

pub slice_bounds-transfer_rows-count : goal.slice_bounds-transfer_rows-count
slice_bounds-transfer_rows-count c = omega (arith, start (goal.at.slice_bounds-transfer_rows-count c).After-write_header-start, end _ c.in_ok-bytes.ensures.accepted.0)

pub slice_bounds-transfer_rows-start : goal.slice_bounds-transfer_rows-start
slice_bounds-transfer_rows-start c = omega (arith, start (goal.at.slice_bounds-transfer_rows-start c).After-write_header-start, end _ c.in_ok-bytes.ensures.accepted.0, c.in_ok-bytes.ensures.accepted.1, c.write_header-start.auto.out)

pub transfer_rows-requires : goal.transfer_rows-requires
transfer_rows-requires c =
    let a = c.args in
    let at = (goal.at.transfer_rows-requires c).After-write_header-start in
    subst (λ (g : Frame). Alike a.frame (length a.buf.now) g (length (part at))) (sym c.in_file.ensures)
    (into_file a.frame c.in_ok-bytes.ensures.accepted.2 (omega (arith, lent at)))

pub returns : goal.returns
unfolding image_bytes
returns c =
    let a = c.args in
    let f = a.frame in
    let w = c.write_header-start in
    let at = (goal.at.returns c).After-write_header-start in
    let fit = c.in_ok-bytes.ensures.accepted in
    let D = fit.2.accepted.described in
    let l = pixels_length f a.buf.now D ∙ sym (count_is at) in
    let p = c.transfer_rows.ensures
    ∙ ap (λ (g : Frame). transferred f a.buf.now g (masked_rows g 0 (part at))) c.in_file.ensures ∙ over_zeros f a.buf.now (part at) D (lent at) in
    accepted_written f a.buf.now a.out.now c.in_ok-bytes.ensures.number (λ i. record { number = 0; bytes = fit.0 i }) refl
    (ap₂ (λ (o p : List ℕ). take w.result o ++ (p ++ drop (count at) (drop w.result o))) w.ensures.1 p
    ∙ in_part a.out.now (header f) (pixels f a.buf.now) w.result (count at) (start at) l (omega (arith, start at, end _ c.in_ok-bytes.ensures.accepted.0, fit.1)))
