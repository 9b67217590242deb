-- `netpbm::accept_reading` asks the frame, and then the file's format, header, size and pixels. Assumes nothing.
use mathlib.Core.Path.{◌≡◌, refl, sym, ap, subst, ◌∙◌}
use Prim.Native.Nat.{◌≤◌}
use native.Mathlib.Omega.{arith}
use lib.ListN.{length}
use Rattle.std.proofs.Common.{rules}
use Rattle.std.specs.Prelude.{Some}
use Rattle.refusals.proofs.Numbers.{refused_with}
use Rattle.headers.specs.declared.Header.{Header}
use Rattle.headers.specs.Header.{header_of}
use Rattle.headers.proofs.Forms.{said_header, header_ends}
use Rattle.frames.specs.Judged.{Described}
use Rattle.frames.specs.Description.{size, frame_tests}
use Rattle.netpbm.specs.Image.{big_first}
use Rattle.netpbm.specs.Reading.{load_tests}
use Rattle.netpbm.proofs.Loads.{by_file, by_pixels, enough_pixels}
use Rattle.netpbm.proofs.Transfers.{big_described}
use Rattle.netpbm.proofs.accept_reading.Goals as goal
use Rattle.netpbm.proofs.accept_reading.Goals.{After-frame_bytes, In_ok-header}

pub returns-in_err-accept_frame-clause-number : goal.returns-in_err-accept_frame-clause-number
unfolding load_tests
returns-in_err-accept_frame-clause-number c = refused_with _ _ c.from_residual.ensures (frame_tests c.args.frame c.args.len) _ c.in_err-accept_frame.ensures.number

-- the file has a header, which ends within it
found : (c : In_ok-header) → header_of c.args.frame.depth c.args.file.now ≡ Some c.in_ok-header.header
found c = search rules

starts : (c : In_ok-header) → c.in_ok-header.header.start ≤ length c.args.file.now
starts c = header_ends c.args.frame.depth c.args.file.now (found c)

pixels : (c : After-frame_bytes) → c.frame_bytes.result ≡ size (big_first c.args.frame)
pixels c = c.frame_bytes.ensures ∙ ap size c.in_file.ensures

pub overflow_sub-file : goal.overflow_sub-file
overflow_sub-file c = starts (goal.at.overflow_sub-file c).In_ok-header

pub frame_bytes-requires : goal.frame_bytes-requires
frame_bytes-requires c = subst Described (sym c.in_file.ensures) (big_described c.args.frame c.in_ok-accept_frame.ensures.accepted.described)

pub returns-clause-number : goal.returns-clause-number
returns-clause-number c =
    let a = c.args in
    let few = enough_pixels a.frame (length a.file.now) c.in_ok-header.header (omega (arith, c.if-file-header.false, starts (goal.at.returns-clause-number c).In_ok-header, pixels (goal.at.returns-clause-number c).After-frame_bytes)) in
    by_file a.frame a.len a.file.now c.in_ok-accept_frame.ensures.number refl
    (by_pixels a.frame a.file.now (sym c.has_no_format.ensures ∙ c.if-has_no_format.false) (found (goal.at.returns-clause-number c).In_ok-header) c.if-not-header-frame.false-raw few)

pub returns-clause-accepted : goal.returns-clause-accepted
returns-clause-accepted c = (
  ap (λ (h : Header). h.start) (sym (said_header c.args.frame.depth c.args.file.now (found (goal.at.returns-clause-accepted c).In_ok-header))),
  omega (arith, c.if-file-header.false, starts (goal.at.returns-clause-accepted c).In_ok-header, pixels (goal.at.returns-clause-accepted c).After-frame_bytes),
  record { accepted = c.in_ok-accept_frame.ensures.accepted; format = sym c.has_no_format.ensures ∙ c.if-has_no_format.false },
)
