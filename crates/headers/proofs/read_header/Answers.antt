-- `headers::read_header` reads the magic and the fields, each from the place behind the one before: the pixels start within the file, or with its end. Assumes nothing.
use mathlib.Core.Path.{sym}
use native.Mathlib.Omega.{arith}
use Rattle.std.proofs.Common.{rules}
use Rattle.headers.proofs.Parsing.{header_read}
use Rattle.headers.proofs.Forms.{header_ends}
use Rattle.headers.proofs.read_header.Goals as goal

pub overflow_add-result : goal.overflow_add-result
overflow_add-result c =
    let a = c.args in
    let w = c.in_ok-width in
    let h = c.in_ok-height in
    let last = c.in_ok-last in
    let read = header_read a.depth a.file.now (w.width, w.at) (h.height, h.at) last.last (search rules) (sym w.ensures) (sym h.ensures) (sym last.ensures) in
    omega (arith, header_ends a.depth a.file.now read)
