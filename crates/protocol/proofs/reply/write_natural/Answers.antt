-- `protocol::reply::write_natural` writes the number, of at most ten digits, and the byte behind it. Assumes nothing.
use native.Mathlib.Omega.{arith}
use Rattle.text.specs.Show.{shown}
use Rattle.text.proofs.Writing.{wrote_byte}
use Rattle.text.proofs.Showing.{shown_ten}
use Rattle.protocol.proofs.reply.write_natural.Goals as goal

pub write_u32-end-requires : goal.write_u32-end-requires
write_u32-end-requires c = omega (arith, c.requires, shown_ten c.args.n c.ranges.n.fits)

pub bounds-out-end : goal.bounds-out-end
bounds-out-end c =
    omega (arith, c.requires, c.write_u32-end.ensures.0, c.write_u32-end.auto.buf, shown_ten c.args.n c.ranges.n.fits)

pub overflow_add-result : goal.overflow_add-result
overflow_add-result c =
    omega (arith, c.requires, c.write_u32-end.ensures.0, shown_ten c.args.n c.ranges.n.fits)

pub returns : goal.returns
returns c =
    let w = wrote_byte c.args.out.now c.args.at (shown c.args.n) c.args.stop c.write_u32-end.ensures in
    (w.0, w.1, omega (arith, c.write_u32-end.ensures.0, shown_ten c.args.n c.ranges.n.fits))
