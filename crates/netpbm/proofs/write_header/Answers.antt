-- `netpbm::write_header` writes the magic, both sides and the maximum, one behind the other. Assumes nothing.
use mathlib.Core.Path.{◌≡◌, ap, ◌∙◌}
use mathlib.Core.List.{List, [], ◌∷◌, ◌++◌}
use Prim.Native.Nat.{ℕ}
use native.Mathlib.Omega.{arith}
use lib.ListN.{length}
use lib.Seq.{sets}
use Rattle.text.specs.Words.{numbered}
use Rattle.text.proofs.Writing.{Wrote, wrote_then, wrote_as}
use Rattle.frames.specs.declared.Frame.{Frame}
use Rattle.headers.specs.Header.{magic, largest}
use Rattle.netpbm.specs.Image.{header}
use Rattle.netpbm.proofs.Headers.{sides, a_maximum, without_maximum, with_maximum, header_parts}
use Rattle.netpbm.proofs.write_header.Goals as goal
use Rattle.netpbm.proofs.write_header.Goals.{After-write_bytes-second, After-write_number-end}

-- the whole header, from the first byte on
all : (f : Frame) (buf : List ℕ) {s : List ℕ} {r : ℕ} {out : List ℕ} → s ≡ header f → Wrote buf 0 s r out
    → (r ≡ length (header f)) × (out ≡ sets buf 0 (header f))
all f buf e w = (omega (arith, w.0, ap length e), w.1 ∙ ap (sets buf 0) e)

-- the magic
one : (c : After-write_bytes-second)
    → Wrote c.args.out.now 0 (magic c.args.frame.depth) c.write_bytes-second.result c.write_bytes-second.new.buf
one c = wrote_as c.args.out.now 0 (ap (λ (k : ℕ). 80 ∷ k ∷ 10 ∷ []) c.kind_of.ensures) c.write_bytes-second.ensures

-- and both sides
three : (c : After-write_number-end)
    → (let a = c.args in Wrote a.out.now 0 (sides a.frame) c.write_number-end.result c.write_number-end.new.buf)
three c =
    let a = c.args in
    let f = a.frame in
    wrote_then a.out.now 0 (magic f.depth) (numbered f.width 32 ++ numbered f.height 10) (one (goal.at.After-write_number-end c).After-write_bytes-second)
    (wrote_then _ _ (numbered f.width 32) (numbered f.height 10) c.write_number-third.ensures c.write_number-end.ensures)

pub write_bytes-second-requires : goal.write_bytes-second-requires
write_bytes-second-requires c = omega (arith, c.requires, header_parts c.args.frame)

pub write_number-third-requires : goal.write_number-third-requires
write_number-third-requires c =
    omega (arith, c.requires, header_parts c.args.frame, (one (goal.at.write_number-third-requires c).After-write_bytes-second).0, c.write_bytes-second.auto.buf)

pub write_number-end-requires : goal.write_number-end-requires
write_number-end-requires c =
    let n = c.write_number-third in
    omega (arith, c.requires, header_parts c.args.frame, (one (goal.at.write_number-end-requires c).After-write_bytes-second).0, c.write_bytes-second.auto.buf, n.ensures.0, n.auto.buf)

pub returns-then-frame-eq1 : goal.returns-then-frame-eq1
returns-then-frame-eq1 c = let a = c.args in all a.frame a.out.now (without_maximum a.frame c.if-frame-eq1.true) (three (goal.at.returns-then-frame-eq1 c).After-write_number-end)

pub write_bytes-requires : goal.write_bytes-requires
write_bytes-requires c =
    let n = c.write_number-third in
    let h = header_parts c.args.frame in
    let l = ap length (a_maximum c.args.frame.depth c.if-frame-eq1.false) in
    let e = c.write_number-end in
    omega (arith, h, l, c.requires, (one (goal.at.write_bytes-requires c).After-write_bytes-second).0, c.write_bytes-second.auto.buf, n.ensures.0, n.auto.buf, e.ensures.0, e.auto.buf)

pub returns-else-frame-eq1 : goal.returns-else-frame-eq1
returns-else-frame-eq1 c =
    let a = c.args in
    all a.frame a.out.now (with_maximum a.frame c.if-frame-eq1.false)
    (wrote_then a.out.now 0 (sides a.frame) largest (three (goal.at.returns-else-frame-eq1 c).After-write_number-end) c.write_bytes.ensures)
