-- `painting::read_point` takes the pixel's field of its byte, or puts its bytes together. Assumes nothing.
use Rattle.painting.proofs.Pixels.{byte_room, field_got, bytes_room, bytes_got}
use Rattle.painting.proofs.read_point.Goals as goal

pub bounds-buf-at : goal.bounds-buf-at
bounds-buf-at c = let a = c.args in let r = c.requires in byte_room a.frame a.buf.now r.0 a.x a.y r.1 r.2 c.byte_of-at.ensures

pub returns-then-depth-lt8 : goal.returns-then-depth-lt8
returns-then-depth-lt8 c =
    let a = c.args in
    let r = c.requires in
    field_got a.frame a.buf.now r.0 a.x a.y r.1 r.2 c.byte_of-at.ensures c.if-depth-lt8.true _ c.field_of.ensures

pub slice_bounds-load-end : goal.slice_bounds-load-end
slice_bounds-load-end c =
    let a = c.args in
    let r = c.requires in
    bytes_room a.frame a.buf.now r.0 a.x a.y r.1 r.2 c.byte_of-at.ensures c.if-depth-lt8.false

pub returns-else-depth-lt8 : goal.returns-else-depth-lt8
returns-else-depth-lt8 c =
    let a = c.args in
    let r = c.requires in
    bytes_got a.frame a.buf.now r.0 a.x a.y r.1 r.2 c.byte_of-at.ensures c.if-depth-lt8.false (λ i. (c.type_inv.buf i).fits) _ c.load.ensures
