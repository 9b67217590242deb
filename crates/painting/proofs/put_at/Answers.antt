-- `painting::put_at` changes the pixel's field of its byte, or writes its bytes through a part of the buffer. Assumes nothing.
use Rattle.painting.proofs.Pixels.{byte_room, field_put, bytes_room, bytes_put}
use Rattle.painting.proofs.put_at.Goals as goal

pub bounds-buf-at : goal.bounds-buf-at
bounds-buf-at c = let a = c.args in let r = c.requires in byte_room a.frame a.buf.now r.0.accepted a.x a.y r.1 r.2 c.byte_of-at.ensures

pub bounds-buf-at-then-depth-lt8 : goal.bounds-buf-at-then-depth-lt8
bounds-buf-at-then-depth-lt8 c = let a = c.args in let r = c.requires in byte_room a.frame a.buf.now r.0.accepted a.x a.y r.1 r.2 c.byte_of-at.ensures

pub returns-then-depth-lt8 : goal.returns-then-depth-lt8
returns-then-depth-lt8 c =
    let a = c.args in
    let r = c.requires in
    field_put a.frame a.buf.now r.0.accepted a.x a.y r.1 r.2 c.byte_of-at.ensures c.if-depth-lt8.true a.colour _ r.0.below c.with_field.ensures

pub slice_bounds-store-end : goal.slice_bounds-store-end
slice_bounds-store-end c =
    let a = c.args in
    let r = c.requires in
    bytes_room a.frame a.buf.now r.0.accepted a.x a.y r.1 r.2 c.byte_of-at.ensures c.if-depth-lt8.false

pub returns-else-depth-lt8 : goal.returns-else-depth-lt8
returns-else-depth-lt8 c =
    let a = c.args in
    let r = c.requires in
    bytes_put a.frame a.buf.now r.0.accepted a.x a.y r.1 r.2 c.byte_of-at.ensures c.if-depth-lt8.false (λ i. (c.slice_known-1.given i).fits) a.colour c.store.new.part c.store.ensures
