-- Each public contract determines its answer and every byte of the buffer: any two outcomes that it allows of the same arguments are equal. `Post`
-- is the contract as the source states it. Assumes nothing.
use Rattle.whole.proofs.Determined.{One, OneBuffer, same}
use Rattle.frames.proofs.Answer.{same_size, same_read, same_drawn, same_placed}
use Rattle.framebuffer.proofs.buffer_size_bpp.Reads as buffer_size_bpp
use Rattle.framebuffer.proofs.set_pixel.Reads as set_pixel
use Rattle.framebuffer.proofs.pixel.Reads as pixel
use Rattle.framebuffer.proofs.fill.Reads as fill

pub buffer_size_bpp_one : One buffer_size_bpp.Post
buffer_size_bpp_one κs args r q s t h k = same_size (same h k)

pub set_pixel_one : OneBuffer set_pixel.Post
set_pixel_one κs args r q s t h k = same_placed (same h k)

pub pixel_one : One pixel.Post
pixel_one κs args r q s t h k = same_read (same h k)

pub fill_one : OneBuffer fill.Post
fill_one κs args r q s t h k = same_drawn (same h k)
