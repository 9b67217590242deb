-- Each public contract of this crate determines its answer, and the buffer afterwards: any two results that it allows of the same arguments are equal.
-- `Post` is the contract as the source states it. Assumes nothing.
use Prim.Native.Nat.{ℕ}
use mir.Syntax.{w64}
use mir.Val.{Fits}
use Rattle.whole.proofs.Determined.{One, OneText, same, both}
use Rattle.text.proofs.read.read_digits.Reads as read_digits
use Rattle.text.proofs.read.read_u32.Reads as read_u32
use Rattle.text.proofs.read.read_signed.Reads as read_signed
use Rattle.text.proofs.read.read_i32.Reads as read_i32
use Rattle.text.proofs.parts.find.Reads as find
use Rattle.text.proofs.parts.part_end.Reads as part_end
use Rattle.text.proofs.parts.first_numbers.Reads as first_numbers
use Rattle.text.proofs.fields.next_u32.Reads as next_u32
use Rattle.text.proofs.fields.next_i32.Reads as next_i32
use Rattle.text.proofs.fields.read_numbers.Reads as read_numbers
use Rattle.text.proofs.write.digit_count.Reads as digit_count
use Rattle.text.proofs.write.has_room.Reads as has_room
use Rattle.text.proofs.write.write_u32.Reads as write_u32
use Rattle.text.proofs.write.write_i32.Reads as write_i32
use Rattle.text.proofs.write.write_bytes.Reads as write_bytes
use Rattle.text.proofs.write.write_field.Reads as write_field
use Rattle.text.proofs.write.write_triple.Reads as write_triple
use Rattle.text.proofs.write.write_u64.Reads as write_u64
use Rattle.text.proofs.write.write_number.Reads as write_number
use Rattle.text.proofs.write.write_counted.Reads as write_counted
use Rattle.text.proofs.write.write_bad.Reads as write_bad
use Rattle.text.proofs.fields.bad_field.Reads as bad_field
use Rattle.text.proofs.parts.keep.Reads as keep

-- ---- reading, and what is asked
pub read_digits_one : One read_digits.Post
read_digits_one κs args r q s t = same

pub read_u32_one : One read_u32.Post
read_u32_one κs args r q s t = same

pub read_signed_one : One read_signed.Post
read_signed_one κs args r q s t = same

pub read_i32_one : One read_i32.Post
read_i32_one κs args r q s t = same

pub find_one : One find.Post
find_one κs args r q s t = same

pub part_end_one : One part_end.Post
part_end_one κs args r q s t = same

pub first_numbers_one : (n : ℕ) (h : Fits w64 n) → One (first_numbers.Post n h)
first_numbers_one n h κs args r q s t = same

pub next_u32_one : One next_u32.Post
next_u32_one κs args r q s t = same

pub next_i32_one : One next_i32.Post
next_i32_one κs args r q s t = same

pub read_numbers_one : (n : ℕ) (h : Fits w64 n) → One (read_numbers.Post n h)
read_numbers_one n h κs args r q s t = same

pub bad_field_one : One bad_field.Post
bad_field_one κs args r q s t h k = same h.0 k.0

pub digit_count_one : One digit_count.Post
digit_count_one κs args r q s t = same

pub has_room_one : One has_room.Post
has_room_one κs args r q s t = same

-- ---- writing
pub write_u32_one : OneText write_u32.Post
write_u32_one κs args r q s t = both

pub write_i32_one : OneText write_i32.Post
write_i32_one κs args r q s t = both

pub write_bytes_one : OneText write_bytes.Post
write_bytes_one κs args r q s t = both

pub write_field_one : OneText write_field.Post
write_field_one κs args r q s t = both

pub write_triple_one : OneText write_triple.Post
write_triple_one κs args r q s t = both

pub keep_one : OneText keep.Post
keep_one κs args r q s t = both

pub write_u64_one : OneText write_u64.Post
write_u64_one κs args r q s t = both

pub write_number_one : OneText write_number.Post
write_number_one κs args r q s t = both

pub write_counted_one : OneText write_counted.Post
write_counted_one κs args r q s t = both

pub write_bad_one : OneText write_bad.Post
write_bad_one κs args r q s t = both
