-- A picture taken over from one frame into another of the same size and depth: its rows are the source's, copied or with each pixel's bytes turned round, and padding and
-- what lies between the rows is what stood there. Assumes nothing.
use mathlib.Core.Path.{◌≡◌, refl, sym, ap, ap₂, subst, ◌∙◌}
use mathlib.Core.Logic.{inr}
use mathlib.Core.Bool.{Bool, true, false, cond}
use mathlib.Core.List.{List, ◌++◌}
use Prim.Native.Nat.{ℕ, suc, ◌+◌, ◌-◌, ◌*◌, ◌/◌, ◌%◌, ◌^◌, ◌≤◌, ◌<◌}
use native.Mathlib.Nat.{div-lt_iff_lt-mul, div-add-mod', mod-lt}
use native.Mathlib.Omega.{arith}
use lib.Arith.{digits_mod}
use lib.Bits.{bit_and, and_le_l}
use lib.Dec.{eqb, ltb}
use lib.ListN.{length, get_or, set, take, drop, length-drop}
use lib.Seq.{get_or-take, get_or-drop, length-take-le}
use borrow.Author.Tests.{lt-ltb, le-ltb, eqb-true, not-true}
use Rattle.whole.proofs.Tests.{and_true}
use Rattle.layout.specs.Digits.{set_run}
use Rattle.layout.specs.Layout.{shown, rendered}
use Rattle.layout.specs.Packed.{Packed, row_bytes, laid}
use Rattle.layout.proofs.Runs.{run_length, run_front, run_out, run_over, run_goes_on, run_cong, run_then, run_bytes, run_is, run_part}
use Rattle.layout.proofs.Bytes.{Bytes}
use Rattle.layout.proofs.Places.{Sound, placing}
use Rattle.layout.proofs.Pictures.{rendered_length}
use Rattle.layout.proofs.Padding.{gap_stays, tail_stays}
use Rattle.packing.specs.Words.{merged}
use Rattle.frames.specs.declared.Frame.{Frame}
use Rattle.frames.specs.Description.{arranged, raster, size}
use Rattle.frames.proofs.Refusals.{spaced, row_room}
use Rattle.netpbm.specs.Words.{Alike, transferred, masked_rows, copied, copied_row, turned_row, is_turned, is_run}
use Rattle.packing.proofs.Bits.{rendered_bytes, source_of, same_source, turned_place, mixed, mixed_cong, cut, full, beside, by_bits}
use Rattle.netpbm.proofs.Formats.{row_pos, has_bits, same_bytes, run_full, same_distance, not_turned}

-- ---- bytes that are lent, and that are copied at once
lent_at : (l : List ℕ) (at m j : ℕ) → j < m → get_or (take m (drop at l)) (0 + j) 0 ≡ get_or l (at + j) 0
lent_at l at m j h =
    let z : 0 + j ≡ j = omega arith in
    ap (λ (i : ℕ). get_or (take m (drop at l)) i 0) z ∙ get_or-take m (drop at l) j 0 h ∙ get_or-drop at l j 0

lent_length : (l : List ℕ) (at n : ℕ) → at + n ≤ length l → length (take (at + n - at) (drop at l)) ≡ n
lent_length l at n h = length-take-le (at + n - at) (drop at l) (rw length-drop (omega arith)) ∙ omega arith

pub copied_front : (n : ℕ) (a b : List ℕ) → n ≤ length a → n ≤ length b → take n a ++ drop n b ≡ copied a 0 0 n b
copied_front n a b la lb =
    run_part 0 n n b (take n b) (take n a) (λ k. get_or a (0 + k) 0) (omega arith) refl (omega (arith, length-take-le n b lb))
    (run_is n _ (take n b) (take n a) (length-take-le n b lb) (length-take-le n a la) (λ j h. get_or-take n a j 0 h ∙ ap (λ (k : ℕ). get_or a k 0) (zero_left j)))
  where
    zero_left : (j : ℕ) → j ≡ 0 + j
    zero_left j = omega arith

-- ---- a row's bytes are some, and end within both buffers
module _ {f g : Frame} {m n : ℕ} (A : Alike f m g n) (y : ℕ) (hy : y < g.height) where
  some_bytes : 0 < row_bytes g.width g.depth
  unfolding row_bytes
  some_bytes = omega (arith, has_bits g A.target)

  pub source_end : y * f.distance + row_bytes g.width g.depth ≤ m
  unfolding row_bytes
  source_end =
      let e = ap₂ (λ (w d : ℕ). (w * d + 7) / 8) A.width A.depth in
      omega (arith, row_room f y (rw A.height hy), e, A.source.described.apart, A.source.room)

  pub target_end : y * g.distance + row_bytes g.width g.depth ≤ n
  target_end = omega (arith, row_room g y hy, A.target.accepted.described.apart, A.target.accepted.room)

-- ---- the picture of f over the bytes a, taken over into g over the bytes b, of which `kept` keeps the bits
pub record Transfer (f : Frame) (a : List ℕ) (g : Frame) (b : List ℕ) : Type 0 where
  pub frames : Alike f (length a) g (length b)
  pub from : Bytes a
  pub to : Bytes b

module _ {f g : Frame} {a b : List ℕ} (K : Transfer f a g b) (kept : ℕ) where
  -- from a row to the next, the bytes of a row, and its bits
  abbrev row : ℕ
  row = g.distance

  abbrev used : ℕ
  used = row_bytes g.width g.depth

  abbrev bits : ℕ
  bits = g.width * g.depth

  abbrev under : List ℕ
  under = masked_rows g kept b

  abbrev all : List ℕ
  all = transferred f a g (masked_rows g kept b)

  sound : Sound (arranged g)
  sound = spaced g K.frames.target.accepted.described

  room : size g ≤ length b
  room = K.frames.target.accepted.room

  -- what stands under byte j of a row, and of the gap behind it
  abbrev under_byte : ℕ → ℕ → ℕ
  under_byte j v = cond (ltb j used) (bit_and v kept) v

  abbrev old : ℕ → ℕ → ℕ
  old y j = under_byte j (get_or b (y * row + j) 0)

  below : (j i : ℕ) → under_byte j (get_or b i 0) < 256
  below j i = go (ltb j used)
    where
      go : (t : Bool) → cond t (bit_and (get_or b i 0) kept) (get_or b i 0) < 256
      go true = let h = K.to i in let l = and_le_l (get_or b i 0) kept in omega arith
      go false = K.to i

  under_bytes : Bytes under
  under_bytes = run_bytes 0 (size g) _ b K.to (λ i. below (i % row) i)

  under_at : (y j : ℕ) → y < g.height → j < row → get_or under (y * row + j) 0 ≡ old y j
  under_at y j hy hj =
      let i = y * row + j in
      run_front (size g) _ b i (omega (arith, row_room g y hy, hj)) room ∙ ap (λ (k : ℕ). under_byte k (get_or b i 0)) (digits_mod y hj)

  all_bytes : Bytes all
  all_bytes = rendered_bytes (arranged g) sound _ under under_bytes

  -- it differs from b in the frame's bytes alone
  all_is : set_run 0 (size g) (λ i. get_or all i 0) b ≡ all
  unfolding size
  all_is =
      run_over (size g) b all room (rendered_length (raster g) (placing (arranged g) sound) _ under ∙ run_length 0 (size g) _ b)
      (λ j h. tail_stays (arranged g) sound j h (shown (raster f) a) under ∙ run_out 0 (size g) _ b j (inr (omega arith)))

  -- ---- byte j of row y, or of the gap behind it: the bits of the source's pixels, and those that stood there
  abbrev source_byte : ℕ → ℕ → ℕ → ℕ
  source_byte y j t = get_or a (y * f.distance + source_of g.depth f.big g.big j t) 0

  byte_is : (y j : ℕ) → y < g.height → j < row → get_or all (y * row + j) 0 ≡ mixed bits j (source_byte y j) (old y j)
  unfolding size
  byte_is y j hy hj =
      ap (λ (s : Packed). get_or (rendered (raster g) (shown (laid s) a) under) (y * row + j) 0) like
      ∙ by_bits (arranged g) sound f.distance f.big (subst Sound like (spaced f K.frames.source.described)) a under
      (subst (λ (n : ℕ). size g ≤ n) (sym (run_length 0 (size g) _ b)) room) y j hy hj under_bytes
      ∙ ap (mixed bits j (source_byte y j)) (under_at y j hy hj)
    where
      like : arranged f ≡ beside (arranged g) f.distance f.big
      like = λ i. record { width = K.frames.width i; height = K.frames.height i; depth = K.frames.depth i; distance = f.distance; big = f.big }

  gap_is : (y j : ℕ) → y < g.height → used ≤ j → j < row → get_or all (y * row + j) 0 ≡ get_or b (y * row + j) 0
  gap_is y j hy hr hj =
      gap_stays (arranged g) sound y j hr hj (shown (raster f) a) under
      ∙ under_at y j hy hj ∙ ap (λ (t : Bool). cond t (bit_and (get_or b (y * row + j) 0) kept) (get_or b (y * row + j) 0)) (le-ltb j used hr)

  -- row y taken over, and with it the gap as it was
  abbrev row_done : ℕ → List ℕ
  row_done y = set_run (y * row) row (λ k. get_or all (y * row + k) 0) b

  row_and_gap : (y : ℕ) → y < g.height → set_run (y * row) used (λ k. get_or all (y * row + k) 0) b ≡ row_done y
  row_and_gap y hy =
      let e : used + (row - used) ≡ row = omega (arith, sound.apart) in
      sym (run_goes_on (y * row) used (row - used) _ b (λ j l m. gap_is y j hy l (omega arith))) ∙ ap (λ (k : ℕ). set_run (y * row) k (λ k. get_or all (y * row + k) 0) b) e

  -- ---- row y as it is lent of both buffers, and what other bytes in its place make of b
  abbrev source_row : ℕ → List ℕ
  source_row y = take (y * f.distance + used - y * f.distance) (drop (y * f.distance) a)

  abbrev target_row : ℕ → List ℕ
  target_row y = take (y * row + used - y * row) (drop (y * row) b)

  abbrev put_back : ℕ → List ℕ → List ℕ
  put_back y t = take (y * row) b ++ (t ++ drop (y * row + used - y * row) (drop (y * row) b))

  target_long : (y : ℕ) → y < g.height → length (target_row y) ≡ used
  target_long y hy = lent_length b (y * row) used (target_end K.frames y hy)

  pub both_long : (y : ℕ) → y < g.height → length (source_row y) ≡ length (target_row y)
  both_long y hy = lent_length a (y * f.distance) used (source_end K.frames y hy) ∙ sym (target_long y hy)

  pub some_long : (y : ℕ) → y < g.height → 0 < length (target_row y)
  some_long y hy = omega (arith, target_long y hy, some_bytes K.frames y hy)

  row_put : (y : ℕ) → y < g.height → {t : List ℕ} → t ≡ set_run 0 used (λ j. get_or all (y * row + j) 0) (target_row y) → put_back y t ≡ row_done y
  row_put y hy e =
      run_part (y * row) (y * row + used - y * row) used b (target_row y) _ _ (omega (arith, target_end K.frames y hy)) refl (omega (arith, target_long y hy)) e
      ∙ row_and_gap y hy

  -- ---- where both keep a pixel in the same bytes of a row
  module _ (T : is_turned f g ≡ false) where
    byte_copied : (y j : ℕ) → y < g.height → j < row → get_or all (y * row + j) 0 ≡ mixed bits j (λ t. get_or a (y * f.distance + j) 0) (old y j)
    byte_copied y j hy hj =
        byte_is y j hy hj
        ∙ mixed_cong bits j _ _ (old y j)
        (λ t h. ap (λ (k : ℕ). get_or a (y * f.distance + k) 0) (same_source g.depth f.big g.big sound.depth (same_bytes g K.frames.target f T) j t h))

    pub row_copied : (y : ℕ) → y < g.height → {t : List ℕ}
        → t ≡ copied_row (source_row y) 0 0 (length (target_row y) - 1) ((255 * 2 ^ ((bits + 7) / 8 * 8 - bits)) % 256) kept (target_row y) → put_back y t ≡ row_done y
    unfolding row_bytes
    row_copied y hy e =
        let at = y * f.distance in
        let start = y * row in
        let s = source_row y in
        let t = target_row y in
        let n = length t - 1 in
        let p = (bits + 7) / 8 * 8 - bits in
        let apart = sound.apart in
        let some = some_long y hy in
        let long = target_long y hy in
        let whole : (j : ℕ) → j < n → get_or s (0 + j) 0 ≡ get_or all (start + j) 0 =
        λ j h. lent_at a at (at + used - at) j (omega arith)
        ∙ sym (byte_copied y j hy (omega arith) ∙ full bits j (get_or a (at + j) 0) (old y j) (omega arith) (K.from (at + j))) in
        let v = get_or b (start + n) 0 in
        let in_row : old y n ≡ bit_and v kept = ap (λ (t : Bool). cond t (bit_and v kept) v) (lt-ltb n used (omega arith)) in
        let last : merged (bit_and (get_or t (0 + n) 0) kept) (get_or s (0 + n) 0) ((255 * 2 ^ p) % 256) ≡ get_or all (start + n) 0 =
        ap₂ (λ (v u : ℕ). merged (bit_and v kept) u ((255 * 2 ^ p) % 256)) (lent_at b start (start + used - start) n (omega arith)) (lent_at a at (at + used - at) n (omega arith))
        ∙ sym (byte_copied y n hy (omega arith)
        ∙ cut bits n p (get_or a (at + n) 0) (old y n) (omega arith) (omega arith) (K.from (at + n)) (below n (start + n))
        ∙ ap (λ (v : ℕ). merged v (get_or a (at + n) 0) ((255 * 2 ^ p) % 256)) in_row) in
        let ends : suc n ≡ used = omega arith in
        row_put y hy (e ∙ ap₂ (λ (c : List ℕ) (v : ℕ). set c (0 + n) v) (run_cong 0 n _ _ t whole) last
        ∙ ap (λ (k : ℕ). set_run 0 k (λ j. get_or all (start + j) 0) t) ends)

    -- rows without padding or a gap: all bytes are the source's
    module _ (N : bits ≡ 8 * row) (E : f.distance ≡ row) where
      byte_kept : (i : ℕ) → i < size g → get_or all i 0 ≡ get_or a i 0
      unfolding size
      byte_kept i h =
          let y = i / row in
          let j = i % row in
          let at = y * f.distance in
          let e : y * row + j ≡ i = div-add-mod' i row in
          let p : 0 < row = row_pos g h in
          let hy : y < g.height = (div-lt_iff_lt-mul p).1 (omega arith) in
          ap (λ (k : ℕ). get_or all k 0) (sym e)
          ∙ byte_copied y j hy (mod-lt i p)
          ∙ full bits j (get_or a (at + j) 0) (old y j) (omega (arith, N, mod-lt i p)) (K.from (at + j))
          ∙ ap (λ (n : ℕ). get_or a (y * n + j) 0) E ∙ ap (λ (k : ℕ). get_or a k 0) e

      bytes_copied : copied a 0 0 (size g) b ≡ all
      bytes_copied =
          let z : (j : ℕ) → 0 + j ≡ j = λ j. omega arith in
          run_cong 0 (size g) _ _ b (λ j h. ap (λ (k : ℕ). get_or a k 0) (z j) ∙ sym (byte_kept j h)) ∙ all_is

  pub run_copied : is_run f g ≡ true → copied a 0 0 (size g) b ≡ all
  run_copied t = bytes_copied (not_turned f g t) (run_full f g t) (same_distance f g t)

  -- ---- three bytes, in the other order
  pub row_turned : is_turned f g ≡ true → (y : ℕ) → y < g.height → {t : List ℕ}
      → t ≡ turned_row (source_row y) 0 0 (length (target_row y) / 3) (target_row y) → put_back y t ≡ row_done y
  unfolding row_bytes
  row_turned t y hy r =
      let T = and_true (eqb g.depth 24) _ t in
      let e = eqb-true g.depth 24 T.0 in
      let at = y * f.distance in
      let n = length (target_row y) / 3 in
      let apart = sound.apart in
      let wide : bits ≡ g.width * 24 = ap (λ (k : ℕ). g.width * k) e in
      let ends : n * 3 ≡ used = omega (arith, target_long y hy) in
      let place : (j t : ℕ) → t < 8 → at + source_of g.depth f.big g.big j t ≡ at + (j / 3 * 3 + (2 - j % 3)) =
      λ j t h. let z = turned_place g.depth f.big g.big e (not-true _ T.1) j t h in omega arith in
      let within : (j : ℕ) → j < n * 3 → get_or (source_row y) (0 + j / 3 * 3 + (2 - j % 3)) 0 ≡ get_or a (at + (j / 3 * 3 + (2 - j % 3))) 0 =
      λ j h. let z : 0 + j / 3 * 3 + (2 - j % 3) ≡ 0 + (j / 3 * 3 + (2 - j % 3)) = omega arith in
      ap (λ (i : ℕ). get_or (source_row y) i 0) z ∙ lent_at a at (at + used - at) (j / 3 * 3 + (2 - j % 3)) (omega arith) in
      row_put y hy (r ∙ run_cong 0 (n * 3) _ _ _
      (λ j h. within j h
      ∙ sym (byte_is y j hy (omega arith)
      ∙ mixed_cong bits j _ _ (old y j) (λ t ht. ap (λ (k : ℕ). get_or a k 0) (place j t ht))
      ∙ full bits j (get_or a (at + (j / 3 * 3 + (2 - j % 3))) 0) (old y j) (omega arith) (K.from (at + (j / 3 * 3 + (2 - j % 3))))))
      ∙ ap (λ (i : ℕ). set_run 0 i (λ j. get_or all (y * row + j) 0) (target_row y)) ends)

-- ---- row after row
-- the first y rows
abbrev pub rows : Frame → List ℕ → Frame → ℕ → List ℕ → ℕ → List ℕ
rows f a g kept b y = set_run 0 (y * g.distance) (λ i. get_or (transferred f a g (masked_rows g kept b)) i 0) b

module _ {f g : Frame} {a b : List ℕ} (K : Transfer f a g b) (kept : ℕ) where
  abbrev distance : ℕ
  distance = g.distance

  abbrev left : List ℕ → List ℕ
  left c = transferred f a g (masked_rows g kept c)

  pub no_row : b ≡ rows f a g kept b 0
  no_row = let z : 0 ≡ 0 * distance = omega arith in ap (λ (k : ℕ). set_run 0 k (λ i. get_or (left b) i 0) b) z

  pub one_row : (y : ℕ) → y < g.height → {c : List ℕ} → c ≡ rows f a g kept b y
      → set_run (y * distance) distance (λ k. get_or (left c) (y * distance + k) 0) c ≡ rows f a g kept b (y + 1)
  one_row y hy {c} e =
      let z : y * distance ≡ 0 + y * distance = omega arith in
      let n : y * distance + distance ≡ (y + 1) * distance = omega arith in
      run_cong (y * distance) distance _ _ c same
      ∙ (λ i. set_run (z i) distance (λ k. get_or (left b) (y * distance + k) 0) (e i))
      ∙ run_then 0 (y * distance) distance (λ i. get_or (left b) i 0) b ∙ ap (λ (k : ℕ). set_run 0 k (λ i. get_or (left b) i 0) b) n
    where
      onward : Transfer f a g c
      onward =
          record {
            frames = subst (λ (n : ℕ). Alike f (length a) g n) (sym (ap length e ∙ run_length 0 (y * distance) _ b)) K.frames;
            from = K.from;
            to = subst Bytes (sym e) (run_bytes 0 (y * distance) _ b K.to (all_bytes K kept));
          }

      -- a row depends on no byte of another
      same : (j : ℕ) → j < distance → get_or (left c) (y * distance + j) 0 ≡ get_or (left b) (y * distance + j) 0
      same j hj =
          byte_is onward kept y j hy hj
          ∙ ap (λ (v : ℕ). mixed (g.width * g.depth) j (source_byte K kept y j) (under_byte K kept j v))
          (ap (λ (c : List ℕ). get_or c (y * distance + j) 0) e ∙ run_out 0 (y * distance) _ b (y * distance + j) (inr (omega arith)))
          ∙ sym (byte_is K kept y j hy hj)

  pub all_rows : rows f a g kept b g.height ≡ left b
  unfolding size
  all_rows = let n : g.height * distance ≡ size g = omega arith in ap (λ (k : ℕ). set_run 0 k (λ i. get_or (left b) i 0) b) n ∙ all_is K kept
