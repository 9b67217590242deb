-- WHAT A READ LEAVES (02, T-06): every pixel is the file's, padding, gaps and tail stay, and bytes behind a file that is taken, or that has another size, change nothing. Which
-- number a file is given, and when. Assumes nothing.
use mathlib.Core.Path.{◌≡◌, refl, sym, ap, subst, ◌∙◌}
use mathlib.Core.Bool.{Bool, true, false, cond, not, ◌&&◌, true≢false}
use mathlib.Core.Logic.{◌↔◌}
use mathlib.Core.List.{List, ◌++◌}
use Prim.Native.Nat.{ℕ, ◌+◌, ◌-◌, ◌*◌, ◌^◌, ◌≤◌, ◌<◌}
use native.Mathlib.Omega.{arith}
use lib.Dec.{eqb}
use lib.ListN.{length, drop, get_or, length-append, length-drop, get_or-append}
use lib.Pow.{pow_pos}
use borrow.Author.Tests.{eq-eqb, eqb-true, ltb-true, not-false}
use Rattle.std.specs.Prelude.{Option, Some, None, is_some}
use Rattle.whole.proofs.Tests.{and_true, true_and}
use Rattle.refusals.specs.First.{first}
use Rattle.refusals.proofs.First.{exactly_0}
use Rattle.headers.specs.declared.Header.{Header}
use Rattle.headers.specs.Header.{headed, header_of, header_said}
use Rattle.headers.specs.Grammar.{WellFormed}
use Rattle.headers.proofs.Forms.{header_is, header_found, said_header, header_grows}
use lib.Seq.{drop-append-le}
use Rattle.layout.specs.Digits.{digit}
use Rattle.layout.specs.Layout.{shown, rendered}
use Rattle.layout.specs.Packed.{Packed, laid, field, parts, byte_of, slot_of}
use Rattle.layout.proofs.Cells.{value_cong}
use Rattle.layout.proofs.Places.{Sound, place_in}
use Rattle.layout.proofs.Pictures.{rendered_cong, shown_rendered, shown_colour}
use Rattle.layout.proofs.Padding.{padding_stays, tail_stays}
use Rattle.frames.specs.declared.Frame.{Frame}
use Rattle.frames.specs.Description.{arranged, raster, size, no_depth, too_large, no_distance, too_short, description_tests, frame_tests}
use Rattle.frames.proofs.Refusals.{spaced, sound, is_accepted}
use Rattle.netpbm.specs.Image.{big_first}
use Rattle.netpbm.specs.Written.{no_format, Writable}
use Rattle.netpbm.specs.Reading.{other_size, few_pixels, file_tests, load_tests, file_picture, loaded}
use Rattle.netpbm.proofs.Transfers.{big_described}
use Rattle.netpbm.proofs.Answers.{frame_passes}
use Rattle.netpbm.proofs.Loads.{is_readable, both_passed, by_file, no_header, other_size_lem, by_pixels, too_few, enough_pixels, accepted_loaded}

-- ---- an accepted read
abbrev pub accepts : Frame → ℕ → List ℕ → Type 0
accepts f len s = first (load_tests f len s) ≡ 0

-- what it leaves
pub loaded_bytes : (f : Frame) (s b : List ℕ) → accepts f (length b) s → (loaded f s b).1 ≡ rendered (raster f) (file_picture f s) b
loaded_bytes f s b z = ap (λ (p : ℕ × List ℕ). p.1) (sym (accepted_loaded f s b refl z refl))

-- "an accepted read .. setting every pixel", and nothing else: the file's pixels, every bit from a row's last pixel to the next row, and the bytes behind the frame
pub record Sets (f : Frame) (s b after : List ℕ) : Type 0 where
  pub pixels : (x y : ℕ) → x < f.width → y < f.height → shown (raster f) after x y ≡ file_picture f s x y
  pub padding : (y j t : ℕ) → j < f.distance → t < 8 → f.width * f.depth ≤ 8 * j + (7 - t)
      → digit 2 t (get_or after (y * f.distance + j) 0) ≡ digit 2 t (get_or b (y * f.distance + j) 0)
  pub tail : (i : ℕ) → size f ≤ i → get_or after i 0 ≡ get_or b i 0

pub reading_sets_exactly_the_pixels : (f : Frame) (s b : List ℕ) → accepts f (length b) s → Sets f s b (loaded f s b).1
unfolding size
reading_sets_exactly_the_pixels f s b z =
    let A = is_accepted f (length b) (both_passed f (length b) s z).0 in
    let D = A.described in
    let S = spaced f D in
    subst (Sets f s b) (sym (loaded_bytes f s b z))
    (record {
      pixels = λ x y hx hy. shown_rendered (raster f) (sound f D) (file_picture f s) b A.room x y hx hy
          (shown_colour (raster (big_first f)) (sound (big_first f) (big_described f D)) (drop (header_said f.depth s).start s) x y);
      padding = λ y j t hj ht past. padding_stays (arranged f) S y j t hj ht past (file_picture f s) b;
      tail = λ i h. tail_stays (arranged f) S i h (file_picture f s) b;
    })

-- ---- WHICH NUMBER (02, T-06), for every list of bytes: 11, 13, 12 and 0 by what the file says, in the form of 02's grammar
-- a file with a header that says what P holds of: its sides, and where the pixels start
pub record Says (d : ℕ) (s : List ℕ) (P : ℕ → ℕ → ℕ → Type 0) : Type 0 where
  pub width : ℕ
  pub height : ℕ
  pub start : ℕ
  pub formed : WellFormed d s width height start
  pub is : P width height start

abbrev own : Frame → ℕ → ℕ → Type 0
own f w h = (w ≡ f.width) × (h ≡ f.height)

-- no header
abbrev pub Unformed : Frame → List ℕ → Type 0
Unformed f s = (w h n : ℕ) → WellFormed f.depth s w h n → ⊥

-- another size
abbrev pub OtherSize : Frame → List ℕ → Type 0
OtherSize f s = Says f.depth s (λ w h n. own f w h → ⊥)

-- the frame's size, and too few bytes behind the header
abbrev pub TooFew : Frame → List ℕ → Type 0
TooFew f s = Says f.depth s (λ w h n. own f w h × (length s < n + size (big_first f)))

-- or enough
abbrev pub Complete : Frame → List ℕ → Type 0
Complete f s = Says f.depth s (λ w h n. own f w h × (n + size (big_first f) ≤ length s))

-- 11, 12 and 13 are the numbers of no test before the header
late : (a b c d e : Bool) (r k : ℕ) → 10 < k → k < 14 → cond a 1 (cond b 2 (cond c 14 (cond d 3 (cond e 10 r)))) ≡ k
    → (a ≡ false) × (b ≡ false) × (c ≡ false) × (d ≡ false) × (e ≡ false) × (r ≡ k)
late true b c d e r k h l i = absurd (let z : 1 ≡ k = i in omega arith)
late false true c d e r k h l i = absurd (let z : 2 ≡ k = i in omega arith)
late false false true d e r k h l i = absurd (let z : 14 ≡ k = i in omega arith)
late false false false true e r k h l i = absurd (let z : 3 ≡ k = i in omega arith)
late false false false false true r k h l i = absurd (let z : 10 ≡ k = i in omega arith)
late false false false false false r k h l i = (refl, refl, refl, refl, refl, i)

-- the three behind it
abbrev three : Bool → Bool → Bool → ℕ
three ok other few = cond (not ok) 11 (cond other 13 (cond few 12 0))

is_11 : (ok other few : Bool) → three ok other few ≡ 11 → ok ≡ false
is_11 false other few e = refl
is_11 true true few e = absurd (let z : 13 ≡ 11 = e in omega arith)
is_11 true false true e = absurd (let z : 12 ≡ 11 = e in omega arith)
is_11 true false false e = absurd (let z : 0 ≡ 11 = e in omega arith)

is_13 : (ok other few : Bool) → three ok other few ≡ 13 → (ok ≡ true) × (other ≡ true)
is_13 false other few e = absurd (let z : 11 ≡ 13 = e in omega arith)
is_13 true true few e = (refl, refl)
is_13 true false true e = absurd (let z : 12 ≡ 13 = e in omega arith)
is_13 true false false e = absurd (let z : 0 ≡ 13 = e in omega arith)

is_12 : (ok other few : Bool) → three ok other few ≡ 12 → (ok ≡ true) × (other ≡ false) × (few ≡ true)
is_12 false other few e = absurd (let z : 11 ≡ 12 = e in omega arith)
is_12 true true few e = absurd (let z : 13 ≡ 12 = e in omega arith)
is_12 true false true e = (refl, refl, refl)
is_12 true false false e = absurd (let z : 0 ≡ 12 = e in omega arith)

module _ (f : Frame) (len : ℕ) (s : List ℕ) where
  abbrev head : Header
  head = header_said f.depth s

  abbrev ok : Bool
  ok = is_some (header_of f.depth s)

  abbrev other : Bool
  other = other_size f head

  abbrev few : Bool
  few = few_pixels f (length s) head

  abbrev number : ℕ
  number = first (load_tests f len s)

  -- the tests of the header decide where the frame is accepted and has a format, and nowhere else
  by_head : (k : ℕ) → 10 < k → k < 14 → number ≡ k → Writable f len × (three ok other few ≡ k)
  unfolding description_tests frame_tests file_tests load_tests
  by_head k h l e =
      let p = late (no_depth f) (too_large f) (no_distance f) (too_short f len) (no_format f) (three ok other few) k h l e in
      (record { accepted = is_accepted f len ((exactly_0 (frame_tests f len) refl).1 (p.0, (p.1, (p.2, (p.3, tt))))); format = p.4 }, p.5)

  answered : Writable f len → {k : ℕ} → k ≡ first (file_tests f s) → number ≡ k
  answered W e = sym (by_file f len s refl (frame_passes f len W.accepted) e)

  -- what a header says is what the file is made of
  formed : ok ≡ true → WellFormed f.depth s head.width head.height head.start
  formed h = (header_is f.depth s head.width head.height head.start).0 (header_found f.depth s h)

  read : {w h n : ℕ} → WellFormed f.depth s w h n → header_of f.depth s ≡ Some (headed w h n)
  read {w} {h} {n} W = (header_is f.depth s w h n).1 W

  equal_size : (w h : ℕ) → own f w h → (eqb w f.width && eqb h f.height) ≡ true
  equal_size w h e = true_and (eq-eqb w f.width e.0) (eq-eqb h f.height e.1)

  is_own : (w h : ℕ) → not (eqb w f.width && eqb h f.height) ≡ false → own f w h
  is_own w h t = let p = and_true (eqb w f.width) _ (not-false _ t) in (eqb-true _ _ p.0, eqb-true _ _ p.1)

  not_own : (w h : ℕ) → (own f w h → ⊥) → not (eqb w f.width && eqb h f.height) ≡ true
  not_own w h n = go (eqb w f.width && eqb h f.height) refl
    where
      go : (t : Bool) → (eqb w f.width && eqb h f.height) ≡ t → not t ≡ true
      go true e = absurd (n (is_own w h (ap not e)))
      go false e = refl

  -- "11 for a bad header"
  pub eleven : (number ≡ 11) ↔ (Writable f len × Unformed f s)
  eleven = (
    λ e. let p = by_head 11 (omega arith) (omega arith) e in (p.0, λ w h n W. true≢false (sym (ap is_some (read W)) ∙ is_11 ok other few p.1)),
    λ p. answered p.0 (no_header f s p.0.format (none (header_of f.depth s) refl p.1)),
  )
    where
      none : (o : Option Header) → header_of f.depth s ≡ o → Unformed f s → o ≡ None
      none None e u = refl
      none (Some h) e u = absurd (u h.width h.height h.start ((header_is f.depth s h.width h.height h.start).0 e))

  -- "13 for another size"
  pub thirteen : (number ≡ 13) ↔ (Writable f len × OtherSize f s)
  thirteen = (
    λ e. let p = by_head 13 (omega arith) (omega arith) e in let q = is_13 ok other few p.1 in
        (p.0, record { width = head.width; height = head.height; start = head.start; formed = formed q.0; is = λ o. true≢false (sym q.1 ∙ ap not (equal_size _ _ o)) }),
    λ p. let S = p.1 in answered p.0 (other_size_lem f s p.0.format (read S.formed) (not_own S.width S.height S.is)),
  )

  -- "12 for too few pixel bytes"
  pub twelve : (number ≡ 12) ↔ (Writable f len × TooFew f s)
  twelve = (
    λ e. let p = by_head 12 (omega arith) (omega arith) e in let q = is_12 ok other few p.1 in
        (p.0, record { width = head.width; height = head.height; start = head.start; formed = formed q.0; is = (is_own _ _ q.1, ltb-true _ _ q.2) }),
    λ p. let S = p.1 in answered p.0 (by_pixels f s p.0.format (read S.formed) (ap not (equal_size S.width S.height S.is.0)) (too_few f (length s) (headed S.width S.height S.start) S.is.1)),
  )

  -- and none
  pub accepted_exactly : (number ≡ 0) ↔ (Writable f len × Complete f s)
  accepted_exactly = (
    λ e. let p = both_passed f len s e in let R = is_readable f s p.1 in (
      record { accepted = is_accepted f len p.0; format = R.format },
      record { width = head.width; height = head.height; start = head.start; formed = formed R.ok; is = ((R.width, R.height), R.room) },
    ),
    λ p. let S = p.1 in answered p.0 (by_pixels f s p.0.format (read S.formed) (ap not (equal_size S.width S.height S.is.0)) (enough_pixels f (length s) (headed S.width S.height S.start) S.is.1)),
  )

-- ---- BYTES BEHIND A FILE (02, T-06: "bytes after the pixels ignored")
-- a header with bytes behind it
longer : (f : Frame) (s t : List ℕ) {w h n : ℕ} → WellFormed f.depth s w h n → WellFormed f.depth (s ++ t) w h n
longer f s t {w} {h} {n} W =
    (header_is f.depth (s ++ t) w h n).0 (header_grows f.depth s ((header_is f.depth s w h n).1 W) t)

-- a file that says another size is answered 13 whatever follows
pub thirteen_stays : (f : Frame) (len : ℕ) (s t : List ℕ) → first (load_tests f len s) ≡ 13 → first (load_tests f len (s ++ t)) ≡ 13
thirteen_stays f len s t e =
    let p = (thirteen f len s).0 e in
    let S = p.1 in
    (thirteen f len (s ++ t)).1 (p.0, record { width = S.width; height = S.height; start = S.start; formed = longer f s t S.formed; is = S.is })

-- what stands behind a frame's bytes is not shown
pub shown_append : (r : Packed) → Sound r → (b t : List ℕ) → r.distance * r.height ≤ length b → (x y : ℕ) → x < r.width → y < r.height
    → shown (laid r) (b ++ t) x y ≡ shown (laid r) b x y
shown_append r S b t o x y hx hy =
    value_cong (2 ^ field r.depth) (pow_pos (field r.depth)) (parts r.depth) _ _
    (λ k hk. ap (digit (2 ^ field r.depth) (slot_of r.depth x)) (get_or-append b t 0 (byte_of r x y k) (within (place_in r S x y k hx hy hk))))
  where
    within : {z : ℕ} → z < r.distance * r.height → z < length b
    within h = omega arith

-- an accepted file is accepted whatever follows, and leaves the same
pub more_behind : (f : Frame) (s t b : List ℕ) → accepts f (length b) s → loaded f (s ++ t) b ≡ loaded f s b
unfolding size
more_behind f s t b z =
    let p = (accepted_exactly f (length b) s).0 z in
    let D = p.0.accepted.described in
    let S = p.1 in
    let R = is_readable f s (both_passed f (length b) s z).1 in
    let d = f.depth in
    let start = (header_said d s).start in
    let l = length-append s t in
    let z' = (accepted_exactly f (length b) (s ++ t)).1
    (p.0, record { width = S.width; height = S.height; start = S.start; formed = longer f s t S.formed; is = (S.is.0, omega (arith, S.is.1, l)) }) in
    let e : drop (header_said d (s ++ t)).start (s ++ t) ≡ drop start s ++ t =
    ap (λ (H : Header). drop H.start (s ++ t)) (said_header d (s ++ t) (header_grows d s (header_found d s R.ok) t)) ∙ drop-append-le start s t (omega (arith, R.room)) in
    sym (accepted_loaded f (s ++ t) b (sym z') refl
    (sym (rendered_cong (raster f) (sound f D) (file_picture f (s ++ t)) (file_picture f s) b
    (λ x y hx hy. ap (λ (u : List ℕ). shown (raster (big_first f)) u x y) e
    ∙ shown_append (arranged (big_first f)) (spaced (big_first f) (big_described f D)) (drop start s) t (omega (arith, R.room, length-drop start s)) x y hx hy))))
    ∙ accepted_loaded f s b (sym z) refl refl
