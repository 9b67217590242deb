-- A colour in whole bytes, as the machine works its digits out and puts them together again, and runs of such bytes. Assumes nothing.
use mathlib.Core.Path.{◌≡◌, refl, sym, ap, ap₂, ◌∙◌, subst}
use mathlib.Core.Bool.{Bool, true, cond}
use mathlib.Core.List.{List, [], ◌∷◌, ◌++◌}
use Prim.Native.Nat.{ℕ, zero, suc, ◌+◌, ◌-◌, ◌*◌, ◌/◌, ◌%◌, ◌^◌, ◌≤◌, ◌<◌}
use native.Mathlib.Nat.{zero-add, le_refl, mod-lt, mod-eq_of_lt, mod-add-mod, div-add-mod', mul-le-mul_right, mul-zero, mul-suc, mul_comm, div-one, div-div-eq-div-mul, mul-lt-mul_of_pos_right, pow-suc}
use native.Mathlib.Omega.{arith}
use lib.Bits.{bit_and, bit_or, and_mask, or_shifted}
use lib.Pow.{pow_pos, pow-add, pow_mono}
use lib.ListN.{length, get_or, take, drop, replicate, length-drop}
use lib.Seq.{length-take-le}
use mir.Syntax.{w32}
use borrow.Author.Tests.{eq-eqb, ne_eqb}
use Rattle.std.specs.Int.{swap_bytes}
use Rattle.std.specs.List.{fold}
use Rattle.layout.specs.Digits.{digit, value, set_run}
use Rattle.layout.specs.Packed.{good_depth, turned, full_byte}
use Rattle.layout.proofs.Cells.{value_cong}
use Rattle.layout.proofs.Places.{large}
use Rattle.layout.proofs.Runs.{run_in, run_cong, run_then, run_part}
use Rattle.layout.proofs.Fields.{pow_mul, value_lt}
use Rattle.packing.specs.Words.{pixel_byte, block_size}

-- a digit is what is left of a shift and a mask
pub digit_is : (j v : ℕ) → bit_and (v / 2 ^ (8 * j)) 255 ≡ digit 256 j v
digit_is zero v = ap (λ (x : ℕ). bit_and (v / 2 ^ x) 255) (mul-zero 8) ∙ ap (λ (x : ℕ). bit_and x 255) (div-one v) ∙ and_mask v 8
digit_is (suc j) v =
    ap (λ (x : ℕ). bit_and x 255)
    (ap (λ (x : ℕ). v / x) (ap (λ (x : ℕ). 2 ^ x) (mul-suc 8 j) ∙ pow-add 2 (8 * j) 8 ∙ mul_comm (2 ^ (8 * j)) (2 ^ 8)) ∙ sym (div-div-eq-div-mul v (2 ^ 8) (2 ^ (8 * j))))
    ∙ digit_is j (v / 2 ^ 8)

-- with the bytes swapped and the last of them shifted out, a number's n digits are the other way round
pub digit_turned : (n k v : ℕ) → n ≤ 4 → k < n → digit 256 k (swap_bytes w32 v / 2 ^ (8 * (4 - n) % 32)) ≡ digit 256 (n - 1 - k) v
digit_turned zero k v l h = absurd (omega arith)
digit_turned (suc zero) zero v l h = omega arith
digit_turned (suc (suc zero)) zero v l h = omega arith
digit_turned (suc (suc zero)) (suc zero) v l h = omega arith
digit_turned (suc (suc (suc zero))) zero v l h = omega arith
digit_turned (suc (suc (suc zero))) (suc zero) v l h = omega arith
digit_turned (suc (suc (suc zero))) (suc (suc zero)) v l h = omega arith
digit_turned (suc (suc (suc (suc zero)))) zero v l h = omega arith
digit_turned (suc (suc (suc (suc zero)))) (suc zero) v l h = omega arith
digit_turned (suc (suc (suc (suc zero)))) (suc (suc zero)) v l h = omega arith
digit_turned (suc (suc (suc (suc zero)))) (suc (suc (suc zero))) v l h = omega arith
digit_turned n k v l h = absurd (omega arith)

-- a byte put below those that were read
abbrev pub below_those : ℕ → ℕ → ℕ
below_those sum byte = bit_or ((sum * 2 ^ 8) % 4294967296) byte

-- bytes read one after another, the highest first, make the number whose digits they are
module _ (n : ℕ) (d : ℕ → ℕ) (small : (m : ℕ) → d m < 256) (few : n ≤ 4) where
  -- the digits behind k are put together; then digit k
  next_digit : (k sum x : ℕ) → suc k ≤ n → sum ≡ value 256 (n - suc k) (λ m. d (suc k + m)) → x ≡ d k → below_those sum x ≡ value 256 (n - k) (λ m. d (k + m))
  next_digit k sum x h es ex =
      ap (λ (y : ℕ). bit_or y x) (mod-eq_of_lt no_wrap)
      ∙ or_shifted sum 8 x (subst (λ (y : ℕ). y < 2 ^ 8) (sym ex) (small k))
      ∙ ap₂ (λ (y z : ℕ). y * 256 + z)
      (es ∙ value_cong 256 (pow_pos 8) (n - suc k) _ _ (λ m q. let e : suc k + m ≡ k + suc m = omega arith in ap d e))
      (let e : k ≡ k + 0 = omega arith in ex ∙ ap d e)
      ∙ (let e : suc (n - suc k) ≡ n - k = omega arith in ap (λ (i : ℕ). value 256 i (λ m. d (k + m))) e)
    where
      no_wrap : sum * 2 ^ 8 < 4294967296
      no_wrap =
          let v : sum < 256 ^ (n - suc k) = subst (λ (y : ℕ). y < 256 ^ (n - suc k)) (sym es) (value_lt 256 (n - suc k) _ (λ m. small (suc k + m))) in
          let w : sum * 2 ^ 8 < 256 ^ (n - suc k) * 256 = mul-lt-mul_of_pos_right v (pow_pos 8) in
          let e : 256 ^ (n - suc k) * 256 ≡ 2 ^ (8 * suc (n - suc k)) = sym (pow-suc 256 (n - suc k)) ∙ pow_mul 8 (suc (n - suc k)) in
          let u : 2 ^ (8 * suc (n - suc k)) ≤ 4294967296 = pow_mono {i = 8 * suc (n - suc k)} {j = 32} (omega arith) in
          omega arith

  read_on : (k sum : ℕ) (xs : List ℕ) → k ≤ n → length xs ≡ k → ((j : ℕ) → j < k → get_or xs j 0 ≡ d (k - 1 - j))
      → sum ≡ value 256 (n - k) (λ m. d (k + m)) → fold below_those sum xs ≡ value 256 n d
  read_on zero sum [] l e h g =
      let all : n - 0 ≡ n = omega arith in
      g ∙ ap (λ (i : ℕ). value 256 i (λ m. d (0 + m))) all ∙ value_cong 256 (pow_pos 8) n _ _ (λ m q. ap d (zero-add m))
  read_on zero sum (x ∷ xs) l e h g = absurd (omega arith)
  read_on (suc k) sum [] l e h g = absurd (omega arith)
  read_on (suc k) sum (x ∷ xs) l e h g =
      read_on k (below_those sum x) xs (omega arith) (omega arith)
      (λ j q. let i : suc k - 1 - suc j ≡ k - 1 - j = omega arith in h (suc j) (omega arith) ∙ ap d i)
      (next_digit k sum x l g (let i : suc k - 1 - 0 ≡ k = omega arith in h 0 (omega arith) ∙ ap d i))

  pub read_all : (xs : List ℕ) → length xs ≡ n → ((j : ℕ) → j < n → get_or xs j 0 ≡ d (n - 1 - j)) → fold below_those 0 xs ≡ value 256 n d
  read_all xs e h = read_on n 0 xs (le_refl n) e h (let none : 0 ≡ n - n = omega arith in ap (λ (i : ℕ). value 256 i (λ m. d (n + m))) none)

-- ---- runs of bytes
-- as many bytes are lent as lie between the ends
pub lent : (i e : ℕ) (b : List ℕ) → e ≤ length b → length (take (e - i) (drop i b)) ≡ e - i
lent i e b h = length-take-le (e - i) (drop i b) (simp length-drop (omega arith))

-- a run goes on through a part that follows it
pub run_on : (i e : ℕ) (b₀ b s : List ℕ) (g h : ℕ → ℕ) → i ≤ e → e ≤ length b → b ≡ set_run 0 i g b₀
    → s ≡ set_run 0 (length (take (e - i) (drop i b))) h (take (e - i) (drop i b)) → ((j : ℕ) → j < e - i → h j ≡ g (i + j))
    → take i b ++ (s ++ drop (e - i) (drop i b)) ≡ set_run 0 e g b₀
run_on i e b₀ b s g h l m eb es same =
    let n : i + (e - i) ≡ e = omega arith in
    run_part i (e - i) (length (take (e - i) (drop i b))) b (take (e - i) (drop i b)) s h (omega arith) refl (le_refl _) es
    ∙ ap (λ (k : ℕ). set_run i k h b) (lent i e b m)
    ∙ run_cong i (e - i) h (λ j. g (i + j)) b same
    ∙ ap₂ (λ (k : ℕ) (t : List ℕ). set_run k (e - i) (λ j. g (i + j)) t) (sym (zero-add i)) eb
    ∙ run_then 0 i (e - i) g b₀
    ∙ ap (λ (k : ℕ). set_run 0 k g b₀) n

-- before the last of the parts there is room for one
pub room_for : (k n len : ℕ) → k < len / n → k * n + n ≤ len
room_for k n len h =
    let l : (k + 1) * n ≤ len / n * n = mul-le-mul_right n (omega arith) in
    let m = div-add-mod' len n in
    omega arith

-- behind a multiple of n, j steps are j
pub behind : (n i j : ℕ) → i % n ≡ 0 → j < n → (i + j) % n ≡ j
behind n i j z h = sym (mod-add-mod i n j) ∙ ap (λ (k : ℕ). (k + j) % n) z ∙ ap (λ (k : ℕ). k % n) (zero-add j) ∙ mod-eq_of_lt h

-- of blocks of n bytes, through as much of the next as there is room for
pub block_on : (n i e : ℕ) (b₀ b s block : List ℕ) → i % n ≡ 0 → e ≤ i + n → i ≤ e → e ≤ length b → b ≡ set_run 0 i (λ j. get_or block (j % n) 0) b₀
    → s ≡ set_run 0 (length (take (e - i) (drop i b))) (λ j. get_or block j 0) (take (e - i) (drop i b))
    → take i b ++ (s ++ drop (e - i) (drop i b)) ≡ set_run 0 e (λ j. get_or block (j % n) 0) b₀
block_on n i e b₀ b s block z w l m eb es =
    run_on i e b₀ b s (λ j. get_or block (j % n) 0) (λ j. get_or block j 0) l m eb es (λ j h. ap (λ (k : ℕ). get_or block k 0) (sym (behind n i j z (omega arith))))

-- of pixels, through the next
module _ (p i : ℕ) (b : List ℕ) (l : i + p ≤ length b) where
  pub pixel_lent : length (take (i + p - i) (drop i b)) ≡ p
  pixel_lent = let e = lent i (i + p) b l in omega arith

  pub pixel_on_lem : (b₀ s : List ℕ) (big : Bool) (c : ℕ) → i % p ≡ 0 → b ≡ set_run 0 i (pixel_byte p big c) b₀
      → s ≡ (let n = length (take (i + p - i) (drop i b)) in set_run 0 n (λ j. digit 256 (turned big n j) c) (take (i + p - i) (drop i b)))
      → take i b ++ (s ++ drop (i + p - i) (drop i b)) ≡ set_run 0 (i + p) (pixel_byte p big c) b₀
  pixel_on_lem b₀ s big c z eb es =
      run_on i (i + p) b₀ b s (pixel_byte p big c) _ (omega arith) l eb es
      (λ j h. ap₂ (λ (n k : ℕ). digit 256 (turned big n k) c) pixel_lent (sym (behind p i j z (omega arith))))

-- blocks of n bytes that hold whole pixels, again and again, are a run of pixels
pub block_of_pixels : (p : ℕ) (big : Bool) (c n len : ℕ) (block b : List ℕ) → 0 < n → n ≤ 64 → ((j : ℕ) → j % n % p ≡ j % p)
    → block ≡ set_run 0 n (pixel_byte p big c) (replicate 64 0) → set_run 0 len (λ j. get_or block (j % n) 0) b ≡ set_run 0 len (pixel_byte p big c) b
block_of_pixels p big c n len block b h few whole e =
    run_cong 0 len _ _ b
    (λ j k. ap₂ (λ (t : List ℕ) (i : ℕ). get_or t i 0) e (sym (zero-add (j % n)))
    ∙ run_in 0 n (pixel_byte p big c) (replicate 64 0) (j % n) (mod-lt j h) (omega arith)
    ∙ ap (λ (i : ℕ). digit 256 (turned big p i) c) (whole j))

-- the size of a block holds whole ones
pub size_is : (d : ℕ) → d ≡ 24 → 48 ≡ block_size d
size_is d e = sym (ap (λ (t : Bool). cond t 48 64) (eq-eqb d 24 e))

pub size_other : (d : ℕ) → (d ≡ 24 → ⊥) → 64 ≡ block_size d
size_other d h = sym (ap (λ (t : Bool). cond t 48 64) (ne_eqb d 24 h))

pub whole_48 : (p j : ℕ) → 3 ≡ p → j % 48 % p ≡ j % p
whole_48 p j e = subst (λ (p : ℕ). j % 48 % p ≡ j % p) e (omega arith)

pub whole_64 : (p j : ℕ) → 0 < p → p ≤ 4 → (p ≡ 3 → ⊥) → j % 64 % p ≡ j % p
whole_64 zero j k l h = absurd (omega arith)
whole_64 (suc zero) j k l h = omega arith
whole_64 (suc (suc zero)) j k l h = omega arith
whole_64 (suc (suc (suc zero))) j k l h = absurd (h refl)
whole_64 (suc (suc (suc (suc zero)))) j k l h = omega arith
whole_64 (suc (suc (suc (suc (suc p))))) j k l h = absurd (omega arith)

-- pixels of a depth from 8 on
pub run_of_pixels : (d : ℕ) (big : Bool) (c n : ℕ) (b : List ℕ) → good_depth d ≡ true → 8 ≤ d → set_run 0 n (pixel_byte (d / 8) big c) b ≡ set_run 0 n (full_byte d big c) b
unfolding full_byte
run_of_pixels d big c n b g h =
    let l = large d g h in
    run_cong 0 n _ _ b
    (λ j k. sym ((λ z. value (2 ^ (l.0 z)) (l.1 z) (λ i. digit (2 ^ (l.0 z)) (turned big (l.2 z) (j % (l.2 z))) c)) ∙ omega arith))
