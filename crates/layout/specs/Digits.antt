-- Numbers by their digits, and a digit of a byte of a buffer as the place where a pixel, or a part of one, is kept.
-- At base 2 ^ n digit j of a byte is its field of n bits that starts at bit n * j.
use Rattle.std.specs.Prelude.{List, ℕ, zero, suc, ◌+◌, ◌*◌, ◌/◌, ◌%◌, get_or, set}

-- digit j of v at the base B, the lowest being digit 0
abbrev pub digit : ℕ → ℕ → ℕ → ℕ
digit B zero v = v % B
digit B (suc j) v = digit B j (v / B)

-- v with its digit j replaced by u's lowest digit, the others kept
abbrev pub replaced : ℕ → ℕ → ℕ → ℕ → ℕ
replaced B zero u v = v / B * B + u % B
replaced B (suc j) u v = replaced B j u (v / B) * B + v % B

-- the number whose digits are d 0, d 1, .., d (n - 1)
abbrev pub value : ℕ → ℕ → (ℕ → ℕ) → ℕ
value B zero d = 0
value B (suc n) d = value B n (λ k. d (suc k)) * B + d 0

-- digit j of byte i
abbrev pub cell : ℕ → ℕ → ℕ → List ℕ → ℕ
cell B i j b = digit B j (get_or b i 0)

abbrev pub set_cell : ℕ → ℕ → ℕ → ℕ → List ℕ → List ℕ
set_cell B i j u b = set b i (replaced B j u (get_or b i 0))

-- a pixel: digit k of its colour is kept at digit `slot k` of byte `byte k`
module _ (B : ℕ) (byte slot : ℕ → ℕ) where
  -- the lowest n digits of the colour v are set
  abbrev pub put_digits : ℕ → ℕ → List ℕ → List ℕ
  put_digits zero v b = b
  put_digits (suc k) v b = set_cell B (byte k) (slot k) (digit B k v) (put_digits k v b)

  -- the number that the n digits make
  abbrev pub get_digits : ℕ → List ℕ → ℕ
  get_digits n b = value B n (λ k. cell B (byte k) (slot k) b)

-- bytes `start` to start + n - 1 set to g 0, g 1, .., g (n - 1)
abbrev pub set_run : ℕ → ℕ → (ℕ → ℕ) → List ℕ → List ℕ
set_run start zero g b = b
set_run start (suc k) g b = set (set_run start k g b) (start + k) (g k)
