-- The header of an image file, straight from 02: as it is written, T-01, and as it is read, T-06. P is 80, `0` to `9` are 48 to 57, a space is 32, tab 9, CR 13, LF 10.
use Rattle.std.specs.Prelude.{◌≡◌, List, [], ◌∷◌, ◌++◌, ◌⊎◌, ℕ, ◌+◌, ◌*◌, ◌-◌, ◌^◌, ◌≤◌, ◌<◌, length, get_or}

pub data Each (P : ℕ → Type 0) : List ℕ → Type 0 where
  none : Each P []
  more : {b : ℕ} {s : List ℕ} → P b → Each P s → Each P (b ∷ s)

-- ---- numbers
abbrev pub Digit : ℕ → Type 0
Digit b = (48 ≤ b) × (b ≤ 57)

-- what digits mean, the first counting most
abbrev pub meaning : List ℕ → ℕ
meaning [] = 0
meaning (b ∷ s) = (b - 48) * 10 ^ length s + meaning s

-- a number as it is written: digits that mean it, and no leading zero
pub record Decimal (n : ℕ) (s : List ℕ) : Type 0 where
  pub digits : Each Digit s
  pub means : meaning s ≡ n
  pub some : 1 ≤ length s
  pub plain : 1 < length s → get_or s 0 0 ≡ 48 → ⊥

-- ---- T-01: "depth 1 as P4, depth 8 as P5 with maximum 255, depth 24 as P6"; "for P5 and P6 `255`, LF"
pub data Kind : ℕ → ℕ → List ℕ → Type 0 where
  p4 : Kind 1 52 []
  p5 : Kind 8 53 (50 ∷ 53 ∷ 53 ∷ 10 ∷ [])
  p6 : Kind 24 54 (50 ∷ 53 ∷ 53 ∷ 10 ∷ [])

-- "The header is magic, LF, width, space, height, LF", and the maximum
pub record HeaderText (depth w h : ℕ) (text : List ℕ) : Type 0 where
  pub letter : ℕ
  pub width : List ℕ
  pub height : List ℕ
  pub maximum : List ℕ
  pub kind : Kind depth letter maximum
  pub wide : Decimal w width
  pub high : Decimal h height
  pub bytes : text ≡ 80 ∷ letter ∷ 10 ∷ (width ++ (32 ∷ (height ++ (10 ∷ maximum))))

-- ---- T-06
-- "space, tab, CR, LF"
abbrev pub White : ℕ → Type 0
White b = (b ≡ 32) ⊎ ((b ≡ 9) ⊎ ((b ≡ 13) ⊎ (b ≡ 10)))

-- a field, "parted by one or more of" these from what stands before it; no "field with no digit, with another byte or with over four digits"
pub record Field (v : ℕ) (b : List ℕ) : Type 0 where
  pub spaces : List ℕ
  pub digits : List ℕ
  pub bytes : b ≡ spaces ++ digits
  pub parted : 1 ≤ length spaces
  pub white : Each White spaces
  pub some : 1 ≤ length digits
  pub few : length digits ≤ 4
  pub decimal : Each Digit digits
  pub value : meaning digits ≡ v

-- "P4, P5 and P6 into a frame of matching depth", and no "maximum not 255", which a P4 has not
pub data Format : ℕ → ℕ → List ℕ → Type 0 where
  p4 : Format 1 52 []
  p5 : {b : List ℕ} → Field 255 b → Format 8 53 b
  p6 : {b : List ℕ} → Field 255 b → Format 24 54 b

-- the file has a header for the depth, which says w by h; "exactly one such byte precedes the pixels", which start behind the first n bytes
pub record Header (depth : ℕ) (file : List ℕ) (w h n : ℕ) : Type 0 where
  pub letter : ℕ
  pub width : List ℕ
  pub height : List ℕ
  pub maximum : List ℕ
  pub last : ℕ
  pub rest : List ℕ
  pub bytes : file ≡ 80 ∷ letter ∷ (width ++ (height ++ (maximum ++ (last ∷ rest))))
  pub wide : Field w width
  pub high : Field h height
  pub format : Format depth letter maximum
  pub closed : White last
  pub start : n ≡ 2 + length width + length height + length maximum + 1
