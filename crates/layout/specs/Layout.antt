-- Where the pixels of a frame are kept in bytes, whatever the way; and what setting, reading, painting and showing them means.
use Rattle.std.specs.Prelude.{Bool, cond, List, ℕ, ◌*◌, ◌/◌, ◌%◌, ℤ, pos}
use Rattle.layout.specs.Digits.{put_digits, get_digits}
use Rattle.layout.specs.Paint.{paint, render}

-- a colour has `parts` digits of a base, and digit k of pixel (x, y) is kept at digit `slot x y k` of byte `byte x y k`; `size`: the bytes that all take
pub record Layout : Type 0 where
  pub width : ℕ
  pub height : ℕ
  pub size : ℕ
  pub base : ℕ
  pub parts : ℕ
  pub byte : ℕ → ℕ → ℕ → ℕ
  pub slot : ℕ → ℕ → ℕ → ℕ

-- pixel (x, y) set to the colour v; and read
abbrev pub put_pixel : Layout → ℕ → ℕ → ℕ → List ℕ → List ℕ
put_pixel l x y v b = put_digits l.base (l.byte x y) (l.slot x y) l.parts v b

abbrev pub get_pixel : Layout → ℕ → ℕ → List ℕ → ℕ
get_pixel l x y b = get_digits l.base (l.byte x y) (l.slot x y) l.parts b

-- pixels by number, row by row
abbrev pub put_no : Layout → ℕ → ℕ → List ℕ → List ℕ
put_no l p = put_pixel l (p % l.width) (p / l.width)

abbrev pub get_no : Layout → ℕ → List ℕ → ℕ
get_no l p = get_pixel l (p % l.width) (p / l.width)

-- every pixel of the frame that the figure contains gets the colour
unfoldable pub painted : Layout → (ℤ → ℤ → Bool) → ℕ → List ℕ → List ℕ
painted l inside colour b = paint (put_no l) (l.height * l.width) (λ p. inside (pos (p % l.width)) (pos (p / l.width))) colour b

-- ---- a picture gives each pixel, by its column and its row, its colour
abbrev pub Picture : Type 0
Picture = ℕ → ℕ → ℕ

-- the picture that bytes show
abbrev pub shown : Layout → List ℕ → Picture
shown l b x y = get_pixel l x y b

-- the picture with the pixels that the figure contains in the colour
abbrev pub coloured : (ℤ → ℤ → Bool) → ℕ → Picture → Picture
coloured inside colour f x y = cond (inside (pos x) (pos y)) colour (f x y)

-- every pixel of the frame gets its colour in the picture
unfoldable pub rendered : Layout → Picture → List ℕ → List ℕ
rendered l f b = render (put_no l) (l.height * l.width) (λ p. f (p % l.width) (p / l.width)) b
