-- What is left of a buffer when pixels are set, over any way `put` to set a pixel. Pixels are numbered from 0.
use Rattle.std.specs.Prelude.{Bool, true, false, ℕ, zero, suc}

module _ {Buf : Type 0} (put : ℕ → ℕ → Buf → Buf) where
  -- pixel p is set to colour c where it is asked for
  abbrev pub put_if : Bool → ℕ → ℕ → Buf → Buf
  put_if true p c b = put p c b
  put_if false p c b = b

  -- of the pixels 0 to n - 1, those inside the figure are set to colour c, one after another
  abbrev pub paint : ℕ → (ℕ → Bool) → ℕ → Buf → Buf
  paint zero inside c b = b
  paint (suc n) inside c b = put_if (inside n) n c (paint n inside c b)

  -- each pixel p of 0 to n - 1 is set to the colour f p
  abbrev pub render : ℕ → (ℕ → ℕ) → Buf → Buf
  render zero f b = b
  render (suc n) f b = put n (f n) (render n f b)
