-- What demand 3 speaks of: when a call is accepted, which colour it gives a pixel, and which colour a pixel has after calls. A call is what it draws and its colour, or the file it reads.
use Rattle.std.specs.Prelude.{◌≡◌, true, List, [], ◌∷◌, ◌++◌, ◌⊎◌, ℕ, ◌*◌, pos, drop}
use Rattle.frames.specs.declared.Frame.{Frame}
use Rattle.picture.specs.Calls.{Call, draw, read_image}
use Rattle.mission.specs.Bytes.{row_takes, colour_in}
use Rattle.mission.specs.Figures.{Contains}
use Rattle.mission.specs.Numbers.{Says, of_call}

-- the table answers 0
abbrev pub Accepts : Frame → ℕ → Call → Type 0
Accepts f n o = of_call f n o 0

-- the call gives pixel (x, y) the colour v: its own, where its figure contains the pixel; or the file's, which has row after row without a gap, the big end first. "Demand 3 treats an
-- accepted read as setting every pixel"
abbrev pub Gives : Frame → Call → ℕ → ℕ → ℕ → Type 0
Gives f (draw g colour) x y v = Contains g (pos x, pos y) × (v ≡ colour)
Gives f (read_image file) x y v = Says f file (λ w h start. v ≡ colour_in f.depth true (drop start file) (y * row_takes f) x)

-- ---- "its colour is that of the last accepted call whose figure contains it, or 0 if none", on a frame over n bytes
module _ (f : Frame) (n x y : ℕ) where
  abbrev pub NoneGives : List Call → Type 0
  NoneGives [] = Unit {0}
  NoneGives (o ∷ os) = (Accepts f n o → (v : ℕ) → Gives f o x y v → ⊥) × NoneGives os

  pub record LastGives (os : List Call) (v : ℕ) : Type 0 where
    pub before : List Call
    pub call : Call
    pub after : List Call
    pub split : os ≡ before ++ (call ∷ after)
    pub accepted : Accepts f n call
    pub gives : Gives f call x y v
    pub later : NoneGives after

  abbrev pub Colour : List Call → ℕ → Type 0
  Colour os v = LastGives os v ⊎ (NoneGives os × (v ≡ 0))
