-- "Its colour is that of the last accepted call whose figure contains it, or 0 if none", a read being a call that contains every pixel. Assumes nothing.
use mathlib.Core.Path.{◌≡◌, refl, ap, ◌∙◌}
use mathlib.Core.Bool.{Bool, true, false, cond}
use mathlib.Core.List.{List, [], ◌∷◌, ◌++◌}
use Prim.Native.Nat.{ℕ, zero, suc}
use lib.IntN.{pos}
use Rattle.refusals.specs.Answer.{if_done}
use Rattle.refusals.proofs.Answer.{is_done}
use Rattle.layout.specs.Layout.{Picture}
use Rattle.frames.specs.declared.Frame.{Frame}
use Rattle.frames.specs.Drawing.{Drawing}
use Rattle.netpbm.specs.Reading.{file_picture}
use Rattle.picture.specs.Calls.{Call, read_image, Change, draws, change_of, number_of, blank, shown_after, picture_after}

module _ (f : Frame) (n x y : ℕ) where
  -- whatever the picture was, the call leaves the pixel as it is
  abbrev pub Leaves : Call → Type 0
  Leaves o = (g : Picture) → (change_of o).changes f g x y ≡ g x y

  -- so does each accepted call of a list
  abbrev pub AllLeave : List Call → Type 0
  AllLeave [] = Unit {0}
  AllLeave (o ∷ os) = (number_of f n o ≡ 0 → Leaves o) × AllLeave os

  -- a call whose figure does not contain the pixel
  pub outside_leaves : (o : Call) (d : Drawing) → change_of o ≡ draws d → d.figure (pos x) (pos y) ≡ false → Leaves o
  outside_leaves o d e h g = ap (λ (c : Change). c.changes f g x y) e ∙ ap (λ (t : Bool). cond t d.colour (g x y)) h

  calls_leave : (os : List Call) (g : Picture) → AllLeave os → picture_after f n os g x y ≡ g x y
  calls_leave [] g a = refl
  calls_leave (o ∷ os) g a = calls_leave os (shown_after f n o g) a.1 ∙ by (number_of f n o) refl
    where
      by : (k : ℕ) → number_of f n o ≡ k → if_done k ((change_of o).changes f g x y) (g x y) ≡ g x y
      by zero e = a.0 e g
      by (suc k) e = refl

  after_both : (xs ys : List Call) (g : Picture) → picture_after f n (xs ++ ys) g ≡ picture_after f n ys (picture_after f n xs g)
  after_both [] ys g = refl
  after_both (o ∷ xs) ys g = after_both xs ys (shown_after f n o g)

  -- an accepted call changes the pixel as it says, and those after it leave it so
  pub last_change : (xs ys : List Call) (o : Call) → number_of f n o ≡ 0 → AllLeave ys
      → (g : Picture) → picture_after f n (xs ++ (o ∷ ys)) g x y ≡ (change_of o).changes f (picture_after f n xs g) x y
  last_change xs ys o z a g =
      let before = picture_after f n xs g in
      ap (λ (k : Picture). k x y) (after_both xs (o ∷ ys) g)
      ∙ calls_leave ys (shown_after f n o before) a
      ∙ is_done z ((change_of o).changes f before x y) (before x y)

  -- the last accepted call whose figure contains the pixel gives it its colour
  pub last_colour : (xs ys : List Call) (o : Call) (d : Drawing) → change_of o ≡ draws d → number_of f n o ≡ 0 → d.figure (pos x) (pos y) ≡ true → AllLeave ys
      → (g : Picture) → picture_after f n (xs ++ (o ∷ ys)) g x y ≡ d.colour
  last_colour xs ys o d e z h a g =
      let before = picture_after f n xs g in
      last_change xs ys o z a g ∙ ap (λ (c : Change). c.changes f before x y) e ∙ ap (λ (t : Bool). cond t d.colour (before x y)) h

  -- or the last accepted read, which gives every pixel the file's
  pub last_read : (xs ys : List Call) (s : List ℕ) → number_of f n (read_image s) ≡ 0 → AllLeave ys
      → (g : Picture) → picture_after f n (xs ++ (read_image s ∷ ys)) g x y ≡ file_picture f s x y
  last_read xs ys s z a g = last_change xs ys (read_image s) z a g

  -- where no accepted call contains it, and no file was read, it has 0
  pub no_colour_lem : (os : List Call) → AllLeave os → picture_after f n os blank x y ≡ 0
  no_colour_lem os a = calls_leave os blank a
