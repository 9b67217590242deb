-- Lists of calls and of reads on one frame: what each tests and changes, the picture that a list leaves, and the bytes ("One picture, one frame").
use Rattle.std.specs.Prelude.{List, [], ◌∷◌, ◌++◌, ℕ, length}
use Rattle.refusals.specs.First.{Tests, first}
use Rattle.refusals.specs.Answer.{if_done}
use Rattle.layout.specs.Layout.{Picture, shown, coloured, rendered}
use Rattle.frames.specs.declared.Frame.{Frame}
use Rattle.frames.specs.Description.{raster, no_colour, frame_tests}
use Rattle.frames.specs.Drawing.{Drawing}
use Rattle.netpbm.specs.Reading.{file_tests, file_picture}
use Rattle.drawing.specs.declared.Figure.{Figure}
use Rattle.drawing.specs.Drawing.{figure_drawing}

-- a call, by its arguments; the colour comes last. A read is a call too, by the bytes of its file
pub data Call : Type 0 where
  draw : Figure → ℕ → Call
  read_image : List ℕ → Call

-- what a call is on a frame: its own tests, which come behind those of the frame, and what it changes of a picture where no test holds
pub record Change : Type 0 where
  pub own : Frame → Tests
  pub changes : Frame → Picture → Picture

-- of a call that draws: the colour is tested first, and the pixels that the figure contains get it
abbrev pub draws : Drawing → Change
draws d = record { own = λ f. (4, no_colour f d.colour) ∷ d.own; changes = λ f. coloured d.figure d.colour }

-- of a read: the file is tested, and every pixel gets the file's colour there, whatever it was before (02, T-06: "treats an accepted read as setting every
-- pixel")
abbrev pub loads : List ℕ → Change
loads s = record { own = λ f. file_tests f s; changes = λ f before. file_picture f s }

abbrev pub change_of : Call → Change
change_of (draw g c) = draws (figure_drawing g c)
change_of (read_image s) = loads s

-- the number that it answers on a frame over n bytes
abbrev pub number_of : Frame → ℕ → Call → ℕ
number_of f n o = first (frame_tests f n ++ (change_of o).own f)

-- ---- pictures
abbrev pub blank : Picture
blank x y = 0

-- after an accepted call a picture is the changed one; a refused call changes nothing
abbrev pub shown_after : Frame → ℕ → Call → Picture → Picture
shown_after f n o before x y = if_done (number_of f n o) ((change_of o).changes f before x y) (before x y)

-- after calls, the first of the list first
abbrev pub picture_after : Frame → ℕ → List Call → Picture → Picture
picture_after f n [] before = before
picture_after f n (o ∷ os) before = picture_after f n os (shown_after f n o before)

-- ---- bytes
-- after an accepted call every pixel of the frame has its colour in the changed picture; a refused call changes no byte
abbrev pub after_call : Frame → Call → List ℕ → List ℕ
after_call f o b = if_done (number_of f (length b) o) (rendered (raster f) ((change_of o).changes f (shown (raster f) b)) b) b

abbrev pub after_calls : Frame → List Call → List ℕ → List ℕ
after_calls f [] b = b
after_calls f (o ∷ os) b = after_calls f os (after_call f o b)
