-- `drawing::triangle_on` where it is not refused fills the rows within the rectangle. Assumes nothing.
use Rattle.painting.proofs.Brushes.{calls}
use Rattle.drawing.proofs.triangle_on.Goals as goal

pub returns-in_err-accept_triangle : goal.returns-in_err-accept_triangle
returns-in_err-accept_triangle c = search (calls, c.in_err-accept_triangle.ensures.number)

pub fill_triangle-requires : goal.fill_triangle-requires
fill_triangle-requires c = (search (calls, c.in_ok-accept_triangle.ensures.number), c.in_ok-accept_triangle.ensures.accepted)

pub returns : goal.returns
returns c = search (calls, c.in_ok-accept_triangle.ensures.number)
