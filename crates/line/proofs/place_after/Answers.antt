-- `line::place_after` makes the moves by the line's parameters, along each axis. Assumes nothing.
use mathlib.Core.Path.{◌≡◌, sym, subst, ◌∙◌}
use lib.IntN.{ℤ, pos, ◌+ℤ◌, ◌*ℤ◌}
use mir.Syntax.{w32}
use mir.Val.{to_z, of_z}
use borrow.Author.Rules.{rules}
use Rattle.whole.proofs.Machine.{Has, back, size_of, same_bits}
use Rattle.geometry.specs.Bound.{Coord}
use Rattle.geometry.proofs.Bound.{coord}
use Rattle.line.specs.Walk.{Reachable}
use Rattle.line.proofs.Walk.{xmajor_read, xminor_read, ymajor_read, yminor_read, course_x, course_y}
use Rattle.line.proofs.place_after.Goals as goal
use Rattle.line.proofs.place_after.Goals.{Start}

module _ (c : Start) where
  k_read : Has w32 (to_z w32 c.args.k) (pos c.args.k) 262144
  k_read = same_bits c.requires.2 tt

  m_read : Has w32 (to_z w32 c.args.m) (pos c.args.m) 262144
  m_read = same_bits c.requires.3 tt

  -- what `coordinate` asks and gives, along x and along y
  module _ {a d e : ℤ} (from : Coord a) (one : Has w32 (to_z w32 (of_z w32 d)) d 1) (other : Has w32 (to_z w32 (of_z w32 e)) e 1) where
    asked : Reachable (to_z w32 (of_z w32 a)) (to_z w32 (of_z w32 d)) (to_z w32 c.args.k) (to_z w32 (of_z w32 e)) (to_z w32 c.args.m)
    asked = record { from = subst Coord (sym (back (coord from)).is) from; one = size_of one; other = size_of other; many = size_of k_read; few = size_of m_read }

    given : to_z w32 (of_z w32 a) +ℤ to_z w32 (of_z w32 d) *ℤ to_z w32 c.args.k +ℤ to_z w32 (of_z w32 e) *ℤ to_z w32 c.args.m
        ≡ a +ℤ d *ℤ pos c.args.k +ℤ e *ℤ pos c.args.m
    given = λ i. (back (coord from)).is i +ℤ one.is i *ℤ k_read.is i +ℤ other.is i *ℤ m_read.is i

pub coordinate-x-requires : goal.coordinate-x-requires
coordinate-x-requires c =
    let h = c.requires.1.here in
    asked (goal.at.coordinate-x-requires c).Start c.requires.0.x (xmajor_read h) (xminor_read h)

pub coordinate-y-requires : goal.coordinate-y-requires
coordinate-y-requires c =
    let h = c.requires.1.here in
    asked (goal.at.coordinate-y-requires c).Start c.requires.0.y (ymajor_read h) (yminor_read h)

pub returns : goal.returns
returns c =
    let h = c.requires.1.here in
    let x_back : to_z w32 (of_z w32 c.coordinate-x.result) ≡ c.coordinate-x.result = search rules in
    let y_back : to_z w32 (of_z w32 c.coordinate-y.result) ≡ c.coordinate-y.result = search rules in
    let x = x_back ∙ c.coordinate-x.ensures ∙ given (goal.at.returns c).Start c.requires.0.x (xmajor_read h) (xminor_read h) in
    let y = y_back ∙ c.coordinate-y.ensures ∙ given (goal.at.returns c).Start c.requires.0.y (ymajor_read h) (yminor_read h) in
    λ e course i. ((x ∙ course_x course c.args.k c.args.m) i, (y ∙ course_y course c.args.k c.args.m) i)
