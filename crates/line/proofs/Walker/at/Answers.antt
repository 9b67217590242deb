-- `line::Walker::at` takes the moves of the rule, where they lead, and their error. Assumes nothing.
use mathlib.Core.Path.{◌≡◌, ap, ◌∙◌}
use Prim.Native.Nat.{ℕ, ◌*◌, ◌≤◌}
use native.Mathlib.Omega.{arith}
use lib.IntN.{pos, ◌-ℤ◌, ◌*ℤ◌}
use mir.Syntax.{w32}
use mir.Val.{to_z, of_z}
use borrow.Author.Rules.{rules}
use Rattle.whole.proofs.Machine.{Has, back, size_of, field_back}
use Rattle.line.specs.Line.{major, minor, moves}
use Rattle.line.specs.Walk.{standing}
use Rattle.line.proofs.Lengths.{major_size, minor_size}
use Rattle.line.proofs.Moves.{moves_minor}
use Rattle.line.proofs.Walk.{up_of, down_of, error_near, stands_at}
use Rattle.line.proofs.Walker.at.Goals as goal
use Rattle.line.proofs.Walker.at.Goals.{After-minor_moves-m}

-- from the call of minor_moves on
module _ (c : After-minor_moves-m) where
  abbrev k : ℕ
  k = c.args.k

  abbrev M : ℕ
  M = major c.args.start c.args.end

  abbrev N : ℕ
  N = minor c.args.start c.args.end

  rise : Has w32 c.course_of-c.result.up (pos (2 * N)) 524288
  rise = up_of c.course_of-c.ensures c.requires.0.0 c.requires.0.1

  fall : Has w32 c.course_of-c.result.down (pos (2 * M)) 524288
  fall = down_of c.course_of-c.ensures c.requires.0.0 c.requires.0.1

  many : k ≤ 262144
  many = omega (arith, c.requires.1, major_size c.requires.0.0 c.requires.0.1)

  few : c.minor_moves-m.result ≤ 262144
  few = omega (arith, c.minor_moves-m.ensures, moves_minor M N k c.requires.1, minor_size c.requires.0.0 c.requires.0.1)

  -- the error, as it is worked out
  off : to_z w32 (of_z w32 c.course_of-c.result.up) *ℤ pos k -ℤ to_z w32 (of_z w32 c.course_of-c.result.down) *ℤ pos c.minor_moves-m.result
      ≡ pos (2 * N) *ℤ pos k -ℤ pos (2 * M) *ℤ pos (moves M N k)
  off = λ i. (back rise).is i *ℤ pos k -ℤ (back fall).is i *ℤ pos (c.minor_moves-m.ensures i)

pub place_after-p-requires : goal.place_after-p-requires
place_after-p-requires c =
    (c.requires.0.0, record { s = c.args.start; e = c.args.end; here = c.course_of-c.ensures }, many (goal.at.place_after-p-requires c).After-minor_moves-m, few (goal.at.place_after-p-requires c).After-minor_moves-m)

pub error_after-error-requires : goal.error_after-error-requires
error_after-error-requires c =
    record {
      rise = size_of (back (rise (goal.at.error_after-error-requires c).After-minor_moves-m));
      fall = size_of (back (fall (goal.at.error_after-error-requires c).After-minor_moves-m));
      many = many (goal.at.error_after-error-requires c).After-minor_moves-m;
      few = few (goal.at.error_after-error-requires c).After-minor_moves-m;
      near = rw (off (goal.at.error_after-error-requires c).After-minor_moves-m) (error_near c.requires.0.0 c.requires.0.1 c.requires.1);
    }

pub returns : goal.returns
returns c =
    let p = c.place_after-p.ensures c.args.end c.course_of-c.ensures ∙ ap (standing c.args.start c.args.end (k (goal.at.returns c).After-minor_moves-m)) c.minor_moves-m.ensures in
    let x_back = field_back w32 c.place_after-p.result.0 c.struct_told-3-1.given.0.1 in
    let y_back = field_back w32 c.place_after-p.result.1 c.struct_told-3-1.given.1.0.1 in
    let error_back : to_z w32 (of_z w32 c.error_after-error.result) ≡ c.error_after-error.result = search rules in
    stands_at c.requires.0.0 c.requires.0.1 c.requires.1 c.course_of-c.ensures ((λ i. (x_back i, y_back i)) ∙ p) (error_back ∙ c.error_after-error.ensures ∙ off (goal.at.returns c).After-minor_moves-m)
