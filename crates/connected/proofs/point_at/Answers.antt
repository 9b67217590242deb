-- `connected::point_at` finds the moves before the index by a quotient, and asks where they lead, or, for a mirrored extra point, the other way round. Assumes nothing.
use mathlib.Core.Path.{◌≡◌, sym, subst, ◌∙◌}
use mathlib.Core.Bool.{true}
use Prim.Native.Nat.{ℕ, ◌+◌, ◌-◌, ◌≤◌}
use native.Mathlib.Omega.{arith}
use Rattle.line.specs.Line.{major, minor}
use Rattle.line.specs.Walk.{CourseOf, SomeCourse, is_due}
use Rattle.line.proofs.Lengths.{narrow, points_most}
use Rattle.connected.specs.Walk.{mirrored, MovesMade}
use Rattle.connected.proofs.Made.{made_within, made_normal, made_extra, made_mirrored}
use Rattle.connected.proofs.point_at.Goals as goal
use Rattle.connected.proofs.point_at.Goals.{then-is_due+else-mirrors, else-is_due}
use Rattle.connected.proofs.point_at.Goals.{After-crossings-m, After-is_due, After-last_index, Then-mirrors}

-- the two lengths
module _ (c : After-last_index) where
  abbrev M : ℕ
  M = major c.args.start c.args.end

  abbrev n : ℕ
  n = minor c.args.start c.args.end

  M_is : c.last_step-major.result ≡ M
  M_is = c.last_step-major.ensures

  n_is : c.last_index.result - c.last_step-major.result ≡ n
  n_is = omega (arith, M_is, c.last_index.ensures)

  few : M + 1 ≤ 262144
  few = points_most c.requires.0.0 c.requires.0.1

pub crossings-m-requires : goal.crossings-m-requires
crossings-m-requires c = omega (arith, M_is (goal.at.crossings-m-requires c).After-last_index, n_is (goal.at.crossings-m-requires c).After-last_index, few (goal.at.crossings-m-requires c).After-last_index, narrow c.args.start c.args.end, c.requires.1)

-- the moves before the index
module _ (c : After-crossings-m) where
  abbrev m : ℕ
  m = c.crossings-m.result

  abbrev k : ℕ
  k = c.args.i - m

  made : MovesMade (M (goal.at.After-crossings-m c).After-last_index) (n (goal.at.After-crossings-m c).After-last_index) k m
  made = subst (λ (x : ℕ). MovesMade x (n (goal.at.After-crossings-m c).After-last_index) k m) (M_is (goal.at.After-crossings-m c).After-last_index) (subst (λ (x : ℕ). MovesMade c.last_step-major.result x k m) (n_is (goal.at.After-crossings-m c).After-last_index) c.crossings-m.ensures)

  sum : k + m ≡ c.args.i
  sum = omega (arith, made.few)

  within : k ≤ M (goal.at.After-crossings-m c).After-last_index
  within = made_within c.args.start c.args.end c.args.i k m c.requires.1 sum made

  course : CourseOf c.args.start c.args.end c.course_of-c.result
  course = c.course_of-c.ensures

  parameters : SomeCourse c.course_of-c.result
  parameters = record { s = c.args.start; e = c.args.end; here = course }

pub is_due-requires : goal.is_due-requires
is_due-requires c = omega (arith, M_is (goal.at.is_due-requires c).After-last_index, n_is (goal.at.is_due-requires c).After-last_index, few (goal.at.is_due-requires c).After-last_index, narrow c.args.start c.args.end, within (goal.at.is_due-requires c).After-crossings-m, (made (goal.at.is_due-requires c).After-crossings-m).few)

-- the test, at the line's lengths
due_is : (c : After-is_due) → c.is_due.result ≡ is_due (M (goal.at.After-is_due c).After-last_index) (n (goal.at.After-is_due c).After-last_index) (k (goal.at.After-is_due c).After-crossings-m) (m (goal.at.After-is_due c).After-crossings-m)
due_is c = c.is_due.ensures ∙ (λ i. is_due (M_is (goal.at.After-is_due c).After-last_index i) (n_is (goal.at.After-is_due c).After-last_index i) (k (goal.at.After-is_due c).After-crossings-m) (m (goal.at.After-is_due c).After-crossings-m))

-- a mirrored extra point
module _ (c : Then-mirrors) where
  due : is_due (M (goal.at.Then-mirrors c).After-last_index) (n (goal.at.Then-mirrors c).After-last_index) (k (goal.at.Then-mirrors c).After-crossings-m) (m (goal.at.Then-mirrors c).After-crossings-m) ≡ true
  due = sym (due_is (goal.at.Then-mirrors c).After-is_due) ∙ c.if-is_due.true

  mirror : mirrored c.args.start c.args.end ≡ true
  mirror = sym (c.mirrors.ensures c.args.start c.args.end (course (goal.at.Then-mirrors c).After-crossings-m)) ∙ c.if-mirrors.true

pub place_after-requires : goal.place_after-requires
place_after-requires c =
    (c.requires.0.0, parameters (goal.at.place_after-requires c).After-crossings-m, omega (arith, within (goal.at.place_after-requires c).After-crossings-m, few (goal.at.place_after-requires c).After-last_index), omega (arith, within (goal.at.place_after-requires c).After-crossings-m, few (goal.at.place_after-requires c).After-last_index, (made (goal.at.place_after-requires c).After-crossings-m).few))

pub returns-then-mirrors : goal.returns-then-mirrors
returns-then-mirrors c =
    let a = c.args in
    c.place_after.ensures a.end (course (goal.at.returns-then-mirrors c).After-crossings-m)
    ∙ made_mirrored a.start a.end a.i (k (goal.at.returns-then-mirrors c).After-crossings-m) (m (goal.at.returns-then-mirrors c).After-crossings-m) c.requires.1 (sum (goal.at.returns-then-mirrors c).After-crossings-m) (made (goal.at.returns-then-mirrors c).After-crossings-m) (due (goal.at.returns-then-mirrors c).Then-mirrors) (mirror (goal.at.returns-then-mirrors c).Then-mirrors)

pub place_after-requires-2 : goal.place_after-requires-2
place_after-requires-2 c =
    (c.requires.0.0, parameters (goal.at.place_after-requires-2 c).After-crossings-m, omega (arith, within (goal.at.place_after-requires-2 c).After-crossings-m, few (goal.at.place_after-requires-2 c).After-last_index), omega (arith, within (goal.at.place_after-requires-2 c).After-crossings-m, few (goal.at.place_after-requires-2 c).After-last_index, (made (goal.at.place_after-requires-2 c).After-crossings-m).few))

-- an extra point that is not mirrored, or a normal one
pub returns : goal.returns
returns c =
    let a = c.args in
    c.place_after-2.ensures a.end (course (goal.at.returns c).After-crossings-m)
    ∙ elim c.if-is_due.branch [
      | then-is_due+else-mirrors w ↦
          made_extra a.start a.end a.i (k (goal.at.returns c).After-crossings-m) (m (goal.at.returns c).After-crossings-m) c.requires.1 (sum (goal.at.returns c).After-crossings-m) (made (goal.at.returns c).After-crossings-m) (sym (due_is (goal.at.returns c).After-is_due) ∙ w.if-is_due.true)
          (sym (w.mirrors.ensures a.start a.end (course (goal.at.returns c).After-crossings-m)) ∙ w.if-mirrors.false)
      | else-is_due w ↦
          made_normal a.start a.end a.i (k (goal.at.returns c).After-crossings-m) (m (goal.at.returns c).After-crossings-m) c.requires.1 (sum (goal.at.returns c).After-crossings-m) (made (goal.at.returns c).After-crossings-m) (sym (due_is (goal.at.returns c).After-is_due) ∙ w.if-is_due.false)
    ]
