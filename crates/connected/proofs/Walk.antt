-- Laws of a walker of a connected line: what its moves are, that one more leads to the next index, and the test for mirrored extra points. Assumes nothing.
use mathlib.Core.Path.{◌≡◌, refl, sym, ap, ap₂, ◌∙◌}
use mathlib.Core.Bool.{Bool, true, false, cond, not}
use Prim.Native.Nat.{ℕ, ◌+◌, ◌*◌, ◌-◌, ◌≤◌, ◌<◌}
use native.Mathlib.Omega.{arith}
use borrow.Author.Tests.{ltb-false}
use lib.IntN.{ℤ, pos, negsuc, neg_ℤ, nat_abs, ◌+ℤ◌, ◌-ℤ◌, ◌*ℤ◌}
use lib.Signed.{le_z}
use Rattle.whole.specs.Equal.{eq_z}
use Rattle.whole.proofs.Difference.{as_mk, mks, mk_eq}
use Rattle.geometry.specs.declared.Point.{Point}
use Rattle.line.specs.declared.Course.{Course}
use Rattle.line.specs.declared.Walker.{Walker}
use Rattle.line.specs.Line.{toward, steep, major, minor}
use Rattle.line.specs.Walk.{CourseOf, standing, Stands, is_due, WalkerAt, Moving, Walking}
use Rattle.line.proofs.Walk.{course_x, course_y, m_is, settled_not}
use Rattle.connected.specs.Connected.{index_of, last_index, alike}
use Rattle.connected.specs.Walk.{mirrored, MovesMade, NextAt, Connecting}
use Rattle.connected.proofs.Indices.{index_is}
use Rattle.connected.proofs.Made.{made_within}

-- ---- the moves of a walker
module _ {s e : Point} {i : ℕ} {w : Walker} (at : NextAt s e i w) where
  pub next_made : MovesMade (major s e) (minor s e) at.k at.here.m
  next_made = record { few = at.here.stands.few; low = at.here.stands.low; due = at.here.due }

  pub next_within : i ≤ last_index s e → at.k ≤ major s e
  next_within l = made_within s e i at.k at.here.m l at.sum next_made

  -- the minor move, and the major one where no minor move is due, lead to the next index
  pub after_minor : {r : Walker} → Stands s e at.k (at.here.m + 1) r → NextAt s e (i + 1) r
  after_minor st = record { k = at.k; here = record { m = at.here.m + 1; stands = st; due = omega (arith, at.here.due) }; sum = omega (arith, at.sum) }

  pub after_major : {r : Walker} → is_due (major s e) (minor s e) at.k at.here.m ≡ false → Stands s e (at.k + 1) at.here.m r → NextAt s e (i + 1) r
  after_major f st =
      let near : 2 * minor s e * at.k ≤ 2 * major s e * at.here.m + major s e = ltb-false _ _ f in
      record { k = at.k + 1; here = record { m = at.here.m; stands = st; due = omega arith }; sum = omega (arith, at.sum) }

-- what the line's walker asks before it is tested and moved
module _ {w : Walker} (h : Connecting w) where
  pub moving : Moving w
  moving = record { s = h.s; e = h.e; k = h.here.k; more = omega (arith, next_within h.here h.more); here = h.here.here }

  pub walking : is_due (major h.s h.e) (minor h.s h.e) h.here.k h.here.here.m ≡ false → Walking w
  walking f = record { s = h.s; e = h.e; k = h.here.k; more = next_within h.here h.more; here = settled_not h.here.here f }

-- one major move back from where it stands
back : (s a b k m : ℤ) → (s +ℤ a *ℤ (k +ℤ pos 1) +ℤ b *ℤ m) -ℤ a ≡ s +ℤ a *ℤ k +ℤ b *ℤ m
back s a b k m = rw (as_mk s, as_mk a, as_mk b, as_mk k, as_mk m) (simp mks (mk_eq _ _ _ _ (omega arith)))

module _ {s e : Point} {k m : ℕ} {w : Walker} (st : Stands s e k m w) (some : 0 < k) where
  one_more : k ≡ k - 1 + 1
  one_more = omega arith

  pub back_x : w.x -ℤ w.course.xmajor ≡ (standing s e (k - 1) m).0
  back_x =
      ap (λ (z : ℤ). z -ℤ w.course.xmajor) (st.x ∙ ap (λ (n : ℕ). s.0 +ℤ w.course.xmajor *ℤ pos n +ℤ w.course.xminor *ℤ pos m) one_more)
      ∙ back s.0 w.course.xmajor w.course.xminor (pos (k - 1)) (pos m) ∙ course_x st.course (k - 1) m

  pub back_y : w.y -ℤ w.course.ymajor ≡ (standing s e (k - 1) m).1
  back_y =
      ap (λ (z : ℤ). z -ℤ w.course.ymajor) (st.y ∙ ap (λ (n : ℕ). s.1 +ℤ w.course.ymajor *ℤ pos n +ℤ w.course.yminor *ℤ pos m) one_more)
      ∙ back s.1 w.course.ymajor w.course.yminor (pos (k - 1)) (pos m) ∙ course_y st.course (k - 1) m

-- a walker that stands at the point of a step
pub normal_next : {s e : Point} {k : ℕ} {w : Walker} → WalkerAt s e k w → k ≤ major s e → NextAt s e (index_of s e k) w
normal_next {s} {e} {k} at walked =
    record { k = k; here = record { m = at.m; stands = at.stands; due = omega (arith, at.near) }; sum = omega (arith, m_is at walked, index_is s e k) }

-- ---- the test for mirrored extra points, by the line's parameters
no_move : (a b : ℤ) → toward a b ≡ pos 0 → ⊥
no_move a b = by (le_z a b)
  where
    by : (t : Bool) → cond t (pos 1) (negsuc 0) ≡ pos 0 → ⊥
    by true h = let g : ◌≡◌ {A = ℕ} 1 0 = ap nat_abs h in omega arith
    by false h = let g : ◌≡◌ {A = ℕ} 1 0 = ap nat_abs h in omega arith

-- one move is another turned round exactly if they differ
turned_round : (a b c d : ℤ) → eq_z (toward c d) (neg_ℤ (toward a b)) ≡ not (eq_z (toward a b) (toward c d))
turned_round a b c d = by (le_z a b) (le_z c d)
  where
    by : (t u : Bool) → eq_z (cond u (pos 1) (negsuc 0)) (neg_ℤ (cond t (pos 1) (negsuc 0))) ≡ not (eq_z (cond t (pos 1) (negsuc 0)) (cond u (pos 1) (negsuc 0)))
    by true true = refl
    by true false = refl
    by false true = refl
    by false false = refl

module _ {s e : Point} {c : Course} (h : CourseOf s e c) where
  pub mirrors_x : (c.xmajor ≡ pos 0 → ⊥) → eq_z c.xmajor c.yminor ≡ mirrored s e
  unfolding mirrored
  mirrors_x n = ap₂ eq_z h.major_x h.minor_y ∙ by (steep s e) (λ z. n (h.major_x ∙ z))
    where
      by : (t : Bool) → (cond t (pos 0) (toward s.0 e.0) ≡ pos 0 → ⊥)
          → eq_z (cond t (pos 0) (toward s.0 e.0)) (cond t (pos 0) (toward s.1 e.1)) ≡ cond t (not (alike s e)) (alike s e)
      by true n = absurd (n refl)
      by false n = refl

  pub mirrors_y : c.xmajor ≡ pos 0 → eq_z c.ymajor (neg_ℤ c.xminor) ≡ mirrored s e
  unfolding mirrored
  mirrors_y z = ap₂ (λ (a b : ℤ). eq_z a (neg_ℤ b)) h.major_y h.minor_x ∙ by (steep s e) (sym h.major_x ∙ z)
    where
      by : (t : Bool) → cond t (pos 0) (toward s.0 e.0) ≡ pos 0
          → eq_z (cond t (toward s.1 e.1) (pos 0)) (neg_ℤ (cond t (toward s.0 e.0) (pos 0))) ≡ cond t (not (alike s e)) (alike s e)
      by true z = turned_round s.0 e.0 s.1 e.1
      by false z = absurd (no_move s.0 e.0 z)
