-- Laws of the indices of a connected line's points: the normal point of step k has index k + m, which grows by one or two with each step, so that every index up to
-- the last is that of a normal point, or of the extra one after it. Assumes nothing.
use mathlib.Core.Path.{◌≡◌, refl, sym, ap, ap₂, subst, ◌∙◌}
use mathlib.Core.Bool.{Bool, true, false, cond, not}
use Prim.Native.Nat.{ℕ, zero, suc, ◌+◌, ◌-◌, ◌≤◌, ◌<◌}
use native.Mathlib.Decide.{dec_lt}
use native.Mathlib.Omega.{arith}
use borrow.Author.Tests.{ltb-false, le-leb, lt-leb, eq-eqb, ne_eqb}
use lib.Dec.{ltb}
use Rattle.geometry.specs.declared.Point.{Point}
use Rattle.geometry.specs.Bound.{Bounded}
use Rattle.line.specs.Line.{major, minor, moves, point_at}
use Rattle.line.proofs.Moves.{moves_start, moves_end, moves_mono, moves_one}
use Rattle.line.proofs.Lengths.{narrow, major_size, minor_size}
use Rattle.connected.specs.Connected.{last_up_to, index_of, last_index, connected_points, points_before, step_of, is_extra, extra_at, connected_at}

-- the last index of an accepted line
pub last_size : {s e : Point} → Bounded s → Bounded e → last_index s e ≤ 524288
last_size hs he = omega (arith, major_size hs he, minor_size hs he)

-- ---- the last step whose index is at most i
module _ (f : ℕ → ℕ) (i : ℕ) where
  last_at : (n : ℕ) → f (suc n) ≤ i → last_up_to f i (suc n) ≡ suc n
  last_at n h = ap (λ (t : Bool). cond t (suc n) (last_up_to f i n)) (le-leb (f (suc n)) i h)

  last_under : (n : ℕ) → i < f (suc n) → last_up_to f i (suc n) ≡ last_up_to f i n
  last_under n h = ap (λ (t : Bool). cond t (suc n) (last_up_to f i n)) (lt-leb (f (suc n)) i h)

  last_is_lem : (n k : ℕ) → k ≤ n → f k ≤ i → ((j : ℕ) → k < j → i < f j) → last_up_to f i n ≡ k
  last_is_lem zero k l h past = omega arith
  last_is_lem (suc n) k l h past = by (dec_lt k (suc n)) (λ b. last_is_lem n k b h past)
    where
      by : Dec (k < suc n) → (k ≤ n → last_up_to f i n ≡ k) → last_up_to f i (suc n) ≡ k
      by (yes b) rest = last_under n (past (suc n) b) ∙ rest (omega arith)
      by (no b) rest =
          let e : k ≡ suc n = omega arith in
          last_at n (subst (λ (x : ℕ). f x ≤ i) e h) ∙ sym e

module _ (s e : Point) where
  -- m grows from step k to the next
  abbrev pub Grows : ℕ → Type 0
  Grows k = moves (major s e) (minor s e) (k + 1) ≡ moves (major s e) (minor s e) k + 1

  pub index_is : (k : ℕ) → index_of s e k ≡ k + moves (major s e) (minor s e) k
  unfolding index_of
  index_is k = refl

  pub index_first : index_of s e 0 ≡ 0
  index_first = omega (arith, index_is 0, moves_start (major s e) (minor s e))

  pub index_last : index_of s e (major s e) ≡ last_index s e
  index_last = omega (arith, index_is (major s e), moves_end (major s e) (minor s e) (narrow s e))

  -- indices grow with the steps, and by two where m grows
  pub index_more : (j k : ℕ) → j ≤ k → index_of s e j + (k - j) ≤ index_of s e k
  index_more j k h = omega (arith, index_is j, index_is k, moves_mono (major s e) (minor s e) j k h)

  pub grows_index : (k : ℕ) → Grows k → index_of s e (k + 1) ≡ index_of s e k + 2
  grows_index k g = omega (arith, index_is k, index_is (k + 1))

  -- ---- the step of an index
  step_normal : (k : ℕ) → k ≤ major s e → step_of s e (index_of s e k) ≡ k
  unfolding step_of
  step_normal k l = last_is_lem (index_of s e) (index_of s e k) (major s e) k l (omega arith) (λ j h. omega (arith, index_more k j (omega arith)))

  step_extra : (k : ℕ) → k < major s e → Grows k → step_of s e (index_of s e k + 1) ≡ k
  unfolding step_of
  step_extra k l g =
      last_is_lem (index_of s e) (index_of s e k + 1) (major s e) k (omega arith) (omega arith)
      (λ j h. omega (arith, index_more (k + 1) j (omega arith), grows_index k g))

  -- ---- what the points are: the normal ones are the line's, in order, and between them stand the extra ones
  pub normal_is : (k : ℕ) → k ≤ major s e → is_extra s e (index_of s e k) ≡ false
  unfolding is_extra
  normal_is k l = ap not (eq-eqb (index_of s e (step_of s e (index_of s e k))) (index_of s e k) (ap (index_of s e) (step_normal k l)))

  pub extra_is : (k : ℕ) → k < major s e → Grows k → is_extra s e (index_of s e k + 1) ≡ true
  unfolding is_extra
  extra_is k l g =
      ap not (ne_eqb (index_of s e (step_of s e (index_of s e k + 1))) (index_of s e k + 1) (λ h. omega (arith, ap (index_of s e) (step_extra k l g))))

  -- what is f of the step at extra points and g of the step at normal ones
  module _ {A : Type 0} (f g : ℕ → A) (i k : ℕ) where
    pub at_normal : k ≤ major s e → i ≡ index_of s e k → cond (is_extra s e i) (f (step_of s e i)) (g (step_of s e i)) ≡ g k
    at_normal l q =
        ap (λ (n : ℕ). cond (is_extra s e n) (f (step_of s e n)) (g (step_of s e n))) q ∙ ap₂ (λ (b : Bool) (j : ℕ). cond b (f j) (g j)) (normal_is k l) (step_normal k l)

    pub at_extra : k < major s e → Grows k → i ≡ index_of s e k + 1 → cond (is_extra s e i) (f (step_of s e i)) (g (step_of s e i)) ≡ f k
    at_extra l r q =
        ap (λ (n : ℕ). cond (is_extra s e n) (f (step_of s e n)) (g (step_of s e n))) q ∙ ap₂ (λ (b : Bool) (j : ℕ). cond b (f j) (g j)) (extra_is k l r) (step_extra k l r)

  pub normal_at : (k : ℕ) → k ≤ major s e → connected_at s e (index_of s e k) ≡ point_at s e k
  unfolding connected_at
  normal_at k l = at_normal (extra_at s e) (point_at s e) (index_of s e k) k l refl

  pub extra_at_lem : (k : ℕ) → k < major s e → Grows k → connected_at s e (index_of s e k + 1) ≡ extra_at s e k
  unfolding connected_at
  extra_at_lem k l g = at_extra (extra_at s e) (point_at s e) (index_of s e k + 1) k l g refl

  -- ---- every index up to the last is that of a normal point, or of an extra one
  pub data View (i : ℕ) : Type 0 where
    normal : (k : ℕ) → k ≤ major s e → i ≡ index_of s e k → View i
    extra : (k : ℕ) → k < major s e → Grows k → i ≡ index_of s e k + 1 → View i

  -- whether m grows after step k
  pub data Growth (k : ℕ) : Type 0 where
    grows : Grows k → Growth k
    stays : index_of s e (k + 1) ≡ index_of s e k + 1 → Growth k

  pub growth : (k : ℕ) → Growth k
  growth k = by (dec_lt (moves (major s e) (minor s e) k) (moves (major s e) (minor s e) (k + 1)))
    where
      by : Dec (moves (major s e) (minor s e) k < moves (major s e) (minor s e) (k + 1)) → Growth k
      by (yes h) = grows (omega (arith, moves_one (major s e) (minor s e) k (narrow s e)))
      by (no h) = stays (omega (arith, moves_mono (major s e) (minor s e) k (k + 1) (omega arith), index_is k, index_is (k + 1)))

  -- a normal point before the last index is not the last
  pub not_last : (i k : ℕ) → i < last_index s e → i ≡ index_of s e k → k < major s e
  not_last i k l q = by (dec_lt k (major s e))
    where
      by : Dec (k < major s e) → k < major s e
      by (yes b) = b
      by (no b) = absurd (omega (arith, index_more (major s e) k (omega arith), index_last))

  pub view : (i : ℕ) → i ≤ last_index s e → View i
  view zero l = normal 0 (omega arith) (sym index_first)
  view (suc i) l = next (view i (omega arith))
    where
      next : View i → View (suc i)
      next (normal k h q) = by (growth k)
        where
          by : Growth k → View (suc i)
          by (grows g) = extra k (not_last i k (omega arith) q) g (omega arith)
          by (stays g) = normal (k + 1) (omega (arith, not_last i k (omega arith) q)) (omega arith)
      next (extra k h g q) = normal (k + 1) (omega arith) (omega (arith, grows_index k g))

  -- ---- no step has more points before it than there are
  pub before_most : (k : ℕ) → points_before s e k ≤ connected_points s e
  before_most k = by (ltb (major s e) k) (ltb-false (major s e) k)
    where
      by : (t : Bool) → (t ≡ false → k ≤ major s e) → cond t (connected_points s e) (index_of s e k) ≤ connected_points s e
      by true h = omega arith
      by false h = omega (arith, index_more k (major s e) (h refl), index_last)
