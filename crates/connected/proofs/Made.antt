-- What k major and m minor moves say of the point that comes next, whether a walker has made them or a quotient gave them: its index is k + m, and whether a minor
-- move is due decides whether it is a normal or an extra point, and where it lies. M is the major and n the minor length. Assumes nothing.
use mathlib.Core.Path.{◌≡◌, refl, sym, ap, ap₂, subst, ◌∙◌}
use mathlib.Core.Bool.{Bool, true, false, cond, not, true≢false, false≢true}
use Prim.Native.Nat.{ℕ, zero, suc, ◌+◌, ◌*◌, ◌-◌, ◌/◌, ◌≤◌, ◌<◌}
use native.Mathlib.Nat.{mul-le-mul_left, mul-le-mul_right, div-mul-le_self, lt-div-mul-add, lt_of_mul-lt-mul_left}
use native.Mathlib.Decide.{dec_lt}
use native.Mathlib.Omega.{arith}
use borrow.Author.Tests.{ltb-true, ltb-false}
use Rattle.geometry.specs.declared.Point.{Point}
use Rattle.line.specs.Line.{steep, major, minor, moves, x_moves, y_moves, point_at}
use Rattle.line.specs.Walk.{place_at, standing, is_due}
use Rattle.line.proofs.Lengths.{narrow}
use Rattle.line.proofs.Moves.{moves_is, moves_fixed}
use Rattle.line.proofs.Walk.{standing_point, due_some}
use Rattle.connected.specs.Connected.{beside_both, index_of, last_index, is_extra, alike, extra_at, connected_at}
use Rattle.connected.specs.Walk.{mirrored, MovesMade}
use Rattle.connected.proofs.Indices.{Grows, index_is, normal_is, extra_is, normal_at, extra_at_lem}

-- ---- no more than M major moves are made up to the last index
within_some : (M n k m : ℕ) → 0 < M → MovesMade M n k m → k + m ≤ M + n → k ≤ M
within_some M n k m some d l = by (dec_lt M k)
  where
    by : Dec (M < k) → k ≤ M
    by (no h) = omega arith
    by (yes h) =
        let far : n * (M + 1) ≤ n * k = mul-le-mul_left n (omega arith) in
        let few : m + 1 ≤ n = omega arith in
        let less : M * (m + 1) ≤ M * n = mul-le-mul_left M few in
        absurd (omega (arith, d.due))

within : (M n k m : ℕ) → n ≤ M → MovesMade M n k m → k + m ≤ M + n → k ≤ M
within zero n k m h d l = omega arith
within (suc M) n k m h d l = within_some (suc M) n k m (omega arith) d l

-- ---- where a minor move is due, m grows to step k
record Turn (M n k m : ℕ) : Type 0 where
  j : ℕ
  step : k ≡ j + 1
  was : moves M n j ≡ m
  then : moves M n (j + 1) ≡ m + 1

turn : (M n k m : ℕ) → 0 < M → n ≤ M → MovesMade M n k m → 2 * M * m + M < 2 * n * k → Turn M n k m
turn M n zero m some h d t = absurd (omega arith)
turn M n (suc j) m some h d t =
    record {
      j = j;
      step = omega arith;
      was = moves_fixed M n j m some (record { low = omega (arith, d.due); high = omega (arith, d.due) });
      then = moves_fixed M n (j + 1) (m + 1) some (record { low = omega (arith, d.due); high = omega (arith, d.due) });
    }

-- ---- the extra point, by the move that is made alone
module _ (s e : Point) where
  -- the line's point at a step, by its major axis
  abbrev at : Bool → ℕ → Point
  at t k = place_at s e (cond t (moves (major s e) (minor s e) k) k) (cond t k (moves (major s e) (minor s e) k))

  major_alone : (j : ℕ) → mirrored s e ≡ false → standing s e (j + 1) (moves (major s e) (minor s e) j) ≡ extra_at s e j
  unfolding mirrored extra_at point_at x_moves y_moves
  major_alone j = by (steep s e) (alike s e)
    where
      by : (t a : Bool) → cond t (not a) a ≡ false
          → place_at s e (cond t (moves (major s e) (minor s e) j) (j + 1)) (cond t (j + 1) (moves (major s e) (minor s e) j)) ≡ beside_both a (at t j) (at t (j + 1))
      by true true f = refl
      by true false f = absurd (true≢false f)
      by false true f = absurd (true≢false f)
      by false false f = refl

  minor_alone : (j : ℕ) → mirrored s e ≡ true → standing s e j (moves (major s e) (minor s e) (j + 1)) ≡ extra_at s e j
  unfolding mirrored extra_at point_at x_moves y_moves
  minor_alone j = by (steep s e) (alike s e)
    where
      by : (t a : Bool) → cond t (not a) a ≡ true
          → place_at s e (cond t (moves (major s e) (minor s e) (j + 1)) j) (cond t j (moves (major s e) (minor s e) (j + 1))) ≡ beside_both a (at t j) (at t (j + 1))
      by true true f = absurd (false≢true f)
      by true false f = refl
      by false true f = refl
      by false false f = absurd (false≢true f)

-- ---- the point of index i after k + m moves
module _ (s e : Point) (i k m : ℕ) (l : i ≤ last_index s e) (sum : k + m ≡ i) (d : MovesMade (major s e) (minor s e) k m) where
  pub made_within : k ≤ major s e
  made_within = within (major s e) (minor s e) k m (narrow s e) d (omega arith)

  -- no minor move is due: the normal point of step k
  module _ (t : is_due (major s e) (minor s e) k m ≡ false) where
    m_is : moves (major s e) (minor s e) k ≡ m
    m_is = moves_is (major s e) (minor s e) k m made_within d.few (record { low = d.low; high = ltb-false _ _ t })

    its_index : index_of s e k ≡ i
    its_index = index_is s e k ∙ ap (λ (x : ℕ). k + x) m_is ∙ sum

    pub made_normal : standing s e k m ≡ connected_at s e i
    made_normal = ap (standing s e k) (sym m_is) ∙ standing_point s e k ∙ sym (normal_at s e k made_within) ∙ ap (connected_at s e) its_index

    pub made_normal_is : false ≡ is_extra s e i
    made_normal_is = sym (normal_is s e k made_within) ∙ ap (is_extra s e) its_index

  -- a minor move is due: the extra point before the normal one of step k
  module _ (t : is_due (major s e) (minor s e) k m ≡ true) where
    turned : Turn (major s e) (minor s e) k m
    turned =
        let due = ltb-true _ _ t in
        turn (major s e) (minor s e) k m (due_some (major s e) (minor s e) k m (narrow s e) due) (narrow s e) d due

    abbrev j : ℕ
    j = turned.j

    grown : Grows s e j
    grown = turned.then ∙ ap (λ (x : ℕ). x + 1) (sym turned.was)

    index_before : index_of s e j + 1 ≡ i
    index_before = omega (arith, index_is s e j, turned.was, turned.step)

    early : j < major s e
    early = omega (arith, made_within, turned.step)

    there : extra_at s e j ≡ connected_at s e i
    there = sym (extra_at_lem s e j early grown) ∙ ap (connected_at s e) index_before

    pub made_some : 0 < k
    made_some = omega (arith, turned.step)

    pub made_extra : mirrored s e ≡ false → standing s e k m ≡ connected_at s e i
    made_extra f = ap₂ (standing s e) turned.step (sym turned.was) ∙ major_alone s e j f ∙ there

    pub made_mirrored : mirrored s e ≡ true → standing s e (k - 1) (m + 1) ≡ connected_at s e i
    made_mirrored f = ap₂ (standing s e) (omega (arith, turned.step)) (sym turned.then) ∙ minor_alone s e j f ∙ there

    pub made_extra_is : true ≡ is_extra s e i
    made_extra_is = sym (extra_is s e j early grown) ∙ ap (is_extra s e) index_before

-- ---- the minor ones of i moves, by a quotient
module _ (M n i q : ℕ) (some : 0 < M) (h : n ≤ M) where
  twice : q * (2 * M + 2 * n) ≤ 2 * n * i + (M - 1) → 2 * q ≤ i
  twice low =
      let a : n * i ≤ M * i = mul-le-mul_right i h in
      let b : (M + n) * (2 * q) < (M + n) * (i + 1) = omega arith in
      omega (arith, lt_of_mul-lt-mul_left (M + n) b)

by_parts : (M n k q : ℕ) → 0 < M → q ≤ k → q * (2 * M + 2 * n) ≤ 2 * n * (k + q) + (M - 1) → 2 * n * (k + q) + (M - 1) < q * (2 * M + 2 * n) + (2 * M + 2 * n) → MovesMade M n k q
by_parts M n k q some few low high = record { few = few; low = omega arith; due = omega arith }

pub quotient_made : (M n i : ℕ) → 0 < M → n ≤ M
    → MovesMade M n (i - (2 * n * i + (M - 1)) / (2 * M + 2 * n)) ((2 * n * i + (M - 1)) / (2 * M + 2 * n))
quotient_made M n i some h =
    let a : ℕ = 2 * n * i + (M - 1) in
    let q : ℕ = a / (2 * M + 2 * n) in
    let low : q * (2 * M + 2 * n) ≤ a = div-mul-le_self a (2 * M + 2 * n) in
    let high : a < q * (2 * M + 2 * n) + (2 * M + 2 * n) = lt-div-mul-add {a = a} {b = 2 * M + 2 * n} (omega arith) in
    let two : 2 * q ≤ i = twice M n i q some h low in
    let sum : i ≡ i - q + q = omega arith in
    by_parts M n (i - q) q some (omega arith) (subst (λ (x : ℕ). q * (2 * M + 2 * n) ≤ 2 * n * x + (M - 1)) sum low)
    (subst (λ (x : ℕ). 2 * n * x + (M - 1) < q * (2 * M + 2 * n) + (2 * M + 2 * n)) sum high)

-- a line of one point makes none
pub none_made : (n i : ℕ) → n ≤ 0 → i ≤ 0 + n → MovesMade 0 n (i - 0) 0
none_made zero i h l = record { few = omega arith; low = omega arith; due = omega arith }
none_made (suc n) i h l = absurd (omega arith)
