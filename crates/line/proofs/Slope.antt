-- Lines of one slope: m goes by the slope alone, so that a line starts with the points of any shorter one; and from a corner, a step where the ideal line
-- meets a pixel, a line goes on as it went from its start. Assumes nothing.
use mathlib.Core.Path.{◌≡◌, refl, sym, ap, subst, ◌∙◌}
use mathlib.Core.Bool.{Bool, true, false}
use Prim.Native.Nat.{ℕ, zero, suc, ◌+◌, ◌*◌, ◌≤◌, ◌<◌}
use native.Mathlib.Nat.{mul-le-mul_left, mul-le-mul_right, mul-lt-mul_of_pos_left, le_of_mul-le-mul_left, lt_of_mul-lt-mul_left}
use native.Mathlib.Decide.{dec_lt}
use native.Mathlib.Omega.{arith}
use borrow.Author.Tests.{leb-true, leb-false, le-leb, lt-leb}
use lib.Dec.{leb}
use Rattle.line.specs.Line.{moves}
use Rattle.line.proofs.Moves.{moves_band, moves_fixed, moves_none, moves_start}
use Rattle.line.proofs.Closed.{OnLine}

-- ---- m, where n is to M as n' to M'
-- m's two inequalities, times M' and divided by M, are those of the longer line
moves_longer : (M n M' n' k : ℕ) → 0 < M → n * M' ≡ n' * M → M ≤ M' → n ≤ M → k ≤ M → moves M' n' k ≡ moves M n k
moves_longer M n M' n' k some slope longer narrow few =
    let q : ℕ = moves M n k in
    let b = moves_band M n k narrow few in
    let s : n * M' * k ≡ n' * M * k = ap (λ (x : ℕ). x * k) slope in
    let l : M' * (2 * M * q + 1) ≤ M' * (2 * n * k + M) = mul-le-mul_left M' (omega (arith, b.low)) in
    let h : M' * (2 * n * k) ≤ M' * (2 * M * q + M) = mul-le-mul_left M' b.high in
    let low : 2 * M' * q < 2 * n' * k + M' = lt_of_mul-lt-mul_left M (omega arith) in
    let high : 2 * n' * k ≤ 2 * M' * q + M' = le_of_mul-le-mul_left {k = M} (omega arith) some in
    moves_fixed M' n' k q (omega arith) (record { low = omega arith; high = high })

-- the corner adds 2 n M' = 2 n' M to both sides of them
moves_further : (M n M' n' k : ℕ) → n * M' ≡ n' * M → n ≤ n' → n' ≤ M' → k ≤ M' → moves M' n' (M + k) ≡ n + moves M' n' k
moves_further M n zero n' k slope less narrow few = moves_none n' (M + k) ∙ omega (arith, moves_none n' k)
moves_further M n (suc N) n' k slope less narrow few =
    let b = moves_band (suc N) n' k narrow few in
    moves_fixed (suc N) n' (M + k) (n + moves (suc N) n' k) (omega arith) (record { low = omega (arith, b.low); high = omega (arith, b.high) })

-- ---- a line that is W wide and H high, and the corner w along and h down it
module _ (W H w h : ℕ) (slope : w * H ≡ W * h) (wider : w ≤ W) (higher : h ≤ H) (u v : ℕ) where
  -- the line to the corner has the same major axis, unless it is a point
  steeper : w ≤ h → 0 < h → W ≤ H
  steeper l some = le_of_mul-le-mul_left {k = h} (omega (arith, mul-le-mul_right H l)) some

  flatter : h < w → H < W
  flatter l = lt_of_mul-lt-mul_left w (omega (arith, mul-lt-mul_of_pos_left {k = W} l (omega arith)))

  at_start : (t : Bool) → u ≡ 0 → v ≡ 0 → OnLine t W H u v
  at_start true a b = (omega arith, a ∙ sym (moves_start H W) ∙ ap (moves H W) (sym b))
  at_start false a b = (omega arith, b ∙ sym (moves_start W H) ∙ ap (moves W H) (sym a))

  -- THE POINTS OF THE SHORTER LINE are points of the longer one
  pub on_longer : OnLine (leb w h) w h u v → OnLine (leb W H) W H u v
  on_longer o = by (leb w h) (leb-true w h) (leb-false w h) (dec_lt 0 h) o
    where
      by : (t : Bool) → (t ≡ true → w ≤ h) → (t ≡ false → h < w) → Dec (0 < h) → OnLine t w h u v → OnLine (leb W H) W H u v
      by true f g (yes some) o =
          subst (λ (t : Bool). OnLine t W H u v) (sym (le-leb W H (steeper (f refl) some)))
          (omega (arith, o.0), o.1 ∙ sym (moves_longer h w H W v some slope higher (f refl) o.0))
      by true f g (no none) o =
          let e : h ≡ 0 = omega arith in
          at_start (leb W H) (o.1 ∙ ap (λ (n : ℕ). moves n w v) e ∙ moves_none w v) (omega (arith, o.0))
      by false f g d o =
          let l = g refl in
          subst (λ (t : Bool). OnLine t W H u v) (sym (lt-leb W H (flatter l)))
          (omega (arith, o.0), o.1 ∙ sym (moves_longer w h W H u (omega arith) (omega arith) wider (omega arith) o.0))

  -- ON FROM THE CORNER
  pub on_further : w + u ≤ W → h + v ≤ H → OnLine (leb W H) W H u v → OnLine (leb W H) W H (w + u) (h + v)
  on_further a b o = by (leb W H) (leb-true W H) (leb-false W H) o
    where
      by : (t : Bool) → (t ≡ true → W ≤ H) → (t ≡ false → H < W) → OnLine t W H u v → OnLine t W H (w + u) (h + v)
      by true f g o = (b, ap (λ (n : ℕ). w + n) o.1 ∙ sym (moves_further h w H W v slope wider (f refl) o.0))
      by false f g o = (a, ap (λ (n : ℕ). h + n) o.1 ∙ sym (moves_further w h W H u (omega arith) higher (omega (arith, g refl)) o.0))
