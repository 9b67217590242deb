-- `line::is_moves` tests the band that fixes the moves at a step. Assumes nothing.
use mathlib.Core.Path.{◌≡◌, sym, ap, subst, ◌∙◌}
use Prim.Native.Nat.{ℕ, ◌+◌, ◌*◌, ◌-◌, ◌≤◌}
use native.Mathlib.Omega.{arith}
use lib.Dec.{eqb, leb}
use borrow.Author.Tests.{eq-eqb, ne_eqb, le-ltb}
use Rattle.whole.proofs.Decides.{decides_one, decides_map, decides_leb, decides_eqb}
use Rattle.line.specs.Line.{moves}
use Rattle.line.proofs.Moves.{Band, moves_none, moves_band, moves_fixed}
use Rattle.line.proofs.is_moves.Goals as goal
use Rattle.line.proofs.is_moves.Goals.{Start}

band : (c : Start) → Band c.args.major c.args.minor c.args.along (moves c.args.major c.args.minor c.args.along)
band c = moves_band c.args.major c.args.minor c.args.along (omega arith) (omega arith)

pub returns-then-major-eq0 : goal.returns-then-major-eq0
returns-then-major-eq0 c =
    let none : moves c.args.major c.args.minor c.args.along ≡ 0 =
    ap (λ (M : ℕ). moves M c.args.minor c.args.along) c.if-major-eq0.true ∙ moves_none c.args.minor c.args.along in
    sym (eq-eqb c.args.across (moves c.args.major c.args.minor c.args.along) (omega arith))

pub returns-then-here-ideal : goal.returns-then-here-ideal
returns-then-here-ideal c =
    let M : ℕ = c.args.major in
    let n : ℕ = c.args.minor in
    let k : ℕ = c.args.along in
    let q : ℕ = c.args.across in
    decides_one (leb (2 * n * k) (2 * M * q + M)) (eqb q (moves M n k))
    (decides_map (decides_leb (2 * n * k) (2 * M * q + M)) (λ h. sym (moves_fixed M n k q (omega arith) (record { low = omega arith; high = h })))
    (λ e. subst (λ (m : ℕ). 2 * n * k ≤ 2 * M * m + M) (sym e) (band (goal.at.returns-then-here-ideal c).Start).high))
    (decides_eqb q (moves M n k))

pub returns-else-here-ideal : goal.returns-else-here-ideal
returns-else-here-ideal c =
    let M : ℕ = c.args.major in
    let n : ℕ = c.args.minor in
    let k : ℕ = c.args.along in
    let q : ℕ = c.args.across in
    let low : q ≡ moves M n k → 2 * M * q ≤ 2 * n * k + (M - 1) = λ e. subst (λ (m : ℕ). 2 * M * m ≤ 2 * n * k + (M - 1)) (sym e) (band (goal.at.returns-else-here-ideal c).Start).low in
    le-ltb (2 * M * q) (2 * n * k + M) c.if-here-ideal.false ∙ sym (ne_eqb q (moves M n k) (λ e. omega (arith, low e)))
