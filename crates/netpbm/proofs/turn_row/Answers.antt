-- `netpbm::turn_row` has turned the first p pixels after p turns. Assumes nothing.
use mathlib.Core.Path.{◌≡◌, ap, ◌∙◌}
use mathlib.Core.List.{List}
use Prim.Native.Nat.{ℕ, ◌+◌, ◌*◌, ◌-◌, ◌/◌, ◌%◌}
use native.Mathlib.Omega.{arith}
use lib.ListN.{get_or, set}
use Rattle.layout.specs.Digits.{set_run}
use Rattle.layout.proofs.Runs.{run_then}
use Rattle.netpbm.specs.Words.{turned_row}
use Rattle.netpbm.proofs.turn_row.Goals as goal

-- the three bytes of one more pixel
one_more : (a : List ℕ) (p : ℕ) (b : List ℕ) {c : List ℕ} → c ≡ turned_row a 0 0 p b
    → set (set (set c (p * 3) (get_or a (p * 3 + 2) 0)) (p * 3 + 1) (get_or a (p * 3 + 1) 0)) (p * 3 + 2) (get_or a (p * 3) 0) ≡ turned_row a 0 0 (p + 1) b
one_more a p b {c} e =
    let t : (k : ℕ) → p * 3 + k ≡ 0 + p * 3 + k = λ k. omega arith in
    let t0 : p * 3 ≡ 0 + p * 3 + 0 = omega arith in
    let s0 : p * 3 + 2 ≡ 0 + (p * 3 + 0) / 3 * 3 + (2 - (p * 3 + 0) % 3) = omega arith in
    let s1 : p * 3 + 1 ≡ 0 + (p * 3 + 1) / 3 * 3 + (2 - (p * 3 + 1) % 3) = omega arith in
    let s2 : p * 3 ≡ 0 + (p * 3 + 2) / 3 * 3 + (2 - (p * 3 + 2) % 3) = omega arith in
    let n : p * 3 + 3 ≡ (p + 1) * 3 = omega arith in
    (λ i. set (set (set (e i) (t0 i) (get_or a (s0 i) 0)) (t 1 i) (get_or a (s1 i) 0)) (t 2 i) (get_or a (s2 i) 0))
    ∙ run_then 0 (p * 3) 3 (λ k. get_or a (0 + k / 3 * 3 + (2 - k % 3)) 0) b ∙ ap (λ (k : ℕ). set_run 0 k (λ k. get_or a (0 + k / 3 * 3 + (2 - k % 3)) 0) b) n

pub loop-p-preserved : goal.loop-p-preserved
loop-p-preserved c = one_more c.args.from.now c.loop-p.p c.args.to.now c.loop-p.invariant
