-- `netpbm::copy_row` copies the bytes before the last, which leaves that one as it was, and masks it. Assumes nothing.
use mathlib.Core.Path.{◌≡◌, ap, ◌∙◌}
use mathlib.Core.Logic.{inr}
use mathlib.Core.List.{List, ◌++◌}
use Prim.Native.Nat.{ℕ, ◌+◌, ◌-◌}
use native.Mathlib.Omega.{arith}
use lib.Bits.{bit_and}
use lib.ListN.{length, get_or, set, drop}
use Rattle.layout.proofs.Runs.{run_out}
use Rattle.packing.specs.Words.{merged}
use Rattle.netpbm.proofs.Rows.{copied_front}
use Rattle.netpbm.proofs.copy_row.Goals as goal

pub returns : goal.returns
returns c =
    let a = c.args in
    let b = a.to.now in
    let last = length b - 1 in
    let z : last ≡ 0 + last = omega arith in
    let run = ap (λ (s : List ℕ). s ++ drop last b) c.copy.ensures ∙ copied_front last a.from.now b (omega arith) (omega arith) in
    let old = ap (λ (l : List ℕ). get_or l last 0) run ∙ run_out 0 last _ b last (inr (omega arith)) ∙ ap (λ (k : ℕ). get_or b k 0) z in
    λ i. set (run i) (z i) (merged (bit_and (old i) a.kept) (get_or a.from.now (z i) 0) a.mask)
