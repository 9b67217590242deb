-- `packing::repeat` has laid k whole blocks after k turns; the last call lays as much of one as is left. Assumes nothing.
use mathlib.Core.Path.{◌≡◌, ap, ◌∙◌}
use Prim.Native.Nat.{ℕ, ◌+◌, ◌*◌, ◌/◌, ◌%◌}
use native.Mathlib.Nat.{mul-mod_left, mod-lt, div-add-mod'}
use native.Mathlib.Omega.{arith}
use lib.ListN.{length, get_or}
use Rattle.layout.specs.Digits.{set_run}
use Rattle.packing.proofs.Parts.{room_for, block_on}
use Rattle.packing.proofs.repeat.Goals as goal

pub loop-k-preserved : goal.loop-k-preserved
loop-k-preserved g c =
    let a = c.args in
    let n = g.row.N in
    let l = c.loop-k in
    let i = l.k * n in
    let room = room_for l.k n (length a.part.now) (omega arith) in
    let next : i + n ≡ (l.k + 1) * n = omega arith in
    block_on n i (i + n) a.part.now l.part c.lay.new.part a.block (mul-mod_left l.k n) (omega arith) (omega arith) (omega arith) l.invariant c.lay.ensures
    ∙ ap (λ (k : ℕ). set_run 0 k (λ j. get_or a.block (j % n) 0) a.part.now) next

pub returns : goal.returns
returns g c =
    let a = c.args in
    let n = g.row.N in
    let l = c.loop-k in
    let len = length a.part.now in
    let whole = div-add-mod' len n in
    let rest = mod-lt len c.requires.0 in
    let last : l.k ≡ len / n = omega arith in
    let same : length l.part ≡ len = omega arith in
    block_on n (len / n * n) (length l.part) a.part.now l.part c.lay-2.new.part a.block (mul-mod_left (len / n) n) (omega arith) (omega arith) (omega arith)
    (l.invariant ∙ ap (λ (k : ℕ). set_run 0 (k * n) (λ j. get_or a.block (j % n) 0) a.part.now) last) c.lay-2.ensures
    ∙ ap (λ (k : ℕ). set_run 0 k (λ j. get_or a.block (j % n) 0) a.part.now) same
