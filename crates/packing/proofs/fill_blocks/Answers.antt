-- `packing::fill_blocks` is right since a block holds whole pixels. Assumes nothing.
use mathlib.Core.Path.{◌≡◌, sym, ap, ◌∙◌}
use Prim.Native.Nat.{ℕ, ◌/◌, ◌%◌, ◌≤◌, ◌<◌}
use native.Mathlib.Nat.{le_of_lt}
use native.Mathlib.Omega.{arith}
use lib.ListN.{length, get_or, replicate}
use Rattle.layout.specs.Digits.{set_run}
use Rattle.layout.specs.Packed.{full_byte}
use Rattle.layout.proofs.Places.{large, depth_le}
use Rattle.packing.specs.Words.{pixel_byte, block_size}
use Rattle.packing.proofs.Parts.{block_of_pixels, size_is, size_other, whole_48, whole_64, run_of_pixels}
use Rattle.packing.proofs.fill_blocks.Goals as goal
use Rattle.packing.proofs.fill_blocks.Goals.{After-block-bytes}

-- blocks of n bytes are a run of pixels
filled : (c : After-block-bytes) (n : ℕ) → 0 < n → n ≤ 64 → n ≡ block_size c.args.depth → ((j : ℕ) → j % n % (c.args.depth / 8) ≡ j % (c.args.depth / 8))
    → (let a = c.args in
    let len = length a.part.now in
    set_run 0 len (λ j. get_or c.block-bytes.result (j % n) 0) a.part.now ≡ set_run 0 len (full_byte a.depth a.big a.colour) a.part.now)
filled c n some few e whole =
    let a = c.args in
    let len = length a.part.now in
    block_of_pixels (a.depth / 8) a.big a.colour n len c.block-bytes.result a.part.now some few whole
    (c.block-bytes.ensures ∙ ap (λ (k : ℕ). set_run 0 k (pixel_byte (a.depth / 8) a.big a.colour) (replicate 64 0)) (sym e))
    ∙ run_of_pixels a.depth a.big a.colour len a.part.now c.requires.0 (le_of_lt c.requires.1)

pub returns-then-depth-eq24 : goal.returns-then-depth-eq24
returns-then-depth-eq24 c =
    let d = c.args.depth in
    c.repeat.ensures ∙ filled (goal.at.returns-then-depth-eq24 c).After-block-bytes 48 (omega arith) (omega arith) (size_is d (omega arith)) (λ j. whole_48 (d / 8) j (omega arith))

pub returns-else-depth-eq24 : goal.returns-else-depth-eq24
returns-else-depth-eq24 c =
    let d = c.args.depth in
    let w = (large d c.requires.0 (le_of_lt c.requires.1)).3 in
    let m = depth_le d c.requires.0 in
    c.repeat-else-depth-eq24.ensures ∙ filled (goal.at.returns-else-depth-eq24 c).After-block-bytes 64 (omega arith) (omega arith) (size_other d (λ e. omega arith)) (λ j. whole_64 (d / 8) j (omega arith) (omega arith) (λ e. omega arith))
