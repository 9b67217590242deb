-- `packing::masks_of` puts a depth's masks of the table beside one another: all of them are compared at once with those of the rule, which the checker works out. Assumes nothing.
use mathlib.Core.Path.{◌≡◌, sym, ap, ◌∙◌}
use native.Mathlib.Omega.{arith}
use Rattle.layout.specs.Packed.{field, per, slot_of}
use Rattle.packing.specs.Words.{masks_of}
use Rattle.packing.proofs.Masks.{else_four}
use Rattle.packing.proofs.masks_of.Goals as goal

pub returns-in-1 : goal.returns-in-1
unfolding field per slot_of
returns-in-1 c =
    let m : c.from_be_bytes.result ≡ masks_of 1 = c.from_be_bytes.ensures in
    m ∙ sym (ap masks_of c.in-1.is)

pub returns-in-2 : goal.returns-in-2
unfolding field per slot_of
returns-in-2 c =
    let m : c.from_be_bytes-in-2.result ≡ masks_of 2 = c.from_be_bytes-in-2.ensures in
    m ∙ sym (ap masks_of c.in-2.is)

pub returns-in_default : goal.returns-in_default
unfolding field per slot_of
returns-in_default c =
    let m : c.from_be_bytes-in_default.result ≡ masks_of 4 = c.from_be_bytes-in_default.ensures in
    m ∙ sym (ap masks_of (else_four c.args.depth c.requires.0 c.requires.1 (λ e. omega arith) (λ e. omega arith)))
