-- `packing::load` puts the bytes together, the highest first: they are those of the part, or with the little end first those from its end. Assumes nothing.
use mathlib.Core.Path.{◌≡◌, refl, sym, ap, ◌∙◌}
use mathlib.Core.Bool.{Bool}
use Prim.Native.Nat.{ℕ, ◌-◌}
use native.Mathlib.Omega.{arith}
use borrow.Author.Rules.{rules}
use lib.ListN.{length, get_or}
use Rattle.std.specs.List.{fold}
use Rattle.std.specs.Prelude.{reverse}
use Rattle.std.proofs.lemmas.List.{get_or-reverse, length-reverse}
use Rattle.layout.specs.Packed.{turned}
use Rattle.packing.proofs.Parts.{below_those, read_all}
use Rattle.packing.proofs.load.Goals as goal

pub returns-then-big : goal.returns-then-big
returns-then-big c =
    let b = c.args.part.now in
    let n = length b in
    let e : c.fold.result ≡ fold below_those 0 b = search rules in
    e
    ∙ read_all n (λ k. get_or b (turned c.args.big n k) 0) (λ m. (c.type_inv.part _).fits) c.requires b refl
    (λ j h.
    (let i : j ≡ n - 1 - (n - 1 - j) = omega arith in ap (λ (k : ℕ). get_or b k 0) i)
    ∙ ap (λ (t : Bool). get_or b (turned t n (n - 1 - j)) 0) (sym c.if-big.true))

pub returns-else-big : goal.returns-else-big
returns-else-big c =
    let b = c.args.part.now in
    let n = length b in
    let e : c.fold-else-big.result ≡ fold below_those 0 (reverse b) = search rules in
    e
    ∙ read_all n (λ k. get_or b (turned c.args.big n k) 0) (λ m. (c.type_inv.part _).fits) c.requires (reverse b) (length-reverse b)
    (λ j h. get_or-reverse b j 0 h ∙ ap (λ (t : Bool). get_or b (turned t n (n - 1 - j)) 0) (sym c.if-big.false))
