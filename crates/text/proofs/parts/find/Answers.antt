-- `text::parts::find` answers the first place of the byte, or the length. Assumes nothing.
use mathlib.Core.Path.{◌≡◌, refl, sym, ◌∙◌}
use Prim.Native.Nat.{ℕ}
use borrow.Author.Tests.{tests}
use Rattle.std.proofs.Common.{rules}
use Rattle.std.proofs.lemmas.Iterator.{IsFirst-from_position, YieldsList-from_slice, index_from_first}
use Rattle.text.specs.Fields.{until}
use Rattle.text.proofs.Parting.{until_here, until_on}
use Rattle.text.proofs.parts.find.Goals as goal

pub returns : goal.returns
returns c =
    let stop : ℕ = c.args.stop in
    c.unwrap_or.ensures
    ∙ sym (index_from_first (until stop) (λ b. b ≡ stop) (λ b. b ≡ stop → ⊥) refl (until_here stop) (until_on stop) c.args.s.now c.position.result
    (IsFirst-from_position _ _ _ (λ b. b ≡ stop) (λ b. b ≡ stop → ⊥) c.position.ensures.ran (YieldsList-from_slice c.args.s.now cc) (λ x q k. search (rules, tests)) (λ x q k. search (rules, tests))))
