-- `edges::Run::one_more` hands out one more point of the edge, and widens the columns by its own. Assumes nothing.
use mathlib.Core.Path.{◌≡◌, refl, ap, ap₂, ◌∙◌}
use native.Mathlib.Omega.{arith}
use mir.Syntax.{w32}
use mir.Val.{to_z, of_z}
use borrow.Author.Rules.{rules}
use Rattle.whole.proofs.Compared.{min_is, max_is}
use Rattle.geometry.specs.declared.Point.{Point}
use Rattle.geometry.specs.Extreme.{lesser, greater}
use Rattle.edges.proofs.Runs.{to_go, one_less}
use Rattle.edges.proofs.Run.one_more.Goals as goal

pub returns : goal.returns
returns c =
    let x : to_z w32 (of_z w32 c.step-stepped.result.point.0) ≡ c.step-stepped.result.point.0 = search rules in
    let low : to_z w32 (of_z w32 c.args.self.met.low) ≡ c.args.self.met.low = search rules in
    let high : to_z w32 (of_z w32 c.args.self.met.high) ≡ c.args.self.met.high = search rules in
    let low' : to_z w32 (of_z w32 c.min.result) ≡ c.min.result = search rules in
    let high' : to_z w32 (of_z w32 c.max.result) ≡ c.max.result = search rules in (
      omega (arith, c.requires.1),
      refl,
      λ s e n k h.
          let g = c.step-stepped.ensures s e k (to_go h c.requires.1) h.at in
          let column = x ∙ ap (λ (p : Point). p.0) g.0 in
          record {
            here = one_less h c.requires.1 g.1;
            low = low' ∙ c.min.ensures.value ∙ min_is (to_z w32 (of_z w32 c.args.self.met.low)) (to_z w32 (of_z w32 c.step-stepped.result.point.0)) ∙ ap₂ lesser low column;
            high = high' ∙ c.max.ensures.value ∙ max_is (to_z w32 (of_z w32 c.args.self.met.high)) (to_z w32 (of_z w32 c.step-stepped.result.point.0)) ∙ ap₂ greater high column;
          },
    )
