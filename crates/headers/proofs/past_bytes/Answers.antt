-- `headers::past_bytes` counts the bytes in front that are alike, behind a place. Assumes nothing.
use mathlib.Core.Path.{◌≡◌, ap, ◌∙◌}
use Prim.Native.Nat.{ℕ, ◌+◌, ◌-◌}
use lib.ListN.{length, take, drop}
use Rattle.std.specs.Slice.Iter.{iter_rest}
use Rattle.std.proofs.Common.{rules}
use Rattle.std.proofs.lemmas.List.{drop_min}
use Rattle.std.proofs.lemmas.Iterator.{YieldsList-from_slice}
use Rattle.std.proofs.lemmas.Iterator.Search.{YieldsList-from_take_while}
use Rattle.std.proofs.lemmas.Iterator.Consumers.{count_from_yields_List}
use Rattle.text.proofs.Numbers.{rest_is}
use Rattle.headers.specs.Header.{space_is, past}
use Rattle.headers.proofs.Parsing.{is_wanted, walked}
use Rattle.headers.proofs.past_bytes.Goals as goal

pub returns : goal.returns
unfolding past
returns c =
    let a = c.args in
    let s = a.file.now in
    let n = c.min.result in
    let part : iter_rest c.take_while.result.iter ≡ take (length s - n) (drop n s) = cc in
    let rest = part ∙ rest_is s n ∙ ap (λ (n : ℕ). drop n s) c.min.ensures ∙ drop_min a.at s in
    ap (λ (n : ℕ). a.at + n)
    (count_from_yields_List _ c.count.result c.count.ensures.ran
    (YieldsList-from_take_while _ (space_is a.spaces) (YieldsList-from_slice (drop a.at s) rest) c.take_while.ensures.closure c.take_while.ensures.done (λ x b q k. search (rules, is_wanted)))
    ∙ walked (space_is a.spaces) _)
