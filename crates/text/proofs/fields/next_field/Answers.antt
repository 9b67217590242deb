-- `text::fields::next_field` looks for the next tab in the rest of the line. Assumes nothing.
use mathlib.Core.Path.{◌≡◌, sym, ap}
use Prim.Native.Nat.{ℕ, ◌+◌, ◌≤◌}
use native.Mathlib.Omega.{arith}
use lib.ListN.{length, take}
use lib.Seq.{length-take-le}
use Rattle.text.specs.Fields.{field_at, field_end}
use Rattle.text.proofs.Parting.{until_within, field_found}
use Rattle.text.proofs.fields.next_field.Goals as goal
use Rattle.text.proofs.fields.next_field.Goals.{After-find-end}

found : (c : After-find-end)
    → let line = c.args.line.now in
    (c.args.at + c.find-end.result ≤ length line) × (take c.find-end.result c.in_ok-rest.rest.now ≡ field_at line c.args.at)
    × (c.args.at + c.find-end.result ≡ field_end line c.args.at)
found c =
    let l = c.in_ok-rest.ensures.lookup.0 in
    field_found c.args.line.now c.in_ok-rest.rest.now c.args.at c.find-end.result l.0 l.2 c.find-end.ensures

pub slice_bounds-result-end : goal.slice_bounds-result-end
slice_bounds-result-end c =
    let rest = c.in_ok-rest.rest.now in
    sym (length-take-le c.find-end.result rest (omega (arith, c.find-end.ensures, until_within 9 rest)))

pub overflow_add-result : goal.overflow_add-result
overflow_add-result c = omega (arith, (found c).0)

pub overflow_add-result-2 : goal.overflow_add-result-2
overflow_add-result-2 c = omega (arith, (found c).0)

pub returns : goal.returns
returns c = let f = found c in (c.in_ok-rest.ensures.lookup.0.0, f.1, ap (λ (k : ℕ). k + 1) f.2)
