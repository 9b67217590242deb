-- `streams::State::refill` keeps no more bytes than there are, and reads behind them. Assumes nothing.
use mathlib.Core.Path.{◌≡◌, refl, sym, ap, ap₂, ◌∙◌}
use Prim.Native.Nat.{ℕ, zero, suc, ◌+◌, ◌-◌, ◌≤◌, ◌<◌}
use native.Mathlib.Omega.{arith}
use lib.ListN.{length, take}
use Rattle.std.specs.Prelude.{Option, Some, None, unwrap_or}
use Rattle.text.proofs.Writing.{kept_count}
use Rattle.streams.specs.declared.Input.{Input}
use Rattle.streams.specs.declared.Input.TheVariants.{More, End}
use Rattle.streams.specs.declared.State.{State}
use Rattle.streams.specs.Refill.{rest, hope, Refilled}
use Rattle.streams.proofs.Refilling.{front, did_read}
use Rattle.streams.proofs.State.refill.Goals as goal
use Rattle.streams.proofs.State.refill.Goals.{After-keep-kept, Joined-read_more, in-Ok, in-Ok-2, in-Err}

-- what is kept
module _ (c : After-keep-kept) where
  few : length (rest c.args.input.now c.args.self) ≤ length c.args.input.now
  few = omega (arith, c.requires.0.most, c.requires.2, kept_count c.args.input.now c.args.self.next c.args.self.end 129 (omega (arith, c.requires.0.most, c.requires.2)))

  fits : c.keep-kept.result ≤ length c.keep-kept.new.buf
  fits = omega (arith, c.keep-kept.ensures.0, c.keep-kept.auto.buf, few)

pub read_more-requires : goal.read_more-requires
read_more-requires c = fits (goal.at.read_more-requires c).After-keep-kept

-- some bytes came, or none
some : (n : ℕ) → 0 < n → More ≡ hope (Some n)
some zero h = absurd (omega arith)
some (suc n) h = refl

none : (n : ℕ) → n ≤ 0 → End ≡ hope (Some n)
none zero h = refl
none (suc n) h = absurd (omega arith)

-- after the read
module _ (c : Joined-read_more) where
  abbrev state : State
  state =
      record c.args.self {
        next = 0;
        end = c.keep-kept.result + c.match-read_more.count.0;
        input = c.match-read_more.count.1;
        turns = c.args.self.turns - 1;
      }

  read_on : (read : Option ℕ) → c.match-read_more.count ≡ (unwrap_or read 0, hope read) → c.keep-kept.result + unwrap_or read 0 ≤ length c.keep-kept.new.buf
      → Refilled c.args.input.now c.args.self state c.read_more.new.input
  read_on read e room =
      let k = c.keep-kept in
      let r = c.read_more in
      let st = c.args.self in
      let input = c.args.input.now in
      did_read input st state r.new.input (sym c.has_line.ensures ∙ c.if-has_line.false)
      (record {
        read = read;
        state =
            ap₂ (λ (n : ℕ) (p : ℕ × Input). record st { next = 0; end = n + p.0; input = p.1; turns = st.turns - 1 }) k.ensures.0 e;
        room = omega (arith, room, k.ensures.0, k.auto.buf, c.requires.2);
        there = omega (arith, room, k.ensures.0, r.auto.input);
        kept =
            ap (λ (n : ℕ). take n r.new.input) (sym k.ensures.0) ∙ r.ensures.kept ∙ ap (λ (n : ℕ). take n k.new.buf) k.ensures.0
            ∙ ap (take (length (rest input st))) k.ensures.1 ∙ front input (rest input st) (few (goal.at.returns c).After-keep-kept);
      })

  came_some : (n : ℕ) {i : Input} → c.match-read_more.count ≡ (n, i) → i ≡ hope (Some n) → c.keep-kept.result + n ≤ length c.keep-kept.new.buf
      → Refilled c.args.input.now c.args.self state c.read_more.new.input
  came_some n e h room = read_on (Some n) (e ∙ ap (λ (i : Input). (n, i)) h) room

pub returns : goal.returns
returns c =
    elim c.match-read_more.branch [
      | in-Ok w ↦ came_some c w.in-Ok.count w.count-is (some w.in-Ok.count (omega arith)) (omega (arith, w.in-Ok.ensures.room))
      | in-Ok-2 w ↦ came_some c w.in-Ok.count w.count-is (none w.in-Ok.count (omega arith)) (omega (arith, w.in-Ok.ensures.room))
      | in-Err w ↦ read_on c None w.count-is (omega (arith, fits (goal.at.returns c).After-keep-kept))
    ]
