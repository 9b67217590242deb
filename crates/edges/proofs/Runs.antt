-- Laws of a run: the points of an edge go down, so those of a row follow one another. Assumes nothing.
use mathlib.Core.Path.{◌≡◌, refl, sym, subst, ◌∙◌}
use mathlib.Core.Logic.{◌⊎◌, inl, inr, ⊎_elim}
use Prim.Native.Nat.{ℕ, ◌+◌, ◌-◌, ◌≤◌, ◌<◌}
use native.Mathlib.Nat.{le_refl}
use native.Mathlib.Decide.{dec_lt}
use native.Mathlib.Omega.{arith}
use lib.IntN.{ℤ, pos, ◌+ℤ◌}
use lib.Signed.{◌≤ℤ◌, ◌<ℤ◌}
use Rattle.whole.proofs.Difference.{le_nat, lt_nat, nat_lt}
use Rattle.whole.proofs.Order.{le_self, le_of, le_trans, lt_le, lt_of, lt_apart, le_lt_more, lt_more_le}
use Rattle.geometry.specs.declared.Point.{Point}
use Rattle.geometry.proofs.Extreme.{extremes}
use Rattle.line.specs.declared.Walker.{Walker}
use Rattle.line.specs.Line.{major, point_at}
use Rattle.line.specs.Walk.{WalkerAt}
use Rattle.line.proofs.Points.{rows_down}
use Rattle.edges.specs.declared.Side.{Side}
use Rattle.edges.specs.declared.Met.{Met}
use Rattle.edges.specs.declared.Run.{Run}
use Rattle.edges.specs.Side.{WalkedTo, EdgeAt, Taken, Ran}

-- a walker that has points left is not past the last step
pub to_go : {s e : Point} {n k : ℕ} {w : Walker} {left : ℕ} → WalkedTo s e n k w left → 0 < left → k ≤ major s e
to_go h l = omega (arith, h.sum, h.few)

pub one_less : {s e : Point} {n k : ℕ} {w v : Walker} {left : ℕ} → WalkedTo s e n k w left → 0 < left → WalkerAt s e (k + 1) v → WalkedTo s e n (k + 1) v (left - 1)
one_less h l g = record { at = g; sum = omega (arith, h.sum); few = h.few }

-- ---- a run, some steps on: those from k to i - 1 have been handed out, all on row y, and the columns are widened by exactly those
pub record Part (s e : Point) (n k : ℕ) (y : ℤ) (m : Met) (q : Run) : Type 0 where
  pub i : ℕ
  pub from : k ≤ i
  pub here : WalkedTo s e n i q.side.walker q.side.left
  pub row : (j : ℕ) → k ≤ j → j < i → y ≡ (point_at s e j).1
  pub low : q.met.low ≤ℤ m.low
  pub high : m.high ≤ℤ q.met.high
  pub holds : (j : ℕ) → k ≤ j → j < i → (q.met.low ≤ℤ (point_at s e j).0) × ((point_at s e j).0 ≤ℤ q.met.high)
  pub low_is : (q.met.low ≡ m.low) ⊎ ((j : ℕ) × (k ≤ j) × (j < i) × (q.met.low ≡ (point_at s e j).0))
  pub high_is : (q.met.high ≡ m.high) ⊎ ((j : ℕ) × (k ≤ j) × (j < i) × (q.met.high ≡ (point_at s e j).0))

-- a step of which holds what does of those before it and of i
last_or : (i j : ℕ) → j < i + 1 → (j < i) ⊎ (i ≡ j)
last_or i j h = go (dec_lt j i)
  where
    go : Dec (j < i) → (j < i) ⊎ (i ≡ j)
    go (yes l) = inl l
    go (no l) = inr (omega arith)

module _ {s e : Point} {n k : ℕ} {y : ℤ} {m : Met} where
  pub part_start : {a : Side} → WalkedTo s e n k a.walker a.left → Part s e n k y m (record { side = a; met = m })
  part_start h =
      record {
        i = k;
        from = le_refl k;
        here = h;
        row = λ j a b. absurd (omega arith);
        low = le_self m.low;
        high = le_self m.high;
        holds = λ j a b. absurd (omega arith);
        low_is = inl refl;
        high_is = inl refl;
      }

  pub part_more : {q t : Run} (p : Part s e n k y m q) → y ≡ (point_at s e p.i).1 → Taken s e n p.i q.met t → Part s e n k y m t
  part_more {q} {t} p on g =
      let i = p.i in
      let l = p.from in
      let a = extremes q.met.low (point_at s e i).0 in
      let b = extremes q.met.high (point_at s e i).0 in
      let lower = le_trans (le_of g.low) a.from_first in
      let higher = le_trans b.to_first (le_of (sym g.high)) in
      record {
        i = i + 1;
        from = omega arith;
        here = g.here;
        row = λ j a b. ⊎_elim (λ h. p.row j a h) (λ h. subst (λ (u : ℕ). y ≡ (point_at s e u).1) h on) (last_or i j b);
        low = le_trans lower p.low;
        high = le_trans p.high higher;
        holds =
            λ j m n.
            ⊎_elim (λ h. (le_trans lower (p.holds j m h).0, le_trans (p.holds j m h).1 higher))
            (λ h.
            subst (λ (u : ℕ). (t.met.low ≤ℤ (point_at s e u).0) × ((point_at s e u).0 ≤ℤ t.met.high)) h
            (le_trans (le_of g.low) a.from_second, le_trans b.to_second (le_of (sym g.high))))
            (last_or i j n);
        low_is =
            ⊎_elim (λ h. ⊎_elim (λ z. inl (g.low ∙ h ∙ z)) (λ z. inr (z.0, z.1, (let b = z.2 in omega arith), g.low ∙ h ∙ z.3)) p.low_is)
            (λ h. inr (i, l, omega arith, g.low ∙ h))
            a.low_is;
        high_is =
            ⊎_elim (λ h. ⊎_elim (λ z. inl (g.high ∙ h ∙ z)) (λ z. inr (z.0, z.1, (let b = z.2 in omega arith), g.high ∙ h ∙ z.3)) p.high_is)
            (λ h. inr (i, l, omega arith, g.high ∙ h))
            b.high_is;
      }

-- ---- where the run stops, it has met all points of the row
module _ {s e : Point} {n : ℕ} {y : ℤ} {w : Walker} {l : ℕ} {m : Met} {q : Run} (d : s.1 ≤ℤ e.1) (at : EdgeAt s e n y w l) (p : Part s e n at.k y m q)
    (stop : p.i < n → ¬ (y ≡ (point_at s e p.i).1)) where
  past : (j : ℕ) → p.i ≤ j → j < n → y <ℤ (point_at s e j).1
  past j a b =
      let f = p.from in
      let most = p.here.few in
      let i<n : p.i < n = omega arith in
      let hi : y <ℤ (point_at s e p.i).1 = lt_of (at.ahead p.i f i<n) (stop i<n) in
      nat_lt (omega (arith, lt_nat hi, le_nat (rows_down s e d p.i j a)))

  within : (j : ℕ) → j < n → y ≡ (point_at s e j).1 → (at.k ≤ j) × (j < p.i)
  within j b on = (left (dec_lt j at.k), right (dec_lt j p.i))
    where
      left : Dec (j < at.k) → at.k ≤ j
      left (yes l) = absurd (lt_apart (at.done j l) (sym on))
      left (no l) = omega arith

      right : Dec (j < p.i) → j < p.i
      right (yes l) = l
      right (no l) = absurd (lt_apart (past j (omega arith) b) on)

  few : (j : ℕ) → j < p.i → j < n
  few j h = omega (arith, p.here.sum)

  pub part_end : Ran s e n y m q
  part_end =
      record {
        next = record {
          k = p.i;
          here = p.here;
          done = λ j h. before j h (dec_lt j at.k);
          ahead = λ j a b. lt_more_le (past j a b);
        };
        low = p.low;
        high = p.high;
        holds =
            λ c o.
            let w = within o.step o.few o.row in
            let h = p.holds o.step w.0 w.1 in
            (le_trans h.0 (le_of (sym o.column)), le_trans (le_of o.column) h.1);
        low_is = ⊎_elim inl (λ z. inr (record { step = z.0; few = few z.0 z.2; column = z.3; row = p.row z.0 z.1 z.2 })) p.low_is;
        high_is = ⊎_elim inl (λ z. inr (record { step = z.0; few = few z.0 z.2; column = z.3; row = p.row z.0 z.1 z.2 })) p.high_is;
      }
    where
      before : (j : ℕ) → j < p.i → Dec (j < at.k) → (point_at s e j).1 <ℤ (y +ℤ pos 1)
      before j h (yes l) = le_lt_more (lt_le (at.done j l))
      before j h (no l) = le_lt_more (le_of (sym (p.row j (omega arith) h)))
