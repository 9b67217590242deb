-- An edge's points on one of its rows, as offsets along x from its start: the edge is w wide and h high, the row v below the start. They are the
-- numbers from a first to a last, each by one division; on a row of an edge that is not level, what comes before the first lies before the ideal
-- line, and what comes past the last lies past it. Assumes nothing.
use mathlib.Core.Path.{◌≡◌, refl, sym, subst}
use mathlib.Core.Bool.{Bool, true, false, cond}
use mathlib.Core.Logic.{◌↔◌}
use Prim.Native.Nat.{ℕ, zero, suc, ◌+◌, ◌*◌, ◌-◌, ◌≤◌, ◌<◌, min}
use native.Mathlib.Decide.{dec_lt}
use native.Mathlib.Nat.{mul-le-mul_left, mul-le-mul_right}
use native.Mathlib.Omega.{arith}
use borrow.Author.Tests.{le-leb, lt-leb, leb-true, leb-false, eqb-true, eqb-false}
use lib.Dec.{leb, eqb}
use Rattle.line.specs.Line.{moves}
use Rattle.line.specs.Reach.{reach, reach_from}
use Rattle.triangle.specs.Offsets.{first_offset, last_offset}
use Rattle.line.proofs.Moves.{Band, moves_band, moves_is, moves_minor, moves_none}
use Rattle.line.proofs.Reach.{reaches, firsts}
use Rattle.line.proofs.Closed.{OnLine}

-- the offset t is that of a point on row v
abbrev pub OnRow : ℕ → ℕ → ℕ → ℕ → Type 0
OnRow w h v t = OnLine (leb w h) w h t v

-- they are f to l
pub record Offsets (w h v f l : ℕ) : Type 0 where
  pub some : f ≤ l
  pub wide : l ≤ w
  pub on : (t : ℕ) → OnRow w h v t ↔ ((f ≤ t) × (t ≤ l))
  pub before : (t : ℕ) → t < f → h * t < w * v
  pub past : 0 < h → (t : ℕ) → l < t → w * v < h * t

-- ---- a level edge: all of them
level_on : (w t : ℕ) (b : Bool) → leb w 0 ≡ b → OnLine b w 0 t 0 ↔ ((0 ≤ t) × (t ≤ w))
level_on w t true e =
    let w0 : w ≤ 0 = leb-true w 0 e in
    (λ o. (omega arith, omega (arith, o.1, moves_none w 0)), λ r. (omega arith, omega (arith, moves_none w 0)))
level_on w t false e =
    let some : 0 < w = leb-false w 0 e in
    (λ o. (omega arith, o.0), λ r. (r.1, sym (moves_is w 0 t 0 r.1 (omega arith) (record { low = omega arith; high = omega arith }))))

pub level : (w : ℕ) → Offsets w 0 0 0 w
level w =
    record {
      some = omega arith;
      wide = omega arith;
      on = λ t. level_on w t (leb w 0) refl;
      before = λ t l. absurd (omega arith);
      past = λ p. absurd (omega arith);
    }

-- ---- a steep edge: one
pub steep : (w h v : ℕ) → w ≤ h → v ≤ h → Offsets w h v (moves h w v) (moves h w v)
steep w h v s r =
    let m : ℕ = moves h w v in
    let b : Band h w v m = moves_band h w v s r in
    let on : (t : ℕ) → OnLine true w h t v ↔ ((m ≤ t) × (t ≤ m)) = λ t. (λ o. (omega (arith, o.1), omega (arith, o.1)), λ g. (r, omega arith)) in
    record {
      some = omega arith;
      wide = moves_minor h w v r;
      on = λ t. subst (λ (q : Bool). OnLine q w h t v ↔ ((m ≤ t) × (t ≤ m))) (sym (le-leb w h s)) (on t);
      before = λ t l. omega (arith, b.low, mul-le-mul_left h l, moves_minor h w v r);
      past = λ p t l. omega (arith, b.high, mul-le-mul_left h l);
    }

-- ---- a low edge: from one past the last of the row above to the last of this row, as far as the edge goes
-- a row has an offset
some_reach : (w h v : ℕ) → 0 < h → h < w → reach_from w h v ≤ reach w h v
unfolding reach_from
some_reach w h zero p s = omega arith
some_reach w h (suc v) p s = (reaches w h (suc v) (reach w h v + 1) p).1 (omega (arith, (reaches w h v (reach w h v) p).0 (omega arith)))

module _ (w h v : ℕ) (p : 0 < h) (s : h < w) (r : v ≤ h) where
  low_on : (t : ℕ) → OnLine false w h t v ↔ ((reach_from w h v ≤ t) × (t ≤ min w (reach w h v)))
  low_on t = (to, from)
    where
      to : OnLine false w h t v → (reach_from w h v ≤ t) × (t ≤ min w (reach w h v))
      to o =
          let b : Band w h t v = subst (λ (n : ℕ). Band w h t n) (sym o.1) (moves_band w h t (omega arith) o.0) in
          ((firsts w h v t p (omega arith)).1 b.low, omega (arith, o.0, (reaches w h v t p).1 b.high))

      from : (reach_from w h v ≤ t) × (t ≤ min w (reach w h v)) → OnLine false w h t v
      from g =
          let b : Band w h t v = record { low = (firsts w h v t p (omega arith)).0 g.0; high = (reaches w h v t p).0 (omega (arith, g.1)) } in
          let n : ¬ (t < v) = λ l. omega (arith, b.low, mul-le-mul_left w l, mul-le-mul_right t s) in
          (omega (arith, g.1), sym (moves_is w h t v (omega (arith, g.1)) (omega arith) b))

  low_past : (t : ℕ) → Dec (w < t) → min w (reach w h v) < t → w * v < h * t
  low_past t (yes l) g = omega (arith, mul-le-mul_left w r, mul-le-mul_left h l)
  low_past t (no l) g = let n : ¬ (2 * h * t ≤ 2 * w * v + w) = λ k. omega (arith, (reaches w h v t p).1 k) in omega arith

  pub low : Offsets w h v (reach_from w h v) (min w (reach w h v))
  low =
      record {
        some = omega (arith, some_reach w h v p s, (firsts w h v w p (omega arith)).1 (omega (arith, mul-le-mul_left w r)));
        wide = omega arith;
        on = λ t. subst (λ (q : Bool). OnLine q w h t v ↔ ((reach_from w h v ≤ t) × (t ≤ min w (reach w h v)))) (sym (lt-leb w h s)) (low_on t);
        before = λ t l. let n : ¬ (2 * w * v ≤ 2 * h * t + (w - 1)) = λ g. omega (arith, (firsts w h v t p (omega arith)).1 g) in omega arith;
        past = λ q t l. low_past t (dec_lt w t) l;
      }

-- ---- any edge
pub offsets : (w h v : ℕ) → v ≤ h → Offsets w h v (first_offset w h v) (last_offset w h v)
unfolding first_offset last_offset
offsets w h v r = by (eqb h 0) (leb w h) (eqb-true h 0) (eqb-false h 0) (leb-true w h) (leb-false w h)
  where
    by : (s t : Bool) → (s ≡ true → h ≡ 0) → (s ≡ false → h ≡ 0 → ⊥) → (t ≡ true → w ≤ h) → (t ≡ false → h < w)
        → Offsets w h v (cond s 0 (cond t (moves h w v) (reach_from w h v))) (cond s w (cond t (moves h w v) (min w (reach w h v))))
    by true t f g p q = let e = f refl in subst (λ (n : ℕ). Offsets w n v 0 w) (sym e) (subst (λ (n : ℕ). Offsets w 0 n 0 w) (omega arith) (level w))
    by false true f g p q = steep w h v (p refl) r
    by false false f g p q = let n = g refl in low w h v (omega arith) (q refl) r
