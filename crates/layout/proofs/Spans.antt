-- Figures made of spans: which tests agree, on the pixels of a frame. Assumes nothing.
use mathlib.Core.Path.{◌≡◌}
use mathlib.Core.Logic.{inl, inr, ⊎_elim}
use mathlib.Core.Bool.{Bool, true, false, ◌||◌, ◌&&◌}
use Prim.Native.Nat.{ℕ, ◌+◌, ◌≤◌, ◌<◌}
use native.Mathlib.Omega.{arith}
use lib.Dec.{ltb, leb, eqb}
use lib.IntN.{ℤ, pos}
use borrow.Author.Tests.{ltb-true, leb-true, eqb-true, lt-ltb, le-leb, eq-eqb}
use Rattle.layout.specs.Figure.{span_figure, single}
use Rattle.whole.proofs.Tests.{lt_or_ge, same_test, fails, and_true, true_and, or_true, true_or}

-- a span of columns of the frame
abbrev pub columns : ℕ → ℕ → ℕ → ℤ → ℤ → Bool
columns y x0 x1 = span_figure (pos y) (pos x0) (pos x1)

-- what it says
pub in_span : (y x0 x1 u v : ℕ) → columns y x0 x1 (pos u) (pos v) ≡ true → (x0 ≤ u) × (u < x1) × (v ≡ y)
in_span y x0 x1 u v e =
    let p = and_true (leb x0 u && ltb u x1) (eqb v y) e in
    let q = and_true (leb x0 u) (ltb u x1) p.0 in
    (leb-true x0 u q.0, ltb-true u x1 q.1, eqb-true v y p.1)

pub span_in : (y x0 x1 u v : ℕ) → x0 ≤ u → u < x1 → v ≡ y → columns y x0 x1 (pos u) (pos v) ≡ true
span_in y x0 x1 u v a b e = true_and (true_and (le-leb x0 u a) (lt-ltb u x1 b)) (eq-eqb v y e)

-- an empty span
pub span_none : (y x0 x1 u v : ℕ) → x1 ≤ x0 → columns y x0 x1 (pos u) (pos v) ≡ false
span_none y x0 x1 u v h = fails _ (λ e. let s = in_span y x0 x1 u v e in no s.0 s.1)
  where
    no : x0 ≤ u → u < x1 → ⊥
    no a b = omega arith

-- a span and what joins it on the right
pub span_join : (y x0 x1 x2 u v : ℕ) → x0 ≤ x1 → x1 ≤ x2
    → columns y x0 x1 (pos u) (pos v) || columns y x1 x2 (pos u) (pos v) ≡ columns y x0 x2 (pos u) (pos v)
span_join y x0 x1 x2 u v h k = same_test _ _ there back
  where
    there : columns y x0 x1 (pos u) (pos v) || columns y x1 x2 (pos u) (pos v) ≡ true → columns y x0 x2 (pos u) (pos v) ≡ true
    there e =
        ⊎_elim (λ l. let s = in_span y x0 x1 u v l in span_in y x0 x2 u v s.0 (let t = s.1 in omega arith) s.2)
        (λ l. let s = in_span y x1 x2 u v l in span_in y x0 x2 u v (let t = s.0 in omega arith) s.1 s.2)
        (or_true _ _ e)

    back : columns y x0 x2 (pos u) (pos v) ≡ true → columns y x0 x1 (pos u) (pos v) || columns y x1 x2 (pos u) (pos v) ≡ true
    back e =
        let s = in_span y x0 x2 u v e in
        true_or _ _ (⊎_elim (λ l. inl (span_in y x0 x1 u v s.0 l s.2)) (λ l. inr (span_in y x1 x2 u v l s.1 s.2)) (lt_or_ge u x1))

-- a span of one
pub span_one : (y x u v : ℕ) → single (pos x) (pos y) (pos u) (pos v) ≡ columns y x (x + 1) (pos u) (pos v)
span_one y x u v = same_test _ _ there back
  where
    there : eqb u x && eqb v y ≡ true → columns y x (x + 1) (pos u) (pos v) ≡ true
    there e =
        let p = and_true (eqb u x) (eqb v y) e in
        let q = eqb-true u x p.0 in
        span_in y x (x + 1) u v (omega arith) (omega arith) (eqb-true v y p.1)

    back : columns y x (x + 1) (pos u) (pos v) ≡ true → eqb u x && eqb v y ≡ true
    back e =
        let s = in_span y x (x + 1) u v e in
        let a = s.0 in
        let b = s.1 in
        true_and (eq-eqb u x (omega arith)) (eq-eqb v y s.2)

-- the rows above y, and row y
pub rows_more : (w y u v : ℕ) → u < w → ltb v y || columns y 0 w (pos u) (pos v) ≡ ltb v (y + 1)
rows_more w y u v h = same_test _ _ there back
  where
    there : ltb v y || columns y 0 w (pos u) (pos v) ≡ true → ltb v (y + 1) ≡ true
    there e =
        lt-ltb v (y + 1)
        (⊎_elim (λ l. let k = ltb-true v y l in omega arith) (λ l. let k = (in_span y 0 w u v l).2 in omega arith) (or_true _ _ e))

    back : ltb v (y + 1) ≡ true → ltb v y || columns y 0 w (pos u) (pos v) ≡ true
    back e =
        let k = ltb-true v (y + 1) e in
        true_or _ _ (⊎_elim (λ l. inl (lt-ltb v y l)) (λ l. inr (span_in y 0 w u v (omega arith) h (omega arith))) (lt_or_ge v y))
