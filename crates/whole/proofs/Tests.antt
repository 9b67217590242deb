-- Laws of yes or no tests: which cases there are, what a joined test says, and when two tests are the same. Assumes nothing.
use mathlib.Core.Path.{◌≡◌, refl, sym, ap, ap₂, ◌∙◌}
use mathlib.Core.Bool.{Bool, true, false, ◌||◌, ◌&&◌, true≢false}
use mathlib.Core.Logic.{◌⊎◌, inl, inr, ⊎_elim}
use Prim.Native.Nat.{ℕ, zero, suc, ◌≤◌, ◌<◌}
use native.Mathlib.Nat.{not-suc-le-zero, eq-or-lt_of_le, le_of_suc-le-suc}
use lib.Dec.{eqb, ltb}
use lib.IntN.{ℤ, pos, negsuc}
use borrow.Author.Tests.{eqb-true, eqb-false, ltb-true, ltb-false, eq-eqb}
use Rattle.whole.specs.Equal.{eq_z}

pub eq_or_not : (p q : ℕ) → (p ≡ q) ⊎ (p ≡ q → ⊥)
eq_or_not p q = go (eqb p q) refl
  where
    go : (t : Bool) → eqb p q ≡ t → (p ≡ q) ⊎ (p ≡ q → ⊥)
    go true e = inl (eqb-true p q e)
    go false e = inr (eqb-false p q e)

pub lt_or_ge : (p q : ℕ) → (p < q) ⊎ (q ≤ p)
lt_or_ge p q = go (ltb p q) refl
  where
    go : (t : Bool) → ltb p q ≡ t → (p < q) ⊎ (q ≤ p)
    go true e = inl (ltb-true p q e)
    go false e = inr (ltb-false p q e)

-- two tests that pass in the same cases
pub same_test : (a b : Bool) → (a ≡ true → b ≡ true) → (b ≡ true → a ≡ true) → a ≡ b
same_test true b f g = sym (f refl)
same_test false true f g = g refl
same_test false false f g = refl

-- a test that never passes
pub fails : (a : Bool) → (a ≡ true → ⊥) → a ≡ false
fails true h = absurd (h refl)
fails false h = refl

pub and_true : (a b : Bool) → a && b ≡ true → (a ≡ true) × (b ≡ true)
and_true true b e = (refl, e)
and_true false b e = absurd (true≢false (sym e))

pub true_and : {a b : Bool} → a ≡ true → b ≡ true → a && b ≡ true
true_and p q = ap₂ (λ (a b : Bool). a && b) p q

pub or_true : (a b : Bool) → a || b ≡ true → (a ≡ true) ⊎ (b ≡ true)
or_true true b e = inl refl
or_true false b e = inr e

pub true_or : (a b : Bool) → (a ≡ true) ⊎ (b ≡ true) → a || b ≡ true
true_or true b h = refl
true_or false b (inl e) = absurd (true≢false (sym e))
true_or false b (inr e) = e

pub or_false : (a b : Bool) → a || b ≡ false → (a ≡ false) × (b ≡ false)
or_false true b e = absurd (true≢false e)
or_false false b e = (refl, e)

-- three tests in another order
pub and_swap : (s t r : Bool) → (t && (s && r)) ≡ (s && (t && r))
and_swap true t r = refl
and_swap false true r = refl
and_swap false false r = refl

pub and_turn : (s t r : Bool) → (t && (r && s)) ≡ (s && (t && r))
and_turn true true true = refl
and_turn true true false = refl
and_turn true false r = refl
and_turn false true true = refl
and_turn false true false = refl
and_turn false false r = refl

-- the test of two whole numbers
pub eq_z_true : (a b : ℤ) → eq_z a b ≡ true → a ≡ b
eq_z_true (pos a) (pos b) e = ap pos (eqb-true a b e)
eq_z_true (pos a) (negsuc b) e = absurd (true≢false (sym e))
eq_z_true (negsuc a) (pos b) e = absurd (true≢false (sym e))
eq_z_true (negsuc a) (negsuc b) e = ap negsuc (eqb-true a b e)

pub eq_z_refl : (a : ℤ) → eq_z a a ≡ true
eq_z_refl (pos a) = eq-eqb a a refl
eq_z_refl (negsuc a) = eq-eqb a a refl

-- ---- a test that passes at each number below n: a rule over so many cases is one test that is computed
abbrev pub passes : (ℕ → Bool) → ℕ → Bool
passes f zero = true
passes f (suc n) = f n && passes f n

pub passes_at : (f : ℕ → Bool) (n : ℕ) → passes f n ≡ true → (k : ℕ) → k < n → f k ≡ true
passes_at f zero e k h = absurd (not-suc-le-zero h)
passes_at f (suc n) e k h =
    let p = and_true (f n) (passes f n) e in
    ⊎_elim (λ i. ap f i ∙ p.0) (λ l. passes_at f n p.1 k l) (eq-or-lt_of_le (le_of_suc-le-suc h))
