-- Laws of how many pixels of 0 to n - 1 are inside, over any numbering. Assumes nothing.
use mathlib.Core.Path.{◌≡◌, refl, sym, ap, ap₂, ◌∙◌}
use mathlib.Core.Logic.{◌⊎◌, inl, inr, ⊎_elim}
use mathlib.Core.Bool.{Bool, true, false, ◌||◌, ◌&&◌}
use Prim.Native.Nat.{ℕ, zero, suc, ◌+◌, ◌≤◌, ◌<◌}
use native.Mathlib.Nat.{le_refl, add-suc, eq-or-lt_of_le, le_of_suc-le-suc, not-suc-le-zero}
use native.Mathlib.Omega.{arith}
use borrow.Author.Tests.{eq-eqb, ne_eqb}
use lib.Dec.{eqb}
use Rattle.layout.specs.Count.{one_if, how_many}

-- figures that agree
pub many_cong : (n : ℕ) (f g : ℕ → Bool) → ((p : ℕ) → p < n → f p ≡ g p) → how_many n f ≡ how_many n g
many_cong zero f g h = refl
many_cong (suc n) f g h = ap₂ (λ (m : ℕ) (t : Bool). m + one_if t) (many_cong n f g (λ p l. h p (omega arith))) (h n (le_refl (suc n)))

-- none inside, and all
pub many_none : (n : ℕ) (f : ℕ → Bool) → ((p : ℕ) → p < n → f p ≡ false) → how_many n f ≡ 0
many_none zero f h = refl
many_none (suc n) f h = ap₂ (λ (m : ℕ) (t : Bool). m + one_if t) (many_none n f (λ p l. h p (omega arith))) (h n (le_refl (suc n)))

pub many_all : (n : ℕ) (f : ℕ → Bool) → ((p : ℕ) → p < n → f p ≡ true) → how_many n f ≡ n
many_all zero f h = refl
many_all (suc n) f h = ap₂ (λ (m : ℕ) (t : Bool). m + one_if t) (many_all n f (λ p l. h p (omega arith))) (h n (le_refl (suc n))) ∙ omega arith

pub one_small : (t : Bool) {n : ℕ} → n ≡ one_if t → n ≤ 1
one_small true e = omega arith
one_small false e = omega arith

pub many_le : (n : ℕ) (f : ℕ → Bool) → how_many n f ≤ n
many_le zero f = omega arith
many_le (suc n) f = omega (arith, many_le n f, one_small (f n) refl)

-- what is inside either and both, together
one_both : (s t : Bool) → one_if (s || t) + one_if (s && t) ≡ one_if s + one_if t
one_both true true = refl
one_both true false = refl
one_both false true = refl
one_both false false = refl

pub many_both : (n : ℕ) (f g : ℕ → Bool) → how_many n (λ p. f p || g p) + how_many n (λ p. f p && g p) ≡ how_many n f + how_many n g
many_both zero f g = refl
many_both (suc n) f g = omega (arith, many_both n f g, one_both (f n) (g n))

-- no pixel inside both
pub many_add : (n : ℕ) (f g : ℕ → Bool) → ((p : ℕ) → p < n → f p && g p ≡ false) → how_many n (λ p. f p || g p) ≡ how_many n f + how_many n g
many_add n f g h = omega (arith, many_both n f g, many_none n (λ p. f p && g p) h)

-- one pixel
pub many_one : (n p : ℕ) → p < n → how_many n (λ q. eqb q p) ≡ 1
many_one zero p h = absurd (not-suc-le-zero h)
many_one (suc n) p h = pick (many_one n p) (eq-or-lt_of_le (le_of_suc-le-suc h))
  where
    pick : (p < n → how_many n (λ q. eqb q p) ≡ 1) → (p ≡ n) ⊎ (p < n) → how_many n (λ q. eqb q p) + one_if (eqb n p) ≡ 1
    pick ih (inl e) = ap₂ (λ (m : ℕ) (t : Bool). m + one_if t) (many_none n (λ q. eqb q p) (λ q l. ne_eqb q p (λ z. omega arith))) (eq-eqb n p (sym e))
    pick ih (inr l) = ap₂ (λ (m : ℕ) (t : Bool). m + one_if t) (ih l) (ne_eqb n p (λ z. omega arith))

-- the first m, and the n after them
pub many_then : (m n : ℕ) (f : ℕ → Bool) → how_many (m + n) f ≡ how_many m f + how_many n (λ p. f (m + p))
many_then m zero f = omega (arith, ap (λ (k : ℕ). how_many k f) (let e : m + 0 ≡ m = omega arith in e))
many_then m (suc n) f = ap (λ (k : ℕ). how_many k f) (add-suc m n) ∙ omega (arith, many_then m n f)

-- a count of 0: none is inside
one_none : (t : Bool) → one_if t ≡ 0 → t ≡ false
one_none true e = absurd (omega arith)
one_none false e = refl

pub many_zero : (n : ℕ) (f : ℕ → Bool) → how_many n f ≡ 0 → (p : ℕ) → p < n → f p ≡ false
many_zero zero f e p h = absurd (not-suc-le-zero h)
many_zero (suc n) f e p h = ⊎_elim (λ q. ap f q ∙ one_none (f n) (omega arith)) (λ k. many_zero n f (omega arith) p k) (eq-or-lt_of_le (le_of_suc-le-suc h))
