-- A yes or no that decides a statement, and its laws: by parts, through an equivalence, and that there is one such answer. Assumes nothing.
use mathlib.Core.Path.{◌≡◌, refl, sym, ap, subst}
use mathlib.Core.Bool.{Bool, true, false, ◌&&◌, ◌||◌, true≢false, false≢true}
use mathlib.Core.Logic.{◌⊎◌, inl, inr, ⊎_elim}
use Prim.Native.Nat.{ℕ, ◌≤◌, ◌<◌}
use native.Mathlib.Omega.{arith}
use lib.Dec.{T, leb, ltb, eqb}
use lib.IntN.{ℤ, pos, negsuc, nat_abs, pos-ne-negsuc}
use lib.Signed.{le_z, lt_z, mag, ◌≤ℤ◌, ◌<ℤ◌}
use borrow.Author.Tests.{leb-true, leb-false, ltb-true, ltb-false, eqb-true, eqb-false}
use Rattle.whole.specs.Equal.{eq_z}
use Rattle.whole.specs.Interval.{between}

-- b is yes exactly if P
pub record Decides (b : Bool) (P : Type 0) : Type 0 where
  pub yes : b ≡ true → P
  pub no : b ≡ false → P → ⊥

-- ---- a test decides that it passes
pub tested : (b : Bool) → Decides b (T b)
tested true = record { yes = λ e. tt; no = λ e. absurd (true≢false e) }
tested false = record { yes = λ e. absurd (false≢true e); no = λ e h. h }

pub always : {P : Type 0} → P → Decides true P
always p = record { yes = λ e. p; no = λ e. absurd (true≢false e) }

pub never : {P : Type 0} → (P → ⊥) → Decides false P
never n = record { yes = λ e. absurd (false≢true e); no = λ e. n }

pub decides_map : {b : Bool} {P Q : Type 0} → Decides b P → (P → Q) → (Q → P) → Decides b Q
decides_map d f g = record { yes = λ e. f (d.yes e); no = λ e q. d.no e (g q) }

pub decides_at : {a b : Bool} {P : Type 0} → a ≡ b → Decides a P → Decides b P
decides_at {P = P} e d = subst (λ (t : Bool). Decides t P) e d

pub decides_le : (a b : ℤ) → Decides (le_z a b) (a ≤ℤ b)
decides_le a b = decides_map (tested (le_z a b)) (λ h. record { le = h }) (λ h. h.le)

pub decides_lt : (a b : ℤ) → Decides (lt_z a b) (a <ℤ b)
decides_lt a b = decides_map (tested (lt_z a b)) (λ h. record { lt = h }) (λ h. h.lt)

pub decides_eqb : (a b : ℕ) → Decides (eqb a b) (a ≡ b)
decides_eqb a b = record { yes = eqb-true a b; no = eqb-false a b }

pub decides_eq : (a b : ℤ) → Decides (eq_z a b) (a ≡ b)
decides_eq (pos a) (pos b) = decides_map (decides_eqb a b) (ap pos) (ap nat_abs)
decides_eq (pos a) (negsuc b) = never (pos-ne-negsuc a b)
decides_eq (negsuc a) (pos b) = never (λ e. pos-ne-negsuc b a (sym e))
decides_eq (negsuc a) (negsuc b) = decides_map (decides_eqb a b) (ap negsuc) (ap mag)

pub decides_leb : (a b : ℕ) → Decides (leb a b) (a ≤ b)
decides_leb a b = record { yes = leb-true a b; no = λ e h. omega (arith, leb-false a b e) }

pub decides_ltb : (a b : ℕ) → Decides (ltb a b) (a < b)
decides_ltb a b = record { yes = ltb-true a b; no = λ e h. omega (arith, ltb-false a b e) }

-- ---- by parts
pub decides_and : (a b : Bool) {P Q : Type 0} → Decides a P → Decides b Q → Decides (a && b) (P × Q)
decides_and true true p q = always (p.yes refl, q.yes refl)
decides_and true false p q = never (λ h. q.no refl h.1)
decides_and false b p q = never (λ h. p.no refl h.0)

pub decides_or : (a b : Bool) {P Q : Type 0} → Decides a P → Decides b Q → Decides (a || b) (P ⊎ Q)
decides_or true b p q = always (inl (p.yes refl))
decides_or false true p q = always (inr (q.yes refl))
decides_or false false p q = never (⊎_elim (p.no refl) (q.no refl))

pub decides_between : (a b x : ℤ) → Decides (between a b x) ((a ≤ℤ x) × (x <ℤ b))
decides_between a b x = decides_and (le_z a x) (lt_z x b) (decides_le a x) (decides_lt x b)

-- ---- one answer
pub decides_one : (a b : Bool) {P : Type 0} → Decides a P → Decides b P → a ≡ b
decides_one true true p q = refl
decides_one true false p q = absurd (q.no refl (p.yes refl))
decides_one false true p q = absurd (p.no refl (q.yes refl))
decides_one false false p q = refl

pub decides_yes : {b : Bool} {P : Type 0} → Decides b P → P → b ≡ true
decides_yes {b = true} d p = refl
decides_yes {b = false} d p = absurd (d.no refl p)

pub decides_no : {b : Bool} {P : Type 0} → Decides b P → (P → ⊥) → b ≡ false
decides_no {b = true} d n = absurd (n (d.yes refl))
decides_no {b = false} d n = refl
