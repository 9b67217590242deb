-- THE LOWEST NUMBER WINS, where the numbers rise. Assumes nothing.
use mathlib.Core.Path.{◌≡◌, refl}
use mathlib.Core.Bool.{Bool, true, false, ◌&&◌}
use mathlib.Core.List.{[], ◌∷◌}
use Prim.Native.Nat.{ℕ, ◌≤◌, ◌<◌}
use native.Mathlib.Omega.{arith}
use lib.Dec.{ltb}
use borrow.Author.Tests.{ltb-true, ne_eqb}
use Rattle.whole.proofs.Tests.{and_true}
use Rattle.refusals.specs.First.{Tests, first, numbered, rising}
use Rattle.refusals.proofs.First.{Exact, first_wins}

-- the number k is in the list, and its test holds
pub data Applies (k : ℕ) : Tests → Type 0 where
  here : {ts : Tests} → Applies k ((k, true) ∷ ts)
  later : {t : ℕ × Bool} {ts : Tests} → Applies k ts → Applies k (t ∷ ts)

rises : (m n : ℕ) (ts : Tests) → (ltb m n && rising n ts) ≡ true → (m < n) × (rising n ts ≡ true)
rises m n ts r = let p = and_true (ltb m n) (rising n ts) r in (ltb-true m n p.0, p.1)

above : {k : ℕ} (m : ℕ) (ts : Tests) → rising m ts ≡ true → Applies k ts → m < k
above {k = k} m [] r a = elim a [ ]
above m ((n, b) ∷ ts) r here = (rises m n ts r).0
above m ((n, b) ∷ ts) r (later a) = let p = rises m n ts r in let l = above n ts p.1 a in omega (arith, p.0)

-- numbers that rise are not 0
pub rising_numbered : (m : ℕ) (ts : Tests) → rising m ts ≡ true → numbered ts ≡ true
rising_numbered m [] r = refl
rising_numbered m ((n, b) ∷ ts) r =
    let p = rises m n ts r in
    let z = ne_eqb n 0 (λ e. omega (arith, p.0)) in
    rw z (rising_numbered n ts p.1)

-- the answer's own test holds
pub first_applies : (ts : Tests) → (first ts ≡ 0 → ⊥) → Applies (first ts) ts
first_applies [] n = absurd (n refl)
first_applies ((m, true) ∷ ts) n = here
first_applies ((m, false) ∷ ts) n = later (first_applies ts n)

-- and no lower number's does
pub first_least : {k : ℕ} (m : ℕ) (ts : Tests) → rising m ts ≡ true → Applies k ts → first ts ≤ k
first_least {k = k} m [] r a = elim a [ ]
first_least m ((n, true) ∷ ts) r here = omega arith
first_least m ((n, true) ∷ ts) r (later a) = omega (arith, above n ts (rises m n ts r).1 a)
first_least m ((n, false) ∷ ts) r (later a) = first_least n ts (rises m n ts r).1 a

-- what 01 says of an operation's numbers where they rise: exactly when each is answered, and that the lowest that applies wins
pub record Lowest (ts : Tests) : Type 0 where
  pub exact : Exact ts
  pub applies : (first ts ≡ 0 → ⊥) → Applies (first ts) ts
  pub least : {k : ℕ} → Applies k ts → first ts ≤ k

pub lowest_wins : (ts : Tests) → rising 0 ts ≡ true → Lowest ts
lowest_wins ts r =
    record {
      exact = first_wins ts (rising_numbered 0 ts r);
      applies = first_applies ts;
      least = λ a. first_least 0 ts r a;
    }
