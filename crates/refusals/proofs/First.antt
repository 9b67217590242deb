-- Laws of the first test that holds: what an answer says of the tests, tests after tests, and how code that asks them one by one, or part by part,
-- comes to the answer. Assumes nothing.
use mathlib.Core.Path.{◌≡◌, refl, sym, ap, ◌∙◌}
use mathlib.Core.Bool.{Bool, true, false, cond, not, ◌&&◌, true≢false}
use mathlib.Core.List.{[], ◌∷◌, ◌++◌}
use mathlib.Core.Logic.{◌↔◌}
use Prim.Native.Nat.{ℕ, zero, suc}
use native.Mathlib.Omega.{arith}
use lib.Dec.{eqb}
use borrow.Author.Tests.{eqb-false, not-true}
use Rattle.whole.proofs.Tests.{and_true}
use Rattle.refusals.specs.First.{Tests, first, numbered}
use Rattle.refusals.specs.Answer.{if_done}
use Rattle.refusals.proofs.Answer.{not_done, is_done}

-- the first number is not 0, and neither are the others
some : (n : ℕ) (ts : Tests) → not (eqb n 0) && numbered ts ≡ true → (n ≡ 0 → ⊥) × (numbered ts ≡ true)
some n ts h = let p = and_true (not (eqb n 0)) (numbered ts) h in (eqb-false n 0 (not-true _ p.0), p.1)

-- ---- what an answer says
-- every test fails
abbrev pub Fail : Tests → Type 0
Fail [] = Unit {0}
Fail (t ∷ ts) = (t.1 ≡ false) × Fail ts

-- the tests are some that fail, one that holds and has the number n, and others
pub record Split (n : ℕ) (ts : Tests) : Type 0 where
  pub before : Tests
  pub after : Tests
  pub fail : Fail before
  pub is : ts ≡ before ++ ((n, true) ∷ after)

fail_all : (ts : Tests) → Fail ts → first ts ≡ 0
fail_all [] f = refl
fail_all ((m, true) ∷ ts) f = absurd (true≢false f.0)
fail_all ((m, false) ∷ ts) f = fail_all ts f.1

all_fail : (ts : Tests) → numbered ts ≡ true → first ts ≡ 0 → Fail ts
all_fail [] h e = tt
all_fail ((m, true) ∷ ts) h e = absurd ((some m ts h).0 e)
all_fail ((m, false) ∷ ts) h e = (refl, all_fail ts (some m ts h).1 e)

found : (n : ℕ) (xs ys : Tests) → Fail xs → first (xs ++ ((n, true) ∷ ys)) ≡ n
found n [] ys f = refl
found n ((m, true) ∷ xs) ys f = absurd (true≢false f.0)
found n ((m, false) ∷ xs) ys f = found n xs ys f.1

split : (n : ℕ) (ts : Tests) → (n ≡ 0 → ⊥) → first ts ≡ n → Split n ts
split n [] h e = absurd (h (sym e))
split n ((m, true) ∷ ts) h e = record { before = []; after = ts; fail = tt; is = ap (λ (k : ℕ). (k, true) ∷ ts) e }
split n ((m, false) ∷ ts) h e =
    let s = split n ts h e in
    record { before = (m, false) ∷ s.before; after = s.after; fail = (refl, s.fail); is = ap (λ (l : Tests). (m, false) ∷ l) s.is }

-- a number is answered exactly if its test holds and all before it fail
pub exactly : (n : ℕ) (ts : Tests) → (n ≡ 0 → ⊥) → first ts ≡ n ↔ Split n ts
exactly n ts h = (split n ts h, λ s. ap first s.is ∙ found n s.before s.after s.fail)

-- 0 is answered exactly if all fail
pub exactly_0 : (ts : Tests) → numbered ts ≡ true → first ts ≡ 0 ↔ Fail ts
exactly_0 ts h = (all_fail ts h, fail_all ts)

-- both, of an operation's list
pub record Exact (ts : Tests) : Type 0 where
  pub done : first ts ≡ 0 ↔ Fail ts
  pub when : (n : ℕ) → (n ≡ 0 → ⊥) → first ts ≡ n ↔ Split n ts

pub first_wins : (ts : Tests) → numbered ts ≡ true → Exact ts
first_wins ts h = record { done = exactly_0 ts h; when = λ n k. exactly n ts k }

-- ---- tests after tests
pub first_append : (xs ys : Tests) → numbered xs ≡ true → first (xs ++ ys) ≡ if_done (first xs) (first ys) (first xs)
first_append [] ys h = refl
first_append ((m, true) ∷ xs) ys h = sym (not_done (some m xs h).0 (first ys) m)
first_append ((m, false) ∷ xs) ys h = first_append xs ys (some m xs h).1

module _ (xs ys : Tests) where
  -- the first part refuses
  pub refused : {r : ℕ} → r ≡ first xs → (r ≡ 0 → ⊥) → r ≡ first (xs ++ ys)
  refused {r} e h = go xs e
    where
      go : (xs : Tests) → r ≡ first xs → r ≡ first (xs ++ ys)
      go [] e = absurd (h e)
      go ((m, true) ∷ xs) e = e
      go ((m, false) ∷ xs) e = go xs e

  -- it answered z, which is 0, and the second decides
  pub passed : {r z : ℕ} → numbered xs ≡ true → z ≡ first xs → z ≡ 0 → r ≡ first ys → r ≡ first (xs ++ ys)
  passed h a z e = e ∙ sym (first_append xs ys h ∙ is_done (sym a ∙ z) (first ys) (first xs))

  -- neither refuses
  pub both_pass : numbered xs ≡ true → first (xs ++ ys) ≡ 0 → (first xs ≡ 0) × (first ys ≡ 0)
  both_pass h z = go (first xs) refl
    where
      go : (n : ℕ) → first xs ≡ n → (first xs ≡ 0) × (first ys ≡ 0)
      go zero e = (e, sym (is_done e (first ys) (first xs)) ∙ sym (first_append xs ys h) ∙ z)
      go (suc n) e =
          let some : first xs ≡ 0 → ⊥ = λ y. omega (arith, e, y) in
          absurd (some (refused refl some ∙ z))

-- ---- one test, as code asks it: `if test { return n; }`, and the rest
module _ (n : ℕ) (t : Bool) (ts : Tests) where
  pub stops : t ≡ true → n ≡ first ((n, t) ∷ ts)
  stops e = sym (ap (λ (b : Bool). cond b n (first ts)) e)

  pub goes_on : {r : ℕ} → t ≡ false → r ≡ first ts → r ≡ first ((n, t) ∷ ts)
  goes_on e h = h ∙ sym (ap (λ (b : Bool). cond b n (first ts)) e)

-- one test that does not refuse
pub fails_alone : (n : ℕ) (t : Bool) → cond t (suc n) 0 ≡ 0 → t ≡ false
fails_alone n true e = absurd (let z : suc n ≡ 0 = e in omega arith)
fails_alone n false e = refl
