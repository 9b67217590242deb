-- No two refusals have one number, none has 0 and each other number has one, so that an answer is known by its number and its value. Assumes nothing.
use mathlib.Core.Path.{◌≡◌, refl, sym, ap, ◌∙◌}
use mathlib.Core.Bool.{Bool, true, false, cond}
use mathlib.Core.List.{◌++◌}
use Prim.Native.Nat.{ℕ, zero, suc, ◌≤◌, ◌<◌}
use Rattle.std.specs.Coded.{le_prop}
use lib.Dec.{eqb, ltb}
use native.Mathlib.Omega.{arith}
use borrow.Author.Tests.{ltb-true, ltb-false, eqb-true, eqb-false}
use Rattle.std.specs.Prelude.{Result, Ok, Err, IsErr, IsErrAnd, ⊤}
use Rattle.refusals.specs.First.{Tests, first}
use Rattle.refusals.proofs.First.{refused}
use Rattle.refusals.specs.declared.Beyond.{Beyond}
use Rattle.refusals.specs.declared.Refusal.{Refusal}
use Rattle.refusals.specs.declared.Refusal.TheVariants.{BadDepth, TooLarge, ShortBuffer, BadColour, OutOfBounds, CircleTooFar, PastLastStep, OutsideFrame, ShortOutput, UnfitFrame, BadHeader, ShortFile, OtherSize, BadDistance, Other}
use Rattle.refusals.specs.Refusal.{number, as_number}

-- the refusal that has the number; of 0, which none has, the last of the table
abbrev by_number : (n : ℕ) (past : Bool) → ltb 14 n ≡ past → Refusal
by_number n true e = Other (record { number = n; past = ltb-true 14 n e })
by_number n false e =
    cond (eqb n 1) BadDepth (
    cond (eqb n 2) TooLarge (
    cond (eqb n 3) ShortBuffer (
    cond (eqb n 4) BadColour (
    cond (eqb n 5) OutOfBounds (
    cond (eqb n 6) CircleTooFar (
    cond (eqb n 7) PastLastStep (
    cond (eqb n 8) OutsideFrame (
    cond (eqb n 9) ShortOutput (
    cond (eqb n 10) UnfitFrame (
    cond (eqb n 11) BadHeader (
    cond (eqb n 12) ShortFile (
    cond (eqb n 13) OtherSize (
    BadDistance)))))))))))))

abbrev pub named : ℕ → Refusal
named n = by_number n (ltb 14 n) refl

beyond_is : (o : Beyond) (past : Bool) (e : ltb 14 o.number ≡ past) → by_number o.number past e ≡ Other o
beyond_is o true e = λ i. Other (record { number = o.number; past = le_prop (ltb-true 14 o.number e) o.past i })
beyond_is o false e = absurd (omega (arith, ltb-false 14 o.number e, o.past))

named_is : (r : Refusal) → named (number r) ≡ r
named_is BadDepth = refl
named_is TooLarge = refl
named_is ShortBuffer = refl
named_is BadColour = refl
named_is OutOfBounds = refl
named_is CircleTooFar = refl
named_is PastLastStep = refl
named_is OutsideFrame = refl
named_is ShortOutput = refl
named_is UnfitFrame = refl
named_is BadHeader = refl
named_is ShortFile = refl
named_is OtherSize = refl
named_is BadDistance = refl
named_is (Other o) = beyond_is o (ltb 14 o.number) refl

pub same_refusal : {r q : Refusal} → number r ≡ number q → r ≡ q
same_refusal {r} {q} h = sym (named_is r) ∙ ap named h ∙ named_is q

pub some_number : (r : Refusal) → number r ≡ 0 → ⊥
some_number BadDepth e = omega (arith, e)
some_number TooLarge e = omega (arith, e)
some_number ShortBuffer e = omega (arith, e)
some_number BadColour e = omega (arith, e)
some_number OutOfBounds e = omega (arith, e)
some_number CircleTooFar e = omega (arith, e)
some_number PastLastStep e = omega (arith, e)
some_number OutsideFrame e = omega (arith, e)
some_number ShortOutput e = omega (arith, e)
some_number UnfitFrame e = omega (arith, e)
some_number BadHeader e = omega (arith, e)
some_number ShortFile e = omega (arith, e)
some_number OtherSize e = omega (arith, e)
some_number BadDistance e = omega (arith, e)
some_number (Other o) e = omega (arith, e, o.past)

-- each number but 0 has a refusal: it is k, the refusal r's, or above k
one_or_above : {n k : ℕ} → k ≤ n → (r q : Refusal) → number r ≡ k → (k < n → number q ≡ n) → number (cond (eqb n k) r q) ≡ n
one_or_above {n} {k} l r q is above = go (eqb n k) refl
  where
    go : (b : Bool) → eqb n k ≡ b → number (cond b r q) ≡ n
    go true e = is ∙ sym (eqb-true n k e)
    go false e = above (omega (arith, l, eqb-false n k e))

number_named : (n : ℕ) → 0 < n → (past : Bool) (e : ltb 14 n ≡ past) → number (by_number n past e) ≡ n
number_named n l true e = refl
number_named n l false e =
    one_or_above l BadDepth _ refl (λ l.
    one_or_above l TooLarge _ refl (λ l.
    one_or_above l ShortBuffer _ refl (λ l.
    one_or_above l BadColour _ refl (λ l.
    one_or_above l OutOfBounds _ refl (λ l.
    one_or_above l CircleTooFar _ refl (λ l.
    one_or_above l PastLastStep _ refl (λ l.
    one_or_above l OutsideFrame _ refl (λ l.
    one_or_above l ShortOutput _ refl (λ l.
    one_or_above l UnfitFrame _ refl (λ l.
    one_or_above l BadHeader _ refl (λ l.
    one_or_above l ShortFile _ refl (λ l.
    one_or_above l OtherSize _ refl (λ l.
    omega (arith, l, ltb-false 14 n e))))))))))))))

-- so that whoever judges can answer by any number, 0 for nothing
abbrev pub told : ℕ → Result ⊤ Refusal
told zero = Ok tt
told (suc n) = Err (named (suc n))

pub each_number : (n : ℕ) → as_number (told n) ≡ n
each_number zero = refl
each_number (suc n) = number_named (suc n) (omega arith) (ltb 14 (suc n)) refl

-- two answers that C is handed as one are one: `of` hands over, and the number and the value are read off
module _ {A C : Type 0} (of : Result A Refusal → C) (n : C → ℕ) (v : C → A) where
  pub same_answer : ((x : A) → (n (of (Ok x)) ≡ 0) × (v (of (Ok x)) ≡ x)) → ((r : Refusal) → n (of (Err r)) ≡ number r) → {a b : Result A Refusal} → of a ≡ of b → a ≡ b
  same_answer done refused {a} {b} h = go a b h
    where
      go : (a b : Result A Refusal) → of a ≡ of b → a ≡ b
      go (Ok x) (Ok y) h = ap Ok (sym (done x).1 ∙ ap v h ∙ (done y).1)
      go (Ok x) (Err q) h = absurd (some_number q (sym (refused q) ∙ sym (ap n h) ∙ (done x).0))
      go (Err r) (Ok y) h = absurd (some_number r (sym (refused r) ∙ ap n h ∙ (done y).0))
      go (Err r) (Err q) h = ap Err (same_refusal (sym (refused r) ∙ ap n h ∙ refused q))

-- what a `?` hands back
pub handed_back : {A : Type 0} (a : Result A Refusal) {r : Refusal} → IsErr a × IsErrAnd a (λ q. q ≡ r) → a ≡ Err r
handed_back (Ok x) h = absurd h.1
handed_back (Err q) h = ap Err h.1

-- with further tests behind those that refused
pub refused_with : {A : Type 0} (a : Result A Refusal) (r : Refusal) → IsErr a × IsErrAnd a (λ q. q ≡ r) → (xs ys : Tests) → number r ≡ first xs → as_number a ≡ first (xs ++ ys)
refused_with a r h xs ys e = ap as_number (handed_back a h) ∙ refused xs ys e (some_number r)
