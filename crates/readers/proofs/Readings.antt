-- What is read of a line, one reading behind another, and what ends it. Assumes nothing.
use mathlib.Core.Path.{◌≡◌, refl, ap, ◌∙◌}
use mathlib.Core.Bool.{Bool, true, false}
use mathlib.Core.List.{List}
use Prim.Native.Nat.{ℕ, ◌≤◌}
use native.Mathlib.Omega.{arith}
use lib.Dec.{leb}
use borrow.Author.Tests.{leb-true}
use Rattle.std.proofs.lemmas.Option.{same_Some}
use Rattle.text.specs.Fields.{next_u32}
use Rattle.std.specs.Bool.{then_some}
use Rattle.std.specs.Prelude.{Option, Some, None, option_and_then}
use Rattle.std.specs.Option.{option_map_or}
use Rattle.readers.specs.Figures.{is_last, line_end, last_u32, then_read, last_read, last_two}

-- ---- one reading behind another
module _ {A B C : Type 0} (made : A → B → C) (next : ℕ → Option (B × ℕ)) {found : Option (A × ℕ)} {r : Option (C × ℕ)} where
  pub none_first : r ≡ None → None ≡ found → r ≡ then_read made found next
  none_first q e = q ∙ ap (λ (o : Option (A × ℕ)). then_read made o next) e

  pub none_behind : {a : A} {at : ℕ} → r ≡ None → Some (a, at) ≡ found → None ≡ next at → r ≡ then_read made found next
  none_behind q e f = rw (← e, ← f) q

  pub both_read : {a : A} {b : B} {at end : ℕ} → Some (a, at) ≡ found → Some (b, end) ≡ next at → r ≡ Some (made a b, end) → r ≡ then_read made found next
  both_read e f q = rw (← e, ← f) q

-- ---- what is read last
module _ {A : Type 0} (said : List ℕ) {found : Option (A × ℕ)} {r : Option A} where
  pub none_read : r ≡ None → None ≡ found → r ≡ last_read said found
  none_read q e = rw (← e) q

  pub goes_on : {a : A} {at : ℕ} → r ≡ None → Some (a, at) ≡ found → None ≡ line_end said at → r ≡ last_read said found
  goes_on {a} {at} q e n = rw (← e) (by (is_last said at) n)
    where
      by : (t : Bool) → None ≡ then_some t (tt {0}) → r ≡ then_some t a
      by true n = cc
      by false n = q

  pub ends_there : {a : A} {at : ℕ} → Some (a, at) ≡ found → Some tt ≡ line_end said at → r ≡ Some a → r ≡ last_read said found
  ends_there {a} {at} e n q = rw (← e) (by (is_last said at) n)
    where
      by : (t : Bool) → Some tt ≡ then_some t (tt {0}) → r ≡ then_some t a
      by true n = q
      by false n = cc

-- a last number is at most what was asked
pub last_most : (most : ℕ) (said : List ℕ) (at n : ℕ) → Some n ≡ last_u32 most said at → n ≤ most
unfolding last_u32
last_most most said at n e = by (last_read said (next_u32 said at)) e
  where
    few : (v : ℕ) (t : Bool) → leb v most ≡ t → Some n ≡ then_some t v → n ≤ most
    few v true q e = omega (arith, leb-true v most q, same_Some n v e)
    few v false q e = cc

    by : (r : Option ℕ) → Some n ≡ option_and_then (λ v. then_some (leb v most) v) r → n ≤ most
    by None e = cc
    by (Some v) e = few v (leb v most) refl e

-- ---- what is made of what was found
module _ {A B : Type 0} (made : A → Option B) {found : Option A} {r : Option B} where
  pub none_of : r ≡ None → None ≡ found → r ≡ option_and_then made found
  none_of q e = rw (← e) q

  pub some_of : {a : A} → Some a ≡ found → r ≡ made a → r ≡ option_and_then made found
  some_of e q = rw (← e) q

-- ---- what a line is answered, by what was found
module _ {A R : Type 0} (f : A → R) (d : R) {found : Option A} {r : R} where
  pub unanswered : r ≡ d → None ≡ found → r ≡ option_map_or f found d
  unanswered q e = rw (← e) q

  pub answered : {a : A} → Some a ≡ found → r ≡ f a → r ≡ option_map_or f found d
  answered e q = rw (← e) q

-- the same, by the one thing that it says or by two
module _ {A R : Type 0} (said : List ℕ) (f : A → R) (d : R) {found : Option (A × ℕ)} {r : R} where
  pub one_fails : r ≡ d → None ≡ found → r ≡ option_map_or f (last_read said found) d
  one_fails q e = rw (← e) q

  pub one_goes_on : {a : A} {at : ℕ} → r ≡ d → Some (a, at) ≡ found → None ≡ line_end said at → r ≡ option_map_or f (last_read said found) d
  one_goes_on q e n = q ∙ ap (λ (o : Option A). option_map_or f o d) (goes_on said refl e n)

  pub one_said : {a : A} {at : ℕ} → Some (a, at) ≡ found → Some tt ≡ line_end said at → r ≡ f a → r ≡ option_map_or f (last_read said found) d
  one_said e n q = q ∙ ap (λ (o : Option A). option_map_or f o d) (ends_there said e n refl)

module _ {A B R : Type 0} (said : List ℕ) (f : A × B → R) (d : R) (next : ℕ → Option (B × ℕ)) {found : Option (A × ℕ)} {r : R} where
  pub first_fails : r ≡ d → None ≡ found → r ≡ option_map_or f (last_two said found next) d
  first_fails q e = one_fails said f d q (none_first _ next refl e)

  pub second_fails : {a : A} {at : ℕ} → r ≡ d → Some (a, at) ≡ found → None ≡ next at → r ≡ option_map_or f (last_two said found next) d
  second_fails q e n = one_fails said f d q (none_behind _ next refl e n)

  pub two_go_on : {a : A} {b : B} {at end : ℕ} → r ≡ d → Some (a, at) ≡ found → Some (b, end) ≡ next at → None ≡ line_end said end
      → r ≡ option_map_or f (last_two said found next) d
  two_go_on q e n m = one_goes_on said f d q (both_read _ next e n refl) m

  pub two_said : {a : A} {b : B} {at end : ℕ} → Some (a, at) ≡ found → Some (b, end) ≡ next at → Some tt ≡ line_end said end → r ≡ f (a, b)
      → r ≡ option_map_or f (last_two said found next) d
  two_said e n m q = one_said said f d (both_read _ next e n refl) m q
