-- Laws of an input's lines: the first one and those behind it; and that it does not matter in which parts an input comes. Assumes nothing.
use mathlib.Core.Path.{◌≡◌, refl, sym, ap, ap₂, ◌∙◌}
use mathlib.Core.Bool.{Bool, true, false, cond, ◌&&◌}
use mathlib.Core.List.{List, [], ◌∷◌, ◌++◌, append_assoc, append-nil}
use Prim.Native.Nat.{ℕ, zero, suc, ◌+◌, ◌-◌, ◌≤◌, ◌<◌}
use native.Mathlib.Nat.{le_of_lt, zero-add}
use native.Mathlib.Omega.{arith}
use lib.Dec.{ltb, eqb}
use lib.ListN.{length, take, drop, length-drop, drop_of_length-le}
use lib.Seq.{drop-drop, drop-append-le, take-append-le, take-append-add, drop-append-add}
use borrow.Author.Tests.{ltb-true, ltb-false, lt-ltb, le-ltb}
use Rattle.text.specs.Fields.{until, on_first, lines}
use Rattle.text.specs.Lines.{line_end, line_at, first_line, each, over, handled, taken, whole, streamed}
use Rattle.text.proofs.And.{and_false}
use Rattle.text.proofs.Parting.{until_within}

-- ---- the first line and those behind it
pub first_line_lem : (b : ℕ) (s : List ℕ) → lines (b ∷ s) ≡ first_line (b ∷ s) ∷ lines (drop (until 10 (b ∷ s) + 1) (b ∷ s))
first_line_lem b [] = at (eqb b 10)
  where
    at : (t : Bool) → cond t ([] ∷ []) ((b ∷ []) ∷ []) ≡ take (cond t 0 1) (b ∷ []) ∷ lines (drop (cond t 0 1 + 1) (b ∷ []))
    at true = refl
    at false = refl
first_line_lem b (c ∷ s) = by (eqb b 10) refl (first_line_lem c s)
  where
    by : (t : Bool) → eqb b 10 ≡ t → lines (c ∷ s) ≡ first_line (c ∷ s) ∷ lines (drop (until 10 (c ∷ s) + 1) (c ∷ s))
        → lines (b ∷ c ∷ s) ≡ first_line (b ∷ c ∷ s) ∷ lines (drop (until 10 (b ∷ c ∷ s) + 1) (b ∷ c ∷ s))
    by true e h = rw e
    by false e h = rw e (ap (on_first b) h ∙ ap (λ (k : ℕ). (b ∷ first_line (c ∷ s)) ∷ lines (drop k (b ∷ c ∷ s))) (more (until 10 (c ∷ s))))
      where
        more : (u : ℕ) → suc (u + 1) ≡ suc u + 1
        more u = omega arith

-- a line, as the code lends it
pub line_is : (s : List ℕ) (at end : ℕ) → end ≡ line_end s at → take (end - at) (drop at s) ≡ line_at s at
line_is s at end e = ap (λ (k : ℕ). take k (drop at s)) count
  where
    count : end - at ≡ until 10 (drop at s)
    count = omega arith

-- ---- where the first `stop` stands in a text and what comes behind it
until_in : (stop : ℕ) (s t : List ℕ) → until stop s < length s → until stop (s ++ t) ≡ until stop s
until_in stop [] t h = absurd (omega arith)
until_in stop (b ∷ s) t h = by (eqb b stop) refl (until_in stop s t)
  where
    by : (x : Bool) → eqb b stop ≡ x → (until stop s < length s → until stop (s ++ t) ≡ until stop s) → until stop (b ∷ (s ++ t)) ≡ until stop (b ∷ s)
    by true e r = rw e
    by false e r = rw e (ap suc (r (omega (arith, rw e at h))))

until_past : (stop : ℕ) (s t : List ℕ) → until stop s ≡ length s → until stop (s ++ t) ≡ length s + until stop t
until_past stop [] t h = sym (zero-add (until stop t))
until_past stop (b ∷ s) t h = by (eqb b stop) refl (until_past stop s t)
  where
    by : (x : Bool) → eqb b stop ≡ x → (until stop s ≡ length s → until stop (s ++ t) ≡ length s + until stop t) → until stop (b ∷ (s ++ t)) ≡ suc (length s) + until stop t
    by true e r = absurd (omega (arith, rw e at h))
    by false e r = rw e (omega (arith, r (omega (arith, rw e at h))))

pub until_take : (stop : ℕ) (s : List ℕ) (k : ℕ) → until stop s ≡ length s → until stop (take k s) ≡ length (take k s)
until_take stop s zero h = refl
until_take stop [] (suc k) h = refl
until_take stop (b ∷ s) (suc k) h = by (eqb b stop) refl (until_take stop s k)
  where
    by : (x : Bool) → eqb b stop ≡ x → (until stop s ≡ length s → until stop (take k s) ≡ length (take k s)) → until stop (b ∷ take k s) ≡ suc (length (take k s))
    by true e r = absurd (omega (arith, rw e at h))
    by false e r = rw e (ap suc (r (omega (arith, rw e at h))))

module _ {S : Type 0} (f : S → List ℕ → S) where
  -- ---- a line that LF ends
  over_line : (st : S) (s t : List ℕ) → until 10 s < length s → over f st (s ++ t) ≡ over f (f st (first_line s)) (drop (until 10 s + 1) s ++ t)
  over_line st [] t h = absurd (omega arith)
  over_line st (b ∷ s) t h =
      let u : until 10 (b ∷ (s ++ t)) ≡ until 10 (b ∷ s) = until_in 10 (b ∷ s) t h in
      ap (each f st) (first_line_lem b (s ++ t) ∙ ap (λ (k : ℕ). take k (b ∷ (s ++ t)) ∷ lines (drop (k + 1) (b ∷ (s ++ t)))) u)
      ∙ ap₂ (λ (l r : List ℕ). over f (f st l) r) (take-append-le (until 10 (b ∷ s)) (b ∷ s) t (le_of_lt h)) (drop-append-le (until 10 (b ∷ s) + 1) (b ∷ s) t (omega arith))

  -- the same at a place
  over_at : (st : S) (s t : List ℕ) (at : ℕ) → line_end s at < length s → over f st (drop at s ++ t) ≡ over f (f st (line_at s at)) (drop (line_end s at + 1) s ++ t)
  over_at st s t at h =
      over_line st (drop at s) t (omega (arith, length-drop at s))
      ∙ ap (λ (r : List ℕ). over f (f st (line_at s at)) (r ++ t)) (drop-drop (until 10 (drop at s) + 1) at s ∙ ap (λ (k : ℕ). drop k s) more)
    where
      more : at + (until 10 (drop at s) + 1) ≡ at + until 10 (drop at s) + 1
      more = omega arith

  -- ---- handling lines from a place on leaves those behind it to be handled. The handler may be another, g, if what it does is, seen through a view,
  -- what f does, as long as there is room and what it leaves is good; if what is left at the end is good, what was left before is
  module _ {X : Type 0} (room : X → Bool) (g : X → List ℕ → X) (view : X → S) (Good : X → Type 0) (back : (x : X) (l : List ℕ) → Good (g x l) → Good x)
      (same : (x : X) (l : List ℕ) → room x ≡ true → Good (g x l) → view (g x l) ≡ f (view x) l) where
    handled_back : (s : List ℕ) (turns at : ℕ) (x : X) → Good (handled room g s turns at x).1 → Good x
    unfolding handled
    handled_back s zero at x h = h
    handled_back s (suc turns) at x h =
        by (ltb (line_end s at) (length s) && room x) (handled room g s turns (line_end s at + 1) (g x (line_at s at))) (handled_back s turns (line_end s at + 1) (g x (line_at s at))) h
      where
        by : (a : Bool) (n : ℕ × X) → (Good n.1 → Good (g x (line_at s at))) → Good (cond a n (at, x)).1 → Good x
        by true n r h = back x (line_at s at) (r h)
        by false n r h = h

    pub handled_seen : (s t : List ℕ) (turns at : ℕ) (x : X) → Good (handled room g s turns at x).1
        → over f (view x) (drop at s ++ t) ≡ over f (view (handled room g s turns at x).1) (drop (handled room g s turns at x).0 s ++ t)
    unfolding handled
    handled_seen s t zero at x h = refl
    handled_seen s t (suc turns) at x h =
        by (ltb (line_end s at) (length s)) (room x) (handled room g s turns (line_end s at + 1) (g x (line_at s at))) refl refl
        (handled_seen s t turns (line_end s at + 1) (g x (line_at s at))) (handled_back s turns (line_end s at + 1) (g x (line_at s at))) h
      where
        by : (a b : Bool) (n : ℕ × X) → ltb (line_end s at) (length s) ≡ a → room x ≡ b
            → (Good n.1 → over f (view (g x (line_at s at))) (drop (line_end s at + 1) s ++ t) ≡ over f (view n.1) (drop n.0 s ++ t))
            → (Good n.1 → Good (g x (line_at s at))) → Good (cond (a && b) n (at, x)).1
            → over f (view x) (drop at s ++ t) ≡ over f (view (cond (a && b) n (at, x)).1) (drop (cond (a && b) n (at, x)).0 s ++ t)
        by true true n e q r k h =
            over_at (view x) s t at (ltb-true (line_end s at) (length s) e)
            ∙ ap (λ (y : S). over f y (drop (line_end s at + 1) s ++ t)) (sym (same x (line_at s at) q (k h))) ∙ r h
        by true false n e q r k h = refl
        by false b n e q r k h = refl

  pub handled_within : (room : S → Bool) (s : List ℕ) (turns at : ℕ) (st : S) → at ≤ length s → (handled room f s turns at st).0 ≤ length s
  unfolding handled
  handled_within room s zero at st h = h
  handled_within room s (suc turns) at st h =
      by (ltb (line_end s at) (length s)) (room st) (handled room f s turns (line_end s at + 1) (f st (line_at s at))) refl
      (handled_within room s turns (line_end s at + 1) (f st (line_at s at)))
    where
      by : (x y : Bool) (n : ℕ × S) → ltb (line_end s at) (length s) ≡ x → (line_end s at + 1 ≤ length s → n.0 ≤ length s) → (cond (x && y) n (at, st)).0 ≤ length s
      by true true n e r = r (omega (arith, ltb-true (line_end s at) (length s) e))
      by true false n e r = h
      by false y n e r = h

  -- and keeps what each line keeps
  pub handled_keeps : (room : S → Bool) (P : S → Type 0) → ((st : S) (l : List ℕ) → room st ≡ true → P st → P (f st l))
      → (s : List ℕ) (turns at : ℕ) (st : S) → P st → P (handled room f s turns at st).1
  unfolding handled
  handled_keeps room P keep s zero at st h = h
  handled_keeps room P keep s (suc turns) at st h =
      by (ltb (line_end s at) (length s)) (room st) refl (λ r. handled_keeps room P keep s turns (line_end s at + 1) (f st (line_at s at)) (keep st (line_at s at) r h))
    where
      by : (x y : Bool) → room st ≡ y → (room st ≡ true → P (handled room f s turns (line_end s at + 1) (f st (line_at s at))).1)
          → P (cond (x && y) (handled room f s turns (line_end s at + 1) (f st (line_at s at))) (at, st)).1
      by true true e r = r e
      by true false e r = h
      by false y e r = h

  pub handled_over : (room : S → Bool) (s t : List ℕ) (turns at : ℕ) (st : S)
      → over f st (drop at s ++ t) ≡ over f (handled room f s turns at st).1 (drop (handled room f s turns at st).0 s ++ t)
  handled_over room s t turns at st = handled_seen room f (λ (x : S). x) (λ (x : S). Unit {0}) (λ x l h. tt) (λ x l r h. refl) s t turns at st tt

  -- with turns enough and room for all, no LF is left
  handled_all : (s : List ℕ) (turns at : ℕ) (st : S) → at ≤ length s → length s ≤ at + turns
      → until 10 (drop (handled (λ (x : S). true) f s turns at st).0 s) ≡ length (drop (handled (λ (x : S). true) f s turns at st).0 s)
  unfolding handled
  handled_all s zero at st h k = rw (drop_of_length-le s (enough at k))
    where
      enough : (at : ℕ) → length s ≤ at + 0 → length s ≤ at
      enough at k = omega arith
  handled_all s (suc turns) at st h k =
      by (ltb (line_end s at) (length s)) (handled (λ (x : S). true) f s turns (line_end s at + 1) (f st (line_at s at))) refl
      (handled_all s turns (line_end s at + 1) (f st (line_at s at)))
    where
      by : (x : Bool) (n : ℕ × S) → ltb (line_end s at) (length s) ≡ x
          → (line_end s at + 1 ≤ length s → length s ≤ line_end s at + 1 + turns → until 10 (drop n.0 s) ≡ length (drop n.0 s))
          → until 10 (drop (cond (x && true) n (at, st)).0 s) ≡ length (drop (cond (x && true) n (at, st)).0 s)
      by true n e r = r (omega (arith, ltb-true (line_end s at) (length s) e)) (omega arith)
      by false n e r = omega (arith, ltb-false (line_end s at) (length s) e, until_within 10 (drop at s), length-drop at s)

  -- ---- turn by turn, as many turns as there are bytes: more change nothing
  handled_stop : (room : S → Bool) (s : List ℕ) (turns at : ℕ) (st : S) → ltb (line_end s at) (length s) && room st ≡ false → handled room f s turns at st ≡ (at, st)
  unfolding handled
  handled_stop room s zero at st e = refl
  handled_stop room s (suc turns) at st e = rw e

  enough : (room : S → Bool) (s : List ℕ) (m n at : ℕ) (st : S) → length s ≤ at + m → length s ≤ at + n → handled room f s m at st ≡ handled room f s n at st
  unfolding handled
  enough room s zero n at st h k = sym (handled_stop room s n at st (ap (λ (b : Bool). b && room st) (le-ltb (line_end s at) (length s) (omega arith))))
  enough room s (suc m) zero at st h k = handled_stop room s (suc m) at st (ap (λ (b : Bool). b && room st) (le-ltb (line_end s at) (length s) (omega arith)))
  enough room s (suc m) (suc n) at st h k =
      ap (λ (x : ℕ × S). cond (ltb (line_end s at) (length s) && room st) x (at, st))
      (enough room s m n (line_end s at + 1) (f st (line_at s at)) (omega arith) (omega arith))

  pub handled_turn : (room : S → Bool) (s : List ℕ) (at : ℕ) (st : S) → line_end s at < length s → room st ≡ true
      → handled room f s (length s) at st ≡ handled room f s (length s) (line_end s at + 1) (f st (line_at s at))
  unfolding handled
  handled_turn room s at st h r = enough room s (length s) (suc (length s)) at st (omega arith) (omega arith) ∙ one
    where
      one : handled room f s (suc (length s)) at st ≡ handled room f s (length s) (line_end s at + 1) (f st (line_at s at))
      one = rw (lt-ltb (line_end s at) (length s) h, r)

  -- no line that LF ends, or no room
  pub handled_none : (room : S → Bool) (s : List ℕ) (turns at : ℕ) (st : S) → length s ≤ line_end s at → handled room f s turns at st ≡ (at, st)
  handled_none room s turns at st h = handled_stop room s turns at st (ap (λ (b : Bool). b && room st) (le-ltb (line_end s at) (length s) h))

  pub handled_full : (room : S → Bool) (s : List ℕ) (turns at : ℕ) (st : S) → room st ≡ false → handled room f s turns at st ≡ (at, st)
  handled_full room s turns at st e = handled_stop room s turns at st (ap (λ (b : Bool). ltb (line_end s at) (length s) && b) e ∙ and_false (ltb (line_end s at) (length s)))

  -- ---- a line whose LF is still to come
  over_open : (st : S) (b : ℕ) (s t : List ℕ) → until 10 (b ∷ s) ≡ length (b ∷ s)
      → over f st (b ∷ (s ++ t)) ≡ over f (f st ((b ∷ s) ++ take (until 10 t) t)) (drop (until 10 t + 1) t)
  over_open st b s t h =
      ap (each f st) (first_line_lem b (s ++ t) ∙ ap (λ (k : ℕ). take k (b ∷ (s ++ t)) ∷ lines (drop (k + 1) (b ∷ (s ++ t)))) (until_past 10 (b ∷ s) t h))
      ∙ ap₂ (λ (l r : List ℕ). over f (f st l) r) (take-append-add (b ∷ s) t (until 10 t))
      (ap (λ (k : ℕ). drop k (b ∷ (s ++ t))) more ∙ drop-append-add (b ∷ s) t (until 10 t + 1))
    where
      more : length (b ∷ s) + until 10 t + 1 ≡ length (b ∷ s) + (until 10 t + 1)
      more = omega arith

  -- what handles a line looks at its first `cut` bytes alone, and so they are enough of an open line
  pub over_cut : (cut : ℕ) → ((st : S) (l : List ℕ) → f st l ≡ f st (take (suc cut) l))
      → (st : S) (s t : List ℕ) → until 10 s ≡ length s → over f st (s ++ t) ≡ over f st (take (suc cut) s ++ t)
  over_cut cut blind st [] t h = refl
  over_cut cut blind st (b ∷ s) t h =
      over_open st b s t h
      ∙ ap (λ (x : S). over f x (drop (until 10 t + 1) t))
      (blind st ((b ∷ s) ++ take (until 10 t) t) ∙ ap (f st) (twice (suc cut) (b ∷ s) (take (until 10 t) t)) ∙ sym (blind st (take (suc cut) (b ∷ s) ++ take (until 10 t) t)))
      ∙ sym (over_open st b (take cut s) t (until_take 10 (b ∷ s) (suc cut) h))
    where
      twice : (k : ℕ) (s t : List ℕ) → take k (s ++ t) ≡ take k (take k s ++ t)
      twice zero s t = refl
      twice (suc k) [] t = refl
      twice (suc k) (b ∷ s) t = ap (λ (l : List ℕ). b ∷ l) (twice k s t)

  -- ---- in which parts an input comes does not matter
  pub streamed_is : (cut : ℕ) → ((st : S) (l : List ℕ) → f st l ≡ f st (take (suc cut) l))
      → (st : S) (kept : List ℕ) (parts : List (List ℕ)) → streamed f (suc cut) st kept parts ≡ over f st (kept ++ whole parts)
  streamed_is cut blind st kept [] = ap (over f st) (sym (append-nil kept))
  streamed_is cut blind st kept (part ∷ more) =
      let s : List ℕ = kept ++ part in
      streamed_is cut blind (taken f s st).1 (take (suc cut) (drop (taken f s st).0 s)) more
      ∙ sym (over_cut cut blind (taken f s st).1 (drop (taken f s st).0 s) (whole more) (handled_all s (length s) 0 st (omega arith) (omega arith)))
      ∙ sym (handled_over (λ (x : S). true) s (whole more) (length s) 0 st)
      ∙ ap (over f st) (append_assoc kept part (whole more))
