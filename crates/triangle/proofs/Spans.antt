-- Laws of spans: a span of columns runs from the smallest to one past the largest, or is 0 to 0 where there are none; there is one such span; the span of
-- two sets of columns is that of both joined; and a row's span, as it is defined, is the span of the edge points on the row. Assumes nothing.
use mathlib.Core.Path.{◌≡◌, refl, sym, ap, subst, ◌∙◌}
use mathlib.Core.Bool.{Bool, true, false, cond}
use mathlib.Core.List.Memᴰ
use mathlib.Core.List.{List, [], ◌∷◌, ◌++◌, Memᴰ}
use mathlib.Core.Logic.{◌⊎◌, inl, inr, ⊎_elim}
use Prim.Native.Nat.{ℕ, zero, suc, ◌<◌}
use native.Mathlib.Decide.{dec_lt}
use native.Mathlib.Omega.{arith}
use lib.IntN.{ℤ, pos, ◌+ℤ◌}
use lib.Signed.{◌≤ℤ◌, ◌<ℤ◌, ≤ℤ_refl}
use Rattle.whole.specs.Equal.{eq_z}
use Rattle.whole.proofs.Decides.{Decides, decides_map, decides_between, decides_eq, decides_no}
use Rattle.whole.proofs.Difference.{le_nat, lt_nat, eq_nat, nat_le, nat_lt, sum_nat}
use Rattle.whole.proofs.Order.{le_trans, le_antisym, lt_le_lt}
use Rattle.geometry.specs.declared.Point.{Point}
use Rattle.geometry.specs.Extreme.{lesser, greater}
use Rattle.geometry.proofs.Extreme.{Extremes, extremes}
use Rattle.line.specs.Line.{point_at, points, HasPoint}
use Rattle.geometry.specs.declared.Columns.{Columns}
use Rattle.triangle.proofs.Run.{Run}
use Rattle.triangle.proofs.Enclosed.{Enclosed}
use Rattle.triangle.specs.Row.{extended, hull, in_span, columns_to, line_columns}

-- ---- the span of the columns E
pub record Bounds (E : ℤ → Type 0) (s : Columns) : Type 0 where
  pub last : ℤ
  pub past : s.1 ≡ last +ℤ pos 1
  pub at_first : E s.0
  pub at_last : E last
  pub least : (x : ℤ) → E x → s.0 ≤ℤ x
  pub largest : (x : ℤ) → E x → x ≤ℤ last

abbrev pub Spans : (ℤ → Type 0) → Columns → Type 0
Spans E s = Bounds E s ⊎ ((s ≡ (pos 0, pos 0)) × ((x : ℤ) → E x → ⊥))

-- there is one
pub span_one : (E : ℤ → Type 0) (s t : Columns) → Spans E s → Spans E t → s ≡ t
span_one E s t (inl a) (inl b) =
    let first : s.0 ≡ t.0 = le_antisym (a.least t.0 b.at_first) (b.least s.0 a.at_first) in
    let last : a.last ≡ b.last = le_antisym (b.largest a.last a.at_last) (a.largest b.last b.at_last) in
    let past : s.1 ≡ t.1 = a.past ∙ ap (λ (x : ℤ). x +ℤ pos 1) last ∙ sym b.past in
    λ i. (first i, past i)
span_one E s t (inl a) (inr b) = absurd (b.1 s.0 a.at_first)
span_one E s t (inr a) (inl b) = absurd (a.1 t.0 b.at_first)
span_one E s t (inr a) (inr b) = a.0 ∙ sym b.0

-- of the same columns
pub span_map : (E F : ℤ → Type 0) (s : Columns) → ((x : ℤ) → E x → F x) → ((x : ℤ) → F x → E x) → Spans E s → Spans F s
span_map E F s f g (inl b) =
    inl (record {
      last = b.last;
      past = b.past;
      at_first = f s.0 b.at_first;
      at_last = f b.last b.at_last;
      least = λ x q. b.least x (g x q);
      largest = λ x q. b.largest x (g x q);
    })
span_map E F s f g (inr n) = inr (n.0, λ x q. n.1 x (g x q))

before_past : (x z y : ℤ) → z ≡ y +ℤ pos 1 → x ≤ℤ y → x <ℤ z
before_past x z y e h = nat_lt (omega (arith, le_nat h, sum_nat z y 1 e))

past_before : (x z y : ℤ) → z ≡ y +ℤ pos 1 → x <ℤ z → x ≤ℤ y
past_before x z y e h = nat_le (omega (arith, lt_nat h, sum_nat z y 1 e))

-- a column is in the span exactly if it lies between two of E
pub span_decides : (E : ℤ → Type 0) (s : Columns) (x : ℤ) → Spans E s → Decides (in_span s x) (Enclosed E x)
span_decides E s x b = decides_map (decides_between s.0 s.1 x) (to b) (from b)
  where
    to : Spans E s → (s.0 ≤ℤ x) × (x <ℤ s.1) → Enclosed E x
    to (inl b) h = record { first = s.0; last = b.last; from = h.0; to = past_before x s.1 b.last b.past h.1; at_first = b.at_first; at_last = b.at_last }
    to (inr n) h = absurd (omega (arith, le_nat h.0, lt_nat h.1, eq_nat (ap (λ (c : Columns). c.0) n.0), eq_nat (ap (λ (c : Columns). c.1) n.0)))

    from : Spans E s → Enclosed E x → (s.0 ≤ℤ x) × (x <ℤ s.1)
    from (inl b) h = (le_trans (b.least h.first h.at_first) h.from, before_past x s.1 b.last b.past (le_trans h.to (b.largest h.last h.at_last)))
    from (inr n) h = absurd (n.1 h.first h.at_first)

-- ---- two spans joined
full : (E : ℤ → Type 0) (s : Columns) → Bounds E s → eq_z s.0 s.1 ≡ false
full E s b = decides_no (decides_eq s.0 s.1) (λ e. omega (arith, eq_nat e, lt_nat (before_past s.0 s.1 b.last b.past (b.least b.last b.at_last))))

empty : (s : Columns) → s ≡ (pos 0, pos 0) → eq_z s.0 s.1 ≡ true
empty s e = ap (λ (c : Columns). eq_z c.0 c.1) e

module _ (E F : ℤ → Type 0) (s t : Columns) where
  abbrev Both : ℤ → Type 0
  Both x = E x ⊎ F x

  module _ (a : Bounds E s) (b : Bounds F t) where
    join_both : Bounds Both (lesser s.0 t.0, greater s.1 t.1)
    join_both = by past.high_is
      where
        first : Extremes s.0 t.0 (lesser s.0 t.0) (greater s.0 t.0)
        first = extremes s.0 t.0

        past : Extremes s.1 t.1 (lesser s.1 t.1) (greater s.1 t.1)
        past = extremes s.1 t.1

        -- every column is before the greater end
        below : (x : ℤ) → Both x → x <ℤ greater s.1 t.1
        below x (inl q) = lt_le_lt (before_past x s.1 a.last a.past (a.largest x q)) past.to_first
        below x (inr q) = lt_le_lt (before_past x t.1 b.last b.past (b.largest x q)) past.to_second

        over : (z : ℤ) → greater s.1 t.1 ≡ z +ℤ pos 1 → Both z → Bounds Both (lesser s.0 t.0, greater s.1 t.1)
        over z e q =
            record {
              last = z;
              past = e;
              at_first = ⊎_elim (λ h. inl (subst E (sym h) a.at_first)) (λ h. inr (subst F (sym h) b.at_first)) first.low_is;
              at_last = q;
              least = λ x. ⊎_elim (λ h. le_trans first.from_first (a.least x h)) (λ h. le_trans first.from_second (b.least x h));
              largest = λ x h. past_before x (greater s.1 t.1) z e (below x h);
            }

        by : (greater s.1 t.1 ≡ s.1) ⊎ (greater s.1 t.1 ≡ t.1) → Bounds Both (lesser s.0 t.0, greater s.1 t.1)
        by (inl e) = over a.last (e ∙ a.past) (inl a.at_last)
        by (inr e) = over b.last (e ∙ b.past) (inr b.at_last)

  pub join_spans : Spans E s → Spans F t → Spans Both (extended s t)
  unfolding extended
  join_spans (inl a) (inl b) = rw (full E s a, full F t b) (inl (join_both a b))
  join_spans (inl a) (inr m) = rw (full E s a, empty t m.0) (span_map E Both s (λ x. inl) (λ x. ⊎_elim (λ q. q) (λ q. absurd (m.1 x q))) (inl a))
  join_spans (inr n) b = rw (empty s n.0) (span_map F Both t (λ x. inr) (λ x. ⊎_elim (λ q. absurd (n.1 x q)) (λ q. q)) b)

-- ---- the span of a list of columns
pub list_spans : (xs : List ℤ) → Spans (λ x. Memᴰ x xs) (hull xs)
unfolding hull
list_spans [] = inr (refl, λ x. Memᴰ.not-nil)
list_spans (c ∷ xs) =
    span_map (λ x. (x ≡ c) ⊎ Memᴰ x xs) (λ x. Memᴰ x (c ∷ xs)) (extended (c, c +ℤ pos 1) (hull xs)) (λ x. ⊎_elim Memᴰ.head Memᴰ.tail)
    (λ x. Memᴰ.cases_cons)
    (join_spans (λ x. x ≡ c) (λ x. Memᴰ x xs) (c, c +ℤ pos 1) (hull xs)
    (inl (record { last = c; past = refl; at_first = refl; at_last = refl; least = λ x e. nat_le (omega (arith, eq_nat e)); largest = λ x e. nat_le (omega (arith, eq_nat e)) }))
    (list_spans xs))

-- one list after another
pub span_append : (xs ys : List ℤ) → extended (hull xs) (hull ys) ≡ hull (xs ++ ys)
span_append xs ys =
    span_one (λ x. Memᴰ x (xs ++ ys)) _ _
    (span_map (λ x. Memᴰ x xs ⊎ Memᴰ x ys) (λ x. Memᴰ x (xs ++ ys)) _ (λ x. ⊎_elim (Memᴰ.append_left ys) (Memᴰ.append_right xs)) (λ x. Memᴰ.append_cases xs)
    (join_spans (λ x. Memᴰ x xs) (λ x. Memᴰ x ys) (hull xs) (hull ys) (list_spans xs) (list_spans ys)))
    (list_spans (xs ++ ys))

-- ---- the columns of a line's points on a row
record Step (f : ℕ → Point) (x y : ℤ) (n : ℕ) : Type 0 where
  k : ℕ
  below : k < n
  here : (x, y) ≡ f k

module _ (f : ℕ → Point) (x y : ℤ) where
  listed : (n : ℕ) → Memᴰ x (columns_to f y n) → Step f x y n
  listed zero m = absurd (Memᴰ.not-nil m)
  listed (suc n) m = by (eq_z (f n).1 y) (decides_eq (f n).1 y) (λ (k : Memᴰ x (columns_to f y n)). listed n k) m
    where
      more : Step f x y n → Step f x y (suc n)
      more q = record { k = q.k; below = omega (arith, q.below); here = q.here }

      by : (t : Bool) → Decides t ((f n).1 ≡ y) → (Memᴰ x (columns_to f y n) → Step f x y n) → Memᴰ x (cond t ((f n).0 ∷ columns_to f y n) (columns_to f y n))
          → Step f x y (suc n)
      by true d fewer m = ⊎_elim (λ e. record { k = n; below = omega arith; here = λ i. (e i, sym (d.yes refl) i) }) (λ q. more (fewer q)) (Memᴰ.cases_cons m)
      by false d fewer m = more (fewer m)

  lists : (n : ℕ) → Step f x y n → Memᴰ x (columns_to f y n)
  lists zero q = absurd (omega (arith, q.below))
  lists (suc n) q = by (eq_z (f n).1 y) (decides_eq (f n).1 y) (λ (l : q.k < n). lists n (record { k = q.k; below = l; here = q.here })) (dec_lt q.k n)
    where
      here : ¬ (q.k < n) → (x, y) ≡ f n
      here l = q.here ∙ ap f (omega (arith, q.below))

      by : (t : Bool) → Decides t ((f n).1 ≡ y) → (q.k < n → Memᴰ x (columns_to f y n)) → Dec (q.k < n) → Memᴰ x (cond t ((f n).0 ∷ columns_to f y n) (columns_to f y n))
      by true d fewer (yes l) = Memᴰ.tail (fewer l)
      by true d fewer (no l) = Memᴰ.head (ap (λ (p : Point). p.0) (here l))
      by false d fewer (yes l) = fewer l
      by false d fewer (no l) = absurd (d.no refl (ap (λ (p : Point). p.1) (sym (here l))))

module _ (s e : Point) (x y : ℤ) where
  pub column_has : Memᴰ x (line_columns s e y) → HasPoint s e (x, y)
  unfolding line_columns
  column_has m = let q = listed (point_at s e) x y (points s e) m in record { step = q.k; walked = omega (arith, q.below); here = q.here }

  pub has_column : HasPoint s e (x, y) → Memᴰ x (line_columns s e y)
  unfolding line_columns
  has_column h = lists (point_at s e) x y (points s e) (record { k = h.step; below = omega (arith, h.walked); here = h.here })

-- the span of a line's points on a row
pub line_spans : (s e : Point) (y : ℤ) → Spans (λ x. HasPoint s e (x, y)) (hull (line_columns s e y))
line_spans s e y = span_map (λ x. Memᴰ x (line_columns s e y)) (λ x. HasPoint s e (x, y)) _ (λ x. column_has s e x y) (λ x. has_column s e x y) (list_spans (line_columns s e y))

-- it is the run, or there is none
pub run_span : (s e : Point) (y lo hi : ℤ) → Run s e y lo hi → hull (line_columns s e y) ≡ (lo, hi +ℤ pos 1)
run_span s e y lo hi r =
    span_one (λ x. HasPoint s e (x, y)) _ _ (line_spans s e y)
    (inl (record {
      last = hi;
      past = refl;
      at_first = r.on lo (≤ℤ_refl lo) r.some;
      at_last = r.on hi r.some (≤ℤ_refl hi);
      least = λ x q. (r.has x q).0;
      largest = λ x q. (r.has x q).1;
    }))

pub no_span : (s e : Point) (y : ℤ) → ((x : ℤ) → HasPoint s e (x, y) → ⊥) → hull (line_columns s e y) ≡ (pos 0, pos 0)
no_span s e y n = span_one (λ x. HasPoint s e (x, y)) _ _ (line_spans s e y) (inr (refl, n))
