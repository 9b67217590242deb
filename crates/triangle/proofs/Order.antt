-- Laws of sorting: the sorted vertices are in order, what does not mind the order of the vertices is the same of the
-- sorted ones, and any order of the vertices sorts to the same. Assumes nothing.
use mathlib.Core.Path.{◌≡◌, refl, sym, ap, ◌∙◌}
use mathlib.Core.Bool.{Bool, true, false, cond}
use Prim.Native.Nat.{ℕ, ◌+◌, ◌≤◌}
use native.Mathlib.Omega.{arith}
use Rattle.whole.proofs.Decides.{decides_yes}
use Rattle.geometry.specs.declared.Point.{Point}
use Rattle.geometry.specs.Place.{before}
use Rattle.geometry.proofs.Place.{Before, before_refl, before_trans, before_antisym, before_decides, before_yes, before_no}
use Rattle.triangle.specs.declared.Sorted.{Sorted}
use Rattle.triangle.specs.Order.{three, placed, sorted}

-- ---- the sorted vertices: p1 before p2 before p3
pub record Ordered (t : Sorted) : Type 0 where
  pub upper : Before t.p1 t.p2
  pub lower : Before t.p2 t.p3

placed_ordered : (a b c : Point) → Before a b → Ordered (placed a b c)
placed_ordered a b c s = by (before c a) (before c b) (before_yes c a) (before_no c a) (before_yes c b) (before_no c b)
  where
    by : (p q : Bool) → (p ≡ true → Before c a) → (p ≡ false → Before a c) → (q ≡ true → Before c b) → (q ≡ false → Before b c)
        → Ordered (cond p (three c a b) (cond q (three a c b) (three a b c)))
    by true q f g h k = record { upper = f refl; lower = s }
    by false true f g h k = record { upper = g refl; lower = h refl }
    by false false f g h k = record { upper = s; lower = k refl }

pub sorted_ordered : (a b c : Point) → Ordered (sorted a b c)
unfolding sorted
sorted_ordered a b c = by (before a b) (before_yes a b) (before_no a b)
  where
    by : (p : Bool) → (p ≡ true → Before a b) → (p ≡ false → Before b a) → Ordered (cond p (placed a b c) (placed b a c))
    by true f g = placed_ordered a b c (f refl)
    by false f g = placed_ordered b a c (g refl)

-- ---- what does not mind the order of the vertices is the same of the sorted ones
module _ {X : Type 0} (q : Point → Point → Point → X) (swap : (a b c : Point) → q b a c ≡ q a b c) (turn : (a b c : Point) → q b c a ≡ q a b c) where
  placed_same : (a b c : Point) → q (placed a b c).p1 (placed a b c).p2 (placed a b c).p3 ≡ q a b c
  placed_same a b c = by (before c a) (before c b)
    where
      by : (s t : Bool) → (let r : Sorted = cond s (three c a b) (cond t (three a c b) (three a b c)) in q r.p1 r.p2 r.p3) ≡ q a b c
      by true t = turn b c a ∙ turn a b c
      by false true = sym (swap a c b) ∙ turn b c a ∙ turn a b c
      by false false = refl

  pub sorted_same : (a b c : Point) → q (sorted a b c).p1 (sorted a b c).p2 (sorted a b c).p3 ≡ q a b c
  unfolding sorted
  sorted_same a b c = by (before a b)
    where
      by : (s : Bool) → (let r : Sorted = cond s (placed a b c) (placed b a c) in q r.p1 r.p2 r.p3) ≡ q a b c
      by true = placed_same a b c
      by false = placed_same b a c ∙ swap a b c

-- what holds of all three vertices holds of the sorted ones
pub record All (P : Point → Type 0) (t : Sorted) : Type 0 where
  pub first : P t.p1
  pub second : P t.p2
  pub third : P t.p3

module _ (P : Point → Type 0) where
  placed_all : (a b c : Point) → P a → P b → P c → All P (placed a b c)
  placed_all a b c pa pb pc = by (before c a) (before c b)
    where
      by : (s t : Bool) → All P (cond s (three c a b) (cond t (three a c b) (three a b c)))
      by true t = record { first = pc; second = pa; third = pb }
      by false true = record { first = pa; second = pc; third = pb }
      by false false = record { first = pa; second = pb; third = pc }

  pub sorted_all : (a b c : Point) → P a → P b → P c → All P (sorted a b c)
  unfolding sorted
  sorted_all a b c pa pb pc = by (before a b)
    where
      by : (s : Bool) → All P (cond s (placed a b c) (placed b a c))
      by true = placed_all a b c pa pb pc
      by false = placed_all b a c pb pa pc

-- ---- any order of the vertices sorts to the same: how many of them are before z fixes each place
bit : Bool → ℕ
bit b = cond b 1 0

count : Point → Point → Point → Point → ℕ
count z a b c = bit (before a z) + bit (before b z) + bit (before c z)

count_swap : (z a b c : Point) → count z b a c ≡ count z a b c
unfolding count
count_swap z a b c = omega arith

count_turn : (z a b c : Point) → count z b c a ≡ count z a b c
unfolding count
count_turn z a b c = omega arith

-- a later place is before z only if an earlier one is
bits : (a b z : Point) → Before a b → (bit (before b z) ≤ bit (before a z)) × (bit (before a z) ≤ 1)
unfolding bit
bits a b z h = by (before a z) (before b z) (λ e. (before_decides a z).no e) (before_yes b z)
  where
    by : (s t : Bool) → (s ≡ false → Before a z → ⊥) → (t ≡ true → Before b z) → (cond t 1 0 ≤ cond s 1 0) × (cond s 1 0 ≤ 1)
    by true true f g = (omega arith, omega arith)
    by true false f g = (omega arith, omega arith)
    by false true f g = absurd (f refl (before_trans a b z h (g refl)))
    by false false f g = (omega arith, omega arith)

bit_yes : (s : Bool) → bit s ≡ 1 → s ≡ true
unfolding bit
bit_yes true e = refl
bit_yes false e = absurd (omega arith)

same_place : (a b : Point) → ((z : Point) → bit (before a z) ≡ bit (before b z)) → a ≡ b
unfolding bit
same_place a b h = before_antisym a b (before_too a b (h b)) (before_too b a (sym (h a)))
  where
    before_too : (a b : Point) → bit (before a b) ≡ bit (before b b) → Before a b
    before_too a b e = before_yes a b (bit_yes (before a b) (e ∙ ap bit (decides_yes (before_decides b b) (before_refl b))))

one_order : (s t : Sorted) → Ordered s → Ordered t → ((z : Point) → count z s.p1 s.p2 s.p3 ≡ count z t.p1 t.p2 t.p3) → s ≡ t
unfolding count
one_order s t os ot h =
    let first : s.p1 ≡ t.p1 = same_place s.p1 t.p1 (λ z. (places z).0) in
    let second : s.p2 ≡ t.p2 = same_place s.p2 t.p2 (λ z. (places z).1) in
    let third : s.p3 ≡ t.p3 = same_place s.p3 t.p3 (λ z. (places z).2) in
    λ i. three (first i) (second i) (third i)
  where
    places : (z : Point) → (bit (before s.p1 z) ≡ bit (before t.p1 z)) × (bit (before s.p2 z) ≡ bit (before t.p2 z)) × (bit (before s.p3 z) ≡ bit (before t.p3 z))
    places z =
        let s1 = bits s.p1 s.p2 z os.upper in
        let s2 = bits s.p2 s.p3 z os.lower in
        let t1 = bits t.p1 t.p2 z ot.upper in
        let t2 = bits t.p2 t.p3 z ot.lower in
        (omega (arith, h z), omega (arith, h z), omega (arith, h z))

same_count : (z a b c : Point) → count z (sorted a b c).p1 (sorted a b c).p2 (sorted a b c).p3 ≡ count z a b c
same_count z = sorted_same (count z) (count_swap z) (count_turn z)

pub sorted_swap : (a b c : Point) → sorted b a c ≡ sorted a b c
sorted_swap a b c = one_order (sorted b a c) (sorted a b c) (sorted_ordered b a c) (sorted_ordered a b c) (λ z. same_count z b a c ∙ count_swap z a b c ∙ sym (same_count z a b c))

pub sorted_turn : (a b c : Point) → sorted b c a ≡ sorted a b c
sorted_turn a b c = one_order (sorted b c a) (sorted a b c) (sorted_ordered b c a) (sorted_ordered a b c) (λ z. same_count z b c a ∙ count_turn z a b c ∙ sym (same_count z a b c))
