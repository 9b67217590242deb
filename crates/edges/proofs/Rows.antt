-- Laws of a row: walks begin at the triangle's top, what is walked of the edges are the triangle's edge points, and three runs, one after the other,
-- meet all of them that are on the row. Assumes nothing.
use mathlib.Core.Path.{◌≡◌, refl, sym, ap, subst, ◌∙◌}
use mathlib.Core.Bool.{Bool, true, false, not}
use mathlib.Core.Logic.{◌⊎◌, inl, inr, ⊎_elim}
use Prim.Native.Nat.{ℕ, ◌+◌, ◌≤◌}
use native.Mathlib.Nat.{le_refl}
use native.Mathlib.Omega.{arith}
use lib.IntN.{ℤ, pos, negsuc}
use lib.Signed.{◌≤ℤ◌}
use Rattle.whole.proofs.Order.{le_self, le_of, le_trans}
use Rattle.geometry.specs.declared.Point.{Point}
use Rattle.line.specs.declared.Walker.{Walker}
use Rattle.line.specs.Line.{points, HasPoint}
use Rattle.line.specs.Walk.{WalkerAt}
use Rattle.line.proofs.Lengths.{points_most}
use Rattle.line.proofs.Points.{starts, rows_down}
use Rattle.triangle.specs.declared.Sorted.{Sorted}
use Rattle.triangle.specs.Order.{Down}
use Rattle.triangle.specs.EdgePoint.{EdgePoint}
use Rattle.edges.specs.declared.Met.{Met}
use Rattle.edges.specs.declared.Run.{Run}
use Rattle.edges.specs.declared.Side.{Side}
use Rattle.edges.specs.declared.Walk.{Walk}
use Rattle.edges.specs.Side.{OnEdge, EdgeAt, Ran}
use Rattle.edges.specs.Edges.{asked_points, WalkAt, Rowed}

-- lo and hi are the first and last of the columns E, or 131072 and -131073
pub record Columns (E : ℤ → Type 0) (lo hi : ℤ) : Type 0 where
  pub holds : (c : ℤ) → E c → (lo ≤ℤ c) × (c ≤ℤ hi)
  pub low_is : (lo ≡ pos 131072) ⊎ E lo
  pub high_is : (hi ≡ negsuc 131072) ⊎ E hi

met_none : Columns (λ c. ⊥) (pos 131072) (negsuc 131072)
met_none = record { holds = λ c z. absurd z; low_is = inl refl; high_is = inl refl }

-- widened by a run
met_more : {E : ℤ → Type 0} {s e : Point} {n : ℕ} {y : ℤ} {r : Met} {q : Run} → Columns E r.low r.high → Ran s e n y r q → Columns (λ c. E c ⊎ OnEdge s e n c y) q.met.low q.met.high
met_more {E} {s} {e} {n} {y} {r} {q} m p =
    record {
      holds = λ c h. ⊎_elim (λ z. (le_trans p.low (m.holds c z).0, le_trans (m.holds c z).1 p.high)) (λ z. p.holds c z) h;
      low_is = ⊎_elim (λ z. ⊎_elim (λ b. inl (z ∙ b)) (λ b. inr (inl (subst E (sym z) b))) m.low_is) (λ z. inr (inr z)) p.low_is;
      high_is = ⊎_elim (λ z. ⊎_elim (λ b. inl (z ∙ b)) (λ b. inr (inl (subst E (sym z) b))) m.high_is) (λ z. inr (inr z)) p.high_is;
    }

-- ---- a walked point of an edge is a point of it
on_has : {s e : Point} {x y : ℤ} → OnEdge s e (points s e) x y → HasPoint s e (x, y)
on_has o = record { step = o.step; walked = omega (arith, o.few); here = λ i. (o.column i, o.row i) }

has_on : {s e : Point} {x y : ℤ} → HasPoint s e (x, y) → OnEdge s e (points s e) x y
has_on h = record { step = h.step; few = omega (arith, h.walked); column = ap (λ (p : Point). p.0) h.here; row = ap (λ (p : Point). p.1) h.here }

none_on : {s e : Point} {x y : ℤ} → OnEdge s e 0 x y → ⊥
none_on o = omega (arith, o.few)

-- the walked points of row y, edge by edge, are the edge points
module _ (t : Sorted) (y : ℤ) where
  abbrev Walked : Bool → ℤ → Type 0
  Walked b c =
      ((⊥ ⊎ OnEdge t.p1 t.p2 (asked_points b t.p1 t.p2) c y) ⊎ OnEdge t.p1 t.p3 (points t.p1 t.p3) c y) ⊎ OnEdge t.p2 t.p3
      (asked_points b t.p2 t.p3) c y

  walked_of : {c : ℤ} (b : Bool) → EdgePoint (not b) t.p1 t.p2 t.p3 (c, y) → Walked b c
  walked_of true (inl h) = inl (inl (inr (has_on h)))
  walked_of true (inr (inl h)) = inl (inr (has_on h))
  walked_of true (inr (inr h)) = inr (has_on h)
  walked_of false h = inl (inr (has_on h))

  point_of : {c : ℤ} (b : Bool) → Walked b c → EdgePoint (not b) t.p1 t.p2 t.p3 (c, y)
  point_of b (inl (inl (inl z))) = absurd z
  point_of true (inl (inl (inr o))) = inl (on_has o)
  point_of true (inl (inr o)) = inr (inl (on_has o))
  point_of true (inr o) = inr (inr (on_has o))
  point_of false (inl (inl (inr o))) = absurd (none_on o)
  point_of false (inl (inr o)) = on_has o
  point_of false (inr o) = absurd (none_on o)

-- what `on_row` ensures
abbrev pub OnRow : ℤ → Side → Met → Run → Type 0
OnRow y a m q = (q.met.count + q.side.left ≡ m.count + a.left) × ((s e : Point) (n : ℕ) → s.1 ≤ℤ e.1 → EdgeAt s e n y a.walker a.left → Ran s e n y m q)

-- one edge after the other: each goes on from what the row has met
module _ (w : Walk) (y : ℤ) (first second third : Run) (A : OnRow y w.a (record { low = pos 131072; high = negsuc 131072; count = w.count }) first) (B : OnRow y w.b first.met second)
    (C : OnRow y w.c second.met third) where
  pub row_done : (t : Sorted) (solid : Bool) → WalkAt t solid y w
      → Rowed t solid y (record { walk = record { a = first.side; b = second.side; c = third.side; count = third.met.count }; low = third.met.low; high = third.met.high })
  row_done t solid at =
      let a = A.1 t.p1 t.p2 (asked_points solid t.p1 t.p2) at.down.upper at.a in
      let b = B.1 t.p1 t.p3 (points t.p1 t.p3) (le_trans at.down.upper at.down.lower) at.b in
      let c = C.1 t.p2 t.p3 (asked_points solid t.p2 t.p3) at.down.lower at.c in
      let all = met_more (met_more (met_more met_none a) b) c in
      record {
        walk = record { down = at.down; a = a.next; b = b.next; c = c.next; count = omega (arith, A.0, B.0, C.0, at.count) };
        holds = λ c o. all.holds c (walked_of t y solid o);
        low_is = ⊎_elim inl (λ z. inr (point_of t y solid z)) all.low_is;
        high_is = ⊎_elim inl (λ z. inr (point_of t y solid z)) all.high_is;
      }

-- ---- walks that have handed out no point stand at the triangle's top
fresh : {s e : Point} {n left : ℕ} {w : Walker} → s.1 ≤ℤ e.1 → WalkerAt s e 0 w → left ≡ n → n ≤ points s e → (y : ℤ) → y ≤ℤ s.1 → EdgeAt s e n y w left
fresh {s} {e} d at sum few y h =
    record {
      k = 0;
      here = record { at = at; sum = omega arith; few = few };
      done = λ i l. absurd (omega arith);
      ahead = λ i a b. le_trans h (le_trans (le_of (ap (λ (p : Point). p.1) (sym (starts s e)))) (rows_down s e d 0 i (omega arith)));
    }

asked_few : (b : Bool) (s e : Point) → asked_points b s e ≤ points s e
asked_few true s e = omega arith
asked_few false s e = omega arith

pub walk_begins : (t : Sorted) (solid : Bool) (w : Walk) → Down t
    → WalkerAt t.p1 t.p2 0 w.a.walker × (w.a.left ≡ asked_points solid t.p1 t.p2)
    → WalkerAt t.p1 t.p3 0 w.b.walker × (w.b.left ≡ points t.p1 t.p3)
    → WalkerAt t.p2 t.p3 0 w.c.walker × (w.c.left ≡ asked_points solid t.p2 t.p3)
    → w.count ≡ 0 → WalkAt t solid t.p1.1 w
walk_begins t solid w d a b c n =
    record {
      down = d;
      a = fresh d.upper a.0 a.1 (asked_few solid t.p1 t.p2) t.p1.1 (le_self t.p1.1);
      b = fresh (le_trans d.upper d.lower) b.0 b.1 (le_refl _) t.p1.1 (le_self t.p1.1);
      c = fresh d.lower c.0 c.1 (asked_few solid t.p2 t.p3) t.p1.1 d.upper;
      count = omega (arith, a.1, b.1, c.1, n);
    }

-- a count of all points fits 32 bits with room to spare
pub few_points : {t : Sorted} {solid : Bool} {y : ℤ} {w : Walk} → WalkAt t solid y w → w.count + (w.a.left + w.b.left + w.c.left) ≤ 786432
few_points {t} {solid} at =
    let a = at.a.here.at.stands in
    let c = at.c.here.at.stands in
    omega (
      arith,
      at.count,
      asked_few solid t.p1 t.p2,
      asked_few solid t.p2 t.p3,
      points_most a.start a.end,
      points_most a.start c.end,
      points_most c.start c.end,
    )
