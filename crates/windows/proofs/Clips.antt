-- A span of a row, cut to the columns of a rectangle. Assumes nothing.
use mathlib.Core.Path.{◌≡◌, refl, sym, ap, ap₂, ◌∙◌, subst}
use mathlib.Core.Bool.{Bool, true, false, cond, ◌&&◌, true≢false}
use mathlib.Core.List.{List}
use mathlib.Core.Logic.{◌⊎◌, inl, inr}
use Prim.Native.Nat.{ℕ, ◌-◌, ◌≤◌, ◌<◌}
use native.Mathlib.Omega.{arith}
use lib.Dec.{ltb, le→leb}
use lib.IntN.{ℤ, pos, negsuc, nat_abs}
use lib.Signed.{le_z, lt_z, ◌≤ℤ◌}
use borrow.Author.Tests.{ltb-true, leb-true, lt-ltb, le-ltb, le-leb}
use Rattle.layout.specs.Figure.{span_figure}
use Rattle.whole.specs.Equal.{eq_z}
use Rattle.whole.specs.Interval.{between}
use Rattle.layout.specs.Layout.{Layout, painted}
use Rattle.layout.specs.Count.{marked}
use Rattle.whole.proofs.Tests.{lt_or_ge, same_test, fails, and_true, true_and, eq_z_true, eq_z_refl}
use Rattle.layout.proofs.Spans.{columns, in_span, span_in}
use Rattle.layout.proofs.Placing.{Placing}
use Rattle.layout.proofs.Pixels.{marked_cong, marked_none, pixels_span}
use Rattle.windows.specs.declared.Window.{Window}
use Rattle.windows.specs.Window.{in_window, held_by, clipped, Within}
use Rattle.windows.proofs.Windows.{between_pos, between_in, window_in}

-- ---- the nearest number of low to high
-- below, above, and between
pub data Nearest (x : ℤ) (low high : ℕ) (r : ℕ) : Type 0 where
  under : lt_z x (pos low) ≡ true → r ≡ low → Nearest x low high r
  over : lt_z (pos high) x ≡ true → r ≡ high → Nearest x low high r
  within : x ≡ pos r → low ≤ r → r ≤ high → Nearest x low high r

pub nearest : (x : ℤ) (low high : ℕ) → Nearest x low high (clipped x low high)
nearest (negsuc a) low high = under refl refl
nearest (pos a) low high = go (lt_or_ge a low) (lt_or_ge high a)
  where
    go : (a < low) ⊎ (low ≤ a) → (high < a) ⊎ (a ≤ high) → Nearest (pos a) low high (cond (ltb a low) low (cond (ltb high a) high a))
    go (inl l) k = under (lt-ltb a low l) (ap (λ (t : Bool). cond t low (cond (ltb high a) high a)) (lt-ltb a low l))
    go (inr l) (inl k) =
        over (lt-ltb high a k) (ap₂ (λ (s t : Bool). cond s low (cond t high a)) (le-ltb a low l) (lt-ltb high a k))
    go (inr l) (inr k) =
        let e : a ≡ cond (ltb a low) low (cond (ltb high a) high a) = sym (ap₂ (λ (s t : Bool). cond s low (cond t high a)) (le-ltb a low l) (le-ltb high a k)) in
        within (ap pos e) (subst (λ (i : ℕ). low ≤ i) e l) (subst (λ (i : ℕ). i ≤ high) e k)

pub clip_bounds : (x : ℤ) (low high : ℕ) → low ≤ high → (low ≤ clipped x low high) × (clipped x low high ≤ high)
clip_bounds x low high h = go (clipped x low high) (nearest x low high)
  where
    go : (r : ℕ) → Nearest x low high r → (low ≤ r) × (r ≤ high)
    go r (under l e) = (omega arith, omega arith)
    go r (over l e) = (omega arith, omega arith)
    go r (within e l k) = (l, k)

-- a column of low to high is on the same side of both
module _ (x : ℤ) (low high u : ℕ) (h : low ≤ u) (k : u < high) where
  pub from_le : (r : ℕ) → Nearest x low high r → (le_z x (pos u) ≡ true → r ≤ u) × (r ≤ u → le_z x (pos u) ≡ true)
  from_le r (under l e) = (λ q. omega arith, λ q. less x l)
    where
      less : (x : ℤ) → lt_z x (pos low) ≡ true → le_z x (pos u) ≡ true
      less (pos a) l = le-leb a u (let m = ltb-true a low l in omega arith)
      less (negsuc a) l = refl
  from_le r (over l e) = (λ q. absurd (no x l q), λ q. absurd (no' q))
    where
      no : (x : ℤ) → lt_z (pos high) x ≡ true → le_z x (pos u) ≡ true → ⊥
      no (pos a) l q = let m = ltb-true high a l in let o = leb-true a u q in omega arith
      no (negsuc a) l q = true≢false (sym l)

      no' : r ≤ u → ⊥
      no' q = omega arith
  from_le r (within e l m) = (λ q. leb-true r u (ap (λ (z : ℤ). le_z z (pos u)) (sym e) ∙ q), λ q. ap (λ (z : ℤ). le_z z (pos u)) e ∙ le-leb r u q)

  pub past_gt : (r : ℕ) → Nearest x low high r → (lt_z (pos u) x ≡ true → u < r) × (u < r → lt_z (pos u) x ≡ true)
  past_gt r (under l e) = (λ q. absurd (no x l q), λ q. absurd (no' q))
    where
      no : (x : ℤ) → lt_z x (pos low) ≡ true → lt_z (pos u) x ≡ true → ⊥
      no (pos a) l q = let m = ltb-true a low l in let o = ltb-true u a q in omega arith
      no (negsuc a) l q = true≢false (sym q)

      no' : u < r → ⊥
      no' q = omega arith
  past_gt r (over l e) = (λ q. omega arith, λ q. more x l)
    where
      more : (x : ℤ) → lt_z (pos high) x ≡ true → lt_z (pos u) x ≡ true
      more (pos a) l = lt-ltb u a (let m = ltb-true high a l in omega arith)
      more (negsuc a) l = absurd (true≢false (sym l))
  past_gt r (within e l m) = (λ q. ltb-true u r (ap (λ (z : ℤ). lt_z (pos u) z) (sym e) ∙ q), λ q. ap (λ (z : ℤ). lt_z (pos u) z) e ∙ lt-ltb u r q)

-- ---- the span that is left
module _ (l : Layout) (P : Placing l) (colour : ℕ) (b : List ℕ) (q : Window) (y start end : ℤ) (W : Within q l.width l.height) where
  -- the figure has places on row y alone
  on_row : (u v : ℕ) → span_figure y start end (pos u) (pos v) ≡ true → pos v ≡ y
  on_row u v e = eq_z_true (pos v) y (and_true (le_z start (pos u) && lt_z (pos u) end) (eq_z (pos v) y) e).1

  -- no row of the rectangle
  pub row_off : between (pos q.top) (pos q.bottom) y ≡ false → (0, b) ≡ marked l (held_by q (span_figure y start end)) colour b
  row_off h =
      sym (marked_none l P colour b _ (λ u v hu hv. fails _ (λ e.
      let p = and_true (in_window q (pos u) (pos v)) (span_figure y start end (pos u) (pos v)) e in
      let r = (and_true (between (pos q.left) (pos q.right) (pos u)) (between (pos q.top) (pos q.bottom) (pos v)) p.0).1 in
      true≢false (sym r ∙ ap (λ (z : ℤ). between (pos q.top) (pos q.bottom) z) (on_row u v p.1) ∙ h))))

  abbrev from : ℕ
  from = clipped start q.left q.right

  abbrev past : ℕ
  past = clipped end q.left q.right

  module _ (row : between (pos q.top) (pos q.bottom) y ≡ true) where
    row_is : y ≡ pos (nat_abs y)
    row_is = between_pos y q.top q.bottom row

    agree : (u v : ℕ) → columns (nat_abs y) from past (pos u) (pos v) ≡ held_by q (span_figure y start end) (pos u) (pos v)
    agree u v = same_test _ _ there back
      where
        there : columns (nat_abs y) from past (pos u) (pos v) ≡ true → held_by q (span_figure y start end) (pos u) (pos v) ≡ true
        there e =
            let s = in_span (nat_abs y) from past u v e in
            let a = s.0 in
            let z = s.1 in
            let i = s.2 in
            let lo = (clip_bounds start q.left q.right W.across).0 in
            let hi = (clip_bounds end q.left q.right W.across).1 in
            let l : q.left ≤ u = omega arith in
            let r : u < q.right = omega arith in
            let here : pos v ≡ y = ap pos i ∙ sym row_is in
            true_and (true_and (between_in u q.left q.right l r) (ap (λ (z : ℤ). between (pos q.top) (pos q.bottom) z) here ∙ row))
            (true_and (true_and ((from_le start q.left q.right u l r from (nearest start q.left q.right)).1 a)
            ((past_gt end q.left q.right u l r past (nearest end q.left q.right)).1 z))
            (ap (λ (z : ℤ). eq_z z y) here ∙ eq_z_refl y))

        back : held_by q (span_figure y start end) (pos u) (pos v) ≡ true → columns (nat_abs y) from past (pos u) (pos v) ≡ true
        back e =
            let p = and_true (in_window q (pos u) (pos v)) (span_figure y start end (pos u) (pos v)) e in
            let s = and_true (le_z start (pos u) && lt_z (pos u) end) (eq_z (pos v) y) p.1 in
            let t = and_true (le_z start (pos u)) (lt_z (pos u) end) s.0 in
            let r = (window_in q u v p.0).0 in
            span_in (nat_abs y) from past u v
            ((from_le start q.left q.right u r.0 r.1 from (nearest start q.left q.right)).0 t.0)
            ((past_gt end q.left q.right u r.0 r.1 past (nearest end q.left q.right)).0 t.1)
            (ap nat_abs (on_row u v p.1))

    kept : marked l (columns (nat_abs y) from past) colour b ≡ marked l (held_by q (span_figure y start end)) colour b
    kept = marked_cong l P colour b _ _ (λ u v hu hv. agree u v)

    pub span_left : nat_abs y < l.height → from ≤ past
        → (past - from, painted l (columns (nat_abs y) from past) colour b) ≡ marked l (held_by q (span_figure y start end)) colour b
    span_left hy h =
        let r = W.right in
        let p = (clip_bounds end q.left q.right W.across).1 in
        ap (λ (n : ℕ). (n, painted l (columns (nat_abs y) from past) colour b)) (sym (pixels_span l (nat_abs y) from past hy h (omega arith))) ∙ kept

    pub span_gone : past ≤ from → (0, b) ≡ marked l (held_by q (span_figure y start end)) colour b
    span_gone h =
        sym (sym kept ∙ marked_none l P colour b _ (λ u v hu hv. fails _ (λ e. let s = in_span (nat_abs y) from past u v e in no u s.0 s.1)))
      where
        no : (u : ℕ) → from ≤ u → u < past → ⊥
        no u a z = omega arith

-- a number that is not below a natural one is not negative
pub not_below : (x : ℤ) (low : ℕ) → lt_z x (pos low) ≡ false → pos 0 ≤ℤ x
not_below (pos a) low e = record { le = le→leb 0 a (omega arith) }
not_below (negsuc a) low e = absurd (true≢false e)
