-- Laws of a figure's pixels: what drawing loops cite beside those of painting, and that the lit pixels of a frame are those painted on zeros. Assumes nothing.
use mathlib.Core.Path.{◌≡◌, refl, sym, ap, ap₂, ◌∙◌}
use mathlib.Core.Bool.{Bool, true, false, cond, ◌||◌, ◌&&◌}
use mathlib.Core.List.{List}
use Prim.Native.Nat.{ℕ, zero, suc, ◌+◌, ◌-◌, ◌*◌, ◌/◌, ◌%◌, ◌≤◌, ◌<◌}
use native.Mathlib.Nat.{div-add-mod'}
use native.Mathlib.Omega.{arith}
use native.Mathlib.Numerals.{add-one}
use lib.Arith.{digits_div, digits_mod, digits_lt}
use lib.Dec.{eqb}
use lib.IntN.{ℤ, pos}
use lib.ListN.{length}
use borrow.Author.Tests.{eqb-true, eq-eqb}
use Rattle.whole.proofs.Tests.{same_test, and_true, true_and, fails}
use Rattle.layout.specs.Figure.{single, everywhere}
use Rattle.layout.specs.Layout.{Layout, painted, shown, coloured}
use Rattle.layout.specs.Count.{pixels_in, lit_in, marked}
use Rattle.layout.proofs.Counts.{many_cong, many_none, many_all, many_le, many_add, many_one, many_zero}
use Rattle.layout.proofs.Placing.{Placing, Everywhere, numbered}
use Rattle.layout.proofs.Spans.{columns, in_span, span_none, span_one, span_join}
use Rattle.layout.proofs.Painted.{painted_cong, painted_none, painted_painted}
use Rattle.layout.proofs.Pictures.{Colour, shown_rendered, shown_colour, painted_rendered}

-- a figure's answer at the pixels of the frame
abbrev At : (ℤ → ℤ → Bool) → ℕ → ℕ → Bool
At s x y = s (pos x) (pos y)

module _ (l : Layout) where
  -- figures that agree on the frame
  pub pixels_cong : (s t : ℤ → ℤ → Bool) → Everywhere l (λ x y. At s x y ≡ At t x y) → pixels_in l s ≡ pixels_in l t
  unfolding pixels_in
  pixels_cong s t h = many_cong (l.height * l.width) _ _ (numbered l (λ x y. At s x y ≡ At t x y) h)

  -- a figure that has no pixel of the frame
  pub pixels_none : (s : ℤ → ℤ → Bool) → Everywhere l (λ x y. At s x y ≡ false) → pixels_in l s ≡ 0
  unfolding pixels_in
  pixels_none s h = many_none (l.height * l.width) _ (numbered l (λ x y. At s x y ≡ false) h)

  -- and no other
  pub none_of : (s : ℤ → ℤ → Bool) → pixels_in l s ≡ 0 → Everywhere l (λ x y. At s x y ≡ false)
  unfolding pixels_in
  none_of s e x y hx hy =
      sym (ap₂ (At s) (digits_mod y hx) (digits_div y hx)) ∙ many_zero (l.height * l.width) _ e (y * l.width + x) (digits_lt hy hx)

  -- the whole frame, and never more
  pub pixels_everywhere : pixels_in l everywhere ≡ l.height * l.width
  unfolding pixels_in
  pixels_everywhere = many_all (l.height * l.width) _ (λ p k. refl)

  pub pixels_le : (s : ℤ → ℤ → Bool) → pixels_in l s ≤ l.height * l.width
  unfolding pixels_in
  pixels_le s = many_le (l.height * l.width) _

  -- figures that share no pixel of the frame add up
  pub pixels_add : (s t : ℤ → ℤ → Bool) → Everywhere l (λ x y. At s x y && At t x y ≡ false) → pixels_in l (λ x y. s x y || t x y) ≡ pixels_in l s + pixels_in l t
  unfolding pixels_in
  pixels_add s t h = many_add (l.height * l.width) _ _ (numbered l (λ x y. At s x y && At t x y ≡ false) h)

  -- one pixel
  pub pixels_one : (x y : ℕ) → x < l.width → y < l.height → pixels_in l (single (pos x) (pos y)) ≡ 1
  unfolding pixels_in
  pixels_one x y hx hy =
      many_cong (l.height * w) _ (λ q. eqb q (y * w + x)) (λ q k. same_test _ _ (there q) (back q)) ∙ many_one (l.height * w) (y * w + x) (digits_lt hy hx)
    where
      w : ℕ
      w = l.width

      there : (q : ℕ) → eqb (q % w) x && eqb (q / w) y ≡ true → eqb q (y * w + x) ≡ true
      there q e =
          let p = and_true (eqb (q % w) x) (eqb (q / w) y) e in
          eq-eqb q (y * w + x) (sym (div-add-mod' q w) ∙ ap₂ (λ (i j : ℕ). i * w + j) (eqb-true _ _ p.1) (eqb-true _ _ p.0))

      back : (q : ℕ) → eqb q (y * w + x) ≡ true → eqb (q % w) x && eqb (q / w) y ≡ true
      back q e =
          let i = eqb-true q (y * w + x) e in
          true_and (eq-eqb _ _ (ap (λ (n : ℕ). n % w) i ∙ digits_mod y hx)) (eq-eqb _ _ (ap (λ (n : ℕ). n / w) i ∙ digits_div y hx))

  -- columns of a row
  pub pixels_columns : (y x0 n : ℕ) → y < l.height → x0 + n ≤ l.width → pixels_in l (columns y x0 (x0 + n)) ≡ n
  pixels_columns y x0 zero hy h = pixels_none _ (λ u v hu hv. span_none y x0 (x0 + 0) u v (omega arith))
  pixels_columns y x0 (suc n) hy h =
      pixels_cong _ (λ u v. columns y x0 (x0 + n) u v || single (pos (x0 + n)) (pos y) u v) (λ u v hu hv. sym (grown u v))
      ∙ pixels_add _ _ (λ u v hu hv. fails _ (λ e. apart u v (and_true _ _ e)))
      ∙ ap₂ (λ (a b : ℕ). a + b) (pixels_columns y x0 n hy (omega arith)) (pixels_one (x0 + n) y (omega arith) hy)
      ∙ add-one n
    where
      grown : (u v : ℕ) → At (columns y x0 (x0 + n)) u v || At (single (pos (x0 + n)) (pos y)) u v ≡ At (columns y x0 (x0 + suc n)) u v
      grown u v =
          ap (λ (t : Bool). At (columns y x0 (x0 + n)) u v || t) (span_one y (x0 + n) u v)
          ∙ span_join y x0 (x0 + n) (x0 + n + 1) u v (omega arith) (omega arith)
          ∙ ap (λ (k : ℕ). At (columns y x0 k) u v) (omega arith)

      apart : (u v : ℕ) → (At (columns y x0 (x0 + n)) u v ≡ true) × (At (single (pos (x0 + n)) (pos y)) u v ≡ true) → ⊥
      apart u v p =
          let a = (in_span y x0 (x0 + n) u v p.0).1 in
          let b = eqb-true u (x0 + n) (and_true (eqb u (x0 + n)) (eqb v y) p.1).0 in
          omega arith

  pub pixels_span : (y from past : ℕ) → y < l.height → from ≤ past → past ≤ l.width → pixels_in l (columns y from past) ≡ past - from
  pixels_span y from past hy h hp =
      let e : from + (past - from) ≡ past = omega arith in
      ap (λ (k : ℕ). pixels_in l (columns y from k)) (sym e) ∙ pixels_columns y from (past - from) hy (omega arith)

-- ---- with the bytes
module _ (l : Layout) (P : Placing l) (c : ℕ) (b : List ℕ) where
  -- figures that agree on the frame
  pub marked_cong : (s t : ℤ → ℤ → Bool) → Everywhere l (λ x y. At s x y ≡ At t x y) → marked l s c b ≡ marked l t c b
  marked_cong s t h = λ i. (pixels_cong l s t h i, painted_cong l P c b s t h i)

  -- a figure that has no pixel of the frame
  pub marked_none : (s : ℤ → ℤ → Bool) → Everywhere l (λ x y. At s x y ≡ false) → marked l s c b ≡ (0, b)
  marked_none s h = λ i. (pixels_none l s h i, painted_none l P c b s h i)

  -- a figure after another with which it shares no pixel of the frame: together they make a third
  pub marked_then : (s t u : ℤ → ℤ → Bool) → Everywhere l (λ x y. At s x y && At t x y ≡ false) → Everywhere l (λ x y. At s x y || At t x y ≡ At u x y)
      → ◌≡◌ {A = ℕ × List ℕ} (pixels_in l s + pixels_in l t, painted l t c (painted l s c b)) (marked l u c b)
  marked_then s t u apart joined =
      (λ i. (sym (pixels_add l s t apart) i, painted_painted l P c b t s i)) ∙ marked_cong (λ x y. s x y || t x y) u joined

-- ---- a figure painted in colour 1 where every pixel has the colour 0: its pixels are lit, and no others
pub lit_painted : (l : Layout) → Placing l → (s : ℤ → ℤ → Bool) (b : List ℕ) → Colour l 1 → l.size ≤ length b → Everywhere l (λ x y. shown l b x y ≡ 0)
    → lit_in l (painted l s 1 b) ≡ pixels_in l s
unfolding lit_in pixels_in
lit_painted l P s b one o dark =
    many_cong (l.height * l.width) _ _ (numbered l (λ x y. eqb (shown l (painted l s 1 b) x y) 1 ≡ At s x y) (λ x y hx hy.
    ap (λ (k : ℕ). eqb k 1)
    (ap (λ (a : List ℕ). shown l a x y) (painted_rendered l P s 1 b)
    ∙ shown_rendered l P (coloured s 1 (shown l b)) b o x y hx hy (colour (At s x y) x y)
    ∙ ap (cond (At s x y) 1) (dark x y hx hy))
    ∙ back (At s x y)))
  where
    colour : (t : Bool) (x y : ℕ) → Colour l (cond t 1 (shown l b x y))
    colour true x y = one
    colour false x y = shown_colour l P b x y

    back : (t : Bool) → eqb (cond t 1 0) 1 ≡ t
    back true = refl
    back false = refl
