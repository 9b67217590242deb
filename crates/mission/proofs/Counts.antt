-- A count of the library is how many pixels there are, in the sense of a list that has each of them once. Assumes nothing.
use mathlib.Core.Path.{◌≡◌, refl, sym, ap, subst, ◌∙◌}
use mathlib.Core.Bool.{Bool, true, false}
use mathlib.Core.List.{List, [], ◌∷◌}
use mathlib.Core.Logic.{inl, inr, ⊎_elim}
use Prim.Native.Nat.{ℕ, zero, suc, ◌+◌, ◌*◌, ◌/◌, ◌%◌, ◌≤◌, ◌<◌}
use native.Mathlib.Nat.{mod-eq_of_lt, div-eq_of_lt, mul-add-div_right, mul-add-mod_self_right, div-add-mod', mul-le-mul_right}
use native.Mathlib.Omega.{arith}
use lib.ListN.{length}
use Rattle.whole.proofs.Decides.{Decides, decides_yes}
use Rattle.whole.proofs.Tests.{eq_or_not}
use Rattle.layout.specs.Count.{how_many, one_if}
use Rattle.layout.proofs.Placing.{number_in}
use Rattle.mission.specs.Counts.{Among, Distinct, Many}

-- ---- pixels by number, row by row
column : (w y x : ℕ) → x < w → (y * w + x) % w ≡ x
column w y x l = mul-add-mod_self_right y w x ∙ mod-eq_of_lt l

row : (w y x : ℕ) → x < w → (y * w + x) / w ≡ y
row w y x l = mul-add-div_right (omega arith) y x ∙ ap (λ (k : ℕ). y + k) (div-eq_of_lt l) ∙ omega arith

module _ (w : ℕ) (inside : ℕ → Bool) where
  abbrev place : ℕ → ℕ × ℕ
  place p = (p % w, p / w)

  abbrev with : Bool → ℕ → List (ℕ × ℕ) → List (ℕ × ℕ)
  with true p ps = place p ∷ ps
  with false p ps = ps

  -- those of the first n that are inside
  abbrev listed : ℕ → List (ℕ × ℕ)
  listed zero = []
  listed (suc n) = with (inside n) n (listed n)

  long : (n : ℕ) → length (listed n) ≡ how_many n inside
  long zero = refl
  long (suc n) = by (inside n) ∙ ap (λ (k : ℕ). k + one_if (inside n)) (long n)
    where
      by : (t : Bool) → length (with t n (listed n)) ≡ length (listed n) + one_if t
      by true = omega arith
      by false = omega arith

  pub record Numbered (q : ℕ × ℕ) (n : ℕ) : Type 0 where
    pub number : ℕ
    pub below : number < n
    pub is : inside number ≡ true
    pub at : place number ≡ q

  of_list : (n : ℕ) {q : ℕ × ℕ} → Among q (listed n) → Numbered q n
  of_list zero {q = q} a = elim a [ ]
  of_list (suc n) {q} a = by (inside n) refl a (of_list n)
    where
      later : Numbered q n → Numbered q (suc n)
      later k = record { number = k.number; below = omega (arith, k.below); is = k.is; at = k.at }

      by : (t : Bool) → inside n ≡ t → Among q (with t n (listed n)) → (Among q (listed n) → Numbered q n) → Numbered q (suc n)
      by true e (inl q) r = record { number = n; below = omega arith; is = e; at = sym q }
      by true e (inr a) r = later (r a)
      by false e a r = later (r a)

  in_list : (n p : ℕ) → p < n → inside p ≡ true → Among (place p) (listed n)
  in_list zero p l e = absurd (omega arith)
  in_list (suc n) p l e = ⊎_elim (λ q. last q) (λ q. earlier (inside n) (in_list n p (omega (arith, l, q)) e)) (eq_or_not p n)
    where
      earlier : (t : Bool) → Among (place p) (listed n) → Among (place p) (with t n (listed n))
      earlier true a = inr a
      earlier false a = a

      last : p ≡ n → Among (place p) (listed (suc n))
      last q =
          subst (λ (k : ℕ). Among (place k) (listed (suc n))) (sym q)
          (subst (λ (t : Bool). Among (place n) (with t n (listed n))) (sym (ap inside (sym q) ∙ e)) (inl refl))

  -- no two numbers have one place
  one_place : (p q : ℕ) → place p ≡ place q → p ≡ q
  one_place p q e = sym (div-add-mod' p w) ∙ ap (λ (k : ℕ × ℕ). k.1 * w + k.0) e ∙ div-add-mod' q w

  distinct : (n : ℕ) → Distinct (listed n)
  distinct zero = tt
  distinct (suc n) = by (inside n) (distinct n)
    where
      by : (t : Bool) → Distinct (listed n) → Distinct (with t n (listed n))
      by true d = (λ a. let k = of_list n a in omega (arith, k.below, one_place k.number n k.at), d)
      by false d = d

-- EACH PIXEL ONCE: what is counted over all pixels of w columns and h rows, by a test that decides P
pub counts_many : (w h : ℕ) (t : ℕ → ℕ → Bool) (P : ℕ → ℕ → Type 0) → ((x y : ℕ) → Decides (t x y) (P x y))
    → Many (λ x y. (x < w) × (y < h) × P x y) (how_many (h * w) (λ p. t (p % w) (p / w)))
counts_many w h t P d =
    record {
      pixels = listed w inside (h * w);
      distinct = distinct w inside (h * w);
      exactly = λ x y. (to x y, from x y);
      long = long w inside (h * w);
    }
  where
    inside : ℕ → Bool
    inside p = t (p % w) (p / w)

    to : (x y : ℕ) → Among (x, y) (listed w inside (h * w)) → (x < w) × (y < h) × P x y
    to x y a =
        let k = of_list w inside (h * w) a in
        let n = number_in w h k.number k.below in
        subst (λ (q : ℕ × ℕ). (q.0 < w) × (q.1 < h) × P q.0 q.1) k.at (n.0, n.1, (d _ _).yes k.is)

    from : (x y : ℕ) → (x < w) × (y < h) × P x y → Among (x, y) (listed w inside (h * w))
    from x y p =
        let l : suc y * w ≤ h * w = mul-le-mul_right w p.1 in
        let e : place w inside (y * w + x) ≡ (x, y) = λ i. (column w y x p.0 i, row w y x p.0 i) in
        subst (λ (q : ℕ × ℕ). Among q (listed w inside (h * w))) e
        (in_list w inside (h * w) (y * w + x) (omega (arith, l, p.0)) (ap (λ (q : ℕ × ℕ). t q.0 q.1) e ∙ decides_yes (d x y) p.2))
