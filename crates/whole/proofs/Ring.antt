-- Polynomial identities over ℤ of any size: both sides are put into a normal form, which antt computes. `ring e f ρ refl`.
-- Assumes nothing.
use mathlib.Core.Path.{◌≡◌, refl, sym, ap, ap₂, ◌∙◌}
use mathlib.Core.Bool.{Bool, true, false, cond, ◌&&◌}
use mathlib.Core.List.{List, [], ◌∷◌}
use Prim.Native.Nat.{ℕ, zero, suc}
use native.Mathlib.Omega.{arith}
use lib.Dec.{T, leb, ltb, eqb, eqb→eq}
use lib.IntN.{ℤ, pos, negsuc, neg_ℤ, ◌+ℤ◌, ◌-ℤ◌, ◌*ℤ◌, zero-*ℤ, *ℤ-zero, +ℤ_idl, +ℤ_idr, *ℤ_comm}
use Rattle.whole.proofs.Difference.{as_mk, mks, mk_eq}

-- ---- expressions and their values
infixl 6 ◌⊞◌ ◌⊟◌
infixl 7 ◌⊠◌
pub data E : Type 0 where
  v : ℕ → E
  k : ℤ → E
  ◌⊞◌ ◌⊟◌ ◌⊠◌ : E → E → E
  neg : E → E

abbrev pub nth : List ℤ → ℕ → ℤ
nth [] i = pos 0
nth (x ∷ ρ) zero = x
nth (x ∷ ρ) (suc i) = nth ρ i

abbrev pub ev : E → List ℤ → ℤ
ev (v i) ρ = nth ρ i
ev (k z) ρ = z
ev (a ⊞ b) ρ = ev a ρ +ℤ ev b ρ
ev (a ⊟ b) ρ = ev a ρ -ℤ ev b ρ
ev (a ⊠ b) ρ = ev a ρ *ℤ ev b ρ
ev (neg a) ρ = neg_ℤ (ev a ρ)

-- ---- polynomials: a coefficient and its sorted variables, and the rest
pub data P : Type 0 where
  nil : P
  t : ℤ → List ℕ → P → P

abbrev ev_m : List ℕ → List ℤ → ℤ
ev_m [] ρ = pos 1
ev_m (i ∷ m) ρ = nth ρ i *ℤ ev_m m ρ

abbrev ev_p : P → List ℤ → ℤ
ev_p nil ρ = pos 0
ev_p (t c m p) ρ = c *ℤ ev_m m ρ +ℤ ev_p p ρ

abbrev pub eq_l : List ℕ → List ℕ → Bool
eq_l [] [] = true
eq_l [] (j ∷ n) = false
eq_l (i ∷ m) [] = false
eq_l (i ∷ m) (j ∷ n) = eqb i j && eq_l m n

abbrev pub lt_l : List ℕ → List ℕ → Bool
lt_l [] n = true
lt_l (i ∷ m) [] = false
lt_l (i ∷ m) (j ∷ n) = cond (eqb i j) (lt_l m n) (ltb i j)

abbrev pub keep : ℤ → List ℕ → P → P
keep (pos zero) m p = p
keep (pos (suc a)) m p = t (pos (suc a)) m p
keep (negsuc a) m p = t (negsuc a) m p

abbrev pub add_t : ℤ → List ℕ → P → P
add_t c m nil = keep c m nil
add_t c m (t d n p) = cond (eq_l m n) (keep (c +ℤ d) m p) (cond (lt_l m n) (keep c m (t d n p)) (t d n (add_t c m p)))

abbrev pub add_p : P → P → P
add_p nil q = q
add_p (t c m p) q = add_t c m (add_p p q)

abbrev pub neg_p : P → P
neg_p nil = nil
neg_p (t c m p) = t (neg_ℤ c) m (neg_p p)

abbrev pub ins_m : ℕ → List ℕ → List ℕ
ins_m i [] = i ∷ []
ins_m i (j ∷ m) = cond (leb i j) (i ∷ j ∷ m) (j ∷ ins_m i m)

abbrev pub mul_m : List ℕ → List ℕ → List ℕ
mul_m [] n = n
mul_m (i ∷ m) n = ins_m i (mul_m m n)

abbrev pub scale : ℤ → List ℕ → P → P
scale c m nil = nil
scale c m (t d n p) = add_t (c *ℤ d) (mul_m m n) (scale c m p)

abbrev pub mul_p : P → P → P
mul_p nil q = nil
mul_p (t c m p) q = add_p (scale c m q) (mul_p p q)

abbrev pub norm : E → P
norm (v i) = t (pos 1) (i ∷ []) nil
norm (k z) = keep z [] nil
norm (a ⊞ b) = add_p (norm a) (norm b)
norm (a ⊟ b) = add_p (norm a) (neg_p (norm b))
norm (a ⊠ b) = mul_p (norm a) (norm b)
norm (neg a) = neg_p (norm a)

-- ---- laws of ℤ, each by `mks`
pub *ℤ_assoc : (a b c : ℤ) → (a *ℤ b) *ℤ c ≡ a *ℤ (b *ℤ c)
*ℤ_assoc a b c = rw (as_mk a, as_mk b, as_mk c) (simp mks (mk_eq _ _ _ _ (omega arith)))

pub *ℤ_dist : (a b c : ℤ) → a *ℤ (b +ℤ c) ≡ a *ℤ b +ℤ a *ℤ c
*ℤ_dist a b c = rw (as_mk a, as_mk b, as_mk c) (simp mks (mk_eq _ _ _ _ (omega arith)))

gather : (c d x y : ℤ) → (c +ℤ d) *ℤ x +ℤ y ≡ c *ℤ x +ℤ (d *ℤ x +ℤ y)
gather c d x y = rw (as_mk c, as_mk d, as_mk x, as_mk y) (simp mks (mk_eq _ _ _ _ (omega arith)))

swap : (a b c : ℤ) → a +ℤ (b +ℤ c) ≡ b +ℤ (a +ℤ c)
swap a b c = rw (as_mk a, as_mk b, as_mk c) (simp mks (mk_eq _ _ _ _ (omega arith)))

assoc : (a b c : ℤ) → (a +ℤ b) +ℤ c ≡ a +ℤ (b +ℤ c)
assoc a b c = rw (as_mk a, as_mk b, as_mk c) (simp mks (mk_eq _ _ _ _ (omega arith)))

neg_sum : (c x y : ℤ) → neg_ℤ c *ℤ x +ℤ neg_ℤ y ≡ neg_ℤ (c *ℤ x +ℤ y)
neg_sum c x y = rw (as_mk c, as_mk x, as_mk y) (simp mks (mk_eq _ _ _ _ (omega arith)))

swap_mul : (a b c : ℤ) → a *ℤ (b *ℤ c) ≡ b *ℤ (a *ℤ c)
swap_mul a b c = sym (*ℤ_assoc a b c) ∙ ap (λ (z : ℤ). z *ℤ c) (*ℤ_comm a b) ∙ *ℤ_assoc b a c

four : (a b c d : ℤ) → (a *ℤ b) *ℤ (c *ℤ d) ≡ (a *ℤ c) *ℤ (b *ℤ d)
four a b c d = *ℤ_assoc a b (c *ℤ d) ∙ ap (λ (z : ℤ). a *ℤ z) (swap_mul b c d) ∙ sym (*ℤ_assoc a c (b *ℤ d))

one_mul : (a : ℤ) → pos 1 *ℤ a ≡ a
one_mul a = rw (as_mk a) (simp mks (mk_eq _ _ _ _ (omega arith)))

mul_one : (a : ℤ) → a *ℤ pos 1 ≡ a
mul_one a = *ℤ_comm a (pos 1) ∙ one_mul a

-- ---- the normal form has the same value
cond_is : {X : Type 0} (c : Bool) (x y : X) (Q : X → Type 0) → (T c → Q x) → Q y → Q (cond c x y)
cond_is true x y Q f g = f tt
cond_is false x y Q f g = g

and_l : (a b : Bool) → T (a && b) → T a
and_l true b h = tt
and_l false b h = h

and_r : (a b : Bool) → T (a && b) → T b
and_r true b h = h
and_r false b h = absurd h

eq_l_is : (m n : List ℕ) → T (eq_l m n) → m ≡ n
eq_l_is [] [] h = refl
eq_l_is [] (j ∷ n) h = absurd h
eq_l_is (i ∷ m) [] h = absurd h
eq_l_is (i ∷ m) (j ∷ n) h = ap₂ ◌∷◌ (eqb→eq i j (and_l (eqb i j) (eq_l m n) h)) (eq_l_is m n (and_r (eqb i j) (eq_l m n) h))

module _ (ρ : List ℤ) where
  keep_is : (c : ℤ) (m : List ℕ) (p : P) → ev_p (keep c m p) ρ ≡ c *ℤ ev_m m ρ +ℤ ev_p p ρ
  keep_is (pos zero) m p = sym (ap (λ (z : ℤ). z +ℤ ev_p p ρ) (zero-*ℤ (ev_m m ρ)) ∙ +ℤ_idl (ev_p p ρ))
  keep_is (pos (suc a)) m p = refl
  keep_is (negsuc a) m p = refl

  add_t_is : (c : ℤ) (m : List ℕ) (p : P) → ev_p (add_t c m p) ρ ≡ c *ℤ ev_m m ρ +ℤ ev_p p ρ
  add_t_is c m nil = keep_is c m nil
  add_t_is c m (t d n p) =
      cond_is (eq_l m n) _ _ (λ (q : P). ev_p q ρ ≡ c *ℤ ev_m m ρ +ℤ (d *ℤ ev_m n ρ +ℤ ev_p p ρ))
      (λ h. keep_is (c +ℤ d) m p ∙ gather c d (ev_m m ρ) (ev_p p ρ) ∙ ap (λ (l : List ℕ). c *ℤ ev_m m ρ +ℤ (d *ℤ ev_m l ρ +ℤ ev_p p ρ)) (eq_l_is m n h))
      (cond_is (lt_l m n) _ _ (λ (q : P). ev_p q ρ ≡ c *ℤ ev_m m ρ +ℤ (d *ℤ ev_m n ρ +ℤ ev_p p ρ))
      (λ h. keep_is c m (t d n p))
      (ap (λ (z : ℤ). d *ℤ ev_m n ρ +ℤ z) (add_t_is c m p) ∙ swap (d *ℤ ev_m n ρ) (c *ℤ ev_m m ρ) (ev_p p ρ)))

  add_p_is : (p q : P) → ev_p (add_p p q) ρ ≡ ev_p p ρ +ℤ ev_p q ρ
  add_p_is nil q = sym (+ℤ_idl (ev_p q ρ))
  add_p_is (t c m p) q = add_t_is c m (add_p p q) ∙ ap (λ (z : ℤ). c *ℤ ev_m m ρ +ℤ z) (add_p_is p q) ∙ sym (assoc (c *ℤ ev_m m ρ) (ev_p p ρ) (ev_p q ρ))

  neg_p_is : (p : P) → ev_p (neg_p p) ρ ≡ neg_ℤ (ev_p p ρ)
  neg_p_is nil = refl
  neg_p_is (t c m p) = ap (λ (z : ℤ). neg_ℤ c *ℤ ev_m m ρ +ℤ z) (neg_p_is p) ∙ neg_sum c (ev_m m ρ) (ev_p p ρ)

  ins_m_is : (i : ℕ) (m : List ℕ) → ev_m (ins_m i m) ρ ≡ nth ρ i *ℤ ev_m m ρ
  ins_m_is i [] = refl
  ins_m_is i (j ∷ m) =
      cond_is (leb i j) _ _ (λ (l : List ℕ). ev_m l ρ ≡ nth ρ i *ℤ (nth ρ j *ℤ ev_m m ρ)) (λ h. refl)
      (ap (λ (z : ℤ). nth ρ j *ℤ z) (ins_m_is i m) ∙ swap_mul (nth ρ j) (nth ρ i) (ev_m m ρ))

  mul_m_is : (m n : List ℕ) → ev_m (mul_m m n) ρ ≡ ev_m m ρ *ℤ ev_m n ρ
  mul_m_is [] n = sym (one_mul (ev_m n ρ))
  mul_m_is (i ∷ m) n = ins_m_is i (mul_m m n) ∙ ap (λ (z : ℤ). nth ρ i *ℤ z) (mul_m_is m n) ∙ sym (*ℤ_assoc (nth ρ i) (ev_m m ρ) (ev_m n ρ))

  scale_is : (c : ℤ) (m : List ℕ) (p : P) → ev_p (scale c m p) ρ ≡ (c *ℤ ev_m m ρ) *ℤ ev_p p ρ
  scale_is c m nil = sym (*ℤ-zero (c *ℤ ev_m m ρ))
  scale_is c m (t d n p) =
      add_t_is (c *ℤ d) (mul_m m n) (scale c m p)
      ∙ ap₂ ◌+ℤ◌ (ap (λ (z : ℤ). (c *ℤ d) *ℤ z) (mul_m_is m n) ∙ four c d (ev_m m ρ) (ev_m n ρ)) (scale_is c m p)
      ∙ sym (*ℤ_dist (c *ℤ ev_m m ρ) (d *ℤ ev_m n ρ) (ev_p p ρ))

  mul_p_is : (p q : P) → ev_p (mul_p p q) ρ ≡ ev_p p ρ *ℤ ev_p q ρ
  mul_p_is nil q = sym (zero-*ℤ (ev_p q ρ))
  mul_p_is (t c m p) q =
      add_p_is (scale c m q) (mul_p p q) ∙ ap₂ ◌+ℤ◌ (scale_is c m q) (mul_p_is p q)
      ∙ sym (*ℤ_comm (c *ℤ ev_m m ρ +ℤ ev_p p ρ) (ev_p q ρ) ∙ *ℤ_dist (ev_p q ρ) (c *ℤ ev_m m ρ) (ev_p p ρ) ∙ ap₂ ◌+ℤ◌ (*ℤ_comm (ev_p q ρ) (c *ℤ ev_m m ρ)) (*ℤ_comm (ev_p q ρ) (ev_p p ρ)))

  norm_is : (e : E) → ev_p (norm e) ρ ≡ ev e ρ
  norm_is (v i) = +ℤ_idr _ ∙ one_mul (nth ρ i *ℤ pos 1) ∙ mul_one (nth ρ i)
  norm_is (k z) = keep_is z [] nil ∙ +ℤ_idr (z *ℤ pos 1) ∙ mul_one z
  norm_is (a ⊞ b) = add_p_is (norm a) (norm b) ∙ ap₂ ◌+ℤ◌ (norm_is a) (norm_is b)
  norm_is (a ⊟ b) = add_p_is (norm a) (neg_p (norm b)) ∙ ap₂ ◌+ℤ◌ (norm_is a) (neg_p_is (norm b) ∙ ap neg_ℤ (norm_is b))
  norm_is (a ⊠ b) = mul_p_is (norm a) (norm b) ∙ ap₂ ◌*ℤ◌ (norm_is a) (norm_is b)
  norm_is (neg a) = neg_p_is (norm a) ∙ ap neg_ℤ (norm_is a)

pub ring : (e f : E) (ρ : List ℤ) → norm e ≡ norm f → ev e ρ ≡ ev f ρ
ring e f ρ h = sym (norm_is ρ e) ∙ ap (λ (p : P). ev_p p ρ) h ∙ norm_is ρ f
