-- A buffer is what rendering a picture leaves, if every pixel shows its colour and nothing else has changed. Over any layout whose bytes are made of whole digits.
-- Assumes nothing.
use mathlib.Core.Path.{◌≡◌, sym, ap, ap₂, ◌∙◌, subst}
use mathlib.Core.Logic.{◌⊎◌, inl, inr}
use mathlib.Core.List.{List}
use Prim.Native.Nat.{ℕ, zero, suc, ◌+◌, ◌*◌, ◌/◌, ◌%◌, ◌^◌, ◌≤◌, ◌<◌}
use native.Mathlib.Nat.{le_refl, mod-lt, div-lt_iff_lt-mul, pow-suc, zero-lt-suc}
use native.Mathlib.Omega.{arith}
use lib.Arith.{digits_div, digits_mod, digits_lt}
use lib.ListN.{length, get_or}
use lib.Seq.{ext_get_or}
use Rattle.whole.proofs.Tests.{eq_or_not}
use Rattle.layout.specs.Digits.{digit, replaced, cell, put_digits}
use Rattle.layout.specs.Paint.{render}
use Rattle.layout.specs.Layout.{Layout, Picture, put_no, shown, rendered}
use Rattle.layout.proofs.Cells.{digit_lt, value_cong, value_digits, digit_value}
use Rattle.layout.proofs.Runs.{set_bytes}
use Rattle.layout.proofs.Bytes.{Bytes}
use Rattle.layout.proofs.Placing.{Placing, Everywhere, number_in}
use Rattle.layout.proofs.Pictures.{Colour, rendered_length, shown_rendered, cell_stays}

-- digit j of byte i is no pixel's
abbrev pub Free : Layout → ℕ → ℕ → Type 0
Free l i j = (x y k : ℕ) → x < l.width → y < l.height → k < l.parts → i ≡ l.byte x y k → j ≡ l.slot x y k → ⊥

-- something below N, or nothing
search_below : {R : Type 0} (N : ℕ) (Q : ℕ → Type 0) → ((p : ℕ) → Q p ⊎ (Q p → ⊥)) → ((p : ℕ) → p < N → Q p → R) → (((p : ℕ) → p < N → Q p → ⊥) → R) → R
search_below zero Q d some none = none (λ p h. omega arith)
search_below {R} (suc n) Q d some none =
    by (search_below n Q d (λ p h q. some p (omega arith) q)) (d n)
  where
    last : (Q n → ⊥) → ((p : ℕ) → p < n → Q p → ⊥) → (p : ℕ) → p < suc n → Q p → ⊥
    last not-here f p h q = pick (eq_or_not p n)
      where
        pick : (p ≡ n) ⊎ (p ≡ n → ⊥) → ⊥
        pick (inl e) = not-here (subst Q e q)
        pick (inr g) = f p (omega arith) q

    by : ((((p : ℕ) → p < n → Q p → ⊥) → R) → R) → Q n ⊎ (Q n → ⊥) → R
    by below (inl q) = some n (le_refl (suc n)) q
    by below (inr not-here) = below (λ f. none (last not-here f))

both : {P Q : Type 0} → P ⊎ (P → ⊥) → Q ⊎ (Q → ⊥) → (P × Q) ⊎ (P × Q → ⊥)
both (inl p) (inl q) = inl (p, q)
both (inl p) (inr g) = inr (λ h. g h.1)
both (inr f) q = inr (λ h. f h.0)

-- a digit of a byte is a pixel's, or no pixel's
pub place_or_free : {R : Type 0} (l : Layout) (i j : ℕ)
    → ((x y k : ℕ) → x < l.width → y < l.height → k < l.parts → i ≡ l.byte x y k → j ≡ l.slot x y k → R) → (Free l i j → R) → R
place_or_free {R} l i j taken free =
    search_below (l.height * l.width * l.parts)
    (λ m. (i ≡ l.byte (m / l.parts % l.width) (m / l.parts / l.width) (m % l.parts)) × (j ≡ l.slot (m / l.parts % l.width) (m / l.parts / l.width) (m % l.parts)))
    (λ m. both (eq_or_not _ _) (eq_or_not _ _))
    (λ m h q. found m h q)
    (λ f. free (λ x y k hx hy hk e s.
    let p = y * l.width + x in
    let ep : (p * l.parts + k) / l.parts ≡ p = digits_div p hk in
    let ek : (p * l.parts + k) % l.parts ≡ k = digits_mod p hk in
    let ex : p % l.width ≡ x = digits_mod y hx in
    let ey : p / l.width ≡ y = digits_div y hx in
    f (p * l.parts + k) (digits_lt (digits_lt hy hx) hk) (
      e ∙ sym ((λ t. l.byte (ep t % l.width) (ep t / l.width) (ek t)) ∙ (λ t. l.byte (ex t) (ey t) k)),
      s ∙ sym ((λ t. l.slot (ep t % l.width) (ep t / l.width) (ek t)) ∙ (λ t. l.slot (ex t) (ey t) k)),
    )))
  where
    some : (n m : ℕ) → m < l.height * l.width * n → 0 < n
    some zero m h = omega arith
    some (suc n) m h = zero-lt-suc n

    found : (m : ℕ) → m < l.height * l.width * l.parts
        → (i ≡ l.byte (m / l.parts % l.width) (m / l.parts / l.width) (m % l.parts)) × (j ≡ l.slot (m / l.parts % l.width) (m / l.parts / l.width) (m % l.parts)) → R
    found m h q =
        let s = some l.parts m h in
        let p : m / l.parts < l.height * l.width = (div-lt_iff_lt-mul s).1 h in
        let n = number_in l.width l.height (m / l.parts) p in
        taken _ _ _ n.0 n.1 (mod-lt m s) q.0 q.1

module _ (l : Layout) (P : Placing l) (n : ℕ) (whole : l.base ^ n ≡ 256) (slots : (x y k : ℕ) → l.slot x y k < n) where
  abbrev B : ℕ
  B = l.base

  -- ---- bytes stay bytes
  replaced_lt : (m j u v : ℕ) → j < m → v < B ^ m → replaced B j u v < B ^ m
  replaced_lt zero j u v h l = absurd (omega arith)
  replaced_lt (suc m) zero u v h q =
      subst (λ (x : ℕ). v / B * B + u % B < x) (sym (pow-suc B m))
      (digits_lt ((div-lt_iff_lt-mul P.base).1 (subst (λ (x : ℕ). v < x) (pow-suc B m) q)) (mod-lt u P.base))
  replaced_lt (suc m) (suc j) u v h q =
      subst (λ (x : ℕ). replaced B j u (v / B) * B + v % B < x) (sym (pow-suc B m))
      (digits_lt (replaced_lt m j u (v / B) (omega arith) ((div-lt_iff_lt-mul P.base).1 (subst (λ (x : ℕ). v < x) (pow-suc B m) q))) (mod-lt v P.base))

  pub put_bytes : (x y k v : ℕ) (b : List ℕ) → Bytes b → Bytes (put_digits B (l.byte x y) (l.slot x y) k v b)
  put_bytes x y zero v b h = h
  put_bytes x y (suc k) v b h =
      let a = put_digits B (l.byte x y) (l.slot x y) k v b in
      let t = put_bytes x y k v b h in
      set_bytes a (l.byte x y k) (replaced B (l.slot x y k) (digit B k v) (get_or a (l.byte x y k) 0)) t
      (subst (λ (m : ℕ). replaced B (l.slot x y k) (digit B k v) (get_or a (l.byte x y k) 0) < m) whole
      (replaced_lt n (l.slot x y k) (digit B k v) (get_or a (l.byte x y k) 0) (slots x y k) (subst (λ (m : ℕ). get_or a (l.byte x y k) 0 < m) (sym whole) (t (l.byte x y k)))))

  pub rendered_bytes : (f : Picture) (b : List ℕ) → Bytes b → Bytes (rendered l f b)
  unfolding rendered
  rendered_bytes f b h = go (l.height * l.width)
    where
      go : (m : ℕ) → Bytes (render (put_no l) m (λ p. f (p % l.width) (p / l.width)) b)
      go zero = h
      go (suc m) = put_bytes (m % l.width) (m / l.width) l.parts (f (m % l.width) (m / l.width)) _ (go m)

  -- a pixel's digit of a byte
  pub pixel_cell : (b : List ℕ) (x y k : ℕ) → k < l.parts → cell B (l.byte x y k) (l.slot x y k) b ≡ digit B k (shown l b x y)
  pixel_cell b x y k hk =
      sym (digit_value B P.base l.parts k (λ k. cell B (l.byte x y k) (l.slot x y k) b) (λ m. digit_lt B P.base (l.slot x y m) (get_or b (l.byte x y m) 0)) hk)

  -- ---- the buffer b' is what is left of b when the picture f is rendered
  pub exact : (f : Picture) (b b' : List ℕ) → length b' ≡ length b → Bytes b → Bytes b' → l.size ≤ length b → Everywhere l (λ x y. Colour l (f x y))
      → Everywhere l (λ x y. shown l b' x y ≡ f x y) → ((i j : ℕ) → i < length b → j < n → Free l i j → cell B i j b' ≡ cell B i j b) → b' ≡ rendered l f b
  exact f b b' len h h' room colours shows stays =
      ext_get_or 0 b' (rendered l f b) (len ∙ sym (rendered_length l P f b))
      (λ i hi.
      let o = rendered_bytes f b h i in
      sym (value_digits B P.base n (get_or b' i 0) (subst (λ (m : ℕ). get_or b' i 0 < m) (sym whole) (h' i)))
      ∙ value_cong B P.base n (λ j. cell B i j b') (λ j. cell B i j (rendered l f b)) (λ j hj. each i j (subst (λ (m : ℕ). i < m) len hi) hj)
      ∙ value_digits B P.base n (get_or (rendered l f b) i 0) (subst (λ (m : ℕ). get_or (rendered l f b) i 0 < m) (sym whole) o))
    where
      each : (i j : ℕ) → i < length b → j < n → cell B i j b' ≡ cell B i j (rendered l f b)
      each i j hi hj =
          place_or_free l i j
          (λ x y k hx hy hk e s.
          ap₂ (λ (i j : ℕ). cell B i j b') e s ∙ pixel_cell b' x y k hk
          ∙ ap (digit B k) (shows x y hx hy ∙ sym (shown_rendered l P f b room x y hx hy (colours x y hx hy)))
          ∙ sym (pixel_cell (rendered l f b) x y k hk) ∙ sym (ap₂ (λ (i j : ℕ). cell B i j (rendered l f b)) e s))
          (λ free. stays i j hi hj free ∙ sym (cell_stays l P i j free f b))
