-- Painting over any way to set and to read a pixel that has the laws below: a buffer is what its picture renders, and painting changes
-- the picture. Assumes nothing.
use mathlib.Core.Path.{◌≡◌, refl, sym, ap, ap₂, ◌∙◌, subst}
use mathlib.Core.Logic.{⊎_elim, ◌⊎◌, inl, inr}
use mathlib.Core.Bool.{Bool, true, false, cond, ◌||◌}
use Prim.Native.Nat.{ℕ, zero, suc, ◌≤◌, ◌<◌}
use native.Mathlib.Nat.{eq-or-lt_of_le, le_of_suc-le-suc, not-suc-le-zero, le_refl}
use native.Mathlib.Omega.{arith}
use borrow.Author.Tests.{eq-eqb, ne_eqb, lt-ltb, le-ltb}
use lib.Dec.{eqb, ltb}
use Rattle.layout.specs.Paint.{put_if, paint, render}
use Rattle.whole.proofs.Tests.{eq_or_not, lt_or_ge}

-- what setting (`put`) and reading (`get`) the pixels 0 to N - 1 obey. `Col v`: v is a colour; `Ok b`: the buffer is long enough
pub record Laws (N : ℕ) (Col : ℕ → Type 0) (Buf : Type 0) (Ok : Buf → Type 0) (put : ℕ → ℕ → Buf → Buf) (get : ℕ → Buf → ℕ) : Type 0 where
  pub kept : (p v : ℕ) (b : Buf) → Ok b → Ok (put p v b)
  pub same : (p v : ℕ) (b : Buf) → p < N → Col v → Ok b → get p (put p v b) ≡ v
  pub other : (p q v : ℕ) (b : Buf) → p < N → q < N → (p ≡ q → ⊥) → get p (put q v b) ≡ get p b
  pub twice : (p u v : ℕ) (b : Buf) → p < N → put p u (put p v b) ≡ put p u b
  pub swap : (p q u v : ℕ) (b : Buf) → p < N → q < N → (p ≡ q → ⊥) → put p u (put q v b) ≡ put q v (put p u b)
  pub back : (p : ℕ) (b : Buf) → p < N → put p (get p b) b ≡ b

-- a picture with pixel p changed to v
abbrev pub upd : (ℕ → ℕ) → ℕ → ℕ → ℕ → ℕ
upd f p v q = cond (eqb q p) v (f q)

upd_same : (f : ℕ → ℕ) (p v : ℕ) → upd f p v p ≡ v
upd_same f p v = ap (λ (t : Bool). cond t v (f p)) (eq-eqb p p refl)

upd_other : (f : ℕ → ℕ) (p v q : ℕ) → (q ≡ p → ⊥) → upd f p v q ≡ f q
upd_other f p v q h = ap (λ (t : Bool). cond t v (f q)) (ne_eqb q p h)

-- one colour after another
over : (x y : Bool) (c v : ℕ) → cond y c (cond x c v) ≡ cond (x || y) c v
over true true c v = refl
over true false c v = refl
over false y c v = refl

module _ {N : ℕ} {Col : ℕ → Type 0} {Buf : Type 0} {Ok : Buf → Type 0} {put : ℕ → ℕ → Buf → Buf} {get : ℕ → Buf → ℕ}
    (L : Laws N Col Buf Ok put get) where
  pub render_cong : (n : ℕ) (f g : ℕ → ℕ) (b : Buf) → ((p : ℕ) → p < n → f p ≡ g p) → render put n f b ≡ render put n g b
  render_cong zero f g b h = refl
  render_cong (suc n) f g b h =
      ap₂ (λ (v : ℕ) (c : Buf). put n v c) (h n (le_refl (suc n))) (render_cong n f g b (λ p l. h p (omega arith)))

  pub render_ok : (n : ℕ) (f : ℕ → ℕ) (b : Buf) → Ok b → Ok (render put n f b)
  render_ok zero f b o = o
  render_ok (suc n) f b o = L.kept n (f n) (render put n f b) (render_ok n f b o)

  -- one more pixel set, over a whole picture: the picture with that pixel changed
  pub put_render : (n p v : ℕ) (f : ℕ → ℕ) (b : Buf) → n ≤ N → p < n → put p v (render put n f b) ≡ render put n (upd f p v) b
  put_render zero p v f b l h = absurd (not-suc-le-zero h)
  put_render (suc n) p v f b l h = pick (put_render n p v f b (omega arith)) (eq-or-lt_of_le (le_of_suc-le-suc h))
    where
      pick : (p < n → put p v (render put n f b) ≡ render put n (upd f p v) b) → (p ≡ n) ⊎ (p < n)
          → put p v (put n (f n) (render put n f b)) ≡ put n (upd f p v n) (render put n (upd f p v) b)
      pick ih (inl e) =
          subst (λ (q : ℕ). put q v (put n (f n) (render put n f b)) ≡ put n (upd f q v n) (render put n (upd f q v) b)) (sym e)
          (L.twice n v (f n) (render put n f b) l
          ∙ ap₂ (λ (x : ℕ) (c : Buf). put n x c) (sym (upd_same f n v))
          (render_cong n f (upd f n v) b (λ q k. sym (upd_other f n v q (λ z. omega arith)))))
      pick ih (inr k) =
          L.swap p n v (f n) (render put n f b) (omega arith) l (λ z. omega arith)
          ∙ ap₂ (λ (x : ℕ) (c : Buf). put n x c) (sym (upd_other f p v n (λ z. omega arith)))
          (ih k)

  -- painting the pixels below m over the picture f makes any picture g that is painted below m and is f from there on
  paint_upto : (m : ℕ) (s : ℕ → Bool) (c : ℕ) (f g : ℕ → ℕ) (b : Buf) → m ≤ N
      → ((p : ℕ) → p < m → g p ≡ cond (s p) c (f p)) → ((p : ℕ) → m ≤ p → g p ≡ f p)
      → paint put m s c (render put N f b) ≡ render put N g b
  paint_upto zero s c f g b l lo hi = render_cong N f g b (λ p k. sym (hi p (omega arith)))
  paint_upto (suc m) s c f g b l lo hi =
      ap (put_if put (s m) m c) (paint_upto m s c f h b (omega arith) h_lo h_hi) ∙ one (s m) (lo m (le_refl (suc m)))
    where
      h : ℕ → ℕ
      h = upd g m (f m)

      h_lo : (p : ℕ) → p < m → h p ≡ cond (s p) c (f p)
      h_lo p k = upd_other g m (f m) p (λ z. omega arith) ∙ lo p (omega arith)

      h_hi : (p : ℕ) → m ≤ p → h p ≡ f p
      h_hi p k = ⊎_elim (λ e. ap h (sym e) ∙ upd_same g m (f m) ∙ ap f e) (λ k'. upd_other g m (f m) p (λ z. omega arith) ∙ hi p k') (eq-or-lt_of_le k)

      back_at_m : (v : ℕ) → g m ≡ v → (p : ℕ) → upd h m v p ≡ g p
      back_at_m v e p = ⊎_elim (λ q. ap (upd h m v) q ∙ upd_same h m v ∙ sym e ∙ ap g (sym q)) (λ q. upd_other h m v p q ∙ upd_other g m (f m) p q) (eq_or_not p m)

      one : (t : Bool) → g m ≡ cond t c (f m) → put_if put t m c (render put N h b) ≡ render put N g b
      one true e = put_render N m c h b (le_refl N) l ∙ render_cong N (upd h m c) g b (λ p k. back_at_m c e p)
      one false e = render_cong N h g b (λ p k. ⊎_elim (λ q. ap h q ∙ upd_same g m (f m) ∙ sym e ∙ ap g (sym q)) (λ q. upd_other g m (f m) p q) (eq_or_not p m))

  pub paint_render : (s : ℕ → Bool) (c : ℕ) (f : ℕ → ℕ) (b : Buf) → paint put N s c (render put N f b) ≡ render put N (λ p. cond (s p) c (f p)) b
  paint_render s c f b =
      paint_upto N s c f g b (le_refl N) lo hi
      ∙ render_cong N g (λ p. cond (s p) c (f p)) b lo
    where
      g : ℕ → ℕ
      g p = cond (ltb p N) (cond (s p) c (f p)) (f p)

      lo : (p : ℕ) → p < N → g p ≡ cond (s p) c (f p)
      lo p k = ap (λ (t : Bool). cond t (cond (s p) c (f p)) (f p)) (lt-ltb p N k)

      hi : (p : ℕ) → N ≤ p → g p ≡ f p
      hi p k = ap (λ (t : Bool). cond t (cond (s p) c (f p)) (f p)) (le-ltb p N k)

  -- one picture over another
  render_upto : (n : ℕ) (f g : ℕ → ℕ) (b : Buf) → n ≤ N → render put n f (render put N g b) ≡ render put N (λ p. cond (ltb p n) (f p) (g p)) b
  render_upto zero f g b l = render_cong N _ _ b (λ p k. sym (ap (λ (t : Bool). cond t (f p) (g p)) (le-ltb p 0 (omega arith))))
  render_upto (suc n) f g b l =
      ap (put n (f n)) (render_upto n f g b (omega arith))
      ∙ put_render N n (f n) h b (le_refl N) l
      ∙ render_cong N (upd h n (f n)) (λ p. cond (ltb p (suc n)) (f p) (g p)) b (λ p k. one p (eq_or_not p n) (lt_or_ge p n))
    where
      h : ℕ → ℕ
      h p = cond (ltb p n) (f p) (g p)

      one : (p : ℕ) → (p ≡ n) ⊎ (p ≡ n → ⊥) → (p < n) ⊎ (n ≤ p) → upd h n (f n) p ≡ cond (ltb p (suc n)) (f p) (g p)
      one p (inl e) k =
          ap (upd h n (f n)) e ∙ upd_same h n (f n) ∙ ap f (sym e)
          ∙ sym (ap (λ (t : Bool). cond t (f p) (g p)) (lt-ltb p (suc n) (omega arith)))
      one p (inr d) (inl k) =
          upd_other h n (f n) p d ∙ ap (λ (t : Bool). cond t (f p) (g p)) (lt-ltb p n k ∙ sym (lt-ltb p (suc n) (omega arith)))
      one p (inr d) (inr k) =
          upd_other h n (f n) p d
          ∙ ap (λ (t : Bool). cond t (f p) (g p)) (le-ltb p n k ∙ sym (le-ltb p (suc n) (⊎_elim (λ e. absurd (d (sym e))) (λ m. m) (eq-or-lt_of_le k))))

  pub render_render : (f g : ℕ → ℕ) (b : Buf) → render put N f (render put N g b) ≡ render put N f b
  render_render f g b = render_upto N f g b (le_refl N) ∙ render_cong N _ _ b (λ p l. ap (λ (t : Bool). cond t (f p) (g p)) (lt-ltb p N l))

  -- a buffer is what rendering its own picture on it leaves
  self_upto : (n : ℕ) (b : Buf) → n ≤ N → render put n (λ p. get p b) b ≡ b
  self_upto zero b l = refl
  self_upto (suc n) b l = ap (put n (get n b)) (self_upto n b (omega arith)) ∙ L.back n b l

  pub self_render : (b : Buf) → render put N (λ p. get p b) b ≡ b
  self_render b = self_upto N b (le_refl N)

  get_upto : (n p : ℕ) (f : ℕ → ℕ) (b : Buf) → n ≤ N → p < n → Col (f p) → Ok b → get p (render put n f b) ≡ f p
  get_upto zero p f b l h c o = absurd (not-suc-le-zero h)
  get_upto (suc n) p f b l h c o = pick (λ k. get_upto n p f b (omega arith) k c o) (eq-or-lt_of_le (le_of_suc-le-suc h))
    where
      pick : (p < n → get p (render put n f b) ≡ f p) → (p ≡ n) ⊎ (p < n) → get p (put n (f n) (render put n f b)) ≡ f p
      pick ih (inl e) =
          ap (λ (q : ℕ). get q (put n (f n) (render put n f b))) e
          ∙ L.same n (f n) (render put n f b) l (subst (λ (q : ℕ). Col (f q)) e c) (render_ok n f b o) ∙ ap f (sym e)
      pick ih (inr k) =
          L.other p n (f n) (render put n f b) (omega arith) l (λ z. omega arith) ∙ ih k

  pub get_render : (p : ℕ) (f : ℕ → ℕ) (b : Buf) → p < N → Col (f p) → Ok b → get p (render put N f b) ≡ f p
  get_render p f b h c o = get_upto N p f b (le_refl N) h c o

  -- ---- what loops cite
  -- painting, as one picture
  pub paint_is : (s : ℕ → Bool) (c : ℕ) (b : Buf) → paint put N s c b ≡ render put N (λ p. cond (s p) c (get p b)) b
  paint_is s c b = ap (paint put N s c) (sym (self_render b)) ∙ paint_render s c (λ p. get p b) b

  -- figures that agree on the frame
  pub paint_cong : (s t : ℕ → Bool) (c : ℕ) (b : Buf) → ((p : ℕ) → p < N → s p ≡ t p) → paint put N s c b ≡ paint put N t c b
  paint_cong s t c b h =
      paint_is s c b ∙ render_cong N (λ p. cond (s p) c (get p b)) (λ p. cond (t p) c (get p b)) b (λ p l. ap (λ (x : Bool). cond x c (get p b)) (h p l))
      ∙ sym (paint_is t c b)

  -- the empty figure
  pub paint_none : (s : ℕ → Bool) (c : ℕ) (b : Buf) → ((p : ℕ) → p < N → s p ≡ false) → paint put N s c b ≡ b
  paint_none s c b h =
      paint_is s c b ∙ render_cong N (λ p. cond (s p) c (get p b)) (λ p. get p b) b (λ p l. ap (λ (x : Bool). cond x c (get p b)) (h p l))
      ∙ self_render b

  -- two figures in one colour, one after the other
  pub paint_paint : (s t : ℕ → Bool) (c : ℕ) (b : Buf) → paint put N s c (paint put N t c b) ≡ paint put N (λ p. t p || s p) c b
  paint_paint s t c b =
      ap (paint put N s c) (paint_is t c b) ∙ paint_render s c (λ p. cond (t p) c (get p b)) b
      ∙ render_cong N _ _ b (λ p l. over (t p) (s p) c (get p b)) ∙ sym (paint_is (λ p. t p || s p) c b)

  -- one more pixel
  pub put_paint : (p : ℕ) (s : ℕ → Bool) (c : ℕ) (b : Buf) → p < N → put p c (paint put N s c b) ≡ paint put N (λ q. s q || eqb q p) c b
  put_paint p s c b h =
      ap (put p c) (paint_is s c b) ∙ put_render N p c (λ q. cond (s q) c (get q b)) b (le_refl N) h
      ∙ render_cong N _ _ b (λ q l. over (s q) (eqb q p) c (get q b)) ∙ sym (paint_is (λ q. s q || eqb q p) c b)
