-- Laws of digits, of one number and of the bytes of a buffer; and that a layout which puts no two digits of pixels at one place has the laws of
-- `Screen`. Assumes nothing.
use mathlib.Core.Path.{◌≡◌, refl, sym, ap, ap₂, ◌∙◌, subst}
use mathlib.Core.Logic.{◌⊎◌, inl, inr}
use mathlib.Core.List.{List}
use Prim.Native.Nat.{ℕ, zero, suc, ◌+◌, ◌*◌, ◌/◌, ◌%◌, ◌^◌, ◌≤◌, ◌<◌}
use native.Mathlib.Nat.{le_refl, not-suc-le-zero, mod-lt, mod-mod, div-add-mod', div-lt_iff_lt-mul, pow-suc, pow-zero, mod-eq_of_lt}
use native.Mathlib.Omega.{arith}
use lib.Arith.{digits_div, digits_mod, lt-one}
use lib.ListN.{length, get_or, set, length-set}
use lib.Seq.{get_or-set_same, get_or-set_other, set-set, set_comm, set-get_or, set_out}
use Rattle.layout.specs.Digits.{digit, replaced, value, cell, set_cell, put_digits, get_digits}
use Rattle.layout.proofs.Screen.{Laws}
use Rattle.whole.proofs.Tests.{eq_or_not, lt_or_ge}

module _ (B : ℕ) (pos : 0 < B) where
  -- ---- one number
  hi : (q r : ℕ) → (q * B + r % B) / B ≡ q
  hi q r = digits_div q (mod-lt r pos)

  lo : (q r : ℕ) → (q * B + r % B) % B ≡ r % B
  lo q r = digits_mod q (mod-lt r pos)

  pub digit_lt : (j v : ℕ) → digit B j v < B
  digit_lt zero v = mod-lt v pos
  digit_lt (suc j) v = digit_lt j (v / B)

  pub digit_same : (j u v : ℕ) → digit B j (replaced B j u v) ≡ u % B
  digit_same zero u v = lo (v / B) u
  digit_same (suc j) u v = ap (digit B j) (hi (replaced B j u (v / B)) v) ∙ digit_same j u (v / B)

  pub digit_other : (j k u v : ℕ) → (j ≡ k → ⊥) → digit B j (replaced B k u v) ≡ digit B j v
  digit_other zero zero u v h = absurd (h refl)
  digit_other zero (suc k) u v h = lo (replaced B k u (v / B)) v
  digit_other (suc j) zero u v h = ap (digit B j) (hi (v / B) u)
  digit_other (suc j) (suc k) u v h = ap (digit B j) (hi (replaced B k u (v / B)) v) ∙ digit_other j k u (v / B) (λ e. h (ap suc e))

  pub twice : (j u w v : ℕ) → replaced B j u (replaced B j w v) ≡ replaced B j u v
  twice zero u w v = ap (λ (x : ℕ). x * B + u % B) (hi (v / B) w)
  twice (suc j) u w v =
      ap₂ (λ (x y : ℕ). replaced B j u x * B + y) (hi (replaced B j w (v / B)) v) (lo (replaced B j w (v / B)) v)
      ∙ ap (λ (x : ℕ). x * B + v % B) (twice j u w (v / B))

  pub swap : (j k u w v : ℕ) → (j ≡ k → ⊥) → replaced B j u (replaced B k w v) ≡ replaced B k w (replaced B j u v)
  swap zero zero u w v h = absurd (h refl)
  swap zero (suc k) u w v h =
      ap (λ (x : ℕ). x * B + u % B) (hi (replaced B k w (v / B)) v)
      ∙ sym (ap₂ (λ (x y : ℕ). replaced B k w x * B + y) (hi (v / B) u) (lo (v / B) u))
  swap (suc j) zero u w v h =
      ap₂ (λ (x y : ℕ). replaced B j u x * B + y) (hi (v / B) w) (lo (v / B) w)
      ∙ sym (ap (λ (x : ℕ). x * B + w % B) (hi (replaced B j u (v / B)) v))
  swap (suc j) (suc k) u w v h =
      ap₂ (λ (x y : ℕ). replaced B j u x * B + y) (hi (replaced B k w (v / B)) v) (lo (replaced B k w (v / B)) v)
      ∙ ap (λ (x : ℕ). x * B + v % B) (swap j k u w (v / B) (λ e. h (ap suc e)))
      ∙ sym (ap₂ (λ (x y : ℕ). replaced B k w x * B + y) (hi (replaced B j u (v / B)) v) (lo (replaced B j u (v / B)) v))

  pub back : (j v : ℕ) → replaced B j (digit B j v) v ≡ v
  back zero v = ap (λ (x : ℕ). v / B * B + x) (mod-mod v B) ∙ div-add-mod' v B
  back (suc j) v = ap (λ (x : ℕ). x * B + v % B) (back j (v / B)) ∙ div-add-mod' v B

  pub value_cong : (n : ℕ) (d e : ℕ → ℕ) → ((k : ℕ) → k < n → d k ≡ e k) → value B n d ≡ value B n e
  value_cong zero d e h = refl
  value_cong (suc n) d e h =
      ap₂ (λ (x y : ℕ). x * B + y) (value_cong n (λ k. d (suc k)) (λ k. e (suc k)) (λ k l. h (suc k) (omega arith))) (h 0 (omega arith))

  pub value_digits : (n v : ℕ) → v < B ^ n → value B n (λ k. digit B k v) ≡ v
  value_digits zero v h = sym (lt-one (subst (λ (x : ℕ). v < x) (pow-zero B) h))
  value_digits (suc n) v h =
      ap (λ (x : ℕ). x * B + v % B) (value_digits n (v / B) ((div-lt_iff_lt-mul pos).1 (subst (λ (x : ℕ). v < x) (pow-suc B n) h)))
      ∙ div-add-mod' v B

  pub digit_value : (n k : ℕ) (d : ℕ → ℕ) → ((m : ℕ) → d m < B) → k < n → digit B k (value B n d) ≡ d k
  digit_value zero k d b h = absurd (not-suc-le-zero h)
  digit_value (suc n) zero d b h = digits_mod (value B n (λ m. d (suc m))) (b 0)
  digit_value (suc n) (suc k) d b h =
      ap (digit B k) (digits_div (value B n (λ m. d (suc m))) (b 0)) ∙ digit_value n k (λ m. d (suc m)) (λ m. b (suc m)) (omega arith)

  -- ---- a digit of a byte of a buffer
  pub cell_len : (i j u : ℕ) (b : List ℕ) → length (set_cell B i j u b) ≡ length b
  cell_len i j u b = length-set b i (replaced B j u (get_or b i 0))

  pub cell_same : (i j u : ℕ) (b : List ℕ) → i < length b → cell B i j (set_cell B i j u b) ≡ u % B
  cell_same i j u b h = ap (digit B j) (get_or-set_same b i (replaced B j u (get_or b i 0)) 0 h) ∙ digit_same j u (get_or b i 0)

  module _ (i j i' j' : ℕ) (apart : i ≡ i' → j ≡ j' → ⊥) (w : ℕ) (b : List ℕ) where
    there : ℕ
    there = replaced B j' w (get_or b i' 0)

    pub cell_other : cell B i j (set_cell B i' j' w b) ≡ cell B i j b
    cell_other = go (eq_or_not i i') (lt_or_ge i (length b))
      where
        go : (i ≡ i') ⊎ (i ≡ i' → ⊥) → (i < length b) ⊎ (length b ≤ i) → cell B i j (set_cell B i' j' w b) ≡ cell B i j b
        go (inr n) r = ap (digit B j) (get_or-set_other b i' i (replaced B j' w (get_or b i' 0)) 0 n)
        go (inl e) (inl l) =
            subst (λ (m : ℕ). cell B i j (set_cell B m j' w b) ≡ cell B i j b) e
            (ap (digit B j) (get_or-set_same b i (replaced B j' w (get_or b i 0)) 0 l) ∙ digit_other j j' w (get_or b i 0) (apart e))
        go (inl e) (inr l) =
            subst (λ (m : ℕ). cell B i j (set_cell B m j' w b) ≡ cell B i j b) e
            (ap (cell B i j) (set_out b i (replaced B j' w (get_or b i 0)) l))

    pub cell_swap : (u : ℕ) → set_cell B i j u (set_cell B i' j' w b) ≡ set_cell B i' j' w (set_cell B i j u b)
    cell_swap u = go (eq_or_not i i') (lt_or_ge i (length b))
      where
        x : ℕ
        x = get_or b i 0

        go : (i ≡ i') ⊎ (i ≡ i' → ⊥) → (i < length b) ⊎ (length b ≤ i) → set_cell B i j u (set_cell B i' j' w b) ≡ set_cell B i' j' w (set_cell B i j u b)
        go (inr n) r =
            ap (λ (y : ℕ). set (set b i' (replaced B j' w (get_or b i' 0))) i (replaced B j u y)) (get_or-set_other b i' i (replaced B j' w (get_or b i' 0)) 0 n)
            ∙ set_comm b i' i (replaced B j' w (get_or b i' 0)) (replaced B j u (get_or b i 0)) (λ e. n (sym e))
            ∙ sym (ap (λ (y : ℕ). set (set b i (replaced B j u (get_or b i 0))) i' (replaced B j' w y)) (get_or-set_other b i i' (replaced B j u (get_or b i 0)) 0 (λ e. n (sym e))))
        go (inl e) (inl l) =
            subst (λ (m : ℕ). set_cell B i j u (set_cell B m j' w b) ≡ set_cell B m j' w (set_cell B i j u b)) e
            (ap (λ (y : ℕ). set (set b i (replaced B j' w (get_or b i 0))) i (replaced B j u y)) (get_or-set_same b i (replaced B j' w (get_or b i 0)) 0 l)
            ∙ set-set b i (replaced B j' w (get_or b i 0)) (replaced B j u (replaced B j' w (get_or b i 0)))
            ∙ ap (set b i) (swap j j' u w (get_or b i 0) (apart e))
            ∙ sym (set-set b i (replaced B j u (get_or b i 0)) (replaced B j' w (replaced B j u (get_or b i 0))))
            ∙ sym (ap (λ (y : ℕ). set (set b i (replaced B j u (get_or b i 0))) i (replaced B j' w y)) (get_or-set_same b i (replaced B j u (get_or b i 0)) 0 l)))
        go (inl e) (inr l) =
            subst (λ (m : ℕ). set_cell B i j u (set_cell B m j' w b) ≡ set_cell B m j' w (set_cell B i j u b)) e
            (out j u (set_cell B i j' w b) (subst (λ (n : ℕ). n ≤ i) (sym (cell_len i j' w b)) l) ∙ out j' w b l
            ∙ sym (out j' w (set_cell B i j u b) (subst (λ (n : ℕ). n ≤ i) (sym (cell_len i j u b)) l) ∙ out j u b l))
          where
            out : (k v : ℕ) (c : List ℕ) → length c ≤ i → set_cell B i k v c ≡ c
            out k v c h = set_out c i (replaced B k v (get_or c i 0)) h

  pub cell_twice : (i j u w : ℕ) (b : List ℕ) → set_cell B i j u (set_cell B i j w b) ≡ set_cell B i j u b
  cell_twice i j u w b = go (lt_or_ge i (length b))
    where
      go : (i < length b) ⊎ (length b ≤ i) → set_cell B i j u (set_cell B i j w b) ≡ set_cell B i j u b
      go (inl l) =
          ap (λ (y : ℕ). set (set b i (replaced B j w (get_or b i 0))) i (replaced B j u y)) (get_or-set_same b i (replaced B j w (get_or b i 0)) 0 l)
          ∙ set-set b i (replaced B j w (get_or b i 0)) (replaced B j u (replaced B j w (get_or b i 0)))
          ∙ ap (set b i) (twice j u w (get_or b i 0))
      go (inr l) = ap (set_cell B i j u) (set_out b i (replaced B j w (get_or b i 0)) l)

  pub cell_back : (i j : ℕ) (b : List ℕ) → set_cell B i j (cell B i j b) b ≡ b
  cell_back i j b = ap (set b i) (back j (get_or b i 0)) ∙ set-get_or b i 0

  pub puts_len : (byte slot : ℕ → ℕ) (n v : ℕ) (b : List ℕ) → length (put_digits B byte slot n v b) ≡ length b
  puts_len byte slot zero v b = refl
  puts_len byte slot (suc n) v b = cell_len (byte n) (slot n) (digit B n v) (put_digits B byte slot n v b) ∙ puts_len byte slot n v b

  -- ---- a layout of N pixels of K digits each: two digits of pixels at one place are one digit of one pixel
  module _ (N K : ℕ) (byte slot : ℕ → ℕ → ℕ)
      (inj : (p q k m : ℕ) → p < N → q < N → k < K → m < K → byte p k ≡ byte q m → slot p k ≡ slot q m → (p ≡ q) × (k ≡ m)) where
    abbrev at : ℕ → ℕ → List ℕ → ℕ
    at p k b = cell B (byte p k) (slot p k) b

    abbrev to : ℕ → ℕ → ℕ → List ℕ → List ℕ
    to p k u b = set_cell B (byte p k) (slot p k) u b

    abbrev puts : ℕ → ℕ → ℕ → List ℕ → List ℕ
    puts n p v b = put_digits B (byte p) (slot p) n v b

    -- a place that is none of the n lowest digits of pixel p
    module _ (p q k : ℕ) (hp : p < N) (hq : q < N) (hk : k < K) where
      pub at_other : (n v : ℕ) (b : List ℕ) → n ≤ K → ((m : ℕ) → m < n → q ≡ p → k ≡ m → ⊥) → at q k (puts n p v b) ≡ at q k b
      at_other zero v b l h = refl
      at_other (suc n) v b l h =
          cell_other (byte q k) (slot q k) (byte p n) (slot p n)
          (λ e f. h n (le_refl (suc n)) (inj q p k n hq hp hk l e f).0 (inj q p k n hq hp hk l e f).1) (digit B n v) (puts n p v b)
          ∙ at_other n v b (omega arith) (λ m g. h m (omega arith))

      pub to_other : (n u v : ℕ) (b : List ℕ) → n ≤ K → ((m : ℕ) → m < n → q ≡ p → k ≡ m → ⊥) → to q k u (puts n p v b) ≡ puts n p v (to q k u b)
      to_other zero u v b l h = refl
      to_other (suc n) u v b l h =
          cell_swap (byte q k) (slot q k) (byte p n) (slot p n)
          (λ e f. h n (le_refl (suc n)) (inj q p k n hq hp hk l e f).0 (inj q p k n hq hp hk l e f).1) (digit B n v) (puts n p v b) u
          ∙ ap (to p n (digit B n v)) (to_other n u v b (omega arith) (λ m g. h m (omega arith)))

    at_same : (n k p v : ℕ) (b : List ℕ) → p < N → n ≤ K → k < n → byte p k < length b → at p k (puts n p v b) ≡ digit B k v
    at_same zero k p v b hp l h r = absurd (not-suc-le-zero h)
    at_same (suc n) k p v b hp l h r = go (at_same n k p v b hp (omega arith)) (eq_or_not k n)
      where
        go : (k < n → byte p k < length b → at p k (puts n p v b) ≡ digit B k v) → (k ≡ n) ⊎ (k ≡ n → ⊥) → at p k (puts (suc n) p v b) ≡ digit B k v
        go ih (inl e) =
            subst (λ (m : ℕ). at p k (to p m (digit B m v) (puts n p v b)) ≡ digit B k v) e
            (cell_same (byte p k) (slot p k) (digit B k v) (puts n p v b) (subst (λ (x : ℕ). byte p k < x) (sym (puts_len (byte p) (slot p) n v b)) r)
            ∙ mod-eq_of_lt (digit_lt k v))
        go ih (inr f) =
            cell_other (byte p k) (slot p k) (byte p n) (slot p n)
            (λ e g. f (inj p p k n hp hp (omega arith) l e g).1) (digit B n v) (puts n p v b)
            ∙ ih (omega arith) r

    puts_swap : (n m p q u v : ℕ) (b : List ℕ) → n ≤ K → m ≤ K → p < N → q < N → (p ≡ q → ⊥) → puts n p u (puts m q v b) ≡ puts m q v (puts n p u b)
    puts_swap zero m p q u v b l l' hp hq h = refl
    puts_swap (suc n) m p q u v b l l' hp hq h =
        ap (to p n (digit B n u)) (puts_swap n m p q u v b (omega arith) l' hp hq h)
        ∙ to_other q p n hq hp l m (digit B n u) v (puts n p u b) l' (λ x g e f. h e)

    puts_twice : (n p u v : ℕ) (b : List ℕ) → n ≤ K → p < N → puts n p u (puts n p v b) ≡ puts n p u b
    puts_twice zero p u v b l hp = refl
    puts_twice (suc n) p u v b l hp =
        ap (to p n (digit B n u)) (sym (to_other p p n hp hp l n (digit B n v) u (puts n p v b) (omega arith) (λ m g e f. omega arith)))
        ∙ cell_twice (byte p n) (slot p n) (digit B n u) (digit B n v) (puts n p u (puts n p v b))
        ∙ ap (to p n (digit B n u)) (puts_twice n p u v b (omega arith) hp)

    puts_back : (n p : ℕ) (b : List ℕ) → n ≤ K → puts n p (get_digits B (byte p) (slot p) K b) b ≡ b
    puts_back zero p b l = refl
    puts_back (suc n) p b l =
        ap₂ (λ (u : ℕ) (c : List ℕ). to p n u c)
        (digit_value K n (λ k. at p k b) (λ k. digit_lt (slot p k) (get_or b (byte p k) 0)) l)
        (puts_back n p b (omega arith))
        ∙ cell_back (byte p n) (slot p n) b

    -- the laws, on buffers of at least `size` bytes, where every place is below that
    pub layout_laws : (size : ℕ) → ((p k : ℕ) → p < N → k < K → byte p k < size)
        → Laws N (λ v. v < B ^ K) (List ℕ) (λ b. size ≤ length b) (λ p. put_digits B (byte p) (slot p) K) (λ p. get_digits B (byte p) (slot p) K)
    layout_laws size within =
        record {
          kept = λ p v b o. subst (λ (x : ℕ). size ≤ x) (sym (puts_len (byte p) (slot p) K v b)) o;
          same = λ p v b hp c o.
              value_cong K _ _ (λ k l. at_same K k p v b hp (le_refl K) l (let w : byte p k < size = within p k hp l in omega arith)) ∙ value_digits K v c;
          other = λ p q v b hp hq h. value_cong K _ _ (λ k l. at_other q p k hq hp l K v b (le_refl K) (λ m g e f. h e));
          twice = λ p u v b hp. puts_twice K p u v b (le_refl K) hp;
          swap = λ p q u v b hp hq h. puts_swap K K p q u v b (le_refl K) (le_refl K) hp hq h;
          back = λ p b hp. puts_back K p b (le_refl K);
        }
