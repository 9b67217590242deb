-- The row layout of 01, for every depth at once, both orders and any distance of rows: no two digits of pixels are at one place, and each is
-- within the frame. Assumes nothing.
use mathlib.Core.Path.{◌≡◌, refl, sym, ap, ap₂, ◌∙◌, subst}
use mathlib.Core.Logic.{⊎_elim, ◌⊎◌, inl, inr}
use mathlib.Core.Bool.{Bool, true, false, ◌||◌}
use Prim.Native.Nat.{ℕ, zero, suc, ◌+◌, ◌-◌, ◌*◌, ◌/◌, ◌%◌, ◌≤◌, ◌<◌}
use native.Mathlib.Nat.{mod-lt, div-add-mod', div-one, mul-div-mul_left, mul-div_cancel, mul_comm, mul-le-mul_right, zero-lt-suc}
use native.Mathlib.Omega.{arith}
use lib.Dec.{eqb, lit<, lit≤}
use lib.Arith.{digits_div, digits_mod, digits_lt}
use lib.Pow.{pow_pos}
use borrow.Author.Tests.{eqb-true}
use Rattle.layout.specs.Packed.{Packed, good_depth, row_bytes, laid, field, parts, per, turned, byte_of, slot_of}
use Rattle.layout.proofs.Placing.{Placing}

-- rows of a depth, far enough apart
pub record Sound (r : Packed) : Type 0 where
  pub depth : good_depth r.depth ≡ true
  pub apart : row_bytes r.width r.depth ≤ r.distance

-- ---- what the layout needs to know of a depth
pub record Depth (d : ℕ) : Type 0 where
  pub whole : field d * per d ≡ 8
  pub bits : field d * parts d ≡ d
  pub alone : (per d ≡ 1) ⊎ (parts d ≡ 1)

or_cases : {P : Type 0} (a b : Bool) → (a ≡ true → P) → (b ≡ true → P) → a || b ≡ true → P
or_cases true b f g e = f refl
or_cases false b f g e = g e

is : (P : ℕ → Type 0) (d n : ℕ) → P n → eqb d n ≡ true → P d
is P d n h e = subst P (sym (eqb-true d n e)) h

-- what holds of the seven depths holds of each
pub depth_cases : (P : ℕ → Type 0) → P 1 → P 2 → P 4 → P 8 → P 16 → P 24 → P 32 → (d : ℕ) → good_depth d ≡ true → P d
depth_cases P a1 a2 a4 a8 a16 a24 a32 d =
    or_cases _ _
    (or_cases _ _ (or_cases _ _ (or_cases _ _ (or_cases _ _ (or_cases _ _ (is P d 1 a1) (is P d 2 a2)) (is P d 4 a4)) (is P d 8 a8)) (is P d 16 a16)) (is P d 24 a24))
    (is P d 32 a32)

pub depth_of : (d : ℕ) → good_depth d ≡ true → Depth d
unfolding field parts per
depth_of =
    depth_cases Depth
    (record { whole = refl; bits = refl; alone = inr refl })
    (record { whole = refl; bits = refl; alone = inr refl })
    (record { whole = refl; bits = refl; alone = inr refl })
    (record { whole = refl; bits = refl; alone = inl refl })
    (record { whole = refl; bits = refl; alone = inl refl })
    (record { whole = refl; bits = refl; alone = inl refl })
    (record { whole = refl; bits = refl; alone = inl refl })

pub depth_le : (d : ℕ) → good_depth d ≡ true → d ≤ 32
depth_le = depth_cases (λ d. d ≤ 32) (lit≤ tt) (lit≤ tt) (lit≤ tt) (lit≤ tt) (lit≤ tt) (lit≤ tt) (lit≤ tt)

pub depth_pos : (d : ℕ) → good_depth d ≡ true → 0 < d
depth_pos = depth_cases (λ d. 0 < d) (lit< tt) (lit< tt) (lit< tt) (lit< tt) (lit< tt) (lit< tt) (lit< tt)

pub parts_pos : (d : ℕ) → good_depth d ≡ true → 0 < parts d
unfolding parts
parts_pos = depth_cases (λ d. 0 < parts d) (lit< tt) (lit< tt) (lit< tt) (lit< tt) (lit< tt) (lit< tt) (lit< tt)

-- up to a byte, and from a byte on
pub small : (d : ℕ) → d ≤ 8 → 0 < d → (field d ≡ d) × (parts d ≡ 1)
unfolding field parts
small d h p = omega arith

pub large : (d : ℕ) → good_depth d ≡ true → 8 ≤ d → (field d ≡ 8) × (per d ≡ 1) × (parts d ≡ d / 8) × (d / 8 * 8 ≡ d)
unfolding field parts per
large =
    depth_cases (λ d. 8 ≤ d → (field d ≡ 8) × (per d ≡ 1) × (parts d ≡ d / 8) × (d / 8 * 8 ≡ d)) (λ h. omega arith) (λ h. omega arith) (λ h. omega arith)
    (λ h. (refl, refl, refl, refl)) (λ h. (refl, refl, refl, refl)) (λ h. (refl, refl, refl, refl)) (λ h. (refl, refl, refl, refl))

-- a number's two digits are its own
pub digits_eq : (m q q' r r' : ℕ) → r < m → r' < m → q * m + r ≡ q' * m + r' → (q ≡ q') × (r ≡ r')
digits_eq m q q' r r' h h' e =
    (sym (digits_div q h) ∙ ap (λ (n : ℕ). n / m) e ∙ digits_div q' h', sym (digits_mod q h) ∙ ap (λ (n : ℕ). n % m) e ∙ digits_mod q' h')

pub turned_below : (big : Bool) (n k : ℕ) → k < n → turned big n k < n
turned_below true n k h = omega arith
turned_below false n k h = h

pub turned_twice : (big : Bool) (n k : ℕ) → k < n → turned big n (turned big n k) ≡ k
turned_twice true n k h = omega arith
turned_twice false n k h = refl

module _ (d : ℕ) (D : Depth d) where
  pub per_pos : 0 < per d
  per_pos = go (per d) D.whole
    where
      go : (n : ℕ) → field d * n ≡ 8 → 0 < n
      go zero e = omega (arith, e)
      go (suc n) e = zero-lt-suc n

  pub field_pos : 0 < field d
  field_pos = go (field d) D.whole
    where
      go : (n : ℕ) → n * per d ≡ 8 → 0 < n
      go zero e = omega (arith, e)
      go (suc n) e = zero-lt-suc n

  -- byte floor(x * depth / 8) of a row, by whole pixels
  pub column : (x : ℕ) → x * d / 8 ≡ x / per d * parts d
  column x = ⊎_elim one_a_byte one_byte D.alone
    where
      one_a_byte : per d ≡ 1 → x * d / 8 ≡ x / per d * parts d
      one_a_byte e =
          ap (λ (n : ℕ). x * n / 8) (sym D.bits)
          ∙ ap (λ (n : ℕ). x * (n * parts d) / 8) eight
          ∙ ap (λ (n : ℕ). n / 8) (omega arith)
          ∙ mul-div_cancel (x * parts d) (zero-lt-suc 7)
          ∙ ap (λ (n : ℕ). n * parts d) (sym (ap (λ (n : ℕ). x / n) e ∙ div-one x))
        where
          eight : field d ≡ 8
          eight = let h : field d * 1 ≡ 8 = subst (λ (n : ℕ). field d * n ≡ 8) e D.whole in omega arith

      one_byte : parts d ≡ 1 → x * d / 8 ≡ x / per d * parts d
      one_byte e =
          ap₂ (λ (m n : ℕ). m / n) (ap (λ (n : ℕ). x * n) (sym flat) ∙ mul_comm x (field d)) (sym D.whole)
          ∙ mul-div-mul_left x (per d) field_pos
          ∙ sym (ap (λ (n : ℕ). x / per d * n) e ∙ omega arith)
        where
          flat : field d ≡ d
          flat = let h : field d * 1 ≡ d = subst (λ (n : ℕ). field d * n ≡ d) e D.bits in omega arith

turned_inj : (big : Bool) (n k m : ℕ) → k < n → m < n → turned big n k ≡ turned big n m → k ≡ m
turned_inj true n k m h l e = omega arith
turned_inj false n k m h l e = e

module _ (r : Packed) (S : Sound r) where
  D : Depth r.depth
  D = depth_of r.depth S.depth

  -- a pixel's bytes lie within its row
  pub in_row : (x k : ℕ) → x < r.width → k < parts r.depth → x * r.depth / 8 + turned r.big (parts r.depth) k < r.distance
  unfolding parts row_bytes
  in_row x k hx hk =
      let t = turned_below r.big (parts r.depth) k hk in
      let m : suc x * r.depth ≤ r.width * r.depth = mul-le-mul_right r.depth hx in
      let a = S.apart in
      omega arith

  -- a place belongs to one digit of one pixel
  pub place_inj : (x y k x' y' k' : ℕ) → x < r.width → x' < r.width → k < parts r.depth → k' < parts r.depth
      → byte_of r x y k ≡ byte_of r x' y' k' → slot_of r.depth x ≡ slot_of r.depth x' → (x ≡ x') × (y ≡ y') × (k ≡ k')
  unfolding byte_of slot_of
  place_inj x y k x' y' k' hx hx' hk hk' e s =
      let d = r.depth in
      let n = parts d in
      let t = turned r.big n k in
      let t' = turned r.big n k' in
      let e₁ : y * r.distance + (x * d / 8 + t) ≡ y' * r.distance + (x' * d / 8 + t') = omega arith in
      let rows = digits_eq r.distance y y' _ _ (in_row x k hx hk) (in_row x' k' hx' hk') e₁ in
      let e₂ : x / per d * n + t ≡ x' / per d * n + t' =
      ap (λ (m : ℕ). m + t) (sym (column d D x)) ∙ rows.1 ∙ ap (λ (m : ℕ). m + t') (column d D x') in
      let cols = digits_eq n (x / per d) (x' / per d) t t' (turned_below r.big n k hk) (turned_below r.big n k' hk') e₂ in
      let l = mod-lt x (per_pos d D) in
      let l' = mod-lt x' (per_pos d D) in
      let e₃ : x % per d ≡ x' % per d = omega arith in
      (sym (div-add-mod' x (per d)) ∙ ap₂ (λ (q m : ℕ). q * per d + m) cols.0 e₃ ∙ div-add-mod' x' (per d), rows.0, turned_inj r.big n k k' hk hk' cols.1)

  -- and lies within the frame
  pub place_in : (x y k : ℕ) → x < r.width → y < r.height → k < parts r.depth → byte_of r x y k < r.distance * r.height
  unfolding byte_of
  place_in x y k hx hy hk =
      let l = digits_lt hy (in_row x k hx hk) in
      omega arith

  -- all bytes of a pixel do
  pub pixel_in : (x y : ℕ) → x < r.width → y < r.height → y * r.distance + x * r.depth / 8 + parts r.depth ≤ r.distance * r.height
  unfolding byte_of
  pixel_in x y hx hy =
      let m = parts r.depth in
      let p = parts_pos r.depth S.depth in
      let l : m - 1 < m = omega arith in
      let h = place_in x y (turned r.big m (m - 1)) hx hy (turned_below r.big m (m - 1) l) in
      let e = turned_twice r.big m (m - 1) l in
      omega arith

  pub placing : Placing (laid r)
  placing = record { base = pow_pos (field r.depth); apart = place_inj; within = place_in }
