-- Laws of the doubled area: by the distances of a pixel from an edge, with the vertices in another order or moved, and a pixel's three areas as weights
-- of the vertices, which place it among them. Assumes nothing.
use mathlib.Core.Path.{◌≡◌, refl, ◌∙◌}
use mathlib.Core.List.{List, [], ◌∷◌}
use Prim.Native.Nat.{ℕ, suc}
use native.Mathlib.Omega.{arith}
use lib.IntN.{ℤ, pos, neg_ℤ, ◌+ℤ◌, ◌-ℤ◌, ◌*ℤ◌}
use Rattle.whole.proofs.Difference.{as_mk, mks, mk_eq}
use Rattle.whole.proofs.Ring.{E, v, neg, ◌⊞◌, ◌⊟◌, ◌⊠◌, ring}
use Rattle.geometry.specs.declared.Point.{Point}
use Rattle.geometry.specs.Place.{moved, area_doubled}

-- the doubled area as an expression, over points whose columns are the variables i, j, k and whose rows are the next ones
abbrev area : ℕ → ℕ → ℕ → E
area i j k = ((v j ⊟ v i) ⊠ (v (suc k) ⊟ v (suc i))) ⊟ ((v k ⊟ v i) ⊠ (v (suc j) ⊟ v (suc i)))

-- by the distances of p from the start of the edge a to b
pub area_near : (p a b : Point) → area_doubled p a b ≡ ((b.0 -ℤ a.0) *ℤ (p.1 -ℤ a.1)) -ℤ ((b.1 -ℤ a.1) *ℤ (p.0 -ℤ a.0))
unfolding area_doubled
area_near p a b =
    ring (area 0 2 4) (((v 4 ⊟ v 2) ⊠ (v 1 ⊟ v 3)) ⊟ ((v 5 ⊟ v 3) ⊠ (v 0 ⊟ v 2))) (p.0 ∷ p.1 ∷ a.0 ∷ a.1 ∷ b.0 ∷ b.1 ∷ []) refl

-- by the way from a to b and on to c
pub area_legs : (a b c : Point) → area_doubled a b c ≡ ((b.0 -ℤ a.0) *ℤ (c.1 -ℤ b.1)) -ℤ ((c.0 -ℤ b.0) *ℤ (b.1 -ℤ a.1))
unfolding area_doubled
area_legs a b c = ring (area 0 2 4) (((v 2 ⊟ v 0) ⊠ (v 5 ⊟ v 3)) ⊟ ((v 4 ⊟ v 2) ⊠ (v 3 ⊟ v 1))) (a.0 ∷ a.1 ∷ b.0 ∷ b.1 ∷ c.0 ∷ c.1 ∷ []) refl

-- ---- the vertices in another order
pub area_swap : (a b c : Point) → area_doubled b a c ≡ neg_ℤ (area_doubled a b c)
unfolding area_doubled
area_swap a b c = ring (area 2 0 4) (neg (area 0 2 4)) (a.0 ∷ a.1 ∷ b.0 ∷ b.1 ∷ c.0 ∷ c.1 ∷ []) refl

pub area_turn : (a b c : Point) → area_doubled b c a ≡ area_doubled a b c
unfolding area_doubled
area_turn a b c = ring (area 2 4 0) (area 0 2 4) (a.0 ∷ a.1 ∷ b.0 ∷ b.1 ∷ c.0 ∷ c.1 ∷ []) refl

-- ---- moved
pub area_moved : (d a b c : Point) → area_doubled (moved d a) (moved d b) (moved d c) ≡ area_doubled a b c
unfolding area_doubled
area_moved d a b c =
    ring
    (((v 2 ⊞ v 6 ⊟ (v 0 ⊞ v 6)) ⊠ (v 5 ⊞ v 7 ⊟ (v 1 ⊞ v 7))) ⊟ ((v 4 ⊞ v 6 ⊟ (v 0 ⊞ v 6)) ⊠ (v 3 ⊞ v 7 ⊟ (v 1 ⊞ v 7))))
    (area 0 2 4) (a.0 ∷ a.1 ∷ b.0 ∷ b.1 ∷ c.0 ∷ c.1 ∷ d.0 ∷ d.1 ∷ []) refl

-- ---- the three areas of a pixel p
module _ (a b c p : Point) where
  ρ : List ℤ
  ρ = a.0 ∷ a.1 ∷ b.0 ∷ b.1 ∷ c.0 ∷ c.1 ∷ p.0 ∷ p.1 ∷ []

  -- they add up to the whole area
  pub area_sum : (area_doubled p a b +ℤ area_doubled p b c) +ℤ area_doubled p c a ≡ area_doubled a b c
  unfolding area_doubled ρ
  area_sum = ring (area 6 0 2 ⊞ area 6 2 4 ⊞ area 6 4 0) (area 0 2 4) ρ refl

  -- each is the weight of the vertex across, measured on rows: the third from two, seen from a and from c
  pub area_from_first : area_doubled p b c *ℤ (p.1 -ℤ a.1) ≡ area_doubled p c a *ℤ (b.1 -ℤ p.1) +ℤ area_doubled p a b *ℤ (c.1 -ℤ p.1)
  unfolding area_doubled ρ
  area_from_first = ring (area 6 2 4 ⊠ (v 7 ⊟ v 1)) (area 6 4 0 ⊠ (v 3 ⊟ v 7) ⊞ area 6 0 2 ⊠ (v 5 ⊟ v 7)) ρ refl

  pub area_from_last : area_doubled p a b *ℤ (c.1 -ℤ p.1) ≡ area_doubled p b c *ℤ (p.1 -ℤ a.1) +ℤ area_doubled p c a *ℤ (p.1 -ℤ b.1)
  unfolding area_doubled ρ
  area_from_last = ring (area 6 0 2 ⊠ (v 5 ⊟ v 7)) (area 6 2 4 ⊠ (v 7 ⊟ v 1) ⊞ area 6 4 0 ⊠ (v 7 ⊟ v 3)) ρ refl

  -- the weighted distances below and above a row z
  pub weighed_below : (z : ℤ) → (area_doubled p b c *ℤ (a.1 -ℤ z) +ℤ area_doubled p c a *ℤ (b.1 -ℤ z)) +ℤ area_doubled p a b *ℤ (c.1 -ℤ z) ≡ area_doubled a b c *ℤ (p.1 -ℤ z)
  unfolding area_doubled
  weighed_below z =
      ring (area 6 2 4 ⊠ (v 1 ⊟ v 8) ⊞ area 6 4 0 ⊠ (v 3 ⊟ v 8) ⊞ area 6 0 2 ⊠ (v 5 ⊟ v 8)) (area 0 2 4 ⊠ (v 7 ⊟ v 8))
      (a.0 ∷ a.1 ∷ b.0 ∷ b.1 ∷ c.0 ∷ c.1 ∷ p.0 ∷ p.1 ∷ z ∷ []) refl

  pub weighed_above : (z : ℤ) → (area_doubled p b c *ℤ (z -ℤ a.1) +ℤ area_doubled p c a *ℤ (z -ℤ b.1)) +ℤ area_doubled p a b *ℤ (z -ℤ c.1) ≡ area_doubled a b c *ℤ (z -ℤ p.1)
  unfolding area_doubled
  weighed_above z =
      ring (area 6 2 4 ⊠ (v 8 ⊟ v 1) ⊞ area 6 4 0 ⊠ (v 8 ⊟ v 3) ⊞ area 6 0 2 ⊠ (v 8 ⊟ v 5)) (area 0 2 4 ⊠ (v 8 ⊟ v 7))
      (a.0 ∷ a.1 ∷ b.0 ∷ b.1 ∷ c.0 ∷ c.1 ∷ p.0 ∷ p.1 ∷ z ∷ []) refl

-- vertices of one row have no area
pub area_level : (a b c : Point) → b.1 ≡ a.1 → c.1 ≡ a.1 → area_doubled a b c ≡ pos 0
unfolding area_doubled
area_level a b c eb ec = (λ i. ((b.0 -ℤ a.0) *ℤ (ec i -ℤ a.1)) -ℤ ((c.0 -ℤ a.0) *ℤ (eb i -ℤ a.1))) ∙ none (b.0 -ℤ a.0) (c.0 -ℤ a.0) a.1
  where
    none : (w u y : ℤ) → (w *ℤ (y -ℤ y)) -ℤ (u *ℤ (y -ℤ y)) ≡ pos 0
    none w u y = rw (as_mk w, as_mk u, as_mk y) (simp mks (mk_eq _ _ _ _ (omega arith)))

-- seen from the other end of an edge
pub area_back : (p a b : Point) → area_doubled p b a ≡ neg_ℤ (area_doubled p a b)
area_back p a b = area_turn a p b ∙ area_swap p a b
