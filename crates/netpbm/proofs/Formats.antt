-- What is known of a frame that has a format, and of two whose rows are one run. Assumes nothing.
use mathlib.Core.Path.{◌≡◌, refl, sym, ap, ap₂, ◌∙◌}
use mathlib.Core.Logic.{◌⊎◌, inl, inr, ⊎_elim}
use mathlib.Core.Bool.{Bool, beq, true, false, not, ◌&&◌, ◌||◌, true≢false}
use Prim.Native.Nat.{ℕ, zero, suc, ◌*◌, ◌<◌}
use native.Mathlib.Nat.{mul-pos}
use native.Mathlib.Omega.{arith}
use lib.Dec.{eqb}
use borrow.Author.Tests.{eq-eqb, eqb-true, eqb-false, not-false, not-true}
use Rattle.whole.proofs.Tests.{and_true, or_true, or_false}
use Rattle.layout.specs.Packed.{parts}
use Rattle.layout.proofs.Places.{depth_pos}
use Rattle.frames.specs.declared.Frame.{Frame}
use Rattle.frames.specs.Description.{size}
use Rattle.netpbm.specs.Written.{Writable}
use Rattle.netpbm.specs.Words.{is_turned, is_run}

module _ (f : Frame) where
  -- rows that take bytes are some bytes apart
  pub row_pos : {i : ℕ} → i < size f → 0 < f.distance
  unfolding size
  row_pos {i} h = go f.distance h
    where
      go : (n : ℕ) → i < n * f.height → 0 < n
      go zero h = absurd (omega arith)
      go (suc n) h = omega arith

  module _ {len : ℕ} (W : Writable f len) where
    abbrev depths : Bool
    depths = eqb f.depth 1 || eqb f.depth 8 || eqb f.depth 24

    pub formats : ((f.depth ≡ 1) ⊎ (f.depth ≡ 8)) ⊎ (f.depth ≡ 24)
    formats =
        ⊎_elim (λ t. inl (⊎_elim (λ t. inl (eqb-true f.depth 1 t)) (λ t. inr (eqb-true f.depth 8 t)) (or_true _ _ t))) (λ t. inr (eqb-true f.depth 24 t))
        (or_true _ _ (not-false depths (or_false (not depths) _ W.format).0))

    pub has_width : 0 < f.width
    has_width = let n = eqb-false f.width 0 (or_false (eqb f.width 0) (eqb f.height 0) (or_false (not depths) _ W.format).1).0 in omega arith

    -- the bits of a row
    pub has_bits : 0 < f.width * f.depth
    has_bits = mul-pos has_width (depth_pos f.depth W.accepted.described.depth)

    -- unless a pixel's bytes are turned round, it has one byte, or the orders are one
    pub same_bytes : (g : Frame) → is_turned g f ≡ false → (parts f.depth ≡ 1) ⊎ (g.big ≡ f.big)
    unfolding parts
    same_bytes g t = ⊎_elim (⊎_elim (λ e. inl (ap parts e)) (λ e. inl (ap parts e))) (λ e. inr (one g.big f.big (order e))) formats
      where
        order : f.depth ≡ 24 → beq g.big f.big ≡ true
        order e = not-false _ (sym (ap (λ (b : Bool). b && not (beq g.big f.big)) (eq-eqb f.depth 24 e)) ∙ t)

        one : (i o : Bool) → beq i o ≡ true → i ≡ o
        one true true e = refl
        one true false e = absurd (true≢false (sym e))
        one false true e = absurd (true≢false (sym e))
        one false false e = refl

-- ---- rows that are one run of bytes: nothing lies between them, and they take as many bytes
module _ (f g : Frame) (t : is_run f g ≡ true) where
  abbrev bits : ℕ
  bits = g.width * g.depth

  straight : (eqb (f.distance * 8) bits && eqb (g.distance * 8) bits ≡ true) × (not (is_turned f g) ≡ true)
  straight = and_true _ _ t

  both_full : (f.distance * 8 ≡ bits) × (g.distance * 8 ≡ bits)
  both_full = let p = and_true _ _ straight.0 in (eqb-true _ _ p.0, eqb-true _ _ p.1)

  pub run_full : g.width * g.depth ≡ 8 * g.distance
  run_full = omega (arith, both_full.1)

  pub same_distance : f.distance ≡ g.distance
  same_distance = omega (arith, both_full.0, both_full.1)

  pub not_turned : is_turned f g ≡ false
  not_turned = not-true (is_turned f g) straight.1

  pub same_size : f.height ≡ g.height → size f ≡ size g
  unfolding size
  same_size h = ap₂ (λ (d h : ℕ). d * h) same_distance h
