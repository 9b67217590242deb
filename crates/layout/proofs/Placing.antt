-- A layout that keeps no two digits of pixels at one place, and all of them within its bytes, has the laws of setting and reading pixels by their number.
-- Assumes nothing.
use mathlib.Core.Path.{◌≡◌, sym, ap₂, ◌∙◌}
use mathlib.Core.List.{List}
use Prim.Native.Nat.{ℕ, zero, suc, ◌+◌, ◌*◌, ◌/◌, ◌%◌, ◌^◌, ◌≤◌, ◌<◌}
use native.Mathlib.Nat.{mod-lt, div-add-mod', div-lt_iff_lt-mul, zero-lt-suc}
use native.Mathlib.Omega.{arith}
use lib.ListN.{length}
use Rattle.layout.specs.Layout.{Layout, put_no, get_no}
use Rattle.layout.proofs.Screen.{Laws}
use Rattle.layout.proofs.Cells.{layout_laws}

pub record Placing (l : Layout) : Type 0 where
  pub base : 0 < l.base
  -- a place belongs to one digit of one pixel
  pub apart : (x y k x' y' k' : ℕ) → x < l.width → x' < l.width → k < l.parts → k' < l.parts
      → l.byte x y k ≡ l.byte x' y' k' → l.slot x y k ≡ l.slot x' y' k' → (x ≡ x') × (y ≡ y') × (k ≡ k')
  -- and lies within the frame
  pub within : (x y k : ℕ) → x < l.width → y < l.height → k < l.parts → l.byte x y k < l.size

-- a pixel's number, and its column and row
pub number_in : (w h p : ℕ) → p < h * w → (p % w < w) × (p / w < h)
number_in w h p l = (mod-lt p (pos w l), (div-lt_iff_lt-mul (pos w l)).1 l)
  where
    pos : (n : ℕ) → p < h * n → 0 < n
    pos zero k = omega arith
    pos (suc n) k = zero-lt-suc n

-- what holds of every pixel of the frame holds of every number
abbrev pub Everywhere : Layout → (ℕ → ℕ → Type 0) → Type 0
Everywhere l Q = (x y : ℕ) → x < l.width → y < l.height → Q x y

pub numbered : (l : Layout) (Q : ℕ → ℕ → Type 0) → Everywhere l Q → (p : ℕ) → p < l.height * l.width → Q (p % l.width) (p / l.width)
numbered l Q h p k = let n = number_in l.width l.height p k in h (p % l.width) (p / l.width) n.0 n.1

pub laws : (l : Layout) → Placing l → Laws (l.height * l.width) (λ v. v < l.base ^ l.parts) (List ℕ) (λ b. l.size ≤ length b) (put_no l) (get_no l)
laws l P =
    let w = l.width in
    let h = l.height in
    layout_laws l.base P.base (h * w) l.parts (λ p. l.byte (p % w) (p / w)) (λ p. l.slot (p % w) (p / w))
    (λ p q k m hp hq hk hm e s.
    let i = P.apart (p % w) (p / w) k (q % w) (q / w) m (number_in w h p hp).0 (number_in w h q hq).0 hk hm e s in
    (sym (div-add-mod' p w) ∙ ap₂ (λ (a b : ℕ). a * w + b) i.1 i.0 ∙ div-add-mod' q w, i.2))
    l.size (λ p k hp hk. P.within (p % w) (p / w) k (number_in w h p hp).0 (number_in w h p hp).1 hk)
