-- A line written part by part: where it ends, its bytes, and how long it is at most. Assumes nothing.
use mathlib.Core.Path.{◌≡◌}
use mathlib.Core.List.{List, ◌++◌}
use Prim.Native.Nat.{ℕ, ◌+◌, ◌≤◌}
use native.Mathlib.Omega.{arith}
use lib.IntN.{ℤ}
use lib.ListN.{length}
use lib.Seq.{sets}
use mir.Syntax.{w32}
use mir.Val.{SFits, to_z, of_z}
use mir.Facts.{to_z-of_z}
use Rattle.text.specs.Show.{number_field}
use Rattle.text.proofs.Showing.{field_short}
use Rattle.text.proofs.Writing.{Wrote, at_field, wrote_then}

-- ---- what writing s leaves and answers, with a bound; a part behind another
abbrev pub Short : ℕ → List ℕ → ℕ → List ℕ → ℕ → List ℕ → Type 0
Short most buf at s r out = (r ≡ at + length s) × (out ≡ sets buf at s) × (r ≤ at + most)

pub short_then : (m n : ℕ) (buf : List ℕ) (at : ℕ) (s t : List ℕ) {p r : ℕ} {mid out : List ℕ} → Short m buf at s p mid → Short n mid p t r out
    → Short (m + n) buf at (s ++ t) r out
short_then m n buf at s t a b =
    let w = wrote_then buf at s t (a.0, a.1) (b.0, b.1) in
    (w.0, w.1, omega (arith, a.2, b.2))

pub short_three : (k m n : ℕ) (buf : List ℕ) (at : ℕ) (s t u : List ℕ) {p q r : ℕ} {one two out : List ℕ}
    → Short k buf at s p one → Short m one p t q two → Short n two q u r out → Short (k + (m + n)) buf at (s ++ (t ++ u)) r out
short_three k m n buf at s t u {p} {q} {r} {one} {two} {out} a b c = short_then k (m + n) buf at s (t ++ u) a (short_then m n one p t u b c)

-- the line of what is known to be another value, within another bound
pub short_as : {A : Type 0} (line : A → List ℕ) (m n : ℕ) (buf : List ℕ) (at : ℕ) {x y : A} {r : ℕ} {out : List ℕ}
    → x ≡ y → m ≤ n → Short m buf at (line y) r out → Short n buf at (line x) r out
short_as line m n buf at e h w = rw e (w.0, w.1, omega (arith, w.2))

-- ---- a signed number, which the code reads back
module _ (v : ℤ) (stop : ℕ) (f : SFits w32 v) where
  pub short_field : (buf : List ℕ) (at : ℕ) {r : ℕ} {out : List ℕ} → Wrote buf at (number_field (to_z w32 (of_z w32 v)) stop) r out → Short 12 buf at (number_field v stop) r out
  short_field buf at w =
      let x = at_field buf at v stop (to_z-of_z f) w in
      (x.0, x.1, omega (arith, x.0, field_short v stop f))

  pub read_back_short : length (number_field (to_z w32 (of_z w32 v)) stop) ≤ 12
  read_back_short = rw (to_z-of_z f) (field_short v stop f)
