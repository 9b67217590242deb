-- Laws of a line that is taken from what is left of an input. Assumes nothing.
use mathlib.Core.Path.{◌≡◌, refl, sym, ap, ap₂, ◌∙◌}
use mathlib.Core.Bool.{false, true≢false}
use mathlib.Core.List.{List, [], ◌∷◌}
use Prim.Native.Nat.{ℕ, ◌+◌, ◌-◌, min}
use native.Mathlib.Omega.{arith}
use lib.ListN.{length, take, drop}
use lib.Seq.{drop-drop, take_all}
use Rattle.std.specs.Prelude.{Option, Some, None, MatchOption, ◌==◌}
use Rattle.std.specs.Borrow.{Bor}
use Rattle.text.specs.Fields.{until, lines}
use Rattle.text.specs.Lines.{first_line}
use Rattle.text.proofs.Streaming.{first_line_lem}

-- ---- the first line, and those behind it
lines_of : (s : List ℕ) → (length s == 0) ≡ false → lines s ≡ first_line s ∷ lines (drop (until 10 s + 1) s)
lines_of [] h = absurd (true≢false h)
lines_of (b ∷ s) h = first_line_lem b s

-- what is left behind the LF, if there is one
behind_one : (r : List ℕ) (n : ℕ) → n ≡ min (length r) 1 → take (length r - n) (drop n r) ≡ drop 1 r
behind_one [] n e = let z : n ≡ 0 = omega (arith, e) in rw z refl
behind_one (b ∷ r) n e = let z : n ≡ 1 = omega (arith, e) in rw z (take_all (length (b ∷ r) - 1) r (omega arith))

-- as the code lends them
pub line_taken : (s line rest : List ℕ) (end n : ℕ) → (length s == 0) ≡ false → end ≡ until 10 s → line ≡ take end s → rest ≡ drop end s
    → n ≡ min (length rest) 1 → lines s ≡ line ∷ lines (take (length rest - n) (drop n rest))
line_taken s line rest end n h e f g m =
    lines_of s h ∙ ap₂ (λ (l r : List ℕ). l ∷ lines r) (ap (λ (k : ℕ). take k s) (sym e) ∙ sym f) (sym behind)
  where
    behind : take (length rest - n) (drop n rest) ≡ drop (until 10 s + 1) s
    behind = behind_one rest n m ∙ ap (drop 1) g ∙ drop-drop 1 end s ∙ ap (λ (k : ℕ). drop (k + 1) s) e

-- ---- once the first line is taken, if there is one, those behind it are left
pub first_taken : (s t : List ℕ) (r : Option (Bor (List ℕ))) → MatchOption r ((lines s ≡ []) × (lines t ≡ [])) (λ (x : Bor (List ℕ)). lines s ≡ x.now ∷ lines t)
    → lines t ≡ lines (drop (until 10 s + 1) s)
first_taken [] t None h = h.1
first_taken [] t (Some x) h = absurd (cc)
first_taken (b ∷ s) t None h = let e = first_line_lem b s in absurd (cc)
first_taken (b ∷ s) t (Some x) h = let e = first_line_lem b s in cc
