-- How long a header is, and that it is read back. Assumes nothing.
use mathlib.Core.Path.{◌≡◌, sym, ap, ◌∙◌}
use mathlib.Core.Logic.{⊎_elim}
use mathlib.Core.Bool.{Bool, cond}
use mathlib.Core.List.{List, [], ◌++◌, append-nil, append_assoc}
use Prim.Native.Nat.{ℕ, ◌+◌, ◌^◌, ◌≤◌, ◌<◌}
use native.Mathlib.Omega.{arith}
use lib.ListN.{length, length-append}
use borrow.Author.Tests.{eq-eqb, ne_eqb}
use Rattle.std.specs.Prelude.{Some}
use Rattle.whole.proofs.Tests.{eq_or_not}
use Rattle.text.specs.Show.{shown}
use Rattle.text.specs.Words.{numbered}
use Rattle.text.proofs.Showing.{shown_most, numbered_length}
use Rattle.headers.specs.Header.{magic, largest, maximum, headed, header_of}
use Rattle.headers.proofs.Forms.{written_header}
use Rattle.frames.specs.declared.Frame.{Frame}
use Rattle.frames.specs.Judged.{Described}
use Rattle.netpbm.specs.Image.{header}

pub no_maximum : (d : ℕ) → d ≡ 1 → maximum d ≡ []
no_maximum d e = ap (λ (t : Bool). cond t [] largest) (eq-eqb d 1 e)

pub a_maximum : (d : ℕ) → (d ≡ 1 → ⊥) → maximum d ≡ largest
a_maximum d n = ap (λ (t : Bool). cond t [] largest) (ne_eqb d 1 n)

module _ (f : Frame) where
  -- what comes before the maximum
  abbrev pub sides : List ℕ
  sides = magic f.depth ++ (numbered f.width 32 ++ numbered f.height 10)

  in_order : sides ++ maximum f.depth ≡ header f
  unfolding header
  in_order = simp append_assoc

  pub without_maximum : f.depth ≡ 1 → sides ≡ header f
  without_maximum e = sym (append-nil sides) ∙ ap (λ (m : List ℕ). sides ++ m) (sym (no_maximum f.depth e)) ∙ in_order

  pub with_maximum : (f.depth ≡ 1 → ⊥) → sides ++ largest ≡ header f
  with_maximum n = ap (λ (m : List ℕ). sides ++ m) (sym (a_maximum f.depth n)) ∙ in_order

  pub header_parts : length (header f) ≡ 3 + (length (numbered f.width 32) + (length (numbered f.height 10) + length (maximum f.depth)))
  unfolding header
  header_parts = simp length-append (omega arith)

  digits : length (header f) ≡ length (shown f.width) + length (shown f.height) + 5 + length (maximum f.depth)
  digits = omega (arith, header_parts, numbered_length f.width 32, numbered_length f.height 10)

  pub short_header : f.depth ≡ 1 → length (header f) ≡ length (shown f.width) + length (shown f.height) + 5
  short_header e = omega (arith, digits, ap length (no_maximum f.depth e))

  pub long_header : (f.depth ≡ 1 → ⊥) → length (header f) ≡ length (shown f.width) + length (shown f.height) + 9
  long_header n = omega (arith, digits, ap length (a_maximum f.depth n))

  -- a side has at most four digits
  pub four_digits : Described f → (length (shown f.width) ≤ 4) × (length (shown f.height) ≤ 4)
  four_digits D = (shown_most 3 f.width (small D.width), shown_most 3 f.height (small D.height))
    where
      small : {n : ℕ} → n ≤ 2048 → n < 10 ^ 4
      small h = omega arith

  pub header_short : Described f → length (header f) ≤ 17
  header_short D = let d = four_digits D in omega (arith, digits, d.0, d.1, most f.depth)
    where
      most : (d : ℕ) → length (maximum d) ≤ 4
      most d = ⊎_elim (λ e. rw (no_maximum d e) (omega arith)) (λ n. rw (a_maximum d n) (omega arith)) (eq_or_not d 1)

-- ---- whatever follows it, it is read back
pub header_says : (f : Frame) → Described f → (t : List ℕ) → header_of f.depth (header f ++ t) ≡ Some (headed f.width f.height (length (header f)))
unfolding header
header_says f D = written_header f.depth f.width f.height (omega (arith, D.width)) (omega (arith, D.height))
