-- Two answers that C is handed as one are one, and so are the buffers that come with them. Assumes nothing.
use mathlib.Core.Path.{◌≡◌, refl, sym, ap, ◌∙◌}
use mathlib.Core.Bool.{Bool}
use mathlib.Core.List.{List}
use Prim.Native.Nat.{ℕ}
use Rattle.std.specs.Prelude.{Result, IsErr, IsErrAnd}
use Rattle.refusals.specs.declared.Refusal.{Refusal}
use Rattle.refusals.specs.Refusal.{number}
use Rattle.refusals.proofs.Answer.{not_done}
use Rattle.refusals.proofs.Numbers.{some_number, same_answer, handed_back}
use Rattle.frames.specs.declared.Drawn.{Drawn}
use Rattle.frames.specs.declared.Placed.{Placed}
use Rattle.frames.specs.declared.Size.{Size}
use Rattle.frames.specs.Answer.{sized, as_size, as_drawn, as_placed, as_read}

pub same_size : {a b : Result ℕ Refusal} → as_size a ≡ as_size b → a ≡ b
same_size = same_answer as_size (λ s. s.number) (λ s. s.bytes) (λ x. (refl, refl)) (λ r. refl)

pub same_read : {a b : Result ℕ Refusal} → as_read a ≡ as_read b → a ≡ b
same_read = same_answer as_read (λ r. r.number) (λ r. r.colour) (λ x. (refl, refl)) (λ r. refl)

module _ {x y : List ℕ} where
  pub same_drawn : {a b : Result ℕ Refusal} → ◌≡◌ {A = Drawn × List ℕ} (as_drawn a, x) (as_drawn b, y) → ◌≡◌ {A = Result ℕ Refusal × List ℕ} (a, x) (b, y)
  same_drawn h =
      let e = same_answer as_drawn (λ d. d.number) (λ d. d.count) (λ x. (refl, refl)) (λ r. refl) (ap (λ (p : Drawn × List ℕ). p.0) h) in
      λ i. (e i, (h i).1)

  pub same_placed : {a b : Result Bool Refusal} → ◌≡◌ {A = Placed × List ℕ} (as_placed a, x) (as_placed b, y) → ◌≡◌ {A = Result Bool Refusal × List ℕ} (a, x) (b, y)
  same_placed h =
      let e = same_answer as_placed (λ p. p.number) (λ p. p.inside) (λ x. (refl, refl)) (λ r. refl) (ap (λ (p : Placed × List ℕ). p.0) h) in
      λ i. (e i, (h i).1)

  pub same_saved : {a b : Result ℕ Refusal} → ◌≡◌ {A = Size × List ℕ} (as_size a, x) (as_size b, y) → ◌≡◌ {A = Result ℕ Refusal × List ℕ} (a, x) (b, y)
  same_saved h =
      let e = same_size (ap (λ (p : Size × List ℕ). p.0) h) in
      λ i. (e i, (h i).1)

-- a refusal, whatever the bytes would be
pub refused_size : (a : Result ℕ Refusal) (r : Refusal) → IsErr a × IsErrAnd a (λ q. q ≡ r) → {n : ℕ} → number r ≡ n → (b : ℕ) → as_size a ≡ sized n b
refused_size a r h e b =
    ap as_size (handed_back a h) ∙ (λ i. record { number = number r; bytes = sym (not_done (some_number r) b 0) i }) ∙ ap (λ (n : ℕ). sized n b) e
