-- What is answered does not depend on the parts in which the input comes. Assumes nothing.
use mathlib.Core.Path.{◌≡◌, refl, sym, ap, ◌∙◌}
use mathlib.Core.Bool.{Bool, true, false}
use mathlib.Core.List.{List, [], ◌++◌}
use Prim.Native.Nat.{ℕ}
use native.Mathlib.Omega.{arith}
use lib.Dec.{leb}
use lib.ListN.{length, take, length-take}
use lib.Seq.{take_all}
use borrow.Author.Tests.{leb-true, leb-false}
use Rattle.text.specs.Lines.{whole, streamed}
use Rattle.text.proofs.Streaming.{streamed_is}
use Rattle.files.specs.Files.{Buffers}
use Rattle.session.specs.Lines.{Left, answer}
use Rattle.screens.specs.Screen.{start}
use Rattle.session.proofs.Answers.{answer_long}
use Rattle.replay.specs.Session.{told, output}

-- 129 bytes of a line are enough
enough : (said : List ℕ) (l : Left) → answer said l ≡ answer (take 129 said) l
enough said l = by (leb (length said) 128) refl
  where
    by : (t : Bool) → leb (length said) 128 ≡ t → answer said l ≡ answer (take 129 said) l
    by true e = ap (λ (s : List ℕ). answer s l) (sym (take_all 129 said (omega (arith, leb-true (length said) 128 e))))
    by false e =
        sym (answer_long said l (leb-false (length said) 128 e))
        ∙ answer_long (take 129 said) l (omega (arith, leb-false (length said) 128 e, length-take 129 said))

pub told_enough : (o : List ℕ × Left) (said : List ℕ) → told o said ≡ told o (take 129 said)
told_enough o said = ap {B = List ℕ × Left} (λ (a : List ℕ × Left). (o.0 ++ a.0, a.1)) (enough said o.1)

pub any_parts : (m : Buffers) (parts : List (List ℕ)) → (streamed told 129 ([], (start, m)) [] parts).0 ≡ output m (whole parts)
any_parts m parts = ap (λ (o : List ℕ × Left). o.0) (streamed_is told 128 told_enough ([], (start, m)) [] parts)
