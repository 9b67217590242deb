-- Which answer a line gets, and what writing it leaves. Assumes nothing.
use mathlib.Core.Path.{◌≡◌, ap, ap₂, ◌∙◌}
use mathlib.Core.List.{List}
use Prim.Native.Nat.{ℕ, ◌+◌, ◌≤◌, ◌<◌}
use lib.ListN.{length, take}
use lib.Seq.{sets}
use borrow.Author.Tests.{le-leb, lt-leb}
use Rattle.text.specs.Fields.{until}
use Rattle.text.proofs.Writing.{Wrote}
use Rattle.protocol.specs.Reply.{bad_line}
use Rattle.session.specs.Lines.{Left, Session, line_answer, answer, answered}

module _ (said : List ℕ) (l : Left) where
  pub answer_long : 128 < length said → ◌≡◌ {A = List ℕ × Left} (bad_line, l) (answer said l)
  unfolding answer
  answer_long h = rw (lt-leb (length said) 128 h)

  -- as the code finds the word: it ends at a place
  pub answer_short : {end : ℕ} {x : List ℕ × Left} → length said ≤ 128 → end ≡ until 9 said → x ≡ line_answer (take end said) said (end + 1) l → x ≡ answer said l
  unfolding answer
  answer_short h e q = rw (le-leb (length said) 128 h, ← e) q

-- ---- the answer, written
pub is_answered : (s : Session) (said : List ℕ) {bytes : List ℕ} {left : Left} {r : ℕ} {out : List ℕ}
    → ◌≡◌ {A = List ℕ × Left} (bytes, left) (answer said s.1) → Wrote s.0.1 s.0.0 bytes r out → ◌≡◌ {A = Session} ((r, out), left) (answered s said)
is_answered s said {bytes} {left} {r} {out} e w =
    ap₂ {C = Session} (λ k o. ((k, o), left)) w.0 w.1
    ∙ ap {B = Session} (λ (a : List ℕ × Left). ((s.0.0 + length a.0, sets s.0.1 s.0.0 a.0), a.1)) e
