-- Laws of the lines on the screen: what one is answered and what it leaves. Assumes nothing.
use mathlib.Core.Path.{◌≡◌, refl, sym, ap, ap₂, ◌∙◌}
use mathlib.Core.List.{List, ◌++◌}
use Prim.Native.Nat.{ℕ, ◌≤◌, ◌<◌}
use lib.Dec.{eqb}
use lib.ListN.{length, take, drop}
use lib.Seq.{length-take-le}
use borrow.Author.Tests.{le-leb, lt-leb}
use Rattle.std.specs.Prelude.{Option, Some, None, Result, Ok, Err}
use Rattle.refusals.specs.declared.Refusal.{Refusal}
use Rattle.frames.specs.Answer.{as_read, as_size}
use Rattle.lights.specs.Answer.{as_lights}
use Rattle.protocol.specs.Reply.{count_reply}
use Rattle.text.specs.Fields.{next_u32}
use Rattle.frames.specs.Description.{described}
use Rattle.frames.specs.declared.Frame.{Frame}
use Rattle.frames.specs.declared.Read.{Read}
use Rattle.frames.specs.declared.Size.{Size}
use Rattle.lights.specs.declared.Lights.{Lights}
use Rattle.readers.proofs.Letters.{choices}
use Rattle.readers.proofs.Readings.{none_first, none_behind, both_read}
use Rattle.protocol.specs.declared.reply.Reply.{Reply}
use Rattle.protocol.specs.declared.reply.Reply.TheVariants.{One}
use Rattle.protocol.specs.declared.reply.Value.TheVariants.{Natural}
use Rattle.screens.specs.declared.Screen.{Screen}
use Rattle.screens.specs.declared.Turn.{Turn}
use Rattle.screens.specs.Screen.{turn, screen_of, and_u32, Six, described_by, size_said, read_said, lit_said, buffer_turn, lent_turn}

-- ---- a number more behind what was found: that was nothing, there is none, or both are there
module _ {A : Type 0} (said : List ℕ) {found : Option (A × ℕ)} where
  pub none_before : None ≡ found → None ≡ and_u32 said found
  none_before e = none_first (λ a n. (a, n)) (next_u32 said) refl e

  pub none_more : {a : A} {at : ℕ} → Some (a, at) ≡ found → None ≡ next_u32 said at → None ≡ and_u32 said found
  none_more e n = none_behind (λ a n. (a, n)) (next_u32 said) refl e n

  pub one_more : {a : A} {at n end : ℕ} → Some (a, at) ≡ found → Some (n, end) ≡ next_u32 said at → Some ((a, n), end) ≡ and_u32 said found
  one_more e n = both_read (λ a n. (a, n)) (next_u32 said) e n refl

-- ---- a description by its numbers, of which two are tested
module _ (n : Six) where
  pub other_order : 1 < n.0.0.1 → None ≡ described_by n
  other_order h = rw (lt-leb n.0.0.1 1 h)

  pub other_length : n.0.0.1 ≤ 1 → 65536 < n.0.1 → None ≡ described_by n
  other_length h k = rw (le-leb n.0.0.1 1 h, lt-leb n.0.1 65536 k)

  pub is_described : {f : Frame} → n.0.0.1 ≤ 1 → n.0.1 ≤ 65536 → f ≡ described n.0.0.0.0.0 n.0.0.0.0.1 n.0.0.0.1 (eqb n.0.0.1 1) n.1 → Some (screen_of f n.0.1) ≡ described_by n
  is_described h k e = rw (le-leb n.0.0.1 1 h, le-leb n.0.1 65536 k, e)

-- ---- the library's answers, put into a reply
read_told : (v : Result ℕ Refusal) → count_reply v ≡ read_said (as_read v)
read_told (Ok n) = refl
read_told (Err e) = refl

size_told : (v : Result ℕ Refusal) → count_reply v ≡ size_said (as_size v)
size_told (Ok n) = refl
size_told (Err e) = refl

lit_told : (v : Result ℕ Refusal) → count_reply v ≡ lit_said (as_lights v)
lit_told (Ok n) = refl
lit_told (Err e) = refl

module _ (v : Result ℕ Refusal) {r : Reply} (e : r ≡ count_reply v) where
  pub read_said_lem : {found : Read} → as_read v ≡ found → r ≡ read_said found
  read_said_lem h = e ∙ read_told v ∙ ap read_said h

  pub length_said_lem : {found : Size} → as_size v ≡ found → r ≡ size_said found
  length_said_lem h = e ∙ size_told v ∙ ap size_said h

  pub lit_said_lem : {found : Lights} → as_lights v ≡ found → r ≡ lit_said found
  lit_said_lem h = e ∙ lit_told v ∙ ap lit_said h

  pub size_said_lem : (s : Screen) {found : Size} {m left : List ℕ} → as_size v ≡ found → m ≡ left
      → ◌≡◌ {A = Turn × List ℕ} (turn s (Some r), m) (turn s (Some (size_said found)), left)
  size_said_lem s h k = ap₂ {C = Turn × List ℕ} (λ x l. (turn s (Some x), l)) (length_said_lem h) k

-- ---- what a call on the buffer, on its lent part, and a question leave
pub turn_buffer : (s : Screen) {r : Option Reply} {left : List ℕ} {c : Option Reply × List ℕ} → ◌≡◌ {A = Option Reply × List ℕ} (r, left) c → ◌≡◌ {A = Turn × List ℕ} (turn s r, left) (buffer_turn s c)
turn_buffer s e = ap (buffer_turn s) e

pub turn_lent : (s : Screen) (m : List ℕ) {r : Option Reply} {left : List ℕ} {c : Option Reply × List ℕ} → ◌≡◌ {A = Option Reply × List ℕ} (r, left) c
    → ◌≡◌ {A = Turn × List ℕ} (turn s r, left ++ drop s.lent m) (lent_turn s m c)
turn_lent s m e = ap (lent_turn s m) e

pub turn_said : (s : Screen) (m : List ℕ) {r found : Option Reply} → r ≡ found → ◌≡◌ {A = Turn × List ℕ} (turn s r, m) (turn s found, m)
turn_said s m e = ap {B = Turn × List ℕ} (λ x. (turn s x, m)) e

-- the lent part is as long as what is lent
pub lent_count : (n : ℕ) (l : List ℕ) → n ≤ length l → n ≡ length (take n l)
lent_count n l h = sym (length-take-le n l h)

-- what answers the needs of the choice between them
pub ruleset turn_words = (choices, turn_buffer, turn_lent, turn_said, lent_count)
