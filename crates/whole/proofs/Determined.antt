-- What it is that a contract determines its result: any two results that it allows of the same arguments are equal. `Post` is a contract as its source
-- states it. Assumes nothing.
use mathlib.Core.Path.{◌≡◌, sym, ◌∙◌}
use mathlib.Core.List.{List}
use Prim.Native.Nat.{ℕ}
use denote.MutBor.{MutBor}

-- the answer
abbrev pub One : {K A R S : Type 0} → (K → A → R → S → Type 0) → Type 0
One {K} {A} {R} {S} Post = (κs : K) (args : A) (r q : R) (s t : S) → Post κs args r s → Post κs args q t → r ≡ q

-- the answer, and the bytes of the buffer that is lent first
abbrev pub OneBuffer : {K A R S : Type 0} → (K → A → R → MutBor (List ℕ) × S → Type 0) → Type 0
OneBuffer {K} {A} {R} {S} Post =
    (κs : K) (args : A) (r q : R) (s t : MutBor (List ℕ) × S) → Post κs args r s → Post κs args q t → ◌≡◌ {A = R × List ℕ} (r, s.0.now) (q, t.0.now)

-- the next place, and the bytes
abbrev pub OneText : {K A S : Type 0} → (K → A → ℕ → MutBor (List ℕ) × S → Type 0) → Type 0
OneText {K} {A} {S} Post =
    (κs : K) (args : A) (r q : ℕ) (s t : MutBor (List ℕ) × S) → Post κs args r s → Post κs args q t → (r ≡ q) × (s.0.now ≡ t.0.now)

-- two that are equal to a third
pub same : {R : Type 0} {r q z : R} → r ≡ z → q ≡ z → r ≡ q
same h k = h ∙ sym k

pub both : {r q n : ℕ} {l m z : List ℕ} → (r ≡ n) × (l ≡ z) → (q ≡ n) × (m ≡ z) → (r ≡ q) × (l ≡ m)
both h k = (same h.0 k.0, same h.1 k.1)
