-- Laws of writing text into a buffer, part by part. Assumes nothing.
use mathlib.Core.Path.{◌≡◌, refl, sym, ap, ap₂, subst, ◌∙◌}
use mathlib.Core.Bool.{Bool, true, false}
use mathlib.Core.List.{List, [], ◌∷◌, ◌++◌}
use Prim.Native.Nat.{ℕ, zero, suc, ◌+◌, ◌-◌, ◌/◌, ◌≤◌, ◌<◌, min}
use native.Mathlib.Nat.{zero-sub, sub-zero, suc-sub-suc}
use native.Mathlib.Omega.{arith}
use lib.Dec.{leb}
use lib.IntN.{ℤ}
use lib.ListN.{length, take, drop, set, length-append, length-take, length-drop}
use lib.Seq.{sets, paste, set_comm, take-nil, take-take, take_all, length-take-le}
use borrow.Author.Tests.{leb-true, leb-false}
use mir.Syntax.{w32}
use mir.Val.{to_z, of_z}
use borrow.Rule.Slice.PartMut.{put_mid}
use Rattle.std.specs.List.{copy_within}
use Rattle.std.proofs.lemmas.List.Edits.{sets-eq}
use Rattle.std.proofs.lemmas.Slice.{put_mid-paste}
use Rattle.text.specs.Lines.{kept_part}
use Rattle.text.specs.Show.{last_digit, last_digits, number_field, triple}

-- ---- one part behind another
pub sets_append : (l : List ℕ) (i : ℕ) (s t : List ℕ) → sets l i (s ++ t) ≡ sets (sets l i s) (i + length s) t
sets_append l i [] t = ap (λ (k : ℕ). sets l k t) (omega arith)
sets_append l i (b ∷ s) t = sets_append (set l i b) (suc i) s t ∙ ap (λ (k : ℕ). sets (sets (set l i b) (suc i) s) k t) (omega arith)

-- a store behind a part, before or after it
pub sets_set : (l : List ℕ) (i : ℕ) (s : List ℕ) (j b : ℕ) → i + length s ≤ j → sets (set l j b) i s ≡ set (sets l i s) j b
sets_set l i [] j b h = refl
sets_set l i (a ∷ s) j b h =
    ap (λ (m : List ℕ). sets m (suc i) s) (set_comm l j i b a (λ e. omega arith)) ∙ sets_set (set l i a) (suc i) s j b (omega arith)

-- ---- digits from the last on
abbrev pub put_digits : ℕ → ℕ → ℕ → List ℕ → List ℕ
put_digits at zero n buf = buf
put_digits at (suc k) n buf = put_digits at k (n / 10) (set buf (at + k) (last_digit n))

last_count : (k n : ℕ) → length (last_digits k n) ≡ k
last_count zero n = refl
last_count (suc k) n = length-append (last_digits k (n / 10)) (last_digit n ∷ []) ∙ omega (arith, last_count k (n / 10))

pub put_digits_lem : (at k n : ℕ) (buf : List ℕ) → put_digits at k n buf ≡ sets buf at (last_digits k n)
put_digits_lem at zero n buf = refl
put_digits_lem at (suc k) n buf =
    put_digits_lem at k (n / 10) (set buf (at + k) (last_digit n))
    ∙ sets_set buf at (last_digits k (n / 10)) (at + k) (last_digit n) (omega (arith, last_count k (n / 10)))
    ∙ ap (λ (j : ℕ). set (sets buf at (last_digits k (n / 10))) (at + j) (last_digit n)) (sym (last_count k (n / 10)))
    ∙ sym (sets_append buf at (last_digits k (n / 10)) (last_digit n ∷ []))

pub put_turn : (at i n : ℕ) (buf : List ℕ) → 0 < i → put_digits at (i - 1) (n / 10) (set buf (at + (i - 1)) (last_digit n)) ≡ put_digits at i n buf
put_turn at zero n buf h = absurd (omega arith)
put_turn at (suc i) n buf h = rw (one_less i)
  where
    one_less : (i : ℕ) → suc i - 1 ≡ i
    one_less i = omega arith

pub put_end : (at i n : ℕ) (buf : List ℕ) → i ≤ 0 → put_digits at i n buf ≡ buf
put_end at zero n buf h = refl
put_end at (suc i) n buf h = absurd (omega arith)

-- ---- bytes that std copies
paste_sets : (buf : List ℕ) (at : ℕ) (s : List ℕ) (n : ℕ) → n ≤ length s → at + n ≤ length buf → paste buf at s n ≡ sets buf at (take n s)
paste_sets buf at s n h k =
    let e : length (take n s) ≡ n = length-take-le n s h in
    sym (sets-eq (take n s) buf at (omega arith) ∙ ap (λ (m : ℕ). take at buf ++ take n s ++ drop (at + m) buf) e)

pub copied_over : (buf : List ℕ) (at : ℕ) (s t : List ℕ) → t ≡ s → at + length s ≤ length buf → put_mid at (at + length s - at) buf t ≡ sets buf at s
copied_over buf at s t e h =
    put_mid-paste at (at + length s - at) buf t s (length s) e (omega arith) refl
    ∙ paste_sets buf at s (length s) (omega arith) h ∙ ap (sets buf at) (take_all (length s) s (omega arith))

-- ---- what writing s leaves and answers, and the same of two parts
abbrev pub Wrote : List ℕ → ℕ → List ℕ → ℕ → List ℕ → Type 0
Wrote buf at s r out = (r ≡ at + length s) × (out ≡ sets buf at s)

pub wrote_then : (buf : List ℕ) (at : ℕ) (s t : List ℕ) {p r : ℕ} {mid out : List ℕ} → Wrote buf at s p mid → Wrote mid p t r out → Wrote buf at (s ++ t) r out
wrote_then buf at s t {p} {r} {mid} {out} a b = (
  omega (arith, a.0, b.0, length-append s t),
  b.1 ∙ ap₂ (λ (l : List ℕ) (k : ℕ). sets l k t) a.1 a.0 ∙ sym (sets_append buf at s t),
)

-- one text for another that is the same
pub wrote_as : (buf : List ℕ) (at : ℕ) {s t : List ℕ} {r : ℕ} {out : List ℕ} → s ≡ t → Wrote buf at s r out → Wrote buf at t r out
wrote_as buf at {s} {t} {r} {out} e w = subst (λ (x : List ℕ). Wrote buf at x r out) e w

-- the same of a number that the code reads back, at the number itself
pub at_field : (buf : List ℕ) (at : ℕ) (v : ℤ) (stop : ℕ) {r : ℕ} {out : List ℕ} → to_z w32 (of_z w32 v) ≡ v
    → Wrote buf at (number_field (to_z w32 (of_z w32 v)) stop) r out → Wrote buf at (number_field v stop) r out
at_field buf at v stop {r} {out} e w = subst (λ (z : ℤ). Wrote buf at (number_field z stop) r out) e w

pub at_triple : (buf : List ℕ) (at : ℕ) (a b c : ℤ) (stop : ℕ) {r : ℕ} {out : List ℕ} → to_z w32 (of_z w32 a) ≡ a → to_z w32 (of_z w32 b) ≡ b → to_z w32 (of_z w32 c) ≡ c
    → Wrote buf at (triple (to_z w32 (of_z w32 a)) (to_z w32 (of_z w32 b)) (to_z w32 (of_z w32 c)) stop) r out → Wrote buf at (triple a b c stop) r out
at_triple buf at a b c stop {r} {out} p q s w =
    subst (λ (z : ℤ). Wrote buf at (triple a b z stop) r out) s
    (subst (λ (y : ℤ). Wrote buf at (triple a y (to_z w32 (of_z w32 c)) stop) r out) q
    (subst (λ (x : ℤ). Wrote buf at (triple x (to_z w32 (of_z w32 b)) (to_z w32 (of_z w32 c)) stop) r out) p w))

-- how long three numbers are
pub triple_parts : (a b c : ℤ) (stop : ℕ) → length (triple a b c stop) ≡ length (number_field a 9) + (length (number_field b 9) + length (number_field c stop))
triple_parts a b c stop =
    length-append (number_field a 9) (number_field b 9 ++ number_field c stop)
    ∙ ap (λ (n : ℕ). length (number_field a 9) + n) (length-append (number_field b 9) (number_field c stop))

pub wrote_byte : (buf : List ℕ) (at : ℕ) (s : List ℕ) (b : ℕ) {p : ℕ} {mid : List ℕ} → Wrote buf at s p mid → Wrote buf at (s ++ (b ∷ [])) (p + 1) (set mid p b)
wrote_byte buf at s b {p} {mid} a = wrote_then buf at s (b ∷ []) a (refl, refl)

-- ---- what is kept of a buffer's part
pub drop_take : (k n : ℕ) (l : List ℕ) → drop k (take n l) ≡ take (n - k) (drop k l)
drop_take zero n l = ap (λ (m : ℕ). take m l) (sym (sub-zero n))
drop_take (suc k) zero l = ap (λ (m : ℕ). take m (drop (suc k) l)) (sym (zero-sub (suc k)))
drop_take (suc k) (suc n) [] = sym (take-nil (suc n - suc k))
drop_take (suc k) (suc n) (b ∷ l) = drop_take k n l ∙ ap (λ (m : ℕ). take m (drop k l)) (sym (suc-sub-suc n k))

pub kept_is : (buf : List ℕ) (from end most : ℕ) → end ≤ length buf → take (min (end - from) most) (drop from buf) ≡ kept_part buf from end most
kept_is buf from end most h = sym (ap (take most) (drop_take from end buf) ∙ take_min most (end - from) (drop from buf))
  where
    take_min : (m n : ℕ) (l : List ℕ) → take m (take n l) ≡ take (min n m) l
    take_min m n l = by (leb m n) refl
      where
        by : (t : Bool) → leb m n ≡ t → take m (take n l) ≡ take (min n m) l
        by true e =
            let k : m ≡ min n m = omega (arith, leb-true m n e) in
            take-take m n l (leb-true m n e) ∙ ap (λ (k : ℕ). take k l) k
        by false e =
            let k : n ≡ min n m = omega (arith, leb-false m n e) in
            take_all m (take n l) (omega (arith, leb-false m n e, length-take n l)) ∙ ap (λ (k : ℕ). take k l) k

pub kept_count : (buf : List ℕ) (from end most : ℕ) → end ≤ length buf → min (end - from) most ≡ length (kept_part buf from end most)
kept_count buf from end most h = rw (length-take, length-drop, length-take) (omega arith)

pub moved_down : (buf : List ℕ) (from n : ℕ) → from + n ≤ length buf → copy_within buf from (from + n) 0 ≡ sets buf 0 (take n (drop from buf))
moved_down buf from n h =
    ap (paste buf 0 (drop from buf)) count ∙ paste_sets buf 0 (drop from buf) n (omega (arith, length-drop from buf)) (omega arith)
  where
    count : from + n - from ≡ n
    count = omega arith
