-- Runs of bytes: what stands where after one, two of them in a row, and a run through a part of the buffer. Assumes nothing.
use mathlib.Core.Path.{◌≡◌, refl, sym, ap, ap₂, ◌∙◌, subst}
use mathlib.Core.Logic.{◌⊎◌, inl, inr}
use mathlib.Core.List.{List, [], ◌∷◌, ◌++◌}
use Prim.Native.Nat.{ℕ, zero, suc, ◌+◌, ◌≤◌, ◌<◌}
use native.Mathlib.Nat.{add-zero, le_refl}
use native.Mathlib.Omega.{arith}
use lib.ListN.{length, get_or, set, take, drop, length-set, take-append-drop}
use lib.Seq.{get_or-set_same, get_or-set_other, ext_get_or, set-get_or, set_out, set-append_left, length-take-le}
use Rattle.layout.specs.Digits.{set_run}
use Rattle.whole.proofs.Tests.{eq_or_not, lt_or_ge}

pub run_length : (start n : ℕ) (g : ℕ → ℕ) (b : List ℕ) → length (set_run start n g b) ≡ length b
run_length start zero g b = refl
run_length start (suc n) g b = length-set (set_run start n g b) (start + n) (g n) ∙ run_length start n g b

-- outside the run nothing changes
pub run_out : (start n : ℕ) (g : ℕ → ℕ) (b : List ℕ) (i : ℕ) → (i < start) ⊎ (start + n ≤ i) → get_or (set_run start n g b) i 0 ≡ get_or b i 0
run_out start zero g b i h = refl
run_out start (suc n) g b i h = get_or-set_other (set_run start n g b) (start + n) i (g n) 0 (apart h) ∙ run_out start n g b i (less h)
  where
    apart : (i < start) ⊎ (start + suc n ≤ i) → i ≡ start + n → ⊥
    apart (inl l) e = omega arith
    apart (inr l) e = omega arith

    less : (i < start) ⊎ (start + suc n ≤ i) → (i < start) ⊎ (start + n ≤ i)
    less (inl l) = inl l
    less (inr l) = inr (omega arith)

pub run_in : (start n : ℕ) (g : ℕ → ℕ) (b : List ℕ) (j : ℕ) → j < n → start + n ≤ length b → get_or (set_run start n g b) (start + j) 0 ≡ g j
run_in start zero g b j h l = absurd (omega arith)
run_in start (suc n) g b j h l = go (λ k. run_in start n g b j k (omega arith)) (eq_or_not j n)
  where
    go : (j < n → get_or (set_run start n g b) (start + j) 0 ≡ g j) → (j ≡ n) ⊎ (j ≡ n → ⊥) → get_or (set (set_run start n g b) (start + n) (g n)) (start + j) 0 ≡ g j
    go ih (inl e) =
        ap (λ (k : ℕ). get_or (set (set_run start n g b) (start + n) (g n)) (start + k) 0) e
        ∙ get_or-set_same (set_run start n g b) (start + n) (g n) 0 (subst (λ (m : ℕ). start + n < m) (sym (run_length start n g b)) (omega arith))
        ∙ ap g (sym e)
    go ih (inr f) = get_or-set_other (set_run start n g b) (start + n) (start + j) (g n) 0 (λ e. f (omega arith)) ∙ ih (omega arith)

pub run_cong : (start n : ℕ) (g h : ℕ → ℕ) (b : List ℕ) → ((j : ℕ) → j < n → g j ≡ h j) → set_run start n g b ≡ set_run start n h b
run_cong start zero g h b e = refl
run_cong start (suc n) g h b e =
    ap₂ (λ (l : List ℕ) (v : ℕ). set l (start + n) v) (run_cong start n g h b (λ j k. e j (omega arith))) (e n (le_refl (suc n)))

-- bytes stay bytes
pub set_bytes : (b : List ℕ) (i v : ℕ) → ((k : ℕ) → get_or b k 0 < 256) → v < 256 → (k : ℕ) → get_or (set b i v) k 0 < 256
set_bytes b i v h l k = go (eq_or_not k i) (lt_or_ge i (length b))
  where
    go : (k ≡ i) ⊎ (k ≡ i → ⊥) → (i < length b) ⊎ (length b ≤ i) → get_or (set b i v) k 0 < 256
    go (inr f) q = subst (λ (x : ℕ). x < 256) (sym (get_or-set_other b i k v 0 f)) (h k)
    go (inl e) (inl q) = subst (λ (x : ℕ). x < 256) (sym (ap (λ (j : ℕ). get_or (set b i v) j 0) e ∙ get_or-set_same b i v 0 q)) l
    go (inl e) (inr q) = subst (λ (x : List ℕ). get_or x k 0 < 256) (sym (set_out b i v q)) (h k)

pub run_bytes : (start n : ℕ) (g : ℕ → ℕ) (b : List ℕ) → ((k : ℕ) → get_or b k 0 < 256) → ((j : ℕ) → g j < 256) → (k : ℕ) → get_or (set_run start n g b) k 0 < 256
run_bytes start zero g b h l = h
run_bytes start (suc n) g b h l = set_bytes (set_run start n g b) (start + n) (g n) (run_bytes start n g b h l) (l n)

-- a run, and then what joins it
pub run_then : (start n m : ℕ) (g : ℕ → ℕ) (b : List ℕ) → set_run (start + n) m (λ j. g (n + j)) (set_run start n g b) ≡ set_run start (n + m) g b
run_then start n zero g b = ap (λ (k : ℕ). set_run start k g b) (sym (add-zero n))
run_then start n (suc m) g b =
    let i : start + n + m ≡ start + (n + m) = omega arith in
    let e : suc (n + m) ≡ n + suc m = omega arith in
    ap₂ (λ (l : List ℕ) (k : ℕ). set l k (g (n + m))) (run_then start n m g b) i ∙ ap (λ (k : ℕ). set_run start k g b) e

-- a list is a run, by its elements
pub run_is : (n : ℕ) (g : ℕ → ℕ) (b b' : List ℕ) → length b ≡ n → length b' ≡ n → ((j : ℕ) → j < n → get_or b' j 0 ≡ g j) → b' ≡ set_run 0 n g b
run_is n g b b' e e' h =
    ext_get_or 0 b' (set_run 0 n g b) (e' ∙ sym (run_length 0 n g b ∙ e))
    (λ j k. let l : j < n = subst (λ (m : ℕ). j < m) e' k in
    h j l ∙ sym (ap (λ (m : ℕ). get_or (set_run 0 n g b) m 0) (zero_left j) ∙ run_in 0 n g b j l (omega arith)))
  where
    zero_left : (j : ℕ) → j ≡ 0 + j
    zero_left j = omega arith

-- ---- runs from the first byte on
pub run_front : (n : ℕ) (h : ℕ → ℕ) (b : List ℕ) (j : ℕ) → j < n → n ≤ length b → get_or (set_run 0 n h b) j 0 ≡ h j
run_front n h b j l o = let z : j ≡ 0 + j = omega arith in ap (λ (k : ℕ). get_or (set_run 0 n h b) k 0) z ∙ run_in 0 n h b j l (omega arith)

-- a list that differs from another in its first n elements alone
pub run_over : (n : ℕ) (b b' : List ℕ) → n ≤ length b → length b' ≡ length b → ((j : ℕ) → n ≤ j → get_or b' j 0 ≡ get_or b j 0) → set_run 0 n (λ i. get_or b' i 0) b ≡ b'
run_over n b b' o e h = ext_get_or 0 _ b' (run_length 0 n _ b ∙ sym e) (λ j k. at j (lt_or_ge j n))
  where
    at : (j : ℕ) → (j < n) ⊎ (n ≤ j) → get_or (set_run 0 n (λ i. get_or b' i 0) b) j 0 ≡ get_or b' j 0
    at j (inl l) = run_front n _ b j l o
    at j (inr l) = run_out 0 n _ b j (inr (omega arith)) ∙ sym (h j l)

-- a run that goes on with what stands there
pub run_goes_on : (start n m : ℕ) (h : ℕ → ℕ) (b : List ℕ) → ((j : ℕ) → n ≤ j → j < n + m → h j ≡ get_or b (start + j) 0) → set_run start (n + m) h b ≡ set_run start n h b
run_goes_on start n zero h b e = ap (λ (k : ℕ). set_run start k h b) (add-zero n)
run_goes_on start n (suc m) h b e =
    let c = set_run start (n + m) h b in
    let at = start + (n + m) in
    let s : n + suc m ≡ suc (n + m) = omega arith in
    ap (λ (k : ℕ). set_run start k h b) s
    ∙ ap (set c at) (e (n + m) (omega arith) (omega arith) ∙ sym (run_out start (n + m) h b at (inr (le_refl at))))
    ∙ set-get_or c at 0 ∙ run_goes_on start n m h b (λ j l k. e j l (omega arith))

-- ---- through a part of the buffer
set_append_right : (p q : List ℕ) (j v : ℕ) → set (p ++ q) (length p + j) v ≡ p ++ set q j v
set_append_right [] q j v = ap (λ (k : ℕ). set q k v) zero_left
  where
    zero_left : 0 + j ≡ j
    zero_left = omega arith
set_append_right (x ∷ p) q j v = ap (λ (k : ℕ). set (x ∷ (p ++ q)) k v) more ∙ ap (λ (l : List ℕ). x ∷ l) (set_append_right p q j v)
  where
    more : suc (length p) + j ≡ suc (length p + j)
    more = omega arith

run_middle : (p s q : List ℕ) (n : ℕ) (g : ℕ → ℕ) → n ≤ length s → p ++ (set_run 0 n g s ++ q) ≡ set_run (length p) n g (p ++ (s ++ q))
run_middle p s q zero g h = refl
run_middle p s q (suc n) g h =
    sym (ap (λ (l : List ℕ). set l (length p + n) (g n)) (sym (run_middle p s q n g (omega arith)))
    ∙ set_append_right p (set_run 0 n g s ++ q) n (g n)
    ∙ ap (λ (l : List ℕ). p ++ l) (set-append_left (set_run 0 n g s) q n (g n) (subst (λ (m : ℕ). n < m) (sym (run_length 0 n g s)) h)
    ∙ ap (λ (k : ℕ). set (set_run 0 n g s) k (g n) ++ q) zero_left))
  where
    zero_left : n ≡ 0 + n
    zero_left = omega arith

-- the bytes a to a + k - 1 are lent as s, come back as a run, and the buffer is a run from a on
pub run_part : (a k n : ℕ) (b s s' : List ℕ) (g : ℕ → ℕ) → a + k ≤ length b → s ≡ take k (drop a b) → n ≤ length s → s' ≡ set_run 0 n g s
    → take a b ++ (s' ++ drop k (drop a b)) ≡ set_run a n g b
run_part a k n b s s' g h e l e' =
    ap (λ (t : List ℕ). take a b ++ (t ++ drop k (drop a b))) e'
    ∙ run_middle (take a b) s (drop k (drop a b)) n g l
    ∙ ap₂ (λ (i : ℕ) (t : List ℕ). set_run i n g (take a b ++ (t ++ drop k (drop a b)))) (length-take-le a b (omega arith)) e
    ∙ ap (λ (t : List ℕ). set_run a n g (take a b ++ t)) (take-append-drop k (drop a b))
    ∙ ap (set_run a n g) (take-append-drop a b)
