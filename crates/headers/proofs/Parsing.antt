-- Laws of reading a header: the place behind spaces or other bytes, and what a field and the whole are by their tests. Assumes nothing.
use mathlib.Core.Path.{◌≡◌, refl, sym, ap, ap₂, ◌∙◌}
use mathlib.Core.Bool.{Bool, true, false, cond, ◌&&◌, beq}
use mathlib.Core.List.{List, [], ◌∷◌}
use Prim.Native.Nat.{ℕ, suc, ◌+◌, ◌-◌, ◌≤◌}
use native.Mathlib.Omega.{arith}
use lib.Dec.{ltb}
use lib.ListN.{length, take, drop}
use Rattle.std.specs.Prelude.{Option, Some, None, option_map}
use Rattle.std.specs.List.{prefix_len}
use Rattle.text.specs.Read.{read_digits}
use Rattle.headers.specs.Header.{is_space, space_is, leading, past, number_from, field_from, header_field, has_magic, maximum_at, headed, header_of}

-- ---- the place behind the bytes that are spaces, or that are none
pub is_wanted : (k : Bool) (b : ℕ) → beq (is_space b) k ≡ space_is k b
is_wanted k b = go k (is_space b) refl
  where
    go : (k t : Bool) → is_space b ≡ t → beq (is_space b) k ≡ space_is k b
    go true true e = rw e
    go true false e = rw e
    go false true e = rw e
    go false false e = rw e

-- what is taken while it passes a test is as long as what passes it in front
pub walked : (t : ℕ → Bool) (s : List ℕ) → length (take (prefix_len t s) s) ≡ leading t s
walked t [] = refl
walked t (b ∷ s) = by (t b) (walked t s)
  where
    by : (g : Bool) → length (take (prefix_len t s) s) ≡ leading t s → length (take (cond g (1 + prefix_len t s) 0) (b ∷ s)) ≡ cond g (suc (leading t s)) 0
    by true e = let one : 1 + prefix_len t s ≡ suc (prefix_len t s) = omega arith in rw (one, e)
    by false e = refl

module _ (k : Bool) (s : List ℕ) (i : ℕ) where
  pub past_from : i ≤ past k s i
  unfolding past
  past_from = omega arith

-- ---- a field, read from its start to its end
module _ (s : List ℕ) (at start end : ℕ) (e : start ≡ past true s at) (e' : end ≡ past false s start) where
  from_parts : field_from s at start end ≡ header_field s at
  unfolding header_field
  from_parts = ap₂ (field_from s at) e (e' ∙ ap (past false s) e)

  pub field_read : (ltb at start && ltb end (length s)) ≡ true → (r : Option ℕ) → r ≡ read_digits 4 9999 (take (end - start) (drop start s))
      → option_map {U = ℕ × ℕ} (λ v. (v, end)) r ≡ header_field s at
  unfolding field_from number_from
  field_read h r d = sym (ap₂ (λ (q : Bool) (u : Option ℕ). cond q (option_map {U = ℕ × ℕ} (λ v. (v, end)) u) None) h (sym d)) ∙ from_parts

-- ---- the whole
pub header_read : (d : ℕ) (s : List ℕ) (w h : ℕ × ℕ) (last : ℕ) → has_magic d s ≡ true → header_field s 2 ≡ Some w → header_field s w.1 ≡ Some h
    → maximum_at d s h.1 ≡ Some last → header_of d s ≡ Some (headed w.0 h.0 (last + 1))
unfolding header_of
header_read d s w h last k ew eh em = rw (k, ew, eh, em)
