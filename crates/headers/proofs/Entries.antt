-- Laws of fields: what is read at a place is spaces, one to four digits and a space behind them, and each such part of a file is read. Assumes nothing.
use mathlib.Core.Path.{◌≡◌, refl, sym, ap, ap₂, subst, ◌∙◌}
use mathlib.Core.Bool.{Bool, true, false, cond, ◌&&◌, false≢true}
use mathlib.Core.List.{List, [], ◌∷◌, ◌++◌, append_assoc}
use Prim.Native.Nat.{ℕ, zero, suc, ◌+◌, ◌*◌, ◌-◌, ◌≤◌, ◌<◌}
use native.Mathlib.Omega.{arith}
use lib.Dec.{eqb, leb, ltb}
use lib.ListN.{length, take, drop, length-append, length-drop, length-take, take-append-drop}
use lib.Seq.{drop-drop, drop-append_seam, take-append_seam}
use borrow.Author.Tests.{lt-ltb, ltb-true, le-leb, leb-true, ne_eqb, eqb-true}
use Rattle.whole.proofs.Tests.{and_true, true_and}
use Rattle.text.specs.Digits.{is_digit, all_digits, with_digit, value_from, digits_value}
use Rattle.std.specs.Bool.{then_some}
use Rattle.std.specs.Prelude.{Option, Some, None, unwrap_or, option_map, option_and_then}
use Rattle.std.specs.Option.{is_some}
use Rattle.text.specs.Read.{is_number, read_digits}
use Rattle.headers.specs.Header.{is_space, space_is, leading, past, number_from, field_from, header_field, behind255, maximum_at}
use Rattle.headers.specs.Grammar.{every, Entry, Ending}
use Rattle.headers.proofs.Parsing.{past_from, field_read}

-- ---- the bytes in front that pass a test
module _ (t : ℕ → Bool) where
  leading_over : (x u : List ℕ) → every t x ≡ true → leading t u ≡ 0 → leading t (x ++ u) ≡ length x
  leading_over [] u e n = n
  leading_over (b ∷ x) u e n = let p = and_true (t b) (every t x) e in rw p.0 (ap suc (leading_over x u p.1 n))

  leading_pass : (s : List ℕ) → every t (take (leading t s) s) ≡ true
  leading_pass [] = refl
  leading_pass (b ∷ s) = go (t b) refl (leading_pass s)
    where
      go : (q : Bool) → t b ≡ q → every t (take (leading t s) s) ≡ true → every t (take (cond q (suc (leading t s)) 0) (b ∷ s)) ≡ true
      go true e h = true_and e h
      go false e h = refl

  leading_all : (s : List ℕ) → leading t (drop (leading t s) s) ≡ 0
  leading_all [] = refl
  leading_all (b ∷ s) = go (t b) refl (leading_all s)
    where
      go : (q : Bool) → t b ≡ q → leading t (drop (leading t s) s) ≡ 0 → leading t (drop (cond q (suc (leading t s)) 0) (b ∷ s)) ≡ 0
      go true e h = h
      go false e h = rw e

-- ---- a text that begins with a space
abbrev pub opens : List ℕ → Bool
opens [] = false
opens (b ∷ s) = is_space b

opens_some : (u : List ℕ) → opens u ≡ true → 1 ≤ length u
opens_some [] e = absurd (false≢true e)
opens_some (b ∷ u) e = omega arith

opens_stops : (u : List ℕ) → opens u ≡ true → leading (space_is false) u ≡ 0
opens_stops [] e = refl
opens_stops (b ∷ u) e = rw e

stops_opens : (u : List ℕ) → 1 ≤ length u → leading (space_is false) u ≡ 0 → opens u ≡ true
stops_opens [] h e = absurd (omega arith)
stops_opens (b ∷ u) h e = go (is_space b) refl e
  where
    go : (q : Bool) → is_space b ≡ q → leading (space_is false) (b ∷ u) ≡ 0 → is_space b ≡ true
    go true q e = q
    go false q e = absurd (omega (arith, rw q at e))

-- ---- digits are no spaces, and four of them mean at most 9999
no_space : (b : ℕ) → is_digit b ≡ true → is_space b ≡ false
no_space b e =
    let l : 48 ≤ b = leb-true 48 b (and_true (leb 48 b) (leb b 57) e).0 in
    rw (ne_eqb b 32 (λ z. omega arith), ne_eqb b 9 (λ z. omega arith), ne_eqb b 13 (λ z. omega arith), ne_eqb b 10 (λ z. omega arith))

no_spaces : (x : List ℕ) → all_digits x ≡ true → every (space_is false) x ≡ true
no_spaces [] d = refl
no_spaces (b ∷ x) d = let p = and_true (is_digit b) (all_digits x) d in rw (no_space b p.0) (no_spaces x p.1)

first_digit : (x u : List ℕ) → 1 ≤ length x → all_digits x ≡ true → leading (space_is true) (x ++ u) ≡ 0
first_digit [] u h d = absurd (omega arith)
first_digit (b ∷ x) u h d = rw (no_space b (and_true (is_digit b) (all_digits x) d).0)

abbrev nines : ℕ → ℕ → ℕ
nines zero m = m
nines (suc n) m = nines n (m * 10 + 9)

value_most : (n m v : ℕ) (x : List ℕ) → length x ≤ n → all_digits x ≡ true → v ≤ m → value_from v x ≤ nines n m
value_most zero m v [] l d h = h
value_most zero m v (b ∷ x) l d h = absurd (omega arith)
value_most (suc n) m v [] l d h = value_most n (m * 10 + 9) v [] (omega arith) refl (omega arith)
value_most (suc n) m v (b ∷ x) l d h =
    let p = and_true (is_digit b) (all_digits x) d in
    let k : b ≤ 57 = leb-true b 57 (and_true (leb 48 b) (leb b 57) p.0).1 in
    value_most n (m * 10 + 9) (with_digit v b) x (omega arith) p.1 (omega arith)

digits_read : (x : List ℕ) → 1 ≤ length x → length x ≤ 4 → all_digits x ≡ true → read_digits 4 9999 x ≡ Some (digits_value x)
unfolding read_digits
digits_read x h l d = rw (le-leb 1 (length x) h, le-leb (length x) 4 l, d, le-leb (digits_value x) 9999 (value_most 4 0 0 x l d (omega arith)))

number_is : (t : Bool) (v : ℕ) → is_some (then_some t v) ≡ true → (t ≡ true) × (unwrap_or (then_some t v) 0 ≡ v)
number_is true v e = (refl, refl)
number_is false v e = absurd (false≢true e)

-- ---- a part of a file, from one place to another, with a space behind it
pub record Stands (P : List ℕ → Type 0) (s : List ℕ) (at n : ℕ) : Type 0 where
  pub part : List ℕ
  pub rest : List ℕ
  pub text : drop at s ≡ part ++ rest
  pub is : P part
  pub ended : opens rest ≡ true
  pub place : n ≡ at + length part

pub stands_then : {P : List ℕ → Type 0} {s : List ℕ} {at n : ℕ} (S : Stands P s at n) → drop n s ≡ S.rest
stands_then {P} {s} {at} {n} S =
    ap (λ (k : ℕ). drop k s) S.place ∙ sym (drop-drop (length S.part) at s) ∙ ap (drop (length S.part)) S.text ∙ drop-append_seam S.part S.rest

-- ---- a field that stands at a place is found
module _ {v : ℕ} {s : List ℕ} {at n : ℕ} (S : Stands (Entry v) s at n) where
  abbrev gap : List ℕ
  gap = S.is.spaces

  abbrev word : List ℕ
  word = S.is.digits

  abbrev start : ℕ
  start = at + length gap

  abbrev end : ℕ
  end = start + length word

  whole : drop at s ≡ gap ++ (word ++ S.rest)
  whole = S.text ∙ ap (λ (l : List ℕ). l ++ S.rest) S.is.bytes ∙ append_assoc gap word S.rest

  behind : drop start s ≡ word ++ S.rest
  behind = sym (drop-drop (length gap) at s) ∙ ap (drop (length gap)) whole ∙ drop-append_seam gap (word ++ S.rest)

  starts : start ≡ past true s at
  unfolding past
  starts =
      ap (λ (k : ℕ). at + k)
      (sym (ap (leading is_space) whole ∙ leading_over is_space gap (word ++ S.rest) S.is.blank (first_digit word S.rest S.is.some S.is.decimal)))

  ends : end ≡ past false s start
  unfolding past
  ends =
      ap (λ (k : ℕ). start + k)
      (sym (ap (leading (space_is false)) behind
      ∙ leading_over (space_is false) word S.rest (no_spaces word S.is.decimal) (opens_stops S.rest S.ended)))

  parted : at < start
  parted = omega (arith, S.is.parted)

  room : end < length s
  room = omega (arith, length-drop at s, simp length-append at (ap length whole), opens_some S.rest S.ended, parted)

  number : Some v ≡ read_digits 4 9999 (take (end - start) (drop start s))
  number =
      let k : end - start ≡ length word = omega arith in
      sym (ap₂ (λ (k : ℕ) (l : List ℕ). read_digits 4 9999 (take k l)) k behind ∙ ap (read_digits 4 9999) (take-append_seam word S.rest)
      ∙ digits_read word S.is.some S.is.four S.is.decimal ∙ ap Some S.is.value)

  place : end ≡ n
  place = omega (arith, S.place, simp length-append at (ap length S.is.bytes))

  pub stands_found : header_field s at ≡ Some (v, n)
  stands_found =
      sym (field_read s at start end starts ends (true_and (lt-ltb at start parted) (lt-ltb end (length s) room)) (Some v) number)
      ∙ ap (λ (n : ℕ). Some (v, n)) place

-- ---- and what is found stands there
module _ (s : List ℕ) (at : ℕ) where
  abbrev from : ℕ
  from = past true s at

  abbrev to : ℕ
  to = past false s from

  -- the spaces and the digits
  abbrev blanks : List ℕ
  blanks = take (from - at) (drop at s)

  abbrev figures : List ℕ
  figures = take (to - from) (drop from s)

  module _ (h : at < from) (l : to < length s) (y : is_some (read_digits 4 9999 figures) ≡ true) where
    below : from ≤ to
    below = past_from false s from

    gap_length : length blanks ≡ from - at
    gap_length = omega (arith, length-take (from - at) (drop at s), length-drop at s, below)

    word_length : length figures ≡ to - from
    word_length = omega (arith, length-take (to - from) (drop from s), length-drop from s)

    spaced : every is_space blanks ≡ true
    unfolding past
    spaced =
        let k : from - at ≡ leading is_space (drop at s) = omega arith in
        ap (λ (n : ℕ). every is_space (take n (drop at s))) k ∙ leading_pass is_space (drop at s)

    stopped : opens (drop to s) ≡ true
    unfolding past
    stopped =
        stops_opens (drop to s) (omega (arith, length-drop to s))
        (ap (leading (space_is false)) (sym (drop-drop (leading (space_is false) (drop from s)) from s)) ∙ leading_all (space_is false) (drop from s))

    onward : (i j : ℕ) → i ≤ j → take (j - i) (drop i s) ++ drop j s ≡ drop i s
    onward i j k =
        let n : i + (j - i) ≡ j = omega arith in
        ap (λ (m : ℕ). take (j - i) (drop i s) ++ drop m s) (sym n) ∙ ap (λ (r : List ℕ). take (j - i) (drop i s) ++ r) (sym (drop-drop (j - i) i s))
        ∙ take-append-drop (j - i) (drop i s)

    together : drop at s ≡ (blanks ++ figures) ++ drop to s
    together =
        sym (append_assoc blanks figures (drop to s) ∙ ap (λ (r : List ℕ). blanks ++ r) (onward from to below) ∙ onward at from (omega arith))

    stands : Stands (Entry (unwrap_or (read_digits 4 9999 figures) 0)) s at to
    unfolding read_digits
    stands =
        let i = number_is (is_number 4 9999 figures) (digits_value figures) y in
        let p = and_true (leb 1 (length figures)) _ i.0 in
        let q = and_true (leb (length figures) 4) _ p.1 in
        let r = and_true (all_digits figures) _ q.1 in
        record {
          part = blanks ++ figures;
          rest = drop to s;
          text = together;
          is =
              record {
                spaces = blanks;
                digits = figures;
                bytes = refl;
                parted = omega (arith, gap_length);
                blank = spaced;
                some = leb-true 1 (length figures) p.0;
                four = leb-true (length figures) 4 q.0;
                decimal = r.0;
                value = sym i.1;
              };
          ended = stopped;
          place = omega (arith, length-append blanks figures, gap_length, word_length, below);
        }

  pub found_stands : {v n : ℕ} → header_field s at ≡ Some (v, n) → Stands (Entry v) s at n
  unfolding header_field field_from number_from
  found_stands {v} {n} h = go (ltb at from && ltb to (length s)) refl h
    where
      number : at < from → to < length s → (r : Option ℕ) → read_digits 4 9999 figures ≡ r → option_map {U = ℕ × ℕ} (λ v. (v, to)) r ≡ Some (v, n) → Stands (Entry v) s at n
      number a b None e h = absurd (false≢true (ap is_some h))
      number a b (Some u) e h =
          let p : (u, to) ≡ (v, n) = ap (λ (o : Option (ℕ × ℕ)). unwrap_or o (0, 0)) h in
          subst (λ (p : ℕ × ℕ). Stands (Entry p.0) s at p.1) p
          (subst (λ (r : Option ℕ). Stands (Entry (unwrap_or r 0)) s at to) e (stands a b (ap is_some e)))

      go : (t : Bool) → (ltb at from && ltb to (length s)) ≡ t → cond t (option_map {U = ℕ × ℕ} (λ v. (v, to)) (read_digits 4 9999 figures)) None ≡ Some (v, n)
          → Stands (Entry v) s at n
      go true e h =
          let q = and_true (ltb at from) (ltb to (length s)) e in
          number (ltb-true at from q.0) (ltb-true to (length s) q.1) (read_digits 4 9999 figures) refl h
      go false e h = absurd (false≢true (ap is_some h))

-- ---- the maximum
module _ (d : ℕ) (s : List ℕ) (at : ℕ) where
  pub ending_found : {n : ℕ} → Stands (Ending (eqb d 1)) s at n → maximum_at d s at ≡ Some n
  unfolding maximum_at
  ending_found {n} S = go (eqb d 1) S
    where
      go : (t : Bool) → Stands (Ending t) s at n → cond t (Some at) (option_and_then behind255 (header_field s at)) ≡ Some n
      go true S = ap Some (sym (S.place ∙ omega (arith, ap length S.is)))
      go false S = ap (option_and_then behind255) (stands_found S)

  pub found_ending : opens (drop at s) ≡ true → {n : ℕ} → maximum_at d s at ≡ Some n → Stands (Ending (eqb d 1)) s at n
  unfolding maximum_at
  found_ending o {n} h = go (eqb d 1) h
    where
      by : (m : ℕ × ℕ) → header_field s at ≡ Some m → (t : Bool) → eqb m.0 255 ≡ t → then_some t m.1 ≡ Some n → Stands (Entry 255) s at n
      by m e true t h =
          subst (λ (n : ℕ). Stands (Entry 255) s at n) (ap (λ (o : Option ℕ). unwrap_or o 0) h)
          (subst (λ (v : ℕ). Stands (Entry v) s at m.1) (eqb-true m.0 255 t) (found_stands s at e))
      by m e false t h = absurd (false≢true (ap is_some h))

      field : (r : Option (ℕ × ℕ)) → header_field s at ≡ r → option_and_then behind255 r ≡ Some n → Stands (Entry 255) s at n
      field None e h = absurd (false≢true (ap is_some h))
      field (Some m) e h = by m e (eqb m.0 255) refl h

      go : (t : Bool) → cond t (Some at) (option_and_then behind255 (header_field s at)) ≡ Some n → Stands (Ending t) s at n
      go true h =
          record { part = []; rest = drop at s; text = refl; is = refl; ended = o; place = omega (arith, ap (λ (o : Option ℕ). unwrap_or o 0) h) }
      go false h = field (header_field s at) refl h
