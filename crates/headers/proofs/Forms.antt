-- A header is read exactly if the file is well formed; what is written is; bytes behind it change nothing. Assumes nothing.
use mathlib.Core.Path.{◌≡◌, refl, sym, ap, ap₂, subst, ◌∙◌}
use mathlib.Core.Bool.{Bool, true, false, cond, false≢true}
use mathlib.Core.List.{List, [], ◌∷◌, ◌++◌, append_assoc}
use mathlib.Core.Logic.{◌↔◌}
use Prim.Native.Nat.{ℕ, suc, ◌+◌, ◌≤◌}
use native.Mathlib.Omega.{arith}
use lib.Dec.{eqb, ltb}
use lib.ListN.{length, drop, get_or, length-append}
use borrow.Author.Tests.{lt-ltb, eq-eqb, eqb-true}
use Rattle.whole.proofs.Tests.{and_true, true_and}
use Rattle.std.specs.Prelude.{Option, Some, None, unwrap_or, option_map, option_and_then}
use Rattle.std.specs.Option.{is_some}
use Rattle.text.specs.Show.{shown}
use Rattle.text.proofs.Showing.{shown_digits, shown_value, shown_some, shown_most}
use Rattle.headers.specs.declared.Header.{Header}
use Rattle.headers.specs.Header.{kind, largest, header_bytes, is_space, header_field, has_magic, maximum_at, headed, header_of, header_said}
use Rattle.headers.specs.Grammar.{every, Entry, Ending, WellFormed}
use Rattle.headers.proofs.Parsing.{header_read}
use Rattle.headers.proofs.Entries.{opens, Stands, stands_then, stands_found, found_stands, ending_found, found_ending}

-- ---- what is well formed is read
entry_opens : {v : ℕ} {b : List ℕ} (u : List ℕ) → Entry v b → opens (b ++ u) ≡ true
entry_opens u E = ap (λ (l : List ℕ). opens (l ++ u)) E.bytes ∙ go E.spaces E.parted E.blank
  where
    go : (x : List ℕ) → 1 ≤ length x → every is_space x ≡ true → opens ((x ++ E.digits) ++ u) ≡ true
    go [] h e = absurd (omega arith)
    go (b ∷ x) h e = (and_true (is_space b) (every is_space x) e).0

ending_opens : (t : Bool) (b : List ℕ) (u : List ℕ) → Ending t b → opens u ≡ true → opens (b ++ u) ≡ true
ending_opens true b u E o = ap (λ (l : List ℕ). opens (l ++ u)) E ∙ o
ending_opens false b u E o = entry_opens u E

has_magic_lem : (d : ℕ) (s u : List ℕ) → s ≡ 80 ∷ kind d ∷ u → has_magic d s ≡ true
has_magic_lem d s u e = ap (has_magic d) e ∙ true_and (lt-ltb 1 (suc (suc (length u))) (omega arith)) (eq-eqb (kind d) (kind d) refl)

formed_read : {d : ℕ} {s : List ℕ} {w h n : ℕ} → WellFormed d s w h n → header_of d s ≡ Some (headed w h n)
formed_read {d} {s} {w} {h} {n} W =
    header_read d s (w, one) (h, two) three (has_magic_lem d s _ W.file) (stands_found width) (stands_found height) (ending_found d s two ending)
    ∙ ap (λ (n : ℕ). Some (headed w h n)) (sym W.start)
  where
    one : ℕ
    one = 2 + length W.width

    two : ℕ
    two = one + length W.height

    three : ℕ
    three = two + length W.ending

    closing : List ℕ
    closing = W.last ∷ W.rest

    width : Stands (Entry w) s 2 one
    width =
        record {
          part = W.width;
          rest = W.height ++ (W.ending ++ closing);
          text = ap (drop 2) W.file;
          is = W.wide;
          ended = entry_opens (W.ending ++ closing) W.high;
          place = refl;
        }

    height : Stands (Entry h) s one two
    height =
        record {
          part = W.height;
          rest = W.ending ++ closing;
          text = stands_then width;
          is = W.high;
          ended = ending_opens (eqb d 1) W.ending closing W.limited W.closed;
          place = refl;
        }

    ending : Stands (Ending (eqb d 1)) s two three
    ending = record { part = W.ending; rest = closing; text = stands_then height; is = W.limited; ended = W.closed; place = refl }

-- ---- what is read is well formed
magic_first : (d : ℕ) (s : List ℕ) → has_magic d s ≡ true → s ≡ 80 ∷ kind d ∷ drop 2 s
magic_first d [] e = absurd (false≢true e)
magic_first d (a ∷ []) e = absurd (false≢true e)
magic_first d (a ∷ b ∷ s) e =
    let p = and_true (eqb a 80) (eqb b (kind d)) (and_true (ltb 1 (length (a ∷ b ∷ s))) _ e).1 in
    ap₂ (λ (x y : ℕ). x ∷ y ∷ s) (eqb-true a 80 p.0) (eqb-true b (kind d) p.1)

first_space : (u : List ℕ) → opens u ≡ true → (u ≡ get_or u 0 0 ∷ drop 1 u) × (is_space (get_or u 0 0) ≡ true)
first_space [] o = absurd (false≢true o)
first_space (b ∷ u) o = (refl, o)

-- what is made of a value was made of one
chained : {T U : Type 0} (f : T → Option U) (o : Option T) {y : U} → option_and_then f o ≡ Some y → (x : T) × ((o ≡ Some x) × (f x ≡ Some y))
chained f None h = absurd (false≢true (ap is_some h))
chained f (Some x) h = (x, (refl, h))

mapped : {T U : Type 0} (f : T → U) (o : Option T) {y : U} → option_map f o ≡ Some y → (x : T) × ((o ≡ Some x) × (f x ≡ y))
mapped f None h = absurd (false≢true (ap is_some h))
mapped {T} {U} f (Some x) {y} h = (x, (refl, ap (λ (o : Option U). unwrap_or o y) h))

read_formed : (d : ℕ) (s : List ℕ) {H : Header} → header_of d s ≡ Some H → WellFormed d s H.width H.height H.start
unfolding header_of
read_formed d s {H} h = go (has_magic d s) refl h
  where
    parts : (w h : ℕ × ℕ) (last : ℕ) → has_magic d s ≡ true → Stands (Entry w.0) s 2 w.1 → Stands (Entry h.0) s w.1 h.1
        → Stands (Ending (eqb d 1)) s h.1 last → WellFormed d s w.0 h.0 (last + 1)
    parts w h last k W H E =
        let f = first_space E.rest E.ended in
        let e : H.rest ≡ E.part ++ (get_or E.rest 0 0 ∷ drop 1 E.rest) = sym (stands_then H) ∙ E.text ∙ ap (λ (l : List ℕ). E.part ++ l) f.0 in
        let r : W.rest ≡ H.part ++ (E.part ++ (get_or E.rest 0 0 ∷ drop 1 E.rest)) = sym (stands_then W) ∙ H.text ∙ ap (λ (l : List ℕ). H.part ++ l) e in
        record {
          width = W.part;
          height = H.part;
          ending = E.part;
          last = get_or E.rest 0 0;
          rest = drop 1 E.rest;
          file = magic_first d s k ∙ ap (λ (l : List ℕ). 80 ∷ kind d ∷ l) (W.text ∙ ap (λ (l : List ℕ). W.part ++ l) r);
          wide = W.is;
          high = H.is;
          limited = E.is;
          closed = f.1;
          start = omega (arith, W.place, H.place, E.place);
        }

    fields : Option Header
    fields =
        option_and_then (λ w. option_and_then (λ h. option_map (λ last. headed w.0 h.0 (last + 1)) (maximum_at d s h.1)) (header_field s w.1)) (header_field s 2)

    go : (t : Bool) → has_magic d s ≡ t → cond t fields None ≡ Some H → WellFormed d s H.width H.height H.start
    go true k r =
        let w = chained _ (header_field s 2) r in
        let h = chained _ (header_field s w.0.1) w.1.1 in
        let m = mapped (λ (last : ℕ). headed w.0.0 h.0.0 (last + 1)) (maximum_at d s h.0.1) h.1.1 in
        let S = found_stands s w.0.1 h.1.0 in
        subst (λ (H : Header). WellFormed d s H.width H.height H.start) m.1.1
        (parts w.0 h.0 m.0 k (found_stands s 2 w.1.0) S (found_ending d s h.0.1 (ap opens (stands_then S) ∙ S.ended) m.1.0))
    go false k r = absurd (false≢true (ap is_some r))

-- 02's grammar and the places that are read say the same
pub header_is : (d : ℕ) (s : List ℕ) (w h n : ℕ) → (header_of d s ≡ Some (headed w h n)) ↔ WellFormed d s w h n
header_is d s w h n = (read_formed d s, formed_read)

-- a file with a header says something
pub header_found : (d : ℕ) (s : List ℕ) → is_some (header_of d s) ≡ true → header_of d s ≡ Some (header_said d s)
header_found d s = by (header_of d s)
  where
    by : (o : Option Header) → is_some o ≡ true → o ≡ Some (unwrap_or o (headed 0 0 0))
    by None h = absurd (false≢true h)
    by (Some H) h = refl

pub said_header : (d : ℕ) (s : List ℕ) {H : Header} → header_of d s ≡ Some H → header_said d s ≡ H
said_header d s e = ap (λ (o : Option Header). unwrap_or o (headed 0 0 0)) e

-- and one thing only
pub one_header : {d : ℕ} {s : List ℕ} {w h n w' h' n' : ℕ} → WellFormed d s w h n → WellFormed d s w' h' n' → (w ≡ w') × (h ≡ h') × (n ≡ n')
one_header {d} {s} W X =
    let e = sym (said_header d s (formed_read W)) ∙ said_header d s (formed_read X) in
    (ap (λ (H : Header). H.width) e, ap (λ (H : Header). H.height) e, ap (λ (H : Header). H.start) e)

-- ---- the pixels start within the file, or with its end
pub header_ends : (d : ℕ) (s : List ℕ) {H : Header} → header_of d s ≡ Some H → H.start ≤ length s
header_ends d s h =
    let W = read_formed d s h in
    omega (arith, W.start, simp length-append at (ap length W.file))

-- ---- bytes behind a file that has a header change nothing
pub header_grows : (d : ℕ) (s : List ℕ) {H : Header} → header_of d s ≡ Some H → (rest : List ℕ) → header_of d (s ++ rest) ≡ Some H
header_grows d s {H} h rest = formed_read longer
  where
    W : WellFormed d s H.width H.height H.start
    W = read_formed d s h

    longer : WellFormed d (s ++ rest) H.width H.height H.start
    longer =
        record {
          width = W.width;
          height = W.height;
          ending = W.ending;
          last = W.last;
          rest = W.rest ++ rest;
          file = ap (λ (l : List ℕ). l ++ rest) W.file ∙ simp append_assoc;
          wide = W.wide;
          high = W.high;
          limited = W.limited;
          closed = W.closed;
          start = W.start;
        }

-- ---- what is written is well formed
shown_entry : (b v : ℕ) → is_space b ≡ true → v ≤ 9999 → Entry v (b ∷ shown v)
shown_entry b v e h =
    record {
      spaces = b ∷ [];
      digits = shown v;
      bytes = refl;
      parted = omega arith;
      blank = true_and e refl;
      some = shown_some v;
      four = shown_most 3 v (omega arith);
      decimal = shown_digits v;
      value = shown_value v;
    }

-- what stands between the height and the byte that closes the header
abbrev between : Bool → List ℕ
between true = []
between false = 10 ∷ 50 ∷ 53 ∷ 53 ∷ []

between_ending : (t : Bool) → Ending t (between t)
between_ending true = refl
between_ending false =
    record {
      spaces = 10 ∷ [];
      digits = 50 ∷ 53 ∷ 53 ∷ [];
      bytes = refl;
      parted = omega arith;
      blank = refl;
      some = omega arith;
      four = omega arith;
      decimal = refl;
      value = refl;
    }

between_closes : (t : Bool) (rest : List ℕ) → 10 ∷ (cond t [] largest ++ rest) ≡ between t ++ (10 ∷ rest)
between_closes true rest = refl
between_closes false rest = refl

between_length : (t : Bool) → length (cond t [] largest) ≡ length (between t)
between_length true = refl
between_length false = refl

written_formed : (d w h : ℕ) → w ≤ 9999 → h ≤ 9999 → (rest : List ℕ) → WellFormed d (header_bytes d w h ++ rest) w h (length (header_bytes d w h))
written_formed d w h a b rest =
    record {
      width = 10 ∷ shown w;
      height = 32 ∷ shown h;
      ending = between (eqb d 1);
      last = 10;
      rest = rest;
      file = simp append_assoc (ap (λ (l : List ℕ). 80 ∷ kind d ∷ 10 ∷ (shown w ++ (32 ∷ (shown h ++ l)))) (between_closes (eqb d 1) rest));
      wide = shown_entry 10 w refl a;
      high = shown_entry 32 h refl b;
      limited = between_ending (eqb d 1);
      closed = refl;
      start = simp length-append (omega (arith, between_length (eqb d 1)));
    }

pub written_header : (d w h : ℕ) → w ≤ 9999 → h ≤ 9999 → (rest : List ℕ) → header_of d (header_bytes d w h ++ rest) ≡ Some (headed w h (length (header_bytes d w h)))
written_header d w h a b rest = formed_read (written_formed d w h a b rest)
