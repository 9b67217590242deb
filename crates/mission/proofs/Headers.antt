-- A header is read exactly where 02's words have one, and what is written is the one text that they allow. Assumes nothing.
use mathlib.Core.Path.{◌≡◌, refl, sym, ap, subst, ◌∙◌}
use mathlib.Core.Bool.{true}
use mathlib.Core.List.{List, [], ◌∷◌, ◌++◌, append_assoc}
use mathlib.Core.Logic.{◌⊎◌, inl, inr, ⊎_elim}
use Prim.Native.Nat.{ℕ}
use lib.Dec.{eqb}
use Rattle.std.specs.Prelude.{Some, is_some}
use Rattle.whole.proofs.Decides.{Decides, decides_map, decides_or, decides_eqb, decides_yes}
use Rattle.whole.proofs.Tests.{and_true, true_and}
use Rattle.text.specs.Show.{shown}
use Rattle.headers.specs.Header.{kind, maximum, header_bytes, is_space, headed, header_of, header_said}
use Rattle.headers.specs.Grammar.{every, Entry, Ending, WellFormed}
use Rattle.headers.proofs.Forms.{header_is, header_found}
use Rattle.mission.specs.Files.{Each, none, more, Kind, HeaderText, White, Field, Format, p4, p5, p6, Header}
use Rattle.mission.proofs.Decimals.{each_digit, digit_each, meaning_is, one_decimal, decimal_shown}

white_decides : (b : ℕ) → Decides (is_space b) (White b)
white_decides b =
    decides_map (decides_or _ _ (decides_or _ _ (decides_or _ _ (decides_eqb b 32) (decides_eqb b 9)) (decides_eqb b 13)) (decides_eqb b 10))
    (⊎_elim (⊎_elim (⊎_elim inl (λ q. inr (inl q))) (λ q. inr (inr (inl q)))) (λ q. inr (inr (inr q))))
    (⊎_elim (λ q. inl (inl (inl q))) (⊎_elim (λ q. inl (inl (inr q))) (⊎_elim (λ q. inl (inr q)) inr)))

each_white : (s : List ℕ) → every is_space s ≡ true → Each White s
each_white [] e = none
each_white (b ∷ s) e = let p = and_true (is_space b) (every is_space s) e in more ((white_decides b).yes p.0) (each_white s p.1)

white_each : {s : List ℕ} → Each White s → every is_space s ≡ true
white_each none = refl
white_each (more {b} {s} p q) = true_and (decides_yes (white_decides b) p) (white_each q)

-- ---- a field
entry_field : {v : ℕ} {b : List ℕ} → Entry v b → Field v b
entry_field E =
    record {
      spaces = E.spaces;
      digits = E.digits;
      bytes = E.bytes;
      parted = E.parted;
      white = each_white _ E.blank;
      some = E.some;
      few = E.four;
      decimal = each_digit _ E.decimal;
      value = sym (meaning_is E.digits) ∙ E.value;
    }

field_entry : {v : ℕ} {b : List ℕ} → Field v b → Entry v b
field_entry F =
    record {
      spaces = F.spaces;
      digits = F.digits;
      bytes = F.bytes;
      parted = F.parted;
      blank = white_each F.white;
      some = F.some;
      four = F.few;
      decimal = digit_each F.decimal;
      value = meaning_is F.digits ∙ F.value;
    }

-- ---- the whole header, at the three depths that have a format
abbrev pub HasFormat : ℕ → Type 0
HasFormat d = ((d ≡ 1) ⊎ (d ≡ 8)) ⊎ (d ≡ 24)

format_is : {d : ℕ} (b : List ℕ) → HasFormat d → Ending (eqb d 1) b → Format d (kind d) b
format_is b (inl (inl e)) = subst (λ (d : ℕ). Ending (eqb d 1) b → Format d (kind d) b) (sym e) (λ q. subst (λ (l : List ℕ). Format 1 52 l) (sym q) p4)
format_is b (inl (inr e)) = subst (λ (d : ℕ). Ending (eqb d 1) b → Format d (kind d) b) (sym e) (λ q. p5 (entry_field q))
format_is b (inr e) = subst (λ (d : ℕ). Ending (eqb d 1) b → Format d (kind d) b) (sym e) (λ q. p6 (entry_field q))

is_format : {d letter : ℕ} {b : List ℕ} → Format d letter b → (letter ≡ kind d) × Ending (eqb d 1) b
is_format p4 = (refl, refl)
is_format (p5 q) = (refl, field_entry q)
is_format (p6 q) = (refl, field_entry q)

formed_header : {d : ℕ} {s : List ℕ} {w h n : ℕ} → HasFormat d → WellFormed d s w h n → Header d s w h n
formed_header {d} g W =
    record {
      letter = kind d;
      width = W.width;
      height = W.height;
      maximum = W.ending;
      last = W.last;
      rest = W.rest;
      bytes = W.file;
      wide = entry_field W.wide;
      high = entry_field W.high;
      format = format_is W.ending g W.limited;
      closed = (white_decides W.last).yes W.closed;
      start = W.start;
    }

header_formed : {d : ℕ} {s : List ℕ} {w h n : ℕ} → Header d s w h n → WellFormed d s w h n
header_formed H =
    record {
      width = H.width;
      height = H.height;
      ending = H.maximum;
      last = H.last;
      rest = H.rest;
      file = H.bytes ∙ ap (λ (l : ℕ). 80 ∷ l ∷ (H.width ++ (H.height ++ (H.maximum ++ (H.last ∷ H.rest))))) (is_format H.format).0;
      wide = field_entry H.wide;
      high = field_entry H.high;
      limited = (is_format H.format).1;
      closed = decides_yes (white_decides H.last) H.closed;
      start = H.start;
    }

-- what is read is what the file has
pub header_here : {d : ℕ} {s : List ℕ} {w h n : ℕ} → Header d s w h n → header_of d s ≡ Some (headed w h n)
header_here {d} {s} {w} {h} {n} H = (header_is d s w h n).1 (header_formed H)

pub header_there : {d : ℕ} {s : List ℕ} → HasFormat d → is_some (header_of d s) ≡ true → Header d s (header_said d s).width (header_said d s).height (header_said d s).start
header_there {d} {s} g e =
    let H = header_said d s in
    formed_header g ((header_is d s H.width H.height H.start).0 (header_found d s e))

-- ---- THE HEADER AS IT IS WRITTEN
join : (s t u : List ℕ) (a b : ℕ) → (s ++ (a ∷ [])) ++ ((t ++ (b ∷ [])) ++ u) ≡ s ++ (a ∷ (t ++ (b ∷ u)))
join s t u a b = append_assoc s (a ∷ []) ((t ++ (b ∷ [])) ++ u) ∙ ap (λ (l : List ℕ). s ++ (a ∷ l)) (append_assoc t (b ∷ []) u)

kind_is : {d : ℕ} → HasFormat d → Kind d (kind d) (maximum d)
kind_is (inl (inl e)) = subst (λ (d : ℕ). Kind d (kind d) (maximum d)) (sym e) p4
kind_is (inl (inr e)) = subst (λ (d : ℕ). Kind d (kind d) (maximum d)) (sym e) p5
kind_is (inr e) = subst (λ (d : ℕ). Kind d (kind d) (maximum d)) (sym e) p6

pub header_text : {d w h : ℕ} → HasFormat d → HeaderText d w h (header_bytes d w h)
header_text {d} {w} {h} g =
    record {
      letter = kind d;
      width = shown w;
      height = shown h;
      maximum = maximum d;
      kind = kind_is g;
      wide = decimal_shown w;
      high = decimal_shown h;
      bytes = ap (λ (l : List ℕ). 80 ∷ kind d ∷ 10 ∷ l) (join (shown w) (shown h) (maximum d) 32 10);
    }

-- and there is no other
one_kind : {d l k : ℕ} {a b : List ℕ} → Kind d l a → Kind d k b → (l ≡ k) × (a ≡ b)
one_kind p4 p4 = (refl, refl)
one_kind p5 p5 = (refl, refl)
one_kind p6 p6 = (refl, refl)

pub one_text : {d w h : ℕ} {s t : List ℕ} → HeaderText d w h s → HeaderText d w h t → s ≡ t
one_text S T =
    let k = one_kind S.kind T.kind in
    let w = one_decimal S.wide T.wide in
    let h = one_decimal S.high T.high in
    S.bytes ∙ (λ i. 80 ∷ k.0 i ∷ 10 ∷ (w i ++ (32 ∷ (h i ++ (10 ∷ k.1 i))))) ∙ sym T.bytes
