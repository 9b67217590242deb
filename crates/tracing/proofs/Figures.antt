-- Laws of painting figures by a brush, and counting their pixels: one after the other, and point by point along a walk. Assumes nothing.
use mathlib.Core.Path.{◌≡◌, refl, sym, ap, ap₂, ◌∙◌}
use mathlib.Core.Bool.{Bool, true, false, not, ◌&&◌, ◌||◌}
use mathlib.Core.List.{List}
use mathlib.Core.Logic.{⊎_elim}
use Prim.Native.Nat.{ℕ, zero, suc, ◌+◌, ◌≤◌, ◌<◌}
use native.Mathlib.Numerals.{add-one}
use native.Mathlib.Omega.{arith}
use lib.IntN.{ℤ, pos}
use mir.Val.{bool_byte}
use Rattle.whole.proofs.Decides.{decides_no}
use Rattle.whole.proofs.Tests.{lt_or_ge}
use Rattle.geometry.specs.declared.Point.{Point}
use Rattle.geometry.specs.Place.{same_place}
use Rattle.geometry.proofs.Place.{same_decides}
use Rattle.line.specs.Line.{point_at, points, has_point, some_step}
use Rattle.connected.specs.Connected.{connected_at, connected_points, has_connected}
use Rattle.layout.specs.Count.{one_if, pixels_in}
use Rattle.layout.specs.Figure.{single}
use Rattle.layout.proofs.Counts.{one_small}
use Rattle.layout.proofs.Placing.{Placing}
use Rattle.layout.proofs.Painted.{painted_cong, painted_none, painted_painted}
use Rattle.layout.proofs.Pixels.{pixels_cong, pixels_none, pixels_add}
use Rattle.painting.specs.declared.Brush.{Brush}
use Rattle.windows.specs.declared.Window.{Window}
use Rattle.painting.specs.Brush.{Ready, ground, brushed}
use Rattle.windows.specs.Window.{in_window, held_by}
use Rattle.painting.proofs.Rows.{within_both, brush_sound}
use Rattle.windows.proofs.Windows.{point_count}
use Rattle.tracing.specs.Earlier.{new_in}
use Rattle.tracing.specs.Figure.{line_figure, connected_figure}

within_none : (p : Bool) → (p && false) ≡ false
within_none true = refl
within_none false = refl

within_swap : (p a b : Bool) → (p && a) || (p && b) ≡ p && (b || a)
within_swap true true true = refl
within_swap true true false = refl
within_swap true false true = refl
within_swap true false false = refl
within_swap false a b = refl

and_true : (a : Bool) → (a && true) ≡ a
and_true true = refl
and_true false = refl

or_true : (a : Bool) → a || true ≡ true
or_true true = refl
or_true false = refl

or_false : (a : Bool) → a || false ≡ a
or_false true = refl
or_false false = refl

-- the points of the steps below k of a walk
abbrev pub walked : (ℕ → Point) → ℕ → ℤ → ℤ → Bool
walked path k x y = some_step path (x, y) k

-- after all the steps of a line: the line
pub line_walked : (s e : Point) → walked (point_at s e) (points s e) ≡ line_figure s e
unfolding has_point
line_walked s e = refl

pub connected_walked : (s e : Point) → walked (connected_at s e) (connected_points s e) ≡ connected_figure s e
unfolding has_connected
connected_walked s e = refl

-- a point that is new, as a number
pub new_one : (had : Bool) → bool_byte (not had) ≡ one_if (not had)
new_one true = refl
new_one false = refl

-- a point that is inside, as a number, adds one where there is no earlier figure
pub inside_adds : (inside : Bool) → bool_byte inside ≡ one_if (inside && not false)
inside_adds true = refl
inside_adds false = refl

pub inside_one : (inside : Bool) → bool_byte inside ≤ 1
inside_one inside = one_small (inside && not false) (inside_adds inside)

-- no step below k leads to p
none_leads : (path : ℕ → Point) (p : Point) (k : ℕ) → ((j : ℕ) → j < k → p ≡ path j → ⊥) → some_step path p k ≡ false
none_leads path p zero h = refl
none_leads path p (suc k) h = λ i. decides_no (same_decides p (path k)) (h k (omega arith)) i || none_leads path p k (λ j l. h j (omega arith)) i

-- at one place: the steps from j to n all lead out of the rectangle
module _ (q : Window) (path : ℕ → Point) (x y : ℤ) where
  skip_one : (n : ℕ) (t : Bool) → in_window q (path n).0 (path n).1 ≡ false → (in_window q x y && t) ≡ (in_window q x y && (same_place (x, y) (path n) || t))
  skip_one n t out = by (same_place (x, y) (path n)) (same_decides (x, y) (path n)).yes
    where
      by : (m : Bool) → (m ≡ true → (x, y) ≡ path n) → (in_window q x y && t) ≡ (in_window q x y && (m || t))
      by true h =
          let off : in_window q x y ≡ false = ap (λ (p : Point). in_window q p.0 p.1) (h refl) ∙ out in
          ap (λ (w : Bool). w && t) off ∙ sym (ap (λ (w : Bool). w && true) off)
      by false h = refl

  walked_skip : (n j : ℕ) → j ≤ n → ((i : ℕ) → j ≤ i → i < n → in_window q (path i).0 (path i).1 ≡ false) → held_by q (walked path j) x y ≡ held_by q (walked path n) x y
  walked_skip zero j l out = let z : j ≡ 0 = omega arith in ap (λ (k : ℕ). held_by q (walked path k) x y) z
  walked_skip (suc n) j l out =
      ⊎_elim (λ h. let z : j ≡ suc n = omega arith in ap (λ (k : ℕ). held_by q (walked path k) x y) z)
      (λ h. walked_skip n j h (λ i a b. out i a (omega arith)) ∙ skip_one n (walked path n x y) (out n h (omega arith))) (lt_or_ge n j)

module _ (q : Brush) (P : Placing (ground q)) (b : List ℕ) where
  -- one figure, then another
  pub brushed_then : (s t : ℤ → ℤ → Bool) → (brushed q t (brushed q s b).1).1 ≡ (brushed q (λ x y. s x y || t x y) b).1
  brushed_then s t =
      painted_painted (ground q) P q.colour b (held_by q.window t) (held_by q.window s)
      ∙ painted_cong (ground q) P q.colour b _ _ (λ x y w h. within_both (in_window q.window (pos x) (pos y)) (s (pos x) (pos y)) (t (pos x) (pos y)))

  -- ---- a walk, point by point
  walked_start : (path : ℕ → Point) → (brushed q (walked path 0) b).1 ≡ b
  walked_start path = painted_none (ground q) P q.colour b _ (λ x y w h. within_none (in_window q.window (pos x) (pos y)))

  walked_more : (path : ℕ → Point) (k : ℕ) → (brushed q (single (path k).0 (path k).1) (brushed q (walked path k) b).1).1 ≡ (brushed q (walked path (k + 1)) b).1
  walked_more path k =
      painted_painted (ground q) P q.colour b (held_by q.window (single (path k).0 (path k).1)) (held_by q.window (walked path k))
      ∙ painted_cong (ground q) P q.colour b _ _
      (λ x y w h. within_swap (in_window q.window (pos x) (pos y)) (walked path k (pos x) (pos y)) (same_place (pos x, pos y) (path k)))
      ∙ ap (λ (n : ℕ). (brushed q (walked path n) b).1) (sym (add-one k))

-- ---- what a figure has that an earlier one has not
-- all of it, if there is none
none_earlier : (q : Brush) (figure : ℤ → ℤ → Bool) (b : List ℕ) {n : ℕ} {next : List ℕ}
    → n ≡ (brushed q (new_in (λ x y. false) figure) b).0 → next ≡ (brushed q figure b).1 → (n, next) ≡ brushed q figure b
none_earlier q figure b e f = λ i. ((e ∙ all) i, f i)
  where
    all : (brushed q (new_in (λ x y. false) figure) b).0 ≡ (brushed q figure b).0
    all = pixels_cong (ground q) _ _ (λ x y hx hy. ap (λ (t : Bool). in_window q.window (pos x) (pos y) && t) (and_true (figure (pos x) (pos y))))

-- a figure drawn after an earlier one, of which only what is new was counted: both together
pub after_earlier : (q : Brush) → Placing (ground q) → (s t before : ℤ → ℤ → Bool) (b : List ℕ) {m n : ℕ} {now next : List ℕ} → ((x y : ℤ) → before x y ≡ s x y)
    → (m, now) ≡ brushed q s b → n ≡ (brushed q (new_in before t) now).0 → next ≡ (brushed q t now).1 → (m + n, next) ≡ brushed q (λ x y. s x y || t x y) b
after_earlier q P s t before b {m} same e f g =
    (λ i. (m + f i, g i))
    ∙ ap (λ (r : ℕ × List ℕ). (r.0 + (brushed q (new_in before t) b).0, (brushed q t r.1).1)) e
    ∙ (λ i. (together i, brushed_then q P b s t i))
  where
    none : (w a c e : Bool) → e ≡ a → (w && a) && (w && (c && not e)) ≡ false
    none false a c e h = refl
    none true false c e h = refl
    none true true c e h = (λ i. c && not (h i)) ∙ within_none c

    all : (w a c e : Bool) → e ≡ a → (w && a) || (w && (c && not e)) ≡ w && (a || c)
    all false a c e h = refl
    all true true c e h = refl
    all true false c e h = (λ i. c && not (h i)) ∙ and_true c

    together : (brushed q s b).0 + (brushed q (new_in before t) b).0 ≡ (brushed q (λ x y. s x y || t x y) b).0
    together =
        sym (pixels_add (ground q) _ _ (λ x y hx hy.
        none (in_window q.window (pos x) (pos y)) (s (pos x) (pos y)) (t (pos x) (pos y)) (before (pos x) (pos y)) (same (pos x) (pos y))))
        ∙ pixels_cong (ground q) _ _ (λ x y hx hy.
        all (in_window q.window (pos x) (pos y)) (s (pos x) (pos y)) (t (pos x) (pos y)) (before (pos x) (pos y)) (same (pos x) (pos y)))

-- a figure drawn after that part of it which an earlier one has: what is new is the rest
pub after_part : (q : Brush) → Placing (ground q) → (before t : ℤ → ℤ → Bool) (b : List ℕ) {old all : ℕ} {now next : List ℕ}
    → (old, now) ≡ brushed q (λ x y. t x y && before x y) b → (all, next) ≡ brushed q t now
    → (old + (brushed q (new_in before t) b).0 ≡ all) × (next ≡ (brushed q t b).1)
after_part q P before t b {old} {all} e f = (
  (λ i. (e i).0 + (brushed q (new_in before t) b).0) ∙ together ∙ sym (λ i. (f i).0),
  (λ i. (f i).1) ∙ (λ i. (brushed q t (e i).1).1) ∙ brushed_then q P b (λ x y. t x y && before x y) t
      ∙ painted_cong (ground q) P q.colour b _ _
      (λ x y hx hy. ap (λ (u : Bool). in_window q.window (pos x) (pos y) && u) (whole (t (pos x) (pos y)) (before (pos x) (pos y)))),
)
  where
    none : (w a e : Bool) → (w && (a && e)) && (w && (a && not e)) ≡ false
    none false a e = refl
    none true false e = refl
    none true true true = refl
    none true true false = refl

    all_of : (w a e : Bool) → (w && (a && e)) || (w && (a && not e)) ≡ (w && a)
    all_of false a e = refl
    all_of true false e = refl
    all_of true true true = refl
    all_of true true false = refl

    whole : (a e : Bool) → (a && e) || a ≡ a
    whole true e = or_true e
    whole false e = refl

    together : (brushed q (λ x y. t x y && before x y) b).0 + (brushed q (new_in before t) b).0 ≡ (brushed q t b).0
    together =
        sym (pixels_add (ground q) _ _ (λ x y hx hy. none (in_window q.window (pos x) (pos y)) (t (pos x) (pos y)) (before (pos x) (pos y))))
        ∙ pixels_cong (ground q) _ _ (λ x y hx hy. all_of (in_window q.window (pos x) (pos y)) (t (pos x) (pos y)) (before (pos x) (pos y)))

-- along a walk
module _ {q : Brush} {len : ℕ} (R : Ready q len) (before : ℤ → ℤ → Bool) (path : ℕ → Point) (b : List ℕ) where
  abbrev new : ℕ → ℤ → ℤ → Bool
  new k = held_by q.window (new_in before (walked path k))

  new_start : 0 ≡ (brushed q (new_in before (walked path 0)) b).0
  new_start = sym (pixels_none (ground q) _ (λ x y hx hy. within_none (in_window q.window (pos x) (pos y))))

  -- a step more, to a place where none before it led: its point is one more pixel where the rectangle holds it and the earlier figure has it not
  new_more : (k : ℕ) → ((j : ℕ) → j < k → path k ≡ path j → ⊥)
      → (brushed q (new_in before (walked path k)) b).0 + one_if (in_window q.window (path k).0 (path k).1 && not (before (path k).0 (path k).1))
      ≡ (brushed q (new_in before (walked path (k + 1))) b).0
  new_more k apart = by (before (path k).0 (path k).1) refl ∙ ap (λ (n : ℕ). (brushed q (new_in before (walked path n)) b).0) (sym (add-one k))
    where
      -- at the place of the point, the figures say what they say of the point
      there : (x y : ℤ) (s : ℤ → ℤ → Bool) → same_place (x, y) (path k) ≡ true → s x y ≡ s (path k).0 (path k).1
      there x y s h = let e = (same_decides (x, y) (path k)).yes h in ap (λ (p : Point). s p.0 p.1) e

      -- the earlier figure has the point: nothing is new
      gone : (w h a e : Bool) → (h ≡ true → e ≡ true) → (w && (a && not e)) ≡ (w && ((h || a) && not e))
      gone false h a e g = refl
      gone true true a e g = (λ i. a && not (g refl i)) ∙ within_none a ∙ sym (ap not (g refl))
      gone true false a e g = refl

      -- it has it not: the point is one more
      came : (w h a e : Bool) → (h ≡ true → e ≡ false) → (w && (a && not e)) || (w && h) ≡ (w && ((h || a) && not e))
      came false h a e g = refl
      came true true a e g = or_true (a && not e) ∙ sym (ap not (g refl))
      came true false a e g = or_false (a && not e)

      alone : (w h a e : Bool) → (h ≡ true → a ≡ false) → (w && (a && not e)) && (w && h) ≡ false
      alone false h a e g = refl
      alone true true a e g = λ i. (g refl i && not e) && true
      alone true false a e g = within_none (a && not e)

      inside : Bool
      inside = in_window q.window (path k).0 (path k).1

      by : (t : Bool) → before (path k).0 (path k).1 ≡ t
          → (brushed q (new_in before (walked path k)) b).0 + one_if (inside && not (before (path k).0 (path k).1)) ≡ pixels_in (ground q) (new (suc k))
      by true e =
          (λ i. pixels_in (ground q) (new k) + one_if ((ap (λ (t : Bool). inside && not t) e ∙ within_none inside) i))
          ∙ omega arith
          ∙ pixels_cong (ground q) (new k) (new (suc k)) (λ x y hx hy.
          gone (in_window q.window (pos x) (pos y)) (same_place (pos x, pos y) (path k)) (walked path k (pos x) (pos y)) (before (pos x) (pos y))
          (λ h. there (pos x) (pos y) before h ∙ e))
      by false e =
          ap (λ (n : ℕ). pixels_in (ground q) (new k) + n)
          (ap (λ (t : Bool). one_if (inside && not t)) e ∙ ap one_if (and_true inside)
          ∙ sym (point_count q.window (path k).0 (path k).1 (ground q) R.within))
          ∙ sym (pixels_add (ground q) (new k) (held_by q.window (single (path k).0 (path k).1)) (λ x y hx hy.
          alone (in_window q.window (pos x) (pos y)) (same_place (pos x, pos y) (path k)) (walked path k (pos x) (pos y)) (before (pos x) (pos y))
          (λ h. there (pos x) (pos y) (walked path k) h ∙ none_leads path (path k) k apart)))
          ∙ pixels_cong (ground q) _ (new (suc k)) (λ x y hx hy.
          came (in_window q.window (pos x) (pos y)) (same_place (pos x, pos y) (path k)) (walked path k (pos x) (pos y)) (before (pos x) (pos y))
          (λ h. there (pos x) (pos y) before h ∙ e))

-- ---- a loop that sets the points of a walk, one a turn
-- after k turns: those of the steps below k are set, and counted where the rectangle holds them and the earlier figure has them not
pub record Along (q : Brush) (before : ℤ → ℤ → Bool) (path : ℕ → Point) (b : List ℕ) (k seen : ℕ) (now : List ℕ) : Type 0 where
  pub count : seen ≡ (brushed q (new_in before (walked path k)) b).0
  pub bytes : now ≡ (brushed q (walked path k) b).1

module _ {q : Brush} {len : ℕ} (R : Ready q len) (before : ℤ → ℤ → Bool) (path : ℕ → Point) (b : List ℕ) where
  pub along_start : Along q before path b 0 0 b
  along_start = record { count = new_start R before path b; bytes = sym (walked_start q (brush_sound R) b path) }

  -- a turn, whose point no turn before it had
  pub along_turn : {k seen more : ℕ} {now next : List ℕ} {p : Point} {inside : Bool} → Along q before path b k seen now
      → p ≡ path k → ((j : ℕ) → j < k → path k ≡ path j → ⊥)
      → inside ≡ in_window q.window p.0 p.1 → more ≡ one_if (inside && not (before p.0 p.1)) → next ≡ (brushed q (single p.0 p.1) now).1
      → Along q before path b (k + 1) (seen + more) next
  along_turn {k} {p = p} a here apart held adds put =
      record {
        count =
            ap₂ ◌+◌ a.count
            (adds ∙ (λ i. one_if (held i && not (before p.0 p.1))) ∙ ap (λ (p : Point). one_if (in_window q.window p.0 p.1 && not (before p.0 p.1))) here)
            ∙ new_more R before path b k apart;
        bytes = put ∙ ap₂ (λ (p : Point) (b : List ℕ). (brushed q (single p.0 p.1) b).1) here a.bytes ∙ walked_more q (brush_sound R) b path k;
      }

  -- the same of a point that the rectangle is known to hold
  pub along_inside : {k seen more : ℕ} {now next : List ℕ} {p : Point} → Along q before path b k seen now
      → p ≡ path k → ((j : ℕ) → j < k → path k ≡ path j → ⊥)
      → in_window q.window (path k).0 (path k).1 ≡ true → more ≡ one_if (not (before p.0 p.1)) → next ≡ (brushed q (single p.0 p.1) now).1
      → Along q before path b (k + 1) (seen + more) next
  along_inside a here apart held adds put = along_turn {inside = true} a here apart (sym (ap (λ (p : Point). in_window q.window p.0 p.1) here ∙ held)) adds put

  -- steps that lead out of the rectangle add nothing, and need not be walked
  pub along_skip : {j seen : ℕ} {now : List ℕ} → Along q before path b j seen now → (n : ℕ) → j ≤ n → ((i : ℕ) → j ≤ i → i < n → in_window q.window (path i).0 (path i).1 ≡ false)
      → Along q before path b n seen now
  along_skip {j} a n l out =
      record {
        count =
            a.count
            ∙ pixels_cong (ground q) _ _ (λ x y hx hy.
            within_new (in_window q.window (pos x) (pos y)) (walked path j (pos x) (pos y)) (walked path n (pos x) (pos y)) (not (before (pos x) (pos y))) (same x y));
        bytes = a.bytes ∙ painted_cong (ground q) (brush_sound R) q.colour b _ _ (λ x y hx hy. same x y);
      }
    where
      within_new : (w s t u : Bool) → (w && s) ≡ (w && t) → (w && (s && u)) ≡ (w && (t && u))
      within_new true s t u e = ap (λ (v : Bool). v && u) e
      within_new false s t u e = refl

      same : (x y : ℕ) → held_by q.window (walked path j) (pos x) (pos y) ≡ held_by q.window (walked path n) (pos x) (pos y)
      same x y = walked_skip q.window path (pos x) (pos y) n j l out

  -- after all its turns: the figure that the walk is
  pub along_end : {k n seen : ℕ} {now : List ℕ} {figure : ℤ → ℤ → Bool} → Along q before path b k seen now → k ≡ n → walked path n ≡ figure
      → (seen ≡ (brushed q (new_in before figure) b).0) × (now ≡ (brushed q figure b).1)
  along_end a all e =
      let f = ap (walked path) all ∙ e in
      (a.count ∙ ap (λ (s : ℤ → ℤ → Bool). (brushed q (new_in before s) b).0) f, a.bytes ∙ ap (λ (s : ℤ → ℤ → Bool). (brushed q s b).1) f)

-- the same count by another name
pub along_count : {q : Brush} {before : ℤ → ℤ → Bool} {path : ℕ → Point} {b : List ℕ} {k m n : ℕ} {now : List ℕ} → m ≡ n → Along q before path b k m now
    → Along q before path b k n now
along_count e a = record { count = sym e ∙ a.count; bytes = a.bytes }

-- the same where no figure comes before it
abbrev pub none : ℤ → ℤ → Bool
none x y = false

pub along_all : {q : Brush} {len : ℕ} → Ready q len → (path : ℕ → Point) (b : List ℕ) {n seen : ℕ} {now : List ℕ} {figure : ℤ → ℤ → Bool}
    → Along q none path b n seen now → walked path n ≡ figure → (seen, now) ≡ brushed q figure b
along_all {q} R path b {figure = figure} a e = let r = along_end R none path b a refl e in none_earlier q figure b r.0 r.1
