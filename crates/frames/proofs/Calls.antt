-- Laws of a call that draws: its number, test by test, what is known where that is 0, and what it answers and leaves, accepted and refused. Assumes nothing.
use mathlib.Core.Path.{◌≡◌, refl, sym, ap, subst, ◌∙◌}
use mathlib.Core.Bool.{Bool, true, false, cond, not, ◌&&◌}
use mathlib.Core.List.{List, [], ◌∷◌}
use Rattle.std.specs.Prelude.{Result, Err, IsErr, IsErrAnd, ⊤}
use Prim.Native.Nat.{ℕ, zero, suc, ◌*◌, ◌^◌, ◌≤◌, ◌<◌}
use native.Mathlib.Nat.{mul-le-mul}
use native.Mathlib.Omega.{arith}
use lib.Dec.{eqb}
use lib.IntN.{ℤ, pos, nat_abs}
use lib.ListN.{length}
use lib.Signed.{mag}
use mir.Syntax.{w32}
use mir.Val.{to_z, of_z, hbits}
use borrow.Author.Tests.{eqb-true, leb-false}
use Rattle.whole.proofs.Tests.{and_true}
use Rattle.whole.proofs.Machine.{field_back}
use Rattle.refusals.specs.First.{Tests, first, numbered}
use Rattle.refusals.specs.Answer.{if_done}
use Rattle.refusals.specs.Refusal.{number, as_number}
use Rattle.refusals.specs.declared.Refusal.{Refusal}
use Rattle.refusals.proofs.Numbers.{some_number, handed_back, told, each_number}
use Rattle.refusals.proofs.Answer.{not_done, is_done}
use Rattle.refusals.proofs.First.{first_append, passed, both_pass, goes_on, fails_alone}
use Rattle.geometry.specs.declared.Point.{Point}
use Rattle.layout.specs.Figure.{everywhere}
use Rattle.layout.specs.Layout.{Layout, painted, shown}
use Rattle.layout.specs.Count.{marked}
use Rattle.layout.proofs.Pixels.{pixels_everywhere, marked_cong}
use Rattle.frames.specs.declared.Canvas.{Canvas}
use Rattle.frames.specs.declared.Frame.{Frame}
use Rattle.windows.specs.declared.Window.{Window}
use Rattle.frames.specs.declared.Drawn.{Drawn}
use Rattle.frames.specs.declared.Placed.{Placed}
use Rattle.frames.specs.declared.Read.{Read}
use Rattle.frames.specs.Answer.{was_inside, read, as_drawn, as_placed, as_read}
use Rattle.frames.specs.Description.{at_depth, raster, no_colour, is_outside, frame_tests, read_tests, colour_at, whole_window}
use Rattle.frames.specs.Drawing.{Drawing, pixel_drawing, fill_drawing, behind_those, call_tests, made_of, outcome, pixel_outcome}
use Rattle.frames.specs.Judged.{Described, Drawable, OverBytes, Judged}
use Rattle.frames.specs.Canvas.{keeps, behind, number_on, on_canvas, pixel_on, read_on, has_all}
use Rattle.windows.specs.Window.{in_window, held_by}
use Rattle.frames.proofs.Refusals.{sound, same_depth, frame_numbered, is_accepted}
use Rattle.windows.proofs.Windows.{all_within, marked_all}

-- ---- what a number makes of a figure
module _ (l : Layout) (colour : ℕ) (b : List ℕ) (s : ℤ → ℤ → Bool) where
  refused_made : {r : ℕ} → (r ≡ 0 → ⊥) → ◌≡◌ {A = Drawn × List ℕ} (record { number = r; count = 0 }, b) (made_of r l s colour b)
  refused_made {r} n = let m = marked l s colour b in λ i. (record { number = r; count = sym (not_done n m.0 0) i }, sym (not_done n m.1 b) i)

  accepted_made : {r m : ℕ} {after : List ℕ} → r ≡ 0 → (m, after) ≡ marked l s colour b → ◌≡◌ {A = Drawn × List ℕ} (record { number = 0; count = m }, after) (made_of r l s colour b)
  accepted_made z h = ap (λ (p : ℕ × List ℕ). (record { number = 0; count = p.0 }, p.1)) h ∙ ap (λ (n : ℕ). made_of n l s colour b) (sym z)

  -- a figure that paints the same in its place
  same_made : (t : ℤ → ℤ → Bool) (r : ℕ) → (r ≡ 0 → marked l s colour b ≡ marked l t colour b) → made_of r l s colour b ≡ made_of r l t colour b
  same_made t zero h = ap (λ (p : ℕ × List ℕ). (record { number = 0; count = p.0 }, p.1)) (h refl)
  same_made t (suc r) h = refl

-- ---- on a frame
module _ (f : Frame) (len : ℕ) (d : Drawing) where
  abbrev t4 : Tests
  t4 = (4, no_colour f d.colour) ∷ []

  -- its number is 0 where no test holds
  pub none_holds : first (frame_tests f len) ≡ 0 → no_colour f d.colour ≡ false → first d.own ≡ 0 → first (call_tests f len d) ≡ 0
  none_holds z c own =
      sym (passed (frame_tests f len) ((4, no_colour f d.colour) ∷ d.own) (frame_numbered f len) (sym z) refl (goes_on 4 (no_colour f d.colour) d.own c (sym own)))

  -- and then the frame may be drawn on
  pub drawable : {r : ℕ} → r ≡ first (call_tests f len d) → r ≡ 0 → Drawable f len d.colour
  drawable e z =
      let p = both_pass (frame_tests f len) ((4, no_colour f d.colour) ∷ d.own) (frame_numbered f len) (sym e ∙ z) in
      record { accepted = is_accepted f len p.0; below = leb-false _ _ (fails_alone 3 _ (both_pass t4 d.own refl p.1).0) }

module _ (f : Frame) (d : Drawing) (b : List ℕ) {r : ℕ} (e : r ≡ first (call_tests f (length b) d)) where
  pub refused_outcome : (r ≡ 0 → ⊥) → ◌≡◌ {A = Drawn × List ℕ} (record { number = r; count = 0 }, b) (outcome f d b)
  unfolding outcome
  refused_outcome n = refused_made (raster f) d.colour b d.figure n ∙ ap (λ (k : ℕ). made_of k (raster f) d.figure d.colour b) e

  pub accepted_outcome : {m : ℕ} {after : List ℕ} → r ≡ 0 → (m, after) ≡ marked (raster f) d.figure d.colour b
      → ◌≡◌ {A = Drawn × List ℕ} (record { number = 0; count = m }, after) (outcome f d b)
  unfolding outcome
  accepted_outcome z h = accepted_made (raster f) d.colour b d.figure z h ∙ ap (λ (k : ℕ). made_of k (raster f) d.figure d.colour b) e

-- a pixel set, with the frame's depth and the place's coordinates handed on by themselves
pub pixel_apart : (f : Frame) (p : Point) (colour : ℕ) (b : List ℕ) {d : ℕ} {r : Placed} {after : List ℕ} → f.depth ≡ d → mag p.0 < 2 ^ hbits w32 → mag p.1 < 2 ^ hbits w32
    → ◌≡◌ {A = Placed × List ℕ} (r, after)
    (pixel_outcome (at_depth d f) (to_z w32 (of_z w32 p.0), to_z w32 (of_z w32 p.1)) colour b)
    → ◌≡◌ {A = Placed × List ℕ} (r, after) (pixel_outcome f p colour b)
pixel_apart f p colour b e h k said =
    said ∙ (λ i. pixel_outcome (same_depth f (sym e) i) (field_back w32 p.0 h i, field_back w32 p.1 k i) colour b)

-- ---- on a canvas
-- of a canvas that was judged the frame is described where its number is 0
pub described_on : {c : Canvas} {len : ℕ} → Judged c len → (as_number c.judged) ≡ 0 → Described c.frame
described_on J z = (J.accepted z).described

-- its number, or further tests
pub behind_0 : (n : ℕ) (ts : Tests) {r : ℕ} → n ≡ 0 → r ≡ first ts → r ≡ behind n ts
behind_0 n ts z e = e ∙ sym (is_done z (first ts) n)

pub behind_n : (n : ℕ) (ts : Tests) → (n ≡ 0 → ⊥) → n ≡ behind n ts
behind_n n ts h = sym (not_done h (first ts) n)

pub behind_passed : (n : ℕ) (ts : Tests) {r : ℕ} → r ≡ behind n ts → r ≡ 0 → (n ≡ 0) × (first ts ≡ 0)
behind_passed zero ts e z = (refl, sym e ∙ z)
behind_passed (suc n) ts e z = absurd (omega (arith, e, z))

module _ (c : Canvas) (colour : ℕ) where
  abbrev c4 : Tests
  c4 = (4, no_colour c.frame colour) ∷ []

  -- the number of a call, test by test
  pub first_on : (own : Tests) {r : ℕ} → r ≡ number_on c colour [] → (r ≡ 0 → ⊥) → r ≡ number_on c colour own
  first_on own e h = go (as_number c.judged) (no_colour c.frame colour) e h
    where
      go : (n : ℕ) (t : Bool) {r : ℕ} → r ≡ if_done n (cond t 4 0) n → (r ≡ 0 → ⊥) → r ≡ if_done n (cond t 4 (first own)) n
      go zero true e h = e
      go zero false e h = absurd (h e)
      go (suc n) t e h = e

  pub own_on : (own : Tests) {r : ℕ} → 0 ≡ number_on c colour [] → r ≡ first own → r ≡ number_on c colour own
  own_on own e h =
      let p = behind_passed (as_number c.judged) c4 e refl in
      behind_0 (as_number c.judged) ((4, no_colour c.frame colour) ∷ own) p.0 (goes_on 4 (no_colour c.frame colour) own (fails_alone 3 _ p.1) h)

  -- where it is 0
  pub drawable_on : (own : Tests) {len : ℕ} → Judged c len → 0 ≡ number_on c colour own → Drawable c.frame len colour
  drawable_on own J e =
      let p = behind_passed (as_number c.judged) ((4, no_colour c.frame colour) ∷ own) e refl in
      record { accepted = J.accepted p.0; below = leb-false _ _ (fails_alone 3 _ (both_pass c4 own refl p.1).0) }

-- what a call answers and leaves
module _ (c : Canvas) (d : Drawing) (b : List ℕ) where
  refused_by : (r : Refusal) → number r ≡ number_on c d.colour d.own → ◌≡◌ {A = Drawn × List ℕ} (as_drawn (Err r), b) (on_canvas c d b)
  unfolding on_canvas
  refused_by r e = refused_made (keeps c) d.colour b (held_by c.window d.figure) (some_number r) ∙ ap (λ (k : ℕ). made_of k (keeps c) (held_by c.window d.figure) d.colour b) e

  pub refused_on : (a : Result ℕ Refusal) (r : Refusal) → IsErr a × IsErrAnd a (λ q. q ≡ r) → number r ≡ number_on c d.colour d.own
      → ◌≡◌ {A = Drawn × List ℕ} (as_drawn a, b) (on_canvas c d b)
  refused_on a r h e = ap (λ (a : Result ℕ Refusal). (as_drawn a, b)) (handed_back a h) ∙ refused_by r e

  pub accepted_on : {m : ℕ} {after : List ℕ} → 0 ≡ number_on c d.colour d.own → (m, after) ≡ marked (keeps c) (held_by c.window d.figure) d.colour b
      → ◌≡◌ {A = Drawn × List ℕ} (record { number = 0; count = m }, after) (on_canvas c d b)
  unfolding on_canvas
  accepted_on e h = accepted_made (keeps c) d.colour b (held_by c.window d.figure) refl h ∙ ap (λ (k : ℕ). made_of k (keeps c) (held_by c.window d.figure) d.colour b) e

-- a pixel set
module _ (c : Canvas) (p : Point) (colour : ℕ) (b : List ℕ) where
  refused_dot : (r : Refusal) → number r ≡ number_on c colour [] → ◌≡◌ {A = Placed × List ℕ} (as_placed (Err r), b) (pixel_on c p colour b)
  unfolding pixel_on
  refused_dot r e =
      let t = in_window c.window p.0 p.1 in
      let d = pixel_drawing p colour in
      (λ i. (record { number = number r; inside = sym (not_done (some_number r) t false) i }, (refused_by c d b r e i).1)) ∙ ap (λ (k : ℕ). (was_inside k t, (on_canvas c d b).1)) e

  pub refused_placed_on : (a : Result Bool Refusal) (r : Refusal) → IsErr a × IsErrAnd a (λ q. q ≡ r) → number r ≡ number_on c colour []
      → ◌≡◌ {A = Placed × List ℕ} (as_placed a, b) (pixel_on c p colour b)
  refused_placed_on a r h e = ap (λ (a : Result Bool Refusal). (as_placed a, b)) (handed_back a h) ∙ refused_dot r e

-- a pixel read
pub refused_read_on : (c : Canvas) (p : Point) (b : List ℕ) (a : Result ℕ Refusal) (r : Refusal) → IsErr a × IsErrAnd a (λ q. q ≡ r) → number r ≡ as_number c.judged
    → as_read a ≡ read_on c p b
unfolding read_on
refused_read_on c p b a r h e =
    let there = shown (keeps c) b (nat_abs p.0) (nat_abs p.1) in
    let further : Tests = (8, not (in_window c.window p.0 p.1)) ∷ [] in
    ap as_read (handed_back a h) ∙ (λ i. record { number = number r; colour = sym (not_done (some_number r) there 0) i })
    ∙ ap (λ (n : ℕ). read n there) (behind_n (number r) further (some_number r) ∙ ap (λ (n : ℕ). behind n further) e)

-- the whole frame painted
all_window : (c : Canvas) → has_all c ≡ true → c.window ≡ whole_window c.frame
all_window c h =
    let p = and_true (eqb c.window.left 0 && eqb c.window.top 0) _ h in
    let q = and_true (eqb c.window.left 0) _ p.0 in
    let s = and_true (eqb c.window.right c.frame.width) _ p.1 in
    let l : c.window.left ≡ 0 = eqb-true c.window.left 0 q.0 in
    let t : c.window.top ≡ 0 = eqb-true c.window.top 0 q.1 in
    let r : c.window.right ≡ c.frame.width = eqb-true c.window.right c.frame.width s.0 in
    let b : c.window.bottom ≡ c.frame.height = eqb-true c.window.bottom c.frame.height s.1 in
    λ i. record { left = l i; top = t i; right = r i; bottom = b i }

pub whole_fits : {f : Frame} {len colour : ℕ} → Drawable f len colour → f.height * f.width ≤ 4194304
whole_fits D = mul-le-mul D.accepted.described.height D.accepted.described.width

pub filled_on : (c : Canvas) (colour : ℕ) (b : List ℕ) {m : ℕ} {after : List ℕ} → 0 ≡ number_on c colour [] → Judged c (length b) → has_all c ≡ true
    → m ≡ c.frame.height * c.frame.width → after ≡ painted (keeps c) everywhere colour b
    → ◌≡◌ {A = Drawn × List ℕ} (record { number = 0; count = m }, after) (on_canvas c (fill_drawing colour) b)
filled_on c colour b e J all n h =
    accepted_on c (fill_drawing colour) b e
    ((λ i. ((n ∙ sym (pixels_everywhere (keeps c))) i, h i))
    ∙ sym (marked_all (keeps c) (sound c.frame (drawable_on c colour [] J e).accepted.described) colour b everywhere)
    ∙ ap (λ (q : Window). marked (keeps c) (held_by q everywhere) colour b) (sym (all_window c all)))

-- a call whose figure has every pixel of the rectangle is a fill
has_all_lem : (p s : Bool) → (p ≡ true → s ≡ true) → (p && true) ≡ (p && s)
has_all_lem true s h = sym (h refl)
has_all_lem false s h = refl

pub everywhere_on : (c : Canvas) (d : Drawing) (b : List ℕ) → 0 ≡ number_on c d.colour d.own → Judged c (length b)
    → ((u v : ℕ) → in_window c.window (pos u) (pos v) ≡ true → d.figure (pos u) (pos v) ≡ true) → on_canvas c (fill_drawing d.colour) b ≡ on_canvas c d b
unfolding on_canvas
everywhere_on c d b e J all =
    let p = behind_passed (as_number c.judged) ((4, no_colour c.frame d.colour) ∷ d.own) e refl in
    let alone = behind_0 (as_number c.judged) ((4, no_colour c.frame d.colour) ∷ []) p.0 (sym (both_pass ((4, no_colour c.frame d.colour) ∷ []) d.own refl p.1).0) in
    ap (λ (n : ℕ). made_of n (keeps c) (held_by c.window everywhere) d.colour b) (sym alone ∙ e)
    ∙ same_made (keeps c) d.colour b (held_by c.window everywhere) (held_by c.window d.figure) (number_on c d.colour d.own)
    (λ y. marked_cong (keeps c) (sound c.frame (J.accepted p.0).described) d.colour b (held_by c.window everywhere) (held_by c.window d.figure)
    (λ u v hu hv. has_all_lem (in_window c.window (pos u) (pos v)) (d.figure (pos u) (pos v)) (all u v)))

-- ---- whoever judges a canvas: its tests, and behind them the call's
pub judged_by : (ts : Tests) → numbered ts ≡ true → (c : Canvas) → (as_number c.judged) ≡ first ts → (d : Drawing) (b : List ℕ)
    → on_canvas c d b ≡ made_of (first (behind_those ts c.frame d)) (keeps c) (held_by c.window d.figure) d.colour b
unfolding on_canvas
judged_by ts all c e d b =
    let further : Tests = (4, no_colour c.frame d.colour) ∷ d.own in
    ap (λ (n : ℕ). made_of n (keeps c) (held_by c.window d.figure) d.colour b) (ap (λ (n : ℕ). behind n further) e ∙ sym (first_append ts further all))

-- and there is such a canvas for every list, whatever its numbers
abbrev pub by_tests : Tests → Frame → Window → Canvas
by_tests ts f w = record { frame = f; window = w; judged = told (first ts) }

pub each_list : (ts : Tests) → numbered ts ≡ true → (f : Frame) (w : Window) (d : Drawing) (b : List ℕ)
    → on_canvas (by_tests ts f w) d b ≡ (let c = by_tests ts f w in made_of (first (behind_those ts f d)) (keeps c) (held_by w d.figure) d.colour b)
each_list ts all f w d b = judged_by ts all (by_tests ts f w) (each_number (first ts)) d b

-- ---- on the canvas of the whole frame
abbrev whole : Frame → Result ⊤ Refusal → Canvas
whole f j = record { frame = f; window = whole_window f; judged = j }

over_is : {c : Canvas} {f : Frame} {len : ℕ} → OverBytes c f len → c ≡ whole f c.judged
over_is {c} R = λ i. record { frame = R.frame i; window = R.window i; judged = c.judged }

pub is_judged : (f : Frame) (len : ℕ) {c : Canvas} → OverBytes c f len → Judged c len
is_judged f len R =
    subst (λ (c : Canvas). Judged c len) (sym (over_is R)) (record { accepted = λ z. is_accepted f len (sym R.number ∙ z); within = λ z. all_within f.width f.height })

-- a call answers and leaves its outcome
pub judged_outcome : (f : Frame) (d : Drawing) (b : List ℕ) {c : Canvas} {o : Drawn × List ℕ} → OverBytes c f (length b) → o ≡ on_canvas c d b → o ≡ outcome f d b
unfolding outcome
judged_outcome f d b {c} R h =
    h ∙ ap (λ (c : Canvas). on_canvas c d b) (over_is R) ∙ judged_by (frame_tests f (length b)) (frame_numbered f (length b)) (whole f c.judged) R.number d b
    ∙ same_made (raster f) d.colour b (held_by (whole_window f) d.figure) d.figure (first (call_tests f (length b) d))
    (λ z. marked_all (raster f) (sound f (drawable f (length b) d refl z).accepted.described) d.colour b d.figure)

pub judged_placed : (f : Frame) (p : Point) (colour : ℕ) (b : List ℕ) {c : Canvas} {o : Placed × List ℕ} → OverBytes c f (length b) → o ≡ pixel_on c p colour b
    → o ≡ pixel_outcome f p colour b
unfolding pixel_on pixel_outcome
judged_placed f p colour b {c} R h =
    let further : Tests = (4, no_colour f colour) ∷ [] in
    let own : OverBytes (whole f c.judged) f (length b) = record { frame = refl; window = refl; number = R.number } in
    let bytes = judged_outcome f (pixel_drawing p colour) b {c = whole f c.judged} own refl in
    h ∙ ap (λ (c : Canvas). pixel_on c p colour b) (over_is R)
    ∙ (λ i. (was_inside ((ap (λ (n : ℕ). behind n further) R.number ∙ sym (first_append (frame_tests f (length b)) further (frame_numbered f (length b)))) i) (in_window (whole_window f) p.0 p.1), (bytes i).1))

-- and where the frame is refused
pub refused_pixel : (f : Frame) (p : Point) (colour : ℕ) (b : List ℕ) (r : Refusal) → number r ≡ first (frame_tests f (length b))
    → ◌≡◌ {A = Placed × List ℕ} (as_placed (Err r), b) (pixel_outcome f p colour b)
refused_pixel f p colour b r e =
    let c = whole f (Err r) in
    let further : Tests = (4, no_colour f colour) ∷ [] in
    judged_placed f p colour b {c = c} (record { frame = refl; window = refl; number = e })
    (refused_dot c p colour b r (behind_n (number r) further (some_number r)))

pub judged_read : (f : Frame) (p : Point) (b : List ℕ) {c : Canvas} {r : Read} → OverBytes c f (length b) → r ≡ read_on c p b
    → r ≡ read (first (read_tests f (length b) p)) (colour_at f p b)
unfolding read_on read_tests
judged_read f p b R h =
    let further : Tests = (8, is_outside f p) ∷ [] in
    h ∙ ap (λ (c : Canvas). read_on c p b) (over_is R)
    ∙ ap (λ (n : ℕ). read n (colour_at f p b)) (ap (λ (n : ℕ). behind n further) R.number ∙ sym (first_append (frame_tests f (length b)) further (frame_numbered f (length b))))

-- what answers the needs of a call that judges its frame first
pub ruleset judging = (is_judged, judged_outcome, judged_placed, judged_read)
