-- ONE PICTURE, WHATEVER THE DISTANCE AND THE ORDER: two accepted frames of one size and depth show the same picture after the same calls (02, T-07).
-- Assumes nothing.
use mathlib.Core.Path.{◌≡◌, refl, sym, ap, subst, ◌∙◌}
use mathlib.Core.Bool.{true}
use mathlib.Core.List.{List, [], ◌∷◌, ◌++◌}
use Prim.Native.Nat.{ℕ, zero, suc, ◌^◌, ◌<◌}
use lib.Dec.{leb}
use lib.ListN.{length}
use Rattle.refusals.specs.Answer.{if_done}
use Rattle.refusals.specs.First.{Tests, first}
use Rattle.refusals.proofs.First.{first_append}
use Rattle.layout.specs.Layout.{Picture, shown}
use Rattle.layout.proofs.Pictures.{Agree}
use Rattle.frames.specs.declared.Frame.{Frame}
use Rattle.frames.specs.Description.{described, raster, frame_tests}
use Rattle.frames.specs.Drawing.{Drawing}
use Rattle.frames.proofs.Refusals.{frame_numbered}
use Rattle.netpbm.specs.Reading.{file_tests, file_picture}
use Rattle.drawing.specs.Drawing.{figure_drawing}
use Rattle.picture.specs.Calls.{Call, draw, read_image, Change, draws, loads, change_of, number_of, shown_after, picture_after}
use Rattle.picture.proofs.Picture.{lawful}
use Rattle.picture.proofs.Runs.{Run}
use Rattle.picture.proofs.Kept.{run_shows}

-- two frames that may differ in distance and byte order only
pub record OneSize (f g : Frame) : Type 0 where
  pub width : f.width ≡ g.width
  pub height : f.height ≡ g.height
  pub depth : f.depth ≡ g.depth

module _ (f g : Frame) (E : OneSize f g) where
  -- a change that tests and does the same on both
  record Common (c : Change) : Type 0 where
    own : c.own f ≡ c.own g
    changes : (p : Picture) → c.changes f p ≡ c.changes g p

  draws_common : (d : Drawing) → Common (draws d)
  draws_common d = record { own = ap (λ (n : ℕ). (4, leb (2 ^ n) d.colour) ∷ d.own) E.depth; changes = λ p. refl }

  -- a file is tested, and shows its picture, by the size and the depth
  loads_common : (s : List ℕ) → Common (loads s)
  unfolding file_tests
  loads_common s =
      record {
        own = λ i. file_tests (described (E.width i) (E.height i) (E.depth i) true 0) s;
        changes = λ p i. file_picture (described (E.width i) (E.height i) (E.depth i) true 0) s;
      }

  common : (o : Call) → Common (change_of o)
  common (draw g c) = draws_common (figure_drawing g c)
  common (read_image s) = loads_common s

  module _ (m n : ℕ) (F : first (frame_tests f m) ≡ 0) (G : first (frame_tests g n) ≡ 0) where
    -- a call on an accepted frame answers by its own tests
    by_own : (k : Frame) (len : ℕ) → first (frame_tests k len) ≡ 0 → (ts : Tests) → first (frame_tests k len ++ ts) ≡ first ts
    by_own k len z ts = first_append (frame_tests k len) ts (frame_numbered k len) ∙ ap (λ (i : ℕ). if_done i (first ts) i) z

    pub same_number : (o : Call) → number_of f m o ≡ number_of g n o
    same_number o = by_own f m F ((change_of o).own f) ∙ ap first (common o).own ∙ sym (by_own g n G ((change_of o).own g))

    same_shown : (o : Call) (p : Picture) → shown_after f m o p ≡ shown_after g n o p
    same_shown o p i x y = if_done (same_number o i) ((common o).changes p i x y) (p x y)

    pub same_picture : (os : List Call) (p : Picture) → picture_after f m os p ≡ picture_after g n os p
    same_picture [] p = refl
    same_picture (o ∷ os) p = same_picture os (shown_after f m o p) ∙ ap (picture_after g n os) (same_shown o p)

    -- calls on pictures that agree on the frame leave such pictures
    agree_after : (os : List Call) (p q : Picture) → Agree (raster f) p q → Agree (raster f) (picture_after f m os p) (picture_after f m os q)
    agree_after [] p q a = a
    agree_after (o ∷ os) p q a = agree_after os (shown_after f m o p) (shown_after f m o q) (by (number_of f m o))
      where
        by : (k : ℕ) → Agree (raster f) (λ x y. if_done k ((change_of o).changes f p x y) (p x y)) (λ x y. if_done k ((change_of o).changes f q x y) (q x y))
        by zero = (lawful f o).local p q a
        by (suc k) = a

    -- any two runs of the same calls, from buffers that show the same picture
    pub same_after_runs : {os : List Call} {a b c e : List ℕ} → length a ≡ m → length b ≡ n → Run f os a c → Run g os b e
        → Agree (raster f) (shown (raster f) a) (shown (raster g) b) → Agree (raster f) (shown (raster f) c) (shown (raster g) e)
    same_after_runs {os} {a} {b} la lb r s h x y hx hy =
        run_shows f m F la r x y hx hy
        ∙ agree_after os (shown (raster f) a) (shown (raster g) b) h x y hx hy
        ∙ ap (λ (p : Picture). p x y) (same_picture os (shown (raster g) b))
        ∙ sym (run_shows g n G lb s x y (subst (λ (k : ℕ). x < k) E.width hx) (subst (λ (k : ℕ). y < k) E.height hy))
