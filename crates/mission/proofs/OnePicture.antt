-- DEMAND 3, in the mission's words: two zero-filled buffers of equal length under one description, and any two sequences of calls of the compiled functions, those of `beamacorn` and refused
-- calls among them. "The bytes afterwards are equal exactly if every pixel of the frame has the same colour in both". And what else is known of the bytes after a run. Assumes nothing.
use mathlib.Core.Path.{◌≡◌, refl, sym, ap, subst, ◌∙◌}
use mathlib.Core.List.{List, [], ◌∷◌}
use mathlib.Core.Logic.{◌↔◌, inl, inr, ⊎_elim}
use Prim.Native.Nat.{ℕ, ◌<◌}
use native.Mathlib.Omega.{arith}
use lib.ListN.{length, replicate, length-replicate}
use Rattle.whole.proofs.Tests.{eq_or_not}
use Rattle.layout.specs.Layout.{Picture, shown, rendered}
use Rattle.layout.proofs.Pictures.{shown_rendered, shown_colour, shown_zeros}
use Rattle.refusals.proofs.First.{both_pass}
use Rattle.frames.specs.declared.Frame.{Frame}
use Rattle.frames.specs.Description.{raster, size, frame_tests}
use Rattle.frames.specs.Judged.{Described}
use Rattle.frames.proofs.Refusals.{is_accepted, frame_numbered, sound}
use Rattle.picture.specs.Calls.{Call, change_of, number_of, blank, picture_after, after_calls}
use Rattle.picture.proofs.Last.{AllLeave, last_change, no_colour_lem}
use Rattle.picture.proofs.Picture as picture
use Rattle.mission.specs.Answers.{Called}
use Rattle.mission.specs.Bytes.{colour_of, KeepsTheRest}
use Rattle.mission.specs.Calls.{NoneGives, Colour}
use Rattle.mission.specs.Numbers.{done, frame}
use Rattle.mission.specs.Runs.{Run, ended, call}
use Rattle.mission.proofs.Bytes.{pixel_place}
use Rattle.mission.proofs.Drawing.{change_gives, gives_or_not, change_leaves, made_does, every_call}
use Rattle.mission.proofs.Numbers.{call_accepted, frame_accepted}

-- the frame of an accepted call
described_of : (f : Frame) (n : ℕ) (o : Call) → number_of f n o ≡ 0 → Described f
described_of f n o z = (is_accepted f n (both_pass (frame_tests f n) ((change_of o).own f) (frame_numbered f n) z).0).described

module _ (f : Frame) (n x y : ℕ) where
  -- ---- calls that give the pixel no colour leave it
  all_leave : (os : List Call) → NoneGives f n x y os → AllLeave f n x y os
  all_leave [] u = tt
  all_leave (o ∷ os) u = (λ z. change_leaves f n x y o z (u.0 ((call_accepted f n o).0 z)), all_leave os u.1)

  -- A PIXEL HAS ONE COLOUR after a list of calls, the mission's, and it is the picture's
  colour_is : (os : List Call) (v : ℕ) → Colour f n x y os v → picture_after f n os blank x y ≡ v
  colour_is os v (inl l) =
      let z = (call_accepted f n l.call).1 l.accepted in
      ap (λ (os : List Call). picture_after f n os blank x y) l.split
      ∙ last_change f n x y l.before l.after l.call z (all_leave l.after l.later) blank
      ∙ change_gives f (described_of f n l.call z) x y l.call l.gives (picture_after f n l.before blank)
  colour_is os v (inr p) = no_colour_lem f n x y os (all_leave os p.0) ∙ sym p.1

  with_first : (o : Call) (os : List Call) → (v : ℕ) × Colour f n x y os v → (v : ℕ) × Colour f n x y (o ∷ os) v
  with_first o os (v, inl l) =
      (v, inl (record { before = o ∷ l.before; call = l.call; after = l.after; split = ap (λ (t : List Call). o ∷ t) l.split; accepted = l.accepted; gives = l.gives; later = l.later }))
  with_first o os (v, inr p) = ⊎_elim accepted (λ not. (0, inr ((λ a. absurd (not ((call_accepted f n o).1 a)), p.0), refl))) (eq_or_not (number_of f n o) 0)
    where
      accepted : number_of f n o ≡ 0 → (v : ℕ) × Colour f n x y (o ∷ os) v
      accepted z =
          ⊎_elim (λ q. (q.0, inl (record { before = []; call = o; after = os; split = refl; accepted = (call_accepted f n o).0 z; gives = q.1; later = p.0 })))
          (λ never. (0, inr ((λ b. never, p.0), refl))) (gives_or_not f n x y o z)

  pub has_colour : (os : List Call) → (v : ℕ) × Colour f n x y os v
  has_colour [] = (0, inr (tt, refl))
  has_colour (o ∷ os) = with_first o os (has_colour os)

  pub one_colour : (os : List Call) (v w : ℕ) → Colour f n x y os v → Colour f n x y os w → v ≡ w
  one_colour os v w p q = sym (colour_is os v p) ∙ colour_is os w q

-- ---- a run leaves what its list of calls leaves
run_leaves : {f : Frame} {os : List Call} {b c : List ℕ} → Run f os b c → c ≡ after_calls f os b
run_leaves ended = refl
run_leaves {f} (call {os = os} m r) = run_leaves r ∙ ap (after_calls f os) (made_does m).bytes

-- ---- ONE PICTURE, ONE FRAME
pub one_picture_one_frame : (f : Frame) (n : ℕ) {xs ys : List Call} {b c : List ℕ} → Run f xs (replicate n 0) b → Run f ys (replicate n 0) c
    → (b ≡ c) ↔ ((x y : ℕ) → x < f.width → y < f.height → (v : ℕ) × Colour f n x y xs v × Colour f n x y ys v)
one_picture_one_frame f n {xs} {ys} p q =
    let h = picture.one_picture_one_frame f n xs ys in (
      λ e x y hx hy.
          let u = has_colour f n x y xs in
          let w = has_colour f n x y ys in
          let same : w.0 ≡ u.0 = sym (colour_is f n x y ys w.0 w.1) ∙ sym (h.0 (sym (run_leaves p) ∙ e ∙ run_leaves q) x y hx hy) ∙ colour_is f n x y xs u.0 u.1 in
          (u.0, u.1, subst (Colour f n x y ys) same w.1),
      λ k. run_leaves p ∙ h.1 (λ x y hx hy. let u = k x y hx hy in colour_is f n x y xs u.0 u.1 ∙ sym (colour_is f n x y ys u.0 u.2)) ∙ sym (run_leaves q),
    )

-- ---- "Row padding and bytes past the frame never change": whatever is called, accepted and refused
call_keeps : {f : Frame} {o : Call} {b c : List ℕ} {k count : ℕ} → Called f o b k count c → (length c ≡ length b) × KeepsTheRest f b c
call_keeps {f} {b = b} {c = c} {k = k} C = ⊎_elim done_so refused (eq_or_not k 0)
  where
    done_so : k ≡ 0 → (length c ≡ length b) × KeepsTheRest f b c
    done_so z = let l = (C.accepted z).1 in (l.as_long, l.rest)

    refused : (k ≡ 0 → ⊥) → (length c ≡ length b) × KeepsTheRest f b c
    refused k = let e = (C.refused k).1 in (ap length e, subst (KeepsTheRest f b) (sym e) (record { padding = λ y j t hj ht past. refl; tail = λ i h. refl }))

pub run_keeps : {f : Frame} {os : List Call} {b c : List ℕ} → Run f os b c → (length c ≡ length b) × KeepsTheRest f b c
run_keeps ended = (refl, record { padding = λ y j t hj ht past. refl; tail = λ i h. refl })
run_keeps (call m r) = then (call_keeps (every_call m)) (run_keeps r)
  where
    then : {f : Frame} {b c e : List ℕ} → (length c ≡ length b) × KeepsTheRest f b c → (length e ≡ length c) × KeepsTheRest f c e → (length e ≡ length b) × KeepsTheRest f b e
    then p q =
        (q.0 ∙ p.0, record { padding = λ y j t hj ht past. q.1.padding y j t hj ht past ∙ p.1.padding y j t hj ht past; tail = λ i h. q.1.tail i h ∙ p.1.tail i h })

-- ---- "Reading returns the last colour written by this layout": from a zero-filled buffer, on an accepted frame, each pixel holds its colour
pub shows_its_colour : (f : Frame) (n : ℕ) → frame f n done 0 → {os : List Call} {c : List ℕ} → Run f os (replicate n 0) c
    → (x y v : ℕ) → x < f.width → y < f.height → Colour f n x y os v → colour_of f c x y ≡ v
unfolding size
shows_its_colour f n ok {os} {c} run x y v hx hy q =
    let A = frame_accepted f n ok in
    let P = sound f A.described in
    let zeros : List ℕ = replicate n 0 in
    let long : length zeros ≡ n = length-replicate n 0 in
    let left : c ≡ rendered (raster f) (picture_after f n os (shown (raster f) zeros)) zeros = run_leaves run ∙ picture.bytes_after f n A os zeros long in
    sym (pixel_place f A.described.depth c x y)
    ∙ ap (λ (a : List ℕ). shown (raster f) a x y) left
    ∙ shown_rendered (raster f) P (picture_after f n os (shown (raster f) zeros)) zeros (omega (arith, A.room)) x y hx hy
    (picture.colours_after_calls f n A os (shown (raster f) zeros) (λ u w hu hw. shown_colour (raster f) P zeros u w) x y hx hy)
    ∙ ap (λ (g : Picture). picture_after f n os g x y) (λ i u w. shown_zeros (raster f) n u w i)
    ∙ colour_is f n x y os v q
