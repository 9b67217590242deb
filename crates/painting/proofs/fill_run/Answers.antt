-- `painting::fill_run` fills the part of the buffer that the frame takes up. Assumes nothing.
use mathlib.Core.Path.{◌≡◌, refl, sym, ap, subst, ◌∙◌}
use mathlib.Core.List.{List}
use Prim.Native.Nat.{ℕ, ◌*◌, ◌≤◌, ◌<◌}
use native.Mathlib.Nat.{le_refl}
use native.Mathlib.Omega.{arith}
use lib.ListN.{length, take}
use lib.Seq.{length-take-le}
use Rattle.layout.specs.Digits.{set_run}
use Rattle.layout.specs.Figure.{everywhere}
use Rattle.layout.specs.Layout.{painted}
use Rattle.layout.specs.Packed.{parts, full_byte}
use Rattle.layout.proofs.Runs.{run_part}
use Rattle.layout.proofs.Bytes.{Bytes, one_run}
use Rattle.frames.specs.declared.Frame.{Frame}
use Rattle.frames.specs.Description.{arranged, raster, size}
use Rattle.frames.specs.Judged.{Drawable}
use Rattle.frames.proofs.Refusals.{spaced, one_pixel}
use Rattle.painting.proofs.fill_run.Goals as goal
use Rattle.painting.proofs.fill_run.Goals.{After-frame_bytes-end, Start}

-- what the call may lean on
ok : (c : Start) → Drawable c.args.frame (length c.args.buf.now) c.args.colour
ok c = c.requires.0

room : (c : After-frame_bytes-end) → c.frame_bytes-end.result ≤ length c.args.buf.now
room c = subst (λ (n : ℕ). n ≤ length c.args.buf.now) (sym c.frame_bytes-end.ensures) (ok (goal.at.After-frame_bytes-end c).Start).accepted.room

pub fill_part-requires : goal.fill_part-requires
fill_part-requires c =
    let a = c.args in (
      (ok (goal.at.fill_part-requires c).Start).accepted.described.depth,
      (ok (goal.at.fill_part-requires c).Start).below,
      subst (λ (n : ℕ). parts a.frame.depth ≤ n) (sym (length-take-le c.frame_bytes-end.result a.buf.now (room (goal.at.fill_part-requires c).After-frame_bytes-end)))
          (subst (λ (n : ℕ). parts a.frame.depth ≤ n) (sym c.frame_bytes-end.ensures)
          (one_pixel a.frame c.requires.1 (subst (λ (n : ℕ). 0 < n) c.frame_bytes-end.ensures c.if-end-gt0.true))),
    )

-- the run is the frame
run : (f : Frame) (colour : ℕ) (b : List ℕ) (A : Drawable f (length b) colour) → f.distance * 8 ≡ f.width * f.depth → Bytes b
    → painted (raster f) everywhere colour b ≡ set_run 0 (size f) (full_byte f.depth f.big colour) b
unfolding size
run f colour b A e v = one_run (arranged f) (spaced f A.accepted.described) colour A.below b e A.accepted.room v

pub returns-then-end-gt0 : goal.returns-then-end-gt0
returns-then-end-gt0 c =
    let a = c.args in
    let n = c.frame_bytes-end.result in
    let l = length-take-le n a.buf.now (room (goal.at.returns-then-end-gt0 c).After-frame_bytes-end) in
    run_part 0 n (length (take n a.buf.now)) a.buf.now (take n a.buf.now) c.fill_part.new.part _ (let h = room (goal.at.returns-then-end-gt0 c).After-frame_bytes-end in omega arith) refl
    (le_refl _) c.fill_part.ensures
    ∙ ap (λ (k : ℕ). set_run 0 k (full_byte a.frame.depth a.frame.big a.colour) a.buf.now) (l ∙ c.frame_bytes-end.ensures)
    ∙ sym (run a.frame a.colour a.buf.now (ok (goal.at.returns-then-end-gt0 c).Start) c.requires.1 (λ i. (c.slice_known-1.given i).fits))

pub returns-else-end-gt0 : goal.returns-else-end-gt0
returns-else-end-gt0 c =
    let a = c.args in
    let z : 0 ≡ size a.frame = (let h = c.if-end-gt0.false in let e = c.frame_bytes-end.ensures in omega arith) in
    ap (λ (k : ℕ). set_run 0 k (full_byte a.frame.depth a.frame.big a.colour) a.buf.now) z
    ∙ sym (run a.frame a.colour a.buf.now (ok (goal.at.returns-else-end-gt0 c).Start) c.requires.1 (λ i. (c.slice_known-1.given i).fits))
