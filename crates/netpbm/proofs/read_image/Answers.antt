-- `netpbm::read_image` takes the pixels behind the header of a file that is not refused over. Assumes nothing.
use mathlib.Core.Path.{◌≡◌, refl, sym, ap, ap₂, subst, ◌∙◌}
use mathlib.Core.List.{List}
use Prim.Native.Nat.{ℕ, ◌-◌}
use native.Mathlib.Omega.{arith}
use lib.ListN.{length, take, drop, length-drop}
use Rattle.std.specs.Prelude.{Result}
use Rattle.text.proofs.Numbers.{rest_is}
use Rattle.refusals.specs.Refusal.{as_number}
use Rattle.refusals.specs.declared.Refusal.{Refusal}
use Rattle.refusals.proofs.Numbers.{some_number, handed_back}
use Rattle.frames.specs.declared.Frame.{Frame}
use Rattle.netpbm.specs.Image.{big_first}
use Rattle.netpbm.specs.Words.{Alike, transferred, masked_rows}
use Rattle.netpbm.proofs.Transfers.{out_of_file, over_own}
use Rattle.netpbm.proofs.Loads.{refused_loaded, accepted_loaded}
use Rattle.netpbm.proofs.read_image.Goals as goal

pub returns-in_err-start : goal.returns-in_err-start
returns-in_err-start c =
    let a = c.args in
    ap (λ (r : Result (Unit {0}) Refusal). (as_number r, a.buf.now)) (handed_back _ c.from_residual.ensures)
    ∙ refused_loaded a.frame a.file.now a.buf.now c.in_err-start.ensures.number (some_number c.in_err-start.field-0.0)

pub transfer_rows-requires : goal.transfer_rows-requires
transfer_rows-requires c =
    let a = c.args in
    let s = a.file.now in
    let start = c.in_ok-start.start in
    let fit = c.in_ok-start.ensures.accepted in
    let n : length (take (length s - start) (drop start s)) ≡ length s - start = ap length (rest_is s start) ∙ length-drop start s in
    subst (λ (g : Frame). Alike g (length (take (length s - start) (drop start s))) a.frame (length a.buf.now)) (sym c.in_file.ensures)
    (out_of_file a.frame fit.2 (omega (arith, n, fit.1)))

pub returns : goal.returns
returns c =
    let f = c.args.frame in
    let s = c.args.file.now in
    let b = c.args.buf.now in
    let fit = c.in_ok-start.ensures.accepted in
    let own = over_own f b fit.2.accepted.room (λ i. (c.slice_known-1.given i).fits) in
    accepted_loaded f s b c.in_ok-start.ensures.number refl
    (c.transfer_rows.ensures
    ∙ ap₂ (λ (g : Frame) (t : List ℕ). transferred g t f (masked_rows f 255 b)) c.in_file.ensures (rest_is s c.in_ok-start.start)
    ∙ ap₂ (λ (n : ℕ) (b : List ℕ). transferred (big_first f) (drop n s) f b) fit.0 own)
