-- Laws of what is put into the output: no test refuses the file of the picture, and what is to be said comes first. Assumes nothing.
use mathlib.Core.Path.{◌≡◌, refl, sym, ap, ap₂, ◌∙◌}
use mathlib.Core.Bool.{Bool, true, false, cond}
use mathlib.Core.List.{List}
use Prim.Native.Nat.{ℕ, ◌+◌, ◌≤◌}
use native.Mathlib.Omega.{arith}
use lib.ListN.{length, take, replicate, length-replicate}
use lib.Seq.{sets, length-sets}
use Rattle.refusals.specs.First.{first}
use Rattle.layout.specs.Packed.{row_bytes}
use Rattle.frames.specs.declared.Size.{Size}
use Rattle.frames.specs.Answer.{sized}
use Rattle.frames.specs.Description.{packed_distance, size, description_tests, frame_tests}
use Rattle.frames.specs.Judged.{Described}
use Rattle.netpbm.specs.Image.{header, image_bytes, image_length}
use Rattle.netpbm.specs.Written.{write_tests, written}
use Rattle.netpbm.proofs.Answers.{accepted_written}
use Rattle.netpbm.proofs.Images.{file_length}
use Rattle.text.specs.Show.{shown}
use Rattle.streams.proofs.Refilling.{front}
use Rattle.reports.specs.Minutes.{Count, counting, minutes, count_line}
use Rattle.charts.specs.Picture.{picture}
use Rattle.charts.specs.Day.{leaves, day, charted}
use Rattle.chart.specs.declared.Told.TheVariants.{Image, Line}
use Rattle.chart.specs.Told.{Handed}

-- ---- the file of the picture
described : Described picture
unfolding packed_distance row_bytes
described = record { depth = refl; width = omega arith; height = omega arith; apart = omega arith; near = omega arith }

length_is : image_length picture ≡ 691215
unfolding image_length header size shown packed_distance row_bytes
length_is = refl

bytes_are : (b : List ℕ) → length (image_bytes picture b) ≡ 691215
bytes_are b = file_length picture b described ∙ length_is

-- no test holds
accepted : first (write_tests picture 691200 691215) ≡ 0
unfolding write_tests frame_tests description_tests image_length header size shown packed_distance row_bytes
accepted = refl

file_written : (b out : List ℕ) → length b ≡ 691200 → length out ≡ 691215 → written picture b out ≡ (sized 0 691215, sets out 0 (image_bytes picture b))
file_written b out e g =
    sym (accepted_written picture b out (sym accepted ∙ ap₂ (λ (m n : ℕ). first (write_tests picture m n)) (sym e) (sym g)) (ap (sized 0) (sym length_is)) refl refl)

-- ---- what is handed over
module _ (s before out : List ℕ) {k : Count} {after : List ℕ} (e : ◌≡◌ {A = Count × List ℕ} (k, after) (charted s before))
    (zeros : before ≡ replicate 691200 0) (room : length out ≡ 691215) where
  counted : k ≡ minutes s
  unfolding charted
  counted = ap (λ (q : Count × List ℕ). q.0) e

  chosen : {t : Bool} → counting k ≡ t → counting (minutes s) ≡ t
  chosen c = ap counting (sym counted) ∙ c

  drawn : counting k ≡ true → after ≡ leaves picture (day s) before
  unfolding charted
  drawn c = ap (λ (q : Count × List ℕ). q.1) e ∙ ap (λ (t : Bool). cond t (leaves picture (day s) before) before) (chosen c)

  -- what is to be said, by the pane's bytes
  over : List ℕ → List ℕ
  over b = cond (counting (minutes s)) (image_bytes picture (leaves picture (day s) b)) (count_line (minutes s))

  pub file_handed : {r : Size} {o : List ℕ} → counting k ≡ true → length after ≡ length before → ◌≡◌ {A = Size × List ℕ} (r, o) (written picture after out)
      → Handed s (Image r.bytes) o
  unfolding over
  file_handed {r} {o} c l w =
      let file = image_bytes picture (leaves picture (day s) before) in
      let frame = l ∙ ap length zeros ∙ length-replicate {A = ℕ} 691200 0 in
      let v = w ∙ file_written after out frame room ∙ ap (λ (b : List ℕ). (sized 0 691215, sets out 0 (image_bytes picture b))) (drawn c) in
      let end : r.bytes ≡ length file = ap (λ (q : Size × List ℕ). q.0.bytes) v ∙ sym (bytes_are (leaves picture (day s) before)) in
      let bytes : o ≡ sets out 0 file = ap (λ (q : Size × List ℕ). q.1) v in
      let fits : length file ≤ length out = omega (arith, bytes_are (leaves picture (day s) before)) in
      record {
        fits = omega (arith, ap length bytes, length-sets out 0 file);
        good = sym (chosen c);
        bytes = ap₂ take end bytes ∙ front out file fits ∙ sym (ap (λ (t : Bool). cond t file (count_line (minutes s))) (chosen c)) ∙ ap over zeros;
      }

  pub line_handed : {n : ℕ} {o : List ℕ} → counting k ≡ false → n ≡ 0 + length (count_line k) → o ≡ sets out 0 (count_line k) → n ≤ 41
      → Handed s (Line n) o
  unfolding over
  line_handed {n} {o} c m w most =
      let file = image_bytes picture (leaves picture (day s) before) in
      let end : n ≡ length (count_line k) = omega arith in
      record {
        fits = omega (arith, ap length w, length-sets out 0 (count_line k));
        good = sym (chosen c);
        bytes = ap₂ take end w ∙ front out (count_line k) (omega arith) ∙ ap count_line counted
            ∙ sym (ap (λ (t : Bool). cond t file (count_line (minutes s))) (chosen c)) ∙ ap over zeros;
      }
