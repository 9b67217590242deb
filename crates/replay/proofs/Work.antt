-- After the lines that are there the program stands within its buffers, and lends no more than there is. Assumes nothing.
use mathlib.Core.Path.{◌≡◌, sym, ap, subst, ◌∙◌}
use mathlib.Core.List.{List}
use Prim.Native.Nat.{ℕ, ◌≤◌}
use native.Mathlib.Omega.{arith}
use lib.ListN.{length, take}
use Rattle.text.proofs.Streaming.{handled_within}
use Rattle.streams.specs.declared.State.{State}
use Rattle.streams.specs.State.{Within, Standing, started}
use Rattle.streams.proofs.Refilling.{there_is}
use Rattle.streams.proofs.Turns.{Kept, Going, going_first}
use Rattle.screens.specs.declared.Screen.{Screen}
use Rattle.files.specs.Files.{Buffers}
use Rattle.session.specs.Lines.{Session, answered, room}
use Rattle.screens.specs.Screen.{start}
use Rattle.session.proofs.Lent.{lines_lent}
use Rattle.replay.specs.Session.{Work, bytes, Sound, first, after_lines}

-- the program came turn by turn to where it stands
abbrev pub Runs : List ℕ → Buffers → State → List ℕ → Work → Type 0
Runs out buffers st input o = Going bytes Sound after_lines (first out buffers) st input o

pub begins : (input out : List ℕ) (m : Buffers) (st : State) (s : Screen) → st ≡ started → s ≡ start
    → length input ≡ 65536 → length m.0 ≡ 65536 → length m.1 ≡ 65536 → length out ≡ 65536 → Runs out m st input (out, (s, m))
begins input out m st s e q i memory file o =
    subst (λ (x : Screen). Runs out m st input (out, (x, m))) (sym q) (going_first bytes Sound after_lines (first out m) st input e i o (omega arith, memory, file))

module _ (input : List ℕ) (st : State) (o : Work) (s : Standing st input o.0) (h : Sound o) where
  lines_within : Within (after_lines input st o).0
  lines_within =
      let p : List ℕ = take st.end input in
      let x : Session = ((st.at, o.0), o.1) in
      let filled : length p ≡ st.end = there_is input st s.within s.input_size in
      record {
        ahead = omega (arith, filled, handled_within answered room p (length p) st.next x (omega (arith, filled, s.within.ahead)));
        most = s.within.most;
      }

  lines_sound : (after_lines input st o).1.1.0.lent ≤ 65536
  lines_sound = lines_lent (take st.end input) (length (take st.end input)) st.next ((st.at, o.0), o.1) h.0

  pub lines_keep : (p : State × Work) → p ≡ after_lines input st o → p.0.at ≤ 65536 → length p.1.0 ≡ length o.0
      → length p.1.1.1.0 ≡ length o.1.1.0 → length p.1.1.1.1 ≡ length o.1.1.1 → Kept bytes Sound st p
  lines_keep p e few b m f =
      record {
        within = subst (λ (x : State × Work). Within x.0) (sym e) lines_within;
        filled = omega (arith, b, s.out_size);
        size = b ∙ s.out_size;
        turns = ap (λ (x : State × Work). x.0.turns) e;
        sound = (subst (λ (x : State × Work). x.1.1.0.lent ≤ 65536) (sym e) lines_sound, m ∙ h.1, f ∙ h.2);
      }
