-- ONE PICTURE, ONE COUNT (02, T-02: "never counting padding or tail"): buffers that show the same picture have equally many lit pixels, whatever stands
-- between and behind the pixels. Assumes nothing.
use mathlib.Core.Path.{◌≡◌, ap}
use mathlib.Core.List.{List}
use Prim.Native.Nat.{ℕ, ◌*◌}
use lib.Dec.{eqb}
use Rattle.layout.specs.Layout.{Layout, shown}
use Rattle.layout.specs.Count.{lit_in}
use Rattle.layout.proofs.Counts.{many_cong}
use Rattle.layout.proofs.Placing.{numbered}
use Rattle.layout.proofs.Pictures.{Agree}

pub one_picture_one_count : (l : Layout) (a b : List ℕ) → Agree l (shown l a) (shown l b) → lit_in l a ≡ lit_in l b
unfolding lit_in
one_picture_one_count l a b s =
    many_cong (l.height * l.width) _ _ (λ p k. ap (λ (n : ℕ). eqb n 1) (numbered l (λ x y. shown l a x y ≡ shown l b x y) s p k))
