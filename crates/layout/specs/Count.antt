-- How many pixels a figure has: beside painting, over the pixels one by one, as painting is (02, T-02). Pixels are numbered from 0.
use Rattle.std.specs.Prelude.{Bool, cond, List, ℕ, zero, suc, ◌+◌, ◌*◌, ◌/◌, ◌%◌, eqb, ℤ, pos}
use Rattle.layout.specs.Layout.{Layout, get_no, painted}

abbrev pub one_if : Bool → ℕ
one_if t = cond t 1 0

-- of the pixels 0 to n - 1, those inside the figure
abbrev pub how_many : ℕ → (ℕ → Bool) → ℕ
how_many zero inside = 0
how_many (suc n) inside = how_many n inside + one_if (inside n)

-- "the number of distinct frame pixels its figure contains"
unfoldable pub pixels_in : Layout → (ℤ → ℤ → Bool) → ℕ
pixels_in l inside = how_many (l.height * l.width) (λ p. inside (pos (p % l.width)) (pos (p / l.width)))

-- "the number of lit pixels": those of the frame that have colour 1
unfoldable pub lit_in : Layout → List ℕ → ℕ
lit_in l b = how_many (l.height * l.width) (λ p. eqb (get_no l p b) 1)

-- a figure painted in a colour: how many pixels of the frame it contains, and the bytes that are left
abbrev pub marked : Layout → (ℤ → ℤ → Bool) → ℕ → List ℕ → ℕ × List ℕ
marked l inside colour b = (pixels_in l inside, painted l inside colour b)
