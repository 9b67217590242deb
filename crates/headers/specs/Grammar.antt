-- 02, T-06, in the form of a grammar, without places: which files have a header for the depth, and what it says. proofs/Forms.antt shows that it is what is read.
use Rattle.std.specs.Prelude.{◌≡◌, Bool, true, false, ◌&&◌, List, [], ◌∷◌, ◌++◌, ℕ, ◌+◌, ◌≤◌, eqb, length}
use Rattle.text.specs.Digits.{all_digits, digits_value}
use Rattle.headers.specs.Header.{kind, is_space}

abbrev pub every : (ℕ → Bool) → List ℕ → Bool
every t [] = true
every t (b ∷ s) = t b && every t s

-- a field of a header: "one or more of space, tab, CR, LF", and one to four digits behind them, which mean v
pub record Entry (v : ℕ) (b : List ℕ) : Type 0 where
  pub spaces : List ℕ
  pub digits : List ℕ
  pub bytes : b ≡ spaces ++ digits
  pub parted : 1 ≤ length spaces
  pub blank : every is_space spaces ≡ true
  pub some : 1 ≤ length digits
  pub four : length digits ≤ 4
  pub decimal : all_digits digits ≡ true
  pub value : digits_value digits ≡ v

-- the maximum: nothing in a file of one bit, a field of 255 in the others
abbrev pub Ending : Bool → List ℕ → Type 0
Ending true b = b ≡ []
Ending false b = Entry 255 b

-- a file with a header for the depth d: it says w by h pixels, which start at n
pub record WellFormed (d : ℕ) (s : List ℕ) (w h n : ℕ) : Type 0 where
  pub width : List ℕ
  pub height : List ℕ
  pub ending : List ℕ
  pub last : ℕ
  pub rest : List ℕ
  pub file : s ≡ 80 ∷ kind d ∷ (width ++ (height ++ (ending ++ (last ∷ rest))))
  pub wide : Entry w width
  pub high : Entry h height
  pub limited : Ending (eqb d 1) ending
  pub closed : is_space last ≡ true
  pub start : n ≡ 2 + length width + length height + length ending + 1
