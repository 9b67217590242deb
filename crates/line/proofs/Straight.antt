-- A place b straight on the way from a to c: the points of the lines from a to b and from b to c are points of the line from a to c. Assumes nothing.
use mathlib.Core.Path.{◌≡◌, sym, ap, subst, subst₂, ◌∙◌}
use mathlib.Core.Bool.{Bool, true, false, cond}
use Prim.Native.Nat.{ℕ, ◌+◌, ◌*◌, ◌≤◌}
use native.Mathlib.Omega.{arith}
use lib.Dec.{leb}
use lib.IntN.{ℤ, pos, negsuc, nat_abs, ◌-ℤ◌, ◌*ℤ◌}
use lib.Signed.{le_z}
use Rattle.whole.proofs.Difference.{up, dn, as_mk, mks, mk_eq, eq_mk}
use Rattle.whole.proofs.Machine.{mul_size}
use Rattle.geometry.specs.declared.Point.{Point}
use Rattle.line.specs.Line.{toward, wide, high, x_moves, y_moves, HasPoint}
use Rattle.line.proofs.Moves.{moves_minor}
use Rattle.line.proofs.Points.{reach}
use Rattle.line.proofs.Closed.{moves_off, OnLine, has_off, closed→, closed←}
use Rattle.line.proofs.Slope.{on_longer, on_further}

-- ---- along one axis
-- b is n away from a: to the right or below (true), to the left or above (false); no way at all goes both ways
abbrev pub Away : Bool → ℤ → ℤ → ℕ → Type 0
Away true a b n = up b + dn a ≡ up a + n + dn b
Away false a b n = up a + dn b ≡ up b + n + dn a

-- one way after the other
both_away : (t : Bool) (a b c : ℤ) (m n : ℕ) → Away t a b m → Away t b c n → Away t a c (m + n)
both_away true a b c m n h k = omega (arith, h, k)
both_away false a b c m n h k = omega (arith, h, k)

-- as the moves that a line counts
module _ (a p : ℤ) (u : ℕ) where
  away_moves : (t : Bool) → Away t a p u → cond t (pos 1) (negsuc 0) *ℤ (p -ℤ a) ≡ pos u
  away_moves true e = rw (as_mk a, as_mk p) (simp mks (mk_eq _ _ _ _ (omega (arith, e))))
  away_moves false e = rw (as_mk a, as_mk p) (simp mks (mk_eq _ _ _ _ (omega (arith, e))))

  moves_away : (t : Bool) → cond t (pos 1) (negsuc 0) *ℤ (p -ℤ a) ≡ pos u → Away t a p u
  moves_away true e = let g = eq_mk _ _ _ _ (simp mks at (rw (as_mk a, as_mk p) at e)) in omega arith
  moves_away false e = let g = eq_mk _ _ _ _ (simp mks at (rw (as_mk a, as_mk p) at e)) in omega arith

  away_size : (t : Bool) → Away t a p u → nat_abs (p -ℤ a) ≡ u
  away_size t e = by t ∙ ap nat_abs (away_moves t e)
    where
      by : (t : Bool) → nat_abs (p -ℤ a) ≡ nat_abs (cond t (pos 1) (negsuc 0) *ℤ (p -ℤ a))
      by true = omega (arith, mul_size (pos 1) (p -ℤ a))
      by false = omega (arith, mul_size (negsuc 0) (p -ℤ a))

-- any two numbers, by the way that a line goes between them
pub own_way : (a b : ℤ) → Away (le_z a b) a b (nat_abs (b -ℤ a))
own_way a b = moves_away a b (nat_abs (b -ℤ a)) (le_z a b) (moves_off a b b (nat_abs (b -ℤ a)) (sym (reach a b)))

-- two ways that both lead to b are one, for no more moves than lead there
one_way : (t r : Bool) (a b p : ℤ) (n u : ℕ) → Away t a b n → Away r a b n → u ≤ n → Away t a p u → Away r a p u
one_way true true a b p n u x y few h = h
one_way true false a b p n u x y few h = omega (arith, x, y, h)
one_way false true a b p n u x y few h = omega (arith, x, y, h)
one_way false false a b p n u x y few h = h

module _ (t : Bool) (a b p : ℤ) (n u : ℕ) (way : Away t a b n) (few : u ≤ n) where
  own : Away (le_z a b) a b n
  own = subst (Away (le_z a b) a b) (away_size a b n t way) (own_way a b)

  away_toward : Away t a p u → toward a b *ℤ (p -ℤ a) ≡ pos u
  away_toward h = away_moves a p u (le_z a b) (one_way t (le_z a b) a b p n u way own few h)

  toward_away : toward a b *ℤ (p -ℤ a) ≡ pos u → Away t a p u
  toward_away h = one_way (le_z a b) t a b p n u own way few (moves_away a p u (le_z a b) h)

-- ---- a point of a line by the ways that the line goes: it is w wide and h high
record Lies (t r : Bool) (s p : Point) (w h : ℕ) : Type 0 where
  u : ℕ
  v : ℕ
  across : Away t s.0 p.0 u
  down : Away r s.1 p.1 v
  on : OnLine (leb w h) w h u v

on_few : (t : Bool) (w h u v : ℕ) → OnLine t w h u v → (u ≤ w) × (v ≤ h)
on_few true w h u v o = (omega (arith, o.1, moves_minor h w v o.0), o.0)
on_few false w h u v o = (o.0, omega (arith, o.1, moves_minor w h u o.0))

module _ (t r : Bool) (s e p : Point) (w h : ℕ) (x : Away t s.0 e.0 w) (y : Away r s.1 e.1 h) where
  is_wide : wide s e ≡ w
  unfolding wide
  is_wide = away_size s.0 e.0 w t x

  is_high : high s e ≡ h
  unfolding high
  is_high = away_size s.1 e.1 h r y

  has_lies : HasPoint s e p → Lies t r s p w h
  has_lies q =
      let u : ℕ = x_moves s e q.step in
      let v : ℕ = y_moves s e q.step in
      let off = has_off s e p q in
      let on : OnLine (leb w h) w h u v = subst₂ (λ (w h : ℕ). OnLine (leb w h) w h u v) is_wide is_high (closed→ s e p u v off q) in
      let few = on_few (leb w h) w h u v on in
      record {
        u = u;
        v = v;
        across = toward_away t s.0 e.0 p.0 w u x few.0 off.x;
        down = toward_away r s.1 e.1 p.1 h v y few.1 off.y;
        on = on;
      }

  lies_has : Lies t r s p w h → HasPoint s e p
  lies_has l =
      let few = on_few (leb w h) w h l.u l.v l.on in
      closed← s e p l.u l.v
      (record {
        x = away_toward t s.0 e.0 p.0 w l.u x few.0 l.across;
        y = away_toward r s.1 e.1 p.1 h l.v y few.1 l.down;
      })
      (subst₂ (λ (w h : ℕ). OnLine (leb w h) w h l.u l.v) (sym is_wide) (sym is_high) l.on)

-- ---- b stands straight on the way from a to c: on from b both axes go as they went to it, by the same slope
pub record Straight (a b c : Point) : Type 0 where
  pub right : Bool
  pub below : Bool
  pub x_to : Away right a.0 b.0 (wide a b)
  pub x_on : Away right b.0 c.0 (wide b c)
  pub y_to : Away below a.1 b.1 (high a b)
  pub y_on : Away below b.1 c.1 (high b c)
  pub slope : wide a b * high b c ≡ wide b c * high a b

module _ (a b c p : Point) (s : Straight a b c) where
  abbrev W : ℕ
  W = wide a b + wide b c

  abbrev H : ℕ
  H = high a b + high b c

  on_whole : Lies s.right s.below a p W H → HasPoint a c p
  on_whole =
      lies_has s.right s.below a c p W H (both_away s.right a.0 b.0 c.0 (wide a b) (wide b c) s.x_to s.x_on)
      (both_away s.below a.1 b.1 c.1 (high a b) (high b c) s.y_to s.y_on)

  -- THE POINTS OF BOTH PARTS are points of the whole line
  pub straight_to : HasPoint a b p → HasPoint a c p
  straight_to q =
      let l = has_lies s.right s.below a b p (wide a b) (high a b) s.x_to s.y_to q in
      on_whole (record {
        u = l.u;
        v = l.v;
        across = l.across;
        down = l.down;
        on = on_longer W H (wide a b) (high a b) (omega (arith, s.slope)) (omega arith) (omega arith) l.u l.v l.on;
      })

  pub straight_on : HasPoint b c p → HasPoint a c p
  straight_on q =
      let l = has_lies s.right s.below b c p (wide b c) (high b c) s.x_on s.y_on q in
      let few = on_few (leb (wide b c) (high b c)) (wide b c) (high b c) l.u l.v l.on in
      on_whole (record {
        u = wide a b + l.u;
        v = high a b + l.v;
        across = both_away s.right a.0 b.0 p.0 (wide a b) l.u s.x_to l.across;
        down = both_away s.below a.1 b.1 p.1 (high a b) l.v s.y_to l.down;
        on =
            on_further W H (wide a b) (high a b) (omega (arith, s.slope)) (omega arith) (omega arith) l.u l.v (omega (arith, few.0)) (omega (arith, few.1))
            (on_longer W H (wide b c) (high b c) (omega (arith, s.slope)) (omega arith) (omega arith) l.u l.v l.on);
      })
