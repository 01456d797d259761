-- Rank by itself: at both ends, from one place to the next, and over a stretch.
use mathlib.Core.Path.{◌≡◌, refl, ap}
use mathlib.Core.List.{List}
use Prim.Native.Nat.{ℕ, suc, ◌+◌, ◌-◌, ◌≤◌, ◌<◌}
use native.Mathlib.Nat.{le_refl}
use native.Mathlib.Omega.{arith}
use lib.ListN.{length, get_or, take, drop, length-drop}
use lib.Seq.{take_all, get_or-drop}
use Rattle.lists.proofs.Measures.{measure-take-le, measure-stretch, measure-stretches, measure-monotone, measure-step}
use Rattle.sequence.specs.Definition1.{is_mark, count, access, rank}
use Rattle.sequence.proofs.Counts.{count-one, count-take-le, count-additive}

module _ (c : ℕ) (xs : List ℕ) where
  pub rank-zero : rank c xs 0 ≡ 0
  unfolding rank count
  rank-zero = refl

  pub rank-past : (i : ℕ) → length xs ≤ i → rank c xs i ≡ count c xs
  unfolding rank
  rank-past i h = ap (count c) (take_all i xs h)

  pub rank-length : rank c xs (length xs) ≡ count c xs
  rank-length = rank-past (length xs) (le_refl (length xs))

  pub rank-le-count : (i : ℕ) → rank c xs i ≤ count c xs
  unfolding rank
  rank-le-count i = measure-take-le (count c) (count-additive c) i xs

  -- the place i + 1 counts if it bears c
  pub rank_step : (i : ℕ) → i < length xs → rank c xs (suc i) ≡ rank c xs i + is_mark c (access xs (suc i))
  unfolding rank access
  rank_step i h =
      let e : suc i - 1 ≡ i = omega arith in
      rw (e, ← count-one) (measure-step (count c) (count-additive c) xs i h)

  pub rank-monotone : (a b : ℕ) → a ≤ b → rank c xs a ≤ rank c xs b
  unfolding rank
  rank-monotone a b h = measure-monotone (count c) (count-additive c) xs a b h

  -- the rank at b is that at a and the count in the stretch between
  pub rank-stretch : (a b : ℕ) → a ≤ b → rank c xs b ≡ rank c xs a + count c (take (b - a) (drop a xs))
  unfolding rank
  rank-stretch a b h = measure-stretch (count c) (count-additive c) xs a b h

  -- by at most 1 for each place
  pub rank-grows : (a b : ℕ) → a ≤ b → rank c xs b ≤ rank c xs a + (b - a)
  rank-grows a b h = omega (arith, rank-stretch a b h, count-take-le c (b - a) (drop a xs))

  pub rank-le-place : (i : ℕ) → rank c xs i ≤ i
  unfolding rank
  rank-le-place i = count-take-le c i xs

  -- a stretch from a to e, cut at b
  pub count-stretches : (a b e : ℕ) → a ≤ b → b ≤ e
      → count c (take (e - a) (drop a xs)) ≡ count c (take (b - a) (drop a xs)) + count c (take (e - b) (drop b xs))
  count-stretches a b e h k = measure-stretches (count c) (count-additive c) xs a b e h k

  -- a stretch that is one mark longer, at i from 0
  pub count-stretch-step : (a i : ℕ) → a ≤ i → i < length xs
      → count c (take (i + 1 - a) (drop a xs)) ≡ count c (take (i - a) (drop a xs)) + is_mark c (get_or xs i 0)
  count-stretch-step a i h l =
      let e : i + 1 - a ≡ suc (i - a) = omega arith in
      let at_i : a + (i - a) ≡ i = omega arith in
      let within : i - a < length (drop a xs) = simp length-drop (omega arith) in
      rw e (rw (get_or-drop, at_i, count-one) at (measure-step (count c) (count-additive c) (drop a xs) (i - a) within))
