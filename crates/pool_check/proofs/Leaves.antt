-- A leaf's marks, one by one.
use mathlib.Core.Bool.{Bool, true, false}
use mathlib.Core.List.{List}
use mathlib.Core.Path.{◌≡◌, refl}
use Prim.Native.Nat.{ℕ, ◌+◌, ◌-◌, ◌≤◌, ◌<◌}
use native.Mathlib.Omega.{arith}
use Rattle.std.specs.Bool.{MatchBool}
use Rattle.std.specs.List.{AllWithin, HoldsAt, slice_range}
use lib.ListN.{length, drop, length-take, length-drop}
use Rattle.lists.proofs.Items.{all_below-get_or, all_below-from-get_or}
use Rattle.lists.specs.Items.{AllBelow}
use Rattle.pool.proofs.Blocks.{block_inside}
use Rattle.geometry.specs.Layout.{most_leaf}
use Rattle.pool.specs.Blocks.{entries, leaf_marks}
use Rattle.pool.specs.Bytes.{shares, block_at}
use Rattle.pool_check.specs.Says.{Says}
use Rattle.pool_check.proofs.Deciding.{say-yes, say-no}

module _ (p : List ℕ) (b many : ℕ) (inside : b < shares p) (size : many ≡ entries p b) (fits : many ≤ most_leaf) where
  pub length-marks : length (leaf_marks p b) ≡ many
  unfolding leaf_marks
  length-marks = omega (arith, length-take (entries p b) (drop (block_at b) p), length-drop (block_at b) p, block_inside p b inside)

  module _ (at alphabet : ℕ) (place : at ≡ block_at b) where
    -- the stretch of the pool that they are
    abbrev pub Stretch : List ℕ
    Stretch = slice_range p at (at + many)

    pub stretch : Stretch ≡ leaf_marks p b
    unfolding leaf_marks
    stretch = let e : at + many - at ≡ entries p b = omega arith in rw (e, place) refl

    -- a test of all of them
    pub all-below : (r : Bool) → MatchBool r (AllWithin (λ x. x < alphabet) Stretch 0 (length Stretch)) ((k : ℕ) × (k < length Stretch) × HoldsAt (λ x. alphabet ≤ x) Stretch k)
        → Says r (AllBelow alphabet (leaf_marks p b))
    all-below true each =
        let all : AllWithin (λ x. x < alphabet) (leaf_marks p b) 0 (length (leaf_marks p b)) = rw stretch at each in
        say-yes (all_below-from-get_or alphabet (leaf_marks p b) (λ j low. all j 0 (omega arith) low))
    all-below false one =
        let other : (k : ℕ) × (k < length (leaf_marks p b)) × HoldsAt (λ x. alphabet ≤ x) (leaf_marks p b) k = rw stretch at one in
        say-no (λ all. omega (arith, all_below-get_or alphabet (leaf_marks p b) all other.0 other.1, other.2 0))
