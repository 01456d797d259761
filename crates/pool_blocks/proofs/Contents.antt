-- A block's entries as a stretch of bytes, stretches of a block that a change leaves alone, and the bytes that so many entries take.
use mathlib.Core.Path.{◌≡◌, ap, ◌∙◌}
use mathlib.Core.List.{List}
use Prim.Native.Nat.{ℕ, ◌+◌, ◌*◌, ◌≤◌, ◌<◌, max}
use native.Mathlib.Nat.{mul-le-mul_left}
use native.Mathlib.Omega.{arith}
use lib.ListN.{take, drop}
use Rattle.geometry.specs.Layout.{form_at}
use Rattle.geometry.specs.Limits.{block_size}
use Rattle.lists.proofs.Cuts.{cut-same}
use Rattle.shape.proofs.Choice.{by-leb}
use Rattle.pool.specs.Blocks.{entries}
use Rattle.pool.specs.Bytes.{block_at}
use Rattle.pool.specs.Changes.{Only}
use Rattle.pool.specs.Words.{Moved}
use Rattle.pool_blocks.specs.Contents.{contents, Room, Counted}

-- a block's entries, by their number and the bytes that so many take
pub contents-is : (unit : ℕ) (p : List ℕ) (b n used : ℕ) → entries p b ≡ n → unit * n ≡ used → contents unit p b ≡ take used (drop (block_at b) p)
unfolding contents
contents-is unit p b n used many bytes =
    ap (λ (k : ℕ). take (unit * k) (drop (block_at b) p)) many ∙ ap (λ (k : ℕ). take k (drop (block_at b) p)) bytes

-- stretches of a block that a change leaves alone, from its start and from some byte on
module _ {These : ℕ → Type 0} {p q : List ℕ} (o : Only These p q) (b : ℕ) (other : These b → ⊥) where
  pub stretch-other : (i n : ℕ) → i + n ≤ block_size → take n (drop (block_at b + i) q) ≡ take n (drop (block_at b + i) p)
  stretch-other i n h =
      cut-same p q (block_at b + i) n o.long
      (λ j below. let e : block_at b + i + j ≡ block_at b + (i + j) = omega arith in rw e (o.others b other (i + j) (omega arith)))

  pub start-other : (n : ℕ) → n ≤ block_size → take n (drop (block_at b) q) ≡ take n (drop (block_at b) p)
  start-other n h = cut-same p q (block_at b) n o.long (λ j below. o.others b other j (omega arith))

-- k entries of so many that fit
pub record Measured (unit k many : ℕ) : Type 0 where
  pub front : unit * k ≤ unit * many
  pub fits : unit * many ≤ form_at
  pub few : many ≤ form_at

-- where entries fit, fewer do
room-fewer : (unit k many : ℕ) → k ≤ many → Room unit many → Room unit k
room-fewer unit k many less room =
    record {
      few = omega (arith, room.few);
      fits = omega (arith, mul-le-mul_left unit less, room.fits);
    }

-- between two blocks as many fit as one of them has
pub room-between : (p : List ℕ) (unit left right here there many : ℕ) → Counted p left right here there → Room unit (entries p left) → Room unit (entries p right)
    → many ≤ max here there → Room unit many
room-between p unit left right here there many counted room room' less =
    by-leb {A = Unit {0}} (λ _. Room unit many) here there tt tt
    (λ (le : here ≤ there). room-fewer unit many _ (omega (arith, counted.right_many)) room')
    (λ (gt : there < here). room-fewer unit many _ (omega (arith, counted.left_many)) room)

-- n is what a block says, many what the code read
pub measured : (unit k n many : ℕ) → many ≡ n → k ≤ n → Room unit n → Measured unit k many
measured unit k n many is less room =
    let bytes : unit * many ≡ unit * n = ap (λ (x : ℕ). unit * x) is in
    record {
      front = omega (arith, mul-le-mul_left unit less);
      fits = omega (arith, room.fits);
      few = omega (arith, room.few);
    }

-- a move of entries by other names of its numbers
pub moved_as : {p q : List ℕ} {from to many from' to' many' : ℕ} → from ≡ from' → to ≡ to' → many ≡ many' → Moved from to many p q → Moved from' to' many' p q
moved_as e e' e'' m = rw (e, e', e'') at m
