-- The way down to the leaf that takes a place, by level: the block entered, and the child taken there.
use Rattle.std.specs.Prelude.{◌≡◌, List, ℕ, suc, ◌-◌, ◌≤◌, ◌<◌, length, get_or, Option, None}
use Rattle.pool.specs.Blocks.{entries, link, marks_below}
use Rattle.pool_entries.specs.Seats.{Seated}
use Rattle.pool_entries.specs.Summaries.{Is}
use Rattle.pool_entries.specs.declared.Seat.{Seat}
use Rattle.tree_splits.specs.Inserts.{InsertReady, Inserted}
use Rattle.tree_insert.specs.declared.descent.Step.{Step}

-- some mark can be put in at place i of the tree at block b
pub record Insertable (p : List ℕ) (h b i : ℕ) : Type 0 where
  pub map : List ℕ
  pub symbol : ℕ
  pub holder : ℕ
  pub ready : InsertReady p map h b i symbol holder

-- one level down: the child taken takes place i of the branch, and this is its block and the place in it
pub record Down (p : List ℕ) (step : Step) (i block place : ℕ) : Type 0 where
  pub seat : Seat
  pub seated : Seated (marks_below p step.block) (entries p step.block) i seat
  pub chosen : step.child ≡ seat.k
  pub link : Is (link p step.block seat.k) block
  pub left : place ≡ i - seat.before

-- the step of a way at a level
abbrev pub step_at : List Step → ℕ → Step
step_at way j = get_or way j (record { block = 0; child = 0 })

-- the way from place i of block b of level h to a place of a leaf; there is a place at each level
pub record WayTo (p : List ℕ) (h b i : ℕ) (way : List Step) (place : ℕ) : Type 0 where
  pub places : ℕ → ℕ
  pub block : (step_at way h).block ≡ b
  pub first : places h ≡ i
  pub last : places 0 ≡ place
  pub steps : (j : ℕ) → j < h → Down p (step_at way (suc j)) (places (suc j)) (step_at way j).block (places j)

-- the way back up: a mark c was put in below the way's block of level j, which came to g; q and l are the pool and the map now, p and m
-- before the insert
pub record Climbing (p m : List ℕ) (h b i c holder : ℕ) (way : List Step) (j : ℕ) (g : Option ℕ) (q l : List ℕ) : Type 0 where
  pub place : ℕ
  pub found : WayTo p h b i way place
  pub ready : InsertReady p m h b i c holder
  pub low : j ≤ h
  pub inserted : Inserted j (step_at way j).block (found.places j) c holder g p q m l

-- the same of some insert
pub record Climber (h c holder : ℕ) (way : List Step) (j : ℕ) (g : Option ℕ) (q l : List ℕ) : Type 0 where
  pub pool : List ℕ
  pub map : List ℕ
  pub block : ℕ
  pub place : ℕ
  pub climbing : Climbing pool map h block place c holder way j g q l

-- each insert that has come up to level j has now come up to level j'
pub record Climbed (h c holder : ℕ) (way : List Step) (j : ℕ) (g : Option ℕ) (q l : List ℕ)
    (j' : ℕ) (g' : Option ℕ) (q' l' : List ℕ) : Type 0 where
  pub long : length q' ≡ length q
  pub long_map : length l' ≡ length l
  pub some : Climber h c holder way j' g' q' l'
  pub each : (p m : List ℕ) (b i : ℕ) → Climbing p m h b i c holder way j g q l
      → Climbing p m h b i c holder way j' g' q' l'

-- some insert has come up to level j, and split nothing there
pub record Counter (h c : ℕ) (way : List Step) (j : ℕ) (q : List ℕ) : Type 0 where
  pub holder : ℕ
  pub map : List ℕ
  pub climber : Climber h c holder way j None q map

-- each such insert has now come up to level j', and split nothing more
pub record CountedUp (h c : ℕ) (way : List Step) (j : ℕ) (q : List ℕ) (j' : ℕ) (q' : List ℕ) : Type 0 where
  pub long : length q' ≡ length q
  pub some : Counter h c way j' q'
  pub each : (holder : ℕ) (l : List ℕ) → Climber h c holder way j None q l
      → Climbed h c holder way j None q l j' None q' l
