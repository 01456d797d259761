-- What the parts of the check decide.
use Rattle.std.specs.Prelude.{Bool, true, List, ◌⊎◌, ◌≡◌, ℕ, zero, suc, ◌+◌, ◌≤◌, ◌<◌, length}
use Rattle.geometry.specs.Limits.{block_size, most_alphabet, most_shares}
use Rattle.lists.specs.Items.{AllBelow}
use Rattle.sequence.specs.Definition1.{count}
use Rattle.shape.specs.Sizes.{one_to_a_byte, least}
use Rattle.pool.specs.Blocks.{leaf_marks, link, marks_below, count_below}
use Rattle.pool.specs.Bytes.{byte}
use Rattle.pool.specs.Sound.{SoundBlock, SoundBelow, Tells, ClosedName, OpenName, Sound}
use Rattle.pool.specs.Trees.{own_marks, own_count}
use Rattle.pool_holders.specs.Maps.{MapOf}
use Rattle.pool_check.specs.Says.{Says}

-- so many bytes from an address on are 0
abbrev pub Zeros : List ℕ → ℕ → ℕ → Type 0
Zeros p at many = (j : ℕ) → j < many → byte p (at + j) ≡ 0

-- a leaf's marks are below the alphabet's size; a branch has none
abbrev pub MarksFit : List ℕ → ℕ → ℕ → ℕ → Type 0
MarksFit p alphabet zero b = AllBelow alphabet (leaf_marks p b)
MarksFit p alphabet (suc h) b = Unit {0}

-- what stands below a block, the marks of a leaf aside
abbrev pub SoundUnder : List ℕ → ℕ → ℕ → ℕ → Type 0
SoundUnder p alphabet zero b = Unit {0}
SoundUnder p alphabet (suc h) b = SoundBelow p alphabet (suc h) b

-- a tree that was walked: its block, and what stands below it
abbrev pub WalkedTree : List ℕ → ℕ → ℕ → ℕ → ℕ → Type 0
WalkedTree p alphabet fewest h b = SoundBlock p fewest h b × SoundUnder p alphabet h b

-- so many children of a branch in turn, from child k on: each at level h, with what its entry says of it
abbrev pub SoundChildren : List ℕ → ℕ → ℕ → ℕ → ℕ → ℕ → Type 0
SoundChildren p alphabet h b k left = (j : ℕ) → k ≤ j → j < k + left
    → SoundBlock p (least one_to_a_byte h) h (link p b j) × SoundBelow p alphabet h (link p b j) × Tells p h b j

-- entry k of a branch is the summary of the block `child`, by that block's own bytes
pub record Repeats (p : List ℕ) (h b k child : ℕ) : Type 0 where
  pub marks : marks_below p b k ≡ own_marks p h child
  pub counts : (c : ℕ) → c < most_alphabet → count_below p b k c ≡ own_count p h child c

-- the same, and of a leaf its marks are below the alphabet's size
pub record Matches (p : List ℕ) (alphabet h b k child : ℕ) : Type 0 where
  pub fit : MarksFit p alphabet h child
  pub same : Repeats p h b k child

-- a leaf's marks filled up to a block's length: every symbol stands in both equally often
pub record Padded (leaf marks : List ℕ) : Type 0 where
  pub long : length marks ≡ block_size
  pub counts : (c : ℕ) → c < most_alphabet → count c marks ≡ count c leaf

-- no mark c is told, or as many as there are, and c is below the alphabet's size
abbrev pub Claim : List ℕ → ℕ → ℕ → ℕ → Type 0
Claim marks alphabet c told = (told ≡ 0) ⊎ ((told ≡ count c marks) × (c < alphabet))

-- a name is closed or open, and sound as such
abbrev pub SoundName : List ℕ → ℕ → Type 0
SoundName p name = ClosedName p name ⊎ OpenName p name

-- the whole check: exact, and where the pool is sound the map says who holds each block
pub record Checked (p : List ℕ) (r : Bool) (map : List ℕ) : Type 0 where
  pub says : Says r (Sound p)
  pub long : r ≡ true → length map ≡ most_shares
  pub holders : r ≡ true → MapOf p map
