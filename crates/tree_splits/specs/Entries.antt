-- A branch's entries as lists of bytes: what one says, and that what it says is true.
use Rattle.std.specs.Prelude.{◌≡◌, List, ◌∷◌, ◌++◌, ℕ, ◌<◌, get_or, take, drop}
use Rattle.geometry.specs.Limits.{most_alphabet}
use Rattle.sequence.specs.Definition1.{count}
use Rattle.shape.specs.Nested.{flat, marks_in}
use Rattle.shape.specs.Sizes.{one_to_a_byte, least}
use Rattle.pool.specs.Sound.{SoundBlock, SoundBelow}
use Rattle.pool.specs.Trees.{shape_at}
use Rattle.pool_blocks.specs.Contents.{link_in, below_in, count_in}
use Rattle.pool_entries.specs.declared.Summary.{Summary}

-- the list with one item more, at number k
abbrev pub put_at : {A : Type 0} → ℕ → A → List A → List A
put_at k x xs = take k xs ++ x ∷ drop k xs

-- an entry says this child and this summary
pub record EntryHolds (child : ℕ) (summary : Summary) (entry : List ℕ) : Type 0 where
  pub link : link_in entry ≡ child
  pub marks : below_in entry ≡ summary.marks
  pub counts : (c : ℕ) → c < most_alphabet → count_in entry c ≡ get_or summary.counts c 0

-- an entry says how many marks stand below its child, a block of level h, and how many of them are each symbol
pub record TrueEntry (p : List ℕ) (h : ℕ) (entry : List ℕ) : Type 0 where
  pub marks : below_in entry ≡ marks_in h (shape_at p h (link_in entry))
  pub counts : (c : ℕ) → c < most_alphabet → count_in entry c ≡ count c (flat h (shape_at p h (link_in entry)))

-- a block of level h that is no root, with all below it, is sound
abbrev pub SoundChild : List ℕ → ℕ → ℕ → Type 0
SoundChild p h x = SoundBlock p (least one_to_a_byte h) h x × SoundBelow p most_alphabet h x
