-- A sound pool, point by point as docs/LAYOUT.md has it.
use Rattle.std.specs.Prelude.{◌≡◌, List, ◌⊎◌, ℕ, zero, suc, ◌+◌, ◌*◌, ◌%◌, ◌≤◌, ◌<◌, length}
use Rattle.geometry.specs.Layout as Layout
use Rattle.geometry.specs.Limits.{block_size, shortest_pool, longest_pool, names, least_alphabet, most_alphabet, marks_per_share}
use Rattle.lists.specs.Items.{AllBelow}
use Rattle.sequence.specs.Definition1.{count}
use Rattle.shape.specs.Fill.{root_least}
use Rattle.shape.specs.Nested.{flat, marks_in}
use Rattle.shape.specs.Sizes.{one_to_a_byte, least, most}
use Rattle.pool.specs.Blocks.{form_of, entries, leaf_marks, link, marks_below, count_below}
use Rattle.pool.specs.Bytes.{byte, shares, record_at}
use Rattle.pool.specs.Names.{record_of, held_blocks}
use Rattle.pool.specs.Shares.{promised_shares}
use Rattle.pool.specs.Trees.{shape_at}

-- a length that a pool may have
pub record LengthAllowed (bytes : ℕ) : Type 0 where
  pub whole : bytes % block_size ≡ 0
  pub shortest : shortest_pool ≤ bytes
  pub longest : bytes ≤ longest_pool

-- the header says this layout, and nothing else
pub record SoundHeader (p : List ℕ) : Type 0 where
  pub layout : byte p 0 ≡ Layout.layout_number
  pub zeros : (j : ℕ) → 1 ≤ j → j < Layout.header_size → byte p j ≡ 0

-- a block of level h is one of the pool's, of the form that marks one to a byte have, with so many entries at least and no more than fit
pub record SoundBlock (p : List ℕ) (fewest h b : ℕ) : Type 0 where
  pub inside : b < shares p
  pub form : form_of p b ≡ Layout.form_marks
  pub enough : fewest ≤ entries p b
  pub fits : entries p b ≤ most one_to_a_byte h

-- entry k of a branch says how many marks stand below child k, and how many of them are each symbol
pub record Tells (p : List ℕ) (h b k : ℕ) : Type 0 where
  pub marks : marks_below p b k ≡ marks_in h (shape_at p h (link p b k))
  pub counts : (c : ℕ) → c < most_alphabet → count_below p b k c ≡ count c (flat h (shape_at p h (link p b k)))

-- a leaf's marks are below the alphabet's size; a branch's children are sound in turn, and its entries tell their marks
abbrev pub SoundBelow : List ℕ → ℕ → ℕ → ℕ → Type 0
SoundBelow p alphabet zero b = AllBelow alphabet (leaf_marks p b)
SoundBelow p alphabet (suc h) b =
    (k : ℕ) → k < entries p b
    → SoundBlock p (least one_to_a_byte h) h (link p b k) × SoundBelow p alphabet h (link p b k) × Tells p h b k

-- a closed name's record is zeros
abbrev pub ClosedName : List ℕ → ℕ → Type 0
ClosedName p name = (j : ℕ) → j < Layout.record_size → byte p (record_at name + j) ≡ 0

-- an open name's record, its tree aside
pub record OpenRecord (p : List ℕ) (name : ℕ) : Type 0 where
  pub kind : (record_of p name).kind ≡ Layout.kind_marks
  pub alphabet_least : least_alphabet ≤ (record_of p name).alphabet
  pub alphabet_most : (record_of p name).alphabet ≤ most_alphabet
  pub promise : 1 ≤ (record_of p name).q
  pub height : (record_of p name).height ≤ Layout.most_height
  pub zero_byte : byte p (record_at name + Layout.zero_at) ≡ 0
  pub spare : (j : ℕ) → Layout.spare_at ≤ j → j < Layout.record_size → byte p (record_at name + j) ≡ 0
  pub room : (record_of p name).length ≤ marks_per_share * (record_of p name).q

-- an open name's record and tree
pub record OpenName (p : List ℕ) (name : ℕ) : Type 0 where
  pub entry : OpenRecord p name
  pub root : SoundBlock p (root_least (record_of p name).height) (record_of p name).height (record_of p name).root
  pub below : SoundBelow p (record_of p name).alphabet (record_of p name).height (record_of p name).root
  pub length : (record_of p name).length ≡ marks_in (record_of p name).height (shape_at p (record_of p name).height (record_of p name).root)

-- no number stands twice in the list
abbrev pub Distinct : List ℕ → Type 0
Distinct bs = (b : ℕ) → count b bs ≤ 1

-- a sound pool
pub record Sound (p : List ℕ) : Type 0 where
  pub allowed : LengthAllowed (length p)
  pub header : SoundHeader p
  pub each : (name : ℕ) → name < names → ClosedName p name ⊎ OpenName p name
  -- no block in two places, over all names together
  pub apart : Distinct (held_blocks p)
  -- the shares promised to all names together are the pool's at most
  pub promised : promised_shares p ≤ shares p
