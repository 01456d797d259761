-- Two neighbours joined or shared out, and what their parent does about it. The level is the neighbours', one below the parent's.
use Rattle.std.specs.Prelude.{◌≡◌, List, [], ◌∷◌, ◌++◌, map, ◌⊎◌, ℕ, suc, ◌+◌, ◌-◌, ◌≤◌, ◌<◌, take, drop}
use Rattle.geometry.specs.Layout.{least_branch}
use Rattle.geometry.specs.Limits.{most_alphabet}
use Rattle.lists.specs.Items.{All}
use Rattle.lists.specs.Joins.{joined}
use Rattle.sequence.specs.Definition1.{is_mark, count}
use Rattle.shape.specs.Level.{chop, mend}
use Rattle.shape.specs.Nested.{Node, flat, marks_in}
use Rattle.shape.specs.Sizes.{one_to_a_byte, least, most}
use Rattle.pool.specs.Blocks.{entries, link, marks_below, count_below}
use Rattle.pool.specs.Changes.{Only}
use Rattle.pool.specs.Sound.{SoundBlock, SoundBelow, Tells}
use Rattle.pool.specs.Trees.{shape_at, blocks_at}
use Rattle.pool.specs.Words.{word_limit}
use Rattle.pool_blocks.specs.Contents.{link_in, entry_list}
use Rattle.pool_holders.specs.Maps.{MapFits, Agrees}
use Rattle.tree_splits.specs.Entries.{TrueEntry, SoundChild}
use Rattle.tree_delete.specs.Removals.{Becomes}

-- a block of level h with so many entries at least is sound, with all below it
abbrev pub SoundPart : List ℕ → ℕ → ℕ → ℕ → Type 0
SoundPart p fewest h x = SoundBlock p fewest h x × SoundBelow p most_alphabet h x

-- two nodes that have no block in common, with entries enough for one node
pub record TwoNodes (p : List ℕ) (h left right : ℕ) : Type 0 where
  pub first : SoundPart p 1 h left
  pub second : SoundPart p 1 h right
  pub apart : (x : ℕ) → count x (blocks_at p h left) + count x (blocks_at p h right) ≤ 1
  pub enough : least one_to_a_byte h ≤ entries p left + entries p right

-- the entries of two nodes are in these blocks now, and those blocks have left their trees
pub record NodesMended (h left right : ℕ) (roots gone : List ℕ) (p q : List ℕ) : Type 0 where
  pub shapes : map (shape_at q h) roots ≡ chop (most one_to_a_byte h) (shape_at p h left ++ shape_at p h right)
  pub sound : All (SoundChild q h) roots
  pub blocks : (x : ℕ)
      → count x (joined (blocks_at q h) roots) + count x gone ≡ count x (blocks_at p h left) + count x (blocks_at p h right)
  pub only : Only (λ x. (x ≡ left) ⊎ (x ≡ right)) p q

-- both in the left one
abbrev pub NodesJoined : ℕ → ℕ → ℕ → List ℕ → List ℕ → Type 0
NodesJoined h left right p q = NodesMended h left right (left ∷ []) (right ∷ []) p q

-- half in each
abbrev pub NodesShared : ℕ → ℕ → ℕ → List ℕ → List ℕ → Type 0
NodesShared h left right p q = NodesMended h left right (left ∷ right ∷ []) [] p q

-- entries of which each one's child is sound, and what it says is true
abbrev pub AllGood : List ℕ → ℕ → List (List ℕ) → Type 0
AllGood p h es = All (λ e. SoundChild p h (link_in e) × TrueEntry p h e) es

-- children k and the next of the branch b can be mended: all others are good
pub record PairReady (p m : List ℕ) (h b k : ℕ) : Type 0 where
  pub map : MapFits p m
  pub block : SoundBlock p least_branch (suc h) b
  pub place : k + 1 < entries p b
  pub before : AllGood p h (take k (entry_list p b))
  pub behind : AllGood p h (drop (suc (suc k)) (entry_list p b))
  pub left : SoundPart p 1 h (link p b k)
  pub right : SoundPart p 1 h (link p b (k + 1))
  pub enough : least one_to_a_byte h ≤ entries p (link p b k) + entries p (link p b (k + 1))
  pub agrees : Agrees m (blocks_at p (suc h) b)
  pub short : marks_in h (shape_at p h (link p b k)) + marks_in h (shape_at p h (link p b (k + 1))) < word_limit

-- they are these two blocks
pub record PairOf (p m : List ℕ) (h b k left right : ℕ) : Type 0 where
  pub ready : PairReady p m h b k
  pub left_is : left ≡ link p b k
  pub right_is : right ≡ link p b (k + 1)

-- the branch's children with children k and the next mended
abbrev pub pair_shape : List ℕ → (h : ℕ) → ℕ → ℕ → Node (suc h)
pair_shape p h b k =
    take k (shape_at p (suc h) b)
    ++ (chop (most one_to_a_byte h) (shape_at p h (link p b k) ++ shape_at p h (link p b (k + 1)))
    ++ drop (suc (suc k)) (shape_at p (suc h) b))

abbrev pub PairMended : ℕ → ℕ → ℕ → List ℕ → List ℕ → List ℕ → List ℕ → Type 0
PairMended h b k p q m n = Becomes (suc h) b (pair_shape p h b k) p q m n

-- child k of the branch b may be one entry short, and its entry tells its marks; all others are good
pub record ShortReady (p m : List ℕ) (h b k : ℕ) : Type 0 where
  pub map : MapFits p m
  pub block : SoundBlock p least_branch (suc h) b
  pub place : k < entries p b
  pub others : (j : ℕ) → j < entries p b → (j ≡ k → ⊥) → SoundChild p h (link p b j) × Tells p h b j
  pub child : SoundPart p (least one_to_a_byte h - 1) h (link p b k)
  pub told : Tells p h b k
  pub agrees : Agrees m (blocks_at p (suc h) b)
  pub short : marks_in (suc h) (shape_at p (suc h) b) < word_limit

-- the same, but the entry says one mark more than there is, a c
pub record SettleReady (p m : List ℕ) (h b k c : ℕ) : Type 0 where
  pub map : MapFits p m
  pub block : SoundBlock p least_branch (suc h) b
  pub place : k < entries p b
  pub others : (j : ℕ) → j < entries p b → (j ≡ k → ⊥) → SoundChild p h (link p b j) × Tells p h b j
  pub child : SoundPart p (least one_to_a_byte h - 1) h (link p b k)
  pub symbol : c < most_alphabet
  pub marks : marks_below p b k ≡ marks_in h (shape_at p h (link p b k)) + 1
  pub counts : (d : ℕ) → d < most_alphabet → count_below p b k d ≡ is_mark d c + count d (flat h (shape_at p h (link p b k)))
  pub agrees : Agrees m (blocks_at p (suc h) b)
  pub short : marks_in (suc h) (shape_at p (suc h) b) < word_limit

-- the branch's children are mended as the shape function does
abbrev pub Mended : ℕ → ℕ → List ℕ → List ℕ → List ℕ → List ℕ → Type 0
Mended h b p q m n = Becomes (suc h) b (mend (least one_to_a_byte h) (most one_to_a_byte h) (shape_at p (suc h) b)) p q m n
