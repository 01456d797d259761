-- An open name's tree was changed, in its own blocks and free ones, and then its record was written: the name is open with the new tree,
-- and nothing else changed. The write touches no block, so the tree stands after it as before.
use mathlib.Core.Path.{◌≡◌, sym, ap, ap₂, subst, ◌∙◌}
use mathlib.Core.List.{List}
use mathlib.Core.Logic.{inr}
use Prim.Native.Nat.{ℕ, ◌+◌, ◌*◌, ◌≤◌, ◌<◌}
use native.Mathlib.Omega.{arith}
use lib.ListN.{length, get_or}
use Rattle.geometry.specs.Layout.{most_height}
use Rattle.geometry.specs.Limits.{most_alphabet, marks_per_share}
use Rattle.geometry.specs.declared.Record.{Record}
use Rattle.lists.specs.Items.{AllBelow}
use Rattle.sequence.proofs.Counts.{standing-all}
use Rattle.protocol.specs.Commands.{edited}
use Rattle.protocol.specs.State.{Part, opened}
use Rattle.sequence.specs.Definition1.{count}
use Rattle.shape.proofs.Instances.{height-in-pool}
use Rattle.shape.specs.Fill.{FilledT, root_least}
use Rattle.shape.specs.Nested.{marks_in}
use Rattle.shape.specs.Sizes.{one_to_a_byte}
use Rattle.shape.specs.Trees.{Tree, marks_t}
use Rattle.pool.proofs.SoundNames.{open_blocks}
use Rattle.pool.proofs.SoundTrees.{sound-filled, sound-readable}
use Rattle.pool.proofs.Ways.{Readable}
use Rattle.pool.specs.Changes.{SameBlock, Only}
use Rattle.pool.specs.Meaning.{meaning_of}
use Rattle.pool.specs.Names.{record_of, tree_of, blocks_of, held_blocks}
use Rattle.pool.specs.Records.{PutRecord}
use Rattle.pool.specs.Sound.{SoundBlock, SoundBelow, OpenName}
use Rattle.pool.specs.Trees.{shape_at, tree_at, blocks_at}
use Rattle.pool.specs.Untouched.{SameBlocks}
use Rattle.pool.specs.Words.{word_limit}
use Rattle.pool.proofs.Changes.{directory-blocks}
use Rattle.pool.proofs.Meaning.{open-meaning}
use Rattle.pool.proofs.TreesKept.{same_block, shape-kept, blocks-kept, below-kept}
use Rattle.pool_holders.specs.Maps.{is_free}
use Rattle.tree_insert.proofs.Outcomes.{sound-narrower}
use Rattle.name_open_close.proofs.ExactMaps.{Turns, own-or-free-in}
use Rattle.name_open_close.proofs.NameChanges.{others-untouched, header-kept, pool-long, updated}
use Rattle.name_open_close.specs.Updates.{NameIn, Updated}
use Rattle.name_edits.specs.Trees.{Storable, with_tree}
use Rattle.name_edits.proofs.TreesReady.{promise-most}

-- the blocks that a name's record leads to
abbrev pub blocks_below : List ℕ → ℕ → List ℕ
blocks_below p name = blocks_at p (record_of p name).height (record_of p name).root

-- what edits of a name's tree leave, whether marks came or went: t is the tree now, at the block `root`
pub record TreeChanged (name : ℕ) (t : Tree) (level root : ℕ) (p q m n : List ℕ) : Type 0 where
  pub tree : tree_at q level root ≡ t
  pub block : SoundBlock q (root_least level) level root
  pub below : SoundBelow q most_alphabet level root
  pub blocks : (x : ℕ) → count x (blocks_at q level root) + is_free n x ≡ count x (blocks_below p name) + is_free m x
  pub only : Only (λ x. 1 ≤ count x (blocks_below p name) + is_free m x) p q
  pub long : length n ≡ length m
  pub each : (x : ℕ) → Turns (name + 1) (get_or m x 0) (get_or n x 0)

-- its marks are the name's: of its alphabet, so many, and within its promise
pub record MarksRecorded (r : Record) (t : Tree) (marks : ℕ) : Type 0 where
  pub alphabet : AllBelow r.alphabet (marks_t t)
  pub many : marks ≡ length (marks_t t)
  pub room : marks ≤ marks_per_share * r.q

module _ (p q m n : List ℕ) (name : ℕ) (within : NameIn p m name) (old : OpenName p name)
    (t : Tree) (level root marks : ℕ) (changed : TreeChanged name t level root p q m n) (fit : MarksRecorded (record_of p name) t marks) where
  new-marks : marks ≡ marks_in level (shape_at q level root)
  new-marks = fit.many ∙ ap (λ (t : Tree). length (marks_t t)) (sym changed.tree)

  new-filled : FilledT one_to_a_byte (tree_at q level root)
  new-filled = sound-filled q most_alphabet (root_least level) level root changed.block changed.below

  new-height : level ≤ most_height
  new-height = height-in-pool (tree_at q level root) new-filled (omega (arith, new-marks, fit.room, promise-most p name within.low within.sound))

  -- the record can say its root
  pub storable : Storable q name level root
  storable =
      let root-low : root < word_limit = omega (arith, changed.block.inside, changed.only.long, within.sound.allowed.longest) in
      record { low = within.low; long = omega (arith, changed.only.long, within.sound.allowed.shortest); height = new-height; block = root-low }

  new-below : SoundBelow q (record_of p name).alphabet level root
  new-below =
      sound-narrower q most_alphabet (record_of p name).alphabet level root changed.below
      (subst (λ (t : Tree). AllBelow (record_of p name).alphabet (marks_t t)) (sym changed.tree) fit.alphabet)

  new-readable : Readable q level root
  new-readable = sound-readable q most_alphabet (root_least level) level root (omega arith) changed.block changed.below

  -- the record is written: r is the pool then
  module _ (r : List ℕ) (put : PutRecord name (with_tree (record_of p name) level root marks) q r) where
    block_same : (b : ℕ) → SameBlock b q r
    block_same = directory-blocks put.same (omega (arith, within.low))

    blocks-same : SameBlocks (blocks_at q level root) q r
    blocks-same = standing-all (λ b. SameBlock b q r) (blocks_at q level root) (λ b here. block_same b)

    new-shape : shape_at r level root ≡ shape_at q level root
    new-shape = shape-kept q r put.same.long level root new-readable blocks-same

    new-open : OpenName r name
    new-open =
        let is : record_of r name ≡ with_tree (record_of p name) level root marks = put.is in
        record {
          entry =
              record {
                kind = rw is old.entry.kind;
                alphabet_least = rw is old.entry.alphabet_least;
                alphabet_most = rw is old.entry.alphabet_most;
                promise = rw is old.entry.promise;
                height = rw is new-height;
                zero_byte = put.zero_byte;
                spare = put.spare;
                room = rw is fit.room;
              };
          root = rw is (same_block q r root (block_same root) put.same.long (root_least level) level changed.block);
          below = rw is (below-kept q r put.same.long (record_of p name).alphabet level root new-readable blocks-same new-below);
          length = rw is (new-marks ∙ ap (marks_in level) (sym new-shape));
        }

    new-tree : tree_of r name ≡ t
    new-tree =
        ap {B = Tree} (λ (s : Record). tree_at r s.height s.root) put.is
        ∙ ap {B = Tree} (λ x. record { height = level; root = x }) new-shape ∙ changed.tree

    new-means : meaning_of r name ≡ opened (record_of p name).alphabet (record_of p name).q t
    new-means =
        open-meaning r name new-open
        ∙ ap₂ {C = Part Tree} (λ (s : Record) (t : Tree). opened s.alphabet s.q t) put.is new-tree

    new-blocks : blocks_of r name ≡ blocks_at q level root
    new-blocks =
        open_blocks r name new-open ∙ ap (λ (s : Record). blocks_at r s.height s.root) put.is
        ∙ blocks-kept q r put.same.long level root new-readable blocks-same

    kept : (x : ℕ) → count x (blocks_of r name) + is_free n x ≡ count x (blocks_of p name) + is_free m x
    kept x = omega (arith, ap (count x) new-blocks, ap (count x) (open_blocks p name old), changed.blocks x)

    own : (b : ℕ) → 1 ≤ count b (blocks_below p name) + is_free m b → count b (held_blocks p) ≤ count b (blocks_of p name)
    own b either =
        own-or-free-in p m within.map within.sound name within.low b (omega (arith, ap (count b) (open_blocks p name old)))

    pub tree-stored : (edit : Tree → Tree) → t ≡ edit (tree_of p name) → Updated name (edited edit (meaning_of p name)) p r n
    tree-stored edit done =
        let These : ℕ → Type 0 = λ x. 1 ≤ count x (blocks_below p name) + is_free m x in
        let put_in : Record = with_tree (record_of p name) level root marks in
        updated p r m n name within.low within.sound within.map kept
        (others-untouched p q r name within.low These own changed.only put_in put)
        (pool-long p q r name within.low These own changed.only put_in put)
        changed.long changed.each
        (header-kept p q r name within.low These own changed.only put_in put)
        (inr new-open)
        (omega (arith, ap (λ (s : Record). s.q) put.is))
        (edited edit (meaning_of p name))
        (new-means ∙ ap (opened (record_of p name).alphabet (record_of p name).q) done ∙ sym (ap (edited edit) (open-meaning p name old)))
