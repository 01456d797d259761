-- A mark put into a leaf, with room or split: each part of what an insert promises, at level 0.
use mathlib.Core.Path.{◌≡◌, refl, sym, ap, subst, ◌∙◌}
use mathlib.Core.List.{List, [], ◌∷◌}
use mathlib.Core.Logic.{⊎_elim}
use Prim.Native.Nat.{ℕ, zero, ◌+◌, ◌≤◌, ◌<◌}
use native.Mathlib.Omega.{arith}
use lib.ListN.{length}
use Rattle.std.specs.Prelude.{None, Some}
use Rattle.geometry.specs.Layout.{most_leaf}
use Rattle.geometry.specs.Limits.{most_alphabet}
use Rattle.lists.proofs.Items.{all_left, all_right}
use Rattle.lists.specs.Items.{AllBelow}
use Rattle.lists.specs.Joins.{joined}
use Rattle.sequence.proofs.Counts.{is_mark-same}
use Rattle.sequence.proofs.Edits.{length-insert, all_below-insert}
use Rattle.sequence.specs.Definition1.{count, insert}
use Rattle.shape.proofs.Choice.{cond-le, cond-lt}
use Rattle.shape.proofs.Chop.{chop-fits}
use Rattle.shape.proofs.Marks.{insert_node-marks}
use Rattle.shape.specs.Blocks.{divides, splits}
use Rattle.shape.specs.Paths.{path}
use Rattle.shape.specs.Sizes.{one_to_a_byte, most}
use Rattle.shape.specs.Trees.{insert_node}
use Rattle.pool.specs.Blocks.{entries, leaf_marks}
use Rattle.pool.specs.Bytes.{shares}
use Rattle.pool.specs.Trees.{path_at}
use Rattle.pool.proofs.Blocks.{length-leaf}
use Rattle.pool.proofs.Changes.{only_wider}
use Rattle.pool_blocks.specs.Leaves.{MarkInserted}
use Rattle.pool_entries.specs.Summaries.{Is}
use Rattle.pool_holders.specs.Maps.{free_in, BlockTaken}
use Rattle.pool_holders.proofs.Takes.{taken-one, taken_free, taken-blocks, taken-entered, entered-none}
use Rattle.tree_splits.proofs.SoundBlocks.{block_written}
use Rattle.tree_splits.specs.Inserts.{InsertReady, Inserted, LeafSplit}

-- the path of a leaf is its block
leaf-path : (p : List ℕ) (i b : ℕ) → count b (path_at p zero i b) ≡ 1
unfolding path count
leaf-path p i b = omega (arith, is_mark-same b b refl)

-- two leaves bear marks of an alphabet where both together do
both_below : (σ : ℕ) (xs ys : List ℕ) → AllBelow σ (joined (λ x. x) (xs ∷ ys ∷ [])) → AllBelow σ xs × AllBelow σ ys
both_below σ xs ys all = (all_left _ xs _ all, all_left _ ys [] (all_right _ xs _ all))

module _ (b i c holder : ℕ) (p m : List ℕ) (ready : InsertReady p m 0 b i c holder) where
  pub ready-size : length (leaf_marks p b) ≡ entries p b
  ready-size = length-leaf p b 0 ready.block

  -- a full leaf splits, and there is a free block for it
  leaf-splits : most_leaf ≤ length (leaf_marks p b) → splits one_to_a_byte zero i (leaf_marks p b) ≡ 1
  unfolding splits divides
  leaf-splits full = cond-le most_leaf (length (leaf_marks p b)) 1 0 full

  leaf-whole : length (leaf_marks p b) < most_leaf → splits one_to_a_byte zero i (leaf_marks p b) ≡ 0
  unfolding splits divides
  leaf-whole room = cond-lt most_leaf (length (leaf_marks p b)) 1 0 room

  -- what its split needs, by the size that was read
  module _ (many : ℕ) (size : Is (entries p b) many) (full : most_leaf ≤ many) where
    pub full-room : 1 ≤ free_in m
    full-room = omega (arith, ready.room, leaf-splits (omega (arith, size.is, ready-size)))

    pub full_size : length (leaf_marks p b) ≡ most_leaf
    full_size = omega (arith, size.is, ready-size, ready.block.fits)

  pub place-last : i ≤ most_leaf + 1
  place-last = omega (arith, ready.last, ready-size, ready.block.fits)

  -- no split: one block is written, and the map is as before
  pub leaf_room : (many : ℕ) → Is (entries p b) many → many < most_leaf → length (leaf_marks p b) < most_leaf
  leaf_room many size room = omega (arith, size.is, ready-size)

  pub leaf-kept : (many : ℕ) → Is (entries p b) many → many < most_leaf → (q : List ℕ) → MarkInserted b i c p q
      → Inserted 0 b i c holder None p q m m
  unfolding insert_node
  leaf-kept many size room q put =
      record {
        shapes =
            ap (λ (x : List ℕ). x ∷ []) put.marks
            ∙ sym (chop-fits (most one_to_a_byte zero) (insert c i (leaf_marks p b)) (omega (arith, leaf_room many size room, length-insert c i (leaf_marks p b))));
        sound = (
          (
            block_written ready.block put.only.long put.form put.many (omega arith) (omega (arith, size.is)),
            rw put.marks (all_below-insert most_alphabet c i (leaf_marks p b) ready.symbol ready.below),
          ),
          tt,
        );
        blocks = λ x. refl;
        only = only_wider _ (λ x e. rw e (omega (arith, leaf-path p i b))) put.only;
        entered = entered-none holder m;
        took = omega (arith, leaf-whole (leaf_room many size room));
      }

  module _ (new : ℕ) (n : List ℕ) (taken : BlockTaken holder new m n) where
    pub new-inside : new < shares p
    new-inside = omega (arith, taken.inside, ready.map.blocks)

    pub new-other : b ≡ new → ⊥
    unfolding count
    new-other e = omega (arith, ready.agrees new, taken_free holder new m n ready.named taken, is_mark-same new b e)

    -- split: the leaf and the block taken are written
    pub leaf-parted : (many : ℕ) → Is (entries p b) many → most_leaf ≤ many → (q : List ℕ) → LeafSplit b new i c p q
        → Inserted 0 b i c holder (Some new) p q m n
    unfolding count
    leaf-parted many size full q split =
        let named : 0 < holder = ready.named in
        let all : AllBelow most_alphabet (joined (λ x. x) (leaf_marks q b ∷ leaf_marks q new ∷ [])) =
        subst (AllBelow most_alphabet) (sym (ap (joined (λ x. x)) split.marks ∙ insert_node-marks one_to_a_byte c zero i (leaf_marks p b)))
        (all_below-insert most_alphabet c i (leaf_marks p b) ready.symbol ready.below) in
        let halves = both_below most_alphabet (leaf_marks q b) (leaf_marks q new) all in
        record {
          shapes = split.marks;
          sound = (
            (
              block_written ready.block split.only.long split.form split.many (omega arith) (omega arith),
              halves.0,
            ),
            (
              (
                record {
                  inside = omega (arith, new-inside, split.only.long);
                  form = split.new_form;
                  enough = omega (arith, split.new_many);
                  fits = omega (arith, split.new_many);
                },
                halves.1,
              ),
              tt,
            ),
          );
          blocks = λ x. omega (arith, taken-blocks holder new m n named taken x);
          only =
              only_wider _
              (λ x w.
              ⊎_elim (λ e. rw e (omega (arith, leaf-path p i b)))
              (λ e. rw e (omega (arith, taken_free holder new m n named taken, taken-blocks holder new m n named taken new, is_mark-same new new refl))) w)
              split.only;
          entered = taken-entered holder new m n named taken;
          took = omega (arith, taken-one holder new m n named taken, leaf-splits (omega (arith, size.is, ready-size)));
        }
