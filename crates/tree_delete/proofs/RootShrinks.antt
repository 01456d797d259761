-- A delete in a whole tree: the root stays, or its only child takes its place and its block is free. The child's tree is as the delete
-- left it, and the root's block is the one that is no longer counted.
use mathlib.Core.Path.{◌≡◌, refl, sym, ap, ◌∙◌}
use mathlib.Core.List.{List, [], ◌∷◌, map}
use Prim.Native.Nat.{ℕ, zero, suc, ◌+◌, ◌-◌, ◌≤◌, ◌<◌}
use native.Mathlib.Omega.{arith}
use lib.ListN.{length}
use Rattle.lists.specs.Froms.{from}
use Rattle.lists.specs.Sums.{sum_below}
use Rattle.sequence.specs.Definition1.{is_mark, count}
use Rattle.shape.proofs.Filled.{root-least}
use Rattle.shape.proofs.Instances.{one_to_a_byte-proper}
use Rattle.shape.specs.Nested.{Node}
use Rattle.shape.specs.Sizes.{one_to_a_byte}
use Rattle.shape.specs.Trees.{shrunk, delete_t}
use Rattle.pool.specs.Blocks.{entries, link}
use Rattle.pool.specs.Trees.{shape_at, blocks_at}
use Rattle.pool.proofs.Trees.{length-shape, count-blocks}
use Rattle.pool_entries.proofs.Levels.{at_leaf, at-branch}
use Rattle.pool_entries.specs.Summaries.{Is}
use Rattle.pool_holders.specs.Maps.{is_free, GivenBack}
use Rattle.pool_holders.proofs.Frees.{given-blocks, given-freed, freed-then}
use Rattle.tree_splits.proofs.SoundBlocks.{block-least}
use Rattle.tree_delete.specs.Removals.{DeleteReady, Deleted}
use Rattle.tree_delete.specs.Trees.{TreeDeleted}
use Rattle.tree_delete.proofs.PairMends.{own_block}

shrunk-whole : (h : ℕ) (x : Node (suc h)) → 1 < length x → shrunk (suc h) x ≡ record { height = suc h; root = x }
unfolding shrunk
shrunk-whole h [] many = absurd (omega arith)
shrunk-whole h (x ∷ []) many = absurd (omega arith)
shrunk-whole h (x ∷ y ∷ ys) many = refl

-- a leaf stays the root
leaf-kept : (p m : List ℕ) (b i r : ℕ) (q n : List ℕ) → Deleted 0 b i r p q m n
    → TreeDeleted 0 b i (record { mark = r; tree = record { level = 0; root = b } }) p q m n
unfolding delete_t shrunk
leaf-kept p m b i r q n del =
    record {
      taken = del.taken;
      tree = ap (λ (x : Node zero). record { height = zero; root = x }) del.tree.shape;
      block = block-least (omega arith) del.tree.block;
      below = del.tree.below;
      blocks = del.tree.blocks;
      only = del.tree.only;
      freed = del.tree.freed;
    }

module _ (p m : List ℕ) (h b i r : ℕ) (q n : List ℕ) (del : Deleted (suc h) b i r p q m n) where
  -- a branch with two children at least stays the root
  branch_kept : 1 < entries q b → TreeDeleted (suc h) b i (record { mark = r; tree = record { level = suc h; root = b } }) p q m n
  unfolding delete_t
  branch_kept many =
      record {
        taken = del.taken;
        tree =
            sym (shrunk-whole h (shape_at q (suc h) b) (omega (arith, length-shape q h b))) ∙ ap (shrunk (suc h)) del.tree.shape;
        block = block-least (omega arith) del.tree.block;
        below = del.tree.below;
        blocks = del.tree.blocks;
        only = del.tree.only;
        freed = del.tree.freed;
      }

  -- the only child takes its place
  module _ (ready : DeleteReady p m (suc h) b i) (few : entries q b ≤ 1) (o : List ℕ) (given : GivenBack b n o) where
    one : entries q b ≡ 1
    one = omega (arith, del.tree.block.enough, ready.block.enough)

    only_child : shape_at q (suc h) b ≡ shape_at q h (link q b 0) ∷ []
    unfolding from
    only_child = ap (λ (k : ℕ). map (shape_at q h) (from (link q b) 0 k)) one

    held : is_free n b ≡ 0
    held = omega (arith, del.tree.blocks b, ready.agrees b, own_block q (suc h) b)

    blocks-left : (x : ℕ) → count x (blocks_at q (suc h) b) ≡ is_mark x b + count x (blocks_at q h (link q b 0))
    unfolding sum_below
    blocks-left x = omega (arith, count-blocks q h b x, ap (λ (k : ℕ). sum_below k (λ j. count x (blocks_at q h (link q b j)))) one)

    branch-gone : TreeDeleted (suc h) b i (record { mark = r; tree = record { level = h; root = link q b 0 } }) p q m o
    unfolding delete_t shrunk
    branch-gone =
        let below = del.tree.below 0 (omega (arith, one)) in
        record {
          taken = del.taken;
          tree = ap (shrunk (suc h)) (sym only_child ∙ del.tree.shape);
          block = block-least (omega (arith, below.0.enough, root-least one_to_a_byte one_to_a_byte-proper h)) below.0;
          below = below.1;
          blocks = λ x. omega (arith, del.tree.blocks x, blocks-left x, given-blocks b n o given held x);
          only = del.tree.only;
          freed = freed-then m n o del.tree.freed (given-freed b n o given);
        }

-- The same as the code tells levels apart.
module _ (p m : List ℕ) (level b i r : ℕ) (q n : List ℕ) (del : Deleted level b i r p q m n) where
  pub root-leaf : level ≡ 0 → TreeDeleted level b i (record { mark = r; tree = record { level = level; root = b } }) p q m n
  root-leaf leaf =
      at_leaf (λ l. Deleted l b i r p q m n → TreeDeleted l b i (record { mark = r; tree = record { level = l; root = b } }) p q m n) level leaf
      (λ del. leaf-kept p m b i r q n del) del

  module _ (branch : level ≡ 0 → ⊥) where
    pub root_kept : 1 < entries q b → TreeDeleted level b i (record { mark = r; tree = record { level = level; root = b } }) p q m n
    root_kept more =
        at-branch (λ l d. Deleted l b i r p q m n → TreeDeleted l b i (record { mark = r; tree = record { level = l; root = b } }) p q m n) level branch
        (λ h del. branch_kept p m h b i r q n del more) del

    pub root-gone : DeleteReady p m level b i → entries q b ≤ 1 → (root : ℕ) → Is (link q b 0) root → (o : List ℕ) → GivenBack b n o
        → TreeDeleted level b i (record { mark = r; tree = record { level = level - 1; root = root } }) p q m o
    root-gone ready few root linked o given =
        rw linked.is
        (at-branch (λ l d. DeleteReady p m l b i → Deleted l b i r p q m n → TreeDeleted l b i (record { mark = r; tree = record { level = d; root = link q b 0 } }) p q m o) level branch
        (λ h ready del. branch-gone p m h b i r q n del ready few o given) ready del)
