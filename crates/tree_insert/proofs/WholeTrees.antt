-- An insert in a whole tree: the root stays whole, or its halves come under a new one.
use mathlib.Core.Path.{◌≡◌, sym, ap, subst, ◌∙◌}
use mathlib.Core.Bool.{cond}
use mathlib.Core.List.{List, []}
use Prim.Native.Nat.{ℕ, suc, ◌+◌, ◌-◌, ◌≤◌}
use native.Mathlib.Numerals.{add-one}
use native.Mathlib.Omega.{arith}
use lib.ListN.{length, length-append}
use Rattle.std.specs.Prelude.{None, Some}
use Rattle.sequence.proofs.Edits.{length-insert}
use Rattle.sequence.proofs.Counts.{count-additive}
use Rattle.sequence.specs.Definition1.{count}
use Rattle.shape.specs.Blocks.{divides}
use Rattle.shape.specs.Nested.{Node, flat}
use Rattle.shape.specs.Sizes.{one_to_a_byte}
use Rattle.shape.specs.Trees.{grown, insert_t}
use Rattle.pool.specs.Trees.{shape_at, blocks_at, path_at}
use Rattle.pool.proofs.Changes.{only_then, only_wider}
use Rattle.pool_holders.specs.Maps.{is_free}
use Rattle.pool_holders.proofs.Maps.{fits_after}
use Rattle.pool_holders.proofs.Takes.{entered-then, entered-falls}
use Rattle.tree_splits.specs.Inserts.{Inserted}
use Rattle.tree_splits.specs.Roots.{RootReady, RootGrown}
use Rattle.tree_splits.proofs.SoundBlocks.{block-least}
use Rattle.tree_insert.specs.Trees.{TreeReady, TreeInserted}
use Rattle.tree_insert.proofs.Outcomes.{agrees_after}
use Rattle.tree_insert.proofs.Siblings.{insert-total, insert-split}

module _ (p m : List ℕ) (h b i c holder : ℕ) (ready : TreeReady p m h b i c holder) (q l : List ℕ) where
  module _ (ins : Inserted h b i c holder None p q m l) where
    pub tree-kept : TreeInserted h b i c holder (record { level = h; root = b }) p q m l
    unfolding insert_t grown count
    tree-kept =
        record {
          tree = ap (grown h) ins.shapes;
          block = block-least (omega (arith, ins.sound.0.0.enough, ready.node.block.enough)) ins.sound.0.0;
          below = ins.sound.0.1;
          blocks = λ x. omega (arith, ins.blocks x, count-additive x (blocks_at q h b) []);
          only = ins.only;
          entered = ins.entered;
          took = omega (arith, ins.took, insert-split h b i c holder None p q m l ready.node ins);
        }

  module _ (new : ℕ) (ins : Inserted h b i c holder (Some new) p q m l) where
    one_more : cond {A = ℕ} (divides one_to_a_byte h i (shape_at p h b)) 1 0 ≡ 1
    one_more = sym (insert-split h b i c holder (Some new) p q m l ready.node ins)

    pub root-ready : RootReady q l h b new holder
    root-ready =
        record {
          map = fits_after p q m l ins.only.long ins.entered.long ready.node.map;
          named = ready.node.named;
          left_sound = ins.sound.0;
          right_sound = ins.sound.1.0;
          agrees = agrees_after h b i c holder (Some new) p q m l ready.node ins;
          short =
              omega (
                arith,
                insert-total h b i c holder (Some new) p q m l ready.node ins length length-append,
                length-insert c i (flat h (shape_at p h b)),
                ready.node.short,
              );
          room = omega (arith, ready.room, ins.took, one_more);
        }

    pub tree-grown : (root : ℕ) (t n : List ℕ) → RootGrown h b new holder root q t l n → TreeInserted h b i c holder (record { level = h + 1; root = root }) p t m n
    unfolding insert_t grown
    tree-grown root t n up =
        subst (λ (k : ℕ). TreeInserted h b i c holder (record { level = k; root = root }) p t m n) (sym (add-one h))
        (record {
          tree = ap (λ (x : Node (suc h)). record { height = suc h; root = x }) up.shape ∙ ap (grown h) ins.shapes;
          block = up.block;
          below = up.below;
          blocks = λ x. omega (arith, up.blocks x, ins.blocks x);
          only =
              only_then
              (only_wider _ (λ x (change : 1 ≤ count x (path_at p h i b) + (is_free m x - is_free l x)). omega (arith, entered-falls holder l n up.entered x)) ins.only)
              (only_wider _ (λ x (change : 1 ≤ is_free l x - is_free n x). omega (arith, entered-falls holder m l ins.entered x)) up.only);
          entered = entered-then holder m l n ins.entered up.entered;
          took = omega (arith, ins.took, up.took, one_more);
        })
