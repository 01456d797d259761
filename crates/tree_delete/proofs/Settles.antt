-- A branch's entry adjusted to a child that lost a mark: the children's trees are as before, and the entry tells the truth again.
use mathlib.Core.Path.{◌≡◌, refl, sym, ap, ◌∙◌}
use mathlib.Core.List.{List, ◌∷◌, map}
use mathlib.Core.Logic.{⊎_elim}
use Prim.Native.Nat.{ℕ, suc, ◌+◌, ◌-◌, ◌≤◌, ◌<◌}
use native.Mathlib.Omega.{arith}
use Rattle.geometry.specs.Layout.{most_branch}
use Rattle.lists.proofs.Froms.{all_from, from-same}
use Rattle.lists.proofs.Joins.{joined_same}
use Rattle.lists.proofs.Mapped.{map_same}
use Rattle.lists.proofs.Sums.{sum_below-one}
use Rattle.lists.specs.Froms.{from}
use Rattle.lists.specs.Joins.{joined}
use Rattle.sequence.proofs.Counts.{is_mark-same, is_mark-other, is_mark-cases}
use Rattle.sequence.specs.Definition1.{count}
use Rattle.shape.proofs.Filled.{least-two}
use Rattle.shape.proofs.Instances.{one_to_a_byte-proper}
use Rattle.shape.specs.Level.{mend}
use Rattle.shape.specs.Nested.{marks_in}
use Rattle.shape.specs.Sizes.{one_to_a_byte, least, most}
use Rattle.pool.specs.Blocks.{entries, link, children}
use Rattle.pool.specs.Changes.{Only}
use Rattle.pool.specs.Trees.{shape_at, blocks_at}
use Rattle.pool.proofs.Changes.{only_then, only_wider}
use Rattle.pool.proofs.Trees.{count-blocks}
use Rattle.pool_entries.proofs.Telling.{entry-tells, apart-tells}
use Rattle.pool_entries.specs.Entries.{TakeMark}
use Rattle.pool_entries.proofs.Entries.{link_apart, entries-kept, form-kept, only-entry}
use Rattle.pool_holders.specs.Maps.{is_free}
use Rattle.pool_holders.proofs.Maps.{fits_after}
use Rattle.tree_splits.proofs.SoundBlocks.{block-least, block_written}
use Rattle.tree_delete.specs.Mends.{ShortReady, SettleReady, Mended}
use Rattle.tree_delete.proofs.KeptParts.{part-shape, part-blocks, part_sound}
use Rattle.tree_delete.proofs.ShortChildren.{each_part}

module _ (p m : List ℕ) (h b k c : ℕ) (ready : SettleReady p m h b k c) where
  two : 2 ≤ least one_to_a_byte h
  two = least-two one_to_a_byte one_to_a_byte-proper h

  inside-branch : k < most_branch
  inside-branch = omega (arith, ready.place, ready.block.fits)

  -- the branch is in no child's tree
  apart : (j : ℕ) → j < entries p b → (y : ℕ) → 1 ≤ count y (blocks_at p h (link p b j)) → y ≡ b → ⊥
  apart j inside y among e =
      omega (arith, ready.agrees y, count-blocks p h b y, sum_below-one (entries p b) (λ i. count y (blocks_at p h (link p b i))) j inside, is_mark-same y b (sym e))

  module _ (q : List ℕ) (put : TakeMark b k c p q) where
    only : Only (λ x. x ≡ b) p q
    only = only-entry b k put.same inside-branch

    many : entries q b ≡ entries p b
    many = entries-kept b k put.same inside-branch

    same-link : (j : ℕ) → link q b j ≡ link p b j
    same-link j = ⊎_elim (λ w. rw w.0 put.link) (λ w. link_apart b k put.same j w.0) (is_mark-cases k j)

    kept : (j : ℕ) → j < entries p b → shape_at q h (link p b j) ≡ shape_at p h (link p b j)
    kept j inside = part-shape p q only (least one_to_a_byte h - 1) h (link p b j) (omega (arith, two)) (each_part p h b k ready.child ready.others j inside) (apart j inside)

    kept-trees : (j : ℕ) → j < entries p b → blocks_at q h (link p b j) ≡ blocks_at p h (link p b j)
    kept-trees j inside = part-blocks p q only (least one_to_a_byte h - 1) h (link p b j) (omega (arith, two)) (each_part p h b k ready.child ready.others j inside) (apart j inside)

    same-children : children q b ≡ children p b
    same-children = ap (from (link q b) 0) many ∙ from-same (link q b) (link p b) 0 (entries p b) (λ j _ _. same-link j)

    same_shape : shape_at q (suc h) b ≡ shape_at p (suc h) b
    same_shape =
        ap (map (shape_at q h)) same-children
        ∙ map_same (shape_at q h) (shape_at p h) (children p b) (all_from (λ x. shape_at q h x ≡ shape_at p h x) (link p b) 0 (entries p b) (λ j _ l. kept j (omega arith)))

    same_blocks : blocks_at q (suc h) b ≡ blocks_at p (suc h) b
    same_blocks =
        ap (λ (bs : List ℕ). b ∷ bs)
        (ap (joined (blocks_at q h)) same-children
        ∙ joined_same (blocks_at q h) (blocks_at p h) (children p b) (all_from (λ x. blocks_at q h x ≡ blocks_at p h x) (link p b) 0 (entries p b) (λ j _ l. kept-trees j (omega arith))))

    -- the child is mended next
    pub short-ready : ShortReady q m h b k
    short-ready =
        record {
          map = fits_after p q m m only.long refl ready.map;
          block = block_written ready.block only.long (form-kept b k put.same inside-branch) many ready.block.enough ready.block.fits;
          place = omega (arith, many, ready.place);
          others = λ j l other.
              let inside : j < entries p b = omega (arith, many) in
              let good = ready.others j inside other in (
                rw (same-link j) (part_sound p q only (least one_to_a_byte h) h (link p b j) (omega (arith, two)) good.0 (apart j inside)),
                apart-tells p q h b k j put.same other (kept j inside) good.1,
              );
          child = rw (same-link k) (part_sound p q only (least one_to_a_byte h - 1) h (link p b k) (omega (arith, two)) ready.child (apart k ready.place));
          told =
              entry-tells q h b k (shape_at p h (link p b k)) (ap (shape_at q h) (same-link k) ∙ kept k ready.place) (put.marks ∙ omega (arith, ready.marks))
              (λ d inside.
              ⊎_elim (λ w. rw w.0 (put.count ∙ omega (arith, ready.counts c ready.symbol, is_mark-same c c refl)))
              (λ w. put.others d inside w.0 ∙ omega (arith, ready.counts d inside, is_mark-other d c (λ e. w.0 (sym e)))) (is_mark-cases c d));
          agrees = λ x. omega (arith, ready.agrees x, ap (count x) same_blocks);
          short = omega (arith, ready.short, ap (marks_in (suc h)) same_shape);
        }

    pub settled : (r n : List ℕ) → Mended h b q r m n → Mended h b p r m n
    unfolding count
    settled r n mended =
        record {
          shape = mended.shape ∙ ap (mend (least one_to_a_byte h) (most one_to_a_byte h)) same_shape;
          block = block-least (omega (arith, mended.block.enough, many)) mended.block;
          below = mended.below;
          blocks = λ x. mended.blocks x ∙ ap (λ (bs : List ℕ). count x bs + is_free m x) same_blocks;
          only =
              only_then (only_wider _ (λ x e. omega (arith, count-blocks p h b x, is_mark-same x b (sym e))) only)
              (only_wider _ (λ x among. rw (ap (count x) same_blocks) at among) mended.only);
          freed = mended.freed;
        }
