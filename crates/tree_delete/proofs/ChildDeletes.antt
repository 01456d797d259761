-- One level of a delete: the child that takes the place is ready for it, and what it left is what the branch can be brought up to date with.
-- The branch itself and the other children's trees are as before.
use mathlib.Core.Path.{◌≡◌, refl, sym, ap, ap₂, ◌∙◌}
use mathlib.Core.List.{List, ◌∷◌, ◌++◌}
use Prim.Native.Nat.{ℕ, suc, ◌+◌, ◌-◌, ◌≤◌, ◌<◌}
use native.Mathlib.Omega.{arith}
use lib.ListN.{length, take, drop, length-append}
use Rattle.geometry.specs.Layout.{least_branch, most_branch}
use Rattle.geometry.specs.Limits.{most_alphabet}
use Rattle.lists.proofs.Froms.{from-same, map-from}
use Rattle.lists.proofs.Sums.{sum_below-two, sum_below-change}
use Rattle.lists.specs.Froms.{from}
use Rattle.lists.specs.Sums.{sum_below}
use Rattle.sequence.proofs.Alphabets.{all_below-access}
use Rattle.sequence.proofs.Counts.{is_mark-same}
use Rattle.sequence.proofs.Edits.{length-delete, count-delete}
use Rattle.sequence.specs.Definition1.{is_mark, count, access, delete}
use Rattle.shape.proofs.Filled.{least-two}
use Rattle.shape.proofs.Instances.{one_to_a_byte-proper}
use Rattle.shape.proofs.Marks.{delete_node-marks}
use Rattle.shape.proofs.Steps.{delete_node-takes, access-takes}
use Rattle.shape.specs.Fill.{Within}
use Rattle.shape.specs.Level.{mend}
use Rattle.shape.specs.Level.{mend}
use Rattle.shape.specs.Nested.{Node, flat, marks_in}
use Rattle.shape.specs.Sizes.{one_to_a_byte, least, most}
use Rattle.shape.specs.Trees.{delete_node}
use Rattle.pool.proofs.SoundTrees.{sound-marks}
use Rattle.pool.specs.Blocks.{entries, link, marks_below}
use Rattle.pool.specs.Changes.{SameBlock, Only}
use Rattle.pool.specs.Sound.{Tells}
use Rattle.pool.specs.Trees.{shape_at, blocks_at}
use Rattle.pool_entries.proofs.SeatedChildren.{seated-range}
use Rattle.pool.proofs.Changes.{only_then, only_wider}
use Rattle.pool.proofs.Trees.{shape-around, shape-before, shape-after, told-all, count-blocks}
use Rattle.pool.proofs.TreesKept.{same_entries, same-link, same-marks_below, same-count_below, same_block}
use Rattle.pool_entries.proofs.SeatedChildren.{seated-range}
use Rattle.pool_entries.proofs.Telling.{entry-tells}
use Rattle.pool_entries.specs.Seats.{Seated}
use Rattle.pool_entries.specs.declared.Seat.{Seat}
use Rattle.pool_holders.specs.Maps.{is_free}
use Rattle.pool_holders.proofs.Maps.{fits_after}
use Rattle.pool_holders.proofs.Frees.{freed-then, freed-grows}
use Rattle.tree_splits.proofs.ChosenChildren.{child-blocks, child-told, child-takes, before-total, child-short, child-root}
use Rattle.tree_splits.proofs.SoundBlocks.{block-least}
use Rattle.tree_delete.specs.Mends.{SoundPart, SettleReady, Mended}
use Rattle.tree_delete.specs.Removals.{DeleteReady, Deleted}
use Rattle.tree_delete.proofs.KeptParts.{part-shape, part-blocks, part_sound}
use Rattle.tree_delete.proofs.ShortChildren.{fewer}

module _ (p m : List ℕ) (h b i : ℕ) (ready : DeleteReady p m (suc h) b i) (s : Seat) (seated : Seated (marks_below p b) (entries p b) i s) where
  abbrev pub child_of : ℕ
  child_of = link p b s.k

  abbrev front : List (Node h)
  front = take s.k (shape_at p (suc h) b)

  abbrev back : List (Node h)
  back = drop (suc s.k) (shape_at p (suc h) b)

  -- the place is in the child
  within : Within 1 (marks_in h (shape_at p h child_of)) (i - s.before)
  within = omega (arith, seated-range p h b length length-append (marks_below p b) (child-told p h b ready.below) i s seated ready.last, ready.first)

  pub child-ready : DeleteReady p m h child_of (i - s.before)
  child-ready =
      record {
        map = ready.map;
        block = child-root p h b ready.below i s seated;
        below = (ready.below s.k seated.inside).1;
        agrees = λ x. omega (arith, ready.agrees x, child-blocks p h b s.k seated.inside x);
        first = within.enough;
        last = within.fits;
        short = omega (arith, ready.short, child-short p h b ready.below i s seated);
      }

  -- the place was taken out of the child
  module _ (r : ℕ) (q n : List ℕ) (del : Deleted h child_of (i - s.before) r p q m n) where
    only : Only (λ y. 1 ≤ count y (blocks_at p h child_of)) p q
    only = del.tree.only

    branch_same : SameBlock b p q
    branch_same =
        only.others b (λ (among : 1 ≤ count b (blocks_at p h child_of)). omega (arith, ready.agrees b, child-blocks p h b s.k seated.inside b, is_mark-same b b refl))

    many : entries q b ≡ entries p b
    many = same_entries p q b branch_same

    links : (j : ℕ) → j < entries p b → link q b j ≡ link p b j
    links j inside = same-link p q b branch_same j (omega (arith, ready.block.fits))

    here : link q b s.k ≡ child_of
    here = links s.k seated.inside

    low : s.k < most_branch
    low = omega (arith, seated.inside, ready.block.fits)

    -- another child
    module _ (j : ℕ) (inside : j < entries p b) (other : j ≡ s.k → ⊥) where
      sound : SoundPart p (least one_to_a_byte h) h (link p b j)
      sound = ((ready.below j inside).0, (ready.below j inside).1)

      apart : (y : ℕ) → 1 ≤ count y (blocks_at p h (link p b j)) → 1 ≤ count y (blocks_at p h child_of) → ⊥
      apart y one two =
          omega (arith, ready.agrees y, count-blocks p h b y, sum_below-two (entries p b) (λ k. count y (blocks_at p h (link p b k))) j s.k inside seated.inside other)

      some : 1 ≤ least one_to_a_byte h
      some = omega (arith, least-two one_to_a_byte one_to_a_byte-proper h)

      other-shape : shape_at q h (link q b j) ≡ shape_at p h (link p b j)
      other-shape = ap (shape_at q h) (links j inside) ∙ part-shape p q only (least one_to_a_byte h) h (link p b j) some sound apart

      other-blocks : blocks_at q h (link q b j) ≡ blocks_at p h (link p b j)
      other-blocks = ap (blocks_at q h) (links j inside) ∙ part-blocks p q only (least one_to_a_byte h) h (link p b j) some sound apart

      other-sound : SoundPart q (least one_to_a_byte h) h (link q b j)
      other-sound = rw (links j inside) (part_sound p q only (least one_to_a_byte h) h (link p b j) some sound apart)

      other-tells : Tells q h b j
      other-tells =
          let old : Tells p h b j = (ready.below j inside).2 in
          entry-tells q h b j (shape_at p h (link p b j)) other-shape (same-marks_below p q b branch_same j (omega (arith, ready.block.fits)) ∙ old.marks)
          (λ c small. same-count_below p q b branch_same j c (omega (arith, ready.block.fits)) small ∙ old.counts c small)

    -- what is summed over the children changed by the child's part alone
    changed-sum : (f g : ℕ → ℕ) → ((j : ℕ) → j < entries p b → (j ≡ s.k → ⊥) → f j ≡ g j) → sum_below (entries q b) f + g s.k ≡ sum_below (entries p b) g + f s.k
    changed-sum f g others = omega (arith, ap (λ (k : ℕ). sum_below k f) many, sum_below-change (entries p b) f g s.k seated.inside others)

    -- the blocks that left the branch's tree are free
    level-blocks : (x : ℕ) → count x (blocks_at q (suc h) b) + is_free n x ≡ count x (blocks_at p (suc h) b) + is_free m x
    level-blocks x =
        omega (
          arith,
          changed-sum (λ j. count x (blocks_at q h (link q b j))) (λ j. count x (blocks_at p h (link p b j))) (λ j inside other. ap (count x) (other-blocks j inside other)),
          count-blocks q h b x,
          count-blocks p h b x,
          ap (λ (c : ℕ). count x (blocks_at q h c)) here,
          del.tree.blocks x,
        )

    -- the marks of the child
    child-marks : flat h (shape_at q h child_of) ≡ delete (i - s.before) (flat h (shape_at p h child_of))
    child-marks = ap (flat h) del.tree.shape ∙ delete_node-marks one_to_a_byte h (i - s.before) (shape_at p h child_of)

    one_less : marks_in h (shape_at q h child_of) + 1 ≡ marks_in h (shape_at p h child_of)
    one_less =
        omega (arith, ap length child-marks, length-delete (i - s.before) (flat h (shape_at p h child_of)) within.enough within.fits, within)

    level-short : marks_in (suc h) (shape_at q (suc h) b) ≤ marks_in (suc h) (shape_at p (suc h) b)
    level-short =
        let f : ℕ → ℕ = λ j. marks_in h (shape_at q h (link q b j)) in
        let g : ℕ → ℕ = λ j. marks_in h (shape_at p h (link p b j)) in
        omega (
          arith,
          changed-sum f g (λ j inside other. ap (marks_in h) (other-shape j inside other)),
          told-all q h b length length-append f (λ j l. refl),
          told-all p h b length length-append g (λ j l. refl),
          ap (λ (c : ℕ). marks_in h (shape_at q h c)) here,
          one_less,
        )

    pub settle-ready : SettleReady q n h b s.k r
    settle-ready =
        let old : Tells p h b s.k = (ready.below s.k seated.inside).2 in
        let xs : List ℕ = flat h (shape_at p h child_of) in
        record {
          map = fits_after p q m n only.long del.tree.freed.long ready.map;
          block = same_block p q b branch_same only.long least_branch (suc h) ready.block;
          place = omega (arith, many, seated.inside);
          others = λ j l other. let inside : j < entries p b = omega (arith, many) in (other-sound j inside other, other-tells j inside other);
          child =
              rw here
              (fewer q (entries p child_of - 1) (least one_to_a_byte h - 1) h child_of (omega (arith, (ready.below s.k seated.inside).0.enough)) (del.tree.block, del.tree.below));
          symbol =
              rw del.taken
              (all_below-access most_alphabet xs (i - s.before) (sound-marks p most_alphabet h child_of (ready.below s.k seated.inside).1) within.enough within.fits);
          marks =
              same-marks_below p q b branch_same s.k low ∙ old.marks ∙ sym one_less ∙ ap (λ (c : ℕ). marks_in h (shape_at q h c) + 1) (sym here);
          counts = λ d small.
              let counted : is_mark d r + count d (flat h (shape_at q h child_of)) ≡ count d xs =
              ap₂ (λ (c : ℕ) (ys : List ℕ). is_mark d c + count d ys) del.taken child-marks ∙ count-delete (i - s.before) xs within.enough within.fits d in
              same-count_below p q b branch_same s.k d low small ∙ old.counts d small ∙ sym counted
              ∙ ap (λ (c : ℕ). is_mark d r + count d (flat h (shape_at q h c))) (sym here);
          agrees = λ x. omega (arith, ready.agrees x, level-blocks x);
          short = omega (arith, ready.short, level-short);
        }

    -- the branch's shape, before it is mended
    level-shape : shape_at q (suc h) b ≡ front ++ delete_node one_to_a_byte h (i - s.before) (shape_at p h child_of) ∷ back
    level-shape =
        let old : ℕ → Node h = λ j. shape_at p h (link p b j) in
        let new : ℕ → Node h = λ j. shape_at q h (link q b j) in
        let n : ℕ = entries p b - suc s.k in
        let before : take s.k (shape_at q (suc h) b) ≡ front =
        shape-before q h b s.k (omega (arith, many, seated.inside))
        ∙ map-from (shape_at q h) (link q b) 0 s.k
        ∙ from-same new old 0 s.k (λ j l u. other-shape j (omega (arith, seated.inside)) (λ (e : j ≡ s.k). omega arith))
        ∙ sym (map-from (shape_at p h) (link p b) 0 s.k) ∙ sym (shape-before p h b s.k (omega (arith, seated.inside))) in
        let behind : drop (suc s.k) (shape_at q (suc h) b) ≡ back =
        shape-after q h b (suc s.k) (omega (arith, many, seated.inside))
        ∙ map-from (shape_at q h) (link q b) (suc s.k) (entries q b - suc s.k)
        ∙ ap (λ (e : ℕ). from new (suc s.k) (e - suc s.k)) many
        ∙ from-same new old (suc s.k) n (λ j l u. other-shape j (omega arith) (λ (e : j ≡ s.k). omega arith))
        ∙ sym (map-from (shape_at p h) (link p b) (suc s.k) n) ∙ sym (shape-after p h b (suc s.k) (omega (arith, seated.inside))) in
        shape-around q h b s.k (omega (arith, many, seated.inside))
        ∙ ap₂ (λ (u v : List (Node h)). u ++ shape_at q h (link q b s.k) ∷ v) before behind
        ∙ ap (λ (x : Node h). front ++ x ∷ back) (ap (shape_at q h) here ∙ del.tree.shape)

    pub level-deleted : (t o : List ℕ) → Mended h b q t n o → Deleted (suc h) b i r p t m o
    level-deleted t o mended =
        let x : Node h = shape_at p h child_of in
        let around = shape-around p h b s.k seated.inside in
        let takes = child-takes p h b ready.below i s seated in
        let before = before-total p h b ready.below i s seated in
        record {
          taken =
              del.taken
              ∙ sym (ap (λ (y : Node (suc h)). access (flat (suc h) y) i) around
              ∙ access-takes h i front x back takes (omega (arith, ready.last, ap (marks_in (suc h)) around)) ready.first
              ∙ ap (λ (k : ℕ). access (flat h x) (i - k)) before);
          tree =
              record {
                shape =
                    mended.shape
                    ∙ ap (mend (least one_to_a_byte h) (most one_to_a_byte h)) level-shape
                    ∙ ap (λ (k : ℕ). mend (least one_to_a_byte h) (most one_to_a_byte h) (front ++ delete_node one_to_a_byte h (i - k) x ∷ back)) (sym before)
                    ∙ sym (ap (delete_node one_to_a_byte (suc h) i) around ∙ delete_node-takes one_to_a_byte h i front x back takes);
                block =
                    block-least (omega (arith, mended.block.enough, many)) mended.block;
                below = mended.below;
                blocks = λ y. mended.blocks y ∙ level-blocks y;
                only =
                    only_then (only_wider _ (λ y among. omega (arith, child-blocks p h b s.k seated.inside y)) only)
                    (only_wider _ (λ y (among : 1 ≤ count y (blocks_at q (suc h) b)). omega (arith, level-blocks y, freed-grows m n del.tree.freed y)) mended.only);
                freed = freed-then m n o del.tree.freed mended.freed;
              };
        }
