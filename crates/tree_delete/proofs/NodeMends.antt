-- Two nodes of one level joined or shared out: leaves by their marks, branches by their entries, whose children's trees are as before.
use mathlib.Core.Path.{◌≡◌, refl, sym, ap, ap₂, ◌∙◌}
use mathlib.Core.List.{List, [], ◌∷◌, ◌++◌, map, append-nil}
use mathlib.Core.Logic.{◌⊎◌, inl, ⊎_elim}
use Prim.Native.Nat.{ℕ, zero, suc, ◌+◌, ◌≤◌, ◌<◌}
use native.Mathlib.Omega.{arith}
use lib.ListN.{length, take, drop, length-append, length-map, take-append-drop}
use Rattle.geometry.specs.Layout.{most_leaf, most_branch}
use Rattle.geometry.specs.Limits.{most_alphabet}
use Rattle.lists.proofs.Items.{all_append, all_take, all_drop}
use Rattle.lists.proofs.Joins.{joined-append}
use Rattle.lists.proofs.Mapped.{map-append}
use Rattle.lists.specs.Items.{All}
use Rattle.lists.specs.Joins.{joined}
use Rattle.sequence.proofs.Counts.{is_mark-same, count-additive}
use Rattle.sequence.specs.Definition1.{is_mark, count}
use Rattle.shape.proofs.Chop.{chop-fits, chop-halves}
use Rattle.shape.specs.Level.{middle, halves, chop}
use Rattle.shape.specs.Sizes.{one_to_a_byte, most}
use Rattle.pool.specs.Blocks.{entries, leaf_marks}
use Rattle.pool.specs.Changes.{Only}
use Rattle.pool.specs.Trees.{shape_at, blocks_at}
use Rattle.pool.proofs.Blocks.{length-leaf}
use Rattle.pool.proofs.Changes.{only_wider}
use Rattle.pool_blocks.proofs.Branches.{entries-length, branches-joined, branches-shared}
use Rattle.pool_blocks.specs.Contents.{entry_list, unit_of, Room, Apart}
use Rattle.pool_blocks.specs.Moves.{Joined, SharedOut}
use Rattle.pool_blocks.specs.Nodes.{EntriesJoined, EntriesShared}
use Rattle.pool_blocks.proofs.Leaves.{leaves-joined, leaves-shared}
use Rattle.tree_splits.proofs.GoodEntries.{GoodEntry, shape_in, blocks_in, below-good, good-below, shape-entries, blocks-entries}
use Rattle.tree_splits.proofs.Pieces.{map-chop}
use Rattle.tree_splits.proofs.SoundBlocks.{block_written, leaf-at, branch-at}
use Rattle.tree_splits.proofs.Pieces.{map-chop}
use Rattle.tree_delete.specs.Mends.{TwoNodes, NodesJoined, NodesShared}
use Rattle.tree_delete.proofs.KeptTrees.{kept-entries}

-- the first of two equal pairs, and the second
first-is : {A : Type 0} (x y u v : A) → ◌≡◌ {A = List A} (x ∷ y ∷ []) (u ∷ v ∷ []) → x ≡ u
first-is x y u v e = cc

second_is : {A : Type 0} (x y u v : A) → ◌≡◌ {A = List A} (x ∷ y ∷ []) (u ∷ v ∷ []) → y ≡ v
second_is x y u v e = cc

-- how many of a number two lists have
count-two : (x : ℕ) (xs ys : List ℕ) → count x (xs ++ (ys ++ [])) ≡ count x xs + count x ys
count-two x xs ys = rw append-nil (count-additive x xs ys)

-- two nodes are two blocks
nodes-other : (p : List ℕ) (h left right : ℕ) → TwoNodes p h left right → left ≡ right → ⊥
unfolding count
nodes-other p zero left right two e = omega (arith, two.apart left, is_mark-same left left refl, is_mark-same left right (sym e))
nodes-other p (suc h) left right two e = omega (arith, two.apart left, is_mark-same left left refl, is_mark-same left right (sym e))

-- Leaves.
module _ (p q : List ℕ) (left right : ℕ) (two : TwoNodes p zero left right) where
  sizes : length (leaf_marks p left) + length (leaf_marks p right) ≡ entries p left + entries p right
  sizes = omega (arith, length-leaf p left 1 two.first.0, length-leaf p right 1 two.second.0)

  abbrev together : List ℕ
  together = leaf_marks p left ++ leaf_marks p right

  leaves-join : entries p left + entries p right ≤ most_leaf → EntriesJoined leaf_marks left right p q → NodesJoined zero left right p q
  unfolding count
  leaves-join fit join =
      record {
        shapes =
            ap (λ (x : List ℕ). x ∷ []) join.all
            ∙ sym (chop-fits most_leaf together (omega (arith, length-append (leaf_marks p left) (leaf_marks p right), sizes)));
        sound = (
          (
            block_written two.first.0 join.only.long join.form join.many two.enough fit,
            rw join.all (all_append (λ x. x < most_alphabet) (leaf_marks p left) (leaf_marks p right) two.first.1 two.second.1),
          ),
          tt,
        );
        blocks = λ x. omega arith;
        only = only_wider _ (λ x e. inl e) join.only;
      }

  leaves-share : most_leaf < entries p left + entries p right → EntriesShared leaf_marks left right p q → NodesShared zero left right p q
  unfolding count halves
  leaves-share more share =
      let all : All (λ x. x < most_alphabet) together = all_append (λ x. x < most_alphabet) (leaf_marks p left) (leaf_marks p right) two.first.1 two.second.1 in
      let front : leaf_marks q left ≡ take (middle together) together = sym (first-is _ _ _ _ share.parts) in
      let back : leaf_marks q right ≡ drop (middle together) together = sym (second_is _ _ _ _ share.parts) in
      record {
        shapes = sym (chop-halves most_leaf together (omega (arith, length-append (leaf_marks p left) (leaf_marks p right), sizes)) ∙ share.parts);
        sound = (
          (
            block_written two.first.0 share.only.long share.left_form share.left_many (omega arith) (omega (arith, two.first.0.fits, two.second.0.fits)),
            rw front (all_take (λ x. x < most_alphabet) (middle together) together all),
          ),
          (
            (
              block_written two.second.0 share.only.long share.right_form share.right_many (omega arith) (omega (arith, two.first.0.fits, two.second.0.fits)),
              rw back (all_drop (λ x. x < most_alphabet) (middle together) together all),
            ),
            tt,
          ),
        );
        blocks = λ x. omega arith;
        only = share.only;
      }

-- Branches.
module _ (p q : List ℕ) (h left right : ℕ) (two : TwoNodes p (suc h) left right) where
  abbrev all-entries : List (List ℕ)
  all-entries = entry_list p left ++ entry_list p right

  many-entries : length all-entries ≡ entries p left + entries p right
  many-entries = omega (arith, length-append (entry_list p left) (entry_list p right), entries-length p left, entries-length p right)

  entries-good : All (GoodEntry p h) all-entries
  entries-good = all_append (GoodEntry p h) (entry_list p left) (entry_list p right) (below-good p h left two.first.1) (below-good p h right two.second.1)

  abbrev under : ℕ → List (List ℕ) → ℕ
  under x es = count x (joined (blocks_in p h) es)

  under_all : (x : ℕ) → under x all-entries ≡ under x (entry_list p left) + under x (entry_list p right)
  under_all x = ap (count x) (joined-append (blocks_in p h) (entry_list p left) (entry_list p right)) ∙ count-additive x _ _

  count_left : (x : ℕ) → count x (blocks_at p (suc h) left) ≡ is_mark x left + under x (entry_list p left)
  unfolding count
  count_left x = ap (count x) (blocks-entries p h left)

  count-right : (x : ℕ) → count x (blocks_at p (suc h) right) ≡ is_mark x right + under x (entry_list p right)
  unfolding count
  count-right x = ap (count x) (blocks-entries p h right)

  -- neither of the two stands below them
  apart-left : under left all-entries ≡ 0
  apart-left = omega (arith, two.apart left, under_all left, count_left left, count-right left, is_mark-same left left refl)

  apart-right : under right all-entries ≡ 0
  apart-right = omega (arith, two.apart right, under_all right, count_left right, count-right right, is_mark-same right right refl)

  apart-both : (x : ℕ) → 1 ≤ count x (joined (blocks_in p h) all-entries) → (x ≡ left) ⊎ (x ≡ right) → ⊥
  apart-both x among w =
      ⊎_elim (λ e. omega (arith, ap (λ (y : ℕ). under y all-entries) e, apart-left)) (λ e. omega (arith, ap (λ (y : ℕ). under y all-entries) e, apart-right)) w

  all-shapes : map (shape_in p h) all-entries ≡ shape_at p (suc h) left ++ shape_at p (suc h) right
  all-shapes = map-append (shape_in p h) (entry_list p left) (entry_list p right) ∙ ap₂ (λ x y. x ++ y) (sym (shape-entries p h left)) (sym (shape-entries p h right))

  module _ (only : Only (λ x. (x ≡ left) ⊎ (x ≡ right)) p q) where
    still-good : All (GoodEntry q h) all-entries
    still-good = (kept-entries p q only h all-entries entries-good apart-both).good

    same-shapes : map (shape_in q h) all-entries ≡ shape_at p (suc h) left ++ shape_at p (suc h) right
    same-shapes = (kept-entries p q only h all-entries entries-good apart-both).shapes ∙ all-shapes

    same-under : (x : ℕ) → count x (joined (blocks_in q h) all-entries) ≡ under x all-entries
    same-under x = ap (count x) (kept-entries p q only h all-entries entries-good apart-both).blocks

  branches-join : entries p left + entries p right ≤ most_branch → EntriesJoined entry_list left right p q → NodesJoined (suc h) left right p q
  unfolding count
  branches-join fit join =
      let only : Only (λ x. (x ≡ left) ⊎ (x ≡ right)) p q = only_wider _ (λ x e. inl e) join.only in
      let list : entry_list q left ≡ all-entries = join.all in
      record {
        shapes =
            ap (λ x. x ∷ []) (shape-entries q h left ∙ ap (map (shape_in q h)) list ∙ same-shapes only)
            ∙ sym (chop-fits most_branch _ (omega (arith, ap length all-shapes, length-map all-entries (shape_in p h), many-entries)));
        sound = (
          (
            block_written two.first.0 join.only.long join.form join.many two.enough fit,
            good-below q h left (rw list (still-good only)),
          ),
          tt,
        );
        blocks = λ x.
            let now : count x (blocks_at q (suc h) left) ≡ is_mark x left + count x (joined (blocks_in q h) all-entries) =
            ap (count x) (blocks-entries q h left) ∙ ap (λ (es : List (List ℕ)). is_mark x left + count x (joined (blocks_in q h) es)) list in
            omega (arith, ap (count x) (append-nil (blocks_at q (suc h) left)), now, same-under only x, under_all x, count_left x, count-right x);
        only = only;
      }

  branches-share : most_branch < entries p left + entries p right → EntriesShared entry_list left right p q → NodesShared (suc h) left right p q
  unfolding count halves
  branches-share more share =
      let only : Only (λ x. (x ≡ left) ⊎ (x ≡ right)) p q = share.only in
      let half : ℕ = middle all-entries in
      let front : entry_list q left ≡ take half all-entries = sym (first-is _ _ _ _ share.parts) in
      let back : entry_list q right ≡ drop half all-entries = sym (second_is _ _ _ _ share.parts) in
      record {
        shapes =
            ap₂ (λ x y. x ∷ y ∷ []) (shape-entries q h left) (shape-entries q h right)
            ∙ ap (map (map (shape_in q h))) (sym (chop-halves most_branch all-entries (omega (arith, many-entries)) ∙ share.parts))
            ∙ map-chop (shape_in q h) most_branch all-entries
            ∙ ap (chop most_branch) (same-shapes only);
        sound = (
          (
            block_written two.first.0 share.only.long share.left_form share.left_many (omega arith) (omega (arith, two.first.0.fits, two.second.0.fits)),
            good-below q h left (rw front (all_take (GoodEntry q h) half all-entries (still-good only))),
          ),
          (
            (
              block_written two.second.0 share.only.long share.right_form share.right_many (omega arith) (omega (arith, two.first.0.fits, two.second.0.fits)),
              good-below q h right (rw back (all_drop (GoodEntry q h) half all-entries (still-good only))),
            ),
            tt,
          ),
        );
        blocks = λ x.
            let one : count x (blocks_at q (suc h) left) ≡ is_mark x left + count x (joined (blocks_in q h) (take half all-entries)) =
            ap (count x) (blocks-entries q h left) ∙ ap (λ (es : List (List ℕ)). is_mark x left + count x (joined (blocks_in q h) es)) front in
            let other : count x (blocks_at q (suc h) right) ≡ is_mark x right + count x (joined (blocks_in q h) (drop half all-entries)) =
            ap (count x) (blocks-entries q h right) ∙ ap (λ (es : List (List ℕ)). is_mark x right + count x (joined (blocks_in q h) es)) back in
            let parts : count x (joined (blocks_in q h) (take half all-entries)) + count x (joined (blocks_in q h) (drop half all-entries)) ≡ count x (joined (blocks_in q h) all-entries) =
            sym (count-additive x (joined (blocks_in q h) (take half all-entries)) (joined (blocks_in q h) (drop half all-entries))) ∙ ap (count x) (sym (joined-append (blocks_in q h) (take half all-entries) (drop half all-entries)) ∙ ap (joined (blocks_in q h)) (take-append-drop half all-entries)) in
            omega (arith, count-two x (blocks_at q (suc h) left) (blocks_at q (suc h) right), one, other, parts, same-under only x, under_all x, count_left x, count-right x);
        only = only;
      }

-- By level: the entries are moved as bytes, so many to an entry as the level says.

-- so many entries have room in a block where a node of the level may have them
node-room : (h many : ℕ) → many ≤ most one_to_a_byte h → Room (unit_of h) many
node-room zero many few = record { few = omega (arith, few); fits = omega (arith, few) }
node-room (suc h) many few = record { few = omega (arith, few); fits = omega (arith, few) }

module _ (p : List ℕ) (left right level : ℕ) (two : TwoNodes p level left right) where
  pub nodes-apart : Apart p left right
  nodes-apart = record { left_inside = two.first.0.inside; right_inside = two.second.0.inside; apart = nodes-other p level left right two }

  pub left-fits : Room (unit_of level) (entries p left)
  left-fits = node-room level _ two.first.0.fits

  pub right-fits : Room (unit_of level) (entries p right)
  right-fits = node-room level _ two.second.0.fits

pub nodes-joined : (p q : List ℕ) (left right level : ℕ) → TwoNodes p level left right → entries p left + entries p right ≤ most one_to_a_byte level
    → Joined (unit_of level) left right p q → NodesJoined level left right p q
nodes-joined p q left right zero two fit joined = leaves-join p q left right two fit (leaves-joined left right p q joined)
nodes-joined p q left right (suc h) two fit joined =
    branches-join p q h left right two fit (branches-joined left right p q (branch-at p 1 (suc h) left two.first.0 (λ e. omega arith)) (branch-at p 1 (suc h) right two.second.0 (λ e. omega arith)) fit joined)

pub nodes-shared : (p q : List ℕ) (left right level : ℕ) → TwoNodes p level left right → most one_to_a_byte level < entries p left + entries p right
    → SharedOut (unit_of level) left right p q → NodesShared level left right p q
nodes-shared p q left right zero two more shared =
    leaves-share p q left right two more (leaves-shared left right p q (leaf-at p 1 zero left two.first.0 refl) (leaf-at p 1 zero right two.second.0 refl) shared)
nodes-shared p q left right (suc h) two more shared =
    branches-share p q h left right two more (branches-shared left right p q (branch-at p 1 (suc h) left two.first.0 (λ e. omega arith)) (branch-at p 1 (suc h) right two.second.0 (λ e. omega arith)) shared)
