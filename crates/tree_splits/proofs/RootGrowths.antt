-- A new root: a free block is emptied and gets an entry for each half. No tree below it changes, since it was free.
use mathlib.Core.Path.{◌≡◌, refl, sym, ap, ap₂, subst, ◌∙◌}
use mathlib.Core.List.{List, [], ◌∷◌, map}
use Prim.Native.Nat.{ℕ, ◌≤◌, ◌<◌}
use native.Mathlib.Omega.{arith}
use lib.ListN.{length}
use Rattle.lists.proofs.Joins.{joined-map}
use Rattle.lists.specs.Froms.{from}
use Rattle.lists.specs.Items.{All}
use Rattle.lists.specs.Joins.{joined}
use Rattle.sequence.proofs.Counts.{is_mark-same}
use Rattle.sequence.specs.Definition1.{count}
use Rattle.pool.specs.Blocks.{entries}
use Rattle.pool.specs.Bytes.{shares}
use Rattle.pool.specs.Trees.{shape_at, blocks_at}
use Rattle.pool.proofs.Changes.{only_then, only_wider}
use Rattle.pool_blocks.proofs.Branches.{entries-length}
use Rattle.pool_blocks.specs.Contents.{link_in, entry_bytes, entry_list}
use Rattle.pool_blocks.specs.Moves.{Emptied}
use Rattle.pool_entries.specs.Summaries.{SummaryOf, SmallSums}
use Rattle.pool_entries.specs.declared.Summary.{Summary}
use Rattle.pool_holders.specs.Maps.{is_free, BlockTaken}
use Rattle.pool_holders.proofs.Takes.{taken-one, taken_free, taken-blocks, taken-entered}
use Rattle.tree_splits.specs.Entries.{put_at}
use Rattle.tree_splits.specs.Grafts.{EntryPut}
use Rattle.tree_splits.specs.Roots.{PairWritten, RootReady, RootGrown}
use Rattle.tree_splits.proofs.GoodEntries.{GoodEntry, shape_in, blocks_in, good-below, shape-entries, blocks-entries}
use Rattle.tree_splits.proofs.KeptLists.{KeptList, kept-list}
use Rattle.tree_splits.proofs.TakeUps.{holds-true, sums-small}

module _ (b left right : ℕ) (first second : Summary) (p q : List ℕ) (inside : b < shares p) (empty : Emptied b p q) where
  module _ (r : List ℕ) (put : EntryPut b 0 left first q r) where
    pub pair-written : (t : List ℕ) → EntryPut b 1 right second r t → PairWritten b left right first second p t
    unfolding entry_list from
    pair-written t last =
        let none : entry_list q b ≡ [] = ap (from (entry_bytes q b) 0) empty.many in
        let one : entry_list r b ≡ put.entry ∷ [] = put.list ∙ ap (put_at 0 put.entry) none in
        record {
          one = put.entry;
          two = last.entry;
          holds_one = put.holds;
          holds_two = last.holds;
          only = only_then empty.only (only_then put.only last.only);
          form = last.form ∙ put.form ∙ empty.form;
          list = last.list ∙ ap (put_at 1 last.entry) one;
        }

module _ (p m : List ℕ) (h left right holder : ℕ) (ready : RootReady p m h left right holder) where
  pub left-small : SmallSums p h left
  left-small = sums-small p h left ready.left_sound (omega (arith, ready.short))

  pub right-small : SmallSums p h right
  right-small = sums-small p h right ready.right_sound (omega (arith, ready.short))

  module _ (root : ℕ) (n : List ℕ) (taken : BlockTaken holder root m n) where
    module _ (first second : Summary) (first_of : SummaryOf p h left first) (second_of : SummaryOf p h right second) (q : List ℕ)
        (pair : PairWritten root left right first second p q) where
      links : map link_in (pair.one ∷ pair.two ∷ []) ≡ left ∷ right ∷ []
      links = ap₂ (λ (x y : ℕ). x ∷ y ∷ []) pair.holds_one.link pair.holds_two.link

      good : All (GoodEntry p h) (pair.one ∷ pair.two ∷ [])
      good = (
        record { sound = rw pair.holds_one.link ready.left_sound; true = holds-true p h left first pair.one pair.holds_one first_of ready.left_sound },
        (record { sound = rw pair.holds_two.link ready.right_sound; true = holds-true p h right second pair.two pair.holds_two second_of ready.right_sound }, tt),
      )

      trees : joined (blocks_in p h) (pair.one ∷ pair.two ∷ []) ≡ joined (blocks_at p h) (left ∷ right ∷ [])
      trees = sym (joined-map (blocks_at p h) link_in (pair.one ∷ pair.two ∷ [])) ∙ ap (joined (blocks_at p h)) links

      free : is_free m root ≡ 1
      free = taken_free holder root m n ready.named taken

      kept : KeptList p q h (pair.one ∷ pair.two ∷ [])
      kept =
          kept-list p q pair.only.long h (pair.one ∷ pair.two ∷ []) good
          (λ x (some : 1 ≤ count x (joined (blocks_in p h) (pair.one ∷ pair.two ∷ []))).
          pair.only.others x
          (λ (e : x ≡ root). omega (arith, ap (count x) trees, ready.agrees x, free, ap (is_free m) e)))

      pub root-grown : RootGrown h left right holder root p q m n
      unfolding count
      root-grown =
          let named : 0 < holder = ready.named in
          let two : entries q root ≡ 2 = sym (entries-length q root) ∙ ap length pair.list in
          record {
            shape =
                shape-entries q h root ∙ ap (map (shape_in q h)) pair.list ∙ kept.shapes
                ∙ ap₂ (λ (x y : ℕ). shape_at p h x ∷ shape_at p h y ∷ []) pair.holds_one.link pair.holds_two.link;
            block =
                record {
                  inside = omega (arith, taken.inside, ready.map.blocks, pair.only.long);
                  form = pair.form;
                  enough = omega arith;
                  fits = omega arith;
                };
            below = good-below q h root (subst (All (GoodEntry q h)) (sym pair.list) kept.good);
            blocks = λ x.
                omega (
                  arith,
                  ap (count x) (blocks-entries q h root),
                  ap (λ (es : List (List ℕ)). count x (joined (blocks_in q h) es)) pair.list,
                  ap (count x) kept.blocks,
                  ap (count x) trees,
                  taken-blocks holder root m n named taken x,
                );
            only =
                only_wider _
                (λ x (e : x ≡ root). rw e (omega (arith, free, taken-blocks holder root m n named taken root, is_mark-same root root refl)))
                pair.only;
            entered = taken-entered holder root m n named taken;
            took = taken-one holder root m n named taken;
          }
