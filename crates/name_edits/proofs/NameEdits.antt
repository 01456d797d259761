-- A mark put into a name and a mark taken out of it: each changes the name's tree by its own shape function, and the marks by Definition 1.
use mathlib.Core.Path.{◌≡◌, refl, ap}
use mathlib.Core.List.{List}
use mathlib.Core.Logic.{inl, inr, ⊎_elim}
use Prim.Native.Nat.{ℕ, ◌+◌, ◌-◌, ◌≤◌, ◌<◌}
use native.Mathlib.Nat.{eq-zero-or-pos}
use native.Mathlib.Omega.{arith}
use lib.ListN.{length, get_or}
use Rattle.geometry.specs.declared.Record.{Record}
use Rattle.sequence.proofs.Edits.{length-insert, length-delete, all_below-insert, all_below-delete}
use Rattle.sequence.specs.Definition1.{count, insert, delete}
use Rattle.sequence.proofs.Counts.{all-standing}
use Rattle.shape.proofs.Marks.{insert_t-marks, delete_t-marks}
use Rattle.shape.specs.Sizes.{one_to_a_byte}
use Rattle.shape.specs.Trees.{marks_t, insert_t, delete_t}
use Rattle.pool.proofs.SoundNames.{open-marks, open-readable}
use Rattle.pool.proofs.Ways.{path-among}
use Rattle.pool.specs.Names.{record_of, tree_of}
use Rattle.pool.specs.Records.{PutRecord}
use Rattle.pool.specs.Trees.{blocks_at, path_at}
use Rattle.pool.specs.Words.{word_limit}
use Rattle.pool.proofs.Changes.{only_wider}
use Rattle.pool_holders.specs.Maps.{holder_of, is_free, Freed}
use Rattle.tree_insert.specs.Trees.{TreeReady, TreeInserted}
use Rattle.tree_splits.specs.declared.Rooted.{Rooted}
use Rattle.name_open_close.proofs.ExactMaps.{Turns, entered-turns}
use Rattle.tree_delete.specs.Removals.{DeleteReady}
use Rattle.tree_delete.specs.Trees.{TreeDeleted}
use Rattle.tree_delete.specs.declared.tree.Removed.{Removed}
use Rattle.name_edits.specs.Edits.{InsertAt, DeleteAt, InsertedAt, DeletedAt}
use Rattle.name_edits.specs.Trees.{Storable, with_tree}
use Rattle.name_edits.proofs.NewTrees.{blocks_below, TreeChanged, MarksRecorded, storable, tree-stored}
use Rattle.name_edits.proofs.TreesReady.{promise-most, insert-ready, delete-ready}

-- An insert.
module _ (p q m n : List ℕ) (name i c : ℕ) (at : InsertAt p m name i c) (g : Rooted)
    (ins : TreeInserted (record_of p name).height (record_of p name).root i c (holder_of name) g p q m n) where
  -- the blocks of the path are the tree's
  path-own : (x : ℕ) → 1 ≤ count x (path_at p (record_of p name).height i (record_of p name).root) + (is_free m x - is_free n x)
      → 1 ≤ count x (blocks_below p name) + is_free m x
  path-own x change =
      let h : ℕ = (record_of p name).height in
      let b : ℕ = (record_of p name).root in
      ⊎_elim (λ (none : count x (path_at p h i b) ≡ 0). omega arith)
      (λ (some : 0 < count x (path_at p h i b)).
      let among : 1 ≤ count x (blocks_at p h b) =
      all-standing (λ y. 1 ≤ count y (blocks_at p h b)) (path_at p h i b) x some (path-among p h i b (open-readable p name at.opened)) in
      omega arith) (eq-zero-or-pos (count x (path_at p h i b)))

  insert-changed : TreeChanged name (insert_t one_to_a_byte c i (tree_of p name)) g.level g.root p q m n
  insert-changed =
      record {
        tree = ins.tree;
        block = ins.block;
        below = ins.below;
        blocks = ins.blocks;
        only = only_wider _ path-own ins.only;
        long = ins.entered.long;
        each = entered-turns (holder_of name) m n ins.entered;
      }

  insert-fits : MarksRecorded (record_of p name) (insert_t one_to_a_byte c i (tree_of p name)) ((record_of p name).length + 1)
  insert-fits =
      let marks : marks_t (insert_t one_to_a_byte c i (tree_of p name)) ≡ insert c i (marks_t (tree_of p name)) = insert_t-marks one_to_a_byte c i (tree_of p name) in
      record {
        alphabet = rw marks (all_below-insert (record_of p name).alphabet c i (marks_t (tree_of p name)) at.symbol (open-marks p name at.opened));
        many = omega (arith, at.opened.length, ap length marks, length-insert c i (marks_t (tree_of p name)));
        room = omega (arith, at.room);
      }

-- A delete.

-- what becomes of the bytes of blocks freed
freed-turns : (holder : ℕ) (m n : List ℕ) → Freed m n → (x : ℕ) → Turns holder (get_or m x 0) (get_or n x 0)
freed-turns holder m n freed x = ⊎_elim (λ same. inl same) (λ zero. inr (inr zero)) (freed.each x)

module _ (p q m n : List ℕ) (name i : ℕ) (at : DeleteAt p m name i) (g : Removed)
    (del : TreeDeleted (record_of p name).height (record_of p name).root i g p q m n) where
  delete-changed : TreeChanged name (delete_t one_to_a_byte i (tree_of p name)) g.tree.level g.tree.root p q m n
  delete-changed =
      record {
        tree = del.tree;
        block = del.block;
        below = del.below;
        blocks = del.blocks;
        only = only_wider _ (λ x (among : 1 ≤ count x (blocks_below p name)). omega arith) del.only;
        long = del.freed.long;
        each = freed-turns (name + 1) m n del.freed;
      }

  delete-fits : MarksRecorded (record_of p name) (delete_t one_to_a_byte i (tree_of p name)) ((record_of p name).length - 1)
  delete-fits =
      let marks : marks_t (delete_t one_to_a_byte i (tree_of p name)) ≡ delete i (marks_t (tree_of p name)) = delete_t-marks one_to_a_byte i (tree_of p name) in
      record {
        alphabet = rw marks (all_below-delete (record_of p name).alphabet i (marks_t (tree_of p name)) (open-marks p name at.opened));
        many = omega (arith, at.opened.length, ap length marks, length-delete i (marks_t (tree_of p name)) at.first (omega (arith, at.last, at.opened.length)));
        room = omega (arith, at.opened.entry.room);
      }

-- The same as the code has it: `old` is the record that was read.
module _ (p m : List ℕ) (name : ℕ) (old : Record) (is : old ≡ record_of p name) where
  module _ (i c : ℕ) (at : InsertAt p m name i c) (holder : ℕ) (own : holder ≡ holder_of name) where
    pub insert-in-ready : TreeReady p m old.height old.root i c holder
    insert-in-ready = rw (is, own) (insert-ready p m name i c at)

    pub insert-length : old.length + 1 < word_limit
    insert-length = rw is (omega (arith, at.room, promise-most p name at.within.low at.within.sound))

    module _ (g : Rooted) (q n : List ℕ) (ins : TreeInserted old.height old.root i c holder g p q m n) where
      inserted-in : TreeInserted (record_of p name).height (record_of p name).root i c (holder_of name) g p q m n
      inserted-in = rw (is, own) at ins

      pub insert-storable : Storable q name g.level g.root
      insert-storable =
          storable p q m n name at.within at.opened _ g.level g.root _
          (insert-changed p q m n name i c at g inserted-in) (insert-fits p q m n name i c at g inserted-in)

      pub inserted-at : (r : List ℕ) → PutRecord name (with_tree old g.level g.root (old.length + 1)) q r → InsertedAt name i c p r n
      inserted-at r put =
          tree-stored p q m n name at.within at.opened _ g.level g.root _
          (insert-changed p q m n name i c at g inserted-in) (insert-fits p q m n name i c at g inserted-in) r (rw is at put) (insert_t one_to_a_byte c i) refl

  module _ (i : ℕ) (at : DeleteAt p m name i) where
    pub delete-in-ready : DeleteReady p m old.height old.root i
    delete-in-ready = rw is (delete-ready p m name i at)

    module _ (g : Removed) (q n : List ℕ) (del : TreeDeleted old.height old.root i g p q m n) where
      deleted-in : TreeDeleted (record_of p name).height (record_of p name).root i g p q m n
      deleted-in = rw is at del

      pub delete-storable : Storable q name g.tree.level g.tree.root
      delete-storable =
          storable p q m n name at.within at.opened _ g.tree.level g.tree.root _
          (delete-changed p q m n name i at g deleted-in) (delete-fits p q m n name i at g deleted-in)

      pub deleted-at : (r : List ℕ) → PutRecord name (with_tree old g.tree.level g.tree.root (old.length - 1)) q r → DeletedAt name i g.mark p r n
      deleted-at r put =
          record {
            taken = deleted-in.taken;
            updated =
                tree-stored p q m n name at.within at.opened _ g.tree.level g.tree.root _
                (delete-changed p q m n name i at g deleted-in) (delete-fits p q m n name i at g deleted-in) r (rw is at put) (delete_t one_to_a_byte i) refl;
          }
