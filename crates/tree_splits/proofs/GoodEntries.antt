-- A branch is sound where its entries are good: each one's child is sound, and what it says is true. An entry stays good as long as its child's tree keeps its bytes.
use mathlib.Core.Path.{◌≡◌, sym, ap, ◌∙◌}
use mathlib.Core.List.{List, ◌∷◌, map}
use Prim.Native.Nat.{ℕ, suc}
use native.Mathlib.Omega.{arith}
use lib.ListN.{length}
use Rattle.geometry.specs.Limits.{most_alphabet}
use Rattle.lists.proofs.Froms.{all_from, from_all}
use Rattle.lists.proofs.Joins.{joined-map}
use Rattle.lists.proofs.Mapped.{map-twice}
use Rattle.lists.specs.Items.{All}
use Rattle.lists.specs.Joins.{joined}
use Rattle.sequence.specs.Definition1.{count}
use Rattle.shape.proofs.Filled.{root-least}
use Rattle.shape.proofs.Instances.{one_to_a_byte-proper}
use Rattle.shape.specs.Nested.{Node, flat, marks_in}
use Rattle.shape.specs.Sizes.{one_to_a_byte, least}
use Rattle.pool.proofs.SoundTrees.{sound-readable}
use Rattle.pool.proofs.Ways.{Readable}
use Rattle.pool.specs.Blocks.{entries, link}
use Rattle.pool.specs.Changes.{SameBlock}
use Rattle.pool.specs.Sound.{SoundBelow}
use Rattle.pool.specs.Trees.{shape_at, blocks_at}
use Rattle.pool.specs.Untouched.{SameBlocks}
use Rattle.pool.proofs.Trees.{blocks-root}
use Rattle.pool.proofs.TreesKept.{shape-kept, blocks-kept, below-kept, same_block}
use Rattle.pool_blocks.proofs.Branches.{entry-link, entry-below, entry-count, children-are}
use Rattle.pool_blocks.specs.Contents.{link_in, entry_bytes, entry_list}
use Rattle.tree_splits.specs.Entries.{TrueEntry, SoundChild}

pub record GoodEntry (p : List ℕ) (h : ℕ) (entry : List ℕ) : Type 0 where
  pub sound : SoundChild p h (link_in entry)
  pub true : TrueEntry p h entry

-- the shape and the blocks of an entry's child
abbrev pub shape_in : List ℕ → (h : ℕ) → List ℕ → Node h
shape_in p h entry = shape_at p h (link_in entry)

abbrev pub blocks_in : List ℕ → ℕ → List ℕ → List ℕ
blocks_in p h entry = blocks_at p h (link_in entry)

module _ (p : List ℕ) (h b : ℕ) where
  pub below-good : SoundBelow p most_alphabet (suc h) b → All (GoodEntry p h) (entry_list p b)
  unfolding entry_list
  below-good below =
      all_from (GoodEntry p h) (entry_bytes p b) 0 (entries p b)
      (λ k _ l.
      let child = below k (omega arith) in
      record {
        sound = rw (entry-link p b k) (child.0, child.1);
        true =
            record {
              marks = rw (entry-link p b k) (entry-below p b k ∙ child.2.marks);
              counts = λ c inside. rw (entry-link p b k) (entry-count p b k c (omega arith) ∙ child.2.counts c (omega arith));
            };
      })

  pub good-below : All (GoodEntry p h) (entry_list p b) → SoundBelow p most_alphabet (suc h) b
  unfolding entry_list
  good-below all k l =
      let good : GoodEntry p h (entry_bytes p b k) = from_all (GoodEntry p h) (entry_bytes p b) (entries p b) k l all in
      let e : link_in (entry_bytes p b k) ≡ link p b k = entry-link p b k in
      let sound : SoundChild p h (link p b k) = rw e at good.sound in (
        sound.0,
        sound.1,
        record {
          marks = sym (entry-below p b k) ∙ good.true.marks ∙ ap (λ (x : ℕ). marks_in h (shape_at p h x)) e;
          counts = λ c inside. sym (entry-count p b k c inside) ∙ good.true.counts c inside ∙ ap (λ (x : ℕ). count c (flat h (shape_at p h x))) e;
        },
      )

  pub shape-entries : shape_at p (suc h) b ≡ map (shape_in p h) (entry_list p b)
  shape-entries = ap (map (shape_at p h)) (children-are p b) ∙ map-twice (shape_at p h) link_in (entry_list p b)

  pub blocks-entries : blocks_at p (suc h) b ≡ b ∷ joined (blocks_in p h) (entry_list p b)
  blocks-entries = ap (λ (bs : List ℕ). b ∷ bs) (ap (joined (blocks_at p h)) (children-are p b) ∙ joined-map (blocks_at p h) link_in (entry_list p b))

pub child-readable : (p : List ℕ) (h x : ℕ) → SoundChild p h x → Readable p h x
child-readable p h x sound = sound-readable p most_alphabet (least one_to_a_byte h) h x (root-least one_to_a_byte one_to_a_byte-proper h) sound.0 sound.1

-- an entry whose child's tree keeps its bytes
module _ (p q : List ℕ) (long : length q ≡ length p) (h : ℕ) (entry : List ℕ) (good : GoodEntry p h entry) (same : SameBlocks (blocks_in p h entry) p q) where
  pub shape_same : shape_in q h entry ≡ shape_in p h entry
  shape_same = shape-kept p q long h (link_in entry) (child-readable p h (link_in entry) good.sound) same

  pub blocks-same : blocks_in q h entry ≡ blocks_in p h entry
  blocks-same = blocks-kept p q long h (link_in entry) (child-readable p h (link_in entry) good.sound) same

  pub good-kept : GoodEntry q h entry
  good-kept =
      record {
        sound = (
          same_block p q (link_in entry) (blocks-root p (λ x. SameBlock x p q) h (link_in entry) same) long (least one_to_a_byte h) h good.sound.0,
          below-kept p q long most_alphabet h (link_in entry) (child-readable p h (link_in entry) good.sound) same good.sound.1,
        );
        true =
            record {
              marks = good.true.marks ∙ ap (marks_in h) (sym shape_same);
              counts = λ c inside. good.true.counts c inside ∙ ap (λ x. count c (flat h x)) (sym shape_same);
            };
      }
