-- A change that leaves a tree's blocks alone leaves the tree: its shape, its blocks, and that it is sound.
-- First one block: each of its words is as before. Then by level, the children in turn.
use mathlib.Core.Path.{◌≡◌, refl, sym, ap, ap₂, ◌∙◌}
use mathlib.Core.List.{List, ◌∷◌, map}
use Prim.Native.Nat.{ℕ, zero, suc, ◌+◌, ◌-◌, ◌*◌, ◌≤◌, ◌<◌}
use native.Mathlib.Omega.{arith}
use lib.ListN.{length, take, drop, length-take, length-drop}
use lib.Seq.{ext_get_or}
use Rattle.geometry.specs.Layout.{most_leaf, most_branch}
use Rattle.geometry.specs.Limits.{block_size, most_alphabet}
use Rattle.lists.proofs.Froms.{from-same, all_from}
use Rattle.lists.proofs.Items.{all_map}
use Rattle.lists.proofs.Joins.{joined_same}
use Rattle.lists.proofs.Mapped.{map_same}
use Rattle.lists.specs.Froms.{from}
use Rattle.lists.specs.Items.{All}
use Rattle.lists.specs.Joins.{joined}
use Rattle.sequence.specs.Definition1.{count}
use Rattle.shape.specs.Nested.{flat, marks_in}
use Rattle.shape.specs.Sizes.{one_to_a_byte, least}
use Rattle.pool.specs.Blocks.{entries, leaf_marks, link, marks_below, count_below, children}
use Rattle.pool.specs.Bytes.{byte, word, block_at}
use Rattle.pool.specs.Changes.{SameBlock, Only}
use Rattle.pool.specs.Sound.{SoundBlock, SoundBelow, Tells}
use Rattle.pool.specs.Trees.{shape_at, blocks_at}
use Rattle.pool.specs.Untouched.{SameBlocks}
use Rattle.pool.proofs.Ways.{Readable}
use Rattle.pool.proofs.Blocks.{front-byte}
use Rattle.pool.proofs.Trees.{blocks-root, blocks-child}

-- blocks that are none of those changed
pub only_same : (These : ℕ → Type 0) (p p' : List ℕ) → Only These p p' → (bs : List ℕ) → All (λ b. These b → ⊥) bs → SameBlocks bs p p'
only_same These p p' only bs none = all_map (λ b. These b → ⊥) (λ b. SameBlock b p p') only.others bs none

-- One block.
module _ (p p' : List ℕ) (b : ℕ) (same : SameBlock b p p') where
  pub same_byte : (a : ℕ) → block_at b ≤ a → a < block_at b + block_size → byte p' a ≡ byte p a
  same_byte a low high =
      let e : block_at b + (a - block_at b) ≡ a = omega arith in
      rw e at (same (a - block_at b) (omega arith))

  pub same_word : (a : ℕ) → block_at b ≤ a → a + 1 < block_at b + block_size → word p' a ≡ word p a
  unfolding word
  same_word a low high = ap₂ (λ x y. x + 256 * y) (same_byte a low (omega arith)) (same_byte (a + 1) (omega arith) high)

  pub same_entries : entries p' b ≡ entries p b
  same_entries = same_word _ (omega arith) (omega arith)

  pub same-link : (k : ℕ) → k < most_branch → link p' b k ≡ link p b k
  same-link k h = same_word _ (omega arith) (omega arith)

  pub same-marks_below : (k : ℕ) → k < most_branch → marks_below p' b k ≡ marks_below p b k
  same-marks_below k h = same_word _ (omega arith) (omega arith)

  pub same-count_below : (k c : ℕ) → k < most_branch → c < most_alphabet → count_below p' b k c ≡ count_below p b k c
  same-count_below k c h l = same_word _ (omega arith) (omega arith)

  pub same-children : entries p b ≤ most_branch → children p' b ≡ children p b
  same-children fits =
      ap (from (link p' b) 0) same_entries ∙ from-same (link p' b) (link p b) 0 (entries p b) (λ k _ h. same-link k (omega arith))

  pub same-leaf : length p' ≡ length p → entries p b ≤ most_leaf → leaf_marks p' b ≡ leaf_marks p b
  unfolding leaf_marks
  same-leaf long fits =
      let n : ℕ = entries p b in
      ap (λ m. take m (drop (block_at b) p')) same_entries
      ∙ ext_get_or 0 (take n (drop (block_at b) p')) (take n (drop (block_at b) p)) (simp (length-take, length-drop, long))
      (λ i h.
      let l : i < n = omega (arith, length-take n (drop (block_at b) p')) in
      front-byte p' b n i l ∙ same i (omega arith) ∙ sym (front-byte p b n i l))

  pub same_block : length p' ≡ length p → (fewest h : ℕ) → SoundBlock p fewest h b → SoundBlock p' fewest h b
  same_block long fewest h s = record {
    inside = omega (arith, s.inside);
    form = same_byte _ (omega arith) (omega arith) ∙ s.form;
    enough = rw same_entries s.enough;
    fits = rw same_entries s.fits;
  }

-- A tree.
module _ (p p' : List ℕ) (long : length p' ≡ length p) where
  -- what holds of each child's tree whose blocks are as before
  children-kept : (Q : ℕ → Type 0) (h b : ℕ) → ((c : ℕ) → Readable p h c → SameBlocks (blocks_at p h c) p p' → Q c)
      → Readable p (suc h) b → SameBlocks (blocks_at p (suc h) b) p p' → All Q (children p b)
  children-kept Q h b q r s = all_from Q (link p b) 0 (entries p b)
      (λ k _ l.
      let inside : k < entries p b = omega arith in
      q (link p b k) (r.1 k inside) (blocks-child p h b k inside (λ x. SameBlock x p p') s))

  pub shape-kept : (h b : ℕ) → Readable p h b → SameBlocks (blocks_at p h b) p p' → shape_at p' h b ≡ shape_at p h b
  shape-kept zero b r s = same-leaf p p' b s.0 long r
  shape-kept (suc h) b r s =
      ap (map (shape_at p' h)) (same-children p p' b s.0 r.0.fits)
      ∙ map_same (shape_at p' h) (shape_at p h) (children p b) (children-kept (λ c. shape_at p' h c ≡ shape_at p h c) h b (shape-kept h) r s)

  pub blocks-kept : (h b : ℕ) → Readable p h b → SameBlocks (blocks_at p h b) p p' → blocks_at p' h b ≡ blocks_at p h b
  blocks-kept zero b r s = refl
  blocks-kept (suc h) b r s =
      ap (λ bs. b ∷ bs)
      (ap (joined (blocks_at p' h)) (same-children p p' b s.0 r.0.fits)
      ∙ joined_same (blocks_at p' h) (blocks_at p h) (children p b) (children-kept (λ c. blocks_at p' h c ≡ blocks_at p h c) h b (blocks-kept h) r s))

  pub below-kept : (alphabet h b : ℕ) → Readable p h b → SameBlocks (blocks_at p h b) p p' → SoundBelow p alphabet h b → SoundBelow p' alphabet h b
  below-kept alphabet zero b r s sound = rw (same-leaf p p' b s.0 long r) sound
  below-kept alphabet (suc h) b r s sound = λ k l.
      let inside : k < entries p b = omega (arith, same_entries p p' b s.0) in
      let few : k < most_branch = omega (arith, r.0.fits) in
      let c : ℕ = link p b k in
      let child : link p' b k ≡ c = same-link p p' b s.0 k few in
      let kept : SameBlocks (blocks_at p h c) p p'
      = blocks-child p h b k inside (λ x. SameBlock x p p') s in
      let shape : shape_at p' h (link p' b k) ≡ shape_at p h c = ap (shape_at p' h) child ∙ shape-kept h c (r.1 k inside) kept in
      let told : Tells p h b k = (sound k inside).2 in (
        rw child (same_block p p' c (blocks-root p (λ x. SameBlock x p p') h c kept) long (least one_to_a_byte h) h (sound k inside).0),
        rw child (below-kept alphabet h c (r.1 k inside) kept (sound k inside).1),
        record {
          marks = same-marks_below p p' b s.0 k few ∙ told.marks ∙ ap (marks_in h) (sym shape);
          counts = λ d low. same-count_below p p' b s.0 k d few (omega arith) ∙ told.counts d low ∙ ap (λ x. count d (flat h x)) (sym shape);
        },
      )
