-- The walk over a tree. A leaf is entered, and that is all; a branch is entered, and its children are walked in turn. Of a child the tree is
-- walked first, and then its entry is tested, with the marks of a leaf: for a sound tree, to repeat its summary is to tell its marks.
use mathlib.Core.Bool.{Bool, true, false}
use mathlib.Core.List.{List, [], ◌∷◌}
use mathlib.Core.Logic.{⊎_elim}
use mathlib.Core.Path.{◌≡◌, refl, sym}
use Prim.Native.Nat.{ℕ, zero, suc, ◌+◌, ◌-◌, ◌<◌}
use native.Mathlib.Nat.{eq-or-lt_of_le}
use native.Mathlib.Numerals.{add-one}
use native.Mathlib.Omega.{arith}
use Rattle.lists.specs.Froms.{from}
use Rattle.lists.specs.Joins.{joined}
use Rattle.pool_entries.specs.Summaries.{Is}
use Rattle.pool.specs.Blocks.{entries, link, children}
use Rattle.pool.specs.Bytes.{shares}
use Rattle.pool.specs.Sound.{SoundBlock, SoundBelow, Tells}
use Rattle.pool.specs.Trees.{blocks_at}
use Rattle.pool.proofs.Summaries.{tells-own, own-told}
use Rattle.shape.specs.Sizes.{one_to_a_byte, least}
use Rattle.pool_check.specs.Walks.{Walked}
use Rattle.pool_check.specs.Parts.{MarksFit, SoundUnder, WalkedTree, SoundChildren, Matches}
use Rattle.pool_check.specs.Says.{Says}
use Rattle.pool_check.proofs.Deciding.{say-yes, denied}
use Rattle.pool_check.proofs.Walks.{walk_no, walk_same, walk-both, walk-fails, walk-test, walk-found}

-- What stands below a block: the blocks that were walked, and the marks of a leaf.
module _ (p : List ℕ) (alphabet : ℕ) where
  pub below_of : (h b : ℕ) → SoundUnder p alphabet h b → MarksFit p alphabet h b → SoundBelow p alphabet h b
  below_of zero b under fit = fit
  below_of (suc h) b under fit = under

  pub under_of : (h b : ℕ) → SoundBelow p alphabet h b → SoundUnder p alphabet h b
  under_of zero b below = tt
  under_of (suc h) b below = below

  pub fit_of : (h b : ℕ) → SoundBelow p alphabet h b → MarksFit p alphabet h b
  fit_of zero b below = below
  fit_of (suc h) b below = tt

module _ (p : List ℕ) (alphabet tag : ℕ) where
  -- A block, refused or entered.
  module _ (fewest h b : ℕ) (map entered : List ℕ) (r : Bool) (walked : Walked r (SoundBlock p fewest h b) tag (b ∷ []) map entered) where
    pub block_inside : r ≡ true → b < shares p
    block_inside passed = (walk-found tag passed walked).inside

  pub branch-walked : (fewest h b many : ℕ) (map entered after : List ℕ) (r s : Bool) → Walked r (SoundBlock p fewest h b) tag (b ∷ []) map entered → r ≡ true
      → (h ≡ 0 → ⊥)
      → Is (entries p b) many
      → Walked s (SoundChildren p alphabet (h - 1) b 0 many) tag (joined (blocks_at p (h - 1)) (from (link p b) 0 many)) entered after
      → Walked s (WalkedTree p alphabet fewest h b) tag (blocks_at p h b) map after
  branch-walked fewest zero b many map entered after r s walked passed branch size below = absurd (branch refl)
  branch-walked fewest (suc h) b many map entered after r s walked passed branch size below =
      let down : suc h - 1 ≡ h = omega arith in
      let here : Walked s (SoundChildren p alphabet h b 0 (entries p b)) tag (joined (blocks_at p h) (children p b)) entered after
      = rw (down, size.is) at below in
      walk_same tag (b ∷ joined (blocks_at p h) (children p b)) map after (λ g. (g.0, λ k low. g.1 k (omega arith) (omega arith)))
      (λ g. (g.0, λ k _ low. g.1 k (omega arith)))
      (walk-both tag (b ∷ []) (joined (blocks_at p h) (children p b)) map entered after passed walked here)

  -- The children, from child k on.
  pub no-children : (h b k left : ℕ) (map : List ℕ) → left ≡ 0
      → Walked true (SoundChildren p alphabet h b k left) tag (joined (blocks_at p h) (from (link p b) k left)) map map
  unfolding from
  no-children h b k zero map none = record { says = say-yes (λ j low high. absurd (omega arith), tt); met = λ e. refl }
  no-children h b k (suc left) map none = absurd (omega arith)

  module _ (h b k : ℕ) where
    abbrev TreeWalked : Type 0
    TreeWalked = WalkedTree p alphabet (least one_to_a_byte h) h (link p b k)

    -- what its entry tells, and what a test of the entry shows
    abbrev Told : Type 0
    Told = MarksFit p alphabet h (link p b k) × Tells p h b k

    abbrev Shown : Type 0
    Shown = Matches p alphabet h b k (link p b k)

    -- child k and those behind it
    first-child : (left : ℕ) → (TreeWalked × (Told × SoundChildren p alphabet h b (suc k) left)) → SoundChildren p alphabet h b k (suc left)
    first-child left g j low high =
        ⊎_elim (λ (e : k ≡ j). rw (sym e) (g.0.0, below_of p alphabet h (link p b k) g.0.1 g.1.0.0, g.1.0.1))
        (λ (l : k < j). g.1.1 j (omega arith) (omega arith))
        (eq-or-lt_of_le low)

    child-first : (left : ℕ) → SoundChildren p alphabet h b k (suc left) → TreeWalked × (Told × SoundChildren p alphabet h b (suc k) left)
    child-first left g =
        let here = g k (omega arith) (omega arith) in
        ((here.0, under_of p alphabet h (link p b k) here.1), ((fit_of p alphabet h (link p b k) here.1, here.2), λ j low high. g j (omega arith) (omega arith)))

    tree-tells : TreeWalked → Shown → Told
    tree-tells tree shown = (
      shown.fit,
      tells-own p alphabet (least one_to_a_byte h) h b k tree.0 (below_of p alphabet h (link p b k) tree.1 shown.fit) shown.same.marks shown.same.counts,
    )

    tells-tree : TreeWalked → Told → Shown
    tells-tree tree told =
        let own = own-told p alphabet (least one_to_a_byte h) h b k tree.0 (below_of p alphabet h (link p b k) tree.1 told.0) told.1 in
        record { fit = told.0; same = record { marks = own.0; counts = own.1 } }

    module _ (map after : List ℕ) (r : Bool) (walked : Walked r TreeWalked tag (blocks_at p h (link p b k)) map after) where
      refused : (left : ℕ) → r ≡ false → Walked false (SoundChildren p alphabet h b k (suc left)) tag (joined (blocks_at p h) (from (link p b) k (suc left))) map after
      unfolding from
      refused left failed =
          walk_same tag (joined (blocks_at p h) (from (link p b) k (suc left))) map after (first-child left) (child-first left)
          (walk-fails tag (blocks_at p h (link p b k)) (joined (blocks_at p h) (from (link p b) (suc k) left)) map after after failed walked)

      module _ (s : Bool) (tested : Says s Shown) (passed : r ≡ true) where
        told-wrong : (left : ℕ) → s ≡ false → Walked false (SoundChildren p alphabet h b k (suc left)) tag (joined (blocks_at p h) (from (link p b) k (suc left))) map after
        told-wrong left failed =
            walk_no tag (joined (blocks_at p h) (from (link p b) k (suc left))) map after
            (λ g new. denied tested failed (tells-tree (walk-found tag passed walked) (child-first left g).1.0))

        walked_on : (left : ℕ) (end : List ℕ) (t : Bool) → s ≡ true
            → Walked t (SoundChildren p alphabet h b (suc k) left) tag (joined (blocks_at p h) (from (link p b) (suc k) left)) after end
            → Walked t (SoundChildren p alphabet h b k (suc left)) tag (joined (blocks_at p h) (from (link p b) k (suc left))) map end
        unfolding from
        walked_on left end t right rest =
            walk_same tag (joined (blocks_at p h) (from (link p b) k (suc left))) map end (λ g. first-child left (g.0.0, (g.0.1, g.1)))
            (λ g. let f = child-first left g in ((f.0, f.1.0), f.1.1))
            (walk-both tag (blocks_at p h (link p b k)) (joined (blocks_at p h) (from (link p b) (suc k) left)) map after end right
            (walk-test tag (blocks_at p h (link p b k)) map after passed walked tested tree-tells tells-tree)
            rest)

  -- the same as the code has it: the child's block and the least entries in locals, and so many children left, not 0
  module _ (h b k child fewest : ℕ) (map after : List ℕ) (r : Bool) (walked : Walked r (WalkedTree p alphabet fewest h child) tag (blocks_at p h child) map after) where
    module _ (linked : Is (link p b k) child) (few : fewest ≡ least one_to_a_byte h) where
      there : Walked r (TreeWalked h b k) tag (blocks_at p h (link p b k)) map after
      there = rw (linked.is, few) at walked

      pub child-refused : (left : ℕ) → (left ≡ 0 → ⊥) → r ≡ false
          → Walked false (SoundChildren p alphabet h b k left) tag (joined (blocks_at p h) (from (link p b) k left)) map after
      child-refused zero some failed = absurd (some refl)
      child-refused (suc left) some failed = refused h b k map after r there left failed

      module _ (s : Bool) (tested : Says s (Matches p alphabet h b k child)) (passed : r ≡ true) where
        same : Says s (Shown h b k)
        same = rw linked.is at tested

        pub entry-refused : (left : ℕ) → (left ≡ 0 → ⊥) → s ≡ false
            → Walked false (SoundChildren p alphabet h b k left) tag (joined (blocks_at p h) (from (link p b) k left)) map after
        entry-refused zero some failed = absurd (some refl)
        entry-refused (suc left) some failed = told-wrong h b k map after r there s same passed left failed

        pub children-walked : (left : ℕ) (end : List ℕ) (t : Bool) → (left ≡ 0 → ⊥) → s ≡ true
            → Walked t (SoundChildren p alphabet h b (k + 1) (left - 1)) tag (joined (blocks_at p h) (from (link p b) (k + 1) (left - 1))) after end
            → Walked t (SoundChildren p alphabet h b k left) tag (joined (blocks_at p h) (from (link p b) k left)) map end
        children-walked zero end t some right rest = absurd (some refl)
        children-walked (suc left) end t some right rest =
            let down : suc left - 1 ≡ left = omega arith in
            walked_on h b k map after r there s same passed left end t right (rw (add-one, down) at rest)
