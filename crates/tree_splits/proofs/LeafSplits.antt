-- A full leaf split: it is cut so that the half which takes the mark has room for it, and that half is one mark short until it has it.
use mathlib.Core.Path.{◌≡◌, sym, ap, ap₂, ◌∙◌}
use mathlib.Core.List.{List, [], ◌∷◌}
use mathlib.Core.Logic.{inl, inr}
use Prim.Native.Nat.{ℕ, ◌+◌, ◌-◌, ◌≤◌, ◌<◌}
use native.Mathlib.Omega.{arith}
use lib.ListN.{length}
use Rattle.geometry.specs.Layout.{least_leaf, most_leaf}
use Rattle.sequence.specs.Definition1.{insert}
use Rattle.shape.proofs.Cut.{full-leaf-low, full-leaf-high}
use Rattle.shape.proofs.Instances.{one_to_a_byte-proper}
use Rattle.shape.specs.Sizes.{one_to_a_byte}
use Rattle.pool.specs.Blocks.{entries, leaf_marks}
use Rattle.pool.specs.Bytes.{shares}
use Rattle.pool.specs.Changes.{SameBlock}
use Rattle.pool.proofs.Changes.{only_then, only_wider}
use Rattle.pool.proofs.TreesKept.{same_entries, same-leaf, same_byte}
use Rattle.pool_blocks.proofs.Leaves.{leaf-size}
use Rattle.pool_blocks.specs.Contents.{LeafAt}
use Rattle.pool_blocks.specs.Leaves.{MarkInserted}
use Rattle.pool_blocks.specs.Nodes.{EntriesCut}
use Rattle.tree_splits.specs.Inserts.{LeafSplit}

module _ (b new : ℕ) (p q : List ℕ) (leaf : LeafAt p b) (full : length (leaf_marks p b) ≡ most_leaf) (inside : new < shares p) where
  -- cut one short of the half, which leaves room on the left
  module _ (cut : EntriesCut leaf_marks b new (least_leaf - 1) p q) where
    pub left-leaf : LeafAt q b
    left-leaf = record { inside = omega (arith, leaf.inside, cut.only.long); fits = omega (arith, cut.many) }

    pub left-room : length (leaf_marks q b) < most_leaf
    left-room = omega (arith, leaf-size q b left-leaf, cut.many)

    pub left-place : (i : ℕ) → i ≤ least_leaf → i ≤ length (leaf_marks q b) + 1
    left-place i low = omega (arith, leaf-size q b left-leaf, cut.many)

  -- cut at the half, which leaves room on the right
  module _ (cut : EntriesCut leaf_marks b new least_leaf p q) where
    right-many : entries q new ≡ least_leaf - 1
    right-many = omega (arith, cut.new_many, leaf-size p b leaf)

    pub right-leaf : LeafAt q new
    right-leaf = record { inside = omega (arith, inside, cut.only.long); fits = omega (arith, right-many) }

    pub right-room : length (leaf_marks q new) < most_leaf
    right-room = omega (arith, leaf-size q new right-leaf, right-many)

    pub right-place : (i : ℕ) → i ≤ most_leaf + 1 → i - least_leaf ≤ length (leaf_marks q new) + 1
    right-place i last = omega (arith, leaf-size q new right-leaf, right-many)

module _ (b new i c : ℕ) (p q : List ℕ) (leaf : LeafAt p b) (full : length (leaf_marks p b) ≡ most_leaf) (inside : new < shares p) where
  module _ (other : b ≡ new → ⊥) (r : List ℕ) where
    pub split-low : EntriesCut leaf_marks b new (least_leaf - 1) p q → 1 ≤ i → i ≤ least_leaf → MarkInserted b i c q r → LeafSplit b new i c p r
    split-low cut one low put =
        let same : SameBlock new q r = put.only.others new (λ e. other (sym e)) in
        let fits : entries q new ≡ least_leaf = omega (arith, cut.new_many, leaf-size p b leaf) in
        record {
          only = only_then cut.only (only_wider _ (λ x e. inl e) put.only);
          marks =
              ap₂ (λ (x y : List ℕ). x ∷ y ∷ []) (put.marks ∙ ap (insert c i) cut.kept)
              (same-leaf q r new same put.only.long (omega arith) ∙ cut.moved)
              ∙ sym (full-leaf-low one_to_a_byte one_to_a_byte-proper c i (leaf_marks p b) full one low);
          form = put.form ∙ cut.form;
          many = omega (arith, put.many, cut.many);
          new_form = same_byte q r new same _ (omega arith) (omega arith) ∙ cut.new_form;
          new_many = same_entries q r new same ∙ fits;
        }

    pub split-high : EntriesCut leaf_marks b new least_leaf p q → least_leaf < i → MarkInserted new (i - least_leaf) c q r → LeafSplit b new i c p r
    split-high cut high put =
        let same : SameBlock b q r = put.only.others b other in
        record {
          only = only_then cut.only (only_wider _ (λ x e. inr e) put.only);
          marks =
              ap₂ (λ (x y : List ℕ). x ∷ y ∷ []) (same-leaf q r b same put.only.long (omega (arith, cut.many)) ∙ cut.kept)
              (put.marks ∙ ap (insert c (i - least_leaf)) cut.moved)
              ∙ sym (full-leaf-high one_to_a_byte one_to_a_byte-proper c i (leaf_marks p b) full high);
          form = same_byte q r b same _ (omega arith) (omega arith) ∙ cut.form;
          many = same_entries q r b same ∙ cut.many;
          new_form = put.form ∙ cut.new_form;
          new_many = omega (arith, put.many, cut.new_many, leaf-size p b leaf);
        }
