-- A full branch split: it is cut so that the half which takes the entry has room for it. Of four entries each half has two, so look at them one by one.
use mathlib.Core.Path.{◌≡◌, refl, sym, ap, ap₂, ◌∙◌}
use mathlib.Core.List.{List, [], ◌∷◌}
use mathlib.Core.Logic.{inl, inr}
use Prim.Native.Nat.{ℕ, zero, suc, ◌-◌, ◌≤◌, ◌<◌}
use native.Mathlib.Omega.{arith}
use lib.ListN.{length, take, drop}
use Rattle.geometry.specs.Layout.{least_branch, most_branch}
use Rattle.shape.specs.Level.{halves}
use Rattle.pool.specs.Blocks.{entries}
use Rattle.pool.specs.Bytes.{shares}
use Rattle.pool.specs.Changes.{SameBlock}
use Rattle.pool.proofs.Changes.{only_then, only_wider}
use Rattle.pool.proofs.TreesKept.{same_byte}
use Rattle.pool_blocks.proofs.Branches.{entries-length}
use Rattle.pool_blocks.specs.Nodes.{EntriesCut}
use Rattle.pool_blocks.specs.Contents.{entry_list}
use Rattle.pool_entries.specs.declared.Summary.{Summary}
use Rattle.tree_splits.specs.Entries.{put_at}
use Rattle.tree_splits.specs.Grafts.{EntryPut, BranchSplit}
use Rattle.tree_splits.proofs.SameEntries.{same-entry-list}

module _ {A : Type 0} (e : A) where
  low_halves : (xs : List A) (k : ℕ) → length xs ≡ most_branch → k < least_branch
      → put_at k e (take (least_branch - 1) xs) ∷ drop (least_branch - 1) xs ∷ [] ≡ halves (put_at k e xs)
  unfolding halves
  low_halves [] k full low = absurd (omega arith)
  low_halves (x ∷ []) k full low = absurd (omega arith)
  low_halves (x ∷ y ∷ []) k full low = absurd (omega arith)
  low_halves (x ∷ y ∷ z ∷ []) zero full low = refl
  low_halves (x ∷ y ∷ z ∷ []) (suc zero) full low = refl
  low_halves (x ∷ y ∷ z ∷ []) (suc (suc k)) full low = absurd (omega arith)
  low_halves (x ∷ y ∷ z ∷ w ∷ ws) k full low = absurd (omega arith)

  high-halves : (xs : List A) (k : ℕ) → length xs ≡ most_branch → least_branch ≤ k → k ≤ most_branch
      → take least_branch xs ∷ put_at (k - least_branch) e (drop least_branch xs) ∷ [] ≡ halves (put_at k e xs)
  unfolding halves
  high-halves [] k full high last = absurd (omega arith)
  high-halves (x ∷ []) k full high last = absurd (omega arith)
  high-halves (x ∷ y ∷ []) k full high last = absurd (omega arith)
  high-halves (x ∷ y ∷ z ∷ []) zero full high last = absurd (omega arith)
  high-halves (x ∷ y ∷ z ∷ []) (suc zero) full high last = absurd (omega arith)
  high-halves (x ∷ y ∷ z ∷ []) (suc (suc zero)) full high last = refl
  high-halves (x ∷ y ∷ z ∷ []) (suc (suc (suc zero))) full high last = refl
  high-halves (x ∷ y ∷ z ∷ []) (suc (suc (suc (suc k)))) full high last = absurd (omega arith)
  high-halves (x ∷ y ∷ z ∷ w ∷ ws) k full high last = absurd (omega arith)

module _ (b new k child : ℕ) (summary : Summary) (p q : List ℕ) (within : b < shares p) (full : entries p b ≡ most_branch) (inside : new < shares p) where
  module _ (other : b ≡ new → ⊥) (r : List ℕ) where
    pub split-low : EntriesCut entry_list b new (least_branch - 1) p q → k < least_branch → EntryPut b k child summary q r → BranchSplit b new k child summary p r
    split-low cut low put =
        let same : SameBlock new q r = put.only.others new (λ e. other (sym e)) in
        let three : length (entry_list p b) ≡ most_branch = entries-length p b ∙ full in
        record {
          entry = put.entry;
          holds = put.holds;
          only = only_then cut.only (only_wider _ (λ x e. inl e) put.only);
          form = put.form ∙ cut.form;
          new_form = same_byte q r new same _ (omega arith) (omega arith) ∙ cut.new_form;
          lists =
              ap₂ (λ (x y : List (List ℕ)). x ∷ y ∷ []) (put.list ∙ ap (put_at k put.entry) cut.kept)
              (same-entry-list q r new same put.only.long (omega (arith, cut.new_many)) ∙ cut.moved)
              ∙ low_halves put.entry (entry_list p b) k three low;
        }

    pub split-high : EntriesCut entry_list b new least_branch p q → least_branch ≤ k → k ≤ most_branch → EntryPut new (k - least_branch) child summary q r
        → BranchSplit b new k child summary p r
    split-high cut high last put =
        let same : SameBlock b q r = put.only.others b other in
        let three : length (entry_list p b) ≡ most_branch = entries-length p b ∙ full in
        record {
          entry = put.entry;
          holds = put.holds;
          only = only_then cut.only (only_wider _ (λ x e. inr e) put.only);
          form = same_byte q r b same _ (omega arith) (omega arith) ∙ cut.form;
          new_form = put.form ∙ cut.new_form;
          lists =
              ap₂ (λ (x y : List (List ℕ)). x ∷ y ∷ [])
              (same-entry-list q r b same put.only.long (omega (arith, cut.many)) ∙ cut.kept)
              (put.list ∙ ap (put_at (k - least_branch) put.entry) cut.moved)
              ∙ high-halves put.entry (entry_list p b) k three high last;
        }
