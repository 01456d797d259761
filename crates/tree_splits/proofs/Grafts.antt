-- An entry more for a branch, with room or with a split: the branch's entries are chopped as the shape function chops them.
use mathlib.Core.Path.{◌≡◌, refl, sym, ap, ◌∙◌}
use mathlib.Core.List.{List, [], ◌∷◌}
use mathlib.Core.Logic.{⊎_elim}
use Prim.Native.Nat.{ℕ, ◌+◌, ◌≤◌, ◌<◌}
use native.Mathlib.Omega.{arith}
use lib.ListN.{length, take, drop, length-append, length-take, length-drop}
use Rattle.std.specs.Prelude.{None, Some}
use Rattle.geometry.specs.Layout.{form_marks, most_branch}
use Rattle.sequence.proofs.Counts.{is_mark-same}
use Rattle.sequence.specs.Definition1.{count}
use Rattle.shape.proofs.Chop.{chop-fits, chop-halves}
use Rattle.pool.specs.Blocks.{form_of, entries}
use Rattle.pool.specs.Bytes.{shares}
use Rattle.pool.specs.Changes.{Only}
use Rattle.pool.proofs.Changes.{only_wider}
use Rattle.pool_blocks.proofs.Branches.{entries-length}
use Rattle.pool_blocks.specs.Contents.{entry_list, BranchAt}
use Rattle.pool_entries.specs.Summaries.{Is}
use Rattle.pool_entries.specs.declared.Summary.{Summary}
use Rattle.pool_holders.specs.Maps.{is_free, BlockTaken}
use Rattle.pool_holders.proofs.Takes.{taken-one, taken_free, taken-blocks, taken-entered, entered-none}
use Rattle.tree_splits.specs.Entries.{put_at}
use Rattle.tree_splits.specs.Grafts.{EntryPut, BranchSplit, GraftReady, Regrouped, Grafted}

pub length-put_at : {A : Type 0} (k : ℕ) (x : A) (xs : List A) → k ≤ length xs → length (put_at k x xs) ≡ length xs + 1
length-put_at k x xs place = omega (arith, length-append (take k xs) (x ∷ drop k xs), length-take k xs, length-drop k xs)

-- nothing taken: one branch is written
pub kept-regrouped : (b holder : ℕ) (all : List (List ℕ)) (p q m : List ℕ) → BranchAt p b → Only (λ x. x ≡ b) p q → form_of q b ≡ form_marks
    → entry_list q b ≡ all → length all ≤ most_branch → Regrouped b holder None all p q m m
unfolding count
kept-regrouped b holder all p q m branch only form list fits =
    record {
      lists = ap (λ (x : List (List ℕ)). x ∷ []) list ∙ sym (chop-fits most_branch all fits);
      inside = (omega (arith, branch.inside, only.long), tt);
      forms = (form, tt);
      only = only_wider _ (λ x e. omega (arith, is_mark-same x b (sym e))) only;
      blocks = λ x. omega arith;
      entered = entered-none holder m;
      took = omega arith;
    }

module _ (p m : List ℕ) (b k child holder : ℕ) (ready : GraftReady p m b k child holder) where
  pub graft-kept : (many : ℕ) → Is (entries p b) many → many < most_branch → (summary : Summary) (q : List ℕ) → EntryPut b k child summary p q
      → Grafted b k child holder summary None p q m m
  graft-kept many size room summary q put =
      let place : k ≤ length (entry_list p b) = omega (arith, ready.place, entries-length p b) in
      record {
        entry = put.entry;
        holds = put.holds;
        regrouped =
            kept-regrouped b holder (put_at k put.entry (entry_list p b)) p q m ready.branch put.only (put.form ∙ ready.form) put.list
            (omega (arith, length-put_at k put.entry (entry_list p b) place, entries-length p b, size.is));
      }

  module _ (new : ℕ) (n : List ℕ) (taken : BlockTaken holder new m n) where
    pub new-inside : new < shares p
    new-inside = omega (arith, taken.inside, ready.map.blocks)

    pub new-other : b ≡ new → ⊥
    new-other e = omega (arith, ready.held, taken_free holder new m n ready.named taken, ap (is_free m) e)

    pub graft-parted : (many : ℕ) → Is (entries p b) many → most_branch ≤ many → (summary : Summary) (q : List ℕ) → BranchSplit b new k child summary p q
        → Grafted b k child holder summary (Some new) p q m n
    unfolding count
    graft-parted many size full summary q split =
        let named : 0 < holder = ready.named in
        let place : k ≤ length (entry_list p b) = omega (arith, ready.place, entries-length p b) in
        record {
          entry = split.entry;
          holds = split.holds;
          regrouped =
              record {
                lists =
                    split.lists
                    ∙ sym (chop-halves most_branch (put_at k split.entry (entry_list p b))
                    (omega (arith, length-put_at k split.entry (entry_list p b) place, entries-length p b, size.is)));
                inside = (omega (arith, ready.branch.inside, split.only.long), (omega (arith, new-inside, split.only.long), tt));
                forms = (split.form ∙ ready.form, (split.new_form, tt));
                only =
                    only_wider _
                    (λ x w.
                    ⊎_elim (λ e. omega (arith, is_mark-same x b (sym e)))
                    (λ e. rw e (omega (arith, taken_free holder new m n named taken, taken-blocks holder new m n named taken new, is_mark-same new new refl))) w)
                    split.only;
                blocks = λ x. omega (arith, taken-blocks holder new m n named taken x);
                entered = taken-entered holder new m n named taken;
                took = omega (arith, taken-one holder new m n named taken);
              };
        }
