-- An entry put into a branch with room: a gap is opened, and the entry written into it.
use mathlib.Core.Path.{◌∙◌}
use mathlib.Core.List.{List}
use Prim.Native.Nat.{ℕ, ◌≤◌, ◌<◌}
use native.Mathlib.Omega.{arith}
use Rattle.geometry.specs.Layout.{most_branch}
use Rattle.pool.specs.Blocks.{entries}
use Rattle.pool.proofs.Changes.{only_then}
use Rattle.pool_entries.proofs.Entries.{entries-kept, form-kept, only-entry}
use Rattle.pool_blocks.proofs.Branches.{entry-link, entry-below, entry-count, entry-filled}
use Rattle.pool_blocks.specs.Branches.{EntryOpened}
use Rattle.pool_blocks.specs.Contents.{entry_bytes, BranchAt}
use Rattle.pool_entries.specs.Entries.{PutEntry}
use Rattle.pool_entries.specs.declared.Summary.{Summary}
use Rattle.tree_splits.specs.Entries.{EntryHolds}
use Rattle.tree_splits.specs.Grafts.{EntryPut}

-- the entry that was written
pub entry-holds : (b k child : ℕ) (summary : Summary) (p q : List ℕ) → PutEntry b k child summary p q → EntryHolds child summary (entry_bytes q b k)
entry-holds b k child summary p q put =
    record {
      link = entry-link q b k ∙ put.link;
      marks = entry-below q b k ∙ put.marks;
      counts = λ c inside. entry-count q b k c inside ∙ put.counts c inside;
    }

module _ (b k child : ℕ) (summary : Summary) (p q : List ℕ) (branch : BranchAt p b) (place : k ≤ entries p b) (room : entries p b < most_branch) (opened : EntryOpened b k p q) where
  pub entry-put : (r : List ℕ) → PutEntry b k child summary q r → EntryPut b k child summary p r
  entry-put r put =
      let inside : k < most_branch = omega arith in
      record {
        entry = entry_bytes r b k;
        holds = entry-holds b k child summary q r put;
        only = only_then opened.only (only-entry b k put.same inside);
        form = form-kept b k put.same inside ∙ opened.form;
        many = entries-kept b k put.same inside ∙ opened.many;
        list = entry-filled b k p q branch place room r opened put.same;
      }
