-- A branch that keeps its bytes keeps its entries.
use mathlib.Core.Path.{◌≡◌, ap, ◌∙◌}
use mathlib.Core.List.{List}
use Prim.Native.Nat.{ℕ, ◌+◌, ◌≤◌}
use native.Mathlib.Omega.{arith}
use lib.ListN.{length}
use Rattle.geometry.specs.Layout.{entry_size, most_branch}
use Rattle.lists.proofs.Cuts.{cut-same}
use Rattle.lists.proofs.Froms.{from-same}
use Rattle.lists.specs.Froms.{from}
use Rattle.pool.specs.Blocks.{entries, entry_at}
use Rattle.pool.specs.Changes.{SameBlock}
use Rattle.pool.proofs.TreesKept.{same_byte, same_entries}
use Rattle.pool_blocks.specs.Contents.{entry_bytes, entry_list}

pub same-entry-list : (p q : List ℕ) (b : ℕ) → SameBlock b p q → length q ≡ length p → entries p b ≤ most_branch → entry_list q b ≡ entry_list p b
unfolding entry_list
same-entry-list p q b same long fits =
    ap (from (entry_bytes q b) 0) (same_entries p q b same)
    ∙ from-same (entry_bytes q b) (entry_bytes p b) 0 (entries p b)
    (λ k _ inside. cut-same p q (entry_at b k) entry_size long (λ j l. same_byte p q b same (entry_at b k + j) (omega arith) (omega arith)))
