-- The stores that write an entry, or adjust it by a mark; and what a change of one entry leaves of its block and of the pool.
use mathlib.Core.Path.{◌≡◌, ◌∙◌}
use mathlib.Core.List.{List}
use Prim.Native.Nat.{ℕ, ◌+◌, ◌*◌, ◌≤◌, ◌<◌}
use native.Mathlib.Omega.{arith}
use borrow.Author.Count.{below_more}
use lib.ListN.{get_or}
use Rattle.geometry.specs.Layout.{form_at, count_at, entry_size, entry_marks_at, entry_counts_at, most_branch, word_size}
use Rattle.geometry.specs.Limits.{most_alphabet}
use Rattle.pool.proofs.Changes.{outside-then, outside_wider, only-block, word-before, word-behind}
use Rattle.pool.specs.Blocks.{form_of, entries, entry_at, link, marks_below, count_below}
use Rattle.pool.specs.Bytes.{word, block_at}
use Rattle.pool.specs.Changes.{Outside, Only}
use Rattle.pool.specs.Words.{PutWord}
use Rattle.shape.proofs.Choice.{by-leb}
use Rattle.pool_entries.specs.Entries.{PutCounts, PutEntry, PutMark}
use Rattle.pool_entries.specs.declared.Summary.{Summary}

-- counts put one after the other
module _ (at : ℕ) (counts p : List ℕ) where
  pub counts-more : (many value : ℕ) (q r : List ℕ) → PutCounts at many counts p q → value ≡ get_or counts many 0
      → PutWord (at + word_size * many) value q r → PutCounts at (many + 1) counts p r
  counts-more many value q r done told one =
      record {
        same =
            outside-then (outside_wider at (word_size * (many + 1)) (omega arith) (omega arith) done.same)
            (outside_wider at (word_size * (many + 1)) (omega arith) (omega arith) one.same);
        put =
            below_more (λ c. word r (at + word_size * c) ≡ get_or counts c 0) many
            (λ c h. word-before one.same (at + word_size * c) (omega arith) ∙ done.put c h)
            (one.put ∙ told);
      }

-- link, marks and counts make an entry
pub entry-put : (b k at child marks : ℕ) (summary : Summary) (p q r s : List ℕ) → at ≡ entry_at b k → marks ≡ summary.marks
    → PutWord at child p q → PutWord (at + entry_marks_at) marks q r
    → PutCounts (at + entry_counts_at) most_alphabet summary.counts r s
    → PutEntry b k child summary p s
entry-put b k at child _ summary p q r s place told link marks counts =
    record {
      same =
          outside-then (outside_wider (entry_at b k) entry_size (omega arith) (omega arith) link.same)
          (outside-then (outside_wider (entry_at b k) entry_size (omega arith) (omega arith) marks.same)
          (outside_wider (entry_at b k) entry_size (omega arith) (omega arith) counts.same));
      link = rw place at (word-before counts.same at (omega arith) ∙ word-before marks.same at (omega arith) ∙ link.put);
      marks = rw place at (word-before counts.same (at + entry_marks_at) (omega arith) ∙ marks.put ∙ told);
      counts = rw place at counts.put;
    }

-- the two words that a mark counts in
module _ (b k c all_marks all_of_c : ℕ) (p q r : List ℕ) (inside : c < most_alphabet)
    (marks : PutWord (entry_at b k + entry_marks_at) all_marks p q)
    (count : PutWord (entry_at b k + entry_counts_at + word_size * c) all_of_c q r) where
  -- another symbol's count
  count_kept : (d : ℕ) → (d ≡ c → ⊥) → count_below r b k d ≡ count_below p b k d
  count_kept d other =
      let at = entry_at b k + entry_counts_at + word_size * d in
      by-leb {A = Unit {0}} (λ _. word r at ≡ word q at) d c tt tt
      (λ le. word-before count.same at (omega arith))
      (λ (gt : c < d). word-behind count.same at (omega arith))
      ∙ word-behind marks.same at (omega arith)

  mark-in-place : PutMark b k c all_marks all_of_c p r
  mark-in-place =
      let at = entry_at b k in
      record {
        same =
            outside-then (outside_wider at entry_size (omega arith) (omega arith) marks.same)
            (outside_wider at entry_size (omega arith) (omega arith) count.same);
        link = word-before count.same at (omega arith) ∙ word-before marks.same at (omega arith);
        marks = word-before count.same (at + entry_marks_at) (omega arith) ∙ marks.put;
        count = count.put;
        others = λ d h other. count_kept d other;
      }

pub mark-put : (b k at c all_marks all_of_c : ℕ) (p q r : List ℕ) → at ≡ entry_at b k → c < most_alphabet
    → PutWord (at + entry_marks_at) all_marks p q → PutWord (at + entry_counts_at + word_size * c) all_of_c q r
    → PutMark b k c all_marks all_of_c p r
mark-put b k at c all_marks all_of_c p q r place inside marks count =
    mark-in-place b k c all_marks all_of_c p q r inside (rw place at marks) (rw place at count)

-- one entry is changed
module _ (b k : ℕ) {p q : List ℕ} (o : Outside (entry_at b k) entry_size p q) where
  -- a word that isn't in the entry's bytes
  word-apart : (j at : ℕ) → (j ≡ k → ⊥) → entry_at b j ≤ at → at + word_size ≤ entry_at b j + entry_size → word q at ≡ word p at
  word-apart j at other front back =
      by-leb {A = Unit {0}} (λ _. word q at ≡ word p at) j k tt tt
      (λ le. word-before o at (omega arith))
      (λ (gt : k < j). word-behind o at (omega arith))

  -- what the other entries say
  pub link_apart : (j : ℕ) → (j ≡ k → ⊥) → link q b j ≡ link p b j
  link_apart j other = word-apart j (entry_at b j) other (omega arith) (omega arith)

  pub marks-apart : (j : ℕ) → (j ≡ k → ⊥) → marks_below q b j ≡ marks_below p b j
  marks-apart j other = word-apart j (entry_at b j + entry_marks_at) other (omega arith) (omega arith)

  pub count-apart : (j c : ℕ) → (j ≡ k → ⊥) → c < most_alphabet → count_below q b j c ≡ count_below p b j c
  count-apart j c other small = word-apart j (entry_at b j + entry_counts_at + word_size * c) other (omega arith) (omega arith)

  -- how many entries there are, and the form
  pub entries-kept : k < most_branch → entries q b ≡ entries p b
  entries-kept inside = word-behind o (block_at b + count_at) (omega arith)

  pub form-kept : k < most_branch → form_of q b ≡ form_of p b
  form-kept inside = o.high (block_at b + form_at) (omega arith)

  -- every other block, and the directory
  pub only-entry : k < most_branch → Only (λ x. x ≡ b) p q
  only-entry inside = only-block o b (omega arith) (omega arith)
