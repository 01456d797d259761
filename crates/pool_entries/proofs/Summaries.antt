-- What a block says of its marks: what a branch's entries add up to, and when it fits words.
use mathlib.Core.Path.{◌≡◌, refl, ap, ◌∙◌}
use mathlib.Core.List.{List}
use Prim.Native.Nat.{ℕ, zero, suc, ◌+◌, ◌*◌, ◌≤◌, ◌<◌}
use native.Mathlib.Nat.{add_assoc}
use native.Mathlib.Omega.{arith}
use lib.ListN.{length}
use Rattle.geometry.specs.Layout.{entry_counts_at, most_leaf, most_branch, word_size}
use Rattle.geometry.specs.Limits.{most_alphabet}
use Rattle.lists.proofs.Sums.{sum_below-same}
use Rattle.lists.specs.Sums.{sum_below}
use Rattle.pool.specs.Blocks.{entries, count_below}
use Rattle.pool.specs.Trees.{own_marks, own_count}
use Rattle.pool.specs.Words.{word_limit}
use Rattle.sequence.proofs.Counts.{count-le-length}
use Rattle.sequence.specs.Definition1.{count}
use Rattle.shape.specs.Sizes.{one_to_a_byte, most}
use Rattle.pool_entries.specs.Summaries.{Is, words_at, SmallSums}

-- a branch's count of a symbol, the words of its entries at the symbol's offset, added up
pub branch-count : (p : List ℕ) (b many : ℕ) → Is (entries p b) many
    → (c met : ℕ) → met ≡ sum_below many (words_at p b (entry_counts_at + word_size * c)) → met ≡ own_count p 1 b c
branch-count p b many size c met added =
    added ∙ sum_below-same many _ _ (λ k low. rw (← add_assoc)) ∙ ap (λ (n : ℕ). sum_below n (λ k. count_below p b k c)) size.is

-- what a block says fits words where they are the length and the counts of a list that is short enough
pub small-sums : (p : List ℕ) (h b : ℕ) (marks : List ℕ) → own_marks p h b ≡ length marks
    → ((c : ℕ) → c < most_alphabet → own_count p h b c ≡ count c marks)
    → length marks < word_limit
    → SmallSums p h b
small-sums p h b marks all each short =
    record {
      marks = omega arith;
      counts = λ c inside. omega (arith, each c inside, count-le-length c marks);
    }

-- what is known of the size at a level that the code tested: of a leaf
pub leaf-size : (p : List ℕ) (level b : ℕ) → level ≡ 0 → entries p b ≤ most one_to_a_byte level → entries p b ≤ most_leaf
leaf-size p zero b leaf fits = fits
leaf-size p (suc h) b leaf fits = absurd (omega arith)

-- and of a branch
pub branch-size : (p : List ℕ) (level b : ℕ) → (level ≡ 0 → ⊥) → entries p b ≤ most one_to_a_byte level → entries p b ≤ most_branch
branch-size p zero b branch fits = absurd (branch refl)
branch-size p (suc h) b branch fits = fits
