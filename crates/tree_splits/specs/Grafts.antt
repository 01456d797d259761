-- A branch takes up what an edit made of a child: an entry is written anew, and one is put in behind it where the child was split.
use Rattle.std.specs.Prelude.{◌≡◌, List, [], ◌∷◌, ◌++◌, map, ◌⊎◌, ℕ, suc, ◌+◌, ◌-◌, ◌≤◌, ◌<◌, take, drop, Option, Some}
use Rattle.geometry.specs.Layout.{form_marks, most_branch}
use Rattle.geometry.specs.Limits.{most_alphabet}
use Rattle.lists.specs.Items.{All}
use Rattle.lists.specs.Sums.{total}
use Rattle.sequence.specs.Definition1.{is_mark, count}
use Rattle.shape.specs.Level.{halves, chop}
use Rattle.shape.specs.Nested.{flat, marks_in}
use Rattle.pool.specs.Blocks.{form_of, entries, link, marks_below, count_below}
use Rattle.pool.specs.Bytes.{shares}
use Rattle.pool.specs.Changes.{Only}
use Rattle.pool.specs.Trees.{shape_at}
use Rattle.pool.specs.Words.{word_limit}
use Rattle.pool_blocks.specs.Contents.{link_in, entry_list, BranchAt}
use Rattle.pool_entries.specs.declared.Summary.{Summary}
use Rattle.pool_holders.specs.Maps.{MapFits, is_free, free_in, Entered}
use Rattle.tree_splits.specs.Entries.{put_at, EntryHolds, TrueEntry, SoundChild}
use Rattle.tree_splits.specs.Inserts.{roots, added}

-- one entry more in a branch with room, number k
pub record EntryPut (b k child : ℕ) (summary : Summary) (p q : List ℕ) : Type 0 where
  pub entry : List ℕ
  pub holds : EntryHolds child summary entry
  pub only : Only (λ x. x ≡ b) p q
  pub form : form_of q b ≡ form_of p b
  pub many : entries q b ≡ entries p b + 1
  pub list : entry_list q b ≡ put_at k entry (entry_list p b)

-- one entry more for a full branch, number k: half of all go to the block `new`
pub record BranchSplit (b new k child : ℕ) (summary : Summary) (p q : List ℕ) : Type 0 where
  pub entry : List ℕ
  pub holds : EntryHolds child summary entry
  pub only : Only (λ x. (x ≡ b) ⊎ (x ≡ new)) p q
  pub form : form_of q b ≡ form_of p b
  pub new_form : form_of q new ≡ form_marks
  pub lists : entry_list q b ∷ entry_list q new ∷ [] ≡ halves (put_at k entry (entry_list p b))

-- a branch that can take one entry more: it has room, or there is a free block
pub record GraftReady (p m : List ℕ) (b k child holder : ℕ) : Type 0 where
  pub map : MapFits p m
  pub named : 0 < holder
  pub branch : BranchAt p b
  pub form : form_of p b ≡ form_marks
  pub held : is_free m b ≡ 0
  pub place : k ≤ entries p b
  pub small : child < word_limit
  pub room : entries p b + 1 ≤ most_branch + free_in m

-- what a branch and the map are after entries changed: p and m before, q and n after
pub record Regrouped (b holder : ℕ) (r : Option ℕ) (all : List (List ℕ)) (p q m n : List ℕ) : Type 0 where
  -- all entries, chopped as the shape function does
  pub lists : map (entry_list q) (roots r b) ≡ chop most_branch all
  pub inside : All (λ x. x < shares q) (roots r b)
  pub forms : All (λ x. form_of q x ≡ form_marks) (roots r b)
  -- the branch and a block taken, no other, changed
  pub only : Only (λ x. 1 ≤ is_mark x b + (is_free m x - is_free n x)) p q
  pub blocks : (x : ℕ) → count x (roots r b) + is_free n x ≡ is_mark x b + is_free m x
  pub entered : Entered holder m n
  pub took : free_in m ≡ free_in n + added r

-- the same where the entries are those before and one more, number k
pub record Grafted (b k child holder : ℕ) (summary : Summary) (r : Option ℕ) (p q m n : List ℕ) : Type 0 where
  pub entry : List ℕ
  pub holds : EntryHolds child summary entry
  pub regrouped : Regrouped b holder r (put_at k entry (entry_list p b)) p q m n

-- entry k of a branch stands for a child that an edit made this of; together its pieces have one mark more than the entry says, a c
pub record TakeUpReady (p m : List ℕ) (h b k child c holder : ℕ) (g : Option ℕ) : Type 0 where
  pub map : MapFits p m
  pub named : 0 < holder
  pub branch : BranchAt p b
  pub form : form_of p b ≡ form_marks
  pub held : is_free m b ≡ 0
  pub place : k < entries p b
  pub link : link p b k ≡ child
  pub symbol : c < most_alphabet
  pub sound : All (SoundChild p h) (roots g child)
  pub marks : total (λ x. marks_in h (shape_at p h x)) (roots g child) ≡ marks_below p b k + 1
  pub counts : (d : ℕ) → d < most_alphabet
      → total (λ x. count d (flat h (shape_at p h x))) (roots g child) ≡ count_below p b k d + is_mark d c
  pub short : marks_below p b k + 1 < word_limit
  pub room : entries p b + added g ≤ most_branch + free_in m

-- the same of a child that some mark split
pub record SplitReady (p m : List ℕ) (h b k child new holder : ℕ) : Type 0 where
  pub symbol : ℕ
  pub ready : TakeUpReady p m h b k child symbol holder (Some new)

-- the branch has an entry for each piece, in place of entry k
pub record TakenUp (h b k child holder : ℕ) (g r : Option ℕ) (p q m n : List ℕ) : Type 0 where
  pub fresh : List (List ℕ)
  pub links : map link_in fresh ≡ roots g child
  pub true : All (TrueEntry p h) fresh
  pub regrouped : Regrouped b holder r (take k (entry_list p b) ++ (fresh ++ drop (suc k) (entry_list p b))) p q m n
