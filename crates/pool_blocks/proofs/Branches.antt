-- A branch's entries: what their bytes say, and what the moves of entries of their size make of the list.
use mathlib.Core.Path.{◌≡◌, sym, ap, ap₂, ◌∙◌}
use mathlib.Core.List.{List, [], ◌∷◌, ◌++◌, map}
use Prim.Native.Nat.{ℕ, suc, ◌+◌, ◌-◌, ◌*◌, ◌/◌, ◌≤◌, ◌<◌}
use native.Mathlib.Nat.{add-zero}
use native.Mathlib.Omega.{arith}
use lib.ListN.{length, get_or, take, drop, length-append}
use lib.Seq.{length-take-le, take_at, drop-append-add, set_split}
use Rattle.geometry.specs.Layout.{count_at, entry_size, entry_marks_at, entry_counts_at, word_size, most_branch}
use Rattle.geometry.specs.Limits.{most_alphabet}
use Rattle.lists.proofs.Cuts.{cut-length}
use Rattle.lists.proofs.Froms.{length_from, get_or-from-start, from-same, from-set, map-from}
use Rattle.lists.specs.Froms.{from}
use Rattle.lists.proofs.Chunks.{chunks, chunks-from, chunks-one, chunks-append, chunks-take, chunks-drop}
use Rattle.shape.specs.Level.{middle, halves}
use Rattle.shape.proofs.Choice.{by-leb}
use Rattle.pool.specs.Blocks.{entries, entry_at, link, marks_below, count_below, children}
use Rattle.pool.specs.Bytes.{word, shares, block_at}
use Rattle.pool.specs.Changes.{Outside}
use Rattle.pool.proofs.Changes.{word-behind, cut-before, cut-behind}
use Rattle.pool.proofs.Words.{cut_word}
use Rattle.pool_blocks.specs.Contents.{contents, entry_bytes, entry_list, link_in, below_in, count_in, BranchAt}
use Rattle.pool_blocks.specs.Moves.{Opened, Closed, CutOff, Joined, SharedOut}
use Rattle.pool_blocks.specs.Nodes.{EntriesCut, EntriesJoined, EntriesShared}
use Rattle.pool_blocks.specs.Branches.{EntryOpened, EntryRemoved}

-- what an entry's bytes say is what the block says

module _ (p : List ℕ) (b k : ℕ) where
  pub entry-link : link_in (entry_bytes p b k) ≡ link p b k
  entry-link = cut_word p (entry_at b k) entry_size 0 (omega arith) ∙ ap (word p) (add-zero (entry_at b k))

  pub entry-below : below_in (entry_bytes p b k) ≡ marks_below p b k
  entry-below = cut_word p (entry_at b k) entry_size entry_marks_at (omega arith)

  pub entry-count : (c : ℕ) → c < most_alphabet → count_in (entry_bytes p b k) c ≡ count_below p b k c
  entry-count c h =
      let e : entry_at b k + (entry_counts_at + word_size * c) ≡ entry_at b k + entry_counts_at + word_size * c = omega arith in
      cut_word p (entry_at b k) entry_size (entry_counts_at + word_size * c) (omega arith) ∙ ap (word p) e

module _ (p : List ℕ) (b : ℕ) where
  pub entries-length : length (entry_list p b) ≡ entries p b
  unfolding entry_list
  entries-length = length_from (entry_bytes p b) 0 (entries p b)

  pub entry-at : (k : ℕ) → k < entries p b → get_or (entry_list p b) k [] ≡ entry_bytes p b k
  unfolding entry_list
  entry-at k h = get_or-from-start (entry_bytes p b) (entries p b) k [] h

  pub children-are : children p b ≡ map link_in (entry_list p b)
  unfolding entry_list
  children-are =
      from-same (link p b) (λ k. link_in (entry_bytes p b k)) 0 (entries p b) (λ k low high. sym (entry-link p b k))
      ∙ sym (map-from link_in (entry_bytes p b) 0 (entries p b))

-- the entries are the bytes in a row, cut at the entries' size

module _ (p : List ℕ) (b : ℕ) (branch : BranchAt p b) where
  pub contents-length : length (contents entry_size p b) ≡ entry_size * entries p b
  unfolding contents
  contents-length = cut-length p (block_at b) (entry_size * entries p b) (omega (arith, branch.inside, branch.fits))

  pub entries-chunks : entry_list p b ≡ chunks entry_size (entries p b) (contents entry_size p b)
  unfolding entry_list contents
  entries-chunks =
      let e : block_at b + entry_size * 0 ≡ block_at b = omega arith in
      chunks-from entry_size (block_at b) p 0 (entries p b) (omega (arith, branch.inside, branch.fits))
      ∙ ap (λ (a : ℕ). chunks entry_size (entries p b) (take (entry_size * entries p b) (drop a p))) e

  pub entries-take : (k : ℕ) → k ≤ entries p b → take k (entry_list p b) ≡ chunks entry_size k (take (entry_size * k) (contents entry_size p b))
  entries-take k h =
      let e : entries p b ≡ k + (entries p b - k) = omega arith in
      ap (take k) (entries-chunks ∙ ap (λ (n : ℕ). chunks entry_size n (contents entry_size p b)) e)
      ∙ chunks-take entry_size k (entries p b - k) (contents entry_size p b) (omega (arith, contents-length))

  pub entries-drop : (k : ℕ) → k ≤ entries p b
      → drop k (entry_list p b) ≡ chunks entry_size (entries p b - k) (drop (entry_size * k) (contents entry_size p b))
  entries-drop k h =
      let e : entries p b ≡ k + (entries p b - k) = omega arith in
      ap (drop k) (entries-chunks ∙ ap (λ (n : ℕ). chunks entry_size n (contents entry_size p b)) e)
      ∙ chunks-drop entry_size k (entries p b - k) (contents entry_size p b) (omega (arith, contents-length))

  -- the list after a change, by the bytes after it
  pub entries-are : (n : ℕ) (xs : List ℕ) → entries p b ≡ n → contents entry_size p b ≡ xs → entry_list p b ≡ chunks entry_size n xs
  entries-are n xs many bytes = entries-chunks ∙ ap₂ (λ (m : ℕ) (z : List ℕ). chunks entry_size m z) many bytes

-- one entry written, and one written into a gap

pub entry-written : (p q : List ℕ) (b k : ℕ) → BranchAt p b → k < entries p b → Outside (entry_at b k) entry_size p q
    → entry_list q b ≡ take k (entry_list p b) ++ entry_bytes q b k ∷ drop (suc k) (entry_list p b)
unfolding entry_list
entry-written p q b k branch h o =
    let many : entries q b ≡ entries p b = word-behind o (block_at b + count_at) (omega (arith, branch.fits)) in
    ap (from (entry_bytes q b) 0) many
    ∙ from-set (entry_bytes p b) (entry_bytes q b) (entries p b) k h
    (λ j low other.
    by-leb {A = Unit {0}} (λ _. entry_bytes q b j ≡ entry_bytes p b j) j k tt tt
    (λ (le : j ≤ k). let less : j < k = omega arith in cut-before o (entry_at b j) entry_size (omega arith))
    (λ (gt : k < j). cut-behind o (entry_at b j) entry_size (omega arith)))
    ∙ set_split (entry_list p b) k (entry_bytes q b k) (omega (arith, length_from (entry_bytes p b) 0 (entries p b)))

module _ (b k : ℕ) (p q : List ℕ) (branch : BranchAt p b) (less : k ≤ entries p b) (room : entries p b < most_branch) where
  pub entry-filled : (r : List ℕ) → EntryOpened b k p q → Outside (entry_at b k) entry_size q r
      → entry_list r b ≡ take k (entry_list p b) ++ entry_bytes r b k ∷ drop k (entry_list p b)
  entry-filled r opened o =
      let after : BranchAt q b =
      record { inside = omega (arith, branch.inside, opened.only.long); fits = omega (arith, opened.many) }
      in
      let front = take k (entry_list p b) in
      let long : length front ≡ k = length-take-le k (entry_list p b) (omega (arith, entries-length p b)) in
      let next : suc k ≡ length front + 1 = omega arith in
      entry-written q r b k after (omega (arith, opened.many)) o
      ∙ ap₂ (λ (x y : List (List ℕ)). x ++ entry_bytes r b k ∷ y)
      (ap (take k) opened.list ∙ take_at front (entry_bytes q b k ∷ drop k (entry_list p b)) k long)
      (ap (drop (suc k)) opened.list
      ∙ ap (λ (n : ℕ). drop n (front ++ entry_bytes q b k ∷ drop k (entry_list p b))) next
      ∙ drop-append-add front (entry_bytes q b k ∷ drop k (entry_list p b)) 1)

  pub entry-opened : Opened entry_size b k p q → EntryOpened b k p q
  entry-opened opened =
      let rows = contents entry_size p b in
      let n = entries p b in
      let gap : List ℕ = take entry_size (drop (block_at b + entry_size * k) q) in
      let after : BranchAt q b =
      record { inside = omega (arith, branch.inside, opened.only.long); fits = omega (arith, opened.many) }
      in
      let long : length rows ≡ entry_size * n = contents-length p b branch in
      let whole : length gap ≡ entry_size =
      cut-length q (block_at b + entry_size * k) entry_size (omega (arith, branch.inside, opened.only.long))
      in
      record {
        only = opened.only;
        form = opened.form;
        many = opened.many;
        list =
            entries-are q b after (k + (1 + (n - k))) _ (omega (arith, opened.many)) opened.bytes
            ∙ chunks-append entry_size k (1 + (n - k)) (take (entry_size * k) rows) (gap ++ drop (entry_size * k) rows)
            (length-take-le (entry_size * k) rows (omega arith))
            ∙ ap₂ (λ (x y : List (List ℕ)). x ++ y) (sym (entries-take p b branch k less))
            (chunks-append entry_size 1 (n - k) gap (drop (entry_size * k) rows) (omega arith)
            ∙ ap₂ (λ (x y : List (List ℕ)). x ++ y) (chunks-one entry_size gap whole) (sym (entries-drop p b branch k less)));
      }

pub entry-removed : (b k : ℕ) (p q : List ℕ) → BranchAt p b → k < entries p b → Closed entry_size b k p q → EntryRemoved b k p q
entry-removed b k p q branch less closed =
    let rows = contents entry_size p b in
    let n = entries p b in
    let after : BranchAt q b =
    record { inside = omega (arith, branch.inside, closed.only.long); fits = omega (arith, closed.many, branch.fits) }
    in
    let long : length rows ≡ entry_size * n = contents-length p b branch in
    let next : entry_size * k + entry_size ≡ entry_size * (k + 1) = omega arith in
    record {
      only = closed.only;
      form = closed.form;
      many = closed.many;
      list =
          entries-are q b after (k + (n - (k + 1))) _ (omega (arith, closed.many)) closed.bytes
          ∙ chunks-append entry_size k (n - (k + 1)) (take (entry_size * k) rows) (drop (entry_size * k + entry_size) rows)
          (length-take-le (entry_size * k) rows (omega arith))
          ∙ ap₂ (λ (x y : List (List ℕ)). x ++ y) (sym (entries-take p b branch k (omega arith)))
          (ap (λ (m : ℕ). chunks entry_size (n - (k + 1)) (drop m rows)) next ∙ sym (entries-drop p b branch (k + 1) (omega arith)));
    }

pub branch-cut : (b new cut : ℕ) (p q : List ℕ) → BranchAt p b → new < shares p → cut ≤ entries p b → CutOff entry_size b new cut p q
    → EntriesCut entry_list b new cut p q
branch-cut b new cut p q branch inside less off =
    let left : BranchAt q b =
    record { inside = omega (arith, branch.inside, off.only.long); fits = omega (arith, off.many, branch.fits) }
    in
    let right : BranchAt q new =
    record { inside = omega (arith, off.only.long); fits = omega (arith, off.new_many, branch.fits) }
    in
    record {
      only = off.only;
      form = off.form;
      many = off.many;
      kept = entries-are q b left cut _ off.many off.bytes ∙ sym (entries-take p b branch cut less);
      new_form = off.new_form;
      new_many = off.new_many;
      moved = entries-are q new right (entries p b - cut) _ off.new_many off.new_bytes ∙ sym (entries-drop p b branch cut less);
    }

-- two branches

module _ (left right : ℕ) (p q : List ℕ) (here : BranchAt p left) (there : BranchAt p right) where
  -- the entries of both in a row
  entries-both : entry_list p left ++ entry_list p right
      ≡ chunks entry_size (entries p left + entries p right) (contents entry_size p left ++ contents entry_size p right)
  entries-both =
      ap₂ (λ (x y : List (List ℕ)). x ++ y) (entries-chunks p left here) (entries-chunks p right there)
      ∙ sym
      (chunks-append entry_size (entries p left) (entries p right) (contents entry_size p left) (contents entry_size p right)
      (contents-length p left here))

  pub branches-joined : entries p left + entries p right ≤ most_branch → Joined entry_size left right p q → EntriesJoined entry_list left right p q
  branches-joined room whole =
      let after : BranchAt q left =
      record { inside = omega (arith, here.inside, whole.only.long); fits = omega (arith, whole.many) }
      in
      record {
        only = whole.only;
        form = whole.form;
        many = whole.many;
        all = entries-are q left after _ _ whole.many whole.bytes ∙ sym entries-both;
      }

  pub branches-shared : SharedOut entry_size left right p q → EntriesShared entry_list left right p q
  unfolding halves
  branches-shared cut =
      let all = entries p left + entries p right in
      let half = all / 2 in
      let bytes = contents entry_size p left ++ contents entry_size p right in
      let both = entry_list p left ++ entry_list p right in
      let long : length bytes ≡ entry_size * all =
      omega (
        arith,
        length-append (contents entry_size p left) (contents entry_size p right),
        contents-length p left here,
        contents-length p right there,
      )
      in
      let at-half : middle both ≡ half =
      omega (arith, length-append (entry_list p left) (entry_list p right), entries-length p left, entries-length p right)
      in
      let parts : all ≡ half + (all - half) = omega arith in
      let row : both ≡ chunks entry_size (half + (all - half)) bytes = entries-both ∙ ap (λ (n : ℕ). chunks entry_size n bytes) parts in
      let left_now : BranchAt q left =
      record { inside = omega (arith, here.inside, cut.only.long); fits = omega (arith, cut.left_many, here.fits, there.fits) }
      in
      let right_now : BranchAt q right =
      record { inside = omega (arith, there.inside, cut.only.long); fits = omega (arith, cut.right_many, here.fits, there.fits) }
      in
      record {
        only = cut.only;
        left_form = cut.left_form;
        left_many = cut.left_many;
        right_form = cut.right_form;
        right_many = cut.right_many;
        parts =
            ap₂ (λ (x y : List (List ℕ)). x ∷ y ∷ [])
            (ap₂ (λ (n : ℕ) (z : List (List ℕ)). take n z) at-half row
            ∙ chunks-take entry_size half (all - half) bytes (omega arith)
            ∙ sym (entries-are q left left_now _ _ cut.left_many cut.left_bytes))
            (ap₂ (λ (n : ℕ) (z : List (List ℕ)). drop n z) at-half row
            ∙ chunks-drop entry_size half (all - half) bytes (omega arith)
            ∙ sym (entries-are q right right_now _ _ cut.right_many cut.right_bytes));
      }
