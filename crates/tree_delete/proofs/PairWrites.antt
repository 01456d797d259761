-- The parent's entries after its two children were joined or shared out: one written and one taken out, or both written.
use mathlib.Core.Path.{◌≡◌, refl, sym, ap, ap₂, subst, ◌∙◌}
use mathlib.Core.List.{List, [], ◌∷◌, ◌++◌, append_assoc}
use mathlib.Core.Logic.{⊎_elim}
use Prim.Native.Nat.{ℕ, suc, ◌+◌, ◌≤◌, ◌<◌}
use native.Mathlib.Numerals.{add-one}
use native.Mathlib.Omega.{arith}
use lib.ListN.{length, take, drop, length-append, length-take}
use lib.Seq.{take-append-add, drop-append-add, drop-drop}
use Rattle.geometry.specs.Layout.{form_marks, most_branch}
use Rattle.lists.proofs.Sums.{total-map}
use Rattle.lists.specs.Sums.{total}
use Rattle.sequence.proofs.Counts.{is_mark-same}
use Rattle.sequence.specs.Definition1.{count}
use Rattle.shape.proofs.Chop.{total-chop}
use Rattle.shape.proofs.Nested.{flat_append}
use Rattle.shape.specs.Nested.{Node, flat, marks_in}
use Rattle.shape.specs.Sizes.{one_to_a_byte, most}
use Rattle.pool.specs.Blocks.{form_of, entries, link}
use Rattle.pool.specs.Changes.{SameBlock}
use Rattle.pool.specs.Trees.{shape_at, blocks_at}
use Rattle.pool.specs.Words.{word_limit}
use Rattle.pool.proofs.Changes.{only_then}
use Rattle.pool.proofs.TreesKept.{same_byte, same_entries}
use Rattle.pool_entries.proofs.Entries.{entries-kept, form-kept, only-entry}
use Rattle.pool_blocks.proofs.Branches.{entry-written, entries-length}
use Rattle.pool_blocks.specs.Branches.{EntryRemoved}
use Rattle.pool_blocks.specs.Contents.{entry_bytes, entry_list, BranchAt}
use Rattle.pool_entries.specs.Entries.{PutEntry}
use Rattle.pool_entries.specs.Summaries.{SummaryOf, SmallSums}
use Rattle.pool_entries.specs.declared.Summary.{Summary}
use Rattle.pool_holders.specs.Maps.{is_free, GivenBack}
use Rattle.pool_holders.proofs.Frees.{given-blocks, given-freed, freed-none}
use Rattle.tree_splits.proofs.EntryPuts.{entry-holds}
use Rattle.tree_splits.proofs.SameEntries.{same-entry-list}
use Rattle.tree_splits.proofs.TakeUps.{holds-true, sums-small}
use Rattle.tree_delete.specs.Mends.{TwoNodes, NodesMended, NodesJoined, NodesShared, PairOf, PairMended}
use Rattle.tree_delete.proofs.PairMends.{own_block, all_blocks, pair-nodes, right-held, pair-mended}

marks-additive : (h : ℕ) (x y : Node h) → marks_in h (x ++ y) ≡ marks_in h x + marks_in h y
marks-additive h x y = ap length (flat_append h x y) ∙ length-append (flat h x) (flat h y)

-- the two by the names that the entries have for them
named-so : (h left right l r : ℕ) (roots gone p q : List ℕ) → left ≡ l → right ≡ r → NodesMended h left right roots gone p q → NodesMended h l r roots gone p q
named-so h left right l r roots gone p q e f mended =
    subst (λ (x : ℕ). NodesMended h l x roots gone p q) f (subst (λ (x : ℕ). NodesMended h x right roots gone p q) e mended)

module _ (p m : List ℕ) (h b k left right : ℕ) (pair : PairOf p m h b k left right) where
  pub two-nodes : TwoNodes p h left right
  two-nodes = rw (pair.left_is, pair.right_is) (pair-nodes p m h b k pair.ready)

  module _ (roots gone : List ℕ) (q : List ℕ) (mended : NodesMended h left right roots gone p q) where
    -- the branch is neither of the two
    branch_same : SameBlock b p q
    branch_same =
        mended.only.others b
        (λ w.
        let among : 1 ≤ count b (blocks_at p h (link p b k)) + count b (blocks_at p h (link p b (k + 1))) =
        ⊎_elim
        (λ e. let is : link p b k ≡ b = sym (e ∙ pair.left_is) in omega (arith, own_block p h b, ap (λ (x : ℕ). count b (blocks_at p h x)) is))
        (λ e. let is : link p b (k + 1) ≡ b = sym (e ∙ pair.right_is) in omega (arith, own_block p h b, ap (λ (x : ℕ). count b (blocks_at p h x)) is)) w in
        omega (arith, pair.ready.agrees b, all_blocks p m h b k pair.ready b, is_mark-same b b refl))

    many : entries q b ≡ entries p b
    many = same_entries p q b branch_same

    pub branch-at : BranchAt q b
    branch-at = record { inside = omega (arith, pair.ready.block.inside, mended.only.long); fits = omega (arith, many, pair.ready.block.fits) }

    marks-form : form_of q b ≡ form_marks
    marks-form = same_byte p q b branch_same _ (omega arith) (omega arith) ∙ pair.ready.block.form

    same-list : entry_list q b ≡ entry_list p b
    same-list = same-entry-list p q b branch_same mended.only.long pair.ready.block.fits

    low : k < most_branch
    low = omega (arith, pair.ready.place, pair.ready.block.fits)

    pub roots-marks : total (λ x. marks_in h (shape_at q h x)) roots < word_limit
    roots-marks =
        omega (
          arith,
          total-map (marks_in h) (shape_at q h) roots,
          ap (total (marks_in h)) mended.shapes,
          total-chop (most one_to_a_byte h) (shape_at p h left ++ shape_at p h right) (marks_in h) (marks-additive h),
          marks-additive h (shape_at p h left) (shape_at p h right),
          ap (λ (x : ℕ). marks_in h (shape_at p h x)) pair.left_is,
          ap (λ (x : ℕ). marks_in h (shape_at p h x)) pair.right_is,
          pair.ready.short,
        )

    -- the left one's entry written
    module _ (s : Summary) (r : List ℕ) (put : PutEntry b k left s q r) where
      front_long : length (take k (entry_list p b)) ≡ k
      front_long = omega (arith, length-take k (entry_list p b), entries-length p b, pair.ready.place)

      written : entry_list r b ≡ take k (entry_list p b) ++ entry_bytes r b k ∷ drop (suc k) (entry_list p b)
      written =
          entry-written q r b k branch-at (omega (arith, many, pair.ready.place)) put.same
          ∙ ap (λ (es : List (List ℕ)). take k es ++ entry_bytes r b k ∷ drop (suc k) es) same-list

      still-branch : BranchAt r b
      still-branch = record { inside = omega (arith, branch-at.inside, put.same.long); fits = omega (arith, branch-at.fits, entries-kept b k put.same low) }

      still-behind : k + 1 < entries r b
      still-behind = omega (arith, entries-kept b k put.same low, many, pair.ready.place)

      before-next : take (k + 1) (entry_list r b) ≡ take k (entry_list p b) ++ entry_bytes r b k ∷ []
      before-next =
          let e : k + 1 ≡ length (take k (entry_list p b)) + 1 = omega (arith, front_long) in
          ap₂ (λ (j : ℕ) (es : List (List ℕ)). take j es) e written
          ∙ take-append-add (take k (entry_list p b)) (entry_bytes r b k ∷ drop (suc k) (entry_list p b)) 1

      behind-next : (j : ℕ) → j ≡ suc (suc k) → drop j (entry_list r b) ≡ drop (suc (suc k)) (entry_list p b)
      behind-next j is =
          let e : j ≡ length (take k (entry_list p b)) + 2 = omega (arith, front_long) in
          ap₂ (λ (i : ℕ) (es : List (List ℕ)). drop i es) e written
          ∙ drop-append-add (take k (entry_list p b)) (entry_bytes r b k ∷ drop (suc k) (entry_list p b)) 2
          ∙ drop-drop 1 (suc k) (entry_list p b) ∙ ap (λ (i : ℕ). drop i (entry_list p b)) (add-one (suc k))

-- Joined.
module _ (p m : List ℕ) (h b k left right : ℕ) (pair : PairOf p m h b k left right) (q : List ℕ) (joined : NodesJoined h left right p q) where
  pub joined_small : SmallSums q h left
  joined_small = sums-small q h left joined.sound.0 (omega (arith, roots-marks p m h b k left right pair _ _ q joined))

  -- after the entry was written, the branch can lose the next one
  pub remove-ready : {s : Summary} {r : List ℕ} → PutEntry b k left s q r → BranchAt r b × (k + 1 < entries r b)
  remove-ready put = (still-branch p m h b k left right pair _ _ q joined _ _ put, still-behind p m h b k left right pair _ _ q joined _ _ put)

  pub join-returns : (s : Summary) (r t n : List ℕ) → SummaryOf q h left s → PutEntry b k left s q r → EntryRemoved b (k + 1) r t → GivenBack right m n → PairMended h b k p t m n
  unfolding count
  join-returns s r t n of put removed given =
      let e : List ℕ = entry_bytes r b k in
      let holds = entry-holds b k left s q r put in
      let inside : k < most_branch = low p m h b k left right pair _ _ q joined in
      let two : k + 1 + 1 ≡ suc (suc k) = omega arith in
      let list : entry_list t b ≡ take k (entry_list p b) ++ (e ∷ drop (suc (suc k)) (entry_list p b)) =
      removed.list
      ∙ ap₂ (λ (u v : List (List ℕ)). u ++ v) (before-next p m h b k left right pair _ _ q joined s r put) (behind-next p m h b k left right pair _ _ q joined s r put (k + 1 + 1) two)
      ∙ append_assoc (take k (entry_list p b)) (e ∷ []) (drop (suc (suc k)) (entry_list p b)) in
      let held : is_free m right ≡ 0 = rw pair.right_is (right-held p m h b k pair.ready) in
      pair-mended p m h b k pair.ready (left ∷ []) (right ∷ []) q t n (named-so h left right _ _ (left ∷ []) (right ∷ []) p q pair.left_is pair.right_is joined) (e ∷ [])
      (ap (λ (x : ℕ). x ∷ []) holds.link) (holds-true q h left s e holds of joined.sound.0, tt)
      (only_then (only-entry b k put.same inside) removed.only)
      (removed.form ∙ form-kept b k put.same inside) list
      (λ x. omega (arith, given-blocks right m n given held x)) (given-freed right m n given) (marks-form p m h b k left right pair _ _ q joined)

-- Shared out.
module _ (p m : List ℕ) (h b k left right : ℕ) (pair : PairOf p m h b k left right) (q : List ℕ) (shared : NodesShared h left right p q) where
  pub first_small : SmallSums q h left
  first_small = sums-small q h left shared.sound.0 (omega (arith, roots-marks p m h b k left right pair _ _ q shared))

  pub second-small : SmallSums q h right
  second-small = sums-small q h right shared.sound.1.0 (omega (arith, roots-marks p m h b k left right pair _ _ q shared))

  pub share-returns : (s u : Summary) (r t : List ℕ) → SummaryOf q h left s → SummaryOf q h right u → PutEntry b k left s q r → PutEntry b (k + 1) right u r t
      → PairMended h b k p t m m
  unfolding count
  share-returns s u r t of_left of_right put next =
      let e : List ℕ = entry_bytes r b k in
      let f : List ℕ = entry_bytes t b (k + 1) in
      let holds = entry-holds b k left s q r put in
      let holds_next = entry-holds b (k + 1) right u r t next in
      let inside : k < most_branch = low p m h b k left right pair _ _ q shared in
      let branch = still-branch p m h b k left right pair _ _ q shared s r put in
      let behind = still-behind p m h b k left right pair _ _ q shared s r put in
      let inside_next : k + 1 < most_branch = omega (arith, behind, branch.fits) in
      let two : suc (k + 1) ≡ suc (suc k) = omega arith in
      let list : entry_list t b ≡ take k (entry_list p b) ++ (e ∷ f ∷ drop (suc (suc k)) (entry_list p b)) =
      entry-written r t b (k + 1) branch behind next.same
      ∙ ap₂ (λ (x y : List (List ℕ)). x ++ f ∷ y) (before-next p m h b k left right pair _ _ q shared s r put) (behind-next p m h b k left right pair _ _ q shared s r put (suc (k + 1)) two)
      ∙ append_assoc (take k (entry_list p b)) (e ∷ []) (f ∷ drop (suc (suc k)) (entry_list p b)) in
      pair-mended p m h b k pair.ready (left ∷ right ∷ []) [] q t m (named-so h left right _ _ (left ∷ right ∷ []) [] p q pair.left_is pair.right_is shared) (e ∷ f ∷ [])
      (ap₂ (λ (x y : ℕ). x ∷ y ∷ []) holds.link holds_next.link)
      (holds-true q h left s e holds of_left shared.sound.0, (holds-true q h right u f holds_next of_right shared.sound.1.0, tt))
      (only_then (only-entry b k put.same inside) (only-entry b (k + 1) next.same inside_next))
      (form-kept b (k + 1) next.same inside_next ∙ form-kept b k put.same inside) list
      (λ x. omega arith) (freed-none m) (marks-form p m h b k left right pair _ _ q shared)
