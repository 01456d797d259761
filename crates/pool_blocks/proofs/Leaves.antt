-- A leaf's marks: how they are read, and what the moves of entries of one byte make of them.
use mathlib.Core.Path.{◌≡◌, sym, ap, ap₂, ◌∙◌}
use mathlib.Core.List.{List, [], ◌∷◌, ◌++◌}
use Prim.Native.Nat.{ℕ, ◌+◌, ◌-◌, ◌*◌, ◌/◌, ◌≤◌, ◌<◌}
use native.Mathlib.Nat.{one-mul}
use native.Mathlib.Omega.{arith}
use lib.ListN.{length, take, drop, length-append}
use Rattle.geometry.specs.Layout.{form_at, count_at, most_leaf}
use Rattle.geometry.specs.Limits.{block_size}
use Rattle.lists.proofs.Cuts.{cut-length, cut-get_or, cut-one}
use Rattle.sequence.specs.Definition1.{access, select, insert, delete}
use Rattle.shape.specs.Level.{middle, halves}
use Rattle.pool.specs.Blocks.{entries, leaf_marks}
use Rattle.pool.specs.Bytes.{byte, block_at}
use Rattle.pool.specs.Changes.{Outside}
use Rattle.pool.specs.Words.{byte_limit, address_limit, PutByte}
use Rattle.pool_entries.specs.Summaries.{Is}
use Rattle.pool_blocks.specs.Contents.{contents, Room, LeafAt}
use Rattle.pool.specs.Words.{PutByte}
use Rattle.pool.proofs.Changes.{only-block, only_then, word-behind}
use Rattle.pool_blocks.specs.Contents.{contents, LeafAt}
use Rattle.pool_blocks.specs.Moves.{Opened, Closed, CutOff, Joined, SharedOut}
use Rattle.pool_blocks.specs.Nodes.{EntriesCut, EntriesJoined, EntriesShared}
use Rattle.pool_blocks.specs.Leaves.{MarkInserted, MarkDeleted}
use Rattle.pool_blocks.proofs.Gaps.{gap-filled}

-- a leaf's marks are its entries, one byte each
pub leaf-contents : (p : List ℕ) (b : ℕ) → contents 1 p b ≡ leaf_marks p b
unfolding contents leaf_marks
leaf-contents p b = ap (λ (n : ℕ). take n (drop (block_at b) p)) (one-mul (entries p b))

module _ (p : List ℕ) (b : ℕ) (leaf : LeafAt p b) where
  pub leaf-size : length (leaf_marks p b) ≡ entries p b
  unfolding leaf_marks
  leaf-size = cut-length p (block_at b) (entries p b) (omega (arith, leaf.inside, leaf.fits))

  -- places of the leaf's marks, as bytes and as numbers of entries
  module _ (i : ℕ) (within : i ≤ length (leaf_marks p b)) where
    pub place-few : i ≤ block_size
    place-few = omega (arith, leaf-size, leaf.fits)

    pub place-small : i < byte_limit
    place-small = omega (arith, place-few)

    pub entries-within : i ≤ entries p b
    entries-within = omega (arith, leaf-size)

    pub entry_of : 1 ≤ i → i - 1 < entries p b
    entry_of one = omega (arith, leaf-size)

    module _ (at : ℕ) (place : at ≡ block_at b) where
      pub mark-inside : at + (i - 1) < length p
      mark-inside = omega (arith, leaf.inside, place-few)

      pub mark-addressed : length p < address_limit → at + (i - 1) < address_limit
      mark-addressed fits = omega (arith, mark-inside)

  -- and of one more
  pub entry_new : (i : ℕ) → i ≤ length (leaf_marks p b) + 1 → i - 1 ≤ entries p b
  entry_new i within = omega (arith, leaf-size)

  pub room-new : length (leaf_marks p b) < most_leaf → Room 1 (entries p b + 1)
  room-new room = record { few = omega (arith, leaf-size); fits = omega (arith, leaf-size) }

  module _ (at : ℕ) (place : at ≡ block_at b) where
    pub mark-is : (i : ℕ) → 1 ≤ i → i ≤ length (leaf_marks p b) → byte p (at + (i - 1)) ≡ access (leaf_marks p b) i
    unfolding leaf_marks access
    mark-is i one within = rw place (sym (cut-get_or p (block_at b) (entries p b) (i - 1) (omega (arith, leaf-size))))

    pub found-is : (n c j r : ℕ) → Is (entries p b) n → r ≡ select c (take (at + n - at) (drop at p)) j → r ≡ select c (leaf_marks p b) j
    unfolding leaf_marks
    found-is n c j r is found =
        let e : at + n - at ≡ entries p b = omega (arith, is.is) in
        found ∙ ap₂ (λ (k a : ℕ). select c (take k (drop a p)) j) e place

-- the edits

module _ (b i : ℕ) (p q : List ℕ) (leaf : LeafAt p b) (one : 1 ≤ i) where
  pub mark-inserted : (c at : ℕ) (r : List ℕ) → at ≡ block_at b → i ≤ length (leaf_marks p b) + 1 → length (leaf_marks p b) < most_leaf
      → Opened 1 b (i - 1) p q → PutByte (at + (i - 1)) c q r → MarkInserted b i c p r
  unfolding insert
  mark-inserted c at r place within room opened stored =
      let a = block_at b in
      let put : PutByte (a + (i - 1)) c q r = rw place at stored in
      let size : length (leaf_marks p b) ≡ entries p b = leaf-size p b leaf in
      let o : Outside (a + 1 * (i - 1)) 1 q r = rw one-mul put.same in
      let inside : a + (i - 1) < length r = omega (arith, put.same.long, opened.only.long, leaf.inside) in
      record {
        only = only_then opened.only (only-block put.same b (omega arith) (omega arith));
        form = put.same.high (a + form_at) (omega arith) ∙ opened.form;
        many = word-behind put.same (a + count_at) (omega arith) ∙ opened.many;
        marks =
            sym (leaf-contents r b)
            ∙ gap-filled 1 b (i - 1) p q r leaf.inside (omega arith) (record { few = omega arith; fits = omega arith }) opened o
            ∙ rw (one-mul (i - 1), leaf-contents p b, cut-one r (a + (i - 1)) inside, put.put);
      }

  pub mark-deleted : (r : ℕ) → r ≡ access (leaf_marks p b) i → Closed 1 b (i - 1) p q → MarkDeleted b i r p q
  unfolding delete
  mark-deleted r taken closed =
      let e : 1 * (i - 1) + 1 ≡ i = omega arith in
      record {
        only = closed.only;
        form = closed.form;
        many = closed.many;
        taken = taken;
        marks = sym (leaf-contents q b) ∙ closed.bytes ∙ rw (e, one-mul (i - 1), leaf-contents p b);
      }

-- between two leaves

pub leaf-cut : (b new cut : ℕ) (p q : List ℕ) → CutOff 1 b new cut p q → EntriesCut leaf_marks b new cut p q
leaf-cut b new cut p q off =
    record {
      only = off.only;
      form = off.form;
      many = off.many;
      kept = sym (leaf-contents q b) ∙ off.bytes ∙ rw (one-mul cut, leaf-contents p b);
      new_form = off.new_form;
      new_many = off.new_many;
      moved = sym (leaf-contents q new) ∙ off.new_bytes ∙ rw (one-mul cut, leaf-contents p b);
    }

pub leaves-joined : (left right : ℕ) (p q : List ℕ) → Joined 1 left right p q → EntriesJoined leaf_marks left right p q
leaves-joined left right p q joined =
    record {
      only = joined.only;
      form = joined.form;
      many = joined.many;
      all = sym (leaf-contents q left) ∙ joined.bytes ∙ rw (leaf-contents p left, leaf-contents p right);
    }

pub leaves-shared : (left right : ℕ) (p q : List ℕ) → LeafAt p left → LeafAt p right → SharedOut 1 left right p q → EntriesShared leaf_marks left right p q
unfolding halves
leaves-shared left right p q here there cut =
    let half = (entries p left + entries p right) / 2 in
    let row : contents 1 p left ++ contents 1 p right ≡ leaf_marks p left ++ leaf_marks p right =
    ap₂ (λ (x y : List ℕ). x ++ y) (leaf-contents p left) (leaf-contents p right)
    in
    let at-half : 1 * half ≡ middle (leaf_marks p left ++ leaf_marks p right) =
    omega (arith, length-append (leaf_marks p left) (leaf_marks p right), leaf-size p left here, leaf-size p right there)
    in
    record {
      only = cut.only;
      left_form = cut.left_form;
      left_many = cut.left_many;
      right_form = cut.right_form;
      right_many = cut.right_many;
      parts =
          ap₂ (λ (x y : List ℕ). x ∷ y ∷ [])
          (ap₂ (λ (n : ℕ) (z : List ℕ). take n z) (sym at-half) (sym row) ∙ sym cut.left_bytes ∙ leaf-contents q left)
          (ap₂ (λ (n : ℕ) (z : List ℕ). drop n z) (sym at-half) (sym row) ∙ sym cut.right_bytes ∙ leaf-contents q right);
    }
