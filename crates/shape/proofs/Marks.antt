-- The marks after an insert or a delete are the list's insert or delete, whatever the place: one level for any local edit, then by induction.
use mathlib.Core.Path.{◌≡◌, refl, sym, ap, ap₂, ◌∙◌}
use mathlib.Core.List.{List, [], ◌∷◌, ◌++◌, append-nil}
use Prim.Native.Nat.{ℕ, zero, suc, ◌+◌, ◌-◌, ◌≤◌, ◌<◌}
use native.Mathlib.Nat.{sub-zero}
use native.Mathlib.Omega.{arith}
use lib.ListN.{length, length-append}
use Rattle.lists.proofs.Joins.{joined-append}
use Rattle.lists.proofs.Sums.{total-joined}
use Rattle.lists.specs.Joins.{joined}
use Rattle.lists.specs.Sums.{total}
use Rattle.sequence.specs.Definition1.{insert, delete}
use Rattle.sequence.proofs.Seams.{insert-left, insert-right, delete-left, delete-right}
use Rattle.shape.specs.Nested.{Node, flat}
use Rattle.shape.specs.Sizes.{Sizes, least, most}
use Rattle.shape.specs.Level.{Takes, seat, rest, chosen, in_child}
use Rattle.shape.specs.Trees.{Tree, insert_node, delete_node, grown, shrunk, insert_t, delete_t, marks_t}
use Rattle.shape.proofs.Nested.{flat-nil, flat_append}
use Rattle.shape.proofs.Seat.{by-taker, in_child-takes, takes-past, takes-reach}
use Rattle.shape.proofs.Chop.{joined-chop}
use Rattle.shape.proofs.Mend.{joined-mend}

-- across a seam, an edit at a place is the edit in the list that has the place
pub record Local (edit : ℕ → List ℕ → List ℕ) : Type 0 where
  pub left : (xs ys : List ℕ) (i : ℕ) → i ≤ length xs → edit i (xs ++ ys) ≡ edit i xs ++ ys
  pub right : (xs ys : List ℕ) (i : ℕ) → length xs < i → edit i (xs ++ ys) ≡ xs ++ edit (i - length xs) ys

insert-local : (c : ℕ) → Local (insert c)
insert-local c = record { left = λ xs ys i h. insert-left xs ys i c (omega arith); right = λ xs ys i h. insert-right xs ys i c h }

delete-local : Local delete
delete-local = record { left = delete-left; right = delete-right }

-- the same in the middle list of three; where the last is empty, the place may lie past the middle one
module _ (edit : ℕ → List ℕ → List ℕ) (local : Local edit) where
  edit-past : (a xs : List ℕ) (i : ℕ) → length a ≤ i - 1 → edit i (a ++ xs) ≡ a ++ edit (i - length a) xs
  edit-past [] xs i h = rw sub-zero
  edit-past (y ∷ a) xs i h = local.right (y ∷ a) xs i (omega arith)

  edit-before : (x b : List ℕ) (i : ℕ) → (0 < length b → i ≤ length x) → edit i (x ++ b) ≡ edit i x ++ b
  edit-before x [] i reach = simp append-nil
  edit-before x (y ∷ b) i reach = local.left x (y ∷ b) i (reach (omega arith))

  edit-middle : (a x b : List ℕ) (i : ℕ) → length a ≤ i - 1 → (0 < length b → i ≤ length a + length x)
      → edit i (a ++ (x ++ b)) ≡ a ++ (edit (i - length a) x ++ b)
  edit-middle a x b i low reach =
      edit-past a (x ++ b) i low ∙ ap (λ u. a ++ u) (edit-before x b (i - length a) (λ (some : 0 < length b). omega (arith, reach some)))

-- One level: f gives a child's marks, edit its pieces, and meaning says what the edit does to marks.
module _ {A : Type 0} (f : List A → List ℕ) (empty : f [] ≡ []) (edit : ℕ → List A → List (List A))
    (meaning : ℕ → List ℕ → List ℕ) (local : Local meaning) (one : (i : ℕ) (x : List A) → joined f (edit i x) ≡ meaning i (f x)) where
  in_child-middle : (i : ℕ) (before : List (List A)) (x : List A) (after : List (List A)) → Takes (λ y. length (f y)) i before x after
      → joined f (in_child (λ y. length (f y)) edit i (before ++ x ∷ after)) ≡ meaning i (joined f (before ++ x ∷ after))
  in_child-middle i before x after t =
      ap (joined f) (in_child-takes (λ y. length (f y)) edit i before x after t)
      ∙ joined-append f before (edit j x ++ after)
      ∙ ap (λ u. joined f before ++ u) (joined-append f (edit j x) after ∙ ap (λ u. u ++ joined f after) (one j x ∙ ap (λ n. meaning (i - n) (f x)) (total-joined length length-append f before)))
      ∙ sym (edit-middle meaning local (joined f before) (f x) (joined f after) i (takes-past f length length-append i before x after t) (takes-reach f length length-append i before x after t))
      ∙ ap (meaning i) (sym (joined-append f before (x ∷ after)))
    where
      j : ℕ
      j = i - total (λ y. length (f y)) before

  pub in_child-joined : (i : ℕ) (xs : List (List A)) → joined f (in_child (λ y. length (f y)) edit i xs) ≡ meaning i (joined f xs)
  unfolding in_child rest chosen seat
  in_child-joined i [] = joined-append f (edit (i - 0) []) [] ∙ append-nil (joined f (edit (i - 0) [])) ∙ one (i - 0) [] ∙ ap₂ meaning (sub-zero i) empty
  in_child-joined i (y ∷ ys) =
      by-taker (λ y. length (f y)) i (y ∷ ys) (λ xs. joined f (in_child (λ y. length (f y)) edit i xs) ≡ meaning i (joined f xs)) (in_child-middle i) (omega arith)

pub insert_node-marks : (s : Sizes) (c h i : ℕ) (x : Node h) → joined (flat h) (insert_node s c h i x) ≡ insert c i (flat h x)
unfolding insert_node
insert_node-marks s c zero i x = joined-chop (most s zero) (insert c i x) (λ y. y) (λ _ _. refl)
insert_node-marks s c (suc h) i x =
    joined-chop (most s (suc h)) _ (joined (flat h)) (joined-append (flat h))
    ∙ in_child-joined (flat h) (flat-nil h) (insert_node s c h) (insert c) (insert-local c) (insert_node-marks s c h) i x

pub delete_node-marks : (s : Sizes) (h i : ℕ) (x : Node h) → flat h (delete_node s h i x) ≡ delete i (flat h x)
unfolding delete_node
delete_node-marks s zero i x = refl
delete_node-marks s (suc h) i x =
    joined-mend (least s h) (most s h) (flat h) (flat_append h) _
    ∙ in_child-joined (flat h) (flat-nil h) (λ j y. delete_node s h j y ∷ []) delete delete-local (λ j y. append-nil (flat h (delete_node s h j y)) ∙ delete_node-marks s h j y) i x

grown-marks : (h : ℕ) (ps : List (Node h)) → marks_t (grown h ps) ≡ joined (flat h) ps
unfolding grown
grown-marks h [] = flat-nil h
grown-marks h (x ∷ []) = sym (append-nil (flat h x))
grown-marks h (x ∷ y ∷ ys) = refl

shrunk-marks : (h : ℕ) (x : Node h) → marks_t (shrunk h x) ≡ flat h x
unfolding shrunk
shrunk-marks zero x = refl
shrunk-marks (suc h) [] = refl
shrunk-marks (suc h) (x ∷ []) = sym (append-nil (flat h x))
shrunk-marks (suc h) (x ∷ y ∷ ys) = refl

pub insert_t-marks : (s : Sizes) (c i : ℕ) (t : Tree) → marks_t (insert_t s c i t) ≡ insert c i (marks_t t)
unfolding insert_t
insert_t-marks s c i t = grown-marks t.height _ ∙ insert_node-marks s c t.height i t.root

pub delete_t-marks : (s : Sizes) (i : ℕ) (t : Tree) → marks_t (delete_t s i t) ≡ delete i (marks_t t)
unfolding delete_t
delete_t-marks s i t = shrunk-marks t.height _ ∙ delete_node-marks s t.height i t.root
