-- The blocks that edits add: an insert adds one for each node that splits, a delete none.
use mathlib.Core.Path.{◌≡◌, refl, sym, ap, ap₂, ◌∙◌}
use mathlib.Core.Bool.{Bool, true, false, not, cond, ◌&&◌}
use mathlib.Core.List.{List, [], ◌∷◌, ◌++◌}
use Prim.Native.Nat.{ℕ, zero, suc, ◌+◌, ◌-◌, ◌≤◌, ◌<◌}
use native.Mathlib.Omega.{arith}
use lib.Dec.{T, leb}
use lib.ListN.{length}
use Rattle.lists.proofs.Items.{all_right}
use Rattle.lists.proofs.Measures.{Additive}
use Rattle.lists.proofs.Sums.{total-append, total-one, total-suc}
use Rattle.lists.specs.Items.{All}
use Rattle.lists.specs.Sums.{total}
use Rattle.sequence.specs.Definition1.{insert}
use Rattle.sequence.proofs.Edits.{length-insert}
use Rattle.sequence.proofs.Counts.{cond-le-one}
use Rattle.shape.specs.Nested.{Node, marks_in}
use Rattle.shape.specs.Sizes.{Sizes, Proper, least, most}
use Rattle.shape.specs.Level.{Takes, halves, chop, shorter, mend, rest, chosen, in_child}
use Rattle.shape.specs.Trees.{Tree, insert_node, delete_node, grown, shrunk, insert_t, delete_t}
use Rattle.shape.specs.Fill.{Filled, FilledFrom, FilledT, root_least}
use Rattle.shape.specs.Blocks.{nodes_below, blocks, blocks_t, divides, splits, splits_t}
use Rattle.shape.proofs.Choice.{by-leb}
use Rattle.shape.proofs.Seat.{by-taker, rest-takes, chosen-takes, in_child-takes}
use Rattle.shape.proofs.Chop.{chop-fits, chop-halves, chop-one-or-two, total-chop}
use Rattle.shape.proofs.Filled.{root-least}

pub nodes_below-append : (h : ℕ) → Additive (nodes_below h)
nodes_below-append zero x y = refl
nodes_below-append (suc h) x y = total-append (λ z. suc (nodes_below h z)) x y

-- One level: an edit that adds k to the sum of w in the child adds it to the sum over all children.
module _ {A : Type 0} (P : List A → Type 0) (f : List A → ℕ) (edit : ℕ → List A → List (List A)) (w : List A → ℕ) (k : ℕ → List A → ℕ)
    (one : (j : ℕ) (x : List A) → P x → total w (edit j x) ≡ w x + k j x) where
  pub in_child-total : (i : ℕ) (xs : List (List A)) → 0 < length xs → All P xs
      → total w (in_child f edit i xs) ≡ total w xs + k (rest f i xs) (chosen f i xs)
  in_child-total i xs h = by-taker f i xs (λ ys. All P ys → total w (in_child f edit i ys) ≡ total w ys + k (rest f i ys) (chosen f i ys)) between h
    where
      between : (before : List (List A)) (x : List A) (after : List (List A)) → Takes f i before x after → All P (before ++ x ∷ after)
          → total w (in_child f edit i (before ++ x ∷ after)) ≡ total w (before ++ x ∷ after) + k (rest f i (before ++ x ∷ after)) (chosen f i (before ++ x ∷ after))
      between before x after t p =
          let j : ℕ = i - total f before in
          let q : All P (x ∷ after) = all_right P before (x ∷ after) p in
          rw (in_child-takes f edit i before x after t, rest-takes f i before x after t, chosen-takes f i before x after t)
          (omega (arith, total-append w before (edit j x ++ after), total-append w (edit j x) after, total-append w before (x ∷ after), one j x q.0))

-- the pieces of a chopped node, where it got one entry more if b says so
chop-length : {A : Type 0} (m n : ℕ) (b : Bool) (ys : List A) → length ys ≡ n + cond b 1 0 → n ≤ m → length (chop m ys) ≡ suc (cond (b && leb m n) 1 0)
unfolding halves
chop-length m n true ys e fits =
    by-leb (λ k. length (chop m ys) ≡ suc k) m n 1 0
    (λ (full : m ≤ n). ap length (chop-halves m ys (omega arith)))
    (λ (room : n < m). ap length (chop-fits m ys (omega arith)))
chop-length m n false ys e fits = ap length (chop-fits m ys (omega arith))

module _ (s : Sizes) (proper : Proper s) where
  -- a node that splits makes two pieces, any other one
  pub insert_node-pieces : (c h m i : ℕ) (x : Node h) → root_least h ≤ m → FilledFrom s m h x → length (insert_node s c h i x) ≡ suc (cond (divides s h i x) 1 0)
  unfolding insert_node divides
  insert_node-pieces c zero m i x low p = chop-length (most s zero) (length x) true (insert c i x) (omega (arith, length-insert c i x)) p.0.fits
  insert_node-pieces c (suc h) m i x low p =
      chop-length (most s (suc h)) (length x) (divides s h (rest (marks_in h) i x) (chosen (marks_in h) i x)) (in_child (marks_in h) (insert_node s c h) i x)
      (sym (total-one (in_child (marks_in h) (insert_node s c h) i x))
      ∙ in_child-total (Filled s h) (marks_in h) (insert_node s c h) (λ _. 1) (λ j y. cond (divides s h j y) 1 0)
      (λ j y q. total-one (insert_node s c h j y) ∙ insert_node-pieces c h (least s h) j y (root-least s proper h) q ∙ omega arith) i x (omega (arith, p.0)) p.1
      ∙ ap (λ n. n + cond (divides s h (rest (marks_in h) i x) (chosen (marks_in h) i x)) 1 0) (total-one x))
      p.0.fits

  -- the pieces have as many blocks more as nodes split
  pub insert_node-blocks : (c h m i : ℕ) (x : Node h) → root_least h ≤ m → FilledFrom s m h x → total (blocks h) (insert_node s c h i x) ≡ blocks h x + splits s h i x
  unfolding insert_node divides splits
  insert_node-blocks c zero m i x low p = total-one (insert_node s c zero i x) ∙ insert_node-pieces c zero m i x low p ∙ omega arith
  insert_node-blocks c (suc h) m i x low p =
      let ys : Node (suc h) = in_child (marks_in h) (insert_node s c h) i x in
      let below : total (blocks h) ys ≡ total (blocks h) x + splits s h (rest (marks_in h) i x) (chosen (marks_in h) i x)
      = in_child-total (Filled s h) (marks_in h) (insert_node s c h) (blocks h) (splits s h)
      (λ j y q. insert_node-blocks c h (least s h) j y (root-least s proper h) q) i x (omega (arith, p.0)) p.1 in
      total-suc (nodes_below (suc h)) (chop (most s (suc h)) ys)
      ∙ ap₂ (λ a b. a + b) (insert_node-pieces c (suc h) m i x low p) (total-chop (most s (suc h)) ys (nodes_below (suc h)) (nodes_below-append (suc h)) ∙ below)
      ∙ omega arith

  grown-blocks : (h : ℕ) (ps : List (Node h)) (n : ℕ) → length ps ≡ suc n → n ≤ 1 → blocks_t (grown h ps) ≡ total (blocks h) ps + n
  unfolding grown
  grown-blocks h [] n e one = absurd (omega arith)
  grown-blocks h (x ∷ []) n e one = omega arith
  grown-blocks h (x ∷ y ∷ []) n e one = omega arith
  grown-blocks h (x ∷ y ∷ z ∷ zs) n e one = absurd (omega arith)

  -- an insert adds exactly as many blocks as nodes split, and one where the root splits
  pub insert_t-blocks : (c i : ℕ) (t : Tree) → FilledT s t → blocks_t (insert_t s c i t) ≡ blocks_t t + splits_t s i t
  unfolding insert_t
  insert_t-blocks c i t p =
      grown-blocks t.height (insert_node s c t.height i t.root) (cond (divides s t.height i t.root) 1 0)
      (insert_node-pieces c t.height (root_least t.height) i t.root (omega arith) p) (cond-le-one (divides s t.height i t.root))
      ∙ ap (λ n. n + cond (divides s t.height i t.root) 1 0) (insert_node-blocks c t.height (root_least t.height) i t.root (omega arith) p)
      ∙ omega arith

-- One level of what follows: d, all nodes below are full; l, this one is; k of those below split, which are h + 1.
all-step : (d l : Bool) (k h : ℕ) → (T d → k ≡ suc h) → T (d && l) → k + cond (d && l) 1 0 ≡ suc (suc h)
all-step true true k h e t = omega (arith, e tt)
all-step true false k h e t = absurd t
all-step false l k h e t = absurd t

not_step : (d l : Bool) (k h : ℕ) → (T d → k ≡ suc h) → (T (not d) → k ≤ h) → T (not (d && l)) → k + cond (d && l) 1 0 ≤ suc h
not_step true true k h e n t = absurd t
not_step true false k h e n t = omega (arith, e tt)
not_step false l k h e n t = omega (arith, n tt)

-- The nodes that split are the lowest of the path: the one at level h splits just where all h + 1 do.
module _ (s : Sizes) where
  pub divides-all : (h i : ℕ) (x : Node h) → T (divides s h i x) → splits s h i x ≡ suc h
  unfolding divides splits
  divides-all zero i x t = all-leaf (leb (most s zero) (length x)) t
    where
      all-leaf : (l : Bool) → T l → ◌≡◌ {A = ℕ} (cond l 1 0) 1
      all-leaf true t = refl
      all-leaf false t = absurd t
  divides-all (suc h) i x t = all-step (divides s h (rest (marks_in h) i x) (chosen (marks_in h) i x)) (leb (most s (suc h)) (length x)) _ h (divides-all h _ _) t

  pub divides-not : (h i : ℕ) (x : Node h) → T (not (divides s h i x)) → splits s h i x ≤ h
  unfolding divides splits
  divides-not zero i x t = not-leaf (leb (most s zero) (length x)) t
    where
      not-leaf : (l : Bool) → T (not l) → cond l 1 0 ≤ 0
      not-leaf true t = absurd t
      not-leaf false t = omega arith
  divides-not (suc h) i x t = not_step (divides s h (rest (marks_in h) i x) (chosen (marks_in h) i x)) (leb (most s (suc h)) (length x)) _ h (divides-all h _ _) (divides-not h _ _) t

-- Deletes.
module _ {A : Type 0} (least most : ℕ) (v : List A → ℕ) (additive : Additive v) where
  mend-total : (xs : List (List A)) → total (λ x. suc (v x)) (mend least most xs) ≤ total (λ x. suc (v x)) xs
  unfolding mend
  mend-total [] = omega arith
  mend-total (x ∷ []) = omega arith
  mend-total (x ∷ y ∷ ys) =
      by-leb (λ zs. total (λ x. suc (v x)) zs ≤ total (λ x. suc (v x)) (x ∷ y ∷ ys)) least (shorter x y) _ _
      (λ _. omega (arith, mend-total (y ∷ ys)))
      (λ _. omega (arith, total-append (λ x. suc (v x)) (chop most (x ++ y)) ys, total-suc v (chop most (x ++ y)), total-chop most (x ++ y) v additive, chop-one-or-two most (x ++ y), additive x y))

module _ (s : Sizes) (proper : Proper s) where
  delete-level-blocks : (h i : ℕ) (x : Node (suc h)) (del : ℕ → Node h → Node h) → ((j : ℕ) (y : Node h) → Filled s h y → nodes_below h (del j y) ≤ nodes_below h y)
      → 0 < length x → All (Filled s h) x → total (blocks h) (in_child (marks_in h) (λ j y. del j y ∷ []) i x) ≤ total (blocks h) x
  delete-level-blocks h i x del none some =
      by-taker (marks_in h) i x (λ ys. All (Filled s h) ys → total (blocks h) (in_child (marks_in h) (λ j y. del j y ∷ []) i ys) ≤ total (blocks h) ys) between some
    where
      between : (before : List (Node h)) (y : Node h) (after : List (Node h)) → Takes (marks_in h) i before y after → All (Filled s h) (before ++ y ∷ after)
          → total (blocks h) (in_child (marks_in h) (λ j y. del j y ∷ []) i (before ++ y ∷ after)) ≤ total (blocks h) (before ++ y ∷ after)
      between before y after t p =
          let j : ℕ = i - total (marks_in h) before in
          let q : All (Filled s h) (y ∷ after) = all_right (Filled s h) before (y ∷ after) p in
          rw (in_child-takes (marks_in h) (λ j y. del j y ∷ []) i before y after t)
          (omega (arith, total-append (blocks h) before (del j y ∷ after), total-append (blocks h) before (y ∷ after), none j y q.0))

  pub delete_node-blocks : (h m i : ℕ) (x : Node h) → root_least h ≤ m → FilledFrom s m h x → blocks h (delete_node s h i x) ≤ blocks h x
  unfolding delete_node
  delete_node-blocks zero m i x low p = omega arith
  delete_node-blocks (suc h) m i x low p =
      let ys : Node (suc h) = in_child (marks_in h) (λ j y. delete_node s h j y ∷ []) i x in
      omega (
        arith,
        mend-total (least s h) (most s h) (nodes_below h) (nodes_below-append h) ys,
        delete-level-blocks h i x (delete_node s h) (λ j y q. omega (arith, delete_node-blocks h (least s h) j y (root-least s proper h) q)) (omega (arith, p.0)) p.1,
      )

  shrunk-blocks : (h : ℕ) (x : Node h) → blocks_t (shrunk h x) ≤ blocks h x
  unfolding shrunk
  shrunk-blocks zero x = omega arith
  shrunk-blocks (suc h) [] = omega arith
  shrunk-blocks (suc h) (x ∷ []) = omega arith
  shrunk-blocks (suc h) (x ∷ y ∷ ys) = omega arith

  -- a delete never has more blocks than before
  pub delete_t-blocks : (i : ℕ) (t : Tree) → FilledT s t → blocks_t (delete_t s i t) ≤ blocks_t t
  unfolding delete_t
  delete_t-blocks i t p =
      omega (arith, shrunk-blocks t.height (delete_node s t.height i t.root), delete_node-blocks t.height (root_least t.height) i t.root (omega arith) p)
