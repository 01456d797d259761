-- Inserts and deletes keep nodes filled: two halves are just large enough, and a short child and its neighbour fill one node or two.
use mathlib.Core.Path.{◌≡◌}
use mathlib.Core.List.{List, [], ◌∷◌, ◌++◌}
use Prim.Native.Nat.{ℕ, zero, suc, ◌+◌, ◌-◌, ◌*◌, ◌≤◌, ◌<◌}
use native.Mathlib.Omega.{arith}
use lib.ListN.{length, take, drop, length-append, length-take, length-drop, take-append-drop}
use Rattle.lists.proofs.Items.{all_map, all_append, all_left, all_right}
use Rattle.lists.specs.Items.{All}
use Rattle.lists.specs.Sums.{total}
use Rattle.sequence.specs.Definition1.{insert}
use Rattle.sequence.proofs.Edits.{length-insert, length-delete-le, length-le-delete}
use Rattle.shape.specs.Nested.{Node, marks_in}
use Rattle.shape.specs.Sizes.{Sizes, Proper, least, most}
use Rattle.shape.specs.Level.{middle, halves, chop, shorter, mend, Takes, in_child}
use Rattle.shape.specs.Trees.{Tree, empty_t, insert_node, delete_node, grown, shrunk, insert_t, delete_t}
use Rattle.shape.specs.Fill.{Within, FilledBelow, FilledFrom, Filled, FilledPieces, FilledT, root_least}
use Rattle.shape.proofs.Choice.{by-leb}
use Rattle.shape.proofs.Seat.{by-taker, in_child-takes}
use Rattle.shape.proofs.Chop.{by-chop}
use Rattle.shape.proofs.Mend.{mend-none}

module _ (s : Sizes) where
  pub below-join : (h : ℕ) (x y : Node h) → FilledBelow s h x → FilledBelow s h y → FilledBelow s h (x ++ y)
  below-join zero x y p q = tt
  below-join (suc h) x y p q = all_append (Filled s h) x y p q

  pub below_left : (h : ℕ) (x y : Node h) → FilledBelow s h (x ++ y) → FilledBelow s h x
  below_left zero x y p = tt
  below_left (suc h) x y p = all_left (Filled s h) x y p

  pub filled-enough : (h : ℕ) (xs : List (Node h)) → All (Filled s h) xs → All (λ x. least s h ≤ length x) xs
  filled-enough h xs p = all_map (Filled s h) (λ x. least s h ≤ length x) (λ x f. f.0.enough) xs p

  pub below_right : (h : ℕ) (x y : Node h) → FilledBelow s h (x ++ y) → FilledBelow s h y
  below_right zero x y p = tt
  below_right (suc h) x y p = all_right (Filled s h) x y p

-- One level: an edit in one item that keeps P, and makes one or two of it.
module _ {A : Type 0} (P : List A → Type 0) (f : List A → ℕ) (edit : ℕ → List A → List (List A))
    (one : (j : ℕ) (x : List A) → P x → All P (edit j x) × Within 1 2 (length (edit j x))) where
  pub in_child-all : (i : ℕ) (xs : List (List A)) → 0 < length xs → All P xs
      → All P (in_child f edit i xs) × Within (length xs) (suc (length xs)) (length (in_child f edit i xs))
  in_child-all i xs h = by-taker f i xs (λ ys. All P ys → All P (in_child f edit i ys) × Within (length ys) (suc (length ys)) (length (in_child f edit i ys))) between h
    where
      between : (before : List (List A)) (x : List A) (after : List (List A)) → Takes f i before x after → All P (before ++ x ∷ after)
          → All P (in_child f edit i (before ++ x ∷ after))
          × Within (length (before ++ x ∷ after)) (suc (length (before ++ x ∷ after))) (length (in_child f edit i (before ++ x ∷ after)))
      between before x after t p =
          let q : All P (x ∷ after) = all_right P before (x ∷ after) p in
          let j : ℕ = i - total f before in
          let r : All P (edit j x) × Within 1 2 (length (edit j x)) = one j x q.0 in
          rw (in_child-takes f edit i before x after t) (
            all_append P before (edit j x ++ after) (all_left P before (x ∷ after) p) (all_append P (edit j x) after r.0 q.1),
            simp length-append (omega arith),
          )

module _ (s : Sizes) (proper : Proper s) where
  pub most-least : (h : ℕ) → most s h + 1 ≡ 2 * least s h
  most-least zero = proper.leaf_halves
  most-least (suc h) = proper.branch_halves

  pub least-two : (h : ℕ) → 2 ≤ least s h
  least-two zero = proper.leaf_two
  least-two (suc h) = proper.branch_two

  pub root-least : (h : ℕ) → root_least h ≤ least s h
  root-least zero = omega arith
  root-least (suc h) = proper.branch_two

  -- pieces of a node that is at most twice too large
  pub chop-filled : (m h : ℕ) (x : Node h) → m ≤ length x → length x ≤ 2 * most s h → FilledBelow s h x → FilledPieces s m h (chop (most s h) x)
  unfolding halves
  chop-filled m h x low high p =
      let q : FilledBelow s h (take (middle x) x ++ drop (middle x) x) = rw take-append-drop p in
      by-chop (most s h) x (FilledPieces s m h) (λ (fits : length x ≤ most s h). (record { enough = low; fits = fits }, p))
      (λ (over : most s h < length x). (
        (simp length-take (omega (arith, most-least h)), below_left s h (take (middle x) x) (drop (middle x) x) q),
        (simp length-drop (omega (arith, most-least h)), below_right s h (take (middle x) x) (drop (middle x) x) q),
      ))

  -- pieces of a node that is no root
  pub pieces-filled : (h : ℕ) (ps : List (Node h)) → FilledPieces s (least s h) h ps → All (Filled s h) ps × Within 1 2 (length ps)
  pieces-filled h [] p = absurd p
  pieces-filled h (x ∷ []) p = ((p, tt), omega arith)
  pieces-filled h (x ∷ y ∷ []) p = ((p.0, (p.1, tt)), omega arith)
  pieces-filled h (x ∷ y ∷ z ∷ zs) p = absurd p

  pub insert_node-filled : (c h m i : ℕ) (x : Node h) → root_least h ≤ m → FilledFrom s m h x → FilledPieces s m h (insert_node s c h i x)
  unfolding insert_node
  insert_node-filled c zero m i x low p =
      chop-filled m zero (insert c i x) (omega (arith, length-insert c i x, p.0)) (omega (arith, length-insert c i x, p.0, most-least zero, least-two zero)) tt
  insert_node-filled c (suc h) m i x low p =
      let q = in_child-all (Filled s h) (marks_in h) (insert_node s c h) (λ j y r. pieces-filled h (insert_node s c h j y) (insert_node-filled c h (least s h) j y (root-least h) r)) i x (omega (arith, p.0)) p.1 in
      chop-filled m (suc h) _ (omega (arith, p.0, q.1)) (omega (arith, p.0, q.1, most-least (suc h), least-two (suc h))) q.0

  -- two neighbours, of which one may be short
  pair-filled : (h : ℕ) (x y : Node h) (ys : List (Node h)) → FilledFrom s (least s h - 1) h x → FilledFrom s (least s h - 1) h y
      → least s h ≤ length x + length y → All (Filled s h) ys
      → All (Filled s h) (mend (least s h) (most s h) (x ∷ y ∷ ys)) × Within (suc (length ys)) (suc (suc (length ys))) (length (mend (least s h) (most s h) (x ∷ y ∷ ys)))
  unfolding mend
  pair-filled h x y ys p q sum r =
      by-leb (λ zs. All (Filled s h) zs × Within (suc (length ys)) (suc (suc (length ys))) (length zs)) (least s h) (shorter x y) _ _
      (λ (low : least s h ≤ shorter x y).
      let all : All (Filled s h) (y ∷ ys) = ((record { enough = omega arith; fits = q.0.fits }, q.1), r) in
      rw (mend-none (least s h) (most s h) (y ∷ ys) (filled-enough s h (y ∷ ys) all)) (((record { enough = omega arith; fits = p.0.fits }, p.1), all), omega arith))
      (λ _.
      let ps = pieces-filled h (chop (most s h) (x ++ y)) (chop-filled (least s h) h (x ++ y) (rw length-append sum) (rw length-append (omega (arith, p.0, q.0))) (below-join s h x y p.1 q.1)) in
      (all_append (Filled s h) (chop (most s h) (x ++ y)) ys ps.0 r, rw length-append (omega (arith, ps.1))))

  loose : (h : ℕ) (x : Node h) → Filled s h x → FilledFrom s (least s h - 1) h x
  loose h x p = (omega (arith, p.0), p.1)

  -- all are filled but one, which may be short by one
  pub mend-filled : (h : ℕ) (before : List (Node h)) (x : Node h) (after : List (Node h)) → 0 < length before + length after
      → All (Filled s h) before → FilledFrom s (least s h - 1) h x → All (Filled s h) after
      → All (Filled s h) (mend (least s h) (most s h) (before ++ x ∷ after))
      × Within (length before + length after) (suc (length before + length after)) (length (mend (least s h) (most s h) (before ++ x ∷ after)))
  unfolding mend
  mend-filled h [] x [] two p q r = absurd (omega arith)
  mend-filled h [] x (y ∷ ys) two p q r =
      let c = pair-filled h x y ys q (loose h y r.0) (omega (arith, q.0, r.0.0, least-two h)) r.1 in
      (c.0, omega (arith, c.1))
  mend-filled h (b ∷ []) x after two p q r =
      let c = pair-filled h b x after (loose h b p.0) q (omega (arith, p.0.0)) r in
      (c.0, omega (arith, c.1))
  mend-filled h (b ∷ c ∷ before) x after two p q r =
      by-leb (λ zs. All (Filled s h) zs × Within (length (b ∷ c ∷ before) + length after) (suc (length (b ∷ c ∷ before) + length after)) (length zs)) (least s h) (shorter b c) _ _
      (λ _.
      let n = mend-filled h (c ∷ before) x after (omega arith) p.1 q r in
      ((p.0, n.0), omega (arith, n.1)))
      (λ (high : shorter b c < least s h). absurd (omega (arith, p.0.0, p.1.0.0)))

  delete-level : (h m i : ℕ) (x : Node (suc h)) → 2 ≤ m → (del : ℕ → Node h → Node h) → ((j : ℕ) (y : Node h) → Filled s h y → FilledFrom s (least s h - 1) h (del j y))
      → FilledFrom s m (suc h) x → FilledFrom s (m - 1) (suc h) (mend (least s h) (most s h) (in_child (marks_in h) (λ j y. del j y ∷ []) i x))
  delete-level h m i x low del short p =
      by-taker (marks_in h) i x (λ ys. FilledFrom s m (suc h) ys → FilledFrom s (m - 1) (suc h) (mend (least s h) (most s h) (in_child (marks_in h) (λ j y. del j y ∷ []) i ys)))
      between (omega (arith, p.0)) p
    where
      between : (before : List (Node h)) (y : Node h) (after : List (Node h)) → Takes (marks_in h) i before y after → FilledFrom s m (suc h) (before ++ y ∷ after)
          → FilledFrom s (m - 1) (suc h) (mend (least s h) (most s h) (in_child (marks_in h) (λ j y. del j y ∷ []) i (before ++ y ∷ after)))
      between before y after t p =
          let all : All (Filled s h) (y ∷ after) = all_right (Filled s h) before (y ∷ after) p.1 in
          let long : length (before ++ y ∷ after) ≡ length before + suc (length after) = length-append before (y ∷ after) in
          let r = mend-filled h before (del (i - total (marks_in h) before) y) after (omega (arith, p.0)) (all_left (Filled s h) before (y ∷ after) p.1) (short (i - total (marks_in h) before) y all.0) all.1 in
          rw (in_child-takes (marks_in h) (λ j y. del j y ∷ []) i before y after t) (omega (arith, p.0, r.1), r.0)

  pub delete_node-filled : (h m i : ℕ) (x : Node h) → root_least h ≤ m → FilledFrom s m h x → FilledFrom s (m - 1) h (delete_node s h i x)
  unfolding delete_node
  delete_node-filled zero m i x low p = (omega (arith, p.0, length-delete-le i x, length-le-delete i x), tt)
  delete_node-filled (suc h) m i x low p = delete-level h m i x low (delete_node s h) (λ j y q. delete_node-filled h (least s h) j y (root-least h) q) p

  -- a tree stays filled
  pub empty_t-filled : FilledT s empty_t
  empty_t-filled = (omega arith, tt)

  pub grown-filled : (h : ℕ) (ps : List (Node h)) → FilledPieces s (root_least h) h ps → FilledT s (grown h ps)
  unfolding grown
  grown-filled h [] p = absurd p
  grown-filled h (x ∷ []) p = p
  grown-filled h (x ∷ y ∷ []) p = (omega (arith, proper), (p.0, (p.1, tt)))
  grown-filled h (x ∷ y ∷ z ∷ zs) p = absurd p

  pub shrunk-filled : (h : ℕ) (x : Node h) → FilledFrom s (root_least h - 1) h x → FilledT s (shrunk h x)
  unfolding shrunk
  shrunk-filled zero x p = p
  shrunk-filled (suc h) [] p = absurd (omega (arith, p.0))
  shrunk-filled (suc h) (x ∷ []) p = (record { enough = omega (arith, root-least h, p.1.0.0); fits = p.1.0.0.fits }, p.1.0.1)
  shrunk-filled (suc h) (x ∷ y ∷ ys) p = (record { enough = omega arith; fits = p.0.fits }, p.1)

  pub insert_t-filled : (c i : ℕ) (t : Tree) → FilledT s t → FilledT s (insert_t s c i t)
  unfolding insert_t
  insert_t-filled c i t p = grown-filled t.height (insert_node s c t.height i t.root) (insert_node-filled c t.height (root_least t.height) i t.root (omega arith) p)

  pub delete_t-filled : (i : ℕ) (t : Tree) → FilledT s t → FilledT s (delete_t s i t)
  unfolding delete_t
  delete_t-filled i t p = shrunk-filled t.height (delete_node s t.height i t.root) (delete_node-filled t.height (root_least t.height) i t.root (omega arith) p)
