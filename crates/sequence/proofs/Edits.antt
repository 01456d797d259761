-- The list after an insert or a delete, asked on both sides of the place. A delete's laws are those of the insert that undoes it.
use mathlib.Core.Path.{◌≡◌, refl, sym, ap, ◌∙◌}
use mathlib.Core.List.{List, [], ◌∷◌, ◌++◌}
use Prim.Native.Nat.{ℕ, suc, ◌+◌, ◌-◌, ◌≤◌, ◌<◌}
use native.Mathlib.Omega.{arith}
use lib.ListN.{length, take, drop, length-append, length-take, length-drop, take-append-drop}
use lib.Seq.{length-take-le, split_at, take-add, take_at, take-append-add, drop_at, drop-append-add, drop-drop, get_or_at}
use Rattle.lists.proofs.Items.{all_append, all_take, all_drop}
use Rattle.lists.proofs.Measures.{Additive, measure-parts}
use Rattle.lists.specs.Items.{AllBelow}
use Rattle.sequence.specs.Definition1.{is_mark, count, access, rank, select, insert, delete}
use Rattle.sequence.proofs.Counts.{count-one, is_mark-same, count-additive}
use Rattle.sequence.proofs.Seams.{access-left, access-right, select-left, select-right, insert-right, delete-right}
use Rattle.sequence.proofs.Selects.{access-cons, select-zero, select-cons}

-- a list, cut around its place i
split-place : (xs : List ℕ) (i : ℕ) → 1 ≤ i → i ≤ length xs → take (i - 1) xs ++ access xs i ∷ drop i xs ≡ xs
unfolding access
split-place xs i p h =
    let e : suc (i - 1) ≡ i = omega arith in
    let l : i - 1 < length xs = omega arith in
    rw e at (sym (split_at xs (i - 1) 0 l))

-- put in anywhere at all, x adds its own measure
measure-insert : (μ : List ℕ → ℕ) → Additive μ → (x i : ℕ) (xs : List ℕ) → μ (insert x i xs) ≡ μ (x ∷ []) + μ xs
unfolding insert
measure-insert μ additive x i xs =
    let l = take (i - 1) xs in
    let r = drop (i - 1) xs in
    omega (arith, additive l (x ∷ r), additive (x ∷ []) r, measure-parts μ additive (i - 1) xs)

pub length-insert : (x i : ℕ) (xs : List ℕ) → length (insert x i xs) ≡ length xs + 1
length-insert x i xs = omega (arith, measure-insert length length-append x i xs)

pub count-insert : (c x i : ℕ) (xs : List ℕ) → count c (insert x i xs) ≡ is_mark c x + count c xs
count-insert c x i xs = rw count-one at (measure-insert (count c) (count-additive c) x i xs)

-- at whatever place, a delete takes one mark out or none
pub length-delete-le : (i : ℕ) (xs : List ℕ) → length (delete i xs) ≤ length xs
unfolding delete
length-delete-le i xs = simp (length-append, length-take, length-drop) (omega arith)

pub length-le-delete : (i : ℕ) (xs : List ℕ) → length xs ≤ length (delete i xs) + 1
unfolding delete
length-le-delete i xs = simp (length-append, length-take, length-drop) (omega arith)

-- x is put in behind the first k marks
module _ (x i k : ℕ) (xs : List ℕ) (b : k < i) (within : k ≤ length xs) where
  long : length (take k xs) ≡ k
  long = length-take-le k xs within

  cut-before : insert x i xs ≡ take k xs ++ insert x (i - k) (drop k xs)
  cut-before =
      ap (insert x i) (sym (take-append-drop k xs)) ∙ insert-right (take k xs) (drop k xs) i x (omega (arith, long))
      ∙ ap (λ (n : ℕ). take k xs ++ insert x (i - n) (drop k xs)) long

  pub take-insert-before : take k (insert x i xs) ≡ take k xs
  take-insert-before = ap (take k) cut-before ∙ take_at (take k xs) (insert x (i - k) (drop k xs)) k long

  pub drop-insert-before : drop k (insert x i xs) ≡ insert x (i - k) (drop k xs)
  drop-insert-before = ap (drop k) cut-before ∙ drop_at (take k xs) (insert x (i - k) (drop k xs)) k long

-- x is put in at a place from 1 to n + 1
module _ (x i : ℕ) (xs : List ℕ) (p : 1 ≤ i) (h : i ≤ length xs + 1) where
  front : length (take (i - 1) xs) ≡ i - 1
  front = simp length-take (omega arith)

  -- what an insert puts in, a delete at that place takes out
  pub delete-insert : delete i (insert x i xs) ≡ xs
  unfolding insert delete
  delete-insert =
      let l = take (i - 1) xs in
      let r = drop (i - 1) xs in
      let one : i - length l ≡ 1 = omega (arith, front) in
      delete-right l (x ∷ r) i (omega (arith, front)) ∙ ap (λ (k : ℕ). l ++ delete k (x ∷ r)) one ∙ take-append-drop (i - 1) xs

  -- the first k marks, and those behind them, where x is one of the first
  pub take-insert-after : (k : ℕ) → i ≤ k → take k (insert x i xs) ≡ insert x i (take (k - 1) xs)
  unfolding insert
  take-insert-after k a =
      let l = take (i - 1) xs in
      let r = drop (i - 1) xs in
      let upto : k ≡ length l + suc (k - i) = omega (arith, front) in
      let less : k - 1 ≡ i - 1 + (k - i) = omega arith in
      let cut : take (k - 1) xs ≡ l ++ take (k - i) r = ap (λ (n : ℕ). take n xs) less ∙ take-add (i - 1) (k - i) xs in
      ap (λ (n : ℕ). take n (l ++ x ∷ r)) upto ∙ take-append-add l (x ∷ r) (suc (k - i))
      ∙ rw (cut, take_at l (take (k - i) r) (i - 1) front, drop_at l (take (k - i) r) (i - 1) front)

  pub drop-insert-after : (k : ℕ) → i ≤ k → drop k (insert x i xs) ≡ drop (k - 1) xs
  unfolding insert
  drop-insert-after k a =
      let l = take (i - 1) xs in
      let r = drop (i - 1) xs in
      let upto : k ≡ length l + suc (k - i) = omega (arith, front) in
      let less : i - 1 + (k - i) ≡ k - 1 = omega arith in
      ap (λ (n : ℕ). drop n (l ++ x ∷ r)) upto ∙ drop-append-add l (x ∷ r) (suc (k - i))
      ∙ drop-drop (k - i) (i - 1) xs ∙ ap (λ (n : ℕ). drop n xs) less

  pub access-insert-here : access (insert x i xs) i ≡ x
  unfolding insert access
  access-insert-here = get_or_at (take (i - 1) xs) x (drop (i - 1) xs) 0 (i - 1) front

  pub access-insert-before : (k : ℕ) → 1 ≤ k → k < i → access (insert x i xs) k ≡ access xs k
  unfolding insert
  access-insert-before k q b =
      let l = take (i - 1) xs in
      let r = drop (i - 1) xs in
      let within : k ≤ length l = omega (arith, front) in
      access-left l (x ∷ r) k q within ∙ sym (access-left l r k q within) ∙ ap (λ (ys : List ℕ). access ys k) (take-append-drop (i - 1) xs)

  pub access-insert-after : (k : ℕ) → i < k → access (insert x i xs) k ≡ access xs (k - 1)
  unfolding insert
  access-insert-after k a =
      let l = take (i - 1) xs in
      let r = drop (i - 1) xs in
      let n = k - 1 - length l in
      let past : k - length l ≡ suc n = omega (arith, front) in
      access-right l (x ∷ r) k (omega (arith, front)) ∙ ap (access (x ∷ r)) past ∙ access-cons x r n (omega (arith, front))
      ∙ sym (access-right l r (k - 1) (omega (arith, front))) ∙ ap (λ (ys : List ℕ). access ys (k - 1)) (take-append-drop (i - 1) xs)

  pub rank-insert-before : (c k : ℕ) → k < i → rank c (insert x i xs) k ≡ rank c xs k
  unfolding rank
  rank-insert-before c k b = ap (count c) (take-insert-before x i k xs b (omega arith))

  pub rank-insert-after : (c k : ℕ) → i ≤ k → rank c (insert x i xs) k ≡ is_mark c x + rank c xs (k - 1)
  unfolding rank
  rank-insert-after c k a = ap (count c) (take-insert-after k a) ∙ count-insert c x i (take (k - 1) xs)

  -- the c that stand before the place keep their places
  pub select-insert-before : (c j : ℕ) → j ≤ rank c xs (i - 1) → select c (insert x i xs) j ≡ select c xs j
  unfolding insert rank
  select-insert-before c j b =
      let l = take (i - 1) xs in
      let r = drop (i - 1) xs in
      select-left c l (x ∷ r) j b ∙ sym (select-left c l r j b) ∙ ap (λ (ys : List ℕ). select c ys j) (take-append-drop (i - 1) xs)

  -- the next is the mark put in, if it is c
  pub select-insert-here : select x (insert x i xs) (rank x xs (i - 1) + 1) ≡ i
  unfolding insert rank
  select-insert-here =
      let l = take (i - 1) xs in
      let r = drop (i - 1) xs in
      let one : count x l + 1 - count x l ≡ 1 = omega arith in
      let none : 1 - is_mark x x ≡ 0 = omega (arith, is_mark-same x x refl) in
      let first : select x (x ∷ r) 1 ≡ 1 = select-cons x x r 1 (omega arith) ∙ ap (λ (k : ℕ). suc (select x r k)) none ∙ ap suc (select-zero x r) in
      omega (arith, select-right x l (x ∷ r) (count x l + 1) (omega arith), ap (select x (x ∷ r)) one, first, front)

  -- and those after it stand one place later
  pub select-insert-after : (c j : ℕ) → rank c xs (i - 1) + is_mark c x < j → select c (insert x i xs) j ≡ select c xs (j - is_mark c x) + 1
  unfolding insert rank
  select-insert-after c j a =
      let l = take (i - 1) xs in
      let r = drop (i - 1) xs in
      let n = j - count c l in
      let same : n - is_mark c x ≡ j - is_mark c x - count c l = omega arith in
      omega (
        arith,
        select-right c l (x ∷ r) j (omega arith),
        select-cons c x r n (omega arith),
        ap (select c r) same,
        select-right c l r (j - is_mark c x) (omega arith),
        ap (λ (ys : List ℕ). select c ys (j - is_mark c x)) (take-append-drop (i - 1) xs),
      )

-- place i, from 1 to n, is taken out
module _ (i : ℕ) (xs : List ℕ) (p : 1 ≤ i) (h : i ≤ length xs) where
  -- put in again, the mark gives the list back
  pub insert-delete : insert (access xs i) i (delete i xs) ≡ xs
  unfolding insert delete
  insert-delete =
      let l = take (i - 1) xs in
      let front : length l ≡ i - 1 = simp length-take (omega arith) in
      rw (take_at l (drop i xs) (i - 1) front, drop_at l (drop i xs) (i - 1) front) (split-place xs i p h)

  pub length-delete : length (delete i xs) ≡ length xs - 1
  length-delete = omega (arith, length-insert (access xs i) i (delete i xs), ap length insert-delete)

  pub count-delete : (c : ℕ) → is_mark c (access xs i) + count c (delete i xs) ≡ count c xs
  count-delete c = sym (count-insert c (access xs i) i (delete i xs)) ∙ ap (count c) insert-delete

  place : i ≤ length (delete i xs) + 1
  place = omega (arith, length-delete)

  pub access-delete-before : (k : ℕ) → 1 ≤ k → k < i → access (delete i xs) k ≡ access xs k
  access-delete-before k q b =
      sym (access-insert-before (access xs i) i (delete i xs) p place k q b) ∙ ap (λ (ys : List ℕ). access ys k) insert-delete

  pub access-delete-after : (k : ℕ) → i ≤ k → access (delete i xs) k ≡ access xs (k + 1)
  access-delete-after k a =
      let e : k + 1 - 1 ≡ k = omega arith in
      rw (insert-delete, e) at (sym (access-insert-after (access xs i) i (delete i xs) p place (k + 1) (omega arith)))

  pub rank-delete-before : (c k : ℕ) → k < i → rank c (delete i xs) k ≡ rank c xs k
  rank-delete-before c k b =
      sym (rank-insert-before (access xs i) i (delete i xs) p place c k b) ∙ ap (λ (ys : List ℕ). rank c ys k) insert-delete

  pub rank-delete-after : (c k : ℕ) → i ≤ k → is_mark c (access xs i) + rank c (delete i xs) k ≡ rank c xs (k + 1)
  rank-delete-after c k a =
      let e : k + 1 - 1 ≡ k = omega arith in
      rw (insert-delete, e) at (sym (rank-insert-after (access xs i) i (delete i xs) p place c (k + 1) (omega arith)))

  before : (c : ℕ) → rank c (delete i xs) (i - 1) ≡ rank c xs (i - 1)
  before c = rank-delete-before c (i - 1) (omega arith)

  pub select-delete-before : (c j : ℕ) → j ≤ rank c xs (i - 1) → select c (delete i xs) j ≡ select c xs j
  select-delete-before c j b =
      sym (select-insert-before (access xs i) i (delete i xs) p place c j (omega (arith, before c)))
      ∙ ap (λ (ys : List ℕ). select c ys j) insert-delete

  pub select-delete-after : (c j : ℕ) → rank c xs (i - 1) < j → select c (delete i xs) j + 1 ≡ select c xs (j + is_mark c (access xs i))
  select-delete-after c j a =
      let e : j + is_mark c (access xs i) - is_mark c (access xs i) ≡ j = omega arith in
      rw (insert-delete, e) at (sym (select-insert-after (access xs i) i (delete i xs) p place c (j + is_mark c (access xs i)) (omega (arith, before c))))

-- and marks below σ stay below it
pub all_below-insert : (σ x i : ℕ) (xs : List ℕ) → x < σ → AllBelow σ xs → AllBelow σ (insert x i xs)
unfolding insert
all_below-insert σ x i xs h b =
    all_append (λ y. y < σ) (take (i - 1) xs) (x ∷ drop (i - 1) xs) (all_take (λ y. y < σ) (i - 1) xs b) (h, all_drop (λ y. y < σ) (i - 1) xs b)

pub all_below-delete : (σ i : ℕ) (xs : List ℕ) → AllBelow σ xs → AllBelow σ (delete i xs)
unfolding delete
all_below-delete σ i xs b = all_append (λ y. y < σ) (take (i - 1) xs) (drop i xs) (all_take (λ y. y < σ) (i - 1) xs b) (all_drop (λ y. y < σ) i xs b)
