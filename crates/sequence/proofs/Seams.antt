-- The operations across a seam `xs ++ ys`: those of xs on the left; on the right those of ys, less the marks of xs, or less its c.
use mathlib.Core.Path.{◌≡◌, refl, ap, ◌∙◌}
use mathlib.Core.List.{List, [], ◌∷◌, ◌++◌, append_assoc}
use Prim.Native.Nat.{ℕ, zero, suc, ◌+◌, ◌-◌, ◌≤◌, ◌<◌}
use native.Mathlib.Nat.{zero-add, sub-zero}
use native.Mathlib.Omega.{arith}
use lib.ListN.{length, get_or, take, drop, get_or-append}
use lib.Seq.{take-append-le, drop-append-le, take-append-add, drop-append-add, get_or-append-add}
use Rattle.lists.proofs.Measures.{measure-left, measure-right}
use Rattle.sequence.specs.Definition1.{is_mark, count, access, rank, select, insert, delete}
use Rattle.sequence.proofs.Counts.{count-additive}
use Rattle.sequence.proofs.Selects.{select-zero}

module _ (xs ys : List ℕ) (i : ℕ) where
  pub access-left : 1 ≤ i → i ≤ length xs → access (xs ++ ys) i ≡ access xs i
  unfolding access
  access-left p h = get_or-append xs ys 0 (i - 1) (omega arith)

  pub access-right : length xs < i → access (xs ++ ys) i ≡ access ys (i - length xs)
  unfolding access
  access-right h =
      let e : i - 1 ≡ length xs + (i - length xs - 1) = omega arith in
      ap (λ (k : ℕ). get_or (xs ++ ys) k 0) e ∙ get_or-append-add xs ys (i - length xs - 1) 0

  pub rank_left : (c : ℕ) → i ≤ length xs → rank c (xs ++ ys) i ≡ rank c xs i
  unfolding rank
  rank_left c h = measure-left (count c) (count-additive c) xs ys i h

  pub rank_right : (c : ℕ) → length xs ≤ i → rank c (xs ++ ys) i ≡ count c xs + rank c ys (i - length xs)
  unfolding rank
  rank_right c h = measure-right (count c) (count-additive c) xs ys i h

  pub insert-left : (x : ℕ) → i ≤ length xs + 1 → insert x i (xs ++ ys) ≡ insert x i xs ++ ys
  unfolding insert
  insert-left x h =
      let within : i - 1 ≤ length xs = omega arith in
      rw (take-append-le (i - 1) xs ys within, drop-append-le (i - 1) xs ys within, append_assoc)

  pub insert-right : (x : ℕ) → length xs < i → insert x i (xs ++ ys) ≡ xs ++ insert x (i - length xs) ys
  unfolding insert
  insert-right x h =
      let e : i - 1 ≡ length xs + (i - length xs - 1) = omega arith in
      rw (e, take-append-add, drop-append-add, append_assoc)

  pub delete-left : i ≤ length xs → delete i (xs ++ ys) ≡ delete i xs ++ ys
  unfolding delete
  delete-left h =
      let within : i - 1 ≤ length xs = omega arith in
      rw (take-append-le (i - 1) xs ys within, drop-append-le i xs ys h, append_assoc)

  pub delete-right : length xs < i → delete i (xs ++ ys) ≡ xs ++ delete (i - length xs) ys
  unfolding delete
  delete-right h =
      let n = i - length xs in
      let before : i - 1 ≡ length xs + (n - 1) = omega arith in
      let at_i : i ≡ length xs + n = omega arith in
      ap (λ (k : ℕ). take k (xs ++ ys) ++ drop i (xs ++ ys)) before
      ∙ ap (λ (k : ℕ). take (length xs + (n - 1)) (xs ++ ys) ++ drop k (xs ++ ys)) at_i
      ∙ rw (take-append-add, drop-append-add, append_assoc)

pub select-left : (c : ℕ) (xs ys : List ℕ) (j : ℕ) → j ≤ count c xs → select c (xs ++ ys) j ≡ select c xs j
unfolding select count
select-left c [] ys j h = let e : j ≡ 0 = omega arith in rw (e, select-zero)
select-left c (x ∷ xs) ys zero h = refl
select-left c (x ∷ xs) ys (suc j) h = ap suc (select-left c xs ys (suc j - is_mark c x) (omega arith))

pub select-right : (c : ℕ) (xs ys : List ℕ) (j : ℕ) → count c xs < j → select c (xs ++ ys) j ≡ length xs + select c ys (j - count c xs)
unfolding select count
select-right c [] ys j h = rw (sub-zero, zero-add)
select-right c (x ∷ xs) ys zero h = absurd (omega arith)
select-right c (x ∷ xs) ys (suc j) h =
    let e : suc j - is_mark c x - count c xs ≡ suc j - (is_mark c x + count c xs) = omega arith in
    omega (arith, select-right c xs ys (suc j - is_mark c x) (omega arith), ap (select c ys) e)

-- in the middle list of three
module _ (xs ys zs : List ℕ) where
  pub access-middle : (i : ℕ) → length xs < i → i ≤ length xs + length ys → access (xs ++ (ys ++ zs)) i ≡ access ys (i - length xs)
  access-middle i past reach = access-right xs (ys ++ zs) i past ∙ access-left ys zs (i - length xs) (omega arith) (omega arith)

  pub select-middle : (c j : ℕ) → count c xs < j → j ≤ count c xs + count c ys
      → select c (xs ++ (ys ++ zs)) j ≡ length xs + select c ys (j - count c xs)
  select-middle c j past reach = omega (arith, select-right c xs (ys ++ zs) j past, select-left c ys zs (j - count c xs) (omega arith))
