-- The entries of two blocks cut anew: moved to the left block or to the right one.
use mathlib.Core.Path.{◌≡◌, refl, sym, ap, ap₂, ◌∙◌}
use mathlib.Core.List.{List, ◌++◌}
use mathlib.Core.Logic.{◌⊎◌, inl, inr}
use Prim.Native.Nat.{ℕ, ◌+◌, ◌-◌, ◌*◌, ◌/◌, ◌≤◌, ◌<◌, min, max}
use native.Mathlib.Nat.{mul-sub, mul-le-mul_left}
use native.Mathlib.Omega.{arith}
use lib.ListN.{length, take, drop}
use lib.Seq.{take-take, take-append-le, take-append-add, drop-append-le, drop-append-add}
use Rattle.geometry.specs.Layout.{form_at, count_at}
use Rattle.lists.proofs.Cuts.{cut-length, cut-two, drop-stretch}
use Rattle.pool.specs.Blocks.{form_of, entries}
use Rattle.pool.specs.Bytes.{block_at}
use Rattle.pool.specs.Changes.{Only}
use Rattle.pool.specs.Words.{PutWord, Moved}
use Rattle.pool_entries.specs.Summaries.{Is}
use Rattle.pool_blocks.specs.Contents.{contents, Room, Apart, Counted}
use Rattle.pool_blocks.specs.Moves.{Refilled, Recut, SharedOut}
use Rattle.pool.specs.Words.{PutWord, Moved}
use Rattle.pool.proofs.Changes.{only-block, only_then, only_wider, word-other, cut-before, cut-behind}
use Rattle.pool.proofs.Moves.{cut_moved}
use Rattle.pool_blocks.specs.Contents.{contents, Room, Counted}
use Rattle.pool_blocks.specs.Moves.{Recut, SharedOut}
use Rattle.pool_blocks.proofs.Contents.{contents-is, start-other, stretch-other, room-between, moved_as}

-- the entries of two blocks in a row
module _ (p : List ℕ) (a l a' r : ℕ) (inside : a + l ≤ length p) (inside' : a' + r ≤ length p) where
  -- the first so many bytes, where they are more than the left block's
  row-front : (n : ℕ) → n ≤ r → take (l + n) (take l (drop a p) ++ take r (drop a' p)) ≡ take l (drop a p) ++ take n (drop a' p)
  row-front n h =
      let e : l + n ≡ length (take l (drop a p)) + n = omega (arith, cut-length p a l inside) in
      ap (λ (k : ℕ). take k (take l (drop a p) ++ take r (drop a' p))) e
      ∙ take-append-add (take l (drop a p)) (take r (drop a' p)) n
      ∙ ap (λ (z : List ℕ). take l (drop a p) ++ z) (take-take n r (drop a' p) h)

  row-behind : (n : ℕ) → n ≤ r → drop (l + n) (take l (drop a p) ++ take r (drop a' p)) ≡ take (r - n) (drop (a' + n) p)
  row-behind n h =
      let e : l + n ≡ length (take l (drop a p)) + n = omega (arith, cut-length p a l inside) in
      ap (λ (k : ℕ). drop k (take l (drop a p) ++ take r (drop a' p))) e
      ∙ drop-append-add (take l (drop a p)) (take r (drop a' p)) n
      ∙ drop-stretch p a' n r h inside'

  -- and where they are fewer
  row_within : (n : ℕ) → n ≤ l → take n (take l (drop a p) ++ take r (drop a' p)) ≡ take n (drop a p)
  row_within n h =
      take-append-le n (take l (drop a p)) (take r (drop a' p)) (omega (arith, cut-length p a l inside)) ∙ take-take n l (drop a p) h

  row-rest : (n : ℕ) → n ≤ l → drop n (take l (drop a p) ++ take r (drop a' p)) ≡ take (l - n) (drop (a + n) p) ++ take r (drop a' p)
  row-rest n h =
      drop-append-le n (take l (drop a p)) (take r (drop a' p)) (omega (arith, cut-length p a l inside))
      ∙ ap (λ (z : List ℕ). z ++ take r (drop a' p)) (drop-stretch p a n l h inside)

-- two moves within the entries of two blocks
module _ (unit left right here there many : ℕ) (p p₁ p₂ : List ℕ) (counted : Counted p left right here there)
    (room : Room unit (entries p left)) (room' : Room unit (entries p right))
    (least : min here there ≤ many) (most : many ≤ max here there) where
  apart : left ≡ right → ⊥
  apart = counted.blocks.apart

  apart' : right ≡ left → ⊥
  apart' e = apart (sym e)

  -- the bytes that they take
  left_fits : unit * here ≤ form_at
  left_fits = omega (arith, room.fits, ap (λ (n : ℕ). unit * n) counted.left_many)

  right_fits : unit * there ≤ form_at
  right_fits = omega (arith, room'.fits, ap (λ (n : ℕ). unit * n) counted.right_many)

  -- the moved bytes are those of the row cut anew
  refilled : (l r now rest : ℕ) → l ≡ unit * here → r ≡ unit * there → now ≡ unit * many → rest ≡ unit * (here + there - many)
      → Only (λ x. (x ≡ left) ⊎ (x ≡ right)) p p₂ → form_of p₂ left ≡ form_of p left → form_of p₂ right ≡ form_of p right
      → take now (drop (block_at left) p₂) ≡ take now (take l (drop (block_at left) p) ++ take r (drop (block_at right) p))
      → take rest (drop (block_at right) p₂) ≡ drop now (take l (drop (block_at left) p) ++ take r (drop (block_at right) p))
      → Refilled unit left right many p p₂
  refilled l r now rest l-is r-is now-is rest-is only form form' front behind =
      let row : contents unit p left ++ contents unit p right ≡ take l (drop (block_at left) p) ++ take r (drop (block_at right) p) =
      ap₂ (λ (x y : List ℕ). x ++ y) (contents-is unit p left here l (sym counted.left_many) (sym l-is))
      (contents-is unit p right there r (sym counted.right_many) (sym r-is))
      in
      let rest-told : rest ≡ unit * (entries p left + entries p right - many) =
      rest-is ∙ ap₂ (λ (x y : ℕ). unit * (x + y - many)) counted.left_many counted.right_many
      in
      record {
        only = only;
        left_form = form;
        right_form = form';
        left_bytes =
            ap (λ (n : ℕ). take n (drop (block_at left) p₂)) (sym now-is) ∙ front ∙ ap₂ (λ (n : ℕ) (z : List ℕ). take n z) now-is (sym row);
        right_bytes =
            ap (λ (n : ℕ). take n (drop (block_at right) p₂)) (sym rest-told) ∙ behind
            ∙ ap₂ (λ (n : ℕ) (z : List ℕ). drop n z) now-is (sym row);
      }

  -- entries from the right block's front, moved behind the left block's
  pub left-filled : here ≤ many
      → Moved (block_at right + unit * 0) (block_at left + unit * here) (unit * (many - here)) p p₁
      → Moved (block_at right + unit * (many - here)) (block_at right + unit * 0) (unit * (there - (many - here))) p₁ p₂
      → Refilled unit left right many p p₂
  left-filled more part part' =
      let a = block_at left in
      let a' = block_at right in
      let l = unit * here in
      let r = unit * there in
      let n = unit * (many - here) in
      let long : n ≤ r = mul-le-mul_left unit (omega arith) in
      let now : l + n ≡ unit * many = omega (arith, mul-sub unit many here, mul-le-mul_left unit more) in
      let kept : unit * (there - (many - here)) ≡ r - n = mul-sub unit there (many - here) in
      let same : there - (many - here) ≡ here + there - many = omega arith in
      let rest : r - n ≡ unit * (here + there - many) = sym kept ∙ ap (λ (x : ℕ). unit * x) same in
      let fits : l + n ≤ form_at = omega (arith, (room-between p unit left right here there many counted room room' most).fits) in
      let m : Moved a' (a + l) n p p₁ = moved_as (omega arith) refl refl part in
      let m' : Moved (a' + n) a' (r - n) p₁ p₂ = moved_as refl (omega arith) kept part' in
      let first : Only (λ x. x ≡ left) p p₁ = only-block m.same left (omega arith) (omega arith) in
      let second : Only (λ x. x ≡ right) p₁ p₂ = only-block m'.same right (omega arith) (omega (arith, right_fits)) in
      refilled l r (l + n) (r - n) refl refl now rest
      (only_then (only_wider _ (λ x e. inl e) first) (only_wider _ (λ x e. inr e) second))
      (second.others left apart form_at (omega arith) ∙ m.same.high (a + form_at) (omega arith))
      (m'.same.high (a' + form_at) (omega (arith, right_fits)) ∙ first.others right apart' form_at (omega arith))
      (start-other second left apart (l + n) (omega arith)
      ∙ cut-two p₁ a l n
      ∙ ap₂ (λ (x y : List ℕ). x ++ y) (cut-before m.same a l (omega arith)) (cut_moved m (omega (arith, right_fits)) (omega (arith, left_fits)))
      ∙ sym (row-front p a l a' r (omega (arith, left_fits)) (omega (arith, right_fits)) n long))
      (cut_moved m' (omega (arith, first.long, right_fits)) (omega (arith, first.long, right_fits))
      ∙ stretch-other first right apart' n (r - n) (omega (arith, right_fits))
      ∙ sym (row-behind p a l a' r (omega (arith, left_fits)) (omega (arith, right_fits)) n long))

  -- entries from the left block's end, moved before the right block's
  pub right-filled : many < here
      → Moved (block_at right + unit * 0) (block_at right + unit * (here - many)) (unit * there) p p₁
      → Moved (block_at left + unit * many) (block_at right + unit * 0) (unit * (here - many)) p₁ p₂
      → Refilled unit left right many p p₂
  right-filled fewer part part' =
      let a = block_at left in
      let a' = block_at right in
      let l = unit * here in
      let r = unit * there in
      let n = unit * many in
      let part-is : unit * (here - many) ≡ l - n = mul-sub unit here many in
      let less : n ≤ l = mul-le-mul_left unit (omega arith) in
      let same : here - many + there ≡ here + there - many = omega arith in
      let rest : l - n + r ≡ unit * (here + there - many) = omega (arith, part-is, ap (λ (x : ℕ). unit * x) same) in
      let fits : l - n + r ≤ form_at =
      omega (arith, rest, (room-between p unit left right here there (here + there - many) counted room room' (omega arith)).fits)
      in
      let m : Moved a' (a' + (l - n)) r p p₁ = moved_as (omega arith) (omega arith) refl part in
      let m' : Moved (a + n) a' (l - n) p₁ p₂ = moved_as refl (omega arith) part-is part' in
      let first : Only (λ x. x ≡ right) p p₁ = only-block m.same right (omega arith) (omega arith) in
      let second : Only (λ x. x ≡ right) p₁ p₂ = only-block m'.same right (omega arith) (omega (arith, left_fits)) in
      refilled l r n (l - n + r) refl refl refl rest
      (only_wider _ (λ x e. inr e) (only_then first second))
      (second.others left apart form_at (omega arith) ∙ first.others left apart form_at (omega arith))
      (m'.same.high (a' + form_at) (omega (arith, left_fits)) ∙ m.same.high (a' + form_at) (omega arith))
      (start-other second left apart n (omega (arith, left_fits))
      ∙ start-other first left apart n (omega (arith, left_fits))
      ∙ sym (row_within p a l a' r (omega (arith, left_fits)) (omega (arith, right_fits)) n less))
      (cut-two p₂ a' (l - n) r
      ∙ ap₂ (λ (x y : List ℕ). x ++ y)
      (cut_moved m' (omega (arith, first.long, left_fits)) (omega (arith, first.long, left_fits))
      ∙ stretch-other first left apart n (l - n) (omega (arith, left_fits)))
      (cut-behind m'.same (a' + (l - n)) r (omega arith) ∙ cut_moved m (omega (arith, right_fits)) (omega arith))
      ∙ sym (row-rest p a l a' r (omega (arith, left_fits)) (omega (arith, right_fits)) n less))

-- and then both counts
pub shared-out : (unit left right here there : ℕ) (p p₂ p₃ p₄ : List ℕ) → Apart p left right
    → Room unit (entries p left) → Room unit (entries p right) → Is (entries p left) here → Is (entries p right) there
    → Refilled unit left right ((here + there) / 2) p p₂
    → PutWord (block_at left + count_at) ((here + there) / 2) p₂ p₃
    → PutWord (block_at right + count_at) (here + there - (here + there) / 2) p₃ p₄
    → SharedOut unit left right p p₄
shared-out unit left right here there p p₂ p₃ p₄ two room room' is is' full w w' =
    let half = (here + there) / 2 in
    let told : half ≡ (entries p left + entries p right) / 2 = ap₂ (λ (x y : ℕ). (x + y) / 2) is.is is'.is in
    let rest = here + there - half in
    let rest-is : rest ≡ entries p left + entries p right - half = ap₂ (λ (x y : ℕ). x + y - half) is.is is'.is in
    let apart : left ≡ right → ⊥ = two.apart in
    let apart' : right ≡ left → ⊥ = λ (e : right ≡ left). apart (sym e) in
    let counted : Counted p left right here there = record { blocks = two; left_many = is.is; right_many = is'.is } in
    let room_of : (n : ℕ) → n ≤ max here there → Room unit n = λ n less. room-between p unit left right here there n counted room room' less in
    let fits : unit * half ≤ form_at = (room_of half (omega arith)).fits in
    let fits' : unit * rest ≤ form_at = (room_of rest (omega arith)).fits in
    let left_told : Only (λ x. x ≡ left) p₂ p₃ = only-block w.same left (omega arith) (omega arith) in
    let right_told : Only (λ x. x ≡ right) p₃ p₄ = only-block w'.same right (omega arith) (omega arith) in
    let left_is : entries p₄ left ≡ half = word-other right_told left count_at apart (omega arith) ∙ w.put in
    let cut : Recut unit left right half p p₄ =
    record {
      only = only_then full.only (only_then (only_wider _ (λ x e. inl e) left_told) (only_wider _ (λ x e. inr e) right_told));
      left_form =
          right_told.others left apart form_at (omega arith) ∙ w.same.low (block_at left + form_at) (omega arith) ∙ full.left_form;
      left_many = left_is;
      left_bytes =
          contents-is unit p₄ left half (unit * half) left_is refl
          ∙ start-other right_told left apart (unit * half) (omega arith)
          ∙ cut-before w.same (block_at left) (unit * half) (omega arith)
          ∙ full.left_bytes;
      right_form =
          w'.same.low (block_at right + form_at) (omega arith) ∙ left_told.others right apart' form_at (omega arith) ∙ full.right_form;
      right_many = w'.put ∙ rest-is;
      right_bytes =
          contents-is unit p₄ right rest (unit * rest) w'.put refl
          ∙ cut-before w'.same (block_at right) (unit * rest) (omega arith)
          ∙ start-other left_told right apart' (unit * rest) (omega arith)
          ∙ ap (λ (n : ℕ). take (unit * n) (drop (block_at right) p₂)) rest-is
          ∙ full.right_bytes;
    }
    in
    rw told at cut
