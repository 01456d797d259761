-- A block emptied, its entries cut off to another block, and those of two blocks joined.
use mathlib.Core.Path.{◌≡◌, refl, sym, ap, ap₂, ◌∙◌}
use mathlib.Core.List.{List, ◌++◌}
use mathlib.Core.Logic.{inl, inr}
use Prim.Native.Nat.{ℕ, ◌+◌, ◌-◌, ◌*◌, ◌≤◌, ◌<◌}
use native.Mathlib.Nat.{mul-sub}
use native.Mathlib.Omega.{arith}
use lib.ListN.{take, drop}
use lib.Seq.{take-take}
use Rattle.geometry.specs.Layout.{form_at, count_at}
use Rattle.lists.proofs.Cuts.{cut-two, drop-stretch}
use Rattle.pool.specs.Blocks.{entries}
use Rattle.pool.specs.Bytes.{shares, block_at}
use Rattle.pool.specs.Changes.{Only}
use Rattle.pool.specs.Words.{PutWord, Moved}
use Rattle.pool_entries.specs.Summaries.{Is}
use Rattle.pool_blocks.specs.Contents.{contents, Room, Apart}
use Rattle.pool_blocks.specs.Moves.{PutTrailer, CutOff, Joined}
use Rattle.pool.specs.Words.{PutWord, Moved}
use Rattle.pool.proofs.Changes.{only-block, only_then, only_wider, word-other, cut-before}
use Rattle.pool.proofs.Moves.{cut_moved}
use Rattle.pool_blocks.proofs.Gaps.{moved-only, moved-form}
use Rattle.pool_blocks.proofs.Contents.{Measured, measured, contents-is, start-other, moved_as}

-- a block's entries behind the first so many, moved to another block
pub part_cut : (unit b new cut many : ℕ) (p p₁ p₂ p₃ : List ℕ)
    → Apart p b new → cut ≤ entries p b → Room unit (entries p b)
    → Is (entries p b) many
    → Moved (block_at b + unit * cut) (block_at new + unit * 0) (unit * (many - cut)) p p₁
    → PutWord (block_at b + count_at) cut p₁ p₂
    → PutTrailer new (many - cut) p₂ p₃
    → CutOff unit b new cut p p₃
part_cut unit b new cut many p p₁ p₂ p₃ two less room is part w t =
    let apart : b ≡ new → ⊥ = two.apart in
    let a = block_at b in
    let front = unit * cut in
    let used = unit * many in
    let fits : Measured unit cut many = measured unit cut (entries p b) many is.is less room in
    let was : contents unit p b ≡ take used (drop a p) = contents-is unit p b many used (sym is.is) refl in
    let m : Moved (a + front) (block_at new) (used - front) p p₁ = moved_as refl (omega arith) (mul-sub unit many cut) part in
    let moved : Only (λ x. x ≡ new) p p₁ = only-block m.same new (omega arith) (omega arith) in
    let told : Only (λ x. x ≡ b) p₁ p₂ = only-block w.same b (omega arith) (omega arith) in
    let ended : Only (λ x. x ≡ new) p₂ p₃ = only-block t.same new (omega arith) (omega arith) in
    let left : entries p₃ b ≡ cut = word-other ended b count_at apart (omega arith) ∙ w.put in
    record {
      only =
          only_then (only_wider _ (λ x e. inr e) moved)
          (only_then (only_wider _ (λ x e. inl e) told) (only_wider _ (λ x e. inr e) ended));
      form =
          ended.others b apart form_at (omega arith)
          ∙ w.same.low (a + form_at) (omega arith)
          ∙ moved.others b apart form_at (omega arith);
      many = left;
      bytes =
          contents-is unit p₃ b cut front left refl
          ∙ start-other ended b apart front (omega arith)
          ∙ cut-before w.same a front (omega arith)
          ∙ start-other moved b apart front (omega arith)
          ∙ sym (take-take front used (drop a p) (omega arith))
          ∙ ap (take front) (sym was);
      new_form = t.form;
      new_many = t.many ∙ ap (λ (n : ℕ). n - cut) is.is;
      new_bytes =
          contents-is unit p₃ new (many - cut) (used - front) t.many (mul-sub unit many cut)
          ∙ cut-before t.same (block_at new) (used - front) (omega arith)
          ∙ start-other told new (λ e. apart (sym e)) (used - front) (omega arith)
          ∙ cut_moved m (omega arith) (omega arith)
          ∙ sym (drop-stretch p a front used (omega arith) (omega arith))
          ∙ ap (drop front) (sym was);
    }

-- a block's entries, moved behind another's
pub parts-joined : (unit left right here there : ℕ) (p q r : List ℕ)
    → left < shares p → right < shares p → Room unit (entries p left + entries p right)
    → Is (entries p left) here → Is (entries p right) there
    → Moved (block_at right + unit * 0) (block_at left + unit * here) (unit * there) p q
    → PutWord (block_at left + count_at) (here + there) q r
    → Joined unit left right p r
parts-joined unit left right here there p q r inside inside' room is is' part w =
    let a = block_at left in
    let l = unit * here in
    let n = unit * there in
    let fits : Measured unit here (here + there) =
    measured unit here (entries p left + entries p right) (here + there) (omega (arith, is.is, is'.is)) (omega (arith, is.is)) room
    in
    let m : Moved (block_at right) (a + l) n p q = moved_as (omega arith) refl refl part in
    let sum : unit * (here + there) ≡ l + n = omega arith in
    record {
      only = moved-only left (block_at right) (a + l) n (here + there) p q r (omega arith) (omega arith) m w;
      form = moved-form left (block_at right) (a + l) n (here + there) p q r (omega arith) (omega arith) m w;
      many = w.put ∙ ap₂ (λ (x y : ℕ). x + y) is.is is'.is;
      bytes =
          contents-is unit r left (here + there) (l + n) w.put sum
          ∙ cut-two r a l n
          ∙ ap₂ (λ (x y : List ℕ). x ++ y)
          (cut-before w.same a l (omega arith) ∙ cut-before m.same a l (omega arith)
          ∙ sym (contents-is unit p left here l (sym is.is) refl))
          (cut-before w.same (a + l) n (omega arith) ∙ cut_moved m (omega arith) (omega arith)
          ∙ sym (contents-is unit p right there n (sym is'.is) refl));
    }
