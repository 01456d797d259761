-- An entry more or fewer in a block: what one move and the new count leave.
use mathlib.Core.Path.{◌≡◌, refl, sym, ap, ap₂, ◌∙◌}
use mathlib.Core.List.{List, ◌++◌}
use Prim.Native.Nat.{ℕ, ◌+◌, ◌-◌, ◌*◌, ◌≤◌, ◌<◌}
use native.Mathlib.Nat.{mul-sub}
use native.Mathlib.Omega.{arith}
use lib.ListN.{length, take, drop}
use lib.Seq.{take-take, take_at, drop_at, drop-append_seam}
use Rattle.geometry.specs.Layout.{form_at, count_at}
use Rattle.lists.proofs.Cuts.{cut-length, cut-two, drop-stretch, cut-three}
use Rattle.pool.specs.Blocks.{form_of, entries}
use Rattle.pool.specs.Bytes.{shares, block_at}
use Rattle.pool.specs.Changes.{Outside, Only}
use Rattle.pool.specs.Words.{PutWord, Moved}
use Rattle.pool_entries.specs.Summaries.{Is}
use Rattle.pool_blocks.specs.Contents.{contents, Room}
use Rattle.pool_blocks.specs.Moves.{Opened, Closed}
use Rattle.pool.specs.Words.{PutWord, Moved}
use Rattle.pool.proofs.Changes.{only-block, only_then, word-behind, cut-before, cut-behind}
use Rattle.pool.proofs.Moves.{cut_moved}
use Rattle.pool_blocks.proofs.Contents.{Measured, measured, contents-is, moved_as}

-- a move within a block's entries, and then another count
module _ (b from to bytes put : ℕ) (p q r : List ℕ) (low : block_at b ≤ to) (high : to + bytes ≤ block_at b + form_at)
    (m : Moved from to bytes p q) (w : PutWord (block_at b + count_at) put q r) where
  pub moved-only : Only (λ x. x ≡ b) p r
  moved-only =
      only_then (only-block m.same b low (omega arith)) (only-block w.same b (omega arith) (omega arith))

  pub moved-form : form_of r b ≡ form_of p b
  moved-form = w.same.low (block_at b + form_at) (omega arith) ∙ m.same.high (block_at b + form_at) high

module _ (unit b k many : ℕ) (p q r : List ℕ) (inside : b < shares p) where
  pub gap-opened : k ≤ entries p b → Room unit (entries p b + 1) → Is (entries p b) many
      → Moved (block_at b + unit * k) (block_at b + unit * (k + 1)) (unit * (many - k)) p q
      → PutWord (block_at b + count_at) (many + 1) q r
      → Opened unit b k p r
  gap-opened less room is moved w =
      let a = block_at b in
      let front = unit * k in
      let used = unit * many in
      let fits : Measured unit (k + 1) (many + 1) = measured unit (k + 1) (entries p b + 1) (many + 1) (omega (arith, is.is)) (omega arith) room in
      let rest = used - front in
      let m : Moved (a + front) (a + front + unit) rest p q = moved_as refl (omega arith) (mul-sub unit many k) moved in
      let sum : unit * (many + 1) ≡ front + (unit + rest) = omega arith in
      let was : contents unit p b ≡ take used (drop a p) = contents-is unit p b many used (sym is.is) refl in
      record {
        only = moved-only b (a + front) (a + front + unit) rest (many + 1) p q r (omega arith) (omega arith) m w;
        form = moved-form b (a + front) (a + front + unit) rest (many + 1) p q r (omega arith) (omega arith) m w;
        many = w.put ∙ ap (λ (n : ℕ). n + 1) is.is;
        bytes =
            contents-is unit r b (many + 1) (front + (unit + rest)) w.put sum
            ∙ cut-three r a front unit rest
            ∙ ap₂ (λ (x y : List ℕ). x ++ (take unit (drop (a + front) r) ++ y))
            (cut-before w.same a front (omega arith) ∙ cut-before m.same a front (omega arith)
            ∙ sym (take-take front used (drop a p) (omega arith)) ∙ ap (take front) (sym was))
            (cut-before w.same (a + front + unit) rest (omega arith) ∙ cut_moved m (omega arith) (omega arith)
            ∙ sym (drop-stretch p a front used (omega arith) (omega arith)) ∙ ap (drop front) (sym was));
      }

  pub gap-closed : k < entries p b → Room unit (entries p b) → Is (entries p b) many
      → Moved (block_at b + unit * (k + 1)) (block_at b + unit * k) (unit * (many - (k + 1))) p q
      → PutWord (block_at b + count_at) (many - 1) q r
      → Closed unit b k p r
  gap-closed less room is moved w =
      let a = block_at b in
      let front = unit * k in
      let used = unit * many in
      let fits : Measured unit (k + 1) many = measured unit (k + 1) (entries p b) many is.is (omega arith) room in
      let rest = used - (front + unit) in
      let m : Moved (a + front + unit) (a + front) rest p q = moved_as (omega arith) refl (omega (arith, mul-sub unit many (k + 1))) moved in
      let sum : unit * (many - 1) ≡ front + rest = omega (arith, mul-sub unit many 1) in
      let was : contents unit p b ≡ take used (drop a p) = contents-is unit p b many used (sym is.is) refl in
      let behind : a + front + unit ≡ a + (front + unit) = omega arith in
      record {
        only = moved-only b (a + front + unit) (a + front) rest (many - 1) p q r (omega arith) (omega arith) m w;
        form = moved-form b (a + front + unit) (a + front) rest (many - 1) p q r (omega arith) (omega arith) m w;
        many = w.put ∙ ap (λ (n : ℕ). n - 1) is.is;
        bytes =
            contents-is unit r b (many - 1) (front + rest) w.put sum
            ∙ cut-two r a front rest
            ∙ ap₂ (λ (x y : List ℕ). x ++ y)
            (cut-before w.same a front (omega arith) ∙ cut-before m.same a front (omega arith)
            ∙ sym (take-take front used (drop a p) (omega arith)) ∙ ap (take front) (sym was))
            (cut-before w.same (a + front) rest (omega arith) ∙ cut_moved m (omega arith) (omega arith)
            ∙ ap (λ (x : ℕ). take rest (drop x p)) behind
            ∙ sym (drop-stretch p a (front + unit) used (omega arith) (omega arith)) ∙ ap (drop (front + unit)) (sym was));
      }

-- a row of three parts whose first and middle parts are as long as those of another
module _ (x x' y z z' : List ℕ) (n : ℕ) (long : length x ≡ n) (long' : length x' ≡ n) (same : x ++ (y ++ z) ≡ x' ++ (y ++ z')) where
  first-same : x ≡ x'
  first-same = sym (take_at x (y ++ z) n long) ∙ ap (take n) same ∙ take_at x' (y ++ z') n long'

  last-same : z ≡ z'
  last-same =
      let rest : y ++ z ≡ y ++ z' = sym (drop_at x (y ++ z) n long) ∙ ap (drop n) same ∙ drop_at x' (y ++ z') n long' in
      sym (drop-append_seam y z) ∙ ap (drop (length y)) rest ∙ drop-append_seam y z'

-- the bytes of the gap, written: the other entries stay as they are
pub gap-filled : (unit b k : ℕ) (p q r : List ℕ) → b < shares p → k ≤ entries p b → Room unit (entries p b + 1) → Opened unit b k p q
    → Outside (block_at b + unit * k) unit q r
    → contents unit r b
    ≡ take (unit * k) (contents unit p b) ++ (take unit (drop (block_at b + unit * k) r) ++ drop (unit * k) (contents unit p b))
gap-filled unit b k p q r inside less room opened o =
    let a = block_at b in
    let front = unit * k in
    let used = unit * entries p b in
    let rest = used - front in
    let fits : Measured unit (k + 1) (entries p b + 1) = measured unit (k + 1) (entries p b + 1) (entries p b + 1) refl (omega arith) room in
    let sum : unit * (entries p b + 1) ≡ front + (unit + rest) = omega arith in
    let was : contents unit p b ≡ take used (drop a p) = contents-is unit p b (entries p b) used refl refl in
    let short : length (take front (contents unit p b)) ≡ front =
    ap (λ (l : List ℕ). length (take front l)) was ∙ ap length (take-take front used (drop a p) (omega arith)) ∙ cut-length p a front (omega arith)
    in
    let gap : List ℕ = take unit (drop (a + front) q) in
    let start : List ℕ = take front (drop a q) in
    let start' : List ℕ = take front (contents unit p b) in
    let end : List ℕ = take rest (drop (a + front + unit) q) in
    let end' : List ℕ = drop front (contents unit p b) in
    let between : start ++ (gap ++ end) ≡ start' ++ (gap ++ end') =
    sym (cut-three q a front unit rest) ∙ sym (contents-is unit q b (entries p b + 1) (front + (unit + rest)) opened.many sum) ∙ opened.bytes
    in
    let here : length start ≡ front = cut-length q a front (omega (arith, opened.only.long)) in
    contents-is unit r b (entries p b + 1) (front + (unit + rest)) (word-behind o (a + count_at) (omega arith) ∙ opened.many) sum
    ∙ cut-three r a front unit rest
    ∙ ap₂ (λ (x y : List ℕ). x ++ (take unit (drop (a + front) r) ++ y))
    (cut-before o a front (omega arith) ∙ first-same start start' gap end end' front here short between)
    (cut-behind o (a + front + unit) rest (omega arith) ∙ last-same start start' gap end end' front here short between)
