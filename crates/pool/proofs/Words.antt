-- Words and the two bytes that make them.
use mathlib.Core.Path.{◌≡◌, ap₂}
use mathlib.Core.List.{List}
use Prim.Native.Nat.{ℕ, ◌+◌, ◌*◌, ◌≤◌, ◌<◌}
use native.Mathlib.Omega.{arith}
use lib.ListN.{take, drop}
use Rattle.geometry.specs.Layout.{word_size}
use Rattle.lists.proofs.Cuts.{cut-get_or}
use Rattle.pool.specs.Bytes.{byte, word}

-- two words of the same two bytes are the same
pub word_same : (p q : List ℕ) (a b : ℕ) → byte q b ≡ byte p a → byte q (b + 1) ≡ byte p (a + 1) → word q b ≡ word p a
unfolding word
word_same p q a b low high = ap₂ (λ (x y : ℕ). x + 256 * y) low high

-- a word within a stretch of the same bytes
pub word-in-stretch : (p q : List ℕ) (a many i : ℕ) → ((j : ℕ) → j < many → byte q (a + j) ≡ byte p (a + j)) → i + word_size ≤ many
    → word q (a + i) ≡ word p (a + i)
word-in-stretch p q a many i same h =
    let next : a + i + 1 ≡ a + (i + 1) = omega arith in
    word_same p q (a + i) (a + i) (same i (omega arith)) (rw next (same (i + 1) (omega arith)))

-- a word is 0 just where its bytes are
pub word-zero : (p : List ℕ) (a i : ℕ) → byte p (a + i) ≡ 0 → byte p (a + (i + 1)) ≡ 0 → word p (a + i) ≡ 0
unfolding word
word-zero p a i low high = let next : a + i + 1 ≡ a + (i + 1) = omega arith in rw next (omega arith)

pub low-zero : (p : List ℕ) (a i : ℕ) → word p (a + i) ≡ 0 → byte p (a + i) ≡ 0
unfolding word
low-zero p a i none = omega arith

pub high_zero : (p : List ℕ) (a i : ℕ) → word p (a + i) ≡ 0 → byte p (a + (i + 1)) ≡ 0
unfolding word
high_zero p a i none = let next : a + (i + 1) ≡ a + i + 1 = omega arith in rw next (omega arith)

-- a word of a stretch
pub cut_word : (p : List ℕ) (a n i : ℕ) → i + word_size ≤ n → word (take n (drop a p)) i ≡ word p (a + i)
cut_word p a n i h =
    let next : a + i + 1 ≡ a + (i + 1) = omega arith in
    word_same p (take n (drop a p)) (a + i) i (cut-get_or p a n i (omega arith)) (rw next (cut-get_or p a n (i + 1) (omega arith)))
