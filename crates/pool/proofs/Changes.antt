-- What changes leave alone: one, or several one after the other, said of bytes, words and blocks.
use mathlib.Core.Path.{◌≡◌, refl, ◌∙◌}
use mathlib.Core.List.{List}
use mathlib.Core.Logic.{◌⊎◌, inl, inr}
use Prim.Native.Nat.{ℕ, ◌+◌, ◌≤◌, ◌<◌}
use native.Mathlib.Omega.{arith}
use lib.ListN.{take, drop}
use Rattle.geometry.specs.Layout.{word_size}
use Rattle.geometry.specs.Limits.{block_size, directory_size}
use Rattle.lists.proofs.Cuts.{cut-same}
use Rattle.shape.proofs.Choice.{by-leb}
use Rattle.pool.specs.Bytes.{word, block_at}
use Rattle.pool.specs.Changes.{Outside, SameBlock, Only}
use Rattle.pool.proofs.Words.{word_same, word-in-stretch}

-- a stretch of bytes

pub outside-none : (at many : ℕ) (p : List ℕ) → Outside at many p p
outside-none at many p = record { long = refl; low = λ j h. refl; high = λ j h. refl }

-- two changes in one stretch
pub outside-then : {at many : ℕ} {p q r : List ℕ} → Outside at many p q → Outside at many q r → Outside at many p r
outside-then f g =
    record {
      long = g.long ∙ f.long;
      low = λ j h. g.low j h ∙ f.low j h;
      high = λ j h. g.high j h ∙ f.high j h;
    }

-- a stretch within a longer one
pub outside_wider : {at many : ℕ} {p q : List ℕ} (a n : ℕ) → a ≤ at → at + many ≤ a + n → Outside at many p q → Outside a n p q
outside_wider a n front back o =
    record {
      long = o.long;
      low = λ j h. o.low j (omega arith);
      high = λ j h. o.high j (omega arith);
    }

module _ {at many : ℕ} {p q : List ℕ} (o : Outside at many p q) where
  pub word-before : (a : ℕ) → a + word_size ≤ at → word q a ≡ word p a
  word-before a h = word_same p q a a (o.low a (omega arith)) (o.low (a + 1) (omega arith))

  pub word-behind : (a : ℕ) → at + many ≤ a → word q a ≡ word p a
  word-behind a h = word_same p q a a (o.high a h) (o.high (a + 1) (omega arith))

  -- a stretch of bytes that ends before it, or starts behind it
  pub cut-before : (a n : ℕ) → a + n ≤ at → take n (drop a q) ≡ take n (drop a p)
  cut-before a n h = cut-same p q a n o.long (λ j below. o.low (a + j) (omega arith))

  pub cut-behind : (a n : ℕ) → at + many ≤ a → take n (drop a q) ≡ take n (drop a p)
  cut-behind a n h = cut-same p q a n o.long (λ j below. o.high (a + j) (omega arith))

  -- a block that ends before the stretch, or starts behind it
  pub block-before : (b : ℕ) → block_at b + block_size ≤ at → SameBlock b p q
  block-before b h j k = o.low (block_at b + j) (omega arith)

  pub block-behind : (b : ℕ) → at + many ≤ block_at b → SameBlock b p q
  block-behind b h j k = o.high (block_at b + j) (omega arith)

  -- a stretch of the directory
  pub directory-blocks : at + many ≤ directory_size → (b : ℕ) → SameBlock b p q
  directory-blocks h b = block-behind b (omega arith)

  -- a stretch of one block
  pub only-block : (b : ℕ) → block_at b ≤ at → at + many ≤ block_at b + block_size → Only (λ x. x ≡ b) p q
  only-block b front back =
      record {
        long = o.long;
        directory = λ j h. o.low j (omega arith);
        others = λ x other.
            by-leb {A = Unit {0}} (λ _. SameBlock x p q) x b tt tt
            (λ le. block-before x (omega arith))
            (λ (gt : b < x). block-behind x (omega arith));
      }

-- blocks

-- a word of a block that has the bytes that it had
pub word-in-block : (p q : List ℕ) (b i : ℕ) → SameBlock b p q → i + word_size ≤ block_size → word q (block_at b + i) ≡ word p (block_at b + i)
word-in-block p q b i same h = word-in-stretch p q (block_at b) block_size i same h

pub only_none : (These : ℕ → Type 0) (p : List ℕ) → Only These p p
only_none These p = record { long = refl; directory = λ j h. refl; others = λ b other j h. refl }

pub only_then : {These : ℕ → Type 0} {p q r : List ℕ} → Only These p q → Only These q r → Only These p r
only_then f g =
    record {
      long = g.long ∙ f.long;
      directory = λ j h. g.directory j h ∙ f.directory j h;
      others = λ b other j h. g.others b other j h ∙ f.others b other j h;
    }

pub only_wider : {These : ℕ → Type 0} {p q : List ℕ} (Those : ℕ → Type 0) → ((b : ℕ) → These b → Those b) → Only These p q → Only Those p q
only_wider Those all o =
    record {
      long = o.long;
      directory = o.directory;
      others = λ b other. o.others b (λ t. other (all b t));
    }

-- changes of these blocks and then of those
pub only-either : {These Those : ℕ → Type 0} {p q r : List ℕ} → Only These p q → Only Those q r → Only (λ b. These b ⊎ Those b) p r
only-either f g = only_then (only_wider _ (λ b t. inl t) f) (only_wider _ (λ b t. inr t) g)

module _ {These : ℕ → Type 0} {p q : List ℕ} (o : Only These p q) where
  pub word-other : (b i : ℕ) → (These b → ⊥) → i + word_size ≤ block_size → word q (block_at b + i) ≡ word p (block_at b + i)
  word-other b i other h = word-in-block p q b i (o.others b other) h
