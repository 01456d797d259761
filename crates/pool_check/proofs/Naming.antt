-- One name: closed, its record is zeros and it holds no block; open, its record is in order, its tree is walked, and its length is what the root says.
use mathlib.Core.Bool.{Bool, true, false, cond}
use mathlib.Core.List.{List, []}
use mathlib.Core.Logic.{inl, inr, ⊎_elim}
use mathlib.Core.Path.{◌≡◌, refl, sym, ap, ◌∙◌}
use Prim.Native.Nat.{ℕ, ◌+◌}
use native.Mathlib.Omega.{arith}
use lib.Dec.{eqb}
use borrow.Author.Tests.{eq-eqb, ne_eqb}
use Rattle.geometry.specs.Layout.{record_size, kind_closed, q_at}
use Rattle.geometry.specs.declared.Record.{Record}
use Rattle.lists.proofs.Sums.{sum_more}
use Rattle.lists.specs.Sums.{sum_below}
use Rattle.pool.specs.Bytes.{record_at}
use Rattle.pool.specs.Names.{record_of, blocks_of}
use Rattle.pool.specs.Sound.{SoundBelow, OpenName, OpenRecord}
use Rattle.pool.specs.Trees.{blocks_at, own_marks}
use Rattle.pool.specs.Words.{WordAt}
use Rattle.pool.proofs.Summaries.{own-marks}
use Rattle.shape.specs.Fill.{root_least}
use Rattle.pool_check.specs.Walks.{Walked}
use Rattle.pool_check.specs.Parts.{Zeros, MarksFit, WalkedTree, SoundName}
use Rattle.pool.proofs.Written.{closed-record}
use Rattle.pool_check.specs.Says.{Says}
use Rattle.pool_check.proofs.Deciding.{denied, say-same, say-equal}
use Rattle.pool_check.proofs.Walking.{below_of, under_of}
use Rattle.pool_check.proofs.Walks.{walk_no, walk_same, walk-test}

-- The tree of an open name.
module _ (p : List ℕ) (name : ℕ) where
  abbrev Root : Type 0
  Root = WalkedTree p (record_of p name).alphabet (root_least (record_of p name).height) (record_of p name).height (record_of p name).root

  abbrev root_blocks : List ℕ
  root_blocks = blocks_at p (record_of p name).height (record_of p name).root

  root-of : OpenName p name → Root
  root-of o = (o.root, under_of p (record_of p name).alphabet (record_of p name).height (record_of p name).root o.below)

  abbrev Fit : Type 0
  Fit = MarksFit p (record_of p name).alphabet (record_of p name).height (record_of p name).root

  below : Root → Fit → SoundBelow p (record_of p name).alphabet (record_of p name).height (record_of p name).root
  below tree fit = below_of p (record_of p name).alphabet (record_of p name).height (record_of p name).root tree.1 fit

  -- the length is what the root says of itself
  whole : OpenRecord p name → Root → Fit → (record_of p name).length ≡ own_marks p (record_of p name).height (record_of p name).root → OpenName p name
  whole o tree fit long = record {
    entry = o;
    root = tree.0;
    below = below tree fit;
    length = long
        ∙ own-marks p (record_of p name).alphabet (root_least (record_of p name).height) (record_of p name).height (record_of p name).root tree.0 (below tree fit);
  }

  long_of : OpenName p name → (record_of p name).length ≡ own_marks p (record_of p name).height (record_of p name).root
  long_of o =
      o.length
      ∙ sym (own-marks p (record_of p name).alphabet (root_least (record_of p name).height) (record_of p name).height (record_of p name).root o.root o.below)

  module _ (tag : ℕ) (map after : List ℕ) (r : Bool) (walked : Walked r Root tag root_blocks map after) where
    refused : r ≡ false → Walked false (OpenName p name) tag root_blocks map after
    refused failed = walk_no tag root_blocks map after (λ o new. denied walked.says failed (root-of o, new))

    module _ (f : Bool) (fitted : Says f Fit) where
      measured : (own : ℕ) → OpenRecord p name → r ≡ true → f ≡ true → own ≡ own_marks p (record_of p name).height (record_of p name).root
          → Walked (eqb own (record_of p name).length) (OpenName p name) tag root_blocks map after
      measured own o passed fit summed =
          walk_same tag root_blocks map after (λ g. whole o g.0 (fitted.sound fit) g.1) (λ n. (root-of n, long_of n))
          (walk-test tag root_blocks map after passed walked (say-equal own (record_of p name).length) (λ tree e. sym e ∙ summed) (λ tree e. summed ∙ sym e))

-- the same as the code has it: what it reads of the record, and the holder, in locals
module _ (p : List ℕ) (name tag holder fewest height root long : ℕ) (found : Record) (is : found ≡ record_of p name) (few : fewest ≡ root_least height)
    (held : holder ≡ tag) (high : height ≡ found.height) (at : root ≡ found.root) (so : long ≡ found.length) (map after : List ℕ) (r : Bool)
    (walked : Walked r (WalkedTree p found.alphabet fewest height root) holder (blocks_at p height root) map after) where
  there : Walked r (Root p name) tag (root_blocks p name) map after
  there = rw (few, held, high, at, is) at walked

  module _ (f : Bool) (fitted : Says f (MarksFit p found.alphabet height root)) where
    pub root-measured : (s : Bool) (own : ℕ) → Says s (OpenRecord p name) → s ≡ true → r ≡ true → f ≡ true → own ≡ own_marks p height root
        → Walked (eqb own long) (OpenName p name) tag (blocks_at p found.height found.root) map after
    root-measured s own says opened passed fit summed =
        rw (so, is)
        (measured p name tag map after r there f (rw (high, at, is) at fitted) own (says.sound opened) passed fit (rw (high, at, is) at summed))

-- A name, by its kind.
module _ (p : List ℕ) (name : ℕ) (found : Record) (is : found ≡ record_of p name) where
  no_blocks : found.kind ≡ kind_closed → blocks_of p name ≡ []
  unfolding blocks_of
  no_blocks closed =
      ap (λ b. cond b [] (blocks_at p (record_of p name).height (record_of p name).root))
      (eq-eqb (record_of p name).kind kind_closed (rw is at closed))

  tree-blocks : (found.kind ≡ kind_closed → ⊥) → blocks_of p name ≡ blocks_at p found.height found.root
  unfolding blocks_of
  tree-blocks opened =
      ap (λ b. cond b [] (blocks_at p (record_of p name).height (record_of p name).root))
      (ne_eqb (record_of p name).kind kind_closed (rw is at opened))
      ∙ ap (λ (r : Record). blocks_at p r.height r.root) (sym is)

  pub closed-walked : (tag at : ℕ) (map : List ℕ) (r : Bool) → at ≡ record_at name → found.kind ≡ kind_closed → Says r (Zeros p at record_size)
      → Walked r (SoundName p name) tag (blocks_of p name) map map
  closed-walked tag at map r place closed zeros =
      let kind : (record_of p name).kind ≡ kind_closed = rw is at closed in
      rw (no_blocks closed) (record {
        says = say-same (λ z. (inl z, tt)) (λ g. ⊎_elim (λ c. c) (λ o. absurd (omega (arith, o.entry.kind))) g.0) (rw place at zeros);
        met = λ e. refl;
      })

  pub open-walked : (tag : ℕ) (map after : List ℕ) (r : Bool) → (found.kind ≡ kind_closed → ⊥)
      → Walked r (OpenName p name) tag (blocks_at p found.height found.root) map after
      → Walked r (SoundName p name) tag (blocks_of p name) map after
  open-walked tag map after r opened walked =
      let kind : (record_of p name).kind ≡ kind_closed → ⊥ = rw is at opened in
      rw (tree-blocks opened)
      (walk_same tag (blocks_at p found.height found.root) map after (λ o. inr o)
      (λ n. ⊎_elim (λ c. absurd (kind (ap (λ (r : Record). r.kind) (closed-record p name c)))) (λ o. o) n) walked)

-- The shares promised to one name more.
pub promise-more : (p : List ℕ) (name at sum q : ℕ) → at ≡ record_at name → sum ≡ sum_below name (λ n. (record_of p n).q) → WordAt p (at + q_at) q
    → sum + q ≡ sum_below (name + 1) (λ n. (record_of p n).q)
unfolding record_of
promise-more p name at sum q place so read = sum_more (λ n. (record_of p n).q) name sum q so (rw place at read.is)
