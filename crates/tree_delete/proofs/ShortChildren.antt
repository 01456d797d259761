-- A branch of which one child may be short. If it isn't, nothing is to do; if it is, it and its neighbour are mended, which is what the shape function does.
use mathlib.Core.Path.{◌≡◌, refl, sym, ap, ap₂, subst, ◌∙◌}
use mathlib.Core.List.{List, [], ◌∷◌, ◌++◌}
use mathlib.Core.Logic.{⊎_elim}
use Prim.Native.Nat.{ℕ, zero, suc, ◌+◌, ◌-◌, ◌≤◌, ◌<◌}
use native.Mathlib.Nat.{eq-zero-or-pos}
use native.Mathlib.Omega.{arith}
use lib.ListN.{length, take, drop, length-append}
use Rattle.lists.proofs.Cuts.{split-two}
use Rattle.lists.proofs.Froms.{all_from, take-from, drop-from}
use Rattle.lists.proofs.Mapped.{all-mapped}
use Rattle.lists.proofs.Sums.{sum_below-two}
use Rattle.lists.specs.Froms.{from}
use Rattle.lists.specs.Items.{All}
use Rattle.sequence.proofs.Counts.{is_mark-cases}
use Rattle.shape.proofs.Filled.{least-two}
use Rattle.shape.proofs.Instances.{one_to_a_byte-proper}
use Rattle.shape.proofs.Mend.{mend-none, mend-first, mend-left}
use Rattle.shape.specs.Level.{mend}
use Rattle.shape.specs.Nested.{Node, marks_in}
use Rattle.shape.specs.Sizes.{one_to_a_byte, least, most}
use Rattle.pool.specs.Blocks.{entries, link}
use Rattle.pool.specs.Sound.{SoundBlock, Tells}
use Rattle.pool.specs.Trees.{shape_at}
use Rattle.pool.proofs.Blocks.{length-leaf}
use Rattle.pool.proofs.Changes.{only_none}
use Rattle.pool.proofs.Trees.{length-shape, child-shape, shape-before, told-all}
use Rattle.pool_blocks.proofs.Branches.{entry-link, entry-below, entry-count}
use Rattle.pool_blocks.specs.Contents.{link_in, entry_bytes, entry_list}
use Rattle.pool_entries.specs.Summaries.{Is}
use Rattle.pool_holders.proofs.Frees.{freed-none}
use Rattle.tree_splits.proofs.SoundBlocks.{block-least}
use Rattle.tree_splits.specs.Entries.{TrueEntry, SoundChild}
use Rattle.tree_delete.specs.Mends.{SoundPart, AllGood, PairReady, pair_shape, PairMended, ShortReady, Mended}

-- a node's entries are its shape's
pub node-length : (p : List ℕ) (fewest h x : ℕ) → SoundBlock p fewest h x → length (shape_at p h x) ≡ entries p x
node-length p fewest zero x block = length-leaf p x fewest block
node-length p fewest (suc h) x block = length-shape p h x

pub fewer : (p : List ℕ) (many few h x : ℕ) → few ≤ many → SoundPart p many h x → SoundPart p few h x
fewer p many few h x low sound = (block-least (omega (arith, sound.0.enough)) sound.0, sound.1)

-- every child of a branch of which one may be short
pub each_part : (p : List ℕ) (h b k : ℕ) → SoundPart p (least one_to_a_byte h - 1) h (link p b k)
    → ((j : ℕ) → j < entries p b → (j ≡ k → ⊥) → SoundChild p h (link p b j) × Tells p h b j)
    → (j : ℕ) → j < entries p b → SoundPart p (least one_to_a_byte h - 1) h (link p b j)
each_part p h b k child others j inside =
    ⊎_elim (λ w. rw w.0 child) (λ w. fewer p (least one_to_a_byte h) (least one_to_a_byte h - 1) h (link p b j) (omega arith) (others j inside w.0).0) (is_mark-cases k j)

-- an entry that tells its child's marks is a true one
tells-true : (p : List ℕ) (h b j : ℕ) → SoundChild p h (link p b j) × Tells p h b j → SoundChild p h (link_in (entry_bytes p b j)) × TrueEntry p h (entry_bytes p b j)
tells-true p h b j good = (
  rw (entry-link p b j) good.0,
  record {
    marks = rw (entry-link p b j) (entry-below p b j ∙ good.1.marks);
    counts = λ c inside. rw (entry-link p b j) (entry-count p b j c inside ∙ good.1.counts c inside);
  },
)

module _ (p m : List ℕ) (h b k : ℕ) (ready : ShortReady p m h b k) where
  two : 2 ≤ least one_to_a_byte h
  two = least-two one_to_a_byte one_to_a_byte-proper h

  some_good : (j many : ℕ) → j + many ≤ entries p b → ((i : ℕ) → j ≤ i → i < j + many → i ≡ k → ⊥) → AllGood p h (from (entry_bytes p b) j many)
  some_good j many fits other =
      all_from (λ e. SoundChild p h (link_in e) × TrueEntry p h e) (entry_bytes p b) j many
      (λ i front back. tells-true p h b i (ready.others i (omega arith) (other i front back)))

  -- child k and a neighbour can be mended
  pub pair-ready : (j : ℕ) → suc j < entries p b → j ≤ k → k ≤ suc j → PairReady p m h b j
  unfolding entry_list
  pair-ready j inside front back =
      let next : suc j ≡ j + 1 = omega arith in
      let left = each_part p h b k ready.child ready.others j (omega arith) in
      let right : SoundPart p (least one_to_a_byte h - 1) h (link p b (j + 1)) = each_part p h b k ready.child ready.others (j + 1) (omega arith) in
      let below : ℕ → ℕ = λ i. marks_in h (shape_at p h (link p b i)) in
      record {
        map = ready.map;
        block = ready.block;
        place = omega arith;
        before = rw (take-from (entry_bytes p b) (entries p b) j (omega arith)) (some_good 0 j (omega arith) (λ i l u (e : i ≡ k). omega arith));
        behind =
            rw (drop-from (entry_bytes p b) (entries p b) (suc (suc j)) (omega arith))
            (some_good (suc (suc j)) (entries p b - suc (suc j)) (omega arith) (λ i l u (e : i ≡ k). omega arith));
        left = fewer p _ 1 h (link p b j) (omega (arith, two)) left;
        right = fewer p _ 1 h (link p b (j + 1)) (omega (arith, two)) right;
        enough = omega (arith, two, left.0.enough, right.0.enough);
        agrees = ready.agrees;
        short =
            omega (
              arith,
              sum_below-two (entries p b) below j (j + 1) (omega arith) (omega arith) (λ (e : j ≡ j + 1). omega arith),
              told-all p h b length length-append below (λ i l. refl),
              ready.short,
            );
      }

  -- the shape around two neighbours
  around : (j : ℕ) → suc j < entries p b
      → shape_at p (suc h) b ≡ take j (shape_at p (suc h) b) ++ shape_at p h (link p b j) ∷ shape_at p h (link p b (j + 1)) ∷ drop (suc (suc j)) (shape_at p (suc h) b)
  around j inside =
      let s : Node (suc h) = shape_at p (suc h) b in
      let next : suc j ≡ j + 1 = omega arith in
      split-two [] s j (omega (arith, length-shape p h b))
      ∙ ap₂ (λ (x y : Node h). take j s ++ x ∷ y ∷ drop (suc (suc j)) s) (child-shape p h b j (omega arith))
      (child-shape p h b (suc j) inside ∙ ap (λ (i : ℕ). shape_at p h (link p b i)) next)

  long-enough : (j : ℕ) → j < entries p b → (j ≡ k → ⊥) → least one_to_a_byte h ≤ length (shape_at p h (link p b j))
  long-enough j inside other =
      let good = (ready.others j inside other).0.0 in
      omega (arith, node-length p _ h (link p b j) good, good.enough)

  short-length : entries p (link p b k) < least one_to_a_byte h → length (shape_at p h (link p b k)) < least one_to_a_byte h
  short-length less = omega (arith, node-length p _ h (link p b k) ready.child.0)

  -- nothing is to do
  pub child-stays : least one_to_a_byte h ≤ entries p (link p b k) → Mended h b p p m m
  child-stays enough =
      let each : (j : ℕ) → j < entries p b → SoundChild p h (link p b j) × Tells p h b j
      = λ j inside.
      ⊎_elim
      (λ w. rw w.0 ((block-least enough ready.child.0, ready.child.1), ready.told))
      (λ w. ready.others j inside w.0) (is_mark-cases k j) in
      record {
        shape =
            sym (mend-none (least one_to_a_byte h) (most one_to_a_byte h) (shape_at p (suc h) b)
            (all-mapped (λ z. least one_to_a_byte h ≤ length z) (shape_at p h) (from (link p b) 0 (entries p b))
            (all_from (λ x. least one_to_a_byte h ≤ length (shape_at p h x)) (link p b) 0 (entries p b)
            (λ j l u. let good = (each j (omega arith)).0.0 in omega (arith, node-length p _ h (link p b j) good, good.enough)))));
        block = block-least (omega arith) ready.block;
        below = λ j inside. ((each j inside).0.0, (each j inside).0.1, (each j inside).1);
        blocks = λ x. refl;
        only = only_none _ p;
        freed = freed-none m;
      }

  module _ (q n : List ℕ) (less : entries p (link p b k) < least one_to_a_byte h) where
    -- the first child is short
    mended-first : k ≡ 0 → PairMended h b 0 p q m n → Mended h b p q m n
    mended-first e mended =
        let s : Node (suc h) = shape_at p (suc h) b in
        let short : length (shape_at p h (link p b 0)) < least one_to_a_byte h = rw e at (short-length less) in
        let is : mend (least one_to_a_byte h) (most one_to_a_byte h) s ≡ pair_shape p h b 0 =
        ap (mend (least one_to_a_byte h) (most one_to_a_byte h)) (around 0 (omega (arith, ready.block.enough)))
        ∙ mend-first (least one_to_a_byte h) (most one_to_a_byte h) (shape_at p h (link p b 0)) (shape_at p h (link p b (0 + 1))) (drop 2 s) short in
        record { shape = mended.shape ∙ sym is; block = mended.block; below = mended.below; blocks = mended.blocks; only = mended.only; freed = mended.freed }

    -- a child with a left neighbour is short
    mended-left : (k ≡ 0 → ⊥) → PairMended h b (k - 1) p q m n → Mended h b p q m n
    mended-left some mended =
        let s : Node (suc h) = shape_at p (suc h) b in
        let j : ℕ = k - 1 in
        let next : j + 1 ≡ k = omega arith in
        let inside : suc j < entries p b = omega (arith, ready.place) in
        let short : length (shape_at p h (link p b (j + 1))) < least one_to_a_byte h = rw next (short-length less) in
        let front : All (λ z. least one_to_a_byte h ≤ length z) (take j s) =
        rw (shape-before p h b j (omega arith))
        (all-mapped (λ z. least one_to_a_byte h ≤ length z) (shape_at p h) (from (link p b) 0 j)
        (all_from (λ x. least one_to_a_byte h ≤ length (shape_at p h x)) (link p b) 0 j (λ i l u. long-enough i (omega arith) (λ (e : i ≡ k). omega arith)))) in
        let is : mend (least one_to_a_byte h) (most one_to_a_byte h) s ≡ pair_shape p h b j =
        ap (mend (least one_to_a_byte h) (most one_to_a_byte h)) (around j inside)
        ∙ mend-left (least one_to_a_byte h) (most one_to_a_byte h) (take j s) (shape_at p h (link p b j)) (shape_at p h (link p b (j + 1))) (drop (suc (suc j)) s) front
        (long-enough j (omega arith) (λ (e : j ≡ k). omega arith)) short in
        record { shape = mended.shape ∙ sym is; block = mended.block; below = mended.below; blocks = mended.blocks; only = mended.only; freed = mended.freed }

  -- with its left neighbour if it has one, else with its right one
  pub neighbour-ready : PairReady p m h b (k - 1)
  neighbour-ready = pair-ready (k - 1) (omega (arith, ready.place, ready.block.enough)) (omega arith) (omega arith)

  -- the same by what the code reads: the child, its entries, and how many it has at least
  module _ (child many few : ℕ) (at : Is (link p b k) child) (size : Is (entries p child) many) (lowest : few ≡ least one_to_a_byte h) where
    counted : many ≡ entries p (link p b k)
    counted = size.is ∙ ap (entries p) at.is

    pub neighbour-mended : (q n : List ℕ) → many < few → PairMended h b (k - 1) p q m n → Mended h b p q m n
    neighbour-mended q n less mended =
        let short : entries p (link p b k) < least one_to_a_byte h = omega (arith, counted) in
        ⊎_elim
        (λ (e : k ≡ 0).
        let first : k - 1 ≡ 0 = omega arith in
        mended-first q n short e (subst (λ (j : ℕ). PairMended h b j p q m n) first mended))
        (λ (some : 0 < k). mended-left q n short (λ (e : k ≡ 0). omega arith) mended) (eq-zero-or-pos k)

    pub stays-mended : few ≤ many → Mended h b p p m m
    stays-mended enough = child-stays (omega (arith, counted))
