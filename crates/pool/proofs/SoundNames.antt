-- What a sound pool says of its names: what the rules promise of blocks and depth, from the theory of the tree at the name's own tree;
-- and the free blocks, since no block is held twice.
use mathlib.Core.Path.{◌≡◌, ap, ◌∙◌}
use mathlib.Core.Bool.{cond}
use mathlib.Core.List.{List, []}
use mathlib.Core.Logic.{⊎_elim}
use Prim.Native.Nat.{ℕ, ◌+◌, ◌-◌, ◌*◌, ◌≤◌, ◌<◌}
use native.Mathlib.Omega.{arith}
use lib.Dec.{eqb, leb}
use lib.ListN.{length, length-append}
use borrow.Author.Tests.{ne_eqb}
use Rattle.geometry.specs.Layout.{kind_closed}
use Rattle.geometry.specs.Limits.{names, marks_per_share}
use Rattle.geometry.specs.declared.Record.{Record}
use Rattle.lists.proofs.Froms.{all_from, joined-from}
use Rattle.lists.proofs.Joins.{all-joined}
use Rattle.lists.proofs.Sums.{sum_below-add, sum_below-same, sum_below-ones, sum_below-one, sum_below-less}
use Rattle.lists.specs.Froms.{from}
use Rattle.lists.specs.Items.{AllBelow, All}
use Rattle.lists.specs.Sums.{sum_below}
use Rattle.sequence.specs.Definition1.{count}
use Rattle.sequence.proofs.Alphabets.{counts-add-up}
use Rattle.sequence.proofs.Edits.{length-insert}
use Rattle.sequence.proofs.Counts.{count-additive}
use Rattle.shape.specs.Blocks.{blocks_t, splits_t}
use Rattle.shape.specs.Fill.{FilledT, root_least}
use Rattle.shape.specs.Depth.{DepthRule}
use Rattle.shape.specs.Paths.{path, depth_t}
use Rattle.shape.specs.Sizes.{one_to_a_byte}
use Rattle.shape.specs.Trees.{Tree, marks_t, insert_t}
use Rattle.shape.proofs.Choice.{by-leb}
use Rattle.shape.proofs.Filled.{insert_t-filled}
use Rattle.shape.proofs.Instances.{one_to_a_byte-proper, blocks-in-shares, depth-keeps-rule}
use Rattle.shape.proofs.Marks.{insert_t-marks}
use Rattle.shape.proofs.Splits.{insert_t-blocks}
use Rattle.pool.specs.Bytes.{shares}
use Rattle.pool.specs.Names.{record_of, tree_of, path_of, blocks_of, held_blocks}
use Rattle.pool.specs.Shares.{free_blocks, promised_shares, unpromised_shares}
use Rattle.pool.specs.Sound.{ClosedName, OpenName, Distinct, Sound}
use Rattle.pool.specs.Trees.{shape_at, blocks_at}
use Rattle.pool.proofs.SoundTrees.{sound-filled, sound-marks, sound-readable, sound-inside}
use Rattle.pool.proofs.Ways.{Readable, length-entered}
use Rattle.pool.proofs.Written.{closed-record}
use Rattle.pool.proofs.Trees.{length-blocks_at}

-- Numbers below n, none twice.
module _ (n : ℕ) (xs : List ℕ) (distinct : Distinct xs) (below : AllBelow n xs) where
  -- those that stand in the list and those that don't are all
  missing-and-standing : sum_below n (λ b. cond (leb 1 (count b xs)) 0 1) + length xs ≡ n
  missing-and-standing =
      let misses : ℕ → ℕ = λ b. cond (leb 1 (count b xs)) 0 1 in
      let one : (b : ℕ) → misses b + count b xs ≡ 1
      = λ b. by-leb (λ z. z + count b xs ≡ 1) 1 (count b xs) 0 1 (λ h. omega (arith, distinct b)) (λ h. omega arith) in
      omega (arith, sum_below-add n misses (λ b. count b xs), sum_below-same n (λ b. misses b + count b xs) (λ b. 1) (λ b h. one b), sum_below-ones n, counts-add-up n xs below)

-- A closed name: all that its record says is 0, and it holds no block.
module _ (p : List ℕ) (name : ℕ) (closed : ClosedName p name) where
  pub closed-blocks : blocks_of p name ≡ []
  unfolding blocks_of
  closed-blocks = ap (λ (r : Record). cond (eqb r.kind kind_closed) [] (blocks_at p r.height r.root)) (closed-record p name closed)

-- An open name.
module _ (p : List ℕ) (name : ℕ) (open-name : OpenName p name) where
  pub open_blocks : blocks_of p name ≡ blocks_at p (record_of p name).height (record_of p name).root
  unfolding blocks_of
  open_blocks =
      ap (λ b. cond b [] (blocks_at p (record_of p name).height (record_of p name).root))
      (ne_eqb (record_of p name).kind kind_closed (λ (e : (record_of p name).kind ≡ kind_closed). omega (arith, open-name.entry.kind)))

  pub open-filled : FilledT one_to_a_byte (tree_of p name)
  open-filled = sound-filled p (record_of p name).alphabet (root_least (record_of p name).height) (record_of p name).height (record_of p name).root open-name.root open-name.below

  pub open-marks : AllBelow (record_of p name).alphabet (marks_t (tree_of p name))
  open-marks = sound-marks p (record_of p name).alphabet (record_of p name).height (record_of p name).root open-name.below

  pub open-readable : Readable p (record_of p name).height (record_of p name).root
  open-readable =
      sound-readable p (record_of p name).alphabet (root_least (record_of p name).height) (record_of p name).height (record_of p name).root (omega arith) open-name.root open-name.below

  -- as many blocks as nodes, and so at most q
  pub open-length-blocks : length (blocks_of p name) ≡ blocks_t (tree_of p name)
  open-length-blocks = ap length open_blocks ∙ length-blocks_at p (record_of p name).height (record_of p name).root

  pub open-blocks-most : length (blocks_of p name) ≤ (record_of p name).q
  open-blocks-most =
      omega (arith, open-length-blocks, blocks-in-shares (tree_of p name) open-filled (record_of p name).q open-name.entry.promise (omega (arith, open-name.length, open-name.entry.room)))

  pub open-inside : All (λ b. b < shares p) (blocks_of p name)
  open-inside =
      rw open_blocks
      (sound-inside p (record_of p name).alphabet (root_least (record_of p name).height) (record_of p name).height (record_of p name).root open-name.root open-name.below)

  -- the path in the pool is as long as the tree is deep there, and keeps to the depth rule
  pub open-depth : (i : ℕ) → length (path_of p name i) ≡ depth_t i (tree_of p name)
  open-depth i = length-entered p (record_of p name).root (path length (record_of p name).height i (shape_at p (record_of p name).height (record_of p name).root))

  pub open-depth-rule : (i : ℕ) → DepthRule (record_of p name).length (length (path_of p name i))
  open-depth-rule i = rw (open-depth i, open-name.length) (depth-keeps-rule (tree_of p name) open-filled i)

-- A sound pool.
module _ (p : List ℕ) (sound : Sound p) where
  by_name : (Q : ℕ → Type 0) (name : ℕ) → name < names → (ClosedName p name → Q name) → (OpenName p name → Q name) → Q name
  by_name Q name low closed opened = ⊎_elim closed opened (sound.each name low)

  pub name-blocks-most : (name : ℕ) → name < names → length (blocks_of p name) ≤ (record_of p name).q
  name-blocks-most name low =
      by_name (λ name. length (blocks_of p name) ≤ (record_of p name).q) name low (λ closed. rw (closed-blocks p name closed) (omega arith)) (open-blocks-most p name)

  pub held-inside : AllBelow (shares p) (held_blocks p)
  held-inside =
      all-joined (λ b. b < shares p) (blocks_of p) (from (λ name. name) 0 names)
      (all_from (λ name. AllBelow (shares p) (blocks_of p name)) (λ name. name) 0 names
      (λ name _ low. by_name (λ name. AllBelow (shares p) (blocks_of p name)) name (omega arith) (λ closed. rw (closed-blocks p name closed) tt) (open-inside p name)))

  pub free-blocks : free_blocks p ≡ unpromised_shares p + sum_below names (λ name. (record_of p name).q - length (blocks_of p name))
  unfolding free_blocks promised_shares
  free-blocks =
      omega (
        arith,
        missing-and-standing (shares p) (held_blocks p) sound.apart held-inside,
        sound.promised,
        joined-from length length-append (blocks_of p) (λ name. name) names,
        sum_below-less names (λ name. (record_of p name).q) (λ name. length (blocks_of p name)) name-blocks-most,
      )

  -- so what a name was promised and hasn't taken is free, whatever its neighbours hold
  pub name-room : (name : ℕ) → name < names → (record_of p name).q - length (blocks_of p name) ≤ free_blocks p
  name-room name low = omega (arith, free-blocks, sum_below-one names (λ name. (record_of p name).q - length (blocks_of p name)) name low)

  -- an insert into a name that isn't full finds the blocks that it adds
  pub insert-room : (name i : ℕ) → name < names → OpenName p name → (record_of p name).length < marks_per_share * (record_of p name).q
      → splits_t one_to_a_byte i (tree_of p name) ≤ free_blocks p
  insert-room name i low open-name room =
      let t : Tree = tree_of p name in
      let filled : FilledT one_to_a_byte t = open-filled p name open-name in
      let more : length (marks_t (insert_t one_to_a_byte 0 i t)) ≡ length (marks_t t) + 1 = ap length (insert_t-marks one_to_a_byte 0 i t) ∙ length-insert 0 i (marks_t t) in
      let within : blocks_t (insert_t one_to_a_byte 0 i t) ≤ (record_of p name).q
      = blocks-in-shares (insert_t one_to_a_byte 0 i t) (insert_t-filled one_to_a_byte one_to_a_byte-proper 0 i t filled) (record_of p name).q open-name.entry.promise (omega (arith, open-name.length)) in
      omega (arith, insert_t-blocks one_to_a_byte one_to_a_byte-proper 0 i t filled, open-length-blocks p name open-name, name-room name low)

  -- and so are the shares promised to none
  pub unpromised-free : unpromised_shares p ≤ free_blocks p
  unpromised-free = omega (arith, free-blocks)

  -- no block twice in one name, nor in two
  held-once : (b : ℕ) → sum_below names (λ name. count b (blocks_of p name)) ≤ 1
  held-once b = omega (arith, sound.apart b, joined-from (count b) (count-additive b) (blocks_of p) (λ name. name) names)

  pub name-distinct : (name : ℕ) → name < names → Distinct (blocks_of p name)
  name-distinct name low b = omega (arith, held-once b, sum_below-one names (λ name. count b (blocks_of p name)) name low)
