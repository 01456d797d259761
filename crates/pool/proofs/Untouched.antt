-- A change that leaves a name's record and blocks alone leaves the name: what its record says, its tree, its blocks and that it is sound.
-- The record is equal, and the rest are the laws of trees at its root.
use mathlib.Core.Path.{◌≡◌, sym, ap, ◌∙◌}
use mathlib.Core.Bool.{cond}
use mathlib.Core.List.{List, []}
use mathlib.Core.Logic.{◌⊎◌, inl, inr, ⊎_elim}
use Prim.Native.Nat.{ℕ, ◌+◌, ◌<◌}
use native.Mathlib.Omega.{arith}
use lib.Dec.{eqb}
use Rattle.geometry.specs.Layout.{zero_at, kind_closed}
use Rattle.geometry.specs.Limits.{names}
use Rattle.geometry.specs.declared.Record.{Record}
use Rattle.lists.specs.Items.{All}
use Rattle.shape.specs.Fill.{root_least}
use Rattle.shape.specs.Nested.{marks_in}
use Rattle.shape.specs.Trees.{Tree}
use Rattle.pool.specs.Bytes.{record_at}
use Rattle.pool.specs.Changes.{SameBlock, Only}
use Rattle.pool.specs.Names.{record_of, tree_of, blocks_of}
use Rattle.pool.specs.Sound.{ClosedName, OpenName}
use Rattle.pool.specs.Trees.{shape_at, blocks_at}
use Rattle.pool.specs.Untouched.{SameBlocks, SameRecord, Untouched}
use Rattle.pool.proofs.SoundNames.{closed-blocks, open_blocks, open-readable}
use Rattle.pool.proofs.Written.{record_same}
use Rattle.pool.proofs.Trees.{blocks-root}
use Rattle.pool.proofs.TreesKept.{only_same, same_block, shape-kept, blocks-kept, below-kept}

-- a change of other blocks only
pub only-untouched : (These : ℕ → Type 0) (name : ℕ) (p p' : List ℕ) → name < names → Only These p p' → All (λ b. These b → ⊥) (blocks_of p name) → Untouched name p p'
only-untouched These name p p' low only none = record {
  long = only.long;
  entry = λ j l. only.directory (record_at name + j) (omega arith);
  held = only_same These p p' only (blocks_of p name) none;
}

module _ (name : ℕ) (p p' : List ℕ) (same : SameRecord name p p') where
  pub record-kept : record_of p' name ≡ record_of p name
  record-kept = record_same p p' name same

  pub closed-kept : ClosedName p name → ClosedName p' name
  closed-kept closed j l = same j l ∙ closed j l

-- An open name.
module _ (name : ℕ) (p p' : List ℕ) (kept : Untouched name p p') (open-name : OpenName p name) where
  same_blocks : SameBlocks (blocks_at p (record_of p name).height (record_of p name).root) p p'
  same_blocks = rw (open_blocks p name open-name) at kept.held

  shape-of-kept : shape_at p' (record_of p name).height (record_of p name).root ≡ shape_at p (record_of p name).height (record_of p name).root
  shape-of-kept = shape-kept p p' kept.long (record_of p name).height (record_of p name).root (open-readable p name open-name) same_blocks

  pub tree-kept : tree_of p' name ≡ tree_of p name
  tree-kept =
      ap {B = Tree} (λ (r : Record). record { height = r.height; root = shape_at p' r.height r.root }) (record-kept name p p' kept.entry)
      ∙ ap {B = Tree} (λ x. record { height = (record_of p name).height; root = x }) shape-of-kept

  pub open_kept : OpenName p' name
  open_kept =
      let same : record_of p' name ≡ record_of p name = record-kept name p p' kept.entry in
      let h : ℕ = (record_of p name).height in
      let b : ℕ = (record_of p name).root in
      record {
        entry = record {
          kind = rw same open-name.entry.kind;
          alphabet_least = rw same open-name.entry.alphabet_least;
          alphabet_most = rw same open-name.entry.alphabet_most;
          promise = rw same open-name.entry.promise;
          height = rw same open-name.entry.height;
          zero_byte = kept.entry zero_at (omega arith) ∙ open-name.entry.zero_byte;
          spare = λ j low l. kept.entry j l ∙ open-name.entry.spare j low l;
          room = rw same open-name.entry.room;
        };
        root = rw same (same_block p p' b (blocks-root p (λ x. SameBlock x p p') h b same_blocks) kept.long (root_least h) h open-name.root);
        below = rw same (below-kept p p' kept.long (record_of p name).alphabet h b (open-readable p name open-name) same_blocks open-name.below);
        length = rw same (open-name.length ∙ ap (marks_in h) (sym shape-of-kept));
      }

  blocks-of-kept : blocks_of p' name ≡ blocks_of p name
  unfolding blocks_of
  blocks-of-kept =
      ap (λ (r : Record). cond (eqb r.kind kind_closed) [] (blocks_at p' r.height r.root)) (record-kept name p p' kept.entry)
      ∙ ap (λ bs. cond (eqb (record_of p name).kind kind_closed) [] bs)
      (blocks-kept p p' kept.long (record_of p name).height (record_of p name).root (open-readable p name open-name) same_blocks)

-- Any name.
pub blocks-of-untouched : (name : ℕ) (p p' : List ℕ) → Untouched name p p' → ClosedName p name ⊎ OpenName p name → blocks_of p' name ≡ blocks_of p name
blocks-of-untouched name p p' kept either =
    ⊎_elim (λ closed. closed-blocks p' name (closed-kept name p p' kept.entry closed) ∙ sym (closed-blocks p name closed))
    (blocks-of-kept name p p' kept) either

pub name-untouched : (name : ℕ) (p p' : List ℕ) → Untouched name p p' → ClosedName p name ⊎ OpenName p name → ClosedName p' name ⊎ OpenName p' name
name-untouched name p p' kept either = ⊎_elim (λ closed. inl (closed-kept name p p' kept.entry closed)) (λ open-name. inr (open_kept name p p' kept open-name)) either
