-- An open name, by the record that was read: the kind tells that it is open, its tree can be asked, and the mark found has its depth.
use mathlib.Core.Path.{◌≡◌, ap, ◌∙◌}
use mathlib.Core.List.{List}
use mathlib.Core.Logic.{⊎_elim}
use Prim.Native.Nat.{ℕ, ◌<◌}
use native.Mathlib.Omega.{arith}
use lib.ListN.{length}
use Rattle.geometry.specs.Layout.{kind_closed}
use Rattle.geometry.specs.Limits.{names}
use Rattle.geometry.specs.declared.Record.{Record}
use Rattle.pool.specs.Names.{record_of, path_of}
use Rattle.pool.specs.Sound.{ClosedName, OpenName, Sound}
use Rattle.pool.proofs.SoundNames.{open-depth, open-depth-rule}
use Rattle.pool.proofs.Written.{closed-record}
use Rattle.shape.specs.Trees.{marks_t}
use Rattle.tree_query.specs.Answers.{FoundIn, FoundOf}
use Rattle.tree_query.specs.Good.{Good}
use Rattle.tree_query.specs.Records.{OfOpenName, tree_by}
use Rattle.tree_query.proofs.Trees.{open-good}

-- a name of a sound pool whose record says another kind than that of a closed one is open
pub open-by-kind : (p : List ℕ) (name : ℕ) (r : Record) → Sound p → name < names → r ≡ record_of p name → (r.kind ≡ kind_closed → ⊥) → OpenName p name
open-by-kind p name r sound low is other =
    ⊎_elim
    (λ (closed : ClosedName p name). absurd (other (ap (λ (r : Record). r.kind) is ∙ ap (λ (r : Record). r.kind) (closed-record p name closed))))
    (λ (opened : OpenName p name). opened)
    (sound.each name low)

pub open-record : (p : List ℕ) (name : ℕ) (r : Record) → OpenName p name → r ≡ record_of p name → OfOpenName p r
open-record p name r opened is = record { name = name; opened = opened; is = is }

module _ (p : List ℕ) (r : Record) (o : OfOpenName p r) where
  pub record-good : Good p r.height r.root
  record-good = rw o.is (open-good p o.name o.opened)

  -- how many marks it has
  pub record-length : r.length ≡ length (marks_t (tree_by p r))
  record-length = rw o.is o.opened.length

  -- the mark that its root's block finds; the depth is that of its tree, and keeps to RULES, Depth
  pub record-found : (i mark blocks : ℕ) → FoundIn p r.height r.root i mark 0 blocks → FoundOf p r i (record { mark = mark; blocks = blocks })
  record-found i mark blocks = rw o.is found
    where
      found : FoundIn p (record_of p o.name).height (record_of p o.name).root i mark 0 blocks
          → FoundOf p (record_of p o.name) i (record { mark = mark; blocks = blocks })
      found here =
          let path : blocks ≡ length (path_of p o.name i) = omega (arith, here.blocks) in
          record {
            mark = here.is;
            path = path;
            depth = path ∙ open-depth p o.name o.opened i;
            rule = rw (path, ← o.opened.length) (open-depth-rule p o.name o.opened i);
          }
