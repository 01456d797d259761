-- What the queries ask of a name, from what the program has tested.
use mathlib.Core.Path.{◌≡◌}
use mathlib.Core.List.{List}
use Prim.Native.Nat.{ℕ, ◌≤◌, ◌<◌}
use native.Mathlib.Omega.{arith}
use Rattle.geometry.specs.Layout.{kind_closed}
use Rattle.geometry.specs.Limits.{names}
use Rattle.geometry.specs.declared.Record.{Record}
use Rattle.pool.specs.Names.{record_of}
use Rattle.pool.specs.Sound.{Sound}
use Rattle.sequence.specs.Definition1.{count, rank}
use Rattle.sequence.proofs.Ranks.{rank-le-count}
use Rattle.tree_query.proofs.Records.{open-by-kind, open-record}
use Rattle.tree_query.specs.Records.{OfOpenName}

-- the record of an open name
pub sound-open : (p : List ℕ) (name : ℕ) (r : Record) → Sound p → name < names → r ≡ record_of p name → (r.kind ≡ kind_closed → ⊥) → OfOpenName p r
sound-open p name r sound low is other = open-record p name r (open-by-kind p name r sound low is other) is

-- so many as the rank is at a place can be selected
pub rank-in-count : (c : ℕ) (xs : List ℕ) (i met r : ℕ) → r ≡ rank c xs i → r ≡ met → met ≤ count c xs
rank-in-count c xs i met r is same = omega (arith, rank-le-count c xs i)
