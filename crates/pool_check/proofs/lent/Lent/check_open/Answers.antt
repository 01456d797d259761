-- `pool_check::lent::Lent::check_open` meets its contract: where the record and the tree pass, its length decides.
use mathlib.Core.Bool.{true}
use mathlib.Core.Path.{◌≡◌}
use native.Mathlib.Omega.{arith}
use Rattle.pool_check.proofs.Naming.{root-measured}
use Rattle.pool_check.proofs.lent.Lent.check_open.Goals as goal
use Rattle.pool_check.proofs.lent.Lent.check_open.Goals.{then-check_block, else-check_block}

pub returns-then-root_fits : goal.returns-then-root_fits
returns-then-root_fits c =
    elim c.if-check_block.branch [
      | then-check_block w ↦
          let fit : w.root_fits.result ≡ true = cc in
          let height : c.from-height.result ≡ c.args.found.height = grind arith in
          let root : c.from-root.result ≡ c.args.found.root = grind arith in
          let length : c.from.result ≡ c.args.found.length = grind arith in
          search root-measured
      | else-check_block w ↦ absurd cc
    ]
