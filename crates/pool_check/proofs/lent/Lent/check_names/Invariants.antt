-- `pool_check::lent::Lent::check_names` meets its contract. The loop's invariant: the names passed were walked in turn.
use mathlib.Core.Bool.{true}
use Rattle.pool_check.specs.Walks.{WalkedNames}
use Rattle.pool_check.specs.Parts.{SoundName}
use Rattle.pool_check.proofs.lent.Lent.check_names.Given as goal

abbrev pub invariant-loop-name : goal.invariant-loop-name
invariant-loop-name l = WalkedNames true (SoundName l.self.bytes.now) l.self.bytes.now l.name l.initial.map l.map
