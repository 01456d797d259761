-- `name_open_close::closing::free_holder` meets its contract. The loop's invariant: the holder's blocks that were passed are free.
use Rattle.name_open_close.proofs.HoldersFreed.{FreedBelow}
use Rattle.name_open_close.proofs.closing.free_holder.Given as goal

abbrev pub invariant-loop-held_by : goal.invariant-loop-held_by
invariant-loop-held_by l = FreedBelow l.holder l.held_by-index l.initial.map l.map
