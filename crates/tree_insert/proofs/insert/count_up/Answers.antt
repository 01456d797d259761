use Rattle.std.proofs.Common.{◌≡◌, ◌+◌, add-zero, arith}
use Rattle.tree_insert.proofs.WaysUp.{counted_start, above-low, above-is, count-ready, next-counted}
use Rattle.tree_insert.proofs.insert.count_up.Goals as goal

pub loop-step-init : goal.loop-step-init
loop-step-init c = rw add-zero (counted_start _ _ _ _ _ c.requires.start)

pub add_mark-requires : goal.add_mark-requires
add_mark-requires c =
    let test = c.loop-step-test.true in
    let ready = count-ready _ _ _ _ _ _ _ c.loop-step.invariant (above-low c.args.way.now _ _ _ test) _ (above-is c.args.way.now _ _ _ test) in
    record { inside = ready.0; room = ready.1 }

pub loop-step-preserved : goal.loop-step-preserved
loop-step-preserved c =
    let test = c.loop-step-test.true in
    let e : c.args.from + (c.loop-step.step-index + 1) ≡ c.args.from + c.loop-step.step-index + 1 = omega arith in
    rw e (next-counted _ _ _ _ _ _ _ c.loop-step.invariant (above-low c.args.way.now _ _ _ test) _ (above-is c.args.way.now _ _ _ test) _ c.add_mark.ensures)
