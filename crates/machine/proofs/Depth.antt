-- The depth in an answer: a successful access tells its place's own, every other answer none.
use mathlib.Core.List.{List, [], ◌∷◌}
use mathlib.Core.Logic.{◌≢◌}
use mathlib.Core.Path.{◌≡◌, refl, sym, ap, subst, ◌∙◌}
use Prim.Native.Nat.{ℕ, zero, suc, ◌≤◌}
use native.Mathlib.Omega.{arith}
use lib.ListN.{get_or}
use Rattle.geometry.specs.Limits.{most_shares}
use Rattle.protocol.proofs.Respond.{accepted-reply, respond-answer, respond-status}
use Rattle.protocol.proofs.Commands.{by_row}
use Rattle.protocol.specs.Commands.{Effect, depth_of, rows, row_for, access_code}
use Rattle.protocol.specs.Refusals.{status_of}
use Rattle.protocol.specs.Respond.{reply_of, reply, respond}
use Rattle.protocol.specs.State.{Part, State, closed, opened, part_of, shares_of, promised, unpromised}
use Rattle.protocol.specs.Valid.{Valid, ValidPart}
use Rattle.protocol.specs.declared.Command.{Command}
use Rattle.shape.proofs.Height.{depth-height}
use Rattle.shape.proofs.Instances.{depth-keeps-rule, height-in-pool}
use Rattle.shape.specs.Paths.{depth_t}
use Rattle.shape.specs.Trees.{Tree}
use Rattle.machine.specs.Depth.{DepthTold, AccessTellsDepth, OthersTellNoDepth}
use Rattle.machine.specs.Machine.{trees, FilledPart, FilledState}

-- a name's shares are among those promised
shares-are-promised : (parts : List (Part Tree)) (name : ℕ) → shares_of (get_or parts name closed) ≤ promised parts
shares-are-promised [] name = omega arith
shares-are-promised (p ∷ ps) zero = omega arith
shares-are-promised (p ∷ ps) (suc name) = omega (arith, shares-are-promised ps name)

-- the depth of a place of a filled tree within the largest pool
depth-is-told : (alphabet q : ℕ) (tree : Tree) (place : ℕ) → FilledPart (opened alphabet q tree) → ValidPart trees (opened alphabet q tree)
    → q ≤ most_shares → DepthTold tree place (depth_t place tree)
depth-is-told alphabet q tree place filled valid few =
    let height = height-in-pool tree filled (omega arith) in
    record {
      own = refl;
      rule = depth-keeps-rule tree filled place;
      high = omega (arith, depth-height place tree);
      fits = omega (arith, depth-height place tree);
    }

access-reply : (free : ℕ) (part : Part Tree) (c : Command) → c.code ≡ access_code → status_of trees free part c ≡ 0
    → (reply trees free part c).answer.depth ≡ depth_of trees part c.number
unfolding rows
access-reply free part c is accepted = rw (accepted-reply trees free part c accepted, is)

-- in a valid state with filled trees, within the largest pool
pub access-tells-depth : (s : State Tree) (c : Command) → Valid trees s → FilledState s → s.shares ≤ most_shares → AccessTellsDepth s c
access-tells-depth s c valid filled few alphabet q tree is kept accepted =
    let free = unpromised s in
    let part = part_of s c.name in
    let told : (respond trees s c).answer.depth ≡ depth_t c.number tree
    = ap (λ a. a.depth) (respond-answer trees s c)
    ∙ access-reply free part c is (sym (respond-status trees s c) ∙ accepted)
    ∙ ap (λ p. depth_of trees p c.number) kept in
    rw told
    (depth-is-told alphabet q tree c.number
    (subst FilledPart kept (filled c.name))
    (subst (ValidPart trees) kept (valid.parts c.name))
    (omega (arith, valid.within, shares-are-promised s.parts c.name, ap shares_of kept)))

no-depth-of-reply : (status : ℕ) (part : Part Tree) (c : Command) (e : Effect Tree) → e.depth ≡ 0
    → (reply_of status part c e).answer.depth ≡ 0
no-depth-of-reply zero part c e none = none
no-depth-of-reply (suc status) part c e none = refl

no-depth-of-effect : (free : ℕ) (part : Part Tree) (c : Command) → c.code ≢ access_code → ((row_for trees c).effect free part c).depth ≡ 0
unfolding rows
no-depth-of-effect free part c =
    by_row (λ code r. code ≢ access_code → (r.effect free part c).depth ≡ 0) c.code (rows trees) (
      λ k. refl,
      (λ k. refl, (λ k. refl, (λ k. refl, (λ k. absurd (k refl), (λ k. refl, (λ k. refl, (λ k. refl, (λ k. refl, tt)))))))),
    )
    (λ k. refl)

pub others-tell-no-depth : (s : State Tree) (c : Command) → OthersTellNoDepth s c
unfolding respond reply
others-tell-no-depth s c other =
    let free = unpromised s in
    let part = part_of s c.name in
    no-depth-of-reply (status_of trees free part c) part c ((row_for trees c).effect free part c) (no-depth-of-effect free part c other)
