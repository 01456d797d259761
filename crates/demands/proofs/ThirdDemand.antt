-- Demand 3, from the machine's law that a name's answers go by its own part, its own commands and the statuses of its openings alone.
use Prim.Native.Nat.{ℕ, ◌<◌}
use Rattle.geometry.specs.Limits.{names}
use Rattle.demands.specs.Accepted.{Frame}
use Rattle.demands.specs.Demand3.{OthersStay, Demand3}
use Rattle.demands.proofs.AcceptedCalls.{each-of-call}
use Rattle.demands.proofs.FramesRun.{IsStep}
use Rattle.demands.proofs.OneNameRuns.{alike-answered-alike, fresh-answered-alike}
use Rattle.demands.proofs.OwnShapes.{shape-is-own}
use Rattle.demands.proofs.SecondDemand.{demand-2}

blocks-stay : (x : ℕ) → x < names → (f : Frame) → IsStep f → OthersStay x f
blocks-stay x low f step other = let kept = step.others x low other in record { bytes = kept.bytes.held; blocks = kept.blocks }

pub demand-3 : Demand3
demand-3 =
    record {
      meaning = demand-2;
      formatted = fresh-answered-alike;
      alike = alike-answered-alike;
      others = λ x low p commands room r q filled ran zero.
          each-of-call p commands room r q filled ran zero (OthersStay x) (λ f sound step. blocks-stay x low f step);
      shape = shape-is-own;
    }
