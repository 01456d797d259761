-- Demand 1 of the calls as hosts link them: they end, ask nothing and promise what `Demand1Ends` says of the library's own.
use mathlib.Core.Path.{◌≡◌, refl}
use borrow.Fn.World.{ArgsD, ResD}
use denote.Triple.Clauses.{AtExit}
use Rattle.forfochry_c.specs.contracts.forfochry_format as host_format
use Rattle.forfochry_c.proofs.forfochry_format.Reads as HostFormatReads
use Rattle.forfochry_c.proofs.forfochry_format.Statement as HostFormat
use Rattle.forfochry_c.proofs.forfochry_format.Met as HostFormatMet
use Rattle.forfochry_c.specs.contracts.forfochry_mark as host_mark
use Rattle.forfochry_c.proofs.forfochry_mark.Reads as HostMarkReads
use Rattle.forfochry_c.proofs.forfochry_mark.Statement as HostMark
use Rattle.forfochry_c.proofs.forfochry_mark.Met as HostMarkMet
use Rattle.forfochry_c.specs.contracts.forfochry_run as host_run
use Rattle.forfochry_c.proofs.forfochry_run.Reads as HostRunReads
use Rattle.forfochry_c.proofs.forfochry_run.Statement as HostRun
use Rattle.forfochry_c.proofs.forfochry_run.Met as HostRunMet
use Rattle.forfochry_c.specs.Numbers.{outcome_of}
use Rattle.text_fixed_form.specs.Mark.{mark_of}
use Rattle.call_run.specs.Calls.{Formats, Ran}
use Rattle.demands.specs.Demand1.{Keeps}

-- the three calls, as hosts link them
pub record Demand1Linked : Type 2 where
  pub format : Keeps 1 (ArgsD host_format.signature) (ResD host_format.signature) (AtExit host_format.ended) HostFormat.statement
      HostFormatReads.requires HostFormatReads.ensures (λ κs a r s. Formats a.0.now r s.0.now)
  pub run : Keeps 3 (ArgsD host_run.signature) (ResD host_run.signature) (AtExit host_run.ended) HostRun.statement HostRunReads.requires
      HostRunReads.ensures (λ κs a r s. Ran a.0.now a.1.0.now a.1.1.0.now (outcome_of r) s.0.now s.1.1.0.now)
  pub mark : Keeps 1 (ArgsD host_mark.signature) (ResD host_mark.signature) (AtExit host_mark.ended) HostMark.statement HostMarkReads.requires
      HostMarkReads.ensures (λ κs a r s. r ≡ mark_of a.0.now)

-- each contract is read off by computation, and that the code meets it is the function's own theorem
pub demand-1-linked : Demand1Linked
demand-1-linked =
    record {
      format = record { ends = λ M. HostFormatMet.met; asks = λ κs a w. refl; promises = λ κs a r s w. refl };
      run = record { ends = λ M. HostRunMet.met; asks = λ κs a w. refl; promises = λ κs a r s w. refl };
      mark = record { ends = λ M. HostMarkMet.met; asks = λ κs a w. refl; promises = λ κs a r s w. refl };
    }
