-- `frame_status::well_formed::form_status` meets its contract: refused by one of the first three tests, or well formed.
use mathlib.Core.Path.{refl}
use Rattle.std.proofs.lemmas.Result.{err_from_is_err_and}
use Rattle.frame_status.proofs.Forms.{form-unknown, form-name, form-unused, form-passed}
use Rattle.frame_status.proofs.well_formed.form_status.Goals as goal

pub returns-in_err-operation : goal.returns-in_err-operation
returns-in_err-operation c =
    let p = err_from_is_err_and c.from_residual.result c.from_residual.ensures.1 in
    let unknown = c.in_err-operation.ensures in
    rw (p.1, p.2) (λ pool. form-unknown pool c.args.c _ unknown.0 unknown.1)

pub returns-then-not-is_name_allowed : goal.returns-then-not-is_name_allowed
returns-then-not-is_name_allowed c = λ p. search (form-name, c.in_ok-operation.ensures)

pub returns-then-not-is_unused_zero : goal.returns-then-not-is_unused_zero
returns-then-not-is_unused_zero c = λ p. search (form-unused, c.in_ok-operation.ensures)

pub returns : goal.returns
returns c = (refl, search (form-passed, c.in_ok-operation.ensures))
