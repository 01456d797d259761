-- `call_tests::status_of_call` meets its contract, test by test.
use Rattle.call_tests.proofs.Tests.{refuse-101, refuse-102, refuse-103, refuse-104, accept}
use Rattle.call_tests.proofs.status_of_call.Goals as goal

pub returns-then-not-length_allowed : goal.returns-then-not-length_allowed
returns-then-not-length_allowed c = search refuse-101

pub returns-then-not-commands_allowed : goal.returns-then-not-commands_allowed
returns-then-not-commands_allowed c = search refuse-102

pub returns-then-answers-commands : goal.returns-then-answers-commands
returns-then-answers-commands c = search refuse-103

pub returns-then-not-check : goal.returns-then-not-check
returns-then-not-check c = search refuse-104

pub returns : goal.returns
returns c = search accept
