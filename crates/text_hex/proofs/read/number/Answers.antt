use mathlib.Core.Path.{◌∙◌}
use borrow.Author.Rules.{rules}
use Rattle.text_hex.proofs.Scans.{number-so-far-fits, number-shifted-fits}
use Rattle.text_hex.proofs.read.number.Goals as goal

pub overflow_mul-number : goal.overflow_mul-number
overflow_mul-number c = search number-shifted-fits

pub overflow_add-number : goal.overflow_add-number
overflow_add-number c = search (number-so-far-fits, ◌∙◌, rules)
