-- `any_outside` meets its contract: after each column the fold has what the definition gives for the columns so far.
use Rattle.std.proofs.Common.{◌≡◌, refl, subst, rules}
use Rattle.std.proofs.lemmas.Fn.{fold_over, slice_gives, fronts}
use Rattle.std.proofs.lemmas.List.Recursion.{or_push}
use Rattle.text_fixed_form.specs.Mark.{is_outside, any_outside}
use Rattle.text_fixed_form.proofs.columns.any_outside.Goals as goal

pub returns : goal.returns
unfolding any_outside
returns c =
    subst (λ line. c.fold.result ≡ any_outside line) c.iter.ensures.rest
    (fold_over fronts (λ byte. byte.now) _ (λ columns found. found ≡ any_outside columns) _
    (λ columns found byte now f called before. let more = or_push any_outside is_outside refl (λ _ _. refl) columns byte.now in search rules)
    _ _ _ _ (slice_gives c.iter.result) refl c.fold.ensures.ran)
