-- A pool that format has just left: its length was allowed, so it is formatted, and sound with every name closed.
use mathlib.Core.Path.{◌≡◌, sym, ap, ◌∙◌}
use mathlib.Core.List.{List}
use mathlib.Core.Logic.{⊎_elim}
use Prim.Native.Nat.{ℕ, ◌-◌, ◌/◌, ◌<◌}
use native.Mathlib.Omega.{arith}
use lib.ListN.{length}
use Rattle.geometry.specs.Limits.{names, block_size, directory_size}
use Rattle.pool.proofs.Formatted.{length-formatted, formatted-sound, formatted-meaning}
use Rattle.pool.proofs.Meaning.{part-meaning}
use Rattle.call_run.proofs.Outcomes.{length-cases}
use Rattle.machine.specs.Machine.{trees}
use Rattle.pool.specs.Bytes.{shares}
use Rattle.pool.specs.Formatted.{formatted}
use Rattle.pool.specs.Meaning.{meaning_of, meaning}
use Rattle.pool.specs.Sound.{LengthAllowed, Sound}
use Rattle.protocol.specs.State as State
use Rattle.protocol.specs.State.{part_of, as_lists}
use Rattle.shape.specs.Trees.{Tree}
use Rattle.demands.specs.Accepted.{Fresh}
use Rattle.demands.specs.Demand2.{held}

module _ (p : List ℕ) (fresh : Fresh p) where
  allowed : LengthAllowed (length fresh.before)
  allowed = ⊎_elim (λ is. is) (λ not. absurd (omega (arith, (fresh.formats.refused not).0))) (length-cases (length fresh.before))

  is-formatted : p ≡ formatted (length fresh.before)
  is-formatted = (fresh.formats.allowed allowed).1

  pub fresh-sound : Sound p
  fresh-sound = rw is-formatted (formatted-sound (length fresh.before) allowed)

  fresh-meaning : meaning p ≡ State.fresh_state {A = Tree} (shares p)
  fresh-meaning =
      ap meaning is-formatted
      ∙ formatted-meaning (length fresh.before) allowed
      ∙ ap (λ n. State.fresh_state ((n - directory_size) / block_size)) (sym (ap length is-formatted ∙ length-formatted (length fresh.before) allowed))

  pub fresh-held : held p ≡ State.fresh_state (shares p)
  fresh-held = ap (as_lists trees) fresh-meaning

pub fresh-part : (x : ℕ) → x < names → (p : List ℕ) (fresh : Fresh p) → meaning_of p x ≡ part_of (State.fresh_state {A = Tree} 0) x
fresh-part x low p fresh = sym (part-meaning p x low) ∙ ap (λ s. part_of s x) (fresh-meaning p fresh)
