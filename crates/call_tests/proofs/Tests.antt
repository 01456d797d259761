-- A call's tests, each where those before it passed.
use mathlib.Core.Bool.{Bool, true, false}
use mathlib.Core.Path.{◌≡◌, refl}
use mathlib.Core.List.{List}
use mathlib.Core.Logic.{◌≢◌, inl, inr}
use Prim.Native.Nat.{ℕ, ◌≤◌, ◌<◌}
use native.Mathlib.Omega.{arith}
use lib.ListN.{length}
use Rattle.pool.specs.Sound.{LengthAllowed}
use Rattle.pool_check.specs.Parts.{Checked}
use Rattle.pool_check.specs.Says.{Says}
use Rattle.pool_check.proofs.Deciding.{denied}
use Rattle.call_tests.specs.Tests.{CommandsAllowed, StatusOfCall, Judged}

-- The tests of a call, each where those before it passed.
module _ (p commands room map : List ℕ) where
  refuse : (status : ℕ) → StatusOfCall p commands room status → status ≢ 0 → Judged p commands room status map
  refuse status so some = record { tested = so; long = λ e. absurd (some e); holders = λ e. absurd (some e) }

  module _ (length-said : Bool) (length-says : Says length-said (LengthAllowed (length p))) where
    pub refuse-101 : length-said ≡ false → Judged p commands room 101 map
    refuse-101 not = refuse 101 (inl (refl, denied length-says not)) (λ e. omega arith)

    module _ (length-good : length-said ≡ true) (commands-said : Bool) (commands-says : Says commands-said (CommandsAllowed (length commands))) where
      pub refuse-102 : commands-said ≡ false → Judged p commands room 102 map
      refuse-102 not = refuse 102 (inr (inl (refl, length-says.sound length-good, denied commands-says not))) (λ e. omega arith)

      module _ (commands-good : commands-said ≡ true) where
        pub refuse-103 : length room < length commands → Judged p commands room 103 map
        refuse-103 short =
            refuse 103 (inr (inr (inl (refl, length-says.sound length-good, commands-says.sound commands-good, λ l. omega arith)))) (λ e. omega arith)

        module _ (fits : length commands ≤ length room) (sound-said : Bool) (checked : Checked p sound-said map) where
          pub refuse-104 : sound-said ≡ false → Judged p commands room 104 map
          refuse-104 not =
              refuse 104
              (inr (inr (inr (inl
              (refl, length-says.sound length-good, commands-says.sound commands-good, fits, denied checked.says not)))))
              (λ e. omega arith)

          pub accept : sound-said ≡ true → Judged p commands room 0 map
          accept good =
              record {
                tested =
                    inr (inr (inr (inr
                    (refl, length-says.sound length-good, commands-says.sound commands-good, fits, checked.says.sound good))));
                long = λ _. checked.long good;
                holders = λ _. checked.holders good;
              }
