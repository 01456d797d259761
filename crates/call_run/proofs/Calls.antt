-- A call once its tests are done: refused, or with a map for its frames.
use mathlib.Core.Path.{◌≡◌, refl, ◌∙◌}
use mathlib.Core.List.{List}
use mathlib.Core.Logic.{◌≢◌}
use Prim.Native.Nat.{ℕ, ◌/◌, ◌^◌, ◌≤◌, ◌<◌}
use native.Mathlib.Omega.{arith}
use lib.ListN.{length, take, length-take}
use lib.Seq.{get_or-take}
use Rattle.std.specs.Prelude.{Ok, Err}
use Rattle.call_tests.specs.Outcomes.{number_of_error, call_outcome}
use Rattle.call_tests.specs.Tests.{Judged}
use Rattle.call_tests.specs.declared.CallError.{CallError}
use Rattle.call_tests.specs.declared.CallError.TheVariants.{PoolLength, CommandsLength, RoomShort, NotSound}
use Rattle.geometry.specs.Limits.{directory_size, most_shares, frame_size}
use Rattle.pool.specs.Bytes.{shares}
use Rattle.pool.specs.Sound.{LengthAllowed}
use Rattle.pool_holders.specs.Maps.{MapOf, Exact}
use Rattle.call_run.specs.Calls.{Ran}
use Rattle.call_run.specs.Frames.{FramesReady, FramesRun}
use Rattle.call_run.proofs.Outcomes.{TestsPassed, all-passed}

-- the check's map, cut to the pool's shares
pub map-cut : (p map : List ℕ) → LengthAllowed (length p) → length map ≡ most_shares → MapOf p map → Exact p (take (shares p) map)
map-cut p map allowed long of =
    record {
      blocks = omega (arith, length-take (shares p) map, allowed.longest);
      holders = record {
        free = λ b l f. get_or-take (shares p) map b 0 l ∙ of.free b l f;
        held = λ b name l low some. get_or-take (shares p) map b 0 l ∙ of.held b name l low some;
      };
    }

-- no error's number is 0, which tells that there is none
number-some : (error : CallError) → number_of_error error ≢ 0
number-some PoolLength e = omega arith
number-some CommandsLength e = omega arith
number-some RoomShort e = omega arith
number-some NotSound e = omega arith

-- A call whose tests are done.
module _ (p commands room map : List ℕ) where
  -- refused, it changes nothing
  pub call-refused : (error : CallError) → Judged p commands room (number_of_error error) map → Ran p commands room (call_outcome (Err error)) p room
  call-refused error judged =
      record { status = judged.tested; refused = λ _. (refl, refl, refl); accepted = λ e. absurd (number-some error e) }

  module _ (judged : Judged p commands room 0 map) where
    passed : TestsPassed p commands room
    passed = all-passed p commands room 0 refl judged.tested

    -- the pool's shares are a part of the map
    pub directory-inside : directory_size ≤ length p
    directory-inside = omega (arith, passed.allowed.shortest)

    -- the part of the map that so many shares need
    module _ (many : ℕ) (all : many ≡ shares p) where
      pub shares-inside : many ≤ length map
      shares-inside = omega (arith, passed.allowed.longest, judged.long refl)

      pub part-long : many ≡ length (take many map)
      part-long = omega (arith, length-take many map, shares-inside)

    -- the number of frames is small
    pub count_fits : length commands / frame_size < 2 ^ 32
    count_fits = omega (arith, passed.frames.most)

    pub frames-ready : (many : ℕ) → many ≡ shares p → FramesReady p (take many map) commands room
    frames-ready many all =
        record {
          ready = record {
            sound = passed.sound;
            map = rw all (map-cut p map passed.allowed (judged.long refl) (judged.holders refl));
          };
          allowed = passed.frames;
          fits = passed.fits;
        }

    pub call-done : (q filled : List ℕ) → FramesRun p commands room q filled
        → Ran p commands room (call_outcome (Ok (length commands / frame_size))) q filled
    call-done q filled run =
        record {
          status = judged.tested;
          refused = λ some. absurd (some refl);
          accepted = λ _. run;
        }

-- `call_run::run` meets its contract by these: where a test refused the call nothing was touched; else the frames run with the part of the map
-- that the pool's shares need.
pub ruleset call_laws = (call-refused, directory-inside, shares-inside, part-long, count_fits, frames-ready, call-done)
