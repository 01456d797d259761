-- A test that decides a statement exactly.
use Rattle.std.specs.Prelude.{Bool, true, ◌≡◌}

-- the answer is true just where the statement holds
pub record Says (r : Bool) (A : Type 0) : Type 0 where
  pub sound : r ≡ true → A
  pub complete : A → r ≡ true
