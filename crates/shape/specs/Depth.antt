-- The rule of the depth (RULES, Depth).
use Rattle.std.specs.Prelude.{◌≡◌, ℕ, ◌-◌, ◌*◌, ◌/◌, ◌^◌, ◌≤◌, ◌<◌, max}
use Rattle.geometry.specs.Limits.{marks_per_depth}

-- m of the rule, for n marks: the larger of 1 and their number divided and rounded down
abbrev pub depth_measure : ℕ → ℕ
depth_measure n = max 1 (n / marks_per_depth)

-- with n marks, depth d has 2^(d - 1) at most m · m, and is 1 as long as m is 1
pub record DepthRule (n d : ℕ) : Type 0 where
  pub most : 2 ^ (d - 1) ≤ depth_measure n * depth_measure n
  pub one : n < 2 * marks_per_depth → d ≡ 1
