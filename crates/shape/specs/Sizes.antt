-- How many entries nodes have, and the two sets of sizes that stand so far.
use Rattle.std.specs.Prelude.{◌≡◌, ℕ, zero, suc, ◌+◌, ◌-◌, ◌*◌, ◌≤◌}
use Rattle.geometry.specs.Layout.{least_leaf, most_leaf, least_branch, most_branch}
use Rattle.geometry.specs.Limits.{marks_per_share}

-- least and most marks of a leaf, least and most children of a branch, marks that one share promises room for
pub record Sizes : Type 0 where
  pub leaf_least : ℕ
  pub leaf_most : ℕ
  pub branch_least : ℕ
  pub branch_most : ℕ
  pub share : ℕ

-- what the theory asks of sizes: a node too large by one makes two that are just large enough, and a leaf's least marks fill two shares
pub record Proper (s : Sizes) : Type 0 where
  pub leaf_halves : s.leaf_most + 1 ≡ 2 * s.leaf_least
  pub leaf_two : 2 ≤ s.leaf_least
  pub branch_halves : s.branch_most + 1 ≡ 2 * s.branch_least
  pub branch_two : 2 ≤ s.branch_least
  pub share_one : 1 ≤ s.share
  pub leaf_shares : 2 * s.share ≤ s.leaf_least

-- entries at least, of a node of level h that is no root
abbrev pub least : Sizes → ℕ → ℕ
least s zero = s.leaf_least
least s (suc h) = s.branch_least

-- entries at most, of a node of level h
abbrev pub most : Sizes → ℕ → ℕ
most s zero = s.leaf_most
most s (suc h) = s.branch_most

-- the sizes of a tree whose marks stand one to a byte
abbrev pub one_to_a_byte : Sizes
one_to_a_byte = record {
  leaf_least = least_leaf;
  leaf_most = most_leaf;
  branch_least = least_branch;
  branch_most = most_branch;
  share = marks_per_share;
}

-- the sizes of a tree whose marks stand two to a byte
abbrev pub two_to_a_byte : Sizes
two_to_a_byte = record {
  leaf_least = most_leaf;
  leaf_most = 2 * most_leaf - 1;
  branch_least = least_branch;
  branch_most = most_branch;
  share = 2 * marks_per_share;
}
