-- The sizes and limits that the rules set, by the names that the code has for them.
use Rattle.std.specs.Prelude.{ℕ, ◌+◌, ◌-◌, ◌*◌, ◌/◌}
use Rattle.geometry.specs.declared.limits.Limits.{Limits}

-- Pools and shares.

-- bytes of a block
abbrev pub block_size : ℕ
block_size = 128

-- bytes of the directory, which stands before the first block
abbrev pub directory_size : ℕ
directory_size = 512

-- bytes of the shortest pool: one share
abbrev pub shortest_pool : ℕ
shortest_pool = directory_size + block_size

-- bytes of the longest pool
abbrev pub longest_pool : ℕ
longest_pool = 65536

-- shares of the longest pool
abbrev pub most_shares : ℕ
most_shares = (longest_pool - directory_size) / block_size

-- marks that one share promises room for
abbrev pub marks_per_share : ℕ
marks_per_share = 24

-- marks that one name can hold at most
abbrev pub most_marks : ℕ
most_marks = marks_per_share * most_shares

-- the depth rule's divisor: m is the larger of 1 and n divided by this
abbrev pub marks_per_depth : ℕ
marks_per_depth = 48

-- Names and alphabets.

-- names in a pool: 0 to one less
abbrev pub names : ℕ
names = 16

-- the smallest alphabet
abbrev pub least_alphabet : ℕ
least_alphabet = 2

-- the largest alphabet
abbrev pub most_alphabet : ℕ
most_alphabet = 16

-- Frames.

-- bytes of a command and of an answer
abbrev pub frame_size : ℕ
frame_size = 8

-- bytes of commands that one call takes at most
abbrev pub longest_commands : ℕ
longest_commands = 8192

-- bytes of the pool that the first program formats
abbrev pub program_pool : ℕ
program_pool = 16384

-- Lines of Fortran.

-- the column that tells a continuation; statements start after it
abbrev pub continuation_column : ℕ
continuation_column = 6

-- the last column that is read
abbrev pub last_column : ℕ
last_column = 72

-- all of them, as the code has them
abbrev pub all_limits : Limits
all_limits = record {
  block_size = block_size;
  directory_size = directory_size;
  shortest_pool = shortest_pool;
  longest_pool = longest_pool;
  most_shares = most_shares;
  marks_per_share = marks_per_share;
  most_marks = most_marks;
  marks_per_depth = marks_per_depth;
  names = names;
  least_alphabet = least_alphabet;
  most_alphabet = most_alphabet;
  frame_size = frame_size;
  longest_commands = longest_commands;
  program_pool = program_pool;
  continuation_column = continuation_column;
  last_column = last_column;
}
