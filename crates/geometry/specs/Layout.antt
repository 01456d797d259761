-- The numbers of the pool's layout (docs/LAYOUT.md), by the names that the code has for them.
use Rattle.std.specs.Prelude.{ℕ}
use Rattle.geometry.specs.declared.layout.Layout.{Layout}

-- The directory's bytes.

-- bytes of the directory's header, before the first record
abbrev pub header_size : ℕ
header_size = 128

-- what byte 0 of the header holds: the layout's number
abbrev pub layout_number : ℕ
layout_number = 1

-- bytes of a name's record
abbrev pub record_size : ℕ
record_size = 24

-- where a record has its kind, one byte
abbrev pub kind_at : ℕ
kind_at = 0

-- its alphabet size, one byte
abbrev pub alphabet_at : ℕ
alphabet_at = 1

-- its tree's height, one byte
abbrev pub height_at : ℕ
height_at = 2

-- a zero byte
abbrev pub zero_at : ℕ
zero_at = 3

-- its shares q, a word
abbrev pub q_at : ℕ
q_at = 4

-- its root block, a word
abbrev pub root_at : ℕ
root_at = 6

-- its number of marks, a word
abbrev pub length_at : ℕ
length_at = 8

-- zeros from here to its end
abbrev pub spare_at : ℕ
spare_at = 10

-- the kind of a closed name
abbrev pub kind_closed : ℕ
kind_closed = 0

-- the kind of an open name whose marks stand one to a byte
abbrev pub kind_marks : ℕ
kind_marks = 1

-- bytes of a word, low byte first
abbrev pub word_size : ℕ
word_size = 2

-- A block's bytes.

-- where a block has its form, one byte; its entries stand before
abbrev pub form_at : ℕ
form_at = 125

-- its number of entries, a word
abbrev pub count_at : ℕ
count_at = 126

-- the form of a block whose marks stand one to a byte
abbrev pub form_marks : ℕ
form_marks = 0

-- bytes of a branch's entry, which starts with its link, a word
abbrev pub entry_size : ℕ
entry_size = 36

-- where an entry has the number of marks below it, a word
abbrev pub entry_marks_at : ℕ
entry_marks_at = 2

-- its counts, a word for each symbol
abbrev pub entry_counts_at : ℕ
entry_counts_at = 4

-- Trees.

-- marks of a leaf that is no root, at least
abbrev pub least_leaf : ℕ
least_leaf = 63

-- marks of a leaf at most
abbrev pub most_leaf : ℕ
most_leaf = 125

-- children of a branch at least
abbrev pub least_branch : ℕ
least_branch = 2

-- children of a branch at most
abbrev pub most_branch : ℕ
most_branch = 3

-- levels of branches above the leaves at most
abbrev pub most_height : ℕ
most_height = 7

-- all of them, as the code has them
abbrev pub all_layout : Layout
all_layout = record {
  header_size = header_size;
  layout_number = layout_number;
  record_size = record_size;
  kind_at = kind_at;
  alphabet_at = alphabet_at;
  height_at = height_at;
  zero_at = zero_at;
  q_at = q_at;
  root_at = root_at;
  length_at = length_at;
  spare_at = spare_at;
  kind_closed = kind_closed;
  kind_marks = kind_marks;
  word_size = word_size;
  form_at = form_at;
  count_at = count_at;
  form_marks = form_marks;
  entry_size = entry_size;
  entry_marks_at = entry_marks_at;
  entry_counts_at = entry_counts_at;
  least_leaf = least_leaf;
  most_leaf = most_leaf;
  least_branch = least_branch;
  most_branch = most_branch;
  most_height = most_height;
}
