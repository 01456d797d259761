-- What the program reads behind the pool.
use Rattle.std.specs.Prelude.{ℕ}

-- bytes of what is expected of each name
abbrev pub slot_size : ℕ
slot_size = 1024
