-- The bounds of document 01, each named once. Assumes nothing.
use Rattle.std.specs.Prelude.{ℕ, ◌+◌, ◌*◌, ◌/◌, ◌^◌}

-- facts of a book
abbrev pub max_atoms : ℕ
max_atoms = 1024

-- "f" and "not f" of each fact
abbrev pub max_names : ℕ
max_names = 2 * max_atoms

-- bytes of a record: a bit a fact
abbrev pub max_record : ℕ
max_record = (max_atoms + 7) / 8

abbrev pub max_layers : ℕ
max_layers = 32

abbrev pub max_arrows : ℕ
max_arrows = 496

abbrev pub max_rules : ℕ
max_rules = 1024

-- literals of a rule's body
abbrev pub max_body : ℕ
max_body = 16

-- branching facts that a search goes through
abbrev pub max_branching : ℕ
max_branching = 20

-- bytes of a listing: its head, and a record for each setting of the branching facts
abbrev pub max_listing : ℕ
max_listing = 11 + 2 ^ max_branching * max_record
