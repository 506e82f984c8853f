-- The buyer's third condition, over what the contract of the listing call promises. proofs/Condition3Laws.antt proves it, and
-- crates/lesson/specs/Host.antt says it of the number that a host reads k and g from. Assumes nothing.
use Rattle.std.specs.Prelude.{◌≡◌, true, ◌↔◌, List, ℕ, ◌+◌, ◌*◌, ◌^◌, ◌<◌, ◌≤◌, get_or, take, drop, Ok}
use Rattle.format.specs.Book.{u16_at, u32_at, book_of}
use Rattle.insertion.specs.Runs.{bytes_before}
use Rattle.models.specs.StableModels.{Interpretation, StableModel}
use Rattle.models.specs.Branching.{branching_count}
use Rattle.models.specs.Listing.{record_size, record_of}
use Rattle.table.specs.Table.{program_of}
use Rattle.list_call.specs.Reply.{list_reply, list_buffer}

-- a call: a book, a driven layer, the set of layers that are switched off, and the bytes of the lent buffer before it
pub record Call : Type 0 where
  pub book : List ℕ
  pub layer : ℕ
  pub off : ℕ
  pub buffer : List ℕ

-- the call is granted, and its answer carries k and g
abbrev pub Granted : Call → ℕ → ℕ → Type 0
Granted c k g = list_reply c.book c.layer c.off c.buffer ≡ Ok (record { states = k; branching = g })

-- the bytes of the buffer after the call
abbrev pub after : Call → List ℕ
after c = list_buffer c.book c.layer c.off c.buffer

abbrev pub facts : Call → ℕ
facts c = (book_of c.book).atoms

-- "It is then the first bytes of the lent buffer: the 11 bytes of head and the k records."
abbrev pub listed : Call → ℕ → List ℕ
listed c k = take (11 + k * record_size (facts c)) (after c)

-- record i of the listing
abbrev pub record_at : Call → ℕ → List ℕ
record_at c i = take (record_size (facts c)) (drop (11 + i * record_size (facts c)) (after c))

-- a stable model of the call's book at its layer under its set, as Leite, Alferes and Pereira define it
abbrev pub Model : Call → Interpretation → Type 0
Model c m = StableModel (program_of c.book c.layer c.off) m

-- as many facts, and the same set of stable models at the two layers, each under its own set
abbrev pub SameModels : Call → Call → Type 0
SameModels c d = (facts c ≡ facts d) × ((m : Interpretation) → Model c m ↔ Model d m)

-- (i) "Where both listings are granted, they are equal byte for byte exactly when both books have the same number of facts and
-- the same set of stable models at those layers." Document 02, (h): "Two listings under two sets compare as before, each under its
-- own set."
abbrev pub EqualExactly : Type 0
EqualExactly = (c d : Call) (k g j h : ℕ) → Granted c k g → Granted d j h → (listed c k ≡ listed d j) ↔ SameModels c d

-- (ii) to (v), of one granted call
pub record Lists (c : Call) (k g : ℕ) : Type 0 where
  -- (ii) "exactly one record for every stable model of its book at its layer, and no other record"
  pub no_other : (i : ℕ) → i < k → (m : Interpretation) × Model c m × (record_at c i ≡ record_of (facts c) m)
  pub every : (m : Interpretation) → Model c m → (i : ℕ) × (i < k) × (record_at c i ≡ record_of (facts c) m)
  pub once : (i j : ℕ) → i < k → j < k → record_at c i ≡ record_at c j → i ≡ j
  -- a record stands for one stable model: two of them never share it
  pub distinct : (m o : Interpretation) → Model c m → Model c o → record_of (facts c) m ≡ record_of (facts c) o → m ≡ o
  -- the records rise as byte strings
  pub rising : (i j : ℕ) → i < j → j < k → bytes_before (record_at c i) (record_at c j) ≡ true
  -- (iii) "The number of these records is the k that the listing and its answer carry"
  pub head_count : u32_at (after c) 7 ≡ k
  -- the head's other fields; at offset 0 the version
  pub head_version : get_or (after c) 0 0 ≡ 1
  -- at offset 1 the length of the whole listing in bytes, head and records
  pub head_length : u32_at (after c) 1 ≡ 11 + k * record_size (facts c)
  -- at offset 5 the number n of facts
  pub head_facts : u16_at (after c) 5 ≡ facts c
  -- (iv) "and it is at most 2 to the power g"
  pub bounded : k ≤ 2 ^ g
  -- (v) "Here g is the number of the book's branching facts at that layer, the count that the answer carries."
  pub branching_is : g ≡ branching_count (program_of c.book c.layer c.off)

abbrev pub ListsExactly : Type 0
ListsExactly = (c : Call) (k g : ℕ) → Granted c k g → Lists c k g
