-- What the functions that read a condition answer: a reading and its code, or the first cause. Assumes nothing.
use Rattle.std.specs.Prelude.{◌≡◌, List, ℕ, ◌+◌, ◌≤◌, length, drop, Some, None, Ok, Err}
use Rattle.std.specs.declared.option.Option.{Option}
use Rattle.std.specs.declared.result.Result.{Result}
use Rattle.models.specs.StableModels.{Interpretation}
use Rattle.grammar.specs.Conditions.{Condition, Atom, Digit, Reads, or-level}
use Rattle.grammar.specs.Reader.{bracket, Took}
use Rattle.book.specs.Causes.{first_of}
use Rattle.book.specs.declared.Cause.{Cause}
use Rattle.condition.specs.Code.{postfix, code_holds, StackFits}
use Rattle.condition.specs.Causes.{max_condition, condition_tests, fits_text}
use Rattle.condition.specs.declared.Code.{Code}

-- the value of the digit c, or that c is none
abbrev pub DigitOf : ℕ → Option ℕ → Type 0
DigitOf c (Some d) = Digit c × (c ≡ d + 48)
DigitOf c None = Digit c → ⊥

-- a name of so many digits is the number f
pub record NameOf (s : List ℕ) (digits f : ℕ) : Type 0 where
  pub some : 1 ≤ digits
  pub within : digits ≤ length s
  pub took : Took bracket s (Atom f) (drop digits s)

abbrev pub NameRead : List ℕ → Option (ℕ × ℕ) → Type 0
NameRead s (Some (digits, f)) = NameOf s digits f
NameRead s None = (f : ℕ) (u : List ℕ) → Took bracket s (Atom f) u → ⊥

-- the text has a reading, and these are its postfix code
pub record CompiledTo (s : List ℕ) (codes : List Code) : Type 0 where
  pub tree : Condition
  pub short : length s ≤ max_condition
  pub reads : Reads or-level tree s
  pub wrote : codes ≡ postfix tree

-- cause 16
abbrev pub NoReading : List ℕ → Type 0
NoReading s = length s ≤ max_condition → (a : Condition) → Reads or-level a s → ⊥

abbrev pub Compiles : List ℕ → Option (List Code) → Type 0
Compiles s (Some codes) = CompiledTo s codes
Compiles s None = NoReading s

-- none of the condition's causes applies, and the codes say of every state whether it holds there
pub record CodedTo (s : List ℕ) (n : ℕ) (codes : List Code) : Type 0 where
  pub none : first_of (condition_tests n s) ≡ Ok tt
  pub stack : StackFits codes
  pub value : (m : Interpretation) → code_holds codes m ≡ fits_text s m

abbrev pub Prepares : List ℕ → ℕ → Result (List Code) Cause → Type 0
Prepares s n (Ok codes) = CodedTo s n codes
Prepares s n (Err c) = first_of (condition_tests n s) ≡ Err c
