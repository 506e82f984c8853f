-- The number of each cause: document 01's, and of document 02 19 of (h), 16 and 17 of (e). Assumes nothing.
use Rattle.std.specs.Prelude.{ℕ}
use Rattle.book.specs.declared.Cause.{Cause}
use Rattle.book.specs.declared.Cause.TheVariants.{TooShort, WrongVersion, WrongLength, BrokenSection, OutOfRange, BadRecord, RepeatedArrow, Cycle, NoSuchLayer, NoSuchLayerOff, BadCandidate, BadCondition, TooDeep, NoSuchFact, TooManyBranching, BufferTooShort, NoStableState}

abbrev pub number_of : Cause → ℕ
number_of TooShort = 1
number_of WrongVersion = 2
number_of WrongLength = 3
number_of BrokenSection = 4
number_of OutOfRange = 5
number_of BadRecord = 6
number_of RepeatedArrow = 7
number_of Cycle = 8
number_of NoSuchLayer = 9
number_of NoSuchLayerOff = 19
number_of BadCandidate = 10
number_of BadCondition = 16
number_of TooDeep = 17
number_of NoSuchFact = 11
number_of TooManyBranching = 12
number_of BufferTooShort = 13
number_of NoStableState = 14
