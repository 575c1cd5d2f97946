-- The numbers of refusals, and what an answer tells of them.
use Rattle.std.specs.Prelude.{ℕ, Option, Some, None}
use Rattle.tasks.specs.declared.refusal.Refusal.{Refusal}
use Rattle.tasks.specs.declared.refusal.Refusal.TheVariants.{ListTooLong, Malformed, OutOfRange, LateDeadline, TaskCount, HyperTooLong, ShortTable, ShortBuffer, BadState, ReportCount, BadTable}

-- the number of a refusal
abbrev pub number_of : Refusal → ℕ
number_of ListTooLong = 1
number_of Malformed = 2
number_of OutOfRange = 3
number_of LateDeadline = 4
number_of TaskCount = 5
number_of HyperTooLong = 6
number_of ShortTable = 7
number_of ShortBuffer = 8
number_of BadState = 10
number_of ReportCount = 11
number_of BadTable = 12

-- the number of a refusal, 0 where there is none
abbrev pub number_in : Option Refusal → ℕ
number_in None = 0
number_in (Some r) = number_of r
