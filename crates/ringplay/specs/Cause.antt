-- Why a call ends, as a number and as a line.
use Rattle.std.specs.Prelude.{ℕ, List, [], ◌++◌, codes}
use Rattle.std.specs.Fmt.{decimal}
use Rattle.ring_report.specs.Report.{newline}
use Rattle.ring_script.specs.declared.fault.ScriptFault.{ScriptFault}
use Rattle.ring_script.specs.declared.fault.ScriptFault.TheVariants as faults
use Rattle.ringplay.specs.declared.cause.Cause.{Cause}
use Rattle.ringplay.specs.declared.cause.Cause.TheVariants.{Done, Usage, Script, ReadFault, WriteFault, OutOfMemory, TooLarge, Illegal, Unreadable}

-- the status with which the program ends
abbrev pub status_of : Cause → ℕ
status_of Done = 0
status_of Usage = 1
status_of (Script line kind) = 2
status_of ReadFault = 3
status_of WriteFault = 4
status_of OutOfMemory = 5
status_of TooLarge = 6
status_of (Illegal line code) = 7
status_of (Unreadable line kind) = 8

-- a word, the number of a line, and a further number
abbrev pub numbered_line : List ℕ → ℕ → ℕ → List ℕ
numbered_line word line number = word ++ codes " " ++ decimal line ++ codes " " ++ decimal number ++ newline

-- the one line that is written where nothing was done
abbrev pub line_of : Cause → List ℕ
line_of Usage = codes "usage" ++ newline
line_of (Script line kind) = numbered_line (codes "script") line kind
line_of TooLarge = codes "too large" ++ newline
line_of (Illegal line code) = numbered_line (codes "illegal") line code
line_of (Unreadable line kind) = numbered_line (codes "unreadable") line kind
line_of cause = []

-- the cause that a fault of a script or a step file is
abbrev pub cause_of : ScriptFault → Cause
cause_of (faults.At line kind) = Script line kind
cause_of faults.OutOfMemory = OutOfMemory
