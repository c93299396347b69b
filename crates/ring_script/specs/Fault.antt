-- What can be wrong with a line, and how a reader tells it.
use Rattle.std.specs.Prelude.{◌≡◌, ℕ, Option, Some, None, Result, Ok, Err, ⊤}
use Rattle.ring_script.specs.declared.fault.Kind.{Kind}
use Rattle.ring_script.specs.declared.fault.Kind.TheVariants.{NotText, LineTooLong, UnknownCommand, MissingWord, ExtraWord, BadNumber, BadName, UnknownName, NameTaken, TooManyMembers, BodyTooLong, NoMembers, Misplaced}
use Rattle.ring_script.specs.declared.fault.LineFault.{LineFault}
use Rattle.ring_script.specs.declared.fault.LineFault.TheVariants.{Wrong, OutOfMemory}
use Rattle.ring_script.specs.declared.fault.ScriptFault.{ScriptFault}
use Rattle.ring_script.specs.declared.fault.ScriptFault.TheVariants as fault

-- the number by which users meet a fault
abbrev pub code_of : Kind → ℕ
code_of NotText = 50
code_of LineTooLong = 51
code_of UnknownCommand = 52
code_of MissingWord = 53
code_of ExtraWord = 54
code_of BadNumber = 55
code_of BadName = 56
code_of UnknownName = 57
code_of NameTaken = 58
code_of TooManyMembers = 59
code_of BodyTooLong = 60
code_of NoMembers = 61
code_of Misplaced = 62

-- the fault of the line of this number, as it is told
abbrev pub told_at : ℕ → LineFault → ScriptFault
told_at line (Wrong kind) = fault.At line (code_of kind)
told_at line OutOfMemory = fault.OutOfMemory

-- an answer tells this fault, or that there is none; want of memory is free
abbrev pub Tells : {X : Type 0} → Option Kind → Result X LineFault → Type 0
Tells wrong (Ok x) = wrong ≡ None
Tells wrong (Err (Wrong kind)) = wrong ≡ Some kind
Tells wrong (Err OutOfMemory) = ⊤
