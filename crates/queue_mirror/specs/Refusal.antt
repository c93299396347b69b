-- Conditions in their order: the refusal of the first one that fails.
use Rattle.std.specs.Prelude.{Bool, true, false, Option, Some, None}
use Rattle.ring_names.specs.declared.reason.Reason.{Reason}

-- the refusal of a condition that fails
abbrev pub refuse_if : Bool → Reason → Option Reason
refuse_if true reason = Some reason
refuse_if false reason = None

-- the first of two refusals
abbrev pub or_else : Option Reason → Option Reason → Option Reason
or_else (Some reason) later = Some reason
or_else None later = later
