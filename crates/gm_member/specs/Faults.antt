-- Why an event didn't happen, where a call of a member isn't done.
use Rattle.ring_rules.specs.declared.refused.Refused.{Refused}
use Rattle.ring_rules.specs.declared.refused.Refused.TheVariants as event
use Rattle.gm_member.specs.declared.fault.MemberFault.{MemberFault}
use Rattle.gm_member.specs.declared.fault.MemberFault.TheVariants as call

-- the event isn't enabled for the reason for which the call is refused
abbrev pub refused_as : MemberFault → Refused
refused_as (call.Refused r) = event.NotEnabled r
refused_as call.OutOfMemory = event.OutOfMemory
