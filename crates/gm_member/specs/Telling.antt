-- Whether all was sent on the link on which a member sends.
use Rattle.std.specs.Prelude.{◌≡◌, Bool, not, ◌&&◌, List, Option}
use Rattle.std.specs.List.{list_all}
use Rattle.ring_rules.specs.Rows.{most_members}
use Rattle.activity.specs.declared.change.Change.{Change}
use Rattle.activity.specs.Kept.{KeptRow}
use Rattle.activity.specs.LastSent.{LastSentRow}
use Rattle.activity.specs.Diff.{tells_new}
use Rattle.activity.specs.Plan.{origin_of}
use Rattle.gm_member.specs.declared.links.OutLink.{OutLink}
use Rattle.gm_member.specs.Held.{at_some, has_nothing_new}
use Rattle.gm_member.specs.View.{all_kept, out_of}

-- whether of the origins of changes the numbers are those last sent
abbrev pub says_changed : List LastSentRow → List KeptRow → List Change → Bool
says_changed sent rows changes = list_all (λ c. not (tells_new sent rows most_members (origin_of c).0)) changes

module _ {O : Type 0} where
  -- where a member sends on a link, all_is_sent says whether the numbers of each origin equal those last sent
  abbrev pub SaysAllIsSent : Bool → Option (OutLink O) → List KeptRow → Type 0
  SaysAllIsSent all_is_sent out rows = all_is_sent ≡ at_some out all_is_sent (λ l. has_nothing_new (all_kept rows) (out_of l))

  -- whether all is sent still, once changes have come into the rows
  abbrev pub is_all_still_sent : Bool → Option (OutLink O) → List KeptRow → List Change → Bool
  is_all_still_sent all_is_sent out rows changes = at_some out all_is_sent (λ l. all_is_sent && says_changed l.sent rows changes)
