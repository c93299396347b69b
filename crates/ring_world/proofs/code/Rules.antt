-- Lemmas that the code names together.
use Rattle.ring_rules.proofs.events.Enabled.{up_phase, up_later, running_later, link_there, link_later, first_none, refresh_later, refresh_upto}
use Rattle.ring_rules.proofs.code.Enables.{running_runs}
use Rattle.ring_world.proofs.code.Noting.{refusal_noted, not_noted}
use Rattle.ring_world.proofs.code.Padded.{known_more, row_more}
use Rattle.ring_world.proofs.code.Found.{out_at, current_running}
use Rattle.ring_world.proofs.code.ShownParts.{read_member, read_link, read_row, rewrite_row, rewrite_member, rewrite_link, published_rows, published_members, pushed_links}

-- the member at a place, and a link
pub ruleset reading = (read_member, read_link)

-- the link on which the member at a place sends, where an event needs one
pub ruleset sending = (read_member, out_at, up_phase, up_later, link_there, link_later)

-- the link from which it takes
pub ruleset receiving = (read_member, current_running, running_runs, running_later, link_there, link_later)

-- the link at its door
pub ruleset picking = (up_phase, up_later, first_none, link_there)

-- an enabled event of a member
pub ruleset happening = (up_phase, up_later, refresh_later, refresh_upto)

-- what is published: in a row, and of a member
pub ruleset publishing_rows = (published_rows, rewrite_row, read_row)

pub ruleset publishing = (read_member, read_row, published_members, rewrite_member)

-- rows that join
pub ruleset padding = (known_more, row_more)

-- a packet that is put on a link
pub ruleset putting = (read_link, pushed_links, rewrite_link)

-- what a World notes
pub ruleset noting = (refusal_noted, not_noted)
