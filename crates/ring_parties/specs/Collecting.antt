-- What a member that collects the links that wait for it needs, and has then.
use Rattle.std.specs.Prelude.{◌≡◌, List, []}
use Rattle.std.specs.List.{All}
use Rattle.ordered_link.specs.declared.ring.RingIn.{RingIn}
use Rattle.group_view.specs.declared.link.LinkKind.TheVariants.{Ring}
use Rattle.group_view.specs.declared.request.Deposited.{Deposited}
use Rattle.registrar.specs.declared.waiting_link.WaitingLink.{WaitingLink}
use Rattle.activity.specs.declared.packet.Load.{Load}
use Rattle.gm_member.specs.Held.{answered_held, collected_held}
use Rattle.gm_member.specs.Arrivals.{incoming_of, with_arrived}
use Rattle.gm_member.specs.Shown.{held_of, ends_of}
use Rattle.ring_parties.specs.Parties.{ANode, Shown, ends_seen}

-- each link that waits is one of the ring
abbrev pub AreOfRing : List (WaitingLink (RingIn Load)) → Type 0
AreOfRing links = All (λ s. s.name.kind ≡ Ring) links

-- what a member shows to which these links came, its question closed, and which has dropped the ends that it doesn't keep
abbrev pub given_links : ANode → List (Deposited (RingIn Load)) → Shown
given_links m links = record {
  held = collected_held (answered_held (held_of m)) (incoming_of (held_of m) links);
  ends = record (ends_seen (with_arrived (held_of m) (ends_of m) links)) { old_ins = [] };
}
