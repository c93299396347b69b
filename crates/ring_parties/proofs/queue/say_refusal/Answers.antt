use Rattle.std.proofs.Common.{◌≡◌, None, sym, ap, ◌∙◌}
use Rattle.ring_rules.specs.Kind.{kind_of}
use Rattle.gm_member.specs.Held.{up_refused}
use Rattle.ring_parties.specs.Parties.{shown_in, keeps_in}
use Rattle.ring_parties.specs.Keeps.{saying_refused}
use Rattle.ring_parties.specs.Acting.{alone_refused}
use Rattle.ring_parties.proofs.events.Kinds.{says_read}
use Rattle.gm_member.proofs.DoorParts.{up_past}
use Rattle.ring_parties.proofs.queue.say_refusal.Goals as goal

pub returns-in-None : goal.returns-in-None
returns-in-None c =
    let is = says_read (kind_of c.args.event.now) c.requires.says in
    let h = (shown_in c.args.party.now).held in
    let up : up_refused h None ≡ None = sym c.up_refusal.ensures ∙ c.in-None.is in
    c.saying_refusal.ensures is.0 is.1
    ∙ sym (up_past h (saying_refused is.0 h (keeps_in c.args.party.now)) up)
    ∙ sym (ap (λ k. alone_refused k (keeps_in c.args.party.now) (shown_in c.args.party.now)) is.1)
