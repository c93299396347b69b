use Rattle.std.proofs.Common.{◌+◌, ◌++◌, ◌∷◌, [], sym, subst, ◌∙◌}
use Rattle.std.proofs.lemmas.Option.{none-some}
use Rattle.ring_parties.specs.Looking.{replaced_seen}
use Rattle.ring_parties.specs.Replaced.{moved_by}
use Rattle.ring_parties.specs.States.{state}
use Rattle.ring_parties.specs.Keeps.{KeepsStand, keeps_at}
use Rattle.ring_parties.proofs.events.After.{credit_after, kept_after, booked_after}
use Rattle.ring_parties.proofs.events.Closing.{kept_on, refused_is, acted, still_there}
use Rattle.ring_parties.proofs.parties.Parties.happen.Goals as goal

pub unreachable-requires : goal.unreachable-requires
unreachable-requires c =
    let r = c.in-Err-NotEnabled.field-0-0 in
    none-some r
    (sym c.requires.enabled
    ∙ sym (refused_is c.args.credit c.args.names.now c.args.events.now (c.args.self.now).all (keeps_at (c.args.self.now).keeps c.args.i) c.args.event.now c.args.i c.requires.standing (kept_after c.args.credit c.args.names.now c.args.events.now (c.args.self.now).all (c.args.self.now).keeps c.args.i c.requires.standing c.requires.keeps c.requires.within) c.requires.named c.requires.waits)
    ∙ c.in-Err-NotEnabled.ensures.judged.reason r c.in-Err-NotEnabled.field-0-is)

pub meet_replaced-requires : goal.meet_replaced-requires
meet_replaced-requires c = (
  c.args.credit,
  c.args.names.now,
  c.args.events.now ++ c.args.event.now ∷ [],
  moved_by (c.args.i + 1) (state c.args.credit c.args.names.now (c.args.events.now ++ c.args.event.now ∷ [])),
  acted c.args.credit c.args.names.now c.args.events.now (c.args.self.now).all (c.act.new.self).all (keeps_at (c.args.self.now).keeps c.args.i) c.args.event.now c.args.i (replaced_seen c.in-Ok.replaced) c.requires.standing (kept_after c.args.credit c.args.names.now c.args.events.now (c.args.self.now).all (c.args.self.now).keeps c.args.i c.requires.standing c.requires.keeps c.requires.within) c.in-Ok.ensures.judged.enabled c.requires.named c.requires.waits c.requires.few c.in-Ok.ensures.ok,
)

pub meet_moved-requires-clause-within : goal.meet_moved-requires-clause-within
meet_moved-requires-clause-within c =
    let ids = moved_by (c.args.i + 1) (state c.args.credit c.args.names.now (c.args.events.now ++ c.args.event.now ∷ [])) in
    let between = acted c.args.credit c.args.names.now c.args.events.now (c.args.self.now).all (c.act.new.self).all (keeps_at (c.args.self.now).keeps c.args.i) c.args.event.now c.args.i (replaced_seen c.in-Ok.replaced) c.requires.standing (kept_after c.args.credit c.args.names.now c.args.events.now (c.args.self.now).all (c.args.self.now).keeps c.args.i c.requires.standing c.requires.keeps c.requires.within) c.in-Ok.ensures.judged.enabled c.requires.named c.requires.waits c.requires.few c.in-Ok.ensures.ok in
    still_there c.args.credit c.args.names.now c.args.events.now (c.args.self.now).all (c.act.new.self).all (c.meet_replaced.new.self).all (keeps_at (c.args.self.now).keeps c.args.i) c.args.event.now c.args.i (replaced_seen c.in-Ok.replaced) ids c.requires.within c.in-Ok.ensures.ok between
    (c.meet_replaced.ensures.meets c.args.credit c.args.names.now (c.args.events.now ++ c.args.event.now ∷ []) ids between)

pub meet_moved-requires-clause-moved : goal.meet_moved-requires-clause-moved
meet_moved-requires-clause-moved c = (
  c.args.credit,
  c.args.names.now,
  c.args.events.now ++ c.args.event.now ∷ [],
  c.meet_replaced.ensures.meets c.args.credit c.args.names.now (c.args.events.now ++ c.args.event.now ∷ []) (moved_by (c.args.i + 1) (state c.args.credit c.args.names.now (c.args.events.now ++ c.args.event.now ∷ [])))
      (acted c.args.credit c.args.names.now c.args.events.now (c.args.self.now).all (c.act.new.self).all (keeps_at (c.args.self.now).keeps c.args.i) c.args.event.now c.args.i (replaced_seen c.in-Ok.replaced) c.requires.standing (kept_after c.args.credit c.args.names.now c.args.events.now (c.args.self.now).all (c.args.self.now).keeps c.args.i c.requires.standing c.requires.keeps c.requires.within) c.in-Ok.ensures.judged.enabled c.requires.named c.requires.waits c.requires.few c.in-Ok.ensures.ok),
)

pub returns-in-Ok-clause-standing : goal.returns-in-Ok-clause-standing
returns-in-Ok-clause-standing c =
    c.meet_moved.ensures.meets c.args.credit c.args.names.now (c.args.events.now ++ c.args.event.now ∷ [])
    (c.meet_replaced.ensures.meets c.args.credit c.args.names.now (c.args.events.now ++ c.args.event.now ∷ []) (moved_by (c.args.i + 1) (state c.args.credit c.args.names.now (c.args.events.now ++ c.args.event.now ∷ [])))
    (acted c.args.credit c.args.names.now c.args.events.now (c.args.self.now).all (c.act.new.self).all (keeps_at (c.args.self.now).keeps c.args.i) c.args.event.now c.args.i (replaced_seen c.in-Ok.replaced) c.requires.standing (kept_after c.args.credit c.args.names.now c.args.events.now (c.args.self.now).all (c.args.self.now).keeps c.args.i c.requires.standing c.requires.keeps c.requires.within) c.in-Ok.ensures.judged.enabled c.requires.named c.requires.waits c.requires.few c.in-Ok.ensures.ok))

pub act-requires-clause-may : goal.act-requires-clause-may
act-requires-clause-may c = record {
  within = c.requires.within;
  delivered = c.requires.delivered;
  standing = (c.args.credit, c.args.names.now, c.args.events.now, c.requires.standing);
  booked = booked_after c.args.credit c.args.names.now c.args.events.now (c.args.self.now).all (c.args.self.now).keeps c.args.i c.requires.standing c.requires.keeps c.requires.within;
}

pub act-requires-clause-credit : goal.act-requires-clause-credit
act-requires-clause-credit c = credit_after c.args.credit c.args.names.now c.args.events.now (c.args.self.now).all c.args.i c.requires.standing c.requires.within

pub returns-in-Ok-clause-keeps : goal.returns-in-Ok-clause-keeps
returns-in-Ok-clause-keeps c =
    subst (KeepsStand (state c.args.credit c.args.names.now (c.args.events.now ++ c.args.event.now ∷ []))) (sym (c.meet_moved.ensures.keeps ∙ c.meet_replaced.ensures.keeps ∙ c.in-Ok.ensures.keeps))
    (kept_on c.args.credit c.args.names.now c.args.events.now (c.args.self.now).all (c.args.self.now).keeps c.args.event.now c.args.i c.requires.standing c.requires.keeps c.requires.enabled c.requires.named)
