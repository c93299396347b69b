-- What a member of a cluster whose ends have met refuses, the ring refuses, for the same reason.
use Rattle.std.proofs.Common.{◌≡◌, ℕ, ◌-◌, ◌<◌, ◌≤◌, true, List, [], ◌∷◌, ◌++◌, length, Option, Some, None, refl, sym, ap, ◌∙◌}
use Rattle.std.proofs.lemmas.Option.{none-some}
use Rattle.std.specs.Prelude.{⊤, option_map, slice_index_or}
use Rattle.std.proofs.lemmas.List.{append_cancel_left}
use Rattle.ring_names.specs.declared.numbers.CreditSpec.{CreditSpec}
use Rattle.ring_names.specs.declared.reason.Reason.{Reason}
use Rattle.ring_names.specs.declared.reason.Reason.TheVariants as reason
use Rattle.ring_rules.specs.declared.event.Event.TheVariants.{Take, TakeEnd}
use Rattle.ring_rules.specs.declared.kind.LinkStep.{LinkStep}
use Rattle.ring_rules.specs.declared.kind.LinkStep.TheVariants as step
use Rattle.ring_rules.specs.Kind.{Kind, Says, Steps, Copying, Changes, Stops, Reads, Tells}
use Rattle.ring_rules.specs.declared.phase.Phase.{Phase}
use Rattle.ring_rules.specs.declared.phase.Phase.TheVariants.{Waiting, Up, Stopped}
use Rattle.ring_rules.specs.declared.phase.Ending.{Ending}
use Rattle.ring_rules.specs.Refusal.{refuse_if, or_else, is_empty}
use Rattle.ring_rules.specs.Machine.{World, Packet, no_packet, member_at, link_at, runs, runs_phase, is_waiting}
use Rattle.ring_rules.specs.Step.{size}
use Rattle.ring_rules.specs.Event.{on_link, is_stopped, up_refusal, take_refusal, end_refusal, gain_refusal, version_refusal, refused_as}
use Rattle.gm_member.specs.Held.{Held, up_refused, put_refused, take_refused, active_refused, pick_refused, on_some}
use Rattle.gm_member.proofs.PutStands.{put_refuses}
use Rattle.gm_member.specs.Stands.{held_in, outgoing_in}
use Rattle.gm_member.proofs.Facts.{refused_there, version_is}
use Rattle.gm_member.proofs.TakeStands.{nothing_to_take, no_end_to_take, end_is_next, end_may, packet_is_next, packet_by_version}
use Rattle.gm_member.proofs.PickStands.{pick_refuses}
use Rattle.gm_member.proofs.Refusals.{take_refusal_is, end_refusal_is}
use Rattle.ring_parties.specs.Ends.{packets_in, end_items, items_in, Carries, HaveMet}
use Rattle.ring_parties.specs.Parties.{Shown, Keeps, Parties, node_at}
use Rattle.ring_parties.specs.Keeps.{keeps_of}
use Rattle.ring_parties.specs.Standing.{Places, MemberStands, StandIn, Stand, AllHaveMet, has_in, has_out}
use Rattle.ring_parties.specs.Acting.{step_refused, first_item, items_refused, end_refused, back_of, packet_refused, link_end_refused, grant_refused, newest_of}
use Rattle.ring_parties.specs.Refused.{own_refused}
use Rattle.ring_parties.proofs.work.Lawful.{IsLawfulAt}
use Rattle.ring_parties.proofs.meetings.NamedLinks.{out_is_open, out_has, current_has}
use Rattle.ring_parties.proofs.events.OneEvent.{held_but_door, met_both}
use Rattle.ring_parties.proofs.standing.Lookers.{whole_held}
use Rattle.ring_parties.proofs.events.Refreshing.{none_waits}
use Rattle.ring_parties.proofs.events.Refusing.{says_refuses, look_refuses, telling_refuses}
use Rattle.ring_parties.proofs.events.PickGoes.{NoneDeposited}
use Rattle.ring_parties.proofs.events.Ready.{all_settled, settled_items}

-- ---- what stands first on a link

-- by its items, why no packet is taken
taken_by_items : (w : World) (y s have : ℕ) (ks : List Packet) (e : Option Ending) → (link_at w s).packets ≡ ks → (link_at w s).ending ≡ e → have ≡ (member_at w y).version → take_refusal w y s ≡ items_refused have (packets_in w (link_at w s).had ks ++ end_items e)
taken_by_items w y s have [] None ek ee ev = nothing_to_take w y s ek ee
taken_by_items w y s have [] (Some why) ek ee ev = end_is_next w y s ek (λ k. none-some why (sym k ∙ ee))
taken_by_items w y s have (k ∷ ks) e ek ee ev =
    packet_by_version w y s (ap is_empty ek) ∙ ap (λ ps. version_refusal (slice_index_or ps 0 no_packet).version (member_at w y).version) ek ∙ ap (version_refusal k.version) (sym ev)

-- and why no end
ended_by_items : (w : World) (s : ℕ) (ks : List Packet) (e : Option Ending) → (link_at w s).packets ≡ ks → (link_at w s).ending ≡ e → end_refusal w s ≡ end_refused (packets_in w (link_at w s).had ks ++ end_items e)
ended_by_items w s [] None ek ee = no_end_to_take w s ek ee
ended_by_items w s [] (Some why) ek ee = end_may w s ek (λ k. none-some why (sym k ∙ ee))
ended_by_items w s (k ∷ ks) e ek ee = packet_is_next w s (ap is_empty ek)

-- the items that the member has
its_items : (credit : CreditSpec) (w : World) (q : Parties) (p : Places) (x s : ℕ) (m : Shown) → IsLawfulAt credit w → StandIn credit.initial w q p → AllHaveMet w p → MemberStands w p x m → (member_at w x).current ≡ Some s → first_item m.ends.link ≡ items_in w (link_at w s)
its_items credit w q p x s m h st met a e =
    let sl : s < length w.links = (h.fit.own_ends.current x s e).0 in
    let has : has_in w s ≡ true = current_has credit w x s h e in
    ap first_item (a.link ∙ ap (option_map p.ins) e)
    ∙ settled_items credit.initial w s (p.outs s) (p.ins s) (all_settled w p s met sl has) (st.carry s sl has)

-- ---- each kind

-- what makes no view; and where the member of id x picks, no link waits for it at the registrar
abbrev pub IsOwn : Kind → ℕ → Parties → Type 0
IsOwn (Changes c) x q = ⊥
IsOwn (Steps step.Pick) x q = NoneDeposited q x
IsOwn k x q = ⊤

-- with a member found
module _ (credit : CreditSpec) (w : World) (q : Parties) (x : ℕ) (h : IsLawfulAt credit w) (st : Stand credit.initial w q) (some : 1 ≤ x) (lt : x < size w) where
  abbrev p : Places
  p = st.places

  abbrev m : Shown
  m = node_at q (x - 1)

  stands : MemberStands w p x m
  stands = st.stand.each x some lt

  same : m.held ≡ record (held_in w x) { door = m.held.door }
  same = held_but_door w p x m stands

  pub packet_refusal_is : packet_refused (node_at q (x - 1)) ≡ refused_as w x (Steps step.Take)
  packet_refusal_is =
      let version : m.held.view.version ≡ (member_at w x).version = ap (λ (g : Held). g.view.version) same ∙ version_is w x h.fit in
      let later : Option Reason = items_refused m.held.view.version (first_item m.ends.link) in
      ap (λ (g : Held). take_refused g later) same
      ∙ take_refusal_is w x later h.fit some lt (λ s e.
      taken_by_items w x s m.held.view.version (link_at w s).packets (link_at w s).ending refl refl version
      ∙ ap (items_refused m.held.view.version) (sym (its_items credit w q p x s m h st.stand st.met stands e)))
      ∙ refused_there w x (Take (member_at w x).name) (h.fit.named x some lt)

  link_end_refusal_is : link_end_refused (node_at q (x - 1)) ≡ refused_as w x (Steps step.TakeEnd)
  link_end_refusal_is =
      let later : Option Reason = end_refused (first_item m.ends.link) in
      ap (λ (g : Held). take_refused g later) same
      ∙ end_refusal_is w x later h.fit some lt (λ s e.
      ended_by_items w s (link_at w s).packets (link_at w s).ending refl refl
      ∙ ap end_refused (sym (its_items credit w q p x s m h st.stand st.met stands e)))
      ∙ refused_there w x (TakeEnd (member_at w x).name) (h.fit.named x some lt)

  -- the grants that have come back are those under way
  gain_by_out : (c : Option ℕ) → runs w x ≡ true → (member_at w x).out ≡ c → on_some (option_map (outgoing_in w) c) reason.NoOutLink (λ _. refuse_if (is_empty (back_of (option_map p.outs c))) reason.NoGrant) ≡ on_link c reason.NoOutLink (gain_refusal w)
  gain_by_out None run e = refl
  gain_by_out (Some s) run e =
      let sl : s < length w.links = (h.fit.own_ends.out x s e).0 in
      let has : has_in w s ≡ true = out_is_open credit w x s h run e in
      let c : Carries w credit.initial (link_at w s) (p.outs s) (p.ins s) = st.stand.carry s sl has in
      let both : HaveMet (p.outs s) (p.ins s) = met_both (has_out w s) (p.outs s) (p.ins s) (out_has credit w x s h e) (st.met s sl has) in
      let all : (p.outs s).back ≡ (link_at w s).flow.grants = append_cancel_left (p.outs s).gained (p.outs s).back (link_at w s).flow.grants (both.grants ∙ sym c.grants) in
      ap (λ gs. refuse_if (is_empty gs) reason.NoGrant) all

  -- who has stopped gains nothing, and who is up does by its link
  gain_by_phase : (f : Phase) (a b : Option Reason) → (runs_phase f ≡ true → a ≡ b) → or_else (refuse_if (is_stopped f) reason.Stopped) (or_else (refuse_if (is_waiting f) reason.Waiting) a) ≡ or_else (refuse_if (is_stopped f) reason.Stopped) (or_else (refuse_if (is_waiting f) reason.Waiting) b)
  gain_by_phase Waiting a b k = refl
  gain_by_phase Up a b k = k refl
  gain_by_phase Stopped a b k = refl

  grant_refusal_is : grant_refused (node_at q (x - 1)) ≡ refused_as w x (Steps step.Gain)
  grant_refusal_is =
      ap (λ (g : Held). up_refused g (on_some g.out reason.NoOutLink (λ _. refuse_if (is_empty (back_of m.ends.out)) reason.NoGrant))) same
      ∙ ap (λ o. up_refusal w x (on_some (option_map (outgoing_in w) (member_at w x).out) reason.NoOutLink (λ _. refuse_if (is_empty (back_of o)) reason.NoGrant))) stands.out
      ∙ gain_by_phase (member_at w x).phase _ _ (λ run. gain_by_out (member_at w x).out run refl)

  -- what a step on its links is refused for is told by what it holds and its ends alone
  pub step_refuses : (s : LinkStep) → IsOwn (Steps s) x q → step_refused s (node_at q (x - 1)) ≡ refused_as w x (Steps s)
  step_refuses step.Put a = ap put_refused same ∙ put_refuses w x h.fit
  step_refuses step.Take a = packet_refusal_is
  step_refuses step.TakeEnd a = link_end_refusal_is
  step_refuses step.Gain a = grant_refusal_is
  step_refuses step.Pick a = ap pick_refused (whole_held w p x m stands (none_waits credit.initial w q x st a)) ∙ pick_refuses w x h.fit.good

  pub own_refuses : (keeps : Keeps) (k : Kind) → keeps ≡ keeps_of w x → IsOwn k x q → own_refused (newest_of q) keeps k (node_at q (x - 1)) ≡ refused_as w x k
  own_refuses keeps (Says s) kept a = says_refuses credit w q x keeps s kept some lt st
  own_refuses keeps (Steps s) kept a = step_refuses s a
  own_refuses keeps (Copying s) kept a = ap (λ (g : Held). up_refused g (Some reason.Waiting)) same
  own_refuses keeps (Changes c) kept a = absurd a
  own_refuses keeps Stops kept a = ap (λ (g : Held). active_refused g None) same
  own_refuses keeps (Reads version) kept a = look_refuses credit w q x version h st some lt
  own_refuses keeps (Tells code inner) kept a = telling_refuses credit w q x keeps code inner kept some lt st
