-- Where a member has taken a packet, the parties stand in the state after the ring's take.
use Rattle.std.proofs.Common.{◌≡◌, ◌≢◌, ℕ, ◌+◌, ◌<◌, ◌≤◌, Bool, true, false, cond, List, [], ◌∷◌, ◌++◌, length, drop, get_or, Option, Some, None, refl, sym, ap, subst, ◌∙◌, ⊎_elim, arith, append_assoc}
use Rattle.std.specs.Prelude.{option_map}
use Rattle.std.proofs.lemmas.Bool.{false≢true, cases_eq}
use Rattle.std.proofs.lemmas.List.{get_or-set_same, get_or-set_other}
use Rattle.ring_names.specs.declared.numbers.CreditSpec.{CreditSpec}
use Rattle.ring_names.specs.declared.reason.Reason.TheVariants as reason
use Rattle.credit_flow.specs.Credit.{grant_due}
use Rattle.credit_flow.specs.Link.{with_grant}
use Rattle.group_view.specs.declared.link.LinkName.{LinkName}
use Rattle.ring_rules.specs.declared.kind.LinkStep.TheVariants as step
use Rattle.ring_rules.specs.Kind.{Steps}
use Rattle.ring_rules.specs.declared.phase.Phase.{Phase}
use Rattle.ring_rules.specs.declared.phase.Phase.TheVariants.{Waiting, Up, Stopped}
use Rattle.ring_rules.specs.Refusal.{is_empty}
use Rattle.ring_rules.specs.Machine.{World, Member, Packet, Sending, Link, no_link, no_packet, member_at, link_at, is_waiting, oldest}
use Rattle.ring_rules.specs.Compact.{passed}
use Rattle.ring_rules.specs.Step.{size, with_member, with_link, taker, begun, popped}
use Rattle.ring_rules.specs.Event.{take_refusal, holds_nothing, at_found, taken_by, is_stopped, refused_as, done_as}
use Rattle.ring_rules.proofs.events.Enabled.{running_later, take_effect}
use Rattle.ring_rules.proofs.events.Refusals.{none_of, not_less}
use Rattle.gm_member.specs.Packets.{PacketById}
use Rattle.gm_member.specs.Held.{Held, Incoming, at_some, took_from, began_from, took_held}
use Rattle.gm_member.specs.Stands.{incoming_in, held_in, lines_in, waits_for}
use Rattle.gm_member.proofs.Parts.{current_waits_not}
use Rattle.gm_member.proofs.Fit.{IsFit}
use Rattle.gm_member.proofs.BeginStands.{BeginsFrom, begin_stands}
use Rattle.gm_member.proofs.TakeStands.{TakesFrom, take_stands}
use Rattle.gm_member.proofs.Others.{take_others, begin_others}
use Rattle.ring_parties.specs.Ends.{PacketShown, OutSeen, InSeen, packet_in, packets_in, end_items, items_in, Carries, HasRested}
use Rattle.ring_parties.specs.Parties.{Shown, Parties, node_at, with_node, Keeps}
use Rattle.ring_parties.specs.Standing.{Places, MemberStands, Stand, has_in, has_out}
use Rattle.ring_parties.specs.Acting.{sent_of, due_of, TakesIn, Acts}
use Rattle.ring_parties.proofs.lists.Grants.{append-with_grant}
use Rattle.ring_parties.proofs.work.Lawful.{IsLawfulAt}
use Rattle.ring_parties.proofs.meetings.NamedLinks.{current_has}
use Rattle.ring_parties.proofs.standing.Writing.{placed_same, placed_other}
use Rattle.ring_parties.proofs.standing.Showing.{with_ins}
use Rattle.ring_parties.proofs.standing.Frames.{SameWays, link_ways, member_ways, ways_both, same_of, same_in, Does, StandMoved}
use Rattle.ring_parties.proofs.events.OneEvent.{link_there, made_of, stands_at, held_but_door, done_known}
use Rattle.ring_parties.proofs.meetings.Known.{not_left}
use Rattle.ring_parties.proofs.events.Steps.{goes_so, ways_leave, same_phases, carries_at, steps, ways_stand}

-- ---- one link

-- what stands behind the first packet
pub drop_first : (w : World) (before : Sending) (ks : List Packet) (es : List (Option PacketShown)) → is_empty ks ≡ false → drop 1 (packets_in w before ks ++ es) ≡ packets_in w (passed (get_or ks 0 no_packet)) (drop 1 ks) ++ es
drop_first w before [] es e = absurd (false≢true (sym e))
drop_first w before (k ∷ ks) es e = refl

pub take_carries : (initial : ℕ) (w : World) (l : Link) (o : OutSeen) (n n' : InSeen) (k : PacketShown) (due : Option ℕ) → is_empty l.packets ≡ false → due ≡ grant_due l.flow.receiver → n.items ≡ items_in w l → TakesIn due n k n' → Carries w initial l o n → Carries w initial (popped l) o n'
take_carries initial w l o n n' k due some ed known t c =
    let left : n'.items ≡ items_in w (popped l) = ap (drop 1) (sym t.items ∙ known) ∙ drop_first w l.had l.packets (end_items l.ending) some in
    record {
      items =
          ap (λ xs. xs ++ items_in w (popped l)) t.taken ∙ append_assoc n.taken (Some k ∷ []) (items_in w (popped l))
          ∙ ap (λ xs. n.taken ++ Some k ∷ xs) (sym left) ∙ ap (λ xs. n.taken ++ xs) (sym t.items ∙ known) ∙ c.items;
      grants =
          append-with_grant o.gained l.flow.grants (grant_due l.flow.receiver) ∙ ap (with_grant (o.gained ++ l.flow.grants)) (sym ed)
          ∙ ap (λ gs. with_grant gs due) c.grants ∙ sym t.given;
      late = t.late;
      ended = c.ended;
      initial = c.initial;
      fits = record { initial = t.initial ∙ c.fits.initial; ring = t.ring ∙ c.fits.ring; slots = c.fits.slots };
    }

-- the packet that is taken is the oldest
pub first_packet : (w : World) (before : Sending) (ks : List Packet) (es : List (Option PacketShown)) (k : PacketShown) (xs : List (Option PacketShown)) → is_empty ks ≡ false → Some k ∷ xs ≡ packets_in w before ks ++ es → k.lines ≡ lines_in w before (get_or ks 0 no_packet)
first_packet w before [] es k xs some e = absurd (false≢true (sym some))
first_packet w before (packet ∷ ks) es k xs some e =
    let both : Some k ≡ packet_in w before packet = cc in
    let same : k ≡ record { view = packet.version; lines = lines_in w before packet } = cc in
    ap (λ (a : PacketShown). a.lines) same

pub take_lines : (initial : ℕ) (w : World) (s : ℕ) (o : OutSeen) (n n' : InSeen) (k : PacketShown) (due : Option ℕ) → is_empty (link_at w s).packets ≡ false → n.items ≡ items_in w (link_at w s) → TakesIn due n k n' → k.lines ≡ lines_in w (link_at w s).had (oldest (link_at w s))
take_lines initial w s o n n' k due some known t = first_packet w (link_at w s).had (link_at w s).packets (end_items (link_at w s).ending) k n'.items some (sym t.items ∙ known)

-- the receiver rests as it did
pub take_rested : (o : OutSeen) (n n' : InSeen) (k : PacketShown) (due : Option ℕ) → TakesIn due n k n' → HasRested o n → HasRested o n'
take_rested o n n' k due t r = record {
  items = ap (λ xs. xs ++ n'.items) t.taken ∙ append_assoc n.taken (Some k ∷ []) n'.items ∙ ap (λ xs. n.taken ++ xs) (sym t.items) ∙ r.items;
  room = omega (arith, r.room, t.room, t.initial);
}

-- ---- what the member holds

pub took_door : (g : Held) (ds : List Incoming) (k : PacketById) → took_held (record g { door = ds }) k ≡ record (took_held g k) { door = ds }
took_door g ds k = by_current g.current
  where
    by_phase : (a : Incoming) (b : Bool) → cond b (began_from (record g { door = ds }) k a) (took_from (record g { door = ds }) k a) ≡ record (cond b (began_from g k a) (took_from g k a)) { door = ds }
    by_phase a true = refl
    by_phase a false = refl

    by_current : (c : Option Incoming) → at_some c (record g { door = ds }) (λ a. cond (is_waiting g.phase) (began_from (record g { door = ds }) k a) (took_from (record g { door = ds }) k a))
        ≡ record (at_some c g (λ a. cond (is_waiting g.phase) (began_from g k a) (took_from g k a))) { door = ds }
    by_current None = refl
    by_current (Some a) = by_phase a (is_waiting g.phase)

-- ---- the parties

-- x is y, and the oldest packet is gone from link s
abbrev pub takes_in : World → ℕ → ℕ → Member → World
takes_in w x s y = with_link (with_member w x y) s (popped (link_at w s))

-- x takes from link s, and is y then.
pub record TakesAs (w : World) (x s : ℕ) (k : PacketById) (y : Member) : Type 0 where
  pub is_member : x < size w
  pub current : (member_at w x).current ≡ Some s
  pub has : is_empty (link_at w s).packets ≡ false
  pub same : (y.version ≡ (member_at w x).version) × (y.current ≡ (member_at w x).current) × (y.out ≡ (member_at w x).out) × (y.log ≡ (member_at w x).log)
  pub runs_on : is_stopped y.phase ≡ is_stopped (member_at w x).phase
  pub stands : k.lines ≡ lines_in w (link_at w s).had (oldest (link_at w s)) → took_held (held_in w x) k ≡ held_in (takes_in w x s y) x
  pub others : (z : ℕ) → z ≢ x → held_in w z ≡ held_in (takes_in w x s y) z

pub take_ways : (w : World) (x s : ℕ) (k : PacketById) (y : Member) → s < length w.links → TakesAs w x s k y → SameWays w (takes_in w x s y)
take_ways w x s k y sl t =
    let w1 : World = with_member w x y in
    ways_both w w1 (takes_in w x s y) (member_ways w x y t.is_member t.same.0 t.same.1 t.same.2) (link_ways w1 s (popped (link_at w s)) sl refl)

-- the end of the link s from which x takes shows something else
take_steps : (credit : CreditSpec) (w : World) (i s : ℕ) (q : Parties) (b : Shown) (n : InSeen) (k : PacketById) (y : Member) (st : Stand credit.initial w q) → IsLawfulAt credit w → TakesAs w (i + 1) s k y
    → TakesIn (due_of (node_at q i).held) (st.places.ins s) (sent_of k) n → b ≡ record { held = took_held (node_at q i).held k; ends = record (node_at q i).ends { link = Some n } }
    → StandMoved credit.initial (i + 1) (takes_in w (i + 1) s y) (with_node q i b) None
take_steps credit w i s q b n k y st h t takes e =
    let x : ℕ = i + 1 in
    let w' : World = takes_in w x s y in
    let p : Places = st.places in
    let p' : Places = with_ins p s n in
    let m : Shown = node_at q i in
    let sl : s < length w.links = (h.fit.own_ends.current x s t.current).0 in
    let l : Link = popped (link_at w s) in
    let ways : SameWays w w' = take_ways w x s k y sl t in
    let a : MemberStands w p x m = stands_at credit.initial w q p i st.stand t.is_member in
    let due : Option ℕ = due_of m.held in
    let due_is : due ≡ grant_due (link_at w s).flow.receiver = ap due_of (held_but_door w p x m a) ∙ ap (λ c. at_some (option_map (incoming_in w) c) None (λ (g : Incoming). grant_due g.counted)) t.current in
    let has : has_in w s ≡ true = current_has credit w x s h t.current in
    let known : (p.ins s).items ≡ items_in w (link_at w s) = done_known (has_out w s) credit.initial w s (p.outs s) (p.ins s) (st.met s sl has) (st.stand.carry s sl has) in
    let lines : k.lines ≡ lines_in w (link_at w s).had (oldest (link_at w s)) = take_lines credit.initial w s (p.outs s) (p.ins s) n (sent_of k) due t.has known takes in
    let its : Does w w' x m b m.ends.out (Some n) = record {
      does = λ (g : Held). took_held g k;
      but_door = λ g ds. took_door g ds k;
      stands = t.stands lines;
      is = e;
    } in
    let here : p'.ins s ≡ n = placed_same p.ins s n in
    let other : (j : ℕ) → j ≢ s → p'.ins j ≡ p.ins j = λ j ne. placed_other p.ins s n j ne in
    let other_link : (j : ℕ) → j ≢ s → link_at w' j ≡ link_at w j = λ j ne. get_or-set_other w.links s j l no_link ne in
    steps credit w w' q q.stopped p' i b st h t.is_member (record {
      leaves = ways_leave w w' x ways;
      deposits = refl;
      it = ways_stand w w' p p' x m b m.ends.out (Some n) ways refl
          (λ j waits. other j (λ (same : j ≡ s). false≢true (sym (current_waits_not w x s t.current) ∙ sym (ap (waits_for w x) same) ∙ waits)))
          its a.out (ap Some (sym here) ∙ ap (option_map p'.ins) (sym t.current)) a;
      held = t.others;
      notices = record { told = same_phases w x y q.stopped t.is_member t.runs_on; none_told = λ z _ r. r };
      outs = λ j _. refl;
      ins = λ j ne. other j (λ (same : j ≡ s). ne (t.current ∙ ap Some (sym same)));
      carry = λ j _ c. carries_at credit.initial w w' p p' s l (same_of (λ (a : Member). a.log) w x y t.is_member t.same.3) (get_or-set_same w.links s l no_link sl) (λ j ne. (other_link j ne, refl, other j ne))
          (λ before. subst (Carries w credit.initial l (p.outs s)) (sym here) (take_carries credit.initial w (link_at w s) (p.outs s) (p.ins s) n (sent_of k) due t.has due_is known takes before)) j c;
      rests = λ j o r. ⊎_elim
          (λ (same : j ≡ s).
          let r0 : HasRested o (p.ins s) = subst (λ c. HasRested o (p.ins c)) same r in
          subst (λ c. HasRested o (p'.ins c)) (sym same) (subst (HasRested o) (sym here) (take_rested o (p.ins s) n (sent_of k) due takes r0)))
          (λ (ne : j ≢ s). subst (HasRested o) (sym (other j ne)) r)
          (cases_eq j s);
      knows = λ j gone.
          let ne : j ≢ s = not_left w j s (sym (same_in w w' j ways) ∙ gone) (current_has credit w x s h t.current) in
          (refl, ap (λ (c : Link). c.flow.grants) (other_link j ne));
    })

-- A member that isn't refused a take takes the oldest packet of this link.
pub record TakesNext (w : World) (x : ℕ) : Type 0 where
  pub link : ℕ
  pub runs : is_stopped (member_at w x).phase ≡ false
  pub current : (member_at w x).current ≡ Some link
  pub some : is_empty (link_at w link).packets ≡ false
  pub version : (oldest (link_at w link)).version ≤ (member_at w x).version

pub takes_next : (w : World) (x : ℕ) → refused_as w x (Steps step.Take) ≡ None → TakesNext w x
takes_next w x enabled =
    let there = link_there (member_at w x).current reason.NoCurrentLink (take_refusal w x) (running_later w x _ enabled) in
    let s : ℕ = there.0 in
    let some = none_of (holds_nothing (link_at w s)) reason.NothingToTake _ there.2 in
    let packet = none_of (is_empty (link_at w s).packets) reason.EndNext _ some.1 in
    record {
      link = s;
      runs = (none_of (is_stopped (member_at w x).phase) reason.Stopped _ enabled).0;
      current = there.1;
      some = packet.0;
      version = not_less (member_at w x).version (oldest (link_at w s)).version _ packet.1;
    }

-- of who waits, and of who is up
pub takes_as : (w : World) (x s : ℕ) (k : PacketById) (f : Phase) → IsFit w → (member_at w x).phase ≡ f → is_stopped f ≡ false → 1 ≤ x → x < size w → (member_at w x).current ≡ Some s → is_empty (link_at w s).packets ≡ false → (oldest (link_at w s)).version ≤ (member_at w x).version
    → (y : Member) × TakesAs w x s k y × (at_found (member_at w x).current w (taken_by (member_at w x).phase w x) ≡ takes_in w x s y)
takes_as w x s k Waiting f waits runs some lt current has version =
    let t : BeginsFrom w x s = record { some = some; is_member = lt; waits = waits; current = current; has = has; version = version } in (
      begun (size w) (member_at w x) (oldest (link_at w s)),
      record {
        is_member = lt;
        current = current;
        has = has;
        same = (refl, refl, refl, refl);
        runs_on = sym (ap is_stopped waits);
        stands = λ e. begin_stands w x s k f t e;
        others = λ z ne. begin_others w x s z f current ne;
      },
      ap (λ c. at_found c w (taken_by (member_at w x).phase w x)) current ∙ ap (λ g. taken_by g w x s) waits,
    )
takes_as w x s k Up f up runs some lt current has version =
    let t : TakesFrom w x s = record { some = some; is_member = lt; up = up; current = current; has = has; version = version } in (
      taker w x s,
      record {
        is_member = lt;
        current = current;
        has = has;
        same = (refl, refl, refl, refl);
        runs_on = refl;
        stands = λ e. take_stands w x s k f t e;
        others = λ z ne. take_others w x s z f current ne;
      },
      take_effect w x s (member_at w x).current (member_at w x).phase current up,
    )
takes_as w x s k Stopped f rests runs some lt current has version = absurd (false≢true (sym runs))

pub take_goes : (credit : CreditSpec) (w : World) (keeps : Keeps) (i d : ℕ) (q q' : Parties) (replaced : Option (LinkName × OutSeen)) → IsLawfulAt credit w → refused_as w (i + 1) (Steps step.Take) ≡ None → i + 1 < size w → Stand credit.initial w q → Acts (Steps step.Take) keeps i d q q' replaced → StandMoved credit.initial (i + 1) (done_as w (i + 1) (Steps step.Take)) q' replaced
take_goes credit w keeps i d q q' replaced h enabled lt st (b, (k, n, n', ends_link, takes, eb), is, none) =
    let x : ℕ = i + 1 in
    let p : Places = st.places in
    let a : MemberStands w p x (node_at q i) = stands_at credit.initial w q p i st.stand lt in
    let next : TakesNext w x = takes_next w x enabled in
    let s : ℕ = next.link in
    let current : (member_at w x).current ≡ Some s = next.current in
    let t = takes_as w x s k (member_at w x).phase h.fit refl next.runs (omega arith) lt current next.some next.version in
    let y : Member = t.0 in
    let same_end : p.ins s ≡ n = made_of p.ins (member_at w x).current s n current (sym a.link ∙ ends_link) in
    let its : TakesIn (due_of (node_at q i).held) (p.ins s) (sent_of k) n' = subst (λ e. TakesIn (due_of (node_at q i).held) e (sent_of k) n') (sym same_end) takes in
    goes_so credit.initial x (takes_in w x s y) (done_as w x (Steps step.Take)) (with_node q i b) q' replaced t.2 is none (take_steps credit w i s q b n' k y st h t.1 its eb)
