-- What a member takes and picks in a round.
use Rattle.std.proofs.Common.{◌≡◌, ◌≢◌, ℕ, ◌<◌, ◌≤◌, true, false, List, [], ◌∷◌, ◌++◌, length, map, drop, get_or, position, Option, Some, None, is_some, refl, sym, ap, subst, ◌∙◌, arith}
use Rattle.std.specs.Prelude.{option_map}
use Rattle.std.specs.List.{filter}
use Rattle.std.proofs.lemmas.Bool.{false≢true}
use Rattle.std.proofs.lemmas.List.{length-map, map-append, get_or-set_same, get_or-set_other, get_or_append_left}
use Rattle.std.proofs.lemmas.List.Quantifiers.{position-Some}
use Rattle.queue_mirror.specs.Mirror.{apply_ops}
use Rattle.confirm_book.specs.Book.{without_room, came_round}
use Rattle.ring_names.specs.declared.numbers.CreditSpec.{CreditSpec}
use Rattle.ring_names.specs.declared.reason.Reason.{Reason}
use Rattle.ring_names.specs.declared.reason.Reason.TheVariants as reason
use Rattle.credit_flow.specs.Credit.{grant_due}
use Rattle.credit_flow.specs.Link.{with_grant}
use Rattle.ring_rules.specs.declared.event.Event.TheVariants as event
use Rattle.ring_rules.specs.declared.kind.LinkStep.TheVariants as step
use Rattle.ring_rules.specs.Kind.{Steps}
use Rattle.ring_rules.specs.Refusal.{refuse_if, or_else, is_empty}
use Rattle.ring_rules.specs.Machine.{World, Member, Link, no_link, member_at, link_at, runs, oldest}
use Rattle.ring_rules.specs.Step.{size, log_of, popped, leave_link, finished, with_current, current_is}
use Rattle.ring_rules.specs.Event.{is_stopped, take_refusal, end_refusal, version_refusal, at_door, refused_as, done_as}
use Rattle.ring_rules.proofs.events.Refusals.{none_of}
use Rattle.ring_rules.proofs.code.Enables.{running_runs}
use Rattle.gm_member.specs.Packets.{PacketById}
use Rattle.gm_member.specs.Held.{Held, Incoming, no_incoming, door_at, at_some, on_some, up_refused, take_refused, pick_refused, took_held, ended_held, picked_held, picked_at, first_at_door, without, is_for}
use Rattle.gm_member.specs.News.{news_of}
use Rattle.gm_member.specs.Stands.{held_in, incoming_in, door_links, door_in, lines_in}
use Rattle.gm_member.proofs.Facts.{version_is, refused_there}
use Rattle.gm_member.proofs.Fit.{IsFit}
use Rattle.gm_member.proofs.DoorParts.{without_made, member_same}
use Rattle.gm_member.proofs.TakeStands.{packet_by_version, end_may}
use Rattle.gm_member.proofs.EndStands.{end_stands, end_other}
use Rattle.gm_member.proofs.PickStands.{door_link, picks_some, pick_stands, pick_refuses, may_pick}
use Rattle.gm_member.proofs.Others.{end_others, member_others}
use Rattle.gm_member.proofs.Refusals.{take_refusal_is, end_refusal_is}
use Rattle.ring_parties.specs.Ends.{PacketShown, end_items, items_in}
use Rattle.ring_parties.specs.Parties.{Keeps}
use Rattle.ring_parties.specs.Keeps.{keeps_of, round_of, own_known, as_taken, ops_taken}
use Rattle.ring_parties.specs.Acting.{sent_of, due_of}
use Rattle.ring_parties.specs.Standing.{is_to}
use Rattle.ring_parties.specs.RoundActs.{Stamped, push, pop, things}
use Rattle.ring_parties.specs.Round.{Seat, Deed, NoActs, keeps_taken, Sits, Configuration, IsIn}
use Rattle.ring_parties.proofs.standing.Frames.{SameWays, same_of}
use Rattle.ring_parties.proofs.events.OneEvent.{found_does}
use Rattle.ring_parties.proofs.events.Steps.{Leaves, ways_leave}
use Rattle.ring_parties.proofs.events.TakeGoes.{drop_first, first_packet, took_door, takes_in, TakesAs, take_ways, TakesNext, takes_next, takes_as}
use Rattle.ring_parties.proofs.events.EndGoes.{end_doors, end_outs, end_leaves}
use Rattle.ring_parties.proofs.events.PickGoes.{door_waits, pick_outs, pick_door, pick_leaves}
use Rattle.ring_parties.proofs.keeping.Rounds.{oldest_of, RoundTaken, round_taken}
use Rattle.ring_parties.proofs.keeping.Going.{Changed, with_ops, same_left, same_current, take_changed}
use Rattle.ring_parties.proofs.rounds.Acts.{done_other, popped_there}
use Rattle.ring_parties.proofs.rounds.Fronts.{packet_there, packet_version, end_there, grant_goes, grant_other, position_more, without_more}
use Rattle.ring_parties.proofs.rounds.Seats.{Doing, Turn, sits_there, items_still, grants_still, keeps_still, does_held, door_still, items_logs, items_by, grants_by, in_after, ways_after, GoesAs, goes_to}

-- what one member has then, in the state that this is
changed_so : (w u w' : World) (x : ℕ) (k : Keeps) → u ≡ w' → Changed w u x k → Changed w w' x k
changed_so w u w' x k e c = subst (λ v. Changed w v x k) e c

module _ (credit : CreditSpec) (w : World) (post : List ℕ) (x t : ℕ) (d : Deed) (m : Seat) (a b : Configuration) (turn : Turn credit w post x t d m a b) where
  fit : IsFit w
  fit = turn.lawful.fit

  lt : x < size w
  lt = turn.is_member

  h : IsIn w post a
  h = turn.before

  me : Sits w post x (a.seats x)
  me = sits_there credit w post x t d m a b turn

  still_items : d.there ≡ [] → (s : ℕ) → b.items s ≡ a.items s
  still_items = items_still credit w post x t d m a b turn

  still_grants : d.back ≡ [] → (s : ℕ) → b.grants s ≡ a.grants s
  still_grants = grants_still credit w post x t d m a b turn

  -- who isn't refused for having stopped runs
  runs_so : (later : Option Reason) → take_refused (a.seats x).held later ≡ None → runs w x ≡ true
  runs_so later ok =
      let active = none_of (is_stopped (a.seats x).held.phase) reason.Stopped _ ok in
      let goes : is_stopped (member_at w x).phase ≡ false = sym (ap (λ (g : Held). is_stopped g.phase) me.held) ∙ active.0 in
      running_runs w x None (ap (λ c. or_else (refuse_if c reason.Stopped) None) goes)

  -- ---- a take

  -- what its party keeps then is what the new state has
  take_keeps : (k : PacketById) (n : TakesNext w x) → IsFit (done_as w x (Steps step.Take)) → refused_as w x (Steps step.Take) ≡ None → k.view ≡ (oldest (link_at w n.link)).version → k.lines ≡ lines_in w (link_at w n.link).had (oldest (link_at w n.link))
      → Changed w (done_as w x (Steps step.Take)) x (keeps_taken (a.seats x).held (sent_of k) (a.seats x).keeps)
  take_keeps k n later enabled view lines =
      let s : ℕ = n.link in
      let w' : World = done_as w x (Steps step.Take) in
      let g : Held = held_in w x in
      let ds : List Incoming = map (incoming_in w) (a.seats x).door in
      let round : RoundTaken w x s = round_taken w x n fit later enabled turn.some lt in
      let its : as_taken (sent_of k) ≡ oldest_of w s =
      ap (λ v. record { view = v; first = false; lines = k.lines }) view ∙ ap (λ ls. record { view = (oldest (link_at w s)).version; first = false; lines = ls }) lines in
      let brought : ℕ → PacketById → Keeps = λ r j. record (keeps_of w x) { mirror = apply_ops (member_at w x).mirror (ops_taken (news_of g j)); book = without_room (came_round r (keeps_of w x).book) } in
      let is : keeps_taken (a.seats x).held (sent_of k) (a.seats x).keeps ≡ with_ops w x (round_of w' x) (ops_taken (news_of g (oldest_of w s))) =
      ap (keeps_taken (a.seats x).held (sent_of k)) me.keeps
      ∙ ap (λ (j : Held). keeps_taken j (sent_of k) (keeps_of w x)) me.held
      ∙ ap (λ (j : Held). brought (own_known j).forgot (as_taken (sent_of k))) (took_door g ds (as_taken (sent_of k)))
      ∙ ap (λ j. brought (own_known (took_held g j)).forgot j) its
      ∙ ap (λ r. brought r (oldest_of w s)) round.next
      ∙ ap (λ c. record (keeps_of w x) { mirror = apply_ops (member_at w x).mirror (ops_taken (news_of g (oldest_of w s))); book = c }) round.book in
      subst (Changed w w' x) (sym is) (take_changed w x s (member_at w x).phase fit refl n.runs turn.some lt n.current n.some n.version)

  pub take_step : (k : PacketById) (s stamp given : ℕ) → (refused_as w x (Steps step.Take) ≡ None → IsFit (done_as w x (Steps step.Take))) → (a.seats x).current ≡ Some s → take_refused (a.seats x).held (version_refusal k.view (a.seats x).held.view.version) ≡ None
      → m ≡ record (a.seats x) { held = took_held (a.seats x).held k; keeps = keeps_taken (a.seats x).held (sent_of k) (a.seats x).keeps }
      → d.there ≡ (s, pop (record { stamp = stamp; it = Some (sent_of k) })) ∷ [] → d.back ≡ at_some (due_of (a.seats x).held) [] (λ g. (s, push (record { stamp = given; it = g })) ∷ []) → GoesAs w post x (Steps step.Take) b
  take_step k s stamp given goes on ok is there back =
      let g : Held = (a.seats x).held in
      let due : Option ℕ = due_of g in
      let z : Stamped (Option PacketShown) = record { stamp = stamp; it = Some (sent_of k) } in
      let later : Option Reason = version_refusal k.view g.view.version in
      let current : (member_at w x).current ≡ Some s = sym me.current ∙ on in
      let sl : s < length w.links = (fit.own_ends.current x s current).0 in
      let over : (link_at w s).over ≡ false = (fit.ends.takes x s (runs_so later ok) current).goes_on in
      let l0 : Link = link_at w s in
      let holds : items_in w l0 ≡ Some (sent_of k) ∷ things (b.items s) = sym (h.items s over) ∙ ap things (popped_there t s z d.there (a.items s) (b.items s) there (turn.moves.items s)) in
      let has : is_empty l0.packets ≡ false = packet_there w l0.had l0.packets l0.ending (sent_of k) (things (b.items s)) holds in
      let view : k.view ≡ (oldest l0).version = packet_version w l0.had l0.packets (end_items l0.ending) (sent_of k) (things (b.items s)) has (sym holds) in
      let lines : k.lines ≡ lines_in w l0.had (oldest l0) = first_packet w l0.had l0.packets (end_items l0.ending) (sent_of k) (things (b.items s)) has (sym holds) in
      let have : g.view.version ≡ (member_at w x).version = ap (λ (j : Held). j.view.version) me.held ∙ version_is w x fit in
      let same_later : version_refusal (oldest l0).version (member_at w x).version ≡ later = ap (λ v. version_refusal v (member_at w x).version) (sym view) ∙ ap (version_refusal k.view) (sym have) in
      let so : (j : ℕ) → (member_at w x).current ≡ Some j → take_refusal w x j ≡ later =
      λ j ej. (let both : Some s ≡ Some j = sym current ∙ ej in let same : s ≡ j = cc in subst (λ i. take_refusal w x i ≡ later) same (packet_by_version w x s has ∙ same_later)) in
      let enabled : refused_as w x (Steps step.Take) ≡ None =
      sym (refused_there w x (event.Take (member_at w x).name) (fit.named x turn.some lt)) ∙ sym (take_refusal_is w x later fit turn.some lt so) ∙ sym (ap (λ (j : Held). take_refused j later) me.held) ∙ ok in
      let found : TakesNext w x = takes_next w x enabled in
      let both : Some found.link ≡ Some s = sym found.current ∙ current in
      let its : found.link ≡ s = cc in
      let n : TakesNext w x = record { link = s; runs = found.runs; current = current; some = has; version = subst (λ i. (oldest (link_at w i)).version ≤ (member_at w x).version) its found.version } in
      let after = takes_as w x s k (member_at w x).phase fit refl n.runs turn.some lt current has n.version in
      let y : Member = after.0 in
      let how : TakesAs w x s k y = after.1 in
      let w' : World = takes_in w x s y in
      let l : Link = popped l0 in
      let ways : SameWays w w' = take_ways w x s k y sl how in
      let now : link_at w' s ≡ l = get_or-set_same w.links s l no_link sl in
      let others : (j : ℕ) → j ≢ s → link_at w' j ≡ link_at w j = λ j ne. get_or-set_other w.links s j l no_link ne in
      let due_is : due ≡ grant_due l0.flow.receiver = ap due_of me.held ∙ ap (λ c. at_some (option_map (incoming_in w) c) None (λ (i : Incoming). grant_due i.counted)) current in
      let kept : Keeps = keeps_taken g (sent_of k) (a.seats x).keeps in
      goes_to w w' post x (Steps step.Take) b enabled after.2
      (ways_after w w' post x t d kept m a b (record { does = λ (j : Held). took_held j k; but_door = λ j ds. took_door j ds k; stands = how.stands lines }) h turn.moves ways how.others
      (changed_so w (done_as w x (Steps step.Take)) w' x kept after.2 (take_keeps k n (goes enabled) enabled view lines)) me is
      (items_by w w' s l a b (same_of (λ (j : Member). j.log) w x y lt how.same.3) now others (λ j ne. done_other t s j (pop z) d.there (a.items j) (b.items j) there ne (turn.moves.items j)) h.items
      (λ _. ap (drop 1) (sym holds) ∙ drop_first w l0.had l0.packets (end_items l0.ending) has))
      (grants_by w w' s l a b now others (λ j ne. grant_other t s j given due d.back (a.grants j) (b.grants j) back ne (turn.moves.grants j)) h.grants
      (grant_goes t s given due d.back (a.grants s) (b.grants s) back (turn.moves.grants s) ∙ ap (λ gs. with_grant gs due) (h.grants s) ∙ ap (with_grant l0.flow.grants) due_is)))
      (ways_leave w w' x ways)

  -- ---- the end of a link

  pub end_step : (s stamp : ℕ) → (a.seats x).current ≡ Some s → take_refused (a.seats x).held None ≡ None → m ≡ record (a.seats x) { held = ended_held (a.seats x).held; current = None }
      → d.there ≡ (s, pop (record { stamp = stamp; it = None })) ∷ [] → d.back ≡ [] → GoesAs w post x (Steps step.TakeEnd) b
  end_step s stamp on ok is there back =
      let z : Stamped (Option PacketShown) = record { stamp = stamp; it = None } in
      let current : (member_at w x).current ≡ Some s = sym me.current ∙ on in
      let sl : s < length w.links = (fit.own_ends.current x s current).0 in
      let over : (link_at w s).over ≡ false = (fit.ends.takes x s (runs_so None ok) current).goes_on in
      let l0 : Link = link_at w s in
      let holds : items_in w l0 ≡ None ∷ things (b.items s) = sym (h.items s over) ∙ ap things (popped_there t s z d.there (a.items s) (b.items s) there (turn.moves.items s)) in
      let ends = end_there w l0.had l0.packets l0.ending (things (b.items s)) holds in
      let so : (j : ℕ) → (member_at w x).current ≡ Some j → end_refusal w j ≡ None =
      λ j ej. (let both : Some s ≡ Some j = sym current ∙ ej in let same : s ≡ j = cc in subst (λ i. end_refusal w i ≡ None) same (end_may w s ends.0 ends.1)) in
      let w' : World = leave_link w x s in
      let l : Link = finished l0 in
      let now : link_at w' s ≡ l = get_or-set_same w.links s l no_link sl in
      let others : (j : ℕ) → j ≢ s → link_at w' j ≡ link_at w j = λ j ne. end_other w x s j ne in
      let leaves : Leaves w w' x = end_leaves credit w x s turn.lawful lt current in
      let doors : door_links w' x ≡ door_links w x = end_doors credit w x s turn.lawful lt current x in
      let k : Doing w w' x = record { does = λ (g : Held). ended_held g; but_door = λ g ds. refl; stands = end_stands w x s fit lt current } in
      let keeps : Changed w w' x (a.seats x).keeps = keeps_still w w' post x (a.seats x) (same_left w x s) me in
      let sits : Sits w' post x m = subst (Sits w' post x) (sym is) (record {
        held = does_held w w' post x (a.seats x) k doors me;
        keeps = sym keeps.here;
        out = me.out ∙ sym (end_outs credit w x s turn.lawful lt current x);
        current = sym (ap (λ (j : Member). j.current) (member_same w x (with_current None (member_at w x)) lt));
        door = door_still w w' post x (a.seats x) doors leaves me;
      }) in
      goes_to w w' post x (Steps step.TakeEnd) b
      (sym (refused_there w x (event.TakeEnd (member_at w x).name) (fit.named x turn.some lt)) ∙ sym (end_refusal_is w x None fit turn.some lt so) ∙ sym (ap (λ (g : Held). take_refused g None) me.held) ∙ ok)
      (found_does (member_at w x).current s w (leave_link w x) current)
      (in_after w w' post x t d (a.seats x).keeps m a b h turn.moves (record { leaves = leaves; held = λ y ne. end_others w x s y fit current ne; keeps = keeps }) sits
      (items_by w w' s l a b (same_of (λ (j : Member). j.log) w x (with_current None (member_at w x)) lt refl) now others (λ j ne. done_other t s j (pop z) d.there (a.items j) (b.items j) there ne (turn.moves.items j)) h.items (λ gone. absurd (false≢true (sym gone))))
      (grants_by w w' s l a b now others (λ j _. still_grants back j) h.grants (ap things (still_grants back s) ∙ h.grants s)))
      leaves

  -- ---- a pick

  pub pick_step : (i : ℕ) → first_at_door (a.seats x).held ≡ Some i → pick_refused (a.seats x).held ≡ None
      → m ≡ record (a.seats x) { held = picked_held (a.seats x).held; current = Some (get_or (a.seats x).door i 0); door = without i (a.seats x).door } → NoActs d → GoesAs w post x (Steps step.Pick) b
  pick_step i first ok is none =
      let door : List ℕ = (a.seats x).door in
      let rest : List ℕ = filter (is_to w x) post in
      let g : Held = held_in w x in
      let mine : Held = record g { door = map (incoming_in w) door } in
      let whole : door_in w x ≡ map (incoming_in w) door ++ map (incoming_in w) rest = ap (map (incoming_in w)) me.door ∙ map-append (incoming_in w) door rest in
      let first_mine : position (is_for g.view x) (map (incoming_in w) door) ≡ Some i = sym (ap first_at_door me.held) ∙ first in
      let first_in : first_at_door g ≡ Some i = ap (position (is_for g.view x)) whole ∙ position_more (is_for g.view x) (map (incoming_in w) door) (map (incoming_in w) rest) i no_incoming first_mine in
      let inside_in : i < length (map (incoming_in w) door) = (position-Some (is_for g.view x) (map (incoming_in w) door) i no_incoming first_mine).0 in
      let inside : i < length door = omega (arith, inside_in, length-map door (incoming_in w)) in
      let ok_mine : pick_refused mine ≡ None = sym (ap pick_refused me.held) ∙ ok in
      let same_at : door_at (door_in w x) i ≡ door_at (map (incoming_in w) door) i = ap (λ ds. door_at ds i) whole ∙ get_or_append_left (map (incoming_in w) door) (map (incoming_in w) rest) no_incoming i inside_in in
      let later : (Option ℕ → List Incoming → Option Reason) = λ o ds. up_refused g (or_else (refuse_if (is_some g.current) reason.HasCurrentLink) (on_some o reason.NoLinkAtDoor (λ j. version_refusal (door_at ds j).opened g.view.version))) in
      let ok_in : pick_refused g ≡ None =
      ap (λ o. later o (door_in w x)) first_in
      ∙ ap (λ (l : Incoming). up_refused g (or_else (refuse_if (is_some g.current) reason.HasCurrentLink) (version_refusal l.opened g.view.version))) same_at
      ∙ sym (ap (λ o. later o (map (incoming_in w) door)) first_mine) ∙ ok_mine in
      let none_taken : (member_at w x).current ≡ None = (may_pick w x ok_in).none in
      let s : ℕ = door_link w x i in
      let w' : World = current_is w x (Some s) in
      let at = picks_some w x i fit.good none_taken first_in in
      let here = door_waits w x s credit turn.lawful none_taken at.found in
      let same_place : get_or door i 0 ≡ s = sym (ap (λ ds. get_or ds i 0) me.door ∙ get_or_append_left door rest 0 i inside) in
      let doors_now : door_links w' x ≡ without i (door_links w x) = pick_door w x s lt none_taken here i at.there refl in
      let leaves : Leaves w w' x = pick_leaves w x s lt none_taken here in
      let keeps : Changed w w' x (a.seats x).keeps = keeps_still w w' post x (a.seats x) (same_current w x (Some s)) me in
      let picked : picked_held mine ≡ record (picked_held g) { door = without i (map (incoming_in w) door) } =
      ap (λ o. at_some o mine (picked_at mine)) first_mine
      ∙ ap (λ (l : Incoming). record mine { current = Some l; door = without i (map (incoming_in w) door) }) (sym same_at)
      ∙ sym (ap (λ (k : Held). record k { door = without i (map (incoming_in w) door) }) (ap (λ o. at_some o g (picked_at g)) first_in)) in
      let logs : (p : ℕ) → log_of w' p ≡ log_of w p = same_of (λ (z : Member). z.log) w x (with_current (Some s) (member_at w x)) lt refl in
      let sits : Sits w' post x m = subst (Sits w' post x) (sym is) (record {
        held =
            ap picked_held me.held ∙ picked ∙ ap (λ (k : Held). record k { door = without i (map (incoming_in w) door) }) (pick_stands w x i lt fit.good none_taken first_in)
            ∙ ap (λ ds. record (held_in w' x) { door = ds }) (without_made (incoming_in w) i door);
        keeps = sym keeps.here;
        out = me.out ∙ sym (pick_outs w x s lt none_taken here x);
        current = ap Some same_place ∙ sym (ap (λ (k : Member). k.current) (member_same w x (with_current (Some s) (member_at w x)) lt));
        door = doors_now ∙ ap (without i) me.door ∙ without_more i door rest inside;
      }) in
      goes_to w w' post x (Steps step.Pick) b
      (sym (pick_refuses w x fit.good) ∙ ok_in)
      (found_does (at_door w x) s w (λ k. current_is w x (Some k)) at.found)
      (in_after w w' post x t d (a.seats x).keeps m a b h turn.moves (record { leaves = leaves; held = λ y ne. sym (member_others w x y (with_current (Some s) (member_at w x)) refl ne); keeps = keeps }) sits
      (λ j over. ap things (still_items none.0 j) ∙ h.items j over ∙ sym (items_logs w w' (link_at w j) logs))
      (λ j. ap things (still_grants none.1 j) ∙ h.grants j))
      leaves
