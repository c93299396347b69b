-- What a member says, puts and gains, and its stop, in a round.
use Rattle.std.proofs.Common.{◌≡◌, ◌≢◌, ℕ, ◌<◌, true, List, [], ◌∷◌, ◌++◌, length, drop, Option, Some, None, is_some, refl, sym, ap, subst, ◌∙◌}
use Rattle.std.specs.Prelude.{Ok}
use Rattle.std.proofs.lemmas.List.{get_or-set_same, get_or-set_other}
use Rattle.queue_core.specs.declared.message.Message.{Message}
use Rattle.ring_names.specs.declared.numbers.CreditSpec.{CreditSpec}
use Rattle.ring_names.specs.declared.reason.Reason.TheVariants as reason
use Rattle.credit_flow.specs.Link.{oldest as oldest_grant}
use Rattle.ring_rules.specs.declared.event.Event.TheVariants as event
use Rattle.ring_rules.specs.declared.kind.LinkStep.TheVariants as step
use Rattle.ring_rules.specs.declared.phase.Ending.TheVariants.{Halted}
use Rattle.ring_rules.specs.declared.phase.Phase.TheVariants.{Up}
use Rattle.ring_rules.specs.Kind.{Saying, Says, Steps, Stops}
use Rattle.ring_rules.specs.Refusal.{refuse_if, is_empty}
use Rattle.ring_rules.specs.Machine.{World, Member, Link, no_link, member_at, link_at, runs, runs_phase}
use Rattle.ring_rules.specs.Step.{size, log_of, publish_at, published, put_on as put_in, pushed, gain_on, stop_at, stopped, end_out, ended, ended_so}
use Rattle.ring_rules.specs.Event.{saying_refusal, gain_refusal, refused_as}
use Rattle.ring_rules.proofs.events.Enabled.{up_phase}
use Rattle.ring_rules.proofs.code.Enables.{running_runs}
use Rattle.gm_member.specs.Held.{Held, Outgoing, at_some, up_refused, active_refused, put_refused, gain_refused, published_held, put_held, packet_on, gained_held, stopped_held}
use Rattle.gm_member.specs.Stands.{held_in, outgoing_in}
use Rattle.gm_member.proofs.Facts.{version_is, refused_there}
use Rattle.gm_member.proofs.Fit.{IsFit}
use Rattle.gm_member.proofs.PublishStands.{publish_stands}
use Rattle.gm_member.proofs.PutStands.{leaving, put_refuses, put_stands}
use Rattle.gm_member.proofs.GainStands.{regained_on, gain_stands}
use Rattle.gm_member.proofs.StopStands.{stop_stands}
use Rattle.gm_member.proofs.Others.{publish_others, put_others, gain_others, stop_others}
use Rattle.gm_member.proofs.Refusals.{gain_refusal_is}
use Rattle.ring_parties.specs.Ends.{PacketShown, end_items}
use Rattle.ring_parties.specs.Parties.{Keeps}
use Rattle.ring_parties.specs.Keeps.{keeps_of, said_by, saying_refused, publishing}
use Rattle.ring_parties.specs.Acting.{sent_of}
use Rattle.ring_parties.specs.RoundActs.{Stamped, push, pop, things}
use Rattle.ring_parties.specs.Round.{Seat, Deed, NoActs, Sits, Configuration, IsIn}
use Rattle.ring_parties.proofs.standing.Frames.{SameWays, same_of, member_ways, link_ways, ways_both, end_put}
use Rattle.ring_parties.proofs.events.Says.{said_same, refused_same, said_is}
use Rattle.ring_parties.proofs.events.CastGoes.{cast_packets}
use Rattle.ring_parties.proofs.events.PutGoes.{put_items, put_sent}
use Rattle.ring_parties.proofs.events.OneEvent.{found_does, made_of}
use Rattle.ring_parties.proofs.events.Steps.{Leaves, ways_leave}
use Rattle.ring_parties.proofs.keeping.Going.{Changed, same_members, same_stopped, published_changed}
use Rattle.ring_parties.proofs.rounds.Acts.{done_other, pushed_there, popped_there, things-push}
use Rattle.ring_parties.proofs.rounds.Seats.{Turn, sits_there, held_there, speaks_there, items_still, grants_still, keeps_still, items_logs, items_by, grants_by, ways_after, GoesAs, goes_to}

module _ (credit : CreditSpec) (w : World) (post : List ℕ) (x t : ℕ) (d : Deed) (m : Seat) (a b : Configuration) (turn : Turn credit w post x t d m a b) where
  fit : IsFit w
  fit = turn.lawful.fit

  lt : x < size w
  lt = turn.is_member

  h : IsIn w post a
  h = turn.before

  me : Sits w post x (a.seats x)
  me = sits_there credit w post x t d m a b turn

  still_items : d.there ≡ [] → (s : ℕ) → b.items s ≡ a.items s
  still_items = items_still credit w post x t d m a b turn

  still_grants : d.back ≡ [] → (s : ℕ) → b.grants s ≡ a.grants s
  still_grants = grants_still credit w post x t d m a b turn

  -- ---- it says something

  pub says_step : (s : Saying) (msg : Message) → up_refused (a.seats x).held (saying_refused s (a.seats x).held (a.seats x).keeps) ≡ None → said_by s (a.seats x).held (a.seats x).keeps ≡ Ok msg
      → m ≡ record (a.seats x) { held = published_held (a.seats x).held msg; keeps = publishing msg (a.seats x).held.view.version (a.seats x).keeps } → NoActs d → GoesAs w post x (Says s) b
  says_step s msg ok says is none =
      let g : Held = (a.seats x).held in
      let k : Keeps = (a.seats x).keeps in
      let there = speaks_there credit w post x t d m a b turn in
      let w' : World = publish_at w x msg in
      let ways : SameWays w w' = member_ways w x (published x msg (member_at w x)) lt refl refl refl in
      let version : g.view.version ≡ (member_at w x).version = ap (λ (j : Held). j.view.version) me.held ∙ version_is w x fit in
      let kept : Keeps = publishing msg g.view.version k in
      let is_kept : kept ≡ publishing msg (member_at w x).version (keeps_of w x) = ap (λ v. publishing msg v k) version ∙ ap (publishing msg (member_at w x).version) me.keeps in
      goes_to w w' post x (Says s) b
      (sym (ap (λ (j : Held). up_refused j (saying_refusal w x s)) me.held) ∙ sym (ap (up_refused g) (refused_same w x g k there s)) ∙ ok)
      (said_is w x msg s (sym (said_same w x g k there s) ∙ says))
      (ways_after w w' post x t d kept m a b (record { does = λ (j : Held). published_held j msg; but_door = λ j ds. refl; stands = publish_stands w x msg fit turn.some lt }) h turn.moves ways (λ y ne. publish_others w x y msg fit lt ne)
      (subst (Changed w w' x) (sym is_kept) (published_changed w x msg fit lt)) me is
      (λ j over. ap things (still_items none.0 j) ∙ h.items j over ∙ sym (ap (λ ks. ks ++ end_items (link_at w j).ending) (cast_packets w x msg (link_at w j).had (link_at w j).packets lt (λ p. fit.lawful.within.packets j p))))
      (λ j. ap things (still_grants none.1 j) ∙ h.grants j))
      (ways_leave w w' x ways)

  -- ---- a put

  pub put_step : (out : Outgoing) (s stamp : ℕ) → (a.seats x).held.out ≡ Some out → (a.seats x).out ≡ Some s → put_refused (a.seats x).held ≡ None → m ≡ record (a.seats x) { held = put_held (a.seats x).held }
      → d.there ≡ (s, push (record { stamp = stamp; it = Some (sent_of (packet_on (a.seats x).held.view.version (a.seats x).held.known out)) })) ∷ [] → d.back ≡ [] → GoesAs w post x (Steps step.Put) b
  put_step out s stamp held_out on ok is there back =
      let g : Held = (a.seats x).held in
      let k : PacketShown = sent_of (packet_on g.view.version g.known out) in
      let z : Stamped (Option PacketShown) = record { stamp = stamp; it = Some k } in
      let sends : (member_at w x).out ≡ Some s = sym me.out ∙ on in
      let sl : s < length w.links = (fit.own_ends.out x s sends).0 in
      let w' : World = put_in w x s in
      let l : Link = pushed (link_at w s) (leaving w x s) in
      let ways : SameWays w w' = link_ways w s l sl refl in
      let enabled : refused_as w x (Steps step.Put) ≡ None = sym (put_refuses w x fit) ∙ sym (ap put_refused me.held) ∙ ok in
      let up : (member_at w x).phase ≡ Up = up_phase w x _ enabled in
      let goes_on : (link_at w s).ending ≡ None = (fit.ends.sends x s (ap runs_phase up) sends).goes_on in
      let same : outgoing_in w s ≡ out = made_of (outgoing_in w) (member_at w x).out s out sends (sym (ap (λ (j : Held). j.out) me.held) ∙ held_out) in
      let its = put_sent w x s g out fit turn.some lt up sends (held_there credit w post x t d m a b turn) same in
      let now : link_at w' s ≡ l = get_or-set_same w.links s l no_link sl in
      let others : (j : ℕ) → j ≢ s → link_at w' j ≡ link_at w j = λ j ne. get_or-set_other w.links s j l no_link ne in
      goes_to w w' post x (Steps step.Put) b enabled
      (found_does (member_at w x).out s w (put_in w x) sends)
      (ways_after w w' post x t d (a.seats x).keeps m a b (record { does = λ (j : Held). put_held j; but_door = λ j ds. refl; stands = put_stands w x s fit turn.some lt sends }) h turn.moves ways (λ y ne. put_others w x s y fit sends ne)
      (keeps_still w w' post x (a.seats x) (same_members w w' refl) me) me is
      (items_by w w' s l a b (λ p. refl) now others (λ j ne. done_other t s j (push z) d.there (a.items j) (b.items j) there ne (turn.moves.items j)) h.items
      (λ over.
      ap things (pushed_there t s z d.there (a.items s) (b.items s) there (turn.moves.items s)) ∙ things-push (a.items s) z
      ∙ ap (λ xs. xs ++ Some k ∷ []) (h.items s over) ∙ put_items w (link_at w s) k (leaving w x s) goes_on (fit.compact.before s) its))
      (grants_by w w' s l a b now others (λ j _. still_grants back j) h.grants (ap things (still_grants back s) ∙ h.grants s)))
      (ways_leave w w' x ways)

  -- ---- a gain

  pub gain_step : (s stamp amount : ℕ) → (a.seats x).out ≡ Some s → gain_refused (a.seats x).held ≡ None → m ≡ record (a.seats x) { held = gained_held (a.seats x).held amount }
      → d.there ≡ [] → d.back ≡ (s, pop (record { stamp = stamp; it = amount })) ∷ [] → GoesAs w post x (Steps step.Gain) b
  gain_step s stamp amount on ok is there back =
      let z : Stamped ℕ = record { stamp = stamp; it = amount } in
      let sends : (member_at w x).out ≡ Some s = sym me.out ∙ on in
      let sl : s < length w.links = (fit.own_ends.out x s sends).0 in
      let w' : World = gain_on w s in
      let l : Link = regained_on w s in
      let ways : SameWays w w' = link_ways w s l sl refl in
      let holds : (link_at w s).flow.grants ≡ amount ∷ things (b.grants s) = sym (h.grants s) ∙ ap things (popped_there t s z d.back (a.grants s) (b.grants s) back (turn.moves.grants s)) in
      let some_there : (o : ℕ) → (member_at w x).out ≡ Some o → gain_refusal w o ≡ None =
      λ o eo. (let both : Some s ≡ Some o = sym sends ∙ eo in let same : s ≡ o = cc in subst (λ k. gain_refusal w k ≡ None) same (ap (λ gs. refuse_if (is_empty gs) reason.NoGrant) holds)) in
      let now : link_at w' s ≡ l = get_or-set_same w.links s l no_link sl in
      let others : (j : ℕ) → j ≢ s → link_at w' j ≡ link_at w j = λ j ne. get_or-set_other w.links s j l no_link ne in
      goes_to w w' post x (Steps step.Gain) b
      (sym (refused_there w x (event.Gain (member_at w x).name) (fit.named x turn.some lt)) ∙ sym (gain_refusal_is w x None fit turn.some lt some_there) ∙ sym (ap gain_refused me.held) ∙ ok)
      (found_does (member_at w x).out s w (gain_on w) sends)
      (ways_after w w' post x t d (a.seats x).keeps m a b
      (record { does = λ (k : Held). gained_held k amount; but_door = λ k ds. refl; stands = ap (λ n. gained_held (held_in w x) n) (sym (ap oldest_grant holds)) ∙ gain_stands w x s fit sends }) h turn.moves ways (λ y ne. gain_others w x s y fit sends ne)
      (keeps_still w w' post x (a.seats x) (same_members w w' refl) me) me is
      (items_by w w' s l a b (λ p. refl) now others (λ j _. still_items there j) h.items (λ over. ap things (still_items there s) ∙ h.items s over))
      (grants_by w w' s l a b now others (λ j ne. done_other t s j (pop z) d.back (a.grants j) (b.grants j) back ne (turn.moves.grants j)) h.grants (ap (drop 1) (sym holds))))
      (ways_leave w w' x ways)

  -- ---- a stop

  -- with and without a link on which it sends, which then ends
  stop_goes_on : (o : Option ℕ) → (member_at w x).out ≡ o → runs w x ≡ true → (stamp : ℕ) → d.there ≡ at_some o [] (λ s. (s, push (record { stamp = stamp; it = None })) ∷ []) → d.back ≡ [] → m ≡ record (a.seats x) { held = stopped_held (a.seats x).held }
      → Changed w (end_out Halted (stop_at w x) o) x (a.seats x).keeps → IsIn (end_out Halted (stop_at w x) o) post b × Leaves w (end_out Halted (stop_at w x) o) x
  stop_goes_on None e run stamp there back is keeps =
      let w' : World = stop_at w x in
      let ways : SameWays w w' = member_ways w x (stopped (member_at w x)) lt refl refl refl in
      let logs : (p : ℕ) → log_of w' p ≡ log_of w p = same_of (λ (z : Member). z.log) w x (stopped (member_at w x)) lt refl in (
        ways_after w w' post x t d (a.seats x).keeps m a b
            (record { does = λ (g : Held). stopped_held g; but_door = λ g ds. refl; stands = stop_stands w x fit lt ∙ ap (λ c. held_in (end_out Halted (stop_at w x) c) x) e }) h turn.moves ways
            (λ y ne. stop_others w x y fit ne ∙ ap (λ c. held_in (end_out Halted (stop_at w x) c) y) e) keeps me is
            (λ s over. ap things (still_items there s) ∙ h.items s over ∙ sym (items_logs w w' (link_at w s) logs))
            (λ s. ap things (still_grants back s) ∙ h.grants s),
        ways_leave w w' x ways,
      )
  stop_goes_on (Some s) e run stamp there back is keeps =
      let w1 : World = stop_at w x in
      let w' : World = end_out Halted w1 (Some s) in
      let l : Link = ended Halted (link_at w s) in
      let z : Stamped (Option PacketShown) = record { stamp = stamp; it = None } in
      let sl : s < length w.links = (fit.own_ends.out x s e).0 in
      let goes_on : (link_at w s).ending ≡ None = (fit.ends.sends x s run e).goes_on in
      let ended_now : is_some l.ending ≡ true = ap (λ c. is_some (ended_so Halted c)) goes_on in
      let ways : SameWays w w' = ways_both w w1 w' (member_ways w x (stopped (member_at w x)) lt refl refl refl) (link_ways w1 s l sl refl) in
      let logs : (p : ℕ) → log_of w' p ≡ log_of w p = same_of (λ (z : Member). z.log) w x (stopped (member_at w x)) lt refl in
      let now : link_at w' s ≡ l = get_or-set_same w.links s l no_link sl in
      let others : (j : ℕ) → j ≢ s → link_at w' j ≡ link_at w j = λ j ne. get_or-set_other w.links s j l no_link ne in (
        ways_after w w' post x t d (a.seats x).keeps m a b
            (record { does = λ (g : Held). stopped_held g; but_door = λ g ds. refl; stands = stop_stands w x fit lt ∙ ap (λ c. held_in (end_out Halted (stop_at w x) c) x) e }) h turn.moves ways
            (λ y ne. stop_others w x y fit ne ∙ ap (λ c. held_in (end_out Halted (stop_at w x) c) y) e) keeps me is
            (items_by w w' s l a b logs now others (λ j ne. done_other t s j (push z) d.there (a.items j) (b.items j) there ne (turn.moves.items j)) h.items
            (λ over. ap things (pushed_there t s z d.there (a.items s) (b.items s) there (turn.moves.items s)) ∙ things-push (a.items s) z ∙ ap (λ xs. xs ++ None ∷ []) (h.items s over) ∙ end_put w (link_at w s) l goes_on refl ended_now))
            (grants_by w w' s l a b now others (λ j _. still_grants back j) h.grants (ap things (still_grants back s) ∙ h.grants s)),
        ways_leave w w' x ways,
      )

  pub stop_step : (stamp : ℕ) → active_refused (a.seats x).held None ≡ None → m ≡ record (a.seats x) { held = stopped_held (a.seats x).held }
      → d.there ≡ at_some (a.seats x).out [] (λ s. (s, push (record { stamp = stamp; it = None })) ∷ []) → d.back ≡ [] → GoesAs w post x Stops b
  stop_step stamp ok is there back =
      let w' : World = end_out Halted (stop_at w x) (member_at w x).out in
      let enabled : refused_as w x Stops ≡ None = sym (ap (λ (g : Held). active_refused g None) me.held) ∙ ok in
      let run : runs w x ≡ true = running_runs w x None enabled in
      let after = stop_goes_on (member_at w x).out refl run stamp (there ∙ ap (λ o. at_some o [] (λ s. (s, push (record { stamp = stamp; it = None })) ∷ [])) me.out) back is
      (keeps_still w w' post x (a.seats x) (same_stopped w x) me) in
      goes_to w w' post x Stops b enabled refl after.0 after.1
