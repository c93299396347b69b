-- Where a member has picked a link at its door, and none waits for it at the registrar, the parties stand in the state after the ring's pick.
use Rattle.std.proofs.Common.{◌≡◌, ◌≢◌, nat_eq, ℕ, ◌+◌, ◌<◌, Bool, true, false, not, [], ◌++◌, length, map, get_or, Option, Some, None, is_some, refl, sym, ap, ◌∙◌, ⊎_elim, append-nil}
use Rattle.std.specs.Prelude.{◌&&◌, ◌||◌, option_map}
use Rattle.std.specs.List.{filter, range_with_len}
use Rattle.std.proofs.lemmas.Bool.{cases_eq}
use Rattle.std.proofs.lemmas.List.{length-set, get_or-map}
use Rattle.std.proofs.lemmas.List.Quantifiers.{position-Some}
use Rattle.ring_names.specs.declared.numbers.CreditSpec.{CreditSpec}
use Rattle.ring_names.specs.declared.reason.Reason.TheVariants as reason
use Rattle.group_view.specs.declared.link.LinkName.{LinkName}
use Rattle.group_view.proofs.Truth.{none_there}
use Rattle.ring_rules.specs.declared.kind.LinkStep.TheVariants as step
use Rattle.ring_rules.specs.Kind.{Steps}
use Rattle.ring_rules.specs.Refusal.{refuse_if, or_else}
use Rattle.ring_rules.specs.Machine.{World, Member, no_link, member_at, link_at}
use Rattle.ring_rules.specs.OpenLinks.{is_place, is_current}
use Rattle.ring_rules.specs.Step.{size, with_current, current_is}
use Rattle.ring_rules.specs.Event.{up_refusal, pick_refusal, is_at_door, at_door, refused_as, done_as}
use Rattle.ring_rules.proofs.rings.Rounds.{nat_eq-is}
use Rattle.ring_rules.proofs.events.Enabled.{up_later}
use Rattle.ring_rules.proofs.events.Refusals.{none_of}
use Rattle.gm_member.specs.Held.{first_at_door, picked_held, without}
use Rattle.gm_member.specs.Stands.{held_in, incoming_in, waits_for, door_links}
use Rattle.gm_member.proofs.Parts.{waits_seen}
use Rattle.gm_member.proofs.DoorLists.{filter_without}
use Rattle.gm_member.proofs.DoorParts.{without_made, member_same, member_other}
use Rattle.gm_member.proofs.Doors.{pickable_is_door}
use Rattle.gm_member.proofs.PickStands.{PicksAt, picked_waits, picks_some, pick_stands, door_link}
use Rattle.gm_member.proofs.Others.{member_others}
use Rattle.ring_parties.specs.Ends.{OutSeen}
use Rattle.ring_parties.specs.Parties.{Shown, Parties, Deposit, node_at, with_node, Keeps}
use Rattle.ring_parties.specs.Standing.{Places, MemberStands, Stand, is_to, has_in}
use Rattle.ring_parties.specs.Acting.{Acts}
use Rattle.ring_parties.proofs.work.Lawful.{IsLawfulAt}
use Rattle.ring_parties.proofs.standing.Frames.{way, way_seen, same_of, same_filter, carries_logs, StandMoved}
use Rattle.ring_parties.proofs.standing.Lookers.{whole_door, whole_held}
use Rattle.ring_parties.proofs.events.Refreshing.{none_waits}
use Rattle.ring_parties.proofs.events.OneEvent.{found_does, stands_at}
use Rattle.ring_parties.proofs.events.Steps.{Leaves, goes_so, same_phases, steps}

-- ---- no link waits for a member at the registrar

abbrev pub NoneDeposited : Parties → ℕ → Type 0
NoneDeposited q x = filter (λ (k : Deposit). nat_eq k.name.to.0 x) q.deposits ≡ []

-- ---- what waits after a pick

-- x, which takes from no link, takes from s, which stood at its door
module _ (w : World) (x s : ℕ) (lt : x < size w) (none : (member_at w x).current ≡ None) (here : waits_for w x s ≡ true) where
  now : member_at (current_is w x (Some s)) x ≡ with_current (Some s) (member_at w x)
  now = member_same w x (with_current (Some s) (member_at w x)) lt

  other : (y : ℕ) → y ≢ x → member_at (current_is w x (Some s)) y ≡ member_at w y
  other y ne = member_other w x y (with_current (Some s) (member_at w x)) ne

  pub pick_outs : (y : ℕ) → (member_at (current_is w x (Some s)) y).out ≡ (member_at w y).out
  pick_outs y = same_of (λ (z : Member). z.out) w x (with_current (Some s) (member_at w x)) lt refl y

  pub pick_waits : (k : ℕ) → waits_for (current_is w x (Some s)) x k ≡ (waits_for w x k && not (nat_eq s k))
  pick_waits = picked_waits w x s lt none

  pub pick_door : (i : ℕ) → i < length (door_links w x) → get_or (door_links w x) i 0 ≡ s → door_links (current_is w x (Some s)) x ≡ without i (door_links w x)
  pick_door i there e =
      same_filter (waits_for (current_is w x (Some s)) x) (λ k. waits_for w x k && not (nat_eq s k)) (range_with_len 0 (length w.links)) pick_waits
      ∙ filter_without (waits_for w x) s 0 (length w.links) i there e

  pub pick_other_waits : (y j : ℕ) → y ≢ x → waits_for (current_is w x (Some s)) y j ≡ waits_for w y j
  pick_other_waits y j ne = ap (λ (z : Member). waits_seen w.views z.current z.version y j (way_seen (way (link_at w j)))) (other y ne)

  pub pick_other_door : (y : ℕ) → y ≢ x → door_links (current_is w x (Some s)) y ≡ door_links w y
  pick_other_door y ne = same_filter (waits_for (current_is w x (Some s)) y) (waits_for w y) (range_with_len 0 (length w.links)) (λ j. pick_other_waits y j ne)

  -- the same links are open
  pub pick_open : (j : ℕ) → has_in (current_is w x (Some s)) j ≡ has_in w j
  pick_open j = ⊎_elim
      (λ (is : (link_at w j).receiver ≡ x).
      ap (λ y. is_current (current_is w x (Some s)) y j || waits_for (current_is w x (Some s)) y j) is
      ∙ ap (λ (z : Member). is_place z.current j || waits_for (current_is w x (Some s)) x j) now
      ∙ ap (λ b. nat_eq s j || b) (pick_waits j)
      ∙ tests (nat_eq s j) (waits_for w x j) (λ e. ap (waits_for w x) (sym (nat_eq-is s j e)) ∙ here)
      ∙ ap (λ c. is_place c j || waits_for w x j) (sym none)
      ∙ ap (λ y. is_current w y j || waits_for w y j) (sym is))
      (λ (ne : (link_at w j).receiver ≢ x).
      ap (λ (z : Member). is_place z.current j || waits_for (current_is w x (Some s)) (link_at w j).receiver j) (other (link_at w j).receiver ne)
      ∙ ap (λ b. is_current w (link_at w j).receiver j || b) (pick_other_waits (link_at w j).receiver j ne))
      (cases_eq (link_at w j).receiver x)
    where
      tests : (b c : Bool) → (b ≡ true → c ≡ true) → (b || (c && not b)) ≡ c
      tests true c k = sym (k refl)
      tests false true k = refl
      tests false false k = refl

  pub pick_leaves : Leaves w (current_is w x (Some s)) x
  pick_leaves = record {
    size_is = length-set w.members x (with_current (Some s) (member_at w x));
    many = refl;
    views = refl;
    names = λ j. refl;
    has_outs = λ j. ap (λ o. is_place o j) (pick_outs (link_at w j).sender);
    opens = λ j has. sym (pick_open j) ∙ has;
    outs = λ y _. pick_outs y;
    currents = λ y ne. ap (λ (z : Member). z.current) (other y ne);
    doors = pick_other_door;
    keeps = λ j has e. (let both : Some j ≡ None = sym e ∙ none in cc);
  }

-- ---- the parties

-- the link that is picked stood at the door
pub door_waits : (w : World) (x s : ℕ) (credit : CreditSpec) → IsLawfulAt credit w → (member_at w x).current ≡ None → at_door w x ≡ Some s → waits_for w x s ≡ true
door_waits w x s credit h none e =
    let found = position-Some (is_at_door w x) w.links s no_link e in
    (pickable_is_door w x s h.fit.good found.0 (ap (λ c. is_place c s) none) found.1).0

pick_it : (w : World) (p : Places) (x i : ℕ) (a b : Shown) (credit : CreditSpec) → IsLawfulAt credit w → x < size w → (member_at w x).current ≡ None → first_at_door (held_in w x) ≡ Some i → filter (is_to w x) p.deposits ≡ []
    → MemberStands w p x a → b ≡ record { held = picked_held a.held; ends = record a.ends { link = get_or a.ends.door i None; door = without i a.ends.door } } → MemberStands (current_is w x (Some (door_link w x i))) p x b
pick_it w p x i a b credit h lt none first nobody m e =
    let s : ℕ = door_link w x i in
    let w' : World = current_is w x (Some s) in
    let at : PicksAt w x i = picks_some w x i h.fit.good none first in
    let here : waits_for w x s ≡ true = door_waits w x s credit h none at.found in
    let doors : door_links w' x ≡ without i (door_links w x) = pick_door w x s lt none here i at.there refl in
    let mine : m.door ≡ door_links w x = sym (whole_door w p x a m nobody) in
    let gone : member_at w' x ≡ with_current (Some s) (member_at w x) = member_same w x (with_current (Some s) (member_at w x)) lt in
    let ends : a.ends.door ≡ map (λ j. Some (p.ins j)) (door_links w x) = m.ends ∙ ap (map (λ j. Some (p.ins j))) mine in
    record {
      door = without i (door_links w x);
      comes = doors ∙ sym (append-nil (without i (door_links w x))) ∙ ap (λ xs. without i (door_links w x) ++ xs) (sym nobody);
      held =
          ap (λ (g : Shown). g.held) e ∙ ap picked_held (whole_held w p x a m nobody) ∙ pick_stands w x i lt h.fit.good none first
          ∙ ap (λ ds. record (held_in w' x) { door = map (incoming_in w') ds }) doors;
      out = ap (λ (g : Shown). g.ends.out) e ∙ m.out ∙ ap (option_map p.outs) (sym (pick_outs w x s lt none here x));
      returned = ap (λ (g : Shown). g.ends.returned) e ∙ m.returned;
      link =
          ap (λ (g : Shown). g.ends.link) e ∙ ap (λ ds. get_or ds i None) ends ∙ get_or-map (λ j. Some (p.ins j)) (door_links w x) i 0 None at.there
          ∙ ap (λ (z : Member). option_map p.ins z.current) (sym gone);
      ends = ap (λ (g : Shown). g.ends.door) e ∙ ap (without i) ends ∙ without_made (λ j. Some (p.ins j)) i (door_links w x);
      old_outs = ap (λ (g : Shown). g.ends.old_outs) e ∙ m.old_outs;
      old_ins = ap (λ (g : Shown). g.ends.old_ins) e ∙ m.old_ins;
    }

pub pick_goes : (credit : CreditSpec) (w : World) (keeps : Keeps) (i d : ℕ) (q q' : Parties) (replaced : Option (LinkName × OutSeen)) → IsLawfulAt credit w → refused_as w (i + 1) (Steps step.Pick) ≡ None → i + 1 < size w → NoneDeposited q (i + 1) → Stand credit.initial w q → Acts (Steps step.Pick) keeps i d q q' replaced → StandMoved credit.initial (i + 1) (done_as w (i + 1) (Steps step.Pick)) q' replaced
pick_goes credit w keeps i d q q' replaced h enabled lt nobody st (b, (j, first, eb), is, none_replaced) =
    let x : ℕ = i + 1 in
    let p : Places = st.places in
    let a : MemberStands w p x (node_at q i) = stands_at credit.initial w q p i st.stand lt in
    let empty : filter (is_to w x) p.deposits ≡ [] = none_waits credit.initial w q x st nobody in
    let acts : up_refusal w x (or_else (refuse_if (is_some (member_at w x).current) reason.HasCurrentLink) (pick_refusal w x)) ≡ None = enabled in
    let none : (member_at w x).current ≡ None = none_there (member_at w x).current (none_of (is_some (member_at w x).current) reason.HasCurrentLink (pick_refusal w x) (up_later w x _ acts)).0 in
    let first_in : first_at_door (held_in w x) ≡ Some j = ap first_at_door (sym (whole_held w p x (node_at q i) a empty)) ∙ first in
    let s : ℕ = door_link w x j in
    let at : at_door w x ≡ Some s = (picks_some w x j h.fit.good none first_in).found in
    let here : waits_for w x s ≡ true = door_waits w x s credit h none at in
    let w' : World = current_is w x (Some s) in
    let does : done_as w x (Steps step.Pick) ≡ w' = found_does (at_door w x) s w (λ t. current_is w x (Some t)) at in
    goes_so credit.initial x w' (done_as w x (Steps step.Pick)) (with_node q i b) q' replaced does is none_replaced
    (steps credit w w' q q.stopped p i b st h lt (record {
      leaves = pick_leaves w x s lt none here;
      deposits = refl;
      it = pick_it w p x j (node_at q i) b credit h lt none first_in empty a eb;
      held = λ y ne. sym (member_others w x y (with_current (Some s) (member_at w x)) refl ne);
      notices = record { told = same_phases w x (with_current (Some s) (member_at w x)) q.stopped lt refl; none_told = λ y _ r. r };
      outs = λ t _. refl;
      ins = λ t _. refl;
      carry = λ t _ c. carries_logs credit.initial w w' (link_at w t) (p.outs t) (p.ins t) (same_of (λ (z : Member). z.log) w x (with_current (Some s) (member_at w x)) lt refl) c;
      rests = λ t o r. r;
      knows = λ t _. (refl, refl);
    }))
