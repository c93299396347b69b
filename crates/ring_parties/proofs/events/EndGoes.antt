-- Where a member has taken its link to its end, the parties stand in the state after that.
use Rattle.std.proofs.Common.{◌≡◌, ◌≢◌, nat_eq, ℕ, ◌+◌, ◌<◌, true, false, length, Option, Some, None, refl, sym, ap, subst, ◌∙◌, ⊎_elim}
use Rattle.std.specs.Prelude.{◌||◌, option_map}
use Rattle.std.specs.List.{filter, range_with_len}
use Rattle.std.proofs.lemmas.Bool.{false≢true, cases_eq}
use Rattle.std.proofs.lemmas.List.{length-set, get_or-set_same}
use Rattle.ring_names.specs.declared.numbers.CreditSpec.{CreditSpec}
use Rattle.ring_names.specs.declared.reason.Reason.TheVariants as reason
use Rattle.group_view.specs.declared.link.LinkName.{LinkName}
use Rattle.ring_rules.specs.declared.kind.LinkStep.TheVariants as step
use Rattle.ring_rules.specs.Kind.{Steps}
use Rattle.ring_rules.specs.Machine.{World, Link, Member, no_link, member_at, link_at}
use Rattle.ring_rules.specs.OpenLinks.{is_place, is_current}
use Rattle.ring_rules.specs.Step.{size, with_current, finished, leave_link}
use Rattle.ring_rules.specs.Event.{running_refusal, on_link, end_refusal, refused_as, done_as}
use Rattle.ring_rules.proofs.rings.Rounds.{nat_eq-not}
use Rattle.ring_rules.proofs.events.Enabled.{running_later}
use Rattle.gm_member.specs.Held.{Held, ended_held}
use Rattle.gm_member.specs.View.{ring_link}
use Rattle.gm_member.specs.Stands.{waits_for, door_links}
use Rattle.gm_member.proofs.Parts.{seen, waits_seen, current_waits_not, over_waits_not}
use Rattle.gm_member.proofs.DoorParts.{member_same, member_other}
use Rattle.gm_member.proofs.EndStands.{end_other, end_stands, waits_without}
use Rattle.gm_member.proofs.Others.{end_others}
use Rattle.ring_parties.specs.Ends.{OutSeen}
use Rattle.ring_parties.specs.Parties.{Shown, Parties, node_at, with_node, Keeps}
use Rattle.ring_parties.specs.Standing.{Places, MemberStands, Stand, has_in}
use Rattle.ring_parties.specs.Acting.{Acts}
use Rattle.ring_parties.proofs.work.Lawful.{IsLawfulAt}
use Rattle.ring_parties.proofs.standing.Frames.{same_of, same_link_of, same_filter, carries_same, goes_stands, StandMoved}
use Rattle.ring_parties.proofs.events.OneEvent.{found_does, link_there, stands_at}
use Rattle.ring_parties.proofs.events.Steps.{Leaves, goes_so, same_phases, taken_waits_not, steps}

-- with x's current link s
module _ (credit : CreditSpec) (w : World) (x s : ℕ) (h : IsLawfulAt credit w) (lt : x < size w) (is : (member_at w x).current ≡ Some s) where
  sl : s < length w.links
  sl = (h.fit.own_ends.current x s is).0

  to : (link_at w s).receiver ≡ x
  to = (h.fit.own_ends.current x s is).1

  now : member_at (leave_link w x s) x ≡ with_current None (member_at w x)
  now = member_same w x (with_current None (member_at w x)) lt

  other : (y : ℕ) → y ≢ x → member_at (leave_link w x s) y ≡ member_at w y
  other y ne = member_other w x y (with_current None (member_at w x)) ne

  -- what each link has but for its end
  pub end_same : {A : Type 0} (f : Link → A) → f (finished (link_at w s)) ≡ f (link_at w s) → (j : ℕ) → f (link_at (leave_link w x s) j) ≡ f (link_at w j)
  end_same f e j = same_link_of f w s (finished (link_at w s)) sl e j

  pub end_outs : (y : ℕ) → (member_at (leave_link w x s) y).out ≡ (member_at w y).out
  end_outs y = same_of (λ (z : Member). z.out) w x (with_current None (member_at w x)) lt refl y

  -- nothing comes to a door, and nothing goes
  at_it : (y : ℕ) → waits_for (leave_link w x s) y s ≡ waits_for w y s
  at_it y =
      over_waits_not (leave_link w x s) y s (ap (λ (l : Link). l.over) (get_or-set_same w.links s (finished (link_at w s)) no_link sl))
      ∙ sym (taken_waits_not w x y s h.fit.own_ends is)

  elsewhere : (y j : ℕ) → j ≢ s → waits_for (leave_link w x s) y j ≡ waits_for w y j
  elsewhere y j apart = ⊎_elim
      (λ (same : y ≡ x). subst (λ k. waits_for (leave_link w x s) k j ≡ waits_for w k j) (sym same)
      (ap (λ (z : Member). waits_seen w.views z.current z.version x j (seen (link_at (leave_link w x s) j))) now
      ∙ ap (λ l. waits_seen w.views None (member_at w x).version x j (seen l)) (end_other w x s j apart)
      ∙ waits_without w.views (member_at w x).version x s j (seen (link_at w j)) apart
      ∙ ap (λ c. waits_seen w.views c (member_at w x).version x j (seen (link_at w j))) (sym is)))
      (λ (ne : y ≢ x).
      ap (λ (z : Member). waits_seen w.views z.current z.version y j (seen (link_at (leave_link w x s) j))) (other y ne)
      ∙ ap (λ l. waits_seen w.views (member_at w y).current (member_at w y).version y j (seen l)) (end_other w x s j apart))
      (cases_eq y x)

  end_waits : (y j : ℕ) → waits_for (leave_link w x s) y j ≡ waits_for w y j
  end_waits y j = ⊎_elim (λ (same : j ≡ s). subst (λ k. waits_for (leave_link w x s) y k ≡ waits_for w y k) (sym same) (at_it y)) (elsewhere y j) (cases_eq j s)

  pub end_doors : (y : ℕ) → door_links (leave_link w x s) y ≡ door_links w y
  end_doors y =
      ap (λ n. filter (waits_for (leave_link w x s) y) (range_with_len 0 n)) (length-set w.links s (finished (link_at w s)))
      ∙ same_filter (waits_for (leave_link w x s) y) (waits_for w y) (range_with_len 0 (length w.links)) (end_waits y)

  -- the link that was left is open no more
  pub end_apart : (j : ℕ) → has_in (leave_link w x s) j ≡ true → j ≢ s
  end_apart j has same = false≢true (sym closed ∙ sym (ap (has_in (leave_link w x s)) same) ∙ has)
    where
      closed : has_in (leave_link w x s) s ≡ false
      closed =
          ap (λ y. is_current (leave_link w x s) y s || waits_for (leave_link w x s) y s) (end_same (λ (l : Link). l.receiver) refl s ∙ to)
          ∙ ap (λ (z : Member). is_place z.current s || waits_for (leave_link w x s) x s) now
          ∙ end_waits x s ∙ current_waits_not w x s is

  -- and the others as before
  end_current : (y j : ℕ) → j ≢ s → is_current (leave_link w x s) y j ≡ is_current w y j
  end_current y j apart = ⊎_elim
      (λ (same : y ≡ x).
      ap (λ k. is_current (leave_link w x s) k j) same ∙ ap (λ (z : Member). is_place z.current j) now
      ∙ sym (nat_eq-not s j (λ e. apart (sym e))) ∙ ap (λ c. is_place c j) (sym is) ∙ ap (λ k. is_current w k j) (sym same))
      (λ (ne : y ≢ x). ap (λ (z : Member). is_place z.current j) (other y ne))
      (cases_eq y x)

  end_open : (j : ℕ) → j ≢ s → has_in (leave_link w x s) j ≡ has_in w j
  end_open j apart =
      ap (λ y. is_current (leave_link w x s) y j || waits_for (leave_link w x s) y j) (end_same (λ (l : Link). l.receiver) refl j)
      ∙ ap (λ b. b || waits_for (leave_link w x s) (link_at w j).receiver j) (end_current (link_at w j).receiver j apart)
      ∙ ap (λ b. is_current w (link_at w j).receiver j || b) (end_waits (link_at w j).receiver j)

  pub end_leaves : Leaves w (leave_link w x s) x
  end_leaves = record {
    size_is = length-set w.members x (with_current None (member_at w x));
    many = length-set w.links s (finished (link_at w s));
    views = refl;
    names = end_same (λ (l : Link). ring_link l.sender l.receiver l.opened) refl;
    has_outs = λ j. ap (λ y. is_place (member_at (leave_link w x s) y).out j) (end_same (λ (l : Link). l.sender) refl j) ∙ ap (λ o. is_place o j) (end_outs (link_at w j).sender);
    opens = λ j has. sym (end_open j (end_apart j has)) ∙ has;
    outs = λ y _. end_outs y;
    currents = λ y ne. ap (λ (z : Member). z.current) (other y ne);
    doors = λ y _. end_doors y;
    keeps = λ j has e. absurd (end_apart j has (let both : Some j ≡ Some s = sym e ∙ is in cc));
  }

  -- x stands then without that link
  pub end_it : (p : Places) (a b : Shown) → b ≡ record { held = ended_held a.held; ends = record a.ends { link = None } } → MemberStands w p x a → MemberStands (leave_link w x s) p x b
  end_it p a b e m = goes_stands w (leave_link w x s) p p x a b a.ends.out None
      (record { doors = end_doors x; to = λ j. ap (λ r. nat_eq r x) (end_same (λ (l : Link). l.receiver) refl j); deposits = refl; ins = λ j _. refl })
      (record { does = λ (g : Held). ended_held g; but_door = λ g ds. refl; stands = end_stands w x s h.fit lt is; is = e })
      (m.out ∙ ap (option_map p.outs) (sym (end_outs x))) (ap (λ (z : Member). option_map p.ins z.current) (sym now)) m

-- ---- the parties

pub end_goes : (credit : CreditSpec) (w : World) (keeps : Keeps) (i d : ℕ) (q q' : Parties) (replaced : Option (LinkName × OutSeen)) → IsLawfulAt credit w → refused_as w (i + 1) (Steps step.TakeEnd) ≡ None → i + 1 < size w → Stand credit.initial w q → Acts (Steps step.TakeEnd) keeps i d q q' replaced → StandMoved credit.initial (i + 1) (done_as w (i + 1) (Steps step.TakeEnd)) q' replaced
end_goes credit w keeps i d q q' replaced h enabled lt st (b, (n, rest, ends_link, next, eb), is, none) =
    let x : ℕ = i + 1 in
    let p : Places = st.places in
    let acts : running_refusal w x (on_link (member_at w x).current reason.NoCurrentLink (end_refusal w)) ≡ None = enabled in
    let there = link_there (member_at w x).current reason.NoCurrentLink (end_refusal w) (running_later w x _ acts) in
    let s : ℕ = there.0 in
    let current : (member_at w x).current ≡ Some s = there.1 in
    let w' : World = leave_link w x s in
    let does : done_as w x (Steps step.TakeEnd) ≡ w' = found_does (member_at w x).current s w (leave_link w x) current in
    goes_so credit.initial x w' (done_as w x (Steps step.TakeEnd)) (with_node q i b) q' replaced does is none
    (steps credit w w' q q.stopped p i b st h lt (record {
      leaves = end_leaves credit w x s h lt current;
      deposits = refl;
      it = end_it credit w x s h lt current p (node_at q i) b eb (stands_at credit.initial w q p i st.stand lt);
      held = λ y ne. end_others w x s y h.fit current ne;
      notices = record { told = same_phases w x (with_current None (member_at w x)) q.stopped lt refl; none_told = λ y _ r. r };
      outs = λ j _. refl;
      ins = λ j _. refl;
      carry = λ j has c. carries_same credit.initial w w' j (p.outs j) (p.ins j) (same_of (λ (z : Member). z.log) w x (with_current None (member_at w x)) lt refl) (end_other w x s j (end_apart credit w x s h lt current j has)) c;
      rests = λ j o r. r;
      knows = λ j _. (refl, end_same credit w x s h lt current (λ (l : Link). l.flow.grants) refl j);
    }))
