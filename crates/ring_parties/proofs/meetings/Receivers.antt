-- The links whose out ends meet go to members: where the other end is looked for is a place among them.
use Rattle.std.proofs.Common.{◌≡◌, ℕ, ◌+◌, ◌-◌, ◌<◌, ◌≤◌, Bool, true, false, not, List, length, Option, Some, None, refl, sym, subst, ◌∙◌}
use Rattle.std.proofs.lemmas.Option.{none-some}
use Rattle.std.specs.Prelude.{option_map}
use Rattle.ring_names.specs.declared.numbers.CreditSpec.{CreditSpec}
use Rattle.group_view.specs.declared.link.LinkName.{LinkName}
use Rattle.group_view.specs.View.{Group}
use Rattle.ring_rules.specs.View.{right_of}
use Rattle.ring_rules.specs.Machine.{World, member_at, link_at}
use Rattle.ring_rules.specs.Step.{size}
use Rattle.gm_member.specs.Held.{Held, sends_to}
use Rattle.gm_member.specs.Shown.{When, out_name_of}
use Rattle.gm_member.specs.Stands.{outgoing_in}
use Rattle.ring_rules.proofs.work.OwnEnds.{OwnEnds}
use Rattle.ordered_link.specs.Names.{PairName}
use Rattle.ring_parties.specs.Ends.{OutSeen}
use Rattle.ring_parties.specs.Parties.{Shown, Parties, node_at}
use Rattle.ring_parties.specs.Standing.{Places, MemberStands, Stand, name_of}
use Rattle.ring_parties.specs.Replaced.{StandBetween}
use Rattle.ring_parties.specs.Acting.{Replacing, LooksAt}
use Rattle.ring_parties.proofs.work.Lawful.{IsLawfulAt}
use Rattle.ring_parties.proofs.standing.Placing.{GoBetween}
use Rattle.ring_parties.proofs.meetings.Joining.{out_placed, first_same}

-- a link goes to a member
abbrev pub GoesIn : World → LinkName → Type 0
GoesIn w name = (1 ≤ name.to.0) × (name.to.0 < size w)

-- that on which a member sends
pub out_goes_in : (credit : CreditSpec) (w : World) (ids : List ℕ) (q : Parties) (x : ℕ) (o : OutSeen) (name : LinkName) → IsLawfulAt credit w → GoBetween w → 1 ≤ x → x < size w → StandBetween credit.initial w ids q None → (node_at q (x - 1)).ends.out ≡ Some o → out_name_of (node_at q (x - 1)).held ≡ Some name → GoesIn w name
out_goes_in credit w ids q x o name g go a l met out named =
    let f = out_placed w credit.initial q met.places x o g.fit.own_ends met.stand a l out in
    let both : Some name ≡ Some (name_of w f.0) = sym named ∙ f.5 in
    let is : name ≡ name_of w f.0 = cc in
    subst (GoesIn w) (sym is) (go.receiver f.0 f.2)

-- that of a replaced end
replacing_in : (w : World) (p : Places) (x : ℕ) (name : LinkName) (o : OutSeen) → OwnEnds w → GoBetween w → Replacing x (option_map (outgoing_in w) (member_at w x).out) (option_map p.outs (member_at w x).out) (Some (name, o)) → GoesIn w name
replacing_in w p x name o own go = by_out (member_at w x).out (λ s e. own.out x s e)
  where
    by_out : (c : Option ℕ) → ((s : ℕ) → c ≡ Some s → (s < length w.links) × ((link_at w s).sender ≡ x)) → Replacing x (option_map (outgoing_in w) c) (option_map p.outs c) (Some (name, o)) → GoesIn w name
    by_out None k l = cc
    by_out (Some s) k l = subst (GoesIn w) (sym (first_same (name, o) _ l.2)) (go.receiver s (k s refl).0)

none_replaced : (w : World) (name : LinkName) (replaced : Option (LinkName × OutSeen)) (f : LinkName × OutSeen) → replaced ≡ Some f → replaced ≡ None → GoesIn w name
none_replaced w name replaced f e k = absurd (none-some f (sym k ∙ e))

pub replaced_goes_in : (credit : CreditSpec) (w : World) (q q' : Parties) (v : Group) (x : ℕ) (name : LinkName) (o : OutSeen) → IsLawfulAt credit w → GoBetween w → 1 ≤ x → x < size w → Stand credit.initial w q → LooksAt v (x - 1) q q' (Some (name, o)) → GoesIn w name
replaced_goes_in credit w q q' v x name o g go a l st (b, new, how, is) = by_way _ _ _ _ (Some (name, o)) refl (sends_to m.held.out (right_of v m.held.id)) how
  where
    m : Shown
    m = node_at q (x - 1)

    h : MemberStands w st.places x m
    h = st.stand.each x a l

    by_replaced : Replacing m.held.id m.held.out m.ends.out (Some (name, o)) → GoesIn w name
    by_replaced k = replacing_in w st.places x name o g.fit.own_ends go
        (subst (λ e. Replacing x (option_map (outgoing_in w) (member_at w x).out) e (Some (name, o))) h.out
        (subst (λ (i : Held). Replacing i.id i.out m.ends.out (Some (name, o))) h.held k))

    by_way : (A B : Type 0) (C D : PairName → Type 0) (replaced : Option (LinkName × OutSeen)) → replaced ≡ Some (name, o) → (c : Bool) → When c (A × B × (replaced ≡ None)) × When (not c) ((ring : PairName) × (ring.slots ≡ m.held.initial + 1) × C ring × D ring × Replacing m.held.id m.held.out m.ends.out replaced) → GoesIn w name
    by_way A B C D replaced e true k = none_replaced w name replaced (name, o) e k.0.2
    by_way A B C D replaced e false k = by_replaced (subst (Replacing m.held.id m.held.out m.ends.out) e k.1.4)
