-- Where a member has gained a grant, the parties stand in the state after the ring's gain.
use Rattle.std.proofs.Common.{◌≡◌, ℕ, ◌+◌, ◌<◌, ◌++◌, drop, Option, None, refl, sym, ap, subst, ◌∙◌, [], ◌∷◌, append_assoc}
use Rattle.ring_names.specs.declared.numbers.CreditSpec.{CreditSpec}
use Rattle.credit_flow.specs.Link.{oldest as oldest_grant}
use Rattle.group_view.specs.declared.link.LinkName.{LinkName}
use Rattle.ring_rules.specs.declared.kind.LinkStep.TheVariants as step
use Rattle.ring_rules.specs.Kind.{Steps}
use Rattle.ring_rules.specs.Machine.{World, member_at, link_at}
use Rattle.ring_rules.specs.Step.{size}
use Rattle.ring_rules.specs.Event.{gain_refusal, refused_as, done_as}
use Rattle.gm_member.specs.Held.{Held, gained_held}
use Rattle.gm_member.specs.Stands.{held_in}
use Rattle.gm_member.proofs.GainStands.{regained_on, gain_stands}
use Rattle.gm_member.proofs.Others.{gain_others}
use Rattle.ring_parties.specs.Ends.{OutSeen, InSeen, Carries}
use Rattle.ring_parties.specs.Parties.{Parties, node_at, Keeps}
use Rattle.ring_parties.specs.Standing.{Places, MemberStands, Stand}
use Rattle.ring_parties.specs.Acting.{Acts, ActsOut}
use Rattle.ring_parties.proofs.work.Lawful.{IsLawfulAt}
use Rattle.ring_parties.proofs.meetings.NamedLinks.{out_has}
use Rattle.ring_parties.proofs.meetings.Known.{all_know}
use Rattle.ring_parties.proofs.events.OneEvent.{made_of, stands_at}
use Rattle.ring_parties.proofs.events.Steps.{OnOut, on_out, goes_out}
use Rattle.ring_parties.proofs.standing.Frames.{StandMoved, acts_fit}
use Rattle.std.proofs.lemmas.List.{append-nil}

-- ---- one link

pub gain_carries : (initial : ℕ) (w : World) (s : ℕ) (o o' : OutSeen) (n : InSeen) (amount : ℕ) → o.back ≡ (link_at w s).flow.grants → ActsOut [] (amount ∷ []) o.ended o o' → Carries w initial (link_at w s) o n → Carries w initial (regained_on w s) o' n
gain_carries initial w s o o' n amount known g c =
    let left : o'.back ≡ (regained_on w s).flow.grants = ap (drop 1) (g.back ∙ known) in
    record {
      items = c.items ∙ sym (g.put ∙ append-nil o.put);
      grants =
          ap (λ gs. gs ++ (regained_on w s).flow.grants) g.gained ∙ append_assoc o.gained (amount ∷ []) (regained_on w s).flow.grants
          ∙ ap (λ gs. o.gained ++ amount ∷ gs) (sym left) ∙ ap (λ gs. o.gained ++ gs) (g.back ∙ known) ∙ c.grants;
      late = c.late;
      ended = g.ended ∙ c.ended;
      initial = g.initial ∙ c.initial;
      fits = acts_fit [] (amount ∷ []) o.ended o o' n g c.fits;
    }

-- the grant that is gained is the oldest under way
pub gain_amount : (w : World) (s : ℕ) (o o' : OutSeen) (amount : ℕ) → o.back ≡ (link_at w s).flow.grants → ActsOut [] (amount ∷ []) o.ended o o' → amount ≡ oldest_grant (link_at w s).flow.grants
gain_amount w s o o' amount known g = ap oldest_grant (g.back ∙ known)

-- ---- the parties

pub gain_goes : (credit : CreditSpec) (w : World) (keeps : Keeps) (i d : ℕ) (q q' : Parties) (replaced : Option (LinkName × OutSeen)) → IsLawfulAt credit w → refused_as w (i + 1) (Steps step.Gain) ≡ None → i + 1 < size w → Stand credit.initial w q → Acts (Steps step.Gain) keeps i d q q' replaced → StandMoved credit.initial (i + 1) (done_as w (i + 1) (Steps step.Gain)) q' replaced
gain_goes credit w keeps i d q q' replaced h enabled lt st (b, (amount, o, o', ends_out, gains, eb), is, none) =
    let x : ℕ = i + 1 in
    let p : Places = st.places in
    let on : OnOut w (done_as w x (Steps step.Gain)) x (regained_on w) = on_out credit w x (gain_refusal w) (regained_on w) h enabled lt in
    let a : MemberStands w p x (node_at q i) = stands_at credit.initial w q p i st.stand on.is_member in
    let s : ℕ = on.link in
    let same_end : p.outs s ≡ o = made_of p.outs (member_at w x).out s o on.is (sym a.out ∙ ends_out) in
    let its : ActsOut [] (amount ∷ []) (p.outs s).ended (p.outs s) o' = subst (λ e. ActsOut [] (amount ∷ []) e.ended e o') (sym same_end) gains in
    let known : (p.outs s).back ≡ (link_at w s).flow.grants = all_know credit.initial w q st s on.within (out_has credit w x s h on.is) in
    let it_is : amount ≡ oldest_grant (link_at w s).flow.grants = gain_amount w s (p.outs s) o' amount known its in
    goes_out credit w (done_as w x (Steps step.Gain)) q q' i replaced (regained_on w) o' b st h on refl is none (λ y ne. gain_others w x s y h.fit on.is ne)
    (record {
      does = λ (g : Held). gained_held g amount;
      but_door = λ g ds. refl;
      stands = ap (gained_held (held_in w x)) it_is ∙ gain_stands w x s h.fit on.is;
      is = eb;
    })
    (gain_carries credit.initial w s (p.outs s) o' (p.ins s) amount known its)
