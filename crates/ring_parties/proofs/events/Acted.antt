-- What a member has done, as an event of the parties.
use Rattle.std.proofs.Common.{◌≡◌, ℕ, ◌+◌, true, false, List, [], ◌∷◌, ◌++◌, map, set, get_or, Option, Some, None, Result, Ok, Err, refl, sym, ap, subst, ◌∙◌, append-nil}
use Rattle.std.specs.Prelude.{IfOk}
use Rattle.std.proofs.lemmas.List.{map-append, set-get_or}
use Rattle.ring_names.specs.declared.numbers.CreditSpec.{CreditSpec}
use Rattle.ordered_link.specs.declared.ring.RingIn.{RingIn}
use Rattle.group_view.specs.declared.link.LinkName.{LinkName}
use Rattle.group_view.specs.View.{Group}
use Rattle.group_view.specs.Change.{marked}
use Rattle.ring_rules.specs.declared.kind.ViewChange.TheVariants as change
use Rattle.ring_rules.specs.Kind.{Kind, Says, Steps, Copying, Changes, Stops, Reads, Tells, shown_kind}
use Rattle.registrar.specs.Registry.{Registry}
use Rattle.registrar.specs.Handled.{with_view, with_stopped}
use Rattle.activity.specs.declared.packet.Load.{Load}
use Rattle.gm_member.specs.Held.{at_some}
use Rattle.ring_parties.specs.declared.pending_deposit.PendingDeposit.{PendingDeposit}
use Rattle.ring_parties.specs.Ends.{OutSeen}
use Rattle.ring_parties.specs.declared.party.Party.{Party}
use Rattle.ring_parties.specs.Parties.{Keeps, Deposit, Parties, parties, deposit_shown, node_at, with_node, shown_in, no_shown, in_seen}
use Rattle.ring_parties.specs.Keeps.{no_keeps, keeps_at, kept_after, all_kept_after}
use Rattle.ring_parties.specs.Behind.{behind}
use Rattle.ring_parties.specs.Looking.{HasLooked, pending_shown}
use Rattle.ring_parties.specs.Acting.{is_alone, DoesAlone, Halts, Acts, LooksAt, depositing, newest_of, viewing, erasing, joined, LetsIn}
use Rattle.ring_parties.specs.Refused.{marked_in, id_named}

-- the member at a place is another
one_other : (nodes nodes' : List Party) (r : Registry (RingIn Load)) (i : ℕ) → map shown_in nodes' ≡ set (map shown_in nodes) i (get_or (map shown_in nodes') i no_shown)
    → parties nodes' r [] ≡ with_node (parties nodes r []) i (get_or (map shown_in nodes') i no_shown)
one_other nodes nodes' r i e = ap (λ ns. record (parties nodes r []) { nodes = ns }) e

-- ---- by itself

pub alone_acts : (k : Kind) (keeps : Keeps) (i d : ℕ) (nodes nodes' : List Party) (r : Registry (RingIn Load))
    → DoesAlone k keeps (get_or (map shown_in nodes) i no_shown) (get_or (map shown_in nodes') i no_shown)
    → map shown_in nodes' ≡ set (map shown_in nodes) i (get_or (map shown_in nodes') i no_shown)
    → Acts k keeps i d (parties nodes r []) (parties nodes' r []) None
alone_acts (Says s) keeps i d nodes nodes' r does e = (_, does, one_other nodes nodes' r i e, refl)
alone_acts (Steps s) keeps i d nodes nodes' r does e = (_, does, one_other nodes nodes' r i e, refl)
alone_acts k keeps i d nodes nodes' r does e = absurd does

-- what is kept then changes only there
pub alone_kept : (k : Kind) (i : ℕ) (q : Parties) (ks : List Keeps) → is_alone (shown_kind k) ≡ true → all_kept_after k i q ks ≡ set ks i (kept_after k (node_at q i) (keeps_at ks i))
alone_kept (Says s) i q ks a = refl
alone_kept (Steps s) i q ks a = refl
alone_kept k i q ks a = cc

-- and nowhere where nothing is done to the queue
pub same_kept : (k : Kind) (i : ℕ) (q : Parties) (ks : List Keeps) → is_alone (shown_kind k) ≡ false → ((name : List ℕ) → k ≡ Changes (change.Admit name) → ⊥) → all_kept_after k i q ks ≡ ks
same_kept (Says s) i q ks a other = cc
same_kept (Steps s) i q ks a other = cc
same_kept (Copying s) i q ks a other = set-get_or ks i no_keeps
same_kept (Changes (change.Admit name)) i q ks a other = absurd (other name refl)
same_kept (Changes (change.Mark dead)) i q ks a other = set-get_or ks i no_keeps
same_kept (Changes (change.Erase origin)) i q ks a other = set-get_or ks i no_keeps
same_kept (Changes change.Register) i q ks a other = set-get_or ks i no_keeps
same_kept Stops i q ks a other = set-get_or ks i no_keeps
same_kept (Reads version) i q ks a other = set-get_or ks i no_keeps
same_kept (Tells code inner) i q ks a other = set-get_or ks i no_keeps

-- ---- a stop

pub stop_acts : (keeps : Keeps) (i d : ℕ) (nodes nodes' : List Party) (r r' : Registry (RingIn Load))
    → Halts (get_or (map shown_in nodes) i no_shown) (get_or (map shown_in nodes') i no_shown)
    → map shown_in nodes' ≡ set (map shown_in nodes) i (get_or (map shown_in nodes') i no_shown)
    → r' ≡ with_stopped r (i + 1)
    → Acts Stops keeps i d (parties nodes r []) (parties nodes' r' []) None
stop_acts keeps i d nodes nodes' r r' stops e k =
    (_, stops, ap (λ s. parties nodes' s []) k ∙ ap (λ (p : Parties). record p { stopped = r.stopped ++ (i + 1) ∷ [] }) (one_other nodes nodes' r i e), refl)

-- ---- another view

-- the link that it opens waits behind those at the registrar
pending_deposits : (nodes : List Party) (r : Registry (RingIn Load)) (pending : Option PendingDeposit) → parties nodes r (behind pending) ≡ depositing (pending_shown pending) (parties nodes r [])
pending_deposits nodes r None = refl
pending_deposits nodes r (Some u) =
    ap (λ ps. record (parties nodes r []) { deposits = ps ++ record { name = u.name; end = Some (in_seen u.link) } ∷ [] }) (sym (append-nil (map deposit_shown r.links)))

pub looks_at : (v : Group) (i : ℕ) (nodes nodes' : List Party) (r : Registry (RingIn Load)) (pending : Option PendingDeposit) (replaced : Option (LinkName × OutSeen))
    → HasLooked v (get_or (map shown_in nodes) i no_shown) (get_or (map shown_in nodes') i no_shown) (pending_shown pending) replaced
    → map shown_in nodes' ≡ set (map shown_in nodes) i (get_or (map shown_in nodes') i no_shown)
    → LooksAt v i (parties nodes r []) (parties nodes' r (behind pending)) replaced
looks_at v i nodes nodes' r pending replaced h e = (_, pending_shown pending, h.looks, pending_deposits nodes' r pending ∙ ap (depositing (pending_shown pending)) (one_other nodes nodes' r i e))

-- a view follows, and the member at a place has it
pub follow_acts : (v : Group) (i : ℕ) (nodes nodes' : List Party) (r r' : Registry (RingIn Load)) (pending : Option PendingDeposit) (replaced : Option (LinkName × OutSeen))
    → HasLooked v (get_or (map shown_in nodes) i no_shown) (get_or (map shown_in nodes') i no_shown) (pending_shown pending) replaced
    → map shown_in nodes' ≡ set (map shown_in nodes) i (get_or (map shown_in nodes') i no_shown)
    → r' ≡ with_view r v
    → LooksAt v i (viewing v (parties nodes r [])) (parties nodes' r' (behind pending)) replaced
follow_acts v i nodes nodes' r r' pending replaced h e k =
    subst (λ s. LooksAt v i (parties nodes (with_view r v) []) (parties nodes' s (behind pending)) replaced) (sym k)
    (looks_at v i nodes nodes' (with_view r v) pending replaced h e)

-- a view follows, the member at a place has it, and another joins for whom the link is that it opens
pub lets_in : (v : Group) (credit : CreditSpec) (name : List ℕ) (id i : ℕ) (nodes nodes' : List Party) (m : Party) (r r' : Registry (RingIn Load)) (opened : Option PendingDeposit) (replaced : Option (LinkName × OutSeen))
    → HasLooked v (get_or (map shown_in nodes) i no_shown) (get_or (map shown_in nodes') i no_shown) (pending_shown opened) replaced
    → map shown_in nodes' ≡ set (map shown_in nodes) i (get_or (map shown_in nodes') i no_shown)
    → shown_in m ≡ joined credit name id v (at_some (pending_shown opened) None (λ (d : Deposit). d.end)) → r' ≡ with_view r v
    → LetsIn v credit name id i (parties nodes r []) (parties (nodes' ++ m ∷ []) r' []) replaced
lets_in v credit name id i nodes nodes' m r r' opened replaced h e is k = (
  get_or (map shown_in nodes') i no_shown,
  pending_shown opened,
  h.looks,
  ap (λ s. parties (nodes' ++ m ∷ []) s []) k
      ∙ ap (λ ns. record (parties nodes (with_view r v) []) { nodes = ns })
      (map-append shown_in nodes' (m ∷ []) ∙ ap (λ ms. ms ++ shown_in m ∷ []) e ∙ ap (λ a. set (map shown_in nodes) i (get_or (map shown_in nodes') i no_shown) ++ a ∷ []) is),
)

-- what follows of what a call answers
pub ok_also : {X E : Type 0} (r : Result X E) (P Q : X → Type 0) → ((x : X) → P x → Q x) → IfOk r P → IfOk r Q
ok_also (Ok x) P Q h p = h x p
ok_also (Err e) P Q h p = tt

-- it is a mark, or an erasure, of the member of a name
pub mark_acts : (keeps : Keeps) (dead : List ℕ) (i d : ℕ) (q q' : Parties) (replaced : Option (LinkName × OutSeen)) → id_named q dead ≡ Some d → LooksAt (marked (newest_of q) d) i (viewing (marked (newest_of q) d) q) q' replaced → Acts (Changes (change.Mark dead)) keeps i (marked_in (Changes (change.Mark dead)) q) q q' replaced
mark_acts keeps dead i d q q' replaced named = subst (λ c. LooksAt (marked (newest_of q) c) i (viewing (marked (newest_of q) c) q) q' replaced) (sym (ap (λ o. at_some o 0 (λ c. c)) named))

pub erase_acts : (keeps : Keeps) (origin : List ℕ) (i p : ℕ) (q q' : Parties) (replaced : Option (LinkName × OutSeen)) → id_named q origin ≡ Some p → LooksAt (erasing q p) i (viewing (erasing q p) q) q' replaced → Acts (Changes (change.Erase origin)) keeps i (marked_in (Changes (change.Erase origin)) q) q q' replaced
erase_acts keeps origin i p q q' replaced named = subst (λ c. LooksAt (erasing q c) i (viewing (erasing q c) q) q' replaced) (sym (ap (λ o. at_some o 0 (λ c. c)) named))
