-- Each entry of a merge: its event is enabled, and all are those of the state after it.
use Rattle.std.proofs.Common.{◌≡◌, ℕ, true, not, List, Option, Some, None, refl, sym, ap, subst, ◌∙◌}
use Rattle.std.proofs.lemmas.Bool.{false≢true}
use Rattle.ring_names.specs.declared.numbers.CreditSpec.{CreditSpec}
use Rattle.ring_names.specs.declared.reason.Reason.{Reason}
use Rattle.ring_names.specs.declared.reason.Reason.TheVariants as reason
use Rattle.ring_rules.specs.declared.event.Event.{Event}
use Rattle.ring_rules.specs.declared.event.Client.{Client}
use Rattle.ring_rules.specs.declared.kind.LinkStep.TheVariants as step
use Rattle.ring_rules.specs.declared.kind.ViewChange.TheVariants as change
use Rattle.ring_rules.specs.declared.phase.Phase.{Phase}
use Rattle.ring_rules.specs.declared.phase.Phase.TheVariants.{Waiting, Up, Stopped}
use Rattle.ring_rules.specs.Kind.{Kind, Says, Steps, Copying, Changes, Stops, Reads, Tells, kind_of}
use Rattle.ring_rules.specs.Refusal.{refuse_if, or_else}
use Rattle.ring_rules.specs.Machine.{World, member_at, is_waiting}
use Rattle.ring_rules.specs.Event.{is_stopped, by_of, id_of, event_of, is_told, up_refusal, saying_refusal, admit_refusal, doing_as, refused_as, done_as, refusal, effect}
use Rattle.ring_rules.proofs.events.Found.{refused_there, done_there}
use Rattle.gm_member.specs.Held.{Held, active_refused, up_refused}
use Rattle.gm_member.proofs.Fit.{IsFit}
use Rattle.ring_parties.specs.RoundActs.{things}
use Rattle.ring_parties.specs.Round.{Seat, Deed, NoActs, refused_by_itself, Did, IsEntry, Sits, Configuration, IsIn, SameLinks}
use Rattle.ring_parties.proofs.events.Says.{refused_same}
use Rattle.ring_parties.proofs.events.Steps.{Leaves}
use Rattle.ring_parties.proofs.keeping.Going.{same_members}
use Rattle.ring_parties.proofs.rounds.Seats.{Turn, sits_there, speaks_there, items_still, grants_still, keeps_still, in_after, GoesAs, leaves_links}
use Rattle.ring_parties.proofs.rounds.Sends.{says_step, put_step, gain_step, stop_step}
use Rattle.ring_parties.proofs.rounds.Takes.{take_step, end_step, pick_step}

-- who is refused for its phase is so whatever else is asked
up_told : (w : World) (x code : ℕ) (later : Option Reason) → is_told code (up_refusal w x None) ≡ true → is_told code (up_refusal w x later) ≡ true
up_told w x code later e = by_phase (member_at w x).phase e
  where
    by_phase : (f : Phase) → is_told code (or_else (refuse_if (is_stopped f) reason.Stopped) (or_else (refuse_if (is_waiting f) reason.Waiting) None)) ≡ true → is_told code (or_else (refuse_if (is_stopped f) reason.Stopped) (or_else (refuse_if (is_waiting f) reason.Waiting) later)) ≡ true
    by_phase Waiting k = k
    by_phase Up k = absurd (false≢true k)
    by_phase Stopped k = k

-- where nothing happens
nothing_leaves : (w : World) (x : ℕ) → Leaves w w x
nothing_leaves w x = record {
  size_is = refl;
  many = refl;
  views = refl;
  names = λ s. refl;
  has_outs = λ s. refl;
  opens = λ s has. has;
  outs = λ y _. refl;
  currents = λ y _. refl;
  doors = λ y _. refl;
  keeps = λ s _ e. e;
}

module _ (credit : CreditSpec) (w : World) (post : List ℕ) (x t : ℕ) (d : Deed) (m : Seat) (a b : Configuration) (turn : Turn credit w post x t d m a b) where
  me : Sits w post x (a.seats x)
  me = sits_there credit w post x t d m a b turn

  -- ---- a refusal

  -- what a member refuses by itself the ring refuses so
  told_so : (code : ℕ) (kind : Kind) → is_told code (refused_by_itself kind (a.seats x).held (a.seats x).keeps) ≡ true → is_told code (doing_as w x kind) ≡ true
  told_so code (Says s) e =
      sym (ap (is_told code)
      (ap (up_refused (a.seats x).held) (refused_same w x (a.seats x).held (a.seats x).keeps (speaks_there credit w post x t d m a b turn) s)
      ∙ ap (λ (g : Held). up_refused g (saying_refusal w x s)) me.held))
      ∙ e
  told_so code (Copying s) e = ap (λ (g : Held). is_told code (up_refused g (Some reason.Waiting))) (sym me.held) ∙ e
  told_so code Stops e = ap (λ (g : Held). is_told code (active_refused g None)) (sym me.held) ∙ e
  told_so code (Changes (change.Admit name)) e = up_told w x code (admit_refusal w name) (ap (λ (g : Held). is_told code (up_refused g None)) (sym me.held) ∙ e)
  told_so code kind e = absurd (false≢true e)

  tells_step : (code : ℕ) (inner : Client) → is_told code (refused_by_itself (kind_of (event_of inner)) (a.seats x).held (a.seats x).keeps) ≡ true → m ≡ a.seats x → NoActs d → GoesAs w post x (Tells code inner) b
  tells_step code inner ok is none = record {
    enabled = ap (λ c. refuse_if (not c) reason.NotRefused) (told_so code (kind_of (event_of inner)) ok);
    after = in_after w w post x t d (a.seats x).keeps m a b turn.before turn.moves
        (record { leaves = nothing_leaves w x; held = λ y _. refl; keeps = keeps_still w w post x (a.seats x) (same_members w w refl) me })
        (subst (Sits w post x) (sym is) me)
        (λ s over. ap things (items_still credit w post x t d m a b turn none.0 s) ∙ turn.before.items s over)
        (λ s. ap things (grants_still credit w post x t d m a b turn none.1 s) ∙ turn.before.grants s);
    links = leaves_links w w x (nothing_leaves w x);
  }

  -- ---- whatever it is

  each_step : (kind : Kind) → (refused_as w x kind ≡ None → IsFit (done_as w x kind)) → Did kind t d (a.seats x) m → GoesAs w post x kind b
  each_step (Says s) later (msg, ok, says, is, none) = says_step credit w post x t d m a b turn s msg ok says is none
  each_step (Steps step.Put) later (out, s, stamp, held_out, on, ok, after, is, there, back) = put_step credit w post x t d m a b turn out s stamp held_out on ok is there back
  each_step (Steps step.Take) later (k, s, stamp, given, on, ok, under, after, is, there, back) = take_step credit w post x t d m a b turn k s stamp given later on ok is there back
  each_step (Steps step.TakeEnd) later (s, stamp, on, ok, under, is, there, back) = end_step credit w post x t d m a b turn s stamp on ok is there back
  each_step (Steps step.Gain) later (s, stamp, amount, on, ok, under, is, there, back) = gain_step credit w post x t d m a b turn s stamp amount on ok is there back
  each_step (Steps step.Pick) later (i, inside, first, ok, is, none) = pick_step credit w post x t d m a b turn i first ok is none
  each_step Stops later (stamp, ok, after, is, there, back) = stop_step credit w post x t d m a b turn stamp ok is there back
  each_step (Tells code inner) later (ok, is, none) = tells_step code inner ok is none
  each_step (Copying s) later did = absurd did
  each_step (Changes c) later did = absurd did
  each_step (Reads version) later did = absurd did

-- The event is enabled, and all are those of the state after it, in which no link has opened.
pub record Goes (w : World) (post : List ℕ) (e : Event) (b : Configuration) : Type 0 where
  pub enabled : refusal w e ≡ None
  pub after : IsIn (effect w e) post b
  pub links : SameLinks w (effect w e)

-- the event of an entry
pub entry_goes : (credit : CreditSpec) (w : World) (post : List ℕ) (x t : ℕ) (d : Deed) (m : Seat) (a b : Configuration) (turn : Turn credit w post x t d m a b) → (refusal w d.event ≡ None → IsFit (effect w d.event)) → IsEntry (t, d) (a.seats x) m → Goes w post d.event b
entry_goes credit w post x t d m a b turn later (by, did) =
    let e : Event = d.event in
    let named : id_of w (by_of e) ≡ Some x = ap (id_of w) (by ∙ ap (λ (g : Held). g.name) (sits_there credit w post x t d m a b turn).held) ∙ turn.lawful.fit.named x turn.some turn.is_member in
    let refused = refused_there w x e named in
    let done : effect w e ≡ done_as w x (kind_of e) = done_there w x e named in
    let goes : GoesAs w post x (kind_of e) b = each_step credit w post x t d m a b turn (kind_of e) (λ r. subst IsFit done (later (refused ∙ r))) did in
    record {
      enabled = refused ∙ goes.enabled;
      after = subst (λ v. IsIn v post b) (sym done) goes.after;
      links = subst (SameLinks w) (sym done) goes.links;
    }
