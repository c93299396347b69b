-- What the calls of a member do.
use Rattle.std.specs.Prelude.{◌≡◌, ◌⊎◌, ◌+◌, ◌-◌, ◌≤◌, ℕ, Bool, List, [], ◌∷◌, Option, Some, None, is_some, MatchOption, IfSome, IfNone, Result, Err, OnOk, OnErr, IfOk, IfErr}
use Rattle.std.specs.declared.vec.Vec.{Vec}
use Rattle.std.specs.declared.alloc.Global.{Global}
use Rattle.queue_core.specs.declared.message.Message.{Message}
use Rattle.ring_names.specs.declared.reason.Reason.{Reason}
use Rattle.ring_names.specs.declared.numbers.Stamp.{Stamp}
use Rattle.ordered_link.specs.declared.grant.Grant.{Grant}
use Rattle.lamport_merge.specs.Recorder.{Recorded, met, noted, given, is_late}
use Rattle.group_view.specs.View.{Group}
use Rattle.group_view.specs.declared.link.LinkName.{LinkName}
use Rattle.group_view.specs.declared.request.Request.{Request}
use Rattle.ring_rules.specs.declared.event.Event.{Event}
use Rattle.ring_rules.specs.declared.event.Event.TheVariants as event
use Rattle.ring_rules.specs.Machine.{World}
use Rattle.ring_rules.specs.Event.{refusal}
use Rattle.ordered_link.specs.declared.ends.LinkOut.{Ghosts}
use Rattle.ordered_link.specs.declared.item.EndReason.{EndReason}
use Rattle.ordered_link.specs.declared.item.EndReason.TheVariants.{Stopped}
use Rattle.ordered_link.specs.declared.item.Item.{Item}
use Rattle.gm_member.specs.declared.fault.MemberFault.{MemberFault}
use Rattle.gm_member.specs.declared.fault.MemberFault.TheVariants as faults
use Rattle.gm_member.specs.declared.member.Member.{Member}
use Rattle.activity.specs.declared.packet.Load.{Load}
use Rattle.gm_member.specs.declared.taken.Taken.{Taken}
use Rattle.activity.specs.Kept.{got_of}
use Rattle.activity.specs.Packets.{PacketSeen}
use Rattle.gm_member.specs.Packets.{packet_by_id, known_at}
use Rattle.gm_member.specs.News.{news_of}
use Rattle.gm_member.specs.Held.{Held, active_refused, published_held, put_refused, put_held, take_refused, took_held, gain_refused, gained_held, ended_held, stopped_held, pick_refused, first_at_door, picked_held}
use Rattle.gm_member.specs.Said.{said}
use Rattle.gm_member.specs.Stands.{WhereItStands, StepsTo}
use Rattle.gm_member.specs.Ends.{IsPutFault, IsTakeFault, IsEndRefusal}
use Rattle.gm_member.specs.Shown.{Ends, held_of, ends_of, recorded_of, spare_of, in_name_of, in_end, with_in, has_in, StaysReady, OutIsReady, PutsOn, LooksOut, LooksIn, TookOn, LeavesOn, EndsOn, PicksOn, LooksBy, MovesTo}

-- ---- conditions, by the first that fails

-- the call was refused for it
abbrev pub IsRefusal : Option Reason → MemberFault → Type 0
IsRefusal failing fault = (r : Reason) × (fault ≡ faults.Refused r) × (failing ≡ Some r)

-- it was refused for it, or no condition fails and memory was wanted
abbrev pub IsFault : Option Reason → MemberFault → Type 0
IsFault failing fault = ((fault ≡ faults.OutOfMemory) × (failing ≡ None)) ⊎ IsRefusal failing fault

-- A call is done only where no condition fails, and is refused for the first that does.
pub record Heeds {A : Type 0} (failing : Option Reason) (result : Result A MemberFault) : Type 0 where
  pub enabled : OnOk result (failing ≡ None)
  pub refused : (r : Reason) → failing ≡ Some r → result ≡ Err (faults.Refused r)

-- And one that isn't done hands back what it was given: but for the conditions only memory may fail it.
pub record HandsBack {A X : Type 0} (failing : Option Reason) (given : X) (result : Result A (X × MemberFault)) : Type 0 where
  pub enabled : OnOk result (failing ≡ None)
  pub refused : (r : Reason) → failing ≡ Some r → result ≡ Err (given, faults.Refused r)
  pub fault : IfErr result (λ e. (e.0 ≡ given) × IsFault failing e.1)

-- ---- the calls, from a member m to n

module _ {O I : Type 0} {g : Ghosts O Load} where
  -- it has the id and the credit that it had, and keeps of each origin what it kept, and what it has recorded
  abbrev pub SameSelf : Member O I g → Member O I g → Type 0
  SameSelf m n = (n.id ≡ m.id) × (n.credit ≡ m.credit) × (n.tables ≡ m.tables) × (n.recorder ≡ m.recorder)

  -- the links to it, with the ends of those that it has left
  abbrev pub KeepsIns : Member O I g → Member O I g → Type 0
  KeepsIns m n = (n.current ≡ m.current) × (n.door ≡ m.door) × (n.old_ins ≡ m.old_ins)

  -- the link on which it sends, with the ends of those that it has replaced
  abbrev pub KeepsOuts : Member O I g → Member O I g → Type 0
  KeepsOuts m n = (n.out ≡ m.out) × (n.old_outs ≡ m.old_outs)

  -- all links, with the ends that it has replaced or left; there may be more room for these
  abbrev pub SameLinks : Member O I g → Member O I g → Type 0
  SameLinks m n = (n.out ≡ m.out) × (n.current ≡ m.current) × (n.door ≡ m.door) × (n.old_outs.items ≡ m.old_outs.items) × (n.old_ins ≡ m.old_ins)

  -- What a call has recorded that makes room for its own entry: r where it is done, else nothing; and there is no less room.
  pub record Records {A E : Type 0} (r : Recorded) (m n : Member O I g) (result : Result A E) : Type 0 where
    pub ok : OnOk result (recorded_of n ≡ r)
    pub err : OnErr result (recorded_of n ≡ recorded_of m)
    pub spare : spare_of m ≤ spare_of n

  -- A message joins the member's own log, and its number there is the answer.
  pub record Publishes (message : Message) (m n : Member O I g) (result : Result ℕ (Message × MemberFault)) : Type 0 where
    pub ok : OnOk result (held_of n ≡ published_held (held_of m) message)
    pub number : IfOk result (λ k. k ≡ got_of (known_at (held_of m).known ((held_of m).id - 1)) + 1)
    pub err : OnErr result (held_of n ≡ held_of m)
    pub ends : ends_of n ≡ ends_of m
    pub kept : OnErr result (StaysReady m n)
    pub records : Records (said (held_of m).name message (recorded_of m)) m n result

  -- The next packet goes on the link on which the member sends; else the end of that link may know more.
  pub record Puts (free : O → ℕ) (ended : O → Bool) (puts : O → Item Load → O → Type 0) (looked : O → O → Type 0) (m n : Member O I g) (result : Result (Unit {0}) MemberFault) : Type 0 where
    pub ok : OnOk result (held_of n ≡ put_held (held_of m))
    pub packet : OnOk result (PutsOn puts (given (recorded_of n)) m n)
    pub fault : IfErr result (λ fault. IsRefusal (put_refused (held_of m)) fault ⊎ ((put_refused (held_of m) ≡ None) × IsPutFault free fault (ends_of n).out))
    pub err : OnErr result (held_of n ≡ held_of m)
    pub looks : OnErr result (LooksOut looked m n)
    pub ready : OutIsReady ended n
    pub kept : OnErr result (StaysReady m n)
    pub records : Records (noted (event.Put (held_of m).name) (recorded_of m)) m n result

  -- The oldest packet is taken from the link from which the member takes, and what it brings is the answer.
  pub record Takes (known : I → List (Item Load)) (waiting : I → Option Grant) (takes : I → Item Load → I → Type 0) (looked : I → I → Type 0) (sends : I → Grant → I → Type 0) (m n : Member O I g) (result : Result (Vec Taken Global) MemberFault) : Type 0 where
    pub ok : IfOk result (λ taken. (k : PacketSeen) × (k.view ≤ (held_of m).view.version) × (held_of n ≡ took_held (held_of m) (packet_by_id k))
        × (taken.items ≡ news_of (held_of m) (packet_by_id k)) × TookOn waiting takes looked sends (given (recorded_of n)) k m n
        × (recorded_of n ≡ noted (event.Take (held_of m).name) (met k.stamp (recorded_of m))))
    pub fault : IfErr result (λ fault. IsRefusal (take_refused (held_of m) None) fault
        ⊎ ((take_refused (held_of m) None ≡ None) × MatchOption n.current ⊥ (λ l. IsTakeFault known waiting (is_late (recorded_of m)) (held_of m).view.version fault l.end)))
    pub err : OnErr result (held_of n ≡ held_of m)
    pub looks : OnErr result (LooksIn looked m n)
    pub kept : OnErr result (StaysReady m n)
    pub unrecorded : OnErr result (recorded_of n ≡ recorded_of m)
    pub spare : spare_of m ≤ spare_of n

  -- The end of that link is taken, and the member leaves it.
  pub record TakesEnd (known : I → List (Item Load)) (waiting : I → Option Grant) (takes : I → Item Load → I → Type 0) (looked : I → I → Type 0) (m n : Member O I g) (result : Result EndReason MemberFault) : Type 0 where
    pub ok : OnOk result (held_of n ≡ ended_held (held_of m))
    pub leaves : IfOk result (λ reason. (stamp : Stamp) × LeavesOn takes looked reason stamp m n
        × (recorded_of n ≡ noted (event.TakeEnd (held_of m).name) (met stamp (recorded_of m))))
    pub spare : OnOk result (spare_of m ≡ spare_of n + 1)
    pub fault : IfErr result (λ fault. (r : Reason) × (fault ≡ faults.Refused r)
        × ((take_refused (held_of m) None ≡ Some r) ⊎ ((take_refused (held_of m) None ≡ None) × MatchOption n.current ⊥ (λ l. IsEndRefusal known waiting (is_late (recorded_of m)) r l.end))))
    pub err : OnErr result (held_of n ≡ held_of m)
    pub looks : OnErr result (LooksIn looked m n)
    pub kept : OnErr result (StaysReady m n)
    pub unrecorded : OnErr result (n.recorder ≡ m.recorder)

  -- A call that only a condition can fail: the member then holds h, and P of its ends, and has recorded r, for which there was room; else
  -- all of it is as it was.
  pub record Acts (failing : Option Reason) (h : Held) (P : Type 0) (r : Recorded) (m n : Member O I g) (result : Result (Unit {0}) MemberFault) : Type 0 where
    pub ok : OnOk result (held_of n ≡ h)
    pub ends : OnOk result P
    pub recorded : OnOk result (recorded_of n ≡ r)
    pub spare : OnOk result (spare_of m ≡ spare_of n + 1)
    pub fault : IfErr result (λ fault. IsRefusal failing fault)
    pub err : OnErr result (n ≡ m)

  -- It stops, and the link on which it sends ends.
  abbrev pub Stops : (O → Item Load → O → Type 0) → Member O I g → Member O I g → Result (Unit {0}) MemberFault → Type 0
  Stops puts m n result = Acts (active_refused (held_of m) None) (stopped_held (held_of m)) (EndsOn puts Stopped (given (recorded_of n)) m n)
      (noted (event.Stop (held_of m).name) (recorded_of m)) m n result

  -- A grant becomes credit of the link on which it sends.
  abbrev pub Gains : Grant → Member O I g → Member O I g → Result (Unit {0}) MemberFault → Type 0
  Gains grant m n result = Acts (gain_refused (held_of m)) (gained_held (held_of m) grant.amount) (ends_of n ≡ record (ends_of m) { returned = None })
      (noted (event.Gain (held_of m).name) (met grant.stamp (recorded_of m))) m n result

  -- It takes from now on from the first link at its door that it may.
  abbrev pub PicksUp : Member O I g → Member O I g → Result (Unit {0}) MemberFault → Type 0
  PicksUp m n result = Acts (pick_refused (held_of m)) (picked_held (held_of m)) ((i : ℕ) × (first_at_door (held_of m) ≡ Some i) × PicksOn i m n)
      (noted (event.Pick (held_of m).name) (recorded_of m)) m n result

  -- The member reads a view and then holds h, and the answer is what is to be asked of the registrar then.
  pub record Reads {E : Type 0} (are_fresh : ℕ → O → I → Type 0) (free : O → ℕ) (ended : O → Bool) (puts : O → Item Load → O → Type 0) (h : Held) (view : Group) (m n : Member O I g) (result : Result (Vec (Request I) Global) E) : Type 0 where
    pub ok : OnOk result (held_of n ≡ h)
    pub links : OnOk result (LooksBy view m n)
    pub moves : IfOk result (λ requests. MovesTo are_fresh free ended puts view m n requests.items)
    pub err : OnErr result (held_of n ≡ held_of m)
    pub err_ends : OnErr result (ends_of n ≡ ends_of m)
    pub ready : OutIsReady ended n
    pub kept : OnErr result (StaysReady m n)

-- ---- ends that are lent and given up

module _ {O I : Type 0} {g : Ghosts O Load} where
  -- An end comes back, and these are the ends that the member then has.
  pub record Gives (e : Ends O I) (m n : Member O I g) : Type 0 where
    pub ends : ends_of n ≡ e
    pub held : held_of n ≡ held_of m
    pub kept : StaysReady m n
    pub recorder : n.recorder ≡ m.recorder

  -- This end is lent, where it is there, and these are the ends that the member then has.
  pub record Lends {A : Type 0} (end : Option A) (e : Ends O I) (m n : Member O I g) (result : Option A) : Type 0 where
    pub lent : result ≡ end
    pub ends : ends_of n ≡ e
    pub held : held_of n ≡ held_of m
    pub kept : StaysReady m n
    pub recorder : n.recorder ≡ m.recorder

  -- an end to the member comes back to a place
  abbrev pub GivesIn : ℕ → I → Member O I g → Member O I g → Type 0
  GivesIn place end m n = Gives (with_in (ends_of m) place (Some end)) m n

  -- the one at a place is lent
  abbrev pub LendsIn : ℕ → Member O I g → Member O I g → Option I → Type 0
  LendsIn place m n result = Lends (in_end (ends_of m) place) (with_in (ends_of m) place None) m n result

  -- The oldest of these ends is given up, where there is one, and these are the ends that the member then has.
  pub record GivesUp {A : Type 0} (old new : List (LinkName × A)) (e : Ends O I) (m n : Member O I g) (result : Option (LinkName × A)) : Type 0 where
    pub some : IfSome result (λ end. old ≡ end ∷ new)
    pub none : IfNone result (old ≡ [])
    pub still : IfNone result (n ≡ m)
    pub ends : ends_of n ≡ e
    pub held : held_of n ≡ held_of m
    pub kept : StaysReady m n
    pub recorder : n.recorder ≡ m.recorder

-- This is the name of the link at a place: none exactly where no such link is there.
pub record NamesIn (h : Held) (place : ℕ) (result : Option LinkName) : Type 0 where
  pub named : result ≡ in_name_of h place
  pub there : is_some result ≡ has_in h place

-- ---- the ring's events, wherever the member stands in a state of a run

module _ {O I : Type 0} {g : Ghosts O Load} where
  -- what was done is the event
  abbrev pub IsEvent : Event → Member O I g → Member O I g → Type 0
  IsEvent e m n = WhereItStands (held_of m) (λ w x. StepsTo w x e (held_of n))

  -- the call is refused where P holds and the event is, for the same reason
  abbrev pub RefusesWhere : {A : Type 0} → (World → ℕ → Type 0) → Event → Member O I g → Result A MemberFault → Type 0
  RefusesWhere P e m result = WhereItStands (held_of m) (λ w x. P w x → (r : Reason) → refusal w e ≡ Some r → result ≡ Err (faults.Refused r))

  -- it is refused where the event is
  abbrev pub RefusesAs : {A : Type 0} → Event → Member O I g → Result A MemberFault → Type 0
  RefusesAs e m result = WhereItStands (held_of m) (λ w x. (r : Reason) → refusal w e ≡ Some r → result ≡ Err (faults.Refused r))
