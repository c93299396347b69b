-- Whatever a member has done, the parties stand in the state after what the ring does of that kind.
use Rattle.std.proofs.Common.{◌≡◌, ℕ, ◌+◌, ◌<◌, [], Option, Some, None, refl}
use Rattle.std.specs.Prelude.{⊤}
use Rattle.std.specs.List.{filter}
use Rattle.ring_names.specs.declared.numbers.CreditSpec.{CreditSpec}
use Rattle.group_view.specs.declared.link.LinkName.{LinkName}
use Rattle.ring_rules.specs.declared.kind.LinkStep.TheVariants as step
use Rattle.ring_rules.specs.declared.kind.ViewChange.TheVariants as change
use Rattle.ring_rules.specs.Kind.{Kind, Says, Steps, Copying, Changes, Stops, Reads, Tells}
use Rattle.ring_rules.specs.Machine.{World}
use Rattle.ring_rules.specs.Step.{size}
use Rattle.ring_rules.specs.Event.{id_of, refused_as, done_as}
use Rattle.ring_parties.specs.Ends.{OutSeen}
use Rattle.ring_parties.specs.Parties.{Keeps, Parties}
use Rattle.ring_parties.specs.Keeps.{keeps_of}
use Rattle.ring_parties.specs.Standing.{Stand}
use Rattle.ring_parties.specs.Acting.{Acts, waits_at}
use Rattle.ring_parties.proofs.work.Lawful.{IsLawfulAt}
use Rattle.ring_parties.proofs.events.CastGoes.{cast_goes}
use Rattle.ring_parties.proofs.events.PutGoes.{put_goes}
use Rattle.ring_parties.proofs.events.TakeGoes.{take_goes}
use Rattle.ring_parties.proofs.events.EndGoes.{end_goes}
use Rattle.ring_parties.proofs.events.GainGoes.{gain_goes}
use Rattle.ring_parties.proofs.events.StopGoes.{stop_goes}
use Rattle.ring_parties.proofs.events.PickGoes.{pick_goes}
use Rattle.ring_parties.proofs.events.Admitting.{admit_between}
use Rattle.ring_parties.proofs.events.Marking.{refresh_between, mark_between, erase_between, register_between}
use Rattle.ring_parties.proofs.events.OneEvent.{nothing_moved}
use Rattle.ring_parties.proofs.events.Steps.{goes_so}
use Rattle.ring_parties.proofs.standing.Frames.{StandMoved}

-- What a kind needs besides: that no link waits for the member of id x that picks, or has another view, and that d is whom it has marked
-- or erased.
abbrev pub MayGo : World → Kind → ℕ → ℕ → Parties → Type 0
MayGo w (Changes (change.Mark dead)) x d q = (id_of w dead ≡ Some d) × (filter (waits_at x) q.deposits ≡ [])
MayGo w (Changes (change.Erase origin)) x d q = (id_of w origin ≡ Some d) × (filter (waits_at x) q.deposits ≡ [])
MayGo w (Changes (change.Admit name)) x d q = filter (waits_at x) q.deposits ≡ []
MayGo w (Changes change.Register) x d q = filter (waits_at x) q.deposits ≡ []
MayGo w (Reads version) x d q = filter (waits_at x) q.deposits ≡ []
MayGo w (Steps step.Pick) x d q = filter (waits_at x) q.deposits ≡ []
MayGo w k x d q = ⊤

pub each_goes : (credit : CreditSpec) (w : World) (k : Kind) (keeps : Keeps) (i d : ℕ) (q q' : Parties) (replaced : Option (LinkName × OutSeen)) → IsLawfulAt credit w → IsLawfulAt credit (done_as w (i + 1) k) → refused_as w (i + 1) k ≡ None → i + 1 < size w → MayGo w k (i + 1) d q → keeps ≡ keeps_of w (i + 1) → Stand credit.initial w q → Acts k keeps i d q q' replaced → StandMoved credit.initial (i + 1) (done_as w (i + 1) k) q' replaced
each_goes credit w (Says s) keeps i d q q' replaced h h' r lt may kept st a = cast_goes credit w s keeps i d q q' replaced h kept lt st a
each_goes credit w (Steps step.Put) keeps i d q q' replaced h h' r lt may kept st a = put_goes credit w keeps i d q q' replaced h r lt st a
each_goes credit w (Steps step.Take) keeps i d q q' replaced h h' r lt may kept st a = take_goes credit w keeps i d q q' replaced h r lt st a
each_goes credit w (Steps step.TakeEnd) keeps i d q q' replaced h h' r lt may kept st a = end_goes credit w keeps i d q q' replaced h r lt st a
each_goes credit w (Steps step.Gain) keeps i d q q' replaced h h' r lt may kept st a = gain_goes credit w keeps i d q q' replaced h r lt st a
each_goes credit w (Steps step.Pick) keeps i d q q' replaced h h' r lt may kept st a = pick_goes credit w keeps i d q q' replaced h r lt may st a
each_goes credit w (Copying s) keeps i d q q' replaced h h' r lt may kept st a = absurd a.1
each_goes credit w (Changes (change.Mark dead)) keeps i d q q' replaced h h' r lt may kept st a = mark_between credit w keeps q q' i d dead replaced h r lt may.0 st may.1 a
each_goes credit w (Changes (change.Erase origin)) keeps i d q q' replaced h h' r lt may kept st a = erase_between credit w keeps q q' i d origin replaced h r lt may.0 st may.1 a
each_goes credit w (Changes (change.Admit name)) keeps i d q q' replaced h h' r lt may kept st a = admit_between credit w keeps q q' i d name replaced h h' r lt st may a
each_goes credit w (Changes change.Register) keeps i d q q' replaced h h' r lt may kept st a = register_between credit w keeps q q' i d replaced h r lt st may a
each_goes credit w Stops keeps i d q q' replaced h h' r lt may kept st a = stop_goes credit w keeps i d q q' replaced h r lt st a
each_goes credit w (Reads version) keeps i d q q' replaced h h' r lt may kept st a = refresh_between credit w keeps q q' i d version replaced h h' r lt st may a
each_goes credit w (Tells code inner) keeps i d q q' replaced h h' r lt may kept st a = goes_so credit.initial (i + 1) w w q q' replaced refl a.0 a.1 (nothing_moved credit.initial w (i + 1) q st)
