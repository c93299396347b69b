-- What a member does in a round leaves its names, and those of the links on which it sends and from which it takes.
use Rattle.std.proofs.Common.{◌≡◌, ℕ, Bool, true, false, Option, Some, None, refl, sym, ap, ◌∙◌}
use Rattle.std.specs.Prelude.{option_map, cond}
use Rattle.queue_core.specs.declared.message.Message.{Message}
use Rattle.ring_rules.specs.Machine.{is_waiting}
use Rattle.gm_member.specs.Packets.{PacketById}
use Rattle.gm_member.specs.Held.{Held, Outgoing, Incoming, at_some, published_held, put_on, put_held, gained_on, gained_held, took_held, took_from, began_from}
use Rattle.gm_member.specs.View.{ring_link}
use Rattle.ring_parties.specs.Turn.{SameNames}

pub names_none : (h : Held) → SameNames h h
names_none h = record { id = refl; name = refl; out = refl; current = refl }

pub names_trans : (a b c : Held) → SameNames a b → SameNames b c → SameNames a c
names_trans a b c h k = record { id = k.id ∙ h.id; name = k.name ∙ h.name; out = k.out ∙ h.out; current = k.current ∙ h.current }

pub names_published : (h : Held) (m : Message) → SameNames h (published_held h m)
names_published h m = record { id = refl; name = refl; out = refl; current = refl }

-- what is done to the link on which it sends leaves its name
out_by : (x : ℕ) (f : Outgoing → Outgoing) → ((o : Outgoing) → ((f o).to ≡ o.to) × ((f o).opened ≡ o.opened)) → (o : Option Outgoing) → option_map (λ (l : Outgoing). ring_link x l.to l.opened) (option_map f o) ≡ option_map (λ (l : Outgoing). ring_link x l.to l.opened) o
out_by x f same None = refl
out_by x f same (Some o) = ap (λ to. Some (ring_link x to (f o).opened)) (same o).0 ∙ ap (λ opened. Some (ring_link x o.to opened)) (same o).1

pub names_put : (h : Held) → SameNames h (put_held h)
names_put h = record { id = refl; name = refl; out = out_by h.id (put_on h.known) (λ o. (refl, refl)) h.out; current = refl }

pub names_gained : (h : Held) (amount : ℕ) → SameNames h (gained_held h amount)
names_gained h amount = record { id = refl; name = refl; out = out_by h.id (gained_on amount) (λ o. (refl, refl)) h.out; current = refl }

took_by : (h : Held) (k : PacketById) (c : Incoming) → h.current ≡ Some c → (b : Bool) → SameNames h (cond b (began_from h k c) (took_from h k c))
took_by h k c e true = record { id = refl; name = refl; out = refl; current = ap (option_map (λ (l : Incoming). ring_link l.from h.id l.opened)) (sym e) }
took_by h k c e false = record { id = refl; name = refl; out = refl; current = ap (option_map (λ (l : Incoming). ring_link l.from h.id l.opened)) (sym e) }

took_at : (h : Held) (k : PacketById) (o : Option Incoming) → h.current ≡ o → SameNames h (at_some o h (λ c. cond (is_waiting h.phase) (began_from h k c) (took_from h k c)))
took_at h k None e = names_none h
took_at h k (Some c) e = took_by h k c e (is_waiting h.phase)

pub names_took : (h : Held) (k : PacketById) → SameNames h (took_held h k)
names_took h k = took_at h k h.current refl
