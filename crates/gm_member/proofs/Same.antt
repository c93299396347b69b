-- A member with what it holds of itself proved again.
use Rattle.std.proofs.Common.{◌≡◌, ◌+◌, ◌≤◌, true, false, ap, ◌∙◌}
use Rattle.std.proofs.Props.{props}
use Rattle.std.specs.Prelude.{vec_len, vec_capacity}
use Rattle.group_view.specs.Ring.{is_in}
use Rattle.ordered_link.specs.declared.ends.LinkOut.{Ghosts}
use Rattle.ring_rules.specs.View.{ids}
use Rattle.ring_rules.specs.Machine.{is_waiting, runs_phase}
use Rattle.activity.specs.declared.packet.Load.{Load}
use Rattle.gm_member.specs.declared.member.Member.{Member}
use Rattle.gm_member.specs.View.{count_of, has_ended, is_up_where, last_sent_on}
use Rattle.gm_member.specs.Spares.{last_sent_by_spare}
use Rattle.gm_member.specs.Telling.{SaysAllIsSent}
use Rattle.gm_member.specs.Within.{IsWithin, one_within}

-- a fact of numbers has one proof
one : {P : Type 0} → IsProp P → (p q : P) → p ≡ q
one is p q = is p q

module _ {O I : Type 0} {g : Ghosts O Load} where
  -- it is the same member
  pub same_facts : (m : Member O I g) (b : (1 ≤ m.id.0) × (m.id.0 ≤ 64)) (s : is_in m.id.0 (ids m.view) ≡ true) (u : is_up_where m.asked m.phase ≡ true) (t : IsWithin (last_sent_on m.out) m.tables) (r : SaysAllIsSent m.all_is_sent m.out m.tables) (q : IsWithin (last_sent_by_spare m.spare) m.tables) (e : runs_phase m.phase ≡ true → has_ended g.ended m.out ≡ false) (l : is_waiting m.phase ≡ true → count_of m.out ≡ 0)
      (i : vec_len m.old_ins + vec_len m.door + count_of m.current ≤ vec_capacity m.old_ins) (o : vec_len m.old_outs + count_of m.out + count_of m.spare ≤ vec_capacity m.old_outs)
      → record m { own = b; stands = s; up = u; sent = t; says_all_is_sent = r; spared = q; unended = e; silent = l; room_in = i; room_out = o } ≡ m
  same_facts m b s u t r q e l i o =
      ap (λ x. record m { own = x; stands = s; up = u; sent = t; says_all_is_sent = r; spared = q; unended = e; silent = l; room_in = i; room_out = o }) (one (hlevel props) b m.own)
      ∙ ap (λ x. record m { stands = x; up = u; sent = t; says_all_is_sent = r; spared = q; unended = e; silent = l; room_in = i; room_out = o }) (one (hlevel props) s m.stands)
      ∙ ap (λ x. record m { up = x; sent = t; says_all_is_sent = r; spared = q; unended = e; silent = l; room_in = i; room_out = o }) (one (hlevel props) u m.up)
      ∙ ap (λ x. record m { sent = x; says_all_is_sent = r; spared = q; unended = e; silent = l; room_in = i; room_out = o }) (one_within (last_sent_on m.out) m.tables t m.sent)
      ∙ ap (λ x. record m { says_all_is_sent = x; spared = q; unended = e; silent = l; room_in = i; room_out = o }) (one (hlevel props) r m.says_all_is_sent)
      ∙ ap (λ x. record m { spared = x; unended = e; silent = l; room_in = i; room_out = o }) (one_within (last_sent_by_spare m.spare) m.tables q m.spared)
      ∙ ap (λ x. record m { unended = x; silent = l; room_in = i; room_out = o }) (one (hlevel props) e m.unended)
      ∙ ap (λ x. record m { silent = x; room_in = i; room_out = o }) (one (hlevel props) l m.silent)
      ∙ ap (λ x. record m { room_in = x; room_out = o }) (one (hlevel props) i m.room_in)
      ∙ ap (λ x. record m { room_out = x }) (one (hlevel props) o m.room_out)
