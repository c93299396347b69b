use Rattle.std.proofs.Common.{◌≡◌, ℕ, List, [], map, false, Some, None, refl, ap}
use Rattle.ring_names.specs.declared.numbers.CreditSpec.{CreditSpec}
use Rattle.credit_flow.specs.Credit.{Counted, none_taken}
use Rattle.group_view.specs.View.{Group}
use Rattle.ring_rules.specs.View.{left_of}
use Rattle.ring_rules.specs.declared.phase.Phase.TheVariants.{Waiting}
use Rattle.activity.specs.Kept.{KeptRow}
use Rattle.gm_member.specs.View.{all_kept}
use Rattle.gm_member.specs.Held.{Held, Incoming, joining_held}
use Rattle.gm_member.proofs.Within.{none_within}
use Rattle.gm_member.proofs.JoinStands.{joining_lifts}
use Rattle.gm_member.proofs.member.Member.joining.Goals as goal

-- one that joins, of its parts
joined_of : (credit : CreditSpec) (name : List ℕ) (id : ℕ) (view : Group) (rows : List KeptRow) (from version : ℕ) (counted : Counted) (door : List Incoming)
    → rows ≡ [] → from ≡ left_of view id → version ≡ view.version → counted ≡ none_taken credit.initial credit.more → door ≡ []
    → ◌≡◌ {A = Held} (record {
      id = id;
      name = name;
      phase = Waiting;
      view = view;
      known = all_kept rows;
      out = None;
      current = Some (record { from = from; opened = version; counted = counted });
      door = door;
      asks = false;
      initial = credit.initial;
      more = credit.more;
    }) (joining_held credit name id view)
joined_of credit name id view rows from version counted door r f v c d = rw (r, f, v, c, d) refl

pub invariant_of-result-clause-sent : goal.invariant_of-result-clause-sent
invariant_of-result-clause-sent g c = none_within c.new.result

pub invariant_of-result-clause-spared : goal.invariant_of-result-clause-spared
invariant_of-result-clause-spared g c = none_within c.new.result

pub returns-clause-held : goal.returns-clause-held
returns-clause-held g c =
    joined_of c.args.credit c.args.name c.args.id.0 c.args.view c.new.result c.left-from.result.0 c.view.inside.version c.new-2.result _
    c.new.ensures c.left-from.ensures (ap (λ (v : Group). v.version) c.view.view_is) c.new-2.ensures (ap (map _) c.new-3.ensures.items)

pub returns-clause-stands : goal.returns-clause-stands
returns-clause-stands g c =
    joining_lifts c.args.credit c.args.name c.args.id.0 c.args.view _
    (joined_of c.args.credit c.args.name c.args.id.0 c.args.view c.new.result c.left-from.result.0 c.view.inside.version c.new-2.result _
    c.new.ensures c.left-from.ensures (ap (λ (v : Group). v.version) c.view.view_is) c.new-2.ensures (ap (map _) c.new-3.ensures.items))
