use Rattle.std.proofs.Common.{◌≡◌, ℕ, List, [], map, true, false, Some, refl, sym, ap, subst}
use Rattle.ring_names.specs.declared.numbers.CreditSpec.{CreditSpec}
use Rattle.credit_flow.specs.Credit.{Credit, Counted, full_credit, none_taken}
use Rattle.group_view.specs.View.{Group}
use Rattle.ring_rules.specs.View.{left_of, right_of}
use Rattle.ring_rules.specs.declared.phase.Phase.TheVariants.{Up}
use Rattle.activity.specs.Kept.{KeptRow}
use Rattle.activity.specs.LastSent.{LastSentRow, sent_of}
use Rattle.gm_member.specs.View.{all_kept, all_sent}
use Rattle.gm_member.specs.Held.{Held, Incoming, founded}
use Rattle.gm_member.specs.Within.{IsWithin}
use Rattle.gm_member.proofs.AllIsSent.{nothing_last_sent}
use Rattle.gm_member.proofs.Within.{none_within}
use Rattle.gm_member.proofs.member.Member.founding.Goals as goal

-- what is founded, of its parts
founded_of : (credit : CreditSpec) (name : List ℕ) (id : ℕ) (view : Group) (rows : List KeptRow) (sent : List LastSentRow) (to from version : ℕ) (left : Credit) (counted : Counted) (door : List Incoming)
    → rows ≡ [] → sent ≡ [] → to ≡ right_of view id → from ≡ left_of view id → version ≡ view.version → left ≡ full_credit credit.initial credit.more → counted ≡ none_taken credit.initial credit.more → door ≡ []
    → ◌≡◌ {A = Held} (record {
      id = id;
      name = name;
      phase = Up;
      view = view;
      known = all_kept rows;
      out = Some (record { to = to; opened = version; fresh = true; last_sent = all_sent sent; credit = left });
      current = Some (record { from = from; opened = version; counted = counted });
      door = door;
      asks = false;
      initial = credit.initial;
      more = credit.more;
    }) (founded credit name id view)
founded_of credit name id view rows sent to from version left counted door r s t f v l c d = rw (r, s, t, f, v, l, c, d) refl

pub invariant_of-result-2-clause-sent : goal.invariant_of-result-2-clause-sent
invariant_of-result-2-clause-sent g c = subst (λ s. IsWithin (λ p. sent_of s p) c.new.result) (sym c.new-2.ensures) (none_within c.new.result)

pub invariant_of-result-2-clause-says_all_is_sent : goal.invariant_of-result-2-clause-says_all_is_sent
invariant_of-result-2-clause-says_all_is_sent g c = nothing_last_sent c.new.result c.new-2.result c.new.ensures c.new-2.ensures

pub invariant_of-result-2-clause-spared : goal.invariant_of-result-2-clause-spared
invariant_of-result-2-clause-spared g c = none_within c.new.result

pub invariant_of-result-2-clause-unended : goal.invariant_of-result-2-clause-unended
invariant_of-result-2-clause-unended g c _ = c.requires.unended

pub returns-clause-held : goal.returns-clause-held
returns-clause-held g c =
    founded_of c.args.credit c.args.name c.args.id.0 c.args.view c.new.result c.new-2.result c.right-to.result.0 c.left-from.result.0 c.view.inside.version c.new-3.result c.new-4.result _
    c.new.ensures c.new-2.ensures c.right-to.ensures c.left-from.ensures (ap (λ (v : Group). v.version) c.view.view_is) c.new-3.ensures c.new-4.ensures (ap (map _) c.new-5.ensures.items)
