-- An election changes master and term alone, so that what a change keeps is kept.
use Rattle.std.proofs.Common.{◌≡◌, ℕ, ◌+◌, ◌≤◌, Bool, true, false, cond, Option, Some, None, refl, sym, ap, subst, ◌∙◌, arith}
use Rattle.std.specs.Prelude.{is_some}
use Rattle.std.proofs.lemmas.Bool.{false≢true}
use Rattle.ring_names.specs.declared.numbers.MemberId.{MemberId}
use Rattle.group_view.specs.View.{Group, stands_in}
use Rattle.group_view.specs.Change.{erased}
use Rattle.group_view.specs.Kept.{IsGroup}
use Rattle.group_view.proofs.Groups.{DeadThere}
use Rattle.group_view.proofs.History.{Follows, erase_follows}
use Rattle.promotion.specs.Elect.{elected, term_after, installed}
use Rattle.promotion.proofs.Leading.{elected_leads, leader_stands}

-- ---- an election

-- it keeps what every view keeps
pub installed_is : (g : Group) → IsGroup g → IsGroup (installed g)
installed_is g h = record {
  few = h.few;
  distinct = h.distinct;
  numbered = h.numbered;
  fresh = h.fresh;
  counted = h.counted;
  led = by_stands (stands_in g.entries g.master) refl h.led;
}
  where
    by_elected : (o : Option MemberId) → elected g.entries ≡ o → g.term + 1 ≤ g.version → term_after o g.term + cond (stands_in g.entries o) 0 1 ≤ g.version
    by_elected None e l = l
    by_elected (Some id) e l = rw (leader_stands g.entries id.0 (elected_leads g.entries id h.distinct e)) (let room : g.term + 1 + 0 ≤ g.version = omega (arith, l) in room)

    by_stands : (b : Bool) → stands_in g.entries g.master ≡ b → g.term + cond b 0 1 ≤ g.version → cond b g.term (term_after (elected g.entries) g.term) + cond (stands_in g.entries (cond b g.master (elected g.entries))) 0 1 ≤ g.version
    by_stands true e l = rw e l
    by_stands false e l = by_elected (elected g.entries) refl l

-- as the code has it: no master stands, and o is elected
pub elected_is : (g : Group) (o : Option MemberId) (term : ℕ) → IsGroup g → stands_in g.entries g.master ≡ false → o ≡ elected g.entries → term ≡ term_after o g.term → IsGroup (record g { master = o; term = term })
elected_is g o term h none is counted =
    subst IsGroup
    (ap (λ b. record g { master = cond b g.master (elected g.entries); term = cond b g.term (term_after (elected g.entries) g.term) }) none
    ∙ ap (λ p. record g { master = p; term = term_after p g.term }) (sym is) ∙ ap (λ t. record g { master = o; term = t }) (sym counted))
    (installed_is g h)

-- the term rises where somebody is elected
pub term_some : (o : Option MemberId) (term : ℕ) → is_some o ≡ true → term + 1 ≡ term_after o term
term_some None term h = absurd (false≢true h)
term_some (Some id) term h = refl

pub term_none : (o : Option MemberId) (term : ℕ) → is_some o ≡ false → term ≡ term_after o term
term_none None term h = refl
term_none (Some id) term h = absurd (false≢true (sym h))

-- a change with the election that ends it follows, where the change does
pub follows_installed : (g g' : Group) → Follows g g' → Follows g (installed g')
follows_installed g g' f = record {
  is_group = installed_is g' f.is_group;
  version = f.version;
  stays = f.stays;
  dies = f.dies;
  same_between = f.same_between;
  known = f.known;
  since = f.since;
}

-- an erasure with it
pub install_follows : (g : Group) (d : ℕ) → IsGroup g → DeadThere g.entries d → Follows g (installed (erased g d))
install_follows g d k l = follows_installed g (erased g d) (erase_follows g d k l)
