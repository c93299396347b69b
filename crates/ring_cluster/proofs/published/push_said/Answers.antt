use Rattle.std.proofs.Common.{◌≡◌, ◌∷◌, ◌++◌, [], bytes_eq, map, set, get_or, Some, None, sym, ap, subst, ◌∙◌}
use Rattle.std.specs.Prelude.{MatchOption}
use Rattle.std.specs.List.{position}
use Rattle.ring_rules.specs.Kind.{kind_of, own_body_of}
use Rattle.ring_rules.specs.Published.{published_in}
use Rattle.ring_cluster.specs.Published.{told_by}
use Rattle.ring_parties.proofs.events.Kinds.{says_read}
use Rattle.ring_cluster.proofs.work.Publishing.{saying_of_none, saying_of_one, own_told}
use Rattle.ring_cluster.proofs.published.push_said.Goals as goal

pub returns-in_ok-push_at : goal.returns-in_ok-push_at
returns-in_ok-push_at c = λ before is.
    let says = says_read (kind_of c.args.event.now) c.requires.says in
    let place = c.in-Some.place in
    let found = subst (λ by. position (λ n. bytes_eq n by) c.args.names.now ≡ Some place) c.by.ensures (sym c.the_place_among.ensures.place ∙ c.in-Some.is) in
    let told = own_told says.0 c.own_body.result (subst (λ k. MatchOption c.own_body.result (own_body_of k ≡ None) (λ b. own_body_of k ≡ Some b.now)) says.1 c.own_body.ensures) in
    let logs = map (λ name. published_in name before) c.args.names.now in
    c.in_ok-push_at.ensures
    ∙ ap (λ ls. set ls place (get_or ls place [] ++ told_by c.own_body.result ∷ [])) is
    ∙ ap (λ m. set logs place (get_or logs place [] ++ m ∷ [])) told
    ∙ saying_of_one c.args.event.now says.0 says.1 c.args.names.now before place c.requires.different found

pub returns-in_default : goal.returns-in_default
returns-in_default c = λ before is.
    let says = says_read (kind_of c.args.event.now) c.requires.says in
    is
    ∙ saying_of_none c.args.event.now says.0 says.1 c.args.names.now before
    (subst (λ by. position (λ n. bytes_eq n by) c.args.names.now ≡ None) c.by.ensures (sym c.the_place_among.ensures.place ∙ c.in_default.is))
