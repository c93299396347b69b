use Rattle.std.proofs.Common.{◌≡◌, None, set, sym, ap, subst, ◌∙◌, refl}
use Rattle.std.specs.Prelude.{is_some}
use Rattle.std.proofs.lemmas.Bool.{false≢true}
use Rattle.group_view.specs.Ring.{is_in}
use Rattle.group_view.specs.Since.{view_at}
use Rattle.ring_rules.specs.View.{ids}
use Rattle.registrar.specs.Registry.{newest}
use Rattle.gm_member.specs.Held.{refresh_refused}
use Rattle.ring_parties.specs.Behind.{behind}
use Rattle.ring_parties.specs.Parties.{shown_of, shown_in, parties}
use Rattle.ring_parties.specs.Acting.{look_refused, LooksAt}
use Rattle.ring_parties.specs.Looking.{HasLooked, pending_shown, replaced_seen}
use Rattle.ring_parties.proofs.standing.Nodes.{at_read, written_shown}
use Rattle.ring_parties.proofs.events.Acted.{looks_at}
use Rattle.ring_parties.proofs.deposits.Delivered.{still_kept, inside, shown_is, unchanged, bare, asks_nothing, is_ready, may_look}
use Rattle.ring_parties.proofs.parties.Parties.act_refresh.Goals as goal

pub look_refusal-requires : goal.look_refusal-requires
look_refusal-requires c = asks_nothing c.self.inside c.args.self.now c.self.view_is c.requires.standing c.args.i c.requires.within c.index.result.now c.index.ensures

pub unreachable-requires : goal.unreachable-requires
unreachable-requires c =
    let version : c.behind-self.inside.version ≡ (newest c.self.inside.registrar).version = ap (λ g. g.version) (c.behind-self.view_is ∙ c.view.ensures.newest) in
    let none : look_refused (newest c.self.inside.registrar).version (shown_in c.index.result.now) c.args.version ≡ None =
    ap (λ n. look_refused n (shown_in c.index.result.now) c.args.version) (sym version) ∙ sym c.look_refusal.ensures ∙ c.in_default.is in
    let may = may_look c.self.inside c.args.self.now c.self.view_is c.requires.delivered c.requires.standing c.args.i c.requires.within c.index.result.now c.index.ensures c.args.version none in
    false≢true (ap is_some (sym c.in_default-published.is) ∙ c.published.ensures.there.1 may.0)

pub look-requires : goal.look-requires
look-requires c =
    let l = c.requires.within in
    let version : c.behind-self.inside.version ≡ (newest c.self.inside.registrar).version = ap (λ g. g.version) (c.behind-self.view_is ∙ c.view.ensures.newest) in
    let same : shown_in c.index.result.now ≡ shown_in c.index_mut.result.now = shown_is c.self.inside c.args.self.now c.self.view_is c.args.i l c.index.result.now c.index.ensures ∙ sym (shown_is c.self.inside c.args.self.now c.self.view_is c.args.i l c.index_mut.result.now c.index_mut.ensures.value) in
    let none : look_refused (newest c.self.inside.registrar).version (shown_in c.index_mut.result.now) c.args.version ≡ None =
    ap (λ n. look_refused n (shown_in c.index_mut.result.now) c.args.version) (sym version) ∙ ap (λ m. look_refused c.behind-self.inside.version m c.args.version) (sym same) ∙ sym c.look_refusal.ensures ∙ c.in_default.is in
    let may = may_look c.self.inside c.args.self.now c.self.view_is c.requires.delivered c.requires.standing c.args.i c.requires.within c.index_mut.result.now c.index_mut.ensures.value c.args.version none in
    let view = c.in-Ok.ensures ∙ c.in-Some-published.ensures.view in
    record {
      ready = is_ready c.self.inside c.args.self.now c.self.view_is c.requires.standing c.args.i c.requires.within c.index_mut.result.now c.index_mut.ensures.value;
      stands = ap (λ v. is_in (shown_in c.index_mut.result.now).held.id (ids v)) view ∙ may.1.0;
      allowed = ap (λ v. refresh_refused (shown_in c.index_mut.result.now).held v.version) view ∙ may.1.1;
    }

pub returns-in_default-look-clause-err : goal.returns-in_default-look-clause-err
returns-in_default-look-clause-err c = unchanged c.self.inside c.args.self.now c.self.view_is c.args.i c.requires.within c.index_mut.result.now c.look.new.node c.index_mut.ensures.value c.in_default-look.ensures.err

pub returns-clause-ok : goal.returns-clause-ok
returns-clause-ok c =
    let looked = c.in-Ok-look.looked in
    let l = inside c.self.inside c.args.self.now c.self.view_is c.args.i c.requires.within in
    let v = view_at c.self.inside.registrar.views c.args.version in
    let has = subst (λ g. HasLooked g (shown_in c.index_mut.result.now) (shown_of c.look.new.node) (pending_shown looked.opened) (replaced_seen looked.replaced)) (c.in-Ok.ensures ∙ c.in-Some-published.ensures.view) c.in-Ok-look.ensures.ok in
    subst (λ p. LooksAt (view_at p.views c.args.version) c.args.i p (parties (set c.self.inside.members.items c.args.i (record c.index_mut.result.now { node = c.look.new.node })) c.self.inside.registrar (behind looked.opened)) (replaced_seen looked.replaced)) (sym (bare c.self.inside c.args.self.now c.self.view_is c.requires.delivered))
    (looks_at v c.args.i c.self.inside.members.items (set c.self.inside.members.items c.args.i (record c.index_mut.result.now { node = c.look.new.node })) c.self.inside.registrar looked.opened (replaced_seen looked.replaced)
    (at_read (λ a b. HasLooked v a b (pending_shown looked.opened) (replaced_seen looked.replaced)) c.self.inside.members.items c.args.i c.index_mut.result.now (record c.index_mut.result.now { node = c.look.new.node }) l c.index_mut.ensures.value has)
    (written_shown c.self.inside.members.items c.args.i (record c.index_mut.result.now { node = c.look.new.node }) l))

pub returns-clause-keeps : goal.returns-clause-keeps
returns-clause-keeps c = still_kept c.self.inside c.args.self.now c.self.view_is c.args.i c.requires.within c.index_mut.result.now (record c.index_mut.result.now { node = c.look.new.node }) c.index_mut.ensures.value refl
