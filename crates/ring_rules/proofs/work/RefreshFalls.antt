-- A refresh of a stale member leaves less to do.
use Rattle.std.proofs.Common.{◌≡◌, ℕ, ◌+◌, ◌-◌, ◌*◌, ◌<◌, ◌≤◌, Bool, true, false, not, nat_eq, List, [], ◌∷◌, length, set, get_or, Option, Some, None, is_some, if◌then◌else◌, refl, sym, ap, subst, ◌∙◌, arith, inl, inr}
use Rattle.std.specs.Prelude.{◌&&◌}
use Rattle.std.specs.List.{sum_by}
use Rattle.std.proofs.lemmas.List.Sums.{count_by-le-length}
use Rattle.ring_rules.proofs.invariants.Happens.{newest_is}
use Rattle.std.proofs.lemmas.Bool.{false≢true}
use Rattle.std.proofs.lemmas.List.{get_or_append_left, get_or-set_same, get_or-set_other}
use Rattle.group_view.specs.View.{Group}
use Rattle.group_view.specs.Since.{no_group}
use Rattle.ring_rules.proofs.events.Cases.{IsRunning}
use Rattle.ring_rules.specs.declared.phase.Ending.TheVariants.{Moved}
use Rattle.ring_rules.specs.Machine.{Member, Link, World, no_link, no_sending, member_at, link_at, view_in, newest}
use Rattle.ring_rules.specs.View.{right_of}
use Rattle.ring_rules.specs.Step.{size, ended, ended_so, end_out, moved_to, look_at}
use Rattle.ring_rules.specs.Event.{refreshed, has_nothing_new}
use Rattle.ring_rules.proofs.rings.Rounds.{nat_eq-same}
use Rattle.ring_rules.proofs.work.Fit.{IsFit}
use Rattle.ring_rules.proofs.work.Refreshed.{sends_right, new_link, opened_world, old_links, old_many, link_old, link_new, links_more, refresh_cases, goes_to}
use Rattle.ring_rules.specs.Work.{sum_below, entry_left, marks_left, is_stale, stale_by, stale, is_led, is_late, is_untold, untold, owed_by, dirty_on, dirty_at, items, place_at, weight_at, on_links, Falls}
use Rattle.ring_rules.proofs.work.Falls.{next_is_sent}
use Rattle.ring_rules.proofs.work.Parts.{nothing, stale_written, dirty_same, Lowers, LowersThen, step_lowers, listed}
use Rattle.ring_rules.proofs.work.Places.{IsWritten, written, place_most, NoneRises, refresh_places}
use Rattle.ring_rules.proofs.work.Sums.{sum_le, sum_at, sum_more}

-- ---- small steps

-- 1 where a test passes
abbrev one_if : Bool → ℕ
one_if b = if b then 1 else 0

-- a member of this version that sends on some link isn't stale
looks_not_stale : (v : ℕ) (y : Member) → y.version ≡ v → is_some y.out ≡ true → stale_by v y ≡ 0
looks_not_stale v y e k = ap (λ c. one_if (not (c && is_some y.out))) (subst (λ q. nat_eq y.version q ≡ true) e (nat_eq-same y.version)) ∙ ap (λ c. one_if (not (true && c))) k

-- a link that ends has at most one item more
ended_items : (l : Link) → items (ended Moved l) ≤ items l + 1
ended_items l = more (length l.packets) (is_some (ended_so Moved l.ending) && not l.over) (if is_some l.ending && not l.over then 1 else 0)
  where
    more : (p : ℕ) (b : Bool) (e : ℕ) → p + (if b then 1 else 0) ≤ (p + e) + 1
    more p true e = omega arith
    more p false e = omega arith

-- what a link weighs by what stands at its place
weighs_by : (w w' : World) (t b : ℕ) (l : Link) → link_at w' t ≡ l → items l ≤ items (link_at w t) + b → length l.flow.grants ≡ length (link_at w t).flow.grants → place_at w' t ≤ place_at w t → weight_at w' t + 0 ≤ weight_at w t + 2 * b
weighs_by w w' t b l same few grants place =
    subst (λ (k : Link). (2 * items k + place_at w' t + length k.flow.grants) + 0 ≤ weight_at w t + 2 * b) (sym same)
    (sum (items l) (items (link_at w t)) (place_at w' t) (place_at w t) (length l.flow.grants) (length (link_at w t).flow.grants) few place grants)
  where
    sum : (i j p p' g g' : ℕ) → i ≤ j + b → p ≤ p' → g ≡ g' → (2 * i + p + g) + 0 ≤ (2 * j + p' + g') + 2 * b
    sum i j p p' g g' k m n = omega arith

-- ---- x looks at the newest of these views, and sends to its right neighbour in it

-- with these views, a marks and b stale members fewer are left, and c stale members more at most, where x isn't stale
pub record Pays (w : World) (vs : List Group) (x a b c : ℕ) : Type 0 where
  pub marks : sum_by entry_left (get_or vs (length vs - 1) no_group).entries + a ≤ marks_left w + 0
  pub stale : (w' : World) (y : Member) → IsWritten w w' x y → newest w' ≡ length vs - 1 → stale_by (length vs - 1) y ≡ 0 → stale w' + b ≤ stale w + c
  pub few : length (get_or vs (length vs - 1) no_group).entries ≤ 64
  pub old : (q : ℕ) → get_or vs (member_at w q).version no_group ≡ view_in w (member_at w q).version
  pub falls : Falls (listed (record nothing { marks = a; stale = b })) (listed (record nothing { stale = c; owed = 65; links = 6 }))
  pub enough : 39100 * c + 39006 < 2600000 * a + 39100 * b

-- no more is owed by a view than to start, and to tell each entry
owed_most : (g : Group) (x : ℕ) (y : Member) → length g.entries ≤ 64 → owed_by g x y + 0 ≤ 65
owed_most g x y few = by_case (is_led g.master x) (is_late g y.started) (untold g y) (count_by-le-length (is_untold y.version y.told) g.entries)
  where
    by_case : (a b : Bool) (n : ℕ) → n ≤ length g.entries → (if a then (if b then 1 else 0) + n else 0) + 0 ≤ 65
    by_case true true n l = omega arith
    by_case true false n l = omega arith
    by_case false b n l = omega arith

module _ (w : World) (vs : List Group) (x v a b c : ℕ) (f : IsFit w) (u : IsRunning w x) (top : v ≡ length vs - 1) (pays : Pays w vs x a b c) where
  -- the state with these views
  abbrev seen : World
  seen = record w { views = vs }

  -- x, where it sends on o
  abbrev sends_on : Option ℕ → Member
  sends_on o = record (moved_to seen x v) { out = o }

  -- x is so, and these are the links
  abbrev then_so : Option ℕ → List Link → World
  then_so o ls = record w { views = vs; members = set w.members x (sends_on o); links = ls }

  -- the others stay
  member : (o : Option ℕ) (ls : List Link) → IsWritten w (then_so o ls) x (sends_on o)
  member o ls = written w vs x (sends_on o) ls u.lt

  -- the number of stale members, or of marks, pays for what is added to the links
  pays_links : (o : Option ℕ) (ls : List Link) → is_some o ≡ true → ((j : ℕ) → j < length w.links → (get_or ls j no_link).sending ≡ (link_at w j).sending)
      → dirty_on (size w) (then_so o ls) (sends_on o) o ≤ dirty_at (size w) w x → on_links (then_so o ls) ≤ on_links w + 6 → Lowers w (then_so o ls)
  pays_links o ls some sending dirty links =
      step_lowers w (then_so o ls) x (sends_on o) (record nothing { marks = a; stale = b }) (record nothing { stale = c; owed = 65; links = 6 }) u
      (record {
        member = member o ls;
        log = refl;
        sent = λ q j _ e. sending j (f.own_ends.out q j e).0;
        marks = pays.marks;
        stale = pays.stale (then_so o ls) (sends_on o) (member o ls) refl (looks_not_stale (length vs - 1) (sends_on o) top some);
        views = λ q _. pays.old q;
        owed =
            let most : owed_by (get_or vs v no_group) x (sends_on o) + 0 ≤ 65 = owed_most (get_or vs v no_group) x (sends_on o) (subst (λ n. length (get_or vs n no_group).entries ≤ 64) (sym top) pays.few) in
            omega (arith, most);
        dirty = omega (arith, dirty);
        lag = omega arith;
        links = omega (arith, links);
      }) pays.falls (omega (arith, pays.enough))

  -- where it sends there already
  looks_falls : sends_right seen x v ≡ true → NoneRises w (look_at seen x v) → Lowers w (look_at seen x v)
  looks_falls sends places =
      pays_links out w.links (by_out out sends) (λ j _. refl)
      (let same : dirty_on (size w) (look_at seen x v) (sends_on out) out ≡ dirty_at (size w) w x = dirty_same (size w) w (look_at seen x v) (member_at w x) (sends_on out) out refl (λ j _. refl) in omega (arith, same))
      (omega (arith, links))
    where
      out : Option ℕ
      out = (member_at w x).out

      by_out : (o : Option ℕ) → goes_to seen (right_of (view_in seen v) x) o ≡ true → is_some o ≡ true
      by_out None k = absurd (false≢true k)
      by_out (Some o) k = refl

      links : on_links (look_at seen x v) ≤ on_links w
      links = sum_le (length w.links) (length w.links) (weight_at w) (weight_at (look_at seen x v)) refl
          (λ t tl. let less : weight_at (look_at seen x v) t + 0 ≤ weight_at w t + 2 * 0 = weighs_by w (look_at seen x v) t 0 (link_at w t) refl (omega arith) refl (places t tl) in omega (arith, less))

  -- where a link opens
  opens_falls : NoneRises w (opened_world seen x v (old_links seen x)) → Lowers w (opened_world seen x v (old_links seen x))
  opens_falls places =
      pays_links (Some n) w'.links refl (λ j jl. ap (λ (l : Link). l.sending) (link_old seen x v j jl)) (omega (arith, sent_all))
      (sum_more n (length w'.links) (weight_at w) (weight_at w') 2 4 (links_more seen x v) (by_out (member_at w x).out refl) new)
    where
      n : ℕ
      n = length w.links

      w' : World
      w' = opened_world seen x v (old_links seen x)

      -- x has sent all that it has
      sent_all : dirty_on (size w) w' (sends_on (Some n)) (Some n) ≡ 0
      sent_all =
          ap (λ (l : Link). if has_nothing_new (size w) (sends_on (Some n)) l.sending then 0 else 1) (link_new seen x v)
          ∙ ap (λ t. if t then 0 else 1) (next_is_sent (size w) (moved_to seen x v) no_sending)

      -- the links that were there: the out link may end
      old_at : (o : Option ℕ) → (member_at w x).out ≡ o → (t : ℕ) → t < n → link_at w' t ≡ get_or (end_out Moved seen o).links t no_link
      old_at o e t tl = get_or_append_left (old_links seen x) (new_link seen x v ∷ []) no_link t (omega (arith, old_many seen x)) ∙ ap (λ k. get_or (end_out Moved seen k).links t no_link) e

      same : (t : ℕ) → t < n → link_at w' t ≡ link_at w t → weight_at w' t ≤ weight_at w t
      same t tl is = let less : weight_at w' t + 0 ≤ weight_at w t + 2 * 0 = weighs_by w w' t 0 (link_at w t) is (omega arith) refl (places t tl) in omega (arith, less)

      by_out : (o : Option ℕ) → (member_at w x).out ≡ o → sum_below n (weight_at w') ≤ sum_below n (weight_at w) + 2
      by_out None e = let all : sum_below n (weight_at w') ≤ sum_below n (weight_at w) = sum_le n n (weight_at w) (weight_at w') refl (λ t tl. same t tl (old_at None e t tl)) in omega (arith, all)
      by_out (Some o) e =
          let ol : o < n = (f.own_ends.out x o e).0 in
          let all : sum_below n (weight_at w') + 0 ≤ sum_below n (weight_at w) + 2 =
          sum_at n n (weight_at w) (weight_at w') o 0 2 refl ol
          (λ t tl ne. same t tl (old_at (Some o) e t tl ∙ get_or-set_other w.links o t (ended Moved (link_at w o)) no_link ne))
          (weighs_by w w' o 1 (ended Moved (link_at w o)) (old_at (Some o) e o ol ∙ get_or-set_same w.links o (ended Moved (link_at w o)) no_link ol) (ended_items (link_at w o)) refl (places o ol)) in
          omega (arith, all)

      -- and the new one
      new : weight_at w' n ≤ 4
      new =
          subst (λ (l : Link). 2 * items l + place_at w' n + length l.flow.grants ≤ 4) (sym (link_new seen x v))
          (let most : place_at w' n ≤ 2 = place_most _ _ _ in omega (arith, most))

  -- so a refresh leaves less to do
  pub refresh_falls : LowersThen w (refreshed seen x v)
  refresh_falls k = refresh_cases (λ w'. NoneRises w w' → Lowers w w') seen x v u.lt looks_falls (λ _. opens_falls) (refresh_places w vs x v f.good u.lt k.good k.later)

-- ---- a refresh to the newest view

-- one member fewer is stale, where it was
pub stale_falls : (w : World) (x : ℕ) → IsFit w → IsRunning w x → is_stale (newest w) (member_at w x) ≡ true → LowersThen w (refreshed w x (newest w))
stale_falls w x f u was = refresh_falls w w.views x (newest w) 0 1 0 f u refl
    (record {
      marks = omega arith;
      few = (newest_is w f.good.views).few;
      old = λ q. refl;
      stale = λ w' y m top fresh. stale_written w w' x y 1 0 u.some u.lt top m (let before : stale_by (newest w) (member_at w x) ≡ 1 = ap one_if was in omega (arith, fresh, before));
      falls = inr (omega arith, inl (omega arith, refl));
      enough = omega arith;
    })
