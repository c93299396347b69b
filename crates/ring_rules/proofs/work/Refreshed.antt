-- A refresh is one of two: its member looks at the view, or a link opens besides.
use Rattle.std.proofs.Common.{◌≡◌, ℕ, ◌+◌, ◌<◌, Bool, true, false, nat_eq, List, [], ◌∷◌, ◌++◌, length, set, Option, Some, None, refl, ap, ◌∙◌, arith, ◌≤◌, ⊎_elim, get_or, sym, subst}
use Rattle.std.proofs.lemmas.Bool.{false≢true, cases_lt}
use Rattle.std.proofs.lemmas.List.{length-set, length_push, get_or_push, get_or-set_same, set-set, get_or_append_left}
use Rattle.ring_rules.proofs.rings.Lists.{at_set, set_nothing}
use Rattle.ring_rules.specs.View.{right_of}
use Rattle.ring_rules.specs.declared.phase.Ending.TheVariants.{Moved}
use Rattle.ring_rules.specs.Machine.{Member, Link, World, no_link, no_member, no_sending, link_at, member_at, view_in}
use Rattle.ring_rules.specs.Step.{size, ended, end_out, pushed, next_packet, fresh_link, moved_to, look_at, open_to}
use Rattle.ring_rules.specs.Event.{send_to, refreshed}
use Rattle.ring_rules.proofs.rings.Writes.{at_set}

-- whether a link, if there is one, goes to z
abbrev pub goes_to : World → ℕ → Option ℕ → Bool
goes_to w z None = false
goes_to w z (Some o) = nat_eq (link_at w o).receiver z

-- whether x sends to its right neighbour in the view of version v
abbrev pub sends_right : World → ℕ → ℕ → Bool
sends_right w x v = goes_to w (right_of (view_in w v) x) (member_at w x).out

-- the link to x's right neighbour in v
abbrev pub new_link : World → ℕ → ℕ → Link
new_link w x v = pushed (fresh_link w x (right_of (view_in w v) x) v) (next_packet (moved_to w x v) no_sending)

-- x sends on it, at this place
abbrev pub sending_member : World → ℕ → ℕ → ℕ → Member
sending_member w x v n = record (moved_to w x v) { out = Some n }

-- the state in which it stands behind these links
abbrev pub opened_world : World → ℕ → ℕ → List Link → World
opened_world w x v ls = record w { members = set w.members x (sending_member w x v (length w.links)); links = ls ++ new_link w x v ∷ [] }

-- the links before it: the out link ends
abbrev pub old_links : World → ℕ → List Link
old_links w x = (end_out Moved w (member_at w x).out).links

-- ---- a refresh is one of two

pub refresh_looks : (w : World) (x v : ℕ) → sends_right w x v ≡ true → refreshed w x v ≡ look_at w x v
refresh_looks w x v h = by_out (member_at w x).out h
  where
    z : ℕ
    z = right_of (view_in w v) x

    by_out : (o : Option ℕ) → goes_to w z o ≡ true → send_to (look_at w x v) x z o ≡ look_at w x v
    by_out None k = absurd (false≢true k)
    by_out (Some o) k = rw k refl

pub old_many : (w : World) (x : ℕ) → length (old_links w x) ≡ length w.links
old_many w x = by_out (member_at w x).out
  where
    by_out : (o : Option ℕ) → length (end_out Moved w o).links ≡ length w.links
    by_out None = refl
    by_out (Some o) = length-set w.links o (ended Moved (link_at w o))

-- the open link, whatever the links before it
opens_by : (w : World) (x v : ℕ) (ls : List Link) → x < size w → length ls ≡ length w.links → open_to (record (look_at w x v) { links = ls }) x (right_of (view_in w v) x) ≡ opened_world w x v ls
opens_by w x v ls l many =
    let y : Member = moved_to w x v in
    let z : ℕ = right_of (view_in w v) x in
    ap (λ m. record w { members = set (set w.members x y) x (record m { out = Some (length ls) }); links = ls ++ pushed (fresh_link w x z m.version) (next_packet m no_sending) ∷ [] }) (get_or-set_same w.members x y no_member l)
    ∙ ap (λ ms. record w { members = ms; links = ls ++ new_link w x v ∷ [] }) (set-set w.members x y (record y { out = Some (length ls) }))
    ∙ ap (λ n. record w { members = set w.members x (sending_member w x v n); links = ls ++ new_link w x v ∷ [] }) many

pub refresh_opens : (w : World) (x v : ℕ) → x < size w → sends_right w x v ≡ false → refreshed w x v ≡ opened_world w x v (old_links w x)
refresh_opens w x v l h = by_out (member_at w x).out h
  where
    z : ℕ
    z = right_of (view_in w v) x

    by_out : (o : Option ℕ) → goes_to w z o ≡ false → send_to (look_at w x v) x z o ≡ opened_world w x v (end_out Moved w o).links
    by_out None k = opens_by w x v w.links l refl
    by_out (Some o) k = rw k (opens_by w x v (set w.links o (ended Moved (link_at w o))) l (length-set w.links o (ended Moved (link_at w o))))

-- ---- the links that were there

-- all of a link but its end, of which its two members know nothing
abbrev pub endless : Link → Link
endless l = record l { ending = None }

old_same : (w : World) (x s : ℕ) → endless (get_or (old_links w x) s no_link) ≡ endless (link_at w s)
old_same w x s = by_out (member_at w x).out
  where
    by_out : (o : Option ℕ) → endless (get_or (end_out Moved w o).links s no_link) ≡ endless (link_at w s)
    by_out None = refl
    by_out (Some o) = ⊎_elim
        (λ (there : o < length w.links). at_set (λ k a. endless a ≡ endless (link_at w k)) w.links o s (ended Moved (link_at w o)) no_link there refl (λ _. refl))
        (λ (ge : length w.links ≤ o). ap (λ ls. endless (get_or ls s no_link)) (set_nothing w.links o (ended Moved (link_at w o)) ge))
        (cases_lt o (length w.links))

pub link_old : (w : World) (x v s : ℕ) → s < length w.links → endless (link_at (opened_world w x v (old_links w x)) s) ≡ endless (link_at w s)
link_old w x v s l = ap endless (get_or_append_left (old_links w x) (new_link w x v ∷ []) no_link s (omega (arith, old_many w x))) ∙ old_same w x s

-- and the new one
pub link_new : (w : World) (x v : ℕ) → link_at (opened_world w x v (old_links w x)) (length w.links) ≡ new_link w x v
link_new w x v = get_or_push (old_links w x) (new_link w x v) no_link (length w.links) (old_many w x)

pub links_more : (w : World) (x v : ℕ) → length (opened_world w x v (old_links w x)).links ≡ length w.links + 1
links_more w x v = omega (arith, length_push (old_links w x) (new_link w x v), old_many w x)

-- x looks, or a link opens behind the links that were there
pub refresh_cases : (P : World → Type 0) (w : World) (x v : ℕ) → x < size w → (sends_right w x v ≡ true → P (look_at w x v)) → (sends_right w x v ≡ false → P (opened_world w x v (old_links w x))) → P (refreshed w x v)
refresh_cases P w x v lt looks opens = by_test (sends_right w x v) refl
  where
    by_test : (b : Bool) → sends_right w x v ≡ b → P (refreshed w x v)
    by_test true e = subst P (sym (refresh_looks w x v e)) (looks e)
    by_test false e = subst P (sym (refresh_opens w x v lt e)) (opens e)
