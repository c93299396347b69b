-- What a step leaves: one member or one link is written, or a link or a member joins the others, and the rest stays.
use Rattle.std.proofs.Common.{◌≡◌, ◌≢◌, ℕ, ◌<◌, ◌≤◌, List, [], ◌∷◌, ◌++◌, length, get_or, refl, sym, subst, ⊎_elim, arith}
use Rattle.std.proofs.lemmas.Bool.{cases_lt, cases_eq}
use Rattle.std.proofs.lemmas.List.{get_or_append_left, get_or_push, length_push}
use Rattle.ring_rules.specs.Machine.{Member, Link, World, no_link, no_member, member_at, link_at}
use Rattle.ring_rules.specs.Step.{size, with_member, with_link, joiner, come_to}
use Rattle.ring_rules.proofs.rings.Lists.{at_set, set_nothing, get_or_beyond}

-- member x becomes y: what y has of what x was, and each member of itself, each has of what it was
pub member_leaves : (P : ℕ → Member → Member → Type 0) (w : World) (x : ℕ) (y : Member) → P x (member_at w x) y → ((q : ℕ) → P q (member_at w q) (member_at w q)) → (q : ℕ) → P q (member_at w q) (member_at (with_member w x y) q)
member_leaves P w x y here same q = ⊎_elim
    (λ (lt : x < size w). at_set (λ k a. P k (member_at w k) a) w.members x q y no_member lt here (λ _. same q))
    (λ (ge : size w ≤ x). subst (λ ms. P q (member_at w q) (get_or ms q no_member)) (sym (set_nothing w.members x y ge)) (same q))
    (cases_lt x (size w))

-- link o becomes l
pub link_leaves : (P : ℕ → Link → Link → Type 0) (w : World) (o : ℕ) (l : Link) → P o (link_at w o) l → ((s : ℕ) → P s (link_at w s) (link_at w s)) → (s : ℕ) → P s (link_at w s) (link_at (with_link w o l) s)
link_leaves P w o l here same s = ⊎_elim
    (λ (lt : o < length w.links). at_set (λ k a. P k (link_at w k) a) w.links o s l no_link lt here (λ _. same s))
    (λ (ge : length w.links ≤ o). subst (λ ls. P s (link_at w s) (get_or ls s no_link)) (sym (set_nothing w.links o l ge)) (same s))
    (cases_lt o (length w.links))

-- with one link more
abbrev pub with_opened : World → Link → World
with_opened w l = record w { links = w.links ++ l ∷ [] }

-- those that were there stay
pub new_link_leaves : (P : ℕ → Link → Link → Type 0) (w : World) (l : Link) → ((s : ℕ) → P s (link_at w s) (link_at w s)) → (s : ℕ) → s < length w.links → P s (link_at w s) (link_at (with_opened w l) s)
new_link_leaves P w l same s lt = subst (P s (link_at w s)) (sym (get_or_append_left w.links (l ∷ []) no_link s lt)) (same s)

-- a member comes: what it has, and what the others have
pub come_each : (w : World) (m : ℕ) (name : List ℕ) (y : ℕ) (P : ℕ → Member → Type 0) → P (size w) (joiner w name) → (y < size w → P y (member_at w y)) → (size w < y → P y no_member) → P y (member_at (come_to w m name) y)
come_each w m name y P new old beyond = ⊎_elim
    (λ (lt : y < size w). subst (P y) (sym (get_or_append_left w.members (joiner w name ∷ []) no_member y lt)) (old lt))
    (λ (ge : size w ≤ y). ⊎_elim
    (λ (is : y ≡ size w). subst (λ k. P k (member_at (come_to w m name) k)) (sym is) (subst (P (size w)) (sym (get_or_push w.members (joiner w name) no_member (size w) refl)) new))
    (λ (d : y ≢ size w). subst (P y) (sym (get_or_beyond (w.members ++ joiner w name ∷ []) y no_member (omega (arith, length_push w.members (joiner w name))))) (beyond (omega arith)))
    (cases_eq y (size w)))
    (cases_lt y (size w))

-- so what it has, and each other member of itself, each has
pub come_member : (w : World) (m : ℕ) (name : List ℕ) (q : ℕ) (P : ℕ → Member → Type 0) → P (size w) (joiner w name) → P q (member_at w q) → P q (member_at (come_to w m name) q)
come_member w m name q P new old = come_each w m name q P new (λ _. old) (λ gt. subst (P q) (get_or_beyond w.members q no_member (omega arith)) old)
