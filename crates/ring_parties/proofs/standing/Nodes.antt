-- Lists of members, and what they show.
use Rattle.std.proofs.Common.{◌≡◌, ℕ, ◌<◌, List, length, map, get_or, set, sym, subst}
use Rattle.std.proofs.lemmas.List.{get_or-map}
use Rattle.ring_parties.specs.declared.party.Party.{Party}
use Rattle.ring_parties.specs.Parties.{Shown, shown_in, no_shown, keeps_in}
use Rattle.ring_parties.specs.Keeps.{no_keeps, keeps_at}
use Rattle.ring_parties.proofs.lists.Lists.{mapped_read, mapped_written, mapped_new}
use Rattle.ring_rules.proofs.rings.Maps.{mapped_rewrite}

-- what the member at a place shows
abbrev pub shown_at : List Party → ℕ → Shown
shown_at nodes i = get_or (map shown_in nodes) i no_shown

pub read_shown : (xs : List Party) (i : ℕ) (x : Party) → i < length xs → x ≡ get_or xs i x → get_or (map shown_in xs) i no_shown ≡ shown_in x
read_shown xs i x l e = mapped_read shown_in xs i x no_shown l e

pub same_shown : (xs : List Party) (i : ℕ) (x y : Party) → i < length xs → x ≡ get_or xs i x → shown_in y ≡ shown_in x → map shown_in (set xs i y) ≡ map shown_in xs
same_shown xs i x y l e g = mapped_rewrite shown_in xs i x y l e g

-- what its party keeps
pub read_keeps : (xs : List Party) (i : ℕ) (x : Party) → i < length xs → x ≡ get_or xs i x → keeps_at (map keeps_in xs) i ≡ keeps_in x
read_keeps xs i x l e = mapped_read keeps_in xs i x no_keeps l e

pub same_keeps : (xs : List Party) (i : ℕ) (x y : Party) → i < length xs → x ≡ get_or xs i x → keeps_in y ≡ keeps_in x → map keeps_in (set xs i y) ≡ map keeps_in xs
same_keeps xs i x y l e g = mapped_rewrite keeps_in xs i x y l e g

pub written_shown : (xs : List Party) (i : ℕ) (y : Party) → i < length xs → map shown_in (set xs i y) ≡ set (map shown_in xs) i (get_or (map shown_in (set xs i y)) i no_shown)
written_shown xs i y l = mapped_written shown_in xs i y no_shown l

pub new_shown : (xs : List Party) (i : ℕ) (y : Party) → i < length xs → get_or (map shown_in (set xs i y)) i no_shown ≡ shown_in y
new_shown xs i y l = mapped_new shown_in xs i y no_shown l

-- what holds between what a member shows that is at a place, and what another shows that is written there
pub at_place : (P : Shown → Shown → Type 0) (xs : List Party) (i : ℕ) (d y : Party) → i < length xs → P (shown_in (get_or xs i d)) (shown_in y)
    → P (shown_at xs i) (shown_at (set xs i y) i)
at_place P xs i d y l h =
    subst (λ a. P a (shown_at (set xs i y) i)) (sym (get_or-map shown_in xs i d no_shown l)) (subst (P (shown_in (get_or xs i d))) (sym (new_shown xs i y l)) h)

-- the same, of a member that was read there
pub at_read : (P : Shown → Shown → Type 0) (xs : List Party) (i : ℕ) (x y : Party) → i < length xs → x ≡ get_or xs i x → P (shown_in x) (shown_in y)
    → P (shown_at xs i) (shown_at (set xs i y) i)
at_read P xs i x y l e h = at_place P xs i x y l (subst (λ z. P (shown_in z) (shown_in y)) e h)
