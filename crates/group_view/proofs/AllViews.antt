-- What holds of all views of a group, from the opening on.
use Rattle.std.proofs.Common.{◌≡◌, ℕ, List, [], ◌∷◌, ◌++◌, subst, append_assoc, None}
use Rattle.group_view.specs.View.{Group}
use Rattle.group_view.specs.Change.{AreOpeningNames, opening, Change, Marks, Erases, Admits, Syncs, refusal, changed, AreChanges, views_from}
use Rattle.group_view.specs.Kept.{IsGroup}
use Rattle.group_view.specs.Laws.{IsHistory}
use Rattle.group_view.proofs.History.{Ends, Follows, goes_on, last_is, refusal_none, erase_none, mark_follows, erase_follows, opening_begins}
use Rattle.group_view.proofs.Joining.{may_admit, admit_follows}
use Rattle.group_view.proofs.Syncing.{sync_none, sync_follows}

-- a change that may happen follows
pub change_follows : (g : Group) (c : Change) → IsGroup g → refusal g c ≡ None → Follows g (changed g c)
change_follows g (Marks d) k r = mark_follows g d k (refusal_none g.entries d r)
change_follows g (Erases d) k r = erase_follows g d k (erase_none g.entries d r)
change_follows g (Admits m name) k r = admit_follows g m name (may_admit g m name k r)
change_follows g (Syncs p) k r = sync_follows g p k (sync_none g.entries p r)

-- ---- all views

pub views_go_on : (earlier : List Group) (g : Group) (cs : List Change) → Ends (earlier ++ g ∷ []) g → AreChanges g cs → IsHistory (earlier ++ views_from g cs)
views_go_on earlier g [] h k = h.history
views_go_on earlier g (c ∷ cs) h k =
    subst IsHistory (append_assoc earlier (g ∷ []) (views_from (changed g c) cs))
    (views_go_on (earlier ++ g ∷ []) (changed g c) cs (goes_on (earlier ++ g ∷ []) g (changed g c) h (change_follows g c (last_is (earlier ++ g ∷ []) g h) k.0)) k.1)

pub views_are_history : (names : List (List ℕ)) (cs : List Change) → AreOpeningNames names → AreChanges (opening names) cs → IsHistory (views_from (opening names) cs)
views_are_history names cs h k = views_go_on [] (opening names) cs (opening_begins names h) k
