-- How many links wait for a member.
use Rattle.std.proofs.Common.{ℕ, ◌≤◌, Bool, true, false, cond, List, [], ◌∷◌, ◌++◌, length, Option, Some, None, arith}
use Rattle.std.specs.List.{filter}
use Rattle.std.proofs.lemmas.List.{length-append}
use Rattle.group_view.specs.declared.link.LinkName.{LinkName}
use Rattle.registrar.specs.declared.waiting_link.WaitingLink.{WaitingLink}
use Rattle.registrar.specs.Registry.{is_for}
use Rattle.registrar.specs.Handled.{deposited, links_for}

module _ {I : Type 0} where
  -- a link gives one at most
  one_at_most : (name : LinkName) (link : Option I) → length (deposited name link) ≤ 1
  one_at_most name None = omega arith
  one_at_most name (Some link) = omega arith

  -- no more come to a member than have it for their receiver
  pub covered : (p : ℕ) (links : List (WaitingLink I)) → length (links_for p links) ≤ length (filter (is_for p) links)
  covered p [] = omega arith
  covered p (s ∷ ss) = by_case (is_for p s) (covered p ss)
    where
      by_case : (b : Bool) → length (links_for p ss) ≤ length (filter (is_for p) ss) → length (cond b (deposited s.name s.link ++ links_for p ss) (links_for p ss)) ≤ length (cond b (s ∷ filter (is_for p) ss) (filter (is_for p) ss))
      by_case false h = h
      by_case true h = omega (arith, length-append (deposited s.name s.link) (links_for p ss), one_at_most s.name s.link, h)
