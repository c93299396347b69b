-- Kinds of links.
use Rattle.std.specs.Prelude.{Bool, true, false}
use Rattle.group_view.specs.declared.link.LinkKind.{LinkKind}
use Rattle.group_view.specs.declared.link.LinkKind.TheVariants.{Ring, Copy}

-- whether a link is one of the ring
abbrev pub is_ring : LinkKind → Bool
is_ring Ring = true
is_ring Copy = false
