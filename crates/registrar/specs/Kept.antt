-- What a Registrar shows, and what it keeps.
use Rattle.std.specs.Prelude.{◌≡◌, ◌<◌, length, map}
use Rattle.group_view.specs.View.{number}
use Rattle.registrar.specs.Registry.{Registry, newest}
use Rattle.registrar.specs.declared.registrar.Registrar.TheInside.{Inside}

module _ {I : Type 0} where
  -- the registry that a Registrar holds
  abbrev pub registry_of : Inside I → Registry I
  registry_of a = record { views = a.views.items; stopped = map number a.stopped.items; links = a.links.items }

  -- there is a view, and the newest has the number of views for its version
  pub record KeepsRegistry (a : Inside I) : Type 0 where
    pub some : 0 < length a.views.items
    pub numbered : (newest (registry_of a)).version ≡ length a.views.items
