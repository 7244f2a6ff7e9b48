-- What the jobs of a call share: of a broadcast that waits its pieces do, else the body and the jobs of a scope.
use Rattle.std.specs.Prelude.{Bool, true, false, Option, None}
use Rattle.rayon_tasks.specs.Tickets.{CoreOf}

-- the scope, if it is of one
abbrev pub scope_shared : Bool → Option CoreOf → Option CoreOf
scope_shared true k = None
scope_shared false k = k

-- the broadcast, if it is of one
abbrev pub broadcast_shared : Bool → Option CoreOf → Option CoreOf
broadcast_shared true k = k
broadcast_shared false k = None
