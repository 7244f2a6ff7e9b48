-- what a party has seen of a queue: a thief that misses, and who looks at a queue before it pushes there
--
-- Broken by the wrong machines of LookTeeth.
use Rattle.std.specs.Prelude.{ℕ, Bool, true, false, Option, Some, None, List, [], ◌∷◌, ◌≡◌}
use Rattle.rayon_machine_places.specs.declared.shape.Order.TheVariants.{NewestFirst}
use Rattle.rayon_machine_places.specs.declared.place.Party.{Party}
use Rattle.rayon_machine_places.specs.declared.place.Place.{Place}
use Rattle.rayon_machine_places.specs.declared.place.Place.TheVariants.{LookQueue, PushJob, LookForToken, PushToken}
use Rattle.rayon_machine_places.specs.declared.act.Act.{Act}
use Rattle.rayon_machine_places.specs.declared.act.Act.TheVariants.{Steal, PushInj, PushOwn, News}
use Rattle.rayon_machine_runs.specs.declared.event.Event.{Event}
use Rattle.rayon_machine_runs.specs.declared.event.Event.TheVariants.{Go, Miss}
use Rattle.rayon_machine_places.specs.Places.{own_pool, own_index, act_of}
use Rattle.rayon_machine_runs.specs.World.{Shape, World}
use Rattle.rayon_machine_runs.specs.Steps.{step}
use Rattle.rayon_machine_runs.specs.Runs.{IsRun, start}

-- a party is to steal, its pool takes the newest first, and exactly one task stands in the deque of the victim
pub record MissesOne (w : World) (q : Party) : Type 0 where
  pub victim : ℕ
  pub act : act_of q (w.stack q).top ≡ Steal (own_pool q) victim
  pub order : (w.shape.pool (own_pool q)).order ≡ NewestFirst
  pub task : ℕ
  pub deque : (w.seat (own_pool q) victim).own ≡ task ∷ []

-- so it is wherever a steal misses, in every run
abbrev pub MissLaw : Type 0
MissLaw = (shape : Shape) (before : List Event) (q : Party) (w v : World) → IsRun (start shape) before w → step w (Miss q) ≡ Some v → MissesOne w q

-- the places at which a party looks at a queue before it pushes a job or a token there
abbrev pub is_look : Place → Bool
is_look (LookQueue n) = true
is_look (LookForToken f) = true
is_look _ = false

-- whether the queue was empty, as a party that is to push has it
abbrev pub flag_of : Place → Option Bool
flag_of (PushJob n e) = Some e
flag_of (PushToken f e) = Some e
flag_of _ = None

-- the queue that a push goes to: the party's own deque, or the injector that the act names
abbrev pub queue_of : World → Party → Act → Option (List ℕ)
queue_of w q (PushOwn t b) = Some (w.seat (own_pool q) (own_index q)).own
queue_of w q (PushInj p t b) = Some (w.pool p).injector
queue_of w q _ = None

-- and the pool of that queue
abbrev pub pool_of : Party → Act → ℕ
pool_of q (PushInj p t b) = p
pool_of q _ = own_pool q

abbrev pub is_empty : List ℕ → Bool
is_empty [] = true
is_empty (t ∷ ts) = false

-- a party comes to its push, and has seen whether the queue that the push goes to is empty
pub record HasLooked (w : World) (q : Party) (v : World) : Type 0 where
  pub queue : List ℕ
  pub goes : queue_of w q (act_of q (v.stack q).top) ≡ Some queue
  pub flag : flag_of (v.stack q).top ≡ Some (is_empty queue)

-- an act that leads from w to v: who looks comes to its push with what the queue was, nobody else comes to a push, and who
-- pushes tells the news of the pool of that queue next, with the same
pub record TellsSo (w : World) (q : Party) (v : World) : Type 0 where
  pub looks : is_look (w.stack q).top ≡ true → HasLooked w q v
  pub comes : (b : Bool) → flag_of (v.stack q).top ≡ Some b → is_look (w.stack q).top ≡ true
  pub tells : (b : Bool) → flag_of (w.stack q).top ≡ Some b → act_of q (v.stack q).top ≡ News (pool_of q (act_of q (w.stack q).top)) b

-- so it is of each act of each run
abbrev pub TellLaw : Type 0
TellLaw = (shape : Shape) (before : List Event) (q : Party) (w v : World) → IsRun (start shape) before w → step w (Go q) ≡ Some v → TellsSo w q v
