-- what becomes of own deques, injectors and broadcast lists
--
-- Broken by the wrong machines `thief_takes_the_newest`, `injector_popped_newest_first` and
-- `broadcast_adds_its_pieces_first` of ListTeeth.
use Rattle.std.specs.Prelude.{ℕ, ◌&&◌, ◌+◌, ◌==◌, nat_lt, if◌then◌else◌, Option, Some, None, List, [], ◌∷◌, ◌++◌, ◌≡◌, ◌⊎◌}
use Rattle.rayon_machine_places.specs.declared.shape.Order.{Order}
use Rattle.rayon_machine_places.specs.declared.shape.Order.TheVariants.{OldestFirst}
use Rattle.rayon_machine_places.specs.declared.place.Party.{Party}
use Rattle.rayon_machine_places.specs.declared.place.Party.TheVariants.{Worker}
use Rattle.rayon_machine_places.specs.declared.place.Taken.{Taken}
use Rattle.rayon_machine_places.specs.declared.place.Place.{Place}
use Rattle.rayon_machine_places.specs.declared.place.Place.TheVariants.{LeaveSearch, BeginTask, BeginHere}
use Rattle.rayon_machine_places.specs.declared.act.Act.{Act}
use Rattle.rayon_machine_places.specs.declared.act.Act.TheVariants.{PopOwn, TakeCast, Steal, PopInj, PushInj, PushOwn, PushCast}
use Rattle.rayon_machine_runs.specs.declared.event.Event.{Event}
use Rattle.rayon_machine_runs.specs.declared.event.Event.TheVariants.{Go}
use Rattle.rayon_machine_places.specs.Places.{same_party, is_member, taken_number, act_of}
use Rattle.rayon_machine_runs.specs.World.{Shape, World}
use Rattle.rayon_machine_runs.specs.Steps.{step}
use Rattle.rayon_machine_runs.specs.Runs.{IsRun, start}
use Rattle.rayon_machine_orders.specs.Order.{Hands}

-- what an event does to such a list: it adds this job or token last, or it takes the one that a list of this order hands
-- out, which its party then has in hand
pub data Shift : Type 0 where
  Pushes : (task : ℕ) → Shift
  Takes : (order : Order) → (hand : Option ℕ) → Shift

-- the number of what was taken
abbrev pub number_of : Option Taken → Option ℕ
number_of None = None
number_of (Some x) = Some (taken_number x)

-- the job or token that a party has taken and begins next, by where it stands
abbrev pub in_hand : Place → Option ℕ
in_hand (LeaveSearch w) = number_of w.found
in_hand (BeginTask x) = Some (taken_number x)
in_hand (BeginHere t) = Some t
in_hand _ = None

-- what a party's act is to the own deque of worker i of pool p, where the party stands so after it: that worker pushes
-- and pops there, and thieves take the oldest
abbrev pub deque_shift : Shape → ℕ → ℕ → Party → Act → Place → Option Shift
deque_shift h p i q (PushOwn t b) y = if same_party (Worker p i) q then Some (Pushes t) else None
deque_shift h p i q PopOwn y = if same_party (Worker p i) q then Some (Takes (h.pool p).order (in_hand y)) else None
deque_shift h p i q (Steal r v) y = if (p == r) && (i == v) then Some (Takes OldestFirst (in_hand y)) else None
deque_shift h p i q _ y = None

-- what it is to the injector of pool p: anybody pushes there, and the pool's workers take the oldest
abbrev pub injector_shift : ℕ → Party → Act → Place → Option Shift
injector_shift p q (PushInj r t b) y = if p == r then Some (Pushes t) else None
injector_shift p q PopInj y = if is_member q p then Some (Takes OldestFirst (in_hand y)) else None
injector_shift p q _ y = None

-- what it is to the broadcast list of worker i of pool p: a broadcast pushes there that worker's piece, and the worker
-- takes the oldest
abbrev pub cast_shift : ℕ → ℕ → Party → Act → Place → Option Shift
cast_shift p i q (PushCast c) y = if (p == c.pool) && nat_lt i c.workers then Some (Pushes (c.first + i)) else None
cast_shift p i q TakeCast y = if same_party (Worker p i) q then Some (Takes OldestFirst (in_hand y)) else None
cast_shift p i q _ y = None

-- what an event that leads to this world is to a list, by what acts are to it
abbrev pub shift_at : (Party → Act → Place → Option Shift) → World → Event → World → Option Shift
shift_at f w (Go q) v = f q (act_of q (w.stack q).top) (v.stack q).top
shift_at f w _ v = None

-- a task is taken from the list, and this is left, or there was none
abbrev pub TakesOne : Order → List ℕ → Option ℕ → List ℕ → Type 0
TakesOne o l hand m = ((l ≡ []) × (m ≡ [])) ⊎ ((t : ℕ) × (hand ≡ Some t) × Hands o l t m)

-- the list after it
abbrev pub Shifts : List ℕ → Option Shift → List ℕ → Type 0
Shifts l None m = m ≡ l
Shifts l (Some (Pushes t)) m = m ≡ l ++ t ∷ []
Shifts l (Some (Takes o hand)) m = TakesOne o l hand m

-- an event that leads from w to v shifts each own deque, each injector and each broadcast list so
pub record ShiftsAll (w : World) (e : Event) (v : World) : Type 0 where
  pub deques : (p i : ℕ) → Shifts (w.seat p i).own (shift_at (deque_shift w.shape p i) w e v) (v.seat p i).own
  pub injectors : (p : ℕ) → Shifts (w.pool p).injector (shift_at (injector_shift p) w e v) (v.pool p).injector
  pub casts : (p i : ℕ) → Shifts ((w.pool p).casts i) (shift_at (cast_shift p i) w e v) ((v.pool p).casts i)

-- each step of each run does
abbrev pub ListLaw : Type 0
ListLaw = (shape : Shape) (before : List Event) (w v : World) (e : Event) → IsRun (start shape) before w → step w e ≡ Some v → ShiftsAll w e v
