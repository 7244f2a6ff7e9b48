-- the law of calls has teeth: replays, computed by the kernel, in which a changed table or act breaks it, and that its
-- premises are met in the machine as it is
--
-- Edits of the code that make the same mistakes, each with the function at which the check refuses it:
-- - `join_abandons_its_second_side`: `join_skips_second_side` (there it still answers), at `Place::resume`.
-- - `install_does_not_wait`: `install_goes_back_once_its_job_is_queued`, at `Plan::after_news`.
-- - `refused_join_keeps_its_jobs`: `refused_call_keeps_its_jobs`, at `Then::follow`.
-- - `store_stores_nothing`, at `Touched::latches`. `call_leaves_out_its_lower`, at `Place::next_closing`.
-- - `call_lowers_without_an_answer`, at `OpenCall::answered`.
use Rattle.rayon_machine_places.specs.declared.place.Count.TheVariants.{OfPool}
use Rattle.rayon_machine_orders.proofs.Words.{refl, ℕ, Bool, true, false, ◌&&◌, ◌||◌, ◌-◌, ◌==◌, nat_lt, nat_le, Option, Some, None, List, [], ◌∷◌, ◌++◌, ◌≡◌, IfSome, length, Party, Fine, Fault, Target, Answer, Send, OfJob, Resume, GiveBack, Place, ProbeWorking, TellNews, TakeResult, LowerCount}
use Rattle.rayon_machine_orders.proofs.Words.{Free, Move, Stay, Back, Act, Take, Lower, Seen, Done, No, Wakes, Found, Event, Go, Refuse, End, Spawn, Install, Join, EndPool, Whereabouts, Made, InDeque, Injected, Over, HandedBack, PoolShape, Wait, walk, act_of, next_of, Shape, World, Counts, Part}
use Rattle.rayon_machine_orders.proofs.Words.{Outcome, effect, AllFine, follows, caller_of, is_awaited, verdict_of, is_at_call, is_refusal}
use Rattle.rayon_machine_places.specs.declared.act.Act.TheVariants.{Store}
use Rattle.rayon_machine_orders.proofs.WrongMachines.{Machine, step_by, run_by, times_go, two, b, c, right, doing, leading}

-- some event of a machine's run passes the test
abbrev pub any_by : Machine → (World → Event → Bool) → Option World → List Event → Bool
any_by m test None es = false
any_by m test (Some w) [] = false
any_by m test (Some w) (e ∷ es) = test w e || any_by m test (step_by m w e) es

-- the party has as many frames as before
abbrev pub is_back : Party → World → World → Event → Bool
is_back q w x e = length (x.stack q).below == length (w.stack q).below

-- a call of the party, begun by an event from w to v, is over in u, where its party is back for the first time; whether
-- it was refused, and where a job of it is then
pub record EndsSo (m : Machine) (q : Party) (e : Event) (between : List Event) (is_refused : Bool) (t : ℕ) (where_is : Whereabouts) (w v u : World) : Type 0 where
  pub caller : caller_of e ≡ Some q
  pub back : u.stack q ≡ w.stack q
  pub until : any_by m (is_back q w) (Some v) between ≡ false
  pub refused : any_by m (is_refusal q (w.stack q)) (Some v) between ≡ is_refused
  pub mine : (nat_le w.jobs t && nat_lt t v.jobs) ≡ true
  pub at : (u.job t).at ≡ where_is

-- so it is in a replay that leads to the event and past it
abbrev pub Ends : Machine → List Event → Party → Event → List Event → Bool → ℕ → Whereabouts → Type 0
Ends m before q e between r t x = IfSome (run_by m (two 32) before) (λ w. IfSome (step_by m w e) (λ v. IfSome (run_by m (Some v) between) (EndsSo m q e between r t x w v)))

-- a worker runs an installed job
abbrev pub running : List Event
running = Install c 0 ∷ times_go c 5 ++ times_go b 12

-- a join in it, up to the run of its first side
abbrev forked : List Event
forked = times_go b 5

-- the machine as it is: a join's first side faults, it goes on to its second side, and both are over
join_ends : Ends right running b (Join b) (forked ++ End b Fault ∷ times_go b 3 ++ End b Fine ∷ times_go b 5) false 2 (Over Fine)
join_ends = record { caller = refl; back = refl; until = refl; refused = refl; mine = refl; at = refl }

-- and one whose push is refused
join_refused : Ends right running b (Join b) (times_go b 3 ++ Refuse b ∷ Go b ∷ []) true 1 HandedBack
join_refused = record { caller = refl; back = refl; until = refl; refused = refl; mine = refl; at = refl }

-- an install on another pool waits
install_waits : run_by right (two 32) (running ++ Install b 1 ∷ times_go b 5 ++ End b Fine ∷ []) ≡ None
install_waits = refl

-- a spawn on a pool that has ended is refused at its Raise
spawn_refused : Ends right (EndPool c 0 ∷ times_go c 3) c (Spawn c 0) (Go c ∷ []) true 0 HandedBack
spawn_refused = record { caller = refl; back = refl; until = refl; refused = refl; mine = refl; at = refl }

-- a join abandons its second side when its first faults, and goes on to its Lower as a spawn's end does
abbrev abandons : PoolShape → Party → Wait → Seen → Target → Move
abandons h q k e (Answer o (Some Fault)) = Stay (LowerCount (OfPool o.pool) (OfJob o.job) Resume)
abandons h q k e g = next_of h q (ProbeWorking k) e

abbrev one_sided : PoolShape → Party → Place → Seen → Move
one_sided h q (ProbeWorking k) e = abandons h q k e k.target
one_sided h q x e = next_of h q x e

-- the clause is broken: nothing refused the join, it is over, and its second side stands in the deque
join_abandons_its_second_side : Ends (leading one_sided) running b (Join b) (forked ++ End b Fault ∷ times_go b 2) false 2 (InDeque 0 1)
join_abandons_its_second_side = record { caller = refl; back = refl; until = refl; refused = refl; mine = refl; at = refl }

-- an install goes back once its job is queued, as a spawn does
abbrev unwaiting : PoolShape → Party → Place → Seen → Move
unwaiting h q (TellNews (Send o) v) (Wakes k) = walk h q o.pool k 0 Resume
unwaiting h q x e = next_of h q x e

-- the clause is broken: nothing refused the worker's install on another pool, it is over, and its job stands in the
-- injector
install_does_not_wait : Ends (leading unwaiting) running b (Install b 1) (times_go b 5) false 1 (Injected 1)
install_does_not_wait = record { caller = refl; back = refl; until = refl; refused = refl; mine = refl; at = refl }

-- a refused call goes back with its jobs
abbrev keeping : PoolShape → Party → Place → Seen → Move
keeping h q (LowerCount p s (GiveBack n)) No = Back
keeping h q x e = next_of h q x e

-- the clause is broken: a step of the join was refused, it is over, and its first side is not handed back
refused_join_keeps_its_jobs : Ends (leading keeping) running b (Join b) (times_go b 3 ++ Refuse b ∷ Go b ∷ []) true 1 (Made b)
refused_join_keeps_its_jobs = record { caller = refl; back = refl; until = refl; refused = refl; mine = refl; at = refl }

-- a Store stores nothing
abbrev stores_nothing : Act → Shape → Party → Counts → Part → Outcome
stores_nothing (Store k e) h q n m = Some (Done, m)
stores_nothing act h q n m = effect act h q n m

-- a call of the party, begun in w, whose own next act in u is to take from an empty cell, though the last of its jobs
-- is over
record TakesNothing (q : Party) (e : Event) (w v u : World) : Type 0 where
  caller : caller_of e ≡ Some q
  own : is_at_call (w.stack q) (u.stack q) ≡ true
  act : act_of q (u.stack q).top ≡ Take 0
  cell : (u.call 0).cell ≡ None
  over : (u.job (v.jobs - 1)).at ≡ Over Fine

store_stores_nothing : IfSome (two 32) (λ w. IfSome (step_by (doing stores_nothing) w (Install c 0)) (λ v. IfSome (run_by (doing stores_nothing) (Some v) (times_go c 5 ++ times_go b 12 ++ End b Fine ∷ times_go b 2 ++ Go c ∷ [])) (TakesNothing c (Install c 0) w v)))
store_stores_nothing = record { caller = refl; own = refl; act = refl; cell = refl; over = refl }

-- a call goes back with what it took, and leaves out its Lower
abbrev unlowered : PoolShape → Party → Place → Seen → Move
unlowered h q (TakeResult o f) (Found e) = Back
unlowered h q x e = next_of h q x e

-- an install of the party that is over, begun in w, and the share of its last job is still in the count
record Leaks (m : Machine) (q : Party) (e : Event) (between : List Event) (w v u : World) : Type 0 where
  caller : caller_of e ≡ Some q
  awaited : is_awaited e ≡ true
  back : u.stack q ≡ w.stack q
  until : any_by m (is_back q w) (Some v) between ≡ false
  counted : (u.job (v.jobs - 1)).counted ≡ true

-- a caller's install up to its return without a Lower
abbrev installed : List Event
installed = times_go c 5 ++ times_go b 12 ++ End b Fine ∷ times_go b 2 ++ times_go c 2

call_leaves_out_its_lower : IfSome (two 32) (λ w. IfSome (step_by (leading unlowered) w (Install c 0)) (λ v. IfSome (run_by (leading unlowered) (Some v) installed) (Leaks (leading unlowered) c (Install c 0) installed w v)))
call_leaves_out_its_lower = record { caller = refl; awaited = refl; back = refl; until = refl; counted = refl }

-- the machine as it is lowers the count, and then goes back
call_lowers : IfSome (run_by right (two 32) (Install c 0 ∷ installed ++ Go c ∷ [])) (λ u. ((u.job 0).counted ≡ false) × ((u.stack c).top ≡ Free))
call_lowers = (refl, refl)

-- a call that has taken goes on to its Lower as a spawned job's end does, without an answer
abbrev unanswering : PoolShape → Party → Place → Seen → Move
unanswering h q (TakeResult o f) (Found e) = Stay (LowerCount (OfPool o.pool) (OfJob o.job) Resume)
unanswering h q x e = next_of h q x e

-- an install of the party, begun in w and not refused, whose own next act is its Lower, and it has no answer
record LowersUnanswered (m : Machine) (q : Party) (e : Event) (between : List Event) (w v u : World) : Type 0 where
  caller : caller_of e ≡ Some q
  awaited : is_awaited e ≡ true
  until : any_by m (is_back q w) (Some v) between ≡ false
  refused : any_by m (is_refusal q (w.stack q)) (Some v) between ≡ false
  own : is_at_call (w.stack q) (u.stack q) ≡ true
  act : act_of q (u.stack q).top ≡ Lower (OfPool 0) (OfJob 0)
  answer : verdict_of (follows (u.stack q).top) ≡ None

call_lowers_without_an_answer : IfSome (two 32) (λ w. IfSome (step_by (leading unanswering) w (Install c 0)) (λ v. IfSome (run_by (leading unanswering) (Some v) installed) (LowersUnanswered (leading unanswering) c (Install c 0) installed w v)))
call_lowers_without_an_answer = record { caller = refl; awaited = refl; until = refl; refused = refl; own = refl; act = refl; answer = refl }

-- the machine as it is answers there
call_answers : IfSome (run_by right (two 32) (Install c 0 ∷ installed)) (λ u. verdict_of (follows (u.stack c).top) ≡ Some AllFine)
call_answers = refl
