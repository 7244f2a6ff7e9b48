-- the order in which a pool's one worker begins the jobs of its own deque and of its FIFO lists
--
-- Some jobs and tokens are none of the list's: they came from the injector, were taken before the stretch, or are run
-- at once by an install.
-- Under `trees` a job that came from elsewhere begins only once the deque is empty. Where the deque is empty at the
-- start, and one job comes, the whole is the walk of one tree.
-- A caller's own worker has no wait between runs, and runs jobs only inside its calls. So `tokens` is about it, and
-- `trees` and `levels` are not.
-- Without their premises the clauses are false; the runs of the first two are in proofs/Ordered:
-- - With two workers a thief takes from the other end (`robbed`).
-- - A run that yields begins the job that it has just spawned. It may then spawn one more, which comes first in the
--   walk (`yielded`). So `trees` and `levels` have no other calls, where `tokens` allows them all.
-- - In a pool that is oldest first a job that is no token begins before the FIFO list is through. What it spawns in
--   order stands behind that list. So `levels` has tokens only.
-- Broken by the wrong machine `worker_pops_at_the_wrong_end` of WrongMachines, as `not_handed` shows.
use Rattle.std.specs.Prelude.{ℕ, Bool, true, false, not, ◌&&◌, ◌==◌, if◌then◌else◌, Option, Some, None, List, [], ◌∷◌, ◌++◌, ◌≡◌, ◌⊎◌, ⊤, slice_get}
use Rattle.rayon_machine_places.specs.declared.shape.Order.{Order}
use Rattle.rayon_machine_places.specs.declared.shape.Order.TheVariants.{NewestFirst, OldestFirst}
use Rattle.rayon_machine_places.specs.declared.place.JobKind.TheVariants.{TokenOf}
use Rattle.rayon_machine_places.specs.declared.place.Party.TheVariants.{Worker}
use Rattle.rayon_machine_places.specs.declared.place.Place.{Place}
use Rattle.rayon_machine_places.specs.declared.place.Place.TheVariants.{ProbeWorking, Run}
use Rattle.rayon_machine_places.specs.declared.place.Target.TheVariants.{Termination}
use Rattle.rayon_machine_places.specs.declared.act.Act.{Act}
use Rattle.rayon_machine_places.specs.declared.act.Act.TheVariants.{Begin, PushOwn, FifoIn, FifoUndo, FifoOut}
use Rattle.rayon_machine_runs.specs.declared.event.Event.{Event}
use Rattle.rayon_machine_runs.specs.declared.event.Event.TheVariants.{Go, Spawn, Fifo, Install, Join, Yield, YieldLocal, EndPool, Cast, Scope as OpenScope, IntoSpawn, IntoFifo, IntoCast, Broadcast}
use Rattle.rayon_machine_runs.specs.declared.state.Scope.{Scope}
use Rattle.rayon_machine_places.specs.Places.{act_of, fresh, same_party}
use Rattle.rayon_machine_runs.specs.World.{Shape, World, but_last, put_list, same_list}
use Rattle.rayon_machine_runs.specs.Steps.{step}
use Rattle.rayon_machine_runs.specs.Runs.{IsRun, start}
use Rattle.rayon_machine_laws.specs.Once.{times}
use Rattle.rayon_machine_laws.specs.Turn.{IsRunWithout}
use Rattle.rayon_machine_orders.specs.Queue.{run_at}

-- what bears on the order: the run of a job, or no run, adds a job or a token to the worker's own deque, or a job to one
-- of its FIFO lists; a refused call takes back the job that it added to that list; the worker begins a job, or redeems a
-- token of that list, after which it runs this job
pub data Happening : Type 0 where
  Adds : (by : Option ℕ) → (job : ℕ) → Happening
  Queues : (list : Option ℕ) → (by : Option ℕ) → (job : ℕ) → Happening
  Retakes : (list : Option ℕ) → Happening
  Begins : (job : ℕ) → Happening
  Redeems : (token : ℕ) → (list : Option ℕ) → (runs : Option ℕ) → Happening

-- the job whose run makes the call that stands above these frames, if a run does
abbrev pub caller_of : List Place → Option ℕ
caller_of (Run t k ∷ fs) = Some t
caller_of _ = None

-- what an act above these frames is, after which the party runs this job
abbrev pub act_happens : Act → List Place → Option ℕ → Option Happening
act_happens (PushOwn t b) fs o = Some (Adds (caller_of fs) t)
act_happens (FifoIn t b) fs o = Some (Queues b (caller_of fs) t)
act_happens (FifoUndo b) fs o = Some (Retakes b)
act_happens (Begin t) fs o = Some (Begins t)
act_happens (FifoOut k i b) fs o = Some (Redeems k b o)
act_happens _ fs o = None

-- what an event is that leads to this world: an act of worker 0 of that pool
abbrev pub happening : ℕ → World → Event → World → Option Happening
happening p w (Go q) v = if same_party (Worker p 0) q then act_happens (act_of q (w.stack q).top) (w.stack q).below (run_at (v.stack q).top) else None
happening p w _ v = None

-- the same where the event leads to this world, if to any
abbrev pub happened : ℕ → World → Event → Option World → Option Happening
happened p w e None = None
happened p w e (Some v) = happening p w e v

-- what happened at one event, before what happened at the later ones
abbrev pub and_next : Option Happening → List Happening → List Happening
and_next None hs = hs
and_next (Some h) hs = h ∷ hs

-- what happens at that worker in a stretch of a run, in its order
abbrev pub happenings : ℕ → Option World → List Event → List Happening
happenings p None es = []
happenings p (Some w) [] = []
happenings p (Some w) (e ∷ es) = and_next (happened p w e (step w e)) (happenings p (step w e) es)

-- a job is the next that a list hands out, and this is left: it is the last entry, or in a pool that is oldest first
-- the first
abbrev pub Hands : Order → List ℕ → ℕ → List ℕ → Type 0
Hands NewestFirst l t rest = l ≡ rest ++ t ∷ []
Hands OldestFirst l t rest = l ≡ t ∷ rest

-- the token list, with the FIFO lists beside it: what is added stands last; a job that begins, or a token that is
-- redeemed, is the next that the list hands out, or it is none of the list's; a token begins the first job of its FIFO
-- list; at the end these are left
abbrev pub TokenList : Order → List ℕ → (Option ℕ → List ℕ) → List Happening → List ℕ → (Option ℕ → List ℕ) → Type 0
TokenList o l f [] left rest = (left ≡ l) × ((b : Option ℕ) → rest b ≡ f b)
TokenList o l f (Adds by t ∷ hs) left rest = TokenList o (l ++ t ∷ []) f hs left rest
TokenList o l f (Queues b by t ∷ hs) left rest = TokenList o l (put_list f b (f b ++ t ∷ [])) hs left rest
TokenList o l f (Retakes b ∷ hs) left rest = TokenList o l (put_list f b (but_last (f b))) hs left rest
TokenList o l f (Begins t ∷ hs) left rest = ((m : List ℕ) × Hands o l t m × TokenList o m f hs left rest) ⊎ ((times t l ≡ 0) × TokenList o l f hs left rest)
TokenList o l f (Redeems k b r ∷ hs) left rest =
    (t : ℕ) × (ts : List ℕ) × (r ≡ Some t) × (f b ≡ t ∷ ts) × (((m : List ℕ) × Hands o l k m × TokenList o m (put_list f b ts) hs left rest) ⊎ ((times k l ≡ 0) × TokenList o l (put_list f b ts) hs left rest))

-- the list is what stands in the worker's own deque, or that with one job or token that the worker has taken from it and
-- neither begun nor redeemed
abbrev pub IsLeft : World → ℕ → List ℕ → Type 0
IsLeft u p l = (l ≡ (u.seat p 0).own) ⊎ ((t : ℕ) × Hands (u.shape.pool p).order l t (u.seat p 0).own × ((u.job t).runs ≡ 0))

-- in every stretch of every run, the worker of a pool of one begins the jobs of its own deque, and redeems the tokens,
-- as the token list hands them out, from what stood in the deque and in its FIFO lists; at the end these have what is
-- left
abbrev pub TokenLaw : Type 0
TokenLaw = (shape : Shape) (before : List Event) (p : ℕ) (w u : World) (stretch : List Event) → (shape.pool p).workers ≡ 1 →
    IsRun (start shape) before w → IsRun w stretch u →
    (left : List ℕ) × TokenList (shape.pool p).order (w.seat p 0).own (w.seat p 0).fifo (happenings p (Some w) stretch) left (u.seat p 0).fifo × IsLeft u p left

-- trees side by side: a job, below it the trees of the jobs that its run has added to the deque, in their order, and
-- beside it the later trees
pub data Trees : Type 0 where
  NoTree : Trees
  Tree : (job : ℕ) → (below : Trees) → (later : Trees) → Trees

-- the jobs at the roots of trees
abbrev pub roots : Trees → List ℕ
roots NoTree = []
roots (Tree t ks ts) = t ∷ roots ts

-- the walk of trees in preorder with children reversed: a job comes before those below it, and the later of two trees
-- before the earlier
abbrev pub walk_back : Trees → List ℕ
walk_back NoTree = []
walk_back (Tree t ks ts) = walk_back ts ++ t ∷ walk_back ks

-- levels side by side
abbrev pub beside : List (List ℕ) → List (List ℕ) → List (List ℕ)
beside [] ms = ms
beside (l ∷ ls) [] = l ∷ ls
beside (l ∷ ls) (m ∷ ms) = (l ++ m) ∷ beside ls ms

-- the levels of trees: their roots, then the roots' children, and so on
abbrev pub levels : Trees → List (List ℕ)
levels NoTree = []
levels (Tree t ks ts) = beside ((t ∷ []) ∷ levels ks) (levels ts)

-- one list after the other
abbrev pub joined : List (List ℕ) → List ℕ
joined [] = []
joined (l ∷ ls) = l ++ joined ls

-- the walk of trees: in preorder with children reversed, or in a pool that is oldest first level by level
abbrev pub walk : Order → Trees → List ℕ
walk NewestFirst ts = walk_back ts
walk OldestFirst ts = joined (levels ts)

-- the walks of each of the trees, one after the other
abbrev pub walk_each : Order → Trees → List ℕ
walk_each o NoTree = []
walk_each o (Tree t ks ts) = walk o (Tree t ks NoTree) ++ walk_each o ts

-- the same job's run, or no run twice
abbrev pub same_run : Option ℕ → Option ℕ → Bool
same_run (Some s) (Some t) = s == t
same_run None None = true
same_run _ _ = false

-- the jobs that this job's run has added, in their order, or that no run has
abbrev pub added_by : Option ℕ → List Happening → List ℕ
added_by r [] = []
added_by r (Adds s t ∷ hs) = if same_run r s then t ∷ added_by r hs else added_by r hs
added_by r (_ ∷ hs) = added_by r hs

-- the jobs that have begun, in their order
abbrev pub begun_in : List Happening → List ℕ
begun_in [] = []
begun_in (Begins t ∷ hs) = t ∷ begun_in hs
begun_in (_ ∷ hs) = begun_in hs

-- trees of what happened: below each job stand those that its run has added
abbrev pub AreSpawned : List Happening → Trees → Type 0
AreSpawned hs NoTree = ⊤
AreSpawned hs (Tree t ks ts) = (roots ks ≡ added_by (Some t) hs) × (AreSpawned hs ks × AreSpawned hs ts)

-- a list from its last entry to its first
abbrev pub reversed : List ℕ → List ℕ
reversed [] = []
reversed (t ∷ ts) = reversed ts ++ t ∷ []

-- all that a list hands out, if nothing is added
abbrev pub handed : Order → List ℕ → List ℕ
handed NewestFirst l = reversed l
handed OldestFirst l = l

-- what has begun, and then what is left, is the walk of a forest of what happened: of the trees under what stood in the
-- deque, and then of those of the jobs that came from elsewhere, one after the other
pub record IsWalk (o : Order) (stood : List ℕ) (hs : List Happening) (left : List ℕ) : Type 0 where
  pub standing : Trees
  pub arrived : Trees
  pub top : roots standing ≡ stood ++ added_by None hs
  pub below : AreSpawned hs standing × AreSpawned hs arrived
  pub order : begun_in hs ++ handed o left ≡ walk o standing ++ walk_each o arrived

-- worker 0 of that pool stands at the beginning of its wait for the end of the pool: it has no run and no call open
abbrev pub IsBetweenRuns : World → ℕ → Type 0
IsBetweenRuns w p = w.stack (Worker p 0) ≡ record { top = ProbeWorking (fresh Termination); below = [] }

-- the act redeems a token
abbrev pub is_redeem : Act → Bool
is_redeem (FifoOut k i b) = true
is_redeem _ = false

-- by the event worker 0 of that pool begins a call that is no spawn, or redeems a token
abbrev pub is_other : ℕ → World → Event → Bool
is_other p w (Go q) = same_party (Worker p 0) q && is_redeem (act_of q (w.stack q).top)
is_other p w (Fifo q r) = same_party (Worker p 0) q
is_other p w (IntoFifo q n) = same_party (Worker p 0) q
is_other p w (Cast q r) = same_party (Worker p 0) q
is_other p w (IntoCast q n) = same_party (Worker p 0) q
is_other p w (Broadcast q r) = same_party (Worker p 0) q
is_other p w (Install q r) = same_party (Worker p 0) q
is_other p w (Join q) = same_party (Worker p 0) q
is_other p w (OpenScope q r) = same_party (Worker p 0) q
is_other p w (Yield q) = same_party (Worker p 0) q
is_other p w (YieldLocal q) = same_party (Worker p 0) q
is_other p w (EndPool q r) = same_party (Worker p 0) q
is_other p w _ = false

-- in every stretch that begins where the worker of a pool of one is between runs, and in which it makes no call but
-- spawns and redeems no token, it begins jobs in the order of the walk of the trees of spawns
abbrev pub TreeLaw : Type 0
TreeLaw = (shape : Shape) (before : List Event) (p : ℕ) (w u : World) (stretch : List Event) → (shape.pool p).workers ≡ 1 →
    IsRun (start shape) before w → IsBetweenRuns w p → IsRunWithout (is_other p) w stretch u →
    (left : List ℕ) × IsWalk (shape.pool p).order (w.seat p 0).own (happenings p (Some w) stretch) left × IsLeft u p left

-- the job that was added last to a FIFO list is not taken back next
abbrev pub stays : List Happening → Bool
stays (Retakes b ∷ hs) = false
stays _ = true

-- what happened, as list b of the FIFO lists has it: a job was added and not taken back, and a job began, by a token or
-- not
abbrev pub in_line : Option ℕ → List Happening → List Happening
in_line b [] = []
in_line b (Queues c by t ∷ hs) = if same_list b c && stays hs then Adds by t ∷ in_line b hs else in_line b hs
in_line b (Begins t ∷ hs) = Begins t ∷ in_line b hs
in_line b (Redeems k c (Some t) ∷ hs) = Begins t ∷ in_line b hs
in_line b (_ ∷ hs) = in_line b hs

-- these are tokens of list b of worker 0
abbrev pub AreTokens : World → Option ℕ → List ℕ → Type 0
AreTokens w b [] = ⊤
AreTokens w b (t ∷ ts) = ((w.job t).kind ≡ TokenOf 0 b) × AreTokens w b ts

-- the scope that this spawn is into has its pool here, and that list is the scope's
abbrev pub is_of_list : ℕ → Option ℕ → Option Scope → Bool
is_of_list p b None = false
is_of_list p b (Some z) = (z.pool == p) && same_list b (Some z.call)

-- by the event worker 0 of that pool begins a call that is no spawn in order for its list b
abbrev pub is_unlisted : ℕ → Option ℕ → World → Event → Bool
is_unlisted p b w (Fifo q n) = same_party (Worker p 0) q && not ((n == p) && same_list b None)
is_unlisted p b w (IntoFifo q n) = same_party (Worker p 0) q && not (is_of_list p b (slice_get w.scopes n))
is_unlisted p b w (Spawn q n) = same_party (Worker p 0) q
is_unlisted p b w (IntoSpawn q n) = same_party (Worker p 0) q
is_unlisted p b w (Cast q r) = same_party (Worker p 0) q
is_unlisted p b w (IntoCast q n) = same_party (Worker p 0) q
is_unlisted p b w (Broadcast q r) = same_party (Worker p 0) q
is_unlisted p b w (Install q r) = same_party (Worker p 0) q
is_unlisted p b w (Join q) = same_party (Worker p 0) q
is_unlisted p b w (OpenScope q r) = same_party (Worker p 0) q
is_unlisted p b w (Yield q) = same_party (Worker p 0) q
is_unlisted p b w (YieldLocal q) = same_party (Worker p 0) q
is_unlisted p b w (EndPool q r) = same_party (Worker p 0) q
is_unlisted p b w _ = false

-- in every stretch that begins where the worker of a pool of one is between runs, and only tokens of one FIFO list stand
-- in its own deque, and in which it makes no call but spawns in order for that list, it begins jobs level by level,
-- whatever the order of the pool: first the trees under what stood in the list, and then, one after the other, those of
-- the jobs that came from elsewhere. What is left is what the list holds
abbrev pub LevelLaw : Type 0
LevelLaw = (shape : Shape) (before : List Event) (p : ℕ) (b : Option ℕ) (w u : World) (stretch : List Event) → (shape.pool p).workers ≡ 1 →
    IsRun (start shape) before w → IsBetweenRuns w p → AreTokens w b (w.seat p 0).own → IsRunWithout (is_unlisted p b) w stretch u →
    IsWalk OldestFirst ((w.seat p 0).fifo b) (in_line b (happenings p (Some w) stretch)) ((u.seat p 0).fifo b)
