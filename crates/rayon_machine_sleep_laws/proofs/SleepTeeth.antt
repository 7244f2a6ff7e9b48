-- wrong machines of turns, walks and announcements: replays, computed by the kernel, in which a changed table or act
-- breaks the clause of a law that forbids it
use Rattle.std.proofs.Common.{refl, sym, ◌∙◌, ap}
use Rattle.rayon_machine_sleep_laws.proofs.Words.{ℕ, true, false, ◌+◌, ◌-◌, if◌then◌else◌, Some, List, ◌∷◌, ◌++◌, ◌≡◌, IfSome, Party, Place, PopInjected, GetSleepy, UndoSleeping, WakeUp, WakeWorker, UnlockWoken, Move, Stay, Act, News, Wake, Seen, Yes, Wakes, Event, Go, Spawn, PoolShape, act_of}
use Rattle.rayon_machine_sleep_laws.proofs.Words.{next_of, Shape, World, Counts, Part, Outcome, effect, is_even, wakes_for_one, is_blocking, is_announce, begins_anew, is_told_of, TurnsSo, is_walk}
use Rattle.rayon_machine_places.specs.declared.act.Seen.TheVariants.{Missing}
use Rattle.rayon_machine_laws.specs.Leavers.{owed_at}
use Rattle.rayon_machine_sleep_laws.specs.Walks.{WalksOn}
use Rattle.rayon_machine_sleep_laws.proofs.Machines.{right, doing, leading, step_by, run_by, any_by, times_go, pool_of, a, b, c}

-- a News raises the turn also where it is odd
abbrev raises_always : Act → Shape → Party → Counts → Part → Outcome
raises_always (News p e) h q k m = Some (Wakes (wakes_for_one e k), record m { pool = record (m.pool) { turn = m.pool.turn + 1 } })
raises_always act h q k m = effect act h q k m

-- two jobs are pushed, and the news of the first is told
abbrev two_pushes : List Event
two_pushes = Spawn c 0 ∷ times_go c 4 ++ Spawn c 0 ∷ times_go c 3

-- the clause of raises is broken: the second News finds the turn odd, and leaves it even
news_raises_always : IfSome (run_by (doing raises_always) (pool_of 1) two_pushes) (λ w. IfSome (step_by (doing raises_always) w (Go c)) (λ v. (is_told_of 0 w (Go c) ≡ true) × ((w.pool 0).turn ≡ 1) × ((v.pool 0).turn ≡ 2)))
news_raises_always = (refl, refl, refl)

not_odd : (w v : World) → is_told_of 0 w (Go c) ≡ true → (v.pool 0).turn ≡ 2 → TurnsSo w v (Go c) 0 → ⊥
not_odd w v e t s = absurd (let z : true ≡ false = sym (ap is_even t) ∙ ((s.told e).odd) in cc)

-- the machine as it is goes the same way, and leaves the turn as it is
news_raises_once : IfSome (run_by right (pool_of 1) two_pushes) (λ w. IfSome (step_by right w (Go c)) (λ v. (is_told_of 0 w (Go c) ≡ true) × ((w.pool 0).turn ≡ 1) × ((v.pool 0).turn ≡ 1)))
news_raises_once = (refl, refl, refl)

-- a walk owes as much after a Wake that unblocked
abbrev keeps_owing : PoolShape → Party → Place → Seen → Move
keeps_owing h q (WakeWorker k) Yes = Stay (UnlockWoken k)
keeps_owing h q x e = next_of h q x e

-- a worker sleeps, a job is pushed, and who tells of it stands at the Wake
abbrev waking : List Event
waking = times_go a 21 ++ Spawn c 0 ∷ times_go c 5

-- what is owed before and after the Wake of a blocked worker
record WakesSo (w v : World) (n : ℕ) : Type 0 where
  walks : is_walk (w.stack c).top ≡ true
  act : act_of c (w.stack c).top ≡ Wake 0 0
  before : owed_at 0 (w.stack c).top ≡ 1
  blocked : (w.seat 0 0).blocked ≡ true
  owed : owed_at 0 (v.stack c).top ≡ n

-- the clause of walks is broken: the worker was blocked, and a wake is owed still
walk_keeps_owing : IfSome (run_by (leading keeps_owing) (pool_of 1) waking) (λ w. IfSome (step_by (leading keeps_owing) w (Go c)) (λ v. WakesSo w v 1))
walk_keeps_owing = record { walks = refl; act = refl; before = refl; blocked = refl; owed = refl }

owes_more : (w v : World) → WakesSo w v 1 → WalksOn w v c 0 0 1 → ⊥
owes_more w v k s = absurd (let z : 1 ≡ 0 = sym (k.owed) ∙ ((s.woken (record { walks = k.walks; act = k.act; owed = k.before })).owed) ∙ ap (λ b. if b then 1 - 1 else 1) (k.blocked) in cc)

-- the machine as it is goes the same way, and owes none
walk_owes_less : IfSome (run_by right (pool_of 1) waking) (λ w. IfSome (step_by right w (Go c)) (λ v. WakesSo w v 0))
walk_owes_less = record { walks = refl; act = refl; before = refl; blocked = refl; owed = refl }

-- a worker that has searched enough tries to sleep, and announces nothing
abbrev sleeps_unannounced : PoolShape → Party → Place → Seen → Move
sleeps_unannounced h q (PopInjected k) Missing = Stay (GetSleepy k)
sleeps_unannounced h q x e = next_of h q x e

-- so the clause of announcements is broken: it is about to block itself, and no event before is an Announce of it
sleeper_announces_nothing : IfSome (run_by (leading sleeps_unannounced) (pool_of 1) (times_go a 15)) (λ w. (is_blocking (w.stack a).top ≡ true) × (any_by (leading sleeps_unannounced) (is_announce 0 0) (pool_of 1) (times_go a 15) ≡ false))
sleeper_announces_nothing = (refl, refl)

-- the machine as it is comes there after an Announce and one more search
sleeper_announces_itself : IfSome (run_by right (pool_of 1) (times_go a 20)) (λ w. (is_blocking (w.stack a).top ≡ true) × (any_by right (is_announce 0 0) (pool_of 1) (times_go a 20) ≡ true))
sleeper_announces_itself = (refl, refl)

-- a worker that is counted as sleeping no more goes on as if it had announced itself
abbrev resumes_announced : PoolShape → Party → Place → Seen → Move
resumes_announced h q (UndoSleeping k) e = Stay (WakeUp k)
resumes_announced h q x e = next_of h q x e

-- a job is pushed before the last look of a worker, which takes itself out then, and another worker takes the job
abbrev undone : List Event
undone = times_go a 23 ++ Spawn c 0 ∷ times_go c 3 ++ Go a ∷ times_go b 10

-- the clause of announcements is broken: from the SubSleeping on the worker announces nothing, and is about to block itself
sleeper_resumes : IfSome (run_by (leading resumes_announced) (pool_of 2) undone) (λ w. (begins_anew 0 0 w (Go a) ≡ true) × (any_by (leading resumes_announced) (is_announce 0 0) (Some w) (times_go a 16) ≡ false) ×
    IfSome (run_by (leading resumes_announced) (Some w) (times_go a 16)) (λ v. is_blocking (v.stack a).top ≡ true))
sleeper_resumes = (refl {a = true}, refl {a = false}, refl {a = true})

-- the machine as it is goes the same way, and announces itself first
sleeper_begins_anew : IfSome (run_by right (pool_of 2) undone) (λ w. (begins_anew 0 0 w (Go a) ≡ true) × (any_by right (is_announce 0 0) (Some w) (times_go a 10) ≡ true))
sleeper_begins_anew = (refl {a = true}, refl {a = true})
