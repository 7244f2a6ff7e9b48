-- wrong machines of FIFO lists: replays, computed by the kernel, in which a changed table or act breaks the clause of a
-- law that forbids it
--
-- Edits of the code that make the same mistakes, each with the function at which the check refuses it:
-- - `token_pushed_before_job`, at `Feeding::begin`. `list_popped_newest_first`: `fifo_list_popped_newest_first`, at
--   `FifoList::write`.
use Rattle.std.proofs.Common.{refl, sym, ◌∙◌, ap}
use Rattle.rayon_machine_orders.proofs.Words.{ℕ, if◌then◌else◌, Option, Some, None, List, [], ◌∷◌, ◌++◌, ◌≡◌, IfSome, Act, AddToFifo, LookForToken, PushToken, RaiseCount, Changes, Comes, change, Counts, Outcome, Part, Pool, Seat, Shape, begun, but_last, effect, head_of, is_open, last_of}
use Rattle.rayon_machine_orders.proofs.Words.{or_none, put_list, target_job, Done, Handed, End, Fifo, Go, Install, Spawn, Event, Feed, FifoOut, Fine, Move, Party, Place, PoolShape, Seen, Stay, act_of, next_of}
use Rattle.rayon_machine_places.specs.declared.act.Seen.TheVariants.{Missing}
use Rattle.rayon_machine_orders.proofs.WrongMachines.{a, b, c, lone, right, run_by, step_by, times_go, two, aiming, leading}

-- a worker runs an installed job
abbrev running : List Event
running = Install c 0 ∷ times_go c 5 ++ times_go b 12

-- a call for a FIFO list pushes its token before it adds its job
abbrev token_first : PoolShape → Party → Place → Seen → Move
token_first h q (RaiseCount (Feed f)) Done = Stay (LookForToken f)
token_first h q (PushToken f v) Done = Stay (AddToFifo f)
token_first h q x e = next_of h q x e

-- the other worker steals the token, and is to redeem it
abbrev early_token : List Event
early_token = running ++ Fifo b 0 ∷ times_go b 3 ++ times_go a 10

-- a clause of the law of jobs is broken: the list is empty
token_pushed_before_job : IfSome (run_by (leading token_first) (two 32) early_token) (λ w. (act_of a (w.stack a).top ≡ FifoOut 2 1 None) × ((w.seat 0 1).fifo None ≡ []))
token_pushed_before_job = (refl, refl)

-- in the machine as it is the job stands there
job_added_before_token : IfSome (run_by right (two 32) (running ++ Fifo b 0 ∷ times_go b 4 ++ times_go a 10)) (λ w. (act_of a (w.stack a).top ≡ FifoOut 2 1 None) × ((w.seat 0 1).fifo None ≡ 1 ∷ []))
job_added_before_token = (refl, refl)

-- a token begins the newest job of its list
abbrev handed_last : Party → Part → Option ℕ → Option ℕ → Outcome
handed_last q m b None = Some (Missing, m)
handed_last q m b (Some t) = Some (Handed t m.job.kind, record m { seat = record (m.seat) { fifo = put_list m.seat.fifo b (but_last (m.seat.fifo b)) }; job = begun q m.job })

abbrev newest_out : Act → Shape → Party → Counts → Part → Outcome
newest_out (FifoOut k i b) h q n m = if is_open q (m.seat.feeder b) then handed_last q m b (last_of (m.seat.fifo b)) else None
newest_out act h q n m = effect act h q n m

abbrev aims_at_newest : Shape → Party → Act → Pool → Seat → ℕ
aims_at_newest h q (FifoOut k i b) v s = or_none (last_of (s.fifo b))
aims_at_newest h q act v s = target_job h q act v s

-- one worker, whose job makes two calls for its FIFO list; once it has ended, the worker is to redeem a token
abbrev two_fifos : List Event
two_fifos = Spawn c 0 ∷ times_go c 4 ++ times_go a 10 ++ Fifo a 0 ∷ times_go a 5 ++ Fifo a 0 ∷ times_go a 5 ++ End a Fine ∷ times_go a 3

-- the law of the order is broken: a token does not begin the first of its list
list_popped_newest_first : IfSome (run_by (aiming aims_at_newest newest_out) lone two_fifos) (λ w. ((w.seat 0 0).fifo None ≡ 1 ∷ 3 ∷ []) × IfSome (step_by (aiming aims_at_newest newest_out) w (Go a)) (λ v. change 0 0 None w (Go a) v ≡ Some (Comes (Some 3))))
list_popped_newest_first = (refl, refl)

not_first : (m : List ℕ) → Changes (1 ∷ 3 ∷ []) (Some (Comes (Some 3))) m → ⊥
not_first m (t, e, l) = let h : Some 1 ≡ Some t = ap head_of l in let n : head_of (3 ∷ []) ≡ head_of (1 ∷ []) = e ∙ sym h in cc

-- the machine as it is begins the first
oldest_first : IfSome (run_by right lone two_fifos) (λ w. ((w.seat 0 0).fifo None ≡ 1 ∷ 3 ∷ []) × IfSome (step_by right w (Go a)) (λ v. change 0 0 None w (Go a) v ≡ Some (Comes (Some 1))))
oldest_first = (refl, refl)
