-- the words of the machine and of the statements, for the files of proofs
pub use Rattle.std.proofs.Common.{refl, ap, ◌∙◌, sym, arith, inl, inr, subst, rules, ◌≢◌}
pub use Rattle.std.proofs.Math.Dec.{ltb}
pub use Rattle.std.proofs.lemmas.Bool.{eqb-true, eq-eqb, ltb-true, ltb-false, lt-ltb}
pub use Rattle.std.proofs.lemmas.List.{length-append, append_assoc}
pub use Rattle.std.specs.Prelude.{◌≡◌, ℕ, false, true, Some, None, List, IfSome, Option, Bool, ◌+◌, if◌then◌else◌, ◌==◌, ◌∷◌, [], ◌&&◌, ◌≤◌, ◌-◌, ◌⊎◌, ◌++◌, nat_lt, ◌<◌, ◌||◌, zero, slice_get, ⊤, suc, length, nat_le, min, not}
pub use Rattle.rayon_machine_places.specs.Places.{act_of, next_of, count_book, plan_job, is_member, plan_book, own_pool, same_party, plan_pool, is_free, withdraw, count_kind, taken_number, plan_count, finish, end_cast, walk, after_set, begin_feed, own_index, settle_count, begin_cast, settle}
pub use Rattle.rayon_machine_places.specs.Places.{after_slot, undo, after_found, after_raise, set_call, ends_count, is_refusable, goes_on, after_news, after_push, next_steal, after_failure, next_yield, fresh, after_wait, next_victim, not_self, is_taken, after_begin, count_call, gather_all}
pub use Rattle.rayon_machine_places.specs.Places.{taken_back, latch_of, holds_scope, call_all}
pub use Rattle.rayon_machine_runs.specs.Readers.{is_done, is_queued, is_running}
pub use Rattle.rayon_machine_runs.specs.Runs.{start, IsRun, first_place}
pub use Rattle.rayon_machine_runs.specs.Steps.{step, put, is_piece, after_move, put_stack, is_pool, holds, after_miss, after_send, after_join, after_choice, after_end, after_yield, put_pieces, after_spawn, jobs_after, new_piece, can_miss, after_enter, marked, after_cast, new_whole}
pub use Rattle.rayon_machine_runs.specs.Steps.{after_close, after_call, after_feed, after_fifo, after_into, after_into_fifo, after_refusal, mark_pieces, after_scope, after_broadcast, part_of, new_job, after_install, after_deal, after_into_cast, after_gather, new_call, after_end_pool}
pub use Rattle.rayon_machine_runs.specs.Steps.{new_gathering, after_enter_fifo, holds_in, with_stack, put_seat, after_resume, after, back}
pub use Rattle.rayon_machine_runs.specs.World.{World, Shape, Part, Stack, effect, at_job, is_open, counts_at, Outcome, but_last, count_in, last_of, begun, count_below, target_job, popped, head_of, found, Seat}
pub use Rattle.rayon_machine_places.specs.Targets.{target_pool, target_call, target_worker, or_none, taken_as, count_pool}
pub use Rattle.rayon_machine_places.specs.Sleepers.{Counts}
pub use Rattle.rayon_machine_runs.specs.World.{same_list, put_list, raised, left_book, told, pop_injector, take_cast, Pool, fifo_back, own_of, own_left, lowered, casts_with, but_first, letter, filled, left_by, first_fault, put_piece}
pub use Rattle.rayon_machine_places.specs.Targets.{is_token}
pub use Rattle.rayon_machine_places.specs.declared.act.Act.{Act}
pub use Rattle.rayon_machine_places.specs.declared.act.Act.TheVariants.{PushOwn, PushInj, PushCast, LookOwn, LookInj, Set, FifoOut, FifoIn, Take, Lower, News, Steal, Begin, SubInactive, FifoUndo, Idle, PopInj, PopOwn, StoreSlot as PutSlot, Lock}
pub use Rattle.rayon_machine_places.specs.declared.act.Seen.{Seen}
pub use Rattle.rayon_machine_places.specs.declared.act.Seen.TheVariants.{Done, Yes, Task, Refused, Wakes, Found, No, Begun, Start, Handed, Jec, Word, Opened}
pub use Rattle.rayon_machine_runs.specs.declared.event.Event.{Event}
pub use Rattle.rayon_machine_runs.specs.declared.event.Event.TheVariants.{Go, Spawn, End, Scope as OpenScope, Refuse, Fifo, IntoSpawn, Install, Join, Broadcast, Cast, EndPool, IntoFifo, IntoCast, Miss, From, YieldLocal, Yield}
pub use Rattle.rayon_machine_places.specs.declared.place.Count.{Count}
pub use Rattle.rayon_machine_places.specs.declared.place.Count.TheVariants.{OfPool, OfScope, OfCast}
pub use Rattle.rayon_machine_places.specs.declared.place.Ending.{Ending}
pub use Rattle.rayon_machine_places.specs.declared.place.Ending.TheVariants.{Fine, Fault}
pub use Rattle.rayon_machine_places.specs.declared.place.Feeding.{Feeding}
pub use Rattle.rayon_machine_places.specs.declared.place.Gathering.{Gathering}
pub use Rattle.rayon_machine_places.specs.declared.place.JobKind.{JobKind}
pub use Rattle.rayon_machine_places.specs.declared.place.JobKind.TheVariants.{Scoped, PieceOf, BodyOf, TokenOf, WholeOf, Direct, Detached, Stored}
pub use Rattle.rayon_machine_places.specs.declared.place.Latch.{Latch}
pub use Rattle.rayon_machine_places.specs.declared.place.Latch.TheVariants.{Terminate, OfCall}
pub use Rattle.rayon_machine_places.specs.declared.place.Mark.{Mark as Marking}
pub use Rattle.rayon_machine_places.specs.declared.place.Mark.TheVariants.{Dealt, Queued, Returned, Numbered, Counted, Unnumbered}
pub use Rattle.rayon_machine_places.specs.declared.place.Move.{Move}
pub use Rattle.rayon_machine_places.specs.declared.place.Move.TheVariants.{Enter as EnterAbove, Stay, Back, HandBack, Mark, HandAllBack, StartRun, Discard, HandIn}
pub use Rattle.rayon_machine_places.specs.declared.place.OpenCall.{OpenCall}
pub use Rattle.rayon_machine_places.specs.declared.place.Party.{Party}
pub use Rattle.rayon_machine_places.specs.declared.place.Party.TheVariants.{Worker, Caller}
pub use Rattle.rayon_machine_places.specs.declared.place.Pieces.{Pieces}
pub use Rattle.rayon_machine_places.specs.declared.place.Place.{Place}
pub use Rattle.rayon_machine_places.specs.declared.place.Place.TheVariants.{PushJob, LowerCount, RaiseCount, AddToFifo, PushToken, TakeFromFifo, DealPieces, PushForAll, StealFrom, Run, YieldPop, YieldSteal, LocalPop, RaiseForAll, OpenSlot, BeginTask, ProbeWorking, PickVictim, SetLatch}
pub use Rattle.rayon_machine_places.specs.declared.place.Place.TheVariants.{LowerForAll, OpenForAll, YieldPick, GrowCall, LookQueue, TakeResult, GrowCast, LookForToken, GrowScope, PopInjected, UnlockSettled, Free, LockToWake, SetLockLatch, StorePiece, BeginHere, UnlockWoken, StoreSlot}
pub use Rattle.rayon_machine_places.specs.declared.place.Place.TheVariants.{LeaveSearch, CloseSlot, CloseForAll, Stopped, PopWorking, PopIdle, TakeCastIdle, YieldPopInjected, WakeWorker, LockToSettle, WakeSettled, FirstSide, SecondSide, TakeCastWorking, JoinPop, TellNews, ScopeBody, JoinProbe}
pub use Rattle.rayon_machine_places.specs.declared.place.Place.TheVariants.{JoinTakeCast, YieldTakeCast, AtOnce, LocalTakeCast, ProbeIdle, AnnounceSelf, StoreResult, StoreBody, GetSleepy, FallAsleep, WakeUp, LoadCounters, AddSleeping, LookAtCast, LookAtInjector, BlockSelf, BecomeInactive}
pub use Rattle.rayon_machine_places.specs.declared.place.Place.TheVariants.{LockOwn, RelockOwn, UndoSleeping, UnlockOwn, WaitForLock}
pub use Rattle.rayon_machine_places.specs.declared.place.Plan.{Plan}
pub use Rattle.rayon_machine_places.specs.declared.place.Plan.TheVariants.{Feed, Enter, Detach, Here, Send, Fork, Open, Gather}
pub use Rattle.rayon_machine_places.specs.declared.place.Rounds.{Rounds}
pub use Rattle.rayon_machine_places.specs.declared.place.Rounds.TheVariants.{Failed, Announced}
pub use Rattle.rayon_machine_places.specs.declared.place.Settling.{Settling}
pub use Rattle.rayon_machine_places.specs.declared.place.Share.{Share}
pub use Rattle.rayon_machine_places.specs.declared.place.Share.TheVariants.{OfJob, PoolValue, Body}
pub use Rattle.rayon_machine_places.specs.declared.place.Taken.{Taken}
pub use Rattle.rayon_machine_places.specs.declared.place.Taken.TheVariants.{Plain, Token}
pub use Rattle.rayon_machine_places.specs.declared.place.Target.{Target}
pub use Rattle.rayon_machine_places.specs.declared.place.Target.TheVariants.{Termination, Answer}
pub use Rattle.rayon_machine_places.specs.declared.place.Then.{Then}
pub use Rattle.rayon_machine_places.specs.declared.place.Then.TheVariants.{Resume, Answers, GiveBack, BeginFound, LeaveWait, Gathers, Await, RunFirst, Ran, Called, Missing}
pub use Rattle.rayon_machine_places.specs.declared.place.Wait.{Wait}
pub use Rattle.rayon_machine_places.specs.declared.shape.Order.{Order}
pub use Rattle.rayon_machine_places.specs.declared.shape.Order.TheVariants.{NewestFirst, OldestFirst}
pub use Rattle.rayon_machine_places.specs.declared.shape.PoolShape.{PoolShape}
pub use Rattle.rayon_machine_runs.specs.declared.state.Call.{Call}
pub use Rattle.rayon_machine_runs.specs.declared.state.Job.{Job}
pub use Rattle.rayon_machine_runs.specs.declared.state.Letter.{Letter}
pub use Rattle.rayon_machine_runs.specs.declared.state.Letter.TheVariants.{Set as IsSet, Unset, Sleepy as IsSleepy, Sleeping}
pub use Rattle.rayon_machine_runs.specs.declared.state.Scope.{Scope}
pub use Rattle.rayon_machine_runs.specs.declared.state.Slot.{Slot}
pub use Rattle.rayon_machine_runs.specs.declared.state.Slot.TheVariants.{Closed, Open as IsOpen, Filled}
pub use Rattle.rayon_machine_runs.specs.declared.state.Whereabouts.{Whereabouts}
pub use Rattle.rayon_machine_runs.specs.declared.state.Whereabouts.TheVariants.{Over, HandedBack, Spent, InDeque, Running, Injected, Nowhere, Made, InFifo, Retaken, InCast}
pub use Rattle.rayon_machine_laws.specs.Attended.{is_filled, owes_cast}
pub use Rattle.rayon_machine_laws.specs.Bodies.{all_bodies, body, bodies_in}
pub use Rattle.rayon_machine_laws.specs.Committed.{is_committed}
pub use Rattle.rayon_machine_laws.specs.Counted.{has_body, is_of_scope, keeps_own, has_share, is_detached, ScopeEnded, has_entry, all_values, is_scoped, KeptOnce, IsCounted}
pub use Rattle.rayon_machine_laws.specs.End.{follows, HasEnded, ScopeTakes, CastTakes, Verdict, AllFine, LastFault, AllJobs, Takes as TakesAs}
pub use Rattle.rayon_machine_laws.specs.Once.{one, times, runs_in, run_of, in_fifo, in_cast, worked}
pub use Rattle.rayon_machine_laws.specs.Shares.{shares, is_busy, shares_in, share}
pub use Rattle.rayon_machine_laws.specs.Turn.{IsRunWithout}
pub use Rattle.rayon_machine_orders.specs.Books.{slot_number}
pub use Rattle.rayon_machine_orders.specs.Calls.{is_at_call, is_refusal, caller_of, is_raise_refused, scope_pool, verdict_of, IsHandedOn, IsRunUntil, is_any, count_of, fed_jobs, numbers_of, is_awaited, is_scope, LowersSo, HoldsEnding, IsSpent, StandsOn}
pub use Rattle.rayon_machine_orders.specs.Casts.{caster_of, cast_pool, is_cast_refusal}
pub use Rattle.rayon_machine_orders.specs.Faults.{IsStoredFor, TakesFault, TakesLowest, stored_by, KeepsBy}
pub use Rattle.rayon_machine_orders.specs.Lists.{Pushes, Takes, Shifts, deque_shift, injector_shift, cast_shift}
pub use Rattle.rayon_machine_orders.specs.Looks.{MissesOne, is_look, flag_of, queue_of, TellsSo, is_empty, pool_of}
pub use Rattle.rayon_machine_orders.specs.Makes.{scopes_after, MakesSo, scope_list}
pub use Rattle.rayon_machine_orders.specs.Numbers.{DealtFrom}
pub use Rattle.rayon_machine_orders.specs.Order.{Happening, Adds, Begins, Queues, Retakes, Redeems, Hands, act_happens, happening, happened, and_next, happenings, TokenList, IsWalk, IsLeft, in_line, begun_in, NoTree, Tree}
pub use Rattle.rayon_machine_orders.specs.Placed.{push_in, belongs, own_push, pushes_of}
pub use Rattle.rayon_machine_orders.specs.Queue.{Changes, run_at, Comes, Leaves, Joins, change, Change, change_of}
