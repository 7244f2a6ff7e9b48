-- the words of the machine and of the statements, for the files of proofs
pub use Rattle.std.proofs.Common.{refl, sym, ◌∙◌, ap, arith, subst, inl, inr, rules, ◌≢◌}
pub use Rattle.std.proofs.lemmas.Bool.{eqb-true, eq-eqb, ltb-true, lt-ltb, ltb-false, le-leb}
pub use Rattle.std.proofs.lemmas.List.{append_assoc}
pub use Rattle.std.specs.Prelude.{false, ℕ, Bool, true, if◌then◌else◌, ◌≡◌, Some, List, IfSome, ◌==◌, nat_lt, ◌&&◌, ◌+◌, ◌∷◌, [], None, Option, ◌≤◌, ◌⊎◌, ◌-◌, ◌<◌, ◌++◌, suc, not, ◌||◌, zero, ⊤, is_some, nat_le, ◌%◌, slice_get}
pub use Rattle.rayon_machine_places.specs.Places.{act_of, next_of, same_party, own_pool, finish, after_set, is_free, own_index, is_member, plan_book, plan_pool, after_failure, fresh, walk, count_book, next_victim, not_self, ends_count, settle, plan_job, is_refusable, next_steal, next_yield}
pub use Rattle.rayon_machine_places.specs.Places.{withdraw, begin_cast, begin_feed, taken_number, after_found, after_news, plan_count, end_cast, set_call, count_kind, awaits, latch_of, after_wait, after_slot, goes_on, count_call, is_rest, undo, victim_of}
pub use Rattle.rayon_machine_runs.specs.Readers.{is_done}
pub use Rattle.rayon_machine_runs.specs.Runs.{start, IsRun, first_place}
pub use Rattle.rayon_machine_runs.specs.Steps.{after_move, step, put, can_miss, after_choice, after_miss, is_pool, after_yield, put_stack, holds, after_end, after_spawn, after_feed, after_join, after_enter, with_stack, after_deal, after_send, after_close, is_piece, after_refusal}
pub use Rattle.rayon_machine_runs.specs.Steps.{after_broadcast, after_scope, after_resume, after_call, part_of, jobs_after, new_call, new_gathering, after_install, after_end_pool, after_fifo, after_gather, after_enter_fifo, after_enter_cast}
pub use Rattle.rayon_machine_runs.specs.World.{World, Part, Shape, Stack, effect, counts_at, Pool, take_cast, letter, Outcome, head_of, popped, pop_injector, at_job, with_letter, raised, all_raised, jec}
pub use Rattle.rayon_machine_places.specs.Targets.{target_pool, target_call, target_worker, call_of}
pub use Rattle.rayon_machine_places.specs.Sleepers.{Counts, is_even, wakes_for_one}
pub use Rattle.rayon_machine_runs.specs.World.{but_first, own_of, own_left, fall_asleep, same_list, is_held_by}
pub use Rattle.rayon_machine_places.specs.Targets.{is_own}
pub use Rattle.rayon_machine_places.specs.declared.act.Act.{Act}
pub use Rattle.rayon_machine_places.specs.declared.act.Act.TheVariants.{Set, LookOwn, PushInj, News, LookInj, PushOwn, Sleepy, Asleep, Wakeup, Wake, Lock, Unlock, Take}
pub use Rattle.rayon_machine_places.specs.declared.act.Seen.{Seen}
pub use Rattle.rayon_machine_places.specs.declared.act.Seen.TheVariants.{Yes, Done, Task, Refused, Wakes, No}
pub use Rattle.rayon_machine_runs.specs.declared.event.Event.{Event}
pub use Rattle.rayon_machine_runs.specs.declared.event.Event.TheVariants.{Go, Refuse, From, Miss, End, Install, Scope as OpenScope, EndPool, Spawn, Yield, YieldLocal, Cast, Broadcast, Fifo, IntoSpawn, Join, IntoFifo, IntoCast}
pub use Rattle.rayon_machine_places.specs.declared.place.Count.{Count}
pub use Rattle.rayon_machine_places.specs.declared.place.Count.TheVariants.{OfPool, OfScope, OfCast}
pub use Rattle.rayon_machine_places.specs.declared.place.Ending.{Ending}
pub use Rattle.rayon_machine_places.specs.declared.place.Ending.TheVariants.{Fine, Fault}
pub use Rattle.rayon_machine_places.specs.declared.place.Feeding.{Feeding}
pub use Rattle.rayon_machine_places.specs.declared.place.Gathering.{Gathering}
pub use Rattle.rayon_machine_places.specs.declared.place.JobKind.{JobKind}
pub use Rattle.rayon_machine_places.specs.declared.place.JobKind.TheVariants.{Stored, Direct, Scoped, BodyOf, TokenOf, Detached, WholeOf, PieceOf}
pub use Rattle.rayon_machine_places.specs.declared.place.Latch.{Latch}
pub use Rattle.rayon_machine_places.specs.declared.place.Latch.TheVariants.{OfCall, Terminate}
pub use Rattle.rayon_machine_places.specs.declared.place.Mark.TheVariants.{Counted, Returned}
pub use Rattle.rayon_machine_places.specs.declared.place.Move.{Move}
pub use Rattle.rayon_machine_places.specs.declared.place.Move.TheVariants.{Stay, Back, HandAllBack, StartRun, HandBack, HandIn, Discard, Mark, Enter as Into}
pub use Rattle.rayon_machine_places.specs.declared.place.OpenCall.{OpenCall}
pub use Rattle.rayon_machine_places.specs.declared.place.Party.{Party}
pub use Rattle.rayon_machine_places.specs.declared.place.Party.TheVariants.{Worker, Caller}
pub use Rattle.rayon_machine_places.specs.declared.place.Pieces.{Pieces}
pub use Rattle.rayon_machine_places.specs.declared.place.Place.{Place}
pub use Rattle.rayon_machine_places.specs.declared.place.Place.TheVariants.{SetLatch, UnlockSettled, ProbeWorking, PopInjected, LowerCount, Run, Free, Stopped, RaiseForAll, UnlockWoken, RaiseCount, PickVictim, StealFrom, YieldPick, PushForAll, WakeSettled, LowerForAll, BeginTask, PushJob}
pub use Rattle.rayon_machine_places.specs.declared.place.Place.TheVariants.{YieldPop, YieldSteal, BlockSelf, WakeWorker, DealPieces, TakeFromFifo, StoreResult, SetLockLatch, GrowScope, LocalPop, YieldPopInjected, AddToFifo, ProbeIdle, AnnounceSelf, FallAsleep, LoadCounters, AddSleeping}
pub use Rattle.rayon_machine_places.specs.declared.place.Place.TheVariants.{LookAtCast, LookAtInjector, LockToWake, GrowCast, LockToSettle, TellNews, GetSleepy, YieldTakeCast, LocalTakeCast, LeaveSearch, OpenForAll, GrowCall, LookQueue, SecondSide, AtOnce, OpenSlot, TakeCastIdle, WakeUp}
pub use Rattle.rayon_machine_places.specs.declared.place.Place.TheVariants.{FirstSide, ScopeBody, PushToken, CloseSlot, CloseForAll, LockOwn, RelockOwn, BeginHere, UndoSleeping, UnlockOwn}
pub use Rattle.rayon_machine_places.specs.declared.place.Plan.{Plan}
pub use Rattle.rayon_machine_places.specs.declared.place.Plan.TheVariants.{Feed, Enter, Detach, Here, Send, Fork, Open, Gather}
pub use Rattle.rayon_machine_places.specs.declared.place.Rounds.{Rounds}
pub use Rattle.rayon_machine_places.specs.declared.place.Rounds.TheVariants.{Failed, Announced}
pub use Rattle.rayon_machine_places.specs.declared.place.Settling.{Settling}
pub use Rattle.rayon_machine_places.specs.declared.place.Share.{Share}
pub use Rattle.rayon_machine_places.specs.declared.place.Share.TheVariants.{PoolValue, OfJob}
pub use Rattle.rayon_machine_places.specs.declared.place.Taken.{Taken}
pub use Rattle.rayon_machine_places.specs.declared.place.Taken.TheVariants.{Plain, Token}
pub use Rattle.rayon_machine_places.specs.declared.place.Target.{Target}
pub use Rattle.rayon_machine_places.specs.declared.place.Target.TheVariants.{Termination, Answer}
pub use Rattle.rayon_machine_places.specs.declared.place.Then.{Then}
pub use Rattle.rayon_machine_places.specs.declared.place.Then.TheVariants.{Resume, BeginFound, LeaveWait, Await, RunFirst, Answers, Ran, GiveBack, Called, Gathers, Missing}
pub use Rattle.rayon_machine_places.specs.declared.place.Wait.{Wait}
pub use Rattle.rayon_machine_places.specs.declared.place.Walk.{Walk}
pub use Rattle.rayon_machine_places.specs.declared.shape.Order.{Order}
pub use Rattle.rayon_machine_places.specs.declared.shape.Order.TheVariants.{NewestFirst}
pub use Rattle.rayon_machine_places.specs.declared.shape.PoolShape.{PoolShape}
pub use Rattle.rayon_machine_runs.specs.declared.state.Call.{Call}
pub use Rattle.rayon_machine_runs.specs.declared.state.Job.{Job}
pub use Rattle.rayon_machine_runs.specs.declared.state.Letter.{Letter}
pub use Rattle.rayon_machine_runs.specs.declared.state.Letter.TheVariants.{Set as IsSet, Unset, Sleepy as IsSleepy, Sleeping}
pub use Rattle.rayon_machine_runs.specs.declared.state.Scope.{Scope}
pub use Rattle.rayon_machine_runs.specs.declared.state.Whereabouts.TheVariants.{Over}
pub use Rattle.rayon_machine_laws.specs.Attended.{is_filled, letter_at, settles, HasSettler}
pub use Rattle.rayon_machine_laws.specs.Committed.{is_blocking}
pub use Rattle.rayon_machine_laws.specs.Holders.{book_at, locks_at}
pub use Rattle.rayon_machine_laws.specs.Latch.{sets, SetsSo}
pub use Rattle.rayon_machine_laws.specs.Once.{one, IsOnce}
pub use Rattle.rayon_machine_laws.specs.Turn.{is_announce, IsRunWithout, is_announcing}
pub use Rattle.rayon_machine_sleep_laws.specs.Announced.{begins_anew}
pub use Rattle.rayon_machine_sleep_laws.specs.Done.{comes_to, stores_for, lowers_for}
pub use Rattle.rayon_machine_sleep_laws.specs.Parity.{is_told_of, TurnsSo}
pub use Rattle.rayon_machine_sleep_laws.specs.Searched.{OwnDeque, OwnCast, Injector, Look, and_then, Spot, Deque, others, EndsSearched, whole_search}
pub use Rattle.rayon_machine_sleep_laws.specs.Walks.{is_walk}
