-- the events that are no acts leave the books of scopes; and what holds of the books of every world
--
-- A number that is open has a job with a share. So at a count of 0 none is open, and nobody holds the book
-- (`done_book`).
use Rattle.std.proofs.Common.{arith, refl, sym, ◌∙◌, ap, subst, inl, inr}
use Rattle.rayon_machine_orders.proofs.Words.{eqb-true, eq-eqb, ltb-true, ltb-false, ltb, ℕ, Bool, true, false, ◌&&◌, ◌||◌, ◌+◌, ◌-◌, ◌==◌, ◌≤◌, ◌<◌, nat_lt, if◌then◌else◌, Option, Some, None, List, [], ◌∷◌, ◌≡◌, ◌⊎◌, IfSome, slice_get, Party, Worker, Caller, Ending, Fine, Fault, JobKind}
use Rattle.rayon_machine_orders.proofs.Words.{Detached, Stored, Direct, Scoped, BodyOf, TokenOf, PieceOf, WholeOf, Termination, Plan, Detach, Here, Send, Fork, Feed, Open, Enter, Gather, OpenCall, Pieces, OfPool, OfScope, OfCast, PoolValue, OfJob, Body, Resume, Place, LowerCount, ProbeWorking}
use Rattle.rayon_machine_orders.proofs.Words.{PickVictim, StealFrom, YieldPop, YieldPick, YieldSteal, LocalPop, Run, RaiseCount, GrowCall, GrowScope, OpenSlot, CloseSlot, LookQueue, PushJob, AddToFifo, PushToken, TakeFromFifo, RaiseForAll, PushForAll, LowerForAll, TakeResult, FirstSide}
use Rattle.rayon_machine_orders.proofs.Words.{SecondSide, ScopeBody, AtOnce, JoinProbe, Free, Stopped, LookForToken, GrowCast, CloseForAll, DealPieces, OpenForAll, Event, Go, From, Refuse, Miss, End, Spawn, Fifo, Cast, Install, Join, OpenScope, IntoSpawn, Yield, YieldLocal, EndPool, IntoFifo}
use Rattle.rayon_machine_orders.proofs.Words.{IntoCast, Broadcast, Over, Running, Job, Call, Slot, Closed, IsOpen, Filled, own_pool, is_member, undo, after_push, next_steal, next_yield, goes_on, is_free, fresh, holds_scope, plan_job, withdraw, end_cast, count_book, count_kind, plan_count, Shape}
use Rattle.rayon_machine_orders.proofs.Words.{Stack, World, at_job, put, put_stack, put_pieces, is_piece, with_stack, after_choice, after_refusal, can_miss, after_miss, after_resume, after_close, after_end, after_call, is_pool, new_job, new_piece, new_call, after_spawn, after_feed, after_fifo}
use Rattle.rayon_machine_orders.proofs.Words.{after_cast, after_send, after_install, after_join, after_scope, holds, holds_in, after_yield, after_end_pool, step, after_gather, new_whole, after_enter, after_broadcast, after_deal, after_enter_fifo, new_gathering, start, first_place, IsRun, one}
use Rattle.rayon_machine_orders.proofs.Words.{run_of, runs_in, ScopeEnded, is_scoped, is_of_scope, is_busy, slot_number, Count, Scope, Feeding}
use Rattle.rayon_machine_runs.specs.Steps.{after_enter_cast}
use Rattle.rayon_machine_laws.proofs.Frame.{either, if_some_and, if_some_map, if_cond, and_parts, put_same, put_new, put_old, stack_mine, stack_other, piece_old, piece_out, piece_in, piece_new}
use Rattle.rayon_machine_laws.proofs.Ties.{AllFrames, outcome, result}
use Rattle.rayon_machine_laws.proofs.Seats.{is_frame}
use Rattle.rayon_machine_laws.proofs.Events.{run_keeps}
use Rattle.rayon_machine_laws.proofs.Hands.{worked}
use Rattle.rayon_machine_laws.proofs.Located.{loc_at, is_loc, where_is, at_work, Work}
use Rattle.rayon_machine_laws.proofs.Claims.{Opened, FirstEnds, SaysRun, Says, AllSay, is_body, IsReady, queue_plan, SaysPlan}
use Rattle.rayon_machine_laws.proofs.ClaimRuns.{CallsHold, top_says, world_after}
use Rattle.rayon_machine_laws.proofs.ClaimMakes.{below_new}
use Rattle.rayon_machine_laws.proofs.Bodies.{body, bodies_in, all_bodies}
use Rattle.rayon_machine_laws.proofs.Tokens.{sum_below, sum_least}
use Rattle.rayon_machine_laws.proofs.Scoping.{ScopesHold, CountOver, count_over}
use Rattle.rayon_machine_laws.proofs.Spawned.{below_counts}
use Rattle.rayon_machine_laws.proofs.ShareSteps.{Ready, self_one, plan_made}
use Rattle.rayon_machine_laws.proofs.ShareEvents.{ready}
use Rattle.rayon_machine_orders.specs.Books.{InBook, BookDone, IsBooked, IsCast, Undoes, UndoesAll}
use Rattle.rayon_machine_orders.proofs.Takes.{seen_set, number_is}
use Rattle.rayon_machine_orders.proofs.CallSteps.{mover, go_all}
use Rattle.rayon_machine_orders.proofs.EventCases.{is_act}
use Rattle.rayon_machine_orders.proofs.CallEvents.{whole}
use Rattle.rayon_machine_orders.proofs.EarlyActs.{Stays, all_stays, go_early}
use Rattle.rayon_machine_orders.proofs.EarlyStates.{EarlyHold}
use Rattle.rayon_machine_orders.proofs.Early.{step_early, first_early}
use Rattle.rayon_machine_orders.proofs.BookStates.{book_free, free_at, free_writes}
use Rattle.rayon_machine_orders.proofs.Books.{is_unfilled, writes, AtBook, BooksHold, Quiet, quiet_books, raising, AtState}
use Rattle.rayon_machine_orders.proofs.BookMoves.{steal_free, yield_free, undo_free}
use Rattle.rayon_machine_orders.proofs.BookActs.{Acts, close_of}
use Rattle.rayon_machine_orders.proofs.BookTouches.{act_books}
use Rattle.rayon_machine_orders.proofs.BookStates.{open_state, hold_state, fresh_state, holds_book, shut_state, fresh_all, grow_state, book_of, none_holds, close_all, open_all, free_raising, close_state, scope_count, hold_all, plan_scoped, BookState, is_nothing, slot_says, at_kept, shut_all}
use Rattle.rayon_machine_orders.proofs.BookStates.{none_all_holds, line_state}
use Rattle.rayon_machine_laws.proofs.Feeders.{FeedersHold, go_feeders}
use Rattle.rayon_machine_laws.proofs.FeederEvents.{first_feeders, step_feeders}
use Rattle.rayon_machine_orders.proofs.BookMoves.{plan_book_is}

-- what an event that is no act leaves of the jobs that were there, and what a new one is
pub record OldJob (j i : Job) : Type 0 where
  pub slot : i.slot ≡ j.slot
  pub kind : i.kind ≡ j.kind
  pub counted : i.counted ≡ j.counted
  pub busy : is_busy i.at ≡ true → is_busy j.at ≡ true

same_job : (j i : Job) → i ≡ j → OldJob j i
same_job j i e = record { slot = ap (λ v. v.slot) e; kind = ap (λ v. v.kind) e; counted = ap (λ v. v.counted) e; busy = λ b. ap (λ v. is_busy (v.at)) (sym e) ∙ b }

abbrev NewJob : World → World → ℕ → Type 0
NewJob w u t = ((u.job t).slot ≡ Closed) × (t + 1 ≤ u.jobs → is_busy (u.job t).at ≡ false)

abbrev NewCall : World → ℕ → Type 0
NewCall u c = ((u.call c).writer ≡ None) × (((u.call c).slots ≡ 0) ⊎ ((c + 1 ≤ u.calls) × IsCast u c))

event_quiet : (w u : World) (q : Party) (k : Stack) → ((r : Party) → u.stack r ≡ put_stack w.stack q k r) → w.jobs ≤ u.jobs → w.calls ≤ u.calls → ((t : ℕ) → t + 1 ≤ w.jobs → OldJob (w.job t) (u.job t)) → ((t : ℕ) → w.jobs ≤ t → NewJob w u t)
    → ((c : ℕ) → c + 1 ≤ w.calls → u.call c ≡ w.call c) → ((c : ℕ) → w.calls ≤ c → NewCall u c) → AtBook u q k.top → ((c : ℕ) → writes (w.stack q).top ≡ Some c → writes k.top ≡ Some c) → ((c : ℕ) → raising k.top ≡ Some c → holds_in c k.below ≡ true) → Quiet w u q
event_quiet w u q k s a b old new same fresh top wrote enters = record {
  jobs = a;
  calls = b;
  stack = λ r d. s r ∙ stack_other w.stack q k r d;
  top = subst (λ v. AtBook u q v.top) (sym (s q ∙ stack_mine w.stack q k)) top;
  wrote = λ c y. ap (λ v. writes (v.top)) (s q ∙ stack_mine w.stack q k) ∙ wrote c y;
  enters = λ c y. ap (λ v. holds_in c (v.below)) (s q ∙ stack_mine w.stack q k) ∙ enters c (ap (λ v. raising (v.top)) (sym (s q ∙ stack_mine w.stack q k)) ∙ y);
  slot = λ t l p. (old t l).slot;
  fresh = λ t l. (new t l).0;
  call = λ c l. (ap (λ v. v.writer) (same c l), ap (λ v. v.slots) (same c l));
  opened = λ c l. (fresh c l).0;
  empty = λ c l. (fresh c l).1;
  kind = λ t l. (old t l).kind;
  busy = λ t l c o y z. inl ((old t l).busy z);
  idle = λ t l m. (new t l).1 m;
  counted = λ t l c o y z n. (old t l).counted ∙ n;
}

-- where no job and no call is new
stack_quiet : (w u : World) (q : Party) (k : Stack) → BooksHold w → ((r : Party) → u.stack r ≡ put_stack w.stack q k r) → u.jobs ≡ w.jobs → u.calls ≡ w.calls → ((t : ℕ) → OldJob (w.job t) (u.job t)) → ((c : ℕ) → u.call c ≡ w.call c) → AtBook u q k.top
    → ((c : ℕ) → writes (w.stack q).top ≡ Some c → writes k.top ≡ Some c) → ((c : ℕ) → raising k.top ≡ Some c → holds_in c k.below ≡ true) → Quiet w u q
stack_quiet w u q k h s a b old same top wrote enters = event_quiet w u q k s (omega (arith, a)) (omega (arith, b)) (λ t l. old t)
    (λ t l. ((old t).slot ∙ h.unmade t l, λ m. absurd (omega (arith, a, l, m)))) (λ c l. same c) (λ c l. (ap (λ v. v.writer) (same c) ∙ (h.uncalled c l).0, inl (ap (λ v. v.slots) (same c) ∙ (h.uncalled c l).1))) top wrote enters

-- from a place to another
place_quiet : (w : World) (q : Party) (x y : Place) (fs : List Place) → w.stack q ≡ record { top = x; below = fs } → BooksHold w → AtBook (with_stack w q (record { top = y; below = fs })) q y → ((c : ℕ) → writes x ≡ Some c → writes y ≡ Some c)
    → ((c : ℕ) → raising y ≡ Some c → raising x ≡ Some c) → Quiet w (with_stack w q (record { top = y; below = fs })) q
place_quiet w q x y fs z h top wrote enters = stack_quiet w (with_stack w q (record { top = y; below = fs })) q (record { top = y; below = fs }) h (λ r. refl) refl refl (λ t. same_job (w.job t) (w.job t) refl) (λ c. refl) top
    (λ c e. wrote c (ap (λ s. writes (s.top)) (sym z) ∙ e)) (λ c i. ap (λ s. holds_in c (s.below)) (sym z) ∙ h.enters q c (ap (λ s. raising (s.top)) z ∙ enters c i))

-- and where neither says anything of a book
turn_quiet : (w : World) (q : Party) (x y : Place) (fs : List Place) → w.stack q ≡ record { top = x; below = fs } → BooksHold w → book_free x ≡ true → book_free y ≡ true → Quiet w (with_stack w q (record { top = y; below = fs })) q
turn_quiet w q x y fs z h f g = place_quiet w q x y fs z h (free_at (with_stack w q (record { top = y; below = fs })) q y g) (λ c e. absurd (free_writes x c f e)) (λ c i. absurd (free_raising y c g i))

from_book : (w : World) (q : Party) (x : Place) (fs : List Place) (v : ℕ) → w.stack q ≡ record { top = x; below = fs } → BooksHold w → IfSome (after_choice w q (record { top = x; below = fs }) x v) (λ u. Quiet w u q)
from_book w q (PickVictim k) fs v z h = if_cond (λ u. Quiet w u q) (nat_lt v (w.shape.pool (own_pool q)).workers) _ (λ b. turn_quiet w q (PickVictim k) _ fs z h refl refl)
from_book w q YieldPick fs v z h = if_cond (λ u. Quiet w u q) (nat_lt v (w.shape.pool (own_pool q)).workers) _ (λ b. turn_quiet w q YieldPick _ fs z h refl refl)
from_book w q _ fs v z h = tt

miss_book : (w : World) (q : Party) (x : Place) (fs : List Place) → w.stack q ≡ record { top = x; below = fs } → BooksHold w → IfSome (after_miss w q (record { top = x; below = fs }) x) (λ u. Quiet w u q)
miss_book w (Worker a b) (StealFrom k n) fs z h = if_cond (λ u. Quiet w u (Worker a b)) (can_miss w a k.victim) _ (λ y. turn_quiet w (Worker a b) (StealFrom k n) (next_steal (w.shape.pool a) (Worker a b) k n) fs z h refl (steal_free (w.shape.pool a) (Worker a b) k n))
miss_book w (Worker a b) (YieldSteal v n) fs z h = if_cond (λ u. Quiet w u (Worker a b)) (can_miss w a v) _ (λ y. turn_quiet w (Worker a b) (YieldSteal v n) (next_yield (w.shape.pool a) (Worker a b) v n) fs z h refl (yield_free (w.shape.pool a) (Worker a b) v n))
miss_book w _ _ fs z h = tt

-- a refusal
grow_at : (w : World) (q : Party) (k : Count) → AtState w q (grow_state k) → is_nothing (grow_state k) ≡ true
grow_at w q (OfScope c o) y = absurd y
grow_at w q _ y = refl

open_shut : (w : World) (q : Party) (k : Count) (t : ℕ) → AtState w q (open_state k t) → AtState w q (shut_state k t)
open_shut w q (OfScope c o) t y = ap is_unfilled y
open_shut w q _ t y = absurd y

open_shut_all : (w : World) (q : Party) (k : Count) (b : Pieces) → AtState w q (open_all k b) → AtState w q (shut_all k b)
open_shut_all w q (OfScope c o) b y = λ t e. ap is_unfilled (y t e)
open_shut_all w q _ b y = absurd y

open_holds : (k : Count) (t c : ℕ) → holds_book (open_state k t) ≡ Some c → ⊥
open_holds (OfScope d o) t c y = cc
open_holds _ t c y = cc

open_holds_all : (k : Count) (b : Pieces) (c : ℕ) → holds_book (open_all k b) ≡ Some c → ⊥
open_holds_all (OfScope d o) b c y = cc
open_holds_all _ b c y = cc

ended_of : (u : World) (q : Party) (k : Count) (b : Pieces) → b.count ≡ k → AtState u q (hold_all k b) → AtState u q (book_of (end_cast k b)) × ((holds_book (hold_all k b) ≡ writes (end_cast k b)) × ((d : ℕ) → raising (end_cast k b) ≡ Some d → scope_count b.count ≡ Some d))
ended_of u q (OfPool p) b e y = (subst (λ c. AtState u q (shut_all c b)) (sym e) tt, (ap (λ c. holds_book (shut_all c b)) (sym e), λ d i. absurd (cc)))
ended_of u q (OfScope c o) b e y = (subst (λ k. AtState u q (close_all k b)) (sym e) y, (ap (λ k. holds_book (close_all k b)) (sym e), λ d i. i))
ended_of u q (OfCast c o) b e y = (subst (λ c. AtState u q (shut_all c b)) (sym e) tt, (ap (λ c. holds_book (shut_all c b)) (sym e), λ d i. absurd (cc)))

unpushed : (u : World) (q : Party) (n : Plan) → AtState u q (hold_state (plan_count n) (plan_job n)) → AtBook u q (after_push n) × ((holds_book (hold_state (plan_count n) (plan_job n)) ≡ writes (after_push n)) × ((d : ℕ) → raising (after_push n) ≡ Some d → ⊥))
unpushed u q n y = subst (λ b. AtState u q (book_of (withdraw b n)) × ((holds_book (hold_state (plan_count n) (plan_job n)) ≡ writes (withdraw b n)) × ((d : ℕ) → raising (withdraw b n) ≡ Some d → ⊥))) (sym (plan_book_is n)) (close_of u q (plan_count n) n refl y)

here : (w : World) (q : Party) (x : Place) (fs : List Place) → w.stack q ≡ record { top = x; below = fs } → BooksHold w → AtBook w q x
here w q x fs z h = subst (λ k. AtBook w q (k.top)) z (h.at q)

-- what a place knows is so where only a stack is another
moved_at : (w : World) (q : Party) (k : Stack) (s : BookState) → AtState w q s → AtState (with_stack w q k) q s
moved_at w q k s y = at_kept w (with_stack w q k) q s (λ t i. refl) (λ c i. (refl, refl)) y

refuse_book : (w : World) (q : Party) (x : Place) (fs : List Place) → w.stack q ≡ record { top = x; below = fs } → BooksHold w → IfSome (after_refusal w q (record { top = x; below = fs })) (λ u. Quiet w u q)
refuse_book w q (GrowCall n) fs z h = turn_quiet w q (GrowCall n) (undo n) fs z h (grow_at w q (plan_count n) (here w q (GrowCall n) fs z h)) (undo_free n (grow_at w q (plan_count n) (here w q (GrowCall n) fs z h)))
refuse_book w q (GrowScope o) fs z h = turn_quiet w q (GrowScope o) (undo (Open o)) fs z h refl refl
refuse_book w q (GrowCast g) fs z h = turn_quiet w q (GrowCast g) (undo (Gather g)) fs z h refl refl
refuse_book w q (DealPieces g) fs z h = turn_quiet w q (DealPieces g) (undo (Gather g)) fs z h refl refl
refuse_book w q (OpenSlot n) fs z h = place_quiet w q (OpenSlot n) (undo n) fs z h (moved_at w q (record { top = undo n; below = fs }) (shut_state (plan_count n) (plan_job n)) (open_shut w q (plan_count n) (plan_job n) (here w q (OpenSlot n) fs z h)))
    (λ c y. absurd (open_holds (plan_count n) (plan_job n) c y)) (λ c i. absurd (cc))
refuse_book w q (PushJob n v) fs z h = place_quiet w q (PushJob n v) (after_push n) fs z h (moved_at w q (record { top = after_push n; below = fs }) (book_of (after_push n)) ((unpushed w q n (here w q (PushJob n v) fs z h)).0))
    (λ c y. sym ((unpushed w q n (here w q (PushJob n v) fs z h)).1.0) ∙ y) (λ c i. absurd ((unpushed w q n (here w q (PushJob n v) fs z h)).1.1 c i))
refuse_book w q (AddToFifo f) fs z h = place_quiet w q (AddToFifo f) (after_push (Feed f)) fs z h (moved_at w q (record { top = after_push (Feed f); below = fs }) (book_of (after_push (Feed f))) ((unpushed w q (Feed f) (here w q (AddToFifo f) fs z h)).0))
    (λ c y. sym ((unpushed w q (Feed f) (here w q (AddToFifo f) fs z h)).1.0) ∙ y) (λ c i. absurd ((unpushed w q (Feed f) (here w q (AddToFifo f) fs z h)).1.1 c i))
refuse_book w q (PushToken f v) fs z h = place_quiet w q (PushToken f v) (TakeFromFifo f) fs z h (moved_at w q (record { top = TakeFromFifo f; below = fs }) (line_state f.count f.job) (here w q (PushToken f v) fs z h)) (λ c y. y) (λ c i. absurd (cc))
refuse_book w q (OpenForAll b) fs z h = place_quiet w q (OpenForAll b) (LowerForAll b) fs z h (moved_at w q (record { top = LowerForAll b; below = fs }) (shut_all b.count b) (open_shut_all w q b.count b (here w q (OpenForAll b) fs z h))) (λ c y. absurd (open_holds_all b.count b c y))
    (λ c i. absurd (cc))
refuse_book w q (PushForAll b) fs z h = place_quiet w q (PushForAll b) (end_cast b.count b) fs z h (moved_at w q (record { top = end_cast b.count b; below = fs }) (book_of (end_cast b.count b)) ((ended_of w q b.count b refl (here w q (PushForAll b) fs z h)).0))
    (λ c y. sym ((ended_of w q b.count b refl (here w q (PushForAll b) fs z h)).1.0) ∙ y) (λ c i. (ended_of w q b.count b refl (here w q (PushForAll b) fs z h)).1.1 c i)
refuse_book w q _ fs z h = tt

-- the end of a run
goes_on_clear : (f : Place) (e : Ending) → is_frame f ≡ true → book_free (goes_on f e) ≡ true
goes_on_clear (FirstSide o a) Fine m = refl
goes_on_clear (FirstSide o a) Fault m = refl
goes_on_clear (ProbeWorking k) e m = refl
goes_on_clear (JoinProbe o) e m = refl
goes_on_clear (SecondSide o) e m = refl
goes_on_clear (ScopeBody o) e m = refl
goes_on_clear (AtOnce p t) e m = refl
goes_on_clear (Run t k) e m = refl
goes_on_clear Free e m = refl
goes_on_clear Stopped e m = refl
goes_on_clear _ e m = cc

resumed_clear : (fs : List Place) (d : Ending) → AllFrames fs → book_free ((after_resume fs d).top) ≡ true
resumed_clear [] d a = refl
resumed_clear (f ∷ fs) d a = goes_on_clear f d (a.0)

run_writes : (w : World) (q : Party) (t : ℕ) (k : JobKind) (fs : List Place) (c : ℕ) → w.stack q ≡ record { top = Run t k; below = fs } → writes (w.stack q).top ≡ Some c → ⊥
run_writes w q t k fs c z y = let a : writes (w.stack q).top ≡ None = ap (λ s. writes (s.top)) z in let b : Some c ≡ None = sym y ∙ a in cc

closed_raises : (t : ℕ) (k : JobKind) (d : Ending) (fs : List Place) (e : ℕ) → AllFrames fs → raising ((after_close t k d fs).top) ≡ Some e → ⊥
closed_raises t Direct d fs e a i = free_raising ((after_resume fs d).top) e (resumed_clear fs d a) i
closed_raises t (TokenOf n b) d fs e a i = free_raising ((after_resume fs d).top) e (resumed_clear fs d a) i
closed_raises t (BodyOf c o) d fs e a i = free_raising ((after_resume fs d).top) e (resumed_clear fs d a) i
closed_raises t (WholeOf c o) d fs e a i = free_raising ((after_resume fs d).top) e (resumed_clear fs d a) i
closed_raises t _ d fs e a i = cc

end_book : (w : World) (q : Party) (d : Ending) (x : Place) (fs : List Place) → w.stack q ≡ record { top = x; below = fs } → BooksHold w → AllFrames fs → IfSome (after_end w q d (record { top = x; below = fs }) x) (λ u. Quiet w u q)
end_book w q d (Run t k) fs z h a = stack_quiet w (record w { stack = put_stack w.stack q (after_close t k d fs); job = put w.job t (at_job (w.job t) (Over d)) }) q (after_close t k d fs) h (λ r. refl) refl refl old (λ c. refl) (closed k (top_says w q (Run t k) fs calls z))
    (λ c y. absurd (run_writes w q t k fs c z y)) (λ e i. absurd (closed_raises t k d fs e a i))
  where
    calls : CallsHold w
    calls = (((h.early).fills).hold).calls

    J : ℕ → Job
    J = put w.job t (at_job (w.job t) (Over d))

    old : (s : ℕ) → OldJob (w.job s) (J s)
    old s = record {
      slot = put_same (λ j. j.slot) w.job t (at_job (w.job t) (Over d)) s refl;
      kind = put_same (λ j. j.kind) w.job t (at_job (w.job t) (Over d)) s refl;
      counted = put_same (λ j. j.counted) w.job t (at_job (w.job t) (Over d)) s refl;
      busy = by (s == t);
    }
      where
        by : (b : Bool) → is_busy (if b then at_job (w.job t) (Over d) else w.job s).at ≡ true → is_busy (w.job s).at ≡ true
        by true e = cc
        by false e = e

    running : (w.job t).at ≡ Running q
    running = (at_work ((w.job t).at) ((w.job t).runs) q
        (where_is (Work q) (loc_at (w.job t)) (let a : worked t (w.stack q) ≡ is_loc (Work q) (loc_at (w.job t)) = (((calls).jobs).ok).placed (Work q) t in let b : worked t (w.stack q) ≡ (one (t == t) + runs_in t fs) = ap (worked t) z in let c : one (t == t) ≡ 1 = self_one t in
        omega (arith, a, b, c)))).1

    closed : (k : JobKind) → SaysRun w t k → AtBook (record w { stack = put_stack w.stack q (after_close t k d fs); job = J }) q ((after_close t k d fs).top)
    closed (Detached p) s = tt
    closed (Stored c o) s = tt
    closed (Scoped c o) s = ap (λ j. is_unfilled (j.slot)) (put_new w.job t (at_job (w.job t) (Over d))) ∙ h.busy t (s.0) c o (s.1) (ap is_busy running)
    closed (PieceOf c o) s = tt
    closed _ s = free_at _ q ((after_resume fs d).top) (resumed_clear fs d a)
end_book w q d _ fs z h a = tt

-- a call that begins
place_free : (x : Place) → is_free x ≡ true → book_free x ≡ true
place_free (Run t k) f = refl
place_free Free f = refl
place_free _ f = cc

place_writes : (x : Place) (c : ℕ) → is_free x ≡ true → writes x ≡ Some c → ⊥
place_writes x c f y = free_writes x c (place_free x f) y

fresh_is : (u : World) (q : Party) (k : Count) (t : ℕ) → (u.job t).slot ≡ Closed → AtState u q (fresh_state k t)
fresh_is u q (OfScope c o) t e = e
fresh_is u q _ t e = tt

fresh_all_is : (u : World) (q : Party) (k : Count) (b : Pieces) → ((t : ℕ) → is_piece b t ≡ true → (u.job t).slot ≡ Closed) → AtState u q (fresh_all k b)
fresh_all_is u q (OfScope c o) b e = e
fresh_all_is u q _ b e = tt

old_job : (w : World) (v : Job) (t : ℕ) → t + 1 ≤ w.jobs → put w.job w.jobs v t ≡ w.job t
old_job w v t l = put_old w.job w.jobs v t (below_new t w.jobs l)

old_call : (w : World) (v : Call) (c : ℕ) → c + 1 ≤ w.calls → put w.call w.calls v c ≡ w.call c
old_call w v c l = put_old w.call w.calls v c (below_new c w.calls l)

one_new : (w : World) → BooksHold w → (v : Job) → v.slot ≡ Closed → is_busy v.at ≡ false → (t : ℕ) → w.jobs ≤ t → ((put w.job w.jobs v t).slot ≡ Closed) × (t + 1 ≤ w.jobs + 1 → is_busy (put w.job w.jobs v t).at ≡ false)
one_new w h v s b t l = by (t == w.jobs) refl
  where
    by : (z : Bool) → (t == w.jobs) ≡ z → ((if z then v else w.job t).slot ≡ Closed) × (t + 1 ≤ w.jobs + 1 → is_busy (if z then v else w.job t).at ≡ false)
    by true e = (s, λ m. b)
    by false e = (h.unmade t l, λ m. absurd (let i : (t == w.jobs) ≡ true = eq-eqb t w.jobs (omega (arith, l, m)) in cc))

two_new : (w : World) → BooksHold w → (v x : Job) → v.slot ≡ Closed → is_busy v.at ≡ false → x.slot ≡ Closed → is_busy x.at ≡ false → (t : ℕ) → w.jobs ≤ t → ((put (put w.job w.jobs v) (w.jobs + 1) x t).slot ≡ Closed)
    × (t + 1 ≤ w.jobs + 2 → is_busy (put (put w.job w.jobs v) (w.jobs + 1) x t).at ≡ false)
two_new w h v x s b r d t l = by (t == (w.jobs + 1)) (t == w.jobs) refl refl
  where
    by : (z y : Bool) → (t == (w.jobs + 1)) ≡ z → (t == w.jobs) ≡ y → ((if z then x else (if y then v else w.job t)).slot ≡ Closed) × (t + 1 ≤ w.jobs + 2 → is_busy (if z then x else (if y then v else w.job t)).at ≡ false)
    by true y e f = (r, λ m. d)
    by false true e f = (s, λ m. b)
    by false false e f = (
      h.unmade t l,
      λ m. absurd (elim (either (ltb t (w.jobs + 1))) [
        | inl g ↦ (let i : t < w.jobs + 1 = ltb-true t (w.jobs + 1) g in let k : (t == w.jobs) ≡ true = eq-eqb t w.jobs (omega (arith, i, l)) in cc)
        | inr g ↦ (let i : w.jobs + 1 ≤ t = ltb-false t (w.jobs + 1) g in let k : (t == (w.jobs + 1)) ≡ true = eq-eqb t (w.jobs + 1) (omega (arith, i, m)) in cc)
      ]),
    )

cast_new : (w : World) → BooksHold w → (q : Party) (k : Count) (p : ℕ) (b : Pieces) → b.first ≡ w.jobs → (t : ℕ) → w.jobs ≤ t → ((put_pieces b (λ i j. new_piece q k p i) w.job t).slot ≡ Closed) × (t + 1 ≤ w.jobs + b.workers → is_busy (put_pieces b (λ i j. new_piece q k p i) w.job t).at ≡ false)
cast_new w h q k p b f t l = by (is_piece b t) refl
  where
    by : (z : Bool) → is_piece b t ≡ z → ((if z then new_piece q k p (t - b.first) else w.job t).slot ≡ Closed) × (t + 1 ≤ w.jobs + b.workers → is_busy (if z then new_piece q k p (t - b.first) else w.job t).at ≡ false)
    by true e = (refl, λ m. refl)
    by false e = (h.unmade t l, λ m. absurd (let i : is_piece b t ≡ true = piece_in b t (omega (arith, f, l)) (omega (arith, f, m)) in let a : true ≡ false = sym i ∙ e in cc))

new_writer : (w : World) → BooksHold w → (f : Option ℕ) (n c : ℕ) → w.calls ≤ c → ((put w.call w.calls (new_call f n) c).writer ≡ None) × ((put w.call w.calls (new_call f n) c).slots ≡ 0)
new_writer w h f n c l = by (c == w.calls)
  where
    by : (z : Bool) → ((if z then new_call f n else w.call c).writer ≡ None) × ((if z then new_call f n else w.call c).slots ≡ 0)
    by true = (refl, refl)
    by false = h.uncalled c l

-- with no new call
begin_quiet : (w u : World) (q : Party) (y : Place) → BooksHold w → is_free (w.stack q).top ≡ true → ((r : Party) → u.stack r ≡ put_stack w.stack q (after_call (w.stack q) y) r) → w.jobs ≤ u.jobs → u.calls ≡ w.calls → ((t : ℕ) → t + 1 ≤ w.jobs → u.job t ≡ w.job t)
    → ((t : ℕ) → w.jobs ≤ t → NewJob w u t) → ((c : ℕ) → u.call c ≡ w.call c) → AtBook u q y → ((c : ℕ) → raising y ≡ Some c → holds_in c (whole (w.stack q)) ≡ true) → Quiet w u q
begin_quiet w u q y h f s a b old new same top enters = event_quiet w u q (after_call (w.stack q) y) s a (omega (arith, b)) (λ t l. same_job (w.job t) (u.job t) (old t l)) new (λ c l. same c)
    (λ c l. (ap (λ v. v.writer) (same c) ∙ (h.uncalled c l).0, inl (ap (λ v. v.slots) (same c) ∙ (h.uncalled c l).1))) top (λ c e. absurd (place_writes ((w.stack q).top) c f e)) enters

spawn_book : (w : World) (q : Party) (p : ℕ) → BooksHold w → IfSome (after_spawn w q p (w.stack q)) (λ u. Quiet w u q)
spawn_book w q p h = if_cond (λ u. Quiet w u q) (is_free ((w.stack q).top) && is_pool w.shape p) _
    (λ b. begin_quiet w _ q (RaiseCount (Detach p w.jobs)) h ((and_parts (is_free ((w.stack q).top)) (is_pool w.shape p) b).0) (λ r. refl) (omega arith) refl (old_job w (new_job q p (Detached p))) (one_new w h (new_job q p (Detached p)) refl refl) (λ c. refl) tt (λ c i. absurd (cc)))

feed_quiet : (w : World) (k : Count) (p i : ℕ) → BooksHold w → is_free (w.stack (Worker p i)).top ≡ true → ((c : ℕ) → scope_count k ≡ Some c → holds_in c (whole (w.stack (Worker p i))) ≡ true) → Quiet w (after_feed w k p i (w.stack (Worker p i))) (Worker p i)
feed_quiet w k p i h free held = begin_quiet w _ (Worker p i) (RaiseCount (Feed (record { count = k; pool = p; job = w.jobs; token = w.jobs + 1 }))) h free (λ r. refl) (omega arith) refl
    (λ t l. put_old (put w.job w.jobs (new_job (Worker p i) p (count_kind k))) (w.jobs + 1) (new_job (Worker p i) p (TokenOf i (count_book k))) t (below_new t (w.jobs + 1) (omega (arith, l))) ∙ old_job w (new_job (Worker p i) p (count_kind k)) t l)
    fresh (λ c. refl) (fresh_is _ (Worker p i) k w.jobs ((fresh w.jobs (omega arith)).0)) held
  where
    fresh : (t : ℕ) → w.jobs ≤ t → NewJob w (after_feed w k p i (w.stack (Worker p i))) t
    fresh = two_new w h (new_job (Worker p i) p (count_kind k)) (new_job (Worker p i) p (TokenOf i (count_book k))) refl refl refl refl

fifo_book : (w : World) (q : Party) (p : ℕ) → BooksHold w → IfSome (after_fifo w q p (w.stack q)) (λ u. Quiet w u q)
fifo_book w (Caller c) p h = spawn_book w (Caller c) p h
fifo_book w (Worker r i) p h = by (r == p) refl
  where
    fed : IfSome (if is_free ((w.stack (Worker p i)).top) && is_pool w.shape p then Some (after_feed w (OfPool p) p i (w.stack (Worker p i))) else None) (λ u. Quiet w u (Worker p i))
    fed = if_cond (λ u. Quiet w u (Worker p i)) (is_free ((w.stack (Worker p i)).top) && is_pool w.shape p) _ (λ b. feed_quiet w (OfPool p) p i h ((and_parts (is_free ((w.stack (Worker p i)).top)) (is_pool w.shape p) b).0) (λ c e. absurd (cc)))

    by : (z : Bool) → (r == p) ≡ z → IfSome (if z then (if is_free ((w.stack (Worker r i)).top) && is_pool w.shape p then Some (after_feed w (OfPool p) p i (w.stack (Worker r i))) else None) else after_spawn w (Worker r i) p (w.stack (Worker r i))) (λ u. Quiet w u (Worker r i))
    by true z = subst (λ n. IfSome (if is_free ((w.stack (Worker n i)).top) && is_pool w.shape p then Some (after_feed w (OfPool p) p i (w.stack (Worker n i))) else None) (λ u. Quiet w u (Worker n i))) (sym (eqb-true r p z)) fed
    by false z = spawn_book w (Worker r i) p h

deal_quiet : (w : World) (q : Party) (k : Count) (p : ℕ) → BooksHold w → is_free (w.stack q).top ≡ true → ((c : ℕ) → scope_count k ≡ Some c → holds_in c (whole (w.stack q)) ≡ true) → Quiet w (after_deal w q k p (w.stack q)) q
deal_quiet w q k p h free held = begin_quiet w _ q (RaiseForAll b) h free (λ r. refl) (omega arith) refl (λ t l. piece_old b (λ i j. new_piece q k p i) w.job t (piece_out b t (omega (arith, l)))) (cast_new w h q k p b refl) (λ c. refl)
    (fresh_all_is _ q k b (λ t e. ap (λ j. j.slot) (piece_new b (λ i j. new_piece q k p i) w.job t e))) held
  where
    b : Pieces
    b = record { count = k; pool = p; first = w.jobs; workers = (w.shape.pool p).workers }

cast_book : (w : World) (q : Party) (p : ℕ) → BooksHold w → IfSome (after_cast w q p (w.stack q)) (λ u. Quiet w u q)
cast_book w q p h = if_cond (λ u. Quiet w u q) (is_free ((w.stack q).top) && is_pool w.shape p) _ (λ f. deal_quiet w q (OfPool p) p h ((and_parts (is_free ((w.stack q).top)) (is_pool w.shape p) f).0) (λ c e. absurd (cc)))

-- with one
open_quiet : (w u : World) (q : Party) (y : Place) (f : Option ℕ) (n : ℕ) → BooksHold w → is_free (w.stack q).top ≡ true → ((r : Party) → u.stack r ≡ put_stack w.stack q (after_call (w.stack q) y) r) → w.jobs ≤ u.jobs → u.calls ≡ w.calls + 1 → ((t : ℕ) → t + 1 ≤ w.jobs → u.job t ≡ w.job t)
    → ((t : ℕ) → w.jobs ≤ t → NewJob w u t) → ((c : ℕ) → u.call c ≡ put w.call w.calls (new_call f n) c) → AtBook u q y → ((c : ℕ) → raising y ≡ Some c → holds_in c (whole (w.stack q)) ≡ true) → Quiet w u q
open_quiet w u q y f n h e s a b old new same top enters = event_quiet w u q (after_call (w.stack q) y) s a (omega (arith, b)) (λ t l. same_job (w.job t) (u.job t) (old t l)) new (λ c l. same c ∙ old_call w (new_call f n) c l)
    (λ c l. (ap (λ v. v.writer) (same c) ∙ (new_writer w h f n c l).0, inl (ap (λ v. v.slots) (same c) ∙ (new_writer w h f n c l).1))) top (λ c i. absurd (place_writes ((w.stack q).top) c e i)) enters

sent_book : (w : World) (q : Party) (p : ℕ) (b : Bool) → BooksHold w → is_free ((w.stack q).top) ≡ true → Quiet w (after_send w q p (w.stack q) b) q
sent_book w q p true h f = begin_quiet w _ q (RaiseCount (Here p w.jobs)) h f (λ r. refl) (omega arith) refl (old_job w (new_job q p Direct)) (one_new w h (new_job q p Direct) refl refl) (λ c. refl) tt (λ c i. absurd (cc))
sent_book w q p false h f = open_quiet w _ q (RaiseCount (Send (record { number = w.calls; pool = p; job = w.jobs }))) None w.jobs h f (λ r. refl) (omega arith) refl (old_job w (new_job q p (Stored w.calls q))) (one_new w h (new_job q p (Stored w.calls q)) refl refl) (λ c. refl) tt
    (λ c i. absurd (cc))

install_book : (w : World) (q : Party) (p : ℕ) → BooksHold w → IfSome (after_install w q p (w.stack q)) (λ u. Quiet w u q)
install_book w q p h = if_cond (λ u. Quiet w u q) (is_free ((w.stack q).top) && is_pool w.shape p) _ (λ e. sent_book w q p (is_member q p) h ((and_parts (is_free ((w.stack q).top)) (is_pool w.shape p) e).0))

join_book : (w : World) (q : Party) → BooksHold w → IfSome (after_join w q (w.stack q)) (λ u. Quiet w u q)
join_book w (Worker p i) h = if_cond (λ u. Quiet w u (Worker p i)) (is_free ((w.stack (Worker p i)).top)) _ (λ f. open_quiet w _ (Worker p i) (RaiseCount (Fork (record { number = w.calls; pool = p; job = w.jobs + 1 }) w.jobs)) (Some w.jobs) (w.jobs + 1) h f (λ r. refl) (omega arith) refl
    (λ t l. put_old (put w.job w.jobs (new_job (Worker p i) p Direct)) (w.jobs + 1) (new_job (Worker p i) p (Stored w.calls (Worker p i))) t (below_new t (w.jobs + 1) (omega (arith, l))) ∙ old_job w (new_job (Worker p i) p Direct) t l)
    (two_new w h (new_job (Worker p i) p Direct) (new_job (Worker p i) p (Stored w.calls (Worker p i))) refl refl refl refl) (λ c. refl) tt (λ c i. absurd (cc)))
join_book w (Caller n) h = tt

scope_book : (w : World) (q : Party) (p : ℕ) → BooksHold w → IfSome (after_scope w q p (w.stack q)) (λ u. Quiet w u q)
scope_book w q p h = if_cond (λ u. Quiet w u q) (is_free ((w.stack q).top) && is_pool w.shape p) _
    (λ b. open_quiet w _ q (RaiseCount (Open (record { number = w.calls; pool = p; job = w.jobs }))) None w.jobs h ((and_parts (is_free ((w.stack q).top)) (is_pool w.shape p) b).0) (λ r. refl) (omega arith) refl (old_job w (new_job q p (BodyOf w.calls q)))
    (one_new w h (new_job q p (BodyOf w.calls q)) refl refl) (λ c. refl) tt (λ c i. absurd (cc)))

-- the calls into a scope: who makes one holds the scope
held_on : (d : ℕ) (k : Stack) → holds d k ≡ true → (c : ℕ) → Some d ≡ Some c → holds_in c (whole k) ≡ true
held_on d k y c i = subst (λ n. holds_in n (whole k) ≡ true) (number_is d c i) y

enter_book : (w : World) (q : Party) (z : Scope) → BooksHold w → IfSome (after_enter w q (w.stack q) (Some z)) (λ u. Quiet w u q)
enter_book w q z h = if_cond (λ u. Quiet w u q) (is_free ((w.stack q).top) && holds z.call (w.stack q)) _
    (λ b. begin_quiet w _ q (RaiseCount (Enter (record { call = z.call; owner = z.owner; pool = z.pool; job = w.jobs }))) h ((and_parts (is_free ((w.stack q).top)) (holds z.call (w.stack q)) b).0) (λ r. refl) (omega arith) refl
    (old_job w (new_job q z.pool (Scoped z.call z.owner))) (one_new w h (new_job q z.pool (Scoped z.call z.owner)) refl refl) (λ c. refl) (ap (λ j. j.slot) (put_new w.job w.jobs (new_job q z.pool (Scoped z.call z.owner))))
    (held_on z.call (w.stack q) ((and_parts (is_free ((w.stack q).top)) (holds z.call (w.stack q)) b).1)))

into_book : (w : World) (q : Party) (s : Option Scope) → BooksHold w → IfSome (after_enter w q (w.stack q) s) (λ u. Quiet w u q)
into_book w q None h = tt
into_book w q (Some z) h = enter_book w q z h

into_fifo_book : (w : World) (q : Party) (s : Option Scope) → BooksHold w → IfSome (after_enter_fifo w q (w.stack q) s) (λ u. Quiet w u q)
into_fifo_book w q None h = tt
into_fifo_book w (Caller c) (Some z) h = enter_book w (Caller c) z h
into_fifo_book w (Worker r i) (Some z) h = by (r == z.pool) refl
  where
    fed : IfSome (if is_free ((w.stack (Worker z.pool i)).top) && holds z.call (w.stack (Worker z.pool i)) then Some (after_feed w (OfScope z.call z.owner) z.pool i (w.stack (Worker z.pool i))) else None) (λ u. Quiet w u (Worker z.pool i))
    fed = if_cond (λ u. Quiet w u (Worker z.pool i)) (is_free ((w.stack (Worker z.pool i)).top) && holds z.call (w.stack (Worker z.pool i))) _
        (λ b. feed_quiet w (OfScope z.call z.owner) z.pool i h ((and_parts (is_free ((w.stack (Worker z.pool i)).top)) (holds z.call (w.stack (Worker z.pool i))) b).0)
        (held_on z.call (w.stack (Worker z.pool i)) ((and_parts (is_free ((w.stack (Worker z.pool i)).top)) (holds z.call (w.stack (Worker z.pool i))) b).1)))

    by : (y : Bool) → (r == z.pool) ≡ y → IfSome (if y then (if is_free ((w.stack (Worker r i)).top) && holds z.call (w.stack (Worker r i)) then Some (after_feed w (OfScope z.call z.owner) z.pool i (w.stack (Worker r i))) else None) else after_enter w (Worker r i) (w.stack (Worker r i))
        (Some z)) (λ u. Quiet w u (Worker r i))
    by true y = subst (λ n. IfSome (if is_free ((w.stack (Worker n i)).top) && holds z.call (w.stack (Worker n i)) then Some (after_feed w (OfScope z.call z.owner) z.pool i (w.stack (Worker n i))) else None) (λ u. Quiet w u (Worker n i))) (sym (eqb-true r z.pool y)) fed
    by false y = enter_book w (Worker r i) z h

into_cast_book : (w : World) (q : Party) (s : Option Scope) → BooksHold w → IfSome (after_enter_cast w q (w.stack q) s) (λ u. Quiet w u q)
into_cast_book w q None h = tt
into_cast_book w q (Some z) h = if_cond (λ u. Quiet w u q) (is_free ((w.stack q).top) && holds z.call (w.stack q)) _
    (λ b. deal_quiet w q (OfScope z.call z.owner) z.pool h ((and_parts (is_free ((w.stack q).top)) (holds z.call (w.stack q)) b).0) (held_on z.call (w.stack q) ((and_parts (is_free ((w.stack q).top)) (holds z.call (w.stack q)) b).1)))

-- a broadcast that waits: its call's book has a number for each piece
gather_quiet : (w : World) (q : Party) (p : ℕ) → BooksHold w → is_free (w.stack q).top ≡ true → Quiet w (after_gather w q p (w.stack q)) q
gather_quiet w q p h free = event_quiet w u q (after_call (w.stack q) (RaiseCount (Gather (record { call = o; pieces = b })))) (λ r. refl) (omega arith) (omega arith)
    (λ t l. same_job (w.job t) (u.job t) (put_old J (o.job) v t (below_new t (o.job) (omega (arith, l))) ∙ piece_old b (λ i j. new_piece q (b.count) p i) w.job t (piece_out b t (omega (arith, l)))))
    (λ t l. new t l (t == o.job) refl) (λ c l. old_call w k c l) (λ c l. call c l (c == w.calls) refl) tt (λ c e. absurd (place_writes ((w.stack q).top) c free e)) (λ c i. absurd (cc))
  where
    b : Pieces
    b = record { count = OfCast w.calls q; pool = p; first = w.jobs; workers = (w.shape.pool p).workers }

    o : OpenCall
    o = record { number = w.calls; pool = p; job = w.jobs + (w.shape.pool p).workers }

    v : Job
    v = new_whole q p w.calls

    k : Call
    k = new_gathering (w.shape.pool p).workers (o.job)

    J : ℕ → Job
    J = put_pieces b (λ i j. new_piece q (b.count) p i) w.job

    u : World
    u = after_gather w q p (w.stack q)

    new : (t : ℕ) → w.jobs ≤ t → (z : Bool) → (t == o.job) ≡ z → ((if z then v else J t).slot ≡ Closed) × (t + 1 ≤ o.job + 1 → is_busy (if z then v else J t).at ≡ false)
    new t l true e = (refl, λ m. refl)
    new t l false e = (
      (cast_new w h q (b.count) p b refl t l).0,
      λ m. (cast_new w h q (b.count) p b refl t l).1 (elim (either (ltb t (o.job))) [
        | inl g ↦ (let i : t < o.job = ltb-true t (o.job) g in omega (arith, i))
        | inr g ↦ absurd (let i : o.job ≤ t = ltb-false t (o.job) g in let d : (t == o.job) ≡ true = eq-eqb t (o.job) (omega (arith, i, m)) in let a : true ≡ false = sym d ∙ e in cc)
      ]),
    )

    whole_of : IsCast u w.calls
    whole_of = record { job = o.job; owner = q; made = omega arith; kind = ap (λ j. j.kind) (put_new J (o.job) v) }

    call : (c : ℕ) → w.calls ≤ c → (z : Bool) → (c == w.calls) ≡ z → ((if z then k else w.call c).writer ≡ None) × (((if z then k else w.call c).slots ≡ 0) ⊎ ((c + 1 ≤ u.calls) × IsCast u c))
    call c l true e = (refl, inr ((let i : c ≡ w.calls = eqb-true c w.calls e in omega (arith, i)), subst (IsCast u) (sym (eqb-true c w.calls e)) whole_of))
    call c l false e = ((h.uncalled c l).0, inl ((h.uncalled c l).1))

broadcast_book : (w : World) (q : Party) (p : ℕ) → BooksHold w → IfSome (after_broadcast w q p (w.stack q)) (λ u. Quiet w u q)
broadcast_book w q p h = if_cond (λ u. Quiet w u q) (is_free ((w.stack q).top) && is_pool w.shape p) _ (λ f. gather_quiet w q p h ((and_parts (is_free ((w.stack q).top)) (is_pool w.shape p) f).0))

yield_book : (w : World) (q : Party) (x : Place) → book_free x ≡ true → BooksHold w → IfSome (after_yield w q (w.stack q) x) (λ u. Quiet w u q)
yield_book w (Worker a b) x e h = if_cond (λ u. Quiet w u (Worker a b)) (is_free ((w.stack (Worker a b)).top)) _
    (λ f. stack_quiet w _ (Worker a b) (after_call (w.stack (Worker a b)) x) h (λ r. refl) refl refl (λ t. same_job (w.job t) (w.job t) refl) (λ c. refl) (free_at _ (Worker a b) x e) (λ c i. absurd (place_writes ((w.stack (Worker a b)).top) c f i)) (λ c i. absurd (free_raising x c e i)))
yield_book w (Caller n) x e h = tt

give_book : (w : World) (q : Party) (p : ℕ) → BooksHold w → IfSome (after_end_pool w q p (w.stack q)) (λ u. Quiet w u q)
give_book w q p h = if_cond (λ u. Quiet w u q) (is_free ((w.stack q).top) && (is_pool w.shape p && (w.pool p).held)) _
    (λ b. stack_quiet w _ q (after_call (w.stack q) (LowerCount (OfPool p) PoolValue Resume)) h (λ r. refl) refl refl (λ t. same_job (w.job t) (w.job t) refl) (λ c. refl) tt
    (λ c i. absurd (place_writes ((w.stack q).top) c ((and_parts (is_free ((w.stack q).top)) (is_pool w.shape p && (w.pool p).held) b).0) i)) (λ c i. absurd (cc)))

-- each step keeps what holds of the books
pub go_books : (w : World) (q : Party) → BooksHold w → IfSome (outcome w q (w.stack q)) (λ r. BooksHold (result w q (w.stack q) r))
go_books w q h =
    let x : Place = (w.stack q).top in let fs : List Place = (w.stack q).below in
    if_some_map (λ r. ((EarlyHold (world_after w q x fs r) × FeedersHold (world_after w q x fs r)) × Ready w q x fs r) × (Stays w q x fs r × Acts w q x fs r)) (λ r. BooksHold (result w q (w.stack q) r)) (λ r d. (d.1).1 (((d.0).0).0) (((d.0).0).1) ((d.0).1) ((d.1).0)) (outcome w q (w.stack q))
    (if_some_and (λ r. (EarlyHold (world_after w q x fs r) × FeedersHold (world_after w q x fs r)) × Ready w q x fs r) (λ r. Stays w q x fs r × Acts w q x fs r) (outcome w q (w.stack q))
    (if_some_and (λ r. EarlyHold (world_after w q x fs r) × FeedersHold (world_after w q x fs r)) (Ready w q x fs) (outcome w q (w.stack q))
    (if_some_and (λ r. EarlyHold (world_after w q x fs r)) (λ r. FeedersHold (world_after w q x fs r)) (outcome w q (w.stack q)) (go_early w q (h.early)) (go_feeders w q (h.feeders))) (ready w q (((h.early).fills).hold)))
    (if_some_and (Stays w q x fs) (Acts w q x fs) (outcome w q (w.stack q)) (all_stays w q (((h.early).fills).hold)) (act_books w q x fs refl h)))

quiet_step : (w : World) (e : Event) (q : Party) → BooksHold w → IfSome (step w e) (λ u. Quiet w u q) → IfSome (step w e) BooksHold
quiet_step w e q h b = if_some_map (λ u. (EarlyHold u × FeedersHold u) × Quiet w u q) BooksHold (λ u d. quiet_books w u q h ((d.0).0) ((d.0).1) (d.1)) (step w e)
    (if_some_and (λ u. EarlyHold u × FeedersHold u) (λ u. Quiet w u q) (step w e) (if_some_and EarlyHold FeedersHold (step w e) (step_early w e (h.early)) (step_feeders w e (h.feeders))) b)

pub event_books : (w : World) (e : Event) → is_act e ≡ false → BooksHold w → IfSome (step w e) (λ u. Quiet w u (mover e))
event_books w (Go q) z h = absurd (let a : true ≡ false = z in cc)
event_books w (From q v) z h = from_book w q ((w.stack q).top) ((w.stack q).below) v refl h
event_books w (Refuse q) z h = refuse_book w q ((w.stack q).top) ((w.stack q).below) refl h
event_books w (Miss q) z h = miss_book w q ((w.stack q).top) ((w.stack q).below) refl h
event_books w (End q d) z h = end_book w q d ((w.stack q).top) ((w.stack q).below) refl h (((h.early).fills).frames q)
event_books w (Spawn q p) z h = spawn_book w q p h
event_books w (Fifo q p) z h = fifo_book w q p h
event_books w (Cast q p) z h = cast_book w q p h
event_books w (Install q p) z h = install_book w q p h
event_books w (Join q) z h = join_book w q h
event_books w (OpenScope q p) z h = scope_book w q p h
event_books w (IntoSpawn q n) z h = into_book w q (slice_get w.scopes n) h
event_books w (IntoFifo q n) z h = into_fifo_book w q (slice_get w.scopes n) h
event_books w (IntoCast q n) z h = into_cast_book w q (slice_get w.scopes n) h
event_books w (Broadcast q p) z h = broadcast_book w q p h
event_books w (Yield q) z h = yield_book w q YieldPop refl h
event_books w (YieldLocal q) z h = yield_book w q LocalPop refl h
event_books w (EndPool q p) z h = give_book w q p h

pub step_books : (w : World) (e : Event) → BooksHold w → IfSome (step w e) BooksHold
step_books w (Go q) h = go_all BooksHold w q (go_books w q h)
step_books w e h = quiet_step w e (mover e) h (event_books w e refl h)

first_clear : (h : Shape) (q : Party) → book_free (first_place h q) ≡ true
first_clear h (Worker p i) = at (nat_lt i (h.pool p).workers) ((h.pool p).callers_own && (i == 0))
  where
    at : (b d : Bool) → book_free (if b then (if d then Free else ProbeWorking (fresh Termination)) else Stopped) ≡ true
    at true true = refl
    at true false = refl
    at false d = refl
first_clear h (Caller c) = at (nat_lt c h.callers)
  where
    at : (b : Bool) → book_free (if b then Free else Stopped) ≡ true
    at true = refl
    at false = refl

pub first_books : (h : Shape) → BooksHold (start h)
first_books h = record {
  early = first_early h;
  feeders = first_feeders h;
  at = λ q. free_at (start h) q (first_place h q) (first_clear h q);
  held = λ c r z. absurd (cc);
  busy = λ t l c o k b. absurd (omega (arith, l));
  below = λ t l c o n k z. absurd (omega (arith, l));
  apart = λ t s l m c o p n k j y z. absurd (omega (arith, l));
  each = λ c n l. absurd (omega (arith, l));
  counted = λ t l c o k z. absurd (omega (arith, l));
  unmade = λ t l. refl;
  uncalled = λ c l. (refl, refl);
  enters = λ q c z. absurd (free_raising (first_place h q) c (first_clear h q) z);
}

pub always_books : (h : Shape) (es : List Event) (w : World) → IsRun (start h) es w → BooksHold w
always_books h es w r = run_keeps BooksHold step_books (start h) w es (first_books h) r

-- what that says of the acts on a book
made_job : (w : World) → BooksHold w → (t n : ℕ) → slot_number (w.job t).slot ≡ Some n → t + 1 ≤ w.jobs
made_job w h t n z = elim (either (ltb t w.jobs)) [ inl g ↦ (let b : t < w.jobs = ltb-true t w.jobs g in omega (arith, b)) | inr g ↦ absurd (let a : slot_number (w.job t).slot ≡ None = ap slot_number (h.unmade t (ltb-false t w.jobs g)) in let b : Some n ≡ None = sym z ∙ a in cc) ]

-- who holds a book has a job of the scope whose number is open, or broadcasts into the scope and holds it
record Writes (w : World) (c : ℕ) : Type 0 where
  job : ℕ
  owner : Party
  made : job + 1 ≤ w.jobs
  kind : (w.job job).kind ≡ Scoped c owner
  slot : is_unfilled (w.job job).slot ≡ true

abbrev Holder : World → Place → ℕ → Type 0
Holder w x c = Writes w c ⊎ (raising x ≡ Some c)

hold_writes : (w : World) (q : Party) (n : Plan) (c : ℕ) (k : Count) → plan_count n ≡ k → holds_book (hold_state k (plan_job n)) ≡ Some c → SaysPlan w q n → AtState w q (hold_state k (plan_job n)) → Writes w c
hold_writes w q n c (OfScope d o) e z s a = record { job = plan_job n; owner = o; made = (plan_made w q n s).0; kind = plan_scoped w q n d o s e ∙ ap (λ i. Scoped i o) (number_is d c z); slot = ap is_unfilled a.slot }
hold_writes w q n c _ e z s a = absurd (cc)

close_writes : (w : World) (q : Party) (n : Plan) (c : ℕ) (k : Count) → plan_count n ≡ k → holds_book (close_state k (plan_job n)) ≡ Some c → SaysPlan w q n → AtState w q (close_state k (plan_job n)) → Writes w c
close_writes w q n c (OfScope d o) e z s a = record { job = plan_job n; owner = o; made = (plan_made w q n s).0; kind = plan_scoped w q n d o s e ∙ ap (λ i. Scoped i o) (number_is d c z); slot = ap is_unfilled a.slot }
close_writes w q n c _ e z s a = absurd (cc)

line_of_writes : (w : World) (q : Party) (f : Feeding) (c : ℕ) (k : Count) → f.count ≡ k → holds_book (line_state k f.job) ≡ Some c → SaysPlan w q (Feed f) → AtState w q (line_state k f.job) → Writes w c
line_of_writes w q f c (OfScope d o) e z s a = record { job = f.job; owner = o; made = (plan_made w q (Feed f) s).0; kind = plan_scoped w q (Feed f) d o s e ∙ ap (λ i. Scoped i o) (number_is d c z); slot = ap is_unfilled (a.0).slot }
line_of_writes w q f c _ e z s a = absurd (cc)

hold_all_raises : (k : Count) (b : Pieces) (c : ℕ) → holds_book (hold_all k b) ≡ Some c → scope_count k ≡ Some c
hold_all_raises (OfScope d o) b c z = z
hold_all_raises _ b c z = absurd (cc)

close_all_raises : (k : Count) (b : Pieces) (c : ℕ) → holds_book (close_all k b) ≡ Some c → scope_count k ≡ Some c
close_all_raises (OfScope d o) b c z = z
close_all_raises _ b c z = absurd (cc)

writes_open : (w : World) (q : Party) (x : Place) (c : ℕ) → writes x ≡ Some c → Says w q x → AtBook w q x → Holder w x c
writes_open w q (LookQueue n) c z s a = inl (hold_writes w q n c (plan_count n) refl z (queue_plan w q n s) a)
writes_open w q (PushJob n v) c z s a = inl (hold_writes w q n c (plan_count n) refl z (queue_plan w q n s) a)
writes_open w q (CloseSlot n) c z s a = inl (close_writes w q n c (plan_count n) refl z (slot_says w q n s) a)
writes_open w q (AddToFifo f) c z s a = inl (hold_writes w q (Feed f) c f.count refl z s a)
writes_open w q (LookForToken f) c z s a = inl (line_of_writes w q f c f.count refl z s a)
writes_open w q (PushToken f v) c z s a = inl (line_of_writes w q f c f.count refl z s a)
writes_open w q (TakeFromFifo f) c z s a = inl (line_of_writes w q f c f.count refl z s a)
writes_open w q (PushForAll b) c z s a = inr (hold_all_raises b.count b c z)
writes_open w q (CloseForAll b) c z s a = inr (close_all_raises b.count b c z)
writes_open w q (RaiseCount n) c z s a = absurd (none_holds (plan_count n) (plan_job n) c (inl z))
writes_open w q (GrowCall n) c z s a = absurd (none_holds (plan_count n) 0 c (inr (inr (inr z))))
writes_open w q (OpenSlot n) c z s a = absurd (none_holds (plan_count n) (plan_job n) c (inr (inl z)))
writes_open w q (LowerCount k (OfJob t) n) c z s a = absurd (none_holds k t c (inr (inr (inl z))))
writes_open w q (LowerCount k PoolValue n) c z s a = absurd (cc)
writes_open w q (LowerCount k Body n) c z s a = absurd (cc)
writes_open w q (RaiseForAll b) c z s a = absurd (none_all_holds b.count b c (inl z))
writes_open w q (OpenForAll b) c z s a = absurd (none_all_holds b.count b c (inr (inl z)))
writes_open w q (LowerForAll b) c z s a = absurd (none_all_holds b.count b c (inr (inr z)))
writes_open w q _ c z s a = absurd (cc)

-- who is to raise a scope's count, or broadcasts into it, holds the scope
raising_counts : (w : World) → BooksHold w → (q : Party) (c : ℕ) → raising (w.stack q).top ≡ Some c → (w.call c).count ≡ 0 → ⊥
raising_counts w h q c i n = absurd (let a : 1 ≤ (w.call c).count = below_counts w (((h.early).fills).scopes) q c (h.enters q c i) in omega (arith, a, n))

-- a book whose scope has the count 0
done_book : (w : World) → BooksHold w → (c : ℕ) → c + 1 ≤ w.calls → (w.call c).count ≡ 0 → BookDone w c
done_book w h c l z = record { count = z; writer = by ((w.call c).writer) refl; filled = λ t n o k e. shut t n o k e }
  where
    scopes : ScopesHold w
    scopes = ((h.early).fills).scopes

    ended : CountOver w c
    ended = count_over w scopes c l z

    uncounted : (t : ℕ) (o : Party) → (w.job t).kind ≡ Scoped c o → (w.job t).counted ≡ false
    uncounted t o k = ended.jobs t (ap (is_of_scope c) k ∙ eq-eqb c c refl)

    shut : (t n : ℕ) (o : Party) → (w.job t).kind ≡ Scoped c o → (w.job t).slot ≡ IsOpen n → ⊥
    shut t n o k e = let a : (w.job t).counted ≡ true = h.counted t (made_job w h t n (ap slot_number e)) c o k (ap is_unfilled e) in let b : true ≡ false = sym a ∙ uncounted t o k in cc

    by : (o : Option Party) → (w.call c).writer ≡ o → o ≡ None
    by None e = refl
    by (Some r) e = absurd (elim (writes_open w r ((w.stack r).top) c (h.held c r e) ((((((h.early).fills).hold).calls).says r).top) (h.at r)) [
      | inl y ↦ (let a : (w.job y.job).counted ≡ true = h.counted (y.job) (y.made) c (y.owner) (y.kind) (y.slot) in let b : true ≡ false = sym a ∙ uncounted (y.job) (y.owner) (y.kind) in cc)
      | inr y ↦ raising_counts w h r c y z
    ])

-- who takes numbers back holds the book
undo_is : (w : World) (q : Party) (k : Count) (t : ℕ) → AtState w q (close_state k t) → Undoes w q k t
undo_is w q (OfScope c o) t y = y
undo_is w q _ t y = y

undo_all_is : (w : World) (q : Party) (k : Count) (b : Pieces) → AtState w q (close_all k b) → UndoesAll w q k b
undo_all_is w q (OfScope c o) b y = y
undo_all_is w q _ b y = y

unfilled_book : (w : World) (c t : ℕ) → ((n : ℕ) → slot_number (w.job t).slot ≡ Some n → n + 1 ≤ (w.call c).slots) → (s : Slot) → (w.job t).slot ≡ s → is_unfilled s ≡ true → InBook w c t
unfilled_book w c t f (IsOpen n) e z = record { number = n; slot = e; within = f n (ap slot_number e) }
unfilled_book w c t f _ e z = cc

pub is_booked : (w : World) → BooksHold w → IsBooked w
is_booked w h = record {
  each = h.each;
  apart = λ t s c n o p k j y z. h.apart t s (made_job w h t n y) (made_job w h s n z) c o p n k j y z;
  undo = λ q n z. undo_is w q (plan_count n) (plan_job n) (subst (AtBook w q) z (h.at q));
  undo_all = λ q b z. undo_all_is w q b.count b (subst (AtBook w q) z (h.at q));
  store = λ q c o t d z. (let s : (t + 1 ≤ w.jobs) × ((w.job t).kind ≡ Scoped c o) × (c + 1 ≤ w.calls) × ((w.job t).at ≡ Over d) = subst (Says w q) z ((calls.says q).top) in unfilled_book w c t (λ n y. h.below t (s.0) c o n (s.1) y) ((w.job t).slot) refl (subst (AtBook w q) z (h.at q)));
  take = λ q o f z k. take q o f z k (subst (Says w q) z ((calls.says q).top));
  raise = λ q n c o z k e. raising_counts w h q c (ap raising z ∙ ap scope_count k) e;
  raise_all = λ q b c o z k e. raising_counts w h q c (ap raising z ∙ ap scope_count k) e;
}
  where
    calls : CallsHold w
    calls = (((h.early).fills).hold).calls

    take : (q : Party) (o : OpenCall) (f : Option Ending) → (w.stack q).top ≡ TakeResult o f → (w.job o.job).kind ≡ BodyOf o.number q → Opened w q o × FirstEnds w (w.call o.number).first f → BookDone w o.number
    take q o f z k s = by (calls.latches (o.number) (((h.early).fills).seen q (o.number) (ap seen_set z)))
      where
        by : (o.number + 1 ≤ w.calls) × IsReady w o.number → BookDone w o.number
        by (l, inl a) = absurd (let b : is_body (w.job (w.call o.number).job).kind ≡ true = ap (λ n. is_body (w.job n).kind) ((s.0).target) ∙ ap is_body k in let c : true ≡ false = sym b ∙ (a.0).1 in cc)
        by (l, inr a) = done_book w h (o.number) l a
