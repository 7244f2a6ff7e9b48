-- the law of broadcasts: from the event that begins one to the world in which its party is back
--
-- The law is `cast_law`. The places of such a broadcast are no frames.
use Rattle.std.proofs.Common.{arith, refl, sym, ◌∙◌, ap, subst, inl, inr}
use Rattle.rayon_machine_orders.proofs.Words.{ℕ, Bool, true, false, ◌&&◌, ◌||◌, ◌+◌, ◌-◌, ◌==◌, ◌≤◌, ◌<◌, nat_lt, if◌then◌else◌, Some, None, List, [], ◌∷◌, ◌++◌, ◌≡◌, IfSome, ◌⊎◌, ⊤, Option, length, slice_get, append_assoc, Party, Worker, Caller, Pieces, Ending, Terminate, OfCall, Latch, Count}
use Rattle.rayon_machine_orders.proofs.Words.{OfPool, OfScope, OfCast, Scope, Queued, Returned, Then, Resume, Called, Settling as Setting, Place, RaiseForAll, PushForAll, LowerForAll, LockToWake, WakeWorker, UnlockWoken, SetLatch, SetLockLatch, LockToSettle, WakeSettled, UnlockSettled}
use Rattle.rayon_machine_orders.proofs.Words.{PickVictim, StealFrom, YieldPick, YieldSteal, YieldPop, LocalPop, Run, Free, OpenForAll, CloseForAll, Move, Stay, Back, Mark, Act, PushCast, Seen, Done, Refused, Yes, No, Event, Go, From, Refuse, Miss, End, Spawn, Fifo, Cast, OpenScope, IntoSpawn}
use Rattle.rayon_machine_orders.proofs.Words.{Install, Join, Yield, YieldLocal, EndPool, IntoFifo, IntoCast, Broadcast, HandedBack, Job, PoolShape, same_party, act_of, next_of, is_free, walk, after_set, finish, set_call, begin_cast, end_cast, ends_count, Shape, Stack, World, Part, target_pool}
use Rattle.rayon_machine_orders.proofs.Words.{count_pool, count_in, is_open, put, after_move, after_choice, after_refusal, after_miss, after_end, after_call, after_spawn, after_feed, after_yield, after_into, is_pool, is_piece, mark_pieces, marked, part_of, put_pieces, new_piece, after_cast}
use Rattle.rayon_machine_orders.proofs.Words.{after_deal, after_enter, after_enter_fifo, after_into_fifo, after_into_cast, holds, jobs_after, step, with_stack, is_queued, is_running, is_done, IsRun, start, IsRunUntil, is_at_call, is_any, count_of, scope_pool, IsHandedOn, StandsOn, belongs}
use Rattle.rayon_machine_orders.proofs.Words.{own_push, push_in, pushes_of, caster_of, cast_pool, is_cast_refusal}
use Rattle.rayon_machine_runs.specs.World.{count_call}
use Rattle.rayon_machine_orders.specs.Placed.{cast_once, DealtLaw, scope_count}
use Rattle.rayon_machine_orders.proofs.Pushed.{nil_right}
use Rattle.rayon_machine_orders.specs.Casts.{is_cast_refused, CastLaw}
use Rattle.rayon_machine_laws.proofs.Frame.{and_parts, into_cases, into_cast_cases, if_cond, if_some_all, if_some_map, same_party_true, same_party_refl, stack_mine, stack_other, piece_new, piece_range, piece_in}
use Rattle.rayon_machine_laws.proofs.Ties.{outcome, result}
use Rattle.rayon_machine_laws.proofs.Located.{is_left}
use Rattle.rayon_machine_laws.proofs.PlacedEvents.{Advance, final_left, IsFinal}
use Rattle.rayon_machine_laws.proofs.PlacedRuns.{step_advance}
use Rattle.rayon_machine_laws.proofs.Claims.{counts_detached, is_detached}
use Rattle.rayon_machine_laws.proofs.ClaimRuns.{world_after, place_part, unqueued}
use Rattle.rayon_machine_orders.proofs.CallActs.{or_false, or_true}
use Rattle.rayon_machine_orders.proofs.CallEvents.{whole, Turned, at_call_yes}
use Rattle.rayon_machine_orders.proofs.CallSteps.{Carries, mover, turns, go_all, step_carries, handed_on, left_untaken}
use Rattle.rayon_machine_orders.proofs.EventCases.{is_act}
use Rattle.rayon_machine_orders.proofs.CallStretch.{Ground}
use Rattle.rayon_machine_orders.proofs.Calls.{ground_of, run_more, or_assoc, run_on, until_bound, given_back}

-- how far a broadcast is: before its push, after a refused one, calling all, and setting the latches of a pool or of a
-- scope that a refused one has ended
data Stage : Type 0 where
  Before : Stage
  Undoing : Stage
  Calling : Stage
  Emptying : Stage

abbrev is_undone : Stage → Bool
is_undone Undoing = true
is_undone Emptying = true
is_undone _ = false

-- where its party stands then
abbrev Spot : Pieces → Stage → Place → Type 0
Spot c Before (RaiseForAll d) = d ≡ c
Spot c Before (OpenForAll d) = d ≡ c
Spot c Before (PushForAll d) = d ≡ c
Spot c Undoing (CloseForAll d) = d ≡ c
Spot c Undoing (LowerForAll d) = d ≡ c
Spot c Calling (LockToWake k) = k.then ≡ Called
Spot c Calling (WakeWorker k) = k.then ≡ Called
Spot c Calling (UnlockWoken k) = k.then ≡ Called
Spot c Emptying (SetLatch k) = k.then ≡ Resume
Spot c Emptying (LockToSettle k) = k.then ≡ Resume
Spot c Emptying (WakeSettled k) = k.then ≡ Resume
Spot c Emptying (UnlockSettled k) = k.then ≡ Resume
Spot c Emptying (SetLockLatch n t) = t ≡ Resume
Spot c _ _ = ⊥

begin_spot : (c : Pieces) (k : Count) → Spot c Before (begin_cast k c)
begin_spot c (OfPool p) = refl
begin_spot c _ = refl

end_spot : (c d : Pieces) (k : Count) → d ≡ c → Spot c Undoing (end_cast k d)
end_spot c d (OfPool p) e = e
end_spot c d _ e = e

set_spot : (c : Pieces) (n : ℕ) (o : Party) → Spot c Emptying (set_call n o Resume)
set_spot c n (Worker a b) = refl
set_spot c n (Caller m) = refl

ends_spot : (c : Pieces) (k : Count) → Spot c Emptying (ends_count k)
ends_spot c (OfPool p) = refl
ends_spot c (OfScope n o) = set_spot c n o
ends_spot c (OfCast n o) = set_spot c n o

-- the count that a broadcast raises is that of its part
count_is : (w : World) (q : Party) (k : Count) (i t : ℕ) → count_in (part_of w (count_pool q k) i (count_call k) t) k ≡ count_of w k
count_is w q (OfPool p) i t = refl
count_is w q _ i t = refl

-- what has become of the pieces by then
abbrev AllOn : World → Pieces → Type 0
AllOn u c = (t : ℕ) → is_piece c t ≡ true → (is_left (u.job t).at ≡ true) × IsHandedOn u t

abbrev AllBack : World → Pieces → Type 0
AllBack u c = (t : ℕ) → is_piece c t ≡ true → (u.job t).at ≡ HandedBack

abbrev Sofar : World → Pieces → Stage → Type 0
Sofar u c Calling = AllOn u c
Sofar u c Emptying = AllBack u c
Sofar u c _ = ⊤

-- the pieces are jobs that were made, and detached
abbrev AllMade : World → Pieces → Type 0
AllMade u c = (t : ℕ) → is_piece c t ≡ true → (t + 1 ≤ u.jobs) × (is_detached (u.job t).kind ≡ true)

-- the broadcast goes on
record Inside (u : World) (q : Party) (s : Stack) (c : Pieces) (r : Bool) : Type 0 where
  stage : Stage
  top : Place
  is : u.stack q ≡ record { top = top; below = whole s }
  spot : Spot c stage top
  sofar : Sofar u c stage
  known : AllMade u c
  flag : is_undone stage ≡ r

-- the broadcast is over
record Over (u : World) (q : Party) (s : Stack) (c : Pieces) (r : Bool) : Type 0 where
  back : u.stack q ≡ s
  on : r ≡ false → AllOn u c
  backs : r ≡ true → AllBack u c

abbrev After : World → Party → Stack → Pieces → Bool → Type 0
After u q s c r = Inside u q s c r ⊎ Over u q s c r

-- what each step leaves of it
abbrev Keeps : World → Event → Party → Stack → Pieces → Bool → World → Type 0
Keeps w e q s c r u = step w e ≡ Some u → Ground u → Advance w u → After u q s c (r || is_cast_refusal q s w e)

made_on : (w u : World) (e : Event) → step w e ≡ Some u → (c : Pieces) → AllMade w c → AllMade u c
made_on w u e made c k t y =
    let f : Carries w u = (let g : IfSome (Some u) (λ v. Carries w v) = subst (λ o. IfSome o (λ v. Carries w v)) made (step_carries w e) in g) in
    ((f.made t ((k t y).0)).0, ap is_detached ((f.made t ((k t y).0)).1) ∙ (k t y).1)

on_kept : (w u : World) (e : Event) → step w e ≡ Some u → Ground w → Ground u → Advance w u → (c : Pieces) → AllMade w c → AllOn w c → AllOn u c
on_kept w u e made g h a c k o t y = (final_left ((w.job t).at) ((u.job t).at) (a.final t) ((o t y).0), handed_on w u e made (g.returns.shares) h.returns a t ((k t y).0) ((k t y).1) (left_untaken w (g.calls.jobs) t ((o t y).0)) ((o t y).1))

back_kept : (w u : World) → Advance w u → (c : Pieces) → AllBack w c → AllBack u c
back_kept w u a c o t y = subst (λ v. IsFinal v ((u.job t).at)) (o t y) (a.final t)

sofar_kept : (w u : World) (e : Event) → step w e ≡ Some u → Ground w → Ground u → Advance w u → (c : Pieces) → AllMade w c → (st : Stage) → Sofar w c st → Sofar u c st
sofar_kept w u e made g h a c k Calling o = on_kept w u e made g h a c k o
sofar_kept w u e made g h a c k Emptying o = back_kept w u a c o
sofar_kept w u e made g h a c k _ o = tt

-- another party's event
idle : (w u : World) (e : Event) (q : Party) (s : Stack) (c : Pieces) (r : Bool) → Ground w → Inside w q s c r → u.stack q ≡ w.stack q → is_cast_refusal q s w e ≡ false → Keeps w e q s c r u
idle w u e q s c r g i z f made h a = inl (record {
  stage = i.stage;
  top = i.top;
  is = z ∙ i.is;
  spot = i.spot;
  sofar = sofar_kept w u e made g h a c i.known i.stage i.sofar;
  known = made_on w u e made c i.known;
  flag = i.flag ∙ or_false r ∙ ap (λ v. r || v) (sym f);
})

-- the two stages in which the broadcast goes on by waking and settling alone
abbrev is_going : Stage → Bool
is_going Calling = true
is_going Emptying = true
is_going _ = false

abbrev Leads : Pieces → Stage → Move → Type 0
Leads c st (Stay y) = Spot c st y
Leads c st Back = ⊤
Leads c st _ = ⊥

called_leads : (c : Pieces) (g : PoolShape) (q : Party) (p n i : ℕ) (t : Then) → t ≡ Called → Leads c Calling (walk g q p n i t)
called_leads c g q p n i t e = subst (λ t. Leads c Calling (walk g q p n i t)) (sym e) (by (nat_lt 0 n && nat_lt i g.workers))
  where
    by : (b : Bool) → Leads c Calling (if b then Stay (LockToWake (record { pool = p; owed = n; worker = i; then = Called })) else Back)
    by true = refl
    by false = tt

set_leads : (c : Pieces) (g : PoolShape) (q : Party) (k : Setting) (l : Latch) → k.then ≡ Resume → Leads c Emptying (after_set g q k l)
set_leads c g q k (OfCall n) e = subst (λ t. Leads c Emptying (finish q t)) (sym e) tt
set_leads c g q k Terminate e = by (nat_lt (k.worker + 1) g.workers)
  where
    by : (b : Bool) → Leads c Emptying (if b then Stay (SetLatch (record { latch = Terminate; pool = k.pool; worker = k.worker + 1; then = k.then })) else finish q k.then)
    by true = e
    by false = subst (λ t. Leads c Emptying (finish q t)) (sym e) tt

leads : (c : Pieces) (g : PoolShape) (q : Party) (st : Stage) (x : Place) (e : Seen) → is_going st ≡ true → Spot c st x → Leads c st (next_of g q x e)
leads c g q Calling (LockToWake k) e y p = p
leads c g q Calling (WakeWorker k) Yes y p = p
leads c g q Calling (WakeWorker k) _ y p = p
leads c g q Calling (UnlockWoken k) e y p = called_leads c g q k.pool k.owed (k.worker + 1) k.then p
leads c g q Emptying (SetLatch k) Yes y p = p
leads c g q Emptying (SetLatch k) _ y p = set_leads c g q k k.latch p
leads c g q Emptying (LockToSettle k) e y p = p
leads c g q Emptying (WakeSettled k) e y p = p
leads c g q Emptying (UnlockSettled k) e y p = set_leads c g q k k.latch p
leads c g q Emptying (SetLockLatch n t) e y p = subst (λ t. Leads c Emptying (finish q t)) (sym p) tt
leads c g q Before x e y p = cc
leads c g q Undoing x e y p = cc
leads c g q st _ e y p = absurd p

calm : (w : World) (q : Party) (c : Pieces) (st : Stage) (x : Place) → is_going st ≡ true → Spot c st x → is_cast_refused w (act_of q x) ≡ false
calm w (Worker a b) c Calling (LockToWake k) y p = refl
calm w (Caller g) c Calling (LockToWake k) y p = refl
calm w (Worker a b) c Calling (WakeWorker k) y p = refl
calm w (Caller g) c Calling (WakeWorker k) y p = refl
calm w (Worker a b) c Calling (UnlockWoken k) y p = refl
calm w (Caller g) c Calling (UnlockWoken k) y p = refl
calm w (Worker a b) c Emptying (SetLatch k) y p = refl
calm w (Caller g) c Emptying (SetLatch k) y p = refl
calm w (Worker a b) c Emptying (LockToSettle k) y p = refl
calm w (Caller g) c Emptying (LockToSettle k) y p = refl
calm w (Worker a b) c Emptying (WakeSettled k) y p = refl
calm w (Caller g) c Emptying (WakeSettled k) y p = refl
calm w (Worker a b) c Emptying (UnlockSettled k) y p = refl
calm w (Caller g) c Emptying (UnlockSettled k) y p = refl
calm w (Worker a b) c Emptying (SetLockLatch n t) y p = refl
calm w (Caller g) c Emptying (SetLockLatch n t) y p = refl
calm w q c Before x y p = cc
calm w q c Undoing x y p = cc
calm w q c st _ y p = absurd p

-- its own act is refused or not
own_flag : (w : World) (q : Party) (s : Stack) (x : Place) (b : Bool) → w.stack q ≡ record { top = x; below = whole s } → is_cast_refused w (act_of q x) ≡ b → is_cast_refusal q s w (Go q) ≡ b
own_flag w q s x b z e = let a : same_party q q ≡ true = same_party_refl q in let d : is_at_call s (w.stack q) ≡ true = at_call_yes s (w.stack q) (ap (λ v. v.below) z) in rw a (rw d (ap (λ v. is_cast_refused w (act_of q v.top)) z ∙ e))

landed : (u : World) (q : Party) (s : Stack) (c : Pieces) (st : Stage) (m : Move) → Leads c st m → u.stack q ≡ after_move m (whole s) → Sofar u c st → AllMade u c → is_going st ≡ true → After u q s c (is_undone st)
landed u q s c st (Stay y) l z o k g = inl (record { stage = st; top = y; is = z; spot = l; sofar = o; known = k; flag = refl })
landed u q s c Calling Back l z o k g = inr (record { back = z; on = λ e. o; backs = λ e. cc })
landed u q s c Emptying Back l z o k g = inr (record { back = z; on = λ e. cc; backs = λ e. o })
landed u q s c Before Back l z o k g = cc
landed u q s c Undoing Back l z o k g = cc
landed u q s c st _ l z o k g = absurd l

going_act : (w : World) (q : Party) (s : Stack) (c : Pieces) (r : Bool) (st : Stage) (x : Place) → w.stack q ≡ record { top = x; below = whole s } → Ground w → is_going st ≡ true → Spot c st x → Sofar w c st → AllMade w c → is_undone st ≡ r → (v : Seen × Part)
    → Keeps w (Go q) q s c r (world_after w q x (whole s) v)
going_act w q s c r st x z g y p o k f v made h a =
    let m : Move = next_of (w.shape.pool (target_pool q (act_of q x))) q x (v.0) in
    let u : World = world_after w q x (whole s) v in
    subst (λ b. After u q s c b) (f ∙ or_false r ∙ ap (λ b. r || b) (sym (own_flag w q s x false z (calm w q c st x y p))))
    (landed u q s c st m (leads c (w.shape.pool (target_pool q (act_of q x))) q st x (v.0) y p) (stack_mine w.stack q (after_move m (whole s))) (sofar_kept w u (Go q) made g h a c k st o) (made_on w u (Go q) made c k) y)

all_with : (P : Seen × Part → Type 0) (none done : Seen × Part) (b : Bool) → (b ≡ true → P none) → (b ≡ false → P done) → IfSome (if b then Some none else Some done) P
all_with P none done true x y = x refl
all_with P none done false x y = y refl

marked_back : (J : ℕ → Job) (c : Pieces) (t : ℕ) → is_piece c t ≡ true → (mark_pieces c Returned J t).at ≡ HandedBack
marked_back J c t e = ap (λ j. j.at) (piece_new c (marked Returned c.pool) J t e)

raise_none : (w : World) (q : Party) (s : Stack) (c : Pieces) → w.stack q ≡ record { top = RaiseForAll c; below = whole s } → is_cast_refused w (act_of q (RaiseForAll c)) ≡ true → (u : World) → u.stack q ≡ s → ((t : ℕ) → u.job t ≡ mark_pieces c Returned (put w.job 0 (w.job 0)) t)
    → Keeps w (Go q) q s c false u
raise_none w q s c z e u b j made h a = subst (λ f. After u q s c f) (sym (own_flag w q s (RaiseForAll c) true z e)) (inr (record { back = b; on = λ d. cc; backs = λ d t y. ap (λ v. v.at) (j t) ∙ marked_back (put w.job 0 (w.job 0)) c t y }))

raise_done : (w : World) (q : Party) (s : Stack) (c : Pieces) → w.stack q ≡ record { top = RaiseForAll c; below = whole s } → is_cast_refused w (act_of q (RaiseForAll c)) ≡ false → AllMade w c → (u : World) → u.stack q ≡ record { top = begin_cast c.count c; below = whole s }
    → Keeps w (Go q) q s c false u
raise_done w q s c z e k u b made h a = subst (λ f. After u q s c f) (sym (own_flag w q s (RaiseForAll c) false z e)) (inl (record { stage = Before; top = begin_cast c.count c; is = b; spot = begin_spot c c.count; sofar = tt; known = made_on w u (Go q) made c k; flag = refl }))

-- the numbers of a book are opened, and are taken back
open_done : (w : World) (q : Party) (s : Stack) (c : Pieces) → w.stack q ≡ record { top = OpenForAll c; below = whole s } → is_cast_refused w (act_of q (OpenForAll c)) ≡ false → AllMade w c → (u : World) → u.stack q ≡ record { top = PushForAll c; below = whole s } → Keeps w (Go q) q s c false u
open_done w q s c z e k u b made h a = subst (λ f. After u q s c f) (sym (own_flag w q s (OpenForAll c) false z e)) (inl (record { stage = Before; top = PushForAll c; is = b; spot = refl; sofar = tt; known = made_on w u (Go q) made c k; flag = refl }))

close_done : (w : World) (q : Party) (s : Stack) (c : Pieces) (r : Bool) → r ≡ true → AllMade w c → (u : World) → u.stack q ≡ record { top = LowerForAll c; below = whole s } → Keeps w (Go q) q s c r u
close_done w q s c r f k u b made h a = subst (λ v. After u q s c (v || is_cast_refusal q s w (Go q))) (sym f) (inl (record { stage = Undoing; top = LowerForAll c; is = b; spot = refl; sofar = tt; known = made_on w u (Go q) made c k; flag = refl }))

push_done : (w : World) (q : Party) (s : Stack) (c : Pieces) → w.stack q ≡ record { top = PushForAll c; below = whole s } → is_cast_refused w (act_of q (PushForAll c)) ≡ false → AllMade w c → (n n0 : ℕ) (j0 : Job) (u : World)
    → u.stack q ≡ record { top = LockToWake (record { pool = c.pool; owed = n; worker = 0; then = Called }); below = whole s } → ((t : ℕ) → u.job t ≡ mark_pieces c Queued (put w.job n0 j0) t) → Keeps w (Go q) q s c false u
push_done w q s c z e k n n0 j0 u b j made h a = subst (λ f. After u q s c f) (sym (own_flag w q s (PushForAll c) false z e))
    (inl (record { stage = Calling; top = LockToWake (record { pool = c.pool; owed = n; worker = 0; then = Called }); is = b; spot = refl; sofar = on; known = made_on w u (Go q) made c k; flag = refl }))
  where
    on : AllOn u c
    on t y = let i : u.job t ≡ marked Queued c.pool (t - c.first) (put w.job n0 j0 t) = j t ∙ piece_new c (marked Queued c.pool) (put w.job n0 j0) t y in (ap (λ v. is_left (v.at)) i, subst (λ v. (is_queued v.at || (is_running v.at || is_done v.at)) ≡ true) (sym i) refl)

lower_on : (w : World) (q : Party) (s : Stack) (c : Pieces) (r : Bool) → r ≡ true → AllMade w c → (g : PoolShape) (e : Seen) (u : World) → u.stack q ≡ after_move (next_of g q (LowerForAll c) e) (whole s)
    → ((t : ℕ) → u.job t ≡ jobs_after q (next_of g q (LowerForAll c) e) (put w.job 0 (w.job 0)) t) → Keeps w (Go q) q s c r u
lower_on w q s c r f k g e u b j made h a = subst (λ v. After u q s c (v || is_cast_refusal q s w (Go q))) (sym f) (by e b j)
  where
    by : (e : Seen) → u.stack q ≡ after_move (next_of g q (LowerForAll c) e) (whole s) → ((t : ℕ) → u.job t ≡ jobs_after q (next_of g q (LowerForAll c) e) (put w.job 0 (w.job 0)) t) → After u q s c true
    by Yes b j = inl (record { stage = Emptying; top = ends_count c.count; is = b; spot = ends_spot c c.count; sofar = λ t y. ap (λ v. v.at) (j t) ∙ marked_back (put w.job 0 (w.job 0)) c t y; known = made_on w u (Go q) made c k; flag = refl })
    by _ b j = inr (record { back = b; on = λ d. cc; backs = λ d t y. ap (λ v. v.at) (j t) ∙ marked_back (put w.job 0 (w.job 0)) c t y })

abbrev Keepers : World → Party → Stack → Pieces → Bool → Place → Seen × Part → Type 0
Keepers w q s c r x v = Keeps w (Go q) q s c r (world_after w q x (whole s) v)

-- an act on a book is done, or not enabled
book_done : (w : World) (q : Party) (s : Stack) (c : Pieces) (r : Bool) (x : Place) (b : Bool) (v : Seen × Part) → Keepers w q s c r x v → IfSome (if b then Some v else None) (Keepers w q s c r x)
book_done w q s c r x b v k = if_cond (Keepers w q s c r x) b v (λ z. k)

own_act : (w : World) (q : Party) (s : Stack) (c : Pieces) (r : Bool) (st : Stage) (x : Place) → w.stack q ≡ record { top = x; below = whole s } → Ground w → Spot c st x → Sofar w c st → AllMade w c → is_undone st ≡ r → IfSome (outcome w q (record { top = x; below = whole s })) (Keepers w q s c r x)
own_act w q s c r Before (RaiseForAll d) z g p o k f = subst (λ b. IfSome (outcome w q (record { top = RaiseForAll d; below = whole s })) (Keepers w q s c b (RaiseForAll d))) f
    (subst (λ c. AllMade w c → IfSome (outcome w q (record { top = RaiseForAll d; below = whole s })) (Keepers w q s c false (RaiseForAll d))) p (raised q z) k)
  where
    raised : (q : Party) → w.stack q ≡ record { top = RaiseForAll d; below = whole s } → AllMade w d → IfSome (outcome w q (record { top = RaiseForAll d; below = whole s })) (Keepers w q s d false (RaiseForAll d))
    raised (Worker a b) z k = all_with (Keepers w (Worker a b) s d false (RaiseForAll d)) (Refused, place_part w (Worker a b) (RaiseForAll d)) _ (count_in (place_part w (Worker a b) (RaiseForAll d)) d.count == 0)
        (λ e. raise_none w (Worker a b) s d z (ap (λ n. n == 0) (sym (count_is w (Worker a b) d.count b 0)) ∙ e) (world_after w (Worker a b) (RaiseForAll d) (whole s) (Refused, place_part w (Worker a b) (RaiseForAll d))) (stack_mine w.stack (Worker a b) s) (λ t. refl))
        (λ e. raise_done w (Worker a b) s d z (ap (λ n. n == 0) (sym (count_is w (Worker a b) d.count b 0)) ∙ e) k _ (stack_mine w.stack (Worker a b) (record { top = begin_cast d.count d; below = whole s })))
    raised (Caller n) z k = all_with (Keepers w (Caller n) s d false (RaiseForAll d)) (Refused, place_part w (Caller n) (RaiseForAll d)) _ (count_in (place_part w (Caller n) (RaiseForAll d)) d.count == 0)
        (λ e. raise_none w (Caller n) s d z (ap (λ n. n == 0) (sym (count_is w (Caller n) d.count 0 0)) ∙ e) (world_after w (Caller n) (RaiseForAll d) (whole s) (Refused, place_part w (Caller n) (RaiseForAll d))) (stack_mine w.stack (Caller n) s) (λ t. refl))
        (λ e. raise_done w (Caller n) s d z (ap (λ n. n == 0) (sym (count_is w (Caller n) d.count 0 0)) ∙ e) k _ (stack_mine w.stack (Caller n) (record { top = begin_cast d.count d; below = whole s })))
own_act w q s c r Before (OpenForAll d) z g p o k f = subst (λ b. IfSome (outcome w q (record { top = OpenForAll d; below = whole s })) (Keepers w q s c b (OpenForAll d))) f
    (subst (λ c. AllMade w c → IfSome (outcome w q (record { top = OpenForAll d; below = whole s })) (Keepers w q s c false (OpenForAll d))) p (opened q z) k)
  where
    opened : (q : Party) → w.stack q ≡ record { top = OpenForAll d; below = whole s } → AllMade w d → IfSome (outcome w q (record { top = OpenForAll d; below = whole s })) (Keepers w q s d false (OpenForAll d))
    opened (Worker a b) z k = book_done w (Worker a b) s d false (OpenForAll d) (is_open (Worker a b) ((w.call (count_call d.count)).writer)) _ (open_done w (Worker a b) s d z refl k _ (stack_mine w.stack (Worker a b) (record { top = PushForAll d; below = whole s })))
    opened (Caller n) z k = book_done w (Caller n) s d false (OpenForAll d) (is_open (Caller n) ((w.call (count_call d.count)).writer)) _ (open_done w (Caller n) s d z refl k _ (stack_mine w.stack (Caller n) (record { top = PushForAll d; below = whole s })))
own_act w q s c r Before (PushForAll d) z g p o k f = subst (λ b. IfSome (outcome w q (record { top = PushForAll d; below = whole s })) (Keepers w q s c b (PushForAll d))) f
    (subst (λ c. AllMade w c → IfSome (outcome w q (record { top = PushForAll d; below = whole s })) (Keepers w q s c false (PushForAll d))) p (pushed q z) k)
  where
    pushed : (q : Party) → w.stack q ≡ record { top = PushForAll d; below = whole s } → AllMade w d → IfSome (outcome w q (record { top = PushForAll d; below = whole s })) (Keepers w q s d false (PushForAll d))
    pushed (Worker a b) z k = push_done w (Worker a b) s d z refl k (w.shape.pool d.pool).workers 0 (w.job 0) _ (stack_mine w.stack (Worker a b) _) (λ t. refl)
    pushed (Caller n) z k = push_done w (Caller n) s d z refl k (w.shape.pool d.pool).workers 0 (w.job 0) _ (stack_mine w.stack (Caller n) _) (λ t. refl)
own_act w q s c r Undoing (CloseForAll d) z g p o k f = subst (λ c. AllMade w c → IfSome (outcome w q (record { top = CloseForAll d; below = whole s })) (Keepers w q s c r (CloseForAll d))) p (closed q z) k
  where
    closed : (q : Party) → w.stack q ≡ record { top = CloseForAll d; below = whole s } → AllMade w d → IfSome (outcome w q (record { top = CloseForAll d; below = whole s })) (Keepers w q s d r (CloseForAll d))
    closed (Worker a b) z k = book_done w (Worker a b) s d r (CloseForAll d) (is_open (Worker a b) ((w.call (count_call d.count)).writer)) _ (close_done w (Worker a b) s d r (sym f) k _ (stack_mine w.stack (Worker a b) (record { top = LowerForAll d; below = whole s })))
    closed (Caller n) z k = book_done w (Caller n) s d r (CloseForAll d) (is_open (Caller n) ((w.call (count_call d.count)).writer)) _ (close_done w (Caller n) s d r (sym f) k _ (stack_mine w.stack (Caller n) (record { top = LowerForAll d; below = whole s })))
own_act w q s c r Undoing (LowerForAll d) z g p o k f = subst (λ c. AllMade w c → IfSome (outcome w q (record { top = LowerForAll d; below = whole s })) (Keepers w q s c r (LowerForAll d))) p (lowered q z) k
  where
    lowered : (q : Party) → w.stack q ≡ record { top = LowerForAll d; below = whole s } → AllMade w d → IfSome (outcome w q (record { top = LowerForAll d; below = whole s })) (Keepers w q s d r (LowerForAll d))
    lowered (Worker a b) z k = lower_on w (Worker a b) s d r (sym f) k (w.shape.pool (count_pool (Worker a b) d.count)) (if count_in (place_part w (Worker a b) (LowerForAll d)) d.count == d.workers then Yes else No) _ (stack_mine w.stack (Worker a b) _) (λ t. refl)
    lowered (Caller n) z k = lower_on w (Caller n) s d r (sym f) k (w.shape.pool (count_pool (Caller n) d.count)) (if count_in (place_part w (Caller n) (LowerForAll d)) d.count == d.workers then Yes else No) _ (stack_mine w.stack (Caller n) _) (λ t. refl)
own_act w q s c r Calling x z g p o k f = if_some_all (Keepers w q s c r x) (going_act w q s c r Calling x z g refl p o k f) (outcome w q (record { top = x; below = whole s }))
own_act w q s c r Emptying x z g p o k f = if_some_all (Keepers w q s c r x) (going_act w q s c r Emptying x z g refl p o k f) (outcome w q (record { top = x; below = whole s }))
own_act w q s c r st _ z g p o k f = absurd p

-- a refusal: of the push of the pieces, or of the opening of their numbers
refused_on : (w : World) (q : Party) (s : Stack) (c : Pieces) (r : Bool) (x y : Place) (fs : List Place) → w.stack q ≡ record { top = x; below = fs } → fs ≡ whole s → Spot c Undoing y → AllMade w c → Keeps w (Refuse q) q s c r (with_stack w q (record { top = y; below = fs }))
refused_on w q s c r x y fs z e p k made h a = subst (λ b. After (with_stack w q (record { top = y; below = fs })) q s c b)
    (or_true r ∙ ap (λ v. r || v) (sym (let b : same_party q q ≡ true = same_party_refl q in let d : is_at_call s (w.stack q) ≡ true = at_call_yes s (w.stack q) (ap (λ v. v.below) z ∙ e) in rw b d)))
    (inl (record { stage = Undoing; top = y; is = stack_mine w.stack q (record { top = y; below = fs }) ∙ ap (λ l. record { top = y; below = l }) e; spot = p; sofar = tt; known = made_on w (with_stack w q (record { top = y; below = fs })) (Refuse q) made c k; flag = refl }))

refuse_act : (w : World) (q : Party) (s : Stack) (c : Pieces) (r : Bool) (st : Stage) (x : Place) (fs : List Place) → w.stack q ≡ record { top = x; below = fs } → fs ≡ whole s → Spot c st x → AllMade w c → IfSome (after_refusal w q (record { top = x; below = fs })) (Keeps w (Refuse q) q s c r)
refuse_act w q s c r Before (PushForAll d) fs z e p k = refused_on w q s c r (PushForAll d) (end_cast d.count d) fs z e (end_spot c d d.count p) k
refuse_act w q s c r Before (OpenForAll d) fs z e p k = refused_on w q s c r (OpenForAll d) (LowerForAll d) fs z e p k
refuse_act w q s c r Before (RaiseForAll d) fs z e p k = tt
refuse_act w q s c r Undoing (CloseForAll d) fs z e p k = tt
refuse_act w q s c r Undoing (LowerForAll d) fs z e p k = tt
refuse_act w q s c r Calling (LockToWake d) fs z e p k = tt
refuse_act w q s c r Calling (WakeWorker d) fs z e p k = tt
refuse_act w q s c r Calling (UnlockWoken d) fs z e p k = tt
refuse_act w q s c r Emptying (SetLatch d) fs z e p k = tt
refuse_act w q s c r Emptying (LockToSettle d) fs z e p k = tt
refuse_act w q s c r Emptying (WakeSettled d) fs z e p k = tt
refuse_act w q s c r Emptying (UnlockSettled d) fs z e p k = tt
refuse_act w q s c r Emptying (SetLockLatch d t) fs z e p k = tt
refuse_act w q s c r st _ fs z e p k = absurd p

-- where a broadcast stands no other event of its party is possible
abbrev is_spot : Place → Bool
is_spot (RaiseForAll c) = true
is_spot (PushForAll c) = true
is_spot (LowerForAll c) = true
is_spot (OpenForAll c) = true
is_spot (CloseForAll c) = true
is_spot (SetLockLatch n t) = true
is_spot (LockToWake k) = true
is_spot (WakeWorker k) = true
is_spot (UnlockWoken k) = true
is_spot (SetLatch k) = true
is_spot (LockToSettle k) = true
is_spot (WakeSettled k) = true
is_spot (UnlockSettled k) = true
is_spot _ = false

spot_is : (c : Pieces) (st : Stage) (x : Place) → Spot c st x → is_spot x ≡ true
spot_is c Before (RaiseForAll d) p = refl
spot_is c Before (PushForAll d) p = refl
spot_is c Before (OpenForAll d) p = refl
spot_is c Undoing (CloseForAll d) p = refl
spot_is c Undoing (LowerForAll d) p = refl
spot_is c Calling (LockToWake d) p = refl
spot_is c Calling (WakeWorker d) p = refl
spot_is c Calling (UnlockWoken d) p = refl
spot_is c Emptying (SetLatch d) p = refl
spot_is c Emptying (LockToSettle d) p = refl
spot_is c Emptying (WakeSettled d) p = refl
spot_is c Emptying (UnlockSettled d) p = refl
spot_is c Emptying (SetLockLatch n t) p = refl
spot_is c st _ p = absurd p

not_free : (x : Place) → is_spot x ≡ true → is_free x ≡ true → ⊥
not_free (Run t k) y e = cc
not_free _ y e = cc

from_none : (P : World → Type 0) (w : World) (q : Party) (k : Stack) (x : Place) (v : ℕ) → is_spot x ≡ true → IfSome (after_choice w q k x v) P
from_none P w q k (PickVictim c) v y = cc
from_none P w q k YieldPick v y = cc
from_none P w q k _ v y = tt

miss_none : (P : World → Type 0) (w : World) (q : Party) (k : Stack) (x : Place) → is_spot x ≡ true → IfSome (after_miss w q k x) P
miss_none P w (Worker a b) k (StealFrom c n) y = cc
miss_none P w (Worker a b) k (YieldSteal v n) y = cc
miss_none P w _ k _ y = tt

end_none : (P : World → Type 0) (w : World) (q : Party) (d : Ending) (k : Stack) (x : Place) → is_spot x ≡ true → IfSome (after_end w q d k x) P
end_none P w q d k (Run t j) y = cc
end_none P w q d k _ y = tt

gate : (P : World → Type 0) (w u : World) (x : Place) (b : Bool) → (is_free x ≡ true → ⊥) → IfSome (if is_free x && b then Some u else None) P
gate P w u x b n = if_cond P (is_free x && b) u (λ e. absurd (n ((and_parts (is_free x) b e).0)))

fifo_none : (P : World → Type 0) (w : World) (q : Party) (p : ℕ) → (is_free ((w.stack q).top) ≡ true → ⊥) → IfSome (step w (Fifo q p)) P
fifo_none P w (Caller c) p n = gate P w _ ((w.stack (Caller c)).top) (is_pool w.shape p) n
fifo_none P w (Worker r i) p n = by (r == p)
  where
    by : (z : Bool) → IfSome (if z then (if is_free ((w.stack (Worker r i)).top) && is_pool w.shape p then Some (after_feed w (OfPool p) p i (w.stack (Worker r i))) else None) else after_spawn w (Worker r i) p (w.stack (Worker r i))) P
    by true = gate P w _ ((w.stack (Worker r i)).top) (is_pool w.shape p) n
    by false = gate P w _ ((w.stack (Worker r i)).top) (is_pool w.shape p) n

join_none : (P : World → Type 0) (w : World) (q : Party) → (is_free ((w.stack q).top) ≡ true → ⊥) → IfSome (step w (Join q)) P
join_none P w (Worker a b) n = if_cond P (is_free ((w.stack (Worker a b)).top)) _ (λ e. absurd (n e))
join_none P w (Caller c) n = tt

yield_none : (P : World → Type 0) (w : World) (q : Party) (x : Place) → (is_free ((w.stack q).top) ≡ true → ⊥) → IfSome (after_yield w q (w.stack q) x) P
yield_none P w (Worker a b) x n = if_cond P (is_free ((w.stack (Worker a b)).top)) _ (λ e. absurd (n e))
yield_none P w (Caller c) x n = tt

into_none : (P : World → Type 0) (w : World) (q : Party) (n : ℕ) → (is_free ((w.stack q).top) ≡ true → ⊥) → IfSome (after_into w q n (w.stack q)) P
into_none P w q n f = into_cases P w q n (λ z e free held. absurd (f free))

enter_none : (P : World → Type 0) (w : World) (q : Party) (z : Scope) → (is_free ((w.stack q).top) ≡ true → ⊥) → IfSome (after_enter w q (w.stack q) (Some z)) P
enter_none P w q z n = gate P w _ ((w.stack q).top) (holds z.call (w.stack q)) n

into_fifo_none : (P : World → Type 0) (w : World) (q : Party) (n : ℕ) → (is_free ((w.stack q).top) ≡ true → ⊥) → IfSome (after_into_fifo w q n (w.stack q)) P
into_fifo_none P w q n f = by q (slice_get w.scopes n) f
  where
    mine : (r i : ℕ) (z : Scope) → (is_free ((w.stack (Worker r i)).top) ≡ true → ⊥) → (b : Bool)
        → IfSome (if b then (if is_free ((w.stack (Worker r i)).top) && holds z.call (w.stack (Worker r i)) then Some (after_feed w (OfScope z.call z.owner) z.pool i (w.stack (Worker r i))) else None) else after_enter w (Worker r i) (w.stack (Worker r i)) (Some z)) P
    mine r i z f true = gate P w _ ((w.stack (Worker r i)).top) (holds z.call (w.stack (Worker r i))) f
    mine r i z f false = enter_none P w (Worker r i) z f

    by : (q : Party) (o : Option Scope) → (is_free ((w.stack q).top) ≡ true → ⊥) → IfSome (after_enter_fifo w q (w.stack q) o) P
    by q None f = tt
    by (Caller c) (Some z) f = enter_none P w (Caller c) z f
    by (Worker r i) (Some z) f = mine r i z f (r == z.pool)

into_cast_none : (P : World → Type 0) (w : World) (q : Party) (n : ℕ) → (is_free ((w.stack q).top) ≡ true → ⊥) → IfSome (after_into_cast w q n (w.stack q)) P
into_cast_none P w q n f = into_cast_cases P w q n (λ z e free held. absurd (f free))

-- no other event of a party that stands so is possible
abbrev is_acting : Event → Bool
is_acting (Go q) = true
is_acting (Refuse q) = true
is_acting _ = false

other_none : (P : World → Type 0) (w : World) (e : Event) → is_acting e ≡ false → is_spot ((w.stack (mover e)).top) ≡ true → IfSome (step w e) P
other_none P w (From q v) z y = from_none P w q (w.stack q) ((w.stack q).top) v y
other_none P w (Miss q) z y = miss_none P w q (w.stack q) ((w.stack q).top) y
other_none P w (End q d) z y = end_none P w q d (w.stack q) ((w.stack q).top) y
other_none P w (Spawn q p) z y = gate P w _ ((w.stack q).top) (is_pool w.shape p) (not_free ((w.stack q).top) y)
other_none P w (Fifo q p) z y = fifo_none P w q p (not_free ((w.stack q).top) y)
other_none P w (Cast q p) z y = gate P w _ ((w.stack q).top) (is_pool w.shape p) (not_free ((w.stack q).top) y)
other_none P w (OpenScope q p) z y = gate P w _ ((w.stack q).top) (is_pool w.shape p) (not_free ((w.stack q).top) y)
other_none P w (IntoSpawn q n) z y = into_none P w q n (not_free ((w.stack q).top) y)
other_none P w (IntoFifo q n) z y = into_fifo_none P w q n (not_free ((w.stack q).top) y)
other_none P w (IntoCast q n) z y = into_cast_none P w q n (not_free ((w.stack q).top) y)
other_none P w (Broadcast q p) z y = gate P w _ ((w.stack q).top) (is_pool w.shape p) (not_free ((w.stack q).top) y)
other_none P w (Install q p) z y = gate P w _ ((w.stack q).top) (is_pool w.shape p) (not_free ((w.stack q).top) y)
other_none P w (Join q) z y = join_none P w q (not_free ((w.stack q).top) y)
other_none P w (Yield q) z y = yield_none P w q YieldPop (not_free ((w.stack q).top) y)
other_none P w (YieldLocal q) z y = yield_none P w q LocalPop (not_free ((w.stack q).top) y)
other_none P w (EndPool q p) z y = gate P w _ ((w.stack q).top) (is_pool w.shape p && (w.pool p).held) (not_free ((w.stack q).top) y)
other_none P w _ z y = cc

-- the party's own events
own_event : (w : World) (e : Event) (s : Stack) (c : Pieces) (r : Bool) → Ground w → Inside w (mover e) s c r → IfSome (step w e) (Keeps w e (mover e) s c r)
own_event w (Go q) s c r g i = go_all (Keeps w (Go q) q s c r) w q (subst (λ k. IfSome (outcome w q k) (λ v. Keeps w (Go q) q s c r (result w q k v))) (sym i.is) (own_act w q s c r i.stage i.top i.is g i.spot i.sofar i.known i.flag))
own_event w (Refuse q) s c r g i = subst (λ k. IfSome (after_refusal w q k) (Keeps w (Refuse q) q s c r)) (sym i.is) (refuse_act w q s c r i.stage i.top (whole s) i.is refl i.spot i.known)
own_event w e s c r g i = other_none (Keeps w e (mover e) s c r) w e refl (ap (λ k. is_spot (k.top)) i.is ∙ spot_is c i.stage i.top i.spot)

-- other parties' events
quiet : (w : World) (q : Party) (s : Stack) (e : Event) → same_party q (mover e) ≡ false → is_cast_refusal q s w e ≡ false
quiet w q s (Go r) d = ap (λ b. b && (is_at_call s (w.stack q) && is_cast_refused w (act_of q (w.stack q).top))) d
quiet w q s (Refuse r) d = ap (λ b. b && is_at_call s (w.stack q)) d
quiet w q s _ d = refl

apart : (w : World) (e : Event) (q : Party) → same_party q (mover e) ≡ false → (b : Bool) → is_act e ≡ b → IfSome (step w e) (λ u. u.stack q ≡ w.stack q)
apart w e q d false z = if_some_map (λ u. Turned w u (mover e) e) (λ u. u.stack q ≡ w.stack q) (λ u m. m.stack q ∙ stack_other w.stack (mover e) m.to q d) (step w e) (turns w e z)
apart w (Go r) q d true z = go_all (λ u. u.stack q ≡ w.stack q) w r
    (if_some_all {A = Seen × Part} (λ v. (result w r (w.stack r) v).stack q ≡ w.stack q) (λ v. stack_other w.stack r (after_move (next_of (w.shape.pool (target_pool r (act_of r ((w.stack r).top)))) r ((w.stack r).top) (v.0)) ((w.stack r).below)) q d) (outcome w r (w.stack r)))
apart w _ q d true z = cc

step_keeps : (w : World) (e : Event) (q : Party) (s : Stack) (c : Pieces) (r : Bool) → Ground w → Inside w q s c r → IfSome (step w e) (Keeps w e q s c r)
step_keeps w e q s c r g i = by (same_party q (mover e)) refl
  where
    by : (b : Bool) → same_party q (mover e) ≡ b → IfSome (step w e) (Keeps w e q s c r)
    by true y = subst (λ p. Inside w p s c r → IfSome (step w e) (Keeps w e p s c r)) (sym (same_party_true q (mover e) y)) (own_event w e s c r g) i
    by false y = if_some_map (λ u. u.stack q ≡ w.stack q) (Keeps w e q s c r) (λ u z. idle w u e q s c r g i z (quiet w q s e y)) (step w e) (apart w e q y (is_act e) refl)

-- from the event to any world up to its end
stretch : (h : Shape) (before : List Event) (w : World) (q : Party) (s : Stack) (c : Pieces) (u : World) (es : List Event) (r : Bool) → IsRun (start h) before w → Inside w q s c r → IsRunUntil q s w es u → After u q s c (r || is_any (is_cast_refusal q s) (Some w) es)
stretch h before w q s c u [] r run i same = subst (λ v. After v q s c (r || false)) (sym same) (subst (λ b. After w q s c b) (or_false r) (inl i))
stretch h before w q s c u (e ∷ es) r run i (v, opened, one, rest) =
    let next : IsRun (start h) (before ++ (e ∷ [])) v = run_more (start h) w v before e run one in
    let d : Ground w = ground_of h before w run in
    let adv : Advance w v = (let f : IfSome (Some v) (Advance w) = subst (λ o. IfSome o (Advance w)) one (step_advance w e (unqueued w d.calls) ((d.calls.jobs).feeds) ((d.calls.jobs).ok) ((d.calls.jobs).unmade)) in f) in
    let st : Keeps w e q s c r v = (let f : IfSome (Some v) (Keeps w e q s c r) = subst (λ o. IfSome o (Keeps w e q s c r)) one (step_keeps w e q s c r d i) in f) in
    let b : Bool = is_cast_refusal q s w e in
    elim (st one (ground_of h (before ++ (e ∷ [])) v next) adv) [
      | inl k ↦ subst (λ d. After u q s c d) (or_assoc r b (is_any (is_cast_refusal q s) (Some v) es) ∙ ap (λ o. r || (b || is_any (is_cast_refusal q s) o es)) (sym one)) (stretch h (before ++ (e ∷ [])) v q s c u es (r || b) next k rest)
      | inr k ↦ over v b k one es rest
    ]
  where
    over : (v : World) (b : Bool) → Over v q s c (r || b) → step w e ≡ Some v → (es : List Event) → IsRunUntil q s v es u → After u q s c (r || (b || is_any (is_cast_refusal q s) (step w e) es))
    over v b k one [] same = subst (λ x. After x q s c (r || (b || is_any (is_cast_refusal q s) (step w e) []))) (sym same) (subst (λ d. After v q s c d) (ap (λ d. r || d) (or_false b) ∙ ap (λ o. r || (b || is_any (is_cast_refusal q s) o [])) (sym one)) (inr k))
    over v b k one (a ∷ gs) (x, still, two, rest) = absurd (still k.back)

-- its event
record Begun (w v : World) (q : Party) (e : Event) : Type 0 where
  pieces : Pieces
  made : v.jobs ≡ w.jobs + (w.shape.pool (cast_pool w e)).workers
  inside : Inside v q (w.stack q) pieces false
  mine : (t : ℕ) → w.jobs ≤ t → t < v.jobs → is_piece pieces t ≡ true
  bound : (t : ℕ) → w.jobs ≤ t → t < v.jobs → (v.job t).bound ≡ Some (t - w.jobs)
  pushes : PushCast pieces ∷ [] ≡ belongs w e
  fresh : inside.stage ≡ Before

deal_begun : (w : World) (q : Party) (k : Count) (p : ℕ) (e : Event) → cast_pool w e ≡ p → cast_once w k p ≡ belongs w e → Begun w (after_deal w q k p (w.stack q)) q e
deal_begun w q k p e i d = record {
  pieces = c;
  made = ap (λ n. w.jobs + (w.shape.pool n).workers) (sym i);
  inside = record { stage = Before; top = RaiseForAll c; is = stack_mine w.stack q (after_call (w.stack q) (RaiseForAll c)); spot = refl; sofar = tt; known = known; flag = refl };
  mine = λ t l m. piece_in c t l m;
  bound = λ t l m. ap (λ j. j.bound) (piece_new c (λ i j. new_piece q k p i) w.job t (piece_in c t l m));
  pushes = d;
  fresh = refl;
}
  where
    c : Pieces
    c = record { count = k; pool = p; first = w.jobs; workers = (w.shape.pool p).workers }

    known : (t : ℕ) → is_piece c t ≡ true → (t + 1 ≤ w.jobs + c.workers) × (is_detached (put_pieces c (λ i j. new_piece q k p i) w.job t).kind ≡ true)
    known t e = let a : (c.first ≤ t) × (t < c.first + c.workers) = piece_range c t e in let b : t < c.first + c.workers = a.1 in ((let g : t + 1 ≤ w.jobs + c.workers = omega (arith, b) in g), ap (λ j. is_detached (j.kind)) (piece_new c (λ i j. new_piece q k p i) w.job t e) ∙ counts_detached k)

cast_begun : (w : World) (q : Party) (p : ℕ) → IfSome (after_cast w q p (w.stack q)) (λ v. Begun w v q (Cast q p))
cast_begun w q p = if_cond (λ v. Begun w v q (Cast q p)) (is_free ((w.stack q).top) && is_pool w.shape p) _ (λ b. deal_begun w q (OfPool p) p (Cast q p) refl refl)

into_begun : (w : World) (q : Party) (n : ℕ) → IfSome (after_into_cast w q n (w.stack q)) (λ v. Begun w v q (IntoCast q n))
into_begun w q n = into_cast_cases (λ v. Begun w v q (IntoCast q n)) w q n (λ z e free held. deal_begun w q (OfScope z.call z.owner) z.pool (IntoCast q n) (ap scope_pool e) (ap (λ o. cast_once w (scope_count o) (scope_pool o)) (sym e)))

some_party : {q r : Party} → Some q ≡ Some r → q ≡ r
some_party e = cc

begun_by : (w : World) (q : Party) (e : Event) → caster_of e ≡ Some q → IfSome (step w e) (λ v. Begun w v q e)
begun_by w q (Cast r p) z = subst (λ x. IfSome (step w (Cast r p)) (λ v. Begun w v x (Cast r p))) (some_party z) (cast_begun w r p)
begun_by w q (IntoCast r n) z = subst (λ x. IfSome (step w (IntoCast r n)) (λ v. Begun w v x (IntoCast r n))) (some_party z) (into_begun w r n)
begun_by w q _ z = absurd (cc)

still_apart : (u : World) (q : Party) (s : Stack) (c : Pieces) (r : Bool) → Inside u q s c r → u.stack q ≡ s → ⊥
still_apart u q s c r i z = let a : length ((u.stack q).below) ≡ length (whole s) = ap (λ k. length (k.below)) i.is in let b : length ((u.stack q).below) ≡ length (s.below) = ap (λ k. length (k.below)) z in omega (arith, a, b)

is_over : (u : World) (q : Party) (s : Stack) (c : Pieces) (r : Bool) → After u q s c r → u.stack q ≡ s → Over u q s c r
is_over u q s c r (inl i) z = absurd (still_apart u q s c r i z)
is_over u q s c r (inr k) z = k

cast_stands : (u : World) (q : Party) (s : Stack) (c : Pieces) (r : Bool) → After u q s c r → StandsOn s (u.stack q) ⊎ (u.stack q ≡ s)
cast_stands u q s c r (inl i) = inl (record { more = []; is = ap (λ k. k.below) i.is })
cast_stands u q s c r (inr k) = inr k.back

pub cast_law : CastLaw
cast_law h before q e w v u between b run =
    let begun : Begun w v q e = (let f : IfSome (Some v) (λ x. Begun w x q e) = subst (λ o. IfSome o (λ x. Begun w x q e)) b.made (begun_by w q e b.caster) in f) in
    let s : Stack = w.stack q in
    let next : IsRun (start h) (before ++ (e ∷ [])) v = run_more (start h) w v before e b.reached b.made in
    let g : Ground u = run_on h (before ++ (e ∷ [])) v q s u between next run in
    let c : Pieces = begun.pieces in
    let r : Bool = is_any (is_cast_refusal q s) (Some v) between in
    let a : After u q s c r = stretch h (before ++ (e ∷ [])) v q s c u between false next begun.inside run in
    record {
      made = begun.made;
      bound = λ t l m. until_bound v q s between u run t (omega (arith, m)) ∙ begun.bound t l m;
      stands = cast_stands u q s c r a;
      ends = λ z y t l m. ((is_over u q s c r a z).on y t (begun.mine t l m)).1;
      refused = λ z y t l m. given_back u g t ((is_over u q s c r a z).backs y t (begun.mine t l m));
    }

--
-- what a broadcast has queued, once it is over and nothing refused it

abbrev cast_pushes : Pieces → Stage → List Act
cast_pushes c Calling = PushCast c ∷ []
cast_pushes c _ = []

-- a place tells the stage
abbrev stage_at : Place → Stage
stage_at (RaiseForAll d) = Before
stage_at (OpenForAll d) = Before
stage_at (PushForAll d) = Before
stage_at (CloseForAll d) = Undoing
stage_at (LowerForAll d) = Undoing
stage_at (LockToWake k) = Calling
stage_at (WakeWorker k) = Calling
stage_at (UnlockWoken k) = Calling
stage_at _ = Emptying

spot_stage : (c : Pieces) (st : Stage) (x : Place) → Spot c st x → st ≡ stage_at x
spot_stage c Before (RaiseForAll d) p = refl
spot_stage c Before (PushForAll d) p = refl
spot_stage c Before (OpenForAll d) p = refl
spot_stage c Undoing (CloseForAll d) p = refl
spot_stage c Undoing (LowerForAll d) p = refl
spot_stage c Calling (LockToWake d) p = refl
spot_stage c Calling (WakeWorker d) p = refl
spot_stage c Calling (UnlockWoken d) p = refl
spot_stage c Emptying (SetLatch d) p = refl
spot_stage c Emptying (LockToSettle d) p = refl
spot_stage c Emptying (WakeSettled d) p = refl
spot_stage c Emptying (UnlockSettled d) p = refl
spot_stage c Emptying (SetLockLatch n t) p = refl
spot_stage c st _ p = absurd p

-- a move that leads on, or out of the broadcast, with this queued
record Onward (c : Pieces) (l : List Act) (y : Place) : Type 0 where
  stage : Stage
  spot : Spot c stage y
  pushes : cast_pushes c stage ≡ l

abbrev Queues : Pieces → List Act → Move → Type 0
Queues c l (Stay y) = Onward c l y
Queues c l (Mark y d m) = Onward c l y
Queues c l Back = PushCast c ∷ [] ≡ l
Queues c l _ = ⊥

going_queues : (c : Pieces) (g : Move) → Leads c Calling g → Queues c (PushCast c ∷ []) g
going_queues c (Stay y) l = record { stage = Calling; spot = l; pushes = refl }
going_queues c Back l = refl
going_queues c _ l = absurd l

abbrev ActQueues : World → Party → Pieces → Stage → Place → List Place → Type 0
ActQueues w q c st x fs = IfSome (outcome w q (record { top = x; below = fs })) (λ r. Queues c (cast_pushes c st ++ push_in (act_of q x)) (next_of (w.shape.pool (target_pool q (act_of q x))) q x (r.0)))

raise_queues : (c d : Pieces) (g : PoolShape) (q : Party) (m n : Part) (b : Bool) → d ≡ c → b ≡ false → IfSome {T = Seen × Part} (if b then Some (Refused, m) else Some (Done, n)) (λ r. Queues c [] (next_of g q (RaiseForAll d) (r.0)))
raise_queues c d g q m n true p z = cc
raise_queues c d g q m n false p z = record { stage = Before; spot = subst (λ x. Spot x Before (begin_cast d.count d)) p (begin_spot d d.count); pushes = refl }

calls_on : (w : World) (q : Party) (c : Pieces) (x : Place) (fs : List Place) → Spot c Calling x → push_in (act_of q x) ≡ [] → ActQueues w q c Calling x fs
calls_on w q c x fs p i = if_some_all (λ r. Queues c (PushCast c ∷ push_in (act_of q x)) (next_of (w.shape.pool (target_pool q (act_of q x))) q x (r.0)))
    (λ r. subst (λ l. Queues c (PushCast c ∷ l) (next_of (w.shape.pool (target_pool q (act_of q x))) q x (r.0))) (sym i)
    (going_queues c (next_of (w.shape.pool (target_pool q (act_of q x))) q x (r.0)) (leads c (w.shape.pool (target_pool q (act_of q x))) q Calling x (r.0) refl p))) (outcome w q (record { top = x; below = fs }))

act_queues : (w : World) (q : Party) (c : Pieces) (st : Stage) (x : Place) (fs : List Place) → Spot c st x → is_undone st ≡ false → is_cast_refused w (act_of q x) ≡ false → ActQueues w q c st x fs
act_queues w (Worker a b) c Before (RaiseForAll d) fs p u z = raise_queues c d (w.shape.pool (count_pool (Worker a b) d.count)) (Worker a b) _ _ (count_in (place_part w (Worker a b) (RaiseForAll d)) d.count == 0) p (ap (λ n. n == 0) (count_is w (Worker a b) d.count b 0) ∙ z)
act_queues w (Caller n) c Before (RaiseForAll d) fs p u z = raise_queues c d (w.shape.pool (count_pool (Caller n) d.count)) (Caller n) _ _ (count_in (place_part w (Caller n) (RaiseForAll d)) d.count == 0) p (ap (λ n. n == 0) (count_is w (Caller n) d.count 0 0) ∙ z)
act_queues w (Worker a b) c Before (OpenForAll d) fs p u z = if_cond (λ r. Queues c [] (next_of (w.shape.pool a) (Worker a b) (OpenForAll d) (r.0))) (is_open (Worker a b) ((w.call (count_call d.count)).writer)) _ (λ o. record { stage = Before; spot = p; pushes = refl })
act_queues w (Caller n) c Before (OpenForAll d) fs p u z = if_cond (λ r. Queues c [] (next_of (w.shape.pool 0) (Caller n) (OpenForAll d) (r.0))) (is_open (Caller n) ((w.call (count_call d.count)).writer)) _ (λ o. record { stage = Before; spot = p; pushes = refl })
act_queues w (Worker a b) c Before (PushForAll d) fs p u z = record { stage = Calling; spot = refl; pushes = ap (λ x. PushCast x ∷ []) (sym p) }
act_queues w (Caller n) c Before (PushForAll d) fs p u z = record { stage = Calling; spot = refl; pushes = ap (λ x. PushCast x ∷ []) (sym p) }
act_queues w (Worker a b) c Calling (LockToWake k) fs p u z = calls_on w (Worker a b) c (LockToWake k) fs p refl
act_queues w (Caller n) c Calling (LockToWake k) fs p u z = calls_on w (Caller n) c (LockToWake k) fs p refl
act_queues w (Worker a b) c Calling (WakeWorker k) fs p u z = calls_on w (Worker a b) c (WakeWorker k) fs p refl
act_queues w (Caller n) c Calling (WakeWorker k) fs p u z = calls_on w (Caller n) c (WakeWorker k) fs p refl
act_queues w (Worker a b) c Calling (UnlockWoken k) fs p u z = calls_on w (Worker a b) c (UnlockWoken k) fs p refl
act_queues w (Caller n) c Calling (UnlockWoken k) fs p u z = calls_on w (Caller n) c (UnlockWoken k) fs p refl
act_queues w q c Undoing x fs p u z = cc
act_queues w q c Emptying x fs p u z = cc
act_queues w q c st _ fs p u z = absurd p

-- a step that does not refuse the broadcast queues what it should
record CastQueues (w v : World) (q : Party) (s : Stack) (c : Pieces) (st : Stage) (e : Event) : Type 0 where
  on : (t : Stage) (y : Place) → v.stack q ≡ record { top = y; below = whole s } → Spot c t y → cast_pushes c t ≡ cast_pushes c st ++ own_push q s w e
  back : v.stack q ≡ s → PushCast c ∷ [] ≡ cast_pushes c st ++ own_push q s w e

not_back : (s k : Stack) (y : Place) → k ≡ record { top = y; below = whole s } → k ≡ s → ⊥
not_back s k y z e = let a : length (k.below) ≡ length (whole s) = ap (λ x. length (x.below)) z in let b : length (k.below) ≡ length (s.below) = ap (λ x. length (x.below)) e in omega (arith, a, b)

one_stage : (c : Pieces) (s t : Stage) (x y : Place) (k : Stack) (fs : List Place) → k ≡ record { top = x; below = fs } → k ≡ record { top = y; below = fs } → Spot c s x → Spot c t y → t ≡ s
one_stage c s t x y k fs z e a b = spot_stage c t y b ∙ ap stage_at (ap (λ l. l.top) (sym e ∙ z)) ∙ sym (spot_stage c s x a)

same_queues : (w v : World) (q : Party) (s : Stack) (c : Pieces) (st : Stage) (x : Place) (e : Event) → v.stack q ≡ record { top = x; below = whole s } → Spot c st x → own_push q s w e ≡ [] → CastQueues w v q s c st e
same_queues w v q s c st x e z p i = record {
  on = λ t y k a. ap (cast_pushes c) (one_stage c st t x y (v.stack q) (whole s) z k p a) ∙ nil_right (cast_pushes c st) ∙ ap (λ l. cast_pushes c st ++ l) (sym i);
  back = λ k. absurd (not_back s (v.stack q) x z k);
}

own_queues : (w v : World) (q : Party) (s : Stack) (c : Pieces) (st : Stage) (x : Place) (g : Move) → own_push q s w (Go q) ≡ push_in (act_of q x) → Queues c (cast_pushes c st ++ push_in (act_of q x)) g → v.stack q ≡ after_move g (whole s) → CastQueues w v q s c st (Go q)
own_queues w v q s c st x g i h z = by g h z
  where
    all : (l : List Act) → l ≡ cast_pushes c st ++ push_in (act_of q x) → l ≡ cast_pushes c st ++ own_push q s w (Go q)
    all l e = e ∙ ap (λ a. cast_pushes c st ++ a) (sym i)

    stays : (y : Place) → Onward c (cast_pushes c st ++ push_in (act_of q x)) y → v.stack q ≡ record { top = y; below = whole s } → CastQueues w v q s c st (Go q)
    stays y o z = record {
      on = λ t r k a. ap (cast_pushes c) (one_stage c o.stage t y r (v.stack q) (whole s) z k o.spot a) ∙ all (cast_pushes c o.stage) o.pushes;
      back = λ k. absurd (not_back s (v.stack q) y z k);
    }

    by : (g : Move) → Queues c (cast_pushes c st ++ push_in (act_of q x)) g → v.stack q ≡ after_move g (whole s) → CastQueues w v q s c st (Go q)
    by (Stay y) o z = stays y o z
    by (Mark y d m) o z = stays y o z
    by Back o z = record { on = λ t r k a. absurd (not_back s (v.stack q) r k z); back = λ k. all (PushCast c ∷ []) o }
    by _ o z = absurd o

cast_mine : (w : World) (q : Party) (s : Stack) (x : Place) → w.stack q ≡ record { top = x; below = whole s } → own_push q s w (Go q) ≡ push_in (act_of q x)
cast_mine w q s x z = let a : same_party q q ≡ true = same_party_refl q in let d : is_at_call s (w.stack q) ≡ true = at_call_yes s (w.stack q) (ap (λ v. v.below) z) in rw a (rw d (ap (λ v. push_in (act_of q v.top)) z))

no_push : (q : Party) (s : Stack) (w : World) (e : Event) → same_party q (mover e) ≡ false → own_push q s w e ≡ []
no_push q s w (Go r) d = ap (λ b. if b && is_at_call s (w.stack q) then push_in (act_of q (w.stack q).top) else []) d
no_push q s w _ d = refl

-- the broadcast's own step
own_step : (w : World) (e : Event) (s : Stack) (c : Pieces) → (i : Inside w (mover e) s c false) → is_cast_refusal (mover e) s w e ≡ false → IfSome (step w e) (λ v. CastQueues w v (mover e) s c i.stage e)
own_step w (Go q) s c i f = go_all (λ v. CastQueues w v q s c i.stage (Go q)) w q (subst (λ k. IfSome (outcome w q k) (λ r. CastQueues w (result w q k r) q s c i.stage (Go q))) (sym i.is)
    (if_some_map (λ r. Queues c (cast_pushes c i.stage ++ push_in (act_of q i.top)) (move r)) (λ r. CastQueues w (world_after w q i.top (whole s) r) q s c i.stage (Go q)) lands (outcome w q (record { top = i.top; below = whole s }))
    (act_queues w q c i.stage i.top (whole s) i.spot i.flag (sym own_flag_is ∙ f))))
  where
    move : Seen × Part → Move
    move r = next_of (w.shape.pool (target_pool q (act_of q i.top))) q i.top (r.0)

    own_flag_is : is_cast_refusal q s w (Go q) ≡ is_cast_refused w (act_of q i.top)
    own_flag_is = own_flag w q s i.top (is_cast_refused w (act_of q i.top)) i.is refl

    lands : (r : Seen × Part) → Queues c (cast_pushes c i.stage ++ push_in (act_of q i.top)) (move r) → CastQueues w (world_after w q i.top (whole s) r) q s c i.stage (Go q)
    lands r h = own_queues w (world_after w q i.top (whole s) r) q s c i.stage i.top (move r) (cast_mine w q s i.top i.is) h (stack_mine w.stack q (after_move (move r) (whole s)))
own_step w (Refuse q) s c i f = absurd (let a : same_party q q ≡ true = same_party_refl q in let d : is_at_call s (w.stack q) ≡ true = at_call_yes s (w.stack q) (ap (λ v. v.below) i.is) in let b : is_cast_refusal q s w (Refuse q) ≡ true = rw a d in let n : true ≡ false = sym b ∙ f in cc)
own_step w e s c i f = other_none (λ v. CastQueues w v (mover e) s c i.stage e) w e refl (ap (λ k. is_spot (k.top)) i.is ∙ spot_is c i.stage i.top i.spot)

step_queues : (w : World) (e : Event) (q : Party) (s : Stack) (c : Pieces) → (i : Inside w q s c false) → is_cast_refusal q s w e ≡ false → IfSome (step w e) (λ v. CastQueues w v q s c i.stage e)
step_queues w e q s c i f = by (same_party q (mover e)) refl
  where
    mine : (p : Party) → p ≡ mover e → (i : Inside w p s c false) → is_cast_refusal p s w e ≡ false → IfSome (step w e) (λ v. CastQueues w v p s c i.stage e)
    mine p y = subst (λ p. (i : Inside w p s c false) → is_cast_refusal p s w e ≡ false → IfSome (step w e) (λ v. CastQueues w v p s c i.stage e)) (sym y) (own_step w e s c)

    by : (b : Bool) → same_party q (mover e) ≡ b → IfSome (step w e) (λ v. CastQueues w v q s c i.stage e)
    by true y = mine q (same_party_true q (mover e) y) i f
    by false y = if_some_map (λ v. v.stack q ≡ w.stack q) (λ v. CastQueues w v q s c i.stage e) (λ v z. same_queues w v q s c i.stage i.top e (z ∙ i.is) i.spot (no_push q s w e y)) (step w e) (apart w e q y (is_act e) refl)

or_none : (a b : Bool) → (a || b) ≡ false → (a ≡ false) × (b ≡ false)
or_none false b z = (refl, z)
or_none true b z = cc

queues_on : (h : Shape) (before : List Event) (w : World) (q : Party) (s : Stack) (c : Pieces) (u : World) (es : List Event) → IsRun (start h) before w → (i : Inside w q s c false) → IsRunUntil q s w es u → u.stack q ≡ s → is_any (is_cast_refusal q s) (Some w) es ≡ false →
    cast_pushes c i.stage ++ pushes_of q s (Some w) es ≡ PushCast c ∷ []
queues_on h before w q s c u [] run i same back none = absurd (not_back s (w.stack q) i.top i.is (ap (λ x. x.stack q) (sym same) ∙ back))
queues_on h before w q s c u (e ∷ es) run i (v, opened, one, rest) back none = elim (st one (ground_of h (before ++ (e ∷ [])) v next) adv) [
  | inl j ↦ (let m : Inside v q s c false = subst (λ b. Inside v q s c b) (both.0) j in goes m (queues_on h (before ++ (e ∷ [])) v q s c u es next m rest back (ap (λ o. is_any (is_cast_refusal q s) o es) (sym one) ∙ both.1)))
  | inr j ↦ ends j.back es rest
]
  where
    both : (is_cast_refusal q s w e ≡ false) × (is_any (is_cast_refusal q s) (step w e) es ≡ false)
    both = or_none (is_cast_refusal q s w e) (is_any (is_cast_refusal q s) (step w e) es) none

    next : IsRun (start h) (before ++ (e ∷ [])) v
    next = run_more (start h) w v before e run one

    d : Ground w
    d = ground_of h before w run

    adv : Advance w v
    adv = let f : IfSome (Some v) (Advance w) = subst (λ o. IfSome o (Advance w)) one (step_advance w e (unqueued w d.calls) ((d.calls.jobs).feeds) ((d.calls.jobs).ok) ((d.calls.jobs).unmade)) in f

    st : Keeps w e q s c false v
    st = let f : IfSome (Some v) (Keeps w e q s c false) = subst (λ o. IfSome o (Keeps w e q s c false)) one (step_keeps w e q s c false d i) in f

    k : CastQueues w v q s c i.stage e
    k = let f : IfSome (Some v) (λ x. CastQueues w x q s c i.stage e) = subst (λ o. IfSome o (λ x. CastQueues w x q s c i.stage e)) one (step_queues w e q s c i (both.0)) in f

    own : List Act
    own = own_push q s w e

    goes : (j : Inside v q s c false) → cast_pushes c j.stage ++ pushes_of q s (Some v) es ≡ PushCast c ∷ [] → cast_pushes c i.stage ++ (own ++ pushes_of q s (step w e) es) ≡ PushCast c ∷ []
    goes j more = ap (λ o. cast_pushes c i.stage ++ (own ++ pushes_of q s o es)) one ∙ sym (append_assoc (cast_pushes c i.stage) own (pushes_of q s (Some v) es)) ∙ ap (λ l. l ++ pushes_of q s (Some v) es) (sym (k.on j.stage j.top j.is j.spot)) ∙ more

    ends : v.stack q ≡ s → (es : List Event) → IsRunUntil q s v es u → cast_pushes c i.stage ++ (own ++ pushes_of q s (step w e) es) ≡ PushCast c ∷ []
    ends z [] same = ap (λ o. cast_pushes c i.stage ++ (own ++ pushes_of q s o [])) one ∙ ap (λ l. cast_pushes c i.stage ++ l) (sym (nil_right own)) ∙ sym (k.back z)
    ends z (a ∷ gs) (x, opens, two, more) = absurd (opens z)

pub dealt_law : DealtLaw
dealt_law h before q e w v u between b run back none =
    let begun : Begun w v q e = (let f : IfSome (Some v) (λ x. Begun w x q e) = subst (λ o. IfSome o (λ x. Begun w x q e)) b.made (begun_by w q e b.caster) in f) in
    let next : IsRun (start h) (before ++ (e ∷ [])) v = run_more (start h) w v before e b.reached b.made in
    sym (ap (λ t. cast_pushes begun.pieces t ++ pushes_of q (w.stack q) (Some v) between) begun.fresh) ∙ queues_on h (before ++ (e ∷ [])) v q (w.stack q) begun.pieces u between next begun.inside run back none ∙ begun.pushes
