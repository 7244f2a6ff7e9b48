-- what a call has queued by how far it has come, and what its own acts queue
use Rattle.std.proofs.Common.{arith, refl, sym, ◌∙◌, ap, subst}
use Rattle.rayon_machine_orders.proofs.Words.{ℕ, Bool, true, false, ◌+◌, ◌==◌, if◌then◌else◌, Option, Some, None, List, [], ◌∷◌, ◌++◌, ◌≡◌, IfSome, length, length-append, Party, Worker, Caller, Ending, Target, Termination, Answer, Plan, Detach, Here, Send, Fork, Feed, Open, Enter, Gather, Count}
use Rattle.rayon_machine_orders.proofs.Words.{Share, PoolValue, Body, OfJob, OpenCall, Feeding, Gathering, Dealt, PoolShape, Then, BeginFound, LeaveWait, Resume, Await, RunFirst, Answers, Ran, GiveBack, Gathers, Place, ProbeWorking, PopWorking, TakeCastWorking, BecomeInactive, ProbeIdle}
use Rattle.rayon_machine_orders.proofs.Words.{PopIdle, TakeCastIdle, PickVictim, StealFrom, PopInjected, AnnounceSelf, GetSleepy, LockOwn, FallAsleep, LoadCounters, AddSleeping, LookAtCast, LookAtInjector, BlockSelf, RelockOwn, UndoSleeping, WakeUp, UnlockOwn, LeaveSearch, JoinProbe, JoinPop}
use Rattle.rayon_machine_orders.proofs.Words.{JoinTakeCast, SecondSide, WaitForLock, TakeResult, RaiseCount, GrowCall, LookQueue, PushJob, AddToFifo, LookForToken, PushToken, TakeFromFifo, TellNews, LockToWake, WakeWorker, UnlockWoken, LowerCount, SetLatch, LockToSettle, WakeSettled}
use Rattle.rayon_machine_orders.proofs.Words.{UnlockSettled, SetLockLatch, FirstSide, AtOnce, GrowScope, ScopeBody, StoreBody, OpenSlot, CloseSlot, GrowCast, DealPieces, PushForAll, BeginTask, Move, Stay, StartRun, Mark, Act, PushInj, PushOwn, FifoIn, PushCast, LookInj, LookOwn, Seen, Done}
use Rattle.rayon_machine_orders.proofs.Words.{Refused, act_of, count_book, count_call, gather_all, is_member, next_of, plan_book, plan_count, plan_job, plan_pool, Part as Piece, Stack, World, count_in, count_pool, counts_at, effect, found, is_open, target_call, target_pool, target_worker}
use Rattle.rayon_machine_orders.proofs.Words.{part_of, is_raise_refused, push_in}
use Rattle.rayon_machine_places.specs.Places.{push_act}
use Rattle.rayon_machine_laws.proofs.Frame.{if_cond, if_some_all}
use Rattle.rayon_machine_laws.proofs.Claims.{Says, SaysThen}
use Rattle.rayon_machine_laws.proofs.ClaimRuns.{place_part}
use Rattle.rayon_machine_laws.proofs.Ties.{job_at, outcome}
use Rattle.rayon_machine_orders.proofs.CallActs.{raise_count, sent_told}
use Rattle.rayon_machine_orders.proofs.CallEvents.{whole, CallStands}
use Rattle.rayon_machine_orders.proofs.CallPlaces.{Stage, Going, Gone, Paid, Added, is_undone, is_sent, plan_here, plan_open, told, PartTarget, PartThen, PartOwed, PartPaid, PartBody, PartLower, Part, Known, Leads, Returns, raised_leads, lower_leads, part_leads, is_decisive, open_job, slot_part}

-- all that a call of this plan queues
abbrev pub all_pushes : Party → Plan → List Act
all_pushes q (Detach p t) = push_act q p t None ∷ []
all_pushes q (Send o) = push_act q o.pool o.job None ∷ []
all_pushes q (Fork o a) = push_act q o.pool o.job None ∷ []
all_pushes q (Feed f) = FifoIn f.job (count_book f.count) ∷ PushOwn f.token (count_book f.count) ∷ []
all_pushes q (Enter e) = push_act q e.pool e.job (Some e.call) ∷ []
all_pushes q (Gather g) = PushCast g.pieces ∷ []
all_pushes q _ = []

-- what it has queued once its job is in a FIFO list without a token
abbrev pub first_pushes : Plan → List Act
first_pushes (Feed f) = FifoIn f.job (count_book f.count) ∷ []
first_pushes _ = []

-- and by how far it has come
abbrev pub pushed : Party → Plan → Stage → List Act
pushed q n Added = first_pushes n
pushed q n Gone = all_pushes q n
pushed q n Paid = all_pushes q n
pushed q n _ = []

-- a place tells how far its call has come
same_target : (n : Plan) (s t : Stage) (g : Target) → PartTarget n s g → PartTarget n t g → s ≡ t
same_target n s t Termination y z = absurd y
same_target n s t (Answer o f) y z = y.1 ∙ sym (z.1)

same_then : (n : Plan) (s t : Stage) (k : Then) → PartThen n s k → PartThen n t k → s ≡ t
same_then n s t (BeginFound g x) y z = same_target n s t g y z
same_then n s t (LeaveWait g) y z = same_target n s t g y z
same_then n s t Resume y z = y.1 ∙ sym (z.1)
same_then n s t (Await o) y z = y.1 ∙ sym (z.1)
same_then n s t (Gathers o) y z = y.1 ∙ sym (z.1)
same_then n s t (RunFirst o a) y z = y.1 ∙ sym (z.1)
same_then n s t _ y z = absurd y

same_owed : (n : Plan) (s t : Stage) (k : Then) → PartOwed n s k → PartOwed n t k → s ≡ t
same_owed n s t (Answers o f e) y z = y.1 ∙ sym (z.1)
same_owed n s t (Ran u e) y z = y.1 ∙ sym (z.1)
same_owed n s t (GiveBack m) y z = y.1 ∙ sym (z.1)
same_owed n s t _ y z = absurd y

same_paid : (n : Plan) (s t : Stage) (k : Then) → PartPaid n s k → PartPaid n t k → s ≡ t
same_paid n s t (Answers o f e) y z = y.1 ∙ sym (z.1)
same_paid n s t (Ran u e) y z = y.1 ∙ sym (z.1)
same_paid n s t (GiveBack m) y z = y.1 ∙ sym (z.1)
same_paid n s t (Await o) y z = y.1 ∙ sym (z.1)
same_paid n s t _ y z = absurd y

same_body : (n : Plan) (s t : Stage) (k : Then) → PartBody n s k → PartBody n t k → s ≡ t
same_body n s t (Await o) y z = y.1 ∙ sym (z.1)
same_body n s t _ y z = absurd y

same_lower : (n : Plan) (s t : Stage) (h : Share) (k : Then) → PartLower n s h k → PartLower n t h k → s ≡ t
same_lower n s t PoolValue k y z = absurd y
same_lower n s t Body k y z = same_body n s t k y z
same_lower n s t (OfJob u) k y z = same_owed n s t k (y.1) (z.1)

same_stage : (n : Plan) (s t : Stage) (x : Place) → Part n s x → Part n t x → s ≡ t
same_stage n s t (ProbeWorking k) y z = same_target n s t k.target y z
same_stage n s t (PopWorking k) y z = same_target n s t k.target y z
same_stage n s t (TakeCastWorking k) y z = same_target n s t k.target y z
same_stage n s t (BecomeInactive k) y z = same_target n s t k.target y z
same_stage n s t (ProbeIdle k) y z = same_target n s t k.target y z
same_stage n s t (PopIdle k) y z = same_target n s t k.target y z
same_stage n s t (TakeCastIdle k) y z = same_target n s t k.target y z
same_stage n s t (PickVictim k) y z = same_target n s t k.target y z
same_stage n s t (StealFrom k m) y z = same_target n s t k.target y z
same_stage n s t (PopInjected k) y z = same_target n s t k.target y z
same_stage n s t (AnnounceSelf k) y z = same_target n s t k.target y z
same_stage n s t (GetSleepy k) y z = same_target n s t k.target y z
same_stage n s t (LockOwn k) y z = same_target n s t k.target y z
same_stage n s t (FallAsleep k) y z = same_target n s t k.target y z
same_stage n s t (LoadCounters k) y z = same_target n s t k.target y z
same_stage n s t (AddSleeping k) y z = same_target n s t k.target y z
same_stage n s t (LookAtCast k) y z = same_target n s t k.target y z
same_stage n s t (LookAtInjector k) y z = same_target n s t k.target y z
same_stage n s t (BlockSelf k) y z = same_target n s t k.target y z
same_stage n s t (RelockOwn k) y z = same_target n s t k.target y z
same_stage n s t (UndoSleeping k) y z = same_target n s t k.target y z
same_stage n s t (WakeUp k) y z = same_target n s t k.target y z
same_stage n s t (UnlockOwn k) y z = same_target n s t k.target y z
same_stage n s t (LeaveSearch k) y z = same_target n s t k.target y z
same_stage n s t (LockToWake k) y z = same_then n s t k.then y z
same_stage n s t (WakeWorker k) y z = same_then n s t k.then y z
same_stage n s t (UnlockWoken k) y z = same_then n s t k.then y z
same_stage n s t (LowerCount p h k) y z = same_lower n s t h k y z
same_stage n s t (SetLatch k) y z = same_paid n s t k.then y z
same_stage n s t (LockToSettle k) y z = same_paid n s t k.then y z
same_stage n s t (WakeSettled k) y z = same_paid n s t k.then y z
same_stage n s t (UnlockSettled k) y z = same_paid n s t k.then y z
same_stage n s t (SetLockLatch c k) y z = same_paid n s t k y z
same_stage n s t (JoinProbe o) y z = y.1 ∙ sym (z.1)
same_stage n s t (JoinPop o) y z = y.1 ∙ sym (z.1)
same_stage n s t (JoinTakeCast o) y z = y.1 ∙ sym (z.1)
same_stage n s t (SecondSide o) y z = y.1 ∙ sym (z.1)
same_stage n s t (WaitForLock o) y z = y.1 ∙ sym (z.1)
same_stage n s t (TakeResult o f) y z = y.1 ∙ sym (z.1)
same_stage n s t (RaiseCount m) y z = y.1 ∙ sym (z.1)
same_stage n s t (GrowCall m) y z = y.1 ∙ sym (z.1)
same_stage n s t (LookQueue m) y z = y.1 ∙ sym (z.1)
same_stage n s t (PushJob m e) y z = y.1 ∙ sym (z.1)
same_stage n s t (AddToFifo f) y z = y.1 ∙ sym (z.1)
same_stage n s t (LookForToken f) y z = y.1 ∙ sym (z.1)
same_stage n s t (PushToken f e) y z = y.1 ∙ sym (z.1)
same_stage n s t (TakeFromFifo f) y z = y.1 ∙ sym (z.1)
same_stage n s t (TellNews m e) y z = y.1 ∙ sym (z.1)
same_stage n s t (FirstSide o a) y z = y.1 ∙ sym (z.1)
same_stage n s t (AtOnce p u) y z = y.1 ∙ sym (z.1)
same_stage n s t (GrowScope o) y z = y.1 ∙ sym (z.1)
same_stage n s t (ScopeBody o) y z = y.1 ∙ sym (z.1)
same_stage n s t (StoreBody o e) y z = y.1 ∙ sym (z.1)
same_stage n s t (OpenSlot m) y z = y.1 ∙ sym (z.1)
same_stage n s t (CloseSlot m) y z = y.1 ∙ sym (z.1)
same_stage n s t (GrowCast g) y z = y.1 ∙ sym (z.1)
same_stage n s t (DealPieces g) y z = y.1 ∙ sym (z.1)
same_stage n s t _ y z = absurd y

-- and a stack has one place right above another stack
pub same_spot : (l cs bs : List Place) (x y : Place) → cs ++ (x ∷ l) ≡ bs ++ (y ∷ l) → x ≡ y
same_spot l [] [] x y e = cc
same_spot l [] (b ∷ bs) x y e = absurd (let a : l ≡ bs ++ (y ∷ l) = cc in let i : length l ≡ length (bs ++ (y ∷ l)) = ap length a in let j : length (bs ++ (y ∷ l)) ≡ length bs + length (y ∷ l) = length-append bs (y ∷ l) in omega (arith, i, j))
same_spot l (a ∷ cs) [] x y e = absurd (let b : cs ++ (x ∷ l) ≡ l = cc in let i : length (cs ++ (x ∷ l)) ≡ length l = ap length b in let j : length (cs ++ (x ∷ l)) ≡ length cs + length (x ∷ l) = length-append cs (x ∷ l) in omega (arith, i, j))
same_spot l (a ∷ cs) (b ∷ bs) x y e = same_spot l cs bs x y (let c : cs ++ (x ∷ l) ≡ bs ++ (y ∷ l) = cc in c)

pub stands_same : (n : Plan) (r t : Stage) (s k : Stack) → CallStands n r s k → CallStands n t s k → r ≡ t
stands_same n r t s k a b = same_stage n r t a.place a.part (subst (λ x. Part n t x) (sym (same_spot (whole s) a.above b.above a.place b.place (sym a.is ∙ b.is))) b.part)

-- the call's own act has led on, and has queued what it should
pub record Sent (w : World) (q : Party) (n : Plan) (s : Stage) (x : Place) (g : Move) : Type 0 where
  pub stage : Stage
  pub leads : Leads w n stage g
  pub going : is_undone stage ≡ false
  pub pushes : pushed q n stage ≡ pushed q n s ++ push_in (act_of q x)

-- so it is once the act has seen this
abbrev Sends : World → Party → Plan → Stage → Place → PoolShape → Seen × Piece → Type 0
Sends w q n s x g r = Sent w q n s x (next_of g q x (r.0))

abbrev pub SendsAll : World → Party → Plan → Stage → Place → List Place → Type 0
SendsAll w q n s x fs = IfSome (outcome w q (record { top = x; below = fs })) (λ r. Sent w q n s x (next_of (w.shape.pool (target_pool q (act_of q x))) q x (r.0)))

pub nil_right : (l : List Act) → l ≡ l ++ []
nil_right [] = refl
nil_right (b ∷ bs) = ap (λ l. b ∷ l) (nil_right bs)

-- an act that queues nothing
silent : (q : Party) (n : Plan) (s : Stage) (a : Act) → push_in a ≡ [] → pushed q n s ≡ pushed q n s ++ push_in a
silent q n s a e = nil_right (pushed q n s) ∙ ap (λ l. pushed q n s ++ l) (sym e)

quiet_act : (q : Party) (n : Plan) (s : Stage) (x : Place) → is_decisive x ≡ false → Part n s x → push_in (act_of q x) ≡ []
quiet_act (Worker a b) n s (LookQueue m) d y = by (is_member (Worker a b) (plan_pool m))
  where
    by : (z : Bool) → push_in (if z then LookOwn else LookInj (plan_pool m)) ≡ []
    by true = refl
    by false = refl
quiet_act q n s (PushForAll c) d y = absurd y
quiet_act q n s (BeginTask t) d y = absurd y
quiet_act (Worker a b) n s x d y = cc
quiet_act (Caller c) n s x d y = cc

-- a push
push_is : (q : Party) (p t : ℕ) (b : Option ℕ) → push_in (push_act q p t b) ≡ push_act q p t b ∷ []
push_is q p t b = by (is_member q p)
  where
    by : (z : Bool) → push_in (if z then PushOwn t b else PushInj p t b) ≡ (if z then PushOwn t b else PushInj p t b) ∷ []
    by true = refl
    by false = refl

sent_all : (q : Party) (m : Plan) → is_sent m ≡ true → all_pushes q m ≡ push_act q (plan_pool m) (plan_job m) (plan_book m) ∷ []
sent_all q (Here p t) e = cc
sent_all q (Feed f) e = cc
sent_all q (Open o) e = cc
sent_all q (Gather g) e = cc
sent_all q _ e = refl

here_all : (q : Party) (n : Plan) (t : ℕ) → plan_here n ≡ Some t → all_pushes q n ≡ []
here_all q (Here p u) t e = refl
here_all q _ t e = cc

-- a call that can return has queued all
pub returns_all : (q : Party) (n : Plan) (s : Stage) → Returns n s → pushed q n s ≡ all_pushes q n
returns_all q (Detach p t) s y = ap (pushed q (Detach p t)) y
returns_all q (Feed f) s y = ap (pushed q (Feed f)) y
returns_all q (Enter e) s y = ap (pushed q (Enter e)) y
returns_all q (Here p t) s y = ap (pushed q (Here p t)) y
returns_all q (Send o) s y = ap (pushed q (Send o)) y
returns_all q (Fork o a) s y = ap (pushed q (Fork o a)) y
returns_all q (Open o) s y = ap (pushed q (Open o)) y
returns_all q (Gather g) s y = ap (pushed q (Gather g)) y

raise_sent : (w : World) (q : Party) (n : Plan) (s : Stage) (m : Plan) (g : PoolShape) (f h : Piece) → push_in (act_of q (RaiseCount m)) ≡ [] → Known w n → (m ≡ n) × (s ≡ Going) → is_undone s ≡ false →
    (b : Bool) → b ≡ false → IfSome {T = Seen × Piece} (if b then Some (Refused, f) else Some (Done, h)) (Sends w q n s (RaiseCount m) g)
raise_sent w q n s m g f h i k y d true z = cc
raise_sent w q n s m g f h i k y d false z = record { stage = s; leads = raised_leads w n s m k y; going = d; pushes = silent q n s (act_of q (RaiseCount m)) i }

-- a job is queued
push_sent : (w : World) (q : Party) (n : Plan) (s : Stage) (m : Plan) (v : Bool) → act_of q (PushJob m v) ≡ push_act q (plan_pool m) (plan_job m) (plan_book m) → Part n s (PushJob m v) → Sent w q n s (PushJob m v) (Stay (TellNews m v))
push_sent w q n s m v e y = record { stage = Gone; leads = (y.0 ∙ sent_told n m (y.0) (y.2), refl, y.2); going = refl; pushes = all ∙ sym none }
  where
    all : all_pushes q n ≡ push_act q (plan_pool m) (plan_job m) (plan_book m) ∷ []
    all = ap (all_pushes q) (sym (y.0)) ∙ sent_all q m (y.2)

    none : pushed q n s ++ push_in (act_of q (PushJob m v)) ≡ push_act q (plan_pool m) (plan_job m) (plan_book m) ∷ []
    none = ap (λ t. pushed q n t ++ push_in (act_of q (PushJob m v))) (y.1) ∙ ap push_in e ∙ push_is q (plan_pool m) (plan_job m) (plan_book m)

-- the share is given back, and the call goes on to wake others or is over
lower_sent : (w : World) (q : Party) (n : Plan) (s : Stage) (p : Count) (u : ℕ) (t : Then) (g : PoolShape) (e : Seen) →
    push_in (act_of q (LowerCount p (OfJob u) t)) ≡ [] → is_undone s ≡ false → Known w n → SaysThen w q t → PartOwed n s t → Sent w q n s (LowerCount p (OfJob u) t) (next_of g q (LowerCount p (OfJob u) t) e)
lower_sent w q n s p u (Answers o f d) g e i j k z y = record { stage = Paid; leads = lower_leads w g q n Paid p (OfJob u) (Answers o f d) e k z (y.0, refl); going = refl; pushes = ap (pushed q n) (sym (y.1)) ∙ silent q n s (act_of q (LowerCount p (OfJob u) (Answers o f d))) i }
lower_sent w q n s p u (Ran t d) g e i j k z y = record { stage = Paid; leads = lower_leads w g q n Paid p (OfJob u) (Ran t d) e k z (y.0, refl); going = refl; pushes = here_all q n t (y.0) ∙ ap (pushed q n) (sym (y.1)) ∙ silent q n s (act_of q (LowerCount p (OfJob u) (Ran t d))) i }
lower_sent w q n s p u (GiveBack m) g e i j k z y = absurd (let a : is_undone s ≡ true = ap is_undone (y.1) in let b : true ≡ false = sym a ∙ j in cc)
lower_sent w q n s p u _ g e i j k z y = absurd y

body_sent : (w : World) (q : Party) (n : Plan) (s : Stage) (p : Count) (t : Then) (g : PoolShape) (e : Seen) →
    push_in (act_of q (LowerCount p Body t)) ≡ [] → is_undone s ≡ false → Known w n → SaysThen w q t → PartBody n s t → Sent w q n s (LowerCount p Body t) (next_of g q (LowerCount p Body t) e)
body_sent w q n s p (Await o) g e i j k z y = record { stage = s; leads = lower_leads w g q n s p Body (Await o) e k z (ap plan_open (y.0), y.1); going = j; pushes = silent q n s (act_of q (LowerCount p Body (Await o))) i }
body_sent w q n s p _ g e i j k z y = absurd y

take_sent : (w : World) (q : Party) (n : Plan) (s : Stage) (o : OpenCall) (f : Option Ending) (g : PoolShape) (m : Piece) → push_in (act_of q (TakeResult o f)) ≡ [] → is_undone s ≡ false → Part n s (TakeResult o f) →
    (c : Option Ending) → (c ≡ None → ⊥) → IfSome (found m c) (Sends w q n s (TakeResult o f) g)
take_sent w q n s o f g m i d y None z = absurd (z refl)
take_sent w q n s o f g m i d y (Some e) z = record { stage = s; leads = (open_job n o (y.0), y); going = d; pushes = silent q n s (act_of q (TakeResult o f)) i }

slot_sent : (w : World) (q : Party) (n : Plan) (s : Stage) (m : Plan) (g : PoolShape) → push_in (act_of q (OpenSlot m)) ≡ [] → is_undone s ≡ false → Part n s (OpenSlot m) →
    (b : Bool) (p : Piece) → IfSome {T = Seen × Piece} (if b then Some (Done, p) else None) (Sends w q n s (OpenSlot m) g)
slot_sent w q n s m g i d y b p = if_cond (Sends w q n s (OpenSlot m) g) b (Done, p) (λ o. record { stage = s; leads = slot_part n s m y; going = d; pushes = silent q n s (act_of q (OpenSlot m)) i })

grow_sent : (w : World) (q : Party) (n : Plan) (s : Stage) (o : OpenCall) → push_in (act_of q (GrowScope o)) ≡ [] → Part n s (GrowScope o) → Sent w q n s (GrowScope o) (StartRun (ScopeBody o) o.job)
grow_sent w q n s o i y = record { stage = Gone; leads = (y.0, refl); going = refl; pushes = ap (all_pushes q) (y.0) ∙ ap (pushed q n) (sym (y.1)) ∙ silent q n s (act_of q (GrowScope o)) i }

deal_sent : (w : World) (q : Party) (n : Plan) (s : Stage) (b : Gathering) (g : PoolShape) → act_of q (DealPieces b) ≡ PushCast b.pieces → Part n s (DealPieces b) → Sent w q n s (DealPieces b) (Mark (gather_all g b.call) b.pieces Dealt)
deal_sent w q n s b g e y = record { stage = Gone; leads = (ap plan_open (y.0), refl); going = refl; pushes = ap (all_pushes q) (y.0) ∙ sym (ap (λ t. pushed q n t ++ push_in (act_of q (DealPieces b))) (y.1) ∙ ap push_in e) }

-- a job in order, and its token
add_sent : (w : World) (a b : ℕ) (n : Plan) (s : Stage) (f : Feeding) → Part n s (AddToFifo f) → Sent w (Worker a b) n s (AddToFifo f) (Stay (LookForToken f))
add_sent w a b n s f y = record { stage = Added; leads = (y.0, refl); going = refl; pushes = ap first_pushes (y.0) ∙ sym (ap (λ t. pushed (Worker a b) n t ++ FifoIn f.job (count_book f.count) ∷ []) (y.1)) }

token_sent : (w : World) (a b : ℕ) (n : Plan) (s : Stage) (f : Feeding) (v : Bool) → Part n s (PushToken f v) → Sent w (Worker a b) n s (PushToken f v) (Stay (TellNews (Detach f.pool f.token) v))
token_sent w a b n s f v y = record { stage = Gone; leads = (ap told (sym (y.0)), refl, refl); going = refl; pushes = ap (all_pushes (Worker a b)) (y.0) ∙ sym before }
  where
    before : pushed (Worker a b) n s ++ PushOwn f.token (count_book f.count) ∷ [] ≡ all_pushes (Worker a b) (Feed f)
    before = ap (λ t. pushed (Worker a b) n t ++ PushOwn f.token (count_book f.count) ∷ []) (y.1) ∙ ap (λ m. first_pushes m ++ PushOwn f.token (count_book f.count) ∷ []) (y.0)

plain_sent : (w : World) (q : Party) (n : Plan) (s : Stage) (x : Place) (fs : List Place) → is_decisive x ≡ false → is_undone s ≡ false → Known w n → Says w q x → Part n s x → SendsAll w q n s x fs
plain_sent w q n s x fs d j k z y = if_some_all (λ r. Sent w q n s x (next_of (w.shape.pool (target_pool q (act_of q x))) q x (r.0)))
    (λ r. record { stage = s; leads = part_leads w (w.shape.pool (target_pool q (act_of q x))) q n s x (r.0) d k z y; going = j; pushes = silent q n s (act_of q x) (quiet_act q n s x d y) }) (outcome w q (record { top = x; below = fs }))

-- where the call's own act leads that is not refused
pub act_sent : (w : World) (q : Party) (n : Plan) (s : Stage) (x : Place) (fs : List Place) → ((o : OpenCall) (f : Option Ending) → x ≡ TakeResult o f → (w.call o.number).cell ≡ None → ⊥) →
    is_raise_refused w (act_of q x) ≡ false → is_undone s ≡ false → Known w n → Says w q x → Part n s x → SendsAll w q n s x fs
act_sent w (Worker a b) n s (RaiseCount m) fs g e d k z y = raise_sent w (Worker a b) n s m (w.shape.pool (target_pool (Worker a b) (act_of (Worker a b) (RaiseCount m)))) _ _ refl k y d
    (count_in (place_part w (Worker a b) (RaiseCount m)) (plan_count m) == 0) (ap (λ v. v == 0) (raise_count w (Worker a b) m) ∙ e)
act_sent w (Caller c) n s (RaiseCount m) fs g e d k z y = raise_sent w (Caller c) n s m (w.shape.pool (target_pool (Caller c) (act_of (Caller c) (RaiseCount m)))) _ _ refl k y d
    (count_in (place_part w (Caller c) (RaiseCount m)) (plan_count m) == 0) (ap (λ v. v == 0) (raise_count w (Caller c) m) ∙ e)
act_sent w (Worker a b) n s (GrowCall m) fs g e d k z y = record { stage = s; leads = y; going = d; pushes = nil_right (pushed (Worker a b) n s) }
act_sent w (Caller c) n s (GrowCall m) fs g e d k z y = record { stage = s; leads = y; going = d; pushes = nil_right (pushed (Caller c) n s) }
act_sent w (Worker a b) n s (GrowCast m) fs g e d k z y = record { stage = s; leads = y; going = d; pushes = nil_right (pushed (Worker a b) n s) }
act_sent w (Caller c) n s (GrowCast m) fs g e d k z y = record { stage = s; leads = y; going = d; pushes = nil_right (pushed (Caller c) n s) }
act_sent w (Worker a b) n s (DealPieces m) fs g e d k z y = deal_sent w (Worker a b) n s m (w.shape.pool m.pieces.pool) refl y
act_sent w (Caller c) n s (DealPieces m) fs g e d k z y = deal_sent w (Caller c) n s m (w.shape.pool m.pieces.pool) refl y
act_sent w (Worker a b) n s (PushJob m v) fs g e d k z y = by (is_member (Worker a b) (plan_pool m))
  where
    by : (i : Bool) → (λ (c : Act). IfSome (effect c w.shape (Worker a b) (counts_at w (target_pool (Worker a b) c)) (part_of w (target_pool (Worker a b) c) (target_worker (Worker a b) c) (target_call c) (job_at w (Worker a b) c)))
        (λ r. Sent w (Worker a b) n s (PushJob m v) (next_of (w.shape.pool (target_pool (Worker a b) c)) (Worker a b) (PushJob m v) (r.0)))) (if i then PushOwn (plan_job m) (plan_book m) else PushInj (plan_pool m) (plan_job m) (plan_book m))
    by true = push_sent w (Worker a b) n s m v refl y
    by false = push_sent w (Worker a b) n s m v refl y
act_sent w (Caller c) n s (PushJob m v) fs g e d k z y = push_sent w (Caller c) n s m v refl y
act_sent w (Worker a b) n s (TakeResult o f) fs g e d k z y = take_sent w (Worker a b) n s o f (w.shape.pool a) (place_part w (Worker a b) (TakeResult o f)) refl d y ((w.call o.number).cell) (g o f refl)
act_sent w (Caller c) n s (TakeResult o f) fs g e d k z y = take_sent w (Caller c) n s o f (w.shape.pool 0) (place_part w (Caller c) (TakeResult o f)) refl d y ((w.call o.number).cell) (g o f refl)
act_sent w (Worker a b) n s (LowerCount p PoolValue t) fs g e d k z y = absurd y
act_sent w (Worker a b) n s (LowerCount p Body t) fs g e d k z y = body_sent w (Worker a b) n s p t (w.shape.pool (count_pool (Worker a b) p)) _ refl d k (z.0) y
act_sent w (Worker a b) n s (LowerCount p (OfJob u) t) fs g e d k z y = lower_sent w (Worker a b) n s p u t (w.shape.pool (count_pool (Worker a b) p)) _ refl d k (z.0) (y.1)
act_sent w (Caller c) n s (LowerCount p PoolValue t) fs g e d k z y = absurd y
act_sent w (Caller c) n s (LowerCount p Body t) fs g e d k z y = body_sent w (Caller c) n s p t (w.shape.pool (count_pool (Caller c) p)) _ refl d k (z.0) y
act_sent w (Caller c) n s (LowerCount p (OfJob u) t) fs g e d k z y = lower_sent w (Caller c) n s p u t (w.shape.pool (count_pool (Caller c) p)) _ refl d k (z.0) (y.1)
act_sent w (Worker a b) n s (GrowScope o) fs g e d k z y = grow_sent w (Worker a b) n s o refl y
act_sent w (Caller c) n s (GrowScope o) fs g e d k z y = grow_sent w (Caller c) n s o refl y
act_sent w (Worker a b) n s (OpenSlot m) fs g e d k z y = slot_sent w (Worker a b) n s m (w.shape.pool a) refl d y (is_open (Worker a b) ((w.call (count_call (plan_count m))).writer)) _
act_sent w (Caller c) n s (OpenSlot m) fs g e d k z y = slot_sent w (Caller c) n s m (w.shape.pool 0) refl d y (is_open (Caller c) ((w.call (count_call (plan_count m))).writer)) _
act_sent w (Worker a b) n s (AddToFifo f) fs g e d k z y = if_cond (λ r. Sent w (Worker a b) n s (AddToFifo f) (next_of (w.shape.pool a) (Worker a b) (AddToFifo f) (r.0))) (is_open (Worker a b) ((w.seat a b).feeder (count_book f.count))) _ (λ o. add_sent w a b n s f y)
act_sent w (Caller c) n s (AddToFifo f) fs g e d k z y = tt
act_sent w (Worker a b) n s (PushToken f v) fs g e d k z y = token_sent w a b n s f v y
act_sent w (Caller c) n s (PushToken f v) fs g e d k z y = tt
act_sent w q n s (TakeFromFifo f) fs g e d k z y = absurd (let i : is_undone s ≡ true = ap is_undone (y.1) in let j : true ≡ false = sym i ∙ d in cc)
act_sent w q n s x fs g e d k z y = plain_sent w q n s x fs refl d k z y
