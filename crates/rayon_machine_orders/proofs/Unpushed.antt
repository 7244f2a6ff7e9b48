-- in a pool of one worker: what each step does to a call that has added its job to a FIFO list and not pushed its token
use Rattle.std.proofs.Common.{rules, arith, refl, sym, ◌∙◌, ap, subst, inl, inr}
use Rattle.rayon_machine_orders.proofs.Words.{ℕ, zero, Bool, true, false, ◌&&◌, ◌+◌, ◌-◌, ◌==◌, ◌≤◌, nat_lt, if◌then◌else◌, Option, Some, None, List, [], ◌∷◌, ◌++◌, ◌≡◌, IfSome, length, eqb-true, eq-eqb, Ending, Feeding, JobKind, TokenOf, Party, Worker, Caller, Place, PickVictim, StealFrom}
use Rattle.rayon_machine_orders.proofs.Words.{PopInjected, YieldPop, YieldPick, YieldSteal, YieldPopInjected, LocalPop, Run, Free, GrowCall, GrowScope, GrowCast, DealPieces, OpenSlot, OpenForAll, PushForAll, PushJob, AddToFifo, LookForToken, PushToken, TakeFromFifo, BeginTask, BeginHere, Plan}
use Rattle.rayon_machine_orders.proofs.Words.{Detach, Feed, HandBack, Count, OfPool, OfScope, OfCast, Pieces, Plain, Token, PushOwn, PushInj, Seen, Refused, Yes, Start, Task, Event, Go, From, Refuse, Miss, End, Spawn, Fifo, Install, Join, Yield, YieldLocal, EndPool, Cast, OpenScope, IntoSpawn}
use Rattle.rayon_machine_orders.proofs.Words.{IntoFifo, IntoCast, Broadcast, PoolShape, same_party, own_pool, own_index, act_of, next_of, not_self, next_victim, end_cast, taken_back, taken_number, withdraw, is_free, is_member, is_refusable, plan_pool, plan_job, plan_book, count_book, Shape}
use Rattle.rayon_machine_orders.proofs.Words.{Stack, World, Part, is_open, same_list, target_pool, target_worker, target_call, put_stack, after_call, after_choice, after_close, after_end, after_join, after_miss, after_move, after_refusal, after_send, after_yield, can_miss, holds, is_pool, step}
use Rattle.rayon_machine_orders.proofs.Words.{IsRun, start, Happening, Adds, Queues, Retakes, Begins, Redeems, act_happens, happening, one, times}
use Rattle.rayon_machine_places.specs.declared.act.Seen.TheVariants.{Missing}
use Rattle.rayon_machine_laws.proofs.Calm.{part_at, counts_seen, next_at}
use Rattle.rayon_machine_laws.proofs.Claims.{Says}
use Rattle.rayon_machine_laws.proofs.Frame.{acted_keeps, and_parts, either, fifo_cases, if_cond, if_some_all, if_some_map, into_cases, into_cast_cases, into_fifo_cases, same_party_true}
use Rattle.rayon_machine_laws.proofs.Ties.{AllFrames, job_at, shape_at, outcome, result}
use Rattle.rayon_machine_laws.proofs.Tops.{FramesOk, top_after}
use Rattle.rayon_machine_orders.proofs.Calmed.{NoWait, close_calm, frame_calm, is_adding, is_waiting, stays_calm}
use Rattle.rayon_machine_orders.proofs.Dealing.{kinds, nothing, runs_after}
use Rattle.rayon_machine_orders.proofs.Dealt.{is_line, is_push, is_start, silent}
use Rattle.rayon_machine_orders.proofs.Lone.{is_act, is_thief}
use Rattle.rayon_machine_orders.proofs.Stocking.{Unpushed, is_of, unpushed}

-- the worker stands over a step where it may owe a token
abbrev pub Owes : ℕ → Option ℕ → World → World → Type 0
Owes p b w v = unpushed b (w.stack (Worker p 0)).top ≡ unpushed b (v.stack (Worker p 0)).top

moved : (w : World) (p : ℕ) (b : Option ℕ) (q : Party) (to : Stack) → unpushed b (w.stack q).top ≡ unpushed b to.top → unpushed b (w.stack (Worker p 0)).top ≡ unpushed b (put_stack w.stack q to (Worker p 0)).top
moved w p b q to l = at (same_party (Worker p 0) q) refl
  where
    at : (z : Bool) → same_party (Worker p 0) q ≡ z → unpushed b (w.stack (Worker p 0)).top ≡ unpushed b (if z then to else w.stack (Worker p 0)).top
    at true e = subst (λ r. unpushed b (w.stack r).top ≡ unpushed b to.top) (sym (same_party_true (Worker p 0) q e)) l
    at false e = refl

-- a party that owes none, and comes to owe none
calm_zero : (x : Place) (b : Option ℕ) → is_waiting x ≡ false → unpushed b x ≡ 0
calm_zero (LookForToken f) b e = absurd (cc)
calm_zero (PushToken f v) b e = absurd (cc)
calm_zero (TakeFromFifo f) b e = absurd (cc)
calm_zero _ b e = refl

settled : (w : World) (p : ℕ) (b : Option ℕ) (q : Party) (to : Stack) → is_waiting (w.stack q).top ≡ false → is_waiting to.top ≡ false → unpushed b (w.stack (Worker p 0)).top ≡ unpushed b (put_stack w.stack q to (Worker p 0)).top
settled w p b q to e f = moved w p b q to (calm_zero (w.stack q).top b e ∙ sym (calm_zero to.top b f))

free_calm : (x : Place) → is_free x ≡ true → is_waiting x ≡ false
free_calm (Run t k) e = refl
free_calm Free e = refl
free_calm _ e = absurd (cc)

from_owes : (w : World) (p : ℕ) (b : Option ℕ) (q : Party) (x : Place) (v : ℕ) → (w.stack q).top ≡ x → IfSome (after_choice w q (w.stack q) x v) (Owes p b w)
from_owes w p b q (PickVictim k) v e = if_cond (Owes p b w) (nat_lt v (w.shape.pool (own_pool q)).workers) _
    (λ z. settled w p b q (after_move (next_of (w.shape.pool (own_pool q)) q (w.stack q).top (Start v)) (w.stack q).below) (ap is_waiting e) (subst (λ y. is_waiting (after_move (next_of (w.shape.pool (own_pool q)) q y (Start v)) (w.stack q).below).top ≡ false) (sym e) refl))
from_owes w p b q YieldPick v e = if_cond (Owes p b w) (nat_lt v (w.shape.pool (own_pool q)).workers) _
    (λ z. settled w p b q (after_move (next_of (w.shape.pool (own_pool q)) q (w.stack q).top (Start v)) (w.stack q).below) (ap is_waiting e) (subst (λ y. is_waiting (after_move (next_of (w.shape.pool (own_pool q)) q y (Start v)) (w.stack q).below).top ≡ false) (sym e) refl))
from_owes w p b q _ v e = tt

missed_calm : (g : PoolShape) (q : Party) (x : Place) (fs : List Place) → is_thief x ≡ true → is_waiting (after_move (next_of g q x Missing) fs).top ≡ false
missed_calm g q (PickVictim k) fs e = refl
missed_calm g q YieldPick fs e = refl
missed_calm g q (StealFrom k n) fs e = by (n == 0)
  where
    by : (z : Bool) → is_waiting (if z then PopInjected k else StealFrom (record k { victim = not_self g.workers (own_index q) (next_victim g.workers k.victim) }) (n - 1)) ≡ false
    by true = refl
    by false = refl
missed_calm g q (YieldSteal v n) fs e = by (n == 0)
  where
    by : (z : Bool) → is_waiting (if z then YieldPopInjected else YieldSteal (not_self g.workers (own_index q) (next_victim g.workers v)) (n - 1)) ≡ false
    by true = refl
    by false = refl
missed_calm g q _ fs e = absurd (cc)

miss_owes : (w : World) (p : ℕ) (b : Option ℕ) (q : Party) (x : Place) → (w.stack q).top ≡ x → IfSome (after_miss w q (w.stack q) x) (Owes p b w)
miss_owes w p b (Worker i j) (StealFrom k n) e = if_cond (Owes p b w) (can_miss w i k.victim) _
    (λ z. settled w p b (Worker i j) (after_move (next_of (w.shape.pool i) (Worker i j) (w.stack (Worker i j)).top Missing) (w.stack (Worker i j)).below) (ap is_waiting e) (missed_calm (w.shape.pool i) (Worker i j) (w.stack (Worker i j)).top (w.stack (Worker i j)).below (ap is_thief e)))
miss_owes w p b (Worker i j) (YieldSteal v n) e = if_cond (Owes p b w) (can_miss w i v) _
    (λ z. settled w p b (Worker i j) (after_move (next_of (w.shape.pool i) (Worker i j) (w.stack (Worker i j)).top Missing) (w.stack (Worker i j)).below) (ap is_waiting e) (missed_calm (w.shape.pool i) (Worker i j) (w.stack (Worker i j)).top (w.stack (Worker i j)).below (ap is_thief e)))
miss_owes w p b _ _ e = tt

end_owes : (w : World) (p : ℕ) (b : Option ℕ) (q : Party) (d : Ending) (x : Place) → AllFrames (w.stack q).below → (w.stack q).top ≡ x → IfSome (after_end w q d (w.stack q) x) (Owes p b w)
end_owes w p b q d (Run t k) a e = settled w p b q (after_close t k d (w.stack q).below) (ap is_waiting e) (close_calm t k d (w.stack q).below a)
end_owes w p b q d _ a e = tt

withdraw_zero : (z : Option ℕ) (n : Plan) (b : Option ℕ) → unpushed b (withdraw z n) ≡ 0
withdraw_zero None n b = refl
withdraw_zero (Some c) n b = refl

cast_zero : (k : Count) (c : Pieces) (b : Option ℕ) → unpushed b (end_cast k c) ≡ 0
cast_zero (OfPool p) c b = refl
cast_zero _ c b = refl

refused_owes : (g : PoolShape) (q : Party) (x : Place) (fs : List Place) (b : Option ℕ) → is_refusable x ≡ true → unpushed b x ≡ unpushed b (after_move (next_of g q x Refused) fs).top
refused_owes g q (PushToken f v) fs b e = refl
refused_owes g q (PushJob n v) fs b e = sym (withdraw_zero (plan_book n) n b)
refused_owes g q (AddToFifo f) fs b e = sym (withdraw_zero (count_book f.count) (Feed f) b)
refused_owes g q (PushForAll c) fs b e = sym (cast_zero c.count c b)
refused_owes g q (GrowCall n) fs b e = refl
refused_owes g q (GrowScope o) fs b e = refl
refused_owes g q (GrowCast o) fs b e = refl
refused_owes g q (DealPieces o) fs b e = refl
refused_owes g q (OpenSlot n) fs b e = refl
refused_owes g q (OpenForAll c) fs b e = refl
refused_owes g q _ fs b e = absurd (cc)

call_owes : (w : World) (p : ℕ) (b : Option ℕ) (q : Party) (y : Place) → is_free ((w.stack q).top) ≡ true → is_waiting y ≡ false → unpushed b (w.stack (Worker p 0)).top ≡ unpushed b (put_stack w.stack q (after_call (w.stack q) y) (Worker p 0)).top
call_owes w p b q y free n = settled w p b q (after_call (w.stack q) y) (free_calm (w.stack q).top free) n

at_free : (w : World) (q : Party) (c : Bool) → (is_free ((w.stack q).top) && c) ≡ true → is_free ((w.stack q).top) ≡ true
at_free w q c e = (and_parts (is_free ((w.stack q).top)) c e).0

sent_owes : (w : World) (p : ℕ) (b : Option ℕ) (q : Party) (n : ℕ) (z : Bool) → is_free ((w.stack q).top) ≡ true → Owes p b w (after_send w q n (w.stack q) z)
sent_owes w p b q n true e = call_owes w p b q _ e refl
sent_owes w p b q n false e = call_owes w p b q _ e refl

join_owes : (w : World) (p : ℕ) (b : Option ℕ) (q : Party) → IfSome (after_join w q (w.stack q)) (Owes p b w)
join_owes w p b (Worker i j) = if_cond (Owes p b w) (is_free ((w.stack (Worker i j)).top)) _ (λ e. call_owes w p b (Worker i j) _ e refl)
join_owes w p b (Caller n) = tt

yield_owes : (w : World) (p : ℕ) (b : Option ℕ) (q : Party) (x : Place) → is_waiting x ≡ false → IfSome (after_yield w q (w.stack q) x) (Owes p b w)
yield_owes w p b (Worker i j) x n = if_cond (Owes p b w) (is_free ((w.stack (Worker i j)).top)) _ (λ e. call_owes w p b (Worker i j) x e n)
yield_owes w p b (Caller n) x m = tt

turn_owes : (w : World) (e : Event) (p : ℕ) (b : Option ℕ) → FramesOk w → is_act e ≡ false → IfSome (step w e) (Owes p b w)
turn_owes w (Go q) p b fr z = absurd (cc)
turn_owes w (From q v) p b fr z = from_owes w p b q (w.stack q).top v refl
turn_owes w (Refuse q) p b fr z = if_cond (Owes p b w) (is_refusable (w.stack q).top) _ (λ e. moved w p b q (after_move (next_of (w.shape.pool (own_pool q)) q (w.stack q).top Refused) (w.stack q).below) (refused_owes (w.shape.pool (own_pool q)) q (w.stack q).top (w.stack q).below b e))
turn_owes w (Miss q) p b fr z = miss_owes w p b q (w.stack q).top refl
turn_owes w (End q d) p b fr z = end_owes w p b q d (w.stack q).top (fr q) refl
turn_owes w (Spawn q n) p b fr z = if_cond (Owes p b w) (is_free ((w.stack q).top) && is_pool w.shape n) _ (λ e. call_owes w p b q _ (at_free w q (is_pool w.shape n) e) refl)
turn_owes w (Fifo q n) p b fr z = fifo_cases (Owes p b w) w q n (if_cond (Owes p b w) (is_free ((w.stack q).top) && is_pool w.shape n) _ (λ e. call_owes w p b q _ (at_free w q (is_pool w.shape n) e) refl)) (λ i free. call_owes w p b (Worker n i) _ free refl)
turn_owes w (Cast q n) p b fr z = if_cond (Owes p b w) (is_free ((w.stack q).top) && is_pool w.shape n) _ (λ e. call_owes w p b q _ (at_free w q (is_pool w.shape n) e) refl)
turn_owes w (Install q n) p b fr z = if_cond (Owes p b w) (is_free ((w.stack q).top) && is_pool w.shape n) _ (λ e. sent_owes w p b q n (is_member q n) (at_free w q (is_pool w.shape n) e))
turn_owes w (Join q) p b fr z = join_owes w p b q
turn_owes w (OpenScope q n) p b fr z = if_cond (Owes p b w) (is_free ((w.stack q).top) && is_pool w.shape n) _ (λ e. call_owes w p b q _ (at_free w q (is_pool w.shape n) e) refl)
turn_owes w (IntoSpawn q n) p b fr z = into_cases (Owes p b w) w q n (λ i e free held. if_cond (Owes p b w) (is_free ((w.stack q).top) && holds i.call (w.stack q)) _ (λ d. call_owes w p b q _ free refl))
turn_owes w (IntoFifo q n) p b fr z = into_fifo_cases (Owes p b w) w q n (λ i e free held. if_cond (Owes p b w) (is_free ((w.stack q).top) && holds i.call (w.stack q)) _ (λ d. call_owes w p b q _ free refl)) (λ i j e free held. call_owes w p b (Worker i.pool j) _ free refl)
turn_owes w (IntoCast q n) p b fr z = into_cast_cases (Owes p b w) w q n (λ i e free held. call_owes w p b q _ free refl)
turn_owes w (Broadcast q n) p b fr z = if_cond (Owes p b w) (is_free ((w.stack q).top) && is_pool w.shape n) _ (λ e. call_owes w p b q _ (at_free w q (is_pool w.shape n) e) refl)
turn_owes w (Yield q) p b fr z = yield_owes w p b q YieldPop refl
turn_owes w (YieldLocal q) p b fr z = yield_owes w p b q LocalPop refl
turn_owes w (EndPool q n) p b fr z = if_cond (Owes p b w) (is_free ((w.stack q).top) && (is_pool w.shape n && (w.pool n).held)) _ (λ e. call_owes w p b q _ (at_free w q (is_pool w.shape n && (w.pool n).held) e) refl)

-- over the worker's own act
abbrev OwnOwes : World → ℕ → Option ℕ → Place → List Place → (Seen × Part → Option ℕ) → Seen × Part → Type 0
OwnOwes w p b x fs o r = Unpushed (kinds w) b x (after_move (next_at w (Worker p 0) (record { top = x; below = fs }) (r.0)) fs).top (act_happens (act_of (Worker p 0) x) fs (o r))

same_of : (b c : Option ℕ) (k : JobKind) → k ≡ TokenOf 0 c → one (same_list b c) ≤ one (is_of b k)
same_of b c k e = subst (λ z. one (same_list b c) ≤ one (is_of b z)) (sym e) (omega arith)

-- where it goes on from a place that owes none
rest_calm : (w : World) (p : ℕ) (x : Place) (fs : List Place) → AllFrames fs → is_waiting x ≡ false → is_adding x ≡ false → IfSome (outcome w (Worker p 0) (record { top = x; below = fs })) (λ r. is_waiting (after_move (next_at w (Worker p 0) (record { top = x; below = fs }) (r.0)) fs).top ≡ false)
rest_calm w p x fs a y z =
    let k : Stack = record { top = x; below = fs } in let me : Party = Worker p 0 in
    if_some_map {A = Seen × Part} (λ r. NoWait (next_at w me k (r.0))) (λ r. is_waiting (after_move (next_at w me k (r.0)) fs).top ≡ false) (λ r t. top_after (λ y. is_waiting y ≡ false) (next_at w me k (r.0)) fs t frame_calm a) (outcome w me k)
    (stays_calm w.shape (shape_at w me k) me (counts_seen w me k) (part_at w me k) x y z)

pushed_owes : (w : World) (p : ℕ) (b : Option ℕ) (n : Plan) (v : Bool) (fs : List Place) (o : Seen × Part → Option ℕ) (r : Seen × Part) → is_waiting (after_move (next_at w (Worker p 0) (record { top = PushJob n v; below = fs }) (r.0)) fs).top ≡ false → OwnOwes w p b (PushJob n v) fs o r
pushed_owes w p b n v fs o r c = at (p == plan_pool n)
  where
    y : Place
    y = (after_move (next_at w (Worker p 0) (record { top = PushJob n v; below = fs }) (r.0)) fs).top

    at : (z : Bool) → Unpushed (kinds w) b (PushJob n v) y (act_happens (if z then PushOwn (plan_job n) (plan_book n) else PushInj (plan_pool n) (plan_job n) (plan_book n)) fs (o r))
    at true = (omega arith, calm_zero y b c)
    at false = sym (calm_zero y b c)

looked_owes : (b : Option ℕ) (g : PoolShape) (q : Party) (f : Feeding) (fs : List Place) (e : Seen) → unpushed b (LookForToken f) ≡ unpushed b (after_move (next_of g q (LookForToken f) e) fs).top
looked_owes b g q f fs Yes = refl
looked_owes b g q f fs _ = refl

-- where a call goes that has taken its job back
taken_zero : (f : Feeding) (e : Seen) (fs : List Place) (b : Option ℕ) → AllFrames fs → unpushed b (after_move (taken_back f e) fs).top ≡ 0
taken_zero f (Task t) fs b a = withdraw_zero (count_book f.count) (Feed (record f { job = taken_number t })) b
taken_zero f _ fs b a = calm_zero (after_move (HandBack (Detach f.pool f.token)) fs).top b (top_after (λ y. is_waiting y ≡ false) (HandBack (Detach f.pool f.token)) fs tt frame_calm a)

rest_owes : (w : World) (p : ℕ) (b : Option ℕ) (x : Place) (fs : List Place) (o : Seen × Part → Option ℕ) (r : Seen × Part) → is_push x ≡ false → is_start x ≡ false → is_line x ≡ false → is_waiting x ≡ false
    → is_waiting (after_move (next_at w (Worker p 0) (record { top = x; below = fs }) (r.0)) fs).top ≡ false → OwnOwes w p b x fs o r
rest_owes w p b x fs o r y z l c d = subst (Unpushed (kinds w) b x (after_move (next_at w (Worker p 0) (record { top = x; below = fs }) (r.0)) fs).top) (sym (silent (Worker p 0) x fs (o r) y z l))
    (calm_zero x b c ∙ sym (calm_zero (after_move (next_at w (Worker p 0) (record { top = x; below = fs }) (r.0)) fs).top b d))

own_owes : (w : World) (p : ℕ) (b : Option ℕ) (x : Place) (fs : List Place) (o : Seen × Part → Option ℕ) → AllFrames fs → Says w (Worker p 0) x → IfSome (outcome w (Worker p 0) (record { top = x; below = fs })) (OwnOwes w p b x fs o)
own_owes w p b (AddToFifo f) fs o a s = if_cond (OwnOwes w p b (AddToFifo f) fs o) (is_open (Worker p 0) ((w.seat p 0).feeder (count_book f.count))) _ (λ z. (refl, refl))
own_owes w p b (LookForToken f) fs o a s = if_some_all {A = Seen × Part} (OwnOwes w p b (LookForToken f) fs o) (λ r. looked_owes b (w.shape.pool p) (Worker p 0) f fs (r.0)) (outcome w (Worker p 0) (record { top = LookForToken f; below = fs }))
own_owes w p b (PushToken f v) fs o a s = (same_of b (count_book f.count) (w.job f.token).kind ((s.1).kind), refl)
own_owes w p b (TakeFromFifo f) fs o a s = if_some_all {A = Seen × Part} (OwnOwes w p b (TakeFromFifo f) fs o) (λ r. (refl, taken_zero f (r.0) fs b a)) (outcome w (Worker p 0) (record { top = TakeFromFifo f; below = fs }))
own_owes w p b (PushJob n v) fs o a s = if_some_map {A = Seen × Part} (λ r. is_waiting (after_move (next_at w (Worker p 0) (record { top = PushJob n v; below = fs }) (r.0)) fs).top ≡ false) (OwnOwes w p b (PushJob n v) fs o) (λ r c. pushed_owes w p b n v fs o r c)
    (outcome w (Worker p 0) (record { top = PushJob n v; below = fs })) (rest_calm w p (PushJob n v) fs a refl refl)
own_owes w p b (BeginTask (Plain t)) fs o a s = (refl, refl)
own_owes w p b (BeginTask (Token k i c)) fs o a s = if_some_map {A = Seen × Part} (λ r. is_waiting (after_move (next_at w (Worker p 0) (record { top = BeginTask (Token k i c); below = fs }) (r.0)) fs).top ≡ false) (OwnOwes w p b (BeginTask (Token k i c)) fs o)
    (λ r d. (refl, calm_zero (after_move (next_at w (Worker p 0) (record { top = BeginTask (Token k i c); below = fs }) (r.0)) fs).top b d)) (outcome w (Worker p 0) (record { top = BeginTask (Token k i c); below = fs })) (rest_calm w p (BeginTask (Token k i c)) fs a refl refl)
own_owes w p b (BeginHere t) fs o a s = (refl, refl)
own_owes w p b x fs o a s = if_some_map {A = Seen × Part} (λ r. is_waiting (after_move (next_at w (Worker p 0) (record { top = x; below = fs }) (r.0)) fs).top ≡ false) (OwnOwes w p b x fs o) (λ r d. rest_owes w p b x fs o r refl refl refl refl d)
    (outcome w (Worker p 0) (record { top = x; below = fs })) (rest_calm w p x fs a refl refl)

abbrev pub Owed : ℕ → Option ℕ → World → Event → World → Type 0
Owed p b w e v = Unpushed (kinds w) b (w.stack (Worker p 0)).top (v.stack (Worker p 0)).top (happening p w e v)

go_owes : (w : World) (q : Party) (p : ℕ) (b : Option ℕ) (z : Bool) → same_party (Worker p 0) q ≡ z → FramesOk w → Says w (Worker p 0) (w.stack (Worker p 0)).top → IfSome (outcome w q (w.stack q))
    (λ r. Unpushed (kinds w) b (w.stack (Worker p 0)).top ((if z then after_move (next_at w q (w.stack q) (r.0)) (w.stack q).below else w.stack (Worker p 0)).top) (if z then act_happens (act_of q (w.stack q).top) (w.stack q).below (runs_after w q r) else None))
go_owes w q p b true eb fr s =
    let me : Party = Worker p 0 in
    let F : Party → Type 0 = λ z. IfSome (outcome w z (w.stack z)) (λ r. Unpushed (kinds w) b (w.stack me).top ((after_move (next_at w z (w.stack z) (r.0)) (w.stack z).below).top) (act_happens (act_of z (w.stack z).top) (w.stack z).below (runs_after w z r))) in
    let base : F me = own_owes w p b (w.stack me).top (w.stack me).below (runs_after w me) (fr me) s in
    subst F (same_party_true me q eb) base
go_owes w q p b false eb fr s = if_some_all {A = Seen × Part} (λ r. unpushed b (w.stack (Worker p 0)).top ≡ unpushed b (w.stack (Worker p 0)).top) (λ r. refl) (outcome w q (w.stack q))

pub step_owes : (w : World) (e : Event) (p : ℕ) (b : Option ℕ) → FramesOk w → Says w (Worker p 0) (w.stack (Worker p 0)).top → IfSome (step w e) (Owed p b w e)
step_owes w (Go q) p b fr s = acted_keeps w q (w.stack q) (target_pool q (act_of q (w.stack q).top)) (target_worker q (act_of q (w.stack q).top)) (target_call (act_of q (w.stack q).top)) (job_at w q (act_of q (w.stack q).top)) (outcome w q (w.stack q)) (Owed p b w (Go q))
    (go_owes w q p b (same_party (Worker p 0) q) refl fr s)
step_owes w e p b fr s = if_some_map (Owes p b w) (Owed p b w e) (λ v h. subst (Unpushed (kinds w) b (w.stack (Worker p 0)).top (v.stack (Worker p 0)).top) (sym (nothing p w e v refl)) h) (step w e) (turn_owes w e p b fr refl)
