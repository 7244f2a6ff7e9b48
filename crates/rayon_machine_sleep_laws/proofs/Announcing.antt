-- a worker that is about to block itself has announced itself since it last became inactive, blocked itself or was
-- counted as sleeping no more
use Rattle.std.proofs.Common.{rules, arith, refl, sym, ◌∙◌, ap, subst, inl, inr}
use Rattle.rayon_machine_sleep_laws.proofs.Words.{ℕ, Bool, true, false, not, ◌&&◌, ◌+◌, ◌==◌, nat_lt, if◌then◌else◌, Some, List, [], ◌∷◌, ◌++◌, ◌≡◌, ◌⊎◌, IfSome, Party, Worker, Caller, Termination, Answer, Latch, Terminate, OfCall, Rounds, Failed, Announced, Then, BeginFound, LeaveWait, Resume}
use Rattle.rayon_machine_sleep_laws.proofs.Words.{Await, RunFirst, Answers, Missing, Ran, GiveBack, Called, Gathers, Place, ProbeIdle, PopInjected, AnnounceSelf, GetSleepy, LockOwn, FallAsleep, LoadCounters, AddSleeping, LookAtCast, LookAtInjector, BlockSelf, SetLatch, UnlockSettled}
use Rattle.rayon_machine_sleep_laws.proofs.Words.{ProbeWorking, Free, Stopped, Stay, OpenCall, Wait, Settling, Seen, Yes, Task, Event, Go, PoolShape, act_of, after_failure, after_set, awaits, finish, fresh, next_of, same_party, Shape, World, Counts, Part, effect, step, IsRun, first_place, start}
use Rattle.rayon_machine_sleep_laws.proofs.Words.{is_blocking, IsRunWithout, is_announcing, is_announce, begins_anew}
use Rattle.rayon_machine_laws.proofs.Asides.{Aside, one_step}
use Rattle.rayon_machine_laws.proofs.Attended.{always_awake, calm_parts}
use Rattle.rayon_machine_laws.proofs.Calm.{counts_seen, next_at, part_at, top_then}
use Rattle.rayon_machine_laws.proofs.Frame.{and_parts, if_some_all, if_some_map, same_party_true, same_party_refl}
use Rattle.rayon_machine_laws.proofs.Kept.{announced, kept_at, is_announced, frame_unannounced}
use Rattle.rayon_machine_laws.proofs.Pushing.{top_is}
use Rattle.rayon_machine_laws.proofs.Seats.{is_frame}
use Rattle.rayon_machine_laws.proofs.Ties.{outcome, result, shape_at}
use Rattle.rayon_machine_laws.proofs.Tops.{FramesOk, Tops, is_light}
use Rattle.rayon_machine_sleep_laws.specs.Announced.{is_anew, HasAnnounced, AnnouncedLaw}
use Rattle.rayon_machine_sleep_laws.proofs.Rests.{acted, stepped, not_both}
use Rattle.rayon_machine_sleep_laws.proofs.Dones.{run_more, stands_go}

-- a place of a wait that has announced itself, up to the Block
abbrev since : Place → Bool
since (LookAtCast k) = true
since (LookAtInjector k) = true
since (BlockSelf k) = true
since x = announced x

frame_since : (f : Place) → is_frame f ≡ true → since f ≡ false
frame_since (LookAtCast k) e = cc
frame_since (LookAtInjector k) e = cc
frame_since (BlockSelf k) e = cc
frame_since f e = frame_unannounced f e

-- what follows the setting of latches is none
wait_since : (q : Party) (o : OpenCall) → since (awaits q o) ≡ false
wait_since (Worker i j) o = refl
wait_since (Caller n) o = refl

finish_since : (q : Party) (t : Then) → Tops (λ y. since y ≡ false) (finish q t)
finish_since q (BeginFound g t) = refl
finish_since q (LeaveWait Termination) = refl
finish_since q (LeaveWait (Answer o f)) = refl
finish_since q (Await o) = wait_since q o
finish_since q (Gathers o) = wait_since q o
finish_since q (RunFirst o a) = refl
finish_since q _ = tt

settled_since : (h : PoolShape) (q : Party) (s : Settling) (l : Latch) → Tops (λ y. since y ≡ false) (after_set h q s l)
settled_since h q s Terminate = by (nat_lt (s.worker + 1) h.workers)
  where
    by : (b : Bool) → Tops (λ y. since y ≡ false) (if b then Stay (SetLatch (record { latch = Terminate; pool = s.pool; worker = s.worker + 1; then = s.then })) else finish q s.then)
    by true = refl
    by false = finish_since q s.then
settled_since h q s (OfCall c) = finish_since q s.then

set_since : (h : PoolShape) (q : Party) (s : Settling) (e : Seen) → Tops (λ y. since y ≡ false) (next_of h q (SetLatch s) e)
set_since h q s Yes = refl
set_since h q s _ = settled_since h q s s.latch

failed_since : (h : PoolShape) (k : Wait) (r : Rounds) → is_announced r ≡ false → since (after_failure h k r) ≡ false
failed_since h k (Failed m) e = by (nat_lt m h.limit)
  where
    by : (b : Bool) → since (if b then ProbeIdle (record k { rounds = Failed (m + 1) }) else AnnounceSelf k) ≡ false
    by true = refl
    by false = refl
failed_since h k Announced e = cc

searched_since : (h : PoolShape) (q : Party) (k : Wait) (e : Seen) → is_announced k.rounds ≡ false → Tops (λ y. since y ≡ false) (next_of h q (PopInjected k) e)
searched_since h q k (Task t) o = refl
searched_since h q k _ o = failed_since h k k.rounds o

-- no act but Announce leads to such a place from another
stays_out : (h : Shape) (g : PoolShape) (p i : ℕ) (c : Counts) (m : Part) (x : Place) → is_announcing x ≡ false → since x ≡ false → IfSome (effect (act_of (Worker p i) x) h (Worker p i) c m) (λ r. Tops (λ y. since y ≡ false) (next_of g (Worker p i) x (r.0)))
stays_out h g p i c m (AnnounceSelf k) z o = cc
stays_out h g p i c m (GetSleepy k) z o = cc
stays_out h g p i c m (LockOwn k) z o = cc
stays_out h g p i c m (FallAsleep k) z o = cc
stays_out h g p i c m (LoadCounters k) z o = cc
stays_out h g p i c m (AddSleeping k) z o = cc
stays_out h g p i c m (LookAtCast k) z o = cc
stays_out h g p i c m (LookAtInjector k) z o = cc
stays_out h g p i c m (BlockSelf k) z o = cc
stays_out h g p i c m (PopInjected k) z o = if_some_all {A = Seen × Part} (λ r. Tops (λ y. since y ≡ false) (next_of g (Worker p i) (PopInjected k) (r.0))) (λ r. searched_since g (Worker p i) k (r.0) o) (effect (act_of (Worker p i) (PopInjected k)) h (Worker p i) c m)
stays_out h g p i c m (SetLatch s) z o = if_some_all {A = Seen × Part} (λ r. Tops (λ y. since y ≡ false) (next_of g (Worker p i) (SetLatch s) (r.0))) (λ r. set_since g (Worker p i) s (r.0)) (effect (act_of (Worker p i) (SetLatch s)) h (Worker p i) c m)
stays_out h g p i c m (UnlockSettled s) z o = if_some_all {A = Seen × Part} (λ r. Tops (λ y. since y ≡ false) (next_of g (Worker p i) (UnlockSettled s) (r.0))) (λ r. settled_since g (Worker p i) s s.latch) (effect (act_of (Worker p i) (UnlockSettled s)) h (Worker p i) c m)
stays_out h g p i c m _ z o = search (rules, arith)

-- the acts that begin anew lead to none either
anew_out : (h : Shape) (g : PoolShape) (p i : ℕ) (c : Counts) (m : Part) (x : Place) → since x ≡ true → is_anew (act_of (Worker p i) x) ≡ true → IfSome (effect (act_of (Worker p i) x) h (Worker p i) c m) (λ r. Tops (λ y. since y ≡ false) (next_of g (Worker p i) x (r.0)))
anew_out h g p i c m (BlockSelf k) s a = refl
anew_out h g p i c m x s a = cc

-- so the worker's own act leads to one only by an Announce, or from one by no such act
own_since : (w : World) (p i : ℕ) → FramesOk w → is_announcing (w.stack (Worker p i)).top ≡ false → (since (w.stack (Worker p i)).top && not (is_anew (act_of (Worker p i) (w.stack (Worker p i)).top))) ≡ false → IfSome (outcome w (Worker p i) (w.stack (Worker p i))) (λ r. since
    ((result w (Worker p i) (w.stack (Worker p i)) r).stack (Worker p i)).top ≡ false)
own_since w p i fr n b = if_some_map (λ r. Tops (λ y. since y ≡ false) (next_at w me (w.stack me) (r.0))) (λ r. since ((result w me (w.stack me) r).stack me).top ≡ false)
    (λ r t. ap (λ x. since x) (top_is w me (w.stack me) r) ∙ top_then (λ y. since y ≡ false) w me (w.stack me) (r.0) refl fr frame_since t) (outcome w me (w.stack me)) (by (since (w.stack me).top) refl (is_anew (act_of me (w.stack me).top)) refl b)
  where
    me : Party
    me = Worker p i

    by : (s : Bool) → since (w.stack me).top ≡ s → (a : Bool) → is_anew (act_of me (w.stack me).top) ≡ a → (s && not a) ≡ false → IfSome (outcome w me (w.stack me)) (λ r. Tops (λ y. since y ≡ false) (next_at w me (w.stack me) (r.0)))
    by false e a f g = stays_out w.shape (shape_at w me (w.stack me)) p i (counts_seen w me (w.stack me)) (part_at w me (w.stack me)) (w.stack me).top n e
    by true e true f g = anew_out w.shape (shape_at w me (w.stack me)) p i (counts_seen w me (w.stack me)) (part_at w me (w.stack me)) (w.stack me).top e f
    by true e false f g = cc

-- an event that is no act leads to none
light_since : (x : Place) → is_light x ≡ true → since x ≡ true → announced x ≡ true
light_since (LookAtCast k) l s = cc
light_since (LookAtInjector k) l s = cc
light_since (BlockSelf k) l s = cc
light_since x l s = s

announced_since : (x : Place) → announced x ≡ true → since x ≡ true
announced_since (LookAtCast k) a = cc
announced_since (LookAtInjector k) a = cc
announced_since (BlockSelf k) a = cc
announced_since x a = a

aside_since : (w u : World) (m : Aside w u) → FramesOk w → since ((m.to).top) ≡ true → since (w.stack m.party).top ≡ true
aside_since w u m fr s = by (announced (w.stack m.party).top) refl
  where
    a : announced ((m.to).top) ≡ true
    a = light_since ((m.to).top) ((calm_parts ((m.to).top) (m.now)).0) s

    by : (b : Bool) → announced (w.stack m.party).top ≡ b → since (w.stack m.party).top ≡ true
    by true e = announced_since (w.stack m.party).top e
    by false e = absurd (
        let z : kept_at ((m.to).top) ≡ 0 = m.keeps 0 (fr m.party) (λ y. absurd (not_both (announced (w.stack m.party).top) y e)) a in
        let o : kept_at ((m.to).top) ≡ 1 = m.keeps 1 (fr m.party) (λ y. absurd (not_both (announced (w.stack m.party).top) y e)) a in
        omega (arith, z, o))

rest_since : (w u : World) (p i : ℕ) → FramesOk w → Aside w u → since (u.stack (Worker p i)).top ≡ true → since (w.stack (Worker p i)).top ≡ true
rest_since w u p i fr m s = by (same_party (Worker p i) m.party) refl (ap (λ k. since (k.top)) (sym (m.stack (Worker p i))) ∙ s)
  where
    by : (b : Bool) → same_party (Worker p i) m.party ≡ b → since ((if b then m.to else w.stack (Worker p i)).top) ≡ true → since (w.stack (Worker p i)).top ≡ true
    by true e t = ap (λ r. since (w.stack r).top) (same_party_true (Worker p i) m.party e) ∙ aside_since w u m fr t
    by false e t = t

-- each step
abbrev Comes : ℕ → ℕ → World → Event → World → Type 0
Comes p i w e v = since (v.stack (Worker p i)).top ≡ true → (is_announce p i w e ≡ true) ⊎ ((since (w.stack (Worker p i)).top ≡ true) × (begins_anew p i w e ≡ false))

both_of : (a b : Bool) → (a && not b) ≡ true → (a ≡ true) × (b ≡ false)
both_of true false e = (refl, refl)
both_of true true e = cc
both_of false b e = cc

go_comes : (w : World) (q : Party) (p i : ℕ) → FramesOk w → (b : Bool) → same_party (Worker p i) q ≡ b → IfSome (outcome w q (w.stack q)) (λ r. Comes p i w (Go q) (result w q (w.stack q) r))
go_comes w q p i fr false e = if_some_map (λ r. (result w q (w.stack q) r).stack (Worker p i) ≡ w.stack (Worker p i)) (λ r. Comes p i w (Go q) (result w q (w.stack q) r)) (λ r z s. inr (ap (λ k. since (k.top)) (sym z) ∙ s, ap (λ b. b && is_anew (act_of q (w.stack q).top)) e))
    (outcome w q (w.stack q)) (stands_go w q (Worker p i) e)
go_comes w q p i fr true e = subst (λ g. IfSome (outcome w g (w.stack g)) (λ r. Comes p i w (Go g) (result w g (w.stack g) r))) (same_party_true me q e) (by (is_announcing (w.stack me).top) refl (since (w.stack me).top && not (is_anew (act_of me (w.stack me).top))) refl)
  where
    me : Party
    me = Worker p i

    self : same_party me me ≡ true
    self = same_party_refl me

    by : (a : Bool) → is_announcing (w.stack me).top ≡ a → (b : Bool) → (since (w.stack me).top && not (is_anew (act_of me (w.stack me).top))) ≡ b → IfSome (outcome w me (w.stack me)) (λ r. Comes p i w (Go me) (result w me (w.stack me) r))
    by true n b g = if_some_all {A = Seen × Part} (λ r. Comes p i w (Go me) (result w me (w.stack me) r)) (λ r s. inl (ap (λ b. b && is_announcing (w.stack me).top) self ∙ n)) (outcome w me (w.stack me))
    by false n true g =
        let h : (since (w.stack me).top ≡ true) × (is_anew (act_of me (w.stack me).top) ≡ false) = both_of (since (w.stack me).top) (is_anew (act_of me (w.stack me).top)) g in
        if_some_all {A = Seen × Part} (λ r. Comes p i w (Go me) (result w me (w.stack me) r)) (λ r s. inr (h.0, ap (λ b. b && is_anew (act_of me (w.stack me).top)) self ∙ h.1)) (outcome w me (w.stack me))
    by false n false g = if_some_map (λ r. since ((result w me (w.stack me) r).stack me).top ≡ false) (λ r. Comes p i w (Go me) (result w me (w.stack me) r)) (λ r z s. absurd (not_both (since ((result w me (w.stack me) r).stack me).top) s z)) (outcome w me (w.stack me)) (own_since w p i fr n g)

step_comes : (w : World) (e : Event) (p i : ℕ) → FramesOk w → IfSome (step w e) (Comes p i w e)
step_comes w (Go q) p i fr = acted w q (Comes p i w (Go q)) (go_comes w q p i fr (same_party (Worker p i) q) refl)
step_comes w e p i fr = one_step (Comes p i w e) w fr e (λ q z. absurd (cc)) (λ u m s. inr (rest_since w u p i fr m s, refl))

-- lists of events
join_lists : (a b c : List Event) → (a ++ b) ++ c ≡ a ++ (b ++ c)
join_lists [] b c = refl
join_lists (x ∷ a) b c = ap (λ l. x ∷ l) (join_lists a b c)

nil_right : (l : List Event) → l ++ [] ≡ l
nil_right [] = refl
nil_right (x ∷ l) = ap (λ z. x ∷ z) (nil_right l)

without_more : (test : World → Event → Bool) (w u v : World) (es : List Event) (e : Event) → IsRunWithout test w es u → test u e ≡ false → step u e ≡ Some v → IsRunWithout test w (es ++ e ∷ []) v
without_more test w u v [] e r t s = (v, subst (λ x. test x e ≡ false) r t, subst (λ x. step x e ≡ Some v) r s, refl)
without_more test w u v (d ∷ es) e (x, calm, one, rest) t s = (x, calm, one, without_more test x u v es e rest t s)

-- the event of an Announce
announce_is : (p i : ℕ) (w : World) (e : Event) → is_announce p i w e ≡ true → (e ≡ Go (Worker p i)) × (is_announcing (w.stack (Worker p i)).top ≡ true)
announce_is p i w (Go q) z =
    let a : (same_party (Worker p i) q ≡ true) × (is_announcing (w.stack q).top ≡ true) = and_parts (same_party (Worker p i) q) (is_announcing (w.stack q).top) z in
    let s : Worker p i ≡ q = same_party_true (Worker p i) q (a.0) in
    (ap Go (sym s), ap (λ r. is_announcing (w.stack r).top) s ∙ a.1)
announce_is p i w e z = cc

announce_more : (h : Shape) (es : List Event) (w v : World) (e : Event) (p i : ℕ) → IsRun (start h) es w → step w e ≡ Some v → (since (w.stack (Worker p i)).top ≡ true → HasAnnounced h es w p i) → since (v.stack (Worker p i)).top ≡ true → HasAnnounced h (es ++ e ∷ []) v p i
announce_more h es w v e p i r z old s = elim (stepped w v e (Comes p i w e) z (step_comes w e p i ((always_awake h es w r).frames)) s) [
  | inl y ↦ (let a : (e ≡ Go (Worker p i)) × (is_announcing (w.stack (Worker p i)).top ≡ true) = announce_is p i w e y in record {
    before = es;
    between = [];
    from = w;
    to = v;
    is = ap (λ d. es ++ d ∷ []) (a.0);
    announces = record { reached = r; place = a.1; made = subst (λ d. step w d ≡ Some v) (a.0) z };
    since = refl;
  })
  | inr y ↦ (let o : HasAnnounced h es w p i = old (y.0) in record {
    before = o.before;
    between = o.between ++ e ∷ [];
    from = o.from;
    to = o.to;
    is = ap (λ l. l ++ e ∷ []) (o.is) ∙ join_lists o.before (Go (Worker p i) ∷ o.between) (e ∷ []);
    announces = o.announces;
    since = without_more (begins_anew p i) o.to w v o.between e (o.since) (y.1) z;
  })
]

announced_on : (h : Shape) (p i : ℕ) (es fs : List Event) (w u : World) → IsRun (start h) es w → (since (w.stack (Worker p i)).top ≡ true → HasAnnounced h es w p i) → IsRun w fs u → since (u.stack (Worker p i)).top ≡ true → HasAnnounced h (es ++ fs) u p i
announced_on h p i es [] w u r old z s = subst (λ l. HasAnnounced h l u p i) (sym (nil_right es)) (subst (λ x. since (x.stack (Worker p i)).top ≡ true → HasAnnounced h es x p i) (sym z) old s)
announced_on h p i es (e ∷ fs) w u r old (v, one, rest) s = subst (λ l. HasAnnounced h l u p i) (join_lists es (e ∷ []) fs) (announced_on h p i (es ++ e ∷ []) fs v u (run_more (start h) w v es e r one) (announce_more h es w v e p i r one old) rest s)

first_since : (h : Shape) (p i : ℕ) → since (first_place h (Worker p i)) ≡ false
first_since h p i = at (nat_lt i (h.pool p).workers) ((h.pool p).callers_own && (i == 0))
  where
    at : (y z : Bool) → since (if y then (if z then Free else ProbeWorking (fresh Termination)) else Stopped) ≡ false
    at true true = refl
    at true false = refl
    at false z = refl

blocking_since : (x : Place) → is_blocking x ≡ true → since x ≡ true
blocking_since (BlockSelf k) e = refl
blocking_since x e = cc

pub announced_law : AnnouncedLaw
announced_law h events u p i r b = announced_on h p i [] events (start h) u refl (λ s. absurd (not_both (since (first_place h (Worker p i))) s (first_since h p i))) r (blocking_since (u.stack (Worker p i)).top b)
