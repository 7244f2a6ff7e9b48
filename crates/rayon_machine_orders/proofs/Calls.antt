-- the law of calls: from the event that begins a call to the world in which its party is back
--
-- The law is `call_law`. It stands on all the records of jobs and calls but `SetsHold`, `KeepersHold` and `ExactHold`.
-- That a scope is empty at its end is `scope_ended` (Early): its body has given back its share of the pool's count.
use Rattle.rayon_machine_laws.proofs.ClaimRuns.{CallsHold, unqueued}
use Rattle.rayon_machine_orders.proofs.Words.{arith, refl, sym, ◌∙◌, ap, subst, inl, inr, ℕ, Bool, true, false, ◌||◌, ◌+◌, ◌-◌, ◌≤◌, ◌<◌, if◌then◌else◌, Option, Some, None, List, ◌∷◌, ◌++◌, ◌≡◌, IfSome, ◌⊎◌, length, eqb-true, ltb-true, ltb-false, append_assoc, length-append, Party, Worker}
use Rattle.rayon_machine_orders.proofs.Words.{Caller, Ending, Scoped, WholeOf, BodyOf, JobKind, Plan, Here, Send, Fork, Open, Gather, Fine, Fault, Count, OfPool, OfScope, OfCast, Share, PoolValue, Body, OfJob, Then, Await, Answers, Ran, GiveBack, Place, LookQueue, PushJob, TakeResult}
use Rattle.rayon_machine_orders.proofs.Words.{LowerCount, BeginTask, LookOwn, LookInj, PushOwn, PushInj, Take, Lower, Event, Over, HandedBack, OpenCall, Slot, Closed, IsOpen, Filled, is_member, plan_pool, plan_job, plan_book, act_of, Shape, Stack, World, step, IsRun, start, HasEnded, Verdict}
use Rattle.rayon_machine_orders.proofs.Words.{follows, ScopeTakes, CastTakes, TakesAs, has_body, ltb, verdict_of, LowersSo, IsRunUntil, is_at_call, is_refusal, is_any, HoldsEnding, StandsOn, is_done, slot_number, Plain, Token, []}
use Rattle.rayon_machine_laws.specs.End.{answered}
use Rattle.rayon_machine_orders.proofs.Books.{is_unfilled}
use Rattle.rayon_machine_orders.proofs.BookEvents.{always_books}
use Rattle.rayon_machine_orders.specs.Calls.{CallLaw, IsGivenBack}
use Rattle.rayon_machine_laws.proofs.Frame.{either}
use Rattle.rayon_machine_laws.proofs.PlacedEvents.{Advance}
use Rattle.rayon_machine_laws.proofs.PlacedRuns.{JobsHold, step_advance}
use Rattle.rayon_machine_laws.proofs.Claims.{Opened, call_kind, PartOf, EndsAs, FirstEnds, is_body, SaysThen, SaysShare, Says}
use Rattle.rayon_machine_laws.proofs.ClaimMakes.{always_calls}
use Rattle.rayon_machine_laws.proofs.Endings.{has_ended, refused_so}
use Rattle.rayon_machine_laws.proofs.Returns.{always_returns, returned_so}
use Rattle.rayon_machine_orders.proofs.Filled.{always_filled, takes_filled}
use Rattle.rayon_machine_orders.proofs.CallPlaces.{Stage, is_undone, Part, PartOpen, PartBody, PartOwed, plan_open, plan_here, Ended, Known, Knows, is_scope_body, plain_takes, body_takes}
use Rattle.rayon_machine_orders.proofs.CallActs.{or_false}
use Rattle.rayon_machine_orders.proofs.CallSteps.{Carries, step_carries, known_on}
use Rattle.rayon_machine_orders.proofs.FaultSteps.{always_faults, is_kept}
use Rattle.rayon_machine_orders.proofs.CallEvents.{whole, CallStands, at_call_no}
use Rattle.rayon_machine_orders.proofs.CallMakes.{all_of, PlanAnswers, PlanTakes, CountBegun, Begun, begun_by}
use Rattle.rayon_machine_laws.proofs.Enters.{always_enters}
use Rattle.rayon_machine_orders.proofs.Fillings.{always_slots}
use Rattle.rayon_machine_orders.proofs.CallStretch.{Ground, Inside, Returned, After, Stays, knows, step_stays}
use Rattle.rayon_machine_laws.proofs.FeederEvents.{always_feeders}
use Rattle.rayon_machine_orders.proofs.Spared.{fills}

pub run_more : (w v u : World) (es : List Event) (e : Event) → IsRun w es v → step v e ≡ Some u → IsRun w (es ++ (e ∷ [])) u
run_more w v u [] e r one = (u, subst (λ x. step x e ≡ Some u) r one, refl)
run_more w v u (a ∷ es) e (x, two, rest) one = (x, two, run_more x v u es e rest one)

pub ground_of : (h : Shape) (es : List Event) (w : World) → IsRun (start h) es w → Ground w
ground_of h es w r = record { calls = always_calls h es w r; filled = always_filled h es w r; returns = always_returns h es w r; feeders = always_feeders h es w r; faults = always_faults h es w r; books = always_books h es w r; slots = always_slots h es w r; enters = always_enters h es w r }

pub or_assoc : (a b c : Bool) → ((a || b) || c) ≡ (a || (b || c))
or_assoc true b c = refl
or_assoc false b c = refl

-- from the call's event to any world up to its end
stretch : (h : Shape) (before : List Event) (w : World) (q : Party) (s : Stack) (n : Plan) (u : World) (es : List Event) (r : Bool) → IsRun (start h) before w → Inside w q s n r → IsRunUntil q s w es u → After u q s n (r || is_any (is_refusal q s) (Some w) es)
stretch h before w q s n u [] r run i same = subst (λ v. After v q s n (r || false)) (sym same) (subst (λ b. After w q s n b) (or_false r) (inl i))
stretch h before w q s n u (e ∷ es) r run i (v, opened, one, rest) =
    let next : IsRun (start h) (before ++ (e ∷ [])) v = run_more (start h) w v before e run one in
    let d : Ground w = ground_of h before w run in
    let adv : Advance w v = (let f : IfSome (Some v) (Advance w) = subst (λ o. IfSome o (Advance w)) one (step_advance w e (unqueued w d.calls) ((d.calls.jobs).feeds) ((d.calls.jobs).ok) ((d.calls.jobs).unmade)) in f) in
    let st : Stays w e q s n r v = (let f : IfSome (Some v) (Stays w e q s n r) = subst (λ o. IfSome o (Stays w e q s n r)) one (step_stays w e q s n r d i) in f) in
    let b : Bool = is_refusal q s w e in
    elim (st one (ground_of h (before ++ (e ∷ [])) v next) adv) [
      | inl k ↦ subst (λ c. After u q s n c) (or_assoc r b (is_any (is_refusal q s) (Some v) es) ∙ ap (λ o. r || (b || is_any (is_refusal q s) o es)) (sym one)) (stretch h (before ++ (e ∷ [])) v q s n u es (r || b) next k rest)
      | inr k ↦ over v b k one es rest
    ]
  where
    over : (v : World) (b : Bool) → Returned v q s n (r || b) → step w e ≡ Some v → (es : List Event) → IsRunUntil q s v es u → After u q s n (r || (b || is_any (is_refusal q s) (step w e) es))
    over v b k one [] same = subst (λ x. After x q s n (r || (b || is_any (is_refusal q s) (step w e) []))) (sym same) (subst (λ c. After v q s n c) (ap (λ c. r || c) (or_false b) ∙ ap (λ o. r || (b || is_any (is_refusal q s) o [])) (sym one)) (inr k))
    over v b k one (a ∷ gs) (x, opened, two, rest) = absurd (opened k.back)

-- only one place takes from a cell
record Takes (x : Place) (c : ℕ) : Type 0 where
  opened : OpenCall
  first : Option Ending
  is : x ≡ TakeResult opened first
  number : opened.number ≡ c

some_opened : (m o : OpenCall) → Some m ≡ Some o → m ≡ o
some_opened m o e = cc

take_of : {a b : ℕ} → Take a ≡ Take b → a ≡ b
take_of e = cc

taker : (q : Party) (x : Place) (c : ℕ) → act_of q x ≡ Take c → Takes x c
taker (Worker i j) (TakeResult o f) c e = record { opened = o; first = f; is = refl; number = take_of e }
taker (Caller i) (TakeResult o f) c e = record { opened = o; first = f; is = refl; number = take_of e }
taker (Worker i j) (LookQueue n) c e = absurd (by (is_member (Worker i j) (plan_pool n)) e)
  where
    by : (b : Bool) → (if b then LookOwn else LookInj (plan_pool n)) ≡ Take c → ⊥
    by true z = cc
    by false z = cc
taker (Worker i j) (PushJob n v) c e = absurd (by (is_member (Worker i j) (plan_pool n)) e)
  where
    by : (b : Bool) → (if b then PushOwn (plan_job n) (plan_book n) else PushInj (plan_pool n) (plan_job n) (plan_book n)) ≡ Take c → ⊥
    by true z = cc
    by false z = cc
taker q (BeginTask (Plain t)) c e = absurd (begun q e)
  where
    begun : (q : Party) → act_of q (BeginTask (Plain t)) ≡ Take c → ⊥
    begun (Worker i j) z = cc
    begun (Caller i) z = cc
taker q (BeginTask (Token k l b)) c e = absurd (begun q e)
  where
    begun : (q : Party) → act_of q (BeginTask (Token k l b)) ≡ Take c → ⊥
    begun (Worker i j) z = cc
    begun (Caller i) z = cc
taker (Worker i j) _ c e = absurd (cc)
taker (Caller i) _ c e = absurd (cc)

-- what stands on a stack is no longer it
pub stands_apart : (n : Plan) (r : Stage) (s k : Stack) → CallStands n r s k → k ≡ s → ⊥
stands_apart n r s k h e =
    let a : length (whole k) ≡ length (h.above ++ (h.place ∷ whole s)) = ap length h.is in
    let b : length (h.above ++ (h.place ∷ whole s)) ≡ length h.above + length (h.place ∷ whole s) = length-append h.above (h.place ∷ whole s) in
    let c : length (whole k) ≡ length (whole s) = ap (λ x. length (whole x)) e in omega (arith, a, b, c)

stands_on : (s k : Stack) (above : List Place) (place : Place) → whole k ≡ above ++ (place ∷ whole s) → StandsOn s k
stands_on s k [] place e = record { more = []; is = (let a : k.below ≡ whole s = cc in a) }
stands_on s k (a ∷ gs) place e = record { more = gs ++ (place ∷ []); is = (let b : k.below ≡ gs ++ (place ∷ whole s) = cc in b) ∙ sym (append_assoc gs (place ∷ []) (whole s)) }

call_stands : (u : World) (q : Party) (s : Stack) (n : Plan) (r : Bool) → After u q s n r → StandsOn s (u.stack q) ⊎ (u.stack q ≡ s)
call_stands u q s n r (inl i) = inl (stands_on s (u.stack q) i.stands.above i.stands.place i.stands.is)
call_stands u q s n r (inr k) = inr k.back

at_place : (n : Plan) (r : Stage) (s k : Stack) (above : List Place) (place : Place) → whole k ≡ above ++ (place ∷ whole s) → is_at_call s k ≡ true → Part n r place → Part n r k.top
at_place n r s k [] place e z p = (let a : k.top ≡ place = cc in subst (λ x. Part n r x) (sym a) p)
at_place n r s k (a ∷ gs) place e z p = absurd (let b : k.below ≡ gs ++ (place ∷ whole s) = cc in let c : is_at_call s k ≡ false = at_call_no s k gs place b in cc)

not_at_itself : (s : Stack) → is_at_call s s ≡ true → ⊥
not_at_itself s e = let a : length s.below ≡ length s.below + 1 = eqb-true (length s.below) (length s.below + 1) e in omega (arith, a)

-- the cell of a call that is no broadcast holds how its job ended
own_end : (u : World) → CallsHold u → (c : ℕ) (e : Ending) → has_body (u.job (u.call c).job).kind ≡ true → EndsAs u (u.call c).job c e → (u.job (u.call c).job).at ≡ Over e
own_end u h c e f (inl a) = a
own_end u h c e f (inr p) = absurd (let a : PartOf u p.job c p.owner = h.parts p.job p.made c p.owner p.kind in let k : has_body (u.job (u.call c).job).kind ≡ false = ap has_body (a.kind) in let n : true ≡ false = sym f ∙ k in cc)

holds_end : (u : World) → Ground u → (q : Party) (o : OpenCall) (f : Option Ending) → (u.stack q).top ≡ TakeResult o f → has_body (u.job o.job).kind ≡ true → HoldsEnding u o.number o.job
holds_end u g q o f z b = by ((u.call o.number).cell) refl
  where
    says : Opened u q o × FirstEnds u (u.call o.number).first f
    says = subst (λ x. Says u q x) z ((g.calls.says q).top)

    own : (u.call o.number).job ≡ o.job
    own = (says.0).target

    by : (e : Option Ending) → (u.call o.number).cell ≡ e → HoldsEnding u o.number o.job
    by None y = absurd (takes_filled u g.filled q o f z y)
    by (Some e) y = record { ending = e; cell = y; job = subst (λ x. HasEnded u x e) own (has_ended u (g.calls.jobs) ((u.call o.number).job) e (own_end u g.calls o.number e (ap (λ x. has_body (u.job x).kind) own ∙ b) (g.calls.cells o.number e y))) }

plain_body : (k : JobKind) → is_body k ≡ false → has_body k ≡ true
plain_body (WholeOf c o) b = cc
plain_body _ b = refl

scope_body : (k : JobKind) → is_scope_body k ≡ true → has_body k ≡ true
scope_body (WholeOf c o) b = cc
scope_body _ b = refl

-- the parts of what a kind says of its call
abbrev call_first : Option (ℕ × Party) → ℕ
call_first None = 0
call_first (Some v) = v.0

abbrev call_second : Party → Option (ℕ × Party) → Party
call_second q None = q
call_second q (Some v) = v.1

-- whose job it is that a party waits for
scope_is : (k : JobKind) (n : ℕ) (q : Party) → is_scope_body k ≡ true → call_kind k ≡ Some (n, q) → k ≡ BodyOf n q
scope_is (BodyOf c o) n q b e = let i : c ≡ n = ap call_first e in let j : o ≡ q = ap (call_second q) e in ap (λ x. BodyOf x o) i ∙ ap (BodyOf n) j
scope_is _ n q b e = cc

whole_is : (k : JobKind) (n m : ℕ) (q o : Party) → k ≡ WholeOf m o → call_kind k ≡ Some (n, q) → k ≡ WholeOf n q
whole_is (WholeOf c p) n m q o b e = let i : c ≡ n = ap call_first e in let j : p ≡ q = ap (call_second q) e in ap (λ x. WholeOf x p) i ∙ ap (WholeOf n) j
whole_is _ n m q o b e = cc

waits_for : (u : World) → Ground u → (q : Party) (o : OpenCall) (f : Option Ending) → (u.stack q).top ≡ TakeResult o f → call_kind (u.job o.job).kind ≡ Some (o.number, q)
waits_for u g q o f z = let says : Opened u q o × FirstEnds u (u.call o.number).first f = subst (λ x. Says u q x) z ((g.calls.says q).top) in (says.0).kind

-- what a call of this plan finds
finds : (u : World) → Ground u → (q : Party) (n : Plan) (r : Stage) (o : OpenCall) (f : Option Ending) → Known u n → plan_open n ≡ Some o → (u.stack q).top ≡ TakeResult o f → PlanTakes u n o.number
finds u g q (Send m) r o f k e z = let i : m ≡ o = some_opened m o e in subst (λ x. HoldsEnding u o.number x.job) (sym i) (holds_end u g q o f z (subst (λ x. has_body (u.job x.job).kind ≡ true) i (plain_body ((u.job m.job).kind) ((k.2).sort))))
finds u g q (Fork m a) r o f k e z = let i : m ≡ o = some_opened m o e in subst (λ x. HoldsEnding u o.number x.job) (sym i) (holds_end u g q o f z (subst (λ x. has_body (u.job x.job).kind ≡ true) i (plain_body ((u.job m.job).kind) ((k.2).sort))))
finds u g q (Open m) r o f k e z = let i : m ≡ o = some_opened m o e in (
  subst (λ x. HoldsEnding u o.number x.job) (sym i) (holds_end u g q o f z (subst (λ x. has_body (u.job x.job).kind ≡ true) i (scope_body ((u.job m.job).kind) ((k.2).sort)))),
  (is_kept u g.faults).take q o f z
      (scope_is ((u.job o.job).kind) o.number q (subst (λ x. is_scope_body (u.job x.job).kind ≡ true) i ((k.2).sort)) (waits_for u g q o f z)),
)
finds u g q (Gather m) r o f k e z = let i : m.call ≡ o = some_opened m.call o e in (is_kept u g.faults).cast q o f z (whole_is ((u.job o.job).kind) o.number m.call.number q k.owner (ap (λ x. (u.job x.job).kind) (sym i) ∙ k.whole) (waits_for u g q o f z))
finds u g q _ r o f k e z = absurd (cc)

found_at : (u : World) → Ground u → (q : Party) (n : Plan) (r : Stage) (c : ℕ) → Known u n → Part n r (u.stack q).top → Takes (u.stack q).top c → PlanTakes u n c
found_at u g q n r c k p t = subst (PlanTakes u n) t.number (finds u g q n r t.opened t.first k part.0 t.is)
  where
    part : PartOpen n r t.opened
    part = subst (λ x. Part n r x) t.is p

-- only one place lowers a count
record Lowers (x : Place) (p : Count) (h : Share) : Type 0 where
  pool : Count
  share : Share
  after : Then
  is : x ≡ LowerCount pool share after
  same : pool ≡ p

lower_of : {a b : Count} {h g : Share} → Lower a h ≡ Lower b g → a ≡ b
lower_of e = cc

lowerer : (q : Party) (x : Place) (p : Count) (h : Share) → act_of q x ≡ Lower p h → Lowers x p h
lowerer (Worker i j) (LowerCount r s t) p h e = record { pool = r; share = s; after = t; is = refl; same = lower_of e }
lowerer (Caller i) (LowerCount r s t) p h e = record { pool = r; share = s; after = t; is = refl; same = lower_of e }
lowerer (Worker i j) (LookQueue n) p h e = absurd (by (is_member (Worker i j) (plan_pool n)) e)
  where
    by : (b : Bool) → (if b then LookOwn else LookInj (plan_pool n)) ≡ Lower p h → ⊥
    by true z = cc
    by false z = cc
lowerer (Worker i j) (PushJob n v) p h e = absurd (by (is_member (Worker i j) (plan_pool n)) e)
  where
    by : (b : Bool) → (if b then PushOwn (plan_job n) (plan_book n) else PushInj (plan_pool n) (plan_job n) (plan_book n)) ≡ Lower p h → ⊥
    by true z = cc
    by false z = cc
lowerer q (BeginTask (Plain t)) p h e = absurd (begun q e)
  where
    begun : (q : Party) → act_of q (BeginTask (Plain t)) ≡ Lower p h → ⊥
    begun (Worker i j) z = cc
    begun (Caller i) z = cc
lowerer q (BeginTask (Token k l b)) p h e = absurd (begun q e)
  where
    begun : (q : Party) → act_of q (BeginTask (Token k l b)) ≡ Lower p h → ⊥
    begun (Worker i j) z = cc
    begun (Caller i) z = cc
lowerer (Worker i j) _ p h e = absurd (cc)
lowerer (Caller i) _ p h e = absurd (cc)

-- a pool's count
record PoolOf (k : Count) : Type 0 where
  pool : ℕ
  is : k ≡ OfPool pool

-- what the call's own Lower says of its answer
open_answers : (u : World) → JobsHold u → (n : Plan) (o : OpenCall) (f : Option Ending) (d : Ending) → Known u n → Knows u o f d → plan_open n ≡ Some o → PlanAnswers u n (answered f d)
open_answers u h (Send m) o f d k y e = by f d (subst (λ x. FirstEnds u x f) (k.1) z.side) (plain_takes u m d ((u.job m.job).kind) ((k.2).sort) z.took)
  where
    z : Knows u m f d
    z = subst (λ x. Knows u x f d) (sym (some_opened m o e)) y

    by : (f : Option Ending) (d : Ending) → FirstEnds u None f → HasEnded u m.job d → PlanAnswers u (Send m) (answered f d)
    by (Some g) d a b = absurd a
    by None Fault a b = b
    by None Fine a b = b
open_answers u h (Open m) o f d k y e = by f d (subst (λ x. FirstEnds u x f) (k.1) z.side) (body_takes u m d ((u.job m.job).kind) ((k.2).sort) z.took)
  where
    z : Knows u m f d
    z = subst (λ x. Knows u x f d) (sym (some_opened m o e)) y

    by : (f : Option Ending) (d : Ending) → FirstEnds u None f → ScopeTakes u m.number d → PlanAnswers u (Open m) (answered f d)
    by (Some g) d a b = absurd a
    by None Fault a b = (z.own, b)
    by None Fine a b = (z.own, b)
open_answers u h (Gather g) o f d k y e = by f d (subst (λ x. FirstEnds u x f) k.alone z.side) (subst (λ x. TakesAs u g.call x d) k.whole z.took)
  where
    z : Knows u g.call f d
    z = subst (λ x. Knows u x f d) (sym (some_opened g.call o e)) y

    by : (f : Option Ending) (d : Ending) → FirstEnds u None f → CastTakes u g.call.number d → PlanAnswers u (Gather g) (answered f d)
    by (Some x) d a b = absurd a
    by None Fault a b = (z.own, b)
    by None Fine a b = (z.own, b)
open_answers u h (Fork m t) o f d k y e = by f d (subst (λ x. FirstEnds u x f) (k.1) z.side) (plain_takes u m d ((u.job m.job).kind) ((k.2).sort) z.took)
  where
    z : Knows u m f d
    z = subst (λ x. Knows u x f d) (sym (some_opened m o e)) y

    by : (f : Option Ending) (d : Ending) → FirstEnds u (Some t) f → HasEnded u m.job d → PlanAnswers u (Fork m t) (answered f d)
    by None d a b = absurd a
    by (Some Fault) d a b = has_ended u h t Fault a
    by (Some Fine) Fault a b = (b, has_ended u h t Fine a)
    by (Some Fine) Fine a b = (b, has_ended u h t Fine a)
open_answers u h _ o f d k y e = absurd (cc)

here_answers : (u : World) → JobsHold u → (n : Plan) (t : ℕ) (d : Ending) → (u.job t).at ≡ Over d → plan_here n ≡ Some t → PlanAnswers u n (answered None d)
here_answers u h (Here p i) t d z e = by d (let a : i ≡ t = cc in subst (λ x. (u.job x).at ≡ Over d) (sym a) z)
  where
    by : (d : Ending) → (u.job i).at ≡ Over d → PlanAnswers u (Here p i) (answered None d)
    by Fault b = has_ended u h i Fault b
    by Fine b = has_ended u h i Fine b
here_answers u h _ t d z e = absurd (cc)

then_answers : (u : World) → JobsHold u → (q : Party) (n : Plan) (r : Stage) (t : Then) (P : Option Verdict → Type 0) → ((x : Verdict) → PlanAnswers u n x → P (Some x)) → Known u n → ((o : OpenCall) (f : Option Ending) (e : Ending) → t ≡ Answers o f e → Knows u o f e) → SaysThen u q t
    → is_undone r ≡ false → PartOwed n r t → P (verdict_of (Some t))
then_answers u h q n r (Answers o f e) P g k v s d y = g (answered f e) (open_answers u h n o f e k (v o f e refl) (y.0))
then_answers u h q n r (Ran t e) P g k v s d y = g (answered None e) (here_answers u h n t e s (y.0))
then_answers u h q n r (GiveBack m) P g k v s d y = absurd (let b : is_undone r ≡ true = ap is_undone (y.1) in cc)
then_answers u h q n r _ P g k v s d y = absurd y

-- and what a scope's own Lower says of its body
body_over : (u : World) (q : Party) (n : Plan) (r : Stage) (k : Count) (t : Then) (P : Count → Option Verdict → Type 0) → ((o : OpenCall) (c : ℕ) (d : Party) → n ≡ Open o → o.number ≡ c → Ended u o.job → P (OfScope c d) None) → SaysThen u q t → SaysShare u k Body t → PartBody n r t
    → P k (verdict_of (Some t))
body_over u q n r (OfScope c d) (Await o) P g s h y = g o c d (y.0) (h.2) (let a : (u.call c).job ≡ o.job = ap (λ x. (u.call x).job) (sym (h.2)) ∙ (s.0).target in subst (Ended u) a (h.1))
body_over u q n r (OfScope c d) _ P g s h y = absurd y
body_over u q n r _ t P g s h y = absurd h

-- a scope's count is lowered with no answer
answers_pool : (u : World) (k : Count) (t : ℕ) (n : Plan) (r : Stage) (e : Then) → SaysShare u k (OfJob t) e → PartOwed n r e → is_undone r ≡ false → PoolOf k
answers_pool u (OfPool p) t n r e s y d = record { pool = p; is = refl }
answers_pool u (OfScope c o) t n r (Answers m f e) s y d = absurd (s.3)
answers_pool u (OfScope c o) t n r (Ran m e) s y d = absurd (s.3)
answers_pool u (OfScope c o) t n r (GiveBack m) s y d = absurd (let a : is_undone r ≡ true = ap is_undone (y.1) in cc)
answers_pool u (OfCast c o) t n r e s y d = absurd (subst (PartOwed n r) (s.4) y)
answers_pool u (OfScope c o) t n r _ s y d = absurd y

-- what a call says at its own Lower, by whose share it gives back
lower_answers : (u : World) → JobsHold u → (q : Party) (n : Plan) (r : Stage) (k : Count) (h : Share) (t : Then) (P : Count → Option Verdict → Type 0) → ((p : ℕ) (x : Verdict) → PlanAnswers u n x → P (OfPool p) (Some x))
    → ((o : OpenCall) (c : ℕ) (d : Party) → n ≡ Open o → o.number ≡ c → Ended u o.job → P (OfScope c d) None) → Known u n → ((o : OpenCall) (f : Option Ending) (e : Ending) → t ≡ Answers o f e → Knows u o f e) → Says u q (LowerCount k h t) → is_undone r ≡ false
    → Part n r (LowerCount k h t) → P k (verdict_of (Some t))
lower_answers u j q n r k PoolValue t P f g l b s d y = absurd y
lower_answers u j q n r k Body t P f g l b s d y = body_over u q n r k t P g (s.0) (s.1) y
lower_answers u j q n r k (OfJob a) t P f g l b s d y = let z : PoolOf k = answers_pool u k a n r t (s.1) (y.1) d in subst (λ v. P v (verdict_of (Some t))) (sym z.is) (then_answers u j q n r t (P (OfPool z.pool)) (f z.pool) l b (s.0) d (y.1))

call_answers : (u : World) → Ground u → (q : Party) (s : Stack) (n : Plan) (r : Bool) (p : Count) (h : Share) (P : Count → Option Verdict → Type 0) → ((c : ℕ) (x : Verdict) → PlanAnswers u n x → P (OfPool c) (Some x))
    → ((o : OpenCall) (c : ℕ) (d : Party) → n ≡ Open o → o.number ≡ c → Ended u o.job → P (OfScope c d) None) → After u q s n r → is_at_call s (u.stack q) ≡ true → act_of q (u.stack q).top ≡ Lower p h → r ≡ false → P p (verdict_of (follows (u.stack q).top))
call_answers u g q s n r p h P f b (inr k) z a d = absurd (not_at_itself s (subst (λ x. is_at_call s x ≡ true) k.back z))
call_answers u g q s n r p h P f b (inl i) z a d =
    let l : Lowers (u.stack q).top p h = lowerer q ((u.stack q).top) p h a in
    let y : Part n i.stage (LowerCount l.pool l.share l.after) = subst (λ x. Part n i.stage x) l.is (at_place n i.stage s (u.stack q) i.stands.above i.stands.place i.stands.is z i.stands.part) in
    let e : Says u q (LowerCount l.pool l.share l.after) = subst (λ x. Says u q x) l.is ((g.calls.says q).top) in
    subst (λ x. P p (verdict_of (follows x))) (sym l.is)
    (subst (λ x. P x (verdict_of (Some l.after))) l.same (lower_answers u (g.calls.jobs) q n i.stage l.pool l.share l.after P f b i.known (λ o v x m. knows u q ((u.stack q).top) ((u.stack q).below) o v x refl g (ap follows l.is ∙ ap Some m)) e (i.flag ∙ d) y))

call_takes : (u : World) → Ground u → (q : Party) (s : Stack) (n : Plan) (r : Bool) (c : ℕ) → After u q s n r → is_at_call s (u.stack q) ≡ true → act_of q (u.stack q).top ≡ Take c → PlanTakes u n c
call_takes u g q s n r c (inl i) z a = found_at u g q n i.stage c i.known (at_place n i.stage s (u.stack q) i.stands.above i.stands.place i.stands.is z i.stands.part) (taker q ((u.stack q).top) c a)
call_takes u g q s n r c (inr k) z a = absurd (not_at_itself s (subst (λ x. is_at_call s x ≡ true) k.back z))

is_returned : (u : World) (q : Party) (s : Stack) (n : Plan) (r : Bool) → After u q s n r → u.stack q ≡ s → Returned u q s n r
is_returned u q s n r (inl i) z = absurd (stands_apart n i.stage s (u.stack q) i.stands z)
is_returned u q s n r (inr k) z = k

pub run_on : (h : Shape) (before : List Event) (w : World) (q : Party) (s : Stack) (u : World) (es : List Event) → IsRun (start h) before w → IsRunUntil q s w es u → Ground u
run_on h before w q s u [] run same = subst Ground (sym same) (ground_of h before w run)
run_on h before w q s u (e ∷ es) run (v, opened, one, rest) = run_on h (before ++ (e ∷ [])) v q s u es (run_more (start h) w v before e run one) rest

-- a call waits for the same job
until_target : (w : World) (q : Party) (s : Stack) (es : List Event) (u : World) → IsRunUntil q s w es u → (c : ℕ) → c + 1 ≤ w.calls → (u.call c).job ≡ (w.call c).job
until_target w q s [] u same c l = subst (λ v. (v.call c).job ≡ (w.call c).job) (sym same) refl
until_target w q s (e ∷ es) u (v, opened, one, rest) c l = let f : Carries w v = (let g : IfSome (Some v) (Carries w) = subst (λ o. IfSome o (Carries w)) one (step_carries w e) in g) in until_target v q s es u rest c ((f.sides c l).0) ∙ (f.sides c l).2

-- and a job is bound to the same worker
pub until_bound : (w : World) (q : Party) (s : Stack) (es : List Event) (u : World) → IsRunUntil q s w es u → (t : ℕ) → t + 1 ≤ w.jobs → (u.job t).bound ≡ (w.job t).bound
until_bound w q s [] u same t l = subst (λ v. (v.job t).bound ≡ (w.job t).bound) (sym same) refl
until_bound w q s (e ∷ es) u (v, opened, one, rest) t l = let f : Carries w v = (let g : IfSome (Some v) (Carries w) = subst (λ o. IfSome o (Carries w)) one (step_carries w e) in g) in until_bound v q s es u rest t ((f.made t l).0) ∙ f.bound t l

-- what it knows at its end
until_known : (w : World) (q : Party) (s : Stack) (es : List Event) (u : World) → IsRunUntil q s w es u → (n : Plan) → Known w n → Known u n
until_known w q s [] u same n k = subst (λ v. Known v n) (sym same) k
until_known w q s (e ∷ es) u (v, opened, one, rest) n k = let f : Carries w v = (let g : IfSome (Some v) (Carries w) = subst (λ o. IfSome o (Carries w)) one (step_carries w e) in g) in until_known v q s es u rest n (known_on w v f n k)

-- a job that is handed back
pub given_back : (u : World) → Ground u → (t : ℕ) → (u.job t).at ≡ HandedBack → IsGivenBack u t
given_back u g t i = record { at = i; untouched = (refused_so u (g.calls.jobs)).gone t i; share = share; number = λ c n o k z. number c n o k ((u.job t).slot) refl z }
  where
    share : (u.job t).counted ≡ false
    share = (returned_so u g.returns).gone t i

    shut : (c n : ℕ) (o : Party) → (u.job t).kind ≡ Scoped c o → (u.job t).slot ≡ IsOpen n → (ltb t u.jobs ≡ true) ⊎ (ltb t u.jobs ≡ false) → ⊥
    shut c n o k z (inl l) = absurd (let m : t + 1 ≤ u.jobs = (let b : t < u.jobs = ltb-true t u.jobs l in omega (arith, b)) in let a : (u.job t).counted ≡ true = (g.books).counted t m c o k (ap is_unfilled z) in let d : true ≡ false = sym a ∙ share in cc)
    shut c n o k z (inr l) = absurd (let a : (u.job t).slot ≡ Closed = (g.books).unmade t (ltb-false t u.jobs l) in let d : Closed ≡ IsOpen n = sym a ∙ z in cc)

    -- what is filled is over, and what is handed back is not
    number : (c n : ℕ) (o : Party) → (u.job t).kind ≡ Scoped c o → (s : Slot) → (u.job t).slot ≡ s → slot_number s ≡ Some n → ⊥
    number c n o k Closed e z = cc
    number c n o k (IsOpen m) e z = shut c m o k e (either (ltb t u.jobs))
    number c n o k (Filled m) e z = absurd (let a : fills (u.job t).slot ≡ 1 = ap fills e in let b : is_done (u.job t).at ≡ true = (g.slots).over t (omega (arith, a)) in let d : is_done (u.job t).at ≡ false = ap is_done i in let f : true ≡ false = sym b ∙ d in cc)

pub call_law : CallLaw
call_law h before q e w v u between b run =
    let begun : Begun w v q e = (let f : IfSome (Some v) (λ x. Begun w x q e) = subst (λ o. IfSome o (λ x. Begun w x q e)) b.made (begun_by w q e b.caller) in f) in
    let s : Stack = w.stack q in
    let next : IsRun (start h) (before ++ (e ∷ [])) v = run_more (start h) w v before e b.reached b.made in
    let g : Ground u = run_on h (before ++ (e ∷ [])) v q s u between next run in
    let n : Plan = begun.plan in
    let r : Bool = is_any (is_refusal q s) (Some v) between in
    let a : After u q s n r = stretch h (before ++ (e ∷ [])) v q s n u between false next begun.inside run in
    record {
      made = begun.made;
      bound = λ y t l m. (let c : (t + 1 ≤ v.jobs) × ((v.job t).bound ≡ Some (t - w.jobs)) = begun.bound y t l m in until_bound v q s between u run t (c.0) ∙ c.1);
      stands = call_stands u q s n r a;
      takes = λ c z y. begun.takes u c (call_takes u g q s n r c a z y);
      answers = λ y p i z x d. call_answers u g q s n r p i (λ k. LowersSo e k u w.calls w.jobs (v.jobs - 1)) (begun.answer u) (λ o c b j m z. begun.body u (g.calls.jobs) o c b j m z) a z x d;
      pays = λ z y. subst (λ t. (u.job t).counted ≡ false) (begun.last (begun.awaited y)) ((is_returned u q s n r a z).paid (begun.awaited y));
      ends = λ z y t l m. begun.leaves u (g.calls.jobs) t (begun.numbers t l m) ((is_returned u q s n r a z).ends y);
      empties = λ z i y. (let c : CountBegun w v n = begun.scope i in let k : Returned u q s n r = is_returned u q s n r a z in c.ended u ((g.books).early) g.enters (until_target v q s between u run w.calls c.calls ∙ c.target) (until_known v q s between u run n begun.inside.known)
          (k.ends y) (k.left y) (k.paid c.awaited));
      refused = λ z y t l m. given_back u g t (all_of (λ x. (u.job x).at ≡ HandedBack) t n (begun.numbers t l m) ((is_returned u q s n r a z).refused y));
    }
