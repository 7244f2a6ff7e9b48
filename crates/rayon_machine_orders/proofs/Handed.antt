-- a worker that is alone in its pool begins the jobs of its deque as the token list hands them out
--
-- The law is `token_law`. `Held`: the token list is the deque, or has what was taken besides.
use Rattle.rayon_machine_laws.proofs.ClaimMakes.{always_calls}
use Rattle.rayon_machine_orders.proofs.Words.{arith, refl, sym, ◌∙◌, ap, subst, inl, inr, ℕ, Bool, true, false, ◌==◌, ◌≤◌, if◌then◌else◌, Option, Some, None, List, [], ◌∷◌, ◌++◌, ◌≡◌, ◌⊎◌, IfSome, eq-eqb, Order, Party, Worker, Then, BeginFound, Place, LeaveSearch, BeginTask, BeginHere}
use Rattle.rayon_machine_orders.proofs.Words.{LockToWake, WakeWorker, UnlockWoken, LowerCount, SetLatch, LockToSettle, WakeSettled, UnlockSettled, SetLockLatch, Event, IsRun, start, step, Shape, World, but_last, put_list, same_list, taken_as, one, times, Happening, Adds, Queues, Retakes, Begins}
use Rattle.rayon_machine_orders.proofs.Words.{Redeems, happening, happened, and_next, happenings, Hands, TokenList, IsLeft, Change, Changes, Joins, Leaves, Comes, Plain, Token, Taken, taken_number}
use Rattle.rayon_machine_laws.proofs.ClaimRuns.{CallsHold}
use Rattle.rayon_machine_orders.specs.Order.{TokenLaw}
use Rattle.rayon_machine_laws.proofs.Attended.{always_shape}
use Rattle.rayon_machine_orders.proofs.Dealing.{Deals, step_deals}
use Rattle.rayon_machine_laws.proofs.Emptied.{ListsOk, always_lists}
use Rattle.rayon_machine_laws.proofs.Events.{run_keeps}
use Rattle.rayon_machine_laws.proofs.Hands.{hand, hand_then, hand_found, held}
use Rattle.rayon_machine_laws.proofs.Located.{loc_at, is_loc, where_is, unbegun, Hand, Deck, Line}
use Rattle.rayon_machine_orders.proofs.Lone.{always_honest, taken, taken_then}
use Rattle.rayon_machine_orders.proofs.Lined.{told, Lined, lined_on}
use Rattle.rayon_machine_laws.proofs.Placed.{same_number}
use Rattle.rayon_machine_laws.proofs.Frame.{same_list_true, same_list_refl}
use Rattle.rayon_machine_laws.proofs.PlacedRuns.{JobsHold}

-- a world that a run from a start leads to
pub record Reached (h : Shape) (w : World) : Type 0 where
  pub events : List Event
  pub run : IsRun (start h) events w

run_on : (w u v : World) (es : List Event) (e : Event) → IsRun w es u → step u e ≡ Some v → IsRun w (es ++ e ∷ []) v
run_on w u v [] e r s = (v, subst (λ z. step z e ≡ Some v) r s, refl)
run_on w u v (d ∷ es) e (x, one, rest) s = (x, one, run_on x u v es e rest s)

pub reach_on : (h : Shape) (w v : World) (e : Event) → Reached h w → step w e ≡ Some v → Reached h v
reach_on h w v e r s = record { events = r.events ++ e ∷ []; run = run_on (start h) w v r.events e r.run s }

pub reached_calls : (h : Shape) (w : World) → Reached h w → CallsHold w
reached_calls h w r = always_calls h r.events w r.run

pub reached_jobs : (h : Shape) (w : World) → Reached h w → JobsHold w
reached_jobs h w r = (always_calls h r.events w r.run).jobs

pub reached_lists : (h : Shape) (w : World) → Reached h w → ListsOk w
reached_lists h w r = always_lists h r.events w r.run

pub reached_shape : (h : Shape) (w : World) → Reached h w → w.shape ≡ h
reached_shape h w r = always_shape h r.events w r.run

-- what a party has taken it has in hand
self : (t : ℕ) → one (t == t) ≡ 1
self t = ap one (eq-eqb t t refl)

then_hand : (n : Then) (x : Taken) → taken_then n ≡ Some x → 1 ≤ hand_then (taken_number x) n
then_hand (BeginFound g y) x e = let k : y ≡ x = cc in subst (λ z. 1 ≤ one (taken_number z == taken_number y)) k (let s : one (taken_number y == taken_number y) ≡ 1 = self (taken_number y) in omega (arith, s))
then_hand _ x e = absurd (cc)

found_hand : (o : Option Taken) (x : Taken) → o ≡ Some x → 1 ≤ hand_found (taken_number x) o
found_hand (Some y) x e = let k : y ≡ x = cc in subst (λ z. 1 ≤ one (taken_number z == taken_number y)) k (let s : one (taken_number y == taken_number y) ≡ 1 = self (taken_number y) in omega (arith, s))
found_hand None x e = absurd (cc)

taken_hand : (y : Place) (x : Taken) → taken y ≡ Some x → 1 ≤ hand (taken_number x) y
taken_hand (LeaveSearch k) x e = found_hand k.found x e
taken_hand (LockToWake k) x e = then_hand k.then x e
taken_hand (WakeWorker k) x e = then_hand k.then x e
taken_hand (UnlockWoken k) x e = then_hand k.then x e
taken_hand (LowerCount p s n) x e = then_hand n x e
taken_hand (SetLatch s) x e = then_hand s.then x e
taken_hand (SetLockLatch c n) x e = then_hand n x e
taken_hand (LockToSettle s) x e = then_hand s.then x e
taken_hand (WakeSettled s) x e = then_hand s.then x e
taken_hand (UnlockSettled s) x e = then_hand s.then x e
taken_hand (BeginTask y) x e = found_hand (Some y) x e
taken_hand (BeginHere u) x e = found_hand (Some (Plain u)) x e
taken_hand _ x e = absurd (cc)

-- a job in hand was never begun and stands in no deque
pub in_hand : (w : World) (q : Party) (t : ℕ) → JobsHold w → 1 ≤ hand t (w.stack q).top → ((w.job t).runs ≡ 0) × ((p i : ℕ) → times t (w.seat p i).own ≡ 0)
in_hand w q t h e =
    let a : held t (w.stack q) ≡ is_loc (Hand q) (loc_at (w.job t)) = ((h.ok).placed) (Hand q) t in
    let at : loc_at (w.job t) ≡ Some (Hand q) = where_is (Hand q) (loc_at (w.job t)) (omega (arith, a, e)) in
    (unbegun ((w.job t).at) ((w.job t).runs) (Hand q) refl at, λ p i. (let b : times t (w.seat p i).own ≡ is_loc (Deck p i) (loc_at (w.job t)) = ((h.ok).placed) (Deck p i) t in let c : is_loc (Deck p i) (loc_at (w.job t)) ≡ 0 = ap (is_loc (Deck p i)) at in omega (arith, b, c)))

-- nor has a job that stands in a FIFO list
pub in_line_once : (w : World) (p i : ℕ) (b : Option ℕ) (t : ℕ) → JobsHold w → 1 ≤ times t ((w.seat p i).fifo b) → (w.job t).runs ≡ 0
in_line_once w p i b t h e =
    let a : times t ((w.seat p i).fifo b) ≡ is_loc (Line p i b) (loc_at (w.job t)) = ((h.ok).placed) (Line p i b) t in
    let at : loc_at (w.job t) ≡ Some (Line p i b) = where_is (Line p i b) (loc_at (w.job t)) (omega (arith, a, e)) in
    unbegun ((w.job t).at) ((w.job t).runs) (Line p i b) refl at

pub taken_once : (w : World) (q : Party) (x : Taken) → JobsHold w → taken (w.stack q).top ≡ Some x → ((w.job (taken_number x)).runs ≡ 0) × ((p i : ℕ) → times (taken_number x) (w.seat p i).own ≡ 0)
taken_once w q x h e = in_hand w q (taken_number x) h (taken_hand (w.stack q).top x e)

-- the token list is the deque, or the deque with what the worker has taken from it; the FIFO lists are the worker's
abbrev pub Held : Order → ℕ → List ℕ → World → Type 0
Held o p l w = (l ≡ (w.seat p 0).own) ⊎ ((x : Taken) × Hands o l (taken_number x) (w.seat p 0).own × (taken (w.stack (Worker p 0)).top ≡ Some x))

abbrev pub Beside : ℕ → (Option ℕ → List ℕ) → World → Type 0
Beside p f w = (b : Option ℕ) → f b ≡ (w.seat p 0).fifo b

abbrev Rest : Order → ℕ → World → List ℕ → (Option ℕ → List ℕ) → List Happening → Type 0
Rest o p u l f hs = (left : List ℕ) × TokenList o l f hs left (u.seat p 0).fifo × IsLeft u p left

pub none_some : {A : Type 0} (o : Option Taken) (t : Taken) → o ≡ None → o ≡ Some t → A
none_some o t a b = absurd (cc)

pub some_same : (o : Option Taken) (s t : Taken) → o ≡ Some s → o ≡ Some t → s ≡ t
some_same o s t a b = cc

add_on : (o : Order) (p : ℕ) (u : World) (by : Option ℕ) (t : ℕ) (l : List ℕ) (f : Option ℕ → List ℕ) (hs : List Happening) → Rest o p u (l ++ t ∷ []) f hs → Rest o p u l f (Adds by t ∷ hs)
add_on o p u by t l f hs (left, a, b) = (left, a, b)

queue_on : (o : Order) (p : ℕ) (u : World) (c by : Option ℕ) (t : ℕ) (l : List ℕ) (f : Option ℕ → List ℕ) (hs : List Happening) → Rest o p u l (put_list f c (f c ++ t ∷ [])) hs → Rest o p u l f (Queues c by t ∷ hs)
queue_on o p u c by t l f hs (left, a, b) = (left, a, b)

queue_off : (o : Order) (p : ℕ) (u : World) (c : Option ℕ) (l : List ℕ) (f : Option ℕ → List ℕ) (hs : List Happening) → Rest o p u l (put_list f c (but_last (f c))) hs → Rest o p u l f (Retakes c ∷ hs)
queue_off o p u c l f hs (left, a, b) = (left, a, b)

hand_out : (o : Order) (p : ℕ) (u : World) (t : ℕ) (l rest : List ℕ) (f : Option ℕ → List ℕ) (hs : List Happening) → Hands o l t rest → Rest o p u rest f hs → Rest o p u l f (Begins t ∷ hs)
hand_out o p u t l rest f hs h (left, a, b) = (left, inl (rest, h, a), b)

come_by : (o : Order) (p : ℕ) (u : World) (t : ℕ) (l : List ℕ) (f : Option ℕ → List ℕ) (hs : List Happening) → times t l ≡ 0 → Rest o p u l f hs → Rest o p u l f (Begins t ∷ hs)
come_by o p u t l f hs h (left, a, b) = (left, inr (h, a), b)

token_out : (o : Order) (p : ℕ) (u : World) (k : ℕ) (c r : Option ℕ) (t : ℕ) (ts l rest : List ℕ) (f : Option ℕ → List ℕ) (hs : List Happening) → r ≡ Some t → f c ≡ t ∷ ts → Hands o l k rest → Rest o p u rest (put_list f c ts) hs → Rest o p u l f (Redeems k c r ∷ hs)
token_out o p u k c r t ts l rest f hs e d h (left, a, b) = (left, (t, ts, e, d, inl (rest, h, a)), b)

token_by : (o : Order) (p : ℕ) (u : World) (k : ℕ) (c r : Option ℕ) (t : ℕ) (ts l : List ℕ) (f : Option ℕ → List ℕ) (hs : List Happening) → r ≡ Some t → f c ≡ t ∷ ts → times k l ≡ 0 → Rest o p u l (put_list f c ts) hs → Rest o p u l f (Redeems k c r ∷ hs)
token_by o p u k c r t ts l f hs e d h (left, a, b) = (left, (t, ts, e, d, inr (h, a)), b)

-- what becomes of the FIFO lists at a step, by what happens
beside_same : (p : ℕ) (f : Option ℕ → List ℕ) (w v : World) (h : Option Happening) → ((b : Option ℕ) → told b h ≡ None) → Lined p w v h → Beside p f w → Beside p f v
beside_same p f w v h n k e b = e b ∙ sym (subst (λ z. Changes ((w.seat p 0).fifo b) z ((v.seat p 0).fifo b)) (n b) (k b))

-- one list is another, and the others are as before
beside_put : (p : ℕ) (f : Option ℕ → List ℕ) (w v : World) (c : Option ℕ) (l : List ℕ) → (v.seat p 0).fifo c ≡ l → ((b : Option ℕ) → same_list b c ≡ false → (v.seat p 0).fifo b ≡ (w.seat p 0).fifo b) → Beside p f w → Beside p (put_list f c l) v
beside_put p f w v c l m g e b = by (same_list b c) refl
  where
    by : (z : Bool) → same_list b c ≡ z → (if z then l else f b) ≡ (v.seat p 0).fifo b
    by true y = sym m ∙ ap (λ n. (v.seat p 0).fifo n) (sym (same_list_true b c y))
    by false y = e b ∙ sym (g b y)

-- the list of this change, and the others
mine : (l m : List ℕ) (x : Option Change) (b c : Option ℕ) → b ≡ c → Changes l (if same_list b c then x else None) m → Changes l x m
mine l m x b c e k = let s : same_list b c ≡ true = ap (λ z. same_list z c) e ∙ same_list_refl c in subst (λ z. Changes l (if z then x else None) m) s k

others : (l m : List ℕ) (x : Option Change) (b c : Option ℕ) → same_list b c ≡ false → Changes l (if same_list b c then x else None) m → m ≡ l
others l m x b c e k = subst (λ z. Changes l (if z then x else None) m) e k

queued_beside : (p : ℕ) (f : Option ℕ → List ℕ) (w v : World) (c by : Option ℕ) (t : ℕ) → Lined p w v (Some (Queues c by t)) → Beside p f w → Beside p (put_list f c (f c ++ t ∷ [])) v
queued_beside p f w v c by t k e = beside_put p f w v c (f c ++ t ∷ []) (mine ((w.seat p 0).fifo c) ((v.seat p 0).fifo c) (Some (Joins t)) c c refl (k c) ∙ ap (λ z. z ++ t ∷ []) (sym (e c))) (λ b n. others ((w.seat p 0).fifo b) ((v.seat p 0).fifo b) (Some (Joins t)) b c n (k b)) e

retaken_beside : (p : ℕ) (f : Option ℕ → List ℕ) (w v : World) (c : Option ℕ) → Lined p w v (Some (Retakes c)) → Beside p f w → Beside p (put_list f c (but_last (f c))) v
retaken_beside p f w v c k e = beside_put p f w v c (but_last (f c)) (mine ((w.seat p 0).fifo c) ((v.seat p 0).fifo c) (Some Leaves) c c refl (k c) ∙ ap but_last (sym (e c))) (λ b n. others ((w.seat p 0).fifo b) ((v.seat p 0).fifo b) (Some Leaves) b c n (k b)) e

-- a token begins the first job of its list
pub record Drawn (p : ℕ) (f : Option ℕ → List ℕ) (w v : World) (c r : Option ℕ) : Type 0 where
  pub job : ℕ
  pub rest : List ℕ
  pub runs : r ≡ Some job
  pub first : f c ≡ job ∷ rest
  pub beside : Beside p (put_list f c rest) v

pub drawn : (p : ℕ) (f : Option ℕ → List ℕ) (w v : World) (k : ℕ) (c r : Option ℕ) → Lined p w v (Some (Redeems k c r)) → Beside p f w → Drawn p f w v c r
drawn p f w v k c r h e = at (mine ((w.seat p 0).fifo c) ((v.seat p 0).fifo c) (Some (Comes r)) c c refl (h c))
  where
    at : ((t : ℕ) × (r ≡ Some t) × ((w.seat p 0).fifo c ≡ t ∷ (v.seat p 0).fifo c)) → Drawn p f w v c r
    at (t, a, d) = record { job = t; rest = (v.seat p 0).fifo c; runs = a; first = e c ∙ d; beside = beside_put p f w v c ((v.seat p 0).fifo c) refl (λ b n. others ((w.seat p 0).fifo b) ((v.seat p 0).fifo b) (Some (Comes r)) b c n (h b)) e }

token_step : (o : Order) (p : ℕ) (w v u : World) (l : List ℕ) (f : Option ℕ → List ℕ) (hs : List Happening) (hp : Option Happening) → Deals o p 0 w v hp → Lined p w v hp → JobsHold w → Held o p l w → Beside p f w
    → ((m : List ℕ) (g : Option ℕ → List ℕ) → Held o p m v → Beside p g v → Rest o p u m g hs) → Rest o p u l f (and_next hp hs)
token_step o p w v u l f hs None (inl (same, k)) d j (inl e) g rec = rec l f (inl (e ∙ sym same)) (beside_same p f w v None (λ b. refl) d g)
token_step o p w v u l f hs None (inr (t, h, n, y)) d j (inl e) g rec = rec l f
    (inr (taken_as t (w.job t).kind, subst (λ z. Hands o z (taken_number (taken_as t (w.job t).kind)) (v.seat p 0).own) (sym e) (subst (λ z. Hands o (w.seat p 0).own z (v.seat p 0).own) (sym (same_number t (w.job t).kind)) h), y)) (beside_same p f w v None (λ b. refl) d g)
token_step o p w v u l f hs None (inl (same, inl (n, k))) d j (inr (t, h, e)) g rec = none_some (taken (w.stack (Worker p 0)).top) t n e
token_step o p w v u l f hs None (inl (same, inr k)) d j (inr (t, h, e)) g rec = rec l f (inr (t, subst (Hands o l (taken_number t)) (sym same) h, k ∙ e)) (beside_same p f w v None (λ b. refl) d g)
token_step o p w v u l f hs None (inr (s, y, n, z)) d j (inr (t, h, e)) g rec = none_some (taken (w.stack (Worker p 0)).top) t n e
token_step o p w v u l f hs (Some (Adds by t)) (grow, n, z) d j (inl e) g rec = add_on o p u by t l f hs (rec (l ++ t ∷ []) f (inl (ap (λ z. z ++ t ∷ []) e ∙ sym grow)) (beside_same p f w v (Some (Adds by t)) (λ b. refl) d g))
token_step o p w v u l f hs (Some (Adds by t)) (grow, n, z) d j (inr (s, h, e)) g rec = none_some (taken (w.stack (Worker p 0)).top) s n e
token_step o p w v u l f hs (Some (Queues c by t)) (same, n, z) d j (inl e) g rec = queue_on o p u c by t l f hs (rec l (put_list f c (f c ++ t ∷ [])) (inl (e ∙ sym same)) (queued_beside p f w v c by t d g))
token_step o p w v u l f hs (Some (Queues c by t)) (same, n, z) d j (inr (s, h, e)) g rec = none_some (taken (w.stack (Worker p 0)).top) s n e
token_step o p w v u l f hs (Some (Retakes c)) (same, n, z) d j (inl e) g rec = queue_off o p u c l f hs (rec l (put_list f c (but_last (f c))) (inl (e ∙ sym same)) (retaken_beside p f w v c d g))
token_step o p w v u l f hs (Some (Retakes c)) (same, n, z) d j (inr (s, h, e)) g rec = none_some (taken (w.stack (Worker p 0)).top) s n e
token_step o p w v u l f hs (Some (Begins t)) (same, y, z) d j (inl e) g rec = come_by o p u t l f hs (ap (times t) e ∙ (taken_once w (Worker p 0) (Plain t) j y).1 p 0) (rec l f (inl (e ∙ sym same)) (beside_same p f w v (Some (Begins t)) (λ b. refl) d g))
token_step o p w v u l f hs (Some (Begins t)) (same, y, z) d j (inr (s, h, e)) g rec = hand_out o p u t l (w.seat p 0).own f hs (subst (λ z. Hands o l (taken_number z) (w.seat p 0).own) (some_same (taken (w.stack (Worker p 0)).top) s (Plain t) e y) h)
    (rec (w.seat p 0).own f (inl (sym same)) (beside_same p f w v (Some (Begins t)) (λ b. refl) d g))
token_step o p w v u l f hs (Some (Redeems k c r)) (same, (i, y), z) d j (inl e) g rec =
    let x : Drawn p f w v c r = drawn p f w v k c r d g in
    token_by o p u k c r x.job x.rest l f hs x.runs x.first (ap (times k) e ∙ (taken_once w (Worker p 0) (Token k i c) j y).1 p 0) (rec l (put_list f c x.rest) (inl (e ∙ sym same)) x.beside)
token_step o p w v u l f hs (Some (Redeems k c r)) (same, (i, y), z) d j (inr (s, h, e)) g rec =
    let x : Drawn p f w v c r = drawn p f w v k c r d g in
    token_out o p u k c r x.job x.rest l (w.seat p 0).own f hs x.runs x.first (subst (λ z. Hands o l (taken_number z) (w.seat p 0).own) (some_same (taken (w.stack (Worker p 0)).top) s (Token k i c) e y) h) (rec (w.seat p 0).own (put_list f c x.rest) (inl (sym same)) x.beside)

pub left_of : (h : Shape) (p : ℕ) (w : World) (l : List ℕ) → Reached h w → Held (h.pool p).order p l w → IsLeft w p l
left_of h p w l r (inl e) = inl e
left_of h p w l r (inr (x, a, e)) = inr (taken_number x, subst (λ z. Hands (z.pool p).order l (taken_number x) (w.seat p 0).own) (sym (reached_shape h w r)) a, (taken_once w (Worker p 0) x (reached_jobs h w r) e).0)

pub deals_on : (h : Shape) (p : ℕ) → (h.pool p).workers ≡ 1 → (w v : World) (e : Event) → Reached h w → step w e ≡ Some v → Deals (h.pool p).order p 0 w v (happening p w e v)
deals_on h p one w v e r s =
    let sh : w.shape ≡ h = reached_shape h w r in
    let k : IfSome (Some v) (λ u. Deals (w.shape.pool p).order p 0 w u (happening p w e u)) = subst (λ o. IfSome o (λ u. Deals (w.shape.pool p).order p 0 w u (happening p w e u))) s (step_deals p w e ((reached_lists h w r).frames) (always_honest h p one r.events w r.run)) in
    subst (λ z. Deals (z.pool p).order p 0 w v (happening p w e v)) sh k

token_run : (h : Shape) (p : ℕ) → (h.pool p).workers ≡ 1 → (w u : World) (es : List Event) (l : List ℕ) (f : Option ℕ → List ℕ) → Reached h w → Held (h.pool p).order p l w → Beside p f w → IsRun w es u → Rest (h.pool p).order p u l f (happenings p (Some w) es)
token_run h p one w u [] l f r k g e = (l, (refl, λ b. ap (λ z. (z.seat p 0).fifo b) e ∙ sym (g b)), subst (λ z. IsLeft z p l) (sym e) (left_of h p w l r k))
token_run h p one w u (e ∷ es) l f r k g (v, s, rest) =
    subst (λ z. Rest (h.pool p).order p u l f (and_next (happened p w e z) (happenings p z es))) (sym s)
    (token_step (h.pool p).order p w v u l f (happenings p (Some v) es) (happening p w e v) (deals_on h p one w v e r s) (lined_on h p one w v e r.events r.run s) (reached_jobs h w r) k g
    (λ m n x y. token_run h p one v u es m n (reach_on h w v e r s) x y rest))

pub token_law : TokenLaw
token_law shape before p w u es one first run = token_run shape p one w u es (w.seat p 0).own (w.seat p 0).fifo (record { events = before; run = first }) (inl refl) (λ b. refl) run
