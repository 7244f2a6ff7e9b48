-- from what holds of the calls and jobs of each world to the laws of latches and ends
--
-- It goes from `CallsHold`, and for the latch of a scope from `ScopesHold`, to the clauses of `law_latch` and
-- `law_end`.
use Rattle.rayon_machine_places.specs.declared.place.JobKind.TheVariants.{WholeOf}
use Rattle.rayon_machine_places.specs.declared.place.JobKind.{JobKind}
use Rattle.rayon_machine_laws.specs.Counted.{has_body, ScopeEnded}
use Rattle.rayon_machine_runs.specs.Steps.{is_piece}
use Rattle.rayon_machine_runs.specs.Readers.{is_done}
use Rattle.rayon_machine_laws.proofs.Scoping.{ScopesHold, count_over}
use Rattle.rayon_machine_laws.proofs.Enters.{EntersHold}
use Rattle.rayon_machine_laws.proofs.Spawned.{scope_ended}
use Rattle.std.proofs.Common.{arith, refl, ap, subst, inl, inr, sym, ◌∙◌}
use Rattle.std.specs.Prelude.{ℕ, ◌+◌, ◌==◌, ◌≤◌, Option, Some, None, ◌≡◌, true, false, ◌⊎◌}
use Rattle.std.proofs.lemmas.Bool.{eq-eqb}
use Rattle.rayon_machine_places.specs.declared.place.Party.{Party}
use Rattle.rayon_machine_places.specs.declared.place.Ending.{Ending}
use Rattle.rayon_machine_places.specs.declared.place.Ending.TheVariants.{Fine, Fault}
use Rattle.rayon_machine_places.specs.declared.place.Plan.{Plan}
use Rattle.rayon_machine_places.specs.declared.place.Plan.TheVariants.{Detach, Here, Send, Fork, Feed, Open, Enter, Gather}
use Rattle.rayon_machine_places.specs.declared.place.Then.{Then}
use Rattle.rayon_machine_places.specs.declared.place.Then.TheVariants.{Answers, Missing, Ran, GiveBack}
use Rattle.rayon_machine_places.specs.declared.place.Place.{Place}
use Rattle.rayon_machine_places.specs.declared.place.Place.TheVariants.{TakeResult, LowerCount, SetLatch, LockToSettle, WakeSettled, UnlockSettled, SetLockLatch}
use Rattle.rayon_machine_runs.specs.declared.state.Whereabouts.TheVariants.{Over}
use Rattle.rayon_machine_places.specs.declared.place.OpenCall.{OpenCall}
use Rattle.rayon_machine_runs.specs.World.{World}
use Rattle.rayon_machine_laws.specs.Once.{one, times}
use Rattle.rayon_machine_laws.specs.Latch.{IsLatched, PieceEnded}
use Rattle.rayon_machine_laws.specs.End.{HasEnded, SideEnded, SideFine, answered, IsVerdict, follows, IsEnd, IsUntouched, AllJobs, IsRefused, Takes}
use Rattle.rayon_machine_laws.proofs.Hands.{hand_plan, hand_then, hand, held}
use Rattle.rayon_machine_laws.proofs.Located.{loc_of, loc_at, is_loc, where_is, fits, unbegun, Hand, Deck, Inj, Line, Cast}
use Rattle.rayon_machine_laws.proofs.PlacedRuns.{JobsHold, once}
use Rattle.rayon_machine_laws.proofs.Claims.{Opened, FirstEnds, SaysThen, Says, IsReady, EndsAs, is_body, PartOf, SaysTaken}
use Rattle.rayon_machine_laws.proofs.ClaimRuns.{CallsHold}

-- whose latch can be set has its job over, if that is one that runs
pub ready_over : (w : World) → ScopesHold w → (c : ℕ) → c + 1 ≤ w.calls → IsReady w c → has_body (w.job (w.call c).job).kind ≡ true → is_done (w.job (w.call c).job).at ≡ true
ready_over w h c b (inl d) f = d.1
ready_over w h c b (inr z) f = (count_over w h c b z).body f

no_body : (k : JobKind) → has_body k ≡ false → is_body k ≡ true
no_body (WholeOf c o) e = refl
no_body _ e = cc

-- a scope, or a broadcast, whose latch can be set has ended
ready_ended : (w : World) → ScopesHold w → EntersHold w → (c : ℕ) → c + 1 ≤ w.calls → IsReady w c → is_body (w.job (w.call c).job).kind ≡ true → ScopeEnded w c
ready_ended w h e c b (inl d) f = absurd (let y : true ≡ false = sym f ∙ (d.0).1 in cc)
ready_ended w h e c b (inr z) f = scope_ended w h e c z (count_over w h c b z)

piece_ended : (w : World) (c : ℕ) (e : Ending) → EndsAs w (w.call c).job c e → ((w.job (w.call c).job).at ≡ Over e) ⊎ PieceEnded w c e
piece_ended w c e (inl a) = inl a
piece_ended w c e (inr p) = inr (record { job = p.job; owner = p.owner; made = p.made; kind = p.kind; at = p.at })

-- a call that is no broadcast has no pieces
job_ended : (w : World) → CallsHold w → (c : ℕ) (e : Ending) → has_body (w.job (w.call c).job).kind ≡ true → EndsAs w (w.call c).job c e → (w.job (w.call c).job).at ≡ Over e
job_ended w h c e f (inl a) = a
job_ended w h c e f (inr p) = absurd (let a : PartOf w (p.job) c (p.owner) = h.parts (p.job) (p.made) c (p.owner) (p.kind) in let k : has_body (w.job (w.call c).job).kind ≡ false = ap has_body (a.kind) in let n : true ≡ false = sym f ∙ k in cc)

pub latched : (w : World) → ScopesHold w → EntersHold w → IsLatched w
latched w h enters = record {
  latch = λ c z f. (let s : (c + 1 ≤ w.calls) × IsReady w c = ((h.shares).calls).latches c z in ready_over w h c (s.0) (s.1) f);
  scope = λ c n o z k. (let s : (c + 1 ≤ w.calls) × IsReady w c = ((h.shares).calls).latches c z in ready_ended w h enters c (s.0) (s.1) (ap is_body k));
  pieces = λ c z f. (let s : (c + 1 ≤ w.calls) × IsReady w c = ((h.shares).calls).latches c z in ready_ended w h enters c (s.0) (s.1) (no_body ((w.job (w.call c).job).kind) f));
  cell = λ c e z f. job_ended w ((h.shares).calls) c e f (((h.shares).calls).cells c e z);
  ended = λ c e z. piece_ended w c e (((h.shares).calls).cells c e z);
}

pub has_ended : (w : World) → JobsHold w → (t : ℕ) (e : Ending) → (w.job t).at ≡ Over e → HasEnded w t e
has_ended w h t e z = record { at = z; runs = (once w h).over t e z }

side_ended : (w : World) → JobsHold w → (a : Option ℕ) (f : Option Ending) → FirstEnds w a f → SideEnded w a f
side_ended w h None None s = tt
side_ended w h (Some a) (Some e) s = has_ended w h a e s
side_ended w h None (Some e) s = s
side_ended w h (Some a) None s = s

side_fine : (w : World) → JobsHold w → (a : Option ℕ) (f : Option Ending) → (f ≡ Some Fault → ⊥) → FirstEnds w a f → SideFine w a
side_fine w h None f n s = tt
side_fine w h (Some a) (Some Fine) n s = has_ended w h a Fine s
side_fine w h (Some a) (Some Fault) n s = absurd (n refl)
side_fine w h (Some a) None n s = absurd s

verdict : (w : World) → JobsHold w → (o : OpenCall) (f : Option Ending) (e : Ending) → FirstEnds w (w.call o.number).first f → Takes w o (w.job o.job).kind e → IsVerdict w o (answered f e)
verdict w h o (Some Fault) e s z = side_ended w h ((w.call o.number).first) (Some Fault) s
verdict w h o (Some Fine) Fault s z = (z, side_fine w h ((w.call o.number).first) (Some Fine) (λ y. cc) s)
verdict w h o (Some Fine) Fine s z = (z, side_fine w h ((w.call o.number).first) (Some Fine) (λ y. cc) s)
verdict w h o None Fault s z = (z, side_fine w h ((w.call o.number).first) None (λ y. cc) s)
verdict w h o None Fine s z = (z, side_fine w h ((w.call o.number).first) None (λ y. cc) s)

some_same : {a b : Then} → Some a ≡ Some b → a ≡ b
some_same e = cc

-- what follows is what the place says of it
pub follows_says : (w : World) (q : Party) (x : Place) (n : Then) → follows x ≡ Some n → Says w q x → SaysThen w q n
follows_says w q (LowerCount p s k) n z y = subst (λ v. SaysThen w q v) (let e : k ≡ n = cc in e) (y.0)
follows_says w q (SetLatch k) n z y = subst (λ v. SaysThen w q v) (let e : k.then ≡ n = some_same z in e) (y.1)
follows_says w q (LockToSettle k) n z y = subst (λ v. SaysThen w q v) (let e : k.then ≡ n = some_same z in e) (y.1)
follows_says w q (WakeSettled k) n z y = subst (λ v. SaysThen w q v) (let e : k.then ≡ n = some_same z in e) (y.1)
follows_says w q (UnlockSettled k) n z y = subst (λ v. SaysThen w q v) (let e : k.then ≡ n = some_same z in e) (y.1)
follows_says w q (SetLockLatch c k) n z y = subst (λ v. SaysThen w q v) (let e : k ≡ n = some_same z in e) (y.1)
follows_says w q _ n z y = cc

-- and what it has in hand
follows_hand : (t : ℕ) (x : Place) (n : Then) → follows x ≡ Some n → hand t x ≡ hand_then t n
follows_hand t (LowerCount p s k) n z = ap (hand_then t) (let e : k ≡ n = cc in e)
follows_hand t (SetLatch k) n z = ap (hand_then t) (some_same z)
follows_hand t (LockToSettle k) n z = ap (hand_then t) (some_same z)
follows_hand t (WakeSettled k) n z = ap (hand_then t) (some_same z)
follows_hand t (UnlockSettled k) n z = ap (hand_then t) (some_same z)
follows_hand t (SetLockLatch c k) n z = ap (hand_then t) (some_same z)
follows_hand t _ n z = cc

pub ends_so : (w : World) → CallsHold w → ((q : Party) (o : OpenCall) (f : Option Ending) (e : Ending) → follows (w.stack q).top ≡ Some (Answers o f e) → Takes w o (w.job o.job).kind e) → ((q : Party) (o : OpenCall) (f : Option Ending) → (w.stack q).top ≡ TakeResult o f → (w.call o.number).cell ≡ None → ⊥) → ((q : Party) (o : OpenCall) (f : Option Ending) → follows (w.stack q).top ≡ Some (Missing o f) → ⊥) → IsEnd w
ends_so w h takes filled missing = record {
  waited = λ q o f e z. (let s : Opened w q o × FirstEnds w (w.call o.number).first f × SaysTaken w o.job o.number e = follows_says w q ((w.stack q).top) (Answers o f e) z ((h.says q).top) in
      record { own = (s.0).target; job = takes q o f e z; side = side_ended w (h.jobs) ((w.call o.number).first) f (s.1); fault = verdict w (h.jobs) o f e (s.1) (takes q o f e z) });
  once = λ q t e z. has_ended w (h.jobs) t e (follows_says w q ((w.stack q).top) (Ran t e) z ((h.says q).top));
  filled = filled;
  missing = missing;
}

-- a job whose record names no list, and that was not begun, is untouched
untouched : (w : World) → JobsHold w → (t : ℕ) → (w.job t).runs ≡ 0 → ((p i : ℕ) → is_loc (Deck p i) (loc_at (w.job t)) ≡ 0) → ((p : ℕ) → is_loc (Inj p) (loc_at (w.job t)) ≡ 0) → ((p i : ℕ) (b : Option ℕ) → is_loc (Line p i b) (loc_at (w.job t)) ≡ 0) → ((p i : ℕ) → is_loc (Cast p i) (loc_at (w.job t)) ≡ 0) → IsUntouched w t
untouched w h t r d i l k = record {
  runs = r;
  deque = λ p j. (let a : times t ((w.seat p j).own) ≡ is_loc (Deck p j) (loc_at (w.job t)) = ((h.ok).placed) (Deck p j) t in let b : is_loc (Deck p j) (loc_at (w.job t)) ≡ 0 = d p j in omega (arith, a, b));
  fifo = λ p j d. (let a : times t ((w.seat p j).fifo d) ≡ is_loc (Line p j d) (loc_at (w.job t)) = ((h.ok).placed) (Line p j d) t in let b : is_loc (Line p j d) (loc_at (w.job t)) ≡ 0 = l p j d in omega (arith, a, b));
  cast = λ p j. (let a : times t ((w.pool p).casts j) ≡ is_loc (Cast p j) (loc_at (w.job t)) = ((h.ok).placed) (Cast p j) t in let b : is_loc (Cast p j) (loc_at (w.job t)) ≡ 0 = k p j in omega (arith, a, b));
  injector = λ p. (let a : times t ((w.pool p).injector) ≡ is_loc (Inj p) (loc_at (w.job t)) = ((h.ok).placed) (Inj p) t in let b : is_loc (Inj p) (loc_at (w.job t)) ≡ 0 = i p in omega (arith, a, b));
}

held_untouched : (w : World) → JobsHold w → (q : Party) (t : ℕ) → 1 ≤ held t (w.stack q) → IsUntouched w t
held_untouched w h q t b = let a : held t (w.stack q) ≡ is_loc (Hand q) (loc_at (w.job t)) = ((h.ok).placed) (Hand q) t in
    let z : loc_at (w.job t) ≡ Some (Hand q) = where_is (Hand q) (loc_at (w.job t)) (omega (arith, a, b)) in
    untouched w h t (unbegun ((w.job t).at) ((w.job t).runs) (Hand q) refl z) (λ p i. ap (is_loc (Deck p i)) z) (λ p. ap (is_loc (Inj p)) z) (λ p i b. ap (is_loc (Line p i b)) z) (λ p i. ap (is_loc (Cast p i)) z)

one_self : (t : ℕ) → one (t == t) ≡ 1
one_self t = ap one (eq-eqb t t refl)

given_back : (w : World) → JobsHold w → (q : Party) (n : Plan) → ((t : ℕ) → hand_plan t n ≤ held t (w.stack q)) → AllJobs (IsUntouched w) n
given_back w h q (Detach p t) f = held_untouched w h q t (let a : one (t == t) ≤ held t (w.stack q) = f t in let b : one (t == t) ≡ 1 = one_self t in omega (arith, a, b))
given_back w h q (Here p t) f = held_untouched w h q t (let a : one (t == t) ≤ held t (w.stack q) = f t in let b : one (t == t) ≡ 1 = one_self t in omega (arith, a, b))
given_back w h q (Send o) f = held_untouched w h q (o.job) (let a : one (o.job == o.job) ≤ held (o.job) (w.stack q) = f (o.job) in let b : one (o.job == o.job) ≡ 1 = one_self (o.job) in omega (arith, a, b))
given_back w h q (Open o) f = held_untouched w h q (o.job) (let a : one (o.job == o.job) ≤ held (o.job) (w.stack q) = f (o.job) in let b : one (o.job == o.job) ≡ 1 = one_self (o.job) in omega (arith, a, b))
given_back w h q (Enter o) f = held_untouched w h q (o.job) (let a : one (o.job == o.job) ≤ held (o.job) (w.stack q) = f (o.job) in let b : one (o.job == o.job) ≡ 1 = one_self (o.job) in omega (arith, a, b))
given_back w h q (Gather g) f = λ t e. held_untouched w h q t (let a : one (is_piece g.pieces t) ≤ held t (w.stack q) = f t in let b : one (is_piece g.pieces t) ≡ 1 = ap one e in omega (arith, a, b))
given_back w h q (Feed d) f = (
  held_untouched w h q (d.job) (let a : one (d.job == d.job) + one (d.job == d.token) ≤ held (d.job) (w.stack q) = f (d.job) in let b : one (d.job == d.job) ≡ 1 = one_self (d.job) in omega (arith, a, b)),
  held_untouched w h q (d.token) (let a : one (d.token == d.job) + one (d.token == d.token) ≤ held (d.token) (w.stack q) = f (d.token) in let b : one (d.token == d.token) ≡ 1 = one_self (d.token) in omega (arith, a, b)),
)
given_back w h q (Fork o s) f = (
  held_untouched w h q s (let a : one (s == s) + one (s == o.job) ≤ held s (w.stack q) = f s in let b : one (s == s) ≡ 1 = one_self s in omega (arith, a, b)),
  held_untouched w h q (o.job) (let a : one (o.job == s) + one (o.job == o.job) ≤ held (o.job) (w.stack q) = f (o.job) in let b : one (o.job == o.job) ≡ 1 = one_self (o.job) in omega (arith, a, b)),
)

pub refused_so : (w : World) → JobsHold w → IsRefused w
refused_so w h = record {
  going = λ q n z. given_back w h q n (λ t. (let a : hand t ((w.stack q).top) ≡ hand_plan t n = follows_hand t ((w.stack q).top) (GiveBack n) z in omega (arith, a)));
  gone = λ t z. untouched w h t (subst (λ v. fits v ((w.job t).runs)) z (((h.ok).fit) t)) (λ p i. ap (λ v. is_loc (Deck p i) (loc_of v ((w.job t).runs))) z) (λ p. ap (λ v. is_loc (Inj p) (loc_of v ((w.job t).runs))) z) (λ p i b. ap (λ v. is_loc (Line p i b) (loc_of v ((w.job t).runs))) z) (λ p i. ap (λ v. is_loc (Cast p i) (loc_of v ((w.job t).runs))) z);
  cast = λ q c z t e. held_untouched w h q t (let a : hand t ((w.stack q).top) ≡ one (is_piece c t) = ap (hand t) z in let b : one (is_piece c t) ≡ 1 = ap one e in omega (arith, a, b));
}
