-- where the count of a scope is 0 each job of the scope is over or was handed back: who has one in hand that is not
-- queued holds the scope, and who holds it has a share of its count
use Rattle.std.proofs.Common.{arith, refl, sym, ◌∙◌, ap, inl, inr}
use Rattle.std.specs.Prelude.{ℕ, Bool, true, false, ◌&&◌, ◌||◌, ◌+◌, ◌==◌, ◌≤◌, Option, Some, None, List, [], ◌∷◌, ◌≡◌, ◌⊎◌}
use Rattle.std.proofs.lemmas.Bool.{eqb-true, eq-eqb}
use Rattle.rayon_machine_places.specs.declared.place.Party.{Party}
use Rattle.rayon_machine_places.specs.declared.place.JobKind.{JobKind}
use Rattle.rayon_machine_places.specs.declared.place.JobKind.TheVariants.{Detached, Direct, Scoped, TokenOf, PieceOf}
use Rattle.rayon_machine_places.specs.declared.place.Count.{Count}
use Rattle.rayon_machine_places.specs.declared.place.Count.TheVariants.{OfPool, OfScope, OfCast}
use Rattle.rayon_machine_places.specs.declared.place.Feeding.{Feeding}
use Rattle.rayon_machine_places.specs.declared.place.Gathering.{Gathering}
use Rattle.rayon_machine_places.specs.declared.place.Pieces.{Pieces}
use Rattle.rayon_machine_places.specs.declared.place.Taken.{Taken}
use Rattle.rayon_machine_places.specs.declared.place.Taken.TheVariants.{Plain, Token}
use Rattle.rayon_machine_places.specs.declared.place.Plan.{Plan}
use Rattle.rayon_machine_places.specs.declared.place.Plan.TheVariants.{Detach, Here, Send, Fork, Feed, Open, Enter, Gather}
use Rattle.rayon_machine_places.specs.declared.place.Then.{Then}
use Rattle.rayon_machine_places.specs.declared.place.Then.TheVariants.{BeginFound, RunFirst, GiveBack}
use Rattle.rayon_machine_places.specs.declared.place.Place.{Place}
use Rattle.rayon_machine_places.specs.declared.place.Place.TheVariants.{ProbeWorking, LeaveSearch, BeginTask, BeginHere, Run, RaiseCount, GrowCall, LookQueue, PushJob, AddToFifo, LookForToken, PushToken, TakeFromFifo, RaiseForAll, PushForAll, LowerForAll, TellNews, LockToWake}
use Rattle.rayon_machine_places.specs.declared.place.Place.TheVariants.{WakeWorker, UnlockWoken, LowerCount, SetLatch, LockToSettle, WakeSettled, UnlockSettled, GrowScope, OpenSlot, CloseSlot, SetLockLatch, OpenForAll, CloseForAll, GrowCast, DealPieces, ScopeBody}
use Rattle.rayon_machine_runs.specs.declared.state.Whereabouts.{Whereabouts}
use Rattle.rayon_machine_runs.specs.declared.state.Whereabouts.TheVariants.{Nowhere, Made, InDeque, Injected, InFifo, InCast, Running, Over, Retaken, HandedBack, Spent}
use Rattle.rayon_machine_places.specs.Places.{holds_scope, plan_count, count_kind, taken_number}
use Rattle.rayon_machine_runs.specs.World.{World}
use Rattle.rayon_machine_runs.specs.Steps.{holds_in, is_piece}
use Rattle.rayon_machine_laws.specs.Once.{one, is_with, is_known, may_begin, run_of, runs_in, worked, hand_plan, hand_rest, hand_then, hand_found, hand, held_in, held}
use Rattle.rayon_machine_laws.specs.Shares.{is_busy}
use Rattle.rayon_machine_laws.specs.Counted.{is_scoped, is_through, ScopeEnded, ScopesCounted}
use Rattle.rayon_machine_laws.proofs.Frame.{same_party_refl}
use Rattle.rayon_machine_laws.proofs.Seats.{is_frame}
use Rattle.rayon_machine_laws.proofs.Ties.{AllFrames}
use Rattle.rayon_machine_laws.proofs.Located.{loc_at, is_loc, where_is, at_work, Work, is_left}
use Rattle.rayon_machine_laws.proofs.PlacedRuns.{once}
use Rattle.rayon_machine_laws.proofs.Claims.{is_detached, call_undetached, Taking, SaysPlan, SaysSlot, SaysTold, SaysThen, SaysGather, SaysPieces, SaysFound, queue_plan, Says, AllSay}
use Rattle.rayon_machine_laws.proofs.ShareActs.{one_is}
use Rattle.rayon_machine_laws.proofs.ShareSteps.{self_one}
use Rattle.rayon_machine_laws.proofs.Tokens.{sum_below, sum_least}
use Rattle.rayon_machine_laws.proofs.Bodies.{body, bodies_in, all_bodies}
use Rattle.rayon_machine_laws.proofs.Entering.{within, entering_then, entering}
use Rattle.rayon_machine_laws.proofs.Enters.{EntersHold}
use Rattle.rayon_machine_laws.proofs.Scoping.{ScopesHold, entry, entry_on, entry_kept, CountOver, count_over, scopes_counted}

-- who holds a scope keeps its count above 0: who runs its body, or a job of it
count_of_sum : (w : World) → ScopesHold w → (c : ℕ) → (1 ≤ one (w.call c).counted) ⊎ ((t : ℕ) × ((t + 1 ≤ w.jobs) × (entry c (w.job t) ≡ 1))) → 1 ≤ (w.call c).count
count_of_sum w h c (inl b) = let a : sum_below w.jobs (λ t. entry c (w.job t)) + (one (w.call c).counted + (w.call c).undealt) ≡ (w.call c).count = h.sums c in omega (arith, a, b)
count_of_sum w h c (inr (t, y)) = let m : t + 1 ≤ w.jobs = y.0 in let e : entry c (w.job t) ≡ 1 = y.1 in let a : sum_below w.jobs (λ t. entry c (w.job t)) + (one (w.call c).counted + (w.call c).undealt) ≡ (w.call c).count = h.sums c in
    let d : entry c (w.job t) ≤ sum_below w.jobs (λ t. entry c (w.job t)) = sum_least w.jobs (λ t. entry c (w.job t)) t m in omega (arith, a, d, e)

frame_counts : (w : World) → ScopesHold w → (q : Party) (c : ℕ) (f : Place) → Says w q f → ((t : ℕ) → run_of t f ≤ worked t (w.stack q)) → body c f ≤ all_bodies c (w.stack q) → holds_scope c f ≡ true → 1 ≤ (w.call c).count
frame_counts w h q c (ScopeBody o) s r b z = count_of_sum w h c (inl (let a : all_bodies c (w.stack q) + 0 ≤ one (w.call c).counted = (h.bodies c).alone q in let d : one (c == o.number) ≡ 1 = ap one (eq-eqb c (o.number) (sym (eqb-true (o.number) c z))) in omega (arith, a, b, d)))
frame_counts w h q c (Run t (Scoped d o)) s r b z = count_of_sum w h c (inr (t, (s.0, entry_on c (w.job t) (Scoped d o) counted (s.1) ∙ ap one (eq-eqb c d (sym (eqb-true d c z))))))
  where
    running : (w.job t).at ≡ Running q
    running = (at_work ((w.job t).at) ((w.job t).runs) q (where_is (Work q) (loc_at (w.job t)) (let a : worked t (w.stack q) ≡ is_loc (Work q) (loc_at (w.job t)) = (((((h.shares).calls).jobs).ok).placed (Work q) t) in let e : run_of t (Run t (Scoped d o)) ≤ worked t (w.stack q) = r t in
        let i : one (t == t) ≡ 1 = self_one t in omega (arith, a, e, i)))).1

    counted : (w.job t).counted ≡ true
    counted = entry_kept w h t (ap is_scoped (s.1)) (ap is_busy running)
frame_counts w h q c _ s r b z = cc

pub hold_counts : (w : World) → ScopesHold w → (q : Party) (c : ℕ) (fs : List Place) → AllSay w q fs → ((t : ℕ) → runs_in t fs ≤ worked t (w.stack q)) → bodies_in c fs ≤ all_bodies c (w.stack q) → holds_in c fs ≡ true → 1 ≤ (w.call c).count
hold_counts w h q c [] a r b z = cc
hold_counts w h q c (f ∷ fs) a r b z = either_counts (holds_scope c f) refl
    (frame_counts w h q c f (a.0) (λ t. (let d : run_of t f + runs_in t fs ≤ worked t (w.stack q) = r t in omega (arith, d))) (omega (arith, b)))
    (hold_counts w h q c fs (a.1) (λ t. (let d : run_of t f + runs_in t fs ≤ worked t (w.stack q) = r t in omega (arith, d))) (omega (arith, b)))
  where
    either_counts : (x : Bool) → holds_scope c f ≡ x → (holds_scope c f ≡ true → 1 ≤ (w.call c).count) → (holds_in c fs ≡ true → 1 ≤ (w.call c).count) → 1 ≤ (w.call c).count
    either_counts true e g k = g e
    either_counts false e g k = k (ap (λ y. y || holds_in c fs) (sym e) ∙ z)

below_runs : (t : ℕ) (x : Place) (fs : List Place) → runs_in t fs ≤ worked t (record { top = x; below = fs })
below_runs t x fs = omega arith

-- so it is where the scope is held below the top
pub below_counts : (w : World) → ScopesHold w → (q : Party) (c : ℕ) → holds_in c (w.stack q).below ≡ true → 1 ≤ (w.call c).count
below_counts w h q c i = hold_counts w h q c ((w.stack q).below) ((((h.shares).calls).says q).below) (λ t. below_runs t ((w.stack q).top) ((w.stack q).below)) (let b : all_bodies c (w.stack q) ≡ (body c ((w.stack q).top) + bodies_in c ((w.stack q).below)) = refl in omega (arith, b)) i

-- the job that a place has in hand, if that is a job of the scope
scoped_at : (w : World) (t u m : ℕ) (o : Party) → 1 ≤ one (t == u) → (w.job t).kind ≡ Scoped m o → (w.job u).kind ≡ Scoped m o
scoped_at w t u m o z k = ap (λ n. (w.job n).kind) (sym (eqb-true t u (one_is (t == u) z))) ∙ k

no_scoped : {A : Type 0} (k : JobKind) (m : ℕ) (o : Party) → k ≡ Scoped m o → is_detached k ≡ false → A
no_scoped k m o e s = absurd (let a : true ≡ false = sym (ap is_detached e) ∙ s in cc)

token_scoped : {A : Type 0} (i m : ℕ) (b : Option ℕ) (o : Party) → TokenOf i b ≡ Scoped m o → A
token_scoped i m b o e = absurd (cc)

either_one : (a b : Bool) → 1 ≤ one a + one b → (1 ≤ one a) ⊎ (1 ≤ one b)
either_one true b z = inl (omega arith)
either_one false b z = inr (omega (arith, z))

same_call : (c m : ℕ) (p o : Party) → Scoped c p ≡ Scoped m o → c ≡ m
same_call c m p o e = cc

call_within : (c m : ℕ) (p o : Party) → Scoped c p ≡ Scoped m o → 1 ≤ one (m == c)
call_within c m p o e = let a : one (m == c) ≡ 1 = ap one (eq-eqb m c (sym (same_call c m p o e))) in omega (arith, a)

count_within : (k : Count) (m : ℕ) (o : Party) → count_kind k ≡ Scoped m o → 1 ≤ within m k
count_within (OfScope c p) m o e = call_within c m p o e
count_within (OfPool p) m o e = absurd (cc)
count_within (OfCast c p) m o e = absurd (cc)

gather_none : {A : Type 0} (w : World) (q : Party) (g : Gathering) (t m : ℕ) (o : Party) → SaysGather w q g → (w.job t).kind ≡ Scoped m o → 1 ≤ one (is_piece g.pieces t) → A
gather_none w q g t m o s k z = absurd (let a : PieceOf g.call.number q ≡ Scoped m o = sym (ap count_kind s.count) ∙ sym ((s.pieces t (one_is (is_piece g.pieces t) z)).kind) ∙ k in cc)

pieces_enter : (w : World) (c : Pieces) (t m : ℕ) (o : Party) → SaysPieces w c → (w.job t).kind ≡ Scoped m o → 1 ≤ one (is_piece c t) → 1 ≤ within m c.count
pieces_enter w c t m o s k z = count_within c.count m o (sym ((s t (one_is (is_piece c t) z)).kind) ∙ k)

plan_enters : (w : World) (q : Party) (n : Plan) (t m : ℕ) (o : Party) → SaysPlan w q n → (w.job t).kind ≡ Scoped m o → 1 ≤ hand_plan t n → 1 ≤ within m (plan_count n)
plan_enters w q (Detach p u) t m o s k z = absurd (let a : Detached p ≡ Scoped m o = sym s.kind ∙ scoped_at w t u m o z k in cc)
plan_enters w q (Here p u) t m o s k z = absurd (let a : Direct ≡ Scoped m o = sym s.kind ∙ scoped_at w t u m o z k in cc)
plan_enters w q (Send d) t m o s k z = no_scoped ((w.job d.job).kind) m o (scoped_at w t d.job m o z k) (call_undetached ((w.job d.job).kind) (d.number, q) ((s.0).kind))
plan_enters w q (Open d) t m o s k z = no_scoped ((w.job d.job).kind) m o (scoped_at w t d.job m o z k) (call_undetached ((w.job d.job).kind) (d.number, q) ((s.0).kind))
plan_enters w q (Fork d a) t m o s k z = elim (either_one (t == a) (t == d.job) z) [
  | inl y ↦ no_scoped ((w.job a).kind) m o (scoped_at w t a m o y k) ((s.2).kind)
  | inr y ↦ no_scoped ((w.job d.job).kind) m o (scoped_at w t d.job m o y k) (call_undetached ((w.job d.job).kind) (d.number, q) ((s.0).kind))
]
plan_enters w q (Feed f) t m o s k z = elim (either_one (t == f.job) (t == f.token) z) [
  | inl y ↦ count_within f.count m o (sym ((s.0).kind) ∙ scoped_at w t f.job m o y k)
  | inr y ↦ token_scoped _ m _ o (sym ((s.1).kind) ∙ scoped_at w t f.token m o y k)
]
plan_enters w q (Enter e) t m o s k z = call_within e.call m e.owner o (sym ((s.0).kind) ∙ scoped_at w t e.job m o z k)
plan_enters w q (Gather g) t m o s k z = gather_none w q g t m o s k z

slot_plan : (w : World) (q : Party) (n : Plan) → SaysSlot w q n → SaysPlan w q n
slot_plan w q (Enter e) s = s
slot_plan w q (Feed f) s = s
slot_plan w q _ s = absurd s

rest_none : {A : Type 0} (w : World) (q : Party) (n : Plan) (t m : ℕ) (o : Party) → SaysTold w q n → (w.job t).kind ≡ Scoped m o → 1 ≤ hand_rest t n → A
rest_none w q (Fork d a) t m o s k z = no_scoped ((w.job a).kind) m o (scoped_at w t a m o z k) ((s.2).kind)
rest_none w q (Feed f) t m o s k z = absurd s
rest_none w q _ t m o s k z = absurd (omega (arith, z))

-- what was taken has left its call
taken_none : {A : Type 0} (w : World) (x : Taken) (t : ℕ) → Taking w x → is_left (w.job t).at ≡ false → 1 ≤ one (t == taken_number x) → A
taken_none w (Plain u) t s l z = absurd (let a : true ≡ false = sym s ∙ ap (λ n. is_left (w.job n).at) (sym (eqb-true t u (one_is (t == u) z))) ∙ l in cc)
taken_none w (Token u i b) t s l z = absurd (let a : true ≡ false = sym (s.0) ∙ ap (λ n. is_left (w.job n).at) (sym (eqb-true t u (one_is (t == u) z))) ∙ l in cc)

found_none : {A : Type 0} (w : World) (x : Option Taken) (t : ℕ) → SaysFound w x → is_left (w.job t).at ≡ false → 1 ≤ hand_found t x → A
found_none w None t s l z = absurd (omega (arith, z))
found_none w (Some x) t s l z = taken_none w x t s l z

then_enters : (w : World) (q : Party) (n : Then) (t m : ℕ) (o : Party) → SaysThen w q n → (w.job t).kind ≡ Scoped m o → is_left (w.job t).at ≡ false → 1 ≤ hand_then t n → 1 ≤ entering_then m n
then_enters w q (BeginFound g x) t m o s k l z = taken_none w x t (s.1) l z
then_enters w q (RunFirst d a) t m o s k l z = no_scoped ((w.job a).kind) m o (scoped_at w t a m o z k) ((s.2).kind)
then_enters w q (GiveBack n) t m o s k l z = plan_enters w q n t m o s k z
then_enters w q _ t m o s k l z = absurd (omega (arith, z))

token_none : {A : Type 0} (w : World) (q : Party) (f : Feeding) (t m : ℕ) (o : Party) → SaysPlan w q (Feed f) → (w.job t).kind ≡ Scoped m o → 1 ≤ one (t == f.token) → A
token_none w q f t m o s k z = token_scoped _ m _ o (sym ((s.1).kind) ∙ scoped_at w t f.token m o z k)

-- a job of a scope that a place has in hand, and that has not left its call
hand_enters : (w : World) (q : Party) (x : Place) (t m : ℕ) (o : Party) → Says w q x → (w.job t).kind ≡ Scoped m o → is_left (w.job t).at ≡ false → 1 ≤ hand t x → 1 ≤ entering m x
hand_enters w q (LeaveSearch j) t m o s k l z = found_none w j.found t (s.1) l z
hand_enters w q (BeginTask x) t m o s k l z = taken_none w x t s l z
hand_enters w q (BeginHere u) t m o s k l z = no_scoped ((w.job u).kind) m o (scoped_at w t u m o z k) s.kind
hand_enters w q (RaiseCount n) t m o s k l z = plan_enters w q n t m o s k z
hand_enters w q (GrowCall n) t m o s k l z = plan_enters w q n t m o (queue_plan w q n s) k z
hand_enters w q (GrowScope d) t m o s k l z = no_scoped ((w.job d.job).kind) m o (scoped_at w t d.job m o z k) (call_undetached ((w.job d.job).kind) (d.number, q) ((s.0).kind))
hand_enters w q (OpenSlot n) t m o s k l z = plan_enters w q n t m o (slot_plan w q n s) k z
hand_enters w q (CloseSlot n) t m o s k l z = plan_enters w q n t m o (slot_plan w q n s) k z
hand_enters w q (LookQueue n) t m o s k l z = plan_enters w q n t m o (queue_plan w q n s) k z
hand_enters w q (PushJob n e) t m o s k l z = plan_enters w q n t m o (queue_plan w q n s) k z
hand_enters w q (AddToFifo f) t m o s k l z = plan_enters w q (Feed f) t m o s k z
hand_enters w q (LookForToken f) t m o s k l z = token_none w q f t m o s k z
hand_enters w q (PushToken f e) t m o s k l z = token_none w q f t m o s k z
hand_enters w q (TakeFromFifo f) t m o s k l z = token_none w q f t m o s k z
hand_enters w q (RaiseForAll c) t m o s k l z = pieces_enter w c t m o (s.0) k z
hand_enters w q (OpenForAll c) t m o s k l z = pieces_enter w c t m o (s.0) k z
hand_enters w q (PushForAll c) t m o s k l z = pieces_enter w c t m o (s.0) k z
hand_enters w q (CloseForAll c) t m o s k l z = pieces_enter w c t m o (s.0) k z
hand_enters w q (LowerForAll c) t m o s k l z = pieces_enter w c t m o (s.0) k z
hand_enters w q (GrowCast g) t m o s k l z = gather_none w q g t m o s k z
hand_enters w q (DealPieces g) t m o s k l z = gather_none w q g t m o s k z
hand_enters w q (TellNews n e) t m o s k l z = rest_none w q n t m o s k z
hand_enters w q (LockToWake j) t m o s k l z = then_enters w q j.then t m o s k l z
hand_enters w q (WakeWorker j) t m o s k l z = then_enters w q j.then t m o s k l z
hand_enters w q (UnlockWoken j) t m o s k l z = then_enters w q j.then t m o s k l z
hand_enters w q (LowerCount p h n) t m o s k l z = then_enters w q n t m o (s.0) k l z
hand_enters w q (SetLatch j) t m o s k l z = then_enters w q j.then t m o (s.1) k l z
hand_enters w q (LockToSettle j) t m o s k l z = then_enters w q j.then t m o (s.1) k l z
hand_enters w q (WakeSettled j) t m o s k l z = then_enters w q j.then t m o (s.1) k l z
hand_enters w q (UnlockSettled j) t m o s k l z = then_enters w q j.then t m o (s.1) k l z
hand_enters w q (SetLockLatch c n) t m o s k l z = then_enters w q n t m o (s.1) k l z
hand_enters w q _ t m o s k l z = absurd (omega (arith, z))

-- frames have nothing in hand
frame_hand : (t : ℕ) (f : Place) → is_frame f ≡ true → hand t f ≡ 0
frame_hand t (ProbeWorking k) e = refl
frame_hand t _ e = cc

below_hand : (t : ℕ) (fs : List Place) → AllFrames fs → held_in t fs ≡ 0
below_hand t [] a = refl
below_hand t (f ∷ fs) a = let b : hand t f ≡ 0 = frame_hand t f (a.0) in let c : held_in t fs ≡ 0 = below_hand t fs (a.1) in omega (arith, b, c)

-- who has a job of a scope as its call has made it, or has taken it back, keeps the scope's count above 0
kept_above : (w : World) → ScopesHold w → EntersHold w → (q : Party) (t c : ℕ) (o : Party) → (w.job t).kind ≡ Scoped c o → is_left (w.job t).at ≡ false → is_with q (w.job t).at ≡ true → may_begin (w.job t).at ≡ false → 1 ≤ (w.call c).count
kept_above w h e q t c o k l i b = below_counts w h q c (e.enters q c (hand_enters w q ((w.stack q).top) t c o ((((h.shares).calls).says q).top) k l top))
  where
    some : held t (w.stack q) ≡ 1
    some = (once w (((h.shares).calls).jobs)).hand q t ∙ ap (λ n. one (is_with q (w.job t).at && (n == 0))) ((once w (((h.shares).calls).jobs)).unbegun t b) ∙ ap (λ y. one (y && true)) i

    top : 1 ≤ hand t (w.stack q).top
    top = let a : held t (w.stack q) ≡ (hand t ((w.stack q).top) + held_in t ((w.stack q).below)) = refl in let d : held_in t ((w.stack q).below) ≡ 0 = below_hand t ((w.stack q).below) (e.frames q) in omega (arith, a, d, some)

-- a job of a scope whose count is 0
pub through : (w : World) → ScopesHold w → EntersHold w → (c : ℕ) → (w.call c).count ≡ 0 → (t : ℕ) (o : Party) → t + 1 ≤ w.jobs → (w.job t).kind ≡ Scoped c o → is_through (w.job t).at ≡ true
through w h e c z t o l k = by ((w.job t).at) refl
  where
    held_none : {A : Type 0} (q : Party) → is_left (w.job t).at ≡ false → is_with q (w.job t).at ≡ true → may_begin (w.job t).at ≡ false → A
    held_none q a b d = absurd (let i : 1 ≤ (w.call c).count = kept_above w h e q t c o k a b d in omega (arith, i, z))

    busy_none : {A : Type 0} → is_busy (w.job t).at ≡ true → A
    busy_none b = absurd (let a : sum_below w.jobs (λ t. entry c (w.job t)) + (one (w.call c).counted + (w.call c).undealt) ≡ (w.call c).count = h.sums c in
        let d : entry c (w.job t) ≤ sum_below w.jobs (λ t. entry c (w.job t)) = sum_least w.jobs (λ t. entry c (w.job t)) t l in
        let i : entry c (w.job t) ≡ 1 = entry_on c (w.job t) (Scoped c o) (entry_kept w h t (ap is_scoped k) b) k ∙ self_one c in omega (arith, a, d, i, z))

    by : (v : Whereabouts) → (w.job t).at ≡ v → is_through (w.job t).at ≡ true
    by (Over d) i = ap is_through i
    by HandedBack i = ap is_through i
    by (Made q) i = held_none q (ap is_left i) (ap (is_with q) i ∙ same_party_refl q) (ap may_begin i)
    by (Retaken q) i = held_none q (ap is_left i) (ap (is_with q) i ∙ same_party_refl q) (ap may_begin i)
    by (InDeque p j) i = busy_none (ap is_busy i)
    by (Injected p) i = busy_none (ap is_busy i)
    by (InFifo p j b) i = busy_none (ap is_busy i)
    by (InCast p j) i = busy_none (ap is_busy i)
    by (Running q) i = busy_none (ap is_busy i)
    by Nowhere i = absurd (let a : is_known (w.job t).at ≡ true = (once w (((h.shares).calls).jobs)).known t (omega (arith, l)) in let b : is_known (w.job t).at ≡ false = ap is_known i in cc)
    by Spent i = no_scoped ((w.job t).kind) c o k (e.spent t i)

pub scope_ended : (w : World) → ScopesHold w → EntersHold w → (c : ℕ) → (w.call c).count ≡ 0 → CountOver w c → ScopeEnded w c
scope_ended w h e c z o = record { body = o.body; jobs = o.jobs; idle = o.idle; over = o.over; spawned = through w h e c z }

-- what is said of each scope's count
pub scopes_so : (w : World) → ScopesHold w → EntersHold w → ScopesCounted w
scopes_so w h e = scopes_counted w h (λ c b z. scope_ended w h e c z (count_over w h c b z))
