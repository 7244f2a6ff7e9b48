-- each job is queued and run at its own pool, and stands in the list of its own kind
use Rattle.std.proofs.Common.{arith, refl, ◌∙◌, sym, ap, subst, inl, inr}
use Rattle.std.specs.Prelude.{ℕ, Bool, true, false, not, ◌&&◌, ◌||◌, ◌+◌, ◌==◌, Option, Some, None, ◌≡◌, ◌⊎◌, IfSome, List, [], ◌∷◌}
use Rattle.std.proofs.lemmas.Bool.{eqb-true, eq-eqb}
use Rattle.rayon_machine_places.specs.declared.place.Party.{Party}
use Rattle.rayon_machine_places.specs.declared.place.Party.TheVariants.{Worker, Caller}
use Rattle.rayon_machine_places.specs.declared.place.JobKind.{JobKind}
use Rattle.rayon_machine_places.specs.declared.place.JobKind.TheVariants.{Detached, Stored, Direct, Scoped, TokenOf}
use Rattle.rayon_machine_places.specs.declared.place.Count.{Count}
use Rattle.rayon_machine_places.specs.declared.place.Count.TheVariants.{OfPool, OfScope, OfCast}
use Rattle.rayon_machine_places.specs.declared.place.Plan.{Plan}
use Rattle.rayon_machine_places.specs.declared.place.Plan.TheVariants.{Detach, Here, Send, Fork, Feed, Open, Enter, Gather}
use Rattle.rayon_machine_places.specs.declared.place.Taken.TheVariants.{Plain, Token}
use Rattle.rayon_machine_places.specs.declared.place.Place.{Place}
use Rattle.rayon_machine_places.specs.declared.place.Place.TheVariants.{PopWorking, TakeCastWorking, PopIdle, TakeCastIdle, StealFrom, PopInjected, JoinPop, JoinTakeCast, YieldPop, YieldTakeCast, YieldSteal, YieldPopInjected, LocalPop, LocalTakeCast, BeginTask, BeginHere, PushJob, AddToFifo, PushToken, TakeFromFifo, PushForAll, DealPieces}
use Rattle.rayon_machine_places.specs.declared.place.Move.TheVariants.{Enter}
use Rattle.rayon_machine_places.specs.declared.act.Act.{Act}
use Rattle.rayon_machine_places.specs.declared.act.Seen.{Seen}
use Rattle.rayon_machine_places.specs.declared.act.Seen.TheVariants.{Missing}
use Rattle.rayon_machine_runs.specs.declared.state.Whereabouts.{Whereabouts}
use Rattle.rayon_machine_runs.specs.declared.state.Whereabouts.TheVariants.{Made, InDeque, Injected, InFifo, InCast, Retaken, Running}
use Rattle.rayon_machine_runs.specs.declared.state.Job.{Job}
use Rattle.rayon_machine_places.specs.Places.{is_member, act_of, own_pool, own_index, plan_job, plan_pool, count_book, count_kind}
use Rattle.rayon_machine_runs.specs.World.{World, Part, counts_at, at_job, effect, popped, take_cast, pop_injector, head_of, is_open, same_list}
use Rattle.rayon_machine_places.specs.Targets.{target_pool, target_worker, target_call}
use Rattle.rayon_machine_runs.specs.Steps.{part_of}
use Rattle.rayon_machine_laws.specs.Once.{IsOnce, in_deque, in_injector, in_fifo, in_cast, is_with, one, hand, held, held_in}
use Rattle.rayon_machine_laws.specs.Near.{IsNear, has_line, is_body, is_decked, is_direct, is_for, is_lined, is_near, is_queued}
use Rattle.rayon_machine_laws.proofs.Frame.{and_parts, if_cond, if_some_and, if_some_map, out_sees, same_index, same_party_true, undo_sees}
use Rattle.rayon_machine_laws.proofs.Ties.{job_at}
use Rattle.rayon_machine_laws.proofs.Lists.{SameJobs, quiet_same}
use Rattle.rayon_machine_laws.proofs.Located.{is_left}
use Rattle.rayon_machine_laws.proofs.Placed.{outcome_of}
use Rattle.rayon_machine_laws.proofs.Claims.{KnownCount, Says, is_detached}
use Rattle.rayon_machine_laws.proofs.Later.{Static}
use Rattle.rayon_machine_laws.proofs.ClaimRuns.{place_part}
use Rattle.rayon_machine_laws.proofs.Stocked.{one_set}
use Rattle.rayon_machine_laws.proofs.Bounds.{cast_in, first_at, head_at, inj_at, last_at, own_at}
use Rattle.rayon_machine_laws.proofs.Kindly.{Kinds, PlanKinds, is_made, is_stored}
use Rattle.rayon_machine_laws.proofs.Records.{push_by}

-- where a job is, by its record
abbrev pub Near : Job → Type 0
Near j = is_near j.kind j.pool j.bound j.at ≡ true

-- one record after another: it is near if that was, and made only if that was
abbrev pub Goes : Job → Job → Type 0
Goes j k = (Near j → Near k) × (is_made j.at ≡ false → is_made k.at ≡ false)

pub both : (a b : Bool) → a ≡ true → b ≡ true → (a && b) ≡ true
both true true e f = refl
both false b e f = cc
both true false e f = cc

right_true : (a b : Bool) → b ≡ true → (a || b) ≡ true
right_true true b e = refl
right_true false b e = e

-- a worker of the pool
member : (a i p : ℕ) → p ≡ a → is_member (Worker a i) p ≡ true
member a i p e = eq-eqb a p (sym e)

runs_near : (k : JobKind) (p : ℕ) (b : Option ℕ) (a i : ℕ) → p ≡ a → is_near k p b (Running (Worker a i)) ≡ true
runs_near k p b a i e = right_true (is_body k) (is_member (Worker a i) p) (member a i p e)

-- what a worker of the pool takes from a list of the pool is near
deck_near : (k : JobKind) (p : ℕ) (b : Option ℕ) (r j i : ℕ) (v : Whereabouts) → in_deque r j v ≡ true → is_near k p b v ≡ true → is_near k p b (Running (Worker r i)) ≡ true
deck_near k p b r j i (InDeque a c) e n = runs_near k p b r i (eqb-true p a ((and_parts (p == a) (is_decked c k) n).0) ∙ sym ((same_index r j a c e).0))
deck_near k p b r j i _ e n = absurd (cc)

inj_near : (k : JobKind) (p : ℕ) (b : Option ℕ) (r i : ℕ) (v : Whereabouts) → in_injector r v ≡ true → is_near k p b v ≡ true → is_near k p b (Running (Worker r i)) ≡ true
inj_near k p b r i (Injected a) e n = runs_near k p b r i (eqb-true p a ((and_parts (p == a) (is_queued k) n).0) ∙ sym (eqb-true r a e))
inj_near k p b r i _ e n = absurd (cc)

line_near : (k : JobKind) (p : ℕ) (b : Option ℕ) (r j i : ℕ) (c : Option ℕ) (v : Whereabouts) → in_fifo r j c v ≡ true → is_near k p b v ≡ true → is_near k p b (Running (Worker r i)) ≡ true
line_near k p b r j i c (InFifo a d f) e n = runs_near k p b r i (eqb-true p a ((and_parts (p == a) (is_lined f k) n).0) ∙ sym ((same_index r j a d ((and_parts ((r == a) && (j == d)) (same_list c f) e).0)).0))
line_near k p b r j i c _ e n = absurd (cc)

cast_near : (k : JobKind) (p : ℕ) (b : Option ℕ) (r j i : ℕ) (v : Whereabouts) → in_cast r j v ≡ true → is_near k p b v ≡ true → is_near k p b (Running (Worker r i)) ≡ true
cast_near k p b r j i (InCast a c) e n = runs_near k p b r i (eqb-true p a ((and_parts (p == a) (is_for c b) n).0) ∙ sym ((same_index r j a c e).0))
cast_near k p b r j i _ e n = absurd (cc)

lined_has : (c : Option ℕ) (k : JobKind) → is_lined c k ≡ true → has_line k ≡ true
lined_has c (Detached p) e = refl
lined_has c (Scoped d o) e = refl
lined_has c _ e = cc

back_near : (k : JobKind) (p : ℕ) (b : Option ℕ) (r j : ℕ) (c : Option ℕ) (q : Party) (v : Whereabouts) → in_fifo r j c v ≡ true → is_near k p b v ≡ true → is_near k p b (Retaken q) ≡ true
back_near k p b r j c q (InFifo a d f) e n = lined_has f k ((and_parts (p == a) (is_lined f k) n).1)
back_near k p b r j c q _ e n = absurd (cc)

-- a job in a party's hand that has left its call is taken by that party
left_near : (k : JobKind) (p : ℕ) (b : Option ℕ) (q : Party) (v : Whereabouts) → is_left v ≡ true → is_with q v ≡ true → is_near k p b v ≡ true → is_near k p b (Running q) ≡ true
left_near k p b q (Running r) l e n = ap (λ s. is_near k p b (Running s)) (same_party_true q r e) ∙ n
left_near k p b q (Made r) l e n = absurd (cc)
left_near k p b q (Retaken r) l e n = absurd (cc)
left_near k p b q _ l e n = absurd (cc)

undetached_line : (k : JobKind) → is_detached k ≡ false → has_line k ≡ true → ⊥
undetached_line (Detached p) d e = cc
undetached_line (Scoped c o) d e = cc
undetached_line _ d e = cc

-- one that is run at once, by who has it in hand
here_near : (k : JobKind) (p : ℕ) (b : Option ℕ) (q : Party) (v : Whereabouts) → is_detached k ≡ false → (k ≡ Direct) ⊎ (is_made v ≡ false) → is_with q v ≡ true → is_near k p b v ≡ true → is_near k p b (Running q) ≡ true
here_near k p b q (Running r) d s e n = ap (λ s. is_near k p b (Running s)) (same_party_true q r e) ∙ n
here_near k p b q (Retaken r) d s e n = absurd (undetached_line k d n)
here_near k p b q (Made r) d (inl s) e n = right_true (is_body k) (is_member q p) (ap (λ z. is_member z p) (same_party_true q r e) ∙ (let f : (not (is_direct k) || is_member r p) ≡ true = n in subst (λ z. (not (is_direct z) || is_member r p) ≡ true) s f))
here_near k p b q (Made r) d (inr s) e n = absurd (cc)
here_near k p b q _ d s e n = absurd (cc)

-- what stands in a party's hand is with it
pub in_hand : (w : World) → IsOnce w → (q : Party) (x : Place) (fs : List Place) (t : ℕ) → w.stack q ≡ record { top = x; below = fs } → hand t x ≡ 1 → is_with q (w.job t).at ≡ true
in_hand w h q x fs t z e = (and_parts (is_with q (w.job t).at) ((w.job t).runs == 0) (one_set (is_with q (w.job t).at && ((w.job t).runs == 0))
    (let a : held t (w.stack q) ≡ one (is_with q (w.job t).at && ((w.job t).runs == 0)) = h.hand q t in let c : held t (w.stack q) ≡ (hand t x + held_in t fs) = ap (held t) z in omega (arith, a, c, e)))).0

abbrev pub Moves : Part → Seen × Part → Type 0
Moves m r = Goes m.job r.1.job

same_moves : (m : Part) (e : Seen) → Moves m (e, m)
same_moves m e = (λ n. n, λ n. n)

pop_moves : (q : Party) (m : Part) (rest : List ℕ) (o : Option ℕ) → ((t : ℕ) → o ≡ Some t → Near m.job → Near (at_job m.job (Running q))) → IfSome (popped q m rest o) (Moves m)
pop_moves q m rest None f = same_moves m Missing
pop_moves q m rest (Some t) f = (f t refl, λ n. refl)

inj_moves : (q : Party) (m : Part) (l : List ℕ) → ((t : ℕ) → head_of l ≡ Some t → Near m.job → Near (at_job m.job (Running q))) → IfSome (pop_injector q m l) (Moves m)
inj_moves q m [] f = same_moves m Missing
inj_moves q m (t ∷ ts) f = (f t refl, λ n. refl)

cast_moves : (q : Party) (m : Part) (l : List ℕ) → ((t : ℕ) → head_of l ≡ Some t → Near m.job → Near (at_job m.job (Running q))) → IfSome (take_cast q m l) (Moves m)
cast_moves q m [] f = same_moves m Missing
cast_moves q m (t ∷ ts) f = (f t refl, λ n. refl)

quiet_moves : (m : Part) (r : Seen × Part) → SameJobs m r → Static m r → Moves m r
quiet_moves m r s t = (
  λ n. ap (λ k. is_near k r.1.job.pool r.1.job.bound r.1.job.at) (t.kind) ∙ ap (λ p. is_near m.job.kind p r.1.job.bound r.1.job.at) (t.pool) ∙ ap (λ b. is_near m.job.kind m.job.pool b r.1.job.at) (t.bound) ∙ ap (is_near m.job.kind m.job.pool m.job.bound)
      (s.at) ∙ n,
  λ n. ap is_made (s.at) ∙ n,
)

-- what a call pushes
stored_queued : (k : JobKind) → is_stored k ≡ true → is_queued k ≡ true
stored_queued (Stored c o) e = refl
stored_queued _ e = cc

plan_queued : (w : World) (q : Party) (n : Plan) → Says w q (PushJob n true) → PlanKinds w.job w.jobs n → (is_queued (w.job (plan_job n)).kind ≡ true) × ((w.job (plan_job n)).pool ≡ plan_pool n)
plan_queued w q (Detach p t) s d = (ap is_queued (s.kind), s.pool)
plan_queued w q (Send o) s d = (stored_queued ((w.job o.job).kind) (d.1), (s.0).pool)
plan_queued w q (Fork o a) s d = (stored_queued ((w.job o.job).kind) (d.1), (s.0).pool)
plan_queued w q (Enter x) s d = (ap is_queued ((s.0).kind), (s.0).pool)
plan_queued w q (Here p t) s d = absurd s
plan_queued w q (Feed f) s d = absurd s
plan_queued w q (Open o) s d = absurd s
plan_queued w q (Gather g) s d = absurd s

queued_decked : (i : ℕ) (k : JobKind) → is_queued k ≡ true → is_decked i k ≡ true
queued_decked i (TokenOf j b) e = cc
queued_decked i (Detached p) e = refl
queued_decked i (Stored c o) e = refl
queued_decked i (Scoped c o) e = refl
queued_decked i _ e = cc

member_pool : (q : Party) (p : ℕ) → is_member q p ≡ true → own_pool q ≡ p
member_pool (Worker a b) p e = eqb-true a p e
member_pool (Caller c) p e = cc

abbrev act_part : World → Party → Act → Part
act_part w q a = part_of w (target_pool q a) (target_worker q a) (target_call a) (job_at w q a)

push_moves : (w : World) (q : Party) (n : Plan) (z : Bool) → is_member q (plan_pool n) ≡ z → (is_queued (w.job (plan_job n)).kind ≡ true) × ((w.job (plan_job n)).pool ≡ plan_pool n) → IfSome (outcome_of w q (push_by n z)) (Moves (act_part w q (push_by n z)))
push_moves w q n true e s = (
  λ k. both ((w.job (plan_job n)).pool == own_pool q) (is_decked (own_index q) (w.job (plan_job n)).kind) (eq-eqb ((w.job (plan_job n)).pool) (own_pool q) (s.1 ∙ sym (member_pool q (plan_pool n) e)))
      (queued_decked (own_index q) ((w.job (plan_job n)).kind) (s.0)),
  λ k. refl,
)
push_moves w q n false e s = (λ k. both ((w.job (plan_job n)).pool == plan_pool n) (is_queued (w.job (plan_job n)).kind) (eq-eqb ((w.job (plan_job n)).pool) (plan_pool n) (s.1)) (s.0), λ k. refl)

-- a job comes into the list of its own kind
counted_lined : (k : Count) → (count_book k ≡ count_book k) → ((c : ℕ) (o : Party) → k ≡ OfCast c o → ⊥) → is_lined (count_book k) (count_kind k) ≡ true
counted_lined (OfPool p) e n = refl
counted_lined (OfScope c o) e n = eq-eqb c c refl
counted_lined (OfCast c o) e n = absurd (n c o refl)

pub act_moves : (w : World) (q : Party) (x : Place) (fs : List Place) → w.stack q ≡ record { top = x; below = fs } → IsOnce w → IsNear w → Says w q x → Kinds w.job w.jobs x
    → IfSome (effect (act_of q x) w.shape q (counts_at w (target_pool q (act_of q x))) (place_part w q x)) (Static (place_part w q x)) → IfSome (effect (act_of q x) w.shape q (counts_at w (target_pool q (act_of q x))) (place_part w q x)) (Moves (place_part w q x))
act_moves w (Worker a b) (PopWorking k) fs z h nr s d st = pop_moves (Worker a b) (place_part w (Worker a b) (PopWorking k)) _ _ (λ t e n. deck_near _ _ _ a b b _ (own_at w h ((w.shape.pool a).order) a b t e) n)
act_moves w (Caller c) (PopWorking k) fs z h nr s d st = tt
act_moves w (Worker a b) (PopIdle k) fs z h nr s d st = pop_moves (Worker a b) (place_part w (Worker a b) (PopIdle k)) _ _ (λ t e n. deck_near _ _ _ a b b _ (own_at w h ((w.shape.pool a).order) a b t e) n)
act_moves w (Caller c) (PopIdle k) fs z h nr s d st = tt
act_moves w (Worker a b) (JoinPop o) fs z h nr s d st = pop_moves (Worker a b) (place_part w (Worker a b) (JoinPop o)) _ _ (λ t e n. deck_near _ _ _ a b b _ (own_at w h ((w.shape.pool a).order) a b t e) n)
act_moves w (Caller c) (JoinPop o) fs z h nr s d st = tt
act_moves w (Worker a b) YieldPop fs z h nr s d st = pop_moves (Worker a b) (place_part w (Worker a b) YieldPop) _ _ (λ t e n. deck_near _ _ _ a b b _ (own_at w h ((w.shape.pool a).order) a b t e) n)
act_moves w (Caller c) YieldPop fs z h nr s d st = tt
act_moves w (Worker a b) LocalPop fs z h nr s d st = pop_moves (Worker a b) (place_part w (Worker a b) LocalPop) _ _ (λ t e n. deck_near _ _ _ a b b _ (own_at w h ((w.shape.pool a).order) a b t e) n)
act_moves w (Caller c) LocalPop fs z h nr s d st = tt
act_moves w (Worker a b) (StealFrom k m) fs z h nr s d st = pop_moves (Worker a b) (place_part w (Worker a b) (StealFrom k m)) _ _ (λ t e n. deck_near _ _ _ a k.victim b _ (head_at w h a (k.victim) t e) n)
act_moves w (Caller c) (StealFrom k m) fs z h nr s d st = tt
act_moves w (Worker a b) (YieldSteal v m) fs z h nr s d st = pop_moves (Worker a b) (place_part w (Worker a b) (YieldSteal v m)) _ _ (λ t e n. deck_near _ _ _ a v b _ (head_at w h a v t e) n)
act_moves w (Caller c) (YieldSteal v m) fs z h nr s d st = tt
act_moves w (Worker a b) (PopInjected k) fs z h nr s d st = inj_moves (Worker a b) (place_part w (Worker a b) (PopInjected k)) _ (λ t e n. inj_near _ _ _ a b _ (inj_at w h a t e) n)
act_moves w (Caller c) (PopInjected k) fs z h nr s d st = tt
act_moves w (Worker a b) YieldPopInjected fs z h nr s d st = inj_moves (Worker a b) (place_part w (Worker a b) YieldPopInjected) _ (λ t e n. inj_near _ _ _ a b _ (inj_at w h a t e) n)
act_moves w (Caller c) YieldPopInjected fs z h nr s d st = tt
act_moves w (Worker a b) (TakeCastWorking k) fs z h nr s d st = cast_moves (Worker a b) (place_part w (Worker a b) (TakeCastWorking k)) _ (λ t e n. cast_near _ _ _ a b b _ (cast_in w h a b t e) n)
act_moves w (Caller c) (TakeCastWorking k) fs z h nr s d st = tt
act_moves w (Worker a b) (TakeCastIdle k) fs z h nr s d st = cast_moves (Worker a b) (place_part w (Worker a b) (TakeCastIdle k)) _ (λ t e n. cast_near _ _ _ a b b _ (cast_in w h a b t e) n)
act_moves w (Caller c) (TakeCastIdle k) fs z h nr s d st = tt
act_moves w (Worker a b) (JoinTakeCast o) fs z h nr s d st = cast_moves (Worker a b) (place_part w (Worker a b) (JoinTakeCast o)) _ (λ t e n. cast_near _ _ _ a b b _ (cast_in w h a b t e) n)
act_moves w (Caller c) (JoinTakeCast o) fs z h nr s d st = tt
act_moves w (Worker a b) YieldTakeCast fs z h nr s d st = cast_moves (Worker a b) (place_part w (Worker a b) YieldTakeCast) _ (λ t e n. cast_near _ _ _ a b b _ (cast_in w h a b t e) n)
act_moves w (Caller c) YieldTakeCast fs z h nr s d st = tt
act_moves w (Worker a b) LocalTakeCast fs z h nr s d st = cast_moves (Worker a b) (place_part w (Worker a b) LocalTakeCast) _ (λ t e n. cast_near _ _ _ a b b _ (cast_in w h a b t e) n)
act_moves w (Caller c) LocalTakeCast fs z h nr s d st = tt
act_moves w q (BeginTask (Plain t)) fs z h nr s d st = (λ n. left_near _ _ _ q (w.job t).at s (in_hand w h q (BeginTask (Plain t)) fs t z (ap one (eq-eqb t t refl))) n, λ n. refl)
act_moves w (Worker a b) (BeginTask (Token k i o)) fs z h nr s d st = out_sees (Moves (place_part w (Worker a b) (BeginTask (Token k i o)))) (Worker a b) (place_part w (Worker a b) (BeginTask (Token k i o))) o (λ n. n, λ n. n)
    (λ u us e. (λ n. line_near _ _ _ a i b o _ (first_at w h a i o u (ap head_of e)) n, λ n. refl))
act_moves w (Caller c) (BeginTask (Token k i o)) fs z h nr s d st = absurd (no_caller (left_near _ _ _ (Caller c) (w.job k).at (s.0) (in_hand w h (Caller c) (BeginTask (Token k i o)) fs k z (ap one (eq-eqb k k refl))) (nr k)))
  where
    no_caller : is_near (w.job k).kind (w.job k).pool (w.job k).bound (Running (Caller c)) ≡ true → ⊥
    no_caller e = let f : (is_body (w.job k).kind || false) ≡ true = e in let g : (is_body (w.job k).kind || false) ≡ false = ap (λ y. is_body y || false) (s.2) in let v : true ≡ false = sym f ∙ g in cc
act_moves w (Worker a b) (PushToken f v) fs z h nr s d st = (λ n. both ((w.job f.token).pool == a) (is_decked b (w.job f.token).kind) (eq-eqb ((w.job f.token).pool) a ((s.1).pool ∙ s.2)) (ap (is_decked b) ((s.1).kind) ∙ eq-eqb b b refl), λ n. refl)
act_moves w (Caller c) (PushToken f v) fs z h nr s d st = tt
act_moves w (Worker a b) (AddToFifo f) fs z h nr s d st = if_cond (Moves (place_part w (Worker a b) (AddToFifo f))) (is_open (Worker a b) ((w.seat a b).feeder (count_book f.count))) _
    (λ o. (λ n. both ((w.job f.job).pool == a) (is_lined (count_book f.count) (w.job f.job).kind) (eq-eqb ((w.job f.job).pool) a ((s.0).pool ∙ s.2)) (ap (is_lined (count_book f.count)) ((s.0).kind) ∙ counted_lined f.count refl (λ c o e. subst (λ k. KnownCount w k f.pool) e (s.3))), λ n. refl))
act_moves w (Caller c) (AddToFifo f) fs z h nr s d st = tt
act_moves w (Worker a b) (TakeFromFifo f) fs z h nr s d st = undo_sees (Moves (place_part w (Worker a b) (TakeFromFifo f))) (Worker a b) (place_part w (Worker a b) (TakeFromFifo f)) (count_book f.count) (λ n. n, λ n. n)
    (λ u e. (λ n. back_near _ _ _ a b (count_book f.count) (Worker a b) _ (last_at w h a b (count_book f.count) u e) n, λ n. refl))
act_moves w (Caller c) (TakeFromFifo f) fs z h nr s d st = tt
act_moves w q (BeginHere t) fs z h nr s d st = (λ n. here_near _ _ _ q (w.job t).at (s.kind) (d.1) (in_hand w h q (BeginHere t) fs t z (ap one (eq-eqb t t refl))) n, λ n. refl)
act_moves w q (PushForAll c) fs z h nr s d st = (λ n. n, λ n. n)
act_moves w q (DealPieces g) fs z h nr s d st = (λ n. n, λ n. n)
act_moves w q (PushJob n v) fs z h nr s d st = push_moves w q n (is_member q (plan_pool n)) refl (plan_queued w q n s d)
act_moves w q x fs z h nr s d st = if_some_map (λ r. SameJobs (place_part w q x) r × Static (place_part w q x) r) (Moves (place_part w q x)) (λ r f. quiet_moves (place_part w q x) r (f.0) (f.1)) (effect (act_of q x) w.shape q (counts_at w (target_pool q (act_of q x))) (place_part w q x))
    (if_some_and (SameJobs (place_part w q x)) (Static (place_part w q x)) (effect (act_of q x) w.shape q (counts_at w (target_pool q (act_of q x))) (place_part w q x)) (quiet_same w.shape q (counts_at w (target_pool q (act_of q x))) (place_part w q x) x refl) st)
