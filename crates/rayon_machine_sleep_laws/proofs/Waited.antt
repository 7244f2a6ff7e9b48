-- no completion of a job that a call waits for is lost: each step keeps that, once the job is over, the call's latch is
-- set, or a party comes to set it, or gives the job's share back
--
-- This is `Close`.
use Rattle.std.proofs.Common.{arith, refl, sym, ◌∙◌, ap, subst, inl, inr}
use Rattle.rayon_machine_sleep_laws.proofs.Words.{ℕ, Bool, true, false, ◌&&◌, ◌+◌, ◌==◌, ◌≤◌, nat_lt, if◌then◌else◌, Option, Some, None, List, [], ◌∷◌, ◌≡◌, ◌⊎◌, IfSome, eqb-true, eq-eqb, Party, Worker, Caller, Ending, JobKind, Detached, Stored, Direct, Scoped, BodyOf, PieceOf, WholeOf, TokenOf}
use Rattle.rayon_machine_sleep_laws.proofs.Words.{Termination, Latch, Count, OfPool, OfScope, OfCast, OfJob, Plain, Token, Place, ProbeWorking, BeginTask, GrowScope, Run, RaiseCount, RaiseForAll, LowerCount, StoreResult, SecondSide, Free, Stopped, Move, Seen, Event, Go, Job, PoolShape, act_of}
use Rattle.rayon_machine_sleep_laws.proofs.Words.{next_of, same_party, count_kind, fresh, Shape, Stack, World, Counts, Part, counts_at, head_of, target_pool, target_call, put, after_move, after_close, after_resume, step, is_done, IsRun, first_place, start, SetsSo, IsOnce, one, stores_for}
use Rattle.rayon_machine_sleep_laws.proofs.Words.{lowers_for}
use Rattle.rayon_machine_places.specs.Targets.{or_none}
use Rattle.rayon_machine_laws.specs.Bodies.{body, all_bodies, bodies_in}
use Rattle.rayon_machine_laws.proofs.Claims.{AllSay, Says, SaysRun, call_kind, here, is_body}
use Rattle.rayon_machine_laws.proofs.ClaimMakes.{always_once, always_calls}
use Rattle.rayon_machine_laws.proofs.ClaimRuns.{CallsHold, place_part}
use Rattle.rayon_machine_laws.proofs.SlotEvents.{fixed_law}
use Rattle.rayon_machine_laws.proofs.Frame.{if_some_and, if_some_each, if_some_map, put_same, after_kind, same_party_true, stack_mine, stack_other}
use Rattle.rayon_machine_laws.proofs.Gathered.{calls_of}
use Rattle.rayon_machine_laws.proofs.Later.{Static, act_static}
use Rattle.rayon_machine_laws.proofs.Pushing.{top_is}
use Rattle.rayon_machine_laws.proofs.ScopeCounts.{done_made}
use Rattle.rayon_machine_laws.proofs.SetLaws.{sets_law}
use Rattle.rayon_machine_laws.proofs.SetterActs.{SetsHold}
use Rattle.rayon_machine_laws.proofs.SetterEvents.{always_sets}
use Rattle.rayon_machine_laws.proofs.Setters.{led}
use Rattle.rayon_machine_laws.proofs.ShareEnds.{always_shares}
use Rattle.rayon_machine_laws.proofs.ShareSteps.{self_one}
use Rattle.rayon_machine_laws.proofs.Ties.{job_at, outcome, result}
use Rattle.rayon_machine_sleep_laws.specs.Done.{IsJobDone}
use Rattle.rayon_machine_sleep_laws.proofs.Dones.{Keeps, always_kept, acts, stands, now_sets, Nearly, nearly_on}
use Rattle.rayon_machine_sleep_laws.proofs.Overs.{Unended, act_unended, is_raising, gives_back, Shared, act_shared, marks, land, raises_all, Marked, act_marked, raised_job, unraised}
use Rattle.rayon_machine_sleep_laws.proofs.Rests.{acted, stepped, goes, not_both}
use Rattle.rayon_machine_sleep_laws.proofs.Sides.{is_stored, seconds, Backed, Firsts, Turning, land_backed, Known, act_turns, backed_kinds, backed_on}
use Rattle.rayon_machine_sleep_laws.proofs.Turnings.{places, RunEnds, Turns, turns}
use Rattle.rayon_machine_sleep_laws.proofs.Zeros.{sets_now, led_leads}

-- the place gives this job's share back, and it stores how the job ended that this call waits for
abbrev lowers_now : ℕ → Place → Bool
lowers_now t (LowerCount k (OfJob u) n) = t == u
lowers_now t x = false

abbrev stores_now : ℕ → Place → Bool
stores_now c (StoreResult d o e) = c == d
stores_now c x = false

-- what an act leaves
record Acted (w : World) (q : Party) (v : World) : Type 0 where
  kind : (t : ℕ) → (v.job t).kind ≡ (w.job t).kind
  over : (t : ℕ) → is_stored (w.job t).kind ≡ true → is_done (v.job t).at ≡ true → (v.job t).counted ≡ true → ((is_done (w.job t).at ≡ true) × ((w.job t).counted ≡ true)) × (lowers_now t (w.stack q).top ≡ true → ⊥)
  stores : (c : ℕ) → stores_now c (w.stack q).top ≡ true → sets_now c (v.stack q).top ≡ true
  firsts : Firsts v
  backed : Backed w (places (w.stack q)) → Backed v (places (v.stack q))
  others : (s : Party) → same_party s q ≡ false → v.stack s ≡ w.stack s

-- what is known of the job that an act begins
body_unstored : (k : JobKind) → is_body k ≡ true → is_stored k ≡ false
body_unstored (BodyOf c o) e = refl
body_unstored (WholeOf c o) e = refl
body_unstored k e = cc

known : (w : World) (q : Party) (x : Place) → SetsHold w → (w.stack q).top ≡ x → Says w q x → Known w (place_part w q x) x
known w (Worker a b) (BeginTask (Plain t)) h z s = refl
known w (Caller n) (BeginTask (Plain t)) h z s = refl
known w (Worker a b) (BeginTask (Token k i v)) h z s = λ t ts e. ap (λ l. (w.job (or_none (head_of l))).kind) e
known w (Caller n) (BeginTask (Token k i v)) h z s = λ t ts e. ap (λ l. (w.job (or_none (head_of l))).kind) e
known w q (GrowScope o) h z s =
    let a : all_bodies o.number (w.stack q) ≡ one (o.number == o.number) + bodies_in o.number (w.stack q).below = ap (λ x. body o.number x + bodies_in o.number (w.stack q).below) z in
    let b : one (o.number == o.number) ≡ 1 = self_one o.number in
    body_unstored (w.job o.job).kind (ap (λ t. is_body (w.job t).kind) (sym ((s.0).target)) ∙ h.bodies q o.number (omega (arith, a, b)))
known w q x h z s = tt

-- the pieces of a broadcast are waited for by no call of their own
pieces_unstored : (w : World) (q : Party) (t : ℕ) (x : Place) → Says w q x → raises_all t x ≡ true → is_stored (w.job t).kind ≡ true → ⊥
pieces_unstored w q t (RaiseForAll b) s y k = not_both (is_stored (w.job t).kind) k (ap is_stored ((s.0 t y).kind) ∙ none b.count)
  where
    none : (n : Count) → is_stored (count_kind n) ≡ false
    none (OfPool p) = refl
    none _ = refl
pieces_unstored w q t x s y k = cc

-- the job of a raise, and that of a Lower
raise_at : (w : World) (q : Party) (x : Place) → is_raising x ≡ true → job_at w q (act_of q x) ≡ raised_job x
raise_at w (Worker a b) (RaiseCount n) e = refl
raise_at w (Caller v) (RaiseCount n) e = refl
raise_at w q x e = cc

lower_at : (w : World) (q : Party) (t : ℕ) (x : Place) → lowers_now t x ≡ true → (gives_back x ≡ true) × (t ≡ job_at w q (act_of q x))
lower_at w (Worker a b) t (LowerCount k (OfJob u) n) e = (refl, eqb-true t u e)
lower_at w (Caller v) t (LowerCount k (OfJob u) n) e = (refl, eqb-true t u e)
lower_at w q t x e = cc

stores_led : (c : ℕ) (x : Place) (e : Seen) → stores_now c x ≡ true → led x e ≡ Some c
stores_led c (StoreResult d o v) e y = ap Some (sym (eqb-true c d y))
stores_led c x e y = cc

-- what is known of an act
record Deed (w : World) (q : Party) (x : Place) (r : Seen × Part) : Type 0 where
  static : Static (place_part w q x) r
  unended : Unended (place_part w q x) r
  shared : Shared (place_part w q x) x r
  marked : (t : ℕ) → Marked t (w.shape.pool (target_pool q (act_of q x))) q x r
  turning : Turning w x (next_of (w.shape.pool (target_pool q (act_of q x))) q x (r.0))

deed_acted : (w : World) (q : Party) (r : Seen × Part) → IsOnce w → Says w q (w.stack q).top → Firsts w → Deed w q (w.stack q).top r → Acted w q (result w q (w.stack q) r)
deed_acted w q r o s f d = record { kind = kind; over = over; stores = stores; firsts = firsts; backed = backed; others = λ g n. stack_other w.stack q to g n }
  where
    x : Place
    x = (w.stack q).top

    n : ℕ
    n = job_at w q (act_of q x)

    g : Move
    g = next_of (w.shape.pool (target_pool q (act_of q x))) q x (r.0)

    to : Stack
    to = after_move g (w.stack q).below

    J : ℕ → Job
    J = put w.job n (r.1.job)

    v : World
    v = result w q (w.stack q) r

    kind : (t : ℕ) → (v.job t).kind ≡ (w.job t).kind
    kind t = after_kind q g J t ∙ put_same (λ j. j.kind) w.job n (r.1.job) t ((d.static).kind)

    firsts : Firsts v
    firsts c a e = let y : (a + 1 ≤ w.jobs) × (is_stored (w.job a).kind ≡ false) = f c a (sym (put_same (λ j. j.first) w.call (target_call (act_of q x)) (r.1.call) c ((d.static).side)) ∙ e) in (y.0, ap is_stored (kind a) ∙ y.1)

    backed : Backed w (places (w.stack q)) → Backed v (places (v.stack q))
    backed b = subst (λ k. Backed v (places k)) (sym (stack_mine w.stack q to)) (backed_kinds w v (places to) kind (land_backed w x g (w.stack q).below (d.turning) b))

    stores : (c : ℕ) → stores_now c x ≡ true → sets_now c (v.stack q).top ≡ true
    stores c y = ap (sets_now c) (top_is w q (w.stack q) r) ∙ led_leads (w.shape.pool (target_pool q (act_of q x))) q x (r.0) (w.stack q).below c (stores_led c x (r.0) y)

    -- the job before the move
    before : (t : ℕ) (b : Bool) → (t == n) ≡ b → is_stored (w.job t).kind ≡ true → is_done ((if b then r.1.job else w.job t).at) ≡ true → (if b then r.1.job else w.job t).counted ≡ true → ((is_done (w.job t).at ≡ true) × ((w.job t).counted ≡ true)) × (lowers_now t x ≡ true → ⊥)
    before t false e k y z = ((y, z), λ l. not_both (t == n) (eq-eqb t n ((lower_at w q t x l).1)) e)
    before t true e k y z =
        let i : t ≡ n = eqb-true t n e in
        let done : is_done (w.job t).at ≡ true = ap (λ m. is_done (w.job m).at) i ∙ (d.unended) y in
        elim ((d.shared).had z) [
          | inl a ↦ ((done, ap (λ m. (w.job m).counted) i ∙ a), λ l. not_both (r.1.job.counted) z ((d.shared).back ((lower_at w q t x l).0)))
          | inr a ↦ absurd (unraised w q x o refl s a t (i ∙ raise_at w q x a) k done)
        ]

    over : (t : ℕ) → is_stored (w.job t).kind ≡ true → is_done (v.job t).at ≡ true → (v.job t).counted ≡ true → ((is_done (w.job t).at ≡ true) × ((w.job t).counted ≡ true)) × (lowers_now t x ≡ true → ⊥)
    over t k y z =
        let a : (is_done (J t).at ≡ true) × ((v.job t).counted ≡ true → ((J t).counted ≡ true) ⊎ (marks t g ≡ true)) = land q t g J y in
        elim (a.1 z) [
          | inl c ↦ before t (t == n) refl k (a.0) c
          | inr m ↦ absurd (pieces_unstored w q t x s (d.marked t m) k)
        ]

go_acted : (w : World) (q : Party) → IsOnce w → SetsHold w → Firsts w → IfSome (outcome w q (w.stack q)) (λ r. Acted w q (result w q (w.stack q) r))
go_acted w q o h f = if_some_map (λ r. ((Static m r × Unended m r) × (Shared m x r × Turning w x (next_of g q x (r.0)))) × ((t : ℕ) → Marked t g q x r)) (λ r. Acted w q (result w q (w.stack q) r))
    (λ r a. deed_acted w q r o says f (record { static = ((a.0).0).0; unended = ((a.0).0).1; shared = ((a.0).1).0; turning = ((a.0).1).1; marked = a.1 })) (outcome w q (w.stack q))
    (if_some_and (λ r. (Static m r × Unended m r) × (Shared m x r × Turning w x (next_of g q x (r.0)))) (λ r. (t : ℕ) → Marked t g q x r) (outcome w q (w.stack q))
    (if_some_and (λ r. Static m r × Unended m r) (λ r. Shared m x r × Turning w x (next_of g q x (r.0))) (outcome w q (w.stack q))
    (if_some_and (Static m) (Unended m) (outcome w q (w.stack q)) (act_static w.shape q c m x) (act_unended (act_of q x) w.shape q c m))
    (if_some_and (Shared m x) (λ r. Turning w x (next_of g q x (r.0))) (outcome w q (w.stack q)) (act_shared w.shape q c m x) (act_turns w w.shape g q c m x f says (known w q x h refl says))))
    (if_some_each {I = ℕ} (λ t r. Marked t g q x r) (outcome w q (w.stack q)) (λ t. act_marked t w.shape g q c m x)))
  where
    x : Place
    x = (w.stack q).top

    m : Part
    m = place_part w q x

    c : Counts
    c = counts_at w (target_pool q (act_of q x))

    g : PoolShape
    g = w.shape.pool (target_pool q (act_of q x))

    says : Says w q x
    says = ((calls_of w (h.gathers)).says q).top

-- what holds of the frames of every world
record Framed (w : World) : Type 0 where
  firsts : Firsts w
  backed : (q : Party) → Backed w (places (w.stack q))

framed_go : (w v : World) (q : Party) → Acted w q v → Framed w → Framed v
framed_go w v q a f = record { firsts = a.firsts; backed = λ s. by s (same_party s q) refl }
  where
    by : (s : Party) (b : Bool) → same_party s q ≡ b → Backed v (places (v.stack s))
    by s true e = subst (λ r. Backed v (places (v.stack r))) (sym (same_party_true s q e)) (a.backed (f.backed q))
    by s false e = subst (λ k. Backed v (places k)) (sym (a.others s e)) (backed_kinds w v (places (w.stack s)) (a.kind) (f.backed s))

says_all : (w : World) (q : Party) → CallsHold w → AllSay w q (places (w.stack q))
says_all w q h = ((h.says q).top, (h.says q).below)

framed_rest : (w v : World) → CallsHold w → ((t : ℕ) → t + 1 ≤ w.jobs → (v.job t).kind ≡ (w.job t).kind) → Turns w v → Framed w → Framed v
framed_rest w v h k m f = record { firsts = m.firsts (f.firsts); backed = λ s. subst (λ x. Backed v (places x)) (sym (m.stack s)) (by s (same_party s m.party) refl) }
  where
    by : (s : Party) (b : Bool) → same_party s m.party ≡ b → Backed v (places (if b then m.to else w.stack s))
    by s true e = m.backed (says_all w m.party h) (f.backed m.party)
    by s false e = backed_on w v s (places (w.stack s)) k (says_all w s h) (f.backed s)

-- a job whose completion is at hand: its call's latch is set or about to be, or a party stores how it ended, or gives its
-- share back
abbrev Close : World → ℕ → ℕ → Party → Type 0
Close w t c o = Nearly w c ⊎ (((s : Party) × (stores_now c (w.stack s).top ≡ true)) ⊎ (lowers_now t (w.stack o).top ≡ true))

abbrev AllClose : World → Type 0
AllClose w = (t c : ℕ) (o : Party) → (w.job t).kind ≡ Stored c o → is_done (w.job t).at ≡ true → (w.job t).counted ≡ true → Close w t c o

abbrev Sos : World → World → Event → Type 0
Sos w v e = (p i : ℕ) (l : Latch) → SetsSo w v e p i l

close_go : (w v : World) (q : Party) → Sos w v (Go q) → step w (Go q) ≡ Some v → Acted w q v → AllClose w → AllClose v
close_go w v q so z a f t c o k d n = elim (f t c o kind ((old.0).0) ((old.0).1)) [
  | inl y ↦ inl (nearly_on w v (Go q) c so z y)
  | inr y ↦ elim y [ inl x ↦ stored (x.0) (same_party (x.0) q) refl (x.1) | inr x ↦ lowered (same_party o q) refl x ]
]
  where
    kind : (w.job t).kind ≡ Stored c o
    kind = sym (a.kind t) ∙ k

    old : ((is_done (w.job t).at ≡ true) × ((w.job t).counted ≡ true)) × (lowers_now t (w.stack q).top ≡ true → ⊥)
    old = a.over t (ap is_stored kind) d n

    stored : (s : Party) (b : Bool) → same_party s q ≡ b → stores_now c (w.stack s).top ≡ true → Close v t c o
    stored s true e y = inl (inr (q, a.stores c (ap (λ r. stores_now c (w.stack r).top) (sym (same_party_true s q e)) ∙ y)))
    stored s false e y = inr (inl (s, ap (λ x. stores_now c (x.top)) (a.others s e) ∙ y))

    lowered : (b : Bool) → same_party o q ≡ b → lowers_now t (w.stack o).top ≡ true → Close v t c o
    lowered true e y = absurd (old.1 (ap (λ r. lowers_now t (w.stack r).top) (sym (same_party_true o q e)) ∙ y))
    lowered false e y = inr (inr (ap (λ x. lowers_now t (x.top)) (a.others o e) ∙ y))

-- what runs was made
run_made : (w : World) (t : ℕ) (k : JobKind) → SaysRun w t k → t + 1 ≤ w.jobs
run_made w t (Detached p) s = s.0
run_made w t (Stored c o) s = s.0
run_made w t (Scoped c o) s = s.0
run_made w t (PieceOf c o) s = s.0
run_made w t _ s = s.made

-- who runs such a job goes on to store how it ended, or to give its share back
resumed : (t : ℕ) (d : Ending) (fs : List Place) → seconds t fs ≡ true → lowers_now t (after_resume fs d).top ≡ true
resumed t d (SecondSide o ∷ fs) e = e
resumed t d _ e = cc

-- that is the call's own party
abbrev party_in : Party → Option (ℕ × Party) → Party
party_in q None = q
party_in q (Some x) = x.1

owner_is : (w : World) (q : Party) (t c : ℕ) (o : Party) (fs : List Place) → AllSay w q fs → seconds t fs ≡ true → (w.job t).kind ≡ Stored c o → o ≡ q
owner_is w q t c o (SecondSide u ∷ fs) s e k = ap (party_in q) (ap call_kind (sym k ∙ ap (λ n. (w.job n).kind) (eqb-true t u.job e)) ∙ ((s.0).0).kind)
owner_is w q t c o _ s e k = cc

closes : (w : World) (t c : ℕ) (o : Party) (k : JobKind) (d : Ending) (fs : List Place) → (w.job t).kind ≡ Stored c o → SaysRun w t k → Backed w (Run t k ∷ fs) → (stores_now c (after_close t k d fs).top ≡ true) ⊎ ((lowers_now t (after_close t k d fs).top ≡ true) × (seconds t fs ≡ true))
closes w t c o (Stored b p) d fs e s f = inl (eq-eqb c b (call_is b c p o (sym (s.1) ∙ e)))
  where
    call_is : (b c : ℕ) (p o : Party) → Stored b p ≡ Stored c o → c ≡ b
    call_is b c p o e = cc
closes w t c o (Detached p) d fs e s f = absurd (let z : Detached p ≡ Stored c o = sym (s.1) ∙ e in cc)
closes w t c o (Scoped b p) d fs e s f = absurd (let z : Scoped b p ≡ Stored c o = sym (s.1) ∙ e in cc)
closes w t c o (PieceOf b p) d fs e s f = absurd (let z : PieceOf b p ≡ Stored c o = sym (s.1) ∙ e in cc)
closes w t c o _ d fs e s f = inr (let y : seconds t fs ≡ true = f.0 t refl (ap is_stored e) in (resumed t d fs y, y))

stores_goes : (c : ℕ) (x : Place) → stores_now c x ≡ true → goes x ≡ true
stores_goes c (StoreResult d o e) y = refl
stores_goes c x y = cc

lowers_goes : (t : ℕ) (x : Place) → lowers_now t x ≡ true → goes x ≡ true
lowers_goes t (LowerCount k (OfJob u) n) y = refl
lowers_goes t x y = cc

-- what is known of an event that is no act
record Rested (w v : World) (e : Event) : Type 0 where
  sets : Sos w v e
  made : step w e ≡ Some v
  no_act : (s : Party) → acts s e ≡ false
  calls : CallsHold w
  kinds : (t : ℕ) → t + 1 ≤ w.jobs → (v.job t).kind ≡ (w.job t).kind
  old : (t : ℕ) → is_done (w.job t).at ≡ true → t + 1 ≤ w.jobs
  turns : Turns w v

close_rest : (w v : World) (e : Event) → Rested w v e → Framed w → AllClose w → AllClose v
close_rest w v e r g f t c o k d n = elim ((r.turns).done t d) [ inl y ↦ still (y.0) (y.1) | inr y ↦ ends y ]
  where
    q : Party
    q = (r.turns).party

    still : (w.job t).at ≡ (v.job t).at → (v.job t).counted ≡ (w.job t).counted → Close v t c o
    still a b =
        let was : is_done (w.job t).at ≡ true = ap is_done a ∙ d in
        elim (f t c o (sym (r.kinds t (r.old t was)) ∙ k) was (sym b ∙ n)) [
          | inl y ↦ inl (nearly_on w v e c (r.sets) (r.made) y)
          | inr y ↦ elim y [
            | inl x ↦ inr (inl (x.0, ap (λ z. stores_now c (z.top)) (stands w v e (x.0) (stores_goes c (w.stack (x.0)).top (x.1)) (r.no_act (x.0)) (r.made)) ∙ x.1))
            | inr x ↦ inr (inr (ap (λ z. lowers_now t (z.top)) (stands w v e o (lowers_goes t (w.stack o).top x) (r.no_act o) (r.made)) ∙ x))
          ]
        ]

    ends : RunEnds w v q (r.turns).to t → Close v t c o
    ends y =
        let says : SaysRun w t y.kind = subst (Says w q) (y.top) ((((r.calls).says) q).top) in
        let made : t + 1 ≤ w.jobs = run_made w t y.kind says in
        let to : v.stack q ≡ after_close t y.kind y.ending (w.stack q).below = (r.turns).stack q ∙ stack_mine w.stack q (r.turns).to ∙ y.leads in
        elim (closes w t c o y.kind y.ending (w.stack q).below (sym (r.kinds t made) ∙ k) says (subst (λ x. Backed w (x ∷ (w.stack q).below)) (y.top) (g.backed q))) [
          | inl x ↦ inr (inl (q, ap (λ z. stores_now c (z.top)) to ∙ x))
          | inr x ↦ inr (inr (ap (λ s. lowers_now t (v.stack s).top) (owner_is w q t c o (w.stack q).below ((((r.calls).says) q).below) (x.1) (sym (r.kinds t made) ∙ k)) ∙ ap (λ z. lowers_now t (z.top)) to ∙ x.0))
        ]

-- each step keeps both
abbrev Both : World → Type 0
Both w = Framed w × AllClose w

both_step : (h : Shape) (es : List Event) (w v : World) (e : Event) → IsRun (start h) es w → Sos w v e → step w e ≡ Some v → Both w → Both v
both_step h es w v (Go q) r so z b =
    let a : Acted w q v = stepped w v (Go q) (Acted w q) z (acted w q (Acted w q) (go_acted w q (always_once h es w r) (always_sets h es w r) ((b.0).firsts))) in
    (framed_go w v q a (b.0), close_go w v q so z a (b.1))
both_step h es w v e r so z b =
    let m : Turns w v = stepped w v e (Turns w) z (turns w e refl) in
    let k : (t : ℕ) → t + 1 ≤ w.jobs → (v.job t).kind ≡ (w.job t).kind = λ t l. (fixed_law h es w v e t r z (omega (arith, l))).kind in
    (framed_rest w v (always_calls h es w r) k m (b.0), close_rest w v e (record { sets = so; made = z; no_act = λ s. refl; calls = always_calls h es w r; kinds = k; old = λ t d. done_made w (always_shares h es w r) t d; turns = m }) (b.0) (b.1))

both_keep : (h : Shape) → Keeps h Both
both_keep h es w v e r z b = both_step h es w v e r (λ p i l. sets_law h es w v e p i l r z) z b

first_calm : (h : Shape) (q : Party) → here (first_place h q) ≡ None
first_calm h (Caller n) = at (nat_lt n h.callers)
  where
    at : (z : Bool) → here (if z then Free else Stopped) ≡ None
    at true = refl
    at false = refl
first_calm h (Worker p i) = at (nat_lt i (h.pool p).workers) ((h.pool p).callers_own && (i == 0))
  where
    at : (y z : Bool) → here (if y then (if z then Free else ProbeWorking (fresh Termination)) else Stopped) ≡ None
    at true true = refl
    at true false = refl
    at false z = refl

first_both : (h : Shape) → Both (start h)
first_both h = (
  record {
    firsts = λ c a e. absurd (cc);
    backed = λ q. (λ t e s. absurd (let z : None ≡ Some t = sym (first_calm h q) ∙ e in cc), tt);
  },
  λ t c o k d n. absurd (cc),
)

pub always_close : (h : Shape) (es : List Event) (w : World) → IsRun (start h) es w → AllClose w
always_close h es w r = (always_kept h Both (first_both h) (both_keep h) es w r).1

-- in the words of the law
stores_told : (q : Party) (c : ℕ) (x : Place) → stores_now c x ≡ true → stores_for c (act_of q x) ≡ true
stores_told (Worker a b) c (StoreResult d o e) y = y
stores_told (Caller n) c (StoreResult d o e) y = y
stores_told q c x y = cc

lowers_told : (q : Party) (t : ℕ) (x : Place) → lowers_now t x ≡ true → lowers_for t (act_of q x) ≡ true
lowers_told (Worker a b) t (LowerCount k (OfJob u) n) y = y
lowers_told (Caller v) t (LowerCount k (OfJob u) n) y = y
lowers_told q t x y = cc

pub job_done : (w : World) → AllClose w → IsJobDone w
job_done w f t c o k d n = elim (f t c o k d n) [
  | inl y ↦ inl (elim y [ inl x ↦ inl x | inr x ↦ inr (record { party = x.0; next = now_sets c 0 0 (x.0) (w.stack (x.0)).top (x.1) }) ])
  | inr y ↦ inr (elim y [
    | inl x ↦ inl (record { party = x.0; next = stores_told (x.0) c (w.stack (x.0)).top (x.1) })
    | inr x ↦ inr (lowers_told o t (w.stack o).top x)
  ])
]
