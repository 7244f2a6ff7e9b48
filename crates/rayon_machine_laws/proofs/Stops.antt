-- a worker stops, and leaves its search without a task, only once the latch that it waits for is set
--
-- `run_has` is as `run_keeps`, but its step has the run before it, and so every law that is proved.
use Rattle.std.proofs.Common.{refl, ◌∙◌, sym, ap, subst, inl, inr}
use Rattle.std.specs.Prelude.{ℕ, Bool, true, false, ◌&&◌, ◌==◌, ◌<◌, nat_lt, if◌then◌else◌, Some, None, ◌≡◌, ◌⊎◌, IfSome, List, [], ◌∷◌, ◌++◌}
use Rattle.std.proofs.lemmas.Bool.{lt-ltb}
use Rattle.rayon_machine_places.specs.declared.place.Party.{Party}
use Rattle.rayon_machine_places.specs.declared.place.Party.TheVariants.{Worker, Caller}
use Rattle.rayon_machine_places.specs.declared.place.Target.{Target}
use Rattle.rayon_machine_places.specs.declared.place.Target.TheVariants.{Termination, Answer}
use Rattle.rayon_machine_places.specs.declared.place.Latch.{Latch}
use Rattle.rayon_machine_places.specs.declared.place.Latch.TheVariants.{Terminate, OfCall}
use Rattle.rayon_machine_places.specs.declared.place.Place.{Place}
use Rattle.rayon_machine_places.specs.declared.place.Place.TheVariants.{ProbeWorking, ProbeIdle, Free, Stopped}
use Rattle.rayon_machine_places.specs.declared.act.Seen.{Seen}
use Rattle.rayon_machine_runs.specs.declared.event.Event.{Event}
use Rattle.rayon_machine_runs.specs.declared.event.Event.TheVariants.{Go}
use Rattle.rayon_machine_runs.specs.declared.state.Letter.{Letter}
use Rattle.rayon_machine_runs.specs.declared.state.Letter.TheVariants.{Set as IsSet}
use Rattle.rayon_machine_places.specs.Places.{act_of, next_of, own_pool, own_index, latch_of, after_wait, fresh, same_party}
use Rattle.rayon_machine_runs.specs.World.{Shape, Stack, World, Part, letter, is_set}
use Rattle.rayon_machine_places.specs.Targets.{target_pool, target_worker, target_call, call_of}
use Rattle.rayon_machine_runs.specs.Steps.{part_of, after_move, step}
use Rattle.rayon_machine_runs.specs.Runs.{IsRun, start, first_place}
use Rattle.rayon_machine_laws.specs.Attended.{letter_at}
use Rattle.rayon_machine_laws.specs.Latch.{SetsSo}
use Rattle.rayon_machine_laws.specs.Letters.{StopsOnSet}
use Rattle.rayon_machine_laws.proofs.Frame.{acted_keeps, either, if_some_and, if_some_map, same_party_true, stack_mine, stack_other}
use Rattle.rayon_machine_laws.proofs.Ties.{outcome, result, job_at, shape_at}
use Rattle.rayon_machine_laws.proofs.Calm.{counts_seen, part_at, next_at}
use Rattle.rayon_machine_laws.proofs.Posts.{Steers, Unless, is_base, is_live, set_at, probes_here, found_latch, steers}
use Rattle.rayon_machine_laws.proofs.PostEvents.{Based, Stepped, land, land_based, live_mild, turns}
use Rattle.rayon_machine_laws.proofs.SetLaws.{sets_law}

-- one step more of a run
more : (s w v : World) (es : List Event) (e : Event) → IsRun s es w → step w e ≡ Some v → IsRun s (es ++ e ∷ []) v
more s w v [] e r one = (v, subst (λ z. step z e ≡ Some v) r one, refl)
more s w v (d ∷ es) e (z, first, rest) one = (z, first, more z w v es e rest one)

further : (h : Shape) (P : World → Type 0) → ((es : List Event) (w v : World) (e : Event) → IsRun (start h) es w → step w e ≡ Some v → P w → P v) → (before : List Event) (w : World) → IsRun (start h) before w → P w → (es : List Event) (u : World) → IsRun w es u → P u
further h P f before w r p [] u e = subst P (sym e) p
further h P f before w r p (e ∷ es) u (v, one, rest) = further h P f (before ++ e ∷ []) v (more (start h) w v before e r one) (f before w v e r one p) es u rest

-- what each step of a run keeps, each world of it has
pub run_has : (h : Shape) (P : World → Type 0) → ((es : List Event) (w v : World) (e : Event) → IsRun (start h) es w → step w e ≡ Some v → P w → P v) → P (start h) → (es : List Event) (w : World) → IsRun (start h) es w → P w
run_has h P f p es w r = further h P f [] (start h) refl p es w r

-- what is known of a step
pub made : (P : World → Type 0) (w v : World) (e : Event) → step w e ≡ Some v → IfSome (step w e) P → P v
made P w v e s f = (let k : IfSome (Some v) P = subst (λ o. IfSome o P) s f in k)

-- each stack has its bottom, and the latches that places say are set are set
pub record StopsHold (w : World) : Type 0 where
  pub based : (q : Party) → Based (w.stack q)
  pub set : (p i : ℕ) (l : Latch) → i < (w.shape.pool p).workers → set_at (w.stack (Worker p i)).top ≡ Some l → letter_at w p i l ≡ IsSet

-- a party's act, from w to v
record ActStops (w : World) (q : Party) (v : World) : Type 0 where
  shape : v.shape ≡ w.shape
  others : (r : Party) → same_party r q ≡ false → v.stack r ≡ w.stack r
  based : Based (w.stack q) → Based (v.stack q)
  said : Based (w.stack q) → (l : Latch) → set_at (v.stack q).top ≡ Some l → (set_at (w.stack q).top ≡ Some l) ⊎ (letter_at w (own_pool q) (own_index q) l ≡ IsSet)

-- a look at a latch finds what is there
probed : (w : World) (a b : ℕ) (g : Target) → letter (latch_of g) (part_of w a b (call_of (latch_of g)) 0) ≡ letter_at w a b (latch_of g)
probed w a b Termination = refl
probed w a b (Answer o f) = refl

-- where it leads
abbrev Looks : World → Party → Place → List Place → Seen × Part → Type 0
Looks w q x fs r = (l : Latch) → set_at ((after_move (next_of (w.shape.pool (target_pool q (act_of q x))) q x (r.0)) fs).top) ≡ Some l → letter_at w (own_pool q) (own_index q) l ≡ IsSet

left_set : (w : World) (a b : ℕ) (g : Target) → letter_at w a b (latch_of g) ≡ IsSet → (l : Latch) → set_at (after_wait g) ≡ Some l → letter_at w a b l ≡ IsSet
left_set w a b Termination e Terminate s = e
left_set w a b Termination e (OfCall c) s = absurd (cc)
left_set w a b (Answer o f) e l s = absurd (cc)

leaves_set : (w : World) (a b : ℕ) (g : Target) (l : Latch) → letter_at w a b (latch_of g) ≡ IsSet → Some (latch_of g) ≡ Some l → letter_at w a b l ≡ IsSet
leaves_set w a b g l e s = let k : latch_of g ≡ l = cc in ap (letter_at w a b) (sym k) ∙ e

look_set : (w : World) (q : Party) (x : Place) (fs : List Place) → probes_here x ≡ true → IfSome (outcome w q (record { top = x; below = fs })) (Looks w q x fs)
look_set w (Worker a b) (ProbeWorking k) fs z = by (letter (latch_of k.target) (part_of w a b (call_of (latch_of k.target)) 0)) (sym (probed w a b k.target))
  where
    by : (y : Letter) → letter_at w a b (latch_of k.target) ≡ y → Looks w (Worker a b) (ProbeWorking k) fs (is_set y, part_of w a b (call_of (latch_of k.target)) 0)
    by IsSet e = left_set w a b k.target e
    by _ e = λ l s. absurd (cc)
look_set w (Worker a b) (ProbeIdle k) fs z = by (letter (latch_of k.target) (part_of w a b (call_of (latch_of k.target)) 0)) (sym (probed w a b k.target))
  where
    by : (y : Letter) → letter_at w a b (latch_of k.target) ≡ y → Looks w (Worker a b) (ProbeIdle k) fs (is_set y, part_of w a b (call_of (latch_of k.target)) 0)
    by IsSet e = λ l s. leaves_set w a b k.target l e s
    by _ e = λ l s. absurd (cc)
look_set w (Caller n) (ProbeWorking k) fs z = tt
look_set w (Caller n) (ProbeIdle k) fs z = tt
look_set w q _ fs z = absurd (cc)

abbrev Said : Place → Place → Type 0
Said x y = (l : Latch) → set_at y ≡ Some l → set_at x ≡ Some l

unset_live : (x f : Place) → is_live f ≡ true → Said x f
unset_live x f e l s = absurd (let z : None ≡ Some l = sym ((live_mild f e).1) ∙ s in cc)

-- any other act leads only to where no other latch is said to be set
other_said : (w : World) (q : Party) (x : Place) (fs : List Place) → probes_here x ≡ false → Based (record { top = x; below = fs }) → (e : Seen)
    → Steers x (next_of (w.shape.pool (target_pool q (act_of q x))) q x e) → Said x ((after_move (next_of (w.shape.pool (target_pool q (act_of q x))) q x e) fs).top)
other_said w q x fs z b e s = land x (Said x) (next_of (w.shape.pool (target_pool q (act_of q x))) q x e) fs (λ p f n. unset_live x f n)
    (λ y p. (let k : Unless (probes_here x) (Said x y) = p.1 in subst (λ t. Unless t (Said x y)) z k)) s (b.0) (b.1)

-- where an act leads, a latch is said to be set only if one was or if the act finds it so
abbrev Tells : World → Party → Stack → Seen × Part → Type 0
Tells w q k r = Based k → (l : Latch) → set_at ((after_move (next_at w q k (r.0)) k.below).top) ≡ Some l → (set_at k.top ≡ Some l) ⊎ (letter_at w (own_pool q) (own_index q) l ≡ IsSet)

go_said : (w : World) (q : Party) (k : Stack) → IfSome (outcome w q k) (λ r. Steers k.top (next_at w q k (r.0)) × Tells w q k r)
go_said w q k = elim (either (probes_here k.top)) [
  | inl y ↦ if_some_map (λ r. Steers k.top (next_at w q k (r.0)) × Looks w q k.top k.below r) _ (λ r f. (f.0, λ b l s. inr (f.1 l s))) (outcome w q k) (if_some_and (λ r. Steers k.top (next_at w q k (r.0))) (Looks w q k.top k.below) (outcome w q k) leads (look_set w q k.top k.below y))
  | inr n ↦ if_some_map (λ r. Steers k.top (next_at w q k (r.0))) _ (λ r f. (f, λ b l s. inl (other_said w q k.top k.below n b (r.0) f l s))) (outcome w q k) leads
]
  where
    leads : IfSome (outcome w q k) (λ r. Steers k.top (next_at w q k (r.0)))
    leads = steers w.shape (shape_at w q k) q (counts_seen w q k) (part_at w q k) k.top

go_stops : (w : World) (q : Party) → IfSome (step w (Go q)) (ActStops w q)
go_stops w q = acted_keeps w q k (target_pool q (act_of q k.top)) (target_worker q (act_of q k.top)) (target_call (act_of q k.top)) (job_at w q (act_of q k.top)) (outcome w q k) (ActStops w q)
    (if_some_map (λ r. Steers k.top (next_at w q k (r.0)) × Tells w q k r) (λ r. ActStops w q (result w q k r))
    (λ r f. record {
      shape = refl;
      others = λ s e. stack_other w.stack q (to r) s e;
      based = λ b. subst Based (sym (mine r)) (land_based k.top (next_at w q k (r.0)) k.below (f.0) (b.0) (b.1));
      said = λ b l s. f.1 b l (ap (λ z. set_at (z.top)) (sym (mine r)) ∙ s);
    }) (outcome w q k) (go_said w q k))
  where
    k : Stack
    k = w.stack q

    to : Seen × Part → Stack
    to r = after_move (next_at w q k (r.0)) k.below

    mine : (r : Seen × Part) → (result w q k r).stack q ≡ to r
    mine r = stack_mine w.stack q (to r)

-- an act keeps it so
act_stops : (w v : World) (q : Party) → ((p i : ℕ) (l : Latch) → letter_at w p i l ≡ IsSet → letter_at v p i l ≡ IsSet) → ActStops w q v → StopsHold w → StopsHold v
act_stops w v q stays a h = record {
  based = λ r. based r (either (same_party r q));
  set = λ p i l n s. stays p i l (set p i l (subst (λ z. i < (z.pool p).workers) a.shape n) s (either (same_party (Worker p i) q)));
}
  where
    based : (r : Party) → (same_party r q ≡ true) ⊎ (same_party r q ≡ false) → Based (v.stack r)
    based r (inl e) = subst (λ z. Based (v.stack z)) (sym (same_party_true r q e)) (a.based (h.based q))
    based r (inr e) = subst Based (sym (a.others r e)) (h.based r)

    set : (p i : ℕ) (l : Latch) → i < (w.shape.pool p).workers → set_at (v.stack (Worker p i)).top ≡ Some l → (same_party (Worker p i) q ≡ true) ⊎ (same_party (Worker p i) q ≡ false) → letter_at w p i l ≡ IsSet
    set p i l n s (inr e) = h.set p i l n (ap (λ z. set_at (z.top)) (sym (a.others (Worker p i) e)) ∙ s)
    set p i l n s (inl e) = let is : Worker p i ≡ q = same_party_true (Worker p i) q e in
        elim (a.said (h.based q) l (ap (λ z. set_at (v.stack z).top) (sym is) ∙ s)) [
          | inl b ↦ h.set p i l n (ap (λ z. set_at (w.stack z).top) is ∙ b)
          | inr b ↦ ap (λ z. letter_at w (own_pool z) (own_index z) l) is ∙ b
        ]

-- and so does an event that is no act
turn_stops : (w v : World) → ((p i : ℕ) (l : Latch) → letter_at w p i l ≡ IsSet → letter_at v p i l ≡ IsSet) → Stepped w v → StopsHold w → StopsHold v
turn_stops w v stays m h = record {
  based = λ r. subst Based (sym (m.stack r)) (based r (same_party r m.party) refl);
  set = λ p i l n s. stays p i l (h.set p i l (subst (λ z. i < (z.pool p).workers) m.shape n) (set (Worker p i) l (same_party (Worker p i) m.party) refl (ap (λ z. set_at (z.top)) (sym (m.stack (Worker p i))) ∙ s)));
}
  where
    based : (r : Party) (b : Bool) → same_party r m.party ≡ b → Based (if b then m.to else w.stack r)
    based r true e = m.based (h.based m.party)
    based r false e = h.based r

    set : (r : Party) (l : Latch) (b : Bool) → same_party r m.party ≡ b → set_at (if b then m.to else w.stack r).top ≡ Some l → set_at (w.stack r).top ≡ Some l
    set r l true e s = ap (λ z. set_at (w.stack z).top) (same_party_true r m.party e) ∙ (m.same (h.based m.party)).1 l s
    set r l false e s = s

step_stops : (h : Shape) (es : List Event) (w v : World) (e : Event) → IsRun (start h) es w → step w e ≡ Some v → StopsHold w → StopsHold v
step_stops h es w v e r s k = by e s
  where
    stays : (e : Event) → step w e ≡ Some v → (p i : ℕ) (l : Latch) → letter_at w p i l ≡ IsSet → letter_at v p i l ≡ IsSet
    stays e s p i l a = (let f : SetsSo w v e p i l = sets_law h es w v e p i l r s in f.stays) a

    by : (e : Event) → step w e ≡ Some v → StopsHold v
    by (Go q) s = act_stops w v q (stays (Go q) s) (made (ActStops w q) w v (Go q) s (go_stops w q)) k
    by e s = turn_stops w v (stays e s) (made (Stepped w) w v e s (turns w e refl)) k

first_stops : (h : Shape) → StopsHold (start h)
first_stops h = record {
  based = λ q. (tt, based q);
  set = λ p i l n s. set p i l (nat_lt i (h.pool p).workers) (lt-ltb i (h.pool p).workers n) ((h.pool p).callers_own && (i == 0)) s;
}
  where
    at : (b d : Bool) → is_base (if b then (if d then Free else ProbeWorking (fresh Termination)) else Stopped) ≡ true
    at true true = refl
    at true false = refl
    at false d = refl

    out : (b : Bool) → is_base (if b then Free else Stopped) ≡ true
    out true = refl
    out false = refl

    based : (q : Party) → is_base (first_place h q) ≡ true
    based (Worker p i) = at (nat_lt i (h.pool p).workers) ((h.pool p).callers_own && (i == 0))
    based (Caller c) = out (nat_lt c h.callers)

    set : (p i : ℕ) (l : Latch) (b : Bool) → b ≡ true → (d : Bool) → set_at (if b then (if d then Free else ProbeWorking (fresh Termination)) else Stopped) ≡ Some l → letter_at (start h) p i l ≡ IsSet
    set p i l true e true s = absurd (cc)
    set p i l true e false s = absurd (cc)
    set p i l false e d s = absurd (cc)

pub always_stops : (h : Shape) (es : List Event) (w : World) → IsRun (start h) es w → StopsHold w
always_stops h es w r = run_has h StopsHold (step_stops h) (first_stops h) es w r

pub stops_on_set : (w : World) → StopsHold w → StopsOnSet w
stops_on_set w h = record {
  stopped = λ p i n e. h.set p i Terminate n (ap set_at e);
  leaves = λ p i k n e f. h.set p i (latch_of k.target) n (ap set_at e ∙ ap (found_latch k.target) f);
}
