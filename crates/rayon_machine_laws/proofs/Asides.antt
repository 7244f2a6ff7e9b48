-- the events that are no acts move one party between places that neither hold, owe nor commit
--
-- `Aside` says so of each such event, and `one_step` takes a step apart into acts and asides.
use Rattle.rayon_machine_places.specs.declared.place.Pieces.{Pieces}
use Rattle.rayon_machine_places.specs.declared.place.Count.{Count}
use Rattle.rayon_machine_places.specs.declared.place.Count.TheVariants.{OfPool, OfScope, OfCast}
use Rattle.rayon_machine_places.specs.declared.place.Plan.{Plan}
use Rattle.std.proofs.Common.{arith, refl, sym, ◌∙◌, ap, subst}
use Rattle.std.specs.Prelude.{ℕ, Bool, true, false, not, ◌&&◌, ◌+◌, ◌-◌, ◌==◌, ◌<◌, nat_lt, if◌then◌else◌, Some, None, List, [], ◌∷◌, ◌≡◌, IfSome, Option}
use Rattle.std.proofs.lemmas.Bool.{eqb-true}
use Rattle.rayon_machine_places.specs.declared.place.Party.{Party}
use Rattle.rayon_machine_places.specs.declared.place.Party.TheVariants.{Worker, Caller}
use Rattle.rayon_machine_places.specs.declared.place.Ending.{Ending}
use Rattle.rayon_machine_places.specs.declared.place.Ending.TheVariants.{Fine, Fault}
use Rattle.rayon_machine_places.specs.declared.place.JobKind.{JobKind}
use Rattle.rayon_machine_places.specs.declared.place.JobKind.TheVariants.{Detached, Stored, Direct, TokenOf, Scoped, BodyOf, PieceOf, WholeOf}
use Rattle.rayon_machine_places.specs.declared.place.Plan.TheVariants.{Detach, Here, Send, Fork, Feed, Open, Enter, Gather}
use Rattle.rayon_machine_places.specs.declared.place.Share.TheVariants.{PoolValue}
use Rattle.rayon_machine_places.specs.declared.place.Then.TheVariants.{Resume}
use Rattle.rayon_machine_places.specs.declared.place.Place.{Place}
use Rattle.rayon_machine_places.specs.declared.place.Place.TheVariants.{ProbeWorking, PickVictim, StealFrom, PopInjected, JoinProbe, YieldPop, YieldPick, YieldSteal, YieldPopInjected, LocalPop, Run, RaiseCount, GrowCall, PushJob, LowerCount, FirstSide, SecondSide, AtOnce, Free}
use Rattle.rayon_machine_places.specs.declared.place.Place.TheVariants.{Stopped, AddToFifo, PushToken, TakeFromFifo, RaiseForAll, PushForAll, LowerForAll, GrowScope, OpenSlot, ScopeBody, OpenForAll, CloseForAll, GrowCast, DealPieces}
use Rattle.rayon_machine_runs.specs.declared.event.Event.{Event}
use Rattle.rayon_machine_runs.specs.declared.event.Event.TheVariants.{Go, From, Refuse, Miss, End, Spawn, Fifo, Install, Join, Yield, YieldLocal, EndPool, Cast, Scope as OpenScope, IntoSpawn, IntoFifo, IntoCast, Broadcast}
use Rattle.rayon_machine_places.specs.declared.shape.PoolShape.{PoolShape}
use Rattle.rayon_machine_places.specs.declared.place.Wait.{Wait}
use Rattle.rayon_machine_runs.specs.declared.state.Call.{Call}
use Rattle.rayon_machine_places.specs.Places.{own_pool, own_index, is_member, undo, next_victim, not_self, act_of, next_steal, next_yield, goes_on, is_free, after_push, withdraw, end_cast, plan_book}
use Rattle.rayon_machine_runs.specs.World.{Pool, Stack, World}
use Rattle.rayon_machine_places.specs.Targets.{target_pool, target_worker, target_call}
use Rattle.rayon_machine_runs.specs.Steps.{put, put_stack, with_stack, after_choice, after_refusal, can_miss, after_miss, after_close, after_end, after_call, is_pool, new_call, after_spawn, after_fifo, after_send, after_install, after_join, after_yield, after_end_pool, step}
use Rattle.rayon_machine_runs.specs.Steps.{after_cast, after_scope, after_into, holds, after_into_fifo, after_into_cast, after_broadcast, new_gathering}
use Rattle.rayon_machine_laws.proofs.Attend.{is_owing}
use Rattle.rayon_machine_laws.proofs.Events.{free_frame}
use Rattle.rayon_machine_laws.proofs.Frame.{fifo_cases, and_parts, if_some_map, if_cond, acted_keeps, into_cases, into_fifo_cases, into_cast_cases}
use Rattle.rayon_machine_laws.proofs.Kept.{announced, KeepsOn, is_emptied, sizes, SizedAs}
use Rattle.rayon_machine_laws.proofs.Seats.{is_frame}
use Rattle.rayon_machine_laws.proofs.Ties.{AllFrames, job_at, outcome, result}
use Rattle.rayon_machine_laws.proofs.Tops.{FramesOk, is_light}

-- neither half asleep nor with another's lock, and owing nothing
abbrev pub is_calm : Place → Bool
is_calm x = is_light x && not (is_owing x)

-- one party's stack is another, with frames below; no seat, list or turn is changed
pub record Aside (w u : World) : Type 0 where
  pub party : Party
  pub to : Stack
  pub shape : u.shape ≡ w.shape
  pub stack : (r : Party) → u.stack r ≡ put_stack w.stack party to r
  pub seat : (p i : ℕ) → u.seat p i ≡ w.seat p i
  pub injector : (p : ℕ) → (u.pool p).injector ≡ (w.pool p).injector
  pub casts : (p i : ℕ) → (u.pool p).casts i ≡ (w.pool p).casts i
  pub turn : (p : ℕ) → (u.pool p).turn ≡ (w.pool p).turn
  pub letters : (c : ℕ) → c < w.calls → (u.call c).latch ≡ (w.call c).latch
  pub was : is_calm (w.stack party).top ≡ true
  pub now : is_calm to.top ≡ true
  pub frames : AllFrames (w.stack party).below → AllFrames to.below
  pub keeps : (n : ℕ) → AllFrames (w.stack party).below → KeepsOn n (w.stack party).top → KeepsOn n to.top
  pub emptied : AllFrames (w.stack party).below → is_emptied to.top ≡ true → is_emptied (w.stack party).top ≡ true
  pub sized : SizedAs w.shape (sizes to.top)

-- an event that leads its party to no place of a search
abbrev pub Quietly : World → World → Type 0
Quietly w u = (m : Aside w u) × (is_emptied ((m.to).top) ≡ false)

free_calm : (x : Place) → is_free x ≡ true → is_calm x ≡ true
free_calm (Run t k) e = refl
free_calm Free e = refl
free_calm _ e = cc

-- the stack, where only that is another
same_top : (w : World) (q : Party) (x : Place) (fs : List Place) (R : Place → Type 0) → w.stack q ≡ record { top = x; below = fs } → R x → R (w.stack q).top
same_top w q x fs R e r = subst (λ z. R (z.top)) (sym e) r

same_below : (w : World) (q : Party) (x : Place) (fs : List Place) → w.stack q ≡ record { top = x; below = fs } → AllFrames (w.stack q).below → AllFrames fs
same_below w q x fs e a = subst (λ z. AllFrames (z.below)) e a

-- from one place to another, in the same world
aside_at : (w : World) (q : Party) (x y : Place) (fs : List Place) → w.stack q ≡ record { top = x; below = fs } → is_calm x ≡ true → is_calm y ≡ true → ((n : ℕ) → KeepsOn n x → KeepsOn n y) → (is_emptied y ≡ true → is_emptied x ≡ true) → sizes y ≡ None
    → Aside w (with_stack w q (record { top = y; below = fs }))
aside_at w q x y fs e a b k m z = record {
  party = q;
  to = record { top = y; below = fs };
  shape = refl;
  stack = λ r. refl;
  seat = λ p i. refl;
  injector = λ p. refl;
  casts = λ p i. refl;
  turn = λ p. refl;
  letters = λ c l. refl;
  was = same_top w q x fs (λ z. is_calm z ≡ true) e a;
  now = b;
  frames = same_below w q x fs e;
  keeps = λ n f h. k n (subst (λ z. KeepsOn n (z.top)) e h);
  emptied = λ f h. same_top w q x fs (λ z. is_emptied z ≡ true) e (m h);
  sized = subst (SizedAs w.shape) (sym z) tt;
}

-- an own stack that has a call on top of a free place
record Begins (w u : World) (q : Party) (y : Place) : Type 0 where
  shape : u.shape ≡ w.shape
  stack : (r : Party) → u.stack r ≡ put_stack w.stack q (after_call (w.stack q) y) r
  seat : (p i : ℕ) → u.seat p i ≡ w.seat p i
  injector : (p : ℕ) → (u.pool p).injector ≡ (w.pool p).injector
  casts : (p i : ℕ) → (u.pool p).casts i ≡ (w.pool p).casts i
  turn : (p : ℕ) → (u.pool p).turn ≡ (w.pool p).turn
  letters : (c : ℕ) → c < w.calls → (u.call c).latch ≡ (w.call c).latch
  free : is_free (w.stack q).top ≡ true
  calm : is_calm y ≡ true
  keeps : announced y ≡ false
  emptied : is_emptied y ≡ false
  sized : SizedAs w.shape (sizes y)

begins_aside : (w u : World) (q : Party) (y : Place) → Begins w u q y → Quietly w u
begins_aside w u q y b = (
  record {
    party = q;
    to = after_call (w.stack q) y;
    shape = b.shape;
    stack = b.stack;
    seat = b.seat;
    injector = b.injector;
    casts = b.casts;
    turn = b.turn;
    letters = b.letters;
    was = free_calm (w.stack q).top b.free;
    now = b.calm;
    frames = λ f. (free_frame (w.stack q).top b.free, f);
    keeps = λ n f h z. absurd (let k : announced y ≡ false = b.keeps in cc);
    emptied = λ f z. absurd (let k : is_emptied y ≡ false = b.emptied in cc);
    sized = b.sized;
  },
  b.emptied,
)

pub from_aside : (w : World) (q : Party) (x : Place) (fs : List Place) (v : ℕ) → w.stack q ≡ record { top = x; below = fs } → IfSome (after_choice w q (record { top = x; below = fs }) x v) (Aside w)
from_aside w q (PickVictim k) fs v e = if_cond (Aside w) (nat_lt v (w.shape.pool (own_pool q)).workers) _ (λ b. aside_at w q (PickVictim k) (StealFrom (record k { victim = not_self (w.shape.pool (own_pool q)).workers (own_index q) v }) ((w.shape.pool (own_pool q)).workers - 2)) fs e refl refl
    (λ n h. h) (λ h. refl) refl)
from_aside w q YieldPick fs v e = if_cond (Aside w) (nat_lt v (w.shape.pool (own_pool q)).workers) _ (λ b. aside_at w q YieldPick (YieldSteal (not_self (w.shape.pool (own_pool q)).workers (own_index q) v) ((w.shape.pool (own_pool q)).workers - 2)) fs e refl refl (λ n h z. absurd (cc))
    (λ h. absurd (cc)) refl)
from_aside w q _ fs v e = tt

steal_aside : (w : World) (q : Party) (k : Wait) (n : ℕ) (g : PoolShape) (fs : List Place) → w.stack q ≡ record { top = StealFrom k n; below = fs } → Aside w (with_stack w q (record { top = next_steal g q k n; below = fs }))
steal_aside w q k n g fs e = at (n == 0)
  where
    at : (b : Bool) → Aside w (with_stack w q (record { top = (if b then PopInjected k else StealFrom (record k { victim = not_self g.workers (own_index q) (next_victim g.workers k.victim) }) (n - 1)); below = fs }))
    at true = aside_at w q (StealFrom k n) (PopInjected k) fs e refl refl (λ m h. h) (λ h. refl) refl
    at false = aside_at w q (StealFrom k n) (StealFrom (record k { victim = not_self g.workers (own_index q) (next_victim g.workers k.victim) }) (n - 1)) fs e refl refl (λ m h. h) (λ h. refl) refl

yield_aside : (w : World) (q : Party) (v n : ℕ) (g : PoolShape) (fs : List Place) → w.stack q ≡ record { top = YieldSteal v n; below = fs } → Aside w (with_stack w q (record { top = next_yield g q v n; below = fs }))
yield_aside w q v n g fs e = at (n == 0)
  where
    at : (b : Bool) → Aside w (with_stack w q (record { top = (if b then YieldPopInjected else YieldSteal (not_self g.workers (own_index q) (next_victim g.workers v)) (n - 1)); below = fs }))
    at true = aside_at w q (YieldSteal v n) YieldPopInjected fs e refl refl (λ m h z. absurd (cc)) (λ h. absurd (cc)) refl
    at false = aside_at w q (YieldSteal v n) (YieldSteal (not_self g.workers (own_index q) (next_victim g.workers v)) (n - 1)) fs e refl refl (λ m h z. absurd (cc)) (λ h. absurd (cc)) refl

pub miss_aside : (w : World) (q : Party) (x : Place) (fs : List Place) → w.stack q ≡ record { top = x; below = fs } → IfSome (after_miss w q (record { top = x; below = fs }) x) (Aside w)
miss_aside w (Worker a b) (StealFrom k n) fs e = if_cond (Aside w) (can_miss w a k.victim) _ (λ z. steal_aside w (Worker a b) k n (w.shape.pool a) fs e)
miss_aside w (Worker a b) (YieldSteal v n) fs e = if_cond (Aside w) (can_miss w a v) _ (λ z. yield_aside w (Worker a b) v n (w.shape.pool a) fs e)
miss_aside w (Worker a b) _ fs e = tt
miss_aside w (Caller n) _ fs e = tt

-- a refused call leads to no place of a search
withdraw_calm : (o : Option ℕ) (n : Plan) → is_calm (withdraw o n) ≡ true
withdraw_calm None n = refl
withdraw_calm (Some c) n = refl

withdraw_quiet : (o : Option ℕ) (n : Plan) → announced (withdraw o n) ≡ false
withdraw_quiet None n = refl
withdraw_quiet (Some c) n = refl

withdraw_full : (o : Option ℕ) (n : Plan) → is_emptied (withdraw o n) ≡ false
withdraw_full None n = refl
withdraw_full (Some c) n = refl

withdraw_unsized : (o : Option ℕ) (n : Plan) → sizes (withdraw o n) ≡ None
withdraw_unsized None n = refl
withdraw_unsized (Some c) n = refl

push_calm : (n : Plan) → is_calm (after_push n) ≡ true
push_calm n = withdraw_calm (plan_book n) n

push_quiet : (n : Plan) → announced (after_push n) ≡ false
push_quiet n = withdraw_quiet (plan_book n) n

push_full : (n : Plan) → is_emptied (after_push n) ≡ false
push_full n = withdraw_full (plan_book n) n

push_unsized : (n : Plan) → sizes (after_push n) ≡ None
push_unsized n = withdraw_unsized (plan_book n) n

push_keeps : (m : ℕ) (n : Plan) (z : Bool) → KeepsOn m (PushJob n z) → KeepsOn m (after_push n)
push_keeps m n z h y = absurd (let k : announced (after_push n) ≡ false = push_quiet n in cc)

uncast_aside : (w : World) (q : Party) (c : Pieces) (k : Count) (fs : List Place) → w.stack q ≡ record { top = PushForAll c; below = fs } → Quietly w (with_stack w q (record { top = end_cast k c; below = fs }))
unfolding aside_at
uncast_aside w q c (OfPool p) fs e = (aside_at w q (PushForAll c) (LowerForAll c) fs e refl refl (λ m h z. absurd (cc)) (λ h. absurd (cc)) refl, refl)
uncast_aside w q c (OfScope n o) fs e = (aside_at w q (PushForAll c) (CloseForAll c) fs e refl refl (λ m h z. absurd (cc)) (λ h. absurd (cc)) refl, refl)
uncast_aside w q c (OfCast n o) fs e = (aside_at w q (PushForAll c) (LowerForAll c) fs e refl refl (λ m h z. absurd (cc)) (λ h. absurd (cc)) refl, refl)

refuse_aside : (w : World) (q : Party) (x : Place) (fs : List Place) → w.stack q ≡ record { top = x; below = fs } → IfSome (after_refusal w q (record { top = x; below = fs })) (Quietly w)
unfolding aside_at
refuse_aside w q (GrowCall n) fs e = (aside_at w q (GrowCall n) (undo n) fs e refl refl (λ m h z. absurd (cc)) (λ h. absurd (cc)) refl, refl)
refuse_aside w q (AddToFifo f) fs e = (
  aside_at w q (AddToFifo f) (after_push (Feed f)) fs e refl (push_calm (Feed f)) (λ m h z. absurd (let k : announced (after_push (Feed f)) ≡ false = push_quiet (Feed f) in cc))
      (λ h. absurd (let k : is_emptied (after_push (Feed f)) ≡ false = push_full (Feed f) in cc)) (push_unsized (Feed f)),
  push_full (Feed f),
)
refuse_aside w q (PushToken f v) fs e = (aside_at w q (PushToken f v) (TakeFromFifo f) fs e refl refl (λ m h z. absurd (cc)) (λ h. absurd (cc)) refl, refl)
refuse_aside w q (PushForAll c) fs e = uncast_aside w q c c.count fs e
refuse_aside w q (OpenForAll c) fs e = (aside_at w q (OpenForAll c) (LowerForAll c) fs e refl refl (λ m h z. absurd (cc)) (λ h. absurd (cc)) refl, refl)
refuse_aside w q (GrowCast g) fs e = (aside_at w q (GrowCast g) (undo (Gather g)) fs e refl refl (λ m h z. absurd (cc)) (λ h. absurd (cc)) refl, refl)
refuse_aside w q (DealPieces g) fs e = (aside_at w q (DealPieces g) (undo (Gather g)) fs e refl refl (λ m h z. absurd (cc)) (λ h. absurd (cc)) refl, refl)
refuse_aside w q (GrowScope o) fs e = (aside_at w q (GrowScope o) (undo (Open o)) fs e refl refl (λ m h z. absurd (cc)) (λ h. absurd (cc)) refl, refl)
refuse_aside w q (OpenSlot n) fs e = (aside_at w q (OpenSlot n) (undo n) fs e refl refl (λ m h z. absurd (cc)) (λ h. absurd (cc)) refl, refl)
refuse_aside w q (PushJob n z) fs e = (aside_at w q (PushJob n z) (after_push n) fs e refl (push_calm n) (λ m h. push_keeps m n z h) (λ h. absurd (let k : is_emptied (after_push n) ≡ false = push_full n in cc)) (push_unsized n), push_full n)
refuse_aside w q _ fs e = tt

-- what follows the end of a run says nothing of a search
record Ended (k : Stack) : Type 0 where
  calm : is_calm k.top ≡ true
  frames : AllFrames k.below
  keeps : announced k.top ≡ false
  emptied : is_emptied k.top ≡ false
  sized : sizes k.top ≡ None

goes_on_calm : (f : Place) (e : Ending) (fs : List Place) → is_frame f ≡ true → AllFrames fs → Ended (record { top = goes_on f e; below = fs })
goes_on_calm (FirstSide o a) Fine fs m f = record { calm = refl; frames = f; keeps = refl; emptied = refl; sized = refl }
goes_on_calm (FirstSide o a) Fault fs m f = record { calm = refl; frames = f; keeps = refl; emptied = refl; sized = refl }
goes_on_calm (ProbeWorking k) e fs m f = record { calm = refl; frames = f; keeps = refl; emptied = refl; sized = refl }
goes_on_calm (JoinProbe o) e fs m f = record { calm = refl; frames = f; keeps = refl; emptied = refl; sized = refl }
goes_on_calm (SecondSide o) e fs m f = record { calm = refl; frames = f; keeps = refl; emptied = refl; sized = refl }
goes_on_calm (ScopeBody o) e fs m f = record { calm = refl; frames = f; keeps = refl; emptied = refl; sized = refl }
goes_on_calm (AtOnce p t) e fs m f = record { calm = refl; frames = f; keeps = refl; emptied = refl; sized = refl }
goes_on_calm (Run t k) e fs m f = record { calm = refl; frames = f; keeps = refl; emptied = refl; sized = refl }
goes_on_calm Free e fs m f = record { calm = refl; frames = f; keeps = refl; emptied = refl; sized = refl }
goes_on_calm Stopped e fs m f = record { calm = refl; frames = f; keeps = refl; emptied = refl; sized = refl }
goes_on_calm _ e fs m f = cc

closed_calm : (t : ℕ) (k : JobKind) (d : Ending) (fs : List Place) → AllFrames fs → Ended (after_close t k d fs)
closed_calm t (Detached p) d fs a = record { calm = refl; frames = a; keeps = refl; emptied = refl; sized = refl }
closed_calm t (Stored c o) d fs a = record { calm = refl; frames = a; keeps = refl; emptied = refl; sized = refl }
closed_calm t (Scoped c o) d fs a = record { calm = refl; frames = a; keeps = refl; emptied = refl; sized = refl }
closed_calm t (PieceOf c o) d fs a = record { calm = refl; frames = a; keeps = refl; emptied = refl; sized = refl }
closed_calm t Direct d [] a = record { calm = refl; frames = tt; keeps = refl; emptied = refl; sized = refl }
closed_calm t (TokenOf i9 b8) d [] a = record { calm = refl; frames = tt; keeps = refl; emptied = refl; sized = refl }
closed_calm t (BodyOf c9 o9) d [] a = record { calm = refl; frames = tt; keeps = refl; emptied = refl; sized = refl }
closed_calm t (WholeOf c9 o9) d [] a = record { calm = refl; frames = tt; keeps = refl; emptied = refl; sized = refl }
closed_calm t Direct d (f ∷ fs) a = goes_on_calm f d fs (a.0) (a.1)
closed_calm t (TokenOf i9 b8) d (f ∷ fs) a = goes_on_calm f d fs (a.0) (a.1)
closed_calm t (BodyOf c9 o9) d (f ∷ fs) a = goes_on_calm f d fs (a.0) (a.1)
closed_calm t (WholeOf c9 o9) d (f ∷ fs) a = goes_on_calm f d fs (a.0) (a.1)

end_aside : (w : World) (q : Party) (d : Ending) (x : Place) (fs : List Place) → w.stack q ≡ record { top = x; below = fs } → AllFrames fs → IfSome (after_end w q d (record { top = x; below = fs }) x) (Quietly w)
end_aside w q d (Run t k) fs e a =
    let z : Ended (after_close t k d fs) = closed_calm t k d fs a in (
      record {
        party = q;
        to = after_close t k d fs;
        shape = refl;
        stack = λ r. refl;
        seat = λ p i. refl;
        injector = λ p. refl;
        casts = λ p i. refl;
        turn = λ p. refl;
        letters = λ c l. refl;
        was = same_top w q (Run t k) fs (λ z. is_calm z ≡ true) e refl;
        now = z.calm;
        frames = λ f. z.frames;
        keeps = λ n f h y. absurd (let k : announced ((after_close t k d fs).top) ≡ false = z.keeps in cc);
        emptied = λ f y. absurd (let k : is_emptied ((after_close t k d fs).top) ≡ false = z.emptied in cc);
        sized = subst (SizedAs w.shape) (sym z.sized) tt;
      },
      z.emptied,
    )
end_aside w q d _ fs e a = tt

spawn_aside : (w : World) (q : Party) (p : ℕ) → IfSome (after_spawn w q p (w.stack q)) (Quietly w)
spawn_aside w q p = if_cond (Quietly w) (is_free ((w.stack q).top) && is_pool w.shape p) _ (λ b. begins_aside w _ q (RaiseCount (Detach p w.jobs))
    (record { shape = refl; stack = λ r. refl; seat = λ p i. refl; injector = λ p. refl; casts = λ p i. refl; turn = λ p. refl; letters = λ c l. refl; free = (and_parts (is_free ((w.stack q).top)) (is_pool w.shape p) b).0; calm = refl; keeps = refl; emptied = refl; sized = tt }))

fifo_aside : (w : World) (q : Party) (p : ℕ) → IfSome (after_fifo w q p (w.stack q)) (Quietly w)
fifo_aside w q p = fifo_cases (Quietly w) w q p (spawn_aside w q p) (λ i free. begins_aside w _ (Worker p i) (RaiseCount (Feed (record { count = OfPool p; pool = p; job = w.jobs; token = w.jobs + 1 })))
    (record { shape = refl; stack = λ r. refl; seat = λ p i. refl; injector = λ p. refl; casts = λ p i. refl; turn = λ p. refl; letters = λ c l. refl; free = free; calm = refl; keeps = refl; emptied = refl; sized = tt }))

cast_aside : (w : World) (q : Party) (p : ℕ) → IfSome (after_cast w q p (w.stack q)) (Quietly w)
cast_aside w q p = if_cond (Quietly w) (is_free ((w.stack q).top) && is_pool w.shape p) _ (λ b. begins_aside w _ q (RaiseForAll (record { count = OfPool p; pool = p; first = w.jobs; workers = (w.shape.pool p).workers }))
    (record { shape = refl; stack = λ r. refl; seat = λ p i. refl; injector = λ p. refl; casts = λ p i. refl; turn = λ p. refl; letters = λ c l. refl; free = (and_parts (is_free ((w.stack q).top)) (is_pool w.shape p) b).0; calm = refl; keeps = refl; emptied = refl; sized = (refl, refl) }))

-- the calls that were there are as they were
old_letter : (w : World) (v : Call) (c : ℕ) → c < w.calls → (put w.call w.calls v c).latch ≡ (w.call c).latch
old_letter w v c l = at (c == w.calls) refl
  where
    at : (b : Bool) → (c == w.calls) ≡ b → (if b then v else w.call c).latch ≡ (w.call c).latch
    at true z = absurd (let s : c ≡ w.calls = eqb-true c w.calls z in omega arith)
    at false z = refl

sent_aside : (w : World) (q : Party) (p : ℕ) (b : Bool) → is_free ((w.stack q).top) ≡ true → Quietly w (after_send w q p (w.stack q) b)
sent_aside w q p true e = begins_aside w _ q (RaiseCount (Here p w.jobs)) (record { shape = refl; stack = λ r. refl; seat = λ p i. refl; injector = λ p. refl; casts = λ p i. refl; turn = λ p. refl; letters = λ c l. refl; free = e; calm = refl; keeps = refl; emptied = refl; sized = tt })
sent_aside w q p false e = begins_aside w _ q (RaiseCount (Send (record { number = w.calls; pool = p; job = w.jobs })))
    (record { shape = refl; stack = λ r. refl; seat = λ p i. refl; injector = λ p. refl; casts = λ p i. refl; turn = λ p. refl; letters = λ c l. old_letter w (new_call None w.jobs) c l; free = e; calm = refl; keeps = refl; emptied = refl; sized = tt })

install_aside : (w : World) (q : Party) (p : ℕ) → IfSome (after_install w q p (w.stack q)) (Quietly w)
install_aside w q p = if_cond (Quietly w) (is_free ((w.stack q).top) && is_pool w.shape p) _ (λ e. sent_aside w q p (is_member q p) ((and_parts (is_free ((w.stack q).top)) (is_pool w.shape p) e).0))

scope_aside : (w : World) (q : Party) (p : ℕ) → IfSome (after_scope w q p (w.stack q)) (Quietly w)
scope_aside w q p = if_cond (Quietly w) (is_free ((w.stack q).top) && is_pool w.shape p) _ (λ b. begins_aside w _ q (RaiseCount (Open (record { number = w.calls; pool = p; job = w.jobs })))
    (record {
      shape = refl;
      stack = λ r. refl;
      seat = λ p i. refl;
      injector = λ p. refl;
      casts = λ p i. refl;
      turn = λ p. refl;
      letters = λ c l. old_letter w (new_call None w.jobs) c l;
      free = (and_parts (is_free ((w.stack q).top)) (is_pool w.shape p) b).0;
      calm = refl;
      keeps = refl;
      emptied = refl;
      sized = tt;
    }))

into_aside : (w : World) (q : Party) (n : ℕ) → IfSome (after_into w q n (w.stack q)) (Quietly w)
into_aside w q n = into_cases (Quietly w) w q n (λ z e free held. if_cond (Quietly w) (is_free ((w.stack q).top) && holds z.call (w.stack q)) _
    (λ b. begins_aside w _ q (RaiseCount (Enter (record { call = z.call; owner = z.owner; pool = z.pool; job = w.jobs })))
    (record { shape = refl; stack = λ r. refl; seat = λ p i. refl; injector = λ p. refl; casts = λ p i. refl; turn = λ p. refl; letters = λ c l. refl; free = free; calm = refl; keeps = refl; emptied = refl; sized = tt })))

into_fifo_aside : (w : World) (q : Party) (n : ℕ) → IfSome (after_into_fifo w q n (w.stack q)) (Quietly w)
into_fifo_aside w q n = into_fifo_cases (Quietly w) w q n (λ z e free held. if_cond (Quietly w) (is_free ((w.stack q).top) && holds z.call (w.stack q)) _
    (λ b. begins_aside w _ q (RaiseCount (Enter (record { call = z.call; owner = z.owner; pool = z.pool; job = w.jobs })))
    (record { shape = refl; stack = λ r. refl; seat = λ p i. refl; injector = λ p. refl; casts = λ p i. refl; turn = λ p. refl; letters = λ c l. refl; free = free; calm = refl; keeps = refl; emptied = refl; sized = tt })))
    (λ z i e free held. begins_aside w _ (Worker z.pool i) (RaiseCount (Feed (record { count = OfScope z.call z.owner; pool = z.pool; job = w.jobs; token = w.jobs + 1 })))
    (record { shape = refl; stack = λ r. refl; seat = λ p i. refl; injector = λ p. refl; casts = λ p i. refl; turn = λ p. refl; letters = λ c l. refl; free = free; calm = refl; keeps = refl; emptied = refl; sized = tt }))

into_cast_aside : (w : World) (q : Party) (n : ℕ) → IfSome (after_into_cast w q n (w.stack q)) (Quietly w)
into_cast_aside w q n = into_cast_cases (Quietly w) w q n (λ z e free held. begins_aside w _ q (RaiseForAll (record { count = OfScope z.call z.owner; pool = z.pool; first = w.jobs; workers = (w.shape.pool z.pool).workers }))
    (record { shape = refl; stack = λ r. refl; seat = λ p i. refl; injector = λ p. refl; casts = λ p i. refl; turn = λ p. refl; letters = λ c l. refl; free = free; calm = refl; keeps = refl; emptied = refl; sized = (refl, refl) }))

broadcast_aside : (w : World) (q : Party) (p : ℕ) → IfSome (after_broadcast w q p (w.stack q)) (Quietly w)
broadcast_aside w q p = if_cond (Quietly w) (is_free ((w.stack q).top) && is_pool w.shape p) _ (λ b. begins_aside w _ q
    (RaiseCount (Gather (record { call = record { number = w.calls; pool = p; job = w.jobs + (w.shape.pool p).workers }; pieces = record { count = OfCast w.calls q; pool = p; first = w.jobs; workers = (w.shape.pool p).workers } })))
    (record {
      shape = refl;
      stack = λ r. refl;
      seat = λ p i. refl;
      injector = λ p. refl;
      casts = λ p i. refl;
      turn = λ p. refl;
      letters = λ c l. old_letter w (new_gathering ((w.shape.pool p).workers) (w.jobs + (w.shape.pool p).workers)) c l;
      free = (and_parts (is_free ((w.stack q).top)) (is_pool w.shape p) b).0;
      calm = refl;
      keeps = refl;
      emptied = refl;
      sized = (refl, refl);
    }))

join_aside : (w : World) (q : Party) → IfSome (after_join w q (w.stack q)) (Quietly w)
join_aside w (Worker a b) = if_cond (Quietly w) (is_free ((w.stack (Worker a b)).top)) _ (λ z. begins_aside w _ (Worker a b) (RaiseCount (Fork (record { number = w.calls; pool = a; job = w.jobs + 1 }) w.jobs))
    (record { shape = refl; stack = λ r. refl; seat = λ p i. refl; injector = λ p. refl; casts = λ p i. refl; turn = λ p. refl; letters = λ c l. old_letter w (new_call (Some w.jobs) (w.jobs + 1)) c l; free = z; calm = refl; keeps = refl; emptied = refl; sized = tt }))
join_aside w (Caller n) = tt

begin_yield : (w : World) (q : Party) (x : Place) → is_calm x ≡ true → announced x ≡ false → is_emptied x ≡ false → sizes x ≡ None → IfSome (after_yield w q (w.stack q) x) (Quietly w)
begin_yield w (Worker a b) x m n o u = if_cond (Quietly w) (is_free ((w.stack (Worker a b)).top)) _ (λ z. begins_aside w _ (Worker a b) x
    (record { shape = refl; stack = λ r. refl; seat = λ p i. refl; injector = λ p. refl; casts = λ p i. refl; turn = λ p. refl; letters = λ c l. refl; free = z; calm = m; keeps = n; emptied = o; sized = subst (SizedAs w.shape) (sym u) tt }))
begin_yield w (Caller n) x m o z u = tt

-- what is the same in a pool's record with its value given up
given : {A : Type 0} (w : World) (p : ℕ) (f : Pool → A) → f (record (w.pool p) { held = false }) ≡ f (w.pool p) → (r : ℕ) → f (put w.pool p (record (w.pool p) { held = false }) r) ≡ f (w.pool r)
given w p f e r = at (r == p) refl
  where
    at : (b : Bool) → (r == p) ≡ b → f (if b then record (w.pool p) { held = false } else w.pool r) ≡ f (w.pool r)
    at true eb = e ∙ ap (λ z. f (w.pool z)) (sym (eqb-true r p eb))
    at false eb = refl

give_aside : (w : World) (q : Party) (p : ℕ) → IfSome (after_end_pool w q p (w.stack q)) (Quietly w)
give_aside w q p = if_cond (Quietly w) (is_free ((w.stack q).top) && (is_pool w.shape p && (w.pool p).held)) _ (λ b. begins_aside w _ q (LowerCount (OfPool p) PoolValue Resume) (record {
  shape = refl;
  stack = λ r. refl;
  seat = λ p i. refl;
  injector = λ r. given w p (λ z. z.injector) refl r;
  casts = λ r i. given w p (λ z. z.casts i) refl r;
  turn = λ r. given w p (λ z. z.turn) refl r;
  letters = λ c l. refl;
  free = (and_parts (is_free ((w.stack q).top)) (is_pool w.shape p && (w.pool p).held) b).0;
  calm = refl;
  keeps = refl;
  emptied = refl;
  sized = tt;
}))

-- the event is a thief's choice or a steal that misses
abbrev pub is_steal : Event → Bool
is_steal (From q v) = true
is_steal (Miss q) = true
is_steal _ = false

-- a property holds after a step that is no steal, if after the act that the event may be and after each event that
-- leads its party aside
pub calm_step : (P : World → Type 0) (w : World) → FramesOk w → (e : Event) → is_steal e ≡ false → ((q : Party) → e ≡ Go q → IfSome (outcome w q (w.stack q)) (λ r. P (result w q (w.stack q) r))) → ((u : World) → Quietly w u → P u) → IfSome (step w e) P
calm_step P w fr (Go q) z go move = acted_keeps w q (w.stack q) (target_pool q (act_of q (w.stack q).top)) (target_worker q (act_of q (w.stack q).top)) (target_call (act_of q (w.stack q).top)) (job_at w q (act_of q (w.stack q).top)) (outcome w q (w.stack q)) P (go q refl)
calm_step P w fr (From q v) z go move = cc
calm_step P w fr (Miss q) z go move = cc
calm_step P w fr (Refuse q) z go move = if_some_map (Quietly w) P move _ (refuse_aside w q ((w.stack q).top) ((w.stack q).below) refl)
calm_step P w fr (End q d) z go move = if_some_map (Quietly w) P move _ (end_aside w q d ((w.stack q).top) ((w.stack q).below) refl (fr q))
calm_step P w fr (Spawn q p) z go move = if_some_map (Quietly w) P move _ (spawn_aside w q p)
calm_step P w fr (Fifo q p) z go move = if_some_map (Quietly w) P move _ (fifo_aside w q p)
calm_step P w fr (Cast q p) z go move = if_some_map (Quietly w) P move _ (cast_aside w q p)
calm_step P w fr (Install q p) z go move = if_some_map (Quietly w) P move _ (install_aside w q p)
calm_step P w fr (Join q) z go move = if_some_map (Quietly w) P move _ (join_aside w q)
calm_step P w fr (OpenScope q p) z go move = if_some_map (Quietly w) P move _ (scope_aside w q p)
calm_step P w fr (IntoSpawn q n) z go move = if_some_map (Quietly w) P move _ (into_aside w q n)
calm_step P w fr (IntoFifo q n) z go move = if_some_map (Quietly w) P move _ (into_fifo_aside w q n)
calm_step P w fr (IntoCast q n) z go move = if_some_map (Quietly w) P move _ (into_cast_aside w q n)
calm_step P w fr (Broadcast q p) z go move = if_some_map (Quietly w) P move _ (broadcast_aside w q p)
calm_step P w fr (Yield q) z go move = if_some_map (Quietly w) P move _ (begin_yield w q YieldPop refl refl refl refl)
calm_step P w fr (YieldLocal q) z go move = if_some_map (Quietly w) P move _ (begin_yield w q LocalPop refl refl refl refl)
calm_step P w fr (EndPool q p) z go move = if_some_map (Quietly w) P move _ (give_aside w q p)

-- a property holds after a step, if after the act that the event may be and after each event that moves a party aside
pub one_step : (P : World → Type 0) (w : World) → FramesOk w → (e : Event) → ((q : Party) → e ≡ Go q → IfSome (outcome w q (w.stack q)) (λ r. P (result w q (w.stack q) r))) → ((u : World) → Aside w u → P u) → IfSome (step w e) P
one_step P w fr (From q v) go move = if_some_map (Aside w) P move _ (from_aside w q ((w.stack q).top) ((w.stack q).below) v refl)
one_step P w fr (Miss q) go move = if_some_map (Aside w) P move _ (miss_aside w q ((w.stack q).top) ((w.stack q).below) refl)
one_step P w fr e go move = calm_step P w fr e refl go (λ u m. move u (m.0))

pub steps_aside : (P : World → Type 0) (w : World) → FramesOk w → ((q : Party) → IfSome (outcome w q (w.stack q)) (λ r. P (result w q (w.stack q) r))) → ((u : World) → Aside w u → P u) → (e : Event) → IfSome (step w e) P
steps_aside P w fr go move e = one_step P w fr e (λ q is. go q) move
