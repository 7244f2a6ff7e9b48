-- each event keeps what the places say
use Rattle.rayon_machine_places.specs.declared.place.Latch.TheVariants.{OfCall}
use Rattle.rayon_machine_places.specs.declared.place.Count.TheVariants.{OfPool}
use Rattle.std.proofs.Common.{arith, refl, sym, ◌∙◌, ap, subst, inl}
use Rattle.std.specs.Prelude.{ℕ, Bool, true, false, ◌&&◌, ◌+◌, ◌==◌, ◌≤◌, nat_lt, if◌then◌else◌, Option, Some, None, List, [], ◌∷◌, ◌≡◌, IfSome}
use Rattle.rayon_machine_places.specs.declared.place.Party.{Party}
use Rattle.rayon_machine_places.specs.declared.place.Party.TheVariants.{Worker, Caller}
use Rattle.rayon_machine_places.specs.declared.place.Ending.{Ending}
use Rattle.rayon_machine_places.specs.declared.place.Ending.TheVariants.{Fine, Fault}
use Rattle.rayon_machine_places.specs.declared.place.JobKind.{JobKind}
use Rattle.rayon_machine_places.specs.declared.place.JobKind.TheVariants.{Detached, Stored, Direct, TokenOf, Scoped, BodyOf, PieceOf, WholeOf}
use Rattle.rayon_machine_places.specs.declared.place.Share.TheVariants.{PoolValue, OfJob}
use Rattle.rayon_machine_places.specs.declared.place.Then.TheVariants.{Resume}
use Rattle.rayon_machine_places.specs.declared.place.Place.{Place}
use Rattle.rayon_machine_places.specs.declared.place.Place.TheVariants.{PickVictim, StealFrom, YieldPick, YieldSteal, Run, GrowCall, PushJob, LowerCount, StoreResult, FirstSide, SecondSide, AtOnce, Free, AddToFifo, PushToken, PushForAll, GrowScope, OpenSlot, StoreSlot, ScopeBody}
use Rattle.rayon_machine_places.specs.declared.place.Place.TheVariants.{OpenForAll, GrowCast, DealPieces, StorePiece}
use Rattle.rayon_machine_places.specs.declared.act.Seen.{Seen}
use Rattle.rayon_machine_places.specs.declared.act.Seen.TheVariants.{Refused, Missing, Start}
use Rattle.rayon_machine_runs.specs.declared.state.Whereabouts.TheVariants.{Over}
use Rattle.rayon_machine_places.specs.declared.shape.PoolShape.{PoolShape}
use Rattle.rayon_machine_places.specs.Places.{own_pool, next_of, goes_on, is_free}
use Rattle.rayon_machine_runs.specs.World.{Pool, Stack, World, at_job}
use Rattle.rayon_machine_runs.specs.Steps.{put, put_stack, after_move, after_choice, after_refusal, can_miss, after_miss, after_resume, after_close, after_call, is_pool, after_yield, after_end_pool}
use Rattle.rayon_machine_runs.specs.Readers.{is_done}
use Rattle.rayon_machine_laws.proofs.Frame.{and_parts, if_cond, put_same, put_new}
use Rattle.rayon_machine_laws.proofs.Hands.{held}
use Rattle.rayon_machine_laws.proofs.PlacedEvents.{Advance}
use Rattle.rayon_machine_laws.proofs.PlacedRuns.{jobs_advance}
use Rattle.rayon_machine_laws.proofs.Claims.{is_body, FirstEnds, SaysRun, Says, wants, here, Link, Linked, AllSay, StackSays, relink, Learns}
use Rattle.rayon_machine_laws.proofs.Later.{Later, later_says, later_all, later_latch, later_as, later_tied, later_part}
use Rattle.rayon_machine_laws.proofs.ClaimRuns.{CallsHold, all_says, moved_says, later_lined}

-- where one party has another stack, and pools keep what they said
restacked : (w : World) (q : Party) (k : Stack) (P : ℕ → Pool) → ((p : ℕ) → (P p).count ≡ (w.pool p).count) → ((p : ℕ) → (w.pool p).held ≡ false → (P p).held ≡ false)
    → (Later w (record w { stack = put_stack w.stack q k; pool = P }) → StackSays (record w { stack = put_stack w.stack q k; pool = P }) q k) → CallsHold w → Advance w (record w { stack = put_stack w.stack q k; pool = P }) → CallsHold (record w { stack = put_stack w.stack q k; pool = P })
restacked w q k P counts held s h a = record {
  jobs = jobs_advance w (record w { stack = put_stack w.stack q k; pool = P }) (h.jobs) a;
  says = all_says w (record w { stack = put_stack w.stack q k; pool = P }) later q k (s later) (h.says);
  ties = h.ties;
  pools = h.pools;
  cells = λ c e z. later_as w (record w { stack = put_stack w.stack q k; pool = P }) later ((w.call c).job) c e (h.cells c e z);
  latches = λ c z. later_latch w (record w { stack = put_stack w.stack q k; pool = P }) later 0 (OfCall c) (h.latches c z);
  entries = λ t b c o z. later_tied w (record w { stack = put_stack w.stack q k; pool = P }) later c o (h.entries t b c o z);
  parts = λ t b c o z. later_part w (record w { stack = put_stack w.stack q k; pool = P }) later t c o (h.parts t b c o z);
  scopes = λ n z e. later_tied w (record w { stack = put_stack w.stack q k; pool = P }) later z.call z.owner (h.scopes n z e);
  ends = λ p i z. counts p ∙ h.ends p i z;
  lines = λ p i v t b. later_lined w (record w { stack = put_stack w.stack q k; pool = P }) later t p v (h.lines p i v t b);
}
  where
    later : Later w (record w { stack = put_stack w.stack q k; pool = P })
    later = record { jobs = omega arith; calls = omega arith; over = λ t e z. z; left = λ t z. z; kind = λ t b. refl; pool = λ t b. refl; bound = λ t b. refl; target = λ c b. refl; side = λ c b. refl; shape = refl; gone = λ t z. z; ended = λ p z. counts p ∙ z; spent = λ c b z. z; given = held }

-- a party goes on as if its act had seen this
seeing_calls : (w : World) (q : Party) (g : PoolShape) (x : Place) (fs : List Place) (e : Seen) → w.stack q ≡ record { top = x; below = fs } → Learns (record w { stack = put_stack w.stack q (after_move (next_of g q x e) fs) }) x e → CallsHold w
    → Advance w (record w { stack = put_stack w.stack q (after_move (next_of g q x e) fs) }) → CallsHold (record w { stack = put_stack w.stack q (after_move (next_of g q x e) fs) })
seeing_calls w q g x fs e z n h a = restacked w q (after_move (next_of g q x e) fs) w.pool (λ p. refl) (λ p k. k)
    (λ l. moved_says w (record w { stack = put_stack w.stack q (after_move (next_of g q x e) fs) }) l g q (record { top = x; below = fs }) e n (subst (λ k. StackSays w q k) z (h.says q))) h a

-- an event that may not be enabled
pub both : (w : World) (o : Option World) → IfSome o (Advance w) → IfSome o (λ u. Advance w u → CallsHold u) → IfSome o CallsHold
both w None a f = tt
both w (Some u) a f = f a

pub from_calls : (w : World) (q : Party) (x : Place) (fs : List Place) (v : ℕ) → w.stack q ≡ record { top = x; below = fs } → CallsHold w → IfSome (after_choice w q (record { top = x; below = fs }) x v) (λ u. Advance w u → CallsHold u)
from_calls w q (PickVictim k) fs v z h = if_cond (λ u. Advance w u → CallsHold u) (nat_lt v (w.shape.pool (own_pool q)).workers) _ (λ y a. seeing_calls w q (w.shape.pool (own_pool q)) (PickVictim k) fs (Start v) z tt h a)
from_calls w q YieldPick fs v z h = if_cond (λ u. Advance w u → CallsHold u) (nat_lt v (w.shape.pool (own_pool q)).workers) _ (λ y a. seeing_calls w q (w.shape.pool (own_pool q)) YieldPick fs (Start v) z tt h a)
from_calls w q _ fs v z h = tt

pub refuse_calls : (w : World) (q : Party) (x : Place) (fs : List Place) → w.stack q ≡ record { top = x; below = fs } → CallsHold w → IfSome (after_refusal w q (record { top = x; below = fs })) (λ u. Advance w u → CallsHold u)
refuse_calls w q (GrowCall n) fs z h = λ a. seeing_calls w q (w.shape.pool (own_pool q)) (GrowCall n) fs Refused z tt h a
refuse_calls w q (GrowScope o) fs z h = λ a. seeing_calls w q (w.shape.pool (own_pool q)) (GrowScope o) fs Refused z tt h a
refuse_calls w q (OpenSlot n) fs z h = λ a. seeing_calls w q (w.shape.pool (own_pool q)) (OpenSlot n) fs Refused z tt h a
refuse_calls w q (AddToFifo f) fs z h = λ a. seeing_calls w q (w.shape.pool (own_pool q)) (AddToFifo f) fs Refused z tt h a
refuse_calls w q (PushToken f v) fs z h = λ a. seeing_calls w q (w.shape.pool (own_pool q)) (PushToken f v) fs Refused z tt h a
refuse_calls w q (OpenForAll c) fs z h = λ a. seeing_calls w q (w.shape.pool (own_pool q)) (OpenForAll c) fs Refused z tt h a
refuse_calls w q (GrowCast g) fs z h = λ a. seeing_calls w q (w.shape.pool (own_pool q)) (GrowCast g) fs Refused z tt h a
refuse_calls w q (DealPieces g) fs z h = λ a. seeing_calls w q (w.shape.pool (own_pool q)) (DealPieces g) fs Refused z tt h a
refuse_calls w q (PushForAll c) fs z h = λ a. seeing_calls w q (w.shape.pool (own_pool q)) (PushForAll c) fs Refused z tt h a
refuse_calls w q (PushJob n v) fs z h = λ a. seeing_calls w q (w.shape.pool (own_pool q)) (PushJob n v) fs Refused z tt h a
refuse_calls w q _ fs z h = tt

pub miss_calls : (w : World) (q : Party) (x : Place) (fs : List Place) → w.stack q ≡ record { top = x; below = fs } → CallsHold w → IfSome (after_miss w q (record { top = x; below = fs }) x) (λ u. Advance w u → CallsHold u)
miss_calls w (Worker a b) (StealFrom k n) fs z h = if_cond (λ u. Advance w u → CallsHold u) (can_miss w a k.victim) _ (λ y d. seeing_calls w (Worker a b) (w.shape.pool a) (StealFrom k n) fs Missing z tt h d)
miss_calls w (Worker a b) (YieldSteal v n) fs z h = if_cond (λ u. Advance w u → CallsHold u) (can_miss w a v) _ (λ y d. seeing_calls w (Worker a b) (w.shape.pool a) (YieldSteal v n) fs Missing z tt h d)
miss_calls w (Worker a b) _ fs z h = tt
miss_calls w (Caller n) _ fs z h = tt

free_wants : (x : Place) → is_free x ≡ true → wants x ≡ None
free_wants (Run t k) e = refl
free_wants Free e = refl
free_wants _ e = cc

-- a call begins above what the party did
pub called_says : (w u : World) → Later w u → (q : Party) (x : Place) → is_free (w.stack q).top ≡ true → Says u q x → CallsHold w → StackSays u q (after_call (w.stack q) x)
called_says w u l q x f s h = record {
  top = s;
  below = (later_says w u l q ((w.stack q).top) ((h.says q).top), later_all w u l q ((w.stack q).below) ((h.says q).below));
  links = (λ t z. (let a : wants ((w.stack q).top) ≡ None = free_wants ((w.stack q).top) f in cc), (h.says q).links);
}

pub yield_calls : (w : World) (q : Party) (x : Place) → ((u : World) (r : Party) → Says u r x) → CallsHold w → IfSome (after_yield w q (w.stack q) x) (λ u. Advance w u → CallsHold u)
yield_calls w (Worker a b) x s h = if_cond (λ u. Advance w u → CallsHold u) (is_free ((w.stack (Worker a b)).top)) _ (λ f d. restacked w (Worker a b) (after_call (w.stack (Worker a b)) x) w.pool (λ p. refl) (λ p k. k)
    (λ l. called_says w (record w { stack = put_stack w.stack (Worker a b) (after_call (w.stack (Worker a b)) x) }) l (Worker a b) x f (s (record w { stack = put_stack w.stack (Worker a b) (after_call (w.stack (Worker a b)) x) }) (Worker a b)) h) h d)
yield_calls w (Caller n) x s h = tt

pub give_calls : (w : World) (q : Party) (p : ℕ) → CallsHold w → IfSome (after_end_pool w q p (w.stack q)) (λ u. Advance w u → CallsHold u)
give_calls w q p h = if_cond (λ u. Advance w u → CallsHold u) (is_free ((w.stack q).top) && (is_pool w.shape p && (w.pool p).held)) _
    (λ f a. restacked w q (after_call (w.stack q) (LowerCount (OfPool p) PoolValue Resume)) (put w.pool p (record (w.pool p) { held = false })) (λ r. put_same (λ v. v.count) w.pool p (record (w.pool p) { held = false }) r refl) (λ r z. gone r (r == p) refl z)
    (λ l. called_says w (record w { stack = put_stack w.stack q (after_call (w.stack q) (LowerCount (OfPool p) PoolValue Resume)); pool = put w.pool p (record (w.pool p) { held = false }) }) l q (LowerCount (OfPool p) PoolValue Resume)
    ((and_parts (is_free ((w.stack q).top)) (is_pool w.shape p && (w.pool p).held) f).0)
    (tt, (ap (λ v. v.held) (put_new w.pool p (record (w.pool p) { held = false })), refl)) h) h a)
  where
    gone : (r : ℕ) (b : Bool) → (r == p) ≡ b → (w.pool r).held ≡ false → (if b then record (w.pool p) { held = false } else w.pool r).held ≡ false
    gone r true e z = refl
    gone r false e z = z

-- the end of a run: the job is over, and what the frame below says of its end is so
abbrev pub ended_world : World → Party → Ending → ℕ → JobKind → List Place → World
ended_world w q d t k fs = record w { stack = put_stack w.stack q (after_close t k d fs); job = put w.job t (at_job (w.job t) (Over d)) }

here_goes_on : (f : Place) (e : Ending) (t : ℕ) → here f ≡ Some t → here (goes_on f e) ≡ Some t
here_goes_on (FirstSide o a) Fine t z = cc
here_goes_on (FirstSide o a) Fault t z = cc
here_goes_on f e t z = z

says_goes_on : (u : World) (q : Party) (f : Place) (d : Ending) (t : ℕ) → (u.job t).at ≡ Over d → Link f (Run t Direct) → Says u q f → Says u q (goes_on f d)
says_goes_on u q (FirstSide o a) Fine t z k s = let is : Some t ≡ Some a = k a refl in let e : t ≡ a = cc in (s.0, subst (λ x. FirstEnds u x (Some Fine)) (sym (s.1)) (subst (λ n. (u.job n).at ≡ Over Fine) e z))
says_goes_on u q (FirstSide o a) Fault t z k s = let is : Some t ≡ Some a = k a refl in let e : t ≡ a = cc in (s.0, subst (λ x. FirstEnds u x (Some Fault)) (sym (s.1)) (subst (λ n. (u.job n).at ≡ Over Fault) e z))
says_goes_on u q (SecondSide o) d t z k s = let is : Some t ≡ Some (o.job) = k (o.job) refl in let e : t ≡ o.job = cc in ((s.0, s.1, inl (inl (subst (λ n. (u.job n).at ≡ Over d) e z))), ((s.0).made, (s.0).pool, refl))
says_goes_on u q (ScopeBody o) d t z k s = let is : Some t ≡ Some (o.job) = k (o.job) refl in let e : t ≡ o.job = cc in (s, subst (λ n. (u.job n).at ≡ Over d) e z)
says_goes_on u q (AtOnce p a) d t z k s = let is : Some t ≡ Some a = k a refl in let e : t ≡ a = cc in (subst (λ n. (u.job n).at ≡ Over d) e z, (s.made, s.pool, (refl, s.kind)))
says_goes_on u q _ d t z k s = s

says_resumed : (u : World) (q : Party) (d : Ending) (t : ℕ) (fs : List Place) → (u.job t).at ≡ Over d → AllSay u q fs → Linked (Run t Direct) fs → StackSays u q (after_resume fs d)
says_resumed u q d t [] z a k = record { top = tt; below = tt; links = tt }
says_resumed u q d t (f ∷ fs) z a k = record { top = says_goes_on u q f d t z (k.0) (a.0); below = a.1; links = relink f (goes_on f d) fs (here_goes_on f d) (k.1) }

plain_links : (x y : Place) (fs : List Place) → here x ≡ None → Linked x fs → Linked y fs
plain_links x y fs e k = relink x y fs (λ t z. cc) k

pub says_closed : (w u : World) (q : Party) (d : Ending) (t : ℕ) (k : JobKind) (fs : List Place) → CallsHold w → Later w u → ((c : ℕ) → (u.call c).job ≡ (w.call c).job) → (u.job t).at ≡ Over d → (u.job t).pool ≡ (w.job t).pool → SaysRun u t k → SaysRun w t k
    → ((p : ℕ) → k ≡ Detached p → (w.job t).pool ≡ p) → AllSay u q fs → Linked (Run t k) fs → StackSays u q (after_close t k d fs)
says_closed w u q d t (Detached p) fs h l c z y s s0 dp a k = record { top = (tt, (s.0, y ∙ dp p refl, (s.1, ap is_done z))); below = a; links = plain_links (Run t (Detached p)) (LowerCount (OfPool p) (OfJob t) Resume) fs refl k }
says_closed w u q d t (Stored i o) fs h l c z y s s0 dp a k = record {
  top = (let b : (i + 1 ≤ w.calls) × ((w.call i).job ≡ t) = h.ties t (s0.0) i o (s0.1) in let m : w.calls ≤ u.calls = l.calls in let n : i + 1 ≤ w.calls = b.0 in
      ((let g : i + 1 ≤ u.calls = omega (arith, m, n) in g), ap (λ n. (u.job n).at) (c i ∙ b.1) ∙ z, (subst (λ n. n + 1 ≤ u.jobs) (sym (c i ∙ b.1)) (s.0), ap (λ n. is_body (u.job n).kind) (c i ∙ b.1) ∙ ap is_body (s.1))));
  below = a;
  links = plain_links (Run t (Stored i o)) (StoreResult i o d) fs refl k;
}
says_closed w u q d t (Scoped i o) fs h l c z y s s0 dp a k = record {
  top = (s.0, s.1, (let b : i + 1 ≤ w.calls = (h.entries t (s0.0) i o (s0.1)).number in let m : w.calls ≤ u.calls = l.calls in omega (arith, m, b)), z);
  below = a;
  links = plain_links (Run t (Scoped i o)) (StoreSlot i o t d) fs refl k;
}
says_closed w u q d t (PieceOf i o) fs h l c z y s s0 dp a k = record {
  top = (s.0, s.1, (let b : i + 1 ≤ w.calls = (h.parts t (s0.0) i o (s0.1)).number in let m : w.calls ≤ u.calls = l.calls in omega (arith, m, b)), z);
  below = a;
  links = plain_links (Run t (PieceOf i o)) (StorePiece i o t d) fs refl k;
}
says_closed w u q d t (WholeOf c9 o9) fs h l c z y s s0 dp a k = says_resumed u q d t fs z a (relink (Run t (WholeOf c9 o9)) (Run t Direct) fs (λ v e. e) k)
says_closed w u q d t Direct fs h l c z y s s0 dp a k = says_resumed u q d t fs z a k
says_closed w u q d t (TokenOf i b8) fs h l c z y s s0 dp a k = says_resumed u q d t fs z a (relink (Run t (TokenOf i b8)) (Run t Direct) fs (λ v e. e) k)
says_closed w u q d t (BodyOf c9 o9) fs h l c z y s s0 dp a k = says_resumed u q d t fs z a (relink (Run t (BodyOf c9 o9)) (Run t Direct) fs (λ v e. e) k)
