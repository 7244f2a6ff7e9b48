-- a call's cell is filled when it takes from it, so no call of any run answers that its result is missing
--
-- The number that stands for a broadcast that waits runs nowhere.
use Rattle.rayon_machine_laws.proofs.Scoping.{first_scopes}
use Rattle.rayon_machine_orders.proofs.Words.{arith, refl, ap, inl, inr, ℕ, Bool, true, false, ◌&&◌, ◌==◌, nat_lt, if◌then◌else◌, Option, Some, None, List, ◌≡◌, ◌⊎◌, IfSome, Party, Worker, Caller, Ending, Termination, Then, Missing, Place, ProbeWorking, TakeResult, LowerCount, SetLatch}
use Rattle.rayon_machine_orders.proofs.Words.{LockToSettle, WakeSettled, UnlockSettled, SetLockLatch, Free, Stopped, Event, Go, OpenCall, fresh, act_of, Shape, World, target_pool, target_worker, target_call, step, first_place, start, IsRun, follows}
use Rattle.rayon_machine_laws.proofs.Frame.{acted_keeps}
use Rattle.rayon_machine_laws.proofs.Ties.{job_at, outcome}
use Rattle.rayon_machine_laws.proofs.Events.{run_keeps}
use Rattle.rayon_machine_laws.proofs.ShareEnds.{first_shares}
use Rattle.rayon_machine_orders.proofs.Takes.{seen_set, sets_now, then_missing, says_missing}
use Rattle.rayon_machine_orders.proofs.FilledStates.{FilledHold, take_filled}
use Rattle.rayon_machine_orders.proofs.FilledActs.{go_fills}
use Rattle.rayon_machine_orders.proofs.FilledEvents.{IsPlain, none_new, step_beside, filled_cases, Beside}
use Rattle.rayon_machine_orders.proofs.EventCases.{by_cases}

pub step_fills : (w : World) (e : Event) → FilledHold w → IfSome (step w e) FilledHold
step_fills w (Go q) h = acted_keeps w q (w.stack q) (target_pool q (act_of q ((w.stack q).top))) (target_worker q (act_of q ((w.stack q).top))) (target_call (act_of q ((w.stack q).top))) (job_at w q (act_of q ((w.stack q).top))) (outcome w q (w.stack q)) FilledHold (go_fills w q h)
step_fills w e h = step_beside w e h (by_cases w (Beside w) (filled_cases w h) e refl)

first_plain : (h : Shape) (q : Party) → IsPlain (first_place h q)
first_plain h (Worker p i) = at (nat_lt i (h.pool p).workers) ((h.pool p).callers_own && (i == 0))
  where
    at : (b d : Bool) → IsPlain (if b then (if d then Free else ProbeWorking (fresh Termination)) else Stopped)
    at true true = (refl, refl, refl, refl)
    at true false = (refl, refl, refl, refl)
    at false d = (refl, refl, refl, refl)
first_plain h (Caller c) = at (nat_lt c h.callers)
  where
    at : (b : Bool) → IsPlain (if b then Free else Stopped)
    at true = (refl, refl, refl, refl)
    at false = (refl, refl, refl, refl)

first_settled : (h : Shape) (c : ℕ) → ((r : Party) × (sets_now (first_place h r) ≡ Some c)) ⊎ ((true ≡ false) × (true ≡ true)) → ⊥
first_settled h c (inl r) = let a : sets_now (first_place h (r.0)) ≡ None = (first_plain h (r.0)).1 in let b : sets_now (first_place h (r.0)) ≡ Some c = r.1 in cc
first_settled h c (inr e) = let a : true ≡ false = e.0 in cc

pub first_fills : (h : Shape) → FilledHold (start h)
first_fills h = record {
  hold = first_shares h;
  scopes = first_scopes h;
  frames = λ q. tt;
  seen = λ q c e. absurd (let a : seen_set (first_place h q) ≡ None = (first_plain h q).0 in cc);
  wholes = λ t b e. absurd (none_new 0 t (omega arith) b);
  taken = λ q c n s e. absurd (elim s [ inl a ↦ cc | inr y ↦ first_settled h c y ]);
  grown = λ q. (first_plain h q).2;
  found = λ q. (first_plain h q).3;
}

pub always_filled : (h : Shape) (es : List Event) (w : World) → IsRun (start h) es w → FilledHold w
always_filled h es w r = run_keeps FilledHold step_fills (start h) w es (first_fills h) r

-- a call that is about to take finds its cell filled
pub takes_filled : (w : World) → FilledHold w → (q : Party) (o : OpenCall) (f : Option Ending) → (w.stack q).top ≡ TakeResult o f → (w.call o.number).cell ≡ None → ⊥
takes_filled w h q o f z e = take_filled w q o f ((w.stack q).below) h (ap (λ x. record { top = x; below = (w.stack q).below }) z) e

some_then : (a b : Then) → Some a ≡ Some b → a ≡ b
some_then a b e = cc

follows_missing : (x : Place) (n : Then) → follows x ≡ Some n → says_missing x ≡ then_missing n
follows_missing (LowerCount p s k) n z = ap then_missing (some_then k n z)
follows_missing (SetLatch k) n z = ap then_missing (some_then k.then n z)
follows_missing (SetLockLatch c k) n z = ap then_missing (some_then k n z)
follows_missing (LockToSettle k) n z = ap then_missing (some_then k.then n z)
follows_missing (WakeSettled k) n z = ap then_missing (some_then k.then n z)
follows_missing (UnlockSettled k) n z = ap then_missing (some_then k.then n z)
follows_missing _ n z = cc

-- no call answers that its result is missing
pub none_missing : (w : World) → FilledHold w → (q : Party) (o : OpenCall) (f : Option Ending) → follows (w.stack q).top ≡ Some (Missing o f) → ⊥
none_missing w h q o f z = absurd (let a : says_missing (w.stack q).top ≡ true = follows_missing ((w.stack q).top) (Missing o f) z in let b : says_missing (w.stack q).top ≡ false = h.found q in cc)
