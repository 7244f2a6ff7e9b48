-- a pool's value is given up by its EndPool alone: no act writes whether it is held (`act_static`)
use Rattle.std.proofs.Common.{refl, sym, ◌∙◌, ap}
use Rattle.std.specs.Prelude.{ℕ, Bool, true, false, not, ◌&&◌, ◌==◌, if◌then◌else◌, Option, Some, ◌≡◌, IfSome}
use Rattle.std.proofs.lemmas.Bool.{eqb-true}
use Rattle.rayon_machine_places.specs.declared.place.Party.{Party}
use Rattle.rayon_machine_places.specs.declared.place.Party.TheVariants.{Worker, Caller}
use Rattle.rayon_machine_places.specs.declared.place.Count.TheVariants.{OfPool, OfScope}
use Rattle.rayon_machine_places.specs.declared.place.Place.{Place}
use Rattle.rayon_machine_places.specs.declared.place.Place.TheVariants.{PickVictim, StealFrom, YieldPop, YieldPick, YieldSteal, LocalPop, Run}
use Rattle.rayon_machine_places.specs.declared.place.Ending.{Ending}
use Rattle.rayon_machine_runs.specs.declared.event.Event.{Event}
use Rattle.rayon_machine_runs.specs.declared.event.Event.TheVariants.{Go, From, Refuse, Miss, End, Spawn, Fifo, Install, Join, Yield, YieldLocal, EndPool, Cast, Scope as OpenScope, IntoSpawn, IntoFifo, IntoCast, Broadcast}
use Rattle.rayon_machine_places.specs.Places.{act_of, is_member}
use Rattle.rayon_machine_runs.specs.World.{Stack, World, counts_at}
use Rattle.rayon_machine_places.specs.Targets.{target_call, target_pool, target_worker}
use Rattle.rayon_machine_runs.specs.Steps.{after_choice, after_end, after_miss, after_join, after_send, after_yield, put, step}
use Rattle.rayon_machine_laws.proofs.Frame.{acted_keeps, fifo_cases, if_cond, if_some_map, into_cases, into_cast_cases, into_fifo_cases, put_same}
use Rattle.rayon_machine_laws.proofs.Ties.{outcome, result, job_at}
use Rattle.rayon_machine_laws.proofs.Calm.{counts_seen, part_at}
use Rattle.rayon_machine_laws.proofs.Later.{Static, act_static}
use Rattle.rayon_machine_laws.proofs.Stops.{made}
use Rattle.rayon_machine_orders.specs.Values.{ValueLaw, is_end_of}

-- no pool's value is given up
abbrev Holds : World → World → Type 0
Holds w v = (p : ℕ) → (v.pool p).held ≡ (w.pool p).held

go_holds : (w : World) (q : Party) → IfSome (step w (Go q)) (Holds w)
go_holds w q = acted_keeps w q k (target_pool q (act_of q k.top)) (target_worker q (act_of q k.top)) (target_call (act_of q k.top)) (job_at w q (act_of q k.top)) (outcome w q k) (Holds w)
    (if_some_map (Static (part_at w q k)) (λ r. Holds w (result w q k r)) (λ r s p. put_same (λ j. j.held) w.pool (target_pool q (act_of q k.top)) (r.1.pool) p (s.held)) (outcome w q k) (act_static w.shape q (counts_seen w q k) (part_at w q k) k.top))
  where
    k : Stack
    k = w.stack q

from_holds : (w : World) (q : Party) (s : Stack) (x : Place) (v : ℕ) → IfSome (after_choice w q s x v) (Holds w)
from_holds w q s (PickVictim k) v = if_cond (Holds w) _ _ (λ b p. refl)
from_holds w q s YieldPick v = if_cond (Holds w) _ _ (λ b p. refl)
from_holds w q s _ v = tt

miss_holds : (w : World) (q : Party) (s : Stack) (x : Place) → IfSome (after_miss w q s x) (Holds w)
miss_holds w (Worker a b) s (StealFrom k n) = if_cond (Holds w) _ _ (λ b p. refl)
miss_holds w (Worker a b) s (YieldSteal v n) = if_cond (Holds w) _ _ (λ b p. refl)
miss_holds w (Worker a b) s _ = tt
miss_holds w (Caller n) s _ = tt

end_holds : (w : World) (q : Party) (d : Ending) (s : Stack) (x : Place) → IfSome (after_end w q d s x) (Holds w)
end_holds w q d s (Run n k) = λ p. refl
end_holds w q d s _ = tt

sent_holds : (w : World) (q : Party) (r : ℕ) (b : Bool) → Holds w (after_send w q r (w.stack q) b)
sent_holds w q r true p = refl
sent_holds w q r false p = refl

join_holds : (w : World) (q : Party) → IfSome (after_join w q (w.stack q)) (Holds w)
join_holds w (Caller n) = tt
join_holds w (Worker a b) = if_cond (Holds w) _ _ (λ z p. refl)

yield_holds : (w : World) (q : Party) (x : Place) → IfSome (after_yield w q (w.stack q) x) (Holds w)
yield_holds w (Worker a b) x = if_cond (Holds w) _ _ (λ z p. refl)
yield_holds w (Caller n) x = tt

abbrev So : World → Event → World → Type 0
So w e v = (p : ℕ) → (v.pool p).held ≡ ((w.pool p).held && not (is_end_of p e))

and_yes : (x : Bool) → (x && true) ≡ x
and_yes true = refl
and_yes false = refl

and_no : (x : Bool) → (x && false) ≡ false
and_no true = refl
and_no false = refl

end_pool_so : (w : World) (q : Party) (r : ℕ) → IfSome (step w (EndPool q r)) (So w (EndPool q r))
end_pool_so w q r = if_cond (So w (EndPool q r)) _ _ (λ z p. by p (p == r) refl)
  where
    by : (p : ℕ) (z : Bool) → (p == r) ≡ z → (if z then record (w.pool r) { held = false } else w.pool p).held ≡ ((w.pool p).held && not z)
    by p true e = sym (and_no ((w.pool p).held))
    by p false e = sym (and_yes ((w.pool p).held))

-- a step that gives up no value
kept : (w : World) (e : Event) → ((p : ℕ) → is_end_of p e ≡ false) → (o : Option World) → IfSome o (Holds w) → IfSome o (So w e)
kept w e n o f = if_some_map (Holds w) (So w e) (λ v h p. h p ∙ sym (and_yes ((w.pool p).held)) ∙ ap (λ z. (w.pool p).held && not z) (sym (n p))) o f

-- what each step leaves of each pool's value
each_so : (w : World) (e : Event) → IfSome (step w e) (So w e)
each_so w (EndPool q r) = end_pool_so w q r
each_so w (Go q) = kept w (Go q) (λ p. refl) (step w (Go q)) (go_holds w q)
each_so w (End q d) = kept w (End q d) (λ p. refl) (step w (End q d)) (end_holds w q d (w.stack q) (w.stack q).top)
each_so w (From q v) = kept w (From q v) (λ p. refl) (step w (From q v)) (from_holds w q (w.stack q) (w.stack q).top v)
each_so w (Refuse q) = kept w (Refuse q) (λ p. refl) (step w (Refuse q)) (if_cond (Holds w) _ _ (λ b p. refl))
each_so w (Miss q) = kept w (Miss q) (λ p. refl) (step w (Miss q)) (miss_holds w q (w.stack q) (w.stack q).top)
each_so w (Spawn q p) = kept w (Spawn q p) (λ p. refl) (step w (Spawn q p)) (if_cond (Holds w) _ _ (λ b p. refl))
each_so w (Fifo q p) = kept w (Fifo q p) (λ p. refl) (step w (Fifo q p)) (fifo_cases (Holds w) w q p (if_cond (Holds w) _ _ (λ b p. refl)) (λ i free p. refl))
each_so w (Cast q p) = kept w (Cast q p) (λ p. refl) (step w (Cast q p)) (if_cond (Holds w) _ _ (λ b p. refl))
each_so w (Install q p) = kept w (Install q p) (λ p. refl) (step w (Install q p)) (if_cond (Holds w) _ _ (λ b. sent_holds w q p (is_member q p)))
each_so w (Join q) = kept w (Join q) (λ p. refl) (step w (Join q)) (join_holds w q)
each_so w (OpenScope q p) = kept w (OpenScope q p) (λ p. refl) (step w (OpenScope q p)) (if_cond (Holds w) _ _ (λ b p. refl))
each_so w (IntoSpawn q k) = kept w (IntoSpawn q k) (λ p. refl) (step w (IntoSpawn q k)) (into_cases (Holds w) w q k (λ z e free held. if_cond (Holds w) _ _ (λ b p. refl)))
each_so w (IntoFifo q k) = kept w (IntoFifo q k) (λ p. refl) (step w (IntoFifo q k)) (into_fifo_cases (Holds w) w q k (λ z e free held. if_cond (Holds w) _ _ (λ b p. refl)) (λ z i e free held p. refl))
each_so w (IntoCast q k) = kept w (IntoCast q k) (λ p. refl) (step w (IntoCast q k)) (into_cast_cases (Holds w) w q k (λ z e free held p. refl))
each_so w (Broadcast q p) = kept w (Broadcast q p) (λ p. refl) (step w (Broadcast q p)) (if_cond (Holds w) _ _ (λ b p. refl))
each_so w (Yield q) = kept w (Yield q) (λ p. refl) (step w (Yield q)) (yield_holds w q YieldPop)
each_so w (YieldLocal q) = kept w (YieldLocal q) (λ p. refl) (step w (YieldLocal q)) (yield_holds w q LocalPop)

pub value_law : ValueLaw
value_law h es w v e p r s = made (So w e) w v e s (each_so w e) p
