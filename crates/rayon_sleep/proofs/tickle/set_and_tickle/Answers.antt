use Rattle.std.proofs.Common.{◌≡◌, ◌==◌, Bool, true, false, ap, rules, subst, sym, MatchBool}
use Rattle.rayon_atomics.specs.Latches.{guard}
use Rattle.rayon_drive.specs.declared.trace.Log.{Log}
use Rattle.rayon_drive.specs.declared.trace.Log.TheVariants.{Empty}
use Rattle.rayon_machine_places.specs.declared.place.Move.TheVariants.{Stay}
use Rattle.rayon_machine_places.specs.declared.place.Place.TheVariants.{LockToSettle}
use Rattle.rayon_machine_places.specs.Places.{after_set}
use Rattle.rayon_drive.specs.Paths.{Traced}
use Rattle.rayon_sleep.specs.Tickles.{Wakes}
use Rattle.rayon_sleep.proofs.tickle.set_and_tickle.Goals as goal
use Rattle.rayon_sleep.proofs.tickle.set_and_tickle.Goals.{then-slept, else-slept}

pub returns : goal.returns
returns g c =
    let seat = c.set_as_guest-slept.result.1 in
    let woken = (guard seat).found == 2 in
    let t = c.if-slept.trace in
    record {
      table = c.set_as_guest-slept.ensures.seat.0;
      sets = ap (λ z. z.0.sets) c.set_as_guest-slept.ensures.seat.1;
      seen = ap (λ z. z.0.seen) c.set_as_guest-slept.ensures.seat.1;
      wakes = elim c.if-slept.branch [
        | then-slept w ↦
            let is : woken ≡ true = search rules in
            let same : t ≡ w.notify_worker_latch_is_set.new.trace = search rules in
            subst (λ (b : Bool). MatchBool b (Wakes c.args.worker t) (t ≡ Empty)) (sym is)
            (λ h q s p i. subst (λ (l : Log). Traced h q (Stay (LockToSettle s)) l t (after_set h q s s.latch)) c.new-trace.ensures
            (subst (λ (l : Log). Traced h q (Stay (LockToSettle s)) c.new-trace.result l (after_set h q s s.latch)) (sym same) (w.notify_worker_latch_is_set.ensures.path h q s p i)))
        | else-slept w ↦
            let is : woken ≡ false = search rules in
            let none : t ≡ Empty = search rules in
            subst (λ (b : Bool). MatchBool b (Wakes c.args.worker t) (t ≡ Empty)) (sym is) none
      ];
    }
