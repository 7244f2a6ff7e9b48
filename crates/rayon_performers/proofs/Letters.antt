-- An act on a latch is one step of the worker's own seat of it, and one entry of the trace.
use Rattle.std.proofs.Common.{◌≡◌, Bool, true, false, refl, sym, subst, ap}
use Rattle.rayon_machine_places.specs.declared.place.Latch.{Latch}
use Rattle.rayon_machine_places.specs.declared.act.Act.TheVariants as acts
use Rattle.rayon_machine_places.specs.declared.act.Seen.{Seen}
use Rattle.rayon_machine_places.specs.declared.act.Seen.TheVariants.{Done, Refused}
use Rattle.rayon_atomics.specs.declared.views.Guard.{Guard}
use Rattle.rayon_performers.specs.Sights.{Guards, Finds, Turns, Wakes, Watches}
use Rattle.rayon_performers.specs.Hands.{Hands, Does}
use Rattle.rayon_shared.specs.AtHand.{answer}
use Rattle.rayon_performers.specs.Waits.{waiting_on}

module _ {X G O F : Type 0} (l : Latch) (s t u : Hands X G O F) (e : t ≡ record s { guards = t.guards }) where
  -- a step of the seat, and then the entry
  stepped : (R : Guard → Guard → Type 0) → Watches l R s.guards t.guards → u ≡ record t { trace = u.trace } → (u ≡ record s { guards = u.guards; trace = u.trace }) × Watches l R s.guards u.guards
  stepped R w f =
      let on : u ≡ record s { guards = t.guards; trace = u.trace } = subst (λ (z : Hands X G O F). u ≡ record z { trace = u.trace }) e f in
      let same : t.guards ≡ u.guards = sym (ap (λ (z : Hands X G O F). z.guards) f) in
      (subst (λ (q : Guards). u ≡ record s { guards = q; trace = u.trace }) same on, subst (λ (q : Guards). Watches l R s.guards q) same w)

  pub probes : (b : Bool) → Watches l (Finds b) s.guards t.guards → u ≡ record t { probed = b; trace = u.trace } → Does (acts.Probe l) (answer b) s u
  probes true w f =
      let on : u ≡ record s { guards = t.guards; probed = true; trace = u.trace } = subst (λ (z : Hands X G O F). u ≡ record z { probed = true; trace = u.trace }) e f in
      let same : t.guards ≡ u.guards = sym (ap (λ (z : Hands X G O F). z.guards) f) in
      (subst (λ (q : Guards). u ≡ record s { guards = q; probed = true; trace = u.trace }) same on, subst (λ (q : Guards). Watches l (Finds true) s.guards q) same w)
  probes false w f =
      let on : u ≡ record s { guards = t.guards; probed = false; trace = u.trace } = subst (λ (z : Hands X G O F). u ≡ record z { probed = false; trace = u.trace }) e f in
      let same : t.guards ≡ u.guards = sym (ap (λ (z : Hands X G O F). z.guards) f) in
      (subst (λ (q : Guards). u ≡ record s { guards = q; probed = false; trace = u.trace }) same on, subst (λ (q : Guards). Watches l (Finds false) s.guards q) same w)

  pub sleepy : (b : Bool) (x : Seen) → b ≡ true → x ≡ Done → Watches l (Turns 0 1 b) s.guards t.guards → u ≡ record t { trace = u.trace } → Does (acts.Sleepy l) x s u
  sleepy b x is y w f = subst (λ (z : Seen). Does (acts.Sleepy l) z s u) (sym y) (stepped (Turns 0 1 true) (subst (λ (z : Bool). Watches l (Turns 0 1 z) s.guards t.guards) is w) f)

  pub not_sleepy : (b : Bool) (x : Seen) → b ≡ false → x ≡ Refused → Watches l (Turns 0 1 b) s.guards t.guards → u ≡ record t { trace = u.trace } → Does (acts.Sleepy l) x s u
  not_sleepy b x is y w f = subst (λ (z : Seen). Does (acts.Sleepy l) z s u) (sym y) (stepped (Turns 0 1 false) (subst (λ (z : Bool). Watches l (Turns 0 1 z) s.guards t.guards) is w) f)

  pub asleep : (b : Bool) (x : Seen) → b ≡ true → x ≡ Done → Watches l (Turns 1 2 b) s.guards t.guards → u ≡ record t { trace = u.trace } → Does (acts.Asleep l) x s u
  asleep b x is y w f = subst (λ (z : Seen). Does (acts.Asleep l) z s u) (sym y) (stepped (Turns 1 2 true) (subst (λ (z : Bool). Watches l (Turns 1 2 z) s.guards t.guards) is w) f)

  pub not_asleep : (b : Bool) (x : Seen) → b ≡ false → x ≡ Refused → Watches l (Turns 1 2 b) s.guards t.guards → u ≡ record t { trace = u.trace } → Does (acts.Asleep l) x s u
  not_asleep b x is y w f = subst (λ (z : Seen). Does (acts.Asleep l) z s u) (sym y) (stepped (Turns 1 2 false) (subst (λ (z : Bool). Watches l (Turns 1 2 z) s.guards t.guards) is w) f)

  pub wakes : (x : Seen) → Watches l Wakes s.guards t.guards → u ≡ record t { trace = u.trace } → Does (acts.Wakeup l) x s u
  wakes x w f = stepped Wakes w f

module _ {X G O F : Type 0} where
  -- a latch that stood for the terminate latch is taken back
  pub exchanged : (u v : Hands X G O F) (l m : Guard) → v ≡ waiting_on l u → m ≡ u.guards.own → waiting_on m v ≡ u
  exchanged u v l m e f = subst (λ (z : Hands X G O F). waiting_on m z ≡ u) (sym e) (subst (λ (n : Guard). waiting_on n (waiting_on l u) ≡ u) (sym f) refl)
