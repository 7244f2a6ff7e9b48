-- the steps that only move a party
use Rattle.std.proofs.Common.{◌≡◌, ℕ, true, false, refl, sym, ◌∙◌, ap}
use Rattle.std.specs.Prelude.{Some, None, nat_lt}
use Rattle.rayon_machine_places.specs.declared.place.Party.{Party}
use Rattle.rayon_machine_places.specs.declared.place.Party.TheVariants.{Worker, Caller}
use Rattle.rayon_machine_places.specs.declared.place.Place.{Place}
use Rattle.rayon_machine_places.specs.declared.place.Place.TheVariants.{PickVictim, StealFrom, YieldPick, YieldSteal}
use Rattle.rayon_machine_places.specs.declared.place.Move.{Move}
use Rattle.rayon_machine_places.specs.declared.place.Move.TheVariants.{Enter}
use Rattle.rayon_machine_places.specs.declared.act.Seen.TheVariants.{Missing, Refused, Start}
use Rattle.rayon_machine_runs.specs.declared.event.Event.TheVariants.{From, Miss, Refuse}
use Rattle.rayon_machine_places.specs.Places.{is_free, is_refusable, next_of, own_pool, is_pick, victim_of}
use Rattle.rayon_machine_runs.specs.World.{World, Stack}
use Rattle.rayon_machine_runs.specs.Steps.{can_miss, after_choice, after_miss, with_stack, seeing, step, after_move, after_yield}

pub refused-turn : (w : World) (q : Party) (x : Place) (m : Move) → x ≡ (w.stack q).top → is_refusable x ≡ true → m ≡ next_of (w.shape.pool (own_pool q)) q x Refused → step w (Refuse q) ≡ Some (with_stack w q (after_move m (w.stack q).below))
refused-turn w q x m ex k em =
    let s = w.stack q in
    let can : is_refusable s.top ≡ true = ap is_refusable (sym ex) ∙ k in
    let move : next_of (w.shape.pool (own_pool q)) q s.top Refused ≡ m = ap (λ z. next_of (w.shape.pool (own_pool q)) q z Refused) (sym ex) ∙ sym em in
    rw can (ap (λ n. Some (with_stack w q (after_move n s.below))) move)

chosen-at : (w : World) (q : Party) (s : Stack) (y : Place) (v : ℕ) → is_pick y ≡ true → nat_lt v (w.shape.pool (own_pool q)).workers ≡ true → after_choice w q s y v ≡ Some (seeing w q s (own_pool q) (Start v))
chosen-at w q s (PickVictim k) v p e = rw e refl
chosen-at w q s YieldPick v p e = rw e refl
chosen-at w q s _ v p e = cc

pub chosen-turn : (w : World) (q : Party) (v : ℕ) (x : Place) (m : Move) → x ≡ (w.stack q).top → is_pick x ≡ true → nat_lt v (w.shape.pool (own_pool q)).workers ≡ true → m ≡ next_of (w.shape.pool (own_pool q)) q x (Start v) → step w (From q v) ≡ Some (with_stack w q (after_move m (w.stack q).below))
chosen-turn w q v x m ex k lt em =
    let s = w.stack q in
    let move : next_of (w.shape.pool (own_pool q)) q s.top (Start v) ≡ m = ap (λ z. next_of (w.shape.pool (own_pool q)) q z (Start v)) (sym ex) ∙ sym em in
    chosen-at w q s s.top v (ap is_pick (sym ex) ∙ k) lt ∙ ap (λ n. Some (with_stack w q (after_move n s.below))) move

missed-at : (w : World) (p i : ℕ) (s : Stack) (y : Place) (v : ℕ) → victim_of y ≡ Some v → can_miss w p v ≡ true → after_miss w (Worker p i) s y ≡ Some (seeing w (Worker p i) s p Missing)
missed-at w p i s (StealFrom k n) v e c = let f : k.victim ≡ v = cc in rw f (rw c refl)
missed-at w p i s (YieldSteal t n) v e c = let f : t ≡ v = cc in rw f (rw c refl)
missed-at w p i s _ v e c = cc

pub missed-turn : (w : World) (p i v : ℕ) (x : Place) (m : Move) → x ≡ (w.stack (Worker p i)).top → victim_of x ≡ Some v → can_miss w p v ≡ true → m ≡ next_of (w.shape.pool p) (Worker p i) x Missing → step w (Miss (Worker p i)) ≡ Some (with_stack w (Worker p i) (after_move m (w.stack (Worker p i)).below))
missed-turn w p i v x m ex k can em =
    let s = w.stack (Worker p i) in
    let move : next_of (w.shape.pool p) (Worker p i) s.top Missing ≡ m = ap (λ z. next_of (w.shape.pool p) (Worker p i) z Missing) (sym ex) ∙ sym em in
    missed-at w p i s s.top v (ap victim_of (sym ex) ∙ k) can ∙ ap (λ n. Some (with_stack w (Worker p i) (after_move n s.below))) move

pub missed-none : (w : World) (q : Party) (s : Stack) (y : Place) → victim_of y ≡ None → after_miss w q s y ≡ None
missed-none w (Worker p i) s (StealFrom k n) e = cc
missed-none w (Worker p i) s (YieldSteal t n) e = cc
missed-none w (Worker p i) s _ e = refl
missed-none w (Caller c) s _ e = refl

pub missed-not : (w : World) (p i v : ℕ) (s : Stack) (y : Place) → victim_of y ≡ Some v → can_miss w p v ≡ false → after_miss w (Worker p i) s y ≡ None
missed-not w p i v s (StealFrom k n) e c = let f : k.victim ≡ v = cc in rw f (rw c refl)
missed-not w p i v s (YieldSteal t n) e c = let f : t ≡ v = cc in rw f (rw c refl)
missed-not w p i v s _ e c = cc

pub yield-turn : (w : World) (p i : ℕ) (frame x : Place) → frame ≡ (w.stack (Worker p i)).top → is_free frame ≡ true → after_yield w (Worker p i) (w.stack (Worker p i)) x ≡ Some (with_stack w (Worker p i) (after_move (Enter frame x) (w.stack (Worker p i)).below))
yield-turn w p i frame x ef k =
    let s = w.stack (Worker p i) in
    let can : is_free s.top ≡ true = ap is_free (sym ef) ∙ k in
    rw can (ap (λ f. Some (with_stack w (Worker p i) (after_move (Enter f x) s.below))) (sym ef))
