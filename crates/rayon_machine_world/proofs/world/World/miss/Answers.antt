use Rattle.std.proofs.Common.{rules, ◌≡◌, ◌∙◌, true, ap, sym}
use Rattle.std.specs.Prelude.{Some}
use Rattle.rayon_machine_places.specs.declared.act.Seen.TheVariants.{Missing}
use Rattle.rayon_machine_places.specs.declared.place.Party.TheVariants.{Worker}
use Rattle.rayon_machine_places.specs.Places.{next_of, own_pool, victim_of}
use Rattle.rayon_machine_runs.specs.Steps.{can_miss, has_one}
use Rattle.rayon_machine_places.specs.Shapes.{is_newest_first}
use Rattle.rayon_machine_world.specs.Running.{world_of}
use Rattle.rayon_machine_world.proofs.Made.{made-is}
use Rattle.rayon_machine_world.proofs.Turning.{missed-none, missed-turn}
use Rattle.rayon_machine_world.proofs.world.World.miss.Goals as goal

pub returns-in_default-victim : goal.returns-in_default-victim
returns-in_default-victim c =
    let w = world_of c.args.self.now in
    let q = c.args.party in
    record {
      ok = search rules;
      not_enabled = λ _. missed-none w q (w.stack q) (w.stack q).top (ap victim_of (sym c.top-place.ensures) ∙ sym c.victim.ensures ∙ c.in_default-victim.is);
      enabled = search rules;
      err = search rules;
    }

pub returns : goal.returns
returns c =
    let w = world_of c.args.self.now in
    let p = c.in-Worker.pool in
    let i = c.in-Worker.index in
    let v = c.in-Some.victim in
    let x = c.top-place.result in
    let q = c.args.party in
    let shape : c.pool-shape.result ≡ w.shape.pool (own_pool q) = c.pool-shape.ensures ∙ ap (λ n. w.shape.pool n) c.pool.ensures in
    let own : own_pool q ≡ p = ap own_pool c.in-Worker.is in
    let shape_there : c.pool-shape.result ≡ w.shape.pool p = shape ∙ ap (λ n. w.shape.pool n) own in
    let first : is_newest_first c.pool-shape.result.order ≡ true = search (rules, c.takes_newest.ensures, c.if-not-takes_newest.false) in
    let newest : is_newest_first (w.shape.pool p).order ≡ true = ap (λ s. is_newest_first s.order) (sym shape_there) ∙ first in
    let one : has_one (w.seat p v).own ≡ true = search (rules, c.has_one.ensures, c.if-not-has_one.false) in
    let can : can_miss w p v ≡ true = rw newest one in
    let there : x ≡ (w.stack (Worker p i)).top = c.top-place.ensures ∙ ap (λ r. (w.stack r).top) c.in-Worker.is in
    let victim : victim_of x ≡ Some v = sym c.victim.ensures ∙ c.in-Some.is in
    let move : c.next-step.result ≡ next_of (w.shape.pool p) (Worker p i) x Missing = c.next-step.ensures ∙ ap (λ s. next_of s q x Missing) shape_there ∙ ap (λ r. next_of (w.shape.pool p) r x Missing) c.in-Worker.is in
    rw c.in-Worker.is (made-is (missed-turn w p i v x c.next-step.result there victim can move) c.turn.ensures)
