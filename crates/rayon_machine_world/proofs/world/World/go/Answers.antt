use Rattle.std.proofs.Common.{rules, ◌≡◌, ◌∙◌, ap, subst, sym}
use Rattle.std.specs.Prelude.{Some, None}
use Rattle.std.proofs.lemmas.Result.{on_ok_weaker, IfErr-weaker}
use Rattle.rayon_machine_places.specs.declared.act.Act.{Act}
use Rattle.rayon_machine_runs.specs.declared.error.StepError.TheVariants.{NotEnabled, NoRoom}
use Rattle.rayon_machine_runs.specs.declared.event.Event.TheVariants.{Go}
use Rattle.rayon_machine_places.specs.Places.{next_of}
use Rattle.rayon_machine_runs.specs.Steps.{step}
use Rattle.rayon_machine_parts.specs.State.{IsDeed, shape_of}
use Rattle.rayon_machine_world.specs.Running.{IsPerformed, world_of}
use Rattle.rayon_machine_world.proofs.Acted.{can-go, cannot-go, went}
use Rattle.rayon_machine_parts.proofs.Deeds.{deed-enabled}
use Rattle.rayon_machine_world.proofs.world.World.go.Goals as goal

pub returns-in-Err : goal.returns-in-Err
returns-in-Err c = record {
  ok = search rules;
  not_enabled = λ refused. cannot-go c.args.self.now c.args.party c.act.result c.top-place.result c.act.ensures c.top-place.ensures (c.in-Err.ensures.not_enabled refused);
  enabled = λ refused. can-go c.args.self.now c.args.party c.act.result c.top-place.result c.act.ensures c.top-place.ensures (c.in-Err.ensures.enabled refused);
  err = search rules;
}

pub returns : goal.returns
returns c =
    let w = c.args.self.now in
    let q = c.args.party in
    let x = c.top-place.result in
    let d = c.in-Ok.deed in
    let made : IsPerformed w c.perform.new.self q d c.next-step.result → step (world_of w) (Go q) ≡ Some (world_of c.perform.new.self) = λ did. went w c.perform.new.self q x d c.next-step.result c.top-place.ensures (subst (λ (a : Act). IsDeed (shape_of w.shapes) w.parts q a d) c.act.ensures c.in-Ok.ensures.ok) (c.next-step.ensures ∙ ap (λ s. next_of s q x d.seen) c.pool.ensures) did in
    let can : ¬ (step (world_of w) (Go q) ≡ None) = can-go w q c.act.result x c.act.ensures c.top-place.ensures (deed-enabled (shape_of w.shapes) w.parts q c.act.result d c.in-Ok.ensures.ok) in
    record {
      ok = on_ok_weaker c.perform.result made c.perform.ensures.ok;
      not_enabled = IfErr-weaker c.perform.result _ _ (λ e is refused. absurd (let no : NoRoom ≡ NotEnabled = sym is ∙ refused in cc)) c.perform.ensures.no_room;
      enabled = IfErr-weaker c.perform.result _ _ (λ e is refused. can) c.perform.ensures.no_room;
      err = c.perform.ensures.err;
    }
