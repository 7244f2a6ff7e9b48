use Rattle.std.proofs.Common.{rules, refl, ◌≡◌, ◌∙◌, ◌+◌, ap, ℕ}
use Rattle.rayon_machine_places.specs.declared.place.Party.{Party}
use Rattle.rayon_machine_places.specs.declared.place.Move.TheVariants.{Enter}
use Rattle.rayon_machine_places.specs.declared.place.Place.TheVariants.{RaiseCount}
use Rattle.rayon_machine_runs.specs.declared.state.Call.{Call}
use Rattle.rayon_machine_runs.specs.declared.state.Job.{Job}
use Rattle.rayon_machine_runs.specs.World.{Stack, World}
use Rattle.rayon_machine_runs.specs.Steps.{put, put_stack, after_move}
use Rattle.rayon_machine_parts.specs.State.{call_at, job_at, shape_of, stack_in}
use Rattle.rayon_machine_world.specs.Running.{after_open_join, world_of}
use Rattle.rayon_machine_world.proofs.Acted.{world-path}
use Rattle.rayon_machine_world.proofs.world.World.open_join.Goals as goal

pub returns : goal.returns
returns c =
    let self = c.args.self.now in
    let h = shape_of self.shapes in
    let q = c.args.party in
    let x = c.args.frame in
    let plan = c.args.plan in
    let stacks : stack_in h c.make_room.new.self ≡ stack_in h self.parties = λ j r. c.make_room.ensures.same r j in
    let calls : call_at c.grow_calls.new.calls.items ≡ call_at self.parts.calls.items = λ j n. c.grow_calls.ensures.same n j in
    let jobs : job_at c.grow_jobs.new.jobs.items ≡ job_at self.parts.jobs.items = λ j n. c.grow_jobs.ensures.same n j in
    let u : World = world_of (record self { parties = c.turn.new.self; parts = record (self.parts) { calls = c.write_call.new.calls; jobs = c.write_jobs.new.jobs }; calls = self.calls + 1; jobs = self.jobs + 2 }) in
    record {
      ok = world-path u (after_open_join (world_of self) q x plan c.args.first c.args.second) refl
          (λ r. c.turn.ensures h r ∙ ap (λ (f : Party → Stack). put_stack f q (after_move (Enter x (RaiseCount plan)) (f q).below) r) stacks)
          (λ p i. refl)
          (λ p. refl)
          (λ n. c.write_call.ensures n ∙ ap (λ (f : ℕ → Call). put f self.calls c.waiting.result n) calls ∙ ap (λ (k : Call). put (call_at self.parts.calls.items) self.calls k n) c.waiting.ensures)
          (λ n. c.write_jobs.ensures n ∙ ap (λ (f : ℕ → Job). put (put f self.jobs c.args.first) (self.jobs + 1) c.args.second n) jobs)
          refl refl refl;
      no_room = search rules;
      err = search rules;
    }
