use Rattle.std.proofs.Common.{rules, refl, ◌≡◌, ◌∙◌, ◌+◌, ap, ℕ}
use Rattle.rayon_machine_places.specs.declared.place.Party.{Party}
use Rattle.rayon_machine_places.specs.declared.place.Move.TheVariants.{Enter}
use Rattle.rayon_machine_places.specs.declared.place.Place.TheVariants.{RaiseCount}
use Rattle.rayon_machine_runs.specs.declared.state.Call.{Call}
use Rattle.rayon_machine_runs.specs.declared.state.Job.{Job}
use Rattle.rayon_machine_runs.specs.World.{Stack, World}
use Rattle.rayon_machine_runs.specs.Steps.{put, put_stack, after_move}
use Rattle.rayon_machine_parts.specs.State.{call_at, job_at, shape_of, stack_in}
use Rattle.rayon_machine_world.specs.Running.{after_open_scope, world_of}
use Rattle.rayon_machine_world.proofs.Acted.{on-err, world-path}
use Rattle.rayon_machine_world.proofs.world.World.open_scope.Goals as goal

pub returns : goal.returns
returns c =
    let self = c.args.self.now in
    let h = shape_of self.shapes in
    let q = c.args.party in
    let x = c.args.frame in
    let plan = c.args.plan in
    let stacks : stack_in h c.make_room.new.self ≡ stack_in h self.parties = λ j r. c.make_room.ensures.same r j in
    let calls : call_at c.grow_calls.new.calls.items ≡ call_at self.parts.calls.items = λ j n. c.grow_calls.ensures.same n j in
    let jobs : job_at c.grow_jobs.new.jobs.items ≡ job_at self.parts.jobs.items = λ j n. c.grow_jobs.ensures.same n j in
    let u : World = world_of (record self { parties = c.turn.new.self; parts = record (self.parts) { calls = c.write_call.new.calls; jobs = c.write_job.new.jobs }; calls = self.calls + 1; jobs = self.jobs + 1; scopes = c.add_scope.new.scopes }) in
    record {
      ok = world-path u (after_open_scope (world_of self) q x plan c.args.body c.args.scope) refl
          (λ r. c.turn.ensures h r ∙ ap (λ (f : Party → Stack). put_stack f q (after_move (Enter x (RaiseCount plan)) (f q).below) r) stacks)
          (λ p i. refl)
          (λ p. refl)
          (λ n. c.write_call.ensures n ∙ ap (λ (f : ℕ → Call). put f self.calls c.waiting.result n) calls ∙ ap (λ (k : Call). put (call_at self.parts.calls.items) self.calls k n) c.waiting.ensures)
          (λ n. c.write_job.ensures.values n ∙ ap (λ (f : ℕ → Job). put f self.jobs c.args.body n) jobs)
          refl refl c.in_ok-add_scope.ensures.added;
      no_room = search rules;
      err = search rules;
    }

pub returns-in_err-grow_jobs : goal.returns-in_err-grow_jobs
returns-in_err-grow_jobs c = record {
  ok = search rules;
  no_room = search rules;
  err = on-err c.from_residual.result (world-path _ _ refl (λ r. refl) (λ p i. refl) (λ p. refl) (λ n. refl) (λ n. c.grow_jobs.ensures.same n) refl refl refl);
}

pub returns-in_err-grow_calls : goal.returns-in_err-grow_calls
returns-in_err-grow_calls c = record {
  ok = search rules;
  no_room = search rules;
  err = on-err c.from_residual-in_err-grow_calls.result (world-path _ _ refl (λ r. refl) (λ p i. refl) (λ p. refl) (λ n. c.grow_calls.ensures.same n) (λ n. c.grow_jobs.ensures.same n) refl refl refl);
}

pub returns-in_err-make_room : goal.returns-in_err-make_room
returns-in_err-make_room c = record {
  ok = search rules;
  no_room = search rules;
  err = on-err c.from_residual-in_err-make_room.result (world-path _ _ refl (λ r. c.make_room.ensures.same r) (λ p i. refl) (λ p. refl) (λ n. c.grow_calls.ensures.same n) (λ n. c.grow_jobs.ensures.same n) refl refl refl);
}

pub returns-in_err-add_scope : goal.returns-in_err-add_scope
returns-in_err-add_scope c = record {
  ok = search rules;
  no_room = search rules;
  err = on-err c.from_residual-in_err-add_scope.result (world-path _ _ refl (λ r. c.make_room.ensures.same r) (λ p i. refl) (λ p. refl) (λ n. c.grow_calls.ensures.same n) (λ n. c.grow_jobs.ensures.same n) refl refl c.in_err-add_scope.ensures.same);
}
