use Rattle.std.proofs.Common.{rules, refl, ◌≡◌, ◌∙◌, ◌+◌, ap, ℕ}
use Rattle.rayon_machine_places.specs.declared.place.Party.{Party}
use Rattle.rayon_machine_places.specs.declared.place.Move.TheVariants.{Enter}
use Rattle.rayon_machine_places.specs.declared.place.Place.TheVariants.{RaiseCount}
use Rattle.rayon_machine_runs.specs.declared.state.Job.{Job}
use Rattle.rayon_machine_runs.specs.World.{Stack, World}
use Rattle.rayon_machine_runs.specs.Steps.{put, put_stack, after_move}
use Rattle.rayon_machine_parts.specs.State.{job_at, shape_of, stack_in}
use Rattle.rayon_machine_world.specs.Running.{after_open_feed, world_of}
use Rattle.rayon_machine_world.proofs.Acted.{world-path}
use Rattle.rayon_machine_world.proofs.world.World.open_feed.Goals as goal

pub returns : goal.returns
returns c =
    let self = c.args.self.now in
    let h = shape_of self.shapes in
    let q = c.args.party in
    let x = c.args.frame in
    let plan = c.args.plan in
    let stacks : stack_in h c.make_room.new.self ≡ stack_in h self.parties = λ j r. c.make_room.ensures.same r j in
    let jobs : job_at c.grow_jobs.new.jobs.items ≡ job_at self.parts.jobs.items = λ j n. c.grow_jobs.ensures.same n j in
    let u : World = world_of (record self { parties = c.turn.new.self; parts = record (self.parts) { jobs = c.write_jobs.new.jobs }; jobs = self.jobs + 2 }) in
    record {
      ok = world-path u (after_open_feed (world_of self) q x plan c.args.job c.args.token) refl
          (λ r. c.turn.ensures h r ∙ ap (λ (f : Party → Stack). put_stack f q (after_move (Enter x (RaiseCount plan)) (f q).below) r) stacks)
          (λ p i. refl)
          (λ p. refl)
          (λ n. refl)
          (λ n. c.write_jobs.ensures n ∙ ap (λ (f : ℕ → Job). put (put f self.jobs c.args.job) (self.jobs + 1) c.args.token n) jobs)
          refl refl refl;
      no_room = search rules;
      err = search rules;
    }
