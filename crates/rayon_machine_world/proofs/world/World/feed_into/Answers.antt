use Rattle.std.proofs.Common.{rules, ◌≡◌, ◌∙◌, true, ap, ℕ}
use Rattle.std.specs.Prelude.{Option, Some}
use Rattle.rayon_machine_places.specs.declared.place.Party.TheVariants.{Worker}
use Rattle.rayon_machine_places.specs.declared.place.JobKind.{JobKind}
use Rattle.rayon_machine_places.specs.declared.place.JobKind.TheVariants.{Scoped, TokenOf}
use Rattle.rayon_machine_runs.specs.declared.state.Job.{Job}
use Rattle.rayon_machine_places.specs.Places.{is_free}
use Rattle.rayon_machine_runs.specs.Steps.{holds, new_job}
use Rattle.rayon_machine_world.specs.Running.{world_of}
use Rattle.rayon_machine_world.proofs.Made.{made-is}
use Rattle.rayon_machine_world.proofs.Calling.{fed-into-is}
use Rattle.rayon_machine_world.proofs.world.World.feed_into.Goals as goal

pub returns : goal.returns
returns c =
    let w = world_of c.args.self.now in
    let z = c.args.scope in
    let i = c.args.index in
    let x = c.top-frame.result in
    let free : is_free x ≡ true = search (rules, c.can_call.ensures, c.if-not-can_call.false) in
    let held : holds z.call (w.stack (Worker z.pool i)) ≡ true = search (rules, c.holds.ensures, c.if-not-holds.false) in
    let job : c.made-job.result ≡ new_job (Worker z.pool i) z.pool (Scoped z.call z.owner) = c.made-job.ensures ∙ ap (λ (k : JobKind). new_job (Worker z.pool i) z.pool k) c.job_kind.ensures in
    let token : c.made-token.result ≡ new_job (Worker z.pool i) z.pool (TokenOf i (Some z.call)) = c.made-token.ensures ∙ ap (λ (b : Option ℕ). new_job (Worker z.pool i) z.pool (TokenOf i b)) c.book.ensures in
    made-is (fed-into-is w z i x c.made-job.result c.made-token.result c.top-frame.ensures free held job token) c.open_feed.ensures
