use Rattle.std.proofs.Common.{ℕ, subst, sym, ◌≡◌}
use Rattle.rayon_machine_places.specs.declared.place.Taken.TheVariants.{Plain}
use Rattle.rayon_tasks.specs.Tasks.{taken_in}
use Rattle.rayon_performers.proofs.Fifos.{taken_plain}
use Rattle.rayon_performers.proofs.bench.Bench.push_fifo.Goals as goal

pub feed-requires-clause-name : goal.feed-requires-clause-name
feed-requires-clause-name g c =
    let t = c.args.task in
    subst (λ (n : ℕ). taken_in t ≡ Plain n) (sym c.number-name.ensures) (taken_plain t.work t.ticket c.requires.job)
