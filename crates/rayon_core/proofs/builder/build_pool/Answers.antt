use Rattle.std.proofs.Common.{length, rules}
use Rattle.rayon_core.proofs.Threads.{took_all}
use Rattle.rayon_core.proofs.builder.build_pool.Goals as goal

pub returns-in-Ok-start_workers-clause-took : goal.returns-in-Ok-start_workers-clause-took
returns-in-Ok-start_workers-clause-took g c =
    let took = took_all g.N.ThreadNames.named g.S.ThreadSpawn.took c.in-Ok.pool c.of.result c.args.builder.stack_size (c.args.builder.names, c.args.builder.spawn) (c.start_workers.new.names, c.start_workers.new.spawn) (length c.in-Ok.deques.items) (search rules) (search rules) (search rules) in
    ((c.start_workers.new.names, c.start_workers.new.spawn), took)
