use Rattle.rcore_commands.proofs.Lists.{of_arguments}
use Rattle.rcore_commands.proofs.run.run_args.Goals as goal

pub returns-in-Ok-clause-done : goal.returns-in-Ok-clause-done
returns-in-Ok-clause-done g c done =
    of_arguments _ c.args.args c.in-Ok.args c.without_name.result c.in-Ok.is c.without_name.ensures (c.run.ensures.done done)
