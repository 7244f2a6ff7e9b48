use Rattle.rayon_tasks.proofs.Draws.{rows_differ}
use Rattle.rayon_tasks.proofs.names.law_rows.Goals as goal

pub returns : goal.returns
returns c = rows_differ
