use Rattle.std.proofs.Common.{refl, rules}
use Rattle.rayon_core.proofs.thread_names.NamesByThreadNames.name_of.Goals as goal

pub returns-clause-named : goal.returns-clause-named
returns-clause-named g c = (c.in_ok-name.name, refl, search rules)
