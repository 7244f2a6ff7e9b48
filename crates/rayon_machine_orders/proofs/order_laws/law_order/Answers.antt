use Rattle.rayon_machine_orders.proofs.Casts.{dealt_law}
use Rattle.rayon_machine_orders.proofs.Handed.{token_law}
use Rattle.rayon_machine_orders.proofs.Leveling.{level_law}
use Rattle.rayon_machine_orders.proofs.Listing.{list_law}
use Rattle.rayon_machine_orders.proofs.Looking.{miss_law, tell_law}
use Rattle.rayon_machine_orders.proofs.Placing.{placed_law}
use Rattle.rayon_machine_orders.proofs.Queued.{queue_law}
use Rattle.rayon_machine_orders.proofs.Walking.{tree_law}
use Rattle.rayon_machine_orders.proofs.order_laws.law_order.Goals as goal

pub returns-clause-tokens : goal.returns-clause-tokens
returns-clause-tokens c = token_law

pub returns-clause-trees : goal.returns-clause-trees
returns-clause-trees c = tree_law

pub returns-clause-levels : goal.returns-clause-levels
returns-clause-levels c = level_law

pub returns-clause-queue : goal.returns-clause-queue
returns-clause-queue c = queue_law

pub returns-clause-lists : goal.returns-clause-lists
returns-clause-lists c = list_law

pub returns-clause-misses : goal.returns-clause-misses
returns-clause-misses c = miss_law

pub returns-clause-told : goal.returns-clause-told
returns-clause-told c = tell_law

pub returns-clause-placed : goal.returns-clause-placed
returns-clause-placed c = placed_law

pub returns-clause-dealt : goal.returns-clause-dealt
returns-clause-dealt c = dealt_law
