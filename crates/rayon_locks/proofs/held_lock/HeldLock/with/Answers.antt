use Rattle.std.proofs.Common.{refl}
use Rattle.std.specs.Fn.{FnOnceReturnsAtMut}
use Rattle.rayon_locks.proofs.held_lock.HeldLock.with.Goals as goal

pub returns : goal.returns
returns g c = (c.in-Some.value, c.step.new.arg2, record { shown = record { ref_ptr = _; ghost_name = _; now = c.in-Some.value }; shows = refl; left = _; met = c.step.ensures; leaves = refl })
