use Rattle.std.proofs.Common.{refl}
use Rattle.rayon_machine_world.proofs.Acted.{on-err, world-path}
use Rattle.rayon_machine_world.proofs.world.World.perform.Goals as goal

pub returns-in_err-make_room-clause-err : goal.returns-in_err-make_room-clause-err
returns-in_err-make_room-clause-err c = on-err c.from_residual.result (world-path _ _ refl
    (λ r. refl)
    (λ p i. c.make_room.ensures.seats p i)
    (λ p. c.make_room.ensures.pools p)
    (λ n. c.make_room.ensures.calls n)
    (λ n. c.make_room.ensures.jobs n)
    refl refl refl)

pub returns-in_err-make_room-2-clause-err : goal.returns-in_err-make_room-2-clause-err
returns-in_err-make_room-2-clause-err c = on-err c.from_residual-in_err-make_room-2.result (world-path _ _ refl
    (λ r. c.make_room-2.ensures.same r)
    (λ p i. c.make_room.ensures.seats p i)
    (λ p. c.make_room.ensures.pools p)
    (λ n. c.make_room.ensures.calls n)
    (λ n. c.make_room.ensures.jobs n)
    refl refl refl)
