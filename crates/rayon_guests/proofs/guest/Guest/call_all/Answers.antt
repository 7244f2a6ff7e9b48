use Rattle.rayon_machine_places.specs.declared.place.Move.TheVariants.{Back, Stay}
use Rattle.rayon_machine_places.specs.declared.place.Place.TheVariants as at
use Rattle.rayon_machine_places.specs.declared.place.Then.TheVariants.{Called}
use Rattle.rayon_guests.proofs.Casts.{called, closed}
use Rattle.rayon_guests.proofs.guest.Guest.call_all.Goals as goal

pub returns-clause-path : goal.returns-clause-path
returns-clause-path g c = called c.args.self.now.shape c.args.cast c.args.self.now c.drive.new.self c.requires.pool c.requires.all c.in-Back.ensures.path

pub returns-clause-keeps : goal.returns-clause-keeps
returns-clause-keeps g c = (closed c.args.self.now.shape (Stay (at.LockToWake (record { pool = 0; owed = c.args.cast.workers; worker = 0; then = Called }))) Back c.args.self.now c.drive.new.self tt c.in-Back.ensures.path).1
