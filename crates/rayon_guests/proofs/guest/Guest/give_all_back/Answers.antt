use Rattle.rayon_guests.proofs.Casts.{lowered}
use Rattle.rayon_guests.proofs.guest.Guest.give_all_back.Goals as goal

pub returns-clause-path : goal.returns-clause-path
returns-clause-path g c = (lowered c.args.cast c.args.self.now c.drive.new.self c.drive.result c.drive.ensures.ends.1 c.in-Back.is c.drive.ensures.path).0

pub returns-clause-units : goal.returns-clause-units
returns-clause-units g c = (lowered c.args.cast c.args.self.now c.drive.new.self c.drive.result c.drive.ensures.ends.1 c.in-Back.is c.drive.ensures.path).1

pub returns-clause-keeps : goal.returns-clause-keeps
returns-clause-keeps g c = (lowered c.args.cast c.args.self.now c.drive.new.self c.drive.result c.drive.ensures.ends.1 c.in-Back.is c.drive.ensures.path).2
