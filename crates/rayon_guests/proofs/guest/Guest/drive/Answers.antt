use Rattle.rayon_machine_places.specs.declared.place.Move.TheVariants.{Stay}
use Rattle.rayon_guests.proofs.Visits.{call_ends}
use Rattle.rayon_guests.proofs.guest.Guest.drive.Goals as goal

pub returns-clause-ends : goal.returns-clause-ends
returns-clause-ends g c =
    ((call_ends c.args.plan c.self.inside.shape (Stay c.args.place) c.args.self.now c.drive.new.performer c.drive.result c.requires c.drive.ensures.path).0, c.drive.ensures.stops)

pub returns-clause-kept : goal.returns-clause-kept
returns-clause-kept g c = (call_ends c.args.plan c.self.inside.shape (Stay c.args.place) c.args.self.now c.drive.new.performer c.drive.result c.requires c.drive.ensures.path).1
