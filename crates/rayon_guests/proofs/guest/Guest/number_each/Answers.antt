use Rattle.rayon_guests.proofs.ScopeCasts.{numbered, slots_refused, unnumbered}
use Rattle.rayon_guests.proofs.guest.Guest.number_each.Goals as goal

pub returns-in-Err-clause-path : goal.returns-in-Err-clause-path
returns-in-Err-clause-path g c = slots_refused c.args.cast c.args.self.now c.open_for_all.new.self c.in-Err.ensures.step

pub returns-in-Ok-push_numbered-clause-path : goal.returns-in-Ok-push_numbered-clause-path
returns-in-Ok-push_numbered-clause-path g c = numbered c.args.cast _ c.args.self.now c.open_for_all.new.self c.push_numbered.new.self c.in-Ok.ensures.step c.in-Ok-push_numbered.ensures.step

pub returns-in-Err-push_numbered-clause-path : goal.returns-in-Err-push_numbered-clause-path
returns-in-Err-push_numbered-clause-path g c =
    unnumbered c.args.cast _ c.args.ticket.now.scope c.args.self.now c.open_for_all.new.self c.push_numbered.new.self c.close_for_all.new.self c.requires.count c.in-Ok.ensures.step c.in-Err-push_numbered.ensures.step c.close_for_all.ensures.step
