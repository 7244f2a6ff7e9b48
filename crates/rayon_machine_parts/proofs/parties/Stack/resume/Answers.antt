use Rattle.std.proofs.Common.{◌∙◌, ap, reverse}
use Rattle.rayon_machine_places.specs.declared.place.Place.{Place}
use Rattle.rayon_machine_places.specs.Places.{goes_on}
use Rattle.rayon_machine_runs.specs.World.{Stack}
use Rattle.rayon_machine_parts.proofs.Stored.{resumed-back}
use Rattle.rayon_machine_parts.proofs.parties.Stack.resume.Goals as goal

pub returns : goal.returns
returns c =
    let e = c.args.ending in
    let F : Stack → Stack = λ s. record s { top = goes_on s.top e } in
    let b = c.back.ensures in
    let G : Place → Stack = λ t. record { top = t; below = reverse c.back.new.self.below.items } in
    ap G c.resume-self.ensures ∙ ap F b ∙ resumed-back (reverse c.args.self.now.below.items) e
