use Rattle.std.proofs.Common.{refl, ◌≡◌, ◌<◌, length, subst}
use Rattle.std.proofs.lemmas.Option.{slice_get_read}
use Rattle.std.specs.Prelude.{slice_get, Some}
use Rattle.rayon_machine_places.specs.declared.place.Party.TheVariants.{Worker, Caller}
use Rattle.rayon_machine_runs.specs.Steps.{after_move}
use Rattle.rayon_machine_parts.specs.State.{HasRoom, first_stack}
use Rattle.rayon_machine_parts.proofs.Stored.{some-below, worker-turned, caller-turned}
use Rattle.rayon_machine_parts.proofs.parties.Parties.turn.Goals as goal

pub returns-in-Worker : goal.returns-in-Worker
returns-in-Worker c =
    let w = c.args.self.now in
    let p = c.in-Worker.pool in
    let i = c.in-Worker.index in
    let crew = c.index_mut-crew.result.now in
    let room : HasRoom w (Worker p i) = subst (HasRoom w) c.in-Worker.is c.requires in
    let hp : p < length w.crews.items = some-below w.crews.items p _ room in
    let is : slice_get w.crews.items p ≡ Some crew = slice_get_read w.crews.items (length w.crews.items) p crew refl hp c.index_mut-crew.ensures.value in
    λ h q. rw c.in-Worker.is (worker-turned h w p i crew (record { stacks = c.turn_at.new.stacks }) (after_move c.args.step) hp is (c.turn_at.ensures (λ n. first_stack h (Worker p n))) q)

pub returns-in-Caller : goal.returns-in-Caller
returns-in-Caller c = λ h q. rw c.in-Caller.is (caller-turned h c.args.self.now (record { crews = c.args.self.now.crews; callers = c.turn_at-in-Caller.new.stacks }) c.in-Caller.number (after_move c.args.step) refl (c.turn_at-in-Caller.ensures (λ n. first_stack h (Caller n))) q)
