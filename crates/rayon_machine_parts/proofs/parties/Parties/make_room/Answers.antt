use Rattle.std.proofs.Common.{arith, refl, ◌∙◌, ◌≡◌, ◌<◌, length}
use Rattle.std.proofs.lemmas.Grind.{common_steps}
use Rattle.std.proofs.lemmas.Option.{slice_get_read}
use Rattle.std.proofs.lemmas.Result.{on_ok_weaker}
use Rattle.std.specs.Prelude.{slice_get, Some}
use Rattle.std.specs.Vec.{with_item}
use Rattle.rayon_machine_places.specs.declared.place.Party.TheVariants.{Worker, Caller}
use Rattle.rayon_machine_parts.specs.State.{first_stack, shape_of}
use Rattle.rayon_machine_parts.proofs.Stored.{crew-room, crew-same, parties-same}
use Rattle.rayon_machine_parts.proofs.parties.Parties.make_room.Goals as goal

pub returns-in_err-grow_crews-in-Worker-clause-same : goal.returns-in_err-grow_crews-in-Worker-clause-same
returns-in_err-grow_crews-in-Worker-clause-same c =
    let h = shape_of c.args.shapes.now in
    parties-same h (record { crews = c.grow_crews.new.crews; callers = c.args.self.now.callers }) c.args.self.now (c.grow_crews.ensures.same h) (λ n. refl)

pub returns-in_err-grow_stacks-in-Worker-clause-same : goal.returns-in_err-grow_stacks-in-Worker-clause-same
returns-in_err-grow_stacks-in-Worker-clause-same c =
    let h = shape_of c.args.shapes.now in
    let crews = c.grow_crews.new.crews.items in
    let p = c.in-Worker.pool in
    let crew = c.index_mut-crew.result.now in
    let hp : p < length crews = grind (arith, common_steps) in
    let is : slice_get crews p ≡ Some crew = slice_get_read crews (length crews) p crew refl hp c.index_mut-crew.ensures.value in
    parties-same h (record { crews = with_item c.grow_crews.new.crews p (record { stacks = c.grow_stacks.new.stacks }); callers = c.args.self.now.callers }) c.args.self.now
    (λ r j. crew-same h crews p crew (record { stacks = c.grow_stacks.new.stacks }) hp is c.grow_stacks.ensures.same r j ∙ c.grow_crews.ensures.same h r j)
    (λ n. refl)

pub returns-in_ok-grow_stacks-in-Worker-clause-same : goal.returns-in_ok-grow_stacks-in-Worker-clause-same
returns-in_ok-grow_stacks-in-Worker-clause-same c =
    let h = shape_of c.args.shapes.now in
    let crews = c.grow_crews.new.crews.items in
    let p = c.in-Worker.pool in
    let crew = c.index_mut-crew.result.now in
    let hp : p < length crews = grind (arith, common_steps) in
    let is : slice_get crews p ≡ Some crew = slice_get_read crews (length crews) p crew refl hp c.index_mut-crew.ensures.value in
    parties-same h (record { crews = with_item c.grow_crews.new.crews p (record { stacks = c.make_room_at.new.stacks }); callers = c.args.self.now.callers }) c.args.self.now
    (λ r j. crew-same h crews p crew (record { stacks = c.make_room_at.new.stacks }) hp is (λ k. c.make_room_at.ensures.same (λ n. first_stack h (Worker p n)) k ∙ c.grow_stacks.ensures.same k) r j ∙ c.grow_crews.ensures.same h r j)
    (λ n. refl)

pub returns-in_ok-grow_stacks-in-Worker-clause-room : goal.returns-in_ok-grow_stacks-in-Worker-clause-room
returns-in_ok-grow_stacks-in-Worker-clause-room c =
    let crews = c.grow_crews.new.crews.items in
    let p = c.in-Worker.pool in
    let hp : p < length crews = grind (arith, common_steps) in
    on_ok_weaker c.make_room_at.result (λ room. rw c.in-Worker.is (crew-room crews p c.in-Worker.index (record { stacks = c.make_room_at.new.stacks }) hp room)) c.make_room_at.ensures.room

pub returns-in_ok-grow_callers-in-Caller-clause-same : goal.returns-in_ok-grow_callers-in-Caller-clause-same
returns-in_ok-grow_callers-in-Caller-clause-same c =
    let h = shape_of c.args.shapes.now in
    parties-same h (record { crews = c.args.self.now.crews; callers = c.make_room_at-in-Caller.new.stacks }) c.args.self.now (λ r j. refl)
    (λ n. c.make_room_at-in-Caller.ensures.same (λ k. first_stack h (Caller k)) n ∙ c.grow_callers.ensures.same n)
