-- a call that is made where the relation has a next world is a step of the relation
use Rattle.std.proofs.Common.{◌≡◌, sym, ◌∙◌, ap}
use Rattle.std.specs.Prelude.{Option, Some, None, Result}
use Rattle.std.proofs.lemmas.Result.{on_ok_weaker, IfErr-weaker}
use Rattle.rayon_machine_runs.specs.declared.error.StepError.{StepError}
use Rattle.rayon_machine_runs.specs.declared.error.StepError.TheVariants.{NotEnabled, NoRoom}
use Rattle.rayon_machine_runs.specs.World.{World}
use Rattle.rayon_machine_world.specs.Running.{IsMade, IsStepOf}

pub made-is : {next : Option World} {x : World} {r : Result (Unit {0}) StepError} {w u : World} → next ≡ Some x → IsMade x r w u → IsStepOf next r w u
made-is {next} {x} {r} {w} {u} there m = record {
  ok = on_ok_weaker r (λ e. there ∙ ap (λ z. Some z) (sym e)) m.ok;
  not_enabled = IfErr-weaker r _ _ (λ e is refused. absurd (let no : NoRoom ≡ NotEnabled = sym is ∙ refused in cc)) m.no_room;
  enabled = IfErr-weaker r _ _ (λ e is refused none. absurd (let no : Some x ≡ None = sym there ∙ none in cc)) m.no_room;
  err = m.err;
}
