use Rattle.std.proofs.Common.{map, take}
use Rattle.std.specs.Fmt.{HasWritten, IsPlainFormatter}
use Rattle.rcore_commands.specs.Lines.{after_spaces}
use Rattle.rcore_commands.proofs.spaced.AfterSpacesDisplay.fmt.Given as goal

abbrev pub invariant-loop-number : goal.invariant-loop-number
invariant-loop-number g l =
    IsPlainFormatter l.initial.f → HasWritten g.W.Write.write_str_gives l.initial.f (after_spaces (map g.T.Number.value (take l.number-index l.number-items))) l.f
