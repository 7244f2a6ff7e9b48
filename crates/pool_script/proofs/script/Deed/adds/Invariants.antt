use Rattle.std.specs.Prelude.{◌≡◌, Bool, true}
use Rattle.pool_script.specs.Sums.{act_adds, over_turns, takes}
use Rattle.pool_script.proofs.script.Deed.adds.Given as goal

abbrev pub invariant-loop-turn : goal.invariant-loop-turn
invariant-loop-turn l = (l.sum ≡ over_turns (act_adds l.self.act l.number) l.turn) × (takes l.self l.number ≡ true)
