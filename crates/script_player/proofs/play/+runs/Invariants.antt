use Rattle.std.proofs.Common.{◌≡◌, ◌+◌, ◌*◌, Bool, true, take}
use Rattle.pool_script.specs.Sums.{act_adds, over_turns, sum_of, takes}
use Rattle.script_player.specs.Answers.{says}
use Rattle.script_player.proofs.play.+runs.Given as goal

-- the levels of the worker value, and below them how far in the run is: a body has one level fewer
abbrev pub decreases-open_scope-run : goal.decreases-open_scope-run
decreases-open_scope-run g l = 8 * l.w.now.levels + 7

abbrev pub decreases-Play::run_in : goal.decreases-Play::run_in
decreases-Play::run_in g l = 8 * l.w.now.levels + 6

abbrev pub decreases-repeat : goal.decreases-repeat
decreases-repeat g l = 8 * l.w.now.levels + 5

abbrev pub decreases-attempt : goal.decreases-attempt
decreases-attempt g l = 8 * l.w.now.levels + 4

abbrev pub decreases-act : goal.decreases-act
decreases-act g l = 8 * l.w.now.levels + 3

abbrev pub decreases-open_scope : goal.decreases-open_scope
decreases-open_scope g l = 8 * l.w.now.levels + 2

abbrev pub invariant-Play::run_in-loop-deed : goal.invariant-Play::run_in-loop-deed
invariant-Play::run_in-loop-deed g l =
    (l.w.id ≡ l.initial.w.id)
    × (l.w.levels ≡ l.initial.w.levels)
    × (l.w.units ≡ l.initial.w.units)
    × (l.w.shape ≡ l.initial.w.shape)
    × says (sum_of (take l.deed-index l.deed-items) l.here.number) l.answer

abbrev pub invariant-repeat-loop-turn : goal.invariant-repeat-loop-turn
invariant-repeat-loop-turn g l =
    (l.w.id ≡ l.initial.w.id)
    × (l.w.levels ≡ l.initial.w.levels)
    × (l.w.units ≡ l.initial.w.units)
    × (l.w.shape ≡ l.initial.w.shape)
    × says (over_turns (act_adds l.deed.act l.here.number) l.turn) l.added
    × (takes l.deed l.here.number ≡ true)
