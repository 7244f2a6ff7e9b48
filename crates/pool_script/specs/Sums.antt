use Rattle.std.specs.Prelude.{◌≡◌, ℕ, zero, suc, ◌+◌, ◌%◌, ◌^◌, Bool, true, ◌&&◌, List, fold, nat_le, nat_lt, if◌then◌else◌, Option, Some, None, unwrap_or}
use Rattle.pool_script.specs.declared.script.Value.TheVariants as value
use Rattle.pool_script.specs.declared.script.Plain.{Plain}
use Rattle.pool_script.specs.declared.script.Plain.TheVariants as plain
use Rattle.pool_script.specs.declared.script.Verb.TheVariants as verb
use Rattle.pool_script.specs.declared.script.Act.{Act}
use Rattle.pool_script.specs.declared.script.Act.TheVariants as act
use Rattle.pool_script.specs.declared.script.Deed.{Deed}
use Rattle.pool_script.specs.Ends.{number_at}

-- the sum of two numbers that a script says, modulo 2 ^ 64; nothing where it says one of them not
abbrev pub plus : Option ℕ → Option ℕ → Option ℕ
plus None second = None
plus (Some first) None = None
plus (Some first) (Some second) = Some ((first + second) % 2 ^ 64)

-- what is added by what needs no call: by `add` its number, or 0 where that is below 0, and by the others 0; nothing is said
-- of whether the run migrated, and of its worker
abbrev pub plain_adds : Plain → ℕ → ℕ → Option ℕ
plain_adds (plain.Add (value.Number number)) own turn = Some (unwrap_or (number_at number own turn) 0)
plain_adds (plain.Add value.Migrated) own turn = None
plain_adds (plain.Add value.Index) own turn = None
plain_adds (plain.Add value.Bit) own turn = None
plain_adds (plain.Note noted) own turn = Some 0
plain_adds (plain.Fault fault) own turn = Some 0
plain_adds (plain.Open gate times) own turn = Some 0
plain_adds (plain.Wait gate times) own turn = Some 0
plain_adds (plain.Meet gate crowd) own turn = Some 0
plain_adds plain.Pause own turn = Some 0

-- the same of what a line does: a spawn and a broadcast that waits for nothing, in order, into a scope or neither, and a wait
-- add 0, and of the calls whose answers are added nothing is said
abbrev pub act_adds : Act → ℕ → ℕ → Option ℕ
act_adds (act.Plain done) own turn = plain_adds done own turn
act_adds (act.One verb.Spawn call) own turn = Some 0
act_adds (act.One verb.SpawnFifo call) own turn = Some 0
act_adds (act.One verb.SpawnBroadcast call) own turn = Some 0
act_adds (act.One verb.Install call) own turn = None
act_adds (act.One verb.Broadcast call) own turn = None
act_adds (act.Join first second) own turn = None
act_adds (act.JoinWith first second) own turn = None
act_adds (act.JoinInstall first second) own turn = None
act_adds (act.Serve gate times) own turn = Some 0
act_adds (act.Scope shape body) own turn = None
act_adds (act.Into entry call) own turn = Some 0

-- what is added in so many turns, by what is added in each
abbrev pub over_turns : (ℕ → Option ℕ) → ℕ → Option ℕ
over_turns each zero = Some 0
over_turns each (suc turns) = plus (over_turns each turns) (each turns)

-- whether a number is below a bound, if there is one
abbrev pub is_below : Option ℕ → ℕ → Bool
is_below None number = true
is_below (Some bound) number = nat_lt number bound

-- whether the run with this number takes a line
abbrev pub takes : Deed → ℕ → Bool
takes deed number = nat_le deed.from number && is_below deed.below number

-- what a line adds in the run with this number, in all its turns
abbrev pub deed_adds : ℕ → Deed → Option ℕ
deed_adds number deed = if takes deed number then over_turns (act_adds deed.act number) deed.times else Some 0

-- what a run with this number that comes to its end answers: the sum of what its lines add, modulo 2 ^ 64; nothing where the
-- script does not say it
abbrev pub sum_of : List Deed → ℕ → Option ℕ
sum_of deeds number = fold (λ sum deed. plus sum (deed_adds number deed)) (Some 0) deeds
