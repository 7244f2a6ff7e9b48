use Rattle.std.proofs.Common.{rules, refl}
use Rattle.std.proofs.lemmas.Option.{slice_get_read}
use Rattle.std.specs.Prelude.{length}
use Rattle.pool_script.proofs.Ending.{ends_push}
use Rattle.pool_script.proofs.reader.push_deed.Goals as goal

pub returns-in_ok-push : goal.returns-in_ok-push
returns-in_ok-push c =
    let jobs = c.args.script.now.jobs.items in
    let job = c.in-Some.job.now in
    let read = slice_get_read jobs (length jobs) c.args.at job refl (search rules) (search rules) in
    ends_push jobs c.args.at job (record { name = job.name; deeds = c.push.new.self }) c.args.deed c.requires.ends read c.requires.down c.in_ok-push.ensures.items
