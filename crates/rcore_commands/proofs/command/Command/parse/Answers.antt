use Rattle.std.proofs.Common.{rules, string_bytes, ◌≡◌, []}
use Rattle.rcore_commands.specs.Words.{threads_word}
use Rattle.rcore_commands.proofs.Lists.{five_words, none_left}
use Rattle.rcore_commands.proofs.command.Command.parse.Goals as goal
use Rattle.std.specs.Vec.Iter.{into_iter_items}

-- the words that were read, and the numbers that they write
pub returns-in-None-clause-some : goal.returns-in-None-clause-some
returns-in-None-clause-some c =
    let w = c.in_ok-next-in-threads.field-0 in
    let first = c.in_ok-first-in-threads.first in
    let second = c.in_ok-second-in-threads.second in
    let v = c.in_ok-next-in-threads-2.field-0 in
    let over = none_left c.next-in-threads-4.new.self c.in-None.ensures.cases.0 in
    let named : string_bytes c.in_ok-name.name ≡ threads_word = search rules in
    let words = five_words string_bytes _ _ _ _ _ _ c.in_ok-name.name w first second v threads_word c.in_ok-name.ensures.items c.in_ok-next-in-threads.ensures.items c.in_ok-first-in-threads.ensures.items c.in_ok-second-in-threads.ensures.items c.in_ok-next-in-threads-2.ensures.items over named in
    (string_bytes w, string_bytes first, string_bytes second, string_bytes v, c.in_ok-asked-in-threads.asked, c.in_ok-processors-in-threads.processors, words, search rules, search rules, search rules, search rules, search rules)
