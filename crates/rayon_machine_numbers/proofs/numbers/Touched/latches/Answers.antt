use Rattle.rayon_machine_numbers.proofs.numbers.Touched.latches.Goals as goal

pub returns-in-Sleepy-clause-ok : goal.returns-in-Sleepy-clause-ok
returns-in-Sleepy-clause-ok c = λ _ q k b. rw c.in-Sleepy.is (c.get_sleepy.ensures q k b)

pub returns-in-Asleep-clause-ok : goal.returns-in-Asleep-clause-ok
returns-in-Asleep-clause-ok c = λ _ q k b. rw c.in-Asleep.is (c.fall_asleep.ensures q k b)

pub returns-in-Wakeup-clause-ok : goal.returns-in-Wakeup-clause-ok
returns-in-Wakeup-clause-ok c = λ _ q k b. rw c.in-Wakeup.is (c.wake_up.ensures q k b)

pub returns-in-Set-clause-ok : goal.returns-in-Set-clause-ok
returns-in-Set-clause-ok c = λ _ q k b. rw c.in-Set.is (c.set.ensures q k b c.in-Set.pool c.in-Set.worker)

pub returns-in-StorePiece-clause-ok : goal.returns-in-StorePiece-clause-ok
returns-in-StorePiece-clause-ok c = λ _ q k b. rw c.in-StorePiece.is (c.piece_stored.ensures q k b c.in-StorePiece.call)

pub returns-in-Take-clause-ok : goal.returns-in-Take-clause-ok
returns-in-Take-clause-ok c = λ _ q k b. rw c.in-Take.is (c.take.ensures q k b c.in-Take.field-0)
