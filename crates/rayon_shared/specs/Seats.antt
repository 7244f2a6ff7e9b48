-- A worker's seat of the counters: what it holds, and the one step that an act on them makes with it.
use Rattle.std.specs.Prelude.{◌≡◌, ◌+◌, Bool, min, Option, None, Some}
use Rattle.rayon_machine_places.specs.Sleepers.{wakes_for_one}
use Rattle.rayon_machine_places.specs.declared.act.Seen.{Seen}
use Rattle.rayon_machine_places.specs.declared.act.Seen.TheVariants.{Done, Jec, Wakes, Word}
use Rattle.rayon_atomics.specs.declared.counters.Counters.{Counters}
use Rattle.rayon_atomics.specs.declared.counters.EventState.TheVariants.{Active, Sleepy}
use Rattle.rayon_atomics.specs.declared.views.Watch.{Watch}
use Rattle.rayon_atomics.specs.Counted.{after, Sound, Stays}
use Rattle.rayon_atomics.specs.Counters.{announced, counters_of, counts, raises_if, sleeping_of, word_of}
use Rattle.rayon_sleep.specs.Berths.{Rests, Searches, Sleeps}

-- the seat is at hand, and it is so
abbrev pub Has : (Watch → Type 0) → Option Watch → Type 0
Has C None = ⊥
Has C (Some v) = C v

-- the seat is at hand and holds no unit
abbrev pub Resting : Option Watch → Type 0
Resting c = Has Rests c

-- an inactive unit alone
abbrev pub Searching : Option Watch → Type 0
Searching c = Has Searches c

-- one unit of each
abbrev pub Sleeping : Option Watch → Type 0
Sleeping c = Has Sleeps c

-- the seat made one step, a loop's looks and failed tries aside, which found a word that is as its rule says
abbrev pub Steps : (Watch → Watch → Type 0) → Option Watch → Option Watch → Type 0
Steps R None e = ⊥
Steps R (Some v) None = ⊥
Steps R (Some v) (Some w) = R v w × Sound v w.found

-- it took its inactive unit
abbrev pub AddsInactive : Watch → Watch → Type 0
AddsInactive v w = w ≡ after v 1 v.sleeping v.raises w.found

-- it gave its inactive unit back, and saw how many to wake
abbrev pub SubsInactive : Seen → Watch → Watch → Type 0
SubsInactive (Wakes n) v w = (w ≡ after v 0 0 v.raises w.found) × (n ≡ min 2 (sleeping_of w.found))
SubsInactive _ v w = ⊥

-- it raised an odd event counter, and saw the event counter as it stood then
abbrev pub Announces : Seen → Watch → Watch → Type 0
Announces (Jec j) v w = Stays v w × (w.raises ≡ v.raises + raises_if Active (counters_of w.found)) × (j ≡ (announced (counters_of w.found)).jec)
Announces _ v w = ⊥

-- it raised an even event counter, and saw how many to wake
abbrev pub Tells : Bool → Seen → Watch → Watch → Type 0
Tells e (Wakes n) v w = Stays v w × (w.raises ≡ v.raises + raises_if Sleepy (counters_of w.found)) × (n ≡ wakes_for_one e (counts (counters_of w.found)))
Tells e _ v w = ⊥

-- it saw the counters
abbrev pub Loads : Seen → Watch → Watch → Type 0
Loads (Word a b j) v w = (w ≡ after v v.inactive v.sleeping v.raises w.found) × (counters_of w.found ≡ record { sleeping = a; inactive = b; jec = j })
Loads _ v w = ⊥

-- it took its sleeping unit, where the word was the one that says these counters
abbrev pub Tries : Counters → Seen → Watch → Watch → Type 0
Tries c Done v w = (w ≡ after v 1 1 v.raises w.found) × (w.found ≡ word_of c)
Tries c _ v w = w ≡ after v 1 0 v.raises w.found

-- it gave its sleeping unit back
abbrev pub SubsSleeping : Watch → Watch → Type 0
SubsSleeping v w = w ≡ after v v.inactive 0 v.raises w.found

-- a sleep lock is taken: where the seat is at hand it stays as it is, and where it lay under the worker's own sleep lock
-- it is taken back, with what the lock keeps
abbrev pub Relocks : Option Watch → Option Watch → Type 0
Relocks None e = Searching e
Relocks (Some v) e = e ≡ Some v
