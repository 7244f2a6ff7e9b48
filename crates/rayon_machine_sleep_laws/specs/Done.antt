-- no completion is lost: where what a latch waits for has come about, the latch is set, or some party is about to set
-- it
--
-- Broken by the wrong machines of DoneTeeth.
use Rattle.std.specs.Prelude.{ℕ, Bool, true, false, ◌&&◌, ◌==◌, ◌<◌, nat_lt, nat_le, ◌≡◌, ◌⊎◌}
use Rattle.rayon_machine_places.specs.declared.place.Party.{Party}
use Rattle.rayon_machine_places.specs.declared.place.JobKind.TheVariants.{Stored}
use Rattle.rayon_machine_places.specs.declared.place.Latch.{Latch}
use Rattle.rayon_machine_places.specs.declared.place.Latch.TheVariants.{Terminate, OfCall}
use Rattle.rayon_machine_places.specs.declared.place.Share.TheVariants.{OfJob}
use Rattle.rayon_machine_places.specs.declared.place.Place.{Place}
use Rattle.rayon_machine_places.specs.declared.place.Place.TheVariants.{SetLatch, LockToSettle, WakeSettled, UnlockSettled}
use Rattle.rayon_machine_places.specs.declared.act.Act.{Act}
use Rattle.rayon_machine_places.specs.declared.act.Act.TheVariants.{Lower, Store}
use Rattle.rayon_machine_runs.specs.declared.state.Letter.TheVariants.{Set as IsSet}
use Rattle.rayon_machine_places.specs.Places.{act_of}
use Rattle.rayon_machine_runs.specs.World.{World}
use Rattle.rayon_machine_runs.specs.Readers.{is_done}
use Rattle.rayon_machine_laws.specs.Latch.{sets}

-- some party's next act sets the latch of this call, for whatever worker or caller
pub record HasSetter (w : World) (c : ℕ) : Type 0 where
  pub party : Party
  pub next : sets 0 0 (OfCall c) (act_of party (w.stack party).top) ≡ true

-- where the count of a call is 0, be it a scope's or that of a broadcast that waits, the call's latch is set, or some
-- party's next act sets it
abbrev pub IsScopeDone : World → Type 0
IsScopeDone w = (c : ℕ) → (w.call c).count ≡ 0 → ((w.call c).latch ≡ IsSet) ⊎ HasSetter w c

-- it is a terminate latch
abbrev pub is_terminate : Latch → Bool
is_terminate Terminate = true
is_terminate (OfCall c) = false

-- a party that stands here sets the terminate latches of this pool, one after the other, and has not passed that of this
-- worker: it is about to set that one or one of a worker before, or it wakes a worker before
abbrev pub comes_to : ℕ → ℕ → Place → Bool
comes_to p i (SetLatch s) = is_terminate s.latch && ((p == s.pool) && nat_le s.worker i)
comes_to p i (LockToSettle s) = is_terminate s.latch && ((p == s.pool) && nat_lt s.worker i)
comes_to p i (WakeSettled s) = is_terminate s.latch && ((p == s.pool) && nat_lt s.worker i)
comes_to p i (UnlockSettled s) = is_terminate s.latch && ((p == s.pool) && nat_lt s.worker i)
comes_to p i x = false

-- some party comes to set this worker's terminate latch
pub record HasEnder (w : World) (p i : ℕ) : Type 0 where
  pub party : Party
  pub comes : comes_to p i (w.stack party).top ≡ true

-- where the count of a pool is 0, each worker's terminate latch is set, or some party comes to set it
abbrev pub IsPoolDone : World → Type 0
IsPoolDone w = (p i : ℕ) → (w.pool p).count ≡ 0 → i < (w.shape.pool p).workers → ((w.seat p i).latch ≡ IsSet) ⊎ HasEnder w p i

-- an act stores how the job ended that this call waits for
abbrev pub stores_for : ℕ → Act → Bool
stores_for c (Store d e) = c == d
stores_for c a = false

-- some party's next act does so
pub record HasStorer (w : World) (c : ℕ) : Type 0 where
  pub party : Party
  pub next : stores_for c (act_of party (w.stack party).top) ≡ true

-- an act gives this job's share back
abbrev pub lowers_for : ℕ → Act → Bool
lowers_for t (Lower k (OfJob u)) = t == u
lowers_for t a = false

-- where a job is over that an install or a join has queued and waits for, and its share is not given back, the call's
-- latch is set, or some party's next act sets it, or stores how the job ended, which comes before that; or the next act
-- of the call's own party, which has run the job itself, gives the share back
abbrev pub IsJobDone : World → Type 0
IsJobDone w = (t c : ℕ) (o : Party) → (w.job t).kind ≡ Stored c o → is_done (w.job t).at ≡ true → (w.job t).counted ≡ true →
    (((w.call c).latch ≡ IsSet) ⊎ HasSetter w c) ⊎ (HasStorer w c ⊎ (lowers_for t (act_of o (w.stack o).top) ≡ true))
