-- what a wait says of its last announcement, and of its own deque
use Rattle.rayon_machine_places.specs.declared.place.Plan.TheVariants.{Gather}
use Rattle.rayon_machine_places.specs.declared.place.Plan.{Plan}
use Rattle.rayon_machine_runs.specs.World.{Shape}
use Rattle.rayon_machine_places.specs.declared.place.Pieces.{Pieces}
use Rattle.std.proofs.Common.{refl}
use Rattle.std.specs.Prelude.{ℕ, Bool, true, false, ◌≡◌, Option, Some, None, ⊤}
use Rattle.rayon_machine_places.specs.declared.place.Rounds.{Rounds}
use Rattle.rayon_machine_places.specs.declared.place.Rounds.TheVariants.{Failed, Announced}
use Rattle.rayon_machine_places.specs.declared.place.Place.{Place}
use Rattle.rayon_machine_places.specs.declared.place.Place.TheVariants.{ProbeWorking, TakeCastWorking, BecomeInactive, ProbeIdle, PopIdle, TakeCastIdle, PickVictim, StealFrom, PopInjected, AnnounceSelf, GetSleepy, LockOwn, FallAsleep, LoadCounters, AddSleeping, LookAtCast}
use Rattle.rayon_machine_places.specs.declared.place.Place.TheVariants.{LookAtInjector, BlockSelf, RelockOwn, UndoSleeping, WakeUp, UnlockOwn, RaiseForAll, PushForAll, OpenForAll, GrowCast, DealPieces, RaiseCount}
use Rattle.rayon_machine_laws.proofs.Seats.{is_frame}

-- the worker has announced itself since it last was busy
abbrev pub is_announced : Rounds → Bool
is_announced Announced = true
is_announced (Failed n) = false

-- a place of a wait that has announced itself: what it keeps is the event counter of that announcement
abbrev pub announced : Place → Bool
announced (ProbeIdle k) = is_announced k.rounds
announced (PopIdle k) = is_announced k.rounds
announced (TakeCastIdle k) = is_announced k.rounds
announced (PickVictim k) = is_announced k.rounds
announced (StealFrom k n) = is_announced k.rounds
announced (PopInjected k) = is_announced k.rounds
announced (GetSleepy k) = true
announced (LockOwn k) = true
announced (FallAsleep k) = true
announced (LoadCounters k) = true
announced (AddSleeping k) = true
announced (WakeUp k) = is_announced k.rounds
announced (UnlockOwn k) = is_announced k.rounds
announced _ = false

abbrev pub kept_at : Place → ℕ
kept_at (ProbeIdle k) = k.kept
kept_at (PopIdle k) = k.kept
kept_at (TakeCastIdle k) = k.kept
kept_at (PickVictim k) = k.kept
kept_at (StealFrom k n) = k.kept
kept_at (PopInjected k) = k.kept
kept_at (GetSleepy k) = k.kept
kept_at (LockOwn k) = k.kept
kept_at (FallAsleep k) = k.kept
kept_at (LoadCounters k) = k.kept
kept_at (AddSleeping k) = k.kept
kept_at (WakeUp k) = k.kept
kept_at (UnlockOwn k) = k.kept
kept_at _ = 0

-- a place that keeps this event counter, if it has announced itself
abbrev pub KeepsOn : ℕ → Place → Type 0
KeepsOn n x = announced x ≡ true → kept_at x ≡ n

-- a place from whose wait's last look on the worker's own deque stays empty
abbrev pub is_emptied : Place → Bool
is_emptied (TakeCastWorking k) = true
is_emptied (BecomeInactive k) = true
is_emptied (ProbeIdle k) = true
is_emptied (PopIdle k) = true
is_emptied (TakeCastIdle k) = true
is_emptied (PickVictim k) = true
is_emptied (StealFrom k n) = true
is_emptied (PopInjected k) = true
is_emptied (AnnounceSelf k) = true
is_emptied (GetSleepy k) = true
is_emptied (LockOwn k) = true
is_emptied (FallAsleep k) = true
is_emptied (LoadCounters k) = true
is_emptied (AddSleeping k) = true
is_emptied (LookAtCast k) = true
is_emptied (LookAtInjector k) = true
is_emptied (BlockSelf k) = true
is_emptied (RelockOwn k) = true
is_emptied (UndoSleeping k) = true
is_emptied (WakeUp k) = true
is_emptied (UnlockOwn k) = true
is_emptied _ = false

pub frame_unannounced : (f : Place) → is_frame f ≡ true → announced f ≡ false
frame_unannounced (ProbeWorking k) e = refl
frame_unannounced _ e = cc

pub frame_not_emptied : (f : Place) → is_frame f ≡ true → is_emptied f ≡ false
frame_not_emptied (ProbeWorking k) e = refl
frame_not_emptied _ e = cc

-- the pieces of a broadcast that a party is about to take shares for, or to deal, and the pool whose workers it calls
abbrev pub plan_sizes : Plan → Option (Pieces × ℕ)
plan_sizes (Gather g) = Some (g.pieces, g.call.pool)
plan_sizes _ = None

abbrev pub sizes : Place → Option (Pieces × ℕ)
sizes (RaiseForAll c) = Some (c, c.pool)
sizes (OpenForAll c) = Some (c, c.pool)
sizes (PushForAll c) = Some (c, c.pool)
sizes (RaiseCount n) = plan_sizes n
sizes (GrowCast g) = Some (g.pieces, g.call.pool)
sizes (DealPieces g) = Some (g.pieces, g.call.pool)
sizes _ = None

-- they are as many as their pool has workers, and those are called
abbrev pub SizedAs : Shape → Option (Pieces × ℕ) → Type 0
SizedAs h None = ⊤
SizedAs h (Some (c, p)) = (c.workers ≡ (h.pool c.pool).workers) × (p ≡ c.pool)

pub frame_unsized : (f : Place) → is_frame f ≡ true → sizes f ≡ None
frame_unsized (ProbeWorking k) e = refl
frame_unsized _ e = cc
