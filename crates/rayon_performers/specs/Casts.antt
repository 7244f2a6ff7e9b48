-- What a broadcast does that waits for nothing: a detached one, or one into a scope.
use Rattle.std.specs.Prelude.{◌≡◌, ◌⊎◌, ℕ}
use Rattle.rayon_machine_places.specs.declared.place.Mark.TheVariants.{Counted, Numbered, Unnumbered}
use Rattle.rayon_machine_places.specs.declared.place.Move.{Move}
use Rattle.rayon_machine_places.specs.declared.place.Move.TheVariants.{Back, HandAllBack, Mark, Stay}
use Rattle.rayon_machine_places.specs.declared.place.Party.{Party}
use Rattle.rayon_machine_places.specs.declared.place.Pieces.{Pieces}
use Rattle.rayon_machine_places.specs.declared.place.Place.TheVariants.{LowerForAll, OpenForAll, PushForAll, RaiseForAll}
use Rattle.rayon_machine_places.specs.declared.shape.PoolShape.{PoolShape}
use Rattle.rayon_drive.specs.declared.trace.Log.{Log}
use Rattle.rayon_drive.specs.Paths.{Traced}
use Rattle.rayon_performers.specs.Hands.{Hands}
use Rattle.rayon_performers.specs.Paths.{WorkerGoes, WorkerGoesIn}

-- the acts of a detached broadcast of these pieces, from its Raise to its end
abbrev pub Cast : PoolShape → Party → Pieces → Log → Log → Type 0
Cast h q c v w = Traced h q (Stay (RaiseForAll c)) v w Back

-- the acts of a broadcast of these pieces into a scope, from its Raise to where they have numbers of the scope's book, of which
-- this is the first, and from there to its end
abbrev pub CastInto : PoolShape → Party → Pieces → ℕ → Log → Log → Type 0
CastInto h q c n v w = (x : Log) × Traced h q (Stay (RaiseForAll c)) v x (Mark (PushForAll c) c (Numbered n)) × Traced h q (Mark (PushForAll c) c (Numbered n)) x w Back

module _ {X G O F : Type 0} where
  -- a worker broadcast these pieces, from the Raise for all of them to the end of its calls to all workers
  abbrev pub Casts : Pieces → Hands X G O F → Hands X G O F → Type 0
  Casts c s t = WorkerGoes (Stay (RaiseForAll c)) s t Back

  -- from this move on the pieces are handed back: they had no unit, or their units are given back. Where those were the
  -- pool's last the workers' terminate latches are set, and that is where the table has such a call end
  abbrev pub HandsBack : Move → Pieces → Hands X G O F → Hands X G O F → Type 0
  HandsBack m c s t = WorkerGoes m s t (HandAllBack c) ⊎ WorkerGoes m s t Back

  -- a broadcast was refused: before its Raise, when nothing was done, or from there to where its pieces are handed back
  abbrev pub CastsNone : Pieces → Hands X G O F → Hands X G O F → Type 0
  CastsNone c s t = (t ≡ s) ⊎ HandsBack (Stay (RaiseForAll c)) c s t

  -- a worker went from the first move to where these pieces have numbers of a scope's book, of which this is the first, and
  -- from there to the last
  abbrev pub GoesNumbered : Pieces → ℕ → Move → Hands X G O F → Hands X G O F → Move → Type 0
  GoesNumbered c n m s t l = (u : Hands X G O F) × WorkerGoes m s u (Mark (PushForAll c) c (Numbered n)) × WorkerGoesIn s.shape s.index (Mark (PushForAll c) c (Numbered n)) u t l

  -- it broadcast them into a scope, from the Raise for all of them to the end of its calls to all workers
  abbrev pub CastsInto : Pieces → ℕ → Hands X G O F → Hands X G O F → Type 0
  CastsInto c n s t = GoesNumbered c n (Stay (RaiseForAll c)) s t Back

  -- pieces that have shares of a scope's count got no numbers of its book, or were not queued, and the numbers are taken back
  abbrev pub StayUnnumbered : Pieces → Hands X G O F → Hands X G O F → Type 0
  StayUnnumbered c s t = WorkerGoes (Mark (OpenForAll c) c Counted) s t (Stay (LowerForAll c)) ⊎ WorkerGoes (Mark (OpenForAll c) c Counted) s t (Mark (LowerForAll c) c Unnumbered)
