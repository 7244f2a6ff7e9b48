-- The lists of the pieces of broadcasts, one for each worker, as contracts see them.
use Rattle.std.specs.Prelude.{◌≡◌, ◌≢◌, ◌<◌, ℕ, List, [], ◌∷◌, ◌++◌, length, map, slice_get, slice_index_or, Some}
use Rattle.std.specs.declared.alloc.Global.{Global}
use Rattle.std.specs.declared.vec.Vec.{Vec}
use Rattle.std.specs.declared.collections.VecDeque.{VecDeque}
use Rattle.std.specs.VecDeque.{deque_len, deque_capacity}
use Rattle.rayon_broadcasts.specs.declared.broadcast_lists.Unpushed.{Unpushed}
use Rattle.rayon_broadcasts.specs.declared.broadcast_lists.Unpushed.TheVariants.{Filled, NoRoom, WrongNumber}

module _ {T : Type 0} where
  -- the list of this worker; empty where there is no such worker
  abbrev pub list_of : List (List T) → ℕ → List T
  list_of lists worker = slice_index_or lists worker []

  -- what each of these queues holds
  abbrev pub items_of : List (VecDeque T Global) → List (List T)
  items_of queues = map (λ q. q.items) queues

  -- there is a piece for each worker, its list has that piece last now, and is as before up to there
  abbrev pub PushedEach : List (List T) → List T → List (List T) → Type 0
  PushedEach before pieces after =
      (length pieces ≡ length before)
      × (length after ≡ length before)
      × ((worker : ℕ) (piece : T) → slice_get pieces worker ≡ Some piece → list_of after worker ≡ list_of before worker ++ piece ∷ [])

  -- the pieces came back: for want of memory, since they were not as many as the workers, or since their place had a job
  abbrev pub BackBy : List (List T) → Vec T Global → Unpushed T → Type 0
  BackBy lists pieces (NoRoom back) = (back ≡ pieces) × (length pieces.items ≡ length lists)
  BackBy lists pieces (WrongNumber back) = (back ≡ pieces) × (length pieces.items ≢ length lists)
  BackBy lists pieces (Filled back) = (back ≡ pieces) × (length pieces.items ≡ length lists)

  -- the same of who doesn't know the lists
  abbrev pub IsBack : Vec T Global → Unpushed T → Type 0
  IsBack pieces (NoRoom back) = back ≡ pieces
  IsBack pieces (WrongNumber back) = back ≡ pieces
  IsBack pieces (Filled back) = back ≡ pieces

  -- a list has room for one piece more
  abbrev pub HasRoom : VecDeque T Global → Type 0
  HasRoom q = deque_len q < deque_capacity q
