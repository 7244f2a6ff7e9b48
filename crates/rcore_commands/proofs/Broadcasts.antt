-- The outputs of a broadcast, and how many workers its pool has.
use Rattle.std.proofs.Common.{◌≡◌, ◌∙◌, ℕ, ◌*◌, List, length, get_or, Some, None, sym, arith, slice_get}
use Rattle.std.proofs.lemmas.Grind.{common_steps}
use Rattle.std.proofs.lemmas.List.{ext_get_or}
use Rattle.std.proofs.lemmas.List.FromFn.{get_or-map-range_with_len, length-map-range_with_len}
use Rattle.std.proofs.lemmas.Option.{slice_get-get_or}
use Rattle.rcore_commands.specs.Squares.{squares}
use Rattle.rayon_core.specs.Environment.{workers_for}
use Rattle.rcore_commands.specs.Words.{AreWorkers}

-- so many numbers, each the square of its index, are the squares
pub squares_by_index : (v : List ℕ) (n : ℕ) → length v ≡ n → ((i o : ℕ) → slice_get v i ≡ Some o → o ≡ i * i) → v ≡ squares n
squares_by_index v n e h =
    ext_get_or 0 v (squares n) (e ∙ sym (length-map-range_with_len (λ i. i * i) 0 n)) (λ i l.
    h i (get_or v i 0) (slice_get-get_or v i 0 l) ∙ sym (get_or-map-range_with_len (λ i. i * i) 0 n i i 0 (omega arith) (omega arith)))

-- a pool has as many workers as were asked for, where so many may be
pub as_asked : (n : ℕ) → AreWorkers n → workers_for n None None 0 ≡ n
as_asked n h = grind (arith, common_steps)
