use Rattle.std.specs.Prelude.{◌≡◌, ℕ, ◌*◌, ◌≤◌, ◌^◌, List, map, Result, Ok, Err}
use Rattle.std.specs.List.{range_with_len}
use Rattle.rcore_commands.specs.declared.squares.SquareFault.{SquareFault}
use Rattle.rcore_commands.specs.declared.squares.SquareFault.TheVariants.{TooLarge}

-- the squares of the first numbers, so many, from 0 on
abbrev pub squares : ℕ → List ℕ
squares n = map (λ i. i * i) (range_with_len 0 n)

-- what is answered for this index: its square, or that this is too large, where it is above 2^32 - 1
abbrev pub AnswersSquare : ℕ → Result ℕ SquareFault → Type 0
AnswersSquare i (Ok v) = v ≡ i * i
AnswersSquare i (Err TooLarge) = 2 ^ 32 ≤ i * i
