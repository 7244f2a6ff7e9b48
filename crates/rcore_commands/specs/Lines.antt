use Rattle.std.specs.Prelude.{ℕ, ℤ, List, [], ◌∷◌, ◌++◌}
use Rattle.std.specs.Fmt.{signed_decimal}
use Rattle.std.specs.List.{flat_map}

-- the decimals of numbers, each after a space
abbrev pub after_spaces : List ℤ → List ℕ
after_spaces ns = flat_map (λ n. 32 ∷ signed_decimal n) ns

-- the decimals of numbers, with single spaces between
abbrev pub spaced : List ℤ → List ℕ
spaced [] = []
spaced (n ∷ ns) = signed_decimal n ++ after_spaces ns
