use Rattle.std.proofs.Common.{◌≡◌, ℕ, List, Result, Ok, Err, zero, suc, ◌<◌, ◌^◌, length, get_or, ◌∙◌, sym, ap, arith, IfOk, All, rules}
use Rattle.std.specs.Fmt.{decimal}
use Rattle.std.specs.Int.{IsInRange}
use Rattle.std.specs.Str.Parse.{ParsesUnsigned, digits_value}
use Rattle.std.proofs.lemmas.Grind.{get_or_default_zero}
use Rattle.std.proofs.lemmas.Fmt.{decimal-digits_value, digits_decimal, parse-decimal, first_decimal, decimal_digit}
use Rattle.std.proofs.lemmas.Str.Parse.{IsNumeralModel, numerals_by_value, tells_by_index, parse_digits}

own : IsNumeralModel (λ ds. (i : ℕ) → i < length ds → IsInRange 48 57 (get_or ds i 0)) (digits_value 10)
own = numerals_by_value _ tells_by_index

digits : (bs : List ℕ) → All (IsInRange 48 57) bs → (i : ℕ) → i < length bs → IsInRange 48 57 (get_or bs i 0)
digits bs h i l = search rules

pub plain_is_decimal : {E : Type 0} (bs : List ℕ) (r : Result ℕ E) → All (IsInRange 48 57) bs → (get_or bs 0 0 ≡ 48 → length bs ≡ 1) → ParsesUnsigned 64 10 bs r → IfOk r (λ n. bs ≡ decimal n)
plain_is_decimal {E} bs (Ok n) d z h =
    let p = parse_digits own {E = E} 64 bs (Ok n) h (digits bs d) in
    let e = decimal-digits_value own bs (digits bs d) p.0.0 z p.0.1 in
    sym e ∙ ap decimal (sym p.1)
plain_is_decimal bs (Err e) d z h = tt

pub decimal_is_read : {E : Type 0} (n : ℕ) (bs : List ℕ) (r : Result ℕ E) → n < 2 ^ 64 → bs ≡ decimal n → ParsesUnsigned 64 10 bs r → r ≡ Ok n
decimal_is_read n bs r l e h = parse-decimal 64 n bs r l l e h

from_each : (bs : List ℕ) → ((i : ℕ) → i < length bs → IsInRange 48 57 (get_or bs i 0)) → All (IsInRange 48 57) bs
from_each bs h = λ k d l. rw (get_or_default_zero bs k d l) (h k l)

pub decimal_is_digits : (n : ℕ) (bs : List ℕ) → n < 2 ^ 64 → bs ≡ decimal n → All (IsInRange 48 57) bs
decimal_is_digits n bs l e = rw e (from_each (decimal n) (digits_decimal own n l))

pub decimal_is_plain : (n : ℕ) (bs : List ℕ) → n < 2 ^ 64 → bs ≡ decimal n → get_or bs 0 0 ≡ 48 → length bs ≡ 1
decimal_is_plain zero bs l e z = ap length (e ∙ decimal_digit 0 (omega arith))
decimal_is_plain (suc n) bs l e z = let f = first_decimal (suc n) (omega arith) l in let g = ap (λ xs. get_or xs 0 0) e in absurd (omega arith)
