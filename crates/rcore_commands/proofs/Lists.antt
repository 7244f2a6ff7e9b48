-- Lists of words that were read one by one.
use Rattle.std.proofs.Common.{rules, drop, subst, sym, IfErr, IfOk, Ok, Result, ℕ, List, [], ◌∷◌, ◌≡◌, map, length, refl, String, Global, string_bytes}
use Rattle.rcore_commands.specs.Words.{AsksFor}
use Rattle.rcore_commands.specs.declared.command.Command.{Command}
use Rattle.std.specs.declared.vec.IntoIter.{IntoIter}
use Rattle.std.specs.Vec.Iter.{into_iter_items, into_iter_len}

-- a list of no length is empty
empty : {A : Type 0} (xs : List A) → length xs ≡ 0 → xs ≡ []
empty [] e = refl
empty (x ∷ xs) e = search rules

-- nothing is left where so many are none
pub none_left : (it : IntoIter (String Global) Global) → into_iter_len it ≡ 0 → into_iter_items it ≡ []
none_left it e = empty _ (search rules)

-- five that were read until nothing was left, the first of which is this word
pub five_words : {A : Type 0} (f : A → List ℕ) (is js ks ls ms ns : List A) (a b c d e : A) (name : List ℕ) → is ≡ a ∷ js → js ≡ b ∷ ks → ks ≡ c ∷ ls → ls ≡ d ∷ ms → ms ≡ e ∷ ns → ns ≡ [] → f a ≡ name → map f is ≡ name ∷ f b ∷ f c ∷ f d ∷ f e ∷ []
five_words f is js ks ls ms ns a b c d e name p q r s t u v = cc

-- what the words after the name of the program ask for, the words of the arguments ask for that were read
pub of_arguments : {E : Type 0} (Q : Command → Type 0) (r : Result (IntoIter (String Global) Global) E) (a words : IntoIter (String Global) Global) → r ≡ Ok a → into_iter_items words ≡ drop 1 (into_iter_items a) → ((x : Command) × AsksFor (map string_bytes (into_iter_items words)) x × Q x) → IfErr r (λ e. ⊥) × IfOk r (λ b. (x : Command) × AsksFor (map string_bytes (drop 1 (into_iter_items b))) x × Q x)
of_arguments Q r a words is rest p =
    let asked = subst (λ ws. (x : Command) × AsksFor (map string_bytes ws) x × Q x) rest p in
    subst (λ s. IfErr s (λ e. ⊥) × IfOk s (λ b. (x : Command) × AsksFor (map string_bytes (drop 1 (into_iter_items b))) x × Q x)) (sym is) (tt, asked)
