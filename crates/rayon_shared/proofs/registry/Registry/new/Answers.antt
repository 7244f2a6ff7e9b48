use Rattle.std.proofs.Common.{◌≡◌, ◌∙◌, ℕ, ◌+◌, ◌++◌, [], ◌∷◌, List, length, map, All, Bool, false, Option, Some, option_to_list, Result, Ok, Err, arith, if◌then◌else◌, sym, subst, ap, true≢false}
use Rattle.std.specs.Result.{is_ok, is_err}
use Rattle.std.proofs.lemmas.List.{map-append, length-append}
use Rattle.std.proofs.lemmas.List.Elements.{All-append, All-nil, All-cons, All-pop}
use Rattle.rayon_atomics.specs.Counted.{fresh}
use Rattle.rayon_queues.specs.Deques.{Deque, DequeId, IsNew}
use Rattle.rayon_shared.proofs.registry.Registry.new.Goals as goal

-- what a push left that was not refused
pushed : {U E X : Type 0} (r : Result U E) (xs ys zs : List X) → is_err r ≡ false → zs ≡ (if is_ok r then ys else xs) → zs ≡ ys
pushed (Ok u) xs ys zs n e = e
pushed (Err u) xs ys zs n e = absurd (true≢false n)

more : {X : Type 0} (ids news : List X) (x : X) (k : ℕ) → news ≡ ids ++ x ∷ [] → length ids ≡ k → length news ≡ k + 1
more ids news x k e n = ap length e ∙ length-append ids (x ∷ []) ∙ ap (λ (j : ℕ). j + 1) n

fewer : {X : Type 0} (xs ys : List X) (r : Option X) (x : X) (k n : ℕ) → r ≡ Some x → xs ≡ ys ++ option_to_list r → length xs + k ≡ n → length ys + (k + 1) ≡ n
fewer xs ys r x k n e f g =
    let one : length xs ≡ length ys + 1 = ap length (f ∙ ap (λ q. ys ++ option_to_list q) e) ∙ length-append ys (x ∷ []) in
    omega arith

module _ {T : Type 0} where
  -- one deque more, and the stealer of it
  tied : (xs zs : List (Deque T)) (x : Deque T) (ids news : List DequeId) → zs ≡ xs ++ x ∷ [] → news ≡ ids ++ x.id ∷ [] → map (λ (d : Deque T). d.id) xs ≡ ids → map (λ (d : Deque T). d.id) zs ≡ news
  tied xs zs x ids news e n m = ap (λ (l : List (Deque T)). map (λ (d : Deque T). d.id) l) e ∙ map-append (λ (d : Deque T). d.id) xs (x ∷ []) ∙ ap (λ (l : List DequeId). l ++ x.id ∷ []) m ∙ sym n

  all_new : (o : Bool) (xs zs : List (Deque T)) (x : Deque T) → zs ≡ xs ++ x ∷ [] → All (IsNew o 32) xs → IsNew o 32 x → All (IsNew o 32) zs
  all_new o xs zs x e a b = subst (λ (l : List (Deque T)). All (IsNew o 32) l) (sym e) (All-append (IsNew o 32) xs (x ∷ []) a (All-cons (IsNew o 32) x [] b (All-nil (IsNew o 32))))

pub loop-preserved : goal.loop-preserved
loop-preserved g c =
    let xs = c.loop.deques.items in
    let zs = c.push.new.self.items in
    let x = c.in-Ok.kit in
    let ids = c.loop.stealers in
    let news = c.new_kit.new.stealers in
    let e = pushed c.push.result xs (xs ++ x ∷ []) zs (sym c.is_err.ensures.value ∙ c.if-is_err.false) c.push.ensures.items in
    let n = c.in-Ok.ensures.stealer in
    let ls = c.loop.terminate.items in
    let ms = c.push-in-loop.new.self.items in
    let f = pushed c.push-in-loop.result ls _ ms (sym c.is_err-in-loop.ensures.value ∙ c.if-is_err-2.false) c.push-in-loop.ensures.items in
    (more ids news x.id c.loop.counter n c.loop.invariant.0, tied xs zs x ids news e n c.loop.invariant.1, all_new c.args.breadth_first xs zs x e c.loop.invariant.2 c.in-Ok.ensures.empty, more xs zs x c.loop.counter e c.loop.invariant.3, fewer c.loop.chairs.items c.pop.new.self.items c.pop.result c.in-Some.chair c.loop.counter c.args.num_threads c.in-Some.is c.pop.ensures.items c.loop.invariant.4, (All-pop (λ w. w ≡ fresh c.args.num_threads 1) c.loop.chairs.items c.pop.new.self.items c.pop.result c.pop.ensures.items c.loop.invariant.5).0, more ls ms _ c.loop.counter f c.loop.invariant.6)
