-- what each act makes of the turn of the pool that it touches, and each step of each pool's
use Rattle.std.proofs.Common.{rules, arith, refl, sym, ◌∙◌, ap, ◌≢◌}
use Rattle.rayon_machine_sleep_laws.proofs.Words.{ℕ, Bool, true, false, ◌+◌, ◌%◌, ◌==◌, if◌then◌else◌, ◌≡◌, IfSome, eqb-true, eq-eqb, Party, Latch, Terminate, OfCall, Act, Sleepy, Asleep, Wakeup, Set, News, Seen, Event, Go, Letter, IsSet, act_of, own_pool, Shape, Pool, World, Counts, Part}
use Rattle.rayon_machine_sleep_laws.proofs.Words.{counts_at, is_even, target_pool, letter, with_letter, effect, put, step, is_told_of, TurnsSo}
use Rattle.rayon_machine_places.specs.declared.act.Act.TheVariants.{Announce}
use Rattle.rayon_machine_laws.proofs.Asides.{Aside, one_step}
use Rattle.rayon_machine_laws.proofs.Attended.{always_awake}
use Rattle.rayon_machine_laws.proofs.Calm.{part_at}
use Rattle.rayon_machine_laws.proofs.Frame.{if_some_map, put_same}
use Rattle.rayon_machine_laws.proofs.Letters.{sleepy_keeps, asleep_keeps, wake_keeps, set_keeps}
use Rattle.rayon_machine_laws.proofs.Ties.{outcome, result}
use Rattle.rayon_machine_laws.proofs.Tops.{FramesOk}
use Rattle.rayon_machine_sleep_laws.proofs.Rests.{acted, stepped}
use Rattle.rayon_machine_sleep_laws.specs.Parity.{announces_in, tells_of, is_announced_in, MadeEven, MadeOdd, RaiseLaw}

-- the turn after an act
abbrev pub turned : Act → ℕ → ℕ
turned Announce n = if is_even n then n else n + 1
turned (News p b) n = if is_even n then n + 1 else n
turned _ n = n

abbrev pub Turned : Act → Part → Seen × Part → Type 0
Turned a m r = r.1.pool.turn ≡ turned a m.pool.turn

-- an act on a latch leaves the pool
abbrev SamePool : Part → Seen × Part → Type 0
SamePool m r = r.1.pool.turn ≡ m.pool.turn

letter_same : (l : Latch) (m : Part) (e : Seen) (y : Letter) → SamePool m (e, with_letter l m y)
letter_same Terminate m e y = refl
letter_same (OfCall c) m e y = refl

pub act_turned : (a : Act) (h : Shape) (q : Party) (c : Counts) (m : Part) → IfSome (effect a h q c m) (Turned a m)
act_turned (Sleepy l) h q c m = sleepy_keeps l SamePool (λ v e. refl) (λ v e y n. letter_same l v e y) m (letter l m)
act_turned (Asleep l) h q c m = asleep_keeps l SamePool (λ v e. refl) (λ v e y n. letter_same l v e y) m (letter l m)
act_turned (Wakeup l) h q c m = wake_keeps l SamePool (λ v e. refl) (λ v e y n. letter_same l v e y) m (letter l m)
act_turned (Set l r j) h q c m = set_keeps l SamePool (λ v e. letter_same l v e IsSet) m (letter l m)
act_turned _ h q c m = search (rules, arith)

-- one raise more is of the other parity
even_next : (n : ℕ) → is_even n ≡ false → is_even (n + 1) ≡ true
even_next n e = let a : n % 2 ≢ 0 = λ z. (let y : is_even n ≡ true = eq-eqb (n % 2) 0 z in cc) in eq-eqb ((n + 1) % 2) 0 (omega arith)

odd_next : (n : ℕ) → is_even n ≡ true → is_even (n + 1) ≡ false
odd_next n e = at (is_even (n + 1)) refl
  where
    at : (b : Bool) → is_even (n + 1) ≡ b → is_even (n + 1) ≡ false
    at false z = z
    at true z = absurd (let a : n % 2 ≡ 0 = eqb-true (n % 2) 0 e in let d : (n + 1) % 2 ≡ 0 = eqb-true ((n + 1) % 2) 0 z in omega (arith, a, d))

made_even : (n k : ℕ) → k ≡ (if is_even n then n else n + 1) → MadeEven n k
made_even n k e = at (is_even n) refl e
  where
    at : (b : Bool) → is_even n ≡ b → k ≡ (if b then n else n + 1) → MadeEven n k
    at true z i = record { even = ap is_even i ∙ z; kept = λ y. i; raised = λ y. absurd (let f : true ≡ false = sym z ∙ y in cc) }
    at false z i = record { even = ap is_even i ∙ even_next n z; kept = λ y. absurd (let f : true ≡ false = sym y ∙ z in cc); raised = λ y. i }

made_odd : (n k : ℕ) → k ≡ (if is_even n then n + 1 else n) → MadeOdd n k
made_odd n k e = at (is_even n) refl e
  where
    at : (b : Bool) → is_even n ≡ b → k ≡ (if b then n + 1 else n) → MadeOdd n k
    at true z i = record { odd = ap is_even i ∙ odd_next n z; kept = λ y. absurd (let f : true ≡ false = sym z ∙ y in cc); raised = λ y. i }
    at false z i = record { odd = ap is_even i ∙ z; kept = λ y. i; raised = λ y. absurd (let f : true ≡ false = sym y ∙ z in cc) }

-- what is said of a turn before and after a party's act
record ActTurns (p : ℕ) (q : Party) (a : Act) (n k : ℕ) : Type 0 where
  announced : announces_in p q a ≡ true → MadeEven n k
  told : tells_of p a ≡ true → MadeOdd n k
  kept : announces_in p q a ≡ false → tells_of p a ≡ false → k ≡ n

-- the turn of a pool, where that of the pool that the act touches is so
put_turns : (p : ℕ) (q : Party) (a : Act) (f : ℕ → Pool) (v : Pool) → v.turn ≡ turned a (f (target_pool q a)).turn → ActTurns p q a (f p).turn (put f (target_pool q a) v p).turn
put_turns p q Announce f v e = at (p == own_pool q) refl
  where
    at : (b : Bool) → (p == own_pool q) ≡ b → ActTurns p q Announce (f p).turn ((if b then v else f p).turn)
    at true z = record { announced = λ y. made_even (f p).turn v.turn (e ∙ ap (λ n. turned Announce (f n).turn) (sym (eqb-true p (own_pool q) z))); told = λ y. absurd (cc); kept = λ y x. absurd (let g : true ≡ false = sym z ∙ y in cc) }
    at false z = record { announced = λ y. absurd (let g : true ≡ false = sym y ∙ z in cc); told = λ y. absurd (cc); kept = λ y x. refl }
put_turns p q (News r u) f v e = at (p == r) refl
  where
    at : (b : Bool) → (p == r) ≡ b → ActTurns p q (News r u) (f p).turn ((if b then v else f p).turn)
    at true z = record { announced = λ y. absurd (cc); told = λ y. made_odd (f p).turn v.turn (e ∙ ap (λ n. turned (News r u) (f n).turn) (sym (eqb-true p r z))); kept = λ y x. absurd (let g : true ≡ false = sym z ∙ x in cc) }
    at false z = record { announced = λ y. absurd (cc); told = λ y. absurd (let g : true ≡ false = sym y ∙ z in cc); kept = λ y x. refl }
put_turns p q a f v e = record { announced = λ y. absurd (cc); told = λ y. absurd (cc); kept = λ y x. put_same (λ s. s.turn) f (target_pool q a) v p e }

abbrev EachTurns : World → Event → World → Type 0
EachTurns w e v = (p : ℕ) → TurnsSo w v e p

go_turns : (w : World) (q : Party) → IfSome (outcome w q (w.stack q)) (λ r. EachTurns w (Go q) (result w q (w.stack q) r))
go_turns w q =
    let a : Act = act_of q (w.stack q).top in
    if_some_map (Turned a (part_at w q (w.stack q))) (λ r. EachTurns w (Go q) (result w q (w.stack q) r))
    (λ r t p. (let k : ActTurns p q a (w.pool p).turn (put w.pool (target_pool q a) (r.1.pool) p).turn = put_turns p q a w.pool (r.1.pool) t in record { announced = k.announced; told = k.told; kept = k.kept }))
    (outcome w q (w.stack q)) (act_turned a w.shape q (counts_at w (target_pool q a)) (part_at w q (w.stack q)))

aside_turns : (w u : World) (e : Event) → ((p : ℕ) → is_announced_in p w e ≡ false) → ((p : ℕ) → is_told_of p w e ≡ false) → Aside w u → EachTurns w e u
aside_turns w u e a t m p = record {
  announced = λ y. absurd (let g : true ≡ false = sym y ∙ a p in cc);
  told = λ y. absurd (let g : true ≡ false = sym y ∙ t p in cc);
  kept = λ y x. m.turn p;
}

step_turns : (w : World) (e : Event) → FramesOk w → IfSome (step w e) (EachTurns w e)
step_turns w (Go q) fr = acted w q (EachTurns w (Go q)) (go_turns w q)
step_turns w e fr = one_step (EachTurns w e) w fr e (λ q z. absurd (cc)) (λ u m. aside_turns w u e (λ p. refl) (λ p. refl) m)

pub raise_law : RaiseLaw
raise_law shape before w v e p r s = stepped w v e (EachTurns w e) s (step_turns w e ((always_awake shape before w r).frames)) p
