-- the parties' stacks after a write to one of them
use Rattle.std.proofs.Common.{◌≡◌, ℕ, zero, suc, ◌<◌, Bool, true, false, ◌&&◌, List, [], ◌∷◌, length, refl, sym, ◌∙◌, ap, subst, arith}
use Rattle.std.specs.Prelude.{Option, Some, if◌then◌else◌, ◌==◌, slice_get, slice_set, IsSomeAnd}
use Rattle.std.specs.Option.{option_map_or}
use Rattle.std.specs.Vec.{with_item}
use Rattle.std.proofs.lemmas.Bool.{eqb-true, eq-eqb}
use Rattle.rayon_machine_places.specs.declared.place.Place.{Place}
use Rattle.rayon_machine_places.specs.declared.place.Ending.{Ending}
use Rattle.rayon_machine_places.specs.declared.place.Party.{Party}
use Rattle.rayon_machine_places.specs.declared.place.Party.TheVariants.{Worker, Caller}
use Rattle.rayon_machine_parts.specs.declared.parties.Crew.{Crew}
use Rattle.rayon_machine_parts.specs.declared.parties.Parties.{Parties}
use Rattle.rayon_machine_runs.specs.World.{Shape, Stack}
use Rattle.rayon_machine_places.specs.Places.{goes_on}
use Rattle.rayon_machine_runs.specs.Steps.{after_resume, back, put_stack}
use Rattle.rayon_machine_parts.specs.State.{caller_in, first_stack, stack_at, stack_in, worker_in, RoomAt}
use Rattle.rayon_machine_parts.proofs.AfterWrites.{get-set, read-set}

-- what is found at an index stands below the length
pub some-below : {X : Type 0} (xs : List X) (i : ℕ) (P : X → Type 0) → IsSomeAnd (slice_get xs i) P → i < length xs
some-below [] i P h = absurd h
some-below (x ∷ xs) zero P h = omega arith
some-below (x ∷ xs) (suc i) P h = omega (arith, some-below xs i P h)

-- what was written is found
pub found-set : {X : Type 0} (xs : List X) (i : ℕ) (v : X) → i < length xs → slice_get (slice_set xs i v) i ≡ Some v
found-set xs i v h = get-set xs i i v h ∙ at (i == i) (eq-eqb i i refl)
  where
    at : (b : Bool) → b ≡ true → (if b then Some v else slice_get xs i) ≡ Some v
    at true e = refl
    at false e = cc

-- all stacks are the same if the workers' are, and the callers'
pub parties-same : (h : Shape) (u w : Parties) → ((p i : ℕ) → worker_in h u.crews.items p i ≡ worker_in h w.crews.items p i) → ((c : ℕ) → caller_in h u.callers.items c ≡ caller_in h w.callers.items c) → (q : Party) → stack_in h u q ≡ stack_in h w q
parties-same h u w e f (Worker p i) = e p i
parties-same h u w e f (Caller c) = f c

-- the stacks of a pool, with one crew written
pub crew-there : (h : Shape) (crews : List Crew) (p : ℕ) (crew : Crew) → slice_get crews p ≡ Some crew → (i : ℕ) → worker_in h crews p i ≡ stack_at h p crew.stacks.items i
crew-there h crews p crew is i = ap (λ o. option_map_or (λ (z : Crew). stack_at h p z.stacks.items i) o (first_stack h (Worker p i))) is

pub crew-same : (h : Shape) (crews : List Crew) (p : ℕ) (crew new : Crew) → p < length crews → slice_get crews p ≡ Some crew → ((j : ℕ) → stack_at h p new.stacks.items j ≡ stack_at h p crew.stacks.items j) → (r j : ℕ) → worker_in h (slice_set crews p new) r j ≡ worker_in h crews r j
crew-same h crews p crew new hp is same r j = read-set (λ (z : Crew). stack_at h r z.stacks.items j) (first_stack h (Worker r j)) crews p r new hp ∙ at (r == p) refl
  where
    at : (b : Bool) → (r == p) ≡ b → (if b then stack_at h r new.stacks.items j else worker_in h crews r j) ≡ worker_in h crews r j
    at true e = ap (λ n. stack_at h n new.stacks.items j) (eqb-true r p e) ∙ same j ∙ sym (crew-there h crews p crew is j) ∙ ap (λ n. worker_in h crews n j) (sym (eqb-true r p e))
    at false e = refl

pub worker-turned : (h : Shape) (w : Parties) (p i : ℕ) (crew new : Crew) (F : List Place → Stack) → p < length w.crews.items → slice_get w.crews.items p ≡ Some crew → ((j : ℕ) → stack_at h p new.stacks.items j ≡ (if j == i then F (stack_at h p crew.stacks.items i).below else stack_at h p crew.stacks.items j)) → (q : Party) → stack_in h (record { crews = with_item w.crews p new; callers = w.callers }) q ≡ put_stack (stack_in h w) (Worker p i) (F (stack_in h w (Worker p i)).below) q
worker-turned h w p i crew new F hp is step (Caller c) = refl
worker-turned h w p i crew new F hp is step (Worker r j) = read-set (λ (z : Crew). stack_at h r z.stacks.items j) (first_stack h (Worker r j)) w.crews.items p r new hp ∙ at (r == p) refl
  where
    at : (b : Bool) → (r == p) ≡ b → (if b then stack_at h r new.stacks.items j else worker_in h w.crews.items r j) ≡ (if b && (j == i) then F (worker_in h w.crews.items p i).below else worker_in h w.crews.items r j)
    at true e = ap (λ n. stack_at h n new.stacks.items j) (eqb-true r p e) ∙ step j ∙ ap (λ s. if j == i then F s.below else stack_at h p crew.stacks.items j) (sym (crew-there h w.crews.items p crew is i)) ∙ ap (λ s. if j == i then F (worker_in h w.crews.items p i).below else s) (sym (crew-there h w.crews.items p crew is j) ∙ ap (λ n. worker_in h w.crews.items n j) (sym (eqb-true r p e)))
    at false e = refl

-- room on a worker's stack that was written
pub crew-room : (crews : List Crew) (p i : ℕ) (new : Crew) → p < length crews → RoomAt new.stacks.items i → IsSomeAnd (slice_get (slice_set crews p new) p) (λ crew. RoomAt crew.stacks.items i)
crew-room crews p i new hp room = let F : Option Crew → Type 0 = λ o. IsSomeAnd o (λ crew. RoomAt crew.stacks.items i) in subst F (sym (found-set crews p new hp)) room

pub caller-turned : (h : Shape) (w u : Parties) (i : ℕ) (F : List Place → Stack) → u.crews ≡ w.crews → ((j : ℕ) → caller_in h u.callers.items j ≡ (if j == i then F (caller_in h w.callers.items i).below else caller_in h w.callers.items j)) → (q : Party) → stack_in h u q ≡ put_stack (stack_in h w) (Caller i) (F (stack_in h w (Caller i)).below) q
caller-turned h w u i F same step (Caller c) = step c
caller-turned h w u i F same step (Worker p j) = ap (λ crews. worker_in h crews.items p j) same

pub resumed-back : (fs : List Place) (e : Ending) → record (back fs) { top = goes_on (back fs).top e } ≡ after_resume fs e
resumed-back [] e = refl
resumed-back (f ∷ fs) e = refl
