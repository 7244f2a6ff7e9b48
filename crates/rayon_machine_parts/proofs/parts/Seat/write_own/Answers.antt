use Rattle.std.proofs.Common.{refl, ◌≡◌, ℕ}
use Rattle.std.specs.Prelude.{Option}
use Rattle.rayon_machine_places.specs.declared.act.Act.{Act}
use Rattle.rayon_machine_places.specs.declared.act.Act.TheVariants.{PopOwn, PushOwn, Steal}
use Rattle.rayon_machine_places.specs.declared.shape.Order.{Order}
use Rattle.rayon_machine_runs.specs.World.{Seat}
use Rattle.rayon_machine_numbers.specs.Numbers.{seat_pushed, with_flags}
use Rattle.rayon_machine_parts.specs.State.{seat_of}
use Rattle.rayon_machine_parts.proofs.parts.Seat.write_own.Goals as goal

-- an act on no deque leaves the deque
unpushed : (a : Act) (o : Order) (s : Seat) → (a ≡ PopOwn → ⊥) → ((p i : ℕ) → a ≡ Steal p i → ⊥) → ((t : ℕ) (b : Option ℕ) → a ≡ PushOwn t b → ⊥) → s ≡ seat_pushed a o s
unpushed PopOwn o s x y z = absurd (x refl)
unpushed (Steal p i) o s x y z = absurd (y p i refl)
unpushed (PushOwn t b) o s x y z = absurd (z t b refl)
unpushed _ o s x y z = refl

pub returns-in_default : goal.returns-in_default
returns-in_default c = record {
  seat = unpushed c.args.act c.args.order (with_flags (seat_of c.args.self.now) c.args.flags) c.in_default.not-PopOwn c.in_default.not-Steal c.in_default.not-PushOwn;
  detached = refl;
  scoped = refl;
}
