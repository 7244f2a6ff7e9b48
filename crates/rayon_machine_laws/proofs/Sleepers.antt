-- sleepers are inactive, the committed sleep and hold their locks, and the sets are as the places say
--
-- A committed worker counts as sleeping (`committed_sleeps`), and holds its lock or is blocked (`committed_holds`).
-- Both follow from `SeatOk` of Seats.
use Rattle.std.proofs.Common.{refl, sym, ◌∙◌, ap, inl, inr}
use Rattle.std.specs.Prelude.{ℕ, Bool, true, false, ◌||◌, Some, ◌≡◌, ◌⊎◌}
use Rattle.rayon_machine_places.specs.declared.place.Party.TheVariants.{Worker}
use Rattle.rayon_machine_places.specs.declared.place.Place.{Place}
use Rattle.rayon_machine_places.specs.declared.place.Place.TheVariants.{ProbeWorking, BlockSelf}
use Rattle.rayon_machine_laws.proofs.Frame.{or_parts}
use Rattle.rayon_machine_laws.proofs.Seats.{Dozes, Lies, Mode, SeatOk, asleep_in, inactive_in, lies_in, mode, owns_in}
use Rattle.rayon_machine_laws.proofs.Ties.{SeatsOk}
use Rattle.rayon_machine_laws.specs.Committed.{is_blocking, is_committed}
use Rattle.rayon_machine_laws.specs.Seats.{IsSeated, inactive_at, asleep_at, relocks_at}
use Rattle.rayon_machine_runs.specs.World.{Seat, World}

sleeps_inactive : (x : Mode) → asleep_in x ≡ true → inactive_in x ≡ true
sleeps_inactive Dozes e = refl
sleeps_inactive _ e = cc

lies_inactive : (x : Mode) → lies_in x ≡ true → inactive_in x ≡ true
lies_inactive Lies e = refl
lies_inactive _ e = cc

pub sleeper : (p i : ℕ) (x : Mode) (s : Seat) → SeatOk p i x s → s.asleep ≡ true → s.inactive ≡ true
sleeper p i x s ok e = ok.inactive ∙ elim (or_parts (asleep_in x) (s.blocked) (sym (ok.asleep) ∙ e)) [ inl a ↦ sleeps_inactive x a | inr b ↦ lies_inactive x (ok.blocked b) ]

pub blocking_dozes : (x : Place) → is_blocking x ≡ true → mode x ≡ Dozes
blocking_dozes (BlockSelf k) e = refl
blocking_dozes _ e = cc

pub committed_sleeps : (w : World) (p i : ℕ) → SeatsOk w → is_committed w p i ≡ true → (w.seat p i).asleep ≡ true
committed_sleeps w p i ok e =
    let x : Place = (w.stack (Worker p i)).top in
    let o : SeatOk p i (mode x) (w.seat p i) = (ok p i).top in
    o.asleep ∙ elim (or_parts (is_blocking x) ((w.seat p i).blocked) e) [ inl a ↦ (let d : asleep_in (mode x) ≡ true = ap asleep_in (blocking_dozes x a) in rw d refl) | inr b ↦ (rw b (or_true (asleep_in (mode x)))) ]
  where
    or_true : (b : Bool) → (b || true) ≡ true
    or_true true = refl
    or_true false = refl

pub committed_holds : (w : World) (p i : ℕ) → SeatsOk w → is_committed w p i ≡ true → ((w.seat p i).lock ≡ Some (Worker p i)) ⊎ ((w.seat p i).blocked ≡ true)
committed_holds w p i ok e =
    let x : Place = (w.stack (Worker p i)).top in
    elim (or_parts (is_blocking x) ((w.seat p i).blocked) e) [ inl a ↦ inl (((ok p i).top).lock (ap owns_in (blocking_dozes x a))) | inr b ↦ inr b ]

mode_inactive : (x : Place) → inactive_in (mode x) ≡ inactive_at x
mode_inactive (ProbeWorking k) = refl
mode_inactive _ = refl

mode_asleep : (x : Place) → asleep_in (mode x) ≡ asleep_at x
mode_asleep (ProbeWorking k) = refl
mode_asleep _ = refl

mode_relocks : (x : Place) → lies_in (mode x) ≡ relocks_at x
mode_relocks (ProbeWorking k) = refl
mode_relocks _ = refl

-- the sets are as the places say
pub seated : (w : World) → SeatsOk w → IsSeated w
seated w ok = record {
  inactive = λ p i. (fits p i).inactive ∙ mode_inactive (x p i);
  asleep = λ p i. (fits p i).asleep ∙ ap (λ b. b || (w.seat p i).blocked) (mode_asleep (x p i));
  blocked = λ p i e. sym (mode_relocks (x p i)) ∙ (fits p i).blocked e;
}
  where
    x : ℕ → ℕ → Place
    x p i = (w.stack (Worker p i)).top

    fits : (p i : ℕ) → SeatOk p i (mode (x p i)) (w.seat p i)
    fits p i = (ok p i).top
