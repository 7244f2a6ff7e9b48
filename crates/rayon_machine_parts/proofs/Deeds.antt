-- what an act does here, told by the numbers at its spot
use Rattle.std.proofs.Common.{◌≡◌, ℕ, Bool, true, false, refl, sym, ◌∙◌, ap}
use Rattle.std.specs.Prelude.{Option, Some, None}
use Rattle.rayon_machine_places.specs.declared.place.Party.{Party}
use Rattle.rayon_machine_places.specs.declared.act.Act.{Act}
use Rattle.rayon_machine_places.specs.declared.act.Act.TheVariants.{Load, TryAdd, SubInactive, Begin, News}
use Rattle.rayon_machine_places.specs.declared.act.Seen.{Seen}
use Rattle.rayon_machine_places.specs.declared.shape.Order.{Order}
use Rattle.rayon_machine_numbers.specs.declared.numbers.Touched.{Touched}
use Rattle.rayon_machine_parts.specs.declared.parts.Parts.{Parts}
use Rattle.rayon_machine_parts.specs.declared.spot.Spot.{Spot}
use Rattle.rayon_machine_parts.specs.declared.deed.Deed.{Deed}
use Rattle.rayon_machine_places.specs.Places.{own_pool}
use Rattle.rayon_machine_runs.specs.World.{Shape, Pool, Seat, Outcome, Part, effect, target_job}
use Rattle.rayon_machine_places.specs.Sleepers.{Counts}
use Rattle.rayon_machine_places.specs.Targets.{target_call, target_pool, target_worker, aimed_job}
use Rattle.rayon_machine_numbers.specs.Numbers.{Acts, Can, DoesNot, FifoLists, act_list, full, is_census, end_task}
use Rattle.rayon_machine_parts.specs.State.{IsDeed, IsNoDeed, counts_in, part_at_spot, pool_at, seat_at, spot_of, touched_at}

-- an act that does not look at the counts does the same whatever they are
pub counts-free : (a : Act) (h : Shape) (q : Party) (c k : Counts) (m : Part) → is_census a ≡ false → effect a h q c m ≡ effect a h q k m
counts-free Load h q c k m e = cc
counts-free (TryAdd x y j) h q c k m e = cc
counts-free SubInactive h q c k m e = cc
counts-free (News p w) h q c k m e = cc
counts-free _ h q c k m e = refl

-- the job that an act touches
pub aimed : (h : Shape) (q : Party) (a : Act) (v : Pool) (s : Seat) → aimed_job a (end_task ((h.pool (own_pool q)).order) a q s.own s.fifo v.injector v.casts) ≡ target_job h q a v s
aimed h q (Begin n) v s = refl
aimed h q _ v s = refl

-- the counts matter only to the acts that look at them
same-counts : (a : Act) (h : Shape) (q : Party) (c k : Counts) (m : Part) → (is_census a ≡ true → c ≡ k) → effect a h q k m ≡ effect a h q c m
same-counts a h q c k m e = at (is_census a) refl
  where
    at : (b : Bool) → is_census a ≡ b → effect a h q k m ≡ effect a h q c m
    at true f = ap (λ n. effect a h q n m) (sym (e f))
    at false f = counts-free a h q k c m f

-- the FIFO lists of a part
abbrev lists : Part → FifoLists
lists m = record { jobs = m.seat.fifo; holder = m.seat.feeder }

-- the deed that was told by the numbers at its spot is the act's
pub is-deed : (h : Shape) (w : Parts) (q : Party) (a : Act) (found : Option ℕ) (c : Counts) (t : Touched) (d : Deed) → d.act ≡ a → d.spot ≡ spot_of h w q a → d.order ≡ (h.pool (own_pool q)).order → found ≡ end_task (d.order) a q (seat_at w.benches.items (target_pool q a) (target_worker q a)).own (seat_at w.benches.items (target_pool q a) (target_worker q a)).fifo (pool_at w.pools.items (target_pool q a)).injector (pool_at w.pools.items (target_pool q a)).casts → t ≡ touched_at w (d.spot) → (is_census a ≡ true → c ≡ counts_in h w (target_pool q a)) → Acts (d.order) a q c (h.jec_bits) found t (d.seen) (d.after) → IsDeed h w q a d
is-deed h w q a found c t d ea es eo ef et ec acts =
    let m = part_at_spot w (spot_of h w q a) in
    let numbers : touched_at w (spot_of h w q a) ≡ t = ap (touched_at w) (sym es) ∙ sym et in
    record {
      act = ea;
      spot = es;
      order = eo;
      effect = same-counts a h q c (counts_in h w (target_pool q a)) m ec ∙ ap (λ n. effect a h q c (full n m.seat.own (lists m) m.pool.injector m.pool.casts)) numbers ∙ acts h m.seat.own (lists m) m.pool.injector m.pool.casts refl (sym eo) (sym ef) (ap (λ n. n.holder) numbers);
    }

pub is-no-deed : (h : Shape) (w : Parts) (q : Party) (a : Act) (c : Counts) (t : Touched) → t ≡ touched_at w (spot_of h w q a) → (is_census a ≡ true → c ≡ counts_in h w (target_pool q a)) → DoesNot a q c t → IsNoDeed h w q a
is-no-deed h w q a c t et ec none =
    let m = part_at_spot w (spot_of h w q a) in
    same-counts a h q c (counts_in h w (target_pool q a)) m ec ∙ ap (λ n. effect a h q c (full n m.seat.own (lists m) m.pool.injector m.pool.casts)) (sym et) ∙ none h m.seat.own (lists m) m.pool.injector m.pool.casts (ap (λ n. n.holder) (sym et))

-- an act that the numbers at its spot let be done is enabled
pub can-deed : (h : Shape) (w : Parts) (q : Party) (a : Act) (c : Counts) (t : Touched) → t ≡ touched_at w (spot_of h w q a) → (is_census a ≡ true → c ≡ counts_in h w (target_pool q a)) → Can a q c t → ¬ (IsNoDeed h w q a)
can-deed h w q a c t et ec can none =
    let m = part_at_spot w (spot_of h w q a) in
    can h m.seat.own (lists m) m.pool.injector m.pool.casts (ap (λ n. n.holder) (sym et)) (ap (λ n. effect a h q c (full n m.seat.own (lists m) m.pool.injector m.pool.casts)) et ∙ sym (same-counts a h q c (counts_in h w (target_pool q a)) m ec) ∙ none)

some-outcome : (o : Outcome) (r : Seen × Part) → o ≡ Some r → ¬ (o ≡ None)
some-outcome None r e = λ _. cc
some-outcome (Some s) r e = λ none. cc

-- an act with a deed is enabled
pub deed-enabled : (h : Shape) (w : Parts) (q : Party) (a : Act) (d : Deed) → IsDeed h w q a d → ¬ (IsNoDeed h w q a)
deed-enabled h w q a d is = some-outcome _ _ is.effect

-- the spot of an act, part by part
pub is-spot : (h : Shape) (w : Parts) (q : Party) (a : Act) (found : Option ℕ) (o : Order) (s : Spot) → s.pool ≡ target_pool q a → s.worker ≡ target_worker q a → s.call ≡ target_call a → s.list ≡ act_list a → s.job ≡ aimed_job a found → o ≡ (h.pool (own_pool q)).order → found ≡ end_task o a q (seat_at w.benches.items (target_pool q a) (target_worker q a)).own (seat_at w.benches.items (target_pool q a) (target_worker q a)).fifo (pool_at w.pools.items (target_pool q a)).injector (pool_at w.pools.items (target_pool q a)).casts → s ≡ spot_of h w q a
is-spot h w q a found o s ep ei ec el ej eo ef =
    let v = pool_at w.pools.items (target_pool q a) in
    let seat = seat_at w.benches.items (target_pool q a) (target_worker q a) in
    let job : s.job ≡ target_job h q a v seat = ej ∙ ap (aimed_job a) (ef ∙ ap (λ n. end_task n a q seat.own seat.fifo v.injector v.casts) eo) ∙ aimed h q a v seat in
    λ j. record { pool = ep j; worker = ei j; call = ec j; list = el j; job = job j }
