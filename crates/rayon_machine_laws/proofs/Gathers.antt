-- each step keeps what holds of the faults of broadcasts; and so what a broadcast takes
--
-- Who gives a piece's share back has stored its ending. So at a count of 0 each piece's ending is stored. Then what is
-- kept is the lowest (`cast_takes`), and the Take sees a fault exactly where one is kept (`cast_told`).
use Rattle.std.proofs.Common.{arith, refl, sym, ◌∙◌, ap, subst, inl, inr}
use Rattle.std.specs.Prelude.{ℕ, Bool, true, false, ◌&&◌, ◌+◌, ◌-◌, ◌==◌, ◌≤◌, ◌<◌, nat_lt, if◌then◌else◌, Option, Some, None, List, [], ◌∷◌, ◌++◌, ◌≡◌, IfSome}
use Rattle.std.proofs.lemmas.Bool.{eqb-true, eq-eqb, ltb-true, ltb-false}
use Rattle.std.proofs.Math.Dec.{ltb}
use Rattle.rayon_machine_places.specs.declared.place.Party.{Party}
use Rattle.rayon_machine_places.specs.declared.place.Party.TheVariants.{Worker, Caller}
use Rattle.rayon_machine_places.specs.declared.place.Ending.{Ending}
use Rattle.rayon_machine_places.specs.declared.place.Ending.TheVariants.{Fine, Fault}
use Rattle.rayon_machine_places.specs.declared.place.JobKind.{JobKind}
use Rattle.rayon_machine_places.specs.declared.place.JobKind.TheVariants.{Detached, Stored, Direct, TokenOf, Scoped, BodyOf, PieceOf, WholeOf}
use Rattle.rayon_machine_places.specs.declared.place.Target.TheVariants.{Termination}
use Rattle.rayon_machine_places.specs.declared.place.Count.{Count}
use Rattle.rayon_machine_places.specs.declared.place.Count.TheVariants.{OfPool, OfScope, OfCast}
use Rattle.rayon_machine_places.specs.declared.place.Share.TheVariants.{PoolValue}
use Rattle.rayon_machine_places.specs.declared.place.Pieces.{Pieces}
use Rattle.rayon_machine_places.specs.declared.place.Plan.TheVariants.{Detach, Here, Send, Fork, Feed, Open, Enter, Gather}
use Rattle.rayon_machine_places.specs.declared.place.Then.TheVariants.{Resume}
use Rattle.rayon_machine_places.specs.declared.place.Place.{Place}
use Rattle.rayon_machine_places.specs.declared.place.Place.TheVariants.{ProbeWorking, YieldPop, LocalPop, Run, FirstSide, SecondSide, ScopeBody, AtOnce, Free, Stopped, RaiseCount, RaiseForAll, LowerCount}
use Rattle.rayon_machine_runs.specs.declared.event.Event.{Event}
use Rattle.rayon_machine_runs.specs.declared.event.Event.TheVariants.{Go}
use Rattle.rayon_machine_runs.specs.declared.state.Letter.TheVariants.{Set as IsSet}
use Rattle.rayon_machine_runs.specs.declared.state.Whereabouts.{Whereabouts}
use Rattle.rayon_machine_runs.specs.declared.state.Whereabouts.TheVariants.{Nowhere, Running, Over, Spent}
use Rattle.rayon_machine_runs.specs.declared.state.Job.{Job}
use Rattle.rayon_machine_runs.specs.declared.state.Call.{Call}
use Rattle.rayon_machine_runs.specs.declared.state.Scope.{Scope}
use Rattle.rayon_machine_places.specs.Places.{fresh, act_of, count_kind, count_book, goes_on, same_party}
use Rattle.rayon_machine_runs.specs.World.{Shape, Pool, Stack, World, at_job, told}
use Rattle.rayon_machine_places.specs.Targets.{target_worker, target_pool, target_call}
use Rattle.rayon_machine_runs.specs.Steps.{put, put_stack, put_pieces, after_close, after_resume, after_call, new_job, new_call, new_piece, new_whole, new_gathering, after_send, step, after_feed, after_deal, after_gather}
use Rattle.rayon_machine_runs.specs.Readers.{is_done}
use Rattle.rayon_machine_runs.specs.Runs.{first_place, start, IsRun}
use Rattle.rayon_machine_laws.specs.Once.{one, runs_in}
use Rattle.rayon_machine_laws.specs.Shares.{is_busy, is_scoped}
use Rattle.rayon_machine_laws.specs.Counted.{has_body, is_of_scope}
use Rattle.rayon_machine_laws.specs.End.{HasEnded, CastTakes}
use Rattle.rayon_machine_laws.proofs.Cases.{Turn, NoScope, turn_to, is_act, event_cases}
use Rattle.rayon_machine_laws.proofs.Frame.{either, piece_new, piece_in, if_some_and, if_some_map, acted_keeps, put_same, put_new, put_old, piece_old, piece_out}
use Rattle.rayon_machine_laws.proofs.Seats.{is_frame}
use Rattle.rayon_machine_laws.proofs.Ties.{AllFrames, job_at, outcome}
use Rattle.rayon_machine_laws.proofs.Tops.{FramesOk}
use Rattle.rayon_machine_laws.proofs.Events.{run_keeps}
use Rattle.rayon_machine_laws.proofs.Asides.{steps_aside}
use Rattle.rayon_machine_laws.proofs.Holding.{go_frames}
use Rattle.rayon_machine_laws.proofs.Attended.{aside_frames}
use Rattle.rayon_machine_laws.proofs.Hands.{worked}
use Rattle.rayon_machine_laws.proofs.PlacedRuns.{JobsHold}
use Rattle.rayon_machine_laws.proofs.Located.{loc_at, is_loc, where_is, at_work, Work}
use Rattle.rayon_machine_laws.proofs.Claims.{IsReady, is_body}
use Rattle.rayon_machine_laws.specs.Latch.{IsGathered}
use Rattle.rayon_machine_laws.proofs.ClaimRuns.{CallsHold, world_after}
use Rattle.rayon_machine_laws.proofs.ClaimEvents.{ended_world}
use Rattle.rayon_machine_laws.proofs.ClaimMakes.{below_new}
use Rattle.rayon_machine_laws.proofs.Endings.{has_ended}
use Rattle.rayon_machine_laws.proofs.ShareSteps.{self_one}
use Rattle.rayon_machine_laws.proofs.Scoping.{ScopesHold, CountOver, count_over, entry_kept, step_scopes, first_scopes}
use Rattle.rayon_machine_laws.proofs.Storing.{lowers_piece, number_is, Unpieced, frame_unpieced}
use Rattle.rayon_machine_laws.proofs.Gathered.{Least, Blamed, GathersHold, WasKept, WasCell, WasEnded, Passes, is_whole_kind, calls_of, piece_done, gathers_pass, go_passes}

-- a job that is new has not ended, and stands for a broadcast only if it is spent
record FreshJob (v : Job) : Type 0 where
  over : v.at ≡ Over Fault → ⊥
  whole : (c : ℕ) (o : Party) → v.kind ≡ WholeOf c o → v.at ≡ Spent

-- an event that is no act leaves the calls and jobs that there were, makes no job that has ended, and leads to no Lower
-- of a piece's share
record Stills (w u : World) : Type 0 where
  jobs : w.jobs ≤ u.jobs
  calls : w.calls ≤ u.calls
  job : (t : ℕ) → t + 1 ≤ w.jobs → u.job t ≡ w.job t
  call : (c : ℕ) → c + 1 ≤ w.calls → u.call c ≡ w.call c
  made : (t : ℕ) → w.jobs ≤ t → t + 1 ≤ u.jobs → FreshJob (u.job t)
  fresh : (c : ℕ) → w.calls ≤ c → c + 1 ≤ u.calls → ((u.call c).fault ≡ None) × (((u.call c).cell ≡ None) × ((u.call c).job + 1 ≤ u.jobs))
  tops : (q : Party) (z : ℕ × ℕ) → lowers_piece (u.stack q).top ≡ Some z → lowers_piece (w.stack q).top ≡ Some z

stills_pass : (w u : World) → GathersHold w → CallsHold u → Stills w u → Passes w u
stills_pass w u h hu s = record {
  jobs = s.jobs;
  target = λ c b. at c b;
  kinds = λ t b. ap (λ j. j.kind) (s.job t b);
  over = λ t e a. ap (λ j. j.at) (s.job t (made t (Over e) a (λ y. cc))) ∙ a;
  gone = λ t a. ap (λ j. j.at) (s.job t (made t Spent a (λ y. cc))) ∙ a;
  fault = λ c t b y. record { job = y.job; kept = ap (λ k. k.fault) (s.call c b) ∙ y.kept; low = y.low };
  whole = λ t c o b m k. (s.made t b m).whole c o k;
  kept = λ c t n o b k e. inl (kept c t n o b k e);
  cell = λ c n o b k e f. cell c n o b k e f;
  ended = λ t c o b k a e. inl (ended t c o b k a e);
  lowers = λ q c t e a. inl (s.tops q (c, t) e, ap (λ j. j.at) (sym (s.job t (there t a))) ∙ a);
}
  where
    made : (t : ℕ) (v : Whereabouts) → (w.job t).at ≡ v → (v ≡ Nowhere → ⊥) → t + 1 ≤ w.jobs
    made t v a n = elim (either (ltb t w.jobs)) [ inl y ↦ (let b : t < w.jobs = ltb-true t w.jobs y in omega (arith, b)) | inr y ↦ absurd (n (sym a ∙ ((calls_of w h).jobs).unmade t (ltb-false t w.jobs y))) ]

    there : (t : ℕ) → (u.job t).at ≡ Over Fault → t + 1 ≤ w.jobs
    there t a = elim (either (ltb t w.jobs)) [
      | inl y ↦ (let b : t < w.jobs = ltb-true t w.jobs y in omega (arith, b))
      | inr y ↦ elim (either (ltb t u.jobs)) [
        | inl x ↦ absurd ((s.made t (ltb-false t w.jobs y) (let b : t < u.jobs = ltb-true t u.jobs x in omega (arith, b))).over a)
        | inr x ↦ absurd (let n : Over Fault ≡ Nowhere = sym a ∙ (hu.jobs).unmade t (ltb-false t u.jobs x) in cc)
      ]
    ]

    old : (c : ℕ) → c + 1 ≤ u.calls → (w.calls ≤ c → ⊥) → c + 1 ≤ w.calls
    old c b n = elim (either (ltb c w.calls)) [ inl y ↦ (let d : c < w.calls = ltb-true c w.calls y in omega (arith, d)) | inr y ↦ absurd (n (ltb-false c w.calls y)) ]

    at : (c : ℕ) → c + 1 ≤ u.calls → (u.call c).job + 1 ≤ u.jobs
    at c b = elim (either (ltb c w.calls)) [
      | inl y ↦ (let d : c < w.calls = ltb-true c w.calls y in let m : c + 1 ≤ w.calls = omega (arith, d) in let i : (u.call c).job ≡ (w.call c).job = ap (λ v. v.job) (s.call c m) in let j : (w.call c).job + 1 ≤ w.jobs = h.target c m in let k : w.jobs ≤ u.jobs = s.jobs in omega (arith, i, j, k))
      | inr y ↦ ((s.fresh c (ltb-false c w.calls y) b).1).1
    ]

    kind : (c n : ℕ) (o : Party) → c + 1 ≤ w.calls → (u.job (u.call c).job).kind ≡ WholeOf n o → (w.job (w.call c).job).kind ≡ WholeOf n o
    kind c n o b k = ap (λ j. j.kind) (sym (s.job ((w.call c).job) (h.target c b))) ∙ ap (λ v. (u.job v.job).kind) (sym (s.call c b)) ∙ k

    kept : (c t n : ℕ) (o : Party) → c + 1 ≤ u.calls → (u.job (u.call c).job).kind ≡ WholeOf n o → (u.call c).fault ≡ Some t → WasKept w c t n o
    kept c t n o b k e = let m : c + 1 ≤ w.calls = old c b (λ y. absurd (let f : None ≡ Some t = sym ((s.fresh c y b).0) ∙ e in cc)) in record { call = m; kind = kind c n o m k; fault = ap (λ v. v.fault) (sym (s.call c m)) ∙ e }

    cell : (c n : ℕ) (o : Party) → c + 1 ≤ u.calls → (u.job (u.call c).job).kind ≡ WholeOf n o → (u.call c).cell ≡ Some Fault → (u.call c).fault ≡ None → WasCell w c n o
    cell c n o b k e f = let m : c + 1 ≤ w.calls = old c b (λ y. absurd (let g : None ≡ Some Fault = sym (((s.fresh c y b).1).0) ∙ e in cc)) in record { call = m; kind = kind c n o m k; cell = ap (λ v. v.cell) (sym (s.call c m)) ∙ e; fault = ap (λ v. v.fault) (sym (s.call c m)) ∙ f }

    ended : (t c : ℕ) (o : Party) → t + 1 ≤ u.jobs → (u.job t).kind ≡ PieceOf c o → (u.job t).at ≡ Over Fault → (u.job t).counted ≡ false → WasEnded w t c o
    ended t c o b k a e = let m : t + 1 ≤ w.jobs = there t a in record { made = m; kind = ap (λ j. j.kind) (sym (s.job t m)) ∙ k; at = ap (λ j. j.at) (sym (s.job t m)) ∙ a; counted = ap (λ j. j.counted) (sym (s.job t m)) ∙ e }

-- the top of a party that moves
tops_of : (w : World) (q : Party) (k : Stack) → Unpieced k.top → (r : Party) (z : ℕ × ℕ) → lowers_piece (put_stack w.stack q k r).top ≡ Some z → lowers_piece (w.stack r).top ≡ Some z
tops_of w q k n r z = by (same_party r q)
  where
    by : (b : Bool) → lowers_piece (if b then k else w.stack r).top ≡ Some z → lowers_piece (w.stack r).top ≡ Some z
    by true e = absurd (let a : None ≡ Some z = sym n ∙ e in cc)
    by false e = e

-- one party goes elsewhere
moved_stills : (w : World) (q : Party) (k : Stack) (P : ℕ → Pool) → Unpieced k.top → Stills w (record w { stack = put_stack w.stack q k; pool = P })
moved_stills w q k P n = record {
  jobs = omega arith;
  calls = omega arith;
  job = λ t b. refl;
  call = λ c b. refl;
  made = λ t b m. absurd (omega (arith, b, m));
  fresh = λ c b m. absurd (omega (arith, b, m));
  tops = tops_of w q k n;
}

-- a call begins
called_stills : (w : World) (q : Party) (y : Place) (C : ℕ → Call) (J : ℕ → Job) (c j : ℕ) (l : List Scope) → Unpieced y → w.jobs ≤ j → w.calls ≤ c → ((t : ℕ) → t + 1 ≤ w.jobs → J t ≡ w.job t) → ((i : ℕ) → i + 1 ≤ w.calls → C i ≡ w.call i) → ((t : ℕ) → w.jobs ≤ t → t + 1 ≤ j → FreshJob (J t)) → ((i : ℕ) → w.calls ≤ i → i + 1 ≤ c → ((C i).fault ≡ None) × (((C i).cell ≡ None) × ((C i).job + 1 ≤ j))) → Stills w (record w { stack = put_stack w.stack q (after_call (w.stack q) y); call = C; job = J; calls = c; jobs = j; scopes = l })
called_stills w q y C J c j l n more calls jo ca made fresh = record { jobs = more; calls = calls; job = jo; call = ca; made = made; fresh = fresh; tops = tops_of w q (after_call (w.stack q) y) n }

new_fresh : (q : Party) (p : ℕ) (k : JobKind) → is_whole_kind k ≡ false → FreshJob (new_job q p k)
new_fresh q p k z = record { over = λ e. absurd (cc); whole = λ c o e. absurd (let a : is_whole_kind k ≡ true = ap is_whole_kind e in let b : true ≡ false = sym a ∙ z in cc) }

one_old : (w : World) (v : Job) (t : ℕ) → t + 1 ≤ w.jobs → put w.job w.jobs v t ≡ w.job t
one_old w v t b = put_old w.job w.jobs v t (below_new t w.jobs b)

one_fresh : (w : World) (v : Job) → FreshJob v → (t : ℕ) → w.jobs ≤ t → t + 1 ≤ w.jobs + 1 → FreshJob (put w.job w.jobs v t)
one_fresh w v f t b m = let i : t ≡ w.jobs = omega (arith, b, m) in subst (λ n. FreshJob (put w.job w.jobs v n)) (sym i) (subst FreshJob (sym (put_new w.job w.jobs v)) f)

two_old : (w : World) (v y : Job) (t : ℕ) → t + 1 ≤ w.jobs → put (put w.job w.jobs v) (w.jobs + 1) y t ≡ w.job t
two_old w v y t b = put_old (put w.job w.jobs v) (w.jobs + 1) y t (below_new t (w.jobs + 1) (omega (arith, b))) ∙ one_old w v t b

two_fresh : (w : World) (v y : Job) → FreshJob v → FreshJob y → (t : ℕ) → w.jobs ≤ t → t + 1 ≤ w.jobs + 2 → FreshJob (put (put w.job w.jobs v) (w.jobs + 1) y t)
two_fresh w v y f g t b m = elim (either (ltb t (w.jobs + 1))) [
  | inl x ↦ (let d : t < w.jobs + 1 = ltb-true t (w.jobs + 1) x in subst FreshJob (sym (put_old (put w.job w.jobs v) (w.jobs + 1) y t (below_new t (w.jobs + 1) (omega (arith, d))))) (one_fresh w v f t b (omega (arith, d))))
  | inr x ↦ (let d : w.jobs + 1 ≤ t = ltb-false t (w.jobs + 1) x in let i : t ≡ w.jobs + 1 = omega (arith, d, m) in subst (λ n. FreshJob (put (put w.job w.jobs v) (w.jobs + 1) y n)) (sym i) (subst FreshJob (sym (put_new (put w.job w.jobs v) (w.jobs + 1) y)) g))
]

call_old : (w : World) (v : Call) (i : ℕ) → i + 1 ≤ w.calls → put w.call w.calls v i ≡ w.call i
call_old w v i b = put_old w.call w.calls v i (below_new i w.calls b)

call_fresh : (w : World) (v : Call) (j : ℕ) → v.fault ≡ None → v.cell ≡ None → v.job + 1 ≤ j → (i : ℕ) → w.calls ≤ i → i + 1 ≤ w.calls + 1 → ((put w.call w.calls v i).fault ≡ None) × (((put w.call w.calls v i).cell ≡ None) × ((put w.call w.calls v i).job + 1 ≤ j))
call_fresh w v j a b c i d m = let e : i ≡ w.calls = omega (arith, d, m) in subst (λ n. ((put w.call w.calls v n).fault ≡ None) × (((put w.call w.calls v n).cell ≡ None) × ((put w.call w.calls v n).job + 1 ≤ j))) (sym e) (subst (λ k. (k.fault ≡ None) × ((k.cell ≡ None) × (k.job + 1 ≤ j))) (sym (put_new w.call w.calls v)) (a, (b, c)))

no_calls : (w : World) (C : ℕ → Call) (j : ℕ) (i : ℕ) → w.calls ≤ i → i + 1 ≤ w.calls → ((C i).fault ≡ None) × (((C i).cell ≡ None) × ((C i).job + 1 ≤ j))
no_calls w C j i a b = absurd (omega (arith, a, b))

sent_stills : (w : World) (q : Party) (p : ℕ) (b : Bool) → Stills w (after_send w q p (w.stack q) b)
sent_stills w q p true = called_stills w q (RaiseCount (Here p w.jobs)) w.call (put w.job w.jobs (new_job q p Direct)) w.calls (w.jobs + 1) w.scopes refl (omega arith) (omega arith) (one_old w (new_job q p Direct)) (λ i b. refl) (one_fresh w (new_job q p Direct) (new_fresh q p Direct refl)) (no_calls w w.call (w.jobs + 1))
sent_stills w q p false = called_stills w q (RaiseCount (Send (record { number = w.calls; pool = p; job = w.jobs }))) (put w.call w.calls (new_call None w.jobs)) (put w.job w.jobs (new_job q p (Stored w.calls q))) (w.calls + 1) (w.jobs + 1) w.scopes refl (omega arith) (omega arith) (one_old w (new_job q p (Stored w.calls q))) (call_old w (new_call None w.jobs)) (one_fresh w (new_job q p (Stored w.calls q)) (new_fresh q p (Stored w.calls q) refl)) (call_fresh w (new_call None w.jobs) (w.jobs + 1) refl refl (omega arith))

count_whole : (k : Count) → is_whole_kind (count_kind k) ≡ false
count_whole (OfPool p) = refl
count_whole (OfScope c o) = refl
count_whole (OfCast c o) = refl

feed_stills : (w : World) (k : Count) (p i : ℕ) → Stills w (after_feed w k p i (w.stack (Worker p i)))
feed_stills w k p i = called_stills w (Worker p i) (RaiseCount (Feed (record { count = k; pool = p; job = w.jobs; token = w.jobs + 1 }))) w.call (put (put w.job w.jobs (new_job (Worker p i) p (count_kind k))) (w.jobs + 1) (new_job (Worker p i) p (TokenOf i (count_book k)))) w.calls (w.jobs + 2) w.scopes refl (omega arith) (omega arith) (two_old w (new_job (Worker p i) p (count_kind k)) (new_job (Worker p i) p (TokenOf i (count_book k)))) (λ j b. refl) (two_fresh w (new_job (Worker p i) p (count_kind k)) (new_job (Worker p i) p (TokenOf i (count_book k))) (new_fresh (Worker p i) p (count_kind k) (count_whole k)) (new_fresh (Worker p i) p (TokenOf i (count_book k)) refl)) (no_calls w w.call (w.jobs + 2))

-- the pieces of a broadcast
piece_fresh : (q : Party) (k : Count) (p i : ℕ) → FreshJob (new_piece q k p i)
piece_fresh q k p i = record { over = λ e. absurd (cc); whole = λ c o e. absurd (let a : is_whole_kind (count_kind k) ≡ true = ap is_whole_kind e in let b : true ≡ false = sym a ∙ count_whole k in cc) }

pieces_fresh : (w : World) (q : Party) (c : Pieces) → c.first ≡ w.jobs → (t : ℕ) → w.jobs ≤ t → t + 1 ≤ w.jobs + c.workers → FreshJob (put_pieces c (λ i j. new_piece q c.count c.pool i) w.job t)
pieces_fresh w q c f t b m = subst FreshJob (sym (piece_new c (λ i j. new_piece q c.count c.pool i) w.job t (piece_in c t (omega (arith, b, f)) (omega (arith, m, f))))) (piece_fresh q c.count c.pool (t - c.first))

deal_stills : (w : World) (q : Party) (d : Count) (p : ℕ) → Stills w (after_deal w q d p (w.stack q))
deal_stills w q d p = called_stills w q (RaiseForAll c) w.call (put_pieces c (λ i j. new_piece q d p i) w.job) w.calls (w.jobs + c.workers) w.scopes refl (omega arith) (omega arith) (λ t b. piece_old c (λ i j. new_piece q d p i) w.job t (piece_out c t (omega (arith, b)))) (λ i b. refl) (pieces_fresh w q c refl) (no_calls w w.call (w.jobs + c.workers))
  where
    c : Pieces
    c = record { count = d; pool = p; first = w.jobs; workers = (w.shape.pool p).workers }

gather_stills : (w : World) (q : Party) (p : ℕ) → Stills w (after_gather w q p (w.stack q))
gather_stills w q p = called_stills w q (RaiseCount (Gather (record { call = record { number = w.calls; pool = p; job = n }; pieces = c }))) (put w.call w.calls (new_gathering c.workers n)) (put dealt n (new_whole q p w.calls)) (w.calls + 1) (n + 1) w.scopes refl (omega arith) (omega arith) old (call_old w (new_gathering c.workers n)) made (call_fresh w (new_gathering c.workers n) (n + 1) refl refl (omega arith))
  where
    c : Pieces
    c = record { count = OfCast w.calls q; pool = p; first = w.jobs; workers = (w.shape.pool p).workers }

    n : ℕ
    n = w.jobs + c.workers

    dealt : ℕ → Job
    dealt = put_pieces c (λ i j. new_piece q (OfCast w.calls q) p i) w.job

    old : (t : ℕ) → t + 1 ≤ w.jobs → put dealt n (new_whole q p w.calls) t ≡ w.job t
    old t b = put_old dealt n (new_whole q p w.calls) t (below_new t n (omega (arith, b))) ∙ piece_old c (λ i j. new_piece q (OfCast w.calls q) p i) w.job t (piece_out c t (omega (arith, b)))

    made : (t : ℕ) → w.jobs ≤ t → t + 1 ≤ n + 1 → FreshJob (put dealt n (new_whole q p w.calls) t)
    made t b m = elim (either (ltb t n)) [
      | inl x ↦ (let d : t < n = ltb-true t n x in let l : t + 1 ≤ n = omega (arith, d) in subst FreshJob (sym (put_old dealt n (new_whole q p w.calls) t (below_new t n l))) (pieces_fresh w q c refl t b l))
      | inr x ↦ (let d : n ≤ t = ltb-false t n x in let i : t ≡ n = omega (arith, d, m) in subst (λ v. FreshJob (put dealt n (new_whole q p w.calls) v)) (sym i) (subst FreshJob (sym (put_new dealt n (new_whole q p w.calls))) (record { over = λ e. absurd (cc); whole = λ c o e. refl })))
    ]

turn_unpieced : (t : Turn) → Unpieced (turn_to t)
turn_unpieced (NoScope o) = refl
turn_unpieced _ = refl

goes_unpieced : (f : Place) (e : Ending) → is_frame f ≡ true → Unpieced (goes_on f e)
goes_unpieced (FirstSide o a) Fine z = refl
goes_unpieced (FirstSide o a) Fault z = refl
goes_unpieced (SecondSide o) e z = refl
goes_unpieced (ScopeBody o) e z = refl
goes_unpieced (AtOnce p t) e z = refl
goes_unpieced (LowerCount k s n) e z = cc
goes_unpieced f e z = frame_unpieced f z

resumed_unpieced : (e : Ending) (fs : List Place) → AllFrames fs → Unpieced (after_resume fs e).top
resumed_unpieced e [] a = refl
resumed_unpieced e (f ∷ fs) a = goes_unpieced f e (a.0)

closed_unpieced : (t : ℕ) (k : JobKind) (e : Ending) (fs : List Place) → AllFrames fs → Unpieced (after_close t k e fs).top
closed_unpieced t (Detached p) e fs a = refl
closed_unpieced t (Stored c o) e fs a = refl
closed_unpieced t (Scoped c o) e fs a = refl
closed_unpieced t (PieceOf c o) e fs a = refl
closed_unpieced t Direct e fs a = resumed_unpieced e fs a
closed_unpieced t (BodyOf c o) e fs a = resumed_unpieced e fs a
closed_unpieced t (WholeOf c o) e fs a = resumed_unpieced e fs a
closed_unpieced t (TokenOf i b) e fs a = resumed_unpieced e fs a

end_passes : (w : World) (q : Party) (d : Ending) (t : ℕ) (k : JobKind) (fs : List Place) → w.stack q ≡ record { top = Run t k; below = fs } → GathersHold w → CallsHold (ended_world w q d t k fs) → Passes w (ended_world w q d t k fs)
end_passes w q d t k fs z h = λ hu. record {
  jobs = omega arith;
  target = h.target;
  kinds = λ s b. kind s;
  over = λ s e a. kept s (Over e) a (λ y. absurd (cc));
  gone = λ s a. kept s Spent a (λ y. absurd (cc));
  fault = λ c s b y. record { job = y.job; kept = y.kept; low = y.low };
  whole = λ s c o b m k. absurd (omega (arith, b, m));
  kept = λ c s n o b k e. inl (record { call = b; kind = sym (kind ((w.call c).job)) ∙ k; fault = e });
  cell = λ c n o b k e f. record { call = b; kind = sym (kind ((w.call c).job)) ∙ k; cell = e; fault = f };
  ended = λ s c o b k a e. inl (ended s c o b k (s == t) refl a (sym (counted s) ∙ e));
  lowers = λ r c s e a. inl (tops_of w q (after_close t k d fs) (closed_unpieced t k d fs (subst (λ j. AllFrames (j.below)) z (h.frames q))) r (c, s) e, was r c s (tops_of w q (after_close t k d fs) (closed_unpieced t k d fs (subst (λ j. AllFrames (j.below)) z (h.frames q))) r (c, s) e) (s == t) refl a);
}
  where
    u : World
    u = ended_world w q d t k fs

    kind : (s : ℕ) → (u.job s).kind ≡ (w.job s).kind
    kind s = put_same (λ j. j.kind) w.job t (at_job (w.job t) (Over d)) s refl

    counted : (s : ℕ) → (u.job s).counted ≡ (w.job s).counted
    counted s = put_same (λ j. j.counted) w.job t (at_job (w.job t) (Over d)) s refl

    running : (w.job t).at ≡ Running q
    running = (at_work ((w.job t).at) ((w.job t).runs) q (where_is (Work q) (loc_at (w.job t)) (let a : worked t (w.stack q) ≡ is_loc (Work q) (loc_at (w.job t)) = (((calls_of w h).jobs).ok).placed (Work q) t in let b : worked t (w.stack q) ≡ (one (t == t) + runs_in t fs) = ap (worked t) z in let c : one (t == t) ≡ 1 = self_one t in omega (arith, a, b, c)))).1

    kept : (s : ℕ) (v : Whereabouts) → (w.job s).at ≡ v → (v ≡ Running q → ⊥) → (u.job s).at ≡ v
    kept s v a n = by (s == t) refl
      where
        by : (b : Bool) → (s == t) ≡ b → (if b then at_job (w.job t) (Over d) else w.job s).at ≡ v
        by true e = absurd (n (sym a ∙ ap (λ i. (w.job i).at) (eqb-true s t e) ∙ running))
        by false e = a

    ended : (s c : ℕ) (o : Party) → s + 1 ≤ w.jobs → (u.job s).kind ≡ PieceOf c o → (b : Bool) → (s == t) ≡ b → (if b then at_job (w.job t) (Over d) else w.job s).at ≡ Over Fault → (w.job s).counted ≡ false → WasEnded w s c o
    ended s c o m k false e a f = record { made = m; kind = sym (kind s) ∙ k; at = a; counted = f }
    ended s c o m k true e a f = absurd (let i : (w.job s).at ≡ Running q = ap (λ n. (w.job n).at) (eqb-true s t e) ∙ running in
        let b : (w.job s).counted ≡ true = entry_kept w (h.scopes) s (ap is_scoped (sym (kind s) ∙ k)) (ap is_busy i) in let n : true ≡ false = sym b ∙ f in cc)

    was : (r : Party) (c s : ℕ) → lowers_piece (w.stack r).top ≡ Some (c, s) → (b : Bool) → (s == t) ≡ b → (if b then at_job (w.job t) (Over d) else w.job s).at ≡ Over Fault → (w.job s).at ≡ Over Fault
    was r c s e false y a = a
    was r c s e true y a = absurd (let i : is_done (w.job s).at ≡ true = piece_done w r ((w.stack r).top) c s e (((calls_of w h).says r).top) in let j : is_done (w.job s).at ≡ false = ap (λ n. is_done (w.job n).at) (eqb-true s t y) ∙ ap is_done running in let n : true ≡ false = sym i ∙ j in cc)

event_passes : (w : World) → GathersHold w → (e : Event) → is_act e ≡ false → IfSome (step w e) (λ u. CallsHold u → Passes w u)
event_passes w h = event_cases (λ u. CallsHold u → Passes w u) w (record {
  turned = λ q t fs z. pass _ (moved_stills w q (record { top = turn_to t; below = fs }) w.pool (turn_unpieced t));
  ended = λ q d t k fs z. end_passes w q d t k fs z h;
  spawned = λ q p f. pass _ (called_stills w q (RaiseCount (Detach p w.jobs)) w.call (put w.job w.jobs (new_job q p (Detached p))) w.calls (w.jobs + 1) w.scopes refl (omega arith) (omega arith) (one_old w (new_job q p (Detached p))) (λ i b. refl) (one_fresh w (new_job q p (Detached p)) (new_fresh q p (Detached p) refl)) (no_calls w w.call (w.jobs + 1)));
  fed = λ p i f. pass _ (feed_stills w (OfPool p) p i);
  dealt = λ q p f. pass _ (deal_stills w q (OfPool p) p);
  sent = λ q p b e f. pass _ (sent_stills w q p b);
  joined = λ p i f. pass _ (called_stills w (Worker p i) (RaiseCount (Fork (record { number = w.calls; pool = p; job = w.jobs + 1 }) w.jobs)) (put w.call w.calls (new_call (Some w.jobs) (w.jobs + 1))) (put (put w.job w.jobs (new_job (Worker p i) p Direct)) (w.jobs + 1) (new_job (Worker p i) p (Stored w.calls (Worker p i)))) (w.calls + 1) (w.jobs + 2) w.scopes refl (omega arith) (omega arith) (two_old w (new_job (Worker p i) p Direct) (new_job (Worker p i) p (Stored w.calls (Worker p i)))) (call_old w (new_call (Some w.jobs) (w.jobs + 1))) (two_fresh w (new_job (Worker p i) p Direct) (new_job (Worker p i) p (Stored w.calls (Worker p i))) (new_fresh (Worker p i) p Direct refl) (new_fresh (Worker p i) p (Stored w.calls (Worker p i)) refl)) (call_fresh w (new_call (Some w.jobs) (w.jobs + 1)) (w.jobs + 2) refl refl (omega arith)));
  scoped = λ q p f. pass _ (called_stills w q (RaiseCount (Open (record { number = w.calls; pool = p; job = w.jobs }))) (put w.call w.calls (new_call None w.jobs)) (put w.job w.jobs (new_job q p (BodyOf w.calls q))) (w.calls + 1) (w.jobs + 1) (w.scopes ++ record { call = w.calls; pool = p; owner = q } ∷ []) refl (omega arith) (omega arith) (one_old w (new_job q p (BodyOf w.calls q))) (call_old w (new_call None w.jobs)) (one_fresh w (new_job q p (BodyOf w.calls q)) (new_fresh q p (BodyOf w.calls q) refl)) (call_fresh w (new_call None w.jobs) (w.jobs + 1) refl refl (omega arith)));
  entered = λ q z k. pass _ (called_stills w q (RaiseCount (Enter (record { call = z.call; owner = z.owner; pool = z.pool; job = w.jobs }))) w.call (put w.job w.jobs (new_job q z.pool (Scoped z.call z.owner))) w.calls (w.jobs + 1) w.scopes refl (omega arith) (omega arith) (one_old w (new_job q z.pool (Scoped z.call z.owner))) (λ i b. refl) (one_fresh w (new_job q z.pool (Scoped z.call z.owner)) (new_fresh q z.pool (Scoped z.call z.owner) refl)) (no_calls w w.call (w.jobs + 1)));
  fed_into = λ i z k. pass _ (feed_stills w (OfScope z.call z.owner) z.pool i);
  dealt_into = λ q z k. pass _ (deal_stills w q (OfScope z.call z.owner) z.pool);
  gathered = λ q p f. pass _ (gather_stills w q p);
  yielded = λ p i f. pass _ (moved_stills w (Worker p i) (after_call (w.stack (Worker p i)) YieldPop) w.pool refl);
  yielded_local = λ p i f. pass _ (moved_stills w (Worker p i) (after_call (w.stack (Worker p i)) LocalPop) w.pool refl);
  given = λ q p f held. pass _ (moved_stills w q (after_call (w.stack q) (LowerCount (OfPool p) PoolValue Resume)) (put w.pool p (record (w.pool p) { held = false })) refl);
})
  where
    pass : (u : World) → Stills w u → CallsHold u → Passes w u
    pass u m c = stills_pass w u h c m

each_passes : (w : World) (e : Event) → GathersHold w → IfSome (step w e) (λ u. CallsHold u → Passes w u)
each_passes w (Go q) h = acted_keeps w q (w.stack q) (target_pool q (act_of q ((w.stack q).top))) (target_worker q (act_of q ((w.stack q).top))) (target_call (act_of q ((w.stack q).top))) (job_at w q (act_of q ((w.stack q).top))) (outcome w q (w.stack q)) (λ u. CallsHold u → Passes w u) (if_some_map (λ r. Passes w (world_after w q ((w.stack q).top) ((w.stack q).below) r)) (λ r. CallsHold (world_after w q ((w.stack q).top) ((w.stack q).below) r) → Passes w (world_after w q ((w.stack q).top) ((w.stack q).below) r)) (λ r p c. p) (outcome w q (w.stack q)) (go_passes w q h))
each_passes w e h = event_passes w h e refl

pub step_gathers : (w : World) (e : Event) → GathersHold w → IfSome (step w e) GathersHold
step_gathers w e h = if_some_map (λ u. (ScopesHold u × FramesOk u) × (CallsHold u → Passes w u)) GathersHold (λ u f. gathers_pass w u h ((f.0).0) ((f.0).1) (f.1 ((((f.0).0).shares).calls))) (step w e)
    (if_some_and (λ u. ScopesHold u × FramesOk u) (λ u. CallsHold u → Passes w u) (step w e)
    (if_some_and ScopesHold FramesOk (step w e) (step_scopes w e (h.scopes)) (steps_aside FramesOk w (h.frames) (λ q. go_frames w q (w.stack q) refl (h.frames)) (λ u m. aside_frames w u m (h.frames)) e))
    (each_passes w e h))

first_unpieced : (h : Shape) (q : Party) → Unpieced (first_place h q)
first_unpieced h (Caller n) = at (nat_lt n h.callers)
  where
    at : (z : Bool) → Unpieced (if z then Free else Stopped)
    at true = refl
    at false = refl
first_unpieced h (Worker p i) = at (nat_lt i (h.pool p).workers) ((h.pool p).callers_own && (i == 0))
  where
    at : (y z : Bool) → Unpieced (if y then (if z then Free else ProbeWorking (fresh Termination)) else Stopped)
    at true true = refl
    at true false = refl
    at false z = refl

pub first_gathers : (h : Shape) → GathersHold (start h)
first_gathers h = record {
  scopes = first_scopes h;
  frames = λ q. tt;
  target = λ c b. absurd (omega (arith, b));
  spent = λ t c o b k. absurd (omega (arith, b));
  kept = λ c t n o b k e. absurd (omega (arith, b));
  lowest = λ t c o b k a d. absurd (omega (arith, b));
  lowers = λ q c t e a. absurd (let n : None ≡ Some (c, t) = sym (first_unpieced h q) ∙ e in cc);
  cell = λ c n o b k e f. absurd (omega (arith, b));
}

pub always_gathers : (h : Shape) (es : List Event) (w : World) → IsRun (start h) es w → GathersHold w
always_gathers h es w r = run_keeps GathersHold step_gathers (start h) w es (first_gathers h) r

done_over : (v : Whereabouts) → is_done v ≡ true → (e : Ending) × (v ≡ Over e)
done_over (Over e) d = (e, refl)
done_over _ d = cc

-- a broadcast whose count is 0: it keeps no fault exactly where each piece has ended without one, and else that of the
-- lowest that ended with one
pub cast_takes : (w : World) → GathersHold w → (c n : ℕ) (o : Party) → c + 1 ≤ w.calls → (w.job (w.call c).job).kind ≡ WholeOf n o → (w.call c).count ≡ 0 → CastTakes w c (told (w.call c).fault Fine)
cast_takes w h c n o b k z = by (w.call c).fault refl
  where
    gone : CountOver w c
    gone = count_over w (h.scopes) c b z

    own : (t : ℕ) (p : Party) → (w.job t).kind ≡ PieceOf c p → is_of_scope c (w.job t).kind ≡ true
    own t p e = ap (is_of_scope c) e ∙ eq-eqb c c refl

    over : (t : ℕ) (p : Party) → t + 1 ≤ w.jobs → (w.job t).kind ≡ PieceOf c p → (e : Ending) × ((w.job t).at ≡ Over e)
    over t p m e = done_over ((w.job t).at) (gone.over (ap has_body k) t m (own t p e))

    jobs : JobsHold w
    jobs = (calls_of w h).jobs

    least : (t : ℕ) (p : Party) → t + 1 ≤ w.jobs → (w.job t).kind ≡ PieceOf c p → (w.job t).at ≡ Over Fault → Least w c t
    least t p m e a = h.lowest t c p m e a (gone.jobs t (own t p e))

    fine : (t : ℕ) (p : Party) → t + 1 ≤ w.jobs → (w.job t).kind ≡ PieceOf c p → (Least w c t → ⊥) → HasEnded w t Fine
    fine t p m e none = at (over t p m e)
      where
        at : (d : Ending) × ((w.job t).at ≡ Over d) → HasEnded w t Fine
        at (Fine, a) = has_ended w jobs t Fine a
        at (Fault, a) = absurd (none (least t p m e a))

    by : (f : Option ℕ) → (w.call c).fault ≡ f → CastTakes w c (told f Fine)
    by None e = record { kept = e; pieces = λ t p m y. fine t p m y (λ l. absurd (let a : None ≡ Some (l.job) = sym e ∙ l.kept in cc)) }
    by (Some j) e = let x : Blamed w c j = h.kept c j n o b k e in record {
      job = j;
      kept = e;
      ended = has_ended w jobs j Fault (x.at);
      owner = x.owner;
      piece = x.kind;
      lower = λ t p y l. fine t p (let a : j + 1 ≤ w.jobs = x.made in omega (arith, a, l)) y (λ m. absurd (let a : m.job ≡ j = number_is (m.job) j (sym (m.kept) ∙ e) in let d : m.job ≤ t = m.low in omega (arith, a, d, l)));
      pieces = λ t p m y. (let d : (e : Ending) × ((w.job t).at ≡ Over e) = over t p m y in (d.0, has_ended w jobs t (d.0) (d.1)));
    }

-- what its Take sees, if it sees something: what its book says, over a cell that tells the same
pub cast_told : (w : World) → GathersHold w → (c n : ℕ) (o : Party) (d : Ending) → c + 1 ≤ w.calls → (w.job (w.call c).job).kind ≡ WholeOf n o → (w.call c).cell ≡ Some d → told (w.call c).fault d ≡ told (w.call c).fault Fine
cast_told w h c n o d b k e = by d (w.call c).fault e refl
  where
    by : (d : Ending) (f : Option ℕ) → (w.call c).cell ≡ Some d → (w.call c).fault ≡ f → told f d ≡ told f Fine
    by d (Some j) e f = refl
    by Fine None e f = refl
    by Fault None e f = absurd (h.cell c n o b k e f)

-- a broadcast whose latch is set has the count 0
set_count : (w : World) → GathersHold w → (c n : ℕ) (o : Party) → (w.job (w.call c).job).kind ≡ WholeOf n o → (w.call c).latch ≡ IsSet → (c + 1 ≤ w.calls) × ((w.call c).count ≡ 0)
set_count w h c n o k z = by ((calls_of w h).latches c z)
  where
    by : (c + 1 ≤ w.calls) × IsReady w c → (c + 1 ≤ w.calls) × ((w.call c).count ≡ 0)
    by (b, inl d) = absurd (let e : is_body (w.job (w.call c).job).kind ≡ true = ap is_body k in let f : true ≡ false = sym e ∙ (d.0).1 in cc)
    by (b, inr e) = (b, e)

pub gathered : (w : World) → GathersHold w → IsGathered w
gathered w h = record {
  kept = λ c n o z k. (let s : (c + 1 ≤ w.calls) × ((w.call c).count ≡ 0) = set_count w h c n o k z in cast_takes w h c n o (s.0) k (s.1));
  sees = λ c n o e z k y. (let s : (c + 1 ≤ w.calls) × ((w.call c).count ≡ 0) = set_count w h c n o k z in cast_told w h c n o e (s.0) k y);
}
