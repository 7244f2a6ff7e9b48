-- the steps in which a call begins or a run ends
use Rattle.std.proofs.Common.{◌≡◌, ℕ, true, false, refl, sym, ◌∙◌, ap}
use Rattle.std.specs.Prelude.{Option, Some, None, slice_get, ◌&&◌, ◌+◌, ◌==◌, if◌then◌else◌}
use Rattle.std.proofs.lemmas.Bool.{eqb-true}
use Rattle.rayon_machine_places.specs.declared.place.Party.{Party}
use Rattle.rayon_machine_places.specs.declared.place.Party.TheVariants.{Caller, Worker}
use Rattle.rayon_machine_places.specs.declared.place.Ending.{Ending}
use Rattle.rayon_machine_places.specs.declared.place.JobKind.{JobKind}
use Rattle.rayon_machine_places.specs.declared.place.JobKind.TheVariants.{Detached, Direct, Scoped, Stored, TokenOf, BodyOf}
use Rattle.rayon_machine_places.specs.declared.place.Place.{Place}
use Rattle.rayon_machine_places.specs.declared.place.Place.TheVariants.{LowerCount, Run}
use Rattle.rayon_machine_places.specs.declared.place.Move.TheVariants.{Enter}
use Rattle.rayon_machine_places.specs.declared.place.Pieces.{Pieces}
use Rattle.rayon_machine_places.specs.declared.place.Plan.{Plan}
use Rattle.rayon_machine_places.specs.declared.place.Plan.TheVariants.{Detach, Enter, Feed, Fork, Gather, Here, Open, Send}
use Rattle.rayon_machine_places.specs.declared.place.OpenCall.{OpenCall}
use Rattle.rayon_machine_places.specs.declared.place.Gathering.{Gathering}
use Rattle.rayon_machine_places.specs.declared.place.Share.TheVariants.{PoolValue}
use Rattle.rayon_machine_places.specs.declared.place.Count.TheVariants.{OfPool, OfScope, OfCast}
use Rattle.rayon_machine_places.specs.declared.place.Then.TheVariants.{Resume}
use Rattle.rayon_machine_runs.specs.declared.state.Job.{Job}
use Rattle.rayon_machine_runs.specs.declared.state.Scope.{Scope}
use Rattle.rayon_machine_runs.specs.declared.state.Whereabouts.TheVariants.{Over}
use Rattle.rayon_machine_places.specs.Places.{is_free, is_member, own_index}
use Rattle.rayon_machine_runs.specs.World.{World, at_job}
use Rattle.rayon_machine_runs.specs.Steps.{after_broadcast, after_cast, after_close, after_end, after_end_pool, after_enter, after_enter_fifo, after_feed, after_fifo, after_install, holds, is_pool, after_into_cast, after_join, after_scope, new_job, put, put_stack, after_spawn, after_move}
use Rattle.rayon_machine_world.specs.Running.{after_open_cast, after_open_feed, after_open_gather, after_open_join, after_open_job, after_open_call, after_open_scope, after_own_enter, after_own_fifo}

pub spawned-is : (w : World) (q : Party) (p : ℕ) (x : Place) (job : Job) → x ≡ (w.stack q).top → is_free x ≡ true → is_pool w.shape p ≡ true → job ≡ new_job q p (Detached p) → after_spawn w q p (w.stack q) ≡ Some (after_open_job w q x (Detach p w.jobs) job)
spawned-is w q p x job ex f k ej =
    let free : is_free (w.stack q).top ≡ true = ap is_free (sym ex) ∙ f in
    let to : Place → Option World = λ y. Some (after_open_job w q y (Detach p w.jobs) (new_job q p (Detached p))) in
    let with_job : Job → Option World = λ j. Some (after_open_job w q x (Detach p w.jobs) j) in
    rw (free, k) (ap to (sym ex) ∙ ap with_job (sym ej))

pub here-is : (w : World) (q : Party) (p : ℕ) (x : Place) (job : Job) → x ≡ (w.stack q).top → is_free x ≡ true → is_pool w.shape p ≡ true → is_member q p ≡ true → job ≡ new_job q p Direct → after_install w q p (w.stack q) ≡ Some (after_open_job w q x (Here p w.jobs) job)
here-is w q p x job ex f k m ej =
    let free : is_free (w.stack q).top ≡ true = ap is_free (sym ex) ∙ f in
    let to : Place → Option World = λ y. Some (after_open_job w q y (Here p w.jobs) (new_job q p Direct)) in
    let with_job : Job → Option World = λ j. Some (after_open_job w q x (Here p w.jobs) j) in
    rw (free, k, m) (ap to (sym ex) ∙ ap with_job (sym ej))

pub sent-is : (w : World) (q : Party) (p : ℕ) (x : Place) (job : Job) → x ≡ (w.stack q).top → is_free x ≡ true → is_pool w.shape p ≡ true → is_member q p ≡ false → job ≡ new_job q p (Stored w.calls q) → after_install w q p (w.stack q) ≡ Some (after_open_call w q x (Send (record { number = w.calls; pool = p; job = w.jobs })) job)
sent-is w q p x job ex f k m ej =
    let free : is_free (w.stack q).top ≡ true = ap is_free (sym ex) ∙ f in
    let to : Place → Option World = λ y. Some (after_open_call w q y (Send (record { number = w.calls; pool = p; job = w.jobs })) (new_job q p (Stored w.calls q))) in
    let with_job : Job → Option World = λ j. Some (after_open_call w q x (Send (record { number = w.calls; pool = p; job = w.jobs })) j) in
    rw (free, k, m) (ap to (sym ex) ∙ ap with_job (sym ej))

pub joined-is : (w : World) (p i : ℕ) (x : Place) (first second : Job) → x ≡ (w.stack (Worker p i)).top → is_free x ≡ true → first ≡ new_job (Worker p i) p Direct → second ≡ new_job (Worker p i) p (Stored w.calls (Worker p i)) → after_join w (Worker p i) (w.stack (Worker p i)) ≡ Some (after_open_join w (Worker p i) x (Fork (record { number = w.calls; pool = p; job = w.jobs + 1 }) w.jobs) first second)
joined-is w p i x first second ex f ea eb =
    let free : is_free (w.stack (Worker p i)).top ≡ true = ap is_free (sym ex) ∙ f in
    let plan = Fork (record { number = w.calls; pool = p; job = w.jobs + 1 }) w.jobs in
    let to : Place → Option World = λ y. Some (after_open_join w (Worker p i) y plan (new_job (Worker p i) p Direct) (new_job (Worker p i) p (Stored w.calls (Worker p i)))) in
    let with_first : Job → Option World = λ j. Some (after_open_join w (Worker p i) x plan j (new_job (Worker p i) p (Stored w.calls (Worker p i)))) in
    let with_second : Job → Option World = λ j. Some (after_open_join w (Worker p i) x plan first j) in
    rw free (ap to (sym ex) ∙ ap with_first (sym ea) ∙ ap with_second (sym eb))

pub cast-is : (w : World) (q : Party) (p : ℕ) (x : Place) (c : Pieces) → x ≡ (w.stack q).top → is_free x ≡ true → is_pool w.shape p ≡ true → c ≡ record { count = OfPool p; pool = p; first = w.jobs; workers = (w.shape.pool p).workers } → after_cast w q p (w.stack q) ≡ Some (after_open_cast w q x c)
cast-is w q p x c ex f k ec =
    let free : is_free (w.stack q).top ≡ true = ap is_free (sym ex) ∙ f in
    let all : Pieces = record { count = OfPool p; pool = p; first = w.jobs; workers = (w.shape.pool p).workers } in
    let to : Place → Option World = λ y. Some (after_open_cast w q y all) in
    let with : Pieces → Option World = λ b. Some (after_open_cast w q x b) in
    rw (free, k) (ap to (sym ex) ∙ ap with (sym ec))

pub fed-is : (w : World) (p i : ℕ) (x : Place) (job token : Job) → x ≡ (w.stack (Worker p i)).top → is_free x ≡ true → is_pool w.shape p ≡ true → job ≡ new_job (Worker p i) p (Detached p) → token ≡ new_job (Worker p i) p (TokenOf i None) → after_own_fifo w p i ≡ Some (after_open_feed w (Worker p i) x (Feed (record { count = OfPool p; pool = p; job = w.jobs; token = w.jobs + 1 })) job token)
fed-is w p i x job token ex f k ea eb =
    let free : is_free (w.stack (Worker p i)).top ≡ true = ap is_free (sym ex) ∙ f in
    let plan = Feed (record { count = OfPool p; pool = p; job = w.jobs; token = w.jobs + 1 }) in
    let to : Place → Option World = λ y. Some (after_open_feed w (Worker p i) y plan (new_job (Worker p i) p (Detached p)) (new_job (Worker p i) p (TokenOf i None))) in
    let with_job : Job → Option World = λ j. Some (after_open_feed w (Worker p i) x plan j (new_job (Worker p i) p (TokenOf i None))) in
    let with_token : Job → Option World = λ j. Some (after_open_feed w (Worker p i) x plan job j) in
    rw (free, k) (ap to (sym ex) ∙ ap with_job (sym ea) ∙ ap with_token (sym eb))

-- a worker's FIFO spawn at its own pool, and at another
pub own-fifo-is : (w : World) (q : Party) (p r i : ℕ) → q ≡ Worker r i → (r == p) ≡ true → after_fifo w q p (w.stack q) ≡ after_own_fifo w p i
own-fifo-is w q p r i e z =
    let same : r ≡ p = eqb-true r p z in
    ap (λ n. after_fifo w n p (w.stack n)) e ∙ rw z (ap (λ n. if is_free (w.stack (Worker n i)).top && is_pool w.shape p then Some (after_feed w (OfPool p) p i (w.stack (Worker n i))) else None) same)

pub given-is : (w : World) (q : Party) (p : ℕ) (x : Place) → x ≡ (w.stack q).top → is_free x ≡ true → is_pool w.shape p ≡ true → (w.pool p).held ≡ true → after_end_pool w q p (w.stack q) ≡ Some (record w { stack = put_stack w.stack q (after_move (Enter x (LowerCount (OfPool p) PoolValue Resume)) (w.stack q).below); pool = put w.pool p (record (w.pool p) { held = false }) })
given-is w q p x ex f k h =
    let free : is_free (w.stack q).top ≡ true = ap is_free (sym ex) ∙ f in
    let to : Place → Option World = λ y. Some (record w { stack = put_stack w.stack q (after_move (Enter y (LowerCount (OfPool p) PoolValue Resume)) (w.stack q).below); pool = put w.pool p (record (w.pool p) { held = false }) }) in
    rw (free, k, h) (ap to (sym ex))

pub ended-is : (w : World) (q : Party) (e : Ending) (t : ℕ) (k : JobKind) → Run t k ≡ (w.stack q).top → after_end w q e (w.stack q) (w.stack q).top ≡ Some (record w { stack = put_stack w.stack q (after_close t k e (w.stack q).below); job = put w.job t (at_job (w.job t) (Over e)) })
ended-is w q e t k ex =
    let to : Place → Option World = λ y. after_end w q e (w.stack q) y in
    ap to (sym ex)

pub scoped-is : (w : World) (q : Party) (p : ℕ) (x : Place) (body : Job) → x ≡ (w.stack q).top → is_free x ≡ true → is_pool w.shape p ≡ true → body ≡ new_job q p (BodyOf w.calls q) → after_scope w q p (w.stack q) ≡ Some (after_open_scope w q x (Open (record { number = w.calls; pool = p; job = w.jobs })) body (record { call = w.calls; pool = p; owner = q }))
scoped-is w q p x body ex f k ej =
    let free : is_free (w.stack q).top ≡ true = ap is_free (sym ex) ∙ f in
    let scope : Scope = record { call = w.calls; pool = p; owner = q } in
    let to : Place → Option World = λ y. Some (after_open_scope w q y (Open (record { number = w.calls; pool = p; job = w.jobs })) (new_job q p (BodyOf w.calls q)) scope) in
    let with_body : Job → Option World = λ j. Some (after_open_scope w q x (Open (record { number = w.calls; pool = p; job = w.jobs })) j scope) in
    rw (free, k) (ap to (sym ex) ∙ ap with_body (sym ej))

pub entered-is : (w : World) (q : Party) (z : Scope) (x : Place) (job : Job) → x ≡ (w.stack q).top → is_free x ≡ true → holds z.call (w.stack q) ≡ true → job ≡ new_job q z.pool (Scoped z.call z.owner) → after_enter w q (w.stack q) (Some z) ≡ Some (after_open_job w q x (Enter (record { call = z.call; owner = z.owner; pool = z.pool; job = w.jobs })) job)
entered-is w q z x job ex f k ej =
    let free : is_free (w.stack q).top ≡ true = ap is_free (sym ex) ∙ f in
    let plan : Plan = Enter (record { call = z.call; owner = z.owner; pool = z.pool; job = w.jobs }) in
    let to : Place → Option World = λ y. Some (after_open_job w q y plan (new_job q z.pool (Scoped z.call z.owner))) in
    let with_job : Job → Option World = λ j. Some (after_open_job w q x plan j) in
    rw (free, k) (ap to (sym ex) ∙ ap with_job (sym ej))

pub fed-into-is : (w : World) (z : Scope) (i : ℕ) (x : Place) (job token : Job) → x ≡ (w.stack (Worker z.pool i)).top → is_free x ≡ true → holds z.call (w.stack (Worker z.pool i)) ≡ true → job ≡ new_job (Worker z.pool i) z.pool (Scoped z.call z.owner) → token ≡ new_job (Worker z.pool i) z.pool (TokenOf i (Some z.call)) → after_own_enter w z i ≡ Some (after_open_feed w (Worker z.pool i) x (Feed (record { count = OfScope z.call z.owner; pool = z.pool; job = w.jobs; token = w.jobs + 1 })) job token)
fed-into-is w z i x job token ex f k ea eb =
    let q : Party = Worker z.pool i in
    let free : is_free (w.stack q).top ≡ true = ap is_free (sym ex) ∙ f in
    let plan = Feed (record { count = OfScope z.call z.owner; pool = z.pool; job = w.jobs; token = w.jobs + 1 }) in
    let to : Place → Option World = λ y. Some (after_open_feed w q y plan (new_job q z.pool (Scoped z.call z.owner)) (new_job q z.pool (TokenOf i (Some z.call)))) in
    let with_job : Job → Option World = λ j. Some (after_open_feed w q x plan j (new_job q z.pool (TokenOf i (Some z.call)))) in
    let with_token : Job → Option World = λ j. Some (after_open_feed w q x plan job j) in
    rw (free, k) (ap to (sym ex) ∙ ap with_job (sym ea) ∙ ap with_token (sym eb))

-- a worker's spawn in order into a scope at its own pool
own-enter-is : (w : World) (q : Party) (z : Scope) (r i : ℕ) → q ≡ Worker r i → (r == z.pool) ≡ true → after_enter_fifo w q (w.stack q) (Some z) ≡ after_own_enter w z i
own-enter-is w q z r i e same =
    let is : r ≡ z.pool = eqb-true r z.pool same in
    ap (λ n. after_enter_fifo w n (w.stack n) (Some z)) e ∙ rw same (ap (λ n. if is_free (w.stack (Worker n i)).top && holds z.call (w.stack (Worker n i)) then Some (after_feed w (OfScope z.call z.owner) z.pool i (w.stack (Worker n i))) else None) is)

-- a spawn in order into a scope by a worker of its pool, and by another party
pub enters-own : (w : World) (q : Party) (z : Scope) → is_member q z.pool ≡ true → after_enter_fifo w q (w.stack q) (Some z) ≡ after_own_enter w z (own_index q)
enters-own w (Worker r i) z e = own-enter-is w (Worker r i) z r i refl e
enters-own w (Caller c) z e = cc

pub enters-other : (w : World) (q : Party) (z : Scope) → is_member q z.pool ≡ false → after_enter_fifo w q (w.stack q) (Some z) ≡ after_enter w q (w.stack q) (Some z)
enters-other w (Worker r i) z e = rw e refl
enters-other w (Caller c) z e = refl

pub cast-into-is : (w : World) (q : Party) (n : ℕ) (z : Scope) (x : Place) (c : Pieces) → slice_get w.scopes n ≡ Some z → x ≡ (w.stack q).top → is_free x ≡ true → holds z.call (w.stack q) ≡ true → c ≡ record { count = OfScope z.call z.owner; pool = z.pool; first = w.jobs; workers = (w.shape.pool z.pool).workers } → after_into_cast w q n (w.stack q) ≡ Some (after_open_cast w q x c)
cast-into-is w q n z x c ez ex f k ec =
    let free : is_free (w.stack q).top ≡ true = ap is_free (sym ex) ∙ f in
    let all : Pieces = record { count = OfScope z.call z.owner; pool = z.pool; first = w.jobs; workers = (w.shape.pool z.pool).workers } in
    let to : Place → Option World = λ y. Some (after_open_cast w q y all) in
    let with : Pieces → Option World = λ b. Some (after_open_cast w q x b) in
    rw (ez, free, k) (ap to (sym ex) ∙ ap with (sym ec))

-- the broadcast that waits which a party begins at a pool
abbrev pub gathered : World → Party → ℕ → Gathering
gathered w q p = record { call = record { number = w.calls; pool = p; job = w.jobs + (w.shape.pool p).workers }; pieces = record { count = OfCast w.calls q; pool = p; first = w.jobs; workers = (w.shape.pool p).workers } }

pub gather-is : (w : World) (q : Party) (p : ℕ) (x : Place) (g : Gathering) → x ≡ (w.stack q).top → is_free x ≡ true → is_pool w.shape p ≡ true → g ≡ gathered w q p → after_broadcast w q p (w.stack q) ≡ Some (after_open_gather w q x g)
gather-is w q p x g ex f k eg =
    let free : is_free (w.stack q).top ≡ true = ap is_free (sym ex) ∙ f in
    let to : Place → Option World = λ y. Some (after_open_gather w q y (gathered w q p)) in
    let with : Gathering → Option World = λ b. Some (after_open_gather w q x b) in
    rw (free, k) (ap to (sym ex) ∙ ap with (sym eg))
