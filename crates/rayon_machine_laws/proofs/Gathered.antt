-- which fault a broadcast that waits keeps: that of the piece of the lowest number that ended with one
use Rattle.std.proofs.Common.{arith, refl, sym, ◌∙◌, ap, subst, inl, inr}
use Rattle.std.specs.Prelude.{ℕ, zero, suc, Bool, true, false, ◌+◌, ◌==◌, ◌≤◌, ◌<◌, if◌then◌else◌, Option, Some, None, List, ◌≡◌, IfSome, ◌⊎◌}
use Rattle.std.proofs.lemmas.Bool.{eqb-true, ltb-true, ltb-false}
use Rattle.std.proofs.Math.Dec.{ltb}
use Rattle.rayon_machine_places.specs.declared.place.Party.{Party}
use Rattle.rayon_machine_places.specs.declared.place.Party.TheVariants.{Worker, Caller}
use Rattle.rayon_machine_places.specs.declared.place.Ending.{Ending}
use Rattle.rayon_machine_places.specs.declared.place.Ending.TheVariants.{Fine, Fault}
use Rattle.rayon_machine_places.specs.declared.place.JobKind.{JobKind}
use Rattle.rayon_machine_places.specs.declared.place.JobKind.TheVariants.{Scoped, BodyOf, PieceOf, WholeOf}
use Rattle.rayon_machine_places.specs.declared.place.Count.TheVariants.{OfPool, OfScope, OfCast}
use Rattle.rayon_machine_places.specs.declared.place.Share.TheVariants.{PoolValue, Body, OfJob}
use Rattle.rayon_machine_places.specs.declared.place.Then.{Then}
use Rattle.rayon_machine_places.specs.declared.place.Then.TheVariants.{Resume}
use Rattle.rayon_machine_places.specs.declared.place.Place.{Place}
use Rattle.rayon_machine_places.specs.declared.place.Place.TheVariants.{LowerCount, StoreResult, StoreBody, StoreSlot, StorePiece}
use Rattle.rayon_machine_places.specs.declared.place.Move.{Move}
use Rattle.rayon_machine_places.specs.declared.place.OpenCall.{OpenCall}
use Rattle.rayon_machine_places.specs.declared.act.Seen.{Seen}
use Rattle.rayon_machine_runs.specs.declared.state.Whereabouts.TheVariants.{Made, Over, Spent}
use Rattle.rayon_machine_runs.specs.declared.state.Job.{Job}
use Rattle.rayon_machine_runs.specs.declared.state.Call.{Call}
use Rattle.rayon_machine_places.specs.Places.{act_of, next_of, same_party}
use Rattle.rayon_machine_runs.specs.World.{World, counts_at, Part}
use Rattle.rayon_machine_places.specs.Targets.{target_pool, target_call}
use Rattle.rayon_machine_runs.specs.Steps.{put, after_move}
use Rattle.rayon_machine_runs.specs.Readers.{is_done}
use Rattle.rayon_machine_laws.specs.Once.{one}
use Rattle.rayon_machine_laws.specs.Shares.{is_scoped}
use Rattle.rayon_machine_laws.proofs.Frame.{either, if_some_and, if_some_map, put_new, put_old}
use Rattle.rayon_machine_laws.proofs.Ties.{AllFrames, job_at, outcome}
use Rattle.rayon_machine_laws.proofs.Tops.{Tops, FramesOk, top_after}
use Rattle.rayon_machine_laws.proofs.Feeds.{fed, fed_in, all_fed, fed_move, feds}
use Rattle.rayon_machine_laws.proofs.Claims.{SaysThen, SaysShare, Says, Tied, is_body}
use Rattle.rayon_machine_laws.proofs.ClaimActs.{Lasting}
use Rattle.rayon_machine_laws.proofs.ClaimRuns.{CallsHold, world_after, place_part, top_says}
use Rattle.rayon_machine_laws.proofs.ShareSteps.{Ready}
use Rattle.rayon_machine_laws.proofs.ShareEvents.{ready}
use Rattle.rayon_machine_laws.proofs.ShareLowers.{owner_unscoped}
use Rattle.rayon_machine_laws.proofs.Scoping.{ScopesHold}
use Rattle.rayon_machine_laws.proofs.Storing.{lowers_piece, stores_piece, faulted, is_faulted, Unended, act_unended, land_faulted, lowers_job, Unlowered, act_unlowered, unshares, land_counted, unshared_none, blame_of, is_other, is_result, Storing, act_storing, number_is, Leads, none_leads, act_leads, frame_unpieced}

-- a broadcast keeps the fault of this piece, or of one before it
pub record Least (w : World) (c t : ℕ) : Type 0 where
  pub job : ℕ
  pub kept : (w.call c).fault ≡ Some job
  pub low : job ≤ t

-- a piece of a broadcast that has ended with a fault
pub record Blamed (w : World) (c t : ℕ) : Type 0 where
  pub owner : Party
  pub made : t + 1 ≤ w.jobs
  pub kind : (w.job t).kind ≡ PieceOf c owner
  pub at : (w.job t).at ≡ Over Fault

abbrev pub is_whole_kind : JobKind → Bool
is_whole_kind (WholeOf c o) = true
is_whole_kind _ = false

-- what holds of the faults of broadcasts that wait, in every world. The number that stands for one never runs; the
-- fault that is kept is a piece's; a piece that ended with one, and whose ending is stored, is no lower than it; and a
-- cell that tells a fault tells of one that is kept
pub record GathersHold (w : World) : Type 0 where
  pub scopes : ScopesHold w
  pub frames : FramesOk w
  pub target : (c : ℕ) → c + 1 ≤ w.calls → (w.call c).job + 1 ≤ w.jobs
  pub spent : (t c : ℕ) (o : Party) → t + 1 ≤ w.jobs → (w.job t).kind ≡ WholeOf c o → (w.job t).at ≡ Spent
  pub kept : (c t n : ℕ) (o : Party) → c + 1 ≤ w.calls → (w.job (w.call c).job).kind ≡ WholeOf n o → (w.call c).fault ≡ Some t → Blamed w c t
  pub lowest : (t c : ℕ) (o : Party) → t + 1 ≤ w.jobs → (w.job t).kind ≡ PieceOf c o → (w.job t).at ≡ Over Fault → (w.job t).counted ≡ false → Least w c t
  pub lowers : (q : Party) (c t : ℕ) → lowers_piece (w.stack q).top ≡ Some (c, t) → (w.job t).at ≡ Over Fault → Least w c t
  pub cell : (c n : ℕ) (o : Party) → c + 1 ≤ w.calls → (w.job (w.call c).job).kind ≡ WholeOf n o → (w.call c).cell ≡ Some Fault → (w.call c).fault ≡ None → ⊥

pub calls_of : (w : World) → GathersHold w → CallsHold w
calls_of w h = ((h.scopes).shares).calls

-- what was so of a call's fault before
pub record WasKept (w : World) (c t n : ℕ) (o : Party) : Type 0 where
  pub call : c + 1 ≤ w.calls
  pub kind : (w.job (w.call c).job).kind ≡ WholeOf n o
  pub fault : (w.call c).fault ≡ Some t

pub record WasCell (w : World) (c n : ℕ) (o : Party) : Type 0 where
  pub call : c + 1 ≤ w.calls
  pub kind : (w.job (w.call c).job).kind ≡ WholeOf n o
  pub cell : (w.call c).cell ≡ Some Fault
  pub fault : (w.call c).fault ≡ None

pub record WasEnded (w : World) (t c : ℕ) (o : Party) : Type 0 where
  pub made : t + 1 ≤ w.jobs
  pub kind : (w.job t).kind ≡ PieceOf c o
  pub at : (w.job t).at ≡ Over Fault
  pub counted : (w.job t).counted ≡ false

-- what a step leaves of that
pub record Passes (w u : World) : Type 0 where
  pub jobs : w.jobs ≤ u.jobs
  pub target : (c : ℕ) → c + 1 ≤ u.calls → (u.call c).job + 1 ≤ u.jobs
  pub kinds : (t : ℕ) → t + 1 ≤ w.jobs → (u.job t).kind ≡ (w.job t).kind
  pub over : (t : ℕ) (e : Ending) → (w.job t).at ≡ Over e → (u.job t).at ≡ Over e
  pub gone : (t : ℕ) → (w.job t).at ≡ Spent → (u.job t).at ≡ Spent
  pub fault : (c t : ℕ) → c + 1 ≤ w.calls → Least w c t → Least u c t
  pub whole : (t c : ℕ) (o : Party) → w.jobs ≤ t → t + 1 ≤ u.jobs → (u.job t).kind ≡ WholeOf c o → (u.job t).at ≡ Spent
  pub kept : (c t n : ℕ) (o : Party) → c + 1 ≤ u.calls → (u.job (u.call c).job).kind ≡ WholeOf n o → (u.call c).fault ≡ Some t → WasKept w c t n o ⊎ Blamed u c t
  pub cell : (c n : ℕ) (o : Party) → c + 1 ≤ u.calls → (u.job (u.call c).job).kind ≡ WholeOf n o → (u.call c).cell ≡ Some Fault → (u.call c).fault ≡ None → WasCell w c n o
  pub ended : (t c : ℕ) (o : Party) → t + 1 ≤ u.jobs → (u.job t).kind ≡ PieceOf c o → (u.job t).at ≡ Over Fault → (u.job t).counted ≡ false → WasEnded w t c o ⊎ Least u c t
  pub lowers : (q : Party) (c t : ℕ) → lowers_piece (u.stack q).top ≡ Some (c, t) → (u.job t).at ≡ Over Fault → ((lowers_piece (w.stack q).top ≡ Some (c, t)) × ((w.job t).at ≡ Over Fault)) ⊎ Least u c t

piece_says : (w : World) (q : Party) (x : Place) (c t : ℕ) → lowers_piece x ≡ Some (c, t) → Says w q x → c + 1 ≤ w.calls
piece_says w q (LowerCount (OfCast d o) (OfJob u) Resume) c t e s = subst (λ n. n + 1 ≤ w.calls) (let i : ◌≡◌ {A = ℕ × ℕ} (d, u) (c, t) = cc in ap (λ v. v.0) i) ((s.1).2)
piece_says w q (LowerCount (OfPool p) a Resume) c t e s = cc
piece_says w q (LowerCount (OfScope p b) a Resume) c t e s = cc
piece_says w q (LowerCount (OfCast p b) PoolValue Resume) c t e s = cc
piece_says w q (LowerCount (OfCast p b) Body Resume) c t e s = cc
piece_says w q _ c t e s = cc

pub piece_done : (w : World) (q : Party) (x : Place) (c t : ℕ) → lowers_piece x ≡ Some (c, t) → Says w q x → is_done (w.job t).at ≡ true
piece_done w q (LowerCount (OfCast d o) (OfJob u) Resume) c t e s = subst (λ n. is_done (w.job n).at ≡ true) (let i : ◌≡◌ {A = ℕ × ℕ} (d, u) (c, t) = cc in ap (λ v. v.1) i) ((s.1).3)
piece_done w q (LowerCount (OfPool p) a Resume) c t e s = cc
piece_done w q (LowerCount (OfScope p b) a Resume) c t e s = cc
piece_done w q (LowerCount (OfCast p b) PoolValue Resume) c t e s = cc
piece_done w q (LowerCount (OfCast p b) Body Resume) c t e s = cc
piece_done w q _ c t e s = cc

pub gathers_pass : (w u : World) → GathersHold w → ScopesHold u → FramesOk u → Passes w u → GathersHold u
gathers_pass w u h s f p = record {
  scopes = s;
  frames = f;
  target = p.target;
  spent = λ t c o b k. elim (either (ltb t w.jobs)) [
    | inl y ↦ (let d : t < w.jobs = ltb-true t w.jobs y in let m : t + 1 ≤ w.jobs = omega (arith, d) in p.gone t (h.spent t c o m (sym (p.kinds t m) ∙ k)))
    | inr y ↦ p.whole t c o (ltb-false t w.jobs y) b k
  ];
  kept = λ c t n o b k e. elim (p.kept c t n o b k e) [ inl x ↦ blamed c t (h.kept c t n o (x.call) (x.kind) (x.fault)) | inr x ↦ x ];
  lowest = λ t c o b k a d. elim (p.ended t c o b k a d) [ inl x ↦ p.fault c t (((calls_of w h).parts t (x.made) c o (x.kind)).number) (h.lowest t c o (x.made) (x.kind) (x.at) (x.counted)) | inr x ↦ x ];
  lowers = λ q c t e a. elim (p.lowers q c t e a) [ inl x ↦ p.fault c t (piece_says w q ((w.stack q).top) c t (x.0) (((calls_of w h).says q).top)) (h.lowers q c t (x.0) (x.1)) | inr x ↦ x ];
  cell = λ c n o b k e z. (let x : WasCell w c n o = p.cell c n o b k e z in h.cell c n o (x.call) (x.kind) (x.cell) (x.fault));
}
  where
    blamed : (c t : ℕ) → Blamed w c t → Blamed u c t
    blamed c t x = record { owner = x.owner; made = (let a : t + 1 ≤ w.jobs = x.made in let b : w.jobs ≤ u.jobs = p.jobs in omega (arith, a, b)); kind = p.kinds t (x.made) ∙ x.kind; at = p.over t Fault (x.at) }

-- what an act leaves of all that
pub record Acts (w : World) (q : Party) (x : Place) (fs : List Place) (r : Seen × Part) : Type 0 where
  pub ready : Ready w q x fs r
  pub unended : Unended (place_part w q x) r
  pub unlowered : Unlowered (place_part w q x) x r
  pub storing : Storing x (place_part w q x) r
  pub leads : Tops (Leads x) (next_of (w.shape.pool (target_pool q (act_of q x))) q x (r.0))

blame_at : (x : Place) (t : ℕ) → blame_of x ≡ Some t → (c : ℕ) × ((o : Party) × (x ≡ StorePiece c o t Fault))
blame_at (StorePiece c o u Fault) t e = (c, (o, ap (λ n. StorePiece c o n Fault) (number_is u t e)))
blame_at (StorePiece c o u Fine) t e = absurd (cc)
blame_at _ t e = absurd (cc)

pair_is : (a b c d : ℕ) → ◌≡◌ {A = Option (ℕ × ℕ)} (Some (a, b)) (Some (c, d)) → (a ≡ c) × (b ≡ d)
pair_is a b c d e = let i : ◌≡◌ {A = ℕ × ℕ} (a, b) (c, d) = cc in (ap (λ v. v.0) i, ap (λ v. v.1) i)

-- a piece's fault that is stored is kept, or one before it is
least_of : (v : World) (n : ℕ) (k : Call) (d u c t : ℕ) → v.call n ≡ k → n ≡ d → ((j : ℕ) × ((k.fault ≡ Some j) × (j ≤ u))) → (d ≡ c) × (u ≡ t) → Least v c t
least_of v n k d u c t e i b p = record {
  job = b.0;
  kept = ap (λ m. (v.call m).fault) (sym (i ∙ p.0)) ∙ ap (λ y. y.fault) e ∙ (b.1).0;
  low = (let a : b.0 ≤ u = (b.1).1 in let f : u ≡ t = p.1 in omega (arith, a, f));
}

stored_least : (w v : World) (q : Party) (x : Place) (m : Part) (r : Seen × Part) (c t : ℕ) → Says w q x → Storing x m r → ((t : ℕ) (e : Ending) → (w.job t).at ≡ Over e → (v.job t).at ≡ Over e) → v.call (target_call (act_of q x)) ≡ r.1.call → stores_piece x ≡ Some (c, t) → (v.job t).at ≡ Over Fault → Least v c t
stored_least w v (Worker i j) (StorePiece d o u Fault) m r c t s k ov ca e y = least_of v d (r.1.call) d u c t ca refl (k.stored u refl) (pair_is d u c t e)
stored_least w v (Caller i) (StorePiece d o u Fault) m r c t s k ov ca e y = least_of v d (r.1.call) d u c t ca refl (k.stored u refl) (pair_is d u c t e)
stored_least w v q (StorePiece d o u Fine) m r c t s k ov ca e y = absurd (let p : (d ≡ c) × (u ≡ t) = pair_is d u c t e in let a : (v.job u).at ≡ Over Fine = ov u Fine (s.3) in let b : Over Fine ≡ Over Fault = sym a ∙ ap (λ n. (v.job n).at) (p.1) ∙ y in cc)
stored_least w v q _ m r c t s k ov ca e y = absurd (cc)

pub acts_pass : (w : World) (q : Party) (x : Place) (fs : List Place) (r : Seen × Part) → GathersHold w → Acts w q x fs r → Passes w (world_after w q x fs r)
acts_pass w q x fs r h a = record {
  jobs = omega arith;
  target = λ c b. (let i : (v.call c).job ≡ (w.call c).job = l.targets c in let j : (w.call c).job + 1 ≤ w.jobs = h.target c b in omega (arith, i, j));
  kinds = λ t b. l.kinds t;
  over = (l.later).over;
  gone = (l.later).gone;
  fault = λ c t b y. lesser c t y (c == c0) refl;
  whole = λ t c o b m k. absurd (omega (arith, b, m));
  kept = λ c t n o b k e. kept c t n o b k (c == c0) refl e;
  cell = λ c n o b k e f. cell c n o b k (c == c0) refl e f;
  ended = λ t c o b k y z. ended t c o b k y z;
  lowers = λ s c t e y. lowers s c t (same_party s q) refl e y;
}
  where
    v : World
    v = world_after w q x fs r

    d : Ready w q x fs r
    d = a.ready

    l : Lasting w v
    l = d.last

    z : w.stack q ≡ record { top = x; below = fs }
    z = d.stack

    c0 : ℕ
    c0 = target_call (act_of q x)

    n0 : ℕ
    n0 = job_at w q (act_of q x)

    g : Move
    g = next_of (w.shape.pool (target_pool q (act_of q x))) q x (r.0)

    J : ℕ → Job
    J = put w.job n0 (r.1.job)

    says : Says w q x
    says = top_says w q x fs (calls_of w h) z

    mine : (c : ℕ) → (c == c0) ≡ true → v.call c ≡ r.1.call
    mine c e = ap (put w.call c0 (r.1.call)) (eqb-true c c0 e) ∙ put_new w.call c0 (r.1.call)

    other : (c : ℕ) → (c == c0) ≡ false → v.call c ≡ w.call c
    other c e = put_old w.call c0 (r.1.call) c e

    was : (c : ℕ) → (c == c0) ≡ true → w.call c0 ≡ w.call c
    was c e = ap w.call (sym (eqb-true c c0 e))

    kind : (c n : ℕ) (o : Party) → (v.job (v.call c).job).kind ≡ WholeOf n o → (w.job (w.call c).job).kind ≡ WholeOf n o
    kind c n o k = sym (l.kinds ((w.call c).job)) ∙ ap (λ t. (v.job t).kind) (sym (l.targets c)) ∙ k

    lesser : (c t : ℕ) → Least w c t → (b : Bool) → (c == c0) ≡ b → Least v c t
    lesser c t y true e = let s : (j : ℕ) × ((r.1.call.fault ≡ Some j) × (j ≤ y.job)) = (a.storing).less (y.job) (ap (λ k. k.fault) (was c e) ∙ y.kept) in
        record { job = s.0; kept = ap (λ k. k.fault) (mine c e) ∙ (s.1).0; low = (let m : s.0 ≤ y.job = (s.1).1 in let n : y.job ≤ t = y.low in omega (arith, m, n)) }
    lesser c t y false e = record { job = y.job; kept = ap (λ k. k.fault) (other c e) ∙ y.kept; low = y.low }

    -- a scope's job, or its body, is no piece's call
    not_other : (x : Place) → is_other x ≡ true → Says w q x → (c n : ℕ) (o : Party) → c ≡ target_call (act_of q x) → (w.job (w.call c).job).kind ≡ WholeOf n o → ⊥
    not_other x e s c n o i k = by q x e s i
      where
        body : (y : OpenCall) (m : Ending) → (w.call y.number).job ≡ y.job → y.job + 1 ≤ w.jobs → (w.job y.job).at ≡ Over m → c ≡ y.number → ⊥
        body y m t b u i = absurd (let j : (w.call c).job ≡ y.job = ap (λ n. (w.call n).job) i ∙ t in let p : (w.job y.job).at ≡ Spent = h.spent (y.job) n o b (ap (λ n. (w.job n).kind) (sym j) ∙ k) in let f : Over m ≡ Spent = sym u ∙ p in cc)

        slot : (e : ℕ) (p : Party) (u : ℕ) → u + 1 ≤ w.jobs → (w.job u).kind ≡ Scoped e p → c ≡ e → ⊥
        slot e p u b s i = absurd (let y : Tied w e p = (calls_of w h).entries u b e p s in let f : BodyOf e p ≡ WholeOf n o = sym (y.kind) ∙ ap (λ n. (w.job (w.call n).job).kind) (sym i) ∙ k in cc)

        by : (q : Party) (x : Place) → is_other x ≡ true → Says w q x → c ≡ target_call (act_of q x) → ⊥
        by (Worker p i) (StoreBody y m) e s i2 = body y m (((s.0).0).target) (((s.0).0).made) (s.1) i2
        by (Caller p) (StoreBody y m) e s i2 = body y m (((s.0).0).target) (((s.0).0).made) (s.1) i2
        by (Worker p i) (StoreSlot e2 o2 u m) e s i2 = slot e2 o2 u (s.0) (s.1) i2
        by (Caller p) (StoreSlot e2 o2 u m) e s i2 = slot e2 o2 u (s.0) (s.1) i2
        by q x e s i2 = absurd (cc)

    not_result : (q : Party) (x : Place) → is_result x ≡ true → Says w q x → (c n : ℕ) (o : Party) → c ≡ target_call (act_of q x) → (w.job (w.call c).job).kind ≡ WholeOf n o → ⊥
    not_result (Worker p i) (StoreResult e o2 m) y s c n o j k = absurd (let f : is_body (w.job (w.call e).job).kind ≡ false = (s.2).1 in let b : is_body (w.job (w.call e).job).kind ≡ true = ap (λ n. is_body (w.job (w.call n).job).kind) (sym j) ∙ ap is_body k in let u : true ≡ false = sym b ∙ f in cc)
    not_result (Caller p) (StoreResult e o2 m) y s c n o j k = absurd (let f : is_body (w.job (w.call e).job).kind ≡ false = (s.2).1 in let b : is_body (w.job (w.call e).job).kind ≡ true = ap (λ n. is_body (w.job (w.call n).job).kind) (sym j) ∙ ap is_body k in let u : true ≡ false = sym b ∙ f in cc)
    not_result q x y s c n o j k = absurd (cc)

    -- the piece whose fault is stored
    stores : (q : Party) (x : Place) (c n t : ℕ) (o : Party) → Says w q x → x ≡ StorePiece n o t Fault → c ≡ target_call (act_of q x) → Blamed w c t
    stores q x c n t o s e i = by (subst (Says w q) e s) (i ∙ ap (λ y. target_call (act_of q y)) e)
      where
        at : (q : Party) → target_call (act_of q (StorePiece n o t Fault)) ≡ n
        at (Worker p i) = refl
        at (Caller p) = refl

        by : Says w q (StorePiece n o t Fault) → c ≡ target_call (act_of q (StorePiece n o t Fault)) → Blamed w c t
        by s i = record { owner = o; made = s.0; kind = s.1 ∙ ap (λ m. PieceOf m o) (sym (i ∙ at q)); at = s.3 }

    blamed : (c t : ℕ) → Blamed w c t → Blamed v c t
    blamed c t y = record { owner = y.owner; made = y.made; kind = l.kinds t ∙ y.kind; at = (l.later).over t Fault (y.at) }

    kept : (c t n : ℕ) (o : Party) → c + 1 ≤ w.calls → (v.job (v.call c).job).kind ≡ WholeOf n o → (b : Bool) → (c == c0) ≡ b → (v.call c).fault ≡ Some t → WasKept w c t n o ⊎ Blamed v c t
    kept c t n o m k false e y = inl (record { call = m; kind = kind c n o k; fault = ap (λ j. j.fault) (sym (other c e)) ∙ y })
    kept c t n o m k true e y = elim ((a.storing).new t (ap (λ j. j.fault) (sym (mine c e)) ∙ y)) [
      | inl f ↦ inl (record { call = m; kind = kind c n o k; fault = ap (λ j. j.fault) (sym (was c e)) ∙ f })
      | inr f ↦ elim f [
        | inl b ↦ inr (blamed c t (let s : (i : ℕ) × ((p : Party) × (x ≡ StorePiece i p t Fault)) = blame_at x t b in stores q x c (s.0) t ((s.1).0) says ((s.1).1) (eqb-true c c0 e)))
        | inr b ↦ absurd (not_other x b says c n o (eqb-true c c0 e) (kind c n o k))
      ]
    ]

    cell : (c n : ℕ) (o : Party) → c + 1 ≤ w.calls → (v.job (v.call c).job).kind ≡ WholeOf n o → (b : Bool) → (c == c0) ≡ b → (v.call c).cell ≡ Some Fault → (v.call c).fault ≡ None → WasCell w c n o
    cell c n o m k false e y f = record { call = m; kind = kind c n o k; cell = ap (λ j. j.cell) (sym (other c e)) ∙ y; fault = ap (λ j. j.fault) (sym (other c e)) ∙ f }
    cell c n o m k true e y f = elim ((a.storing).cell (ap (λ j. j.cell) (sym (mine c e)) ∙ y) (ap (λ j. j.fault) (sym (mine c e)) ∙ f)) [
      | inl s ↦ record { call = m; kind = kind c n o k; cell = ap (λ j. j.cell) (sym (was c e)) ∙ s.0; fault = ap (λ j. j.fault) (sym (was c e)) ∙ s.1 }
      | inr s ↦ absurd (not_result q x s says c n o (eqb-true c c0 e) (kind c n o k))
    ]

    before : (t : ℕ) → (v.job t).at ≡ Over Fault → (w.job t).at ≡ Over Fault
    before t y = is_faulted ((w.job t).at) (let b : faulted (v.job t).at ≡ 1 = ap faulted y in let c : faulted (v.job t).at ≤ faulted (J t).at = land_faulted q t g J in let e : faulted (J t).at ≤ faulted (w.job t).at = touched (t == n0) refl in omega (arith, b, c, e))
      where
        touched : (b : Bool) → (t == n0) ≡ b → faulted (if b then r.1.job else w.job t).at ≤ faulted (w.job t).at
        touched true e = subst (λ n. faulted r.1.job.at ≤ faulted (w.job n).at) (sym (eqb-true t n0 e)) (a.unended)
        touched false e = omega arith

    -- who takes the share of a piece that has ended, has stored its ending
    paying : (q : Party) (x : Place) → Says w q x → (w.stack q).top ≡ x → (t c : ℕ) (o : Party) → t ≡ job_at w q (act_of q x) → (w.job t).kind ≡ PieceOf c o → (w.job t).at ≡ Over Fault → 1 ≤ lowers_job x → Least w c t
    paying q x s e t c o i k y n = by q x s e i n
      where
        pool : (q : Party) (p u : ℕ) (m : Then) → SaysThen w q m × SaysShare w (OfPool p) (OfJob u) m → t ≡ u → ⊥
        pool q p u m s i = absurd (let f : is_scoped (w.job u).kind ≡ false = owner_unscoped w q u p m (s.0) ((s.1).2) in let b : is_scoped (w.job u).kind ≡ true = ap (λ n. is_scoped (w.job n).kind) (sym i) ∙ ap is_scoped k in let n : true ≡ false = sym b ∙ f in cc)

        scope : (q : Party) (d2 : ℕ) (p : Party) (u : ℕ) (m : Then) → SaysThen w q m × SaysShare w (OfScope d2 p) (OfJob u) m → t ≡ u → ⊥
        scope q d2 p u m s i = absurd (let f : PieceOf c o ≡ Scoped d2 p = sym k ∙ ap (λ n. (w.job n).kind) i ∙ (s.1).1 in cc)

        call_is : (a b : ℕ) (p s : Party) → PieceOf a p ≡ PieceOf b s → a ≡ b
        call_is a b p s e = cc

        cast : (q : Party) (d2 : ℕ) (p : Party) (u : ℕ) (m : Then) → SaysThen w q m × SaysShare w (OfCast d2 p) (OfJob u) m → (w.stack q).top ≡ LowerCount (OfCast d2 p) (OfJob u) m → t ≡ u → Least w c t
        cast q d2 p u m s e i =
            let f : d2 ≡ c = call_is d2 c p o (sym ((s.1).1) ∙ ap (λ n. (w.job n).kind) (sym i) ∙ k) in
            let n : lowers_piece (w.stack q).top ≡ Some (d2, u) = ap lowers_piece (e ∙ ap (LowerCount (OfCast d2 p) (OfJob u)) ((s.1).4)) in
            subst (λ c. Least w c t) f (subst (Least w d2) (sym i) (h.lowers q d2 u n (ap (λ n. (w.job n).at) (sym i) ∙ y)))

        by : (q : Party) (x : Place) → Says w q x → (w.stack q).top ≡ x → t ≡ job_at w q (act_of q x) → 1 ≤ lowers_job x → Least w c t
        by (Worker i j) (LowerCount (OfPool p) (OfJob u) m) s e b n = absurd (pool (Worker i j) p u m s b)
        by (Caller i) (LowerCount (OfPool p) (OfJob u) m) s e b n = absurd (pool (Caller i) p u m s b)
        by (Worker i j) (LowerCount (OfScope d2 p) (OfJob u) m) s e b n = absurd (scope (Worker i j) d2 p u m s b)
        by (Caller i) (LowerCount (OfScope d2 p) (OfJob u) m) s e b n = absurd (scope (Caller i) d2 p u m s b)
        by (Worker i j) (LowerCount (OfCast d2 p) (OfJob u) m) s e b n = cast (Worker i j) d2 p u m s e b
        by (Caller i) (LowerCount (OfCast d2 p) (OfJob u) m) s e b n = cast (Caller i) d2 p u m s e b
        by q x s e b n = absurd (omega (arith, n))

    ended : (t c : ℕ) (o : Party) → t + 1 ≤ w.jobs → (v.job t).kind ≡ PieceOf c o → (v.job t).at ≡ Over Fault → (v.job t).counted ≡ false → WasEnded w t c o ⊎ Least v c t
    ended t c o b k y u = by ((w.job t).counted) refl
      where
        at : (w.job t).at ≡ Over Fault
        at = before t y

        piece : (w.job t).kind ≡ PieceOf c o
        piece = sym (l.kinds t) ∙ k

        none : (n : ℕ) → all_fed t (w.stack q) ≡ n → all_fed t (w.stack q) ≤ 0
        none zero e = omega (arith, e)
        none (suc n) e = absurd (let m : (w.job t).at ≡ Made q = ((calls_of w h).jobs).feeds q t (let b : 1 ≤ all_fed t (w.stack q) = omega (arith, e) in b) in let f : Over Fault ≡ Made q = sym at ∙ m in cc)

        unfed : fed_move t g ≤ 0
        unfed = let m : fed_move t g ≤ fed t x = feds (w.shape.pool (target_pool q (act_of q x))) q t x (r.0) in let f : all_fed t (w.stack q) ≡ (fed t x + fed_in t fs) = ap (all_fed t) z in let n : all_fed t (w.stack q) ≤ 0 = none (all_fed t (w.stack q)) refl in omega (arith, m, f, n)

        landed : one (J t).counted ≤ 0
        landed = let m : one (J t).counted ≤ one (v.job t).counted + unshares t g = land_counted q t g J in let f : unshares t g ≤ 0 = unshared_none t g unfed in let n : one (v.job t).counted ≡ 0 = ap one u in omega (arith, m, f, n)

        here : (d2 : Bool) → (t == n0) ≡ d2 → one (if d2 then r.1.job else w.job t).counted ≤ 0 → (w.job t).counted ≡ true → Least w c t
        here true e m f = paying q x says (ap (λ k. k.top) z) t c o (eqb-true t n0 e) piece at (let i : one (w.job n0).counted ≡ 1 = ap (λ n. one (w.job n).counted) (sym (eqb-true t n0 e)) ∙ ap one f in let j : one (w.job n0).counted ≤ one r.1.job.counted + lowers_job x = a.unlowered in omega (arith, i, j, m))
        here false e m f = absurd (let i : one (w.job t).counted ≡ 1 = ap one f in omega (arith, i, m))

        by : (d2 : Bool) → (w.job t).counted ≡ d2 → WasEnded w t c o ⊎ Least v c t
        by false e = inl (record { made = b; kind = piece; at = at; counted = e })
        by true e = inr (let m : Least w c t = here (t == n0) refl landed e in lesser c t m (c == c0) refl)

    lowers : (s : Party) (c t : ℕ) (b : Bool) → same_party s q ≡ b → lowers_piece (if b then after_move g fs else w.stack s).top ≡ Some (c, t) → (v.job t).at ≡ Over Fault → ((lowers_piece (w.stack s).top ≡ Some (c, t)) × ((w.job t).at ≡ Over Fault)) ⊎ Least v c t
    lowers s c t false e y u = inl (y, before t u)
    lowers s c t true e y u = inr (stored_least w v q x (place_part w q x) r c t says (a.storing) ((l.later).over) (put_new w.call c0 (r.1.call)) (top_after (Leads x) g fs (a.leads) (λ f m n i j. none_leads x f (frame_unpieced f m) n i j) (subst (λ k. AllFrames (k.below)) z (h.frames q)) c t y) u)

pub go_passes : (w : World) (q : Party) → GathersHold w → IfSome (outcome w q (w.stack q)) (λ r. Passes w (world_after w q ((w.stack q).top) ((w.stack q).below) r))
go_passes w q h = let x = (w.stack q).top in let fs = (w.stack q).below in let o = outcome w q (w.stack q) in let m = place_part w q x in let c = counts_at w (target_pool q (act_of q x)) in
    if_some_map (λ r. (Ready w q x fs r × (Unended m r × Unlowered m x r)) × (Storing x m r × Tops (Leads x) (next_of (w.shape.pool (target_pool q (act_of q x))) q x (r.0)))) (λ r. Passes w (world_after w q x fs r))
    (λ r f. acts_pass w q x fs r h (record { ready = (f.0).0; unended = ((f.0).1).0; unlowered = ((f.0).1).1; storing = (f.1).0; leads = (f.1).1 })) o
    (if_some_and (λ r. Ready w q x fs r × (Unended m r × Unlowered m x r)) (λ r. Storing x m r × Tops (Leads x) (next_of (w.shape.pool (target_pool q (act_of q x))) q x (r.0))) o
    (if_some_and (Ready w q x fs) (λ r. Unended m r × Unlowered m x r) o (ready w q ((h.scopes).shares)) (if_some_and (Unended m) (Unlowered m x) o (act_unended w.shape q c m x) (act_unlowered w.shape q c m x)))
    (if_some_and (Storing x m) (λ r. Tops (Leads x) (next_of (w.shape.pool (target_pool q (act_of q x))) q x (r.0))) o (act_storing w.shape q c m x) (act_leads w.shape (w.shape.pool (target_pool q (act_of q x))) q c m x)))
