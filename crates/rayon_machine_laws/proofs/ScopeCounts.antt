-- what is said of the count of each scope, and what a step that changes no count leaves of it
--
-- `ScopesHold` says: the share of a scope's body is in at most one place, and in none where it is not counted; a
-- scope's count is the sum of its shares; a body whose share is given back is over.
-- Of a broadcast that waits: while a piece is not dealt, or once it is handed back, shares wait in the call's count.
-- They are as many as the pool has workers.
-- A scope's count is as a pool's: the sum over its jobs with a share (`entry`), and one for its body. A job of a scope
-- keeps its share as a detached job does.
use Rattle.rayon_machine_laws.proofs.Acts.{JobCounted, CallCount, CallCounted, Undealt, writes_at, keeps}
use Rattle.rayon_machine_laws.proofs.Lost.{is_dealt}
use Rattle.std.proofs.Common.{arith, refl, sym, ◌∙◌, ap, subst, inl, inr}
use Rattle.std.specs.Prelude.{ℕ, Bool, true, false, ◌&&◌, ◌+◌, ◌-◌, ◌==◌, ◌≤◌, ◌<◌, nat_lt, if◌then◌else◌, List, ◌≡◌, IfSome, ◌||◌, [], ◌∷◌, nat_le}
use Rattle.std.proofs.lemmas.Bool.{eqb-true, ltb-true, ltb-false, le-leb, lt-ltb}
use Rattle.std.proofs.Math.Dec.{ltb}
use Rattle.rayon_machine_places.specs.declared.place.Party.{Party}
use Rattle.rayon_machine_places.specs.declared.place.JobKind.{JobKind}
use Rattle.rayon_machine_places.specs.declared.place.JobKind.TheVariants.{Detached, Stored, Direct, Scoped, TokenOf, BodyOf, PieceOf, WholeOf}
use Rattle.rayon_machine_places.specs.declared.place.Plan.{Plan}
use Rattle.rayon_machine_places.specs.declared.place.Plan.TheVariants.{Detach, Here, Send, Fork, Feed, Open, Enter, Gather}
use Rattle.rayon_machine_places.specs.declared.place.Count.{Count}
use Rattle.rayon_machine_places.specs.declared.place.Count.TheVariants.{OfPool, OfScope, OfCast}
use Rattle.rayon_machine_places.specs.declared.place.Share.TheVariants.{OfJob}
use Rattle.rayon_machine_places.specs.declared.place.Then.{Then}
use Rattle.rayon_machine_places.specs.declared.place.Pieces.{Pieces}
use Rattle.rayon_machine_places.specs.declared.place.Place.{Place}
use Rattle.rayon_machine_places.specs.declared.place.Place.TheVariants.{RaiseCount, LowerCount, RaiseForAll, LowerForAll, DealPieces, PushForAll}
use Rattle.rayon_machine_places.specs.declared.act.Seen.{Seen}
use Rattle.rayon_machine_runs.specs.declared.state.Whereabouts.TheVariants.{Nowhere}
use Rattle.rayon_machine_runs.specs.declared.state.Job.{Job}
use Rattle.rayon_machine_runs.specs.declared.state.Call.{Call}
use Rattle.rayon_machine_places.specs.declared.shape.PoolShape.{PoolShape}
use Rattle.rayon_machine_places.specs.Places.{same_party, plan_job, plan_count, act_of, next_of, count_kind}
use Rattle.rayon_machine_runs.specs.World.{Shape, Stack, World, Part, effect, count_call, call_more, call_less, body_stays}
use Rattle.rayon_machine_places.specs.Sleepers.{Counts}
use Rattle.rayon_machine_runs.specs.Steps.{put, put_stack, is_piece, after_move}
use Rattle.rayon_machine_runs.specs.Readers.{is_done}
use Rattle.rayon_machine_laws.specs.Once.{one}
use Rattle.rayon_machine_laws.specs.Counted.{is_scoped, is_of_scope, has_entry}
use Rattle.rayon_machine_laws.proofs.Frame.{either, same_party_true, put_same, stack_mine}
use Rattle.rayon_machine_laws.proofs.Claims.{call_unscoped, SaysPlan, SaysThen, SaysShare, is_part}
use Rattle.rayon_machine_laws.proofs.Later.{later_body}
use Rattle.rayon_machine_laws.proofs.ClaimActs.{Lasting}
use Rattle.rayon_machine_laws.proofs.Tokens.{Tokens, tokens_keep, sum_below}
use Rattle.rayon_machine_laws.proofs.ShareActs.{SharesHold, is_tally, one_most}
use Rattle.rayon_machine_laws.proofs.ShareRuns.{other_le}
use Rattle.rayon_machine_laws.proofs.ShareLowers.{owner_unscoped}
use Rattle.rayon_machine_laws.proofs.Bodies.{in_scope, body, bodies_in, all_bodies, body_move, spent, bodies, land_bodies}

abbrev pub piece_call : JobKind → ℕ
piece_call (PieceOf c o) = c
piece_call _ = 0

pub piece_in : (c : Pieces) (t : ℕ) → c.first ≤ t → t < c.first + c.workers → is_piece c t ≡ true
piece_in c t l m = let a : nat_le c.first t ≡ true = le-leb c.first t l in let b : nat_lt t (c.first + c.workers) ≡ true = lt-ltb t (c.first + c.workers) m in rw (a, b) refl

-- a job's share counts at its scope
abbrev pub entry : ℕ → Job → ℕ
entry c j = one (has_entry c j)

-- the job that stands for a broadcast that waits
abbrev pub is_whole : JobKind → Bool
is_whole (WholeOf c o) = true
is_whole _ = false

-- no share of a call's own is in its count: its body is over, or it has none
abbrev pub is_closed : Job → Bool
is_closed j = is_whole j.kind || is_done j.at

pub record Closed (w : World) (c : ℕ) : Type 0 where
  pub made : (w.call c).job + 1 ≤ w.jobs
  pub closed : is_closed (w.job (w.call c).job) ≡ true

-- a call that has a piece
pub record SomePiece (w : World) (c : ℕ) : Type 0 where
  pub job : ℕ
  pub owner : Party
  pub made : job + 1 ≤ w.jobs
  pub kind : (w.job job).kind ≡ PieceOf c owner

pub record ScopesHold (w : World) : Type 0 where
  pub shares : SharesHold w
  pub bodies : (c : ℕ) → Tokens (λ q. all_bodies c (w.stack q)) 0 (one (w.call c).counted)
  pub unopened : (c : ℕ) → w.calls ≤ c → (q : Party) → all_bodies c (w.stack q) ≡ 0
  pub whole : (c : ℕ) → w.calls ≤ c → (w.call c).counted ≡ true
  pub blank : (c : ℕ) → w.calls ≤ c → (w.call c).undealt ≡ 0
  pub sums : (c : ℕ) → sum_below w.jobs (λ t. entry c (w.job t)) + (one (w.call c).counted + (w.call c).undealt) ≡ (w.call c).count
  pub over : (c : ℕ) → c + 1 ≤ w.calls → (w.call c).counted ≡ false → Closed w c
  pub fresh : (t : ℕ) → t + 1 ≤ w.jobs → (c : ℕ) (o : Party) → (w.job t).kind ≡ PieceOf c o → is_dealt (w.job t).at ≡ false → (w.call c).undealt ≡ (w.shape.pool (w.job t).pool).workers
  pub some : (c : ℕ) → 1 ≤ (w.call c).undealt → SomePiece w c

-- a step leaves the pieces of broadcasts what they are
pub record PartsOn (w u : World) : Type 0 where
  pub jobs : w.jobs ≤ u.jobs
  pub shape : u.shape ≡ w.shape
  pub kinds : (t : ℕ) → t + 1 ≤ w.jobs → (u.job t).kind ≡ (w.job t).kind
  pub pools : (t : ℕ) → t + 1 ≤ w.jobs → (u.job t).pool ≡ (w.job t).pool
  pub back : (t : ℕ) → t + 1 ≤ u.jobs → is_part (u.job t).kind ≡ true → is_dealt (u.job t).at ≡ false → (t + 1 ≤ w.jobs) × (is_dealt (w.job t).at ≡ false)

pub fresh_on : (w u : World) → PartsOn w u → ((c : ℕ) → (u.call c).undealt ≡ (w.call c).undealt) → ScopesHold w → (t : ℕ) → t + 1 ≤ u.jobs → (c : ℕ) (o : Party) → (u.job t).kind ≡ PieceOf c o → is_dealt (u.job t).at ≡ false → (u.call c).undealt ≡ (u.shape.pool (u.job t).pool).workers
fresh_on w u n un h t m c o k l =
    let b : (t + 1 ≤ w.jobs) × (is_dealt (w.job t).at ≡ false) = n.back t m (ap is_part k) l in
    un c ∙ h.fresh t (b.0) c o (sym (n.kinds t (b.0)) ∙ k) (b.1) ∙ ap (λ x. (x.pool (w.job t).pool).workers) (sym n.shape) ∙ ap (λ p. (u.shape.pool p).workers) (sym (n.pools t (b.0)))

pub some_on : (w u : World) → PartsOn w u → ((c : ℕ) → (u.call c).undealt ≡ (w.call c).undealt) → ScopesHold w → (c : ℕ) → 1 ≤ (u.call c).undealt → SomePiece u c
some_on w u n un h c m =
    let x : SomePiece w c = h.some c (let e : (u.call c).undealt ≡ (w.call c).undealt = un c in omega (arith, e, m)) in
    record { job = x.job; owner = x.owner; made = (let a : x.job + 1 ≤ w.jobs = x.made in let b : w.jobs ≤ u.jobs = n.jobs in omega (arith, a, b)); kind = n.kinds (x.job) (x.made) ∙ x.kind }

pub or_second : (a b : Bool) → b ≡ true → (a || b) ≡ true
or_second true b e = refl
or_second false b e = e

pub closed_on : (j i : Job) → i.kind ≡ j.kind → (is_done j.at ≡ true → is_done i.at ≡ true) → is_closed j ≡ true → is_closed i ≡ true
closed_on j i k d e = by (is_whole j.kind) refl e
  where
    by : (b : Bool) → is_whole j.kind ≡ b → (b || is_done j.at) ≡ true → is_closed i ≡ true
    by true y e = ap (λ b. b || is_done i.at) (ap is_whole k ∙ y)
    by false y e = or_second (is_whole i.kind) (is_done i.at) (d e)

pub closed_last : (w u : World) → Lasting w u → (c : ℕ) → c + 1 ≤ w.calls → Closed w c → Closed u c
closed_last w u l c b x = record {
  made = (let a : (w.call c).job + 1 ≤ w.jobs = x.made in let d : w.jobs ≤ u.jobs = (l.later).jobs in let e : (u.call c).job ≡ (w.call c).job = l.targets c in omega (arith, a, d, e));
  closed = ap (λ t. is_closed (u.job t)) (l.targets c) ∙ closed_on (w.job (w.call c).job) (u.job (w.call c).job) (l.kinds ((w.call c).job)) (λ e. ap (λ t. is_done (u.job t).at) (sym (l.targets c)) ∙ later_body w u (l.later) c b e) (x.closed);
}

-- what is over is made
pub done_made : (w : World) → SharesHold w → (t : ℕ) → is_done (w.job t).at ≡ true → t + 1 ≤ w.jobs
done_made w h t e = elim (either (ltb t w.jobs)) [ inl y ↦ (let b : t < w.jobs = ltb-true t w.jobs y in omega (arith, b)) | inr y ↦ absurd (let n : (w.job t).at ≡ Nowhere = ((h.calls).jobs).unmade t (ltb-false t w.jobs y) in let k : is_done (w.job t).at ≡ false = ap is_done n in cc) ]

not_dealt : (b d : Bool) → (b ≡ true → d ≡ true) → d ≡ false → b ≡ false
not_dealt true d f e = sym (f refl) ∙ e
not_dealt false d f e = refl

-- an act leaves what was dealt dealt
abbrev pub DealtOn : World → World → Type 0
DealtOn w u = (t : ℕ) → is_part (w.job t).kind ≡ true → is_dealt (w.job t).at ≡ true → is_dealt (u.job t).at ≡ true

pub parts_last : (w u : World) → Lasting w u → DealtOn w u → u.jobs ≡ w.jobs → PartsOn w u
parts_last w u l de j = record {
  jobs = (l.later).jobs;
  shape = (l.later).shape;
  kinds = (l.later).kind;
  pools = (l.later).pool;
  back = λ t m p e. ((let a : t + 1 ≤ w.jobs = omega (arith, m, j) in a), not_dealt (is_dealt (w.job t).at) (is_dealt (u.job t).at) (de t (ap is_part (sym (l.kinds t)) ∙ p)) e);
}

pub parts_made : (w u : World) → w.jobs ≤ u.jobs → u.shape ≡ w.shape → ((t : ℕ) → t + 1 ≤ w.jobs → u.job t ≡ w.job t) → ((t : ℕ) → w.jobs ≤ t → t + 1 ≤ u.jobs → is_part (u.job t).kind ≡ false) → PartsOn w u
parts_made w u l sh jo nk = record {
  jobs = l;
  shape = sh;
  kinds = λ t b. ap (λ j. j.kind) (jo t b);
  pools = λ t b. ap (λ j. j.pool) (jo t b);
  back = λ t m p e. elim (either (ltb t w.jobs)) [
    | inl y ↦ (let b : t < w.jobs = ltb-true t w.jobs y in let a : t + 1 ≤ w.jobs = omega (arith, b) in (a, ap (λ j. is_dealt j.at) (sym (jo t a)) ∙ e))
    | inr y ↦ absurd (let a : is_part (u.job t).kind ≡ false = nk t (ltb-false t w.jobs y) m in let z : true ≡ false = sym p ∙ a in cc)
  ];
}

pub entry_same : (c : ℕ) (j i : Job) → j.counted ≡ i.counted → j.kind ≡ i.kind → entry c j ≡ entry c i
entry_same c j i a k = ap (λ b. one (b && is_of_scope c j.kind)) a ∙ ap (λ v. one (i.counted && is_of_scope c v)) k

pub entry_off : (c : ℕ) (j : Job) → j.counted ≡ false → entry c j ≡ 0
entry_off c j a = ap (λ b. one (b && is_of_scope c j.kind)) a

pub entry_on : (c : ℕ) (j : Job) (k : JobKind) → j.counted ≡ true → j.kind ≡ k → entry c j ≡ one (is_of_scope c k)
entry_on c j k a b = ap (λ d. one (d && is_of_scope c j.kind)) a ∙ ap (λ v. one (is_of_scope c v)) b

unscoped_of : (c : ℕ) (k : JobKind) → is_scoped k ≡ false → is_of_scope c k ≡ false
unscoped_of c (Scoped d o) z = cc
unscoped_of c (Detached p) z = refl
unscoped_of c (Stored d o) z = refl
unscoped_of c Direct z = refl
unscoped_of c (TokenOf i b8) z = refl
unscoped_of c (BodyOf c9 o9) z = refl
unscoped_of c (WholeOf c9 o9) z = refl
unscoped_of c (PieceOf c9 o9) z = cc

-- a job of no scope has a share of no scope's count
entry_flat : (c : ℕ) (j : Job) → is_scoped j.kind ≡ false → entry c j ≡ 0
entry_flat c j z = ap (λ b. one (j.counted && b)) (unscoped_of c (j.kind) z) ∙ none (j.counted)
  where
    none : (b : Bool) → one (b && false) ≡ 0
    none true = refl
    none false = refl

-- a share of this count is one of this call's
abbrev pub inside : ℕ → Count → Bool
inside c k = is_of_scope c (count_kind k)

pub scope_is : (c : ℕ) (k : Count) → one (inside c k) ≡ in_scope c k
scope_is c (OfPool p) = refl
scope_is c (OfScope d o) = refl
scope_is c (OfCast d o) = refl

-- what the job of a plan has in a scope's count, once its share is taken
pub plan_entry : (w : World) (q : Party) (n : Plan) (c : ℕ) (j : Job) → SaysPlan w q n → j.counted ≡ true → j.kind ≡ (w.job (plan_job n)).kind → entry c j ≡ in_scope c (plan_count n)
plan_entry w q (Detach p t) c j s a k = entry_on c j (Detached p) a (k ∙ s.kind)
plan_entry w q (Here p t) c j s a k = entry_on c j Direct a (k ∙ s.kind)
plan_entry w q (Send o) c j s a k = entry_flat c j (ap is_scoped k ∙ call_unscoped ((w.job o.job).kind) (o.number, q) ((s.0).kind))
plan_entry w q (Open o) c j s a k = entry_flat c j (ap is_scoped k ∙ call_unscoped ((w.job o.job).kind) (o.number, q) ((s.0).kind))
plan_entry w q (Fork o x) c j s a k = entry_flat c j (ap is_scoped k ∙ call_unscoped ((w.job o.job).kind) (o.number, q) ((s.0).kind))
plan_entry w q (Feed f) c j s a k = entry_on c j (count_kind f.count) a (k ∙ (s.0).kind) ∙ scope_is c f.count
plan_entry w q (Gather g) c j s a k = entry_on c j (WholeOf g.call.number q) a (k ∙ s.whole)
plan_entry w q (Enter e) c j s a k = entry_on c j (Scoped e.call e.owner) a (k ∙ (s.0).kind)

-- and one whose share is given back
pub share_entry : (w : World) (q : Party) (k : Count) (u c : ℕ) (n : Then) → SaysThen w q n → SaysShare w k (OfJob u) n → (w.job u).counted ≡ true → entry c (w.job u) ≡ in_scope c k
share_entry w q (OfPool r) u c n s a h = entry_on c (w.job u) ((w.job u).kind) h refl ∙ ap one (unscoped_of c ((w.job u).kind) (owner_unscoped w q u r n s (a.2)))
share_entry w q (OfScope d o) u c n s a h = entry_on c (w.job u) (Scoped d o) h (a.1)
share_entry w q (OfCast d o) u c n s a h = entry_on c (w.job u) (PieceOf d o) h (a.1)

-- a call's count with one share more, and with one less
pub more_at : (C : ℕ → Call) (k : Count) (n c : ℕ) → (put C (count_call k) (record (C (count_call k)) { count = call_more k n (C (count_call k)).count }) c).count ≡ (if inside c k then (C c).count + n else (C c).count)
more_at C (OfPool p) n c = put_same (λ v. v.count) C 0 (record (C 0) { count = (C 0).count }) c refl
more_at C (OfScope d o) n c = by (c == d) refl
  where
    by : (b : Bool) → (c == d) ≡ b → (if b then record (C d) { count = (C d).count + n } else C c).count ≡ (if b then (C c).count + n else (C c).count)
    by true e = ap (λ m. (C m).count + n) (sym (eqb-true c d e))
    by false e = refl
more_at C (OfCast d o) n c = by (c == d) refl
  where
    by : (b : Bool) → (c == d) ≡ b → (if b then record (C d) { count = (C d).count + n } else C c).count ≡ (if b then (C c).count + n else (C c).count)
    by true e = ap (λ m. (C m).count + n) (sym (eqb-true c d e))
    by false e = refl

pub less_of : (C : ℕ → Call) (k : Count) (n c : ℕ) → (put C (count_call k) (record (C (count_call k)) { count = call_less k n (C (count_call k)).count }) c).count ≡ (if inside c k then (C c).count - n else (C c).count)
less_of C (OfPool p) n c = put_same (λ v. v.count) C 0 (record (C 0) { count = (C 0).count }) c refl
less_of C (OfScope d o) n c = by (c == d) refl
  where
    by : (b : Bool) → (c == d) ≡ b → (if b then record (C d) { count = (C d).count - n } else C c).count ≡ (if b then (C c).count - n else (C c).count)
    by true e = ap (λ m. (C m).count - n) (sym (eqb-true c d e))
    by false e = refl
less_of C (OfCast d o) n c = by (c == d) refl
  where
    by : (b : Bool) → (c == d) ≡ b → (if b then record (C d) { count = (C d).count - n } else C c).count ≡ (if b then (C c).count - n else (C c).count)
    by true e = ap (λ m. (C m).count - n) (sym (eqb-true c d e))
    by false e = refl

pub more_one : (b : Bool) (n : ℕ) → (if b then n + 1 else n) ≡ n + one b
more_one true n = refl
more_one false n = omega arith

pub less_at : (C : ℕ → Call) (k : Count) (u c : ℕ) → in_scope c k ≤ (C c).count → ((put C (count_call k) (record (C (count_call k)) { count = call_less k 1 (C (count_call k)).count; counted = body_stays (OfJob u) (C (count_call k)).counted }) c).count + in_scope c k) ≡ (C c).count
less_at C k u c h = let a : (put C (count_call k) (record (C (count_call k)) { count = call_less k 1 (C (count_call k)).count }) c).count ≡ (if inside c k then (C c).count - 1 else (C c).count) = less_of C k 1 c in let b : one (inside c k) ≡ in_scope c k = scope_is c k in by (inside c k) a b
  where
    by : (z : Bool) → (put C (count_call k) (record (C (count_call k)) { count = call_less k 1 (C (count_call k)).count }) c).count ≡ (if z then (C c).count - 1 else (C c).count) → one z ≡ in_scope c k
        → ((put C (count_call k) (record (C (count_call k)) { count = call_less k 1 (C (count_call k)).count }) c).count + in_scope c k) ≡ (C c).count
    by true a b = omega (arith, a, b, h)
    by false a b = omega (arith, a, b)

-- the bodies' shares where one party has moved, and has no more of them
pub bodies_still : (w u : World) (q : Party) (k : Stack) → ((r : Party) → u.stack r ≡ put_stack w.stack q k r) → ScopesHold w → (c : ℕ) → (u.call c).counted ≡ (w.call c).counted → all_bodies c k ≤ all_bodies c (w.stack q) → Tokens (λ r. all_bodies c (u.stack r)) 0 (one (u.call c).counted)
bodies_still w u q k st h c co le = subst (λ d. Tokens (λ r. all_bodies c (u.stack r)) 0 (one d)) (sym co)
    (tokens_keep (λ r. all_bodies c (w.stack r)) (λ r. all_bodies c (u.stack r)) 0 0 (one (w.call c).counted) q (one_most ((w.call c).counted))
    (λ r e. (let a : all_bodies c (u.stack r) ≡ all_bodies c (put_stack w.stack q k r) = ap (all_bodies c) (st r) in let b : all_bodies c (put_stack w.stack q k r) ≤ all_bodies c (w.stack r) = other_le (all_bodies c) w q k r e in omega (arith, a, b)))
    (let a : all_bodies c (u.stack q) ≡ all_bodies c k = ap (all_bodies c) (st q ∙ stack_mine w.stack q k) in omega (arith, a, le)) (h.bodies c))

pub unopened_still : (w u : World) (q : Party) (k : Stack) → ((r : Party) → u.stack r ≡ put_stack w.stack q k r) → ScopesHold w → (c : ℕ) → w.calls ≤ c → all_bodies c k ≤ all_bodies c (w.stack q) → (r : Party) → all_bodies c (u.stack r) ≡ 0
unopened_still w u q k st h c b le r = by (same_party r q) refl
  where
    by : (d : Bool) → same_party r q ≡ d → all_bodies c (u.stack r) ≡ 0
    by true e = let a : all_bodies c (u.stack r) ≡ all_bodies c k = ap (all_bodies c) (st r ∙ ap (put_stack w.stack q k) (same_party_true r q e) ∙ stack_mine w.stack q k) in let z : all_bodies c (w.stack q) ≡ 0 = h.unopened c b q in omega (arith, a, z, le)
    by false e = let a : all_bodies c (u.stack r) ≡ all_bodies c (put_stack w.stack q k r) = ap (all_bodies c) (st r) in let d : all_bodies c (put_stack w.stack q k r) ≤ all_bodies c (w.stack r) = other_le (all_bodies c) w q k r e in let z : all_bodies c (w.stack r) ≡ 0 = h.unopened c b r in
        omega (arith, a, d, z)

pub old_call : (w : World) → ScopesHold w → (c : ℕ) → (w.call c).counted ≡ false → c + 1 ≤ w.calls
old_call w h c e = elim (either (ltb c w.calls)) [ inl y ↦ (let b : c < w.calls = ltb-true c w.calls y in omega (arith, b)) | inr y ↦ absurd (let b : (w.call c).counted ≡ true = h.whole c (ltb-false c w.calls y) in cc) ]

-- where no scope's count changes
pub scopes_keep : (w u : World) (q : Party) (k : Stack) → ((r : Party) → u.stack r ≡ put_stack w.stack q k r) → w.calls ≤ u.calls → ((c : ℕ) → (u.call c).counted ≡ (w.call c).counted) → ((c : ℕ) → (u.call c).count ≡ (w.call c).count) → ((c : ℕ) → (u.call c).undealt ≡ (w.call c).undealt)
    → ((c : ℕ) → sum_below u.jobs (λ t. entry c (u.job t)) ≡ sum_below w.jobs (λ t. entry c (w.job t))) → ((c : ℕ) → all_bodies c k ≤ all_bodies c (w.stack q)) → ((c : ℕ) → c + 1 ≤ w.calls → Closed w c → Closed u c) → PartsOn w u → ScopesHold w → SharesHold u → ScopesHold u
scopes_keep w u q k st ca co cn un su le ov on h s = record {
  shares = s;
  bodies = λ c. bodies_still w u q k st h c (co c) (le c);
  unopened = λ c b. unopened_still w u q k st h c (omega (arith, b, ca)) (le c);
  whole = λ c b. co c ∙ h.whole c (omega (arith, b, ca));
  blank = λ c b. un c ∙ h.blank c (omega (arith, b, ca));
  sums = λ c. (let a : sum_below w.jobs (λ t. entry c (w.job t)) + (one (w.call c).counted + (w.call c).undealt) ≡ (w.call c).count = h.sums c in let b : one (u.call c).counted ≡ one (w.call c).counted = ap one (co c) in let d : (u.call c).count ≡ (w.call c).count = cn c in
      let f : (u.call c).undealt ≡ (w.call c).undealt = un c in let e : sum_below u.jobs (λ t. entry c (u.job t)) ≡ sum_below w.jobs (λ t. entry c (w.job t)) = su c in omega (arith, a, b, d, e, f));
  over = λ c b e. (let z : (w.call c).counted ≡ false = sym (co c) ∙ e in let d : c + 1 ≤ w.calls = old_call w h c z in ov c d (h.over c d z));
  fresh = fresh_on w u on un h;
  some = some_on w u on un h;
}

-- what a move leaves of the bodies' shares
pub le_after : (w : World) (q : Party) (x : Place) (fs : List Place) (g : PoolShape) (e : Seen) (c : ℕ) → w.stack q ≡ record { top = x; below = fs } → all_bodies c (after_move (next_of g q x e) fs) + spent c x ≤ all_bodies c (w.stack q)
le_after w q x fs g e c z = let a : all_bodies c (after_move (next_of g q x e) fs) ≤ body_move c (next_of g q x e) + bodies_in c fs = land_bodies c (next_of g q x e) fs in let b : body_move c (next_of g q x e) + spent c x ≤ body c x = bodies g q c x e in
    let d : all_bodies c (w.stack q) ≡ (body c x + bodies_in c fs) = ap (all_bodies c) z in omega (arith, a, b, d)

-- places whose acts change a count
abbrev pub is_counting : Place → Bool
is_counting (RaiseCount n) = true
is_counting (LowerCount k s n) = true
is_counting (RaiseForAll b) = true
is_counting (LowerForAll b) = true
is_counting (DealPieces g) = true
is_counting (PushForAll b) = true
is_counting _ = false

-- an act that changes no scope's count
pub record Uncalled (m : Part) (r : Seen × Part) : Type 0 where
  pub job : r.1.job.counted ≡ m.job.counted
  pub count : r.1.call.count ≡ m.call.count
  pub counted : r.1.call.counted ≡ m.call.counted
  pub undealt : r.1.call.undealt ≡ m.call.undealt

pub same_uncalled : (m : Part) (e : Seen) → Uncalled m (e, m)
same_uncalled m e = record { job = refl; count = refl; counted = refl; undealt = refl }

pub act_uncalled : (h : Shape) (q : Party) (c : Counts) (m : Part) (x : Place) → is_counting x ≡ false → IfSome (effect (act_of q x) h q c m) (Uncalled m)
act_uncalled h q c m x z = keeps h q c m Uncalled (JobCounted ∷ CallCount ∷ CallCounted ∷ Undealt ∷ []) x (writes_none x z) (λ r k. record { job = k.0; count = k.1.0; counted = k.1.1.0; undealt = k.1.1.1.0 })
  where
    writes_none : (x : Place) → is_counting x ≡ false → writes_at x (JobCounted ∷ CallCount ∷ CallCounted ∷ Undealt ∷ []) ≡ false
    writes_none (RaiseCount n) z = cc
    writes_none _ z = cc

-- a place that is none of these gives no share and takes none
pub tally_counting : (x : Place) → is_counting x ≡ false → is_tally x ≡ false
tally_counting (RaiseCount n) z = cc
tally_counting (LowerCount k s n) z = cc
tally_counting (RaiseForAll b) z = cc
tally_counting (LowerForAll b) z = cc
tally_counting (DealPieces g) z = cc
tally_counting (PushForAll b) z = cc
tally_counting _ z = refl

unspent : (c : ℕ) (x : Place) → is_counting x ≡ false → spent c x ≡ 0
unspent c (LowerCount k s n) z = cc
unspent c _ z = refl
