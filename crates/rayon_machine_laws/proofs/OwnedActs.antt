-- what is said of calls and their owners in every world, and what acts leave of it
use Rattle.rayon_machine_runs.specs.declared.state.Scope.{Scope}
use Rattle.std.proofs.Common.{arith, refl, sym, ◌∙◌, ap, subst}
use Rattle.std.specs.Prelude.{ℕ, Bool, true, false, ◌<◌, ◌≤◌, if◌then◌else◌, Option, Some, None, List, [], ◌∷◌, ◌≡◌, IfSome, ⊤, slice_get}
use Rattle.rayon_machine_places.specs.declared.place.Party.{Party}
use Rattle.rayon_machine_places.specs.declared.place.Party.TheVariants.{Worker, Caller}
use Rattle.rayon_machine_places.specs.declared.place.JobKind.{JobKind}
use Rattle.rayon_machine_places.specs.declared.place.JobKind.TheVariants.{Detached, Stored, Direct, TokenOf, Scoped, BodyOf, PieceOf, WholeOf}
use Rattle.rayon_machine_places.specs.declared.place.Taken.{Taken}
use Rattle.rayon_machine_places.specs.declared.place.Taken.TheVariants.{Plain, Token}
use Rattle.rayon_machine_places.specs.declared.place.Place.{Place}
use Rattle.rayon_machine_places.specs.declared.place.Place.TheVariants.{BeginTask, Run, SetLatch, Stopped, StoreBody}
use Rattle.rayon_machine_places.specs.declared.place.Move.{Move}
use Rattle.rayon_machine_places.specs.declared.place.Move.TheVariants.{Stay, Enter, StartRun, Back, HandBack, Discard, HandIn, Mark, HandAllBack}
use Rattle.rayon_machine_places.specs.declared.act.Seen.{Seen}
use Rattle.rayon_machine_places.specs.Places.{same_party, act_of, after_begin}
use Rattle.rayon_machine_runs.specs.World.{Shape, Stack, World, Part, effect, head_of}
use Rattle.rayon_machine_places.specs.Sleepers.{Counts}
use Rattle.rayon_machine_places.specs.Targets.{target_call, or_none}
use Rattle.rayon_machine_runs.specs.Steps.{put, after_move, part_of}
use Rattle.rayon_machine_laws.proofs.Acts.{Fixed as AsEver, writes_at, keeps}
use Rattle.rayon_machine_laws.proofs.Calm.{part_at, counts_seen, next_at}
use Rattle.rayon_machine_laws.proofs.Frame.{same_party_true, if_some_and, if_some_map, put_same, after_kind, out_sees, if_some_all}
use Rattle.rayon_machine_laws.proofs.Owners.{own_call, kind_call, sets_for, Both, NamesFrom, names_on, shown}
use Rattle.rayon_machine_laws.proofs.Ties.{job_at, shape_at, outcome, result}

-- the latch of the call of this number is set for this party
abbrev pub SetsFor : World → ℕ → Party → Type 0
SetsFor w c p = (c < w.calls) × (kind_call (w.job (w.call c).job).kind ≡ Some (c, p))

-- the call that a kind of job is of, and its owner: of a job that its call waits for, and of one of a scope
abbrev pub owner_of : JobKind → Option (ℕ × Party)
owner_of (Stored c o) = Some (c, o)
owner_of (Scoped c o) = Some (c, o)
owner_of (BodyOf c o) = Some (c, o)
owner_of (PieceOf c o) = Some (c, o)
owner_of (WholeOf c o) = Some (c, o)
owner_of _ = None

-- the call of this number was made by this party
abbrev pub Mine : World → Party → ℕ → Type 0
Mine w q c = (c < w.calls) × (owner_of (w.job (w.call c).job).kind ≡ Some (c, q))

pub record Names (w : World) (q : Party) (x : Place) : Type 0 where
  pub own : (c : ℕ) → own_call x ≡ Some c → Mine w q c
  pub sets : (c : ℕ) (p : Party) → sets_for x ≡ Some (c, p) → SetsFor w c p

abbrev pub AllNames : World → Party → List Place → Type 0
AllNames w q [] = ⊤
AllNames w q (f ∷ fs) = Names w q f × AllNames w q fs

pub record StackNames (w : World) (q : Party) (k : Stack) : Type 0 where
  pub top : Names w q k.top
  pub below : AllNames w q k.below

-- what holds of calls and their owners in each world
pub record Owned (w : World) : Type 0 where
  pub kinds : (t c : ℕ) (o : Party) → owner_of (w.job t).kind ≡ Some (c, o) → Mine w o c
  pub called : (c : ℕ) → c < w.calls → (w.call c).job < w.jobs
  pub scopes : (n : ℕ) (z : Scope) → slice_get w.scopes n ≡ Some z → Mine w z.owner z.call
  pub named : (q : Party) → StackNames w q (w.stack q)

-- calls and jobs that were there are as they were
pub record Grown (w u : World) : Type 0 where
  pub calls : w.calls ≤ u.calls
  pub call : (c : ℕ) → c < w.calls → (u.call c).job ≡ (w.call c).job
  pub kind : (t : ℕ) → t < w.jobs → (u.job t).kind ≡ (w.job t).kind

pub grown_mine : (w u : World) → Owned w → Grown w u → (q : Party) (c : ℕ) → Mine w q c → Mine u q c
grown_mine w u ow g q c m = (let a : c < w.calls = m.0 in let b : w.calls ≤ u.calls = g.calls in omega arith, ap (λ z. owner_of (u.job z).kind) (g.call c (m.0)) ∙ ap owner_of (g.kind ((w.call c).job) (ow.called c (m.0))) ∙ m.1)

pub grown_sets : (w u : World) → Owned w → Grown w u → (c : ℕ) (p : Party) → SetsFor w c p → SetsFor u c p
grown_sets w u ow g c p m = (let a : c < w.calls = m.0 in let b : w.calls ≤ u.calls = g.calls in omega arith, ap kind_call (ap (λ z. (u.job z).kind) (g.call c (m.0)) ∙ g.kind ((w.call c).job) (ow.called c (m.0))) ∙ m.1)

grown_names : (w u : World) → Owned w → Grown w u → (q : Party) (x : Place) → Names w q x → Names u q x
grown_names w u ow g q x n = record { own = λ c e. grown_mine w u ow g q c (n.own c e); sets = λ c p e. grown_sets w u ow g c p (n.sets c p e) }

grown_all : (w u : World) → Owned w → Grown w u → (q : Party) (fs : List Place) → AllNames w q fs → AllNames u q fs
grown_all w u ow g q [] a = tt
grown_all w u ow g q (f ∷ fs) a = (grown_names w u ow g q f (a.0), grown_all w u ow g q fs (a.1))

pub grown_stack : (w u : World) → Owned w → Grown w u → (q : Party) (k : Stack) → StackNames w q k → StackNames u q k
grown_stack w u ow g q k s = record { top = grown_names w u ow g q k.top s.top; below = grown_all w u ow g q k.below s.below }

pub from_names : (w : World) (q : Party) (x y : Place) → NamesFrom x y → Names w q x → Names w q y
from_names w q x y f n = record { own = λ c e. n.own c (f.0 c e); sets = λ c p e. n.sets c p (f.1 c p e) }

both_map : (P Q : Place → Type 0) → ((y : Place) → P y → Q y) → (g : Move) → Both P g → Both Q g
both_map P Q f (Stay y) t = f y t
both_map P Q f (HandIn y token) t = f y t
both_map P Q f (Mark y b9 m9) t = f y t
both_map P Q f (Enter x y) t = (f x (t.0), f y (t.1))
both_map P Q f (StartRun x n) t = (f x (t.0), f (Run n Direct) (t.1))
both_map P Q f Back t = tt
both_map P Q f (HandBack n) t = tt
both_map P Q f (Discard n) t = tt
both_map P Q f (HandAllBack b9) t = tt

pub nameless : (w : World) (q : Party) (x : Place) → own_call x ≡ None → sets_for x ≡ None → Names w q x
nameless w q x a b = record { own = λ c e. absurd (cc); sets = λ c p e. absurd (cc) }

land_names : (w : World) (q : Party) (g : Move) (fs : List Place) → Both (Names w q) g → AllNames w q fs → StackNames w q (after_move g fs)
land_names w q (Stay y) fs t a = record { top = t; below = a }
land_names w q (HandIn y token) fs t a = record { top = t; below = a }
land_names w q (Mark y b9 m9) fs t a = record { top = t; below = a }
land_names w q (Enter f y) fs t a = record { top = t.1; below = (t.0, a) }
land_names w q (StartRun f n) fs t a = record { top = t.1; below = (t.0, a) }
land_names w q Back [] t a = record { top = nameless w q Stopped refl refl; below = tt }
land_names w q Back (f ∷ fs) t a = record { top = a.0; below = a.1 }
land_names w q (HandBack n) [] t a = record { top = nameless w q Stopped refl refl; below = tt }
land_names w q (Discard n) [] t a = record { top = nameless w q Stopped refl refl; below = tt }
land_names w q (HandAllBack b9) [] t a = record { top = nameless w q Stopped refl refl; below = tt }
land_names w q (HandBack n) (f ∷ fs) t a = record { top = a.0; below = a.1 }
land_names w q (Discard n) (f ∷ fs) t a = record { top = a.0; below = a.1 }
land_names w q (HandAllBack b9) (f ∷ fs) t a = record { top = a.0; below = a.1 }

-- an act leaves a call's job and a job's kind
abbrev Fixed : Part → Seen × Part → Type 0
Fixed m r = (r.1.call.job ≡ m.call.job) × (r.1.job.kind ≡ m.job.kind)

act_fixed : (h : Shape) (q : Party) (c : Counts) (m : Part) (x : Place) → IfSome (effect (act_of q x) h q c m) (Fixed m)
act_fixed h q c m x = keeps h q c m Fixed (AsEver ∷ []) x (never x) (λ r k. (k.0.awaited, k.0.kind))
  where
    never : (x : Place) → writes_at x (AsEver ∷ []) ≡ false
    never (SetLatch s) = refl
    never _ = refl

act_calls : (w : World) (q : Party) (k : Stack) (r : Seen × Part) → Fixed (part_at w q k) r → (c : ℕ) → ((result w q k r).call c).job ≡ (w.call c).job
act_calls w q k r f c = put_same (λ z. z.job) w.call (target_call (act_of q k.top)) (r.1.call) c (f.0)

act_kinds : (w : World) (q : Party) (k : Stack) (r : Seen × Part) → Fixed (part_at w q k) r → (t : ℕ) → ((result w q k r).job t).kind ≡ (w.job t).kind
act_kinds w q k r f t = after_kind q (next_at w q k (r.0)) (put w.job (job_at w q (act_of q k.top)) (r.1.job)) t ∙ put_same (λ z. z.kind) w.job (job_at w q (act_of q k.top)) (r.1.job) t (f.1)

act_grown : (w : World) (q : Party) (k : Stack) (r : Seen × Part) → Fixed (part_at w q k) r → Grown w (result w q k r)
act_grown w q k r f = record { calls = omega arith; call = λ c l. act_calls w q k r f c; kind = λ t l. act_kinds w q k r f t }

pub go_grown : (w : World) (q : Party) → IfSome (outcome w q (w.stack q)) (λ r. Grown w (result w q (w.stack q) r))
go_grown w q = if_some_map (Fixed (part_at w q (w.stack q))) (λ r. Grown w (result w q (w.stack q) r)) (λ r f. act_grown w q (w.stack q) r f) (outcome w q (w.stack q))
    (act_fixed w.shape q (counts_seen w q (w.stack q)) (part_at w q (w.stack q)) (w.stack q).top)

abbrev pub number_of : Option (ℕ × Party) → ℕ
number_of None = 0
number_of (Some a) = a.0

abbrev pub setter_of : Option (ℕ × Party) → Party
setter_of None = Caller 0
setter_of (Some a) = a.1

-- a kind that sets a latch for a party is of its owner, whom that party shows
kind_owner : (k : JobKind) (c : ℕ) (p : Party) → kind_call k ≡ Some (c, p) → (o : Party) × ((owner_of k ≡ Some (c, o)) × (kind_call (Stored c o) ≡ Some (c, p)))
kind_owner (Stored d o) c p e = (o, (ap (λ z. Some (z, o)) (ap number_of e), ap (λ z. Some (z, shown o)) (sym (ap number_of e)) ∙ e))
kind_owner (Scoped d o) c p e = (o, (ap (λ z. Some (z, o)) (ap number_of e), ap (λ z. Some (z, shown o)) (sym (ap number_of e)) ∙ e))
kind_owner (BodyOf d o) c p e = (o, (ap (λ z. Some (z, o)) (ap number_of e), ap (λ z. Some (z, shown o)) (sym (ap number_of e)) ∙ e))
kind_owner (PieceOf d o) c p e = (o, (ap (λ z. Some (z, o)) (ap number_of e), ap (λ z. Some (z, shown o)) (sym (ap number_of e)) ∙ e))
kind_owner (WholeOf d o) c p e = (o, (ap (λ z. Some (z, o)) (ap number_of e), ap (λ z. Some (z, shown o)) (sym (ap number_of e)) ∙ e))
kind_owner (Detached r) c p e = absurd (cc)
kind_owner Direct c p e = absurd (cc)
kind_owner (TokenOf i b8) c p e = absurd (cc)

-- and the other way round
abbrev shown_of : Option (ℕ × Party) → Option (ℕ × Party)
shown_of None = None
shown_of (Some a) = Some (a.0, shown (a.1))

pub owner_calls : (k : JobKind) (c : ℕ) (o : Party) → owner_of k ≡ Some (c, o) → kind_call k ≡ Some (c, shown o)
owner_calls (Stored d r) c o e = ap shown_of e
owner_calls (Scoped d r) c o e = ap shown_of e
owner_calls (BodyOf d r) c o e = ap shown_of e
owner_calls (PieceOf d r) c o e = ap shown_of e
owner_calls (WholeOf d r) c o e = ap shown_of e
owner_calls (Detached p) c o e = absurd (cc)
owner_calls Direct c o e = absurd (cc)
owner_calls (TokenOf i b8) c o e = absurd (cc)

-- the job of a call sets the latch for its owner
kind_sets : (w : World) → Owned w → (t c : ℕ) (p : Party) → kind_call (w.job t).kind ≡ Some (c, p) → SetsFor w c p
kind_sets w ow t c p e =
    let s : (o : Party) × ((owner_of (w.job t).kind ≡ Some (c, o)) × (kind_call (Stored c o) ≡ Some (c, p))) = kind_owner (w.job t).kind c p e in
    let m : Mine w (s.0) c = ow.kinds t c (s.0) (s.1.0) in
    (m.0, owner_calls (w.job (w.call c).job).kind c (s.0) (m.1) ∙ s.1.1)

-- a job that begins sets the latch of its own call
run_names : (w : World) (q : Party) (t : ℕ) → Owned w → Names w q (Run t ((w.job t).kind))
run_names w q t ow = record { own = λ c e. absurd (cc); sets = λ c p e. kind_sets w ow t c p e }

begin_names : (w : World) (q : Party) (x : Taken) (fs : List Place) → Owned w → IfSome (outcome w q (record { top = BeginTask x; below = fs })) (λ r. Both (Names w q) (next_at w q (record { top = BeginTask x; below = fs }) (r.0)))
begin_names w (Worker i j) (Token k v b8) fs ow = out_sees (λ r. Both (Names w (Worker i j)) (after_begin (Token k v b8) (r.0))) (Worker i j) (part_of w i v 0 (or_none (head_of ((w.seat i v).fifo b8)))) b8 tt
    (λ u us is. subst (λ n. Names w (Worker i j) (Run u ((w.job n).kind))) (ap (λ l. or_none (head_of l)) (sym is)) (run_names w (Worker i j) u ow))
begin_names w (Caller n) (Token k v b8) fs ow = out_sees (λ r. Both (Names w (Caller n)) (after_begin (Token k v b8) (r.0))) (Caller n) (part_of w 0 v 0 (or_none (head_of ((w.seat 0 v).fifo b8)))) b8 tt
    (λ u us is. subst (λ m. Names w (Caller n) (Run u ((w.job m).kind))) (ap (λ l. or_none (head_of l)) (sym is)) (run_names w (Caller n) u ow))
begin_names w (Worker i j) (Plain t) fs ow = record { own = λ c e. absurd (cc); sets = λ c p e. kind_sets w ow t c p e }
begin_names w (Caller n) (Plain t) fs ow = record { own = λ c e. absurd (cc); sets = λ c p e. kind_sets w ow t c p e }

abbrev some_number : Option (ℕ × Party) → Option ℕ
some_number None = None
some_number (Some a) = Some (a.0)

abbrev pub some_shown : Option (ℕ × Party) → Party
some_shown None = Caller 0
some_shown (Some a) = a.1

-- a call's own party sets its latch for itself
owner_sets : (w : World) (q : Party) (c : ℕ) (p : Party) → Mine w q c → shown q ≡ p → SetsFor w c p
owner_sets w q c p m e = (m.0, owner_calls (w.job (w.call c).job).kind c q (m.1) ∙ ap (λ z. Some (c, z)) e)

next_names : (w : World) (q : Party) (x : Place) (fs : List Place) → Owned w → w.stack q ≡ record { top = x; below = fs } → IfSome (outcome w q (record { top = x; below = fs })) (λ r. Both (Names w q) (next_at w q (record { top = x; below = fs }) (r.0)))
next_names w q (BeginTask t) fs ow e = begin_names w q t fs ow
next_names w q (StoreBody o d) fs ow e = if_some_all {A = Seen × Part} (λ r. Both (Names w q) (next_at w q (record { top = StoreBody o d; below = fs }) (r.0))) (λ r. record { own = λ c z. body.own c z; sets = λ c p z. owner_sets w q c p (body.own c (ap some_number z)) (ap some_shown z) })
    (outcome w q (record { top = StoreBody o d; below = fs }))
  where
    body : Names w q (StoreBody o d)
    body = subst (λ z. Names w q (z.top)) e ((ow.named q).top)
next_names w q x fs ow e = if_some_map {A = Seen × Part} (λ r. Both (NamesFrom x) (next_at w q (record { top = x; below = fs }) (r.0))) (λ r. Both (Names w q) (next_at w q (record { top = x; below = fs }) (r.0)))
    (λ r f. both_map (NamesFrom x) (Names w q) (λ y n. from_names w q x y n (subst (λ z. Names w q (z.top)) e ((ow.named q).top))) (next_at w q (record { top = x; below = fs }) (r.0)) f)
    (outcome w q (record { top = x; below = fs }))
    (names_on w.shape (shape_at w q (record { top = x; below = fs })) q (counts_seen w q (record { top = x; below = fs })) (part_at w q (record { top = x; below = fs })) x refl)

pub go_owned : (w : World) → Owned w → (q : Party) → IfSome (outcome w q (w.stack q)) (λ r. Owned (result w q (w.stack q) r))
go_owned w ow q =
    let k : Stack = w.stack q in
    if_some_map {A = Seen × Part} (λ r. Fixed (part_at w q k) r × Both (Names w q) (next_at w q k (r.0))) (λ r. Owned (result w q k r))
    (λ r h.
    let g : Grown w (result w q k r) = act_grown w q k r (h.0) in
    record {
      kinds = λ t c o e. grown_mine w (result w q k r) ow g o c (ow.kinds t c o (ap owner_of (sym (act_kinds w q k r (h.0) t)) ∙ e));
      scopes = λ n z e. grown_mine w (result w q k r) ow g z.owner z.call (ow.scopes n z e);
      called = λ c l. (let z : ((result w q k r).call c).job ≡ (w.call c).job = act_calls w q k r (h.0) c in let y : (w.call c).job < w.jobs = ow.called c l in omega arith);
      named = λ p. at r g (h.1) p (same_party p q) refl;
    })
    (outcome w q k)
    (if_some_and (Fixed (part_at w q k)) (λ r. Both (Names w q) (next_at w q k (r.0))) (outcome w q k) (act_fixed w.shape q (counts_seen w q k) (part_at w q k) k.top) (next_names w q k.top k.below ow refl))
  where
    at : (r : Seen × Part) → Grown w (result w q (w.stack q) r) → Both (Names w q) (next_at w q (w.stack q) (r.0)) → (p : Party) (b : Bool) → same_party p q ≡ b → StackNames (result w q (w.stack q) r) p (if b then after_move (next_at w q (w.stack q) (r.0)) (w.stack q).below else w.stack p)
    at r g t p true e = subst (λ z. StackNames (result w q (w.stack q) r) z (after_move (next_at w q (w.stack q) (r.0)) (w.stack q).below)) (sym (same_party_true p q e))
        (grown_stack w (result w q (w.stack q) r) ow g q (after_move (next_at w q (w.stack q) (r.0)) (w.stack q).below) (land_names w q (next_at w q (w.stack q) (r.0)) (w.stack q).below t ((ow.named q).below)))
    at r g t p false e = grown_stack w (result w q (w.stack q) r) ow g p (w.stack p) (ow.named p)
