-- no step hands back, or spends, a piece of a broadcast that was dealt
--
-- What was dealt is in nobody's hand as it was made, so no move hands it back (`dealt_stays`). At a count of 0 each
-- piece was dealt, and is over (`piece_over`, Scoping).
use Rattle.std.proofs.Common.{arith, refl, sym, ◌∙◌, ap, subst, inl, inr}
use Rattle.std.specs.Prelude.{ℕ, zero, suc, Bool, true, false, ◌+◌, ◌-◌, ◌==◌, ◌≤◌, if◌then◌else◌, List, ◌≡◌, IfSome}
use Rattle.std.proofs.lemmas.Bool.{eqb-true}
use Rattle.rayon_machine_places.specs.declared.place.Party.{Party}
use Rattle.rayon_machine_places.specs.declared.place.JobKind.{JobKind}
use Rattle.rayon_machine_places.specs.declared.place.JobKind.TheVariants.{PieceOf}
use Rattle.rayon_machine_places.specs.declared.place.Pieces.{Pieces}
use Rattle.rayon_machine_places.specs.declared.place.Mark.{Mark as Marking}
use Rattle.rayon_machine_places.specs.declared.place.Mark.TheVariants.{Counted, Numbered, Queued, Dealt, Unnumbered, Returned}
use Rattle.rayon_machine_places.specs.declared.place.Plan.TheVariants.{Detach, Here, Send, Fork, Feed, Open, Enter, Gather}
use Rattle.rayon_machine_places.specs.declared.place.Place.{Place}
use Rattle.rayon_machine_places.specs.declared.place.Move.{Move}
use Rattle.rayon_machine_places.specs.declared.place.Move.TheVariants.{Stay, Enter as Into, StartRun, Back, HandBack, HandIn, Discard, Mark, HandAllBack}
use Rattle.rayon_machine_places.specs.declared.act.Seen.{Seen}
use Rattle.rayon_machine_runs.specs.declared.state.Whereabouts.{Whereabouts}
use Rattle.rayon_machine_runs.specs.declared.state.Whereabouts.TheVariants.{Made, Running, Over, HandedBack, Spent, InDeque, Injected, InCast}
use Rattle.rayon_machine_runs.specs.declared.state.Job.{Job}
use Rattle.rayon_machine_places.specs.Places.{act_of, next_of}
use Rattle.rayon_machine_runs.specs.World.{Shape, World, Part, at_job, begun, effect}
use Rattle.rayon_machine_places.specs.Sleepers.{Counts}
use Rattle.rayon_machine_places.specs.Targets.{target_pool}
use Rattle.rayon_machine_runs.specs.Steps.{put, jobs_after, is_piece, mark_pieces, marked}
use Rattle.rayon_machine_laws.specs.Once.{one}
use Rattle.rayon_machine_laws.proofs.Frame.{if_some_map}
use Rattle.rayon_machine_laws.proofs.Ties.{job_at}
use Rattle.rayon_machine_laws.proofs.Hands.{hand_plan}
use Rattle.rayon_machine_laws.proofs.Located.{is_left}
use Rattle.rayon_machine_laws.proofs.Feeds.{fed, fed_in, all_fed, fed_move, feds}
use Rattle.rayon_machine_laws.proofs.Claims.{is_detached, is_part, Left}
use Rattle.rayon_machine_laws.proofs.ClaimRuns.{CallsHold, world_after, place_part}
use Rattle.rayon_machine_laws.proofs.ShareRuns.{StartsAwaited}
use Rattle.rayon_machine_laws.proofs.Lists.{is_settled, Onward, act_on}

-- a piece of a broadcast that is in its list, was taken, runs or is over
abbrev pub is_dealt : Whereabouts → Bool
is_dealt (InDeque p i) = true
is_dealt (Injected p) = true
is_dealt (InCast p i) = true
is_dealt (Running q) = true
is_dealt (Over e) = true
is_dealt _ = false

pub dealt_left : (v : Whereabouts) → is_dealt v ≡ true → is_left v ≡ true
dealt_left (InDeque p i) e = refl
dealt_left (Injected p) e = refl
dealt_left (InCast p i) e = refl
dealt_left (Running q) e = refl
dealt_left (Over d) e = refl
dealt_left _ e = cc

-- 1 for what is handed back or spent
abbrev pub lost : Whereabouts → ℕ
lost HandedBack = 1
lost Spent = 1
lost _ = 0

dealt_kept : (v : Whereabouts) → is_dealt v ≡ true → lost v ≡ 0
dealt_kept (InDeque p i) e = refl
dealt_kept (Injected p) e = refl
dealt_kept (InCast p i) e = refl
dealt_kept (Running q) e = refl
dealt_kept (Over d) e = refl
dealt_kept _ e = cc

left_dealt : (v : Whereabouts) → is_left v ≡ true → lost v ≤ 0 → is_dealt v ≡ true
left_dealt (InDeque p i) e l = refl
left_dealt (Injected p) e l = refl
left_dealt (InCast p i) e l = refl
left_dealt (Running q) e l = refl
left_dealt (Over d) e l = refl
left_dealt HandedBack e l = absurd (omega (arith, l))
left_dealt Spent e l = absurd (omega (arith, l))
left_dealt _ e l = cc

-- no act itself does so
abbrev pub Unlost : Part → Seen × Part → Type 0
Unlost m r = lost r.1.job.at ≤ lost m.job.at

unsettled_kept : (v : Whereabouts) → is_settled v ≡ false → lost v ≡ 0
unsettled_kept HandedBack e = cc
unsettled_kept Spent e = cc
unsettled_kept _ e = refl

pub act_unlost : (h : Shape) (q : Party) (c : Counts) (m : Part) (x : Place) → IfSome (effect (act_of q x) h q c m) (Unlost m)
act_unlost h q c m x = if_some_map (Onward m) (Unlost m) (λ r o. elim o [
  | inl e ↦ (let s : lost r.1.job.at ≡ lost m.job.at = ap lost e in omega (arith, s))
  | inr e ↦ (let z : lost r.1.job.at ≡ 0 = unsettled_kept r.1.job.at e in omega (arith, z))
]) (effect (act_of q x) h q c m) (act_on h q c m x)

-- what a move hands back or spends
abbrev gives : ℕ → Move → ℕ
gives t (HandIn y k) = one (t == k)
gives t (Discard k) = one (t == k)
gives t (HandBack n) = hand_plan t n
gives t (HandAllBack c) = one (is_piece c t)
gives t (Mark y c Returned) = one (is_piece c t)
gives t _ = 0

put_lost : (J : ℕ → Job) (a t : ℕ) (v : Whereabouts) → lost (put J a (at_job (J a) v) t).at ≤ one (t == a) + lost (J t).at
put_lost J a t v = by (t == a)
  where
    most : (v : Whereabouts) → lost v ≤ 1
    most HandedBack = omega arith
    most Spent = omega arith
    most _ = omega arith

    by : (z : Bool) → lost (if z then at_job (J a) v else J t).at ≤ one z + lost (J t).at
    by true = let b : lost v ≤ 1 = most v in omega (arith, b)
    by false = omega arith

marks_lost : (c : Pieces) (k : Marking) (J : ℕ → Job) (t n : ℕ) → (k ≡ Returned → one (is_piece c t) ≤ n) → lost (mark_pieces c k J t).at ≤ n + lost (J t).at
marks_lost c k J t n d = by (is_piece c t) refl
  where
    each : (k : Marking) → (k ≡ Returned → 1 ≤ n) → lost (marked k c.pool (t - c.first) (J t)).at ≤ n + lost (J t).at
    each Counted d = omega arith
    each Queued d = omega arith
    each (Numbered m) d = omega arith
    each Dealt d = omega arith
    each Unnumbered d = omega arith
    each Returned d = let a : 1 ≤ n = d refl in omega (arith, a)

    by : (b : Bool) → is_piece c t ≡ b → lost (if b then marked k c.pool (t - c.first) (J t) else J t).at ≤ n + lost (J t).at
    by true e = each k (λ z. (let a : one (is_piece c t) ≤ n = d z in let b : one (is_piece c t) ≡ 1 = ap one e in omega (arith, a, b)))
    by false e = omega arith

land_lost : (q : Party) (t : ℕ) (g : Move) (J : ℕ → Job) → lost (jobs_after q g J t).at ≤ gives t g + lost (J t).at
land_lost q t (Stay y) J = omega arith
land_lost q t (HandIn y k) J = put_lost J k t Spent
land_lost q t (Discard k) J = put_lost J k t Spent
land_lost q t (Into f y) J = omega arith
land_lost q t Back J = omega arith
land_lost q t (StartRun f a) J = by (t == a)
  where
    by : (z : Bool) → lost (if z then begun q (J a) else J t).at ≤ 0 + lost (J t).at
    by true = omega arith
    by false = omega arith
land_lost q t (Mark y c Counted) J = marks_lost c Counted J t 0 (λ e. absurd (cc))
land_lost q t (Mark y c Queued) J = marks_lost c Queued J t 0 (λ e. absurd (cc))
land_lost q t (Mark y c (Numbered m)) J = marks_lost c (Numbered m) J t 0 (λ e. absurd (cc))
land_lost q t (Mark y c Dealt) J = marks_lost c Dealt J t 0 (λ e. absurd (cc))
land_lost q t (Mark y c Unnumbered) J = marks_lost c Unnumbered J t 0 (λ e. absurd (cc))
land_lost q t (Mark y c Returned) J = marks_lost c Returned J t (one (is_piece c t)) (λ e. omega arith)
land_lost q t (HandAllBack c) J = marks_lost c Returned J t (one (is_piece c t)) (λ e. omega arith)
land_lost q t (HandBack (Detach p a)) J = put_lost J a t HandedBack
land_lost q t (HandBack (Here p a)) J = put_lost J a t HandedBack
land_lost q t (HandBack (Send o)) J = put_lost J (o.job) t HandedBack
land_lost q t (HandBack (Open o)) J = put_lost J (o.job) t HandedBack
land_lost q t (HandBack (Enter e)) J = put_lost J (e.job) t HandedBack
land_lost q t (HandBack (Gather g)) J = marks_lost g.pieces Returned J t (one (is_piece g.pieces t)) (λ e. omega arith)
land_lost q t (HandBack (Feed d)) J = by (t == d.token) (put_lost J (d.job) t HandedBack)
  where
    by : (z : Bool) → lost (put J (d.job) (at_job (J (d.job)) HandedBack) t).at ≤ one (t == d.job) + lost (J t).at → lost (if z then at_job (J (d.token)) HandedBack else put J (d.job) (at_job (J (d.job)) HandedBack) t).at ≤ (one (t == d.job) + one z) + lost (J t).at
    by true b = omega arith
    by false b = omega (arith, b)
land_lost q t (HandBack (Fork o a)) J = by (t == o.job) (put_lost J a t HandedBack)
  where
    by : (z : Bool) → lost (put J a (at_job (J a) HandedBack) t).at ≤ one (t == a) + lost (J t).at → lost (if z then at_job (J (o.job)) HandedBack else put J a (at_job (J a) HandedBack) t).at ≤ (one (t == a) + one z) + lost (J t).at
    by true b = omega arith
    by false b = omega (arith, b)

part_detached : (k : JobKind) → is_part k ≡ true → is_detached k ≡ true
part_detached (PieceOf c o) e = refl
part_detached _ e = cc

-- a piece that its party does not hold as it was made is not handed back
given_none : (w : World) (t : ℕ) (g : Move) → StartsAwaited w g → fed_move t g ≤ 0 → is_part (w.job t).kind ≡ true → gives t g ≤ 0
given_none w t g s f p = by g s f
  where
    unlike : (k : ℕ) → is_detached (w.job k).kind ≡ false → (b : Bool) → (t == k) ≡ b → one b ≤ 0
    unlike k d true e = absurd (let a : is_detached (w.job k).kind ≡ true = ap (λ n. is_detached (w.job n).kind) (sym (eqb-true t k e)) ∙ part_detached ((w.job t).kind) p in let z : true ≡ false = sym a ∙ d in cc)
    unlike k d false e = omega arith

    apart : (k : ℕ) → is_part (w.job k).kind ≡ false → (b : Bool) → (t == k) ≡ b → one b ≤ 0
    apart k d true e = absurd (let a : is_part (w.job k).kind ≡ true = ap (λ n. is_part (w.job n).kind) (sym (eqb-true t k e)) ∙ p in let z : true ≡ false = sym a ∙ d in cc)
    apart k d false e = omega arith

    by : (g : Move) → StartsAwaited w g → fed_move t g ≤ 0 → gives t g ≤ 0
    by (HandIn y k) s f = unlike k s (t == k) refl
    by (Discard k) s f = unlike k s (t == k) refl
    by (HandBack (Feed d)) s f = let a : one (t == d.job) ≤ 0 = apart d.job (s.1) (t == d.job) refl in let b : one (t == d.token) ≤ 0 = f in omega (arith, a, b)
    by (HandBack (Detach r u)) s f = f
    by (HandBack (Here r u)) s f = f
    by (HandBack (Send o)) s f = f
    by (HandBack (Fork o a)) s f = f
    by (HandBack (Open o)) s f = f
    by (HandBack (Enter e)) s f = f
    by (HandBack (Gather d)) s f = f
    by (HandAllBack c) s f = f
    by (Mark y c Returned) s f = omega (arith, f)
    by (Mark y c Counted) s f = omega arith
    by (Mark y c (Numbered n)) s f = omega arith
    by (Mark y c Queued) s f = omega arith
    by (Mark y c Dealt) s f = omega arith
    by (Mark y c Unnumbered) s f = omega arith
    by (Stay y) s f = omega arith
    by (Into y z) s f = omega arith
    by (StartRun y a) s f = omega arith
    by Back s f = omega arith

pub dealt_stays : (w : World) (q : Party) (x : Place) (fs : List Place) (r : Seen × Part) → CallsHold w → w.stack q ≡ record { top = x; below = fs } → StartsAwaited w (next_of (w.shape.pool (target_pool q (act_of q x))) q x (r.0)) → Unlost (place_part w q x) r
    → ((t : ℕ) → Left w t → Left (world_after w q x fs r) t) → (t : ℕ) → is_part (w.job t).kind ≡ true → is_dealt (w.job t).at ≡ true → is_dealt ((world_after w q x fs r).job t).at ≡ true
dealt_stays w q x fs r h z s un le t p d = left_dealt (((world_after w q x fs r).job t).at) (le t (dealt_left ((w.job t).at) d)) (omega (arith, landed, given, touched, was))
  where
    g : Move
    g = next_of (w.shape.pool (target_pool q (act_of q x))) q x (r.0)

    J : ℕ → Job
    J = put w.job (job_at w q (act_of q x)) (r.1.job)

    none : (n : ℕ) → all_fed t (w.stack q) ≡ n → all_fed t (w.stack q) ≤ 0
    none zero e = omega (arith, e)
    none (suc n) e = absurd (let a : (w.job t).at ≡ Made q = (h.jobs).feeds q t (let b : 1 ≤ all_fed t (w.stack q) = omega (arith, e) in b) in let b : true ≡ false = sym d ∙ ap is_dealt a in cc)

    unfed : fed_move t g ≤ 0
    unfed = let a : fed_move t g ≤ fed t x = feds (w.shape.pool (target_pool q (act_of q x))) q t x (r.0) in let b : all_fed t (w.stack q) ≡ (fed t x + fed_in t fs) = ap (all_fed t) z in let c : all_fed t (w.stack q) ≤ 0 = none (all_fed t (w.stack q)) refl in omega (arith, a, b, c)

    landed : lost ((world_after w q x fs r).job t).at ≤ gives t g + lost (J t).at
    landed = land_lost q t g J

    given : gives t g ≤ 0
    given = given_none w t g s unfed p

    touched : lost (J t).at ≤ lost (w.job t).at
    touched = by (t == job_at w q (act_of q x)) refl
      where
        by : (b : Bool) → (t == job_at w q (act_of q x)) ≡ b → lost (if b then r.1.job else w.job t).at ≤ lost (w.job t).at
        by true e = subst (λ n. lost r.1.job.at ≤ lost (w.job n).at) (sym (eqb-true t (job_at w q (act_of q x)) e)) un
        by false e = omega arith

    was : lost (w.job t).at ≡ 0
    was = dealt_kept ((w.job t).at) d
