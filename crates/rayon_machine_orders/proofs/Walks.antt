-- lists of what happens at one worker: where it takes from the one end of its list, the order is the walk of a tree
--
-- What is orderly grows trees that are walked so (`grown`).
use Rattle.std.proofs.Common.{arith, refl, sym, ◌∙◌, ap, subst, inl, inr, ◌≢◌}
use Rattle.rayon_machine_orders.proofs.Words.{ℕ, true, false, ◌+◌, ◌==◌, if◌then◌else◌, Option, Some, None, List, [], ◌∷◌, ◌++◌, ◌≡◌, ◌⊎◌, ⊤, eqb-true, eq-eqb, append_assoc, Order, NewestFirst, OldestFirst, one, times, Happening, Adds, Queues, Retakes, Begins, Redeems, Hands, NoTree, Tree}
use Rattle.rayon_machine_orders.proofs.Words.{begun_in}
use Rattle.rayon_machine_orders.specs.Order.{Trees, roots, walk_back, beside, levels, joined, walk, walk_each, same_run, added_by, AreSpawned, reversed, handed}
use Rattle.rayon_machine_laws.proofs.Frame.{either}

-- a job is neither added nor begun
abbrev pub Absent : ℕ → List Happening → Type 0
Absent s [] = ⊤
Absent s (Adds by t ∷ hs) = (s ≢ t) × Absent s hs
Absent s (Queues b by t ∷ hs) = (s ≢ t) × Absent s hs
Absent s (Retakes b ∷ hs) = Absent s hs
Absent s (Begins t ∷ hs) = (s ≢ t) × Absent s hs
Absent s (Redeems k b (Some t) ∷ hs) = (s ≢ t) × Absent s hs
Absent s (Redeems k b None ∷ hs) = Absent s hs

-- a job that stands in no list and never will, nor begin
abbrev pub Fresh : Option ℕ → List ℕ → List Happening → Type 0
Fresh None l hs = ⊤
Fresh (Some s) l hs = (times s l ≡ 0) × Absent s hs

-- what happens keeps to the list, the run that began last adds to it, and a job from elsewhere begins only where the
-- list is empty
abbrev pub Orderly : Order → Option ℕ → List ℕ → List Happening → List ℕ → Type 0
Orderly o r l [] left = left ≡ l
Orderly o r l (Adds by t ∷ hs) left = (by ≡ r) × Orderly o r (l ++ t ∷ []) hs left
Orderly o r l (Begins t ∷ hs) left = ((rest : List ℕ) × Hands o l t rest × Fresh (Some t) rest hs × Orderly o (Some t) rest hs left) ⊎ ((l ≡ []) × Fresh (Some t) [] hs × Orderly o (Some t) [] hs left)
Orderly o r l (_ ∷ hs) left = ⊥

nil_right : {A : Type 0} (l : List A) → l ++ [] ≡ l
nil_right [] = refl
nil_right (x ∷ xs) = ap (λ z. x ∷ z) (nil_right xs)

apart : (a b : ℕ) → b ≢ a → (a == b) ≡ false
apart a b n = elim (either (a == b)) [ inl e ↦ absurd (n (sym (eqb-true a b e))) | inr e ↦ e ]

unlike : (s t : ℕ) → one (s == t) ≡ 0 → s ≢ t
unlike s t z e = absurd (let k : (s == t) ≡ true = eq-eqb s t e in let y : one (s == t) ≡ 1 = ap one k in omega (arith, z, y))

-- one row of trees beside another
abbrev graft : Trees → Trees → Trees
graft NoTree v = v
graft (Tree t k u) v = Tree t k (graft u v)

abbrev leaves : List ℕ → Trees
leaves [] = NoTree
leaves (t ∷ ts) = Tree t NoTree (leaves ts)

-- no root or job below is this one
abbrev Avoids : ℕ → Trees → Type 0
Avoids s NoTree = ⊤
Avoids s (Tree t k u) = (s ≢ t) × (Avoids s k × Avoids s u)

roots_leaves : (l : List ℕ) → roots (leaves l) ≡ l
roots_leaves [] = refl
roots_leaves (t ∷ ts) = ap (λ z. t ∷ z) (roots_leaves ts)

roots_graft : (u v : Trees) → roots (graft u v) ≡ roots u ++ roots v
roots_graft NoTree v = refl
roots_graft (Tree t k u) v = ap (λ z. t ∷ z) (roots_graft u v)

avoid_leaves : (s : ℕ) (l : List ℕ) → times s l ≡ 0 → Avoids s (leaves l)
avoid_leaves s [] z = tt
avoid_leaves s (t ∷ ts) z = (unlike s t (omega (arith, z)), (tt, avoid_leaves s ts (omega (arith, z))))

avoid_graft : (s : ℕ) (u v : Trees) → Avoids s u → Avoids s v → Avoids s (graft u v)
avoid_graft s NoTree v a b = b
avoid_graft s (Tree t k u) v a b = (a.0, ((a.1).0, avoid_graft s u v ((a.1).1) b))

avoid_left : (s : ℕ) (u v : Trees) → Avoids s (graft u v) → Avoids s u
avoid_left s NoTree v a = tt
avoid_left s (Tree t k u) v a = (a.0, ((a.1).0, avoid_left s u v ((a.1).1)))

avoid_right : (s : ℕ) (u v : Trees) → Avoids s (graft u v) → Avoids s v
avoid_right s NoTree v a = a
avoid_right s (Tree t k u) v a = avoid_right s u v ((a.1).1)

spawned_graft : (hs : List Happening) (u v : Trees) → AreSpawned hs u → AreSpawned hs v → AreSpawned hs (graft u v)
spawned_graft hs NoTree v a b = b
spawned_graft hs (Tree t k u) v a b = (a.0, ((a.1).0, spawned_graft hs u v ((a.1).1) b))

spawned_left : (hs : List Happening) (u v : Trees) → AreSpawned hs (graft u v) → AreSpawned hs u
spawned_left hs NoTree v a = tt
spawned_left hs (Tree t k u) v a = (a.0, ((a.1).0, spawned_left hs u v ((a.1).1)))

spawned_right : (hs : List Happening) (u v : Trees) → AreSpawned hs (graft u v) → AreSpawned hs v
spawned_right hs NoTree v a = a
spawned_right hs (Tree t k u) v a = spawned_right hs u v ((a.1).1)

spawned_leaves : (l : List ℕ) → AreSpawned [] (leaves l)
spawned_leaves [] = tt
spawned_leaves (t ∷ ts) = (refl, (tt, spawned_leaves ts))

-- a job that begins adds nothing by that
spawned_begin : (t : ℕ) (hs : List Happening) (u : Trees) → AreSpawned hs u → AreSpawned (Begins t ∷ hs) u
spawned_begin t hs NoTree a = tt
spawned_begin t hs (Tree n k u) a = (a.0, (spawned_begin t hs k ((a.1).0), spawned_begin t hs u ((a.1).1)))

-- what a job adds stands below no other
spawned_add : (r : Option ℕ) (t : ℕ) (hs : List Happening) (u : Trees) → ((s : ℕ) → r ≡ Some s → Avoids s u) → AreSpawned hs u → AreSpawned (Adds r t ∷ hs) u
spawned_add r t hs NoTree f a = tt
spawned_add r t hs (Tree n k u) f a = (a.0 ∙ sym (other r f), (spawned_add r t hs k (λ s e. ((f s e).1).0) ((a.1).0), spawned_add r t hs u (λ s e. ((f s e).1).1) ((a.1).1)))
  where
    other : (r : Option ℕ) → ((s : ℕ) → r ≡ Some s → Avoids s (Tree n k u)) → added_by (Some n) (Adds r t ∷ hs) ≡ added_by (Some n) hs
    other None f = refl
    other (Some s) f = ap (λ b. if b then t ∷ added_by (Some n) hs else added_by (Some n) hs) (apart n s ((f s refl).0))

-- where the trees' roots are two lists, the trees are two rows
record Split (u : Trees) (a b : List ℕ) : Type 0 where
  fore : Trees
  aft : Trees
  is : u ≡ graft fore aft
  fore_roots : roots fore ≡ a
  aft_roots : roots aft ≡ b

split : (u : Trees) (a b : List ℕ) → roots u ≡ a ++ b → Split u a b
split u [] b e = record { fore = NoTree; aft = u; is = refl; fore_roots = refl; aft_roots = e }
split NoTree (x ∷ xs) b e = absurd (cc)
split (Tree t k u) (x ∷ xs) b e =
    let r : Split u xs b = split u xs b (cc) in
    let h : t ≡ x = cc in
    record { fore = Tree t k r.fore; aft = r.aft; is = ap (Tree t k) r.is; fore_roots = ap (λ z. t ∷ z) r.fore_roots ∙ ap (λ z. z ∷ xs) h; aft_roots = r.aft_roots }

-- walks of two rows of trees
walk_graft : (u v : Trees) → walk_back (graft u v) ≡ walk_back v ++ walk_back u
walk_graft NoTree v = sym (nil_right (walk_back v))
walk_graft (Tree t k u) v = ap (λ z. z ++ t ∷ walk_back k) (walk_graft u v) ∙ append_assoc (walk_back v) (walk_back u) (t ∷ walk_back k)

walk_leaves : (l : List ℕ) → walk_back (leaves l) ≡ reversed l
walk_leaves [] = refl
walk_leaves (t ∷ ts) = ap (λ z. z ++ t ∷ []) (walk_leaves ts)

beside_nil : (a : List (List ℕ)) → beside a [] ≡ a
beside_nil [] = refl
beside_nil (x ∷ xs) = refl

beside_assoc : (a b c : List (List ℕ)) → beside (beside a b) c ≡ beside a (beside b c)
beside_assoc [] b c = refl
beside_assoc (x ∷ xs) [] c = refl
beside_assoc (x ∷ xs) (y ∷ ys) [] = refl
beside_assoc (x ∷ xs) (y ∷ ys) (z ∷ zs) = ap (λ k. k ∷ beside (beside xs ys) zs) (append_assoc x y z) ∙ ap (λ k. (x ++ (y ++ z)) ∷ k) (beside_assoc xs ys zs)

levels_graft : (u v : Trees) → levels (graft u v) ≡ beside (levels u) (levels v)
levels_graft NoTree v = refl
levels_graft (Tree t k u) v = ap (λ z. beside ((t ∷ []) ∷ levels k) z) (levels_graft u v) ∙ sym (beside_assoc ((t ∷ []) ∷ levels k) (levels u) (levels v))

-- the first level goes before the rest, which then lies one level up
turn : (x : List ℕ) (a b : List (List ℕ)) → joined (beside (x ∷ a) b) ≡ x ++ joined (beside b a)
turn x a [] = refl
turn x [] (y ∷ ys) = append_assoc x y (joined ys)
turn x (z ∷ zs) (y ∷ ys) = append_assoc x y (joined (beside (z ∷ zs) ys)) ∙ ap (λ k. x ++ (y ++ k)) (turn z zs ys) ∙ ap (λ k. x ++ k) (sym (append_assoc y z (joined (beside ys zs))))

joined_leaves : (l : List ℕ) → joined (levels (leaves l)) ≡ l
joined_leaves [] = refl
joined_leaves (t ∷ ts) = turn (t ∷ []) [] (levels (leaves ts)) ∙ ap (λ z. t ∷ joined z) (beside_nil (levels (leaves ts))) ∙ ap (λ z. t ∷ z) (joined_leaves ts)

walked_leaves : (o : Order) (l : List ℕ) → walk o (leaves l) ≡ handed o l
walked_leaves NewestFirst l = walk_leaves l
walked_leaves OldestFirst l = joined_leaves l

walk_one : (o : Order) (t : ℕ) (k : Trees) → walk o (Tree t k NoTree) ≡ t ∷ walk o k
walk_one NewestFirst t k = refl
walk_one OldestFirst t k = refl

-- a job that the list hands out, with the trees that its run has added below it
abbrev planted : Order → ℕ → Trees → Trees → Trees
planted NewestFirst t u k = graft u (Tree t k NoTree)
planted OldestFirst t u k = Tree t k u

planted_roots : (o : Order) (l rest : List ℕ) (t : ℕ) (u k : Trees) → Hands o l t rest → roots u ≡ rest → roots (planted o t u k) ≡ l
planted_roots NewestFirst l rest t u k h e = roots_graft u (Tree t k NoTree) ∙ ap (λ z. z ++ t ∷ []) e ∙ sym h
planted_roots OldestFirst l rest t u k h e = ap (λ z. t ∷ z) e ∙ sym h

planted_walk : (o : Order) (t : ℕ) (u k : Trees) → walk o (planted o t u k) ≡ t ∷ walk o (graft u k)
planted_walk NewestFirst t u k = walk_graft u (Tree t k NoTree) ∙ ap (λ z. t ∷ z) (sym (walk_graft u k))
planted_walk OldestFirst t u k = turn (t ∷ []) (levels k) (levels u) ∙ ap (λ z. t ∷ joined z) (sym (levels_graft u k))

planted_avoids : (o : Order) (s t : ℕ) (u k : Trees) → s ≢ t → Avoids s u → Avoids s k → Avoids s (planted o t u k)
planted_avoids NewestFirst s t u k n a b = avoid_graft s u (Tree t k NoTree) a (n, (b, tt))
planted_avoids OldestFirst s t u k n a b = (n, (b, a))

planted_spawned : (o : Order) (hs : List Happening) (t : ℕ) (u k : Trees) → roots k ≡ added_by (Some t) hs → AreSpawned hs u → AreSpawned hs k → AreSpawned hs (planted o t u k)
planted_spawned NewestFirst hs t u k e a b = spawned_graft hs u (Tree t k NoTree) a (e, (b, tt))
planted_spawned OldestFirst hs t u k e a b = (e, (b, a))

times_append : (s : ℕ) (a b : List ℕ) → times s (a ++ b) ≡ times s a + times s b
times_append s [] b = omega arith
times_append s (x ∷ xs) b = let k : times s (xs ++ b) ≡ times s xs + times s b = times_append s xs b in omega (arith, k)

pub hands_times : (o : Order) (l rest : List ℕ) (t s : ℕ) → Hands o l t rest → times s l ≡ one (s == t) + times s rest
hands_times NewestFirst l rest t s h = let k : times s l ≡ times s rest + (one (s == t) + 0) = ap (times s) h ∙ times_append s rest (t ∷ []) in omega (arith, k)
hands_times OldestFirst l rest t s h = ap (times s) h

-- a run that is over adds nothing
gone : (o : Order) (r : Option ℕ) (t : ℕ) (l : List ℕ) (hs : List Happening) (left : List ℕ) → ((s : ℕ) → r ≡ Some s → s ≢ t) → ((s : ℕ) → r ≡ Some s → Absent s hs) → Orderly o (Some t) l hs left → added_by r hs ≡ []
gone o r t l [] left n f a = refl
gone o r t l (Adds by c ∷ hs) left n f a = ap (λ b. if b then c ∷ added_by r hs else added_by r hs) (ap (same_run r) (a.0) ∙ other r n) ∙ gone o r t (l ++ c ∷ []) hs left n (λ s e. (f s e).1) (a.1)
  where
    other : (r : Option ℕ) → ((s : ℕ) → r ≡ Some s → s ≢ t) → same_run r (Some t) ≡ false
    other None n = refl
    other (Some s) n = apart s t (λ e. n s refl (sym e))
gone o r t l (Redeems k b x ∷ hs) left n f a = absurd a
gone o r t l (Queues b by c ∷ hs) left n f a = absurd a
gone o r t l (Retakes b ∷ hs) left n f a = absurd a
gone o r t l (Begins c ∷ hs) left n f (inl (rest, h, fresh, a)) = gone o r c rest hs left (λ s e. (f s e).0) (λ s e. (f s e).1) a
gone o r t l (Begins c ∷ hs) left n f (inr (e, fresh, a)) = gone o r c [] hs left (λ s e. (f s e).0) (λ s e. (f s e).1) a

-- the trees of what happens from here on
pub record Grown (o : Order) (r : Option ℕ) (l : List ℕ) (hs : List Happening) (left : List ℕ) : Type 0 where
  pub standing : Trees
  pub arrived : Trees
  pub top : roots standing ≡ l ++ added_by r hs
  pub below : AreSpawned hs standing
  pub later : AreSpawned hs arrived
  pub order : begun_in hs ++ handed o left ≡ walk o standing ++ walk_each o arrived
  pub avoids : (s : ℕ) → times s l ≡ 0 → Absent s hs → Avoids s standing × Avoids s arrived

same_self : (r : Option ℕ) → same_run r r ≡ true
same_self None = refl
same_self (Some s) = eq-eqb s s refl

fresh_list : (r : Option ℕ) (l : List ℕ) (hs : List Happening) → Fresh r l hs → (s : ℕ) → r ≡ Some s → (times s l ≡ 0) × Absent s hs
fresh_list None l hs f s e = absurd (cc)
fresh_list (Some u) l hs f s e = let k : u ≡ s = cc in subst (λ z. (times z l ≡ 0) × Absent z hs) k f

fresh_more : (r : Option ℕ) (l : List ℕ) (t : ℕ) (by : Option ℕ) (hs : List Happening) → Fresh r l (Adds by t ∷ hs) → Fresh r (l ++ t ∷ []) hs
fresh_more None l t by hs f = tt
fresh_more (Some s) l t by hs f = (let a : times s (l ++ t ∷ []) ≡ times s l + (one (s == t) + 0) = times_append s l (t ∷ []) in let b : times s l ≡ 0 = f.0 in let c : one (s == t) ≡ 0 = ap one (apart s t (λ e. ((f.1).0) (sym e))) in omega (arith, a, b, c), (f.1).1)

leaf_grown : (o : Order) (r : Option ℕ) (l left : List ℕ) → left ≡ l → Grown o r l [] left
leaf_grown o r l left e = record {
  standing = leaves l;
  arrived = NoTree;
  top = roots_leaves l ∙ sym (nil_right l);
  below = spawned_leaves l;
  later = tt;
  order = ap (handed o) e ∙ sym (walked_leaves o l) ∙ sym (nil_right (walk o (leaves l)));
  avoids = λ s z a. (avoid_leaves s l z, tt);
}

add_grown : (o : Order) (r by : Option ℕ) (l : List ℕ) (t : ℕ) (hs : List Happening) (left : List ℕ) → by ≡ r → Fresh r l (Adds by t ∷ hs) → Grown o r (l ++ t ∷ []) hs left → Grown o r l (Adds by t ∷ hs) left
add_grown o r by l t hs left e f g = record {
  standing = g.standing;
  arrived = g.arrived;
  top = g.top ∙ append_assoc l (t ∷ []) (added_by r hs) ∙ sym (ap (λ b. l ++ (if b then t ∷ added_by r hs else added_by r hs)) (ap (same_run r) e ∙ same_self r));
  below = subst (λ z. AreSpawned (Adds z t ∷ hs) g.standing) (sym e) (spawned_add r t hs g.standing (λ s k. (mine s k).0) g.below);
  later = subst (λ z. AreSpawned (Adds z t ∷ hs) g.arrived) (sym e) (spawned_add r t hs g.arrived (λ s k. (mine s k).1) g.later);
  order = g.order;
  avoids = λ s z a. g.avoids s (let x : times s (l ++ t ∷ []) ≡ times s l + (one (s == t) + 0) = times_append s l (t ∷ []) in let c : one (s == t) ≡ 0 = ap one (apart s t (λ e. (a.0) (sym e))) in omega (arith, x, z, c)) (a.1);
}
  where
    mine : (s : ℕ) → r ≡ Some s → Avoids s g.standing × Avoids s g.arrived
    mine s k = let n : (times s (l ++ t ∷ []) ≡ 0) × Absent s hs = fresh_list r (l ++ t ∷ []) hs (fresh_more r l t by hs f) s k in g.avoids s (n.0) (n.1)

-- the run that added before adds nothing more once another job begins
over : (o : Order) (r : Option ℕ) (t : ℕ) (l rest : List ℕ) (hs : List Happening) (left : List ℕ) → Fresh r l (Begins t ∷ hs) → Orderly o (Some t) rest hs left → added_by r hs ≡ []
over o r t l rest hs left f a = gone o r t rest hs left (λ s e. ((fresh_list r l (Begins t ∷ hs) f s e).1).0) (λ s e. ((fresh_list r l (Begins t ∷ hs) f s e).1).1) a

hand_grown : (o : Order) (r : Option ℕ) (l rest : List ℕ) (t : ℕ) (hs : List Happening) (left : List ℕ) → Fresh r l (Begins t ∷ hs) → Hands o l t rest → Orderly o (Some t) rest hs left → Grown o (Some t) rest hs left → Grown o r l (Begins t ∷ hs) left
hand_grown o r l rest t hs left f h a g = record {
  standing = planted o t s.fore s.aft;
  arrived = g.arrived;
  top = planted_roots o l rest t s.fore s.aft h s.fore_roots ∙ sym (ap (λ z. l ++ z) (over o r t l rest hs left f a) ∙ nil_right l);
  below = spawned_begin t hs (planted o t s.fore s.aft) (planted_spawned o hs t s.fore s.aft s.aft_roots (spawned_left hs s.fore s.aft all) (spawned_right hs s.fore s.aft all));
  later = spawned_begin t hs g.arrived g.later;
  order = ap (λ z. t ∷ z) g.order ∙ ap (λ z. (t ∷ walk o z) ++ walk_each o g.arrived) s.is ∙ ap (λ z. z ++ walk_each o g.arrived) (sym (planted_walk o t s.fore s.aft));
  avoids = λ n z b. (planted_avoids o n t s.fore s.aft (b.0) (avoid_left n s.fore s.aft ((less n z b).0)) (avoid_right n s.fore s.aft ((less n z b).0)), (less n z b).1);
}
  where
    s : Split g.standing rest (added_by (Some t) hs)
    s = split g.standing rest (added_by (Some t) hs) g.top

    all : AreSpawned hs (graft s.fore s.aft)
    all = subst (AreSpawned hs) s.is g.below

    less : (n : ℕ) → times n l ≡ 0 → Absent n (Begins t ∷ hs) → Avoids n (graft s.fore s.aft) × Avoids n g.arrived
    less n z b = let x : times n l ≡ one (n == t) + times n rest = hands_times o l rest t n h in let y : Avoids n g.standing × Avoids n g.arrived = g.avoids n (omega (arith, x, z)) (b.1) in (subst (Avoids n) s.is (y.0), y.1)

come_grown : (o : Order) (r : Option ℕ) (l : List ℕ) (t : ℕ) (hs : List Happening) (left : List ℕ) → Fresh r l (Begins t ∷ hs) → l ≡ [] → Orderly o (Some t) [] hs left → Grown o (Some t) [] hs left → Grown o r l (Begins t ∷ hs) left
come_grown o r l t hs left f e a g = record {
  standing = NoTree;
  arrived = Tree t g.standing g.arrived;
  top = sym (ap (λ z. l ++ z) (over o r t l [] hs left f a) ∙ nil_right l ∙ e);
  below = tt;
  later = (g.top, (spawned_begin t hs g.standing g.below, spawned_begin t hs g.arrived g.later));
  order = ap (λ z. t ∷ z) g.order ∙ ap (λ z. z ++ walk_each o g.arrived) (sym (walk_one o t g.standing)) ∙ none o;
  avoids = λ n z b. (let y : Avoids n g.standing × Avoids n g.arrived = g.avoids n refl (b.1) in (tt, (b.0, (y.0, y.1))));
}
  where
    none : (o : Order) → walk o (Tree t g.standing NoTree) ++ walk_each o g.arrived ≡ walk o NoTree ++ (walk o (Tree t g.standing NoTree) ++ walk_each o g.arrived)
    none NewestFirst = refl
    none OldestFirst = refl

-- what is orderly grows trees
pub grown : (o : Order) (r : Option ℕ) (l : List ℕ) (hs : List Happening) (left : List ℕ) → Fresh r l hs → Orderly o r l hs left → Grown o r l hs left
grown o r l [] left f a = leaf_grown o r l left a
grown o r l (Adds by t ∷ hs) left f a = add_grown o r by l t hs left (a.0) f (grown o r (l ++ t ∷ []) hs left (fresh_more r l t by hs f) (a.1))
grown o r l (Redeems k b x ∷ hs) left f a = absurd a
grown o r l (Queues b by t ∷ hs) left f a = absurd a
grown o r l (Retakes b ∷ hs) left f a = absurd a
grown o r l (Begins t ∷ hs) left f (inl (rest, h, fresh, a)) = hand_grown o r l rest t hs left f h a (grown o (Some t) rest hs left fresh a)
grown o r l (Begins t ∷ hs) left f (inr (e, fresh, a)) = come_grown o r l t hs left f e a (grown o (Some t) [] hs left fresh a)
