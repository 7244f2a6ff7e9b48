-- in a pool of one worker each job of a FIFO list of the worker has a token in the worker's own deque or in its hand,
-- or its call is about to push one
--
-- This is `Full`, and `full_step` keeps it. So where the deque is empty the FIFO list is empty too.
use Rattle.std.proofs.Common.{arith, refl, sym, ◌∙◌, ap, subst, inl, inr}
use Rattle.rayon_machine_orders.proofs.Words.{ℕ, Bool, true, false, ◌&&◌, ◌+◌, ◌==◌, ◌≤◌, if◌then◌else◌, Option, Some, None, List, [], ◌∷◌, ◌++◌, ◌≡◌, ◌⊎◌, IfSome, length, eqb-true, eq-eqb, length-append, Order, NewestFirst, OldestFirst, Feeding, JobKind, TokenOf, Party, Worker, Place}
use Rattle.rayon_machine_orders.proofs.Words.{LookForToken, PushToken, TakeFromFifo, Taken, Plain, Token, Event, act_of, count_book, World, but_last, same_list, taken_as, Happening, Adds, Queues, Retakes, Begins, Redeems, Hands, Changes, Joins, Leaves, Comes, one, times}
use Rattle.rayon_machine_orders.proofs.Dealing.{Deals, kinds}
use Rattle.rayon_machine_orders.proofs.Dealt.{elsewhere}
use Rattle.rayon_machine_orders.proofs.Lined.{Lined, told}
use Rattle.rayon_machine_orders.proofs.Lone.{taken}
use Rattle.rayon_machine_orders.proofs.Walks.{hands_times}

-- a token of this list of worker 0
abbrev pub is_of : Option ℕ → JobKind → Bool
is_of b (TokenOf i c) = (i == 0) && same_list b c
is_of b _ = false

-- the tokens of the list among these
abbrev pub tokens : (ℕ → JobKind) → Option ℕ → List ℕ → ℕ
tokens k b [] = 0
tokens k b (t ∷ ts) = one (is_of b (k t)) + tokens k b ts

-- and what a party has taken
abbrev pub grasped : Option ℕ → Option Taken → ℕ
grasped b (Some (Token k i c)) = one ((i == 0) && same_list b c)
grasped b _ = 0

-- a call that has added its job to the list and not pushed its token
abbrev pub unpushed : Option ℕ → Place → ℕ
unpushed b (LookForToken f) = one (same_list b (count_book f.count))
unpushed b (PushToken f v) = one (same_list b (count_book f.count))
unpushed b (TakeFromFifo f) = one (same_list b (count_book f.count))
unpushed b _ = 0

-- the list has no more jobs than that
abbrev pub Full : ℕ → Option ℕ → World → Type 0
Full p b w = length ((w.seat p 0).fifo b) ≤ (tokens (kinds w) b (w.seat p 0).own + grasped b (taken (w.stack (Worker p 0)).top)) + unpushed b (w.stack (Worker p 0)).top

-- what a step does to the call that is under way, by what happens
abbrev pub Unpushed : (ℕ → JobKind) → Option ℕ → Place → Place → Option Happening → Type 0
Unpushed k b x y None = unpushed b x ≡ unpushed b y
Unpushed k b x y (Some (Adds by t)) = (unpushed b x ≤ one (is_of b (k t))) × (unpushed b y ≡ 0)
Unpushed k b x y (Some (Queues c by t)) = (unpushed b x ≡ 0) × (unpushed b y ≡ one (same_list b c))
Unpushed k b x y (Some (Retakes c)) = (unpushed b x ≡ one (same_list b c)) × (unpushed b y ≡ 0)
Unpushed k b x y (Some (Begins t)) = (unpushed b x ≡ 0) × (unpushed b y ≡ 0)
Unpushed k b x y (Some (Redeems t c r)) = (unpushed b x ≡ 0) × (unpushed b y ≡ 0)

tokens_push : (k : ℕ → JobKind) (b : Option ℕ) (l : List ℕ) (t : ℕ) → tokens k b (l ++ t ∷ []) ≡ tokens k b l + one (is_of b (k t))
tokens_push k b [] t = omega arith
tokens_push k b (u ∷ us) t = let e : tokens k b (us ++ t ∷ []) ≡ tokens k b us + one (is_of b (k t)) = tokens_push k b us t in omega (arith, e)

tokens_hand : (k : ℕ → JobKind) (b : Option ℕ) (o : Order) (l m : List ℕ) (t : ℕ) → Hands o l t m → tokens k b l ≡ one (is_of b (k t)) + tokens k b m
tokens_hand k b NewestFirst l m t h = let e : tokens k b l ≡ tokens k b m + one (is_of b (k t)) = ap (tokens k b) h ∙ tokens_push k b m t in omega (arith, e)
tokens_hand k b OldestFirst l m t h = ap (tokens k b) h

-- where the kinds are the same
tokens_same : (k n : ℕ → JobKind) (b : Option ℕ) (l : List ℕ) → ((t : ℕ) → 1 ≤ times t l → n t ≡ k t) → tokens n b l ≡ tokens k b l
tokens_same k n b [] f = refl
tokens_same k n b (t ∷ ts) f =
    let a : one (is_of b (n t)) ≡ one (is_of b (k t)) = ap (λ z. one (is_of b z)) (f t (let e : one (t == t) ≡ 1 = ap one (eq-eqb t t refl) in omega (arith, e))) in
    let c : tokens n b ts ≡ tokens k b ts = tokens_same k n b ts (λ s l. f s (omega (arith, l))) in omega (arith, a, c)

grasped_as : (b : Option ℕ) (t : ℕ) (k : JobKind) → grasped b (Some (taken_as t k)) ≡ one (is_of b k)
grasped_as b t (TokenOf i c) = refl
grasped_as b t _ = refl

last_shorter : (l : List ℕ) → length (but_last l) ≤ length l
last_shorter (t ∷ u ∷ ts) = let a : length (but_last (u ∷ ts)) ≤ length (u ∷ ts) = last_shorter (u ∷ ts) in omega (arith, a)
last_shorter _ = omega arith

last_short : (l : List ℕ) (n : ℕ) → length l ≤ n + 1 → length (but_last l) ≤ n
last_short (t ∷ u ∷ ts) n e = let a : length (but_last (u ∷ ts)) + 1 ≤ length (u ∷ ts) = drop u ts in omega (arith, a, e)
  where
    drop : (u : ℕ) (ts : List ℕ) → length (but_last (u ∷ ts)) + 1 ≤ length (u ∷ ts)
    drop u [] = omega arith
    drop u (v ∷ vs) = let a : length (but_last (v ∷ vs)) + 1 ≤ length (v ∷ vs) = drop v vs in omega (arith, a)
last_short _ n e = omega arith

-- the length of the list after a step
queued_length : (b c : Option ℕ) (l m : List ℕ) (t : ℕ) → Changes l (if same_list b c then Some (Joins t) else None) m → length m ≡ length l + one (same_list b c)
queued_length b c l m t = by (same_list b c)
  where
    by : (z : Bool) → Changes l (if z then Some (Joins t) else None) m → length m ≡ length l + one z
    by true e = ap length e ∙ length-append l (t ∷ [])
    by false e = let a : length m ≡ length l = ap length e in omega (arith, a)

retaken_length : (b c : Option ℕ) (l m : List ℕ) (n : ℕ) → Changes l (if same_list b c then Some Leaves else None) m → length l ≤ n + one (same_list b c) → length m ≤ n
retaken_length b c l m n = by (same_list b c)
  where
    by : (z : Bool) → Changes l (if z then Some Leaves else None) m → length l ≤ n + one z → length m ≤ n
    by true e h = let a : length m ≡ length (but_last l) = ap length e in let d : length (but_last l) ≤ n = last_short l n h in omega (arith, a, d)
    by false e h = let a : length m ≡ length l = ap length e in omega (arith, a, h)

drawn_length : (b c : Option ℕ) (l m : List ℕ) (r : Option ℕ) → Changes l (if same_list b c then Some (Comes r) else None) m → length m + one (same_list b c) ≡ length l
drawn_length b c l m r = by (same_list b c)
  where
    by : (z : Bool) → Changes l (if z then Some (Comes r) else None) m → length m + one z ≡ length l
    by true (t, e, h) = let a : length l ≡ length (t ∷ m) = ap length h in omega (arith, a)
    by false e = let a : length m ≡ length l = ap length e in omega (arith, a)

both_less : (x y : Bool) → one (x && y) ≤ one y
both_less true true = omega arith
both_less true false = omega arith
both_less false y = omega arith

more_grasped : (b : Option ℕ) (x y : Option Taken) (z : Bool) → ((x ≡ None) × ((y ≡ None) ⊎ (z ≡ true))) ⊎ (y ≡ x) → grasped b x ≤ grasped b y
more_grasped b x y z (inl (e, c)) = let n : grasped b x ≡ 0 = ap (grasped b) e in omega (arith, n)
more_grasped b x y z (inr e) = let n : grasped b y ≡ grasped b x = ap (grasped b) e in omega (arith, n)

-- lengths and counts alone: what the list has, what the deque has, what is in hand, and what is unpushed
kept_full : (l m t n g h x y : ℕ) → m ≡ l → n ≡ t → g ≤ h → x ≡ y → l ≤ (t + g) + x → m ≤ (n + h) + y
kept_full l m t n g h x y a b c d f = omega (arith, a, b, c, d, f)

popped_full : (l m t n g h x y i : ℕ) → m ≡ l → t ≡ i + n → g ≡ 0 → h ≡ i → x ≡ y → l ≤ (t + g) + x → m ≤ (n + h) + y
popped_full l m t n g h x y i a b c d e f = omega (arith, a, b, c, d, e, f)

added_full : (l m t n g h x y i : ℕ) → m ≡ l → n ≡ t + i → g ≡ 0 → x ≤ i → l ≤ (t + g) + x → m ≤ (n + h) + y
added_full l m t n g h x y i a b c d f = omega (arith, a, b, c, d, f)

queued_full : (l m t n g h x y i : ℕ) → m ≡ l + i → n ≡ t → g ≡ 0 → x ≡ 0 → y ≡ i → l ≤ (t + g) + x → m ≤ (n + h) + y
queued_full l m t n g h x y i a b c d e f = omega (arith, a, b, c, d, e, f)

retaken_full : (m t n h y : ℕ) → m ≤ t → n ≡ t → m ≤ (n + h) + y
retaken_full m t n h y a b = omega (arith, a, b)

begun_full : (l m t n g h x y : ℕ) → m ≡ l → n ≡ t → g ≡ 0 → x ≡ 0 → l ≤ (t + g) + x → m ≤ (n + h) + y
begun_full l m t n g h x y a b c d f = omega (arith, a, b, c, d, f)

drawn_full : (l m t n g h x y i : ℕ) → m + i ≡ l → n ≡ t → g ≤ i → x ≡ 0 → l ≤ (t + g) + x → m ≤ (n + h) + y
drawn_full l m t n g h x y i a b c d f = omega (arith, a, b, c, d, f)

few : (l t g x i : ℕ) → g ≡ 0 → x ≡ i → l ≤ (t + g) + x → l ≤ t + i
few l t g x i a b f = omega (arith, a, b, f)

plain_grasped : (b : Option ℕ) (x : Option Taken) (t : ℕ) → x ≡ Some (Plain t) → grasped b x ≡ 0
plain_grasped b x t e = ap (grasped b) e

token_grasped : (b : Option ℕ) (x : Option Taken) (t i : ℕ) (c : Option ℕ) → x ≡ Some (Token t i c) → grasped b x ≤ one (same_list b c)
token_grasped b x t i c e = let z : grasped b x ≡ one ((i == 0) && same_list b c) = ap (grasped b) e in let u : one ((i == 0) && same_list b c) ≤ one (same_list b c) = both_less (i == 0) (same_list b c) in omega (arith, z, u)

-- a step keeps it
pub full_step : (o : Order) (p : ℕ) (b : Option ℕ) (w v : World) (h : Option Happening) → Deals o p 0 w v h → Lined p w v h → ((t : ℕ) → 1 ≤ times t (w.seat p 0).own → (v.job t).kind ≡ (w.job t).kind) → ((by : Option ℕ) (t : ℕ) → h ≡ Some (Adds by t) → (v.job t).kind ≡ (w.job t).kind) →
    Unpushed (kinds w) b (w.stack (Worker p 0)).top (v.stack (Worker p 0)).top h → Full p b w → Full p b v
full_step o p b w v h de li ks kt un f = by h de li kt un
  where
    x : Place
    x = (w.stack (Worker p 0)).top

    y : Place
    y = (v.stack (Worker p 0)).top

    l : ℕ
    l = length ((w.seat p 0).fifo b)

    m : ℕ
    m = length ((v.seat p 0).fifo b)

    t0 : ℕ
    t0 = tokens (kinds w) b (w.seat p 0).own

    n0 : ℕ
    n0 = tokens (kinds v) b (v.seat p 0).own

    same_own : (v.seat p 0).own ≡ (w.seat p 0).own → n0 ≡ t0
    same_own e = ap (tokens (kinds v) b) e ∙ tokens_same (kinds w) (kinds v) b (w.seat p 0).own ks

    none : (z : Option Taken) → z ≡ None → grasped b z ≡ 0
    none z e = ap (grasped b) e

    by : (h : Option Happening) → Deals o p 0 w v h → Lined p w v h → ((by : Option ℕ) (t : ℕ) → h ≡ Some (Adds by t) → (v.job t).kind ≡ (w.job t).kind) → Unpushed (kinds w) b x y h → Full p b v
    by None (inl (same, k)) d kt a = kept_full l m t0 n0 (grasped b (taken x)) (grasped b (taken y)) (unpushed b x) (unpushed b y) (ap length (d b)) (same_own same) (more_grasped b (taken x) (taken y) (elsewhere x) k) a f
    by None (inr (t, hd, n, g)) d kt a = popped_full l m t0 n0 (grasped b (taken x)) (grasped b (taken y)) (unpushed b x) (unpushed b y) (one (is_of b (w.job t).kind)) (ap length (d b))
        (tokens_hand (kinds w) b o (w.seat p 0).own (v.seat p 0).own t hd
        ∙ ap (λ z. one (is_of b (w.job t).kind) + z) (sym (tokens_same (kinds w) (kinds v) b (v.seat p 0).own (λ s e. ks s (let c : times s (w.seat p 0).own ≡ one (s == t) + times s (v.seat p 0).own = hands_times o (w.seat p 0).own (v.seat p 0).own t s hd in omega (arith, c, e))))))
        (none (taken x) n) (ap (grasped b) g ∙ grasped_as b t (w.job t).kind) a f
    by (Some (Adds c t)) (grow, n, g) d kt a = added_full l m t0 n0 (grasped b (taken x)) (grasped b (taken y)) (unpushed b x) (unpushed b y) (one (is_of b (w.job t).kind)) (ap length (d b))
        (ap (tokens (kinds v) b) grow ∙ tokens_push (kinds v) b (w.seat p 0).own t ∙ ap (λ z. z + one (is_of b (v.job t).kind)) (tokens_same (kinds w) (kinds v) b (w.seat p 0).own ks) ∙ ap (λ z. t0 + one (is_of b z)) (kt c t refl))
        (none (taken x) n) (a.0) f
    by (Some (Queues c r t)) (same, n, g) d kt a = queued_full l m t0 n0 (grasped b (taken x)) (grasped b (taken y)) (unpushed b x) (unpushed b y) (one (same_list b c)) (queued_length b c ((w.seat p 0).fifo b) ((v.seat p 0).fifo b) t (d b)) (same_own same) (none (taken x) n) (a.0) (a.1) f
    by (Some (Retakes c)) (same, n, g) d kt a = retaken_full m t0 n0 (grasped b (taken y)) (unpushed b y) (retaken_length b c ((w.seat p 0).fifo b) ((v.seat p 0).fifo b) t0 (d b) (few l t0 (grasped b (taken x)) (unpushed b x) (one (same_list b c)) (none (taken x) n) (a.0) f)) (same_own same)
    by (Some (Begins t)) (same, n, g) d kt a = begun_full l m t0 n0 (grasped b (taken x)) (grasped b (taken y)) (unpushed b x) (unpushed b y) (ap length (d b)) (same_own same) (plain_grasped b (taken x) t n) (a.0) f
    by (Some (Redeems t c r)) (same, (i, n), g) d kt a = drawn_full l m t0 n0 (grasped b (taken x)) (grasped b (taken y)) (unpushed b x) (unpushed b y) (one (same_list b c)) (drawn_length b c ((w.seat p 0).fifo b) ((v.seat p 0).fifo b) r (d b)) (same_own same)
        (token_grasped b (taken x) t i c n) (a.0) f
