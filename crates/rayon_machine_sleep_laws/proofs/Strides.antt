-- how a walk of wakes goes on from worker to worker
use Rattle.std.proofs.Common.{arith, refl, sym, ◌∙◌, ap, subst, inl, inr}
use Rattle.rayon_machine_sleep_laws.proofs.Words.{ℕ, Bool, true, false, ◌&&◌, ◌+◌, ◌-◌, ◌==◌, ◌<◌, ◌≤◌, nat_lt, if◌then◌else◌, Some, List, ◌≡◌, ◌⊎◌, IfSome, eq-eqb, lt-ltb, ltb-true, Party, Worker, Caller, Walk, Place, LockToWake, WakeWorker, UnlockWoken, Stay, Act, Lock, Wake, Unlock, Seen}
use Rattle.rayon_machine_sleep_laws.proofs.Words.{Yes, No, Go, PoolShape, act_of, finish, next_of, walk, Shape, Stack, World, Counts, Part, effect, counts_at, after_move, is_walk}
use Rattle.rayon_machine_laws.proofs.Attended.{always_awake}
use Rattle.rayon_machine_laws.proofs.Calm.{part_at}
use Rattle.rayon_machine_laws.proofs.Frame.{and_parts, if_some_all, if_some_map}
use Rattle.rayon_machine_laws.proofs.Pushing.{top_is}
use Rattle.rayon_machine_laws.proofs.Ties.{AllFrames, outcome, result}
use Rattle.rayon_machine_laws.proofs.Tops.{FramesOk, top_after}
use Rattle.rayon_machine_sleep_laws.specs.Walks.{WalksTo, WalkLaw}
use Rattle.rayon_machine_sleep_laws.proofs.Leavers.{frame_owes, finish_owes}
use Rattle.rayon_machine_sleep_laws.proofs.Rests.{acted, stepped, not_both}

-- the same, of the places before and after an act
record Strides (w : World) (q : Party) (x y : Place) (p i n : ℕ) : Type 0 where
  locked : WalksTo q x (Lock p i) p n → WalksTo q y (Wake p i) p n
  woken : WalksTo q x (Wake p i) p n → WalksTo q y (Unlock p i) p (if (w.seat p i).blocked then n - 1 else n)
  next : WalksTo q x (Unlock p i) p n → 0 < n → i + 1 < (w.shape.pool p).workers → WalksTo q y (Lock p (i + 1)) p n
  over : WalksTo q x (Unlock p i) p n → (n ≡ 0) ⊎ ((w.shape.pool p).workers ≤ i + 1) → is_walk y ≡ false

-- the act of a walk names its pool and worker
lock_is : (q : Party) (k : Walk) (p i : ℕ) → act_of q (LockToWake k) ≡ Lock p i → (k.pool ≡ p) × (k.worker ≡ i)
lock_is (Worker a b) k p i e = (cc, cc)
lock_is (Caller c) k p i e = (cc, cc)

wake_is : (q : Party) (k : Walk) (p i : ℕ) → act_of q (WakeWorker k) ≡ Wake p i → (k.pool ≡ p) × (k.worker ≡ i)
wake_is (Worker a b) k p i e = (cc, cc)
wake_is (Caller c) k p i e = (cc, cc)

unlock_is : (q : Party) (k : Walk) (p i : ℕ) → act_of q (UnlockWoken k) ≡ Unlock p i → (k.pool ≡ p) × (k.worker ≡ i)
unlock_is (Worker a b) k p i e = (cc, cc)
unlock_is (Caller c) k p i e = (cc, cc)

-- and no other
not_lock : (q : Party) (x : Place) (p i : ℕ) → is_walk x ≡ true → act_of q x ≡ Lock p i → (k : Walk) × (x ≡ LockToWake k)
not_lock q (LockToWake k) p i z e = (k, refl)
not_lock (Worker a b) (WakeWorker k) p i z e = cc
not_lock (Caller c) (WakeWorker k) p i z e = cc
not_lock (Worker a b) (UnlockWoken k) p i z e = cc
not_lock (Caller c) (UnlockWoken k) p i z e = cc
not_lock q x p i z e = cc

not_wake : (q : Party) (x : Place) (p i : ℕ) → is_walk x ≡ true → act_of q x ≡ Wake p i → (k : Walk) × (x ≡ WakeWorker k)
not_wake q (WakeWorker k) p i z e = (k, refl)
not_wake (Worker a b) (LockToWake k) p i z e = cc
not_wake (Caller c) (LockToWake k) p i z e = cc
not_wake (Worker a b) (UnlockWoken k) p i z e = cc
not_wake (Caller c) (UnlockWoken k) p i z e = cc
not_wake q x p i z e = cc

not_unlock : (q : Party) (x : Place) (p i : ℕ) → is_walk x ≡ true → act_of q x ≡ Unlock p i → (k : Walk) × (x ≡ UnlockWoken k)
not_unlock q (UnlockWoken k) p i z e = (k, refl)
not_unlock (Worker a b) (LockToWake k) p i z e = cc
not_unlock (Caller c) (LockToWake k) p i z e = cc
not_unlock (Worker a b) (WakeWorker k) p i z e = cc
not_unlock (Caller c) (WakeWorker k) p i z e = cc
not_unlock q x p i z e = cc

lock_act : (q : Party) (k : Walk) → act_of q (LockToWake k) ≡ Lock k.pool k.worker
lock_act (Worker a b) k = refl
lock_act (Caller c) k = refl

wake_act : (q : Party) (k : Walk) → act_of q (WakeWorker k) ≡ Wake k.pool k.worker
wake_act (Worker a b) k = refl
wake_act (Caller c) k = refl

unlock_act : (q : Party) (k : Walk) → act_of q (UnlockWoken k) ≡ Unlock k.pool k.worker
unlock_act (Worker a b) k = refl
unlock_act (Caller c) k = refl

at_worker : (f : ℕ → ℕ → Act) (a b p i : ℕ) → a ≡ p → b ≡ i → f a b ≡ f p i
at_worker f a b p i e d = ap (λ n. f n b) e ∙ ap (f p) d

-- how many it owes to its pool
owes : (b : Bool) (n m : ℕ) → b ≡ true → (if b then n else 0) ≡ m → n ≡ m
owes true n m z e = e
owes false n m z e = cc

own_pool_is : (p : ℕ) (k : Walk) → k.pool ≡ p → (p == k.pool) ≡ true
own_pool_is p k e = eq-eqb p k.pool (sym e)

lock_strides : (w : World) (q : Party) (k : Walk) (p i n : ℕ) → Strides w q (LockToWake k) (WakeWorker k) p i n
lock_strides w q k p i n = record {
  locked = λ s. (let e : (k.pool ≡ p) × (k.worker ≡ i) = lock_is q k p i (s.act) in record { walks = refl; act = wake_act q k ∙ at_worker Wake k.pool k.worker p i (e.0) (e.1); owed = s.owed });
  woken = λ s. absurd (let z : (j : Walk) × (LockToWake k ≡ WakeWorker j) = not_wake q (LockToWake k) p i refl (s.act) in let y : LockToWake k ≡ WakeWorker (z.0) = z.1 in cc);
  next = λ s a b. absurd (let z : (j : Walk) × (LockToWake k ≡ UnlockWoken j) = not_unlock q (LockToWake k) p i refl (s.act) in let y : LockToWake k ≡ UnlockWoken (z.0) = z.1 in cc);
  over = λ s a. absurd (let z : (j : Walk) × (LockToWake k ≡ UnlockWoken j) = not_unlock q (LockToWake k) p i refl (s.act) in let y : LockToWake k ≡ UnlockWoken (z.0) = z.1 in cc);
}

-- the place after a Wake
abbrev woke : Walk → Bool → Place
woke k true = UnlockWoken (record k { owed = k.owed - 1 })
woke k false = UnlockWoken k

wake_strides : (w : World) (q : Party) (k : Walk) (p i n : ℕ) → Strides w q (WakeWorker k) (woke k (w.seat k.pool k.worker).blocked) p i n
wake_strides w q k p i n = record {
  locked = λ s. absurd (let z : (j : Walk) × (WakeWorker k ≡ LockToWake j) = not_lock q (WakeWorker k) p i refl (s.act) in let y : WakeWorker k ≡ LockToWake (z.0) = z.1 in cc);
  woken = λ s. (let e : (k.pool ≡ p) × (k.worker ≡ i) = wake_is q k p i (s.act) in
      let b : (w.seat k.pool k.worker).blocked ≡ (w.seat p i).blocked = ap (λ a. (w.seat a k.worker).blocked) (e.0) ∙ ap (λ a. (w.seat p a).blocked) (e.1) in
      subst (λ c. WalksTo q (woke k c) (Unlock p i) p (if (w.seat p i).blocked then n - 1 else n)) (sym b) (at s e (w.seat p i).blocked));
  next = λ s a b. absurd (let z : (j : Walk) × (WakeWorker k ≡ UnlockWoken j) = not_unlock q (WakeWorker k) p i refl (s.act) in let y : WakeWorker k ≡ UnlockWoken (z.0) = z.1 in cc);
  over = λ s a. absurd (let z : (j : Walk) × (WakeWorker k ≡ UnlockWoken j) = not_unlock q (WakeWorker k) p i refl (s.act) in let y : WakeWorker k ≡ UnlockWoken (z.0) = z.1 in cc);
}
  where
    at : WalksTo q (WakeWorker k) (Wake p i) p n → (k.pool ≡ p) × (k.worker ≡ i) → (c : Bool) → WalksTo q (woke k c) (Unlock p i) p (if c then n - 1 else n)
    at s e true = record {
      walks = refl;
      act = unlock_act q (record k { owed = k.owed - 1 }) ∙ at_worker Unlock k.pool k.worker p i (e.0) (e.1);
      owed = (let m : k.owed ≡ n = owes (p == k.pool) k.owed n (own_pool_is p k (e.0)) (s.owed) in ap (λ z. if z then k.owed - 1 else 0) (own_pool_is p k (e.0)) ∙ ap (λ z. z - 1) m);
    }
    at s e false = record { walks = refl; act = unlock_act q k ∙ at_worker Unlock k.pool k.worker p i (e.0) (e.1); owed = s.owed }

-- the place after the lock is left
unlock_strides : (w : World) (q : Party) (k : Walk) (fs : List Place) (p i n : ℕ) → AllFrames fs → Strides w q (UnlockWoken k) ((after_move (walk (w.shape.pool k.pool) q k.pool k.owed (k.worker + 1) k.then) fs).top) p i n
unlock_strides w q k fs p i n f = record {
  locked = λ s. absurd (let z : (j : Walk) × (UnlockWoken k ≡ LockToWake j) = not_lock q (UnlockWoken k) p i refl (s.act) in let y : UnlockWoken k ≡ LockToWake (z.0) = z.1 in cc);
  woken = λ s. absurd (let z : (j : Walk) × (UnlockWoken k ≡ WakeWorker j) = not_wake q (UnlockWoken k) p i refl (s.act) in let y : UnlockWoken k ≡ WakeWorker (z.0) = z.1 in cc);
  next = λ s a b. goes s a b (nat_lt 0 k.owed && nat_lt (k.worker + 1) (w.shape.pool k.pool).workers) refl;
  over = λ s a. stops s a (nat_lt 0 k.owed && nat_lt (k.worker + 1) (w.shape.pool k.pool).workers) refl;
}
  where
    on : Bool → Place
    on b = (after_move (if b then Stay (LockToWake (record { pool = k.pool; owed = k.owed; worker = k.worker + 1; then = k.then })) else finish q k.then) fs).top

    known : WalksTo q (UnlockWoken k) (Unlock p i) p n → ((k.pool ≡ p) × (k.worker ≡ i)) × (k.owed ≡ n)
    known s = let e : (k.pool ≡ p) × (k.worker ≡ i) = unlock_is q k p i (s.act) in (e, owes (p == k.pool) k.owed n (own_pool_is p k (e.0)) (s.owed))

    goes : WalksTo q (UnlockWoken k) (Unlock p i) p n → 0 < n → i + 1 < (w.shape.pool p).workers → (b : Bool) → (nat_lt 0 k.owed && nat_lt (k.worker + 1) (w.shape.pool k.pool).workers) ≡ b → WalksTo q (on b) (Lock p (i + 1)) p n
    goes s a b true y = let e : ((k.pool ≡ p) × (k.worker ≡ i)) × (k.owed ≡ n) = known s in record {
      walks = refl;
      act = lock_act q (record { pool = k.pool; owed = k.owed; worker = k.worker + 1; then = k.then }) ∙ at_worker Lock k.pool (k.worker + 1) p (i + 1) ((e.0).0) (ap (λ z. z + 1) ((e.0).1));
      owed = ap (λ z. if z then k.owed else 0) (own_pool_is p k ((e.0).0)) ∙ e.1;
    }
    goes s a b false y = absurd (let e : ((k.pool ≡ p) × (k.worker ≡ i)) × (k.owed ≡ n) = known s in
        let c : nat_lt 0 k.owed ≡ true = lt-ltb 0 k.owed (subst (λ z. 0 < z) (sym (e.1)) a) in
        let m : k.worker ≡ i = (e.0).1 in
        let d : nat_lt (k.worker + 1) (w.shape.pool k.pool).workers ≡ true = lt-ltb (k.worker + 1) (w.shape.pool k.pool).workers (subst (λ z. k.worker + 1 < (w.shape.pool z).workers) (sym ((e.0).0)) (omega (arith, m, b))) in
        not_both (nat_lt 0 k.owed && nat_lt (k.worker + 1) (w.shape.pool k.pool).workers) (rw (c, d) refl) y)

    stops : WalksTo q (UnlockWoken k) (Unlock p i) p n → (n ≡ 0) ⊎ ((w.shape.pool p).workers ≤ i + 1) → (b : Bool) → (nat_lt 0 k.owed && nat_lt (k.worker + 1) (w.shape.pool k.pool).workers) ≡ b → is_walk (on b) ≡ false
    stops s a false y = top_after (λ z. is_walk z ≡ false) (finish q k.then) fs (finish_owes q k.then) frame_owes f
    stops s a true y = absurd (let e : ((k.pool ≡ p) × (k.worker ≡ i)) × (k.owed ≡ n) = known s in
        let c : (nat_lt 0 k.owed ≡ true) × (nat_lt (k.worker + 1) (w.shape.pool k.pool).workers ≡ true) = and_parts (nat_lt 0 k.owed) (nat_lt (k.worker + 1) (w.shape.pool k.pool).workers) y in
        let l : 0 < k.owed = ltb-true 0 k.owed (c.0) in
        let m : k.worker + 1 < (w.shape.pool p).workers = subst (λ z. k.worker + 1 < (w.shape.pool z).workers) ((e.0).0) (ltb-true (k.worker + 1) (w.shape.pool k.pool).workers (c.1)) in
        let g : k.owed ≡ n = e.1 in
        let h : k.worker ≡ i = (e.0).1 in
        elim a [ inl z ↦ absurd (omega (arith, l, g, z)) | inr z ↦ absurd (omega (arith, m, h, z)) ])

-- elsewhere there is no walk
none_strides : (w : World) (q : Party) (x y : Place) (p i n : ℕ) → is_walk x ≡ false → Strides w q x y p i n
none_strides w q x y p i n z = record {
  locked = λ s. absurd (not_both (is_walk x) (s.walks) z);
  woken = λ s. absurd (not_both (is_walk x) (s.walks) z);
  next = λ s a b. absurd (not_both (is_walk x) (s.walks) z);
  over = λ s a. absurd (not_both (is_walk x) (s.walks) z);
}

-- what a Wake sees
wake_sees : (h : Shape) (q : Party) (c : Counts) (m : Part) (k : Walk) → IfSome (effect (act_of q (WakeWorker k)) h q c m) (λ r. r.0 ≡ (if m.seat.blocked then Yes else No))
wake_sees h q c m k = subst (λ a. IfSome (effect a h q c m) (λ r. r.0 ≡ (if m.seat.blocked then Yes else No))) (sym (wake_act q k)) (by m.seat.blocked)
  where
    by : (b : Bool) → IfSome (if b then Some (Yes, record m { seat = record (m.seat) { blocked = false; asleep = false } }) else Some (No, m)) (λ (r : Seen × Part). r.0 ≡ (if b then Yes else No))
    by true = refl
    by false = refl

wake_leads : (g : PoolShape) (q : Party) (k : Walk) (fs : List Place) (b : Bool) → (after_move (next_of g q (WakeWorker k) (if b then Yes else No)) fs).top ≡ woke k b
wake_leads g q k fs true = refl
wake_leads g q k fs false = refl

abbrev On : World → Party → Place → World → Type 0
On w q x v = (p i n : ℕ) → Strides w q x (v.stack q).top p i n

stride : (w : World) (q : Party) (x : Place) (fs : List Place) → AllFrames fs → IfSome (outcome w q (record { top = x; below = fs })) (λ r. On w q x (result w q (record { top = x; below = fs }) r))
stride w q (LockToWake k) fs f = let s : Stack = record { top = LockToWake k; below = fs } in if_some_all {A = Seen × Part} (λ r. On w q (LockToWake k) (result w q s r)) (λ r p i n. subst (λ y. Strides w q (LockToWake k) y p i n) (sym (top_is w q s r)) (lock_strides w q k p i n)) (outcome w q s)
stride w (Worker a b) (WakeWorker k) fs f = let s : Stack = record { top = WakeWorker k; below = fs } in
    if_some_map (λ r. r.0 ≡ (if (w.seat k.pool k.worker).blocked then Yes else No)) (λ r. On w (Worker a b) (WakeWorker k) (result w (Worker a b) s r))
    (λ r e p i n. subst (λ y. Strides w (Worker a b) (WakeWorker k) y p i n) (sym (top_is w (Worker a b) s r ∙ ap (λ z. (after_move (next_of (w.shape.pool k.pool) (Worker a b) (WakeWorker k) z) fs).top) e ∙ wake_leads (w.shape.pool k.pool) (Worker a b) k fs
    (w.seat k.pool k.worker).blocked)) (wake_strides w (Worker a b) k p i n)) (outcome w (Worker a b) s)
    (wake_sees w.shape (Worker a b) (counts_at w k.pool) (part_at w (Worker a b) s) k)
stride w (Caller c) (WakeWorker k) fs f = let s : Stack = record { top = WakeWorker k; below = fs } in
    if_some_map (λ r. r.0 ≡ (if (w.seat k.pool k.worker).blocked then Yes else No)) (λ r. On w (Caller c) (WakeWorker k) (result w (Caller c) s r))
    (λ r e p i n. subst (λ y. Strides w (Caller c) (WakeWorker k) y p i n) (sym (top_is w (Caller c) s r ∙ ap (λ z. (after_move (next_of (w.shape.pool k.pool) (Caller c) (WakeWorker k) z) fs).top) e ∙ wake_leads (w.shape.pool k.pool) (Caller c) k fs
    (w.seat k.pool k.worker).blocked)) (wake_strides w (Caller c) k p i n)) (outcome w (Caller c) s)
    (wake_sees w.shape (Caller c) (counts_at w k.pool) (part_at w (Caller c) s) k)
stride w (Worker a b) (UnlockWoken k) fs f = let s : Stack = record { top = UnlockWoken k; below = fs } in if_some_all {A = Seen × Part} (λ r. On w (Worker a b) (UnlockWoken k) (result w (Worker a b) s r)) (λ r p i n. subst (λ y. Strides w (Worker a b) (UnlockWoken k) y p i n)
    (sym (top_is w (Worker a b) s r)) (unlock_strides w (Worker a b) k fs p i n f)) (outcome w (Worker a b) s)
stride w (Caller c) (UnlockWoken k) fs f = let s : Stack = record { top = UnlockWoken k; below = fs } in if_some_all {A = Seen × Part} (λ r. On w (Caller c) (UnlockWoken k) (result w (Caller c) s r)) (λ r p i n. subst (λ y. Strides w (Caller c) (UnlockWoken k) y p i n) (sym
    (top_is w (Caller c) s r)) (unlock_strides w (Caller c) k fs p i n f)) (outcome w (Caller c) s)
stride w q x fs f = if_some_all {A = Seen × Part} (λ r. On w q x (result w q (record { top = x; below = fs }) r)) (λ r p i n. none_strides w q x ((result w q (record { top = x; below = fs }) r).stack q).top p i n refl) (outcome w q (record { top = x; below = fs }))

pub walk_law : WalkLaw
walk_law shape before w v q p i n m =
    let fr : FramesOk w = (always_awake shape before w m.reached).frames in
    let s : Strides w q (w.stack q).top (v.stack q).top p i n = stepped w v (Go q) (On w q (w.stack q).top) m.made (acted w q (On w q (w.stack q).top) (stride w q (w.stack q).top (w.stack q).below (fr q))) p i n in
    record { locked = s.locked; woken = s.woken; next = s.next; over = s.over }
