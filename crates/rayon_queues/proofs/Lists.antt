-- A worker's lists stay distinct, and what a change of one of them leaves of the others.
use Rattle.std.proofs.Common.{◌≡◌, ◌≢◌, ℕ, zero, suc, true, false, eqb, if◌then◌else◌, List, [], ◌∷◌, ◌++◌, length, get_or, set, slice_get, ◌⊎◌, inl, inr, Option, None, Some, Result, Ok, Err, MatchOption, MatchResult, sym, refl, ap, ◌∙◌, subst, eq-eqb, ne_eqb}
use Rattle.std.proofs.lemmas.Bool.{cases_eq}
use Rattle.std.proofs.lemmas.Option.{none-some, same_Some, get_or_from_slice_get}
use Rattle.std.proofs.lemmas.List.{same_from_push}
use Rattle.std.proofs.lemmas.List.Elements.{All-nil, All-cons, All-head, All-tail, All-set, All-append}
use Rattle.rayon_queues.specs.Lists.{ScopeList, Lists, jobs_in, jobs_of, Becomes, SameLists, Lacks, Distinct}

-- whether two scopes are one
same_scope : (a b : Option ℕ) → (a ≡ b) ⊎ (a ≢ b)
same_scope None None = inl refl
same_scope None (Some s) = inr (none-some s)
same_scope (Some s) None = inr (λ e. none-some s (sym e))
same_scope (Some s) (Some t) = elim (cases_eq s t) [ inl e ↦ inl (ap Some e) | inr ne ↦ inr (λ e. ne (same_Some s t e)) ]

module _ {T : Type 0} where
  -- the lists of these jobs
  abbrev pub lists : List T → List (ScopeList T) → Lists T
  lists detached scoped = record { detached = detached; scoped = scoped }

  -- the list of this scope and these jobs
  abbrev pub list : ℕ → List T → ScopeList T
  list scope jobs = record { scope = scope; jobs = jobs }

  -- the list at this index is of this scope
  abbrev pub IsPlace : List (ScopeList T) → ℕ → ℕ → Type 0
  IsPlace xs i scope = (x : ScopeList T) × (slice_get xs i ≡ Some x) × (x.scope ≡ scope)

  -- a list may stand where this one does: it is of the same scope, or of one that has no list, and this one is empty
  abbrev pub MayFollow : List (ScopeList T) → ScopeList T → ScopeList T → Type 0
  MayFollow xs old new = (new.scope ≡ old.scope) ⊎ ((old.jobs ≡ []) × Lacks xs new.scope)

  not_at : (xs : List (ScopeList T)) (i : ℕ) (x : ScopeList T) (s : ℕ) → slice_get xs i ≡ Some x → Lacks xs s → x.scope ≢ s
  not_at [] i x s e h = absurd (none-some x e)
  not_at (y ∷ ys) zero x s e h = λ q. All-head (λ z. z.scope ≢ s) y ys h (ap (λ z. z.scope) (same_Some y x e) ∙ q)
  not_at (y ∷ ys) (suc i) x s e h = not_at ys i x s e (All-tail (λ z. z.scope ≢ s) y ys h)

  pub none_in : (xs : List (ScopeList T)) (s : ℕ) → Lacks xs s → jobs_in xs s ≡ []
  none_in [] s h = refl
  none_in (x ∷ xs) s h =
      let e : eqb x.scope s ≡ false = ne_eqb x.scope s (All-head (λ z. z.scope ≢ s) x xs h) in
      rw e (none_in xs s (All-tail (λ z. z.scope ≢ s) x xs h))

  jobs_at : (xs : List (ScopeList T)) (i : ℕ) (x : ScopeList T) → Distinct xs → slice_get xs i ≡ Some x → jobs_in xs x.scope ≡ x.jobs
  jobs_at [] i x d e = absurd (none-some x e)
  jobs_at (y ∷ ys) zero x d e =
      let p = same_Some y x e in
      let q : eqb y.scope x.scope ≡ true = eq-eqb y.scope x.scope (ap (λ z. z.scope) p) in
      rw q (ap (λ z. z.jobs) p)
  jobs_at (y ∷ ys) (suc i) x d e =
      let q : eqb y.scope x.scope ≡ false = ne_eqb y.scope x.scope (λ z. not_at ys i x y.scope e d.0 (sym z)) in
      rw q (jobs_at ys i x d.1 e)

  -- what may follow at an index may follow in what comes after the first list
  follows_later : (y : ScopeList T) (ys : List (ScopeList T)) (x new : ScopeList T) → MayFollow (y ∷ ys) x new → MayFollow ys x new
  follows_later y ys x new m =
      elim m [ inl e ↦ inl e | inr h ↦ inr (h.0, All-tail (λ z. z.scope ≢ new.scope) y ys h.1) ]

  apart : (y : ScopeList T) (ys : List (ScopeList T)) (i : ℕ) (x new : ScopeList T) → Lacks ys y.scope → slice_get ys i ≡ Some x → MayFollow (y ∷ ys) x new → new.scope ≢ y.scope
  apart y ys i x new l e m = elim m [
    | inl p ↦ λ q. not_at ys i x y.scope e l (sym p ∙ q)
    | inr h ↦ λ q. All-head (λ z. z.scope ≢ new.scope) y ys h.1 (sym q)
  ]

  pub distinct_set : (xs : List (ScopeList T)) (i : ℕ) (x new : ScopeList T) → Distinct xs → slice_get xs i ≡ Some x → MayFollow xs x new → Distinct (set xs i new)
  distinct_set [] i x new d e m = absurd (none-some x e)
  distinct_set (y ∷ ys) zero x new d e m = elim m [
    | inl p ↦ (subst (λ s. Lacks ys s) (ap (λ z. z.scope) (same_Some y x e) ∙ sym p) d.0, d.1)
    | inr h ↦ (All-tail (λ z. z.scope ≢ new.scope) y ys h.1, d.1)
  ]
  distinct_set (y ∷ ys) (suc i) x new d e m =
      (All-set (λ z. z.scope ≢ y.scope) ys i new (apart y ys i x new d.0 e m) d.0, distinct_set ys i x new d.1 e (follows_later y ys x new m))

  -- the jobs of another scope
  other_in : (xs : List (ScopeList T)) (i : ℕ) (x new : ScopeList T) (s : ℕ) → Distinct xs → slice_get xs i ≡ Some x → MayFollow xs x new → s ≢ new.scope → jobs_in (set xs i new) s ≡ jobs_in xs s
  other_in [] i x new s d e m ne = absurd (none-some x e)
  other_in (y ∷ ys) zero x new s d e m ne =
      let n : eqb new.scope s ≡ false = ne_eqb new.scope s (λ q. ne (sym q)) in
      let p = same_Some y x e in
      rw n (elim (cases_eq y.scope s) [
        | inr q ↦ let k : eqb y.scope s ≡ false = ne_eqb y.scope s q in rw k refl
        | inl q ↦ let k : eqb y.scope s ≡ true = eq-eqb y.scope s q in rw k (elim m [
          | inl z ↦ absurd (ne (sym q ∙ ap (λ z. z.scope) p ∙ sym z))
          | inr h ↦ none_in ys s (subst (λ z. Lacks ys z) q d.0) ∙ sym (ap (λ z. z.jobs) p ∙ h.0)
        ])
      ])
  other_in (y ∷ ys) (suc i) x new s d e m ne =
      ap (λ z. if eqb y.scope s then y.jobs else z) (other_in ys i x new s d.1 e (follows_later y ys x new m) ne)

  pub at_set : (xs : List (ScopeList T)) (i : ℕ) (x new : ScopeList T) → slice_get xs i ≡ Some x → slice_get (set xs i new) i ≡ Some new
  at_set [] i x new e = absurd (none-some x e)
  at_set (y ∷ ys) zero x new e = refl
  at_set (y ∷ ys) (suc i) x new e = at_set ys i x new e

  pub at_end : (xs : List (ScopeList T)) (new : ScopeList T) → slice_get (xs ++ new ∷ []) (length xs) ≡ Some new
  at_end [] new = refl
  at_end (x ∷ xs) new = at_end xs new

  pub distinct_more : (xs : List (ScopeList T)) (new : ScopeList T) → Distinct xs → Lacks xs new.scope → Distinct (xs ++ new ∷ [])
  distinct_more [] new d h = (All-nil (λ z. z.scope ≢ new.scope), tt)
  distinct_more (x ∷ xs) new d h = (
    All-append (λ z. z.scope ≢ x.scope) xs (new ∷ []) d.0 (All-cons (λ z. z.scope ≢ x.scope) new [] (λ q. All-head (λ z. z.scope ≢ new.scope) x xs h (sym q)) (All-nil (λ z. z.scope ≢ x.scope))),
    distinct_more xs new d.1 (All-tail (λ z. z.scope ≢ new.scope) x xs h),
  )

  same_more : (xs : List (ScopeList T)) (scope s : ℕ) → jobs_in (xs ++ list scope [] ∷ []) s ≡ jobs_in xs s
  same_more [] scope s = elim (eqb scope s) as (λ b. if◌then◌else◌ {A = List T} b [] [] ≡ []) [ true ↦ refl | false ↦ refl ]
  same_more (x ∷ xs) scope s = ap (λ z. if eqb x.scope s then x.jobs else z) (same_more xs scope s)

  -- a list that has become what it was
  pub unchanged : (l m : Lists T) (b : Option ℕ) (jobs : List T) → Becomes l b jobs m → jobs ≡ jobs_of l b → SameLists l m
  unchanged l m b jobs h e o = elim (same_scope o b) [ inl p ↦ subst (λ z. jobs_of m z ≡ jobs_of l z) (sym p) (h.0 ∙ e) | inr ne ↦ h.1 o ne ]

  -- a job that was pushed and undone
  pub same_again : (l m n : Lists T) (b : Option ℕ) (jobs : List T) → Becomes l b jobs m → Becomes m b (jobs_of l b) n → SameLists l n
  same_again l m n b jobs f g = unchanged l n b (jobs_of l b) (g.0, λ o ne. g.1 o ne ∙ f.1 o ne) refl

  -- the list that was found by its scope
  pub found : (xs : List (ScopeList T)) (i : ℕ) (b : Option ℕ) (number s : ℕ) (jobs : List T) (now : ScopeList T) → IsPlace xs i number → now ≡ get_or xs i now → list s jobs ≡ now → b ≡ Some number → (slice_get xs i ≡ Some (list s jobs)) × (b ≡ Some s)
  found xs i b number s jobs now p e v h =
      let same : list s jobs ≡ p.0 = v ∙ e ∙ get_or_from_slice_get xs i p.0 now p.1 in
      (p.1 ∙ ap Some (sym same), h ∙ ap Some (sym p.2 ∙ sym (ap (λ z. z.scope) same)))

  -- the lists after one of them has other jobs
  abbrev pub put : List T → List (ScopeList T) → ℕ → ℕ → List T → Lists T
  put detached xs i s new = lists detached (set xs i (list s new))

  becomes : (detached : List T) (xs : List (ScopeList T)) (i s : ℕ) (jobs new : List T) → Distinct xs → slice_get xs i ≡ Some (list s jobs) → Becomes (lists detached xs) (Some s) new (put detached xs i s new)
  becomes detached xs i s jobs new d e = (jobs_at (set xs i (list s new)) i (list s new) (distinct_set xs i (list s jobs) (list s new) d e (inl refl)) (at_set xs i (list s jobs) (list s new) e), others)
    where
      others : (o : Option ℕ) → o ≢ Some s → jobs_of (put detached xs i s new) o ≡ jobs_of (lists detached xs) o
      others None ne = refl
      others (Some t) ne = other_in xs i (list s jobs) (list s new) t d e (inl refl) (λ q. ne (ap Some q))

  -- the same of lists that are these, and the jobs that stood there
  pub changed : (l : Lists T) (b : Option ℕ) (detached : List T) (xs : List (ScopeList T)) (i s : ℕ) (jobs new : List T) → lists detached xs ≡ l → (slice_get xs i ≡ Some (list s jobs)) × (b ≡ Some s) → Distinct xs → Becomes l b new (put detached xs i s new) × (jobs_of l b ≡ jobs)
  changed l b detached xs i s jobs new e at d =
      subst (λ m. Becomes m b new (put detached xs i s new) × (jobs_of m b ≡ jobs)) e
      (subst (λ o. Becomes (lists detached xs) o new (put detached xs i s new) × (jobs_of (lists detached xs) o ≡ jobs)) (sym at.1) (becomes detached xs i s jobs new d at.0, jobs_at xs i (list s jobs) d at.0))

  -- a job was taken out of one list, from which `whole` says how it stood there with the others
  abbrev pub Taken : (T → List T → List T) → Lists T → Option ℕ → Option T → Lists T → Type 0
  Taken whole l b r m = MatchOption r ((jobs_of l b ≡ []) × SameLists l m) (λ job. (jobs_of l b ≡ whole job (jobs_of m b)) × Becomes l b (jobs_of m b) m)

  pub taken : (whole : T → List T → List T) (l m : Lists T) (b : Option ℕ) (jobs new : List T) (r : Option T) → Becomes l b new m × (jobs_of l b ≡ jobs) → MatchOption r ((jobs ≡ []) × (new ≡ [])) (λ job. jobs ≡ whole job new) → Taken whole l b r m
  taken whole l m b jobs new None h t = (h.1 ∙ t.0, unchanged l m b new h.0 (t.1 ∙ sym (h.1 ∙ t.0)))
  taken whole l m b jobs new (Some job) h t = (h.1 ∙ t ∙ ap (whole job) (sym h.0.0), (refl, h.0.1))

  -- a list that is not there has no jobs to take
  pub none_taken : (whole : T → List T → List T) (l : Lists T) (b : Option ℕ) (number : ℕ) (detached : List T) (xs : List (ScopeList T)) (r : Option T) → lists detached xs ≡ l → b ≡ Some number → Lacks xs number → r ≡ None → Taken whole l b r l
  none_taken whole l b number detached xs r e h k n =
      subst (λ o. Taken whole l b o l) (sym n) (subst (λ m. jobs_of m b ≡ []) e (subst (λ o. jobs_of (lists detached xs) o ≡ []) (sym h) (none_in xs number k)), λ o. refl)

  pub first_taken : (l m : Lists T) (b : Option ℕ) (r : Option T) → Taken (λ job rest. job ∷ rest) l b r m → (job : T) (rest : List T) → jobs_of l b ≡ job ∷ rest → (r ≡ Some job) × Becomes l b rest m
  first_taken l m b None t job rest e = let p = t.0 in cc
  first_taken l m b (Some k) t job rest e =
      let p = t.0 in
      let j : k ≡ job = cc in
      let s : jobs_of m b ≡ rest = cc in
      (ap Some j, (s, t.1.1))

  pub last_taken : (l m : Lists T) (b : Option ℕ) (r : Option T) → Taken (λ job rest. rest ++ job ∷ []) l b r m → (job : T) (rest : List T) → jobs_of l b ≡ rest ++ job ∷ [] → (r ≡ Some job) × Becomes l b rest m
  last_taken l m b None t job rest e = absurd (not_empty rest job (sym e ∙ t.0))
    where
      not_empty : (xs : List T) (x : T) → (xs ++ x ∷ []) ≢ []
      not_empty [] x = λ p. cc
      not_empty (y ∷ ys) x = λ p. cc
  last_taken l m b (Some k) t job rest e =
      let same = same_from_push (jobs_of m b) rest k job (sym t.0 ∙ e) in
      (ap Some same.1, (same.0, t.1.1))

  -- a job was put last into one list, unless memory was refused
  pub pushed : {U : Type 0} (l k m : Lists T) (b : Option ℕ) (jobs new : List T) (job : T) (r : Result U T) → SameLists l k → Becomes k b new m × (jobs_of k b ≡ jobs)
      → MatchResult r (λ _. new ≡ jobs ++ job ∷ []) (λ back. (back ≡ job) × (new ≡ jobs)) → MatchResult r (λ _. Becomes l b (jobs_of l b ++ job ∷ []) m) (λ back. (back ≡ job) × SameLists l m)
  pushed l k m b jobs new job (Ok u) s h t = (h.0.0 ∙ t ∙ ap (λ z. z ++ job ∷ []) (sym h.1 ∙ s b), λ o ne. h.0.1 o ne ∙ s o)
  pushed l k m b jobs new job (Err back) s h t = (t.0, λ o. unchanged k m b new h.0 (t.1 ∙ sym h.1) o ∙ s o)

  -- an empty list that was given another scope
  pub renamed : (l : Lists T) (detached : List T) (xs : List (ScopeList T)) (i : ℕ) (x : ScopeList T) (scope : ℕ) (jobs : List T) → lists detached xs ≡ l → Distinct xs → slice_get xs i ≡ Some x → x.jobs ≡ [] → jobs ≡ [] → Lacks xs scope → SameLists l (put detached xs i scope jobs)
  renamed l detached xs i x scope jobs e d at none still lacks = subst (λ m. SameLists m (put detached xs i scope jobs)) e same
    where
      same : SameLists (lists detached xs) (put detached xs i scope jobs)
      same None = refl
      same (Some t) = elim (cases_eq t scope) [
        | inl q ↦ subst (λ z. jobs_in (set xs i (list scope jobs)) z ≡ jobs_in xs z) (sym q) (jobs_at (set xs i (list scope jobs)) i (list scope jobs) (distinct_set xs i x (list scope jobs) d at (inr (none, lacks))) (at_set xs i x (list scope jobs) at) ∙ still ∙ sym (none_in xs scope lacks))
        | inr ne ↦ other_in xs i x (list scope jobs) t d at (inr (none, lacks)) ne
      ]

  -- a list more, without jobs
  pub one_more : (l : Lists T) (detached : List T) (xs : List (ScopeList T)) (scope : ℕ) → lists detached xs ≡ l → SameLists l (lists detached (xs ++ list scope [] ∷ []))
  one_more l detached xs scope e = subst (λ m. SameLists m (lists detached (xs ++ list scope [] ∷ []))) e same
    where
      same : SameLists (lists detached xs) (lists detached (xs ++ list scope [] ∷ []))
      same None = refl
      same (Some t) = same_more xs scope t

  -- the lists after one was added that is new
  pub grown : (xs ys zs : List (ScopeList T)) (scope : ℕ) (jobs : List T) → ys ≡ xs → zs ≡ ys ++ list scope jobs ∷ [] → jobs ≡ [] → zs ≡ xs ++ list scope [] ∷ []
  grown xs ys zs scope jobs e f n = f ∙ ap (λ v. v ++ list scope jobs ∷ []) e ∙ ap (λ j. xs ++ list scope j ∷ []) n
