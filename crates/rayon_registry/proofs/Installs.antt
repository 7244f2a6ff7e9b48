use Rattle.std.proofs.Common.{◌≡◌, inl, inr, Result, Ok, Err, sym, subst}
use Rattle.std.specs.Prelude.{IfOk}
use Rattle.rayon_jobs.specs.declared.lost.Lost.{Lost}
use Rattle.rayon_jobs.specs.declared.lost.Lost.TheVariants.{Foreign, Missing}
use Rattle.rayon_words.specs.declared.refusal.CallError.{CallError}
use Rattle.rayon_registry.specs.Answers.{installed, joined_pair, InstallAnswers, JoinAnswers}

-- what calls from outside answer, by the results that were claimed

-- an install answers what it may
module _ {O F B : Type 0} (may : Result O F → Type 0) (job : B) where
  by_claim : (c : Result (Result O F) Lost) → IfOk c may → InstallAnswers may job (installed {B = B} c)
  by_claim (Err Missing) k = tt
  by_claim (Err Foreign) k = tt
  by_claim (Ok (Err f)) k = k
  by_claim (Ok (Ok x)) k = k

  pub install_answers : (c : Result (Result O F) Lost) (r : Result O (CallError F B)) → r ≡ installed c → IfOk c may → InstallAnswers may job r
  install_answers c r e k = subst (λ (z : Result O (CallError F B)). InstallAnswers may job z) (sym e) (by_claim c k)

-- it was refused
abbrev IsRefused : {O F B : Type 0} → Result O (CallError F B) → Type 0
IsRefused (Err (CallError.Refused r b)) = Unit {0}
IsRefused _ = ⊥

-- a join that was sent to the pool answers what it may, and is not refused once its sides have run
module _ {X Y F B : Type 0} (first : Result X F → Type 0) (second : Result Y F → Type 0) (sides : B) where
  by_claims : (c : Result (Result X F) Lost) (d : Result (Result Y F) Lost) → IfOk c first → IfOk d second → JoinAnswers first second sides (joined_pair {B = B} c d)
  by_claims (Err Missing) d k l = tt
  by_claims (Err Foreign) d k l = tt
  by_claims (Ok (Err f)) d k l = inl k
  by_claims (Ok (Ok x)) (Err Missing) k l = tt
  by_claims (Ok (Ok x)) (Err Foreign) k l = tt
  by_claims (Ok (Ok x)) (Ok (Err f)) k l = inr ((x, k), l)
  by_claims (Ok (Ok x)) (Ok (Ok y)) k l = (k, l)

  pub pair_answers : (c : Result (Result X F) Lost) (d : Result (Result Y F) Lost) (r : Result (X × Y) (CallError F B)) → r ≡ joined_pair c d → IfOk c first → IfOk d second → JoinAnswers first second sides r
  pair_answers c d r e k l = subst (λ (z : Result (X × Y) (CallError F B)). JoinAnswers first second sides z) (sym e) (by_claims c d k l)

module _ {X Y F : Type 0} (B : Type 0) where
  answered : (c : Result (Result X F) Lost) (d : Result (Result Y F) Lost) → IsRefused (joined_pair {B = B} c d) → ⊥
  answered (Err Missing) d k = k
  answered (Err Foreign) d k = k
  answered (Ok (Err f)) d k = k
  answered (Ok (Ok x)) (Err Missing) k = k
  answered (Ok (Ok x)) (Err Foreign) k = k
  answered (Ok (Ok x)) (Ok (Err f)) k = k
  answered (Ok (Ok x)) (Ok (Ok y)) k = k

  pub not_refused : (c : Result (Result X F) Lost) (d : Result (Result Y F) Lost) (r : Result (X × Y) (CallError F B)) (e : _) (b : B) → r ≡ joined_pair c d → r ≡ Err (CallError.Refused e b) → ⊥
  not_refused c d r e b is so = answered c d (subst (λ (z : Result (X × Y) (CallError F B)). IsRefused z) is (subst (λ (z : Result (X × Y) (CallError F B)). IsRefused z) (sym so) tt))
