use Rattle.std.proofs.Common.{◌≡◌, ◌∙◌, ◌<◌, ℕ, List, ap, sym, subst, length}
use Rattle.std.specs.Prelude.{Option, Some}
use Rattle.rayon_machine_places.specs.declared.place.Party.{Party}
use Rattle.rayon_machine_parts.specs.declared.parts.FifoList.{FifoList}
use Rattle.rayon_machine_numbers.specs.Numbers.{list_held, list_queued, seat_listed}
use Rattle.rayon_machine_parts.specs.State.{FifoFits, ListFits, holder_in, jobs_in, seat_of}
use Rattle.rayon_machine_parts.proofs.Listed.{feeder-set, fifo-set, holder-there, is-stored, jobs-there}
use Rattle.rayon_machine_parts.proofs.parts.Seat.write_list.Goals as goal

pub returns-in-Some : goal.returns-in-Some
returns-in-Some c =
    let s = c.args.self.now in
    let l = s.scoped.items in
    let n = c.in-Some.call in
    let a = c.args.act in
    let q = c.args.party in
    let old : FifoList = c.index_mut.result.now in
    let v : FifoList = c.write-in-Some.new.self in
    let fits : ListFits a s.detached l (Some n) = subst (λ (b : Option ℕ). ListFits a s.detached l b) c.in-Some.is c.requires in
    let there : n < length l = is-stored (λ (x : FifoList). FifoFits a x) l n fits in
    let jobs : old.jobs.items ≡ jobs_in l n = ap (λ (x : FifoList). x.jobs.items) c.index_mut.ensures.value ∙ jobs-there l n _ there in
    let holder : old.holder ≡ holder_in l n = ap (λ (x : FifoList). x.holder) c.index_mut.ensures.value ∙ holder-there l n _ there in
    let queued : v.jobs.items ≡ list_queued a (jobs_in l n) = c.write-in-Some.ensures.jobs ∙ ap (list_queued a) jobs in
    let held : v.holder ≡ list_held a q (jobs_in l n) (holder_in l n) = c.write-in-Some.ensures.holder ∙ ap (λ (x : List ℕ). list_held a q x old.holder) jobs ∙ ap (list_held a q (jobs_in l n)) holder in
    (λ j. record { own = s.own.items; fifo = λ b. fifo-set s.detached l n v (list_queued a (jobs_in l n)) there queued b j; feeder = λ b. feeder-set s.detached l n v (list_held a q (jobs_in l n) (holder_in l n)) there held b j; inactive = s.flags.inactive; asleep = s.flags.asleep; blocked = s.flags.blocked; latch = s.flags.latch; lock = s.flags.lock })
    ∙ ap (λ (b : Option ℕ). seat_listed a q b (seat_of s)) (sym c.in-Some.is)
