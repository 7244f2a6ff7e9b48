use Rattle.std.proofs.Common.{refl, ap, true, ◌∙◌, ◌≡◌}
use Rattle.rayon_machine_parts.specs.declared.spot.Spot.{Spot}
use Rattle.rayon_machine_parts.specs.declared.deed.Deed.{Deed}
use Rattle.rayon_machine_places.specs.Places.{own_pool}
use Rattle.rayon_machine_places.specs.Targets.{target_pool}
use Rattle.rayon_machine_numbers.specs.Numbers.{census_counts, is_census}
use Rattle.rayon_machine_parts.specs.State.{counts_in, shape_of, spot_of, touched_at}
use Rattle.rayon_machine_parts.proofs.Deeds.{can-deed, is-deed, is-no-deed, is-spot}
use Rattle.rayon_machine_parts.proofs.parts.Parts.deed.Goals as goal

pub returns-in-Ok-clause-ok : goal.returns-in-Ok-clause-ok
returns-in-Ok-clause-ok c =
    let h = shape_of c.args.shapes.now in
    let w = c.args.self.now in
    let q = c.args.party in
    let a = c.args.act in
    let d : Deed = record { act = a; spot = record { pool = c.pool-2.result; worker = c.worker.result; call = c.call.result; job = c.job.result; list = c.list_of.result }; order = c.pool-order.result.order; seen = c.in-Ok.seen; after = c.in-Ok.after } in
    let order : d.order ≡ (h.pool (own_pool q)).order = ap (λ s. s.order) c.pool-order.ensures ∙ ap (λ n. (h.pool n).order) c.pool.ensures in
    let spot : d.spot ≡ spot_of h w q a = is-spot h w q a c.peek-found.result d.order d.spot c.pool-2.ensures c.worker.ensures c.call.ensures c.list_of.ensures c.job.ensures order c.peek-found.ensures in
    let counts : is_census a ≡ true → census_counts c.census_for-census.result ≡ counts_in h w (target_pool q a) = λ e. c.census_for-census.ensures e ∙ ap (counts_in h w) c.pool-2.ensures in
    is-deed h w q a c.peek-found.result (census_counts c.census_for-census.result) c.touched-touched.result d refl spot order c.peek-found.ensures c.touched-touched.ensures counts (c.in-Ok.ensures.ok d.order)

pub returns-in-Err-clause-not_enabled : goal.returns-in-Err-clause-not_enabled
returns-in-Err-clause-not_enabled c =
    let h = shape_of c.args.shapes.now in
    let w = c.args.self.now in
    let q = c.args.party in
    let a = c.args.act in
    let s : Spot = record { pool = c.pool-2.result; worker = c.worker.result; call = c.call.result; job = c.job.result; list = c.list_of.result } in
    let order : c.pool-order.result.order ≡ (h.pool (own_pool q)).order = ap (λ s. s.order) c.pool-order.ensures ∙ ap (λ n. (h.pool n).order) c.pool.ensures in
    let spot : s ≡ spot_of h w q a = is-spot h w q a c.peek-found.result c.pool-order.result.order s c.pool-2.ensures c.worker.ensures c.call.ensures c.list_of.ensures c.job.ensures order c.peek-found.ensures in
    let counts : is_census a ≡ true → census_counts c.census_for-census.result ≡ counts_in h w (target_pool q a) = λ e. c.census_for-census.ensures e ∙ ap (counts_in h w) c.pool-2.ensures in
    λ e. is-no-deed h w q a (census_counts c.census_for-census.result) c.touched-touched.result (c.touched-touched.ensures ∙ ap (touched_at w) spot) counts (c.in-Err.ensures.not_enabled e)

pub returns-in-Err-clause-enabled : goal.returns-in-Err-clause-enabled
returns-in-Err-clause-enabled c =
    let h = shape_of c.args.shapes.now in
    let w = c.args.self.now in
    let q = c.args.party in
    let a = c.args.act in
    let s : Spot = record { pool = c.pool-2.result; worker = c.worker.result; call = c.call.result; job = c.job.result; list = c.list_of.result } in
    let order : c.pool-order.result.order ≡ (h.pool (own_pool q)).order = ap (λ s. s.order) c.pool-order.ensures ∙ ap (λ n. (h.pool n).order) c.pool.ensures in
    let spot : s ≡ spot_of h w q a = is-spot h w q a c.peek-found.result c.pool-order.result.order s c.pool-2.ensures c.worker.ensures c.call.ensures c.list_of.ensures c.job.ensures order c.peek-found.ensures in
    let counts : is_census a ≡ true → census_counts c.census_for-census.result ≡ counts_in h w (target_pool q a) = λ e. c.census_for-census.ensures e ∙ ap (counts_in h w) c.pool-2.ensures in
    λ e. can-deed h w q a (census_counts c.census_for-census.result) c.touched-touched.result (c.touched-touched.ensures ∙ ap (touched_at w) spot) counts (c.in-Err.ensures.enabled e)
