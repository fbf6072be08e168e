use Rattle.std.proofs.Common.{◌≡◌, ◌≢◌, false, sym, ap, arith, rules, eq-eqb, ◌∙◌, None, Some}
use Rattle.std.specs.Prelude.{slice_get}
use Rattle.std.specs.Option.{option_map}
use Rattle.genie_base.specs.declared.numbers.RegionId.{RegionId}
use Rattle.genie_hiding.specs.Queues.{is_number}
use Rattle.genie_kernel.specs.Lemmas.Searching.{got_any, got_none, none_more, none_passes}
use Rattle.genie_changes.proofs.removal.lists.Goals as goal

pub returns-in_default : goal.returns-in_default
returns-in_default c =
    let none : slice_get c.args.queue.now c.places.i ≡ None = sym c.at-in-places.ensures.region ∙ ap (option_map (λ (id : RegionId). id.0)) c.in_default.is in
    sym (none_passes (is_number c.args.id.0) c.args.queue.now c.places.i (got_none c.args.queue.now c.places.i none) c.places.invariant)

pub returns-then-listed-id : goal.returns-then-listed-id
returns-then-listed-id c =
    let some : slice_get c.args.queue.now c.places.i ≡ Some c.in-Some.listed.0 = sym c.at-in-places.ensures.region ∙ ap (option_map (λ (id : RegionId). id.0)) c.in-Some.is in
    sym (got_any (is_number c.args.id.0) c.args.queue.now c.places.i c.in-Some.listed.0 some (eq-eqb c.in-Some.listed.0 c.args.id.0 c.if-listed-id.true))

pub places-preserved : goal.places-preserved
places-preserved c =
    let some : slice_get c.args.queue.now c.places.i ≡ Some c.in-Some.listed.0 = sym c.at-in-places.ensures.region ∙ ap (option_map (λ (id : RegionId). id.0)) c.in-Some.is in
    let differ : c.in-Some.listed.0 ≢ c.args.id.0 = c.if-listed-id.false in
    let other : is_number c.args.id.0 c.in-Some.listed.0 ≡ false = grind (arith, rules, differ) in
    none_more (is_number c.args.id.0) c.args.queue.now c.places.i c.in-Some.listed.0 c.places.invariant some other

pub returns : goal.returns
returns c =
    let few = c.at.ensures.queue.few in
    let least = c.places-test.false in
    sym (none_passes (is_number c.args.id.0) c.args.queue.now c.places.i (omega (arith, few, least)) c.places.invariant)
