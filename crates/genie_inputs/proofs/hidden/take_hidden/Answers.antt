use Rattle.genie_inputs.proofs.Getting.{got_object}
use Rattle.std.proofs.Common.{◌∙◌, ap, sym}
use Rattle.std.specs.Prelude.{List, position}
use Rattle.genie_hiding.specs.declared.hidden.Hidden.{Hidden}
use Rattle.genie_hiding.specs.Hidden.{is_same, without}
use Rattle.genie_kernel.specs.declared.transfer.Loans.TheVariants.{Inward}
use Rattle.genie_inputs.proofs.HiddenAgain.{found_at, found_nowhere, hidden_pages, may_take, span_few, taken_is}
use Rattle.genie_inputs.proofs.Rising.{rises_object}
use Rattle.genie_inputs.proofs.Moving.{moves_object}
use Rattle.genie_inputs.proofs.hidden.take_hidden.Goals as goal

pub lend_object-requires-clause-cached : goal.lend_object-requires-clause-cached
lend_object-requires-clause-cached c = (c.in-Some.ensures.taken c.args.kernel.now.memory c.requires.good.cached).cached

pub lend_object-requires-clause-pages : goal.lend_object-requires-clause-pages
lend_object-requires-clause-pages c =
    let k = c.args.kernel.now in
    let found = found_at (position (is_same c.args.call.pid c.args.place.start c.args.place.pages) k.hidden) k.hidden c.in-Some.region (sym c.in-Some.is ∙ c.reuse.ensures.region) in
    hidden_pages k c.args.call c.args.place c.in-Some.region c.requires.good c.requires.class c.requires.accepted c.requires.place found

pub lend_object-requires-clause-free : goal.lend_object-requires-clause-free
lend_object-requires-clause-free c = may_take c.args.kernel.now c.args.call c.requires.good (sym c.may_reuse.ensures ∙ c.if-not-may_reuse.false)

pub returns-in-Some-clause-takes : goal.returns-in-Some-clause-takes
returns-in-Some-clause-takes c =
    let k = c.args.kernel.now in
    let place = position (is_same c.args.call.pid c.args.place.start c.args.place.pages) k.hidden in
    taken_is k c.lend_object.new.memory c.reuse.new.self c.args.id.0 c.args.call c.args.place (Inward c.lend_object.result) c.in-Some.region (found_at place k.hidden c.in-Some.region (sym c.in-Some.is ∙ c.reuse.ensures.region)) c.reuse.ensures.kept (c.in-Some.ensures.taken k.memory c.requires.good.cached) c.lend_object.ensures (sym c.may_reuse.ensures ∙ c.if-not-may_reuse.false)

pub returns-in-None-clause-unchanged : goal.returns-in-None-clause-unchanged
returns-in-None-clause-unchanged c =
    let k = c.args.kernel.now in
    let place = position (is_same c.args.call.pid c.args.place.start c.args.place.pages) k.hidden in
    λ none. ap (λ (hs : List Hidden). record k { hidden = hs }) (c.reuse.ensures.kept ∙ ap (λ p. without p k.hidden) (found_nowhere place k.hidden (sym c.in-None.is ∙ c.reuse.ensures.region)))

pub returns-in-Some-clause-rises : goal.returns-in-Some-clause-rises
returns-in-Some-clause-rises c = rises_object c.args.id.0 c.args.call.len c.in-Some.region.object.0 c.args.kernel.now.memory c.lend_object.new.memory (Inward c.lend_object.result) (span_few c.args.kernel.now c.args.call c.requires.good c.requires.class c.requires.accepted) c.lend_object.ensures

pub returns-in-Some-clause-copying : goal.returns-in-Some-clause-copying
returns-in-Some-clause-copying c = moves_object c.args.id.0 c.args.call.len c.in-Some.region.object.0 c.args.kernel.now.memory c.lend_object.new.memory (Inward c.lend_object.result) c.lend_object.ensures

pub returns-in-Some-clause-gets : goal.returns-in-Some-clause-gets
returns-in-Some-clause-gets c = got_object c.args.id.0 c.args.call.len c.in-Some.region.object.0 c.args.kernel.now.memory c.lend_object.new.memory (Inward c.lend_object.result) c.lend_object.ensures
