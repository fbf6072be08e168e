use Rattle.std.proofs.Common.{◌≡◌, sym, refl, ap, ◌∙◌}
use Rattle.std.specs.Prelude.{position, Some, None}
use Rattle.std.proofs.lemmas.Bool.{both_ways}
use Rattle.genie_demux.specs.Posted.{has_id}
use Rattle.genie_demux.proofs.Queues.{removed_at, there, not_there, without_none}
use Rattle.genie_demux.proofs.posted.Posted.cancel.Goals as goal

place : (c : goal.After-remove) → position (has_id c.args.id) c.self.inside.inputs.items ≡ Some c.in-Some.at
place c = ap (position (has_id c.args.id)) (sym c.as_slice.ensures.value) ∙ sym c.place_of_id.ensures ∙ c.in-Some.is

no_place : (c : goal.In-None) → position (has_id c.args.id) c.self.inside.inputs.items ≡ None
no_place c = ap (position (has_id c.args.id)) (sym c.as_slice.ensures.value) ∙ sym c.place_of_id.ensures ∙ c.in-None.is

pub returns-in-Some-clause-posted : goal.returns-in-Some-clause-posted
returns-in-Some-clause-posted c = (λ _. rw (← c.self.view_is) (there c.args.id c.self.inside.inputs.items c.in-Some.at (place c)), λ _. refl)

pub returns-in-Some-clause-others : goal.returns-in-Some-clause-others
returns-in-Some-clause-others c = rw (← c.self.view_is) (removed_at c.args.id c.self.inside.inputs.items c.remove.new.self.items c.in-Some.at c.self.invariant.0 (place c) c.remove.ensures.items)

pub returns-in-None-clause-posted : goal.returns-in-None-clause-posted
returns-in-None-clause-posted c = rw (← c.self.view_is) (λ h. cc, λ h. absurd (both_ways _ (not_there c.args.id c.self.inside.inputs.items (no_place c)) h))

pub returns-in-None-clause-others : goal.returns-in-None-clause-others
returns-in-None-clause-others c = rw (← c.self.view_is) (without_none c.args.id c.self.inside.inputs.items (no_place c))
