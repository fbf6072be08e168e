use Rattle.std.proofs.Common.{◌≡◌, sym, ap, ◌∙◌}
use Rattle.std.specs.Prelude.{position, Some}
use Rattle.std.proofs.lemmas.List.Quantifiers.{position-Some}
use Rattle.genie_base.specs.Posted.{meets}
use Rattle.genie_base.specs.Lemmas.Searches.{find_there, find_nowhere}
use Rattle.genie_demux.specs.declared.input.Input.{Input}
use Rattle.genie_demux.specs.Posted.{address, number_of}
use Rattle.genie_demux.proofs.Queues.{least, taken_at}
use Rattle.genie_demux.proofs.posted.Posted.match_port.Goals as goal

place : (c : goal.After-remove) → position (λ p. meets c.args.dev c.args.port c.args.flow (address p)) c.self.inside.inputs.items ≡ Some c.in_ok-at.at
place c = ap (position (λ p. meets c.args.dev c.args.port c.args.flow (address p))) (sym c.as_slice.ensures.value) ∙ sym c.place_of_first.ensures ∙ c.in_ok-at.was

pub returns-in_err-at-clause-met : goal.returns-in_err-at-clause-met
returns-in_err-at-clause-met c = rw (c.from_residual.ensures, ← c.self.view_is) (sym (ap number_of (find_nowhere (λ p. meets c.args.dev c.args.port c.args.flow (address p)) c.self.inside.inputs.items (ap (position (λ p. meets c.args.dev c.args.port c.args.flow (address p))) (sym c.as_slice.ensures.value) ∙ sym c.place_of_first.ensures ∙ c.in_err-at.was))))

pub returns-clause-met : goal.returns-clause-met
returns-clause-met c = rw (← c.self.view_is) (ap (λ (p : Input). Some p.id) c.remove.ensures.value ∙ sym (ap number_of (find_there (λ p. meets c.args.dev c.args.port c.args.flow (address p)) c.remove.result c.self.inside.inputs.items c.in_ok-at.at (place c))))

pub returns-clause-others : goal.returns-clause-others
returns-clause-others c =
    let at = position-Some (λ p. meets c.args.dev c.args.port c.args.flow (address p)) c.self.inside.inputs.items c.in_ok-at.at c.remove.result (place c) in
    rw (← c.self.view_is) (taken_at c.remove.result.id c.self.inside.inputs.items c.remove.new.self.items c.in_ok-at.at c.remove.result c.self.invariant.0 at.0 (ap (λ (p : Input). p.id) (sym c.remove.ensures.value)) c.remove.ensures.items)

pub returns-clause-least : goal.returns-clause-least
returns-clause-least c = rw (← c.self.view_is) (least (λ p. meets c.args.dev c.args.port c.args.flow (address p)) c.self.inside.inputs.items c.in_ok-at.at c.remove.result c.self.invariant.0 (place c) c.remove.ensures.value)
