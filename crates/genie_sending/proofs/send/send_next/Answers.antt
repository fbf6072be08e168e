use Rattle.std.proofs.Common.{◌≡◌, ap, ◌∙◌}
use Rattle.std.specs.Prelude.{Some}
use Rattle.genie_kernel.specs.declared.kernel.Kernel.{Kernel}
use Rattle.genie_kernel.specs.declared.transfer.Transfer.{Transfer}
use Rattle.genie_kernel.specs.Calls.{waits_for}
use Rattle.genie_kernel.specs.Lemmas.Searching.{first_found}
use Rattle.genie_sending.specs.Sending.{transfers_after}
use Rattle.genie_sending.proofs.Lending.{first_output, sender}
use Rattle.genie_sending.proofs.May.{may_send_at}
use Rattle.genie_sending.proofs.send.send_next.Goals as goal

pub step_at-step-requires-clause-may : goal.step_at-step-requires-clause-may
step_at-step-requires-clause-may g c =
    let k = c.args.kernel.now in
    let t = c.at.result.now in
    let found = first_found (waits_for c.args.dev) k.transfers c.args.i t c.requires.first ∙ ap Some (c.at.ensures t) in
    may_send_at k c.requires.good c.args.dev c.args.budget t (first_output k c.args.dev t c.requires.good found) (sender k c.args.dev c.args.budget c.requires.good c.requires.accepted)

pub returns : goal.returns
returns g c =
    let k : Kernel = c.args.kernel.now in
    let t : Transfer = c.at.result.now in
    let whole = c.step_at-step.result.whole in
    let after : c.end_where_whole.new.transfers ≡ transfers_after whole t k.transfers = c.end_where_whole.ensures t ∙ ap (λ (x : Transfer). transfers_after whole x k.transfers) (c.at.ensures t) in
    record {
      output = t;
      step = c.step_at-step.result;
      devices = c.step_at-step.new.devices;
      waits = first_found (waits_for c.args.dev) k.transfers c.args.i t c.requires.first ∙ ap Some (c.at.ensures t);
      steps = c.step_at-step.ensures;
      kernel = λ i. record k { devices = c.step_at-step.new.devices; transfers = after i };
      reply_is = c.reply_of.ensures;
    }
