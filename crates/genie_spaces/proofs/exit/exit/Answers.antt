use Rattle.std.proofs.Common.{ap, ◌∙◌}
use Rattle.genie_kernel.specs.declared.kernel.Kernel.{Kernel}
use Rattle.genie_spaces.proofs.Discarding.{discarded}
use Rattle.genie_spaces.proofs.Exited.{exits_served, may_exit}
use Rattle.genie_spaces.proofs.exit.exit.Goals as goal

pub end_all_posted-requires : goal.end_all_posted-requires
end_all_posted-requires c = record { settled = c.exit_laws.ensures.removal.settled _ (discarded c.args.kernel.now c.discard.new.memory c.discard.new.self c.args.pid c.requires.good c.discard.ensures.kept c.discard.ensures.gone c.discard.ensures.fits).good }

pub remove_all-requires-clause-alive : goal.remove_all-requires-clause-alive
remove_all-requires-clause-alive c = c.end_all_posted.ensures.exits.alive (may_exit c.args.kernel.now c.args.pid c.requires.accepted)

pub end_process-requires-clause-alive : goal.end_process-requires-clause-alive
end_process-requires-clause-alive c = c.remove_all.ensures.exits.alive (c.end_all_posted.ensures.exits.alive (may_exit c.args.kernel.now c.args.pid c.requires.accepted))

pub returns-clause-served : goal.returns-clause-served
returns-clause-served c = exits_served c.exit_laws.ensures c.args.kernel.now c.args.pid c.discard.new.memory c.discard.new.self c.end_all_posted.new.kernel c.remove_all.new.kernel c.requires.good c.requires.accepted
    (discarded c.args.kernel.now c.discard.new.memory c.discard.new.self c.args.pid c.requires.good c.discard.ensures.kept c.discard.ensures.gone c.discard.ensures.fits)
    c.end_all_posted.ensures.exits c.end_all_posted.ensures.none c.remove_all.ensures.exits c.remove_all.ensures.transfers c.remove_all.ensures.none c.end_process.new.kernel c.end_process.ensures

pub returns-clause-numbers : goal.returns-clause-numbers
returns-clause-numbers c = ap (λ (k : Kernel). k.next) c.end_process.ensures ∙ c.remove_all.ensures.exits.numbers ∙ c.end_all_posted.ensures.exits.numbers
