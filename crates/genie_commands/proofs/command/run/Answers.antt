use Rattle.std.proofs.Common.{subst, inl, ◌⊎◌}
use Rattle.genie_words.specs.Forms.{Meaning, MakeOf}
use Rattle.genie_words.specs.Lemmas.Meanings.{one_meaning}
use Rattle.genie_commands.specs.Forms.{Does, Unbegun}
use Rattle.genie_commands.proofs.command.run.Goals as goal

pub returns-in-Ok-Make-clause-outcome : goal.returns-in-Ok-Make-clause-outcome
returns-in-Ok-Make-clause-outcome g c m means =
    let is = one_meaning _ (MakeOf c.in-Ok-Make.seed c.in-Ok-Make.rounds) m (rw c.in-Ok-Make.field-0-is at c.in-Ok-Make.ensures.form) means in
    subst (λ (x : Meaning). Does x c.make.result.status c.make.result.kernel (g.H.Host.view c.args.host.now) (g.H.Host.view c.make.new.host) (g.S.Store.view c.args.store.now) (g.S.Store.view c.make.new.store)
    ⊎ Unbegun c.make.result.status c.make.result.kernel (g.H.Host.view c.args.host.now) (g.H.Host.view c.make.new.host) (g.S.Store.view c.args.store.now) (g.S.Store.view c.make.new.store)) is
    (inl (c.make.ensures.made, c.make.ensures.only))
