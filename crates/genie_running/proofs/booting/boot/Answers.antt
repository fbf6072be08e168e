use Rattle.std.proofs.Common.{◌≡◌, subst}
use Rattle.std.specs.Prelude.{OnOk}
use Rattle.genie_running.proofs.Sizing.{booted}
use Rattle.genie_running.proofs.booting.boot.Goals as goal

pub returns-in-Ok-size : goal.returns-in-Ok-size
returns-in-Ok-size g c =
    let before = g.S.Store.view c.args.store.now in
    let after = g.S.Store.view c.size.new.self in
    booted c.args.config.now c.in-Ok.kernel before after c.requires.fits c.in-Ok.ensures.good c.in-Ok.ensures.config c.in-Ok.ensures.state c.in-Ok.ensures.meters c.in-Ok.ensures.landed
    (subst (λ r. OnOk r (after.count ≡ c.args.config.now.slots)) c.in-Ok-size.is c.size.ensures.count)
    (subst (λ r. OnOk r (after.page ≡ c.args.config.now.page)) c.in-Ok-size.is c.size.ensures.page)
    c.size.ensures.told
    (subst (λ r. OnOk r (after.faults ≡ before.faults)) c.in-Ok-size.is c.size.ensures.kept)
