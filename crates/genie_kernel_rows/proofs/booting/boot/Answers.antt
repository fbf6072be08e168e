use Rattle.std.proofs.Common.{◌≡◌, subst}
use Rattle.std.specs.Prelude.{OnOk}
use Rattle.genie_kernel_rows.proofs.Handles.{ready}
use Rattle.genie_kernel_rows.proofs.booting.boot.Goals as goal

pub returns-in-Ok-size : goal.returns-in-Ok-size
returns-in-Ok-size g c =
    let store = g.S.Store.view c.size.new.self in
    ready _ _ _ _ c.in-Ok-boot.ensures.good c.in-Ok-boot.ensures.config c.in-Ok.ensures
    (subst (λ r. OnOk r (store.count ≡ c.config-config.result.slots)) c.in-Ok-size.is c.size.ensures.count)
    (subst (λ r. OnOk r (store.page ≡ c.config-config.result.page)) c.in-Ok-size.is c.size.ensures.page)
