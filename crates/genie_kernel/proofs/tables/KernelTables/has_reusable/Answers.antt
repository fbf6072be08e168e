use Rattle.std.proofs.Common.{◌≡◌, ◌<◌, [], sym, ◌∙◌, get_or, arith}
use Rattle.std.specs.List.{list_any}
use Rattle.genie_base.specs.Lemmas.Places.{any_default}
use Rattle.genie_kernel.specs.Asked.{is_reusable}
use Rattle.genie_kernel.specs.View.{no_bytes}
use Rattle.genie_kernel.specs.Lemmas.Asking.{ask_reusable, ask_none}
use Rattle.genie_kernel.proofs.tables.KernelTables.has_reusable.Goals as goal

pub returns-then-alive : goal.returns-then-alive
returns-then-alive c =
    let k = c.args.self.now in
    let low : c.args.pid < 16 = c.alive.ensures.number c.if-alive.true in
    let places = c.requires.spaced.queue_places in
    let queue : get_or k.queues c.args.pid c.index-self-pid.result ≡ get_or k.queues c.args.pid [] = any_default k.queues c.args.pid c.index-self-pid.result [] (omega (arith, low, places)) in
    let asked = ask_reusable k (no_bytes k.config.page) c.args.pid c.args.pages (sym c.if-alive.ensures.alive) in
    c.any_reusable.ensures ∙ (λ i. list_any (is_reusable (c.regions.ensures i) k.transfers c.args.pages) (queue i)) ∙ sym asked

pub returns-else-alive : goal.returns-else-alive
returns-else-alive c = sym (ask_none c.args.self.now (no_bytes c.args.self.now.config.page) c.args.pid c.args.pages (sym c.if-alive.ensures.alive))
