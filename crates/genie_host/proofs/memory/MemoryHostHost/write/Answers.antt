use Rattle.std.proofs.Common.{◌<◌, ◌-◌, refl, rules}
use Rattle.genie_host.specs.Lemmas.Tables.{writes_set, open_within, got}
use Rattle.genie_host.specs.declared.opened.Opened.TheVariants as opened
use Rattle.genie_host.proofs.memory.MemoryHostHost.write.Goals as goal

pub returns-clause-step : goal.returns-clause-step
returns-clause-step c =
    let pos : 0 < c.args.handle = search rules in
    let within = open_within _ _ c.self.inside.opened.items c.args.handle _ pos (rw (← c.self.view_is) at c.requires) (λ e. cc) in
    let open_at = got c.self.inside.opened.items (c.args.handle - 1) _ _ within c.index_mut.ensures.value c.in-Writing.is in
    rw (← c.self.view_is) (writes_set _ _ _ c.self.inside.opened.items _ _ c.args.handle (opened.Writing c.in-Writing.writer) (opened.Writing c.write-in-Writing.new.self) c.write-in-Writing.result c.args.from.now
    pos open_at refl c.write-in-Writing.ensures.bytes c.write-in-Writing.ensures.cause)

pub returns-clause-exact : goal.returns-clause-exact
returns-clause-exact c =
    let pos : 0 < c.args.handle = search rules in
    let within = open_within _ _ c.self.inside.opened.items c.args.handle _ pos (rw (← c.self.view_is) at c.requires) (λ e. cc) in
    let open_at = got c.self.inside.opened.items (c.args.handle - 1) _ _ within c.index_mut.ensures.value c.in-Writing.is in
    rw (← c.self.view_is) (λ zero. absurd (c.if-handle-eq0.false zero), λ apart. record { before = c.in-Writing.writer; after = c.write-in-Writing.new.self; open_at = open_at; step = c.write-in-Writing.ensures.step; changed = refl })
