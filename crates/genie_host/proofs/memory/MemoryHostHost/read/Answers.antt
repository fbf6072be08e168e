use Rattle.std.proofs.Common.{◌<◌, ◌-◌, refl, rules}
use Rattle.genie_host.specs.Lemmas.Tables.{reads_set, open_within, got}
use Rattle.genie_host.specs.declared.opened.Opened.TheVariants as opened
use Rattle.genie_host.proofs.memory.MemoryHostHost.read.Goals as goal

pub returns-clause-step : goal.returns-clause-step
returns-clause-step c =
    let pos : 0 < c.args.handle = search rules in
    let within = open_within _ _ c.self.inside.opened.items c.args.handle _ pos (rw (← c.self.view_is) at c.requires) (λ e. cc) in
    let open_at = got c.self.inside.opened.items (c.args.handle - 1) _ _ within c.index_mut.ensures.value c.in-Reading.is in
    rw (← c.self.view_is) (reads_set _ _ _ c.self.inside.opened.items _ _ c.args.handle (opened.Reading c.in-Reading.reader) (opened.Reading c.read_from.new.reader) c.read_from.result c.read_from.new.into
    pos open_at refl (rw c.as_slice.ensures.value at c.read_from.ensures.bytes) c.read_from.ensures.cause)

pub returns-clause-exact : goal.returns-clause-exact
returns-clause-exact c =
    let pos : 0 < c.args.handle = search rules in
    let within = open_within _ _ c.self.inside.opened.items c.args.handle _ pos (rw (← c.self.view_is) at c.requires) (λ e. cc) in
    let open_at = got c.self.inside.opened.items (c.args.handle - 1) _ _ within c.index_mut.ensures.value c.in-Reading.is in
    rw (← c.self.view_is) (record { before = c.in-Reading.reader; after = c.read_from.new.reader; open_at = open_at; step = rw c.as_slice.ensures.value at c.read_from.ensures.step; changed = refl })
