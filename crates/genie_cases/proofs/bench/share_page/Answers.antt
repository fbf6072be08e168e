use Rattle.std.proofs.Common.{ap, sym, ◌∙◌, subst}
use Rattle.genie_object.specs.declared.objects.Entry.{Entry}
use Rattle.genie_object.specs.Steps.{CanShare, shared}
use Rattle.genie_cases.specs.Benches.{OnlyShares}
use Rattle.genie_cases.proofs.Sharing.{can_share, only_shares, none_shared}
use Rattle.genie_cases.proofs.bench.share_page.Goals as goal

pub name_page-requires-clause-can : goal.name_page-requires-clause-can
name_page-requires-clause-can c =
    let m = c.args.memory.now in
    subst (λ os. CanShare (record m { objects = os }) c.args.to.object.0 c.args.to.index c.in-Some.page.0) (sym c.forbid_writing.ensures)
    (can_share m c.args.from.object.0 c.args.from.index c.args.to.object.0 c.args.to.index c.in-Some.page c.requires.sound c.requires.idle c.requires.from c.requires.to
    (ap (λ (e : Entry). e.page) (sym c.entry.ensures) ∙ c.in-Some.is) (ap (λ (e : Entry). e.page) (sym c.entry-2.ensures) ∙ c.in-None.is))

pub returns : goal.returns
returns c =
    let m = c.args.memory.now in
    let can = can_share m c.args.from.object.0 c.args.from.index c.args.to.object.0 c.args.to.index c.in-Some.page c.requires.sound c.requires.idle c.requires.from c.requires.to
    (ap (λ (e : Entry). e.page) (sym c.entry.ensures) ∙ c.in-Some.is) (ap (λ (e : Entry). e.page) (sym c.entry-2.ensures) ∙ c.in-None.is) in
    let is = c.name_page.ensures ∙ ap (λ os. shared (record m { objects = os }) c.args.to.object.0 c.args.to.index c.in-Some.page.0) c.forbid_writing.ensures in
    subst (OnlyShares m) (sym is) (only_shares m c.args.from.object.0 c.args.from.index c.args.to.object.0 c.args.to.index c.in-Some.page.0 c.requires.from can)
