use Rattle.std.proofs.Common.{◌∙◌, sym, subst}
use Rattle.genie_finish.specs.Storing.{StoresPage}
use Rattle.genie_finish.proofs.Storing.{copied_own, swapped_unheld, swapped_framed, work_copied, work_swapped}
use Rattle.genie_finish.proofs.page.store_page.Goals as goal

pub copy_page-requires-clause-own : goal.copy_page-requires-clause-own
copy_page-requires-clause-own c = copied_own c.args.memory.now c.args.at.object.0 c.args.at.index c.args.n c.args.few c.requires.sound c.requires.can (sym c.is_copied.ensures ∙ c.if-is_copied.true)

pub swap_page-requires-clause-unheld : goal.swap_page-requires-clause-unheld
swap_page-requires-clause-unheld c = swapped_unheld c.args.memory.now c.args.at.object.0 c.args.at.index c.args.n c.args.few (sym c.is_copied.ensures ∙ c.if-is_copied.false)

pub swap_page-requires-clause-framed : goal.swap_page-requires-clause-framed
swap_page-requires-clause-framed c = swapped_framed c.args.memory.now c.args.at.object.0 c.args.at.index c.args.n c.args.few c.requires.can
