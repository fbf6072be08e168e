use Rattle.std.proofs.Common.{arith}
use Rattle.genie_object.specs.Objects.{object_at, names, no_entry}
use Rattle.genie_object.specs.Lemmas.Lookup.{count_none}
use Rattle.genie_hiding.proofs.hidden.index_of.Goals as goal

pub returns-clause-none : goal.returns-clause-none
returns-clause-none c = λ e. count_none (names c.args.page.0) no_entry (object_at c.args.objects.now c.args.object.0) (λ k l. c.loop-index.invariant k (omega (arith, l, c.pages-pages.ensures.number)))
