use Rattle.std.proofs.Common.{◌-◌, sym, ◌∙◌, arith}
use Rattle.genie_base.specs.Regions.{is_free}
use Rattle.genie_base.specs.Lemmas.Searches.{find_least, find_no_number}
use Rattle.genie_model.specs.Regions.{extent_of}
use Rattle.genie_tables.proofs.process.place.Goals as goal

pub returns-then-all_apart-clause-place : goal.returns-then-all_apart-clause-place
returns-then-all_apart-clause-place c = sym (find_least (λ t. is_free extent_of t c.args.pages c.args.regions.now) 512 (513 - c.args.pages) c.loop-start.start (omega arith) (omega arith) (sym c.all_apart.ensures ∙ c.if-all_apart.true) c.loop-start.invariant)

pub returns-clause-place : goal.returns-clause-place
returns-clause-place c = sym (find_no_number (λ t. is_free extent_of t c.args.pages c.args.regions.now) 512 (513 - c.args.pages) (λ t low high. c.loop-start.invariant t low (omega arith)))
