use Rattle.genie_object.proofs.PageLaws.{table_new, new_empty, new_count}
use Rattle.genie_object.proofs.pages.Pages.new.Goals as goal

pub invariant_of-result : goal.invariant_of-result
invariant_of-result c = table_new _ _ c.in_ok-with_capacity.ensures.empty c.in_ok-with_capacity.ensures.capacity

pub returns-clause-empty : goal.returns-clause-empty
returns-clause-empty c = new_empty c.in_ok-with_capacity.field-0 c.in_ok-with_capacity.ensures.empty

pub returns-clause-none : goal.returns-clause-none
returns-clause-none c = new_count c.in_ok-with_capacity.field-0 c.in_ok-with_capacity.ensures.empty
