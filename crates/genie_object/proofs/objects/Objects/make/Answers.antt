use Rattle.std.proofs.Common.{ap, sym, ◌∙◌, arith, not}
use Rattle.genie_object.proofs.objects.Objects.make.Goals as goal
use Rattle.std.specs.Prelude.{count_by}
use Rattle.genie_object.specs.Objects.{is_absent, object_at}
use Rattle.genie_object.specs.Lemmas.ObjectLaws.{count_split, last_in, made, was_absent, some_absent}

pub take-object-requires : goal.take-object-requires
take-object-requires c = omega (arith, count_split is_absent c.self.inside.items.items, c.self.invariant.list.number, c.self.invariant.size, ap (count_by (λ o. not (is_absent o))) c.self.view_is, c.requires.room)

pub index_mut-entries-requires : goal.index_mut-entries-requires
index_mut-entries-requires c = omega (arith, last_in _ _ _ _ _ c.self.invariant c.take-object.ensures.list)

pub invariant_of-self : goal.invariant_of-self
invariant_of-self c = rw c.take-object.ensures.room (made _ _ _ _ _ c.self.invariant c.take-object.ensures.list c.reset.new.self (ap is_absent c.reset.ensures ∙ some_absent c.args.pages c.requires.some))

pub returns-clause-was_absent : goal.returns-clause-was_absent
returns-clause-was_absent c = ap (λ xs. object_at xs c.take-object.result) (sym c.self.view_is) ∙ was_absent _ _ _ _ _ c.self.invariant c.take-object.ensures.list
