use Rattle.std.proofs.Common.{◌≡◌, ap, ◌∙◌, arith, [], List}
use Rattle.std.specs.Prelude.{replicate}
use Rattle.std.proofs.lemmas.List.{replicate_more}
use Rattle.genie_object.specs.declared.objects.Entry.{Entry}
use Rattle.genie_object.proofs.objects.all_empty.Goals as goal

pub returns : goal.returns
returns c = let e : c.loop.counter ≡ 512 = omega arith in c.loop.invariant.made ∙ ap (λ n. replicate n []) e

pub loop-preserved : goal.loop-preserved
loop-preserved c =
    let none : List Entry = [] in
    record {
      made = rw (c.push_reserved.ensures.items, c.loop.invariant.made, c.in_ok-empty.ensures) (replicate_more c.loop.counter none);
      len = omega arith;
      room = c.push_reserved.ensures.capacity ∙ c.loop.invariant.room;
    }
