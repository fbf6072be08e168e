use Rattle.std.proofs.Common.{arith, ap, ◌∙◌, length}
use Rattle.genie_hiding.specs.Hidden.{objects_of, is_among}
use Rattle.genie_hiding.specs.Lemmas.Searching.{among_found, none_hidden, named_hidden, hidden_length}
use Rattle.genie_object.specs.Lemmas.Entries.{naming_there}
use Rattle.genie_hiding.proofs.hidden.HiddenCache.find.Goals as goal

pub returns-in-Some-clause-hidden : goal.returns-in-Some-clause-hidden
returns-in-Some-clause-hidden c = ap (λ o. is_among o (objects_of c.args.self.now)) c.object-object.ensures ∙ among_found (objects_of c.args.self.now) c.loop-k.k (omega (arith, ap length c.self.view_is, hidden_length c.args.self.now, c.loop-k-test.true, c.len-k-end.ensures))

pub returns-clause-none : goal.returns-clause-none
returns-clause-none c = λ e. none_hidden c.args.objects.now (objects_of c.args.self.now) c.args.page.0 (λ k l. c.loop-k.invariant k (omega (arith, l, ap length c.self.view_is, hidden_length c.args.self.now)))

pub returns-in-Some-clause-some : goal.returns-in-Some-clause-some
returns-in-Some-clause-some c =
    let among = returns-in-Some-clause-hidden c in
    let n = c.in-Some.ensures.named in
    named_hidden c.args.objects.now (objects_of c.args.self.now) c.object-object.result.0 c.in-Some.index c.args.page.0 among n (naming_there c.args.objects.now c.args.page.0 c.object-object.result.0 c.in-Some.index n)
