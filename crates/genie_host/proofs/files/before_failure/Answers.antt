use Rattle.std.proofs.Common.{rules}
use Rattle.genie_host.proofs.Failures.{before_most, before_some}
use Rattle.genie_host.proofs.files.before_failure.Goals as goal

pub returns-clause-most : goal.returns-clause-most
returns-clause-most c =
    let most = before_most c.args.failing.now c.args.name.now c.args.place c.args.count in
    search rules

pub returns-clause-some : goal.returns-clause-some
returns-clause-some c none some =
    let more = before_some c.args.failing.now c.args.name.now c.args.place c.args.count none some in
    search rules
