use Rattle.std.proofs.Common.{◌∙◌, sym}
use Rattle.genie_gathering.proofs.Ending.{drop_delivers}
use Rattle.genie_gathering.proofs.deliver.deliver.Goals as goal

pub returns-in-None : goal.returns-in-None
returns-in-None c = drop_delivers c.args.kernel.now c.args.dev c.args.header.now c.args.so_far c.args.truncated c.args.n c.end_record-buffer.new.devices c.release.new.devices c.match_port.new.self c.end_record-buffer.result (sym c.match_port.ensures.met ∙ c.in-None.is) c.in-None.ensures.others c.end_record-buffer.ensures c.release.ensures
