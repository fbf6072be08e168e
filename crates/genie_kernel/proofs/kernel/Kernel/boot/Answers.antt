use Rattle.std.proofs.Common.{refl, ap, ◌∙◌}
use Rattle.genie_kernel.specs.Booting.{IsBooted, only_taken}
use Rattle.genie_kernel.proofs.Boots.{boots_as, boots_good, all_taken}
use Rattle.genie_kernel.proofs.kernel.Kernel.boot.Goals as goal

booted : (c : goal.After-result-2-1) → IsBooted c.args.config.now (record {
  memory = c.in_ok-pooled_memory.field-0;
  spaces = c.in_ok-address_spaces.field-0;
  hidden = c.in_ok-new.field-0;
  clock = c.new-2.result;
  queues = c.no_queues.result;
  transfers = c.in_ok-new-2.field-0;
  devices = c.in_ok-all_devices.field-0;
  pools = c.pooled_memory.new.pools;
  posted = c.in_ok-new-3.field-0;
  next = 1;
  config = c.args.config.now;
})
booted c = record {
  memory = c.in_ok-pooled_memory.ensures;
  spaces = c.in_ok-address_spaces.ensures;
  hidden = c.in_ok-new.ensures;
  queues = c.no_queues.ensures;
  transfers = c.in_ok-new-2.ensures;
  devices = c.in_ok-all_devices.ensures;
  posted = c.in_ok-new-3.ensures;
  next = refl;
  config = refl;
}

pub returns-clause-good : goal.returns-clause-good
returns-clause-good c = boots_good c.boot_is_orderly.ensures c.args.config.now _ c.requires.fits (booted c)

pub returns-clause-state : goal.returns-clause-state
returns-clause-state c = boots_as c.args.config.now _ (booted c)

pub returns-clause-meters : goal.returns-clause-meters
returns-clause-meters c = c.in_ok-pooled_memory.ensures.meters ∙ ap only_taken (all_taken c.args.config.now c.requires.fits)
