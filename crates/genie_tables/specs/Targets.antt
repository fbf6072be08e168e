-- Where the plain machine's transfers go to and come from.
use Rattle.genie_base.specs.Posted.{Address}
use Rattle.genie_tables.specs.declared.transfer.Target.{Target}

abbrev pub address_of : Target → Address
address_of t = record { device = t.device; port = t.port; flow = t.flow }
