-- A pending weak transfer names each orphan that a step leaves.
use Rattle.std.proofs.Common.{filter}
use Rattle.std.specs.Prelude.{IsTrue}
use Rattle.std.proofs.lemmas.List.Elements.{All-map, filter_passes}
use Rattle.genie_orderly.specs.Steps.{Stays}
use Rattle.genie_orderly.specs.Orderly.{OrphansAreNamed}
use Rattle.genie_model.specs.State.{State, Orphan}
use Rattle.genie_model.specs.Space.{cut, is_named, tidy}
use Rattle.genie_model.specs.Step.{perform}
use Rattle.genie_model.specs.Lemmas.Steps.{step_so}

pub tidy_named : (s : State) → OrphansAreNamed (tidy s)
tidy_named s = All-map (λ (o : Orphan). IsTrue (is_named s.transfers o)) (cut s.transfers) (filter (is_named s.transfers) s.orphans) (filter_passes (is_named s.transfers) s.orphans)

pub orphans_are_named : Stays OrphansAreNamed
orphans_are_named s e m whole o = step_so OrphansAreNamed s o.orphans (λ f. tidy_named (perform s f).0) e m
