use Rattle.genie_arrivals.proofs.laws.swap_laws.Goals as goal

pub returns : goal.returns
returns c = record {
  held_stay = c.held_pages_change.ensures.stay;
  held_less = c.held_pages_change.ensures.less;
  planned_stay = c.plans_change.ensures.stay;
  planned_less = c.plans_change.ensures.less;
  fitting = c.fitting_changes.ensures.less;
  sending = c.sending_changes.ensures.less;
  receiving = c.receiving_changes.ensures.less;
  arrived = c.arrived_changes.ensures.beside_less;
  nobody = c.orphans_lie.ensures.show;
  suffice = c.states_are_alike.ensures.lent;
}
