use Rattle.std.proofs.Common.{◌∙◌}
use Rattle.std.proofs.Common.{ap}
use Rattle.std.proofs.Common.{◌≡◌, ◌^◌, subst, sym}
use Rattle.std.specs.Prelude.{None, IfOk, OnErr}
use Rattle.genie_object.specs.Costs.{AreBelow}
use Rattle.genie_object.specs.Sound.{IsSized}
use Rattle.genie_model.specs.Refusing.{refuse}
use Rattle.genie_kernel.specs.declared.kernel.Kernel.{Kernel}
use Rattle.genie_kernel.specs.Good.{IsGood}
use Rattle.genie_kernel.specs.View.{outline}
use Rattle.genie_inputs.specs.Calls.{input_event}
use Rattle.genie_inputs.specs.HiddenReuse.{HoldsBuffer, ReusesFrames}
use Rattle.genie_inputs.specs.Ready.{IsReady}
use Rattle.genie_inputs.proofs.HiddenAgain.{hidden_holds, hidden_reused, if_ok, none_reused, took_nothing}
use Rattle.genie_kernel.specs.Rising.{MetersRise}
use Rattle.genie_copying.specs.Spending.{CopiesAtMost}
use Rattle.genie_inputs.proofs.hidden.lend_held.Goals as goal

pub returns-in-Some-clause-holds : goal.returns-in-Some-clause-holds
returns-in-Some-clause-holds g c = hidden_holds c.hidden_regions_go.ensures c.memory_moves.ensures.calls c.args.kernel.now c.take_hidden.new.kernel c.args.id.0 c.args.call c.args.place c.in-Some.loans (g.S.Store.view c.args.store.now) c.requires.good c.requires.sized c.in-Some.ensures.takes

pub returns-in-Some-clause-reuses : goal.returns-in-Some-clause-reuses
returns-in-Some-clause-reuses g c = hidden_reused c.args.kernel.now c.take_hidden.new.kernel c.args.id.0 c.args.call c.args.place c.in-Some.loans c.in-Some.ensures.takes

pub returns-in-Some-clause-cause : goal.returns-in-Some-clause-cause
returns-in-Some-clause-cause g c = took_nothing (g.S.Store.view c.args.store.now).faults c.in-Some.loans

pub lend_anew-requires-clause-good : goal.lend_anew-requires-clause-good
lend_anew-requires-clause-good g c = subst IsGood (sym (c.take_hidden.ensures.unchanged c.in-None.is)) c.requires.good

pub lend_anew-requires-clause-sized : goal.lend_anew-requires-clause-sized
lend_anew-requires-clause-sized g c = subst (λ (z : Kernel). IsSized z.memory (g.S.Store.view c.args.store.now)) (sym (c.take_hidden.ensures.unchanged c.in-None.is)) c.requires.sized

pub lend_anew-requires-clause-meters : goal.lend_anew-requires-clause-meters
lend_anew-requires-clause-meters g c = subst (λ (z : Kernel). AreBelow (2 ^ 63) z.memory.frames.meters) (sym (c.take_hidden.ensures.unchanged c.in-None.is)) c.requires.meters

pub lend_anew-requires-clause-accepted : goal.lend_anew-requires-clause-accepted
lend_anew-requires-clause-accepted g c = subst (λ (z : Kernel). refuse (outline z) (input_event c.args.call None) ≡ None) (sym (c.take_hidden.ensures.unchanged c.in-None.is)) c.requires.accepted

pub returns-in-None-clause-holds : goal.returns-in-None-clause-holds
returns-in-None-clause-holds g c = subst (λ (z : Kernel). IfOk c.lend_anew.result (HoldsBuffer z c.lend_anew.new.kernel (g.S.Store.view c.args.store.now) (g.S.Store.view c.lend_anew.new.store) c.args.id.0 c.args.call)) (c.take_hidden.ensures.unchanged c.in-None.is) c.lend_anew.ensures.holds

pub returns-in-None-clause-reuses : goal.returns-in-None-clause-reuses
returns-in-None-clause-reuses g c = if_ok c.lend_anew.result (ReusesFrames c.args.kernel.now c.args.call c.args.place) (λ loans. none_reused c.args.kernel.now c.args.call c.args.place loans (c.take_hidden.ensures.none c.in-None.is))

pub returns-in-None-clause-ready : goal.returns-in-None-clause-ready
returns-in-None-clause-ready g c = subst (λ (z : Kernel). OnErr c.lend_anew.result (IsReady z c.lend_anew.new.kernel (g.S.Store.view c.args.store.now) (g.S.Store.view c.lend_anew.new.store))) (c.take_hidden.ensures.unchanged c.in-None.is) c.lend_anew.ensures.ready

pub returns-in-None-clause-rises : goal.returns-in-None-clause-rises
returns-in-None-clause-rises g c = subst (λ (z : Kernel). MetersRise (2 ^ 20) z.memory.frames c.lend_anew.new.kernel.memory.frames) (c.take_hidden.ensures.unchanged c.in-None.is) c.lend_anew.ensures.rises

pub returns-in-None-clause-copying : goal.returns-in-None-clause-copying
returns-in-None-clause-copying g c = subst (λ (z : Kernel). CopiesAtMost 0 z.memory c.lend_anew.new.kernel.memory) (c.take_hidden.ensures.unchanged c.in-None.is) c.lend_anew.ensures.copying

pub returns-in-None-clause-gets : goal.returns-in-None-clause-gets
returns-in-None-clause-gets g c = c.lend_anew.ensures.gets ∙ ap (λ (z : Kernel). z.memory.frames.meters.gets) (c.take_hidden.ensures.unchanged c.in-None.is)
