use Rattle.std.proofs.Common.{arith, rules, ◌∙◌, refl}
use Rattle.genie_device.proofs.Receiving.{landed_none, landed_more, landed_failed, landed_stopped, landed_all, risen, risen_most, runs_on, run_some, buffer_some, run_size, refilled_size}
use Rattle.genie_device.proofs.receive.receive.Goals as goal

pub runs-init : goal.runs-init
runs-init g c = record {
  so = landed_none _ _ _ _ _;
  ready = c.requires.ready;
  later = omega arith;
  most = omega arith;
  kept = g.met.L.Landing.reflexive _;
  buffer = refl;
}

pub read-requires : goal.read-requires
read-requires g c = c.runs.invariant.so.only.mode ∙ c.requires.reading

pub returns-in-Err-clause-step : goal.returns-in-Err-clause-step
returns-in-Err-clause-step g c =
    let so = rw c.min-budget.ensures at c.runs.invariant.so in
    let less = rw c.min-budget.ensures at c.runs-test.true in
    landed_failed _ _ _ _ _ _ _ _ _ _ _ _ so c.in-Err.ensures.step less

pub returns-in-Ok-eq0-clause-step : goal.returns-in-Ok-eq0-clause-step
returns-in-Ok-eq0-clause-step g c =
    let so = rw c.min-budget.ensures at c.runs.invariant.so in
    let less = rw c.min-budget.ensures at c.runs-test.true in
    let step = rw c.in-Ok-eq0.field-0-test at c.in-Ok-eq0.ensures.step in
    rw c.stopped.ensures (landed_stopped _ _ _ _ _ _ _ _ _ _ _ so step less (run_some _ _ _ _ _ c.min-want.ensures (buffer_some _ _ _ c.requires.some c.runs.invariant.buffer (search rules)) (run_size _ _ _ _ _ c.min-want.ensures (search rules) c.read.auto.into) c.runs-test.true))

pub runs-preserved : goal.runs-preserved
runs-preserved g c =
    let bound = c.in-Ok.ensures.bound in
    let content = c.land.ensures.content in
    let most = c.land.ensures.most in
    record {
      so = landed_more _ _ _ _ _ _ _ _ _ _ _ _ c.runs.invariant.so c.in-Ok.ensures.step bound.0 (runs_on _ _ _ _ _ _ c.min-want.ensures (run_size _ _ _ _ _ c.min-want.ensures (search rules) c.read.auto.into) bound.0 c.runs-test.true) content;
      ready = c.land.ensures.ready;
      later = risen _ _ _ c.runs.invariant.later c.land.ensures.later;
      most = risen_most _ _ _ _ _ _ c.runs.invariant.most most bound.1;
      kept = g.met.L.Landing.transitive _ _ _ c.runs.invariant.kept c.land.ensures.kept;
      buffer = refilled_size _ _ _ (search rules) ∙ c.runs.invariant.buffer;
    }

pub returns-clause-step : goal.returns-clause-step
returns-clause-step g c =
    let so = rw c.min-budget.ensures at c.runs.invariant.so in
    let all = rw c.min-budget.ensures at c.runs-test.false in
    rw c.used_up.ensures (landed_all _ _ _ _ _ _ _ _ _ so all)
